use Rattle.std.proofs.Common.{ℕ, Bool, Option, Some, None, ◌∙◌, ◌&&◌, ap, ap₂, if◌then◌else◌}
use Rattle.std.specs.Prelude.{◌==◌}
use Rattle.std.specs.Option.{option_and_then}
use Rattle.ios_ast.specs.declared.ospf.Source.TheVariants as source
use Rattle.net_parts.specs.Origins.{ospf_metric, taken_metric, takes_kind}
use Rattle.route_record.specs.declared.RibEntry.{RibEntry}
use Rattle.sym_policy.specs.Records.{prefix_of}
use Rattle.term_store.specs.Terms.{at}
use Rattle.term_arith.specs.Bits.{number}
use Rattle.sym_rib.specs.Slots.{rib_at}
use Rattle.sym_rib.proofs.EntryMetrics.{ospf_numbered, there_or}
use Rattle.sym_rib.proofs.metrics.taken_from_ospf.Goals as goal

pub returns-clause-value : goal.returns-clause-value
returns-clause-value c = λ w reads held process ospf rib.
    let made = c.in_ok-made.ensures in
    let zero = c.in_ok-zero.ensures in
    let subnet = c.in_ok-subnet.ensures in
    let connected = c.in_ok-connected.ensures in
    let before_made = made.builds.reads w reads in
    let before_ospf = c.in_ok-ospf.ensures.builds.reads w before_made in
    let before_zero = zero.builds.reads w before_ospf in
    let before_subnet = subnet.builds.reads w before_zero in
    let line = c.args.line.now in
    let files = c.args.net.now.files in
    let router = c.args.router in
    let p = prefix_of w c.args.dst.now c.args.len in
    let entry = c.args.slot.now.rib in
    let n = number w entry.source.nodes.items in
    let there = at w entry.valid in
    let of_entry : RibEntry → Option ℕ =
    λ e. taken_metric files router p held (record line { source = source.Ospf process }) e.source in
    let by : Option ℕ → Bool → Option ℕ =
    λ o z. if there then (if n == 3 then o else (if z then Some 0 else None)) else None in
    made.value w reads
    ∙ ap₂ by
    (c.in_ok-ospf.ensures.value w before_made
    ∙ ap (option_and_then (λ x. if takes_kind line x.kind then Some (ospf_metric x) else None)) ospf)
    (zero.value w before_ospf
    ∙ ap₂ (λ a b. a && b) (connected.value w before_subnet) (subnet.value w before_zero))
    ∙ ap (λ m. if there then m else None) (ospf_numbered files router p held line process n)
    ∙ there_or there (rib_at w entry) of_entry
    ∙ ap (option_and_then of_entry) rib
