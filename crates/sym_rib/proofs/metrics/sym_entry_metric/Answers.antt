use Rattle.std.proofs.Common.{ℕ, Bool, Option, Some, None, ◌∙◌, ap, ap₂, if◌then◌else◌}
use Rattle.std.specs.Prelude.{◌==◌}
use Rattle.std.specs.Option.{option_and_then, option_map}
use Rattle.net_parts.specs.Origins.{entry_metric, ospf_metric}
use Rattle.route_record.specs.declared.RibEntry.{RibEntry}
use Rattle.term_store.specs.Terms.{at}
use Rattle.term_arith.specs.Bits.{number}
use Rattle.sym_rib.specs.Slots.{rib_at}
use Rattle.sym_rib.proofs.EntryMetrics.{entry_numbered, there_or}
use Rattle.sym_rib.proofs.metrics.sym_entry_metric.Goals as goal

pub returns-clause-value : goal.returns-clause-value
returns-clause-value c = λ w reads held ospf rib.
    let made = c.in_ok-made.ensures in
    let before_made = made.builds.reads w reads in
    let before_ospf = c.in_ok-ospf.ensures.builds.reads w before_made in
    let entry = c.args.slot.now.rib in
    let n = number w entry.source.nodes.items in
    let there = at w entry.valid in
    let of_entry : RibEntry → Option ℕ = λ e. entry_metric held e.source in
    let by : Option ℕ → Bool → Option ℕ =
    λ o z. if there then (if n == 3 then o else (if z then Some 0 else None)) else None in
    made.value w reads
    ∙ ap₂ by
    (c.in_ok-ospf.ensures.value w before_made ∙ ap (option_map ospf_metric) ospf)
    (c.in_ok-zero.ensures.value w before_ospf)
    ∙ ap (λ m. if there then m else None) (entry_numbered held n)
    ∙ there_or there (rib_at w entry) of_entry
    ∙ ap (option_and_then of_entry) rib
