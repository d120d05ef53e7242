use Rattle.std.proofs.Common.{ℕ, Bool, Option, None, ◌∙◌, ap, if◌then◌else◌}
use Rattle.std.proofs.lemmas.Result.{IfOk-weaker}
use Rattle.std.specs.Option.{option_and_then, option_map}
use Rattle.route_record.specs.declared.BgpRec.{BgpRec}
use Rattle.route_record.specs.declared.Origin.TheVariants.{Igp}
use Rattle.route_record.specs.declared.RibEntry.{RibEntry}
use Rattle.mw_text.specs.Address.{same_prefix}
use Rattle.net_parts.specs.Origins.{entry_metric, local_route, local_through}
use Rattle.route_shapes.specs.Bgp.{BgpShape, bgp_shape}
use Rattle.sym_policy.specs.Records.{prefix_of}
use Rattle.term_store.specs.Terms.{at}
use Rattle.sym_rib.proofs.LocalRoutes.{network_by}
use Rattle.sym_rib.proofs.into_bgp.network_bgp.Goals as goal

pub returns-clause-value : goal.returns-clause-value
returns-clause-value c = IfOk-weaker c.local_bgp.result _ _ (λ rec read. λ w reads held all stands.
    let here = c.in_ok-here.ensures in
    let metric = c.in_ok-metric.ensures in
    let before_made = c.local_bgp.ensures.builds.reads w reads in
    let before_here = here.builds.reads w before_made in
    let before_metric = metric.builds.reads w before_here in
    let lookup = c.args.lookup.now in
    let p = prefix_of w lookup.dst.now lookup.len in
    let line = c.args.line.now in
    let route : ℕ → Option BgpRec =
    λ med. local_through lookup.file.now line.map p (local_route Igp med) in
    let shaped : Option ℕ → Option BgpShape =
    λ m. option_map (bgp_shape c.args.tracked.now) (option_and_then route m) in
    let where_same : Bool → Option ℕ → Option ℕ = λ same m. if same then m else None in
    let of_entry : RibEntry → Option ℕ = λ e. entry_metric held e.source in
    read w reads all
    ∙ ap shaped (here.value w before_made
    ∙ ap (λ m. where_same (at w c.in_ok-same.same) m) (metric.value w before_here held stands.ospf stands.rib)
    ∙ ap (λ same. where_same same (option_and_then of_entry held.rib)) (c.in_ok-same.ensures.value w before_metric))
    ∙ ap (option_map (bgp_shape c.args.tracked.now)) (network_by (same_prefix line.prefix p) route of_entry held.rib))
    c.local_bgp.ensures.value
