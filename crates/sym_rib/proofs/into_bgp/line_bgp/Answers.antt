use Rattle.std.proofs.Common.{ℕ, Option, ◌∙◌, ap}
use Rattle.std.specs.Prelude.{◌==◌, unwrap_or}
use Rattle.std.proofs.lemmas.Bool.{eqb-true, false_from_ne_true}
use Rattle.std.proofs.lemmas.Result.{IfOk-weaker}
use Rattle.std.specs.Option.{option_and_then, option_map}
use Rattle.route_record.specs.declared.BgpRec.{BgpRec}
use Rattle.route_record.specs.declared.Origin.TheVariants.{Incomplete}
use Rattle.route_record.specs.declared.RibEntry.{RibEntry}
use Rattle.net_parts.specs.Origins.{is_default, local_route, local_through, taken_metric}
use Rattle.route_shapes.specs.Bgp.{BgpShape, bgp_shape}
use Rattle.sym_policy.specs.Records.{prefix_of}
use Rattle.sym_rib.proofs.LocalRoutes.{line_by}
use Rattle.sym_rib.proofs.into_bgp.line_bgp.Goals as goal

pub returns-clause-value : goal.returns-clause-value
returns-clause-value c = IfOk-weaker c.local_bgp.result _ _ (λ rec read. λ w reads held all stands.
    let metric = c.in_ok-metric.ensures in
    let before_made = c.local_bgp.ensures.builds.reads w reads in
    let before_metric = metric.builds.reads w before_made in
    let lookup = c.args.lookup.now in
    let p = prefix_of w lookup.dst.now lookup.len in
    let line = c.args.line.now in
    let shape = bgp_shape c.args.tracked.now in
    let route : ℕ → Option BgpRec =
    λ med. local_through lookup.file.now line.map p (local_route Incomplete med) in
    let named : ℕ → ℕ = unwrap_or line.metric in
    let of_entry : RibEntry → Option ℕ =
    λ e. taken_metric lookup.net.now.files lookup.router p held line e.source in
    let shaped : Option ℕ → Option BgpShape = λ m. option_map shape (option_and_then route m) in
    read w reads all
    ∙ ap shaped (metric.value w before_made
    ∙ ap (option_map named) (c.in_ok-taken.ensures.value w before_metric held stands.ospf stands.rib))
    ∙ ap (option_map shape) (line_by (is_default p) route named of_entry held.rib
    (false_from_ne_true (lookup.len == 0) (λ yes. c.if-lookup-eq0.false (eqb-true lookup.len 0 yes)))))
    c.local_bgp.ensures.value
