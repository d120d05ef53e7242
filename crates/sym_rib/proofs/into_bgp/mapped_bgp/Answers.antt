use Rattle.std.proofs.Common.{Option, ◌∙◌, ap, false}
use Rattle.std.specs.Option.{option_and_then, option_map}
use Rattle.ios_ast.specs.Setting.{Attributes}
use Rattle.ios_ast.specs.Maps.{through_map}
use Rattle.net_parts.specs.Mapping.{attributes_of}
use Rattle.net_parts.specs.Origins.{local_route}
use Rattle.route_shapes.specs.Bgp.{bgp_shape}
use Rattle.sym_policy.specs.Records.{prefix_of}
use Rattle.sym_rib.specs.IntoBgp.{metric_of}
use Rattle.sym_policy.proofs.SameNodes.{bgp_within}
use Rattle.sym_rib.proofs.KnownRoutes.{tracked_kept}
use Rattle.sym_rib.proofs.LocalRoutes.{local_code, local_left, own_kept, record_stands}
use Rattle.sym_rib.proofs.into_bgp.mapped_bgp.Goals as goal

pub returns-clause-within : goal.returns-clause-within
returns-clause-within c = bgp_within c.in_ok-left.left _ c.in_ok-left.ensures.within

pub returns-clause-rows : goal.returns-clause-rows
returns-clause-rows c =
    let left = c.in_ok-left.ensures in
    tracked_kept c.args.tracked.now c.in_ok-before.before c.in_ok-left.left c.in_ok-before.ensures.rows left.marks
    left.rest

pub returns-clause-value : goal.returns-clause-value
returns-clause-value c = λ w reads all.
    let left = c.in_ok-left.ensures in
    let before = c.in_ok-before.ensures in
    let before_left = left.builds.reads w reads in
    let tracked = c.args.tracked.now in
    let policies = c.args.lookup.now.file.now.policies in
    let used = c.args.used.now in
    let origin = c.args.origin in
    let p = prefix_of w c.args.lookup.now.dst.now c.args.lookup.now.len in
    let metric = metric_of w c.args.metric in
    let seen : Option Attributes = option_map (λ med. attributes_of (local_route origin med)) metric in
    record_stands w tracked c.in_ok-left.left (option_and_then (through_map policies used p false) seen)
    (own_kept w tracked c.in_ok-before.before c.in_ok-left.left left.rest (before.own w before_left))
    (local_code policies used p origin metric)
    (left.stands w reads seen all (before.value w before_left))
    ∙ ap (option_map (bgp_shape tracked)) (local_left origin (through_map policies used p false) metric)
