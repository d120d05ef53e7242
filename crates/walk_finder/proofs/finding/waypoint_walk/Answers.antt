use Rattle.std.proofs.Common.{◌∙◌}
use Rattle.mw_text.proofs.Numbers.{not_both}
use Rattle.question_lang.specs.declared.question.Kind.{Kind}
use Rattle.question_lang.specs.declared.question.Kind.TheVariants.{Waypoint}
use Rattle.sym_forwarding.specs.Layers.{arrives}
use Rattle.walk_finder.specs.Rows.{table_of}
use Rattle.walk_finder.proofs.Founds.{found_breaks}
use Rattle.walk_finder.proofs.Others.{waypoint_begins, waypoint_breaks}
use Rattle.walk_finder.proofs.finding.waypoint_walk.Goals as goal

pub returns : goal.returns
returns c =
    let files = c.args.net.now.files in
    let world = c.args.world.now in
    let start = c.args.start in
    let rows = c.in_ok-rows.rows in
    let others = c.as_slice.result.now in
    let kind : Kind = Waypoint start c.args.target c.args.via in
    let is_set = c.as_slice.ensures ∙ c.without-others.ensures in
    let (may, marked) =
    waypoint_begins files world start c.args.target c.args.via rows others c.in_ok-rows.ensures is_set c.requires in
    found_breaks files world kind c.in_ok-found.found c.in_ok-found.ensures.some
    (λ walk ends. waypoint_breaks files world start c.args.target c.args.via rows others walk c.in_ok-rows.ensures
    is_set may ends)
    (λ none. not_both (arrives (table_of others) start.router) marked (c.in_ok-found.ensures.none none))
