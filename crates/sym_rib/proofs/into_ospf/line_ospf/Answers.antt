use Rattle.std.proofs.Common.{Bool, Option, Some, None, ◌&&◌, ◌∙◌, ap, if◌then◌else◌}
use Rattle.route_record.specs.declared.OspfRec.{OspfRec}
use Rattle.net_parts.specs.Origins.{external_record}
use Rattle.sym_policy.specs.Held.{bgp_of}
use Rattle.sym_policy.specs.Records.{prefix_of}
use Rattle.term_store.specs.Terms.{at}
use Rattle.term_arith.specs.Bits.{number}
use Rattle.sym_rib.specs.Redistributed.{shape_left}
use Rattle.sym_rib.specs.Slots.{rib_at}
use Rattle.sym_rib.proofs.Redistribution.{line_stands}
use Rattle.sym_rib.proofs.into_ospf.line_ospf.Goals as goal

pub returns-clause-value : goal.returns-clause-value
returns-clause-value c = λ w reads.
    let made = c.in_ok-made.ensures in
    let valid = c.in_ok-valid.ensures in
    let left = c.in_ok-left.ensures in
    let before_made = made.builds.reads w reads in
    let before_valid = valid.builds.reads w before_made in
    let before_left = left.builds.reads w before_valid in
    let part = c.in_ok-left.left in
    let slot = c.args.slot.now in
    let line = c.args.line.now in
    let p = prefix_of w c.args.dst.now c.args.len in
    let brought = external_record (at w part.type1) (number w part.metric.nodes.items) in
    let there : Bool → Option OspfRec = λ b. if b then Some brought else None in
    made.value w reads
    ∙ ap there (valid.value w before_made
    ∙ ap (λ b. b && at w part.valid) (c.in_ok-taken.ensures.value w before_left))
    ∙ line_stands line p (at w slot.rib.valid) (at w part.valid) (rib_at w slot.rib) brought
    (shape_left c.args.tracked.now c.args.file.now p line (bgp_of w slot.bgp)) (left.value w before_valid)
