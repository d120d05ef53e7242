use Rattle.std.proofs.Common.{◌≡◌, None, arith, sym, ap, ◌∙◌, if◌then◌else◌, ◌&&◌, false}
use Rattle.std.specs.Prelude.{option_copied}
use Rattle.std.proofs.Math.Bool.{and-false}
use Rattle.net_parts.specs.OspfRoutes.{offer_over}
use Rattle.term_store.specs.declared.NodeId.{NodeId}
use Rattle.term_store.specs.Reading.{Reads}
use Rattle.term_store.specs.Terms.{Reading, at}
use Rattle.ospf_equations.proofs.HoldingSteps.{gives_more}
use Rattle.sym_policy.specs.Held.{ospf_of}
use Rattle.route_record.specs.declared.Tables.{Tables}
use Rattle.route_record.specs.declared.tracked.Tracked.{Tracked}
use Rattle.ospf_equations.specs.Equations.{StandFor}
use Rattle.ospf_equations.specs.Levels.{has_within, of_length}
use Rattle.ospf_equations.proofs.Standing.{no_offer, offer_placed}
use Rattle.ospf_equations.proofs.LevelSteps.{offer_within, up_within}
use Rattle.ospf_equations.proofs.levels.sym_far_within.Goals as goal

pub returns-in-None-clause-value : goal.returns-in-None-clause-value
returns-in-None-clause-value c =
    gives_more c.constant_node-in-None.new.terms c.constant_node-in-None.result _ _ by
    c.constant_node-in-None.ensures.value
  where
    by : (w : Reading) (r : NodeId) → Reads w c.constant_node-in-None.new.terms → at w r ≡ false → (tracked : Tracked)
        (real : Tables) → StandFor w tracked c.args.tables.now real → at w r ≡ has_within c.args.most
        (if at w c.args.up then offer_over real (of_length c.args.len) c.args.a.now else None)
    by w r reads is tracked real stand =
        let tables = c.args.tables.now in
        let none = no_offer w tracked tables.lens.now tables.routers tables.slots.now real stand (of_length c.args.len)
        c.args.a.now (omega arith) (sym c.slot_for.ensures.place ∙ ap option_copied c.in-None.is) in
        is ∙ sym (and-false (at w c.args.up)) ∙ up_within c.args.most (at w c.args.up) false
        (offer_over real (of_length c.args.len) c.args.a.now) (sym (ap (has_within c.args.most) none))

pub returns-in_ok-there-in-Some-clause-value : goal.returns-in_ok-there-in-Some-clause-value
returns-in_ok-there-in-Some-clause-value c = gives_more c.both.new.terms c.both.result _ _ by c.both.ensures.value where
  by : (w : Reading) (r : NodeId) → Reads w c.both.new.terms → at w r ≡ (at w c.args.up && at w c.in_ok-there-in-Some.there) →
      (tracked : Tracked) (real : Tables) → StandFor w tracked c.args.tables.now real →
      at w r ≡ has_within c.args.most
      (if at w c.args.up then offer_over real (of_length c.args.len) c.args.a.now else None)
  by w r reads is tracked real stand =
      let tables = c.args.tables.now in
      let far = c.in-Some.far.now in
      let offer = offer_placed w tracked tables.lens.now tables.routers tables.slots.now real stand
      (of_length c.args.len) c.args.a.now far (omega arith) (sym c.slot_for.ensures.place
      ∙ ap option_copied c.in-Some.is) in
      is ∙ up_within c.args.most (at w c.args.up) (at w c.in_ok-there-in-Some.there)
      (offer_over real (of_length c.args.len) c.args.a.now)
      (c.in_ok-there-in-Some.ensures.value w (c.both.ensures.builds.reads w reads)
      ∙ offer_within c.args.most c.args.a.now.cost (ospf_of w far.ospf) (omega arith) (omega arith)
      ∙ sym (ap (has_within c.args.most) offer))
