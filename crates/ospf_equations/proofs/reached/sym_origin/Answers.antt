use Rattle.std.proofs.Common.{◌≡◌, ◌&&◌, Some, false, arith, refl, sym, ap, ap₂, ◌∙◌}
use Rattle.std.specs.Prelude.{option_copied}
use Rattle.std.specs.Option.{option_map_or}
use Rattle.route_record.specs.declared.Slot.{Slot}
use Rattle.route_record.specs.declared.Tables.{Tables}
use Rattle.sym_policy.specs.Held.{failures_of}
use Rattle.sym_policy.specs.Records.{prefix_of}
use Rattle.sym_rib.specs.declared.slots.SymSlot.{SymSlot}
use Rattle.sym_policy.specs.MapRecs.{HasTracked}
use Rattle.sym_rib.specs.Worlds.{slot_placed}
use Rattle.sym_rib.proofs.SlotPlaces.{placed_all}
use Rattle.term_store.specs.declared.NodeId.{NodeId}
use Rattle.term_store.specs.Reading.{Reads}
use Rattle.term_store.specs.Terms.{Reading, at}
use Rattle.ospf_equations.specs.Equations.{StandFor}
use Rattle.ospf_equations.specs.Reached.{has_internal, is_origin, originates_internal}
use Rattle.ospf_equations.proofs.HoldingSteps.{gives_more}
use Rattle.ospf_equations.proofs.ReachedSteps.{nothing_there, something_there}
use Rattle.ospf_equations.proofs.reached.sym_origin.Goals as goal

pub sym_originates-requires-clause-rows : goal.sym_originates-requires-clause-rows
sym_originates-requires-clause-rows c =
    let tables = c.args.tables.now in
    placed_all (λ (s : SymSlot). HasTracked c.args.place.now.net.now.tracked s.bgp) tables.lens.now tables.routers
    tables.slots.now c.args.place.now.router c.args.place.now.len c.in-Some.slot.now
    (sym c.slot_for.ensures.place ∙ ap option_copied c.in-Some.is) c.requires.rows

pub returns-in-None-clause-value : goal.returns-in-None-clause-value
returns-in-None-clause-value c =
    gives_more c.constant_node.new.terms c.constant_node.result _ _
    (λ w r reads is real stand.
    let place = c.args.place.now in
    let tables = c.args.tables.now in
    is ∙ sym (nothing_there w place.net.now.tracked tables.lens.now tables.routers tables.slots.now real stand
    (λ slot. has_internal slot.ospf && originates_internal place.net.now.files (failures_of w place.sym.now)
    (prefix_of w place.dst.now place.len) place.router slot) place.router place.len refl (omega arith)
    (sym c.slot_for.ensures.place ∙ ap option_copied c.in-None.is)))
    c.constant_node.ensures.value

pub returns-in_ok-held-in-Some-clause-value : goal.returns-in_ok-held-in-Some-clause-value
returns-in_ok-held-in-Some-clause-value c = gives_more c.both.new.terms c.both.result _ _ by c.both.ensures.value where
  by : (w : Reading) (r : NodeId) → Reads w c.both.new.terms →
      at w r ≡ (at w c.in_ok-held-in-Some.held && at w c.in_ok-own-in-Some.own) → (real : Tables) →
      StandFor w c.args.place.now.net.now.tracked c.args.tables.now real →
      at w r ≡ is_origin c.args.place.now.net.now.files (failures_of w c.args.place.now.sym.now) real
      (prefix_of w c.args.place.now.dst.now c.args.place.now.len) c.args.place.now.router
  by w r reads is real stand =
      let place = c.args.place.now in
      let tables = c.args.tables.now in
      let p = prefix_of w place.dst.now place.len in
      let r1 = c.both.ensures.builds.reads w reads in
      let r0 = c.sym_internal.ensures.builds.reads w r1 in
      let there : slot_placed tables place.router place.len ≡ Some c.in-Some.slot.now =
      sym c.slot_for.ensures.place ∙ ap option_copied c.in-Some.is in
      let found = something_there w place.net.now.tracked tables.lens.now tables.routers tables.slots.now real stand
      place.router place.len c.in-Some.slot.now (omega arith) there in
      is
      ∙ ap₂ (λ a b. a && b) (c.in_ok-held-in-Some.ensures.value w r1 ∙ ap has_internal found.2.ospf)
      (c.in_ok-own-in-Some.ensures.value w r0 found.0 found.2)
      ∙ sym (ap (λ o. option_map_or (λ (slot : Slot). has_internal slot.ospf
      && originates_internal place.net.now.files (failures_of w place.sym.now) p place.router slot) o false) found.1)
