use Rattle.std.proofs.Common.{◌≡◌, Some, None, arith, sym, ap, ◌∙◌}
use Rattle.std.specs.Prelude.{option_copied}
use Rattle.sym_rib.specs.declared.slots.SymSlot.{SymSlot}
use Rattle.sym_policy.specs.MapRecs.{HasTracked}
use Rattle.sym_rib.specs.Worlds.{slot_placed}
use Rattle.sym_rib.proofs.SlotPlaces.{placed_all}
use Rattle.ospf_equations.proofs.HoldingSteps.{gives_more}
use Rattle.ospf_equations.proofs.Standing.{stands_there}
use Rattle.ospf_equations.proofs.holding.sym_slot_holds.Goals as goal

pub sym_wanted-requires-clause-rows : goal.sym_wanted-requires-clause-rows
sym_wanted-requires-clause-rows c =
    let tables = c.args.tables.now in
    placed_all (λ (s : SymSlot). HasTracked c.args.place.now.net.now.tracked s.bgp) tables.lens.now tables.routers
    tables.slots.now
    c.args.place.now.router c.args.place.now.len c.in-Some.slot.now (sym c.slot_for.ensures.place ∙ ap option_copied
    c.in-Some.is)
    c.requires.rows

pub returns-in-None-clause-value : goal.returns-in-None-clause-value
returns-in-None-clause-value c =
    gives_more c.constant_node.new.terms c.constant_node.result _ _
    (λ w r reads given real slot stand held. absurd (some_none held.sym (sym held.there
    ∙ sym c.slot_for.ensures.place ∙ ap option_copied c.in-None.is))) c.constant_node.ensures.value
  where
    some_none : (s : SymSlot) → Some s ≡ None → ⊥
    some_none s same = cc

pub returns-in_ok-made-in-Some-clause-value : goal.returns-in_ok-made-in-Some-clause-value
returns-in_ok-made-in-Some-clause-value c = λ w reads real slot stand held.
    let tables = c.args.tables.now in
    let router = c.args.place.now.router in
    let len = c.args.place.now.len in
    let there : slot_placed tables router len ≡ Some c.in-Some.slot.now =
    sym c.slot_for.ensures.place ∙ ap option_copied c.in-Some.is in
    c.in_ok-made-in-Some.ensures.value w reads real slot stand
    (stands_there w c.args.place.now.net.now.tracked tables.lens.now tables.routers tables.slots.now real stand router
    len
    c.in-Some.slot.now slot (omega arith) there held.is) held.is held.ospf
