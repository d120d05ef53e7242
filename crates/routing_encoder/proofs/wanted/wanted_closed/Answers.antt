use Rattle.std.proofs.Common.{◌≡◌, Some, None, false, sym, ap, subst, ◌∙◌}
use Rattle.std.specs.Prelude.{option_copied, slice_get}
use Rattle.std.specs.Option.{option_map_or}
use Rattle.std.proofs.lemmas.Option.{same_Some}
use Rattle.sym_policy.specs.Held.{failures_of}
use Rattle.sym_policy.specs.Records.{address_of}
use Rattle.sym_rib.specs.declared.slots.SymSlot.{SymSlot}
use Rattle.sym_rib.specs.Slots.{StandsForSlot}
use Rattle.sym_rib.specs.Worlds.{slot_placed}
use Rattle.world_variables.specs.declared.unknowns.Unknown.{Unknown}
use Rattle.world_variables.specs.Slots.{is_wanted}
use Rattle.routing_encoder.proofs.wanted.wanted_closed.Goals as goal

pub returns-in_ok-never-in-None-clause-value : goal.returns-in_ok-never-in-None-clause-value
returns-in_ok-never-in-None-clause-value c = λ w reads u bgp real slot stand open_there.
    absurd (some_none open_there.sym (sym open_there.there ∙ sym c.slot_for.ensures.place ∙ ap option_copied c.in-None.is))
  where
    some_none : (s : SymSlot) → Some s ≡ None → ⊥
    some_none s same = cc

pub returns-in_ok-holds-in-Some-clause-value : goal.returns-in_ok-holds-in-Some-clause-value
returns-in_ok-holds-in-Some-clause-value c = λ w reads u bgp real slot stand open_there.
    let towards = c.args.towards.now in
    let files = towards.net.now.files in
    let failures = failures_of w towards.sym.now in
    let d = address_of w towards.dst.now in
    let p = c.args.p in
    let there : slot_placed c.args.tables.now p.router p.len ≡ Some c.in-Some.slot.now =
    sym c.slot_for.ensures.place ∙ ap option_copied c.in-Some.is in
    let stands = subst (λ (s : SymSlot). StandsForSlot w towards.net.now.tracked s slot)
    (same_Some open_there.sym c.in-Some.slot.now (sym open_there.there ∙ there)) open_there.stands in
    let part = c.in_ok-part-in-Some.ensures.value w (c.sym_slot_holds.ensures.builds.reads w reads) slot u bgp stands
    open_there.ospf open_there.bgp in
    c.in_ok-holds-in-Some.ensures.value w reads real slot stand (record {
      sym = open_there.sym;
      there = open_there.there;
      is = open_there.is;
      ospf = ap (λ (x : Unknown). x.ospf) part ∙ sym open_there.ospf;
    })
    ∙ ap (λ (x : Unknown). option_map_or (is_wanted files failures d real p.router p.len x slot) (slice_get files p.router)
    false) part
