-- Real tables that symbolic slots stand for, as OSPF reads them.
use Rattle.std.proofs.Common.{◌≡◌, ℕ, ◌+◌, ◌*◌, ◌<◌, ◌≤◌, ◌⊎◌, inl, inr, List, Option, Some, None}
use Rattle.std.proofs.Common.{get_or, refl, sym, ap, arith, ◌∙◌}
use Rattle.std.specs.Prelude.{option_and_then}
use Rattle.std.proofs.lemmas.Bool.{cases_lt}
use Rattle.std.proofs.lemmas.Option.{slice_get-get_or}
use Rattle.mw_text.specs.declared.address.Prefix.{Prefix}
use Rattle.route_record.specs.declared.Slot.{Slot}
use Rattle.route_record.specs.declared.Tables.{Tables}
use Rattle.route_record.specs.declared.TheConstants.{LENGTHS}
use Rattle.route_record.specs.declared.tracked.Tracked.{Tracked}
use Rattle.route_record.specs.Places.{slot_at}
use Rattle.net_parts.specs.declared.adjacencies.Adjacency.{Adjacency}
use Rattle.net_parts.specs.OspfRoutes.{extended, offer_over}
use Rattle.plan_places.specs.Tables.{empty_slot}
use Rattle.plan_places.proofs.PlaceSteps.{none_above}
use Rattle.plan_places.proofs.Tabulated.{none_past}
use Rattle.term_store.specs.Terms.{Reading}
use Rattle.sym_policy.specs.Held.{ospf_of}
use Rattle.sym_rib.specs.declared.slots.SymSlot.{SymSlot}
use Rattle.sym_rib.specs.Slots.{StandsForSlot}
use Rattle.sym_rib.specs.Worlds.{StandForTables, sym_slot_at}

module _ (w : Reading) (tracked : Tracked) (lens : List ℕ) (routers : ℕ) (slots : List SymSlot) (real : Tables)
    (stand : StandForTables w tracked lens routers slots real) where
  -- a symbolic slot stands for the slot at its place
  pub stands_there : (router len : ℕ) (s : SymSlot) (slot : Slot) → len < LENGTHS →
      sym_slot_at lens routers slots router len ≡ Some s → slot_at real router len ≡ Some slot →
      StandsForSlot w tracked s slot
  stands_there router len s slot short here there = by (cases_lt router routers) where
    by : (router < routers) ⊎ (routers ≤ router) → StandsForSlot w tracked s slot
    by (inl below) = stand.each router len s slot below short here there
    by (inr past) =
        let none : None ≡ Some s = sym (none_above lens slots routers router len past) ∙ here in
        absurd cc

  -- it has the OSPF route of that
  far_ospf : (router len : ℕ) → len < LENGTHS →
      option_and_then (λ (slot : Slot). slot.ospf) (slot_at real router len)
      ≡ option_and_then (λ (s : SymSlot). ospf_of w s.ospf) (sym_slot_at lens routers slots router len)
  far_ospf router len short = by_router (cases_lt router routers) where
    slot : Slot
    slot = get_or real.slots (LENGTHS * router + len) empty_slot

    by : router < routers → slot_at real router len ≡ Some slot → (o : Option SymSlot) →
        sym_slot_at lens routers slots router len ≡ o →
        slot.ospf ≡ option_and_then (λ (s : SymSlot). ospf_of w s.ospf) o
    by below there (Some s) is = sym (stand.each router len s slot below short is there).ospf
    by below there None is = ap (λ (x : Slot). x.ospf) (stand.off router len slot below short is there)

    by_router : (router < routers) ⊎ (routers ≤ router) →
        option_and_then (λ (slot : Slot). slot.ospf) (slot_at real router len)
        ≡ option_and_then (λ (s : SymSlot). ospf_of w s.ospf) (sym_slot_at lens routers slots router len)
    by_router (inl below) =
        let long = stand.long in
        let row : LENGTHS * router + LENGTHS ≤ LENGTHS * routers = omega (arith, below) in
        let there : slot_at real router len ≡ Some slot =
        slice_get-get_or real.slots (LENGTHS * router + len) empty_slot (omega (arith, short, long, row)) in
        ap (option_and_then (λ (x : Slot). x.ospf)) there
        ∙ by below there (sym_slot_at lens routers slots router len) refl
    by_router (inr past) =
        ap (option_and_then (λ (x : Slot). x.ospf)) (none_past real routers router len stand.long past)
        ∙ sym (ap (option_and_then (λ (s : SymSlot). ospf_of w s.ospf)) (none_above lens slots routers router len past))

  -- a far router without a slot offers nothing
  pub no_offer : (p : Prefix) (a : Adjacency) → p.len < LENGTHS →
      sym_slot_at lens routers slots a.to.router p.len ≡ None → offer_over real p a ≡ None
  no_offer p a short none =
      ap (option_and_then (extended a.cost)) (far_ospf a.to.router p.len short
      ∙ ap (option_and_then (λ (s : SymSlot). ospf_of w s.ospf)) none)

  -- and another what its slot holds
  pub offer_placed : (p : Prefix) (a : Adjacency) (s : SymSlot) → p.len < LENGTHS →
      sym_slot_at lens routers slots a.to.router p.len ≡ Some s →
      offer_over real p a ≡ option_and_then (extended a.cost) (ospf_of w s.ospf)
  offer_placed p a s short here =
      ap (option_and_then (extended a.cost)) (far_ospf a.to.router p.len short
      ∙ ap (option_and_then (λ (x : SymSlot). ospf_of w x.ospf)) here)
