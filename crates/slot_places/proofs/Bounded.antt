-- How much the OSPF routes of a stable routing cost at most.
use Rattle.std.proofs.Common.{◌≡◌, ℕ, zero, suc, ◌+◌, ◌*◌, ◌<◌, ◌≤◌, Bool, true, false, eqb, List, [], ◌∷◌, length}
use Rattle.std.proofs.Common.{Some, inl, inr, refl, sym, ap, subst, arith, ◌∙◌}
use Rattle.std.specs.Prelude.{◌⊎◌, All}
use Rattle.std.specs.List.{AllByRecursion, IsDistinct}
use Rattle.std.proofs.lemmas.Bool.{cases_lt, eqb-true}
use Rattle.std.proofs.Math.Nat.{suc-mul}
use Rattle.std.proofs.lemmas.Map.Steps.{length-le_from_distinct_below}
use Rattle.std.proofs.lemmas.Map.Keys.{IsDistinct-cons}
use Rattle.std.proofs.lemmas.Option.{same_Some, slice_get_within}
use Rattle.mw_text.specs.declared.address.Addr.{Addr}
use Rattle.mw_text.specs.Address.{prefix_at}
use Rattle.ios_ast.specs.declared.file.File.{File}
use Rattle.route_record.specs.declared.Environment.{Environment}
use Rattle.route_record.specs.declared.Failures.{Failures}
use Rattle.route_record.specs.declared.OspfRec.{OspfRec}
use Rattle.route_record.specs.declared.Slot.{Slot}
use Rattle.route_record.specs.declared.Tables.{Tables}
use Rattle.route_record.specs.declared.TheConstants.{LENGTHS}
use Rattle.route_record.specs.Places.{slot_at}
use Rattle.net_parts.specs.Ospf.{adjacencies}
use Rattle.net_parts.specs.Stable.{Stable}
use Rattle.mw_text.specs.Members.{In}
use Rattle.mw_text.proofs.Lists.{in-from_any}
use Rattle.slot_places.specs.Supported.{AreOrigins}
use Rattle.slot_places.proofs.Supports.{IsOffered, IsOrigin, all_in, supports}

-- the router holds a route of at most that cost
record HoldsWithin (tables : Tables) (len most router : ℕ) : Type 0 where
  slot : Slot
  here : slot_at tables router len ≡ Some slot
  held : OspfRec
  holds : slot.ospf ≡ Some held
  cost : held.cost ≤ most

-- routers that hold routes of at most that cost, none of them twice
record Chain (tables : Tables) (len most count : ℕ) : Type 0 where
  routers : List ℕ
  long : length routers ≡ count
  apart : IsDistinct eqb routers
  each : (q : ℕ) → In q routers → HoldsWithin tables len most q

wider : (tables : Tables) (len most more q : ℕ) → most ≤ more → HoldsWithin tables len most q →
    HoldsWithin tables len more q
wider tables len most more q le held = record {
  slot = held.slot;
  here = held.here;
  held = held.held;
  holds = held.holds;
  cost = omega (arith, le, held.cost);
}

apart_from : (x : ℕ) (ys : List ℕ) → ((q : ℕ) → In q ys → eqb x q ≡ false) → AllByRecursion (λ y. eqb x y ≡ false) ys
apart_from x [] apart = tt
apart_from x (y ∷ ys) apart = (apart y (inl refl), apart_from x ys (λ q there. apart q (inr there)))

module _ (files : List File) (destination : Addr) (failures : Failures) (environment : Environment) (tables : Tables)
    (len most step : ℕ) (stable : Stable files destination failures environment tables) (short : len < LENGTHS)
    (costs : All (λ a. 0 < a.cost) (adjacencies files)) (steps : All (λ a. a.cost ≤ step) (adjacencies files))
    (origins : AreOrigins files failures tables (prefix_at destination len) (λ o. o.cost ≤ most)) where
  -- a router whose route costs more than another's is another router
  differs : (router q : ℕ) (slot : Slot) (h : OspfRec) (less : ℕ) → slot_at tables router len ≡ Some slot →
      slot.ospf ≡ Some h → less < h.cost → HoldsWithin tables len less q → eqb router q ≡ false
  differs router q slot h less here holds below other = by (eqb router q) refl where
    by : (b : Bool) → eqb router q ≡ b → eqb router q ≡ false
    by false same = same
    by true same = absurd (omega (arith, below, other.cost, dearer)) where
      at_same : slot_at tables q len ≡ Some slot
      at_same = subst (λ r. slot_at tables r len ≡ Some slot) (eqb-true router q same) here

      slot_same : slot ≡ other.slot
      slot_same = same_Some slot other.slot (sym at_same ∙ other.here)

      held_same : h ≡ other.held
      held_same = same_Some h other.held (sym holds ∙ ap (λ (s : Slot). s.ospf) slot_same ∙ other.holds)

      dearer : h.cost ≡ other.held.cost
      dearer = ap (λ (r : OspfRec). r.cost) held_same

  -- the router and the routers behind it
  joined : (k router : ℕ) (slot : Slot) (h : OspfRec) (less : ℕ) → slot_at tables router len ≡ Some slot →
      slot.ospf ≡ Some h → less < h.cost → Chain tables len less k → Chain tables len h.cost (suc k)
  joined k router slot h less here holds below deeper = record {
    routers = router ∷ deeper.routers;
    long = ap suc deeper.long;
    apart = IsDistinct-cons eqb router deeper.routers (apart_from router deeper.routers (λ q there.
        differs router q slot h less here holds below (deeper.each q there))) deeper.apart;
    each = each_one;
  } where
    each_one : (q : ℕ) → In q (router ∷ deeper.routers) → HoldsWithin tables len h.cost q
    each_one q (inl same) = subst (HoldsWithin tables len h.cost) (sym same)
        (record { slot = slot; here = here; held = h; holds = holds; cost = omega arith })
    each_one q (inr later) = wider tables len less h.cost q (omega (arith, below)) (deeper.each q later)

  -- a route that costs much has a chain of routers behind it
  abbrev HasChain : ℕ → Type 0
  HasChain k = (router : ℕ) (slot : Slot) (h : OspfRec) → most + k * step < h.cost →
      slot_at tables router len ≡ Some slot → slot.ospf ≡ Some h → Chain tables len h.cost (suc k)

  behind : (k router : ℕ) (slot : Slot) (h : OspfRec) → most + suc k * step < h.cost →
      slot_at tables router len ≡ Some slot → slot.ospf ≡ Some h → HasChain k →
      IsOrigin files failures (prefix_at destination len) router slot h ⊎ IsOffered files failures router tables len h →
      Chain tables len h.cost (suc (suc k))
  behind k router slot h dear here holds deeper (inl own) =
      let cheap : h.cost ≤ most = all_in (λ o. o.cost ≤ most) _ h (origins router own.file own.process slot own.at
      own.runs here) own.there in
      absurd (omega (arith, cheap, dear))
  behind k router slot h dear here holds deeper (inr other) =
      let cost : h.cost ≡ other.held.cost + other.over.cost = ap (λ (r : OspfRec). r.cost) other.is in
      let some : 0 < other.over.cost = all_in (λ a. 0 < a.cost) (adjacencies files) other.over costs other.there in
      let at_most : other.over.cost ≤ step =
      all_in (λ a. a.cost ≤ step) (adjacencies files) other.over steps other.there in
      joined (suc k) router slot h other.held.cost here holds (omega (arith, cost, some))
      (deeper other.over.to.router other.slot other.held (omega (arith, dear, cost, at_most, suc-mul k step)) other.at
      other.holds)

  chain : (k : ℕ) → HasChain k
  unfolding IsDistinct
  chain zero router slot h dear here holds = record {
    routers = router ∷ [];
    long = refl;
    apart = IsDistinct-cons eqb router [] tt tt;
    each = only;
  } where
    only : (q : ℕ) → In q (router ∷ []) → HoldsWithin tables len h.cost q
    only q (inl same) = subst (HoldsWithin tables len h.cost) (sym same)
        (record { slot = slot; here = here; held = h; holds = holds; cost = omega arith })
    only q (inr none) = absurd none
  chain (suc k) router slot h dear here holds =
      behind k router slot h dear here holds (chain k)
      (supports files destination failures environment tables router len slot h stable short here holds)

  -- no route costs more than the dearest origin and an adjacency for each router
  bounded : (router : ℕ) (slot : Slot) (h : OspfRec) → slot_at tables router len ≡ Some slot → slot.ospf ≡ Some h →
      h.cost ≤ most + length files * step
  bounded router slot h here holds = by (cases_lt (most + length files * step) h.cost) where
    below : (q : ℕ) → HoldsWithin tables len h.cost q → q < length files
    below q held =
        let within = slice_get_within tables.slots (LENGTHS * q + len) held.slot held.here in
        omega (arith, within, stable.size)

    by : (most + length files * step < h.cost) ⊎ (h.cost ≤ most + length files * step) →
        h.cost ≤ most + length files * step
    by (inr fine) = fine
    by (inl dear) =
        let long = chain (length files) router slot h dear here holds in
        let few = length-le_from_distinct_below long.routers (length files) long.apart
        (λ q there. below q (long.each q (in-from_any q long.routers there))) in
        absurd (omega (arith, few, long.long))

pub cost_bound : (files : List File) (destination : Addr) (failures : Failures) (environment : Environment)
    (tables : Tables) (len most step : ℕ) → Stable files destination failures environment tables → len < LENGTHS →
    All (λ a. 0 < a.cost) (adjacencies files) → All (λ a. a.cost ≤ step) (adjacencies files) →
    AreOrigins files failures tables (prefix_at destination len) (λ o. o.cost ≤ most) →
    (router : ℕ) (slot : Slot) (held : OspfRec) → slot_at tables router len ≡ Some slot →
    slot.ospf ≡ Some held → held.cost ≤ most + length files * step
cost_bound files destination failures environment tables len most step stable short costs steps origins =
    bounded files destination failures environment tables len most step stable short costs steps origins
