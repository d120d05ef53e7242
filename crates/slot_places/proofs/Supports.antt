-- Each OSPF route of a stable routing is an own origin or that of a router over an adjacency, which costs less.
use Rattle.std.proofs.Common.{◌≡◌, ℕ, zero, suc, ◌+◌, ◌*◌, ◌<◌, Bool, true, false, List, [], ◌∷◌, ◌++◌, length}
use Rattle.std.proofs.Common.{Some, None, inl, inr, refl, sym, ap, subst, arith, ◌∙◌, slice_get}
use Rattle.std.specs.Prelude.{◌⊎◌, ◌^◌, All, fold, nat_lt, option_and_then, if◌then◌else◌}
use Rattle.std.specs.List.{filter_map}
use Rattle.std.specs.Option.{option_map_or}
use Rattle.std.proofs.lemmas.List.Elements.{All-head, All-tail}
use Rattle.std.proofs.lemmas.Option.{option_and_then_some, same_Some, slice_get_within}
use Rattle.mw_text.proofs.Lists.{item_there}
use Rattle.mw_text.specs.declared.address.Addr.{Addr}
use Rattle.mw_text.specs.declared.address.Prefix.{Prefix}
use Rattle.mw_text.specs.Address.{prefix_at}
use Rattle.ios_ast.specs.declared.file.File.{File}
use Rattle.ios_ast.specs.declared.ospf.Ospf.{Ospf}
use Rattle.route_record.specs.declared.Environment.{Environment}
use Rattle.route_record.specs.declared.Failures.{Failures}
use Rattle.route_record.specs.declared.OspfRec.{OspfRec}
use Rattle.route_record.specs.declared.Slot.{Slot}
use Rattle.route_record.specs.declared.Tables.{Tables}
use Rattle.route_record.specs.declared.TheConstants.{LENGTHS}
use Rattle.route_record.specs.Places.{slot_at}
use Rattle.net_parts.specs.declared.adjacencies.Adjacency.{Adjacency}
use Rattle.net_parts.specs.Ospf.{adjacencies, receives, up_adjacencies}
use Rattle.net_parts.proofs.Heard.{held_by_offers}
use Rattle.net_parts.specs.OspfRoutes.{better_of, extended, first_best, held_by_ospf, is_better, offer_over}
use Rattle.net_parts.specs.OspfRoutes.{own_origins}
use Rattle.net_parts.specs.Stable.{Stable, held_ospf}
use Rattle.net_parts.proofs.LeastWalks.{in-cases, in-filter, in-filter_map}
use Rattle.mw_text.specs.Members.{In}
use Rattle.slot_places.specs.Supported.{AreOrigins, IsKept}

-- ---- the first best of some offers is one of them

-- the better of two is one of them, and what is left of the others is given
better_is : (x b : OspfRec) (xs : List OspfRec) (h : OspfRec) (t : Bool) →
    fold better_of (if t then Some x else Some b) xs ≡ Some h →
    ((best : OspfRec) → fold better_of (Some best) xs ≡ Some h → (best ≡ h) ⊎ In h xs) → (b ≡ h) ⊎ In h (x ∷ xs)
better_is x b xs h true is rest = by (rest x is) where
  by : (x ≡ h) ⊎ In h xs → (b ≡ h) ⊎ In h (x ∷ xs)
  by (inl same) = inr (inl (sym same))
  by (inr later) = inr (inr later)
better_is x b xs h false is rest = by (rest b is) where
  by : (b ≡ h) ⊎ In h xs → (b ≡ h) ⊎ In h (x ∷ xs)
  by (inl same) = inl same
  by (inr later) = inr (inr later)

from_fold : (xs : List OspfRec) (h best : OspfRec) → fold better_of (Some best) xs ≡ Some h → (best ≡ h) ⊎ In h xs
from_fold [] h best is = inl (same_Some best h is)
from_fold (x ∷ xs) h best is = better_is x best xs h (is_better x best) is (from_fold xs h)

in_first_best : (xs : List OspfRec) (h : OspfRec) → first_best xs ≡ Some h → In h xs
in_first_best [] h is = cc
in_first_best (x ∷ xs) h is = by (from_fold xs h x is) where
  by : (x ≡ h) ⊎ In h xs → In h (x ∷ xs)
  by (inl same) = inl (sym same)
  by (inr later) = inr later

-- ---- what supports a route

-- the route of another router over an adjacency over which the router receives; it costs as much less there
pub record IsOffered (files : List File) (failures : Failures) (router : ℕ) (tables : Tables) (len : ℕ)
    (h : OspfRec) : Type 0 where
  pub over : Adjacency
  pub there : In over (adjacencies files)
  pub up : receives files failures router over ≡ true
  pub slot : Slot
  pub at : slot_at tables over.to.router len ≡ Some slot
  pub held : OspfRec
  pub holds : slot.ospf ≡ Some held
  pub is : h ≡ record held { cost = held.cost + over.cost }

-- an origin of the router's own process
pub record IsOrigin (files : List File) (failures : Failures) (p : Prefix) (router : ℕ) (slot : Slot)
    (h : OspfRec) : Type 0 where
  pub file : File
  pub at : slice_get files router ≡ Some file
  pub process : Ospf
  pub runs : file.ospf ≡ Some process
  pub there : In h (own_origins files failures router file process p slot)

by_extended : (cost : ℕ) (held h : OspfRec) → extended cost held ≡ Some h → h ≡ record held { cost = held.cost + cost }
by_extended cost held h is = by (nat_lt (held.cost + cost) (2 ^ 32)) is where
  by : (t : Bool) → (if t then Some (record held { cost = held.cost + cost }) else None) ≡ Some h →
      h ≡ record held { cost = held.cost + cost }
  by true same = cc
  by false same = cc

offered : (files : List File) (failures : Failures) (tables : Tables) (p : Prefix) (router : ℕ) (h : OspfRec) →
    In h (filter_map (offer_over tables p) (up_adjacencies files failures router)) →
    IsOffered files failures router tables p.len h
unfolding up_adjacencies
offered files failures tables p router h there =
    let found = in-filter_map (offer_over tables p) (up_adjacencies files failures router) h there in
    let a : Adjacency = found.0 in
    let known = in-filter (receives files failures router) (adjacencies files) a found.1 in
    option_and_then_some (extended a.cost)
    (option_and_then (λ (slot : Slot). slot.ospf) (slot_at tables a.to.router p.len)) h found.2
    (λ held holds is. option_and_then_some (λ (slot : Slot). slot.ospf) (slot_at tables a.to.router p.len) held holds
    (λ slot at holds'. record {
      over = a;
      there = known.0;
      up = known.1;
      slot = slot;
      at = at;
      held = held;
      holds = holds';
      is = by_extended a.cost held h is;
    }))

-- a route that a router of a stable routing holds is offered or originated
pub supported : (files : List File) (failures : Failures) (tables : Tables) (p : Prefix) (router : ℕ) (file : File)
    (slot : Slot) (h : OspfRec) → slice_get files router ≡ Some file → slot_at tables router p.len ≡ Some slot →
    held_ospf files failures tables router file p ≡ Some h →
    IsOrigin files failures p router slot h ⊎ IsOffered files failures router tables p.len h
supported files failures tables p router file slot h at here is =
    option_and_then_some (λ process. held_by_ospf files failures tables router file process p) file.ospf h is by
  where
    by : (process : Ospf) → file.ospf ≡ Some process →
        held_by_ospf files failures tables router file process p ≡ Some h →
        IsOrigin files failures p router slot h ⊎ IsOffered files failures router tables p.len h
    by process runs held = choose (in-cases h (own_origins files failures router file process p slot) _
        (in_first_best _ h (ap first_best (ap (λ own. own ++ filter_map (offer_over tables p)
        (up_adjacencies files failures router)) (sym own_is))
        ∙ sym (held_by_offers files failures tables router file process p) ∙ held)))
      where
        own_is : option_map_or (own_origins files failures router file process p) (slot_at tables router p.len) []
            ≡ own_origins files failures router file process p slot
        own_is = rw here refl

        choose : In h (own_origins files failures router file process p slot)
            ⊎ In h (filter_map (offer_over tables p) (up_adjacencies files failures router)) →
            IsOrigin files failures p router slot h ⊎ IsOffered files failures router tables p.len h
        choose (inl own) = inl (record { file = file; at = at; process = process; runs = runs; there = own })
        choose (inr other) = inr (offered files failures tables p router h other)

-- ---- all routes that are held

pub all_in : {X : Type 0} (P : X → Type 0) (xs : List X) (x : X) → All P xs → In x xs → P x
all_in P [] x all none = absurd none
all_in P (y ∷ ys) x all (inl same) = subst P (sym same) (All-head P y ys all)
all_in P (y ∷ ys) x all (inr later) = all_in P ys x (All-tail P y ys all) later

-- a router with a slot is a router of the files
pub file_there : (files : List File) (tables : Tables) (router len : ℕ) (slot : Slot) →
    length tables.slots ≡ LENGTHS * length files → slot_at tables router len ≡ Some slot →
    (file : File) × (slice_get files router ≡ Some file)
file_there files tables router len slot size here =
    let within = slice_get_within tables.slots (LENGTHS * router + len) slot here in
    item_there files router (omega (arith, within, size))

-- a route in a slot of a stable routing is offered or originated
pub supports : (files : List File) (destination : Addr) (failures : Failures) (environment : Environment)
    (tables : Tables) (router len : ℕ) (slot : Slot) (h : OspfRec) →
    Stable files destination failures environment tables → len < LENGTHS →
    slot_at tables router len ≡ Some slot → slot.ospf ≡ Some h →
    IsOrigin files failures (prefix_at destination len) router slot h ⊎ IsOffered files failures router tables len h
supports files destination failures environment tables router len slot h stable short here holds =
    let found = file_there files tables router len slot stable.size here in
    let equation = (stable.equations router len found.0 slot found.1 short here).ospf in
    supported files failures tables (prefix_at destination len) router found.0 slot h found.1 here
    (sym equation ∙ holds)

module _ (files : List File) (destination : Addr) (failures : Failures) (environment : Environment) (tables : Tables)
    (len : ℕ) (P : OspfRec → Type 0) (stable : Stable files destination failures environment tables)
    (short : len < LENGTHS) (costs : All (λ a. 0 < a.cost) (adjacencies files)) (kept : IsKept P)
    (origins : AreOrigins files failures tables (prefix_at destination len) P) where
  -- P is true of each route that costs less than that
  abbrev Below : ℕ → Type 0
  Below most = (router : ℕ) (slot : Slot) (h : OspfRec) → h.cost < most → slot_at tables router len ≡ Some slot →
      slot.ospf ≡ Some h → P h

  from_support : (most router : ℕ) (slot : Slot) (h : OspfRec) → h.cost < suc most →
      slot_at tables router len ≡ Some slot → Below most →
      IsOrigin files failures (prefix_at destination len) router slot h ⊎ IsOffered files failures router tables len h → P h
  from_support most router slot h below here deeper (inl own) =
      all_in P _ h (origins router own.file own.process slot own.at own.runs here) own.there
  from_support most router slot h below here deeper (inr other) =
      let cost : h.cost ≡ other.held.cost + other.over.cost = ap (λ (r : OspfRec). r.cost) other.is in
      let some : 0 < other.over.cost = all_in (λ a. 0 < a.cost) (adjacencies files) other.over costs other.there in
      let before : P other.held = deeper other.over.to.router other.slot other.held (omega (arith, below, cost, some))
      other.at other.holds in
      subst P (sym other.is) (kept other.held (other.held.cost + other.over.cost) before)

  -- by the cost: what is offered costs less where it comes from
  held_below : (most : ℕ) → Below most
  held_below zero router slot h below here holds = absurd (omega (arith, below))
  held_below (suc most) router slot h below here holds =
      from_support most router slot h below here (held_below most)
      (supports files destination failures environment tables router len slot h stable short here holds)

-- what is true of all origins is true of all routes that are held
pub all_held : (files : List File) (destination : Addr) (failures : Failures) (environment : Environment)
    (tables : Tables) (len : ℕ) (P : OspfRec → Type 0) →
    Stable files destination failures environment tables → len < LENGTHS →
    All (λ a. 0 < a.cost) (adjacencies files) → IsKept P →
    AreOrigins files failures tables (prefix_at destination len) P →
    (router : ℕ) (slot : Slot) (h : OspfRec) → slot_at tables router len ≡ Some slot →
    slot.ospf ≡ Some h → P h
all_held files destination failures environment tables len P stable short costs kept origins router slot h here holds =
    held_below files destination failures environment tables len P stable short costs kept origins (suc h.cost) router
    slot h (omega arith) here holds
