-- Where the routes of some tables are those that the routers hold, each router with an internal route reaches one that
-- originates it: fewer routers hold a cheaper one from step to step.
use Rattle.std.proofs.Common.{◌≡◌, ℕ, zero, suc, ◌+◌, ◌*◌, ◌<◌, ◌≤◌, Bool, true, false, ◌&&◌, ◌||◌, not, List, length}
use Rattle.std.proofs.Common.{Option, Some, None, inl, inr, refl, sym, ap, arith, ◌∙◌, nat_lt}
use Rattle.std.specs.Prelude.{◌⊎◌, All, if◌then◌else◌}
use Rattle.std.specs.Option.{option_map_or}
use Rattle.std.proofs.lemmas.Bool.{and_from, and_parts, cases_lt, le-ltb, lt-ltb, ltb-true, or_left, or_right}
use Rattle.std.proofs.lemmas.Option.{slice_get_within}
use Rattle.mw_text.specs.declared.address.Prefix.{Prefix}
use Rattle.ios_ast.specs.declared.file.File.{File}
use Rattle.route_record.specs.declared.Failures.{Failures}
use Rattle.route_record.specs.declared.OspfRec.{OspfRec}
use Rattle.route_record.specs.declared.Slot.{Slot}
use Rattle.route_record.specs.declared.Tables.{Tables}
use Rattle.route_record.specs.declared.TheConstants.{LENGTHS}
use Rattle.route_record.specs.Places.{slot_at}
use Rattle.net_parts.specs.Ospf.{adjacencies, receives}
use Rattle.net_parts.specs.OspfRoutes.{own_origins}
use Rattle.slot_places.proofs.Members.{any-in}
use Rattle.slot_places.proofs.Supports.{IsOffered, IsOrigin, all_in, file_there, supported}
use Rattle.sym_ospf.specs.Rows.{is_internal}
use Rattle.sym_ospf.proofs.EquationTests.{all_from}
use Rattle.ospf_equations.specs.Least.{holds_cheaper, is_cheaper}
use Rattle.ospf_equations.specs.Reached.{AreHeld, are_reached, has_internal, holds_internal, is_origin, is_reached, leads}
use Rattle.ospf_equations.specs.Reached.{originates_internal}
use Rattle.ospf_equations.proofs.ReachedSteps.{some_process}

-- ---- how many of some routers pass a test

abbrev many : (ℕ → Bool) → ℕ → ℕ
many f zero = 0
many f (suc n) = if f n then suc (many f n) else many f n

at_most : (f : ℕ → Bool) (n : ℕ) → many f n ≤ n
at_most f zero = omega arith
at_most f (suc n) = by (f n) (at_most f n) where
  by : (b : Bool) → many f n ≤ n → (if b then suc (many f n) else many f n) ≤ suc n
  by true before = omega (arith, before)
  by false before = omega (arith, before)

-- what passes fewer tests is no more
fewer : (f g : ℕ → Bool) (n : ℕ) → ((k : ℕ) → f k ≡ true → g k ≡ true) → many f n ≤ many g n
fewer f g zero each = omega arith
fewer f g (suc n) each = by (f n) refl (g n) refl (fewer f g n each) where
  by : (a : Bool) → f n ≡ a → (b : Bool) → g n ≡ b → many f n ≤ many g n →
      (if a then suc (many f n) else many f n) ≤ (if b then suc (many g n) else many g n)
  by true is true also before = omega (arith, before)
  by true is false not_so before = let same : true ≡ false = sym (each n is) ∙ not_so in absurd cc
  by false is true also before = omega (arith, before)
  by false is false also before = before

-- and less where one passes the other test alone
less : (f g : ℕ → Bool) (n k : ℕ) → ((i : ℕ) → f i ≡ true → g i ≡ true) → k < n → f k ≡ false → g k ≡ true →
    many f n < many g n
less f g zero k each below fails passes = absurd (omega (arith, below))
less f g (suc n) k each below fails passes = by_place (cases_lt k n) (λ earlier. less f g n k each earlier fails passes)
  where
    by : (a : Bool) → f n ≡ a → (b : Bool) → g n ≡ b → many f n < many g n →
        (if a then suc (many f n) else many f n) < (if b then suc (many g n) else many g n)
    by true is true also before = omega (arith, before)
    by true is false not_so before = let same : true ≡ false = sym (each n is) ∙ not_so in absurd cc
    by false is true also before = omega (arith, before)
    by false is false also before = before

    last : k ≡ n → (if f n then suc (many f n) else many f n) < (if g n then suc (many g n) else many g n)
    last same =
        let out : f n ≡ false = ap f (sym same) ∙ fails in
        let in_it : g n ≡ true = ap g (sym same) ∙ passes in
        let before = fewer f g n each in
        rw out (rw in_it (omega (arith, before)))

    by_place : (k < n) ⊎ (n ≤ k) → (k < n → many f n < many g n) → many f (suc n) < many g (suc n)
    by_place (inl earlier) before = by (f n) refl (g n) refl (before earlier)
    by_place (inr later) before = last (omega (arith, later, below))

-- ---- routes

wider : (tables : Tables) (p : Prefix) (most more router : ℕ) → most ≤ more → holds_cheaper tables p most router ≡ true →
    holds_cheaper tables p more router ≡ true
wider tables p most more router le is = by_slot (slot_at tables router p.len) is where
  by_route : (o : Option OspfRec) → is_cheaper most o ≡ true → is_cheaper more o ≡ true
  by_route None is = cc
  by_route (Some h) is =
      let both = and_parts (is_internal h.kind) (nat_lt h.cost most) is in
      let below = ltb-true h.cost most both.1 in
      and_from (is_internal h.kind) (nat_lt h.cost more) both.0 (lt-ltb h.cost more (omega (arith, below, le)))

  by_slot : (o : Option Slot) → option_map_or (λ (slot : Slot). is_cheaper most slot.ospf) o false ≡ true →
      option_map_or (λ (slot : Slot). is_cheaper more slot.ospf) o false ≡ true
  by_slot None is = cc
  by_slot (Some slot) is = by_route slot.ospf is

module _ (files : List File) (failures : Failures) (tables : Tables) (p : Prefix)
    (size : length tables.slots ≡ LENGTHS * length files) (short : p.len < LENGTHS)
    (costs : All (λ a. 0 < a.cost) (adjacencies files)) (held : AreHeld files failures tables p) where
  -- the router holds that internal route
  pub record Holds (router : ℕ) (h : OspfRec) : Type 0 where
    pub slot : Slot
    pub here : slot_at tables router p.len ≡ Some slot
    pub holds : slot.ospf ≡ Some h
    pub internal : is_internal h.kind ≡ true

  is_cheap : (most router : ℕ) (h : OspfRec) → Holds router h → holds_cheaper tables p most router ≡ nat_lt h.cost most
  is_cheap most router h is =
      ap (λ o. option_map_or (λ (slot : Slot). is_cheaper most slot.ospf) o false) is.here
      ∙ ap (is_cheaper most) is.holds
      ∙ ap (λ b. b && nat_lt h.cost most) is.internal

  from_origin : (n router : ℕ) → is_origin files failures tables p router ≡ true →
      is_reached files failures tables p n router ≡ true
  unfolding is_reached
  from_origin zero router is = is
  from_origin (suc n) router is = or_left (is_origin files failures tables p router) _ is

  origin_is : (router : ℕ) (h : OspfRec) (is : Holds router h) → IsOrigin files failures p router is.slot h →
      is_origin files failures tables p router ≡ true
  origin_is router h is own =
      ap (λ o. option_map_or (λ (slot : Slot). has_internal slot.ospf
      && originates_internal files failures p router slot) o false) is.here
      ∙ and_from (has_internal is.slot.ospf) (originates_internal files failures p router is.slot)
      (ap has_internal is.holds ∙ is.internal)
      (some_process files failures p router is.slot own.file own.process own.at own.runs
      ∙ any-in (λ (r : OspfRec). is_internal r.kind)
      (own_origins files failures router own.file own.process p is.slot) h own.there is.internal)

  -- the far router of an adjacency holds the route that is offered over it
  pub far_holds : (router : ℕ) (h : OspfRec) → is_internal h.kind ≡ true →
      (other : IsOffered files failures router tables p.len h) → Holds other.over.to.router other.held
  far_holds router h internal other = record {
    slot = other.slot;
    here = other.at;
    holds = other.holds;
    internal = ap (λ (r : OspfRec). is_internal r.kind) (sym other.is) ∙ internal;
  }

  pub cost_is : (router : ℕ) (h : OspfRec) (other : IsOffered files failures router tables p.len h) →
      other.held.cost < h.cost
  cost_is router h other =
      let cost : h.cost ≡ other.held.cost + other.over.cost = ap (λ (r : OspfRec). r.cost) other.is in
      let some : 0 < other.over.cost = all_in (λ a. 0 < a.cost) (adjacencies files) other.over costs other.there in
      omega (arith, cost, some)

  led : (n router : ℕ) (h : OspfRec) (other : IsOffered files failures router tables p.len h) →
      other.over.to.router < length files →
      is_reached files failures tables p n other.over.to.router ≡ true →
      is_reached files failures tables p (suc n) router ≡ true
  unfolding is_reached
  led n router h other below far =
      or_right (is_origin files failures tables p router) _
      (any-in (leads files failures (is_reached files failures tables p n) router) (adjacencies files) other.over
      other.there
      (and_from (receives files failures router other.over) _ other.up
      (and_from (nat_lt other.over.to.router (length files)) _ (lt-ltb other.over.to.router (length files) below) far)))

  router_there : (router : ℕ) (h : OspfRec) → Holds router h → router < length files
  router_there router h is =
      let found = file_there files tables router p.len is.slot size is.here in
      slice_get_within files router found.0 found.1

  abbrev IsNear : ℕ → Type 0
  IsNear n = (router : ℕ) (h : OspfRec) → Holds router h → many (holds_cheaper tables p h.cost) (length files) ≤ n →
      is_reached files failures tables p n router ≡ true

  fewer_far : (router : ℕ) (h : OspfRec) (is : Holds router h) (other : IsOffered files failures router tables p.len h) →
      many (holds_cheaper tables p other.held.cost) (length files) < many (holds_cheaper tables p h.cost) (length files)
  fewer_far router h is other =
      let far = far_holds router h is.internal other in
      let costs_less = cost_is router h other in
      less (holds_cheaper tables p other.held.cost) (holds_cheaper tables p h.cost) (length files) other.over.to.router
      (λ i. wider tables p other.held.cost h.cost i (omega (arith, costs_less)))
      (router_there other.over.to.router other.held far)
      (is_cheap other.held.cost other.over.to.router other.held far
      ∙ le-ltb other.held.cost other.held.cost (omega arith))
      (is_cheap h.cost other.over.to.router other.held far ∙ lt-ltb other.held.cost h.cost costs_less)

  pub supports_it : (router : ℕ) (h : OspfRec) (is : Holds router h) →
      IsOrigin files failures p router is.slot h ⊎ IsOffered files failures router tables p.len h
  supports_it router h is =
      let found = file_there files tables router p.len is.slot size is.here in
      supported files failures tables p router found.0 is.slot h found.1 is.here
      (held router found.0 is.slot h found.1 is.here is.holds)

  from_far : (n router : ℕ) (h : OspfRec) → Holds router h → many (holds_cheaper tables p h.cost) (length files) ≤ suc n →
      IsNear n → (other : IsOffered files failures router tables p.len h) →
      is_reached files failures tables p (suc n) router ≡ true
  from_far n router h is few before other =
      let far = far_holds router h is.internal other in
      let less_far = fewer_far router h is other in
      led n router h other (router_there other.over.to.router other.held far)
      (before other.over.to.router other.held far (omega (arith, less_far, few)))

  -- by how many routers hold a cheaper route
  near : (n : ℕ) → IsNear n
  near zero = λ router h is few. by router h is few (supports_it router h is) where
    by : (router : ℕ) (h : OspfRec) (is : Holds router h) → many (holds_cheaper tables p h.cost) (length files) ≤ 0 →
        IsOrigin files failures p router is.slot h ⊎ IsOffered files failures router tables p.len h →
        is_reached files failures tables p zero router ≡ true
    by router h is few (inl own) = from_origin zero router (origin_is router h is own)
    by router h is few (inr other) = let none = fewer_far router h is other in absurd (omega (arith, none, few))
  near (suc n) = λ router h is few. by router h is few (near n) (supports_it router h is) where
    by : (router : ℕ) (h : OspfRec) (is : Holds router h) → many (holds_cheaper tables p h.cost) (length files) ≤ suc n →
        IsNear n → IsOrigin files failures p router is.slot h ⊎ IsOffered files failures router tables p.len h →
        is_reached files failures tables p (suc n) router ≡ true
    by router h is few before (inl own) = from_origin (suc n) router (origin_is router h is own)
    by router h is few before (inr other) = from_far n router h is few before other

  one_reached : (router : ℕ) → (not (holds_internal tables p router)
      || is_reached files failures tables p (length files) router) ≡ true
  one_reached router = by_slot (slot_at tables router p.len) refl where
    reached : Bool
    reached = is_reached files failures tables p (length files) router

    by_kind : (slot : Slot) (h : OspfRec) → slot_at tables router p.len ≡ Some slot → slot.ospf ≡ Some h → (b : Bool) →
        is_internal h.kind ≡ b → (not b || is_reached files failures tables p (length files) router) ≡ true
    by_kind slot h here holds true internal =
        near (length files) router h (record { slot = slot; here = here; holds = holds; internal = internal })
        (at_most (holds_cheaper tables p h.cost) (length files))
    by_kind slot h here holds false external = refl

    by_route : (slot : Slot) (o : Option OspfRec) → slot_at tables router p.len ≡ Some slot → slot.ospf ≡ o →
        (not (has_internal o) || is_reached files failures tables p (length files) router) ≡ true
    by_route slot None here none = refl
    by_route slot (Some h) here holds = by_kind slot h here holds (is_internal h.kind) refl

    by_slot : (o : Option Slot) → slot_at tables router p.len ≡ o →
        (not (option_map_or (λ (slot : Slot). has_internal slot.ospf) o false)
        || is_reached files failures tables p (length files) router) ≡ true
    by_slot None none = refl
    by_slot (Some slot) here = by_route slot slot.ospf here refl

  pub all_reached : are_reached files failures tables p ≡ true
  unfolding are_reached
  all_reached = all_from _ (length files) (λ router below. one_reached router)
