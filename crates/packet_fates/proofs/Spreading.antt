-- Marking the routers to which hops lead.
use Rattle.std.proofs.Common.{◌≡◌, ℕ, ◌+◌, ◌<◌, ◌≤◌, Bool, true, false, List, [], length, set, Option, Some, None}
use Rattle.std.proofs.Common.{refl, sym, ap}
use Rattle.std.proofs.Common.{subst, arith, ◌∙◌, inl, inr}
use Rattle.std.specs.Prelude.{Contains, IfNone, IfSome, is_some, slice_get, unwrap_or}
use Rattle.std.proofs.lemmas.Option.{slice_get_within}
use Rattle.net_interfaces.specs.declared.interfaces.IfaceId.{IfaceId}
use Rattle.question_lang.specs.declared.walk.Hop.{Hop}
use Rattle.question_lang.specs.declared.walk.Hop.TheVariants.{To}
use Rattle.walk_def.specs.Marks.{known}
use Rattle.std.proofs.Math.ListN.{length-set}
use Rattle.mw_text.proofs.Numbers.{earlier}
use Rattle.walk_def.proofs.Arrivals.{known_stays}
use Rattle.walk_def.proofs.Known.{known-set}
use Rattle.packet_fates.specs.Reaching.{AreClosed, AreInside, AreReached, IsLedTo, Leads, here, further, hops_at}
use Rattle.packet_fates.specs.Steps.{IsMarked, IsNewAmong, LeadsNowhereNew}

-- a router that has hops is of the list
pub own_there : (all : List (List Hop)) (router : ℕ) (hop : Hop) → Contains (hops_at all router) hop →
    (own : List Hop) × (slice_get all router ≡ Some own) × Contains own hop
own_there all router hop has = by_place (slice_get all router) has where
  by_place : (o : Option (List Hop)) → Contains (unwrap_or o []) hop →
      (own : List Hop) × (o ≡ Some own) × Contains own hop
  by_place None (k, within, is) = absurd (omega (arith, within))
  by_place (Some own) h = (own, refl, h)

pub hops_within : (all : List (List Hop)) (router : ℕ) (hop : Hop) → Contains (hops_at all router) hop →
    router < length all
hops_within all router hop has =
    let (own, found, _) = own_there all router hop has in slice_get_within all router own found

-- the hops of a router that is there
pub hops_are : (all : List (List Hop)) (router : ℕ) (own : List Hop) → slice_get all router ≡ Some own →
    hops_at all router ≡ own
hops_are all router own found = ap (λ o. unwrap_or o []) found

-- one hop more
pub leads_on : (hops : ℕ → List Hop) (from to : ℕ) (i : IfaceId) → Leads hops from to → Contains (hops to) (To i) →
    Leads hops from i.router
leads_on hops from to i (here _) has = further from i i.router has (here i.router)
leads_on hops from to i (further _ k _ first rest) has =
    further from k i.router first (leads_on hops k.router to i rest has)

-- marks so far: the start is marked, and only that to which hops lead
pub record IsSpread (all : List (List Hop)) (start : ℕ) (marks : List Bool) : Type 0 where
  pub long : length marks ≡ length all
  pub first : known marks start ≡ true
  pub sound : (router : ℕ) → known marks router ≡ true → Leads (hops_at all) start router

pub first_spread : (all : List (List Hop)) (start : ℕ) (marks : List Bool) → IsMarked (length all) start marks →
    IsSpread all start marks
first_spread all start marks is = record {
  long = is.long;
  first = is.first;
  sound = λ router marked.
      let P : ℕ → Type 0 = λ r. Leads (hops_at all) start r in subst P (sym (is.alone router marked)) (here start);
}

set-length : (marks : List Bool) (at : ℕ) → length (set marks at true) ≡ length marks
set-length marks at = length-set marks at true

pub more_spread : (all : List (List Hop)) (start to : ℕ) (marks : List Bool) → IsSpread all start marks →
    IsLedTo all marks to → IsSpread all start (set marks to true)
more_spread all start to marks so_far (from, at, marked, has) = record {
  long = set-length marks to ∙ so_far.long;
  first = known_stays marks to start so_far.first;
  sound = λ router now_marked.
      known-set (λ r. Leads (hops_at all) start r) marks to router
      (leads_on (hops_at all) start from (record { router = to; at = at }) (so_far.sound from marked) has)
      (so_far.sound router) now_marked;
}

-- a router to which a hop leads is of the list
pub led_within : (all : List (List Hop)) (to : ℕ) (marks : List Bool) → AreInside all → IsLedTo all marks to →
    to < length all
led_within all to marks inside (from, at, marked, has) = inside from (record { router = to; at = at }) has

closed_on : (all : List (List Hop)) (marks : List Bool) (from to : ℕ) → AreClosed all marks →
    Leads (hops_at all) from to → known marks from ≡ true → known marks to ≡ true
closed_on all marks from to closed (here _) marked = marked
closed_on all marks from to closed (further _ i _ has rest) marked =
    closed_on all marks i.router to closed rest (closed from i marked has)

-- where no hop leads to a router that is not marked, all are
pub all_reached : (all : List (List Hop)) (start : ℕ) (marks : List Bool) → IsSpread all start marks →
    AreClosed all marks → AreReached all start marks
all_reached all start marks so_far closed = record {
  sound = so_far.sound;
  whole = λ router leads. closed_on all marks start router closed leads so_far.first;
}

-- ---- the next router to be marked

pub new_led : (all : List (List Hop)) (marks : List Bool) (from : ℕ) (own : List Hop) (o : Option ℕ) →
    known marks from ≡ true → hops_at all from ≡ own → IfSome o (IsNewAmong own marks) →
    IfSome o (λ to. (known marks to ≡ false) × IsLedTo all marks to)
new_led all marks from own None marked hops new = tt
new_led all marks from own (Some to) marked hops (unmarked, (at, has)) =
    let P : List Hop → Type 0 = λ xs. Contains xs (To (record { router = to; at = at })) in
    (unmarked, (from, at, marked, subst P (sym hops) has))

-- no hop of the marked routers below the bound leads to one that is not marked
abbrev pub ClosedBelow : List (List Hop) → List Bool → ℕ → Type 0
ClosedBelow all marks bound =
    (from : ℕ) (i : IfaceId) → from < bound → known marks from ≡ true → Contains (hops_at all from) (To i)
    → known marks i.router ≡ true

pub skip_unmarked : (all : List (List Hop)) (marks : List Bool) (at : ℕ) → known marks at ≡ false →
    ClosedBelow all marks at → ClosedBelow all marks (at + 1)
skip_unmarked all marks at unmarked so_far from i below marked has = elim (earlier from at below) [
  | inl before ↦ so_far from i before marked has
  | inr same ↦ let both : known marks from ≡ false = ap (known marks) same ∙ unmarked in cc
]

none_of : {P : Type 0} (o : Option ℕ) → is_some o ≡ false → IfNone o P → P
none_of None none holds = holds
none_of (Some n) none holds = cc

pub closed_more : (all : List (List Hop)) (marks : List Bool) (at : ℕ) (own : List Hop) (o : Option ℕ) →
    hops_at all at ≡ own → is_some o ≡ false → IfNone o (LeadsNowhereNew own marks) →
    ClosedBelow all marks at → ClosedBelow all marks (at + 1)
closed_more all marks at own o hops none nowhere so_far from i below marked has = elim (earlier from at below) [
  | inl before ↦ so_far from i before marked has
  | inr same ↦ let P : List Hop → Type 0 = λ xs. Contains xs (To i) in
      none_of o none nowhere i (subst P (ap (hops_at all) same ∙ hops) has)
]

pub closed_whole : (all : List (List Hop)) (marks : List Bool) (bound : ℕ) → length all ≤ bound →
    ClosedBelow all marks bound → AreClosed all marks
closed_whole all marks bound whole closed from i marked has =
    closed from i (omega (arith, whole, hops_within all from (To i) has)) marked has
