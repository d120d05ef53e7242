-- Numbers of new variables, widths, and what is open of slots.
use Rattle.std.proofs.Common.{◌≡◌, ℕ, ◌+◌, ◌*◌, ◌^◌, Bool, List, [], ◌∷◌, ◌++◌, length, Option, refl, sym, ap}
use Rattle.std.proofs.Common.{arith}
use Rattle.std.proofs.Common.{◌∙◌, drop, get_or, map, ◌-◌, ◌/◌, ◌<◌, max, subst}
use Rattle.std.proofs.lemmas.List.{drop_more, map-append}
use Rattle.std.proofs.Math.Nat.{div-lt_iff_lt-mul, mul_comm}
use Rattle.std.proofs.lemmas.Nat.{pow-add, pow_pos}
use Rattle.term_store.specs.Terms.{Reading}
use Rattle.std.proofs.lemmas.Grind.{common_steps}
use Rattle.failed_links.proofs.Steps.{grows_grown}
use Rattle.world_variables.specs.declared.opens.SymOpen.{SymOpen}
use Rattle.world_variables.specs.Symbols.{open_end, open_of, opens_end}
use Rattle.plan_places.specs.declared.places.Place.{Place}
use Rattle.slot_places.specs.declared.rooms.Room.{Room}
use Rattle.world_variables.specs.Unknowns.{unknown_from, unknown_width, unknowns_from, unknowns_width}

-- the first bits of an address fit the width that is left
pub high_bits : (a len : ℕ) → a < 2 ^ 32 → a / 2 ^ (32 - len) < 2 ^ (32 - (32 - len))
high_bits a len small =
    let all : (32 - len) + (32 - (32 - len)) ≡ 32 = omega arith in
    (div-lt_iff_lt-mul (pow_pos (32 - len))).1 (subst (λ n. a < n) (sym (ap (λ n. 2 ^ n) all)
    ∙ pow-add 2 (32 - len) (32 - (32 - len)) ∙ mul_comm (2 ^ (32 - len)) (2 ^ (32 - (32 - len)))) small)

-- nothing above a number changes it
pub nothing_above : (low power high : ℕ) → high ≡ 0 → low + power * high ≡ low
nothing_above low power high none = ap (λ n. low + power * n) none ∙ omega arith

-- ---- what is open of the slots, one after another

pub opens_end_push : (xs : List SymOpen) (x : SymOpen) → opens_end (xs ++ x ∷ []) ≡ max (opens_end xs) (open_end x)
opens_end_push [] x = omega arith
opens_end_push (y ∷ xs) x = let rest = opens_end_push xs x in omega (arith, rest)

pub opens_push : (w : Reading) (xs : List SymOpen) (x : SymOpen) →
    map (open_of w) (xs ++ x ∷ []) ≡ map (open_of w) xs ++ open_of w x ∷ []
opens_push w xs x = map-append (open_of w) xs (x ∷ [])

pub places_at : (places : List Place) (i : ℕ) (d : Place) → i < length places →
    (get_or places i d ≡ get_or places i d) × (drop i places ≡ get_or places i d ∷ drop (i + 1) places)
places_at places i d within = (refl, drop_more places i d within)

pub unknowns_next : (room : Option Room) (rooms : List (Option Room)) (v : ℕ → Bool) (from : ℕ) →
    unknowns_from (room ∷ rooms) v from ≡ unknown_from room v from ∷ unknowns_from rooms v (from + unknown_width room)
unfolding unknowns_from
unknowns_next room rooms v from = refl

pub widths_next : (room : Option Room) (rooms : List (Option Room)) →
    unknowns_width (room ∷ rooms) ≡ unknown_width room + unknowns_width rooms
unfolding unknowns_width
widths_next room rooms = refl

pub ruleset open_steps = (common_steps, grows_grown, opens_end_push, opens_push, places_at, unknowns_next, widths_next)
