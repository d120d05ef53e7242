-- The loops over announcements.
use Rattle.std.proofs.Common.{◌≡◌, ℕ, zero, suc, ◌+◌, ◌<◌, ◌≤◌, ◌&&◌, ◌||◌, Bool, true, false, List, [], ◌∷◌, length, refl, not}
use Rattle.std.proofs.Common.{ap, arith, drop, get_or}
use Rattle.std.specs.Prelude.{All, Option, Some, None, take, if◌then◌else◌}
use Rattle.std.specs.List.{list_all}
use Rattle.std.specs.Option.{option_map_or}
use Rattle.std.proofs.Math.Bool.{and_assoc, and-true}
use Rattle.std.proofs.lemmas.Grind.{common_steps}
use Rattle.std.proofs.lemmas.List.{drop_all, drop_more}
use Rattle.std.proofs.lemmas.List.Elements.{All-cons, All-head, All-nil, All-tail}
use Rattle.ios_ast.specs.declared.bgp.Neighbour.{Neighbour}
use Rattle.ios_ast.specs.declared.file.File.{File}
use Rattle.route_shapes.specs.Bgp.{BgpShape}
use Rattle.net_parts.specs.declared.sessions.SessionEnd.{SessionEnd}
use Rattle.net_parts.specs.Sessions.{is_outside, neighbour_of}
use Rattle.sym_policy.specs.declared.records.SymBgp.{SymBgp}
use Rattle.sym_policy.specs.Held.{bgp_end}
use Rattle.sym_rib.specs.Into.{list_end}
use Rattle.sym_rib.proofs.OneEach.{items_at}
use Rattle.routing_encoder.specs.Announced.{rows_pass}
use Rattle.routing_encoder.proofs.LoopSteps.{route_below}

-- a route that is not there passes
pub comes_where : (f : BgpShape → Bool) (there may : Bool) (s : BgpShape) → may ≡ f s →
    (not there || may) ≡ option_map_or f (if there then Some s else None) true
comes_where f true may s is = is
comes_where f false may s is = refl

-- ---- one row

pub row_next : {X : Type 0} (test : X → Bool) (xs : List X) (i : ℕ) (d : X) → i < length xs →
    list_all test (drop i xs) ≡ (test (get_or xs i d) && list_all test (drop (i + 1) xs))
row_next test xs i d below = ap (list_all test) (drop_more xs i d below)

pub row_none : {X : Type 0} (test : X → Bool) (xs : List X) (i : ℕ) → length xs ≤ i → list_all test (drop i xs) ≡ true
row_none test xs i past = ap (list_all test) (drop_all i xs past)

pub ruleset row_steps = (common_steps, route_below, row_next, row_none, items_at, and_assoc, and-true)

-- ---- the rows of all ends

pub taken_below : (xs : List SymBgp) (n : ℕ) → list_end bgp_end (take n xs) ≤ list_end bgp_end xs
taken_below xs zero = omega arith
taken_below [] (suc n) = omega arith
taken_below (x ∷ xs) (suc n) = let rest = taken_below xs n in omega (arith, rest)

pub behind_below : (xs : List SymBgp) (n : ℕ) → list_end bgp_end (drop n xs) ≤ list_end bgp_end xs
behind_below xs zero = omega arith
behind_below [] (suc n) = omega arith
behind_below (x ∷ xs) (suc n) = let rest = behind_below xs n in omega (arith, rest)

pub taken_all : {X : Type 0} (P : X → Type 0) (xs : List X) (n : ℕ) → All P xs → All P (take n xs)
taken_all P xs zero all = All-nil P
taken_all P [] (suc n) all = All-nil P
taken_all P (x ∷ xs) (suc n) all =
    All-cons P x (take n xs) (All-head P x xs all) (taken_all P xs n (All-tail P x xs all))

pub behind_all : {X : Type 0} (P : X → Type 0) (xs : List X) (n : ℕ) → All P xs → All P (drop n xs)
behind_all P xs zero all = all
behind_all P [] (suc n) all = All-nil P
behind_all P (x ∷ xs) (suc n) all = behind_all P xs n (All-tail P x xs all)

pub rows_outside : {X : Type 0} (test : Option Neighbour → X → Bool) (files : List File) (count : ℕ) (end : SessionEnd)
    (ends : List SessionEnd) (xs : List X) → is_outside end.far ≡ true →
    rows_pass test files count (end ∷ ends) xs
    ≡ (list_all (test (neighbour_of files end)) (take count xs) && rows_pass test files count ends (drop count xs))
unfolding rows_pass
rows_outside test files count end ends xs outer =
    ap (λ b. if b
    then list_all (test (neighbour_of files end)) (take count xs) && rows_pass test files count ends (drop count xs)
    else rows_pass test files count ends xs) outer

pub rows_inside : {X : Type 0} (test : Option Neighbour → X → Bool) (files : List File) (count : ℕ) (end : SessionEnd)
    (ends : List SessionEnd) (xs : List X) → is_outside end.far ≡ false →
    rows_pass test files count (end ∷ ends) xs ≡ rows_pass test files count ends xs
unfolding rows_pass
rows_inside test files count end ends xs inner =
    ap (λ b. if b
    then list_all (test (neighbour_of files end)) (take count xs) && rows_pass test files count ends (drop count xs)
    else rows_pass test files count ends xs) inner

pub rows_none : {X : Type 0} (test : Option Neighbour → X → Bool) (files : List File) (count : ℕ) (xs : List X) →
    rows_pass test files count [] xs ≡ true
unfolding rows_pass
rows_none test files count xs = refl

pub ruleset rows_steps = (
  common_steps,
  items_at,
  taken_below,
  behind_below,
  taken_all,
  behind_all,
  rows_outside,
  rows_inside,
  rows_none,
  and_assoc,
  and-true,
)
