-- Kinds of OSPF routes by their numbers, and the first best of some.
use Rattle.std.proofs.Common.{◌≡◌, ℕ, zero, suc, ◌+◌, ◌<◌, ◌≤◌, Bool, true, false, not, List, [], ◌∷◌, length, drop}
use Rattle.std.proofs.Common.{get_or, Option, Some, None, refl, ap, ◌∙◌, arith, if◌then◌else◌}
use Rattle.std.specs.Prelude.{◌==◌, ◌&&◌, ◌||◌, nat_lt, fold}
use Rattle.std.specs.List.{filter_map, cons_option}
use Rattle.std.proofs.lemmas.Bool.Decides.{nat_tests}
use Rattle.std.proofs.lemmas.List.{drop_more, drop_all}
use Rattle.route_record.specs.declared.OspfKind.TheVariants.{Internal, Ext1, Ext2}
use Rattle.route_record.specs.declared.OspfRec.{OspfRec}
use Rattle.net_parts.specs.OspfRoutes.{kind_rank, is_type2, is_better, better_of}
use Rattle.term_store.specs.Terms.{Reading, at}
use Rattle.sym_policy.specs.declared.records.SymOspf.{SymOspf}
use Rattle.sym_policy.specs.Held.{kind_of_number, ospf_at, ospf_of, ospf_end}
use Rattle.sym_ospf.specs.Routes.{kept, routes_end}

-- a kind past the first two numbers is of type 2
pub type2_is : (n : ℕ) → not ((n == 0) || (n == 1)) ≡ is_type2 (kind_of_number n)
type2_is n = by_tests (n == 0) (n == 1) where
  by_tests : (a b : Bool) → not (a || b)
      ≡ is_type2 (if a then Internal else (if b then Ext1 else Ext2))
  by_tests true b = refl
  by_tests false true = refl
  by_tests false false = refl

-- the kind comes before another where its number is less, unless both are of type 2
pub before_is : (n m : ℕ) → (nat_lt n m && not (is_type2 (kind_of_number n)))
    ≡ nat_lt (kind_rank (kind_of_number n)) (kind_rank (kind_of_number m))
before_is n m = by_tests (n == 0) refl (n == 1) refl (m == 0) refl (m == 1) refl where
  by_tests : (a : Bool) → (n == 0) ≡ a → (b : Bool) → (n == 1) ≡ b → (c : Bool) → (m == 0) ≡ c → (d : Bool)
      → (m == 1) ≡ d → (nat_lt n m && not (is_type2 (if a then Internal else (if b then Ext1 else Ext2))))
      ≡ nat_lt (kind_rank (if a then Internal else (if b then Ext1 else Ext2)))
      (kind_rank (if c then Internal else (if d then Ext1 else Ext2)))
  by_tests true n0 b n1 true m0 d m1 = grind (arith, nat_tests)
  by_tests true n0 b n1 false m0 true m1 = grind (arith, nat_tests)
  by_tests true n0 b n1 false m0 false m1 = grind (arith, nat_tests)
  by_tests false n0 true n1 true m0 d m1 = grind (arith, nat_tests)
  by_tests false n0 true n1 false m0 true m1 = grind (arith, nat_tests)
  by_tests false n0 true n1 false m0 false m1 = grind (arith, nat_tests)
  by_tests false n0 false n1 true m0 d m1 = grind (arith, nat_tests)
  by_tests false n0 false n1 false m0 true m1 = grind (arith, nat_tests)
  by_tests false n0 false n1 false m0 false m1 = grind (arith, nat_tests)

-- two kinds are one where their numbers are equal, or where both are of type 2
pub same_is : (n m : ℕ) → ((n == m) || (is_type2 (kind_of_number n) && is_type2 (kind_of_number m)))
    ≡ (kind_rank (kind_of_number n) == kind_rank (kind_of_number m))
same_is n m = by_tests (n == 0) refl (n == 1) refl (m == 0) refl (m == 1) refl where
  by_tests : (a : Bool) → (n == 0) ≡ a → (b : Bool) → (n == 1) ≡ b → (c : Bool) → (m == 0) ≡ c → (d : Bool)
      → (m == 1) ≡ d → ((n == m) || (is_type2 (if a then Internal else (if b then Ext1 else Ext2))
      && is_type2 (if c then Internal else (if d then Ext1 else Ext2))))
      ≡ (kind_rank (if a then Internal else (if b then Ext1 else Ext2))
      == kind_rank (if c then Internal else (if d then Ext1 else Ext2)))
  by_tests true n0 b n1 true m0 d m1 = grind (arith, nat_tests)
  by_tests true n0 b n1 false m0 true m1 = grind (arith, nat_tests)
  by_tests true n0 b n1 false m0 false m1 = grind (arith, nat_tests)
  by_tests false n0 true n1 true m0 d m1 = grind (arith, nat_tests)
  by_tests false n0 true n1 false m0 true m1 = grind (arith, nat_tests)
  by_tests false n0 true n1 false m0 false m1 = grind (arith, nat_tests)
  by_tests false n0 false n1 true m0 d m1 = grind (arith, nat_tests)
  by_tests false n0 false n1 false m0 true m1 = grind (arith, nat_tests)
  by_tests false n0 false n1 false m0 false m1 = grind (arith, nat_tests)

-- the choice between the best so far and the next is the better one
pub kept_is : (w : Reading) (best next : SymOspf)
    → (if at w next.valid && (not (at w best.valid) || is_better (ospf_at w next) (ospf_at w best))
    then ospf_of w next else ospf_of w best) ≡ kept (ospf_of w best) (ospf_of w next)
kept_is w best next =
    by_there (at w best.valid) (at w next.valid) (ospf_at w best) (ospf_at w next)
    (is_better (ospf_at w next) (ospf_at w best)) refl
  where
    by_there : (b n : Bool) (x y : OspfRec) (wins : Bool) → is_better y x ≡ wins
        → (if n && (not b || wins) then (if n then Some y else None) else (if b then Some x else None))
        ≡ kept (if b then Some x else None) (if n then Some y else None)
    by_there b false x y wins is = refl
    by_there false true x y wins is = refl
    by_there true true x y true is = rw is refl
    by_there true true x y false is = rw is refl

-- the first best, by the next route from the best so far
abbrev pub best_after : Option OspfRec → List OspfRec → Option OspfRec
best_after best offers = fold better_of best offers

pub routes_at : (w : Reading) (recs : List SymOspf) (i : ℕ) (d : SymOspf) (best : Option OspfRec) → i < length recs
    → (kept best (ospf_of w (get_or recs i d)) ≡ kept best (ospf_of w (get_or recs i d)))
    × (best_after best (filter_map (ospf_of w) (drop i recs))
    ≡ best_after (kept best (ospf_of w (get_or recs i d))) (filter_map (ospf_of w) (drop (i + 1) recs)))
routes_at w recs i d best within = (
  refl,
  ap (λ rs. best_after best (filter_map (ospf_of w) rs)) (drop_more recs i d within)
      ∙ by_there (ospf_of w (get_or recs i d)),
)
  where
    rest : List OspfRec
    rest = filter_map (ospf_of w) (drop (i + 1) recs)

    by_there : (o : Option OspfRec) → best_after best (cons_option o rest) ≡ best_after (kept best o) rest
    by_there None = refl
    by_there (Some x) = refl

pub routes_past : (w : Reading) (recs : List SymOspf) (i : ℕ) (best : Option OspfRec) → length recs ≤ i
    → best_after best (filter_map (ospf_of w) (drop i recs)) ≡ best
routes_past w recs i best past = ap (λ rs. best_after best (filter_map (ospf_of w) rs)) (drop_all i recs past)

-- a route of a list has its nodes below the list's end
pub routes_end_at : (recs : List SymOspf) (i : ℕ) (d : SymOspf) → i < length recs
    → ospf_end (get_or recs i d) ≤ routes_end recs
routes_end_at [] i d h = absurd (omega arith)
routes_end_at (s ∷ rest) zero d h = omega arith
routes_end_at (s ∷ rest) (suc i) d h = let deeper = routes_end_at rest i d (omega arith) in omega arith

pub ruleset best_steps = (routes_at, routes_past, routes_end_at)
