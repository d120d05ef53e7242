-- What a step removes is what the best of those that are left wins against.
use Rattle.std.proofs.Common.{◌≡◌, ℕ, ◌==◌, ◌&&◌, ◌||◌, Bool, true, false, not, nat_lt, if◌then◌else◌, List, [], ◌∷◌}
use Rattle.std.proofs.Common.{Option, Some, None, map, refl, sym, ap, ◌∙◌, arith}
use Rattle.std.specs.Option.{option_map_or}
use Rattle.std.proofs.lemmas.Bool.Decides.{nat_tests}
use Rattle.net_parts.specs.declared.steps.Step.{Step}
use Rattle.net_parts.specs.declared.steps.Step.TheVariants.{Weight, Preference, Origination, PathLength, Origin, Med}
use Rattle.net_parts.specs.declared.steps.Step.TheVariants.{Session, Cost, Identifier, Clusters, Address}
use Rattle.net_parts.specs.Decisions.{Key, removes}
use Rattle.bgp_shapes.specs.Flags.{any_flagged, left, left_of}
use Rattle.bgp_shapes.specs.Numbers.{best_of, better_of, compared_number, compares_all, is_greater_better, mark_number}
use Rattle.bgp_shapes.specs.Numbers.{kept_by, wins}

marks_wins : (c other : Bool) → (not c && other) ≡ wins true (mark_number other) (mark_number c)
marks_wins true other = by_mark other
  where
    by_mark : (b : Bool) → false ≡ nat_lt 1 (mark_number b)
    by_mark true = refl
    by_mark false = refl
marks_wins false true = refl
marks_wins false false = refl

-- one key removes another where its number wins
removes_wins : (always : Bool) (s : Step) (c other : Key) → compares_all always s ≡ true →
    removes always s c other ≡ wins (is_greater_better s) (compared_number s other) (compared_number s c)
removes_wins always Weight c other all = refl
removes_wins always Preference c other all = refl
removes_wins always Origination c other all = marks_wins c.local other.local
removes_wins always PathLength c other all = refl
removes_wins always Origin c other all = refl
removes_wins always Med c other all = ap (λ b. (b || (c.first == other.first)) && nat_lt other.med c.med) all
removes_wins always Session c other all = marks_wins c.external other.external
removes_wins always Cost c other all = refl
removes_wins always Identifier c other all = refl
removes_wins always Clusters c other all = refl
removes_wins always Address c other all = refl

first_better : (greater : Bool) (m b n : ℕ) → wins greater b m ≡ true →
    (wins greater m n || wins greater b n) ≡ wins greater b n
first_better true m b n better = grind (arith, nat_tests)
first_better false m b n better = grind (arith, nat_tests)

first_not : (greater : Bool) (m b n : ℕ) → wins greater b m ≡ false →
    (wins greater m n || wins greater b n) ≡ wins greater m n
first_not true m b n better = grind (arith, nat_tests)
first_not false m b n better = grind (arith, nat_tests)

better_wins : (greater f : Bool) (m n : ℕ) (rest : Option ℕ) →
    ((f && wins greater m n) || option_map_or (λ b. wins greater b n) rest false)
    ≡ option_map_or (λ b. wins greater b n) (better_of greater f m rest) false
better_wins greater false m n rest = refl
better_wins greater true m n None = or_false (wins greater m n)
  where
    or_false : (b : Bool) → (b || false) ≡ b
    or_false true = refl
    or_false false = refl
better_wins greater true m n (Some b) = by_test (wins greater b m) refl
  where
    by_test : (t : Bool) → wins greater b m ≡ t →
        (wins greater m n || wins greater b n)
        ≡ option_map_or (λ x. wins greater x n) (if not t then Some m else Some b) false
    by_test true is = first_better greater m b n is
    by_test false is = first_not greater m b n is

-- some flagged number wins where the best of them does
flagged_best : {X : Type 0} (greater : Bool) (f : X → ℕ) (n : ℕ) (flags : List Bool) (xs : List X) →
    any_flagged (λ x. wins greater (f x) n) flags xs
    ≡ option_map_or (λ b. wins greater b n) (best_of greater flags (map f xs)) false
flagged_best greater f n [] xs = refl
flagged_best greater f n (b ∷ flags) [] = refl
flagged_best greater f n (b ∷ flags) (x ∷ xs) =
    ap (λ rest. (b && wins greater (f x) n) || rest) (flagged_best greater f n flags xs)
    ∙ better_wins greater b (f x) n (best_of greater flags (map f xs))

-- so it is with what a step removes
pub removed_best : (always : Bool) (s : Step) (c : Key) (flags : List Bool) (keys : List Key) →
    compares_all always s ≡ true → any_flagged (removes always s c) flags keys
    ≡ option_map_or (λ b. wins (is_greater_better s) b (compared_number s c))
    (best_of (is_greater_better s) flags (map (compared_number s) keys)) false
removed_best always s c flags keys all =
    ap (λ test. any_flagged test flags keys) (λ i other. removes_wins always s c other all i)
    ∙ flagged_best (is_greater_better s) (compared_number s) (compared_number s c) flags keys

kept_of : (always : Bool) (s : Step) (flags : List Bool) (keys : List Key) (fs : List Bool) (cs : List Key) →
    compares_all always s ≡ true →
    kept_by (is_greater_better s) (best_of (is_greater_better s) flags (map (compared_number s) keys)) fs
    (map (compared_number s) cs)
    ≡ left_of always s flags keys fs cs
kept_of always s flags keys [] cs all = refl
kept_of always s flags keys (f ∷ fs) [] all = refl
kept_of always s flags keys (f ∷ fs) (c ∷ cs) all =
    ap (λ b. (f && not b) ∷ kept_by (is_greater_better s)
    (best_of (is_greater_better s) flags (map (compared_number s) keys)) fs (map (compared_number s) cs))
    (sym (removed_best always s c flags keys all))
    ∙ ap (λ bs. (f && not (any_flagged (removes always s c) flags keys)) ∷ bs)
    (kept_of always s flags keys fs cs all)

-- the flags that a step leaves
pub kept_left : (always : Bool) (s : Step) (flags : List Bool) (keys : List Key) → compares_all always s ≡ true →
    kept_by (is_greater_better s) (best_of (is_greater_better s) flags (map (compared_number s) keys)) flags
    (map (compared_number s) keys)
    ≡ left always keys flags s
kept_left always s flags keys all = kept_of always s flags keys flags keys all
