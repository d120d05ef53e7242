-- Whether a route is a distance, and tests that hold of all numbers below one.
use Rattle.std.proofs.Common.{◌≡◌, ℕ, zero, suc, ◌+◌, ◌<◌, Bool, true, false, not}
use Rattle.std.proofs.Common.{Some, None, refl, ap, arith, if◌then◌else◌}
use Rattle.std.specs.Prelude.{◌==◌, ◌&&◌, ◌||◌}
use Rattle.std.proofs.lemmas.Bool.{and_from}
use Rattle.std.proofs.lemmas.Option.{slice_get-get_or}
use Rattle.route_record.specs.declared.OspfKind.TheVariants.{Internal, Ext1, Ext2}
use Rattle.route_record.specs.declared.OspfRec.{OspfRec}
use Rattle.term_store.specs.Terms.{differ}
use Rattle.sym_policy.specs.Held.{kind_of_number}
use Rattle.mw_text.specs.Members.{all_below}
use Rattle.sym_ospf.specs.Rows.{is_distance, is_internal}

-- number 0 is the internal kind
pub internal_is : (n : ℕ) → (n == 0) ≡ is_internal (kind_of_number n)
internal_is n = by_tests (n == 0) (n == 1) where
  by_tests : (a b : Bool) → a ≡ is_internal (if a then Internal else (if b then Ext1 else Ext2))
  by_tests true b = refl
  by_tests false true = refl
  by_tests false false = refl

-- both are there or neither, and where they are the fields agree
pub distance_is : (b t : Bool) (x : OspfRec) (n : ℕ)
    → (not (differ b t) && (not b || (is_internal x.kind && ((x.metric == 0) && (x.cost == n)))))
    ≡ is_distance (if b then Some x else None) (if t then Some n else None)
distance_is true true x n = refl
distance_is true false x n = refl
distance_is false true x n = refl
distance_is false false x n = refl

-- one more number
pub all_more : (f : ℕ → Bool) (n : ℕ) → all_below f (n + 1) ≡ (all_below f n && f n)
all_more f n = let next : n + 1 ≡ suc n = omega arith in ap (all_below f) next

pub all_none : (f : ℕ → Bool) (n : ℕ) → n ≡ 0 → all_below f n ≡ true
all_none f n is = ap (all_below f) is

pub ruleset all_steps = (all_more, all_none)

pub ruleset equation_steps = (slice_get-get_or)

pub all_from : (f : ℕ → Bool) (n : ℕ) → ((k : ℕ) → k < n → f k ≡ true) → all_below f n ≡ true
all_from f zero each = refl
all_from f (suc n) each =
    and_from (all_below f n) (f n) (all_from f n (λ k within. each k (omega (arith, within)))) (each n (omega arith))
