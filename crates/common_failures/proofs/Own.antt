-- Links of the second network that no pair has.
use Rattle.std.proofs.Common.{◌≡◌, ◌∙◌, ℕ, ◌+◌, ◌≤◌, Bool, true, false, cond, List, [], ◌∷◌, Contains, arith, length, refl}
use Rattle.std.proofs.Common.{ap, count_by, suc, if◌then◌else◌}
use Rattle.std.specs.Prelude.{◌==◌, ◌↔◌, filter, nat_le}
use Rattle.std.specs.List.{list_any}
use Rattle.std.proofs.lemmas.Bool.{both_ways, eq-eqb, eqb-true, le-leb, leb-true, not-false, not-true}
use Rattle.std.proofs.lemmas.List.Folds.{Any-from_list_any, list_any-from_Any}
use Rattle.std.proofs.lemmas.List.Sums.{sum_by-cons}
use Rattle.paired_nets.specs.declared.links.LinkPair.{LinkPair}
use Rattle.sym_policy.specs.Held.{positions}
use Rattle.term_arith.specs.Bits.{bits}
use Rattle.term_store.specs.declared.NodeId.{NodeId}
use Rattle.term_store.specs.Terms.{Reading, at}
use Rattle.ties_beside.specs.Count.{is_own, own_from}
use Rattle.common_failures.specs.Failing.{own_failed}

-- each other link some pair has
pub pair_of : (pairs : List LinkPair) (other : ℕ) → is_own pairs other ≡ false →
    (pair : LinkPair) × Contains pairs pair × (pair.other ≡ other)
pair_of pairs other not_own =
    let found = Any-from_list_any (λ (pair : LinkPair). pair.other == other) pairs
    (not-false (list_any (λ (pair : LinkPair). pair.other == other) pairs) not_own) in
    (found.1, (found.0, found.2, found.3), eqb-true found.1.other other found.4)

-- and of these none
pub no_pair : (pairs : List LinkPair) (pair : LinkPair) → is_own pairs pair.other ≡ true → Contains pairs pair → ⊥
no_pair pairs pair own (k, within, is) =
    both_ways (list_any (λ p. p.other == pair.other) pairs)
    (not-true (list_any (λ p. p.other == pair.other) pairs) own)
    (list_any-from_Any (λ p. p.other == pair.other) pairs
    (k, pair, within, is, eq-eqb pair.other pair.other refl))

-- ---- as many links are read as failed as their nodes are true

pub counted : (w : Reading) (ids : List NodeId) (from : ℕ) →
    count_by (at w) ids ≡ length (positions from (bits w ids))
counted w [] from = refl
counted w (id ∷ ids) from =
    sum_by-cons (λ x. cond (at w x) 1 0) id ids ∙ by (at w id) (counted w ids (suc from))
  where
    by : (b : Bool) → count_by (at w) ids ≡ length (positions (suc from) (bits w ids)) →
        cond b 1 0 + count_by (at w) ids
        ≡ length (if b then from ∷ positions (suc from) (bits w ids) else positions (suc from) (bits w ids))
    by true same = omega (arith, same)
    by false same = omega (arith, same)

-- and as many of those that no pair has
pub own_counted : (w : Reading) (pairs : List LinkPair) (ids : List NodeId) (from : ℕ) →
    count_by (at w) (own_from pairs from ids) ≡ length (filter (is_own pairs) (positions from (bits w ids)))
unfolding own_from
own_counted w pairs [] from = refl
own_counted w pairs (id ∷ ids) from =
    by (is_own pairs from) refl (at w id) refl (own_counted w pairs ids (suc from))
  where
    own : List NodeId
    own = own_from pairs (suc from) ids

    failed : List ℕ
    failed = positions (suc from) (bits w ids)

    more : (c : Bool) → at w id ≡ c → count_by (at w) (id ∷ own) ≡ cond c 1 0 + count_by (at w) own
    more c is =
        sum_by-cons (λ x. cond (at w x) 1 0) id own ∙ ap (λ (d : Bool). cond d 1 0 + count_by (at w) own) is

    by : (b : Bool) → is_own pairs from ≡ b → (c : Bool) → at w id ≡ c →
        count_by (at w) own ≡ length (filter (is_own pairs) failed) →
        count_by (at w) (if b then id ∷ own else own)
        ≡ length (filter (is_own pairs) (if c then from ∷ failed else failed))
    by true is true holds same = let sum = more true holds in rw is (omega (arith, sum, same))
    by true is false fails same = let sum = more false fails in omega (arith, sum, same)
    by false is true holds same = rw is same
    by false is false fails same = same

-- so both together are at most so many where the others are
pub at_most : (w u : Reading) (pairs : List LinkPair) (a b : List NodeId) (most : ℕ) →
    nat_le (count_by (at w) a + count_by (at u) (own_from pairs 0 b)) most ≡ true
    ↔ length (positions 0 (bits w a)) + length (own_failed pairs (positions 0 (bits u b))) ≤ most
at_most w u pairs a b most =
    let one = counted w a 0 in
    let other = own_counted u pairs b 0 in
    let sum = count_by (at w) a + count_by (at u) (own_from pairs 0 b) in (
      λ holds. let le = leb-true sum most holds in omega (arith, one, other, le),
      λ few. le-leb sum most (omega (arith, one, other, few)),
    )
