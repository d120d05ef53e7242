-- Ranges of ports, and how many links fail.
use Rattle.std.proofs.Common.{◌≡◌, ℕ, suc, ◌+◌, Bool, true, false, not, List, [], ◌∷◌, length, refl, ap, sym, arith, ◌∙◌}
use Rattle.std.specs.Prelude.{cond, nat_le, nat_lt, if◌then◌else◌}
use Rattle.std.specs.List.{count_by}
use Rattle.std.proofs.lemmas.List.Sums.{sum_by-cons}
use Rattle.term_store.specs.declared.NodeId.{NodeId}
use Rattle.term_store.specs.Terms.{Reading, at}
use Rattle.term_arith.specs.Bits.{bits}
use Rattle.term_arith.proofs.CountLemmas.{not_more}
use Rattle.sym_policy.specs.Held.{positions}

-- a number that is not below another is at least it, and one that is not above it at most
pub at_least : (port first range : ℕ) → first ≡ range → not (nat_lt port first) ≡ nat_le range port
at_least port first range same = not_more port first ∙ ap (λ n. nat_le n port) same

pub at_greatest : (port last range : ℕ) → last ≡ range → not (nat_lt last port) ≡ nat_le port range
at_greatest port last range same = not_more last port ∙ ap (nat_le port) same

-- as many links fail as their nodes are true
counted : (w : Reading) (ids : List NodeId) (first : ℕ) → length (positions first (bits w ids)) ≡ count_by (at w) ids
counted w [] first = refl
counted w (id ∷ ids) first =
    by_node (at w id) (counted w ids (suc first)) ∙ sym (sum_by-cons (λ x. cond (at w x) 1 0) id ids)
  where
    by_node : (b : Bool) → length (positions (suc first) (bits w ids)) ≡ count_by (at w) ids →
        length (if b then first ∷ positions (suc first) (bits w ids) else positions (suc first) (bits w ids))
        ≡ cond b 1 0 + count_by (at w) ids
    by_node true same = omega (arith, same)
    by_node false same = omega (arith, same)

pub as_many_fail : (w : Reading) (ids : List NodeId) → length (positions 0 (bits w ids)) ≡ count_by (at w) ids
as_many_fail w ids = counted w ids 0
