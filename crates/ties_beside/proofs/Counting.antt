-- Nodes of links that no pair has.
use Rattle.std.proofs.Common.{◌≡◌, ◌∙◌, ℕ, zero, suc, ◌+◌, ◌<◌, ◌≤◌, Bool, true}
use Rattle.std.proofs.Common.{false, cond, List, [], ◌∷◌, ◌++◌, ap, arith, sym, refl}
use Rattle.std.proofs.Common.{count_by, drop, get_or, length, map, max, if◌then◌else◌}
use Rattle.std.proofs.lemmas.List.{append_assoc, drop_all, drop_more}
use Rattle.std.proofs.lemmas.List.Sums.{sum_by-append, sum_by-cons}
use Rattle.term_store.specs.declared.NodeId.{NodeId}
use Rattle.term_store.specs.Terms.{Reading, at}
use Rattle.term_arith.specs.Bits.{ids_end}
use Rattle.sym_policy.proofs.NetworkBits.{ids_end-append}
use Rattle.joined_terms.specs.Joining.{behind, place_of}
use Rattle.paired_nets.specs.declared.links.LinkPair.{LinkPair}
use Rattle.ties_beside.proofs.Placing.{end_placed}
use Rattle.ties_beside.specs.Count.{is_own, own_from}

abbrev pub own_places : List NodeId → List LinkPair → ℕ → List NodeId → List NodeId
own_places places pairs i ids = map (place_of places) (own_from pairs i ids)

by_own : (places : List NodeId) (pairs : List LinkPair) (out : List NodeId) (i : ℕ) (id : NodeId) (ids : List NodeId)
    (own : Bool) →
    (if own then out ++ place_of places id ∷ [] else out) ++ own_places places pairs (suc i) ids
    ≡ out ++ map (place_of places) (if own then id ∷ own_from pairs (suc i) ids else own_from pairs (suc i) ids)
by_own places pairs out i id ids true = append_assoc out (place_of places id ∷ []) (own_places places pairs (suc i) ids)
by_own places pairs out i id ids false = refl

-- one link more
pub own_step : (places : List NodeId) (pairs : List LinkPair) (out ids : List NodeId) (i : ℕ) (d : NodeId) →
    i < length ids →
    (if is_own pairs i then out ++ place_of places (get_or ids i d) ∷ [] else out)
    ++ own_places places pairs (i + 1) (drop (i + 1) ids)
    ≡ out ++ own_places places pairs i (drop i ids)
unfolding own_from
own_step places pairs out ids i d less =
    ap (λ (n : ℕ). (if is_own pairs i then out ++ place_of places (get_or ids i d) ∷ [] else out)
    ++ own_places places pairs n (drop (i + 1) ids)) (omega arith)
    ∙ by_own places pairs out i (get_or ids i d) (drop (i + 1) ids) (is_own pairs i)
    ∙ ap (λ (rest : List NodeId). out ++ own_places places pairs i rest) (sym (drop_more ids i d less))

-- none is left
pub own_none : (places : List NodeId) (pairs : List LinkPair) (ids : List NodeId) (i : ℕ) → length ids ≤ i →
    own_places places pairs i (drop i ids) ≡ []
unfolding own_from
own_none places pairs [] zero past = refl
own_none places pairs [] (suc i) past = refl
own_none places pairs (id ∷ ids) zero past = absurd (omega (arith, past))
own_none places pairs (id ∷ ids) (suc i) past =
    ap (own_places places pairs (suc i)) (drop_all i ids (omega (arith, past)))

-- ---- where they end

end_by : (id : NodeId) (most : ℕ) (rest : List NodeId) (own : Bool) → id.0 + 1 ≤ most → ids_end rest ≤ most →
    ids_end (if own then id ∷ rest else rest) ≤ most
end_by id most rest true here le = omega (arith, here, le)
end_by id most rest false here le = le

own_end : (pairs : List LinkPair) (i most : ℕ) (ids : List NodeId) → ids_end ids ≤ most →
    ids_end (own_from pairs i ids) ≤ most
unfolding own_from
own_end pairs i most [] le = omega (arith, le)
own_end pairs i most (id ∷ ids) le =
    end_by id most (own_from pairs (suc i) ids) (is_own pairs i) (omega (arith, le))
    (own_end pairs (suc i) most ids (omega (arith, le)))

pub all_end : (places : List NodeId) (pairs : List LinkPair) (a b : List NodeId) (most : ℕ) → ids_end a ≤ most →
    ids_end b ≤ length places → ids_end places ≤ most → ids_end (a ++ own_places places pairs 0 b) ≤ most
all_end places pairs a b most first second within =
    let both = ids_end-append a (own_places places pairs 0 b) in
    let own = end_placed places (own_from pairs 0 b) (own_end pairs 0 (length places) b second) in
    omega (arith, both, own, first, within)

-- ---- how many are true

count_placed : (w : Reading) (places ids : List NodeId) →
    count_by (at w) (map (place_of places) ids) ≡ count_by (at (behind places w)) ids
count_placed w places [] = refl
count_placed w places (id ∷ ids) =
    sum_by-cons (λ x. cond (at w x) 1 0) (place_of places id) (map (place_of places) ids)
    ∙ ap (λ n. cond (at (behind places w) id) 1 0 + n) (count_placed w places ids)
    ∙ sym (sum_by-cons (λ x. cond (at (behind places w) x) 1 0) id ids)

pub count_all : (w : Reading) (places : List NodeId) (pairs : List LinkPair) (a b : List NodeId) →
    count_by (at w) (a ++ own_places places pairs 0 b)
    ≡ count_by (at w) a + count_by (at (behind places w)) (own_from pairs 0 b)
count_all w places pairs a b =
    sum_by-append (λ x. cond (at w x) 1 0) a (own_places places pairs 0 b)
    ∙ ap (λ n. count_by (at w) a + n) (count_placed w places (own_from pairs 0 b))
