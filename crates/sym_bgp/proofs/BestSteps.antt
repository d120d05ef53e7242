-- The best of flagged numbers, one after another.
use Rattle.std.proofs.Common.{◌≡◌, ℕ, zero, suc, ◌+◌, ◌-◌, ◌<◌, ◌≤◌, ◌&&◌, ◌||◌, Bool, true, false, not, if◌then◌else◌}
use Rattle.std.proofs.Common.{List, [], ◌∷◌, ◌++◌, length, drop, get_or, map, max, Option, Some, None, refl, sym, ap}
use Rattle.std.proofs.Common.{◌∙◌}
use Rattle.std.proofs.Common.{arith}
use Rattle.std.specs.Option.{option_map_or}
use Rattle.std.proofs.lemmas.Grind.{common_steps}
use Rattle.std.proofs.lemmas.List.{append-nil, drop_all, drop_more, length-append}
use Rattle.term_store.specs.declared.NodeId.{NodeId}
use Rattle.term_store.specs.Terms.{Reading, at}
use Rattle.term_arith.specs.Bits.{bits, ids_end}
use Rattle.term_arith.proofs.NumberLemmas.{ids_end_push, node_steps}
use Rattle.sym_policy.proofs.Rows.{with_push}
use Rattle.net_parts.specs.declared.steps.Step.{Step}
use Rattle.bgp_shapes.specs.Numbers.{best_of, better_of, compared_number, is_greater_better, kept_by, wins}
use Rattle.sym_bgp.specs.declared.parts.SymKey.{SymKey}
use Rattle.sym_bgp.specs.Keys.{key_at, key_end, keys_at, keys_end}

-- no best is there that wins
pub unbeaten_read : (there greater : Bool) (m n : ℕ) →
    not (there && wins greater m n)
    ≡ not (option_map_or (λ b. wins greater b n) (if there then Some m else None) false)
unbeaten_read true greater m n = refl
unbeaten_read false greater m n = refl

-- the better of two that may be there, part by part
pub better_read : (greater flag behind : Bool) (n m : ℕ) (there takes : Bool) (number : ℕ) → there ≡ (flag || behind) →
    takes ≡ (flag && not (option_map_or (λ b. wins greater b n) (if behind then Some m else None) false)) →
    number ≡ (if takes then n else m) →
    (if there then Some number else None) ≡ better_of greater flag n (if behind then Some m else None)
better_read greater flag behind n m there takes number there_is takes_is number_is =
    (λ i. if there_is i then Some ((number_is ∙ ap (λ b. if b then n else m) takes_is) i) else None)
    ∙ by_flags flag behind
  where
    by_win : (b : Bool) → Some (if not b then n else m) ≡ (if not b then Some n else Some m)
    by_win true = refl
    by_win false = refl

    by_flags : (f b : Bool) →
        (if f || b then Some (if f && not (option_map_or (λ x. wins greater x n) (if b then Some m else None) false)
        then n else m) else None)
        ≡ better_of greater f n (if b then Some m else None)
    by_flags true true = by_win (wins greater m n)
    by_flags true false = refl
    by_flags false true = refl
    by_flags false false = refl

-- the nodes of one key stand in the store of all
pub keys_end_at : (ks : List SymKey) (i : ℕ) (d : SymKey) → i < length ks → key_end (get_or ks i d) ≤ keys_end ks
keys_end_at [] i d h = omega arith
keys_end_at (k ∷ ks) zero d h = omega arith
keys_end_at (k ∷ ks) (suc j) d h = let rest = keys_end_at ks j d (omega arith) in omega (arith, rest)

-- the best with one more number in front
pub best_one_more : (w : Reading) (s : Step) (flags : List NodeId) (keys : List SymKey) (i : ℕ) (d : NodeId)
    (key : SymKey) → 0 < i → i ≤ length flags → i ≤ length keys → key ≡ get_or keys (i - 1) key →
    {greater : Bool} {value : ℕ} {rest best : Option ℕ} → greater ≡ is_greater_better s →
    value ≡ compared_number s (key_at w key) →
    rest ≡ best_of (is_greater_better s) (bits w (drop i flags)) (map (compared_number s) (keys_at w (drop i keys))) →
    best ≡ better_of greater (at w (get_or flags (i - 1) d)) value rest →
    best ≡ best_of (is_greater_better s) (bits w (drop (i - 1) flags))
    (map (compared_number s) (keys_at w (drop (i - 1) keys)))
best_one_more w s flags keys i d key above in_flags in_keys here greater_is value_is rest_is best_is =
    let n = compared_number s in
    let j = i - 1 in
    let flag = at w (get_or flags j d) in
    let next : j + 1 ≡ i = omega (arith, above) in
    let best : List NodeId → List SymKey → Option ℕ =
    λ fs ks. best_of (is_greater_better s) (bits w fs) (map n (keys_at w ks)) in
    best_is
    ∙ (λ k. better_of (greater_is k) flag (value_is k) (rest_is k))
    ∙ ap (λ k. best (get_or flags j d ∷ drop i flags) (k ∷ drop i keys)) here
    ∙ ap (λ m. best (get_or flags j d ∷ drop m flags) (get_or keys j key ∷ drop m keys)) (sym next)
    ∙ ap (λ fs. best fs (get_or keys j key ∷ drop (j + 1) keys))
    (sym (drop_more flags j d (omega (arith, in_flags, above))))
    ∙ ap (best (drop j flags)) (sym (drop_more keys j key (omega (arith, in_keys, above))))

-- none is left
pub best_end : (w : Reading) (greater : Bool) (s : Step) (flags : List NodeId) (keys : List SymKey) (i : ℕ) →
    length flags ≤ i →
    best_of greater (bits w (drop i flags)) (map (compared_number s) (keys_at w (drop i keys))) ≡ None
best_end w greater s flags keys i past =
    ap (λ fs. best_of greater (bits w fs) (map (compared_number s) (keys_at w (drop i keys)))) (drop_all i flags past)

pub ruleset best_steps = (node_steps, common_steps, keys_end_at, best_end)

-- no flag is left
pub kept_end : (w : Reading) (greater : Bool) (s : Step) (best : Option ℕ) (flags : List NodeId) (keys : List SymKey)
    (i : ℕ) → length flags ≤ i →
    kept_by greater best (bits w (drop i flags)) (map (compared_number s) (keys_at w (drop i keys))) ≡ []
kept_end w greater s best flags keys i past =
    ap (λ fs. kept_by greater best (bits w fs) (map (compared_number s) (keys_at w (drop i keys))))
    (drop_all i flags past)

-- a list with one more element
pub put_rows : {X : Type 0} (out after : List X) (x : X) (i : ℕ) → after ≡ out ++ x ∷ [] → length out ≡ i →
    length after ≡ i + 1
put_rows out after x i after_is before =
    let pushed = ap length after_is ∙ length-append out (x ∷ []) in omega (arith, pushed, before)

-- a list of nodes with one more, in a store that has grown
pub put_within : (out after : List NodeId) (node : NodeId) (old new : ℕ) → after ≡ out ++ node ∷ [] →
    ids_end out ≤ old → old ≤ new → node.0 < new → ids_end after ≤ new
put_within out after node old new after_is before grows here =
    let pushed = ap ids_end after_is ∙ ids_end_push out node in omega (arith, pushed, before, grows, here)

-- the kept flags with one more, which has this key and number
pub kept_one_more : (w : Reading) (s : Step) (best : Option ℕ) (flags : List NodeId) (keys : List SymKey) (i : ℕ)
    (d : NodeId) (key : SymKey) (out : List NodeId) (node : NodeId) → i < length flags → i < length keys →
    key ≡ get_or keys i key → {greater : Bool} {value : ℕ} {all : List Bool} → greater ≡ is_greater_better s →
    value ≡ compared_number s (key_at w key) →
    at w node ≡ (at w (get_or flags i d) && not (option_map_or (λ b. wins greater b value) best false)) →
    bits w out ++ kept_by (is_greater_better s) best (bits w (drop i flags))
    (map (compared_number s) (keys_at w (drop i keys))) ≡ all →
    bits w (out ++ node ∷ []) ++ kept_by (is_greater_better s) best (bits w (drop (i + 1) flags))
    (map (compared_number s) (keys_at w (drop (i + 1) keys))) ≡ all
kept_one_more w s best flags keys i d key out node in_flags in_keys here greater_is value_is node_is before =
    let n = compared_number s in
    let flag = at w (get_or flags i d) in
    let rest : List Bool =
    kept_by (is_greater_better s) best (bits w (drop (i + 1) flags)) (map n (keys_at w (drop (i + 1) keys))) in
    let kept : List NodeId → List SymKey → List Bool =
    λ fs ks. kept_by (is_greater_better s) best (bits w fs) (map n (keys_at w ks)) in
    with_push w out node rest
    ∙ ap (λ b. bits w out ++ b ∷ rest) node_is
    ∙ (λ k. bits w out ++ (flag && not (option_map_or (λ b. wins (greater_is k) b (value_is k)) best false)) ∷ rest)
    ∙ ap (λ k. bits w out ++ kept (get_or flags i d ∷ drop (i + 1) flags) (k ∷ drop (i + 1) keys)) here
    ∙ ap (λ fs. bits w out ++ kept fs (get_or keys i key ∷ drop (i + 1) keys)) (sym (drop_more flags i d in_flags))
    ∙ ap (λ ks. bits w out ++ kept (drop i flags) ks) (sym (drop_more keys i key in_keys))
    ∙ before

pub ruleset kept_steps = (node_steps, keys_end_at, kept_end, append-nil)
