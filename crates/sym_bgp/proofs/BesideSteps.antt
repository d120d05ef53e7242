-- What is left beside a held route, one key after another.
use Rattle.std.proofs.Common.{◌≡◌, ℕ, zero, suc, ◌+◌, ◌<◌, ◌≤◌, ◌&&◌, ◌||◌, Bool, false, not, List, [], ◌∷◌, ◌++◌}
use Rattle.std.proofs.Common.{length, drop, get_or, map, fold, refl, sym, ap, ◌∙◌, arith}
use Rattle.std.proofs.lemmas.Grind.{common_steps}
use Rattle.std.proofs.lemmas.List.{append-nil, drop_all, drop_more}
use Rattle.term_store.specs.declared.NodeId.{NodeId}
use Rattle.term_store.specs.Terms.{Reading, at}
use Rattle.term_arith.specs.Bits.{bits}
use Rattle.term_arith.proofs.NumberLemmas.{node_steps}
use Rattle.sym_policy.proofs.Rows.{with_push}
use Rattle.net_parts.specs.declared.steps.Step.{Step}
use Rattle.net_parts.specs.Decisions.{Key}
use Rattle.bgp_shapes.specs.Flags.{any_flagged}
use Rattle.sym_bgp.specs.declared.parts.SymKey.{SymKey}
use Rattle.sym_bgp.specs.Beside.{Beside, is_better, level_of, levels, next_beside}
use Rattle.sym_bgp.specs.Keys.{key_at, keys_at}
use Rattle.sym_bgp.proofs.BestSteps.{keys_end_at}
use Rattle.sym_bgp.proofs.FlagSteps.{flagged_end, flagged_more}

-- one more key that may be better than that of the held route. The first half shows which
pub beaten_at : (w : Reading) (s : Step) (held : Key) (flags : List NodeId) (keys : List SymKey) (i : ℕ) (d : NodeId)
    (e : SymKey) → i < length flags → i < length keys →
    ((at w (get_or flags i d) && is_better s held (key_at w (get_or keys i e)))
    ≡ (at w (get_or flags i d) && is_better s held (key_at w (get_or keys i e))))
    × (any_flagged (is_better s held) (bits w (drop i flags)) (keys_at w (drop i keys))
    ≡ ((at w (get_or flags i d) && is_better s held (key_at w (get_or keys i e)))
    || any_flagged (is_better s held) (bits w (drop (i + 1) flags)) (keys_at w (drop (i + 1) keys))))
beaten_at w s held flags keys i d e in_flags in_keys =
    (refl, flagged_more w (key_at w) (is_better s held) flags keys i d e in_flags in_keys)

pub beaten_end : (w : Reading) (s : Step) (held : Key) (flags : List NodeId) (keys : List SymKey) (i : ℕ) →
    length flags ≤ i → any_flagged (is_better s held) (bits w (drop i flags)) (keys_at w (drop i keys)) ≡ false
beaten_end w s held flags keys i past = flagged_end w (key_at w) (is_better s held) flags keys i past

pub ruleset beaten_steps = (node_steps, common_steps, keys_end_at, beaten_at, beaten_end)

-- the flags of what is as good with one more, which has this key
pub level_one_more : (w : Reading) (s : Step) (held : Key) (flags : List NodeId) (keys : List SymKey) (i : ℕ)
    (d : NodeId) (key : SymKey) (out : List NodeId) (node : NodeId) → i < length flags → i < length keys →
    key ≡ get_or keys i key → {all : List Bool} →
    at w node ≡ (at w (get_or flags i d) && levels s held (key_at w key)) →
    bits w out ++ level_of s held (bits w (drop i flags)) (keys_at w (drop i keys)) ≡ all →
    bits w (out ++ node ∷ []) ++ level_of s held (bits w (drop (i + 1) flags)) (keys_at w (drop (i + 1) keys)) ≡ all
level_one_more w s held flags keys i d key out node in_flags in_keys here node_is before =
    let flag = at w (get_or flags i d) in
    let rest = level_of s held (bits w (drop (i + 1) flags)) (keys_at w (drop (i + 1) keys)) in
    let level : List NodeId → List SymKey → List Bool = λ fs ks. level_of s held (bits w fs) (keys_at w ks) in
    with_push w out node rest
    ∙ ap (λ b. bits w out ++ b ∷ rest) node_is
    ∙ ap (λ k. bits w out ++ level (get_or flags i d ∷ drop (i + 1) flags) (k ∷ drop (i + 1) keys)) here
    ∙ ap (λ fs. bits w out ++ level fs (get_or keys i key ∷ drop (i + 1) keys)) (sym (drop_more flags i d in_flags))
    ∙ ap (λ ks. bits w out ++ level (drop i flags) ks) (sym (drop_more keys i key in_keys))
    ∙ before

pub level_end : (w : Reading) (s : Step) (held : Key) (flags : List NodeId) (keys : List SymKey) (i : ℕ) →
    length flags ≤ i → level_of s held (bits w (drop i flags)) (keys_at w (drop i keys)) ≡ []
level_end w s held flags keys i past =
    ap (λ fs. level_of s held (bits w fs) (keys_at w (drop i keys))) (drop_all i flags past)

pub ruleset level_steps = (node_steps, keys_end_at, level_end, append-nil)

-- one step of those that are left. The first half shows which
pub beside_more : (held : Key) (keys : List Key) (l : Beside) (steps : List Step) (i : ℕ) (d : Step) →
    i < length steps →
    (next_beside held keys l (get_or steps i d) ≡ next_beside held keys l (get_or steps i d))
    × (fold (next_beside held keys) l (drop i steps)
    ≡ fold (next_beside held keys) (next_beside held keys l (get_or steps i d)) (drop (i + 1) steps))
beside_more held keys l steps i d within = (refl, ap (fold (next_beside held keys) l) (drop_more steps i d within))

pub beside_end : (held : Key) (keys : List Key) (l : Beside) (steps : List Step) (i : ℕ) → length steps ≤ i →
    fold (next_beside held keys) l (drop i steps) ≡ l
beside_end held keys l steps i past = ap (fold (next_beside held keys) l) (drop_all i steps past)

pub ruleset beside_steps = (common_steps, beside_more, beside_end)
