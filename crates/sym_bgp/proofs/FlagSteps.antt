-- Flags beside keys, one after another.
use Rattle.std.proofs.Common.{◌≡◌, ℕ, zero, suc, ◌+◌, ◌<◌, ◌≤◌, ◌&&◌, ◌||◌, Bool, true, false, not, List, [], ◌∷◌, ◌++◌}
use Rattle.std.proofs.Common.{length, drop, get_or, map, fold, refl, sym, ap, ◌∙◌, arith}
use Rattle.std.proofs.lemmas.Grind.{common_steps}
use Rattle.std.proofs.lemmas.List.{append-nil, drop_all, drop_more}
use Rattle.term_store.specs.declared.NodeId.{NodeId}
use Rattle.term_store.specs.Terms.{Reading, at}
use Rattle.term_arith.specs.Bits.{bits}
use Rattle.term_arith.proofs.NumberLemmas.{node_steps}
use Rattle.sym_policy.proofs.Rows.{with_push}
use Rattle.net_parts.specs.declared.steps.Step.{Step}
use Rattle.net_parts.specs.declared.steps.Step.TheVariants.{Weight, Preference, Origination, PathLength, Origin, Med}
use Rattle.net_parts.specs.declared.steps.Step.TheVariants.{Session, Cost, Identifier, Clusters, Address}
use Rattle.net_parts.specs.Decisions.{Key, removes}
use Rattle.bgp_shapes.specs.Flags.{any_flagged, left, left_of}
use Rattle.bgp_shapes.specs.Numbers.{compares_all}
use Rattle.sym_bgp.specs.declared.parts.SymKey.{SymKey}
use Rattle.sym_bgp.specs.Beside.{is_better, is_by_pairs, is_same_as}
use Rattle.sym_bgp.specs.Keys.{key_at, keys_at}
use Rattle.sym_bgp.proofs.BestSteps.{keys_end_at}
use Rattle.sym_bgp.proofs.BesideLaw.{removes_better}

-- a test of one more of what is flagged
pub flagged_more : {X Y : Type 0} (w : Reading) (f : X → Y) (test : Y → Bool) (flags : List NodeId) (xs : List X)
    (i : ℕ) (d : NodeId) (e : X) → i < length flags → i < length xs →
    any_flagged test (bits w (drop i flags)) (map f (drop i xs))
    ≡ ((at w (get_or flags i d) && test (f (get_or xs i e)))
    || any_flagged test (bits w (drop (i + 1) flags)) (map f (drop (i + 1) xs)))
flagged_more w f test flags xs i d e in_flags in_xs =
    ap (λ fs. any_flagged test (bits w fs) (map f (drop i xs))) (drop_more flags i d in_flags)
    ∙ ap (λ ys. any_flagged test (bits w (get_or flags i d ∷ drop (i + 1) flags)) (map f ys)) (drop_more xs i e in_xs)

pub flagged_end : {X Y : Type 0} (w : Reading) (f : X → Y) (test : Y → Bool) (flags : List NodeId) (xs : List X)
    (i : ℕ) → length flags ≤ i → any_flagged test (bits w (drop i flags)) (map f (drop i xs)) ≡ false
flagged_end w f test flags xs i past =
    ap (λ fs. any_flagged test (bits w fs) (map f (drop i xs))) (drop_all i flags past)

-- one key removes another part by part
removes_parts : (s : Step) (c other : Key) → (is_same_as s c other && is_better s c other) ≡ removes false s c other
removes_parts Weight c other = sym (removes_better false Weight c other refl)
removes_parts Preference c other = sym (removes_better false Preference c other refl)
removes_parts Origination c other = sym (removes_better false Origination c other refl)
removes_parts PathLength c other = sym (removes_better false PathLength c other refl)
removes_parts Origin c other = sym (removes_better false Origin c other refl)
removes_parts Med c other = refl
removes_parts Session c other = sym (removes_better false Session c other refl)
removes_parts Cost c other = sym (removes_better false Cost c other refl)
removes_parts Identifier c other = sym (removes_better false Identifier c other refl)
removes_parts Clusters c other = sym (removes_better false Clusters c other refl)
removes_parts Address c other = sym (removes_better false Address c other refl)

pub removes_read : (s : Step) (c other : Key) (flag won same here all : Bool) → won ≡ is_better s c other →
    same ≡ is_same_as s c other → here ≡ (same && won) → all ≡ (flag && here) →
    all ≡ (flag && removes false s c other)
removes_read s c other flag won same here all won_is same_is here_is all_is =
    all_is ∙ ap (λ b. flag && b) (here_is ∙ (λ i. same_is i && won_is i) ∙ removes_parts s c other)

-- one more key that may remove another. The first half shows which
pub removed_at : (w : Reading) (s : Step) (c : Key) (flags : List NodeId) (keys : List SymKey) (i : ℕ) (d : NodeId)
    (e : SymKey) → i < length flags → i < length keys →
    ((at w (get_or flags i d) && removes false s c (key_at w (get_or keys i e)))
    ≡ (at w (get_or flags i d) && removes false s c (key_at w (get_or keys i e))))
    × (any_flagged (removes false s c) (bits w (drop i flags)) (keys_at w (drop i keys))
    ≡ ((at w (get_or flags i d) && removes false s c (key_at w (get_or keys i e)))
    || any_flagged (removes false s c) (bits w (drop (i + 1) flags)) (keys_at w (drop (i + 1) keys))))
removed_at w s c flags keys i d e in_flags in_keys =
    (refl, flagged_more w (key_at w) (removes false s c) flags keys i d e in_flags in_keys)

pub removed_end : (w : Reading) (s : Step) (c : Key) (flags : List NodeId) (keys : List SymKey) (i : ℕ) →
    length flags ≤ i → any_flagged (removes false s c) (bits w (drop i flags)) (keys_at w (drop i keys)) ≡ false
removed_end w s c flags keys i past = flagged_end w (key_at w) (removes false s c) flags keys i past

pub ruleset removed_steps = (node_steps, common_steps, keys_end_at, removed_at, removed_end)

-- one more flag after a step. The first half shows which
pub left_at : (w : Reading) (s : Step) (all : List Bool) (ks : List Key) (flags : List NodeId) (keys : List SymKey)
    (i : ℕ) (d : NodeId) (e : SymKey) → i < length flags → i < length keys →
    ((at w (get_or flags i d) && not (any_flagged (removes false s (key_at w (get_or keys i e))) all ks))
    ≡ (at w (get_or flags i d) && not (any_flagged (removes false s (key_at w (get_or keys i e))) all ks)))
    × (left_of false s all ks (bits w (drop i flags)) (keys_at w (drop i keys))
    ≡ (at w (get_or flags i d) && not (any_flagged (removes false s (key_at w (get_or keys i e))) all ks))
    ∷ left_of false s all ks (bits w (drop (i + 1) flags)) (keys_at w (drop (i + 1) keys)))
left_at w s all ks flags keys i d e in_flags in_keys = (
  refl,
  ap (λ fs. left_of false s all ks (bits w fs) (keys_at w (drop i keys))) (drop_more flags i d in_flags)
      ∙ ap (λ xs. left_of false s all ks (bits w (get_or flags i d ∷ drop (i + 1) flags)) (keys_at w xs))
      (drop_more keys i e in_keys),
)

pub left_end : (w : Reading) (s : Step) (all : List Bool) (ks : List Key) (flags : List NodeId) (keys : List SymKey)
    (i : ℕ) → length flags ≤ i → left_of false s all ks (bits w (drop i flags)) (keys_at w (drop i keys)) ≡ []
left_end w s all ks flags keys i past =
    ap (λ fs. left_of false s all ks (bits w fs) (keys_at w (drop i keys))) (drop_all i flags past)

pub ruleset left_steps = (node_steps, keys_end_at, left_at, left_end, with_push, append-nil)

-- a step that goes key against key is that of the MED within one neighbouring AS, or never looks at `always`
pub pairs_left : (always fixed : Bool) (s : Step) (flags : List Bool) (keys : List Key) →
    is_by_pairs always fixed s ≡ true → left false keys flags s ≡ left always keys flags s
pairs_left always fixed Weight flags keys pairs = refl
pairs_left always fixed Preference flags keys pairs = refl
pairs_left always fixed Origination flags keys pairs = refl
pairs_left always fixed PathLength flags keys pairs = refl
pairs_left always fixed Origin flags keys pairs = refl
pairs_left true fixed Med flags keys pairs = cc
pairs_left false fixed Med flags keys pairs = refl
pairs_left always fixed Session flags keys pairs = refl
pairs_left always fixed Cost flags keys pairs = refl
pairs_left always fixed Identifier flags keys pairs = refl
pairs_left always fixed Clusters flags keys pairs = refl
pairs_left always fixed Address flags keys pairs = refl

-- each other step compares all
pub best_all : (always fixed : Bool) (s : Step) → is_by_pairs always fixed s ≡ false → compares_all always s ≡ true
best_all always fixed Weight best = refl
best_all always fixed Preference best = refl
best_all always fixed Origination best = refl
best_all always fixed PathLength best = refl
best_all always fixed Origin best = refl
best_all true fixed Med best = refl
best_all false fixed Med best = cc
best_all always fixed Session best = refl
best_all always fixed Cost best = refl
best_all always fixed Identifier best = refl
best_all always fixed Clusters best = refl
best_all always fixed Address best = refl

pub ruleset step_left = (pairs_left)

-- one step of those that are left. The first half shows which
pub fold_more : (always : Bool) (keys : List Key) (flags : List Bool) (steps : List Step) (i : ℕ) (d : Step) →
    i < length steps →
    (left always keys flags (get_or steps i d) ≡ left always keys flags (get_or steps i d))
    × (fold (left always keys) flags (drop i steps)
    ≡ fold (left always keys) (left always keys flags (get_or steps i d)) (drop (i + 1) steps))
fold_more always keys flags steps i d within = (refl, ap (fold (left always keys) flags) (drop_more steps i d within))

pub fold_end : (always : Bool) (keys : List Key) (flags : List Bool) (steps : List Step) (i : ℕ) → length steps ≤ i →
    fold (left always keys) flags (drop i steps) ≡ flags
fold_end always keys flags steps i past = ap (fold (left always keys) flags) (drop_all i steps past)

pub ruleset fold_steps = (common_steps, fold_more, fold_end)

-- one more key that may be external. The first half shows which
pub external_at : (w : Reading) (flags : List NodeId) (keys : List SymKey) (i : ℕ) (d : NodeId) (e : SymKey) →
    i < length flags → i < length keys →
    ((at w (get_or flags i d) && (key_at w (get_or keys i e)).external)
    ≡ (at w (get_or flags i d) && (key_at w (get_or keys i e)).external))
    × (any_flagged (λ (k : Key). k.external) (bits w (drop i flags)) (keys_at w (drop i keys))
    ≡ ((at w (get_or flags i d) && (key_at w (get_or keys i e)).external)
    || any_flagged (λ (k : Key). k.external) (bits w (drop (i + 1) flags)) (keys_at w (drop (i + 1) keys))))
external_at w flags keys i d e in_flags in_keys =
    (refl, flagged_more w (key_at w) (λ (k : Key). k.external) flags keys i d e in_flags in_keys)

pub external_end : (w : Reading) (flags : List NodeId) (keys : List SymKey) (i : ℕ) → length flags ≤ i →
    any_flagged (λ (k : Key). k.external) (bits w (drop i flags)) (keys_at w (drop i keys)) ≡ false
external_end w flags keys i past = flagged_end w (key_at w) (λ (k : Key). k.external) flags keys i past

pub ruleset external_steps = (node_steps, common_steps, keys_end_at, external_at, external_end)
