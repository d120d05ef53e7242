-- Candidates, one after another, and what their flags say of a held route.
use Rattle.std.proofs.Common.{◌≡◌, ℕ, zero, suc, ◌+◌, ◌<◌, ◌≤◌, ◌&&◌, ◌||◌, Bool, true, false, not, List, [], ◌∷◌, ◌++◌}
use Rattle.std.proofs.Common.{length, drop, get_or, map, max, if◌then◌else◌, Some, None, refl, sym, ap, ◌∙◌}
use Rattle.std.proofs.Common.{arith}
use Rattle.std.specs.List.{cons_option, filter_map, list_any}
use Rattle.std.proofs.lemmas.Grind.{common_steps}
use Rattle.std.proofs.lemmas.List.{append-nil, append_assoc, drop_all, drop_more, map-append}
use Rattle.term_store.specs.declared.NodeId.{NodeId}
use Rattle.term_store.specs.Terms.{Reading, at}
use Rattle.term_arith.specs.Bits.{bits, ids_end}
use Rattle.term_arith.proofs.NumberLemmas.{ids_end_push, node_steps}
use Rattle.route_shapes.specs.Bgp.{BgpShape}
use Rattle.sym_policy.specs.declared.records.SymBgp.{SymBgp}
use Rattle.sym_policy.specs.Held.{bgp_at, bgp_of}
use Rattle.bgp_shapes.specs.Candidates.{ShapeCandidate, shape_key}
use Rattle.bgp_shapes.specs.Flags.{any_flagged, pick, surviving}
use Rattle.bgp_shapes.specs.Held.{held_shape, same_shape}
use Rattle.bgp_shapes.proofs.FlagLaw.{held_picked}
use Rattle.sym_bgp.specs.declared.parts.SymCand.{SymCand}
use Rattle.sym_bgp.specs.declared.parts.SymKey.{SymKey}
use Rattle.sym_bgp.specs.Candidates.{candidate_at, candidate_end, candidate_of, candidates_end}
use Rattle.sym_bgp.specs.Keys.{key_at, key_end, keys_at, keys_end}
use Rattle.sym_bgp.proofs.FlagSteps.{flagged_end, flagged_more}

-- the nodes of one candidate stand in the store of all
pub candidates_end_at : (cs : List SymCand) (i : ℕ) (d : SymCand) → i < length cs →
    candidate_end (get_or cs i d) ≤ candidates_end cs
candidates_end_at [] i d h = omega arith
candidates_end_at (c ∷ cs) zero d h = omega arith
candidates_end_at (c ∷ cs) (suc j) d h = let rest = candidates_end_at cs j d (omega arith) in omega (arith, rest)

pub keys_end_push : (ks : List SymKey) (k : SymKey) → keys_end (ks ++ k ∷ []) ≡ max (keys_end ks) (key_end k)
keys_end_push [] k = omega arith
keys_end_push (x ∷ ks) k = let rest = keys_end_push ks k in omega (arith, rest)

-- one more candidate, of which the node is put that says whether it is there
pub valid_more : (cs : List SymCand) (out : List NodeId) (i : ℕ) (c : SymCand) → i < length cs → c ≡ get_or cs i c →
    (out ++ c.rec.valid ∷ []) ++ map (λ c. c.rec.valid) (drop (i + 1) cs) ≡ out ++ map (λ c. c.rec.valid) (drop i cs)
valid_more cs out i c h here =
    append_assoc out (c.rec.valid ∷ []) (map (λ c. c.rec.valid) (drop (i + 1) cs))
    ∙ ap (λ (x : SymCand). out ++ x.rec.valid ∷ map (λ c. c.rec.valid) (drop (i + 1) cs)) here
    ∙ ap (λ xs. out ++ map (λ c. c.rec.valid) xs) (sym (drop_more cs i c h))

pub valid_within : (cs : List SymCand) (out : List NodeId) (i : ℕ) (c : SymCand) → i < length cs → c ≡ get_or cs i c →
    ids_end out ≤ candidates_end cs → ids_end (out ++ c.rec.valid ∷ []) ≤ candidates_end cs
valid_within cs out i c h here before =
    let all = candidates_end_at cs i c h in
    let end = ap candidate_end here in
    let pushed = ids_end_push out c.rec.valid in
    omega (arith, all, end, pushed, before)

pub valid_end : (cs : List SymCand) (out : List NodeId) (i : ℕ) → length cs ≤ i →
    out ++ map (λ c. c.rec.valid) (drop i cs) ≡ out
valid_end cs out i h = ap (λ xs. out ++ map (λ c. c.rec.valid) xs) (drop_all i cs h) ∙ append-nil out

pub ruleset valid_steps = (node_steps, valid_end)

-- a list of keys with one more, in a store that has grown
pub key_within : (out after : List SymKey) (k : SymKey) (old new : ℕ) → after ≡ out ++ k ∷ [] → keys_end out ≤ old →
    old ≤ new → key_end k ≤ new → keys_end after ≤ new
key_within out after k old new after_is before grows here =
    let pushed = ap keys_end after_is ∙ keys_end_push out k in omega (arith, pushed, before, grows, here)

-- one more key, that of this candidate
pub key_more : (w : Reading) (cs : List SymCand) (out : List SymKey) (k : SymKey) (i : ℕ) (c : SymCand) →
    i < length cs → c ≡ get_or cs i c → key_at w k ≡ shape_key (candidate_at w c) →
    keys_at w (out ++ k ∷ []) ++ map shape_key (map (candidate_at w) (drop (i + 1) cs))
    ≡ keys_at w out ++ map shape_key (map (candidate_at w) (drop i cs))
key_more w cs out k i c h here is =
    let rest = map shape_key (map (candidate_at w) (drop (i + 1) cs)) in
    ap (λ xs. xs ++ rest) (map-append (key_at w) out (k ∷ []))
    ∙ append_assoc (keys_at w out) (key_at w k ∷ []) rest
    ∙ ap (λ x. keys_at w out ++ x ∷ rest) is
    ∙ ap (λ x. keys_at w out ++ shape_key (candidate_at w x) ∷ rest) here
    ∙ ap (λ xs. keys_at w out ++ map shape_key (map (candidate_at w) xs)) (sym (drop_more cs i c h))

pub key_end_all : (w : Reading) (cs : List SymCand) (out : List SymKey) (i : ℕ) → length cs ≤ i →
    keys_at w out ++ map shape_key (map (candidate_at w) (drop i cs)) ≡ keys_at w out
key_end_all w cs out i h =
    ap (λ xs. keys_at w out ++ map shape_key (map (candidate_at w) xs)) (drop_all i cs h) ∙ append-nil (keys_at w out)

pub ruleset key_steps = (common_steps, candidates_end_at, keys_end_push, key_end_all)

-- one more candidate that may be held
pub held_more : (w : Reading) (flags : List NodeId) (cs : List SymCand) (s : BgpShape) (i : ℕ) (d : NodeId)
    (c : SymCand) → i < length flags → i < length cs → c ≡ get_or cs i c →
    (before now here all : Bool) → now ≡ (before || here) →
    here ≡ (at w (get_or flags i d) && same_shape (candidate_at w c).rec s) →
    (before || any_flagged (λ (c : ShapeCandidate). same_shape c.rec s) (bits w (drop i flags))
    (map (candidate_at w) (drop i cs))) ≡ all →
    (now || any_flagged (λ (c : ShapeCandidate). same_shape c.rec s) (bits w (drop (i + 1) flags))
    (map (candidate_at w) (drop (i + 1) cs))) ≡ all
held_more w flags cs s i d c in_flags in_cs at_place before now here all now_is here_is before_is =
    let test : ShapeCandidate → Bool = λ c. same_shape c.rec s in
    let flag = at w (get_or flags i d) in
    let rest = any_flagged test (bits w (drop (i + 1) flags)) (map (candidate_at w) (drop (i + 1) cs)) in
    ap (λ b. b || rest) now_is
    ∙ or_assoc before here rest
    ∙ ap (λ b. before || (b || rest)) here_is
    ∙ ap (λ x. before || ((flag && test (candidate_at w x)) || rest)) at_place
    ∙ ap (λ b. before || b)
    (sym (flagged_more w (candidate_at w) test flags cs i d c in_flags in_cs))
    ∙ before_is
  where
    or_assoc : (a b c : Bool) → ((a || b) || c) ≡ (a || (b || c))
    or_assoc true b c = refl
    or_assoc false b c = refl

pub held_end : (w : Reading) (flags : List NodeId) (cs : List SymCand) (s : BgpShape) (i : ℕ) → length flags ≤ i →
    any_flagged (λ (c : ShapeCandidate). same_shape c.rec s) (bits w (drop i flags)) (map (candidate_at w) (drop i cs))
    ≡ false
held_end w flags cs s i past =
    flagged_end w (candidate_at w) (λ (c : ShapeCandidate). same_shape c.rec s) flags cs i past

pub ruleset held_steps = (node_steps, common_steps, candidates_end_at, held_end)

-- ---- the candidates that are there

there_picked : (w : Reading) (cs : List SymCand) →
    pick (bits w (map (λ c. c.rec.valid) cs)) (map (candidate_at w) cs) ≡ filter_map (candidate_of w) cs
there_picked w [] = refl
there_picked w (c ∷ cs) = by_valid (at w c.rec.valid) (there_picked w cs)
  where
    by_valid : (b : Bool) →
        pick (bits w (map (λ c. c.rec.valid) cs)) (map (candidate_at w) cs) ≡ filter_map (candidate_of w) cs →
        (if b then candidate_at w c ∷ pick (bits w (map (λ c. c.rec.valid) cs)) (map (candidate_at w) cs)
        else pick (bits w (map (λ c. c.rec.valid) cs)) (map (candidate_at w) cs))
        ≡ cons_option (if b then Some (candidate_at w c) else None) (filter_map (candidate_of w) cs)
    by_valid true rest = ap (λ xs. candidate_at w c ∷ xs) rest
    by_valid false rest = rest

any_bits : (w : Reading) (ids : List NodeId) → list_any (at w) ids ≡ list_any (λ b. b) (bits w ids)
any_bits w [] = refl
any_bits w (id ∷ ids) = ap (λ b. at w id || b) (any_bits w ids)

lengths : (w : Reading) (cs : List SymCand) →
    length (bits w (map (λ c. c.rec.valid) cs)) ≡ length (map (candidate_at w) cs)
lengths w [] = refl
lengths w (c ∷ cs) = let rest = lengths w cs in omega (arith, rest)

-- a route is held by the nodes where it is held by the candidates that are there
pub survives_law : (w : Reading) (always compare_id : Bool) (cs : List SymCand) (held : SymBgp) (there : List NodeId)
    (none survives : Bool) → there ≡ map (λ c. c.rec.valid) cs → none ≡ not (list_any (at w) there) →
    survives ≡ any_flagged (λ (c : ShapeCandidate). same_shape c.rec (bgp_at w held))
    (surviving always compare_id (bits w there) (map shape_key (map (candidate_at w) cs))) (map (candidate_at w) cs) →
    (if at w held.valid then survives else none)
    ≡ held_shape always compare_id (filter_map (candidate_of w) cs) (bgp_of w held)
survives_law w always compare_id cs held there none survives there_is none_is survives_is =
    let shapes = map (candidate_at w) cs in
    let valid = bits w (map (λ (c : SymCand). c.rec.valid) cs) in
    let flags : bits w there ≡ valid = ap (bits w) there_is in
    let test : ShapeCandidate → Bool = λ c. same_shape c.rec (bgp_at w held) in
    let none_by : none ≡ not (list_any (λ b. b) valid) =
    none_is ∙ ap not (any_bits w there ∙ ap (list_any (λ b. b)) flags) in
    let survives_by : survives ≡ any_flagged test (surviving always compare_id valid (map shape_key shapes)) shapes =
    survives_is ∙ ap (λ fs. any_flagged test (surviving always compare_id fs (map shape_key shapes)) shapes) flags in
    (λ i. if at w held.valid then survives_by i else none_by i)
    ∙ held_picked always compare_id valid shapes (at w held.valid) (bgp_at w held) (lengths w cs)
    ∙ ap (λ xs. held_shape always compare_id xs (bgp_of w held)) (there_picked w cs)
