-- A route survives beside the others where it survives among them.
use Rattle.std.proofs.Common.{◌≡◌, ℕ, ◌==◌, ◌&&◌, ◌||◌, Bool, true, false, not, nat_lt, if◌then◌else◌, List, [], ◌∷◌, All}
use Rattle.std.proofs.Common.{map, fold, refl, sym, ap, ◌∙◌, arith}
use Rattle.std.proofs.lemmas.Bool.Decides.{nat_tests}
use Rattle.std.proofs.lemmas.List.Elements.{All-cons, All-head, All-nil, All-tail}
use Rattle.std.proofs.Math.Bool.{and-false, and_assoc, or-false}
use Rattle.net_parts.specs.declared.steps.Step.{Step}
use Rattle.net_parts.specs.declared.steps.Step.TheVariants.{Weight, Preference, Origination, PathLength, Origin}
use Rattle.net_parts.specs.Decisions.{Key, after_cost, removes}
use Rattle.route_record.specs.Shape.{marked_number}
use Rattle.route_shapes.specs.Bgp.{BgpShape}
use Rattle.bgp_shapes.specs.Candidates.{ShapeCandidate, shape_key}
use Rattle.bgp_shapes.specs.Flags.{any_flagged, compared, left, left_of, surviving}
use Rattle.bgp_shapes.specs.Held.{same_marks, same_path, same_peers, same_preferences, same_shape}
use Rattle.bgp_shapes.specs.Messages.{lacks_address}
use Rattle.bgp_shapes.specs.Numbers.{compared_number, compares_all, is_greater_better, mark_number, wins}
use Rattle.bgp_shapes.proofs.NumberLaw.{removed_best}
use Rattle.sym_bgp.specs.Beside.{Beside, all_beside, behind_ranked, is_better, key_beside, level_of, levels}
use Rattle.sym_bgp.specs.Beside.{next_beside, ranked, surviving_last}

-- ---- one key against another

pub removes_better : (always : Bool) (s : Step) (c other : Key) → compares_all always s ≡ true →
    removes always s c other ≡ is_better s c other
removes_better always s c other all =
    sym (or-false (removes always s c other)) ∙ removed_best always s c (true ∷ []) (other ∷ []) all

-- so it removes each that has the same number as one that it removes
removes_level : (always : Bool) (s : Step) (c held : Key) (flags : List Bool) (keys : List Key) →
    compares_all always s ≡ true → compared_number s c ≡ compared_number s held →
    any_flagged (removes always s c) flags keys ≡ any_flagged (is_better s held) flags keys
removes_level always s c held flags keys all same =
    ap (λ test. any_flagged test flags keys) (λ i other. removes_better always s c other all i)
    ∙ ap (λ n. any_flagged (λ (k : Key). wins (is_greater_better s) (compared_number s k) n) flags keys) same

one_wins : (greater : Bool) (m n : ℕ) → wins greater m n ≡ false → (m == n) ≡ false → wins greater n m ≡ true
one_wins true m n first apart = grind (arith, nat_tests)
one_wins false m n first apart = grind (arith, nat_tests)

is_same : (m n : ℕ) → (m == n) ≡ true → m ≡ n
is_same m n same = grind (arith, nat_tests)

same_is : (m n : ℕ) → m ≡ n → (m == n) ≡ true
same_is m n same = grind (arith, nat_tests)

-- ---- what is flagged

neither_first : (a b : Bool) → (a || b) ≡ false → a ≡ false
neither_first true b h = cc
neither_first false b h = refl

neither_second : (a b : Bool) → (a || b) ≡ false → b ≡ false
neither_second true b h = cc
neither_second false b h = h

any_more : {X : Type 0} (p q : X → Bool) → ((x : X) → p x ≡ true → q x ≡ true) → (fs : List Bool) (xs : List X) →
    any_flagged p fs xs ≡ true → any_flagged q fs xs ≡ true
any_more p q more [] xs h = h
any_more p q more (f ∷ fs) [] h = h
any_more p q more (false ∷ fs) (x ∷ xs) h = any_more p q more fs xs h
any_more p q more (true ∷ fs) (x ∷ xs) h = by_test (p x) refl (any_more p q more fs xs) h
  where
    or_true : (b c : Bool) → c ≡ true → (b || c) ≡ true
    or_true true c is = refl
    or_true false c is = is

    by_test : (b : Bool) → p x ≡ b → (any_flagged p fs xs ≡ true → any_flagged q fs xs ≡ true) →
        (b || any_flagged p fs xs) ≡ true → (q x || any_flagged q fs xs) ≡ true
    by_test true is rest h = ap (λ b. b || any_flagged q fs xs) (more x is)
    by_test false is rest h = or_true (q x) (any_flagged q fs xs) (rest h)

-- what keeps no flag of a test that was not there
abbrev pub Shrinks : {X : Type 0} → (X → Bool) → List X → (List Bool → List Bool) → Type 0
Shrinks test xs kept = (fs : List Bool) → any_flagged test fs xs ≡ false → any_flagged test (kept fs) xs ≡ false

left_shrinks : {X : Type 0} (test : X → Bool) (always : Bool) (s : Step) (flags : List Bool) (keys : List Key)
    (fs : List Bool) (cs : List Key) (xs : List X) → any_flagged test fs xs ≡ false →
    any_flagged test (left_of always s flags keys fs cs) xs ≡ false
left_shrinks test always s flags keys [] cs xs h = h
left_shrinks test always s flags keys (f ∷ fs) [] xs h = refl
left_shrinks test always s flags keys (f ∷ fs) (c ∷ cs) [] h = refl
left_shrinks test always s flags keys (false ∷ fs) (c ∷ cs) (x ∷ xs) h =
    left_shrinks test always s flags keys fs cs xs h
left_shrinks test always s flags keys (true ∷ fs) (c ∷ cs) (x ∷ xs) h =
    (λ i. (not (any_flagged (removes always s c) flags keys) && neither_first (test x) (any_flagged test fs xs) h i)
    || any_flagged test (left_of always s flags keys fs cs) xs)
    ∙ ap (λ b. b || any_flagged test (left_of always s flags keys fs cs) xs)
    (and-false (not (any_flagged (removes always s c) flags keys)))
    ∙ left_shrinks test always s flags keys fs cs xs (neither_second (test x) (any_flagged test fs xs) h)

step_shrinks : {X : Type 0} (test : X → Bool) (always : Bool) (s : Step) (keys : List Key) (xs : List X) →
    Shrinks test xs (λ fs. left always keys fs s)
step_shrinks test always s keys xs fs h = left_shrinks test always s fs keys fs keys xs h

steps_shrink : {X : Type 0} (test : X → Bool) (always : Bool) (keys : List Key) (xs : List X) (steps : List Step) →
    Shrinks test xs (λ fs. fold (left always keys) fs steps)
steps_shrink test always keys xs [] fs h = h
steps_shrink test always keys xs (s ∷ steps) fs h =
    steps_shrink test always keys xs steps (left always keys fs s) (step_shrinks test always s keys xs fs h)

last_shrinks : {X : Type 0} (test : X → Bool) (always compare_id : Bool) (keys : List Key) (xs : List X) →
    Shrinks test xs (surviving_last always compare_id keys)
unfolding surviving_last
last_shrinks test always compare_id keys xs fs h =
    let first = fold (left always keys) fs behind_ranked in
    by_test first (compare_id || not (any_flagged (λ (k : Key). k.external) first keys))
    (steps_shrink test always keys xs behind_ranked fs h)
  where
    by_test : (first : List Bool) (b : Bool) → any_flagged test first xs ≡ false →
        any_flagged test (if b then fold (left always keys) first after_cost else first) xs ≡ false
    by_test first true none = steps_shrink test always keys xs after_cost first none
    by_test first false none = none

-- ---- one step beside a route

-- where nothing is better and something as good, what is left is what is as good
kept_level : (always : Bool) (s : Step) (held c : Key) (flags : List Bool) (keys : List Key) →
    compares_all always s ≡ true → any_flagged (is_better s held) flags keys ≡ false →
    any_flagged (levels s held) flags keys ≡ true → is_better s held c ≡ false →
    not (any_flagged (removes always s c) flags keys) ≡ levels s held c
kept_level always s held c flags keys all unbeaten some here = by_test (levels s held c) refl
  where
    n : Key → ℕ
    n k = compared_number s k

    by_test : (b : Bool) → levels s held c ≡ b → not (any_flagged (removes always s c) flags keys) ≡ b
    by_test true is =
        ap not (removes_level always s c held flags keys all (is_same (n c) (n held) is) ∙ unbeaten)
    by_test false is = ap not (any_more (levels s held) (removes always s c) removed flags keys some)
      where
        removed : (o : Key) → levels s held o ≡ true → removes always s c o ≡ true
        removed o level =
            removes_better always s c o all
            ∙ ap (λ m. wins (is_greater_better s) m (n c)) (is_same (n o) (n held) level)
            ∙ one_wins (is_greater_better s) (n c) (n held) here is

left_level : (always : Bool) (s : Step) (held : Key) (flags : List Bool) (keys : List Key) →
    compares_all always s ≡ true → any_flagged (is_better s held) flags keys ≡ false →
    any_flagged (levels s held) flags keys ≡ true → (fs : List Bool) (cs : List Key) →
    any_flagged (is_better s held) fs cs ≡ false → left_of always s flags keys fs cs ≡ level_of s held fs cs
left_level always s held flags keys all unbeaten some [] cs h = refl
left_level always s held flags keys all unbeaten some (f ∷ fs) [] h = refl
left_level always s held flags keys all unbeaten some (false ∷ fs) (c ∷ cs) h =
    ap (λ rest. false ∷ rest) (left_level always s held flags keys all unbeaten some fs cs h)
left_level always s held flags keys all unbeaten some (true ∷ fs) (c ∷ cs) h =
    ap (λ b. b ∷ left_of always s flags keys fs cs)
    (kept_level always s held c flags keys all unbeaten some
    (neither_first (is_better s held c) (any_flagged (is_better s held) fs cs) h))
    ∙ ap (λ rest. levels s held c ∷ rest)
    (left_level always s held flags keys all unbeaten some fs cs
    (neither_second (is_better s held c) (any_flagged (is_better s held) fs cs) h))

-- the test takes only what is as good as the route in the step
abbrev pub Agrees : {X : Type 0} → (X → Key) → (X → Bool) → Key → Step → Type 0
Agrees key test held s = (x : _) → test x ≡ true → compared_number s (key x) ≡ compared_number s held

-- where something is better, nothing that is left passes
beaten_none : {X : Type 0} (key : X → Key) (test : X → Bool) (always : Bool) (s : Step) (held : Key)
    (flags : List Bool) (keys : List Key) → compares_all always s ≡ true → Agrees key test held s →
    any_flagged (is_better s held) flags keys ≡ true → (fs : List Bool) (xs : List X) →
    any_flagged test (left_of always s flags keys fs (map key xs)) xs ≡ false
beaten_none key test always s held flags keys all agrees beaten [] xs = refl
beaten_none key test always s held flags keys all agrees beaten (f ∷ fs) [] = refl
beaten_none key test always s held flags keys all agrees beaten (f ∷ fs) (x ∷ xs) =
    ap (λ b. b || any_flagged test (left_of always s flags keys fs (map key xs)) xs) (by_test (test x) refl)
    ∙ beaten_none key test always s held flags keys all agrees beaten fs xs
  where
    by_test : (b : Bool) → test x ≡ b →
        ((f && not (any_flagged (removes always s (key x)) flags keys)) && b) ≡ false
    by_test false is = and-false (f && not (any_flagged (removes always s (key x)) flags keys))
    by_test true is =
        ap (λ b. (f && not b) && true) (removes_level always s (key x) held flags keys all (agrees x is) ∙ beaten)
        ∙ ap (λ b. b && true) (and-false f)

-- where nothing is as good, nothing that is flagged passes
none_level : {X : Type 0} (key : X → Key) (test : X → Bool) (s : Step) (held : Key) → Agrees key test held s →
    (fs : List Bool) (xs : List X) → any_flagged (levels s held) fs (map key xs) ≡ false →
    any_flagged test fs xs ≡ false
none_level key test s held agrees [] xs h = refl
none_level key test s held agrees (f ∷ fs) [] h = refl
none_level key test s held agrees (false ∷ fs) (x ∷ xs) h = none_level key test s held agrees fs xs h
none_level key test s held agrees (true ∷ fs) (x ∷ xs) h =
    ap (λ b. b || any_flagged test fs xs) (by_test (test x) refl)
    ∙ none_level key test s held agrees fs xs
    (neither_second (levels s held (key x)) (any_flagged (levels s held) fs (map key xs)) h)
  where
    by_test : (b : Bool) → test x ≡ b → b ≡ false
    by_test false is = refl
    by_test true is =
        sym (same_is (compared_number s (key x)) (compared_number s held) (agrees x is))
        ∙ neither_first (levels s held (key x)) (any_flagged (levels s held) fs (map key xs)) h

level_shrinks : {X : Type 0} (test : X → Bool) (s : Step) (held : Key) (fs : List Bool) (cs : List Key)
    (xs : List X) → any_flagged test fs xs ≡ false → any_flagged test (level_of s held fs cs) xs ≡ false
level_shrinks test s held [] cs xs h = h
level_shrinks test s held (f ∷ fs) [] xs h = refl
level_shrinks test s held (f ∷ fs) (c ∷ cs) [] h = refl
level_shrinks test s held (false ∷ fs) (c ∷ cs) (x ∷ xs) h = level_shrinks test s held fs cs xs h
level_shrinks test s held (true ∷ fs) (c ∷ cs) (x ∷ xs) h =
    (λ i. (levels s held c && neither_first (test x) (any_flagged test fs xs) h i)
    || any_flagged test (level_of s held fs cs) xs)
    ∙ ap (λ b. b || any_flagged test (level_of s held fs cs) xs) (and-false (levels s held c))
    ∙ level_shrinks test s held fs cs xs (neither_second (test x) (any_flagged test fs xs) h)

step_beside : {X : Type 0} (key : X → Key) (test : X → Bool) (always : Bool) (s : Step) (held : Key)
    (kept : List Bool → List Bool) (flags : List Bool) (xs : List X) → compares_all always s ≡ true →
    Agrees key test held s → Shrinks test xs kept →
    any_flagged test (kept (left always (map key xs) flags s)) xs
    ≡ (not (any_flagged (is_better s held) flags (map key xs))
    && any_flagged test (kept (level_of s held flags (map key xs))) xs)
step_beside key test always s held kept flags xs all agrees shrinks =
    by_better (any_flagged (is_better s held) flags (map key xs)) refl
  where
    keys : List Key
    keys = map key xs

    end : List Bool → Bool
    end fs = any_flagged test (kept fs) xs

    by_level : any_flagged (is_better s held) flags keys ≡ false → (b : Bool) →
        any_flagged (levels s held) flags keys ≡ b → end (left always keys flags s) ≡ end (level_of s held flags keys)
    by_level unbeaten true some =
        ap end (left_level always s held flags keys all unbeaten some flags keys unbeaten)
    by_level unbeaten false none =
        let quiet = none_level key test s held agrees flags xs none in
        shrinks (left always keys flags s) (step_shrinks test always s keys xs flags quiet)
        ∙ sym (shrinks (level_of s held flags keys) (level_shrinks test s held flags keys xs quiet))

    by_better : (b : Bool) → any_flagged (is_better s held) flags keys ≡ b →
        end (left always keys flags s) ≡ (not b && end (level_of s held flags keys))
    by_better true beaten =
        shrinks (left always keys flags s)
        (beaten_none key test always s held flags keys all agrees beaten flags xs)
    by_better false unbeaten = by_level unbeaten (any_flagged (levels s held) flags keys) refl

-- ---- all steps

-- a step that compares all, whose number the test fixes
record Fits {X : Type 0} (key : X → Key) (test : X → Bool) (always : Bool) (held : Key) (s : Step) : Type 0 where
  all : compares_all always s ≡ true
  agrees : Agrees key test held s

steps_beside : {X : Type 0} (key : X → Key) (test : X → Bool) (always : Bool) (held : Key)
    (kept : List Bool → List Bool) (xs : List X) → Shrinks test xs kept → (steps : List Step) →
    All (Fits key test always held) steps → (l : Beside) →
    (l.unbeaten && any_flagged test (kept (fold (left always (map key xs)) l.flags steps)) xs)
    ≡ ((fold (next_beside held (map key xs)) l steps).unbeaten
    && any_flagged test (kept (fold (next_beside held (map key xs)) l steps).flags) xs)
steps_beside key test always held kept xs shrinks [] fit l = refl
steps_beside key test always held kept xs shrinks (s ∷ steps) fit l =
    let keys = map key xs in
    let P = Fits key test always held in
    let here : P s = All-head P s steps fit in
    let rest : List Bool → List Bool = λ fs. kept (fold (left always keys) fs steps) in
    ap (λ b. l.unbeaten && b)
    (step_beside key test always s held rest l.flags xs here.all here.agrees
    (λ fs h. shrinks (fold (left always keys) fs steps) (steps_shrink test always keys xs steps fs h)))
    ∙ sym (and_assoc l.unbeaten (not (any_flagged (is_better s held) l.flags keys))
    (any_flagged test (rest (level_of s held l.flags keys)) xs))
    ∙ steps_beside key test always held kept xs shrinks steps (All-tail P s steps fit) (next_beside held keys l s)

-- ---- of a shape

and_first : (a b : Bool) → (a && b) ≡ true → a ≡ true
and_first true b h = refl
and_first false b h = cc

and_second : (a b : Bool) → (a && b) ≡ true → b ≡ true
and_second true b h = h
and_second false b h = cc

-- the parts of a shape that these steps compare
record Ranks (a b : BgpShape) : Type 0 where
  weight : a.preferences.weight ≡ b.preferences.weight
  local_pref : a.preferences.local_pref ≡ b.preferences.local_pref
  origin : a.preferences.origin ≡ b.preferences.origin
  len : a.path.len ≡ b.path.len
  from : a.from ≡ b.from

same_ranks : (a b : BgpShape) → same_shape a b ≡ true → Ranks a b
unfolding same_shape
same_ranks a b h =
    let seen = and_first (same_preferences a b && same_path a b) (same_peers a b && same_marks a b) h in
    let behind = and_second (same_preferences a b && same_path a b) (same_peers a b && same_marks a b) h in
    let preferences = and_first (same_preferences a b) (same_path a b) seen in
    let path = and_second (same_preferences a b) (same_path a b) seen in
    let peers = and_first (same_peers a b) (same_marks a b) behind in
    let weight = a.preferences.weight == b.preferences.weight in
    let pref = a.preferences.local_pref == b.preferences.local_pref in
    let med = a.preferences.med == b.preferences.med in
    let origin = a.preferences.origin == b.preferences.origin in
    let len = a.path.len == b.path.len in
    let first = a.path.first == b.path.first in
    let from = a.from == b.from in
    let clusters = a.cluster_len == b.cluster_len in
    let numbers = and_first (weight && pref) (med && origin) preferences in
    let codes = and_second (weight && pref) (med && origin) preferences in
    let begins = and_first (len && first) ((a.path.last == b.path.last)
    && (marked_number a.path.numbers == marked_number b.path.numbers)) path in
    let sources = and_second ((a.next_hop == b.next_hop) && (a.originator == b.originator)) (from && clusters) peers in
    record {
      weight = is_same a.preferences.weight b.preferences.weight (and_first weight pref numbers);
      local_pref = is_same a.preferences.local_pref b.preferences.local_pref (and_second weight pref numbers);
      origin = is_same a.preferences.origin b.preferences.origin (and_second med origin codes);
      len = is_same a.path.len b.path.len (and_first len first begins);
      from = is_same a.from b.from (and_first from clusters sources);
    }

ranked_fits : (s : BgpShape) (always : Bool) →
    All (Fits shape_key (λ (c : ShapeCandidate). same_shape c.rec s) always (key_beside s)) ranked
ranked_fits s always =
    let P = Fits shape_key (λ (c : ShapeCandidate). same_shape c.rec s) always (key_beside s) in
    let ranks = λ (c : ShapeCandidate) (h : same_shape c.rec s ≡ true). same_ranks c.rec s h in
    All-cons P Weight (Preference ∷ Origination ∷ PathLength ∷ Origin ∷ [])
    (record { all = refl; agrees = λ c h. (ranks c h).weight })
    (All-cons P Preference (Origination ∷ PathLength ∷ Origin ∷ [])
    (record { all = refl; agrees = λ c h. (ranks c h).local_pref })
    (All-cons P Origination (PathLength ∷ Origin ∷ [])
    (record { all = refl; agrees = λ c h. ap (λ n. mark_number (lacks_address n)) (ranks c h).from })
    (All-cons P PathLength (Origin ∷ [])
    (record { all = refl; agrees = λ c h. (ranks c h).len })
    (All-cons P Origin []
    (record { all = refl; agrees = λ c h. (ranks c h).origin })
    (All-nil P)))))

-- a candidate that survives has the shape of a route, by what is left beside it
survives_beside : (always compare_id : Bool) (s : BgpShape) (flags : List Bool) (cs : List ShapeCandidate) →
    any_flagged (λ (c : ShapeCandidate). same_shape c.rec s) (surviving always compare_id flags (map shape_key cs)) cs
    ≡ ((all_beside (key_beside s) (map shape_key cs) flags).unbeaten
    && any_flagged (λ (c : ShapeCandidate). same_shape c.rec s)
    (surviving_last always compare_id (map shape_key cs)
    (all_beside (key_beside s) (map shape_key cs) flags).flags) cs)
unfolding surviving surviving_last
survives_beside always compare_id s flags cs =
    let test : ShapeCandidate → Bool = λ c. same_shape c.rec s in
    steps_beside shape_key test always (key_beside s) (surviving_last always compare_id (map shape_key cs)) cs
    (last_shrinks test always compare_id (map shape_key cs) cs) ranked (ranked_fits s always)
    (record { unbeaten = true; flags = flags })

pub survivor_read : (always compare_id : Bool) (s : BgpShape) (there left : List Bool)
    (cs : List ShapeCandidate) (keys : List Key) (first : Beside) (unbeaten here all : Bool) →
    keys ≡ map shape_key cs → first ≡ all_beside (key_beside s) keys there → unbeaten ≡ first.unbeaten →
    left ≡ surviving_last always compare_id keys first.flags →
    here ≡ any_flagged (λ (c : ShapeCandidate). same_shape c.rec s) left cs → all ≡ (unbeaten && here) →
    all ≡ any_flagged (λ (c : ShapeCandidate). same_shape c.rec s)
    (surviving always compare_id there (map shape_key cs)) cs
survivor_read always compare_id s there left cs keys first unbeaten here all keys_is first_is unbeaten_is left_is
    here_is all_is =
    let test : ShapeCandidate → Bool = λ c. same_shape c.rec s in
    let left_by = left_is ∙ (λ i. surviving_last always compare_id (keys_is i) (first_is i).flags) in
    let first_by = first_is ∙ ap (λ ks. all_beside (key_beside s) ks there) keys_is in
    all_is
    ∙ (λ i. unbeaten_is i && (here_is ∙ ap (λ fs. any_flagged test fs cs) left_is) i)
    ∙ (λ i. (first_by i).unbeaten
    && any_flagged test (surviving_last always compare_id (keys_is i) (first_by i).flags) cs)
    ∙ sym (survives_beside always compare_id s there cs)
