-- A route is held by shapes where some survivor has its shape, and there is none where there is no candidate.
use Rattle.std.proofs.Common.{◌≡◌, ℕ, ◌==◌, ◌&&◌, Bool, true, false, List, [], ◌∷◌}
use Rattle.std.proofs.Common.{Option, Some, None, length, map, refl, sym, ap, ◌∙◌, arith}
use Rattle.std.specs.Prelude.{All, Any, IfSome, option_map}
use Rattle.std.specs.List.{list_any}
use Rattle.std.proofs.lemmas.Bool.{and_from, and_parts, eq-eqb, eqb-true}
use Rattle.std.proofs.lemmas.List.Folds.{Any-from_list_any, list_any-from_Any}
use Rattle.route_record.specs.declared.BgpRec.{BgpRec}
use Rattle.route_record.specs.declared.tracked.Tracked.{Tracked}
use Rattle.route_record.specs.Shape.{marked_number}
use Rattle.net_interfaces.proofs.Members.{any_mapped}
use Rattle.net_parts.specs.Decisions.{Candidate, IsHeld, survivors}
use Rattle.route_shapes.specs.Bgp.{BgpShape, bgp_shape}
use Rattle.bgp_shapes.specs.Candidates.{ShapeCandidate, candidate_shape}
use Rattle.bgp_shapes.specs.Held.{HasMarks, IsHeldByShape, held_shape, is_empty, same_marks, same_path, same_peers}
use Rattle.bgp_shapes.specs.Held.{same_preferences, same_shape}
use Rattle.bgp_shapes.specs.Lengths.{IsShort}
use Rattle.bgp_shapes.proofs.DecisionLaw.{survivors_shape}
use Rattle.std.proofs.lemmas.List.{length-map}

-- ---- shapes that are the same

four : (a b c d : Bool) → a ≡ true → b ≡ true → c ≡ true → d ≡ true → ((a && b) && (c && d)) ≡ true
four a b c d one two three last = and_from (a && b) (c && d) (and_from a b one two) (and_from c d three last)

pub same_itself : (s : BgpShape) → same_shape s s ≡ true
unfolding same_shape
same_itself s =
    four (same_preferences s s) (same_path s s) (same_peers s s) (same_marks s s)
    (four _ _ _ _ (is s.preferences.weight) (is s.preferences.local_pref) (is s.preferences.med)
    (is s.preferences.origin))
    (four _ _ _ _ (is s.path.len) (is s.path.first) (is s.path.last) (is (marked_number s.path.numbers)))
    (four _ _ _ _ (is s.next_hop) (is s.originator) (is s.from) (is s.cluster_len))
    (and_from _ _ (is (marked_number s.communities)) (is (marked_number s.clusters)))
  where
    is : (n : ℕ) → (n == n) ≡ true
    is n = eq-eqb n n refl

-- rows of one length that have one number are one row
rows_same : (xs ys : List Bool) → length xs ≡ length ys → marked_number xs ≡ marked_number ys → xs ≡ ys
rows_same [] [] long same = refl
rows_same [] (y ∷ ys) long same = absurd (omega arith)
rows_same (x ∷ xs) [] long same = absurd (omega arith)
rows_same (true ∷ xs) (true ∷ ys) long same = ap (λ bs. true ∷ bs) (rows_same xs ys (omega arith) (omega arith))
rows_same (true ∷ xs) (false ∷ ys) long same = absurd (omega arith)
rows_same (false ∷ xs) (true ∷ ys) long same = absurd (omega arith)
rows_same (false ∷ xs) (false ∷ ys) long same = ap (λ bs. false ∷ bs) (rows_same xs ys (omega arith) (omega arith))

parts : (a b c d : Bool) → ((a && b) && (c && d)) ≡ true → (a ≡ true) × (b ≡ true) × (c ≡ true) × (d ≡ true)
parts a b c d all =
    let both = and_parts (a && b) (c && d) all in
    let first = and_parts a b both.0 in
    let last = and_parts c d both.1 in
    (first.0, first.1, last.0, last.1)

pub same_shape-true : (a b : BgpShape) → length a.path.numbers ≡ length b.path.numbers →
    length a.communities ≡ length b.communities → length a.clusters ≡ length b.clusters → same_shape a b ≡ true → a ≡ b
unfolding same_shape
same_shape-true a b long_numbers long_communities long_clusters same =
    let whole = parts (same_preferences a b) (same_path a b) (same_peers a b) (same_marks a b) same in
    let preferences = parts _ _ _ _ whole.0 in
    let path = parts _ _ _ _ whole.1 in
    let peers = parts _ _ _ _ whole.2 in
    let marks = and_parts _ _ whole.3 in
    let weight = eqb-true _ _ preferences.0 in
    let local_pref = eqb-true _ _ preferences.1 in
    let med = eqb-true _ _ preferences.2 in
    let origin = eqb-true _ _ preferences.3 in
    let len = eqb-true _ _ path.0 in
    let first = eqb-true _ _ path.1 in
    let last = eqb-true _ _ path.2 in
    let numbers = rows_same a.path.numbers b.path.numbers long_numbers (eqb-true _ _ path.3) in
    let next_hop = eqb-true _ _ peers.0 in
    let originator = eqb-true _ _ peers.1 in
    let from = eqb-true _ _ peers.2 in
    let cluster_len = eqb-true _ _ peers.3 in
    let communities = rows_same a.communities b.communities long_communities (eqb-true _ _ marks.0) in
    let clusters = rows_same a.clusters b.clusters long_clusters (eqb-true _ _ marks.1) in
    λ i. record {
      preferences = record { weight = weight i; local_pref = local_pref i; med = med i; origin = origin i };
      path = record { len = len i; first = first i; last = last i; numbers = numbers i };
      communities = communities i;
      next_hop = next_hop i;
      originator = originator i;
      from = from i;
      cluster_len = cluster_len i;
      clusters = clusters i;
    }

-- the shape of a route has a mark for each tracked value, so that a shape which has as many is that one
shape_is : (tracked : Tracked) (rec : BgpRec) (s : BgpShape) → HasMarks tracked s →
    same_shape (bgp_shape tracked rec) s ≡ true → bgp_shape tracked rec ≡ s
shape_is tracked rec s has same =
    same_shape-true (bgp_shape tracked rec) s (length-map tracked.numbers _ ∙ sym has.numbers)
    (length-map tracked.communities _ ∙ sym has.communities) (length-map tracked.clusters _ ∙ sym has.clusters) same

-- ---- held routes

weaker : {X : Type 0} (P Q : X → Type 0) (xs : List X) → ((x : X) → P x → Q x) → Any P xs → Any Q xs
weaker P Q xs gives (k, x, within, is, holds) = (k, x, within, is, gives x holds)

-- the shape of a held route is held
pub held_complete : (tracked : Tracked) (always compare_id : Bool) (candidates : List Candidate)
    (held : Option BgpRec) →
    All IsShort candidates → IsHeld candidates (survivors always compare_id candidates) held →
    held_shape always compare_id (map (candidate_shape tracked) candidates) (option_map (bgp_shape tracked) held)
    ≡ true
unfolding held_shape
held_complete tracked always compare_id candidates None short none =
    ap (λ cs. is_empty (map (candidate_shape tracked) cs)) none
held_complete tracked always compare_id candidates (Some rec) short some =
    let test : ShapeCandidate → Bool = λ c. same_shape c.rec (bgp_shape tracked rec) in
    let left = survivors always compare_id candidates in
    ap (list_any test) (sym (survivors_shape tracked always compare_id candidates short))
    ∙ any_mapped test (candidate_shape tracked) left
    ∙ list_any-from_Any (λ c. test (candidate_shape tracked c)) left
    (weaker (λ c. c.rec ≡ rec) (λ c. test (candidate_shape tracked c) ≡ true) left
    (λ c is. ap (λ r. same_shape (bgp_shape tracked r) (bgp_shape tracked rec)) is
    ∙ same_itself (bgp_shape tracked rec)) some)

empty_none : (tracked : Tracked) (candidates : List Candidate) →
    is_empty (map (candidate_shape tracked) candidates) ≡ true → candidates ≡ []
empty_none tracked [] none = refl
empty_none tracked (c ∷ cs) none = cc

-- a shape that is held is that of a survivor
pub held_sound : (tracked : Tracked) (always compare_id : Bool) (candidates : List Candidate) (held : Option BgpShape) →
    All IsShort candidates → IfSome held (HasMarks tracked) →
    held_shape always compare_id (map (candidate_shape tracked) candidates) held ≡ true →
    IsHeldByShape tracked candidates (survivors always compare_id candidates) held
unfolding held_shape
held_sound tracked always compare_id candidates None short has is = empty_none tracked candidates is
held_sound tracked always compare_id candidates (Some s) short has is =
    let test : ShapeCandidate → Bool = λ c. same_shape c.rec s in
    let left = survivors always compare_id candidates in
    weaker (λ c. test (candidate_shape tracked c) ≡ true) (λ c. bgp_shape tracked c.rec ≡ s) left
    (λ c same. shape_is tracked c.rec s has same)
    (Any-from_list_any (λ c. test (candidate_shape tracked c)) left
    (sym (any_mapped test (candidate_shape tracked) left)
    ∙ ap (list_any test) (survivors_shape tracked always compare_id candidates short) ∙ is))
