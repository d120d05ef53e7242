-- What the test of a shape world says.
use Rattle.std.proofs.Common.{◌≡◌, ℕ, zero, suc, ◌+◌, ◌^◌, ◌==◌, ◌&&◌, ◌||◌, inl, inr, Bool}
use Rattle.std.proofs.Common.{true, false, List, [], ◌∷◌, length, Some, nat_lt, refl, sym, ap, ◌∙◌}
use Rattle.std.proofs.Common.{arith}
use Rattle.std.specs.Prelude.{AllPairs, option_map, slice_get}
use Rattle.std.specs.List.{enumerate_from, list_all}
use Rattle.std.proofs.lemmas.Bool.{and_from, and_parts, eq-eqb, eqb-true, lt-ltb, ltb-true, or_left, or_right}
use Rattle.std.proofs.lemmas.List.Elements.{All-weaker}
use Rattle.std.proofs.lemmas.List.Kept.{AllPairs-cons}
use Rattle.std.proofs.lemmas.List.Sums.{AllPass-from_list_all, list_all-from_AllPass}
use Rattle.mw_text.specs.declared.address.Addr.{Addr}
use Rattle.ios_ast.specs.declared.file.File.{File}
use Rattle.ios_ast.specs.Limits.{each_pair}
use Rattle.net_interfaces.proofs.Pairs.{first, later}
use Rattle.route_record.specs.declared.tracked.Tracked.{Tracked}
use Rattle.route_record.specs.Fits.{IsAddress}
use Rattle.net_parts.specs.Sessions.{external_ends}
use Rattle.route_shapes.specs.Bgp.{BgpShape}
use Rattle.bgp_shapes.specs.Candidates.{ShapeAnnouncement, ShapeEnvironment}
use Rattle.bgp_shapes.specs.Held.{HasMarks}
use Rattle.announced_shapes.specs.Announcements.{IsAnnouncementShape, is_announcement_shape}
use Rattle.announced_shapes.specs.Environments.{IsEarlierShape, IsShapeEnvironment}
use Rattle.announced_shapes.proofs.AnnouncementLaw.{shape_passes, shape_tested}
use Rattle.shape_worlds.specs.Worlds.{has_all_marks, is_earlier, may_be_announced}

-- ---- lists by place

-- what a test says of all items with their places, it says of the item at a place
pub at_place : {X : Type 0} (p : ℕ × X → Bool) (n : ℕ) (xs : List X) → list_all p (enumerate_from n xs) ≡ true →
    (k : ℕ) (x : X) → slice_get xs k ≡ Some x → p (n + k, x) ≡ true
at_place p n [] all k x there = absurd cc
at_place {X = X} p n (y ∷ ys) all zero x there =
    let same : y ≡ x = cc in
    let place : n + 0 ≡ n = omega arith in
    (λ i. p (place i, sym same i)) ∙ (and_parts (p (n, y)) (list_all p (enumerate_from (n + 1) ys)) all).0
at_place p n (y ∷ ys) all (suc k) x there =
    let place : n + suc k ≡ n + 1 + k = omega arith in
    ap (λ m. p (m, x)) place
    ∙ at_place p (n + 1) ys (and_parts (p (n, y)) (list_all p (enumerate_from (n + 1) ys)) all).1 k x there

pub from_places : {X : Type 0} (p : ℕ × X → Bool) (n : ℕ) (xs : List X) →
    ((k : ℕ) (x : X) → slice_get xs k ≡ Some x → p (n + k, x) ≡ true) → list_all p (enumerate_from n xs) ≡ true
from_places p n [] each = refl
from_places p n (x ∷ xs) each =
    let place : n ≡ n + 0 = omega arith in
    and_from (p (n, x)) (list_all p (enumerate_from (n + 1) xs)) (ap (λ m. p (m, x)) place ∙ each zero x refl)
    (from_places p (n + 1) xs (λ k y there. let next : n + 1 + k ≡ n + suc k = omega arith in
    ap (λ m. p (m, y)) next ∙ each (suc k) y there))

-- the item at a place, with it
pub numbered_at : {X : Type 0} (n : ℕ) (xs : List X) (k : ℕ) →
    slice_get (enumerate_from n xs) k ≡ option_map (λ x. (n + k, x)) (slice_get xs k)
numbered_at n [] k = refl
numbered_at n (x ∷ xs) zero = let place : n ≡ n + 0 = omega arith in ap (λ m. Some (m, x)) place
numbered_at n (x ∷ xs) (suc k) =
    let place : n + 1 + k ≡ n + suc k = omega arith in
    numbered_at (n + 1) xs k ∙ ap (λ m. option_map (λ y. (m, y)) (slice_get xs k)) place

-- ---- marks

pub marks_tested : (tracked : Tracked) (s : BgpShape) → has_all_marks tracked s ≡ true → HasMarks tracked s
marks_tested tracked s is =
    let both = and_parts (length s.path.numbers == length tracked.numbers) _ is in
    let rest = and_parts (length s.communities == length tracked.communities) _ both.1 in
    record {
      numbers = eqb-true _ _ both.0;
      communities = eqb-true _ _ rest.0;
      clusters = eqb-true _ _ rest.1;
    }

pub marks_pass : (tracked : Tracked) (s : BgpShape) → HasMarks tracked s → has_all_marks tracked s ≡ true
marks_pass tracked s is =
    and_from (length s.path.numbers == length tracked.numbers) _ (eq-eqb _ _ is.numbers)
    (and_from (length s.communities == length tracked.communities) _ (eq-eqb _ _ is.communities)
    (eq-eqb _ _ is.clusters))

-- ---- environments

earlier : (a b : ShapeAnnouncement) → is_earlier a b ≡ true → IsEarlierShape a b
earlier a b is = by (nat_lt a.end b.end) refl is
  where
    by : (c : Bool) → nat_lt a.end b.end ≡ c → (c || ((a.end == b.end) && nat_lt a.len b.len)) ≡ true →
        IsEarlierShape a b
    by true less is = inl (ltb-true a.end b.end less)
    by false not_less is =
        let both = and_parts (a.end == b.end) (nat_lt a.len b.len) is in
        inr (eqb-true a.end b.end both.0, ltb-true a.len b.len both.1)

earlier_passes : (a b : ShapeAnnouncement) → IsEarlierShape a b → is_earlier a b ≡ true
earlier_passes a b (inl less) =
    or_left (nat_lt a.end b.end) ((a.end == b.end) && nat_lt a.len b.len) (lt-ltb a.end b.end less)
earlier_passes a b (inr (same, less)) =
    or_right (nat_lt a.end b.end) ((a.end == b.end) && nat_lt a.len b.len)
    (and_from (a.end == b.end) (nat_lt a.len b.len) (eq-eqb a.end b.end same) (lt-ltb a.len b.len less))

pairs_tested : (xs : List ShapeAnnouncement) → each_pair is_earlier xs ≡ true → AllPairs IsEarlierShape xs
pairs_tested [] all = λ i j d below within. absurd (omega (arith, below, within))
pairs_tested (x ∷ xs) all =
    let both = and_parts (list_all (is_earlier x) xs) (each_pair is_earlier xs) all in
    AllPairs-cons IsEarlierShape x xs
    (All-weaker (λ y. is_earlier x y ≡ true) (IsEarlierShape x) (λ y is. earlier x y is) xs
    (AllPass-from_list_all (is_earlier x) xs both.0)) (pairs_tested xs both.1)

pairs_pass : (xs : List ShapeAnnouncement) → AllPairs IsEarlierShape xs → each_pair is_earlier xs ≡ true
pairs_pass [] all = refl
pairs_pass (x ∷ xs) all =
    and_from (list_all (is_earlier x) xs) (each_pair is_earlier xs)
    (list_all-from_AllPass (is_earlier x) xs
    (All-weaker (IsEarlierShape x) (λ y. is_earlier x y ≡ true) (λ y is. earlier_passes x y is) xs
    (first IsEarlierShape x xs all))) (pairs_pass xs (later IsEarlierShape x xs all))

pub environment_tested : (files : List File) (tracked : Tracked) (s : ShapeEnvironment) →
    may_be_announced files tracked s ≡ true → IsShapeEnvironment files tracked s
environment_tested files tracked s is =
    let both = and_parts _ _ is in
    let ids = and_parts (length s.ids == length (external_ends files)) _ both.0 in
    let announced = and_parts (list_all (is_announcement_shape files tracked) s.announced) _ both.1 in
    record {
      ids = eqb-true _ _ ids.0;
      fit = All-weaker (λ (id : Addr). nat_lt id.0 (2 ^ 32) ≡ true) IsAddress (λ id less. ltb-true id.0 (2 ^ 32) less)
          s.ids (AllPass-from_list_all (λ (id : Addr). nat_lt id.0 (2 ^ 32)) s.ids ids.1);
      announced = All-weaker (λ a. is_announcement_shape files tracked a ≡ true) (IsAnnouncementShape files tracked)
          (shape_tested files tracked) s.announced
          (AllPass-from_list_all (is_announcement_shape files tracked) s.announced announced.0);
      once = pairs_tested s.announced announced.1;
    }

pub environment_passes : (files : List File) (tracked : Tracked) (s : ShapeEnvironment) →
    IsShapeEnvironment files tracked s → may_be_announced files tracked s ≡ true
environment_passes files tracked s is =
    and_from
    ((length s.ids == length (external_ends files)) && list_all (λ (id : Addr). nat_lt id.0 (2 ^ 32)) s.ids)
    (list_all (is_announcement_shape files tracked) s.announced && each_pair is_earlier s.announced)
    (and_from (length s.ids == length (external_ends files)) (list_all (λ (id : Addr). nat_lt id.0 (2 ^ 32)) s.ids)
    (eq-eqb _ _ is.ids)
    (list_all-from_AllPass (λ (id : Addr). nat_lt id.0 (2 ^ 32)) s.ids
    (All-weaker IsAddress (λ (id : Addr). nat_lt id.0 (2 ^ 32) ≡ true) (λ id less. lt-ltb id.0 (2 ^ 32) less) s.ids
    is.fit)))
    (and_from (list_all (is_announcement_shape files tracked) s.announced) (each_pair is_earlier s.announced)
    (list_all-from_AllPass (is_announcement_shape files tracked) s.announced
    (All-weaker (IsAnnouncementShape files tracked) (λ a. is_announcement_shape files tracked a ≡ true)
    (shape_passes files tracked) s.announced is.announced)) (pairs_pass s.announced is.once))
