-- Routes are read from their bits.
use Rattle.std.proofs.Common.{◌≡◌, ℕ, ◌+◌, Bool, true, false, List, [], ◌∷◌, ◌++◌}
use Rattle.std.proofs.Common.{Option, Some, None, refl, sym, ap, subst, arith, ◌∙◌}
use Rattle.std.specs.Prelude.{IfSome, if◌then◌else◌}
use Rattle.route_shapes.specs.Bgp.{BgpShape}
use Rattle.route_shapes.specs.Shapes.{PathShape, Preferences}
use Rattle.failed_links.specs.Failures.{none_of}
use Rattle.failed_links.specs.Rows.{IsAt}
use Rattle.failed_links.proofs.Reading.{after, one_then}
use Rattle.failed_links.proofs.FailureParts.{length-none}
use Rattle.world_variables.proofs.UnknownParts.{told_at}
use Rattle.bgp_variables.specs.declared.rooms.BgpRoom.{BgpRoom}
use Rattle.bgp_variables.specs.declared.rooms.PathRoom.{PathRoom}
use Rattle.bgp_variables.specs.declared.rooms.PreferencesRoom.{PreferencesRoom}
use Rattle.bgp_variables.specs.Marks.{FitMarks, marks_bits, marks_from, marks_width}
use Rattle.bgp_variables.specs.Shapes.{FitBgpRooms, FitsBgpRoom, FitsPath, FitsPreferences, FitsShape, bgp_bits, bgp_from}
use Rattle.bgp_variables.specs.Shapes.{bgp_width, bgps_bits, bgps_from, bgps_width, path_bits, path_from, path_width}
use Rattle.bgp_variables.specs.Shapes.{preferences_bits, preferences_from, preferences_width, shape_bits, shape_from}
use Rattle.bgp_variables.specs.Shapes.{shape_width, there_bits}

marks_at : (mays marks : List Bool) (v : ℕ → Bool) (from : ℕ) (rest : List Bool) → FitMarks mays marks →
    IsAt v from (marks_bits mays marks rest) →
    (marks_from mays v from ≡ marks) × IsAt v (from + marks_width mays) rest
unfolding marks_from marks_bits marks_width
marks_at [] [] v from rest fits here = (refl, subst (λ k. IsAt v k rest) (omega arith) here)
marks_at [] (b ∷ marks) v from rest fits here = absurd fits
marks_at (may ∷ mays) [] v from rest fits here = absurd fits
marks_at (true ∷ mays) (b ∷ marks) v from rest fits here =
    let one = one_then v from b (marks_bits mays marks rest) here in
    let others = marks_at mays marks v (from + 1) rest fits.1 one.1 in
    (λ i. one.0 i ∷ others.0 i, subst (λ k. IsAt v k rest) (omega arith) others.1)
marks_at (false ∷ mays) (b ∷ marks) v from rest fits here =
    let others = marks_at mays marks v (from + 0) rest fits.1
    (subst (λ k. IsAt v k (marks_bits mays marks rest)) (omega arith) here) in
    (λ i. unset b fits.0 i ∷ others.0 i, subst (λ k. IsAt v k rest) (omega arith) others.1)
  where
    unset : (c : Bool) → (c ≡ true → false ≡ true) → false ≡ c
    unset false not_set = refl
    unset true not_set = not_set refl

preferences_at : (room : PreferencesRoom) (s : Preferences) (v : ℕ → Bool) (from : ℕ) (rest : List Bool) →
    FitsPreferences room s → IsAt v from (preferences_bits room s rest) →
    (preferences_from room v from ≡ s) × IsAt v (from + preferences_width room) rest
unfolding preferences_from preferences_bits preferences_width
preferences_at room s v from rest fits here =
    let weight = told_at room.weight s.weight v from _ fits.weight here in
    let local_pref = told_at room.local_pref s.local_pref v _ _ fits.local_pref weight.1 in
    let med = told_at room.med s.med v _ _ fits.med local_pref.1 in
    let origin = told_at room.origin s.origin v _ rest fits.origin med.1 in (
      λ i. record { weight = weight.0 i; local_pref = local_pref.0 i; med = med.0 i; origin = origin.0 i },
      subst (λ k. IsAt v k rest) (omega arith) origin.1,
    )

path_at : (room : PathRoom) (s : PathShape) (v : ℕ → Bool) (from : ℕ) (rest : List Bool) →
    FitsPath room s → IsAt v from (path_bits room s rest) →
    (path_from room v from ≡ s) × IsAt v (from + path_width room) rest
unfolding path_from path_bits path_width
path_at room s v from rest fits here =
    let len = told_at room.len s.len v from _ fits.len here in
    let first = told_at room.first s.first v _ _ fits.first len.1 in
    let last = told_at room.last s.last v _ _ fits.last first.1 in
    let numbers = marks_at room.numbers s.numbers v _ rest fits.numbers last.1 in (
      λ i. record { len = len.0 i; first = first.0 i; last = last.0 i; numbers = numbers.0 i },
      subst (λ k. IsAt v k rest) (omega arith) numbers.1,
    )

shape_at : (room : BgpRoom) (s : BgpShape) (v : ℕ → Bool) (from : ℕ) (rest : List Bool) →
    FitsShape room s → IsAt v from (shape_bits room s rest) →
    (shape_from room v from ≡ s) × IsAt v (from + shape_width room) rest
unfolding shape_from shape_bits shape_width
shape_at room s v from rest fits here =
    let peer = told_at room.from s.from v from _ fits.from here in
    let preferences = preferences_at room.preferences s.preferences v _ _ fits.preferences peer.1 in
    let path = path_at room.path s.path v _ _ fits.path preferences.1 in
    let communities = marks_at room.communities s.communities v _ _ fits.communities path.1 in
    let hop = told_at room.next_hop s.next_hop v _ _ fits.next_hop communities.1 in
    let originator = told_at room.originator s.originator v _ _ fits.originator hop.1 in
    let cluster_len = told_at room.cluster_len s.cluster_len v _ _ fits.cluster_len originator.1 in
    let clusters = marks_at room.clusters s.clusters v _ rest fits.clusters cluster_len.1 in (
      λ i. record {
        from = peer.0 i;
        preferences = preferences.0 i;
        path = path.0 i;
        communities = communities.0 i;
        next_hop = hop.0 i;
        originator = originator.0 i;
        cluster_len = cluster_len.0 i;
        clusters = clusters.0 i;
      },
      subst (λ k. IsAt v k rest) (omega arith) clusters.1,
    )

there_at : (room : BgpRoom) (x : Option BgpShape) (v : ℕ → Bool) (from : ℕ) (rest : List Bool) →
    IfSome x (FitsShape room) → IsAt v from (there_bits room x rest) →
    (bgp_from (Some room) v from ≡ x) × IsAt v (from + (1 + shape_width room)) rest
there_at room None v from rest fits here =
    let there = one_then v from false (none_of (shape_width room) ++ rest) here in
    let past = after v (from + 1) (none_of (shape_width room)) rest there.1 in
    let wide = length-none (shape_width room) in (
      ap (λ b. if b then Some (shape_from room v (from + 1)) else None) there.0,
      subst (λ k. IsAt v k rest) (omega (arith, wide)) past.1,
    )
there_at room (Some s) v from rest fits here =
    let there = one_then v from true (shape_bits room s rest) here in
    let shape = shape_at room s v (from + 1) rest fits there.1 in (
      ap (λ b. if b then Some (shape_from room v (from + 1)) else None) there.0 ∙ ap Some shape.0,
      subst (λ k. IsAt v k rest) (omega arith) shape.1,
    )

-- a route that fits its room is read from its bits
pub bgp_read : (room : Option BgpRoom) (x : Option BgpShape) (v : ℕ → Bool) (from : ℕ) (rest : List Bool) →
    FitsBgpRoom room x → IsAt v from (bgp_bits room x rest) →
    (bgp_from room v from ≡ x) × IsAt v (from + bgp_width room) rest
bgp_read None x v from rest fits here = (sym fits, subst (λ k. IsAt v k rest) (omega arith) here)
bgp_read (Some room) x v from rest fits here = there_at room x v from rest fits here

-- and so are routes one after another
pub bgps_read : (rooms : List (Option BgpRoom)) (xs : List (Option BgpShape)) (v : ℕ → Bool) (from : ℕ)
    (rest : List Bool) → FitBgpRooms rooms xs → IsAt v from (bgps_bits rooms xs rest) →
    (bgps_from rooms v from ≡ xs) × IsAt v (from + bgps_width rooms) rest
unfolding bgps_from bgps_bits bgps_width
bgps_read [] [] v from rest fits here = (refl, subst (λ k. IsAt v k rest) (omega arith) here)
bgps_read [] (x ∷ xs) v from rest fits here = absurd fits
bgps_read (room ∷ rooms) [] v from rest fits here = absurd fits
bgps_read (room ∷ rooms) (x ∷ xs) v from rest fits here =
    let one = bgp_read room x v from (bgps_bits rooms xs rest) fits.0 here in
    let others = bgps_read rooms xs v _ rest fits.1 one.1 in
    (λ i. one.0 i ∷ others.0 i, subst (λ k. IsAt v k rest) (omega arith) others.1)
