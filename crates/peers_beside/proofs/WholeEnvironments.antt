-- The environments that are read have external peers in common exactly where those of each pair of ends are one peer.
use Rattle.std.proofs.Common.{◌≡◌, ℕ, ◌+◌, ◌*◌, ◌<◌, ◌≤◌, Bool, true, false, List, length, map, Option, Some, None}
use Rattle.std.proofs.Common.{refl, sym, ap, arith, ◌∙◌, slice_get}
use Rattle.std.specs.Prelude.{◌&&◌, ◌↔◌, All, Contains, option_and_then, option_map, if◌then◌else◌}
use Rattle.std.proofs.lemmas.Bool.{and_from, and_parts}
use Rattle.std.proofs.lemmas.List.{length-map}
use Rattle.std.proofs.lemmas.List.Elements.{All-contains, All-contains_itself, All-weaker}
use Rattle.std.proofs.lemmas.Option.{same_Some, slice_get_within}
use Rattle.ios_ast.specs.declared.file.File.{File}
use Rattle.route_record.specs.declared.tracked.Tracked.{Tracked}
use Rattle.net_parts.specs.declared.sessions.SessionEnd.{SessionEnd}
use Rattle.net_parts.specs.Sessions.{ends_of, external_ends, is_outside}
use Rattle.route_shapes.specs.Bgp.{BgpShape}
use Rattle.bgp_shapes.specs.Candidates.{ShapeAnnouncement}
use Rattle.plan_places.specs.Places.{places_below}
use Rattle.announced_places.specs.Announced.{Ascend}
use Rattle.announced_places.specs.Environments.{announcement_of}
use Rattle.announced_places.proofs.ExternalPlaces.{environment_found, external_row}
use Rattle.paired_nets.specs.declared.ends.EndPair.{EndPair}
use Rattle.paired_nets.specs.Ends.{AreEndPairs}
use Rattle.term_store.specs.Terms.{Reading, at}
use Rattle.sym_policy.specs.declared.records.SymBgp.{SymBgp}
use Rattle.sym_policy.specs.Held.{bgp_at, bgp_of}
use Rattle.sym_policy.specs.Records.{address_of}
use Rattle.bgp_equations.specs.declared.environment.SymEnv.{SymEnv}
use Rattle.bgp_equations.specs.Environments.{FitsNet, environment_read}
use Rattle.bgp_equations.proofs.Environments.{item_map}
use Rattle.peers_beside.specs.Same.{IsOnePeer, announced_by, number_at, row, same_id}
use Rattle.peers_beside.specs.Shared.{AreCommonShapes, shape_over, unplaced_shape}
use Rattle.peers_beside.proofs.AlikeRows.{row_long, row_within}
use Rattle.peers_beside.proofs.ExternalEnds.{kept_from, kept_there}
use Rattle.peers_beside.proofs.Identifiers.{ids_tell}
use Rattle.peers_beside.proofs.RowsRead.{row_stands, rows_same, stands, stands_made}

-- ---- announcements of some length

abbrev with_len : ℕ → ShapeAnnouncement → ShapeAnnouncement
with_len len a = record a { len = len }

-- that which stands at a length, if there is one, as an announcement of this length
abbrev at_length : ℕ → Option (Option ShapeAnnouncement) → Option ShapeAnnouncement
at_length len o = option_map (with_len len) (option_and_then (λ t. t) o)

placed : (w : Reading) (end len : ℕ) (o : Option SymBgp) →
    option_map unplaced_shape (option_map (announcement_of end len)
    (option_and_then (λ t. t) (option_map (bgp_of w) o)))
    ≡ at_length len (option_map (announced_by w) o)
placed w end len None = refl
placed w end len (Some s) = by (at w s.valid) (bgp_at w s) where
  by : (valid : Bool) (shape : BgpShape) →
      option_map unplaced_shape (option_map (announcement_of end len) (if valid then Some shape else None))
      ≡ option_map (with_len len) (option_map (announcement_of 0 0) (if valid then Some shape else None))
  by true shape = refl
  by false shape = refl

-- the length is that of no route
no_length : (w : Reading) (len : ℕ) (s : SymBgp) →
    option_map (with_len 0) (option_map (with_len len) (announced_by w s)) ≡ announced_by w s
no_length w len s = by (at w s.valid) (bgp_at w s) where
  by : (valid : Bool) (shape : BgpShape) →
      option_map (with_len 0) (option_map (with_len len)
      (option_map (announcement_of 0 0) (if valid then Some shape else None)))
      ≡ option_map (announcement_of 0 0) (if valid then Some shape else None)
  by true shape = refl
  by false shape = refl

one_length : (w u : Reading) (len : ℕ) (o p : Option SymBgp) (x y : Option ShapeAnnouncement) →
    option_map (announced_by w) o ≡ Some x → option_map (announced_by u) p ≡ Some y →
    at_length len (Some x) ≡ at_length len (Some y) → x ≡ y
one_length w u len None p x y here there same = absurd cc
one_length w u len (Some s) None x y here there same = absurd cc
one_length w u len (Some s) (Some t) x y here there same =
    let left = same_Some (announced_by w s) x here in
    let right = same_Some (announced_by u t) y there in
    sym left ∙ sym (no_length w len s) ∙ ap (λ o. option_map (with_len 0) (option_map (with_len len) o)) left
    ∙ ap (option_map (with_len 0)) same
    ∙ ap (λ o. option_map (with_len 0) (option_map (with_len len) o)) (sym right) ∙ no_length u len t ∙ right

-- ---- what is announced at an external end

number_less : (files : List File) (place : ℕ) (end : SessionEnd) → slice_get (ends_of files) place ≡ Some end →
    is_outside end.far ≡ true → number_at files place < length (external_ends files)
number_less files place end there outer =
    slice_get_within (external_ends files) (number_at files place) end
    (kept_there (λ (e : SessionEnd). is_outside e.far) (ends_of files) place end there outer)

over_read : (w : Reading) (files : List File) (lens : List ℕ) (env : SymEnv) (place len : ℕ) (end : SessionEnd) →
    Ascend lens → slice_get (ends_of files) place ≡ Some end → is_outside end.far ≡ true →
    shape_over (environment_read w files lens env) place len
    ≡ at_length len (stands lens (map (announced_by w) (row (length lens) env.announced (number_at files place))) len)
over_read w files lens env place len end up there outer =
    ap (option_map unplaced_shape)
    (environment_found files lens (map (address_of w) env.ids) (map (bgp_of w) env.announced) place len up)
    ∙ ap (λ o. option_map unplaced_shape (option_map (announcement_of place len) o))
    (external_row files lens (map (bgp_of w) env.announced) place len end there outer)
    ∙ ap (λ o. option_map unplaced_shape (option_map (announcement_of place len) (option_and_then (λ t. t) o)))
    (item_map (bgp_of w) (places_below lens (length (external_ends files))) env.announced (number_at files place) len
    ∙ ap (option_map (bgp_of w)) (row_stands lens env.announced (length (external_ends files)) (number_at files place)
    len (number_less files place end there outer)))
    ∙ placed w place len (stands lens (row (length lens) env.announced (number_at files place)) len)
    ∙ ap (at_length len)
    (sym (stands_made (announced_by w) lens (row (length lens) env.announced (number_at files place)) len))

row_made : (w : Reading) (files : List File) (tracked : Tracked) (lens : List ℕ) (env : SymEnv) (place : ℕ)
    (end : SessionEnd) → FitsNet files tracked lens env → slice_get (ends_of files) place ≡ Some end →
    is_outside end.far ≡ true →
    length (map (announced_by w) (row (length lens) env.announced (number_at files place))) ≡ length lens
row_made w files tracked lens env place end fits there outer =
    length-map (row (length lens) env.announced (number_at files place)) (announced_by w)
    ∙ row_long (length lens) env.announced (number_at files place) (length (external_ends files))
    (number_less files place end there outer) fits.long

-- it stands among all that is announced
pub row_there : (files : List File) (tracked : Tracked) (lens : List ℕ) (env : SymEnv) (place : ℕ) (end : SessionEnd)
    (k : ℕ) → FitsNet files tracked lens env → slice_get (ends_of files) place ≡ Some end →
    is_outside end.far ≡ true → k ≡ number_at files place → k * length lens + length lens ≤ length env.announced
row_there files tracked lens env place end k fits there outer is =
    let less = number_less files place end there outer in
    row_within (length lens) env.announced k (length (external_ends files)) (omega (arith, less, is)) fits.long

-- ---- one pair

pub peer_tells : (left right : List File) (count : ℕ) (w u : Reading) (a b : SymEnv) (pair : EndPair) (i j : ℕ)
    (one two r : Bool) → i ≡ number_at left pair.one → j ≡ number_at right pair.other →
    one ≡ same_id w u (slice_get a.ids i) (slice_get b.ids j) →
    two ≡ true ↔ map (announced_by w) (row count a.announced i) ≡ map (announced_by u) (row count b.announced j) →
    r ≡ (one && two) → r ≡ true ↔ IsOnePeer left right count w u a b pair
peer_tells left right count w u a b pair i j one two r left_is right_is id rows is =
    let ids = ids_tell w u a.ids b.ids i j one id in (
      λ holds.
          let both = and_parts one two (sym is ∙ holds) in
          record {
            id = ap (slice_get (map (address_of w) a.ids)) (sym left_is) ∙ ids.0 both.0
                ∙ ap (slice_get (map (address_of u) b.ids)) right_is;
            announced = ap (λ k. map (announced_by w) (row count a.announced k)) (sym left_is) ∙ rows.0 both.1
                ∙ ap (λ k. map (announced_by u) (row count b.announced k)) right_is;
          },
      λ peer. is ∙ and_from one two
          (ids.1 (ap (slice_get (map (address_of w) a.ids)) left_is ∙ peer.id
          ∙ ap (slice_get (map (address_of u) b.ids)) (sym right_is)))
          (rows.1 (ap (λ k. map (announced_by w) (row count a.announced k)) left_is ∙ peer.announced
          ∙ ap (λ k. map (announced_by u) (row count b.announced k)) (sym right_is))),
    )

-- ---- all pairs

pub peers_tell : (left right : List File) (tracked also : Tracked) (lens : List ℕ) (w u : Reading) (a b : SymEnv)
    (pairs : List EndPair) (r : Bool) → Ascend lens → FitsNet left tracked lens a → FitsNet right also lens b →
    AreEndPairs left right pairs → r ≡ true ↔ All (IsOnePeer left right (length lens) w u a b) pairs →
    r ≡ true ↔ AreCommonShapes left right (environment_read w left lens a) (environment_read u right lens b)
peers_tell left right tracked also lens w u a b pairs r up fits fits_too are tells =
    (λ holds. common (tells.0 holds), λ shapes. tells.1 (all_one shapes))
  where
    common : All (IsOnePeer left right (length lens) w u a b) pairs →
        AreCommonShapes left right (environment_read w left lens a) (environment_read u right lens b)
    common all = record {
      ids = λ i j x y here there peer.
          let one = kept_from (λ (e : SessionEnd). is_outside e.far) (ends_of left) i x here in
          let other = kept_from (λ (e : SessionEnd). is_outside e.far) (ends_of right) j y there in
          let same = All-contains (IsOnePeer left right (length lens) w u a b) pairs
          (record { one = one.0; other = other.0 }) all
          (are.whole one.0 other.0 (x, y, one.1, other.1, (one.2, other.2, peer))) in
          ap (slice_get (map (address_of w) a.ids)) (sym one.3) ∙ same.id
          ∙ ap (slice_get (map (address_of u) b.ids)) other.3;
      announced = λ i j len x y here there outer outside peer.
          let same = All-contains (IsOnePeer left right (length lens) w u a b) pairs
          (record { one = i; other = j }) all
          (are.whole i j (x, y, here, there, (outer, outside, peer))) in
          over_read w left lens a i len x up here outer ∙ ap (λ rows. at_length len (stands lens rows len)) same.announced
          ∙ sym (over_read u right lens b j len y up there outside);
    }

    all_one : AreCommonShapes left right (environment_read w left lens a) (environment_read u right lens b) →
        All (IsOnePeer left right (length lens) w u a b) pairs
    all_one shapes =
        All-weaker (Contains pairs) (IsOnePeer left right (length lens) w u a b) one pairs (All-contains_itself pairs)
      where
        one : (pair : EndPair) → Contains pairs pair → IsOnePeer left right (length lens) w u a b pair
        one pair has = let (x, y, here, there, (outer, outside, peer)) = are.sound pair has in record {
          id = shapes.ids (number_at left pair.one) (number_at right pair.other) x y
              (kept_there (λ (e : SessionEnd). is_outside e.far) (ends_of left) pair.one x here outer)
              (kept_there (λ (e : SessionEnd). is_outside e.far) (ends_of right) pair.other y there outside) peer;
          announced = rows_same lens
              (map (announced_by w) (row (length lens) a.announced (number_at left pair.one)))
              (map (announced_by u) (row (length lens) b.announced (number_at right pair.other))) up
              (row_made w left tracked lens a pair.one x fits here outer)
              (row_made u right also lens b pair.other y fits_too there outside)
              (λ len p q first second. one_length w u len
              (stands lens (row (length lens) a.announced (number_at left pair.one)) len)
              (stands lens (row (length lens) b.announced (number_at right pair.other)) len) p q
              (sym (stands_made (announced_by w) lens (row (length lens) a.announced (number_at left pair.one)) len)
              ∙ first)
              (sym (stands_made (announced_by u) lens (row (length lens) b.announced (number_at right pair.other)) len)
              ∙ second)
              (ap (at_length len) (sym first) ∙ sym (over_read w left lens a pair.one len x up here outer)
              ∙ shapes.announced pair.one pair.other len x y here there outer outside peer
              ∙ over_read u right lens b pair.other len y up there outside ∙ ap (at_length len) second));
        }
