-- What an external peer may announce has one of the shapes, and of each there is an announcement.
use Rattle.std.proofs.Common.{◌≡◌, ℕ, ◌^◌, ◌≤◌, true, false, List, ◌∷◌, length, Option, Some, None}
use Rattle.std.proofs.Common.{refl, sym, ap, subst, arith, ◌∙◌, ltb-true, lt-ltb, leb-true, le-leb}
use Rattle.std.specs.Prelude.{◌==◌, ◌&&◌, nat_lt, nat_le, is_some, slice_get, All, IfSome}
use Rattle.std.specs.List.{list_all}
use Rattle.std.specs.Option.{option_map_or}
use Rattle.std.proofs.lemmas.Bool.{and_from, and_parts, eqb-true, eq-eqb}
use Rattle.std.proofs.lemmas.List.{length-map}
use Rattle.ios_ast.specs.declared.bgp.Neighbour.{Neighbour}
use Rattle.ios_ast.specs.declared.file.File.{File}
use Rattle.ios_ast.specs.Deciding.{carries}
use Rattle.mw_text.proofs.Lists.{all_found}
use Rattle.mw_text.proofs.Found.{all_pass, each_passes}
use Rattle.route_record.specs.declared.Announcement.{Announcement}
use Rattle.route_record.specs.declared.TheConstants.{LENGTHS}
use Rattle.route_record.specs.declared.tracked.Tracked.{Tracked}
use Rattle.route_record.specs.Fits.{IsWord}
use Rattle.route_record.proofs.OriginCodes.{code_again, code_small}
use Rattle.net_parts.specs.declared.sessions.SessionEnd.{SessionEnd}
use Rattle.net_parts.specs.Sessions.{IsPlaced, ends_of, is_outside, neighbour_of}
use Rattle.net_parts.proofs.AsNumbers.{as_number, number_passes}
use Rattle.net_parts.specs.World.{IsAnnouncement, IsAsNumber, ascends, is_as_number, is_word}
use Rattle.net_parts.proofs.EndPlaces.{ends_placed}
use Rattle.route_shapes.specs.Shapes.{PathShape, path_shape}
use Rattle.bgp_shapes.specs.Candidates.{ShapeAnnouncement, announcement_shape}
use Rattle.announced_shapes.specs.Announcements.{IsAnnouncementShape, IsPeersPath, has_communities, has_ranges}
use Rattle.announced_shapes.specs.Announcements.{is_announcement_shape, is_peers_path, rebuilt_announcement}
use Rattle.announced_shapes.specs.Paths.{IsPathShape, is_path_shape, rebuilt_path, taken}
use Rattle.announced_shapes.proofs.Announced.{announced_path, taken_ascends, taken_words}
use Rattle.announced_shapes.proofs.Announcing.{passes, rebuilt_first, rebuilt_numbers, tested}
use Rattle.announced_shapes.proofs.PathLaw.{path_again, taken_marks}
use Rattle.announced_shapes.proofs.PlainShape.{plain, plain_shape}

-- ---- tests of all of some numbers

-- ---- the test

peer_tested : (files : List File) (tracked : Tracked) (s : ShapeAnnouncement) →
    option_map_or (is_peers_path files tracked s) (slice_get (ends_of files) s.end) false ≡ true →
    IsPeersPath files tracked s
peer_tested files tracked s is = by (slice_get (ends_of files) s.end) refl is where
  of_line : (end : SessionEnd) → slice_get (ends_of files) s.end ≡ Some end → is_outside end.far ≡ true →
      (o : Option Neighbour) → neighbour_of files end ≡ o →
      option_map_or (λ neighbour. is_path_shape neighbour.asn tracked.numbers s.path) o false ≡ true →
      IsPeersPath files tracked s
  of_line end there outside None line is = absurd cc
  of_line end there outside (Some neighbour) line is = record {
    end = end;
    there = there;
    outside = outside;
    neighbour = neighbour;
    line = line;
    path = tested neighbour.asn tracked.numbers s.path is;
  }

  by : (o : Option SessionEnd) → slice_get (ends_of files) s.end ≡ o →
      option_map_or (is_peers_path files tracked s) o false ≡ true → IsPeersPath files tracked s
  by None there is = absurd cc
  by (Some end) there is =
      let both = and_parts (is_outside end.far)
      (option_map_or (λ neighbour. is_path_shape neighbour.asn tracked.numbers s.path) (neighbour_of files end) false)
      is in
      of_line end there both.0 (neighbour_of files end) refl both.1

peer_passes : (files : List File) (tracked : Tracked) (s : ShapeAnnouncement) → IsPeersPath files tracked s →
    option_map_or (is_peers_path files tracked s) (slice_get (ends_of files) s.end) false ≡ true
peer_passes files tracked s is =
    ap (λ o. option_map_or (is_peers_path files tracked s) o false) is.there
    ∙ and_from _ _ is.outside
    (ap (λ o. option_map_or (λ neighbour. is_path_shape neighbour.asn tracked.numbers s.path) o false) is.line
    ∙ passes is.neighbour.asn tracked.numbers s.path is.path)

pub shape_tested : (files : List File) (tracked : Tracked) (s : ShapeAnnouncement) →
    is_announcement_shape files tracked s ≡ true → IsAnnouncementShape files tracked s
unfolding is_announcement_shape
shape_tested files tracked s is =
    let halves = and_parts (option_map_or (is_peers_path files tracked s) (slice_get (ends_of files) s.end) false)
    (has_ranges s && has_communities tracked.communities s.communities) is in
    let rest = and_parts (has_ranges s) (has_communities tracked.communities s.communities) halves.1 in
    let ranges = and_parts (nat_lt s.len LENGTHS) (is_word s.med && nat_le s.origin 2) rest.0 in
    let numbers = and_parts (is_word s.med) (nat_le s.origin 2) ranges.1 in
    let marks = and_parts (length s.communities == length tracked.communities)
    (list_all is_word (taken tracked.communities s.communities)) rest.1 in
    record {
      peer = peer_tested files tracked s halves.0;
      len = ltb-true s.len LENGTHS ranges.0;
      med = ltb-true s.med (2 ^ 32) numbers.0;
      origin = leb-true s.origin 2 numbers.1;
      marks = eqb-true _ _ marks.0;
      words = all_pass is_word IsWord (λ n h. ltb-true n (2 ^ 32) h) (taken tracked.communities s.communities) marks.1;
    }

pub shape_passes : (files : List File) (tracked : Tracked) (s : ShapeAnnouncement) →
    IsAnnouncementShape files tracked s → is_announcement_shape files tracked s ≡ true
unfolding is_announcement_shape
shape_passes files tracked s is =
    and_from _ _ (peer_passes files tracked s is.peer)
    (and_from _ _
    (and_from _ _ (lt-ltb s.len LENGTHS is.len)
    (and_from _ _ (lt-ltb s.med (2 ^ 32) is.med) (le-leb s.origin 2 is.origin)))
    (and_from _ _ (eq-eqb _ _ is.marks)
    (each_passes is_word IsWord (λ n h. lt-ltb n (2 ^ 32) h) (taken tracked.communities s.communities) is.words)))

-- ---- an announcement of each shape

-- the path of a shape has it
path_has : (asn : ℕ) (tracked : List ℕ) (s : PathShape) → ascends tracked ≡ true → IsPathShape asn tracked s →
    path_shape tracked (rebuilt_path tracked s) ≡ s
path_has asn tracked s up is =
    let again = path_again asn tracked s up is in
    let len : length (rebuilt_path tracked s) ≡ s.len = ap (λ t. t.len) again in
    let short = leb-true s.len 255 is.short in
    plain tracked (rebuilt_path tracked s) (omega (arith, len, short)) ∙ again

-- and is short
path_short : (asn : ℕ) (tracked : List ℕ) (s : PathShape) → ascends tracked ≡ true → IsPathShape asn tracked s →
    length (rebuilt_path tracked s) ≤ 255
path_short asn tracked s up is =
    let len : length (rebuilt_path tracked s) ≡ s.len = ap (λ t. t.len) (path_again asn tracked s up is) in
    let short = leb-true s.len 255 is.short in
    omega (arith, len, short)

-- the announcement of a shape has it
pub announcement_again : (files : List File) (tracked : Tracked) (s : ShapeAnnouncement) →
    ascends tracked.numbers ≡ true → ascends tracked.communities ≡ true → IsAnnouncementShape files tracked s →
    announcement_shape tracked (rebuilt_announcement tracked s) ≡ s
announcement_again files tracked s numbers communities is =
    let path = path_has is.peer.neighbour.asn tracked.numbers s.path numbers is.peer.path in
    let origin = sym (code_again s.origin is.origin) in
    let marks = taken_marks tracked.communities s.communities communities is.marks in
    λ i. record {
      end = s.end;
      len = s.len;
      path = path i;
      med = s.med;
      origin = origin i;
      communities = marks i;
    }

-- and is one that its peer may make
pub rebuilt_is : (files : List File) (tracked : Tracked) (s : ShapeAnnouncement) →
    ascends tracked.numbers ≡ true → ascends tracked.communities ≡ true → IsAnnouncementShape files tracked s →
    IsAnnouncement files (rebuilt_announcement tracked s)
rebuilt_is files tracked s numbers communities is =
    let asn = is.peer.neighbour.asn in
    record {
      from = (
        is.peer.end,
        is.peer.there,
        is.peer.outside,
        subst (λ o. IfSome o (λ neighbour. (rest : List ℕ)
            × (rebuilt_path tracked.numbers s.path ≡ neighbour.asn ∷ rest))) (sym is.peer.line)
            (rebuilt_first asn tracked.numbers s.path is.peer.path),
      );
      len = is.len;
      path = (
        path_short asn tracked.numbers s.path numbers is.peer.path,
        all_pass is_as_number IsAsNumber as_number (rebuilt_path tracked.numbers s.path)
            (rebuilt_numbers asn tracked.numbers s.path is.peer.path),
      );
      med = is.med;
      communities = (taken_ascends tracked.communities s.communities communities, is.words);
    }

-- ---- real announcements

-- the marked values of a list stand in it
pub announced_shape : (files : List File) (tracked : Tracked) (a : Announcement) → ascends tracked.numbers ≡ true →
    IsAnnouncement files a → IsAnnouncementShape files tracked (announcement_shape tracked a)
announced_shape files tracked a numbers is = record {
  peer = by_line (neighbour_of files end) refl placed.line is.from.3;
  len = is.len;
  med = is.med;
  origin = code_small a.origin;
  marks = length-map tracked.communities (carries a.communities);
  words = taken_words a.communities tracked.communities is.communities.1;
} where
  end : SessionEnd
  end = is.from.0

  placed : IsPlaced files end
  placed = all_found (IsPlaced files) (ends_of files) a.end end (ends_placed files) is.from.1

  path_is : (asn : ℕ) → (rest : List ℕ) × (a.path ≡ asn ∷ rest) →
      IsPathShape asn tracked.numbers (path_shape tracked.numbers a.path)
  path_is asn begins =
      let P : List ℕ → Type 0 = λ path. (length path ≤ 255) × All IsAsNumber path in
      let fits = subst P begins.1 is.path in
      let shape = announced_path asn tracked.numbers begins.0 numbers fits.0
      (each_passes is_as_number IsAsNumber number_passes (asn ∷ begins.0) fits.1) in
      let small = is.path.0 in
      subst (IsPathShape asn tracked.numbers)
      (ap (plain_shape tracked.numbers) (sym begins.1)
      ∙ sym (plain tracked.numbers a.path (omega (arith, small)))) shape

  by_line : (o : Option Neighbour) → neighbour_of files end ≡ o → is_some (neighbour_of files end) ≡ true →
      IfSome (neighbour_of files end) (λ neighbour. (rest : List ℕ) × (a.path ≡ neighbour.asn ∷ rest)) →
      IsPeersPath files tracked (announcement_shape tracked a)
  by_line None line there begins = absurd (let no = sym (ap is_some line) ∙ there in cc)
  by_line (Some neighbour) line there begins = record {
    end = end;
    there = is.from.1;
    outside = is.from.2;
    neighbour = neighbour;
    line = line;
    path = path_is neighbour.asn
        (subst (λ p. IfSome p (λ n. (rest : List ℕ) × (a.path ≡ n.asn ∷ rest))) line begins);
  }
