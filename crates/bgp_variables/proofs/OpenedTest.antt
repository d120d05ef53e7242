-- What is asked of an announcement of new variables is all that its peer asks.
use Rattle.std.proofs.Common.{◌≡◌, ℕ, ◌+◌, ◌^◌, ◌<◌, ◌&&◌, Bool, true, false, List, [], ◌∷◌, length, refl, ap, arith, ◌∙◌}
use Rattle.std.proofs.Common.{Some, slice_get}
use Rattle.std.specs.Prelude.{◌==◌, nat_le, nat_lt, if◌then◌else◌}
use Rattle.std.specs.List.{list_all}
use Rattle.std.specs.Option.{option_map_or}
use Rattle.std.proofs.lemmas.Bool.{and_from, and_parts, eq-eqb, false≢true, lt-ltb}
use Rattle.std.proofs.lemmas.List.{length-replicate}
use Rattle.ios_ast.specs.declared.bgp.Neighbour.{Neighbour}
use Rattle.ios_ast.specs.declared.file.File.{File}
use Rattle.route_record.specs.declared.tracked.Tracked.{Tracked}
use Rattle.route_record.specs.declared.TheConstants.{LENGTHS}
use Rattle.net_parts.specs.declared.sessions.SessionEnd.{SessionEnd}
use Rattle.net_parts.specs.Sessions.{ends_of, is_outside, neighbour_of}
use Rattle.route_shapes.specs.Bgp.{BgpShape}
use Rattle.bgp_shapes.specs.Candidates.{ShapeAnnouncement}
use Rattle.failed_links.proofs.Reading.{number_from-below}
use Rattle.announced_shapes.specs.Announcements.{has_communities, has_ranges, is_announcement_shape, is_peers_path}
use Rattle.net_parts.specs.World.{is_word}
use Rattle.announced_shapes.specs.Paths.{is_path_shape, taken}
use Rattle.announced_places.specs.Environments.{announcement_of}
use Rattle.bgp_variables.specs.Announced.{is_announced}
use Rattle.bgp_variables.specs.Marks.{mark_width, marks_from}
use Rattle.bgp_variables.specs.Rooms.{all_marks, announcement_room}
use Rattle.bgp_variables.specs.Shapes.{preferences_from, shape_from}

marks_many : (mays : List Bool) (v : ℕ → Bool) (from : ℕ) → length (marks_from mays v from) ≡ length mays
unfolding marks_from
marks_many [] v from = refl
marks_many (may ∷ mays) v from = let rest = marks_many mays v (from + mark_width may) in omega (arith, rest)

words_taken : (tracked : List ℕ) (marks : List Bool) → list_all is_word tracked ≡ true →
    list_all is_word (taken tracked marks) ≡ true
words_taken [] marks all = refl
words_taken (t ∷ ts) [] all = refl
words_taken (t ∷ ts) (b ∷ bs) all =
    let parts = and_parts (is_word t) (list_all is_word ts) all in by b parts.0 (words_taken ts bs parts.1)
  where
    by : (c : Bool) → is_word t ≡ true → list_all is_word (taken ts bs) ≡ true →
        list_all is_word (if c then t ∷ taken ts bs else taken ts bs) ≡ true
    by true one rest = and_from (is_word t) (list_all is_word (taken ts bs)) one rest
    by false one rest = rest

med_word : (tracked : Tracked) (neighbour : Neighbour) (v : ℕ → Bool) (from : ℕ) →
    is_word (shape_from (announcement_room tracked neighbour) v from).preferences.med ≡ true
unfolding shape_from preferences_from
med_word tracked neighbour v from = lt-ltb _ (2 ^ 32) (number_from-below v _ 32)

marks_there : (tracked : Tracked) (neighbour : Neighbour) (v : ℕ → Bool) (from : ℕ) →
    length (shape_from (announcement_room tracked neighbour) v from).communities ≡ length tracked.communities
unfolding shape_from
marks_there tracked neighbour v from =
    marks_many (all_marks tracked.communities) v _ ∙ length-replicate (length tracked.communities) true

pub opened_test : (files : List File) (tracked : Tracked) (at : ℕ) (end : SessionEnd) (neighbour : Neighbour) (len : ℕ)
    (v : ℕ → Bool) (from : ℕ) → slice_get (ends_of files) at ≡ Some end → is_outside end.far ≡ true →
    neighbour_of files end ≡ Some neighbour → len < LENGTHS → list_all is_word tracked.communities ≡ true →
    is_announcement_shape files tracked (announcement_of at len (shape_from (announcement_room tracked neighbour) v from))
    ≡ is_announced tracked neighbour.asn (shape_from (announcement_room tracked neighbour) v from)
unfolding is_announcement_shape
opened_test files tracked at end neighbour len v from there outer line short words =
    ap (λ o. option_map_or (is_peers_path files tracked a) o false && others) there
    ∙ ap (λ b. (b && option_map_or path (neighbour_of files end) false) && others) outer
    ∙ ap (λ o. option_map_or path o false && others) line
    ∙ by (path neighbour) (nat_lt len LENGTHS) (is_word s.preferences.med) (nat_le s.preferences.origin 2)
    (length s.communities == length tracked.communities) (list_all is_word (taken tracked.communities s.communities))
    (lt-ltb len LENGTHS short) (med_word tracked neighbour v from)
    (eq-eqb (length s.communities) (length tracked.communities) (marks_there tracked neighbour v from))
    (words_taken tracked.communities s.communities words)
  where
    s : BgpShape
    s = shape_from (announcement_room tracked neighbour) v from

    a : ShapeAnnouncement
    a = announcement_of at len s

    others : Bool
    others = has_ranges a && has_communities tracked.communities a.communities

    path : Neighbour → Bool
    path = λ n. is_path_shape n.asn tracked.numbers s.path

    by : (p l m o c w : Bool) → l ≡ true → m ≡ true → c ≡ true → w ≡ true →
        (p && ((l && (m && o)) && (c && w))) ≡ (o && p)
    by true true true true true true a b c d = refl
    by true true true false c w a b x d = refl
    by false l m true c w a b x d = refl
    by false l m false c w a b x d = refl
    by true false m o c w a b x d = absurd (false≢true a)
    by true true false o c w a b x d = absurd (false≢true b)
    by true true true true false w a b x d = absurd (false≢true x)
    by true true true true true false a b x d = absurd (false≢true d)
