-- Steps of the loop over the BGP routes of slots.
use Rattle.std.proofs.Common.{◌≡◌, ℕ, ◌+◌, ◌<◌, List, [], ◌∷◌, ◌++◌, arith, Option, drop, get_or, length, map}
use Rattle.std.proofs.Common.{ap, sym, ◌∙◌}
use Rattle.std.specs.Prelude.{All}
use Rattle.std.proofs.lemmas.Grind.{common_steps}
use Rattle.std.proofs.lemmas.List.{append_assoc, drop_all, drop_more, map-append}
use Rattle.std.proofs.lemmas.List.Elements.{All-push, All-nil}
use Rattle.ios_ast.specs.declared.file.File.{File}
use Rattle.route_record.specs.declared.tracked.Tracked.{Tracked}
use Rattle.plan_places.specs.declared.places.Place.{Place}
use Rattle.failed_links.proofs.Steps.{grows_grown}
use Rattle.sym_policy.specs.declared.records.SymBgp.{SymBgp}
use Rattle.sym_policy.specs.Held.{bgp_of}
use Rattle.sym_policy.specs.MapRecs.{HasTracked}
use Rattle.sym_rib.proofs.OneEach.{items_at, list_end_push}
use Rattle.term_store.specs.Terms.{Reading}
use Rattle.bgp_variables.specs.declared.rooms.BgpRoom.{BgpRoom}
use Rattle.bgp_variables.specs.Rooms.{bgp_room, bgp_rooms}
use Rattle.bgp_variables.specs.Shapes.{bgp_from, bgp_width, bgps_from, bgps_width}
use Rattle.bgp_variables.proofs.EnvironmentSteps.{bgps_next, bgps_none, bgps_width_next, bgps_width_none}

-- a room is there where a process is
abbrev room_at : Tracked → List File → Place → Option BgpRoom
room_at tracked files p = bgp_room tracked files p.router p.len

pub routes_push : (w : Reading) (xs : List SymBgp) (x : SymBgp) →
    map (bgp_of w) (xs ++ x ∷ []) ≡ map (bgp_of w) xs ++ bgp_of w x ∷ []
routes_push w xs x = map-append (bgp_of w) xs (x ∷ [])

pub tracked_push : (tracked : Tracked) (xs : List SymBgp) (x : SymBgp) → All (HasTracked tracked) xs →
    HasTracked tracked x → All (HasTracked tracked) (xs ++ x ∷ [])
tracked_push tracked xs x before here = All-push (HasTracked tracked) xs x before here

pub tracked_none : (tracked : Tracked) → All (HasTracked tracked) []
tracked_none tracked = All-nil (HasTracked tracked)

pub ruleset route_steps = (
  common_steps,
  grows_grown,
  list_end_push,
  items_at,
  drop_all,
  routes_push,
  tracked_push,
  tracked_none,
  bgps_next,
  bgps_none,
  bgps_width_next,
  bgps_width_none,
)

-- what is left of the row has its variables behind those of the next
pub route_width : (tracked : Tracked) (files : List File) (places : List Place) (from to i : ℕ) (p : Place) →
    i < length places → to ≡ from + bgp_width (room_at tracked files (get_or places i p)) →
    to + bgps_width (bgp_rooms tracked files (drop (i + 1) places))
    ≡ from + bgps_width (bgp_rooms tracked files (drop i places))
route_width tracked files places from to i p below is =
    let all = ap (λ ps. bgps_width (bgp_rooms tracked files ps)) (drop_more places i p below)
    ∙ bgps_width_next (room_at tracked files (get_or places i p)) (bgp_rooms tracked files (drop (i + 1) places)) in
    omega (arith, all, is)

-- one more route at the end reads as the next of the row
pub route_read : (w : Reading) (made new : List SymBgp) (next : SymBgp) (tracked : Tracked) (files : List File)
    (places : List Place) (from to i : ℕ) (p : Place) → i < length places → new ≡ made ++ next ∷ [] →
    bgp_of w next ≡ bgp_from (room_at tracked files (get_or places i p)) w.variable from →
    to ≡ from + bgp_width (room_at tracked files (get_or places i p)) →
    map (bgp_of w) new ++ bgps_from (bgp_rooms tracked files (drop (i + 1) places)) w.variable to
    ≡ map (bgp_of w) made ++ bgps_from (bgp_rooms tracked files (drop i places)) w.variable from
route_read w made new next tracked files places from to i p below is read to_is =
    let rest = bgp_rooms tracked files (drop (i + 1) places) in
    let room = room_at tracked files (get_or places i p) in
    let front = map (bgp_of w) made in
    ap (λ xs. map (bgp_of w) xs ++ bgps_from rest w.variable to) is
    ∙ ap (λ ys. ys ++ bgps_from rest w.variable to) (map-append (bgp_of w) made (next ∷ []))
    ∙ append_assoc front (bgp_of w next ∷ []) (bgps_from rest w.variable to)
    ∙ ap (λ ys. front ++ ys) (ap (λ x. x ∷ bgps_from rest w.variable to) read
    ∙ ap (λ k. bgp_from room w.variable from ∷ bgps_from rest w.variable k) to_is
    ∙ sym (bgps_next room rest w.variable from)
    ∙ ap (λ ps. bgps_from (bgp_rooms tracked files ps) w.variable from) (sym (drop_more places i p below)))
