-- The shapes of BGP routes by variables: what the values of variables say, how many variables there are, and their values
-- for a shape.
use Rattle.std.specs.Prelude.{◌≡◌, ℕ, ◌+◌, Bool, true, false, List, [], ◌∷◌, ◌++◌, length, Option, Some, None}
use Rattle.std.specs.Prelude.{IfSome, if◌then◌else◌}
use Rattle.failed_links.specs.Failures.{none_of}
use Rattle.failed_links.specs.Rows.{number_from}
use Rattle.route_record.specs.declared.tracked.Tracked.{Tracked}
use Rattle.route_shapes.specs.Bgp.{BgpShape}
use Rattle.route_shapes.specs.Shapes.{PathShape, Preferences}
use Rattle.slot_places.specs.declared.fields.Field.{Field}
use Rattle.slot_places.specs.Values.{FitsField, field_width, read_as}
use Rattle.world_variables.specs.Unknowns.{TellsWithin, field_digits}
use Rattle.bgp_variables.specs.declared.rooms.BgpRoom.{BgpRoom}
use Rattle.bgp_variables.specs.declared.rooms.PathRoom.{PathRoom}
use Rattle.bgp_variables.specs.declared.rooms.PreferencesRoom.{PreferencesRoom}
use Rattle.bgp_variables.specs.Marks.{FitMarks, marks_bits, marks_from, marks_width}

-- ---- one number

abbrev pub told_from : Field → (ℕ → Bool) → ℕ → ℕ
told_from field v from = read_as field (number_from v from (field_width field))

-- ---- the numbers by which routes are preferred

unfoldable pub preferences_from : PreferencesRoom → (ℕ → Bool) → ℕ → Preferences
preferences_from room v from =
    let local_pref = from + field_width room.weight in
    let med = local_pref + field_width room.local_pref in
    let origin = med + field_width room.med in
    record {
      weight = told_from room.weight v from;
      local_pref = told_from room.local_pref v local_pref;
      med = told_from room.med v med;
      origin = told_from room.origin v origin;
    }

unfoldable pub preferences_width : PreferencesRoom → ℕ
preferences_width room =
    field_width room.weight + field_width room.local_pref + field_width room.med + field_width room.origin

unfoldable pub preferences_bits : PreferencesRoom → Preferences → List Bool → List Bool
preferences_bits room s rest =
    field_digits room.weight s.weight
    ++ (field_digits room.local_pref s.local_pref
    ++ (field_digits room.med s.med ++ (field_digits room.origin s.origin ++ rest)))

-- ---- the path

unfoldable pub path_from : PathRoom → (ℕ → Bool) → ℕ → PathShape
path_from room v from =
    let first = from + field_width room.len in
    let last = first + field_width room.first in
    let numbers = last + field_width room.last in
    record {
      len = told_from room.len v from;
      first = told_from room.first v first;
      last = told_from room.last v last;
      numbers = marks_from room.numbers v numbers;
    }

unfoldable pub path_width : PathRoom → ℕ
path_width room =
    field_width room.len + field_width room.first + field_width room.last + marks_width room.numbers

unfoldable pub path_bits : PathRoom → PathShape → List Bool → List Bool
path_bits room s rest =
    field_digits room.len s.len
    ++ (field_digits room.first s.first
    ++ (field_digits room.last s.last ++ marks_bits room.numbers s.numbers rest))

-- ---- a route: the number of its peer comes first

-- where the variables of its parts begin
abbrev pub path_start : BgpRoom → ℕ → ℕ
path_start room from = from + field_width room.from + preferences_width room.preferences

abbrev pub communities_start : BgpRoom → ℕ → ℕ
communities_start room from = path_start room from + path_width room.path

abbrev pub hop_start : BgpRoom → ℕ → ℕ
hop_start room from = communities_start room from + marks_width room.communities

abbrev pub originator_start : BgpRoom → ℕ → ℕ
originator_start room from = hop_start room from + field_width room.next_hop

abbrev pub cluster_len_start : BgpRoom → ℕ → ℕ
cluster_len_start room from = originator_start room from + field_width room.originator

abbrev pub clusters_start : BgpRoom → ℕ → ℕ
clusters_start room from = cluster_len_start room from + field_width room.cluster_len

unfoldable pub shape_from : BgpRoom → (ℕ → Bool) → ℕ → BgpShape
shape_from room v from = record {
  from = told_from room.from v from;
  preferences = preferences_from room.preferences v (from + field_width room.from);
  path = path_from room.path v (path_start room from);
  communities = marks_from room.communities v (communities_start room from);
  next_hop = told_from room.next_hop v (hop_start room from);
  originator = told_from room.originator v (originator_start room from);
  cluster_len = told_from room.cluster_len v (cluster_len_start room from);
  clusters = marks_from room.clusters v (clusters_start room from);
}

unfoldable pub shape_width : BgpRoom → ℕ
shape_width room =
    field_width room.from + preferences_width room.preferences + path_width room.path
    + marks_width room.communities + field_width room.next_hop + field_width room.originator
    + field_width room.cluster_len + marks_width room.clusters

unfoldable pub shape_bits : BgpRoom → BgpShape → List Bool → List Bool
shape_bits room s rest =
    field_digits room.from s.from
    ++ preferences_bits room.preferences s.preferences (path_bits room.path s.path
    (marks_bits room.communities s.communities
    (field_digits room.next_hop s.next_hop
    ++ (field_digits room.originator s.originator
    ++ (field_digits room.cluster_len s.cluster_len ++ marks_bits room.clusters s.clusters rest)))))

-- ---- whether there is a route, and the route; where there is no room there is none

abbrev pub bgp_from : Option BgpRoom → (ℕ → Bool) → ℕ → Option BgpShape
bgp_from None v from = None
bgp_from (Some room) v from = if v from then Some (shape_from room v (from + 1)) else None

abbrev pub bgp_width : Option BgpRoom → ℕ
bgp_width None = 0
bgp_width (Some room) = 1 + shape_width room

-- the variables of a route that is not there are false
abbrev pub there_bits : BgpRoom → Option BgpShape → List Bool → List Bool
there_bits room None rest = false ∷ (none_of (shape_width room) ++ rest)
there_bits room (Some s) rest = true ∷ shape_bits room s rest

abbrev pub bgp_bits : Option BgpRoom → Option BgpShape → List Bool → List Bool
bgp_bits None x rest = rest
bgp_bits (Some room) x rest = there_bits room x rest

-- ---- routes one after another

unfoldable pub bgps_from : List (Option BgpRoom) → (ℕ → Bool) → ℕ → List (Option BgpShape)
bgps_from [] v from = []
bgps_from (room ∷ rooms) v from = bgp_from room v from ∷ bgps_from rooms v (from + bgp_width room)

unfoldable pub bgps_width : List (Option BgpRoom) → ℕ
bgps_width [] = 0
bgps_width (room ∷ rooms) = bgp_width room + bgps_width rooms

unfoldable pub bgps_bits : List (Option BgpRoom) → List (Option BgpShape) → List Bool → List Bool
bgps_bits [] xs rest = rest
bgps_bits (room ∷ rooms) [] rest = rest
bgps_bits (room ∷ rooms) (x ∷ xs) rest = bgp_bits room x (bgps_bits rooms xs rest)

-- ---- what fits

pub record FitsPreferences (room : PreferencesRoom) (s : Preferences) : Type 0 where
  pub weight : FitsField room.weight s.weight
  pub local_pref : FitsField room.local_pref s.local_pref
  pub med : FitsField room.med s.med
  pub origin : FitsField room.origin s.origin

pub record FitsPath (room : PathRoom) (s : PathShape) : Type 0 where
  pub len : FitsField room.len s.len
  pub first : FitsField room.first s.first
  pub last : FitsField room.last s.last
  pub numbers : FitMarks room.numbers s.numbers

pub record FitsShape (room : BgpRoom) (s : BgpShape) : Type 0 where
  pub from : FitsField room.from s.from
  pub preferences : FitsPreferences room.preferences s.preferences
  pub path : FitsPath room.path s.path
  pub communities : FitMarks room.communities s.communities
  pub next_hop : FitsField room.next_hop s.next_hop
  pub originator : FitsField room.originator s.originator
  pub cluster_len : FitsField room.cluster_len s.cluster_len
  pub clusters : FitMarks room.clusters s.clusters

-- a route that fits the room, or none
abbrev pub FitsBgpRoom : Option BgpRoom → Option BgpShape → Type 0
FitsBgpRoom None x = x ≡ None
FitsBgpRoom (Some room) x = IfSome x (FitsShape room)

abbrev pub FitBgpRooms : List (Option BgpRoom) → List (Option BgpShape) → Type 0
FitBgpRooms [] [] = Unit {0}
FitBgpRooms [] (x ∷ xs) = ⊥
FitBgpRooms (room ∷ rooms) [] = ⊥
FitBgpRooms (room ∷ rooms) (x ∷ xs) = FitsBgpRoom room x × FitBgpRooms rooms xs

-- ---- rooms whose numbers fit the fields of a route

pub record ArePreferences (room : PreferencesRoom) : Type 0 where
  pub weight : TellsWithin 32 room.weight
  pub local_pref : TellsWithin 32 room.local_pref
  pub med : TellsWithin 32 room.med
  pub origin : TellsWithin 2 room.origin

pub record IsPath (room : PathRoom) : Type 0 where
  pub len : TellsWithin 32 room.len
  pub first : TellsWithin 32 room.first
  pub last : TellsWithin 32 room.last

pub record IsBgpRoom (room : BgpRoom) : Type 0 where
  pub from : TellsWithin 33 room.from
  pub preferences : ArePreferences room.preferences
  pub path : IsPath room.path
  pub next_hop : TellsWithin 32 room.next_hop
  pub originator : TellsWithin 33 room.originator
  pub cluster_len : TellsWithin 32 room.cluster_len

-- there is a mark for each tracked value
pub record MarksTracked (tracked : Tracked) (room : BgpRoom) : Type 0 where
  pub numbers : length room.path.numbers ≡ length tracked.numbers
  pub communities : length room.communities ≡ length tracked.communities
  pub clusters : length room.clusters ≡ length tracked.clusters

-- a room of routes of the network
abbrev pub IsRoomOf : Tracked → BgpRoom → Type 0
IsRoomOf tracked room = IsBgpRoom room × MarksTracked tracked room
