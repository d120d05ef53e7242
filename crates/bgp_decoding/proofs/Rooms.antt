-- Rooms of BGP routes and of announcements, one after another.
use Rattle.std.proofs.Common.{◌≡◌, ℕ, ◌+◌, ◌*◌, ◌<◌, ◌≤◌, Bool, true, false, List, [], ◌∷◌, ◌++◌, Option}
use Rattle.std.proofs.Common.{length, map, drop, get_or, refl, sym, ap, arith, ◌∙◌}
use Rattle.std.specs.List.{list_all}
use Rattle.std.proofs.lemmas.List.{drop_all, length-map}
use Rattle.std.proofs.lemmas.List.Sums.{count_by-le-length, length-filter}
use Rattle.std.proofs.lemmas.Grind.{common_steps}
use Rattle.std.proofs.lemmas.List.Elements.{All-cons, All-nil, All-push}
use Rattle.mw_text.proofs.Lists.{drop-read}
use Rattle.std.specs.Prelude.{All, IfSome, option_map, replicate, if◌then◌else◌}
use Rattle.ios_ast.specs.declared.bgp.Bgp.{Bgp}
use Rattle.ios_ast.specs.declared.file.File.{File}
use Rattle.ios_ast.specs.Limits.{keeps_limits}
use Rattle.route_record.specs.declared.tracked.Tracked.{Tracked}
use Rattle.net_parts.specs.declared.sessions.SessionEnd.{SessionEnd}
use Rattle.net_parts.specs.Sessions.{ends_of, is_outside}
use Rattle.plan_places.specs.declared.places.Place.{Place}
use Rattle.world_variables.specs.Unknowns.{unknowns_width}
use Rattle.route_candidates.proofs.FewEnds.{few_ends}
use Rattle.bgp_variables.specs.Environments.{announced_rooms, end_room, end_rooms, peers_count, rooms_over}
use Rattle.bgp_variables.specs.Rooms.{bgp_room, bgp_rooms, held_room}
use Rattle.bgp_variables.specs.Shapes.{IsRoomOf, bgps_from}
use Rattle.bgp_variables.specs.declared.rooms.BgpRoom.{BgpRoom}
use Rattle.bgp_variables.proofs.EnvironmentSteps.{copies_next, copies_none, many_over}
use Rattle.bgp_variables.specs.Brought.{speaker_at}
use Rattle.bgp_variables.proofs.RoomSteps.{room_held}
use Rattle.bgp_values.specs.Told.{as_told}
use Rattle.path_rebuild.specs.declared.ShapeRec.{ShapeRec}
use Rattle.path_rebuild.specs.Shapes.{route_of}
use Rattle.bgp_decoding.proofs.SlotSteps.{routes_many}

-- the room of a slot by its speaker
pub room_of : (tracked : Tracked) (files : List File) (router len : ℕ) (o : Option Bgp) →
    o ≡ speaker_at files router len → option_map (λ process. held_room tracked files) o ≡ bgp_room tracked files router len
room_of tracked files router len o is = ap (option_map (λ (process : Bgp). held_room tracked files)) is

pub rooms_fit : (tracked : Tracked) (files : List File) (ps : List Place) →
    All (λ room. IfSome room (IsRoomOf tracked)) (bgp_rooms tracked files ps)
rooms_fit tracked files [] = All-nil (λ room. IfSome room (IsRoomOf tracked))
rooms_fit tracked files (p ∷ ps) =
    All-cons (λ room. IfSome room (IsRoomOf tracked)) (bgp_room tracked files p.router p.len) (bgp_rooms tracked files ps)
    (room_held tracked files p.router p.len) (rooms_fit tracked files ps)

-- ---- of what arrives over sessions

pub over_next : (tracked : Tracked) (files : List File) (count : ℕ) (ends : List SessionEnd) (k : ℕ)
    (end : SessionEnd) → k < length ends → end ≡ get_or ends k end →
    rooms_over tracked files count (drop k ends)
    ≡ end_rooms tracked files count end ++ rooms_over tracked files count (drop (k + 1) ends)
unfolding rooms_over
over_next tracked files count ends k end within is = ap (rooms_over tracked files count) (drop-read ends k end within is)

pub over_end : (tracked : Tracked) (files : List File) (count : ℕ) (ends : List SessionEnd) (k : ℕ) →
    length ends ≤ k → rooms_over tracked files count (drop k ends) ≡ []
unfolding rooms_over
over_end tracked files count ends k past = ap (rooms_over tracked files count) (drop_all k ends past)

pub outer_rooms : (tracked : Tracked) (files : List File) (count : ℕ) (end : SessionEnd) → is_outside end.far ≡ true →
    end_rooms tracked files count end ≡ replicate count (end_room tracked files end)
outer_rooms tracked files count end outer =
    ap (λ b. if b then replicate count (end_room tracked files end) else []) outer

pub inner_rooms : (tracked : Tracked) (files : List File) (count : ℕ) (end : SessionEnd) → is_outside end.far ≡ false →
    end_rooms tracked files count end ≡ []
inner_rooms tracked files count end inner =
    ap (λ b. if b then replicate count (end_room tracked files end) else []) inner

pub more_fit : (tracked : Tracked) (rooms : List (Option BgpRoom)) (room : Option BgpRoom) →
    All (λ r. IfSome r (IsRoomOf tracked)) rooms → IfSome room (IsRoomOf tracked) →
    All (λ r. IfSome r (IsRoomOf tracked)) (rooms ++ room ∷ [])
more_fit tracked rooms room all one = All-push (λ r. IfSome r (IsRoomOf tracked)) rooms room all one

pub none_fit : (tracked : Tracked) → All (λ r. IfSome r (IsRoomOf tracked)) []
none_fit tracked = All-nil (λ r. IfSome r (IsRoomOf tracked))

pub over_none : (tracked : Tracked) (files : List File) (count : ℕ) → rooms_over tracked files count [] ≡ []
unfolding rooms_over
over_none tracked files count = refl

pub ruleset room_steps = (common_steps, copies_next, copies_none, more_fit)

pub ruleset end_steps = (common_steps, outer_rooms, inner_rooms)

pub ruleset over_steps = (common_steps, over_next, over_end, none_fit)

-- ---- how many there are

-- so few external peers that their number has 32 bits
pub few_peers : (files : List File) → length files ≤ 64 → list_all keeps_limits files ≡ true →
    peers_count files ≤ 4294967295
few_peers files few limits =
    let some = length-filter (λ (end : SessionEnd). is_outside end.far) (ends_of files) in
    let most = count_by-le-length (λ (end : SessionEnd). is_outside end.far) (ends_of files) in
    let all = few_ends files few limits in
    omega (arith, some, most, all)

-- what is read is as much as external peers times lengths
pub arrived_many : (tracked : Tracked) (files : List File) (count from : ℕ) (v : ℕ → Bool)
    (told : List (Option ShapeRec)) → map (option_map (route_of tracked)) told
    ≡ map (option_map as_told) (bgps_from (announced_rooms tracked files count) v from) →
    length told ≡ peers_count files * count
arrived_many tracked files count from v told is =
    sym (length-map told (option_map (route_of tracked))) ∙ ap length is
    ∙ length-map (bgps_from (announced_rooms tracked files count) v from) (option_map as_told)
    ∙ routes_many (announced_rooms tracked files count) v from ∙ many_over tracked files count (ends_of files)

-- ---- of OSPF

pub none_wide : unknowns_width [] ≡ 0
unfolding unknowns_width
none_wide = refl
