-- What an external peer may announce, as a test, and announcements in the order of ends and lengths.
use Rattle.std.specs.Prelude.{ℕ, ◌^◌, ◌==◌, ◌&&◌, ◌||◌, Bool, true, false, List, [], ◌∷◌, ◌++◌, filter, length, nat_le}
use Rattle.std.specs.Prelude.{nat_lt, Option, Some, None, slice_get}
use Rattle.std.specs.List.{list_all}
use Rattle.std.specs.Option.{option_map_or, option_to_list}
use Rattle.ios_ast.specs.declared.file.File.{File}
use Rattle.route_record.specs.declared.Announcement.{Announcement}
use Rattle.route_record.specs.declared.TheConstants.{LENGTHS}
use Rattle.net_parts.specs.declared.sessions.SessionEnd.{SessionEnd}
use Rattle.net_parts.specs.Sessions.{ends_of, is_outside, neighbour_of}
use Rattle.net_parts.specs.World.{ascends, is_as_number, is_word}

abbrev pub begins_with : ℕ → List ℕ → Bool
begins_with asn [] = false
begins_with asn (x ∷ rest) = x == asn

-- the end is towards an external peer, whose AS is the first of the path
abbrev pub is_peers : List File → List ℕ → SessionEnd → Bool
is_peers files path end =
    is_outside end.far && option_map_or (λ neighbour. begins_with neighbour.asn path) (neighbour_of files end) true

abbrev pub is_path : List ℕ → Bool
is_path path = nat_le (length path) 255 && list_all is_as_number path

abbrev pub are_communities : List ℕ → Bool
are_communities communities = ascends communities && list_all is_word communities

-- the announcement is one that its peer may make (RFC 4271, section 4.3; RFC 1997)
unfoldable pub is_announcement : List File → Announcement → Bool
is_announcement files a =
    option_map_or (is_peers files a.path) (slice_get (ends_of files) a.end) false
    && (nat_lt a.len LENGTHS && (is_path a.path && (is_word a.med && are_communities a.communities)))

-- what is announced for an end and a length is about these, and may be announced
abbrev pub is_about : List File → ℕ → ℕ → Option Announcement → Bool
is_about files end len None = true
is_about files end len (Some a) = ((a.end == end) && (a.len == len)) && is_announcement files a

-- ---- the announcements of all peers

-- of an earlier end, or of the same and a shorter prefix
abbrev pub is_before : ℕ → ℕ → Announcement → Bool
is_before end len a = nat_lt a.end end || ((a.end == end) && nat_lt a.len len)

-- of a later end, or of the same and a longer prefix
abbrev pub is_after : ℕ → ℕ → Announcement → Bool
is_after end len a = nat_lt end a.end || ((a.end == end) && nat_lt len a.len)

-- what is announced for that end and length in the place of what was
abbrev pub announced_with : List Announcement → ℕ → ℕ → Option Announcement → List Announcement
announced_with announced end len what =
    filter (is_before end len) announced ++ (option_to_list what ++ filter (is_after end len) announced)
