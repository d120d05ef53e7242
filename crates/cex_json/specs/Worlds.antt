-- The JSON values of failed links, external peers and their announcements.
use Rattle.std.specs.Prelude.{ℕ, ◌+◌, List, [], ◌∷◌, ◌++◌, codes, decimal, map, Option, Some, option_map, slice_get}
use Rattle.std.specs.Option.{option_map_or}
use Rattle.mw_text.specs.declared.address.Addr.{Addr}
use Rattle.mw_text.specs.declared.address.Prefix.{Prefix}
use Rattle.ios_ast.specs.declared.file.File.{File}
use Rattle.route_record.specs.declared.Announcement.{Announcement}
use Rattle.net_parts.specs.declared.links.Link.{Link}
use Rattle.net_parts.specs.declared.sessions.SessionEnd.{SessionEnd}
use Rattle.net_parts.specs.Sessions.{ends_of, external_ends, neighbour_of}
use Rattle.net_parts.specs.World.{links_of}
use Rattle.serde_json.specs.Data.{Data, string}
use Rattle.cex_json.specs.Json.{array_of, number_of, object_of, text_of}
use Rattle.cex_json.specs.Parts.{addr_data, addr_text, origin_text, router_name}

-- a prefix as A/L (RFC 4632, section 3.1)
unfoldable pub prefix_text : Prefix → List ℕ
prefix_text p = addr_text p.addr ++ (codes "/" ++ decimal p.len)

-- a link, by its place; a place without a link has the empty text
abbrev pub link_text : List Link → ℕ → List ℕ
link_text links at = option_map_or (λ link. prefix_text link.prefix) (slice_get links at) []

abbrev pub link_data : List Link → ℕ → Data
link_data links at = string (link_text links at)

-- the address of the neighbour of an end; an end without a neighbour line has the empty text
abbrev pub peer_text : List File → SessionEnd → List ℕ
peer_text files end = option_map_or (λ neighbour. addr_text neighbour.addr) (neighbour_of files end) []

-- the AS number of the neighbour of an end; 0 without a neighbour line
abbrev pub peer_asn : List File → SessionEnd → ℕ
peer_asn files end = option_map_or (λ neighbour. neighbour.asn) (neighbour_of files end) 0

-- an external peer, with the identifier that it has
unfoldable pub peer_data : List File → SessionEnd → Addr → Data
peer_data files end id = object_of (
    (codes "address", Some (string (peer_text files end)))
    ∷ (codes "asn", Some (number_of (peer_asn files end)))
    ∷ (codes "id", Some (addr_data id))
    ∷ (codes "router", Some (text_of (router_name files end.router)))
    ∷ [])

-- external peers, the first of which has the identifier at that place
abbrev pub peers_from : List File → List Addr → ℕ → List SessionEnd → List Data
peers_from files ids at [] = []
peers_from files ids at (end ∷ rest) =
    option_map_or (λ written. written ∷ []) (option_map (peer_data files end) (slice_get ids at)) []
    ++ peers_from files ids (at + 1) rest

-- the address and the router of the end at that place; a place without an end has the empty texts
abbrev pub end_address : List File → ℕ → List ℕ
end_address files at = option_map_or (peer_text files) (slice_get (ends_of files) at) []

abbrev pub end_router : List File → ℕ → List ℕ
end_router files at = option_map_or (λ end. router_name files end.router) (slice_get (ends_of files) at) []

-- what is announced
abbrev pub announcement_fields : List File → Announcement → List (List ℕ × Option Data)
announcement_fields files announcement =
    (codes "address", Some (string (end_address files announcement.end)))
    ∷ (codes "communities", Some (array_of (map number_of announcement.communities)))
    ∷ (codes "len", Some (number_of announcement.len))
    ∷ (codes "med", Some (number_of announcement.med))
    ∷ (codes "origin", Some (string (origin_text announcement.origin)))
    ∷ (codes "path", Some (array_of (map number_of announcement.path)))
    ∷ (codes "router", Some (text_of (end_router files announcement.end)))
    ∷ []

unfoldable pub announcement_data : List File → Announcement → Data
announcement_data files announcement = object_of (announcement_fields files announcement)

-- all announcements, all external peers, all failed links
abbrev pub announcements_data : List File → List Announcement → Data
announcements_data files announced = array_of (map (announcement_data files) announced)

abbrev pub peers_data : List File → List Addr → Data
peers_data files ids = array_of (peers_from files ids 0 (external_ends files))

abbrev pub failures_data : List File → List ℕ → Data
failures_data files failed = array_of (map (link_data (links_of files)) failed)
