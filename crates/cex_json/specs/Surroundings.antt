-- The packet, the failed links, the announcements and the external peers, as they are read.
use Rattle.std.specs.Prelude.{ℕ, ◌-◌, ◌==◌, ◌&&◌, ◌||◌, Bool, true, false, List, [], ◌∷◌, ◌++◌, codes, length, nat_le}
use Rattle.std.specs.Prelude.{nat_lt, position, slice_get, Option, Some, None, option_and_then, option_map, Result, Ok}
use Rattle.std.specs.Prelude.{if◌then◌else◌}
use Rattle.std.specs.Option.{option_map_or}
use Rattle.mw_text.specs.declared.address.Addr.{Addr}
use Rattle.mw_text.specs.declared.address.Prefix.{Prefix}
use Rattle.mw_text.specs.Address.{covers, same_prefix}
use Rattle.mw_text.specs.Digits.{prefix_of_text}
use Rattle.ios_ast.specs.declared.file.File.{File}
use Rattle.route_record.specs.declared.Announcement.{Announcement}
use Rattle.route_record.specs.declared.Packet.{Packet}
use Rattle.net_parts.specs.declared.links.Link.{Link}
use Rattle.net_parts.specs.declared.sessions.SessionEnd.{SessionEnd}
use Rattle.net_parts.specs.Exports.{is_towards}
use Rattle.net_parts.specs.Sessions.{ends_of, external_ends, is_outside, neighbour_of}
use Rattle.net_parts.specs.World.{links_of}
use Rattle.question_lang.specs.declared.question.PacketSet.{PacketSet}
use Rattle.serde_json.specs.Data.{Data}
use Rattle.serde_json.specs.Find.{get}
use Rattle.cex_json.specs.declared.refused.CexRefused.{CexRefused}
use Rattle.cex_json.specs.Entries.{entry_path, origin_in, router_in}
use Rattle.cex_json.specs.Fields.{◌>>=◌, addr_in, ascending_in, greatest, in_order, is_above, members_in, number_in}
use Rattle.cex_json.specs.Fields.{object_in, passing, path_in, place_of, required, text_in, with_one}

-- a protocol that has ports: TCP (6) or UDP (17); of an unknown one any
abbrev pub has_ports : Option ℕ → Bool
has_ports proto = option_map_or (λ p. (p == 6) || (p == 17)) proto true

-- a port of that range is in the set; without such a protocol it is 0
abbrev pub is_port : Option ℕ → Option (ℕ × ℕ) → ℕ → Bool
is_port proto range n =
    ((n == 0) || has_ports proto) && option_map_or (λ r. nat_le r.0 n && nat_le n r.1) range true

unfoldable pub port_in : Option ℕ → Option (ℕ × ℕ) → Option Data → Option ℕ
port_in proto range found = passing (is_port proto range) (number_in 65535 found)

-- the protocol of the set, where it has one
abbrev pub proto_fits : Option PacketSet → ℕ → Bool
proto_fits set n = option_map_or (λ wanted. wanted == n) (option_and_then (λ s. s.proto) set) true

unfoldable pub proto_in : Option PacketSet → Data → Option ℕ
proto_in set d = passing (proto_fits set) (number_in 255 (get (codes "proto") d))

-- an address of that prefix, where there is one
unfoldable pub addr_under : Option Prefix → Option Data → Option Addr
addr_under prefix found = passing (λ a. option_map_or (λ p. covers p a) prefix true) (addr_in found)

-- the fields of a packet, inside the set where there is one
unfoldable pub packet_at : Option PacketSet → List ℕ → Data → Result Packet CexRefused
packet_at set at d = do
  dport ← required at (codes "dport") (port_in (proto_in set d) (option_map (λ s. s.dport) set) (get (codes "dport") d))
  dst ← required at (codes "dst") (addr_under (option_map (λ s. s.dst) set) (get (codes "dst") d))
  proto ← required at (codes "proto") (proto_in set d)
  sport ← required at (codes "sport") (port_in (proto_in set d) (option_map (λ s. s.sport) set) (get (codes "sport") d))
  src ← required at (codes "src") (addr_under (option_map (λ s. s.src) set) (get (codes "src") d))
  Ok (record { src = src; dst = dst; proto = proto; sport = sport; dport = dport })

abbrev pub packet_in : Option PacketSet → Data → Result Packet CexRefused
packet_in set d = required [] (codes "packet") (object_in (get (codes "packet") d)) >>= packet_at set (codes "packet/")

-- the place of a link
abbrev pub link_named : List Link → List ℕ → Option ℕ
link_named links word =
    option_and_then (λ p. place_of (position (λ link. same_prefix p link.prefix) links)) (prefix_of_text word)

abbrev pub link_step : List Link → ℕ → List ℕ → Data → Result (List ℕ) CexRefused
link_step links _ so_far d =
    with_one [] (codes "failures") so_far
    (passing (is_above so_far) (option_and_then (link_named links) (text_in (Some d))))

-- failed links, ascending, at most so many where there is a most
unfoldable pub failures_in : List File → Option ℕ → Data → Result (List ℕ) CexRefused
failures_in files most d = do
  members ← members_in [] (codes "failures") d
  links ← in_order (link_step (links_of files)) 0 [] members
  required [] (codes "failures") (if option_map_or (nat_le (length links)) most true then Some links else None)

-- the end of an external session of the router with this address
abbrev pub is_outer_end : List File → ℕ → Addr → SessionEnd → Bool
is_outer_end files router a end = is_outside end.far && is_towards files router a end

-- the end that an entry's `address` and `router` name
abbrev pub end_named : List File → Option ℕ → Option Addr → Option ℕ
end_named files (Some router) (Some a) = place_of (position (is_outer_end files router a) (ends_of files))
end_named files _ _ = None

unfoldable pub end_in : List File → Data → Option ℕ
end_in files d = end_named files (router_in files d) (addr_in (get (codes "address") d))

-- an announcement of that end and length stands behind those so far
unfoldable pub is_later : List Announcement → ℕ → ℕ → Bool
is_later so_far end len =
    option_map_or (λ last. nat_lt last.end end || ((last.end == end) && nat_lt last.len len))
    (slice_get so_far (length so_far - 1)) true

-- the AS number of the neighbour of the end at that place
unfoldable pub asn_of_end : List File → ℕ → Option ℕ
asn_of_end files at =
    option_map (λ neighbour. neighbour.asn) (option_and_then (neighbour_of files) (slice_get (ends_of files) at))

-- a path of at most 255 numbers that begins with that number
abbrev pub begins_with : Option ℕ → List ℕ → Bool
begins_with asn path = nat_le (length path) 255
    && option_map_or (λ n. option_map_or (λ first. first == n) (slice_get path 0) false) asn false

unfoldable pub sent_path : Option ℕ → List ℕ → Data → Result (List ℕ) CexRefused
sent_path asn at d =
    path_in at (codes "path") d >>= λ path. required at (codes "path")
    (if begins_with asn path then Some path else None)

-- an announcement behind those so far
unfoldable pub announcement_at : List File → List Announcement → List ℕ → Data → Result Announcement CexRefused
announcement_at files so_far at d = do
  end ← required at (codes "address") (end_in files d)
  communities ← ascending_in at (codes "communities") d
  len ← required at (codes "len") (passing (is_later so_far end) (number_in 32 (get (codes "len") d)))
  med ← required at (codes "med") (number_in greatest (get (codes "med") d))
  origin ← origin_in at d
  path ← sent_path (asn_of_end files end) at d
  Ok (record { end = end; len = len; path = path; med = med; origin = origin; communities = communities })

unfoldable pub announcement_step : List File → ℕ → List Announcement → Data → Result (List Announcement) CexRefused
announcement_step files i so_far d =
    announcement_at files so_far (entry_path (codes "announcements/") i) d >>= λ one. Ok (so_far ++ one ∷ [])

unfoldable pub announcements_in : List File → Data → Result (List Announcement) CexRefused
announcements_in files d = members_in [] (codes "announcements") d >>= in_order (announcement_step files) 0 []

-- the entry names that end
unfoldable pub names_end : List File → Data → SessionEnd → Bool
names_end files d end = named (router_in files d) (addr_in (get (codes "address") d)) where
  named : Option ℕ → Option Addr → Bool
  named (Some router) (Some a) = is_towards files router a end
  named _ _ = false

-- the AS number of the neighbour, which format 1 does not have
unfoldable pub asn_fits : List File → ℕ → SessionEnd → Data → Bool
asn_fits files format end d =
    (format == 1)
    || option_map_or (λ neighbour. option_map_or (λ n. n == neighbour.asn)
    (number_in greatest (get (codes "asn") d)) false)
    (neighbour_of files end) false

-- the identifier of the external peer at that place
unfoldable pub peer_at : List File → ℕ → Option SessionEnd → List ℕ → Data → Result Addr CexRefused
peer_at files format wanted at d = do
  end ← required at (codes "address") (passing (names_end files d) wanted)
  known ← required at (codes "asn") (if asn_fits files format end d then Some end else None)
  required at (codes "id") (addr_in (get (codes "id") d))

abbrev pub peer_step : List File → ℕ → List SessionEnd → ℕ → List Addr → Data → Result (List Addr) CexRefused
peer_step files format ends i so_far d =
    peer_at files format (slice_get ends i) (entry_path (codes "peers/") i) d >>= λ id. Ok (so_far ++ id ∷ [])

-- the identifiers of all external peers, in the order of their sessions
unfoldable pub ids_in : List File → ℕ → Data → Result (List Addr) CexRefused
ids_in files format d = do
  members ← members_in [] (codes "peers") d
  ids ← in_order (peer_step files format (external_ends files)) 0 [] members
  required (entry_path (codes "peers/") (length ids)) (codes "address")
      (if length ids == length (external_ends files) then Some ids else None)
