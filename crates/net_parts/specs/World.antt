-- Links and their failures, and what the external peers of a network send.
use Rattle.std.specs.Prelude.{◌≡◌, ℕ, ◌==◌, ◌&&◌, ◌||◌, ◌<◌, ◌≤◌, Bool, not, List, [], ◌∷◌, length, filter, map}
use Rattle.std.specs.Prelude.{nat_lt, fold, IsTrue, Some, slice_get, All, AllPairs, IfSome, ◌^◌, ◌⊎◌, if◌then◌else◌}
use Rattle.std.specs.List.{list_any, list_all}
use Rattle.std.specs.Option.{option_map_or}
use Rattle.mw_text.specs.declared.address.Prefix.{Prefix}
use Rattle.mw_text.specs.Address.{same_prefix}
use Rattle.ios_ast.specs.declared.file.File.{File}
use Rattle.route_record.specs.declared.Announcement.{Announcement}
use Rattle.route_record.specs.declared.Failures.{Failures}
use Rattle.route_record.specs.declared.Environment.{Environment}
use Rattle.net_interfaces.specs.declared.interfaces.Addressed.{Addressed}
use Rattle.net_parts.specs.declared.links.Link.{Link}
use Rattle.route_record.specs.declared.TheConstants.{LENGTHS}
use Rattle.net_parts.specs.declared.sessions.Peering.{Peering}
use Rattle.net_parts.specs.declared.sessions.SessionEnd.{SessionEnd}
use Rattle.net_interfaces.specs.Interfaces.{addressed}
use Rattle.net_parts.specs.Sessions.{ends_of, external_ends, is_external_peer, is_outside, neighbour_of, peerings}

-- in ascending order of prefixes p comes before q
abbrev pub comes_before : Prefix → Prefix → Bool
comes_before p q = nat_lt p.addr.0 q.addr.0 || ((p.addr.0 == q.addr.0) && nat_lt p.len q.len)

abbrev pub ComesBefore : Prefix → Prefix → Type 0
ComesBefore p q = IsTrue (comes_before p q)

-- p at its place in an ascending list, once
abbrev pub put_in_order : List Prefix → Prefix → List Prefix
put_in_order [] p = p ∷ []
put_in_order (q ∷ rest) p =
    if comes_before q p then q ∷ put_in_order rest p else (if same_prefix q p then q ∷ rest else p ∷ q ∷ rest)

-- the interface is on that subnet, not shut down and no loopback
abbrev pub joins : Prefix → Addressed → Bool
joins p x = same_prefix x.subnet p && not (x.shutdown || x.loopback)

-- two such interfaces of two routers, of which this is one
abbrev pub is_joined_by : List Addressed → Prefix → Addressed → Bool
is_joined_by all p x = joins p x && list_any (λ y. joins p y && not (x.id.router == y.id.router)) all

-- an external peer lies on the subnet, which is no loopback's
abbrev pub is_peered_by : List Addressed → Prefix → Peering → Bool
is_peered_by all p a = is_external_peer all a && (same_prefix a.source.subnet p && not a.source.loopback)

abbrev pub is_link : List Addressed → List Peering → Prefix → Bool
is_link all peers p = list_any (is_joined_by all p) all || list_any (is_peered_by all p) peers

-- the subnets of the links: those of no loopback on which at least two routers have an interface that is not shut down,
-- or on which an external peer lies, in ascending order
abbrev pub linked_subnets : List File → List Prefix
linked_subnets files = filter (is_link (addressed files) (peerings files))
    (fold put_in_order [] (map (λ x. x.subnet) (addressed files)))

-- the link on a subnet, with its interfaces that are not shut down, in the order of the files
abbrev pub link_on : List Addressed → Prefix → Link
link_on all p = record { prefix = p; ifaces = map (λ x. x.id) (filter (joins p) all) }

-- the links of a network, in ascending order of their prefixes
unfoldable pub links_of : List File → List Link
links_of files = map (link_on (addressed files)) (linked_subnets files)

-- of two links the prefix of the one comes before that of the other
abbrev pub IsBefore : Link → Link → Type 0
IsBefore a b = IsTrue (comes_before a.prefix b.prefix)

-- numbers that ascend
abbrev pub ascends : List ℕ → Bool
ascends [] = Bool.true
ascends (a ∷ rest) = list_all (nat_lt a) rest && ascends rest

-- a failure set of at most k links: positions of links in ascending order
pub record IsFailureSet (files : List File) (k : ℕ) (failures : Failures) : Type 0 where
  pub ascending : IsTrue (ascends failures.links)
  pub of_links : All (λ at. at < length (links_of files)) failures.links
  pub at_most : length failures.links ≤ k

-- that subnet is a failed link
abbrev pub is_failed : List File → Failures → Prefix → Bool
is_failed files failures p =
    list_any (λ at. option_map_or (λ link. same_prefix p link.prefix) (slice_get (links_of files) at) Bool.false)
    failures.links

-- no link has failed
abbrev pub no_failures : Failures
no_failures = record { links = [] }

-- an interface with an address is up where it is not shut down and its subnet is no failed link
abbrev pub is_up : List File → Failures → Addressed → Bool
is_up files failures x = not x.shutdown && not (is_failed files failures x.subnet)

-- the first number of the path is that of the peer's AS
abbrev pub BeginsWithPeer : List File → SessionEnd → List ℕ → Type 0
BeginsWithPeer files end path =
    IfSome (neighbour_of files end) (λ neighbour. (rest : List ℕ) × (path ≡ neighbour.asn ∷ rest))

-- an AS number (RFC 6793)
abbrev pub IsAsNumber : ℕ → Type 0
IsAsNumber n = (0 < n) × (n < 2 ^ 32)

-- a number of 32 bits, and an AS number (RFC 6793; RFC 7607), as tests
abbrev pub is_word : ℕ → Bool
is_word n = nat_lt n (2 ^ 32)

abbrev pub is_as_number : ℕ → Bool
is_as_number n = nat_lt 0 n && is_word n

-- what an external peer may announce for one prefix length (RFC 4271, section 4.3; RFC 1997)
pub record IsAnnouncement (files : List File) (announcement : Announcement) : Type 0 where
  pub from : (end : SessionEnd) × (slice_get (ends_of files) announcement.end ≡ Some end) × IsTrue (is_outside end.far)
      × BeginsWithPeer files end announcement.path
  pub len : announcement.len < LENGTHS
  pub path : (length announcement.path ≤ 255) × All IsAsNumber announcement.path
  pub med : announcement.med < 2 ^ 32
  pub communities : IsTrue (ascends announcement.communities) × All (λ c. c < 2 ^ 32) announcement.communities

-- an announcement of an earlier end, or of the same and of a shorter prefix
abbrev pub IsEarlier : Announcement → Announcement → Type 0
IsEarlier a b = (a.end < b.end) ⊎ ((a.end ≡ b.end) × (a.len < b.len))

-- an environment: an identifier for each external session, and at most one announcement of each for each prefix length,
-- which stand in this order
pub record IsEnvironment (files : List File) (environment : Environment) : Type 0 where
  pub ids : length environment.ids ≡ length (external_ends files)
  pub fit : All (λ id. id.0 < 2 ^ 32) environment.ids
  pub announced : All (IsAnnouncement files) environment.announced
  pub once : AllPairs IsEarlier environment.announced
