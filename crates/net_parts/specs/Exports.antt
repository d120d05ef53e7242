-- What a router sends over a BGP session, and what it makes of what it receives (RFC 4271, sections 5 and 9; RFC 4456;
-- RFC 1997).
use Rattle.std.specs.Prelude.{ℕ, ◌==◌, ◌&&◌, ◌||◌, Bool, true, false, not, List, [], ◌∷◌, filter, fold, length, map}
use Rattle.std.specs.Prelude.{max, nat_le, slice_get, Option, Some, None, option_and_then, option_map, unwrap_or}
use Rattle.std.specs.Prelude.{if◌then◌else◌}
use Rattle.std.specs.List.{find, list_any}
use Rattle.std.specs.Option.{option_map_or}
use Rattle.mw_text.specs.declared.address.Addr.{Addr}
use Rattle.mw_text.specs.declared.address.Prefix.{Prefix}
use Rattle.ios_ast.specs.declared.bgp.Bgp.{Bgp}
use Rattle.ios_ast.specs.declared.bgp.Neighbour.{Neighbour}
use Rattle.ios_ast.specs.declared.file.File.{File}
use Rattle.ios_ast.specs.declared.file.Use.{Use}
use Rattle.ios_ast.specs.declared.policies.Policies.{Policies}
use Rattle.ios_ast.specs.declared.policies.SetAct.{SetAct}
use Rattle.ios_ast.specs.declared.policies.SetAct.TheVariants.{LocalPref, Metric, Weight, NoCommunity, Community}
use Rattle.ios_ast.specs.declared.policies.SetAct.TheVariants.{Origin, Prepend, Type1}
use Rattle.ios_ast.specs.Deciding.{carries}
use Rattle.ios_ast.specs.Maps.{deciding}
use Rattle.ios_ast.specs.Matching.{named_answer}
use Rattle.ios_ast.specs.Paths.{path_permitted}
use Rattle.ios_ast.specs.Prefixes.{prefix_permitted}
use Rattle.ios_ast.specs.Setting.{Attributes}
use Rattle.route_record.specs.declared.Announcement.{Announcement}
use Rattle.route_record.specs.declared.BgpMsg.{BgpMsg}
use Rattle.route_record.specs.declared.BgpRec.{BgpRec}
use Rattle.route_record.specs.declared.Learnt.{Learnt}
use Rattle.route_record.specs.declared.Learnt.TheVariants.{Local, Peer}
use Rattle.net_interfaces.specs.declared.interfaces.Addressed.{Addressed}
use Rattle.net_parts.specs.declared.sessions.Far.{Far}
use Rattle.net_parts.specs.declared.sessions.Far.TheVariants.{Outside, Inside}
use Rattle.net_parts.specs.declared.sessions.SessionEnd.{SessionEnd}
use Rattle.net_interfaces.specs.Interfaces.{addressed}
use Rattle.route_record.specs.Origins.{origin_of_code}
use Rattle.ios_ast.specs.Maps.{entries_named, through_map}
use Rattle.net_parts.specs.Mapping.{attributes_of, with_attributes}
use Rattle.net_parts.specs.Sessions.{ends_of, neighbour_of}

-- ---- routers and their identifiers

-- the greatest of some addresses, 0.0.0.0 of none
abbrev pub highest : List Addr → Addr
highest addresses = fold (λ best a. record { 0 = max best.0 a.0 }) (record { 0 = 0 }) addresses

-- the identifier that the router's BGP process is given
abbrev pub configured_id : List File → ℕ → Option Addr
configured_id files router =
    option_and_then (λ file. option_and_then (λ bgp. bgp.router_id) file.bgp) (slice_get files router)

-- the highest loopback address of some interfaces; else their highest address
abbrev pub id_by_addresses : List Addressed → Addr
id_by_addresses own =
    if list_any (λ x. x.loopback) own then highest (map (λ x. x.addr) (filter (λ x. x.loopback) own))
    else highest (map (λ x. x.addr) own)

-- the identifier of a router: as it is configured; else by the addresses of its interfaces that are not shut down
unfoldable pub router_id : List File → ℕ → Addr
router_id files router =
    unwrap_or (configured_id files router)
    (id_by_addresses (filter (λ x. (x.id.router == router) && not x.shutdown) (addressed files)))

-- a reflector has a client among its neighbours (RFC 4456, section 6). Its cluster identifier is its router identifier
abbrev pub is_reflector : Bgp → Bool
is_reflector process = list_any (λ neighbour. neighbour.client) process.neighbours

-- the end is one of the router, and its neighbour has that address
abbrev pub is_towards : List File → ℕ → Addr → SessionEnd → Bool
is_towards files router a end =
    (end.router == router) && option_map_or (λ neighbour. neighbour.addr.0 == a.0) (neighbour_of files end) false

-- the end of the router whose neighbour has that address
abbrev pub end_towards : List File → ℕ → Addr → Option SessionEnd
end_towards files router a = find (is_towards files router a) (ends_of files)

-- the end over which a route was learnt
abbrev pub learnt_over : List File → ℕ → Learnt → Option SessionEnd
learnt_over files router Local = None
learnt_over files router (Peer a) = end_towards files router a

abbrev pub is_client : List File → SessionEnd → Bool
is_client files end = option_map_or (λ neighbour. neighbour.client) (neighbour_of files end) false

-- ---- lists of a neighbour

abbrev pub passes_prefixes : Policies → Option Use → Prefix → Bool
passes_prefixes policies used p =
    option_map_or (λ named. named_answer (λ l. l.name)
    (λ l. prefix_permitted l.entries p) policies.prefix_lists named.name) used true

abbrev pub passes_paths : Policies → Option Use → List ℕ → Bool
passes_paths policies used path =
    option_map_or (λ named. named_answer (λ l. l.name)
    (λ l. path_permitted l.entries path) policies.as_paths named.name) used true

-- ---- export

-- well-known communities (RFC 1997)
abbrev pub no_export : ℕ
no_export = 4294967041

abbrev pub no_advertise : ℕ
no_advertise = 4294967042

-- a route of an internal peer goes to an internal peer by a reflector alone: a client's to all, another's to clients
abbrev pub may_reflect : List File → Bgp → SessionEnd → SessionEnd → Bool
may_reflect files process from to = is_reflector process && (is_client files from || is_client files to)

-- the route may go over the session: no community forbids it, it did not come over this session, and from internal
-- peer to internal peer it may be reflected
abbrev pub may_go : List File → Bgp → SessionEnd → BgpRec → Bool
may_go files process end held =
    not (carries held.communities no_advertise)
    && (not (carries held.communities no_export && not end.internal)
    && option_map_or (λ from. not (from.neighbour == end.neighbour)
    && (not (from.internal && end.internal) || may_reflect files process from end))
    (learnt_over files end.router held.from) true)

-- a set line of the deciding entry sets the metric
abbrev pub is_metric : SetAct → Bool
is_metric (LocalPref n) = false
is_metric (Metric n) = true
is_metric (Weight n) = false
is_metric NoCommunity = false
is_metric (Community values additive) = false
is_metric (Origin igp) = false
is_metric (Prepend numbers) = false
is_metric (Type1 type1) = false

abbrev pub sets_metric : Policies → Option Use → Prefix → Attributes → Bool
sets_metric policies used p r =
    option_map_or (λ named. option_map_or (λ e. list_any is_metric e.sets)
    (deciding policies p r (entries_named policies named)) false)
    used false

abbrev pub sent_communities : Neighbour → List ℕ → List ℕ
sent_communities neighbour communities = if neighbour.send_community then communities else []

-- over an external session: the own AS in front of the path, the own address as next hop, and a metric where the path
-- was empty before or the map set one
abbrev pub external_message : Bgp → Neighbour → Addr → Bool → BgpRec → Attributes → BgpMsg
external_message process neighbour own keeps_med held r = record {
  local_pref = None;
  path = process.asn ∷ r.path;
  origin = origin_of_code r.origin;
  med = if keeps_med then Some r.med else None;
  communities = sent_communities neighbour r.communities;
  next_hop = own;
  originator = None;
  clusters = [];
}

-- a local route, and with `next-hop-self` one of an external peer, gets the own address as next hop
abbrev pub internal_next_hop : Neighbour → Addr → BgpRec → Option SessionEnd → Addr
internal_next_hop neighbour own held from =
    option_map_or (λ end. if neighbour.next_hop_self && not end.internal then own else held.next_hop) from own

-- the identifier of the internal peer from which a route was learnt
abbrev pub learnt_id : List File → SessionEnd → Option Addr
learnt_id files end = by_far end.far where
  by_far : Far → Option Addr
  by_far Outside = None
  by_far (Inside at) = option_map (λ far. router_id files far.router) (slice_get (ends_of files) at)

-- a route that is reflected gets an originator, where it has none, and the own cluster identifier in front of its
-- clusters
abbrev pub reflected_originator : List File → BgpRec → Option SessionEnd → Option Addr
reflected_originator files held from =
    option_map_or (λ end. if end.internal then Some
    (unwrap_or held.originator (unwrap_or (learnt_id files end) (record { 0 = 0 }))) else held.originator)
    from held.originator

abbrev pub reflected_clusters : List File → ℕ → BgpRec → Option SessionEnd → List Addr
reflected_clusters files router held from =
    option_map_or (λ end. if end.internal then router_id files router
    ∷ held.clusters else held.clusters) from held.clusters

-- over an internal session path, local preference and metric stay as the map leaves them
abbrev pub internal_message : List File → ℕ → Neighbour → Addr → BgpRec → Attributes → BgpMsg
internal_message files router neighbour own held r = record {
  local_pref = Some r.local_pref;
  path = r.path;
  origin = origin_of_code r.origin;
  med = Some r.med;
  communities = sent_communities neighbour r.communities;
  next_hop = internal_next_hop neighbour own held (learnt_over files router held.from);
  originator = reflected_originator files held (learnt_over files router held.from);
  clusters = reflected_clusters files router held (learnt_over files router held.from);
}

-- the address from which the router speaks over the session
abbrev pub own_address : List File → SessionEnd → Addr
own_address files end =
    option_map_or (λ x. x.addr)
    (find (λ x. (x.id.router == end.own.router) && (x.id.at == end.own.at)) (addressed files)) (record { 0 = 0 })

-- the message over the session of an end, after the outgoing lists and the outgoing map
abbrev pub sent : List File → File → Bgp → Neighbour → SessionEnd → Prefix → BgpRec → Option BgpMsg
sent files file process neighbour end p held =
    if may_go files process end held
    && (passes_prefixes file.policies neighbour.prefix_out p
    && passes_paths file.policies neighbour.filter_out held.path)
    then option_map message (through_map file.policies neighbour.map_out p (not end.internal) (attributes_of held))
    else None
  where
    message : Attributes → BgpMsg
    message r =
        if end.internal then internal_message files end.router neighbour (own_address files end) held r
        else external_message process neighbour (own_address files end)
        (length held.path == 0 || sets_metric file.policies neighbour.map_out p (attributes_of held)) held r

-- what the router at an end sends over the session of the route that it holds for the prefix, if anything
unfoldable pub exported : List File → SessionEnd → Prefix → BgpRec → Option BgpMsg
exported files end p held =
    option_and_then (λ file. option_and_then (λ process. option_and_then (λ neighbour.
    sent files file process neighbour end p held) (neighbour_of files end)) file.bgp) (slice_get files end.router)

-- what an external peer at that address announces, as a message
abbrev pub announced_message : Addr → Announcement → BgpMsg
announced_message peer a = record {
  local_pref = None;
  path = a.path;
  origin = a.origin;
  med = Some a.med;
  communities = a.communities;
  next_hop = peer;
  originator = None;
  clusters = [];
}

-- ---- import

-- a path has at most 255 numbers
abbrev pub most_numbers : ℕ
most_numbers = 255

-- the router takes the message: no loop by its AS, by its identifier or by its cluster (RFC 4456, section 8), and no
-- path that is too long
abbrev pub is_acceptable : List File → ℕ → Bgp → BgpMsg → Bool
is_acceptable files router process message =
    (not (carries message.path process.asn) && nat_le (length message.path) most_numbers)
    && (not (option_map_or (λ id. id.0 == (router_id files router).0) message.originator false)
    && not (is_reflector process && list_any (λ id. id.0 == (router_id files router).0) message.clusters))

-- the record of a message before the incoming map: local preference 100 over an external session
abbrev pub received : Neighbour → SessionEnd → BgpMsg → BgpRec
received neighbour end message = record {
  from = Peer neighbour.addr;
  weight = neighbour.weight;
  local_pref = if end.internal then unwrap_or message.local_pref 0 else 100;
  path = message.path;
  origin = message.origin;
  med = unwrap_or message.med 0;
  communities = message.communities;
  next_hop = message.next_hop;
  originator = message.originator;
  clusters = message.clusters;
}

-- a record whose path the map did not make too long
abbrev pub if_short : BgpRec → Option BgpRec
if_short rec = if nat_le (length rec.path) most_numbers then Some rec else None

-- the record of a message after the incoming lists and the incoming map
abbrev pub taken_in : List File → File → Bgp → Neighbour → SessionEnd → Prefix → BgpMsg → Option BgpRec
taken_in files file process neighbour end p message =
    if is_acceptable files end.router process message
    && (passes_prefixes file.policies neighbour.prefix_in p
    && passes_paths file.policies neighbour.filter_in message.path)
    then option_and_then (λ r. if_short (with_attributes (received neighbour end message) r))
    (through_map file.policies neighbour.map_in p (not end.internal) (attributes_of (received neighbour end message)))
    else None

-- what the router at an end makes of a message that it receives over the session, if it takes it
unfoldable pub imported : List File → SessionEnd → Prefix → BgpMsg → Option BgpRec
imported files end p message =
    option_and_then (λ file. option_and_then (λ process. option_and_then (λ neighbour.
    taken_in files file process neighbour end p message) (neighbour_of files end)) file.bgp)
    (slice_get files end.router)
