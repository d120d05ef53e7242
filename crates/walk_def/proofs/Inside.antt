-- Each next hop leads to a router of the network, or ends there.
use Rattle.std.proofs.Common.{◌≡◌, ℕ, Bool, true, false, List, [], ◌∷◌, length, Option, Some, None, refl, cond, eqb}
use Rattle.std.proofs.lemmas.Bool.{and_from, and_parts}
use Rattle.std.specs.Prelude.{nat_lt, filter, map, option_map, slice_get}
use Rattle.std.specs.List.{find, flat_map, list_all, list_any}
use Rattle.std.specs.Option.{option_map_or}
use Rattle.mw_text.specs.declared.address.Addr.{Addr}
use Rattle.mw_text.specs.declared.address.Prefix.{Prefix}
use Rattle.mw_text.specs.Address.{covers, prefix_at, same_prefix}
use Rattle.ios_ast.specs.declared.file.File.{File}
use Rattle.ios_ast.specs.declared.file.StaticRoute.{StaticRoute}
use Rattle.ios_ast.specs.declared.file.Via.{Via}
use Rattle.ios_ast.specs.declared.file.Via.TheVariants.{Null0, Next, Out}
use Rattle.route_record.specs.declared.RibEntry.{RibEntry}
use Rattle.route_record.specs.declared.RibSource.{RibSource}
use Rattle.route_record.specs.declared.BgpRec.{BgpRec}
use Rattle.route_record.specs.declared.OspfRec.{OspfRec}
use Rattle.route_record.specs.declared.Packet.{Packet}
use Rattle.route_record.specs.declared.RibSource.TheVariants.{Connected, Static, Ebgp, Ospf, Ibgp}
use Rattle.route_record.specs.declared.Slot.{Slot}
use Rattle.route_record.specs.declared.TheConstants.{LENGTHS}
use Rattle.route_record.specs.declared.World.{World}
use Rattle.net_interfaces.specs.declared.interfaces.Addressed.{Addressed}
use Rattle.net_interfaces.specs.declared.interfaces.IfaceId.{IfaceId}
use Rattle.net_interfaces.specs.Interfaces.{addressed}
use Rattle.net_parts.specs.declared.adjacencies.Adjacency.{Adjacency}
use Rattle.net_parts.specs.Sending.{sent_by_ospf, sent_towards}
use Rattle.walk_def.proofs.Below.{PassesIfThere, all-append, all-filter, below-all, found_passes, of_router_below}
use Rattle.walk_def.proofs.FarRouters.{leads_below, sent_below, towards_below}
use Rattle.net_parts.specs.Routing.{static_routes, up_interfaces}
use Rattle.net_parts.specs.World.{is_up}
use Rattle.question_lang.specs.declared.walk.End.{End}
use Rattle.question_lang.specs.declared.walk.End.TheVariants.{Left, DeniedIn, DeniedOut}
use Rattle.question_lang.specs.declared.walk.Hop.{Hop}
use Rattle.question_lang.specs.declared.walk.Hop.TheVariants.{To, Ends}
use Rattle.question_lang.specs.Hops.{all_up, arrive, bgp_hops, connected_hops, depart, entry_hops, hops_over}
use Rattle.question_lang.specs.Hops.{longest_below, next_hops, ospf_hops, owner_on, permits_in, permits_out}
use Rattle.question_lang.specs.Hops.{send_adjacent, send_over, send_to, static_hops}
use Rattle.walk_def.specs.Marks.{is_inside, is_end}

inside_if : (bound : ℕ) (b : Bool) (hop other : Hop) → is_inside bound hop ≡ true → is_inside bound other ≡ true →
    is_inside bound (cond b hop other) ≡ true
inside_if bound true hop other h k = h
inside_if bound false hop other h k = k

-- a hop of the files, of a packet
arrive_inside : (bound : ℕ) (files : List File) (packet : Packet) (i : IfaceId) → nat_lt i.router bound ≡ true →
    is_inside bound (arrive files packet i) ≡ true
arrive_inside bound files packet i below =
    inside_if bound (permits_in files packet i) (To i) (Ends (DeniedIn i)) below refl

depart_inside : (bound : ℕ) (files : List File) (packet : Packet) (out : IfaceId) (hop : Hop) → is_inside bound hop
    ≡ true →
    is_inside bound (depart files packet out hop) ≡ true
depart_inside bound files packet out hop inside =
    inside_if bound (permits_out files packet out) hop (Ends DeniedOut) inside refl

owner_inside : (bound : ℕ) (files : List File) (packet : Packet) (end : End) (o : Option Addressed) →
    PassesIfThere (of_router_below bound) o → is_end end ≡ true →
    is_inside bound (option_map_or (arrive files packet) (option_map (λ x. x.id) o) (Ends end)) ≡ true
owner_inside bound files packet end None found ends = ends
owner_inside bound files packet end (Some x) found ends = arrive_inside bound files packet x.id found

one_inside : (bound : ℕ) (hop : Hop) → is_inside bound hop ≡ true → list_all (is_inside bound) (hop ∷ []) ≡ true
one_inside bound hop inside = and_from (is_inside bound hop) true inside refl

-- out of an interface, to an address of a subnet or else so
out_inside : (bound : ℕ) (files : List File) (packet : Packet) (up : List Addressed) (out : IfaceId) (subnet : Prefix)
    (a : Addr) (end : End) →
    list_all (of_router_below bound) up ≡ true → is_end end ≡ true →
    is_inside bound (depart files packet out (option_map_or (arrive files packet) (owner_on up subnet a) (Ends end)))
    ≡ true
out_inside bound files packet up out subnet a end all ends =
    depart_inside bound files packet out _
    (owner_inside bound files packet end _ (found_passes (of_router_below bound) _ up all) ends)

over_inside : (bound : ℕ) (files : List File) (packet : Packet) (up own : List Addressed) (a : Addr) →
    list_all (of_router_below bound) up ≡ true → list_all (is_inside bound) (send_over files packet up own a) ≡ true
over_inside bound files packet up own a all = by_out (find (λ x. covers x.subnet a) own) where
  by_out : (o : Option Addressed)
      → list_all (is_inside bound) (option_map_or (λ out. send_to files packet up out a ∷ []) o []) ≡ true
  by_out None = refl
  by_out (Some out) = one_inside bound _ (out_inside bound files packet up out.id out.subnet a (Left a) all refl)

static_inside : (bound : ℕ) (files : List File) (packet : Packet) (up own : List Addressed) (route : StaticRoute) →
    list_all (of_router_below bound) up ≡ true → list_all (is_inside bound) (static_hops files packet up own route)
    ≡ true
static_inside bound files packet up own route all = by_via route.via where
  by_via : (via : Via) → list_all (is_inside bound) (static_hops files packet up own (record route { via = via }))
      ≡ true
  by_via Null0 = refl
  by_via (Next a) = over_inside bound files packet up own a all
  by_via (Out named a) = over_inside bound files packet up own a all

statics_inside : (bound : ℕ) (files : List File) (packet : Packet) (up own : List Addressed)
    (routes : List StaticRoute) →
    list_all (of_router_below bound) up ≡ true
    → list_all (is_inside bound) (flat_map (static_hops files packet up own) routes) ≡ true
statics_inside bound files packet up own [] all = refl
statics_inside bound files packet up own (route ∷ rest) all =
    all-append (is_inside bound) (static_hops files packet up own route)
    (flat_map (static_hops files packet up own) rest)
    (static_inside bound files packet up own route all) (statics_inside bound files packet up own rest all)

connected_inside : (bound : ℕ) (files : List File) (packet : Packet) (up own : List Addressed) (p : Prefix) →
    list_all (of_router_below bound) up ≡ true → list_all (is_inside bound) (connected_hops files packet up own p)
    ≡ true
connected_inside bound files packet up own p all = by_out (find (λ x. same_prefix x.subnet p) own) where
  by_out : (o : Option Addressed) → list_all (is_inside bound)
      (option_map_or (λ out. depart files packet out.id
      (option_map_or (arrive files packet) (owner_on up p packet.dst) (Ends End.Delivered)) ∷ []) o []) ≡ true
  by_out None = refl
  by_out (Some out) = one_inside bound _ (out_inside bound files packet up out.id p packet.dst End.Delivered all refl)

-- over adjacencies that lead to a router of the network
adjacent_inside : (bound : ℕ) (files : List File) (packet : Packet) (over : List Adjacency)
    → list_all (leads_below bound) over ≡ true →
    list_all (is_inside bound) (map (send_adjacent files packet) over) ≡ true
adjacent_inside bound files packet [] all = refl
adjacent_inside bound files packet (a ∷ rest) all =
    let parts = and_parts (leads_below bound a) (list_all (leads_below bound) rest) all in
    and_from (is_inside bound (send_adjacent files packet a))
    (list_all (is_inside bound) (map (send_adjacent files packet) rest))
    (depart_inside bound files packet a.from _ (arrive_inside bound files packet a.to parts.0))
    (adjacent_inside bound files packet rest parts.1)

ospf_inside : (files : List File) (world : World) (router : ℕ) (p : Prefix) (slot : Slot) →
    list_all (is_inside (length files)) (ospf_hops files world router p slot) ≡ true
ospf_inside files world router p slot = by_held slot.ospf where
  by_held : (held : Option OspfRec) → list_all (is_inside (length files))
      (option_map_or (λ h. map (send_adjacent files world.packet)
      (sent_by_ospf files world.failures world.tables router p h)) held []) ≡ true
  by_held None = refl
  by_held (Some held) =
      adjacent_inside (length files) files world.packet (sent_by_ospf files world.failures world.tables router p held)
      (sent_below files world.failures world.tables router p held)

bgp_inside : (files : List File) (world : World) (up own : List Addressed) (router : ℕ) (slot : Slot) →
    list_all (of_router_below (length files)) up ≡ true →
    list_all (is_inside (length files)) (bgp_hops files world up own router slot) ≡ true
bgp_inside files world up own router slot all = by_held slot.bgp where
  by_next : (b : Bool) (a : Addr) → list_all (is_inside (length files))
      (cond b (send_over files world.packet up own a)
      (map (send_adjacent files world.packet) (sent_towards files world.failures router a))) ≡ true
  by_next true a = over_inside (length files) files world.packet up own a all
  by_next false a =
      adjacent_inside (length files) files world.packet (sent_towards files world.failures router a)
      (towards_below files world.failures router a)

  by_held : (held : Option BgpRec) → list_all (is_inside (length files))
      (option_map_or (λ h. cond (list_any (λ x. covers x.subnet h.next_hop) own)
      (send_over files world.packet up own h.next_hop)
      (map (send_adjacent files world.packet) (sent_towards files world.failures router h.next_hop))) held []) ≡ true
  by_held None = refl
  by_held (Some held) = by_next (list_any (λ x. covers x.subnet held.next_hop) own) held.next_hop

entry_inside : (files : List File) (world : World) (up own : List Addressed) (router : ℕ) (file : File) (len : ℕ)
    (slot : Slot) (entry : RibEntry) →
    list_all (of_router_below (length files)) up ≡ true →
    list_all (is_inside (length files)) (entry_hops files world up own router file (len, slot, entry)) ≡ true
entry_inside files world up own router file len slot entry all = by_source entry.source where
  by_source : (source : RibSource) →
      list_all (is_inside (length files))
      (entry_hops files world up own router file (len, slot, record entry { source = source })) ≡ true
  by_source Connected = connected_inside (length files) files world.packet up own (prefix_at world.packet.dst len) all
  by_source Static =
      statics_inside (length files) files world.packet up own
      (filter (λ route. eqb route.distance entry.distance)
      (static_routes own file.statics (prefix_at world.packet.dst len))) all
  by_source Ebgp = bgp_inside files world up own router slot all
  by_source Ospf = ospf_inside files world router (prefix_at world.packet.dst len) slot
  by_source Ibgp = bgp_inside files world up own router slot all

over_inside_all : (files : List File) (world : World) (up own : List Addressed) (router : ℕ) (file : File) →
    list_all (of_router_below (length files)) up ≡ true →
    list_all (is_inside (length files)) (hops_over files world up own router file) ≡ true
over_inside_all files world up own router file all =
    by_own (list_any (λ x. eqb x.addr.0 world.packet.dst.0) own) (longest_below world.tables router LENGTHS)
  where
    by_longest : (o : Option (ℕ × Slot × RibEntry)) → list_all (is_inside (length files))
        (option_map_or (entry_hops files world up own router file) o (Ends End.NoRoute ∷ [])) ≡ true
    by_longest None = refl
    by_longest (Some (len, slot, entry)) = entry_inside files world up own router file len slot entry all

    by_own : (b : Bool) (o : Option (ℕ × Slot × RibEntry)) → list_all (is_inside (length files))
        (cond b (Ends End.Delivered ∷ [])
        (option_map_or (entry_hops files world up own router file) o (Ends End.NoRoute ∷ []))) ≡ true
    by_own true o = refl
    by_own false o = by_longest o

-- the next hops of a router of a network
pub next_hops_inside : (files : List File) (world : World) (router : ℕ) →
    list_all (is_inside (length files)) (next_hops files world router) ≡ true
next_hops_inside files world router = by_file (slice_get files router) where
  by_file : (file : Option File) → list_all (is_inside (length files))
      (option_map_or (hops_over files world (all_up files world.failures)
      (up_interfaces files world.failures router) router) file []) ≡ true
  by_file None = refl
  by_file (Some file) =
      over_inside_all files world (all_up files world.failures) (up_interfaces files world.failures router) router file
      (all-filter (of_router_below (length files)) (is_up files world.failures) (addressed files) (below-all files))
