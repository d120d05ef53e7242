-- Small networks, and the routes that go over them.
use Rattle.std.specs.Prelude.{ℕ, ◌+◌, Bool, true, false, List, [], ◌∷◌, ◌++◌, codes, length, replicate, Option, Some}
use Rattle.std.specs.Prelude.{None}
use Rattle.mw_text.specs.declared.address.Addr.{Addr}
use Rattle.mw_text.specs.declared.address.Prefix.{Prefix}
use Rattle.ios_ast.specs.declared.bgp.Bgp.{Bgp}
use Rattle.ios_ast.specs.declared.bgp.Neighbour.{Neighbour}
use Rattle.ios_ast.specs.declared.file.File.{File}
use Rattle.ios_ast.specs.declared.file.Iface.{Iface}
use Rattle.ios_ast.specs.declared.file.StaticRoute.{StaticRoute}
use Rattle.ios_ast.specs.declared.file.Use.{Use}
use Rattle.ios_ast.specs.declared.file.Via.TheVariants.{Next}
use Rattle.ios_ast.specs.declared.ospf.Ospf.{Ospf}
use Rattle.ios_ast.specs.declared.ospf.Redist.{Redist}
use Rattle.ios_ast.specs.declared.ospf.Source.TheVariants.{Connected, Static, Bgp as OfBgp, Ospf as OfOspf}
use Rattle.ios_ast.specs.declared.policies.Match.TheVariants.{Prefixes}
use Rattle.ios_ast.specs.declared.policies.SetAct.TheVariants.{Metric}
use Rattle.route_record.specs.declared.BgpMsg.{BgpMsg}
use Rattle.route_record.specs.declared.BgpRec.{BgpRec}
use Rattle.route_record.specs.declared.Failures.{Failures}
use Rattle.route_record.specs.declared.Learnt.TheVariants.{Local, Peer}
use Rattle.route_record.specs.declared.Origin.TheVariants.{Igp, Incomplete}
use Rattle.route_record.specs.declared.Environment.{Environment}
use Rattle.route_record.specs.declared.OspfKind.{OspfKind}
use Rattle.route_record.specs.declared.OspfKind.TheVariants.{Ext2}
use Rattle.route_record.specs.declared.OspfRec.{OspfRec}
use Rattle.route_record.specs.declared.Plan.{Plan}
use Rattle.route_record.specs.declared.RibSource.TheVariants as source
use Rattle.route_record.specs.declared.Slot.{Slot}
use Rattle.route_record.specs.declared.Tables.{Tables}
use Rattle.route_record.specs.declared.TheConstants.{LENGTHS}
use Rattle.net_parts.specs.Decisions.{Candidate}
use Rattle.length_classes.specs.Lists.{classes_below, cuts_to, slices_below}
use Rattle.route_shapes.specs.Shapes.{PathShape}

abbrev pub address : ℕ → Addr
address a = record { 0 = a }

abbrev pub prefix : ℕ → ℕ → Prefix
prefix a len = record { addr = address a; len = len }

abbrev pub failed : List ℕ → Failures
failed links = record { links = links }

-- an interface of a gigabit a second
abbrev pub interface : List ℕ → ℕ → ℕ → Iface
interface name a len = record {
  line = 1;
  name = name;
  address = Some (record { line = 1; addr = address a; len = len });
  shutdown = false;
  bandwidth = 1000000;
  cost = None;
  list_in = None;
  list_out = None;
}

-- OSPF on all interfaces in 10.0.0.0/8, by the reference of 100 Mb/s
abbrev pub ospf : List Redist → Ospf
ospf redistribute = record {
  line = 1;
  process = 1;
  networks = record { line = 1; addr = address 167772160; wild = 16777215; area = 0 } ∷ [];
  passive_default = false;
  passive = [];
  active = [];
  reference = 100;
  redistribute = redistribute;
  default = None;
}

abbrev pub router : List ℕ → List Iface → Option Ospf → Option Bgp → File
router name interfaces process bgp = record {
  hostname = name;
  hostname_line = 1;
  interfaces = interfaces;
  statics = [];
  ospf = process;
  bgp = bgp;
  policies = record { prefix_lists = []; communities = []; as_paths = []; access = []; maps = [] };
}

-- three routers with a link between each two, and a loopback 10.9.0.3 at the third
abbrev pub triangle : List File
triangle =
    router (codes "K1") (interface (codes "Ethernet2") 167775233 30 ∷ interface (codes "Ethernet3") 167775489 30 ∷ [])
    (Some (ospf [])) None
    ∷ router (codes "K2") (interface (codes "Ethernet1") 167775234 30 ∷ interface (codes "Ethernet3") 167778049 30
    ∷ []) (Some (ospf [])) None
    ∷ router (codes "K3") (interface (codes "Ethernet1") 167775490 30 ∷ interface (codes "Ethernet2") 167778050 30
    ∷ interface (codes "Loopback0") 168361987 32 ∷ []) (Some (ospf [])) None ∷ []

abbrev pub neighbour : ℕ → ℕ → Option Use → Neighbour
neighbour a asn source = record {
  line = 1;
  addr = address a;
  asn = asn;
  source = source;
  next_hop_self = false;
  client = false;
  send_community = false;
  weight = 0;
  shutdown = false;
  prefix_in = None;
  prefix_out = None;
  filter_in = None;
  filter_out = None;
  map_in = None;
  map_out = None;
}

abbrev pub bgp : ℕ → List Neighbour → Bgp
bgp asn neighbours = record {
  line = 1;
  asn = asn;
  router_id = None;
  always_compare = false;
  compare_routerid = false;
  networks = [];
  redistribute = [];
  neighbours = neighbours;
}

abbrev pub loopback0 : Option Use
loopback0 = Some (record { line = 1; name = codes "Loopback0" })

-- E1 with an external peer at 192.0.2.2 and an internal session to E2, between loopbacks
abbrev pub edge : List File
edge =
    router (codes "E1") (interface (codes "Ethernet0") 3221225985 30 ∷ interface (codes "Ethernet1") 167772161 30
    ∷ interface (codes "Loopback0") 184483841 32 ∷ []) (Some (ospf []))
    (Some (bgp 65000 (neighbour 3221225986 65001 None ∷ neighbour 184483842 65000 loopback0 ∷ [])))
    ∷ router (codes "E2") (interface (codes "Ethernet1") 167772162 30 ∷ interface (codes "Loopback0") 184483842 32
    ∷ []) (Some (ospf []))
    (Some (bgp 65000 (neighbour 184483841 65000 loopback0 ∷ []))) ∷ []

-- a message without communities and clusters
abbrev pub message : List ℕ → ℕ → Option Addr → BgpMsg
message path next_hop originator = record {
  local_pref = None;
  path = path;
  origin = Igp;
  med = None;
  communities = [];
  next_hop = address next_hop;
  originator = originator;
  clusters = [];
}

-- a route that was learnt from that address
abbrev pub learnt : ℕ → List ℕ → ℕ → Option Addr → BgpRec
learnt from path next_hop originator = record {
  from = Peer (address from);
  weight = 0;
  local_pref = 0;
  path = path;
  origin = Igp;
  med = 0;
  communities = [];
  next_hop = address next_hop;
  originator = originator;
  clusters = [];
}

abbrev pub route : OspfKind → ℕ → ℕ → OspfRec
route kind metric cost = record { kind = kind; metric = metric; cost = cost }

-- a candidate by its neighbouring AS, its MED and its identifier
abbrev pub candidate : ℕ → ℕ → ℕ → Candidate
candidate asn med id = record {
  rec = record (learnt 1 (asn ∷ []) 1 None) { med = med; local_pref = 100 };
  external = true;
  cost = 0;
  peer_id = address id;
}

-- `redistribute connected`, without `subnets`
abbrev pub connected_routes : Redist
connected_routes = record {
  line = 1;
  source = Connected;
  metric = None;
  type1 = false;
  subnets = false;
  internal = true;
  ext1 = false;
  ext2 = false;
  map = None;
}

-- a slot with a connected entry
abbrev pub connected : Slot
connected = record { ospf = None; bgp = None; rib = Some (record { source = source.Connected; distance = 0 }) }

-- ---- two routers that support each other's routes

-- X takes external routes of type 2 from OSPF into BGP, and Y what it learns from X by BGP into OSPF
abbrev pub from_ospf : Redist
from_ospf = record {
  line = 1;
  source = OfOspf 1;
  metric = None;
  type1 = false;
  subnets = false;
  internal = false;
  ext1 = false;
  ext2 = true;
  map = None;
}

abbrev pub from_bgp : Redist
from_bgp = record {
  line = 1;
  source = OfBgp 65002;
  metric = None;
  type1 = false;
  subnets = true;
  internal = true;
  ext1 = false;
  ext2 = false;
  map = None;
}

abbrev pub x : File
x =
    router (codes "X") (interface (codes "Ethernet0") 167772161 30 ∷ []) (Some (ospf []))
    (Some (record (bgp 65001 (neighbour 167772162 65002 None ∷ [])) { redistribute = from_ospf ∷ [] }))

abbrev pub y : File
y =
    router (codes "Y") (interface (codes "Ethernet0") 167772162 30 ∷ []) (Some (ospf (from_bgp ∷ [])))
    (Some (bgp 65002 (neighbour 167772161 65001 None ∷ [])))

abbrev pub pair : List File
pair = x ∷ y ∷ []

abbrev pub nobody : Environment
nobody = record { ids = []; announced = [] }

abbrev pub empty : Slot
empty = record { ospf = None; bgp = None; rib = None }

-- tables with these two slots at length 24, and empty ones elsewhere
abbrev pub tables_at_24 : Slot → Slot → Tables
tables_at_24 of_x of_y =
    record { slots = replicate 24 empty ++ of_x ∷ [] ++ replicate 32 empty ++ of_y ∷ [] ++ replicate 8 empty }

-- 203.0.113.0/24
abbrev pub outside : Prefix
outside = prefix 3405803776 24

abbrev pub local_route : BgpRec
local_route = record {
  from = Local;
  weight = 32768;
  local_pref = 100;
  path = [];
  origin = Incomplete;
  med = 1;
  communities = [];
  next_hop = address 0;
  originator = None;
  clusters = [];
}

abbrev pub learnt_route : BgpRec
learnt_route = record (learnt 167772161 (65001 ∷ []) 167772161 None) { local_pref = 100; origin = Incomplete; med = 1 }

abbrev pub slot_of_x : Slot
slot_of_x = record {
  ospf = Some (route Ext2 1 1);
  bgp = Some local_route;
  rib = Some
      (record { source = source.Ospf; distance = 110 });
}

abbrev pub slot_of_y : Slot
slot_of_y = record {
  ospf = Some (route Ext2 1 0);
  bgp = Some learnt_route;
  rib = Some
      (record { source = source.Ebgp; distance = 20 });
}

abbrev pub supporting : Tables
supporting = tables_at_24 slot_of_x slot_of_y

-- ---- places and rooms

abbrev pub plan : List ℕ → List ℕ → Plan
plan class slices = record { class = class; slices = slices }

-- a router with a subnet 10.30.0.0/24 and two static routes, of which it brings 10.40.0.0/16 into OSPF with metric 30, by
-- a route map with a prefix list, and not 192.168.50.0/24; and which always originates the default route
abbrev pub static_to : ℕ → ℕ → StaticRoute
static_to a len = record {
  line = 1;
  prefix = prefix a len;
  via = Next (address 169738242);
  distance = 1;
}

abbrev pub static_routes : Redist
static_routes = record connected_routes {
  source = Static;
  subnets = true;
  map = Some (record { line = 1; name = codes "EXPORT" });
}

abbrev pub depot : List File
depot =
    record (router (codes "DEPOT") (interface (codes "Vlan30") 169738241 24 ∷ [])
    (Some (record (ospf (static_routes ∷ [])) {
      default = Some (record { line = 1; always = true; metric = 1; type1 = false });
    })) None) {
      statics = static_to 170393600 16 ∷ static_to 3232248320 24 ∷ [];
      policies = record {
        prefix_lists = record {
          name = codes "WAREHOUSE";
          entries = record { line = 1; seq = 5; permit = true; prefix = prefix 170393600 16; low = 16; high = 16 } ∷ [];
        } ∷ [];
        communities = [];
        as_paths = [];
        access = [];
        maps = record {
          name = codes "EXPORT";
          entries = record {
            line = 1;
            seq = 10;
            permit = true;
            matches = Prefixes (record { line = 1; name = codes "WAREHOUSE" } ∷ []) ∷ [];
            sets = Metric 30 ∷ [];
          } ∷ [];
        } ∷ [];
      };
    } ∷ []

-- the shape of a path of that length, with its first and its last number and the marks of the tracked numbers
abbrev pub path_shape : ℕ → ℕ → ℕ → List Bool → PathShape
path_shape len first last numbers = record { len = len; first = first; last = last; numbers = numbers }

-- two routers with a link between them: the first has a static route to the loopback 10.2.0.1 of the second
abbrev pub two_routers : List File
two_routers =
    record (router (codes "N1") (interface (codes "Ethernet0") 167772161 30 ∷ []) None None) {
      statics = record {
        line = 1;
        prefix = prefix 167903233 32;
        via = Next (address 167772162);
        distance = 1;
      } ∷ [];
    }
    ∷ router (codes "N2") (interface (codes "Ethernet0") 167772162 30 ∷ interface (codes "Loopback0") 167903233 32 ∷ [])
    None None ∷ []

-- two routers with an external session between them and links to two external peers, and a prefix list of one /16 at
-- the first
abbrev pub filtered : List File
filtered =
    record (router (codes "B1") (interface (codes "Ethernet0") 3221225985 30 ∷ interface (codes "Ethernet1") 3221225989 30
    ∷ interface (codes "Ethernet2") 3221225993 30 ∷ []) None
    (Some (bgp 65000 (neighbour 3221225986 65001 None ∷ neighbour 3221225990 65002 None
    ∷ record (neighbour 3221225994 65003 None) { prefix_out = Some short } ∷ [])))) {
      policies = record {
        prefix_lists = record {
          name = codes "SHORT";
          entries = record {
            line = 1;
            seq = 5;
            permit = true;
            prefix = prefix 3405774848 16;
            low = 16;
            high = 16;
          } ∷ [];
        } ∷ [];
        communities = [];
        as_paths = [];
        access = [];
        maps = [];
      };
    }
    ∷ router (codes "C1") (interface (codes "Ethernet0") 3221225994 30 ∷ []) None
    (Some (bgp 65003 (neighbour 3221225993 65000 None ∷ []))) ∷ []
  where
    short : Use
    short = record { line = 1; name = codes "SHORT" }

-- its classes and slices in the coarsest plan
abbrev pub coarsest_plan : List File → Plan
coarsest_plan files = record {
  class = classes_below files LENGTHS;
  slices = slices_below (classes_below files LENGTHS) (length files) (cuts_to files 32 + 1);
}
