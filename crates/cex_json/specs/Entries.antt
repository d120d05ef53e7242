-- Records, entries of the routing table and slots, as they are read.
use Rattle.std.specs.Prelude.{ℕ, ◌+◌, ◌*◌, ◌-◌, ◌==◌, ◌&&◌, Bool, true, false, List, [], ◌∷◌, ◌++◌, codes, decimal}
use Rattle.std.specs.Prelude.{length, nat_le, replicate, Option, Some, None, option_and_then, option_map, Result, Ok}
use Rattle.std.specs.Prelude.{if◌then◌else◌}
use Rattle.std.specs.List.{list_any}
use Rattle.std.specs.Option.{option_map_or}
use Rattle.mw_text.specs.declared.address.Addr.{Addr}
use Rattle.mw_text.specs.Digits.{addr_of}
use Rattle.mw_text.specs.Text.{same_text}
use Rattle.ios_ast.specs.declared.file.File.{File}
use Rattle.route_record.specs.declared.BgpRec.{BgpRec}
use Rattle.route_record.specs.declared.Learnt.{Learnt}
use Rattle.route_record.specs.declared.Learnt.TheVariants.{Local, Peer}
use Rattle.route_record.specs.declared.Origin.{Origin}
use Rattle.route_record.specs.declared.Origin.TheVariants.{Igp, Egp, Incomplete}
use Rattle.route_record.specs.declared.OspfKind.{OspfKind}
use Rattle.route_record.specs.declared.OspfKind.TheVariants.{Internal, Ext1, Ext2}
use Rattle.route_record.specs.declared.OspfRec.{OspfRec}
use Rattle.route_record.specs.declared.RibEntry.{RibEntry}
use Rattle.route_record.specs.declared.RibSource.{RibSource}
use Rattle.route_record.specs.declared.RibSource.TheVariants.{Connected, Static, Ebgp, Ospf, Ibgp}
use Rattle.route_record.specs.declared.Slot.{Slot}
use Rattle.route_record.specs.declared.TheConstants.{LENGTHS}
use Rattle.net_parts.specs.Exports.{is_towards}
use Rattle.net_parts.specs.Sessions.{ends_of}
use Rattle.question_lang.specs.Asking.{router_named}
use Rattle.serde_json.specs.Data.{Data}
use Rattle.serde_json.specs.Find.{get}
use Rattle.cex_json.specs.declared.entries.BgpFront.{BgpFront}
use Rattle.cex_json.specs.declared.refused.CexRefused.{CexRefused}
use Rattle.cex_json.specs.Fields.{◌>>=◌, absent_or, addr_in, addrs_in, ascending_in, greatest, in_order, members_in}
use Rattle.cex_json.specs.Fields.{number_in, object_in, passing, path_in, required, text_in}

abbrev pub kind_named : List ℕ → Option OspfKind
kind_named word =
    if same_text word (codes "internal") then Some Internal
    else (if same_text word (codes "ext1") then Some Ext1
    else (if same_text word (codes "ext2") then Some Ext2 else None))

-- an OSPF record
unfoldable pub ospf_in : List ℕ → Data → Result OspfRec CexRefused
ospf_in at d = do
  cost ← required at (codes "cost") (number_in greatest (get (codes "cost") d))
  kind ← required at (codes "kind") (option_and_then kind_named (text_in (get (codes "kind") d)))
  metric ← required at (codes "metric") (number_in greatest (get (codes "metric") d))
  Ok (record { kind = kind; metric = metric; cost = cost })

abbrev pub source_named : List ℕ → Option RibSource
source_named word =
    if same_text word (codes "connected") then Some Connected
    else (if same_text word (codes "static") then Some Static
    else (if same_text word (codes "ebgp") then Some Ebgp
    else (if same_text word (codes "ospf") then Some Ospf
    else (if same_text word (codes "ibgp") then Some Ibgp else None))))

-- an entry of the routing table
unfoldable pub rib_in : List ℕ → Data → Result RibEntry CexRefused
rib_in at d = do
  distance ← required at (codes "distance") (number_in 255 (get (codes "distance") d))
  source ← required at (codes "source") (option_and_then source_named (text_in (get (codes "source") d)))
  Ok (record { source = source; distance = distance })

abbrev pub origin_named : List ℕ → Option Origin
origin_named word =
    if same_text word (codes "igp") then Some Igp
    else (if same_text word (codes "egp") then Some Egp
    else (if same_text word (codes "incomplete") then Some Incomplete else None))

-- the ORIGIN of the route (RFC 4271, section 5.1.1)
abbrev pub origin_in : List ℕ → Data → Result Origin CexRefused
origin_in at d = required at (codes "origin") (option_and_then origin_named (text_in (get (codes "origin") d)))

-- the router that the field `router` names
unfoldable pub router_in : List File → Data → Option ℕ
router_in files d = option_and_then (router_named files) (text_in (get (codes "router") d))

-- a neighbour with whom the router has a session; of an unknown router any address
abbrev pub is_neighbour : List File → Option ℕ → Addr → Bool
is_neighbour files router a = option_map_or (λ r. list_any (is_towards files r a) (ends_of files)) router true

-- `local`, or the address of a neighbour
abbrev pub learnt_named : List File → Option ℕ → List ℕ → Option Learnt
learnt_named files router word =
    if same_text word (codes "local") then Some Local
    else option_map (λ a. Peer a) (passing (is_neighbour files router) (addr_of word))

-- a BGP record of a router: the first five fields, and all
unfoldable pub front_in : List File → Option ℕ → List ℕ → Data → Result BgpFront CexRefused
front_in files router at d = do
  clusters ← addrs_in at (codes "clusters") d
  communities ← ascending_in at (codes "communities") d
  from ← required at (codes "from") (option_and_then (learnt_named files router) (text_in (get (codes "from") d)))
  local_pref ← required at (codes "localpref") (number_in greatest (get (codes "localpref") d))
  med ← required at (codes "med") (number_in greatest (get (codes "med") d))
  Ok (record { clusters = clusters; communities = communities; from = from; local_pref = local_pref; med = med })

unfoldable pub bgp_in : List File → Option ℕ → List ℕ → Data → Result BgpRec CexRefused
bgp_in files router at d = do
  front ← front_in files router at d
  next_hop ← required at (codes "nexthop") (addr_in (get (codes "nexthop") d))
  origin ← origin_in at d
  originator ← required at (codes "originator") (absent_or addr_in (get (codes "originator") d))
  path ← path_in at (codes "path") d
  weight ← required at (codes "weight") (number_in greatest (get (codes "weight") d))
  Ok (record {
    from = front.from;
    weight = weight;
    local_pref = front.local_pref;
    path = path;
    origin = origin;
    med = front.med;
    communities = front.communities;
    next_hop = next_hop;
    originator = originator;
    clusters = front.clusters;
  })

-- a part that may be absent, and else is an object; its own fields stand below its path
abbrev pub part_in : {A : Type 0} → (List ℕ → Data → Result A CexRefused) → List ℕ → List ℕ → Option Data
    → Result (Option A) CexRefused
part_in read at name None = Ok None
part_in read at name (Some d) =
    required at name (object_in (Some d)) >>= λ o. read (at ++ (name ++ codes "/")) o >>= λ x. Ok (Some x)

-- the place of the slot of a router and a length, which is none of those so far
abbrev pub slot_place : List Slot → Option ℕ → ℕ → Bool
slot_place so_far router len = option_map_or (λ r. nat_le (length so_far) (LENGTHS * r + len)) router true

-- a slot without any part
abbrev pub empty_slot : Slot
empty_slot = record { ospf = None; bgp = None; rib = None }

-- the slots so far, and empty ones up to that place
abbrev pub filled : List Slot → ℕ → List Slot
filled so_far place = so_far ++ replicate (place - length so_far) empty_slot

-- the path of an entry of a list
abbrev pub entry_path : List ℕ → ℕ → List ℕ
entry_path name i = name ++ (decimal i ++ codes "/")

-- the slots so far with that of an entry
unfoldable pub slot_at : List File → List ℕ → List Slot → Data → Result (List Slot) CexRefused
slot_at files at so_far d = do
  bgp ← part_in (bgp_in files (router_in files d)) at (codes "bgp") (get (codes "bgp") d)
  len ← required at (codes "len") (passing (slot_place so_far (router_in files d)) (number_in 32 (get (codes "len") d)))
  ospf ← part_in ospf_in at (codes "ospf") (get (codes "ospf") d)
  rib ← part_in rib_in at (codes "rib") (get (codes "rib") d)
  router ← required at (codes "router") (router_in files d)
  Ok (filled so_far (LENGTHS * router + len) ++ record { ospf = ospf; bgp = bgp; rib = rib } ∷ [])

abbrev pub slot_step : List File → ℕ → List Slot → Data → Result (List Slot) CexRefused
slot_step files i so_far d =
    required (codes "tables/") (decimal i) (object_in (Some d)) >>= slot_at files
    (entry_path (codes "tables/") i) so_far

-- the slots of all routers and lengths; those without an entry are empty
unfoldable pub slots_in : List File → Data → Result (List Slot) CexRefused
slots_in files d = do
  members ← members_in [] (codes "tables") d
  slots ← in_order (slot_step files) 0 [] members
  Ok (filled slots (LENGTHS * length files))
