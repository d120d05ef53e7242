-- Records whose numbers fit their fields.
use Rattle.std.specs.Prelude.{ℕ, ◌<◌, ◌^◌, All, IfSome}
use Rattle.mw_text.specs.declared.address.Addr.{Addr}
use Rattle.route_record.specs.declared.BgpRec.{BgpRec}
use Rattle.route_record.specs.declared.Learnt.{Learnt}
use Rattle.route_record.specs.declared.Learnt.TheVariants.{Local, Peer}
use Rattle.route_record.specs.declared.OspfRec.{OspfRec}
use Rattle.route_record.specs.declared.RibEntry.{RibEntry}
use Rattle.route_record.specs.declared.Slot.{Slot}

-- a number of 32 bits
abbrev pub IsWord : ℕ → Type 0
IsWord n = n < 2 ^ 32

-- an address of IPv4 (RFC 791, section 3.1)
abbrev pub IsAddress : Addr → Type 0
IsAddress a = a.0 < 2 ^ 32

-- metric and cost of an OSPF route
pub record FitsOspf (r : OspfRec) : Type 0 where
  pub metric : IsWord r.metric
  pub cost : IsWord r.cost

abbrev pub FitsLearnt : Learnt → Type 0
FitsLearnt Local = Unit {0}
FitsLearnt (Peer a) = IsAddress a

-- the attributes of a BGP route (RFC 4271, section 5.1; RFC 6793; RFC 1997; RFC 4456)
pub record FitsBgp (r : BgpRec) : Type 0 where
  pub from : FitsLearnt r.from
  pub weight : IsWord r.weight
  pub local_pref : IsWord r.local_pref
  pub path : All IsWord r.path
  pub med : IsWord r.med
  pub communities : All IsWord r.communities
  pub next_hop : IsAddress r.next_hop
  pub originator : IfSome r.originator IsAddress
  pub clusters : All IsAddress r.clusters

-- the distance of an entry has 8 bits
abbrev pub FitsRib : RibEntry → Type 0
FitsRib entry = entry.distance < 2 ^ 8

-- what a router holds for one prefix
pub record FitsSlot (slot : Slot) : Type 0 where
  pub ospf : IfSome slot.ospf FitsOspf
  pub bgp : IfSome slot.bgp FitsBgp
  pub rib : IfSome slot.rib FitsRib
