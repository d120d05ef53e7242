-- Whether what two slots hold is the same, part by part.
use Rattle.std.specs.Prelude.{◌==◌, ◌&&◌, Bool, true, false, Option, Some, None}
use Rattle.route_record.specs.declared.BgpRec.{BgpRec}
use Rattle.route_record.specs.declared.OspfRec.{OspfRec}
use Rattle.route_record.specs.declared.RibEntry.{RibEntry}
use Rattle.route_record.specs.declared.RibSource.{RibSource}
use Rattle.route_record.specs.declared.RibSource.TheVariants.{Connected, Static, Ebgp, Ospf, Ibgp}
use Rattle.route_record.specs.declared.Slot.{Slot}
use Rattle.net_parts.specs.Sending.{same_record}
use Rattle.same_routes.specs.Same.{same_rec}

-- both are there and the same, or none is
abbrev pub same_held : {X : Type 0} → (X → X → Bool) → Option X → Option X → Bool
same_held same None None = true
same_held same None (Some b) = false
same_held same (Some a) None = false
same_held same (Some a) (Some b) = same a b

abbrev pub same_ospf : Option OspfRec → Option OspfRec → Bool
same_ospf a b = same_held same_record a b

abbrev pub same_bgp : Option BgpRec → Option BgpRec → Bool
same_bgp a b = same_held same_rec a b

abbrev pub same_source : RibSource → RibSource → Bool
same_source Connected Connected = true
same_source Static Static = true
same_source Ebgp Ebgp = true
same_source Ospf Ospf = true
same_source Ibgp Ibgp = true
same_source _ _ = false

abbrev pub same_entry : RibEntry → RibEntry → Bool
same_entry a b = same_source a.source b.source && (a.distance == b.distance)

abbrev pub same_rib : Option RibEntry → Option RibEntry → Bool
same_rib a b = same_held same_entry a b

-- all three parts
abbrev pub same_slot : Slot → Slot → Bool
same_slot a b = same_ospf a.ospf b.ospf && (same_bgp a.bgp b.bgp && same_rib a.rib b.rib)
