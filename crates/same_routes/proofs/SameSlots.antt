-- The tests of the parts tell whether two slots are the same.
use Rattle.std.proofs.Common.{◌≡◌, ◌∙◌, ℕ, ◌==◌, Bool, Option, Some, None, refl, ap}
use Rattle.std.specs.Bool.{Decides}
use Rattle.std.proofs.lemmas.Bool.Decides.{Decides-and, Decides-eqb, Decides-like}
use Rattle.std.proofs.lemmas.Option.{same_Some}
use Rattle.route_record.specs.declared.BgpRec.{BgpRec}
use Rattle.route_record.specs.declared.OspfKind.{OspfKind}
use Rattle.route_record.specs.declared.OspfKind.TheVariants.{Internal, Ext1, Ext2}
use Rattle.route_record.specs.declared.OspfRec.{OspfRec}
use Rattle.route_record.specs.declared.RibEntry.{RibEntry}
use Rattle.route_record.specs.declared.RibSource.{RibSource}
use Rattle.route_record.specs.declared.RibSource.TheVariants.{Connected, Static, Ebgp, Ospf, Ibgp}
use Rattle.route_record.specs.declared.Slot.{Slot}
use Rattle.net_parts.specs.OspfRoutes.{kind_rank}
use Rattle.net_parts.specs.Sending.{same_record}
use Rattle.same_routes.specs.Slots.{same_bgp, same_entry, same_held, same_ospf, same_rib, same_slot, same_source}
use Rattle.same_routes.specs.Same.{same_rec}
use Rattle.same_routes.proofs.SameRoutes.{same_rec_decides}

held_decides : {X : Type 0} (same : X → X → Bool) → ((a b : X) → Decides (same a b) (a ≡ b)) → (a b : Option X) →
    Decides (same_held same a b) (a ≡ b)
held_decides same tells None None = (λ _. refl, λ _. refl)
held_decides same tells None (Some b) = (λ h. cc, λ h. cc)
held_decides same tells (Some a) None = (λ h. cc, λ h. cc)
held_decides same tells (Some a) (Some b) = (λ h. ap Some ((tells a b).0 h), λ h. (tells a b).1 (same_Some a b h))

kind_decides : (a b : OspfKind) → Decides (kind_rank a == kind_rank b) (a ≡ b)
kind_decides Internal Internal = (λ _. refl, λ _. refl)
kind_decides Internal Ext1 = (λ h. cc, λ h. cc)
kind_decides Internal Ext2 = (λ h. cc, λ h. cc)
kind_decides Ext1 Internal = (λ h. cc, λ h. cc)
kind_decides Ext1 Ext1 = (λ _. refl, λ _. refl)
kind_decides Ext1 Ext2 = (λ h. cc, λ h. cc)
kind_decides Ext2 Internal = (λ h. cc, λ h. cc)
kind_decides Ext2 Ext1 = (λ h. cc, λ h. cc)
kind_decides Ext2 Ext2 = (λ _. refl, λ _. refl)

record_decides : (a b : OspfRec) → Decides (same_record a b) (a ≡ b)
record_decides a b =
    let make : OspfKind → ℕ → ℕ → OspfRec = λ k m c. record { kind = k; metric = m; cost = c } in
    Decides-like (same_record a b)
    (λ h. ap (λ k. make k a.metric a.cost) h.0
    ∙ (ap (λ m. make b.kind m a.cost) h.1.0 ∙ ap (λ c. make b.kind b.metric c) h.1.1))
    (λ e. (ap (λ x. x.kind) e, (ap (λ x. x.metric) e, ap (λ x. x.cost) e)))
    (Decides-and _ _ (kind_decides a.kind b.kind)
    (Decides-and _ _ (Decides-eqb a.metric b.metric) (Decides-eqb a.cost b.cost)))

source_decides : (a b : RibSource) → Decides (same_source a b) (a ≡ b)
source_decides Connected Connected = (λ _. refl, λ _. refl)
source_decides Connected Static = (λ h. cc, λ h. cc)
source_decides Connected Ebgp = (λ h. cc, λ h. cc)
source_decides Connected Ospf = (λ h. cc, λ h. cc)
source_decides Connected Ibgp = (λ h. cc, λ h. cc)
source_decides Static Connected = (λ h. cc, λ h. cc)
source_decides Static Static = (λ _. refl, λ _. refl)
source_decides Static Ebgp = (λ h. cc, λ h. cc)
source_decides Static Ospf = (λ h. cc, λ h. cc)
source_decides Static Ibgp = (λ h. cc, λ h. cc)
source_decides Ebgp Connected = (λ h. cc, λ h. cc)
source_decides Ebgp Static = (λ h. cc, λ h. cc)
source_decides Ebgp Ebgp = (λ _. refl, λ _. refl)
source_decides Ebgp Ospf = (λ h. cc, λ h. cc)
source_decides Ebgp Ibgp = (λ h. cc, λ h. cc)
source_decides Ospf Connected = (λ h. cc, λ h. cc)
source_decides Ospf Static = (λ h. cc, λ h. cc)
source_decides Ospf Ebgp = (λ h. cc, λ h. cc)
source_decides Ospf Ospf = (λ _. refl, λ _. refl)
source_decides Ospf Ibgp = (λ h. cc, λ h. cc)
source_decides Ibgp Connected = (λ h. cc, λ h. cc)
source_decides Ibgp Static = (λ h. cc, λ h. cc)
source_decides Ibgp Ebgp = (λ h. cc, λ h. cc)
source_decides Ibgp Ospf = (λ h. cc, λ h. cc)
source_decides Ibgp Ibgp = (λ _. refl, λ _. refl)

entry_decides : (a b : RibEntry) → Decides (same_entry a b) (a ≡ b)
entry_decides a b =
    let make : RibSource → ℕ → RibEntry = λ s d. record { source = s; distance = d } in
    Decides-like (same_entry a b)
    (λ h. ap (λ s. make s a.distance) h.0 ∙ ap (λ d. make b.source d) h.1)
    (λ e. (ap (λ x. x.source) e, ap (λ x. x.distance) e))
    (Decides-and _ _ (source_decides a.source b.source) (Decides-eqb a.distance b.distance))

pub ospf_decides : (a b : Option OspfRec) → Decides (same_ospf a b) (a ≡ b)
ospf_decides a b = held_decides same_record record_decides a b

pub bgp_decides : (a b : Option BgpRec) → Decides (same_bgp a b) (a ≡ b)
bgp_decides a b = held_decides same_rec same_rec_decides a b

pub rib_decides : (a b : Option RibEntry) → Decides (same_rib a b) (a ≡ b)
rib_decides a b = held_decides same_entry entry_decides a b

pub slot_decides : (a b : Slot) → Decides (same_slot a b) (a ≡ b)
slot_decides a b =
    let make : Option OspfRec → Option BgpRec → Option RibEntry → Slot = λ o g r. record { ospf = o; bgp = g; rib = r } in
    Decides-like (same_slot a b)
    (λ h. ap (λ o. make o a.bgp a.rib) h.0
    ∙ (ap (λ g. make b.ospf g a.rib) h.1.0 ∙ ap (λ r. make b.ospf b.bgp r) h.1.1))
    (λ e. (ap (λ x. x.ospf) e, (ap (λ x. x.bgp) e, ap (λ x. x.rib) e)))
    (Decides-and _ _ (ospf_decides a.ospf b.ospf)
    (Decides-and _ _ (bgp_decides a.bgp b.bgp) (rib_decides a.rib b.rib)))
