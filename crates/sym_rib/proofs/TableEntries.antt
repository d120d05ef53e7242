-- The entry that is made from the terms of a slot, and that of the slot for which they stand.
use Rattle.std.proofs.Common.{◌≡◌, ℕ, Bool, true, false, not, ◌&&◌, if◌then◌else◌, List, ◌++◌, Option, Some, None}
use Rattle.std.proofs.Common.{fold, refl}
use Rattle.std.proofs.Common.{ap, ap₂, sym, ◌∙◌}
use Rattle.std.specs.Prelude.{option_and_then, option_map}
use Rattle.std.specs.Option.{option_to_list}
use Rattle.std.proofs.lemmas.List.Sums.{fold-append}
use Rattle.mw_text.specs.declared.address.Prefix.{Prefix}
use Rattle.ios_ast.specs.declared.file.File.{File}
use Rattle.route_record.specs.declared.BgpRec.{BgpRec}
use Rattle.route_record.specs.declared.Failures.{Failures}
use Rattle.route_record.specs.declared.OspfRec.{OspfRec}
use Rattle.route_record.specs.declared.RibEntry.{RibEntry}
use Rattle.route_record.specs.declared.RibSource.TheVariants.{Ospf}
use Rattle.route_record.specs.declared.Slot.{Slot}
use Rattle.route_record.specs.declared.tracked.Tracked.{Tracked}
use Rattle.net_parts.specs.Entries.{entry_with, ospf_entry}
use Rattle.net_parts.specs.Exports.{learnt_over}
use Rattle.net_parts.specs.Routing.{candidates, closer, least_distance, up_interfaces}
use Rattle.sym_policy.specs.Held.{bgp_at, ospf_at, ospf_of}
use Rattle.route_shapes.specs.Bgp.{BgpShape, bgp_shape, learnt_number}
use Rattle.term_store.specs.Terms.{Reading, at}
use Rattle.term_arith.specs.Bits.{number}
use Rattle.sym_rib.specs.declared.slots.SymSlot.{SymSlot}
use Rattle.sym_rib.specs.Slots.{StandsForSlot, learnt_of}
use Rattle.sym_rib.specs.Sources.{entry_from, entry_over, entry_read, learnt_entry, ospf_candidate}
use Rattle.bgp_shapes.proofs.CrossingLaw.{learnt_numbered}

-- where a BGP route was learnt, by the shape that stands for it
bgp_learnt : (tracked : Tracked) (valid : Bool) (x : BgpShape) (held : Option BgpRec)
    → (if valid then Some x else None) ≡ option_map (bgp_shape tracked) held
    → (if valid then Some x.from else None) ≡ option_map (λ h. learnt_number h.from) held
bgp_learnt tracked false x None e = refl
bgp_learnt tracked false x (Some h) e = cc
bgp_learnt tracked true x None e = cc
bgp_learnt tracked true x (Some h) e =
    let from_of : Option BgpShape → Option ℕ = λ o. option_map (λ y. y.from) o in
    ap from_of e

-- the entry of a BGP route by the number that tells where it was learnt
bgp_numbered : (files : List File) (router : ℕ) (held : Option BgpRec)
    → option_and_then (learnt_entry files router) (option_map (λ h. learnt_number h.from) held)
    ≡ option_and_then (λ h. option_map entry_over (learnt_over files router h.from)) held
bgp_numbered files router None = refl
bgp_numbered files router (Some h) = ap (option_map entry_over) (sym (learnt_numbered files router h.from))

-- the entry of a slot is that from where its BGP route was learnt and from its OSPF route
pub entry_same : (files : List File) (failures : Failures) (router : ℕ) (file : File) (p : Prefix) (held : Slot)
    (own : Bool)
    → entry_from files failures router file p (option_map (λ h. learnt_number h.from) held.bgp) held.ospf own
    ≡ entry_with files failures router file p held own
unfolding entry_with
entry_same files failures router file p held own =
    ap (λ o. least_distance ((candidates (up_interfaces files failures router) file.statics p ++ option_to_list o)
    ++ option_to_list (ospf_entry own held))) (bgp_numbered files router held.bgp)

-- so it follows from the terms of a slot that stand for it
pub entry_stands : (w : Reading) (files : List File) (failures : Failures) (router : ℕ) (file : File) (p : Prefix)
    (tracked : Tracked) (slot : SymSlot) (held : Slot) (own : Bool) → StandsForSlot w tracked slot held
    → entry_from files failures router file p (learnt_of w slot.bgp) (ospf_of w slot.ospf) own
    ≡ entry_with files failures router file p held own
entry_stands w files failures router file p tracked slot held own stands =
    ap₂ (λ l o. entry_from files failures router file p l o own)
    (bgp_learnt tracked (at w slot.bgp.valid) (bgp_at w slot.bgp) held.bgp stands.bgp) stands.ospf
    ∙ entry_same files failures router file p held own

-- ---- the entry as it is made, of two at a time

learnt_there : (files : List File) (router : ℕ) (valid : Bool) (n : ℕ)
    → (if valid then learnt_entry files router n else None)
    ≡ option_and_then (learnt_entry files router) (if valid then Some n else None)
learnt_there files router true n = refl
learnt_there files router false n = refl

abbrev by_ospf : RibEntry
by_ospf = record { source = Ospf; distance = 110 }

ospf_there : (valid own : Bool) (x : OspfRec)
    → (if valid && not own then Some by_ospf else None)
    ≡ option_and_then (ospf_candidate own) (if valid then Some x else None)
ospf_there true true x = refl
ospf_there true false x = refl
ospf_there false true x = refl
ospf_there false false x = refl

pub entry_made : (w : Reading) (files : List File) (failures : Failures) (router : ℕ) (file : File) (p : Prefix)
    (slot : SymSlot) (own : Bool)
    → entry_read files failures router file p
    (if at w slot.bgp.valid then learnt_entry files router (number w slot.bgp.from.nodes.items) else None)
    (at w slot.ospf.valid && not own)
    ≡ entry_from files failures router file p (learnt_of w slot.bgp) (ospf_of w slot.ospf) own
entry_made w files failures router file p slot own =
    let plain : List RibEntry = candidates (up_interfaces files failures router) file.statics p in
    let bgp = learnt_there files router (at w slot.bgp.valid) (number w slot.bgp.from.nodes.items) in
    let ospf = ospf_there (at w slot.ospf.valid) own (ospf_at w slot.ospf) in
    let by_bgp : List RibEntry = option_to_list (option_and_then (learnt_entry files router) (learnt_of w slot.bgp)) in
    let by_own : List RibEntry = option_to_list (option_and_then (ospf_candidate own) (ospf_of w slot.ospf)) in
    let whole : least_distance ((plain ++ by_bgp) ++ by_own)
    ≡ fold closer (fold closer (least_distance plain) by_bgp) by_own =
    fold-append closer None (plain ++ by_bgp) by_own
    ∙ ap (λ best. fold closer best by_own) (fold-append closer None plain by_bgp) in
    ap₂ (λ b o. fold closer (fold closer (least_distance plain) (option_to_list b)) (option_to_list o)) bgp ospf
    ∙ sym whole
