-- Tables whose slots have the same shapes have the same routes of OSPF and the same entries.
use Rattle.std.proofs.Common.{◌≡◌, ℕ, false, List, [], ◌++◌, map, Option, Some, None, refl, sym, ap}
use Rattle.std.proofs.Common.{◌∙◌}
use Rattle.std.specs.Prelude.{option_and_then, option_map, slice_get}
use Rattle.std.specs.List.{filter_map, list_any}
use Rattle.std.specs.Option.{option_map_or}
use Rattle.mw_text.specs.declared.address.Prefix.{Prefix}
use Rattle.ios_ast.specs.declared.bgp.Bgp.{Bgp}
use Rattle.ios_ast.specs.declared.file.File.{File}
use Rattle.ios_ast.specs.declared.ospf.Ospf.{Ospf}
use Rattle.route_record.specs.declared.BgpRec.{BgpRec}
use Rattle.route_record.specs.declared.Failures.{Failures}
use Rattle.route_record.specs.declared.OspfKind.TheVariants.{Internal}
use Rattle.route_record.specs.declared.OspfRec.{OspfRec}
use Rattle.route_record.specs.declared.Slot.{Slot}
use Rattle.route_record.specs.declared.Tables.{Tables}
use Rattle.route_record.specs.declared.tracked.Tracked.{Tracked}
use Rattle.route_record.specs.Places.{slot_at}
use Rattle.net_parts.specs.Entries.{own_is_as_good, table_entry}
use Rattle.net_parts.specs.Origins.{redistributed}
use Rattle.net_parts.specs.Ospf.{origin_interfaces, up_adjacencies}
use Rattle.net_parts.specs.OspfRoutes.{extended, first_best, held_by_ospf, is_as_good, offer_over, own_origins}
use Rattle.net_parts.specs.Stable.{held_ospf}
use Rattle.net_parts.proofs.Heard.{held_by_offers}
use Rattle.route_shapes.specs.Bgp.{BgpShape, bgp_shape, learnt_number}
use Rattle.bgp_shapes.specs.Candidates.{ShapeSlot, slot_shape, slots_shape}
use Rattle.bgp_shapes.specs.Tracking.{TracksTests}
use Rattle.sym_rib.specs.Redistributed.{shape_redistributed}
use Rattle.sym_rib.specs.Sources.{entry_from}
use Rattle.sym_rib.proofs.Redistribution.{redistributed_same}
use Rattle.sym_rib.proofs.TableEntries.{entry_same}

-- the number that tells where a route was learnt is that of its shape
pub learnt_shape : (tracked : Tracked) (o : Option BgpRec) → option_map (λ (h : BgpRec). learnt_number h.from) o
    ≡ option_map (λ (t : BgpShape). t.from) (option_map (bgp_shape tracked) o)
learnt_shape tracked None = refl
learnt_shape tracked (Some h) = refl

module _ (tracked : Tracked) (files : List File) (failures : Failures) (tests : TracksTests files tracked) (router : ℕ)
    (file : File) (found : slice_get files router ≡ Some file) (p : Prefix) (one other : Slot)
    (same : slot_shape tracked one ≡ slot_shape tracked other)
    (none : file.bgp ≡ None → (one.bgp ≡ None) × (other.bgp ≡ None)) where
  ospf_same : one.ospf ≡ other.ospf
  ospf_same = ap (λ (x : ShapeSlot). x.ospf) same

  rib_same : one.rib ≡ other.rib
  rib_same = ap (λ (x : ShapeSlot). x.rib) same

  bgp_same : option_map (bgp_shape tracked) one.bgp ≡ option_map (bgp_shape tracked) other.bgp
  bgp_same = ap (λ (x : ShapeSlot). x.bgp) same

  brought_same : (process : Ospf) → redistributed file process p one ≡ redistributed file process p other
  brought_same process = by file.bgp refl
    where
      by : (o : Option Bgp) → file.bgp ≡ o → redistributed file process p one ≡ redistributed file process p other
      by None lacks =
          let both = none lacks in
          let bgp = both.0 ∙ sym both.1 in
          let ospf = ospf_same in
          let rib = rib_same in
          (λ i. redistributed file process p (record { ospf = ospf i; bgp = bgp i; rib = rib i }))
      by (Some runs) is =
          let all = (tests.routers router file runs found is).policies in
          sym (redistributed_same tracked file p one all process)
          ∙ (λ i. shape_redistributed tracked file process p (bgp_same i) (rib_same i))
          ∙ redistributed_same tracked file p other all process

  pub origins_same : (process : Ospf) →
      own_origins files failures router file process p one ≡ own_origins files failures router file process p other
  unfolding own_origins
  origins_same process =
      ap (λ rs. map (λ x. record { kind = Internal; metric = 0; cost = x.cost })
      (origin_interfaces files failures router p) ++ rs) (brought_same process)

  as_good_same : own_is_as_good files failures router file p one ≡ own_is_as_good files failures router file p other
  as_good_same =
      let ospf = ospf_same in
      λ i. option_map_or (λ (held : OspfRec). option_map_or (λ (process : Ospf).
      list_any (λ o. is_as_good o held) (origins_same process i)) file.ospf false) (ospf i) false

  pub entries_same : table_entry files failures router file p one ≡ table_entry files failures router file p other
  entries_same =
      let ospf = ospf_same in
      let own = as_good_same in
      let learnt = learnt_shape tracked one.bgp ∙ ap (option_map (λ (t : BgpShape). t.from)) bgp_same
      ∙ sym (learnt_shape tracked other.bgp) in
      sym (entry_same files failures router file p one (own_is_as_good files failures router file p one))
      ∙ (λ i. entry_from files failures router file p (learnt i) (ospf i) (own i))
      ∙ entry_same files failures router file p other (own_is_as_good files failures router file p other)

  -- and where the far routers hold the same routes of OSPF, so does the router
  pub held_same : (here there : Tables) → slot_at here router p.len ≡ Some one → slot_at there router p.len ≡ Some other →
      ((r : ℕ) → slots_shape tracked here p.len r ≡ slots_shape tracked there p.len r) →
      held_ospf files failures here router file p ≡ held_ospf files failures there router file p
  held_same here there at_one at_other shapes = by file.ospf
    where
      far_same : (r : ℕ) → option_and_then (λ (slot : Slot). slot.ospf) (slot_at here r p.len)
          ≡ option_and_then (λ (slot : Slot). slot.ospf) (slot_at there r p.len)
      far_same r =
          by_shape (slot_at here r p.len) ∙ ap (option_and_then (λ (x : ShapeSlot). x.ospf)) (shapes r)
          ∙ sym (by_shape (slot_at there r p.len))
        where
          by_shape : (o : Option Slot) → option_and_then (λ (slot : Slot). slot.ospf) o
              ≡ option_and_then (λ (x : ShapeSlot). x.ospf) (option_map (slot_shape tracked) o)
          by_shape None = refl
          by_shape (Some slot) = refl

      by_process : (process : Ospf) → held_by_ospf files failures here router file process p
          ≡ held_by_ospf files failures there router file process p
      by_process process =
          held_by_offers files failures here router file process p
          ∙ ap (λ o. first_best (option_map_or (own_origins files failures router file process p) o []
          ++ filter_map (offer_over here p) (up_adjacencies files failures router))) at_one
          ∙ (λ i. first_best (origins_same process i ++ filter_map (λ a. option_and_then (extended a.cost)
          (far_same a.to.router i)) (up_adjacencies files failures router)))
          ∙ sym (ap (λ o. first_best (option_map_or (own_origins files failures router file process p) o []
          ++ filter_map (offer_over there p) (up_adjacencies files failures router))) at_other)
          ∙ sym (held_by_offers files failures there router file process p)

      by : (o : Option Ospf) →
          option_and_then (λ process. held_by_ospf files failures here router file process p) o
          ≡ option_and_then (λ process. held_by_ospf files failures there router file process p) o
      by None = refl
      by (Some process) = by_process process
