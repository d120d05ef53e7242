-- Slots of a routing at their places.
use Rattle.std.proofs.Common.{◌≡◌, Bool, true, false, List, Option, Some, None, refl, sym, ◌∙◌}
use Rattle.std.specs.Prelude.{option_and_then, option_map, slice_get, if◌then◌else◌}
use Rattle.mw_text.specs.declared.address.Addr.{Addr}
use Rattle.mw_text.specs.Address.{prefix_at}
use Rattle.ios_ast.specs.declared.file.File.{File}
use Rattle.route_record.specs.declared.Failures.{Failures}
use Rattle.term_store.specs.Terms.{Reading, at}
use Rattle.term_arith.specs.Bits.{number}
use Rattle.route_shapes.specs.Bgp.{BgpShape}
use Rattle.bgp_shapes.specs.Candidates.{ShapeSlot}
use Rattle.plan_places.specs.declared.places.Place.{Place}
use Rattle.sym_policy.specs.declared.records.SymBgp.{SymBgp}
use Rattle.sym_policy.specs.Held.{bgp_at, bgp_of}
use Rattle.sym_rib.specs.Slots.{learnt_of}
use Rattle.sym_rib.specs.Sources.{entry_from}
use Rattle.world_variables.specs.declared.unknowns.Unknown.{Unknown}
use Rattle.bgp_worlds.specs.Opens.{open_shape}
use Rattle.routing_worlds.specs.Worlds.{open_with}
use Rattle.world_variables.proofs.Stability.{same_bit}

-- where a route was learnt is its number
pub learnt_is : (w : Reading) (s : SymBgp) → learnt_of w s ≡ option_map (λ x. x.from) (bgp_of w s)
learnt_is w s = by (at w s.valid) where
  by : (b : Bool) → (if b then Some (number w s.from.nodes.items) else None)
      ≡ option_map (λ (x : BgpShape). x.from) (if b then Some (bgp_at w s) else None)
  by true = refl
  by false = refl

-- the slot of a router without room for an OSPF route
pub closed_shape : (files : List File) (failures : Failures) (d : Addr) (p : Place) (u : Unknown)
    (bgp : Option BgpShape) (made : ShapeSlot) → made ≡ record {
      ospf = None;
      bgp = bgp;
      rib = option_and_then (λ file. entry_from files failures p.router file (prefix_at d p.len)
          (option_map (λ s. s.from) bgp) None false) (slice_get files p.router);
    } → made ≡ open_shape files failures d p.router p.len (open_with files failures d None p u bgp)
closed_shape files failures d p u bgp made is =
    let e = option_and_then (λ file. entry_from files failures p.router file (prefix_at d p.len)
    (option_map (λ s. s.from) bgp) None false) (slice_get files p.router) in
    is ∙ (λ i. record { ospf = None; bgp = bgp; rib = sym (same_bit e) i })
