-- What the tables want of the slot of a router that runs OSPF, in the routes that it originates and is offered.
use Rattle.std.proofs.Common.{◌≡◌, ℕ, Bool, true, false, ◌&&◌, not, List, [], ◌++◌, Option, Some, None, refl, sym, ap}
use Rattle.std.proofs.Common.{ap₂, ◌∙◌}
use Rattle.std.specs.Prelude.{filter, map, option_and_then}
use Rattle.std.specs.Bool.{beq}
use Rattle.std.specs.List.{filter_map, list_any}
use Rattle.std.specs.Option.{option_map_or}
use Rattle.mw_text.specs.declared.address.Addr.{Addr}
use Rattle.mw_text.specs.declared.address.Prefix.{Prefix}
use Rattle.mw_text.specs.Address.{prefix_at}
use Rattle.ios_ast.specs.declared.file.File.{File}
use Rattle.ios_ast.specs.declared.ospf.Ospf.{Ospf}
use Rattle.route_record.specs.declared.Failures.{Failures}
use Rattle.route_record.specs.declared.OspfRec.{OspfRec}
use Rattle.route_record.specs.declared.Slot.{Slot}
use Rattle.route_record.specs.declared.Tables.{Tables}
use Rattle.route_record.specs.Places.{slot_at}
use Rattle.net_parts.specs.declared.ospf.OspfInterface.{OspfInterface}
use Rattle.net_parts.specs.Origins.{redistributed}
use Rattle.net_parts.specs.Ospf.{adjacencies, ospf_interfaces, up_adjacencies}
use Rattle.net_parts.proofs.Heard.{held_by_offers}
use Rattle.net_parts.specs.OspfRoutes.{first_best, held_by_ospf, is_as_good, offer_over, own_origins}
use Rattle.term_store.specs.Terms.{differ}
use Rattle.sym_policy.specs.Held.{internal_route}
use Rattle.ospf_equations.specs.Equations.{offers_by, originates, origins_by}
use Rattle.net_parts.specs.Entries.{entry_with}
use Rattle.world_variables.specs.Slots.{has_dynamic, is_wanted, same_ospf}
use Rattle.world_variables.specs.declared.unknowns.Unknown.{Unknown}

pub some_same : {A : Type 0} (x y : A) → Some x ≡ Some y → x ≡ y
some_same x y same = cc

pub agree_is : (a b : Bool) → not (differ a b) ≡ beq a b
agree_is true true = refl
agree_is true false = refl
agree_is false true = refl
agree_is false false = refl

-- the held route is the first best of all, and the bit that of the entry, where an own origin is as good as one of the own
-- is
pub wanted_is : (files : List File) (failures : Failures) (d : Addr) (tables : Tables) (router len : ℕ) (u : Unknown)
    (slot : Slot) (file : File) (process : Ospf) → file.ospf ≡ Some process → slot_at tables router len ≡ Some slot →
    u.ospf ≡ slot.ospf → is_wanted files failures d tables router len u slot file
    ≡ (same_ospf u.ospf (first_best (own_origins files failures router file process (prefix_at d len) slot
    ++ offers_by files failures tables router (prefix_at d len) (adjacencies files)))
    && beq u.dynamic (has_dynamic (entry_with files failures router file (prefix_at d len) slot
    (option_map_or (λ h. list_any (λ o. is_as_good o h)
    (own_origins files failures router file process (prefix_at d len) slot)) u.ospf false))))
unfolding up_adjacencies offers_by
wanted_is files failures d tables router len u slot file process runs there same =
    ap₂ (λ a b. same_ospf u.ospf a && beq u.dynamic (has_dynamic b))
    (ap (λ o. option_and_then (λ q. held_by_ospf files failures tables router file q (prefix_at d len)) o) runs
    ∙ held_by_offers files failures tables router file process (prefix_at d len)
    ∙ ap (λ o. first_best (option_map_or (own_origins files failures router file process (prefix_at d len)) o []
    ++ filter_map (offer_over tables (prefix_at d len)) (up_adjacencies files failures router))) there)
    (ap (λ o. entry_with files failures router file (prefix_at d len) slot
    (option_map_or (λ h. option_map_or (λ q. list_any (λ r. is_as_good r h)
    (own_origins files failures router file q (prefix_at d len) slot)) o false) slot.ospf false)) runs
    ∙ ap (λ (o : Option OspfRec). entry_with files failures router file (prefix_at d len) slot (option_map_or (λ h. list_any
    (λ r. is_as_good r h) (own_origins files failures router file process (prefix_at d len) slot)) o false)) (sym same))

-- a router without OSPF holds no OSPF route, and its entry is made without one
pub closed_wanted : (files : List File) (failures : Failures) (d : Addr) (tables : Tables) (router len : ℕ)
    (u : Unknown) (slot : Slot) (file : File) → file.ospf ≡ None → (same_ospf u.ospf None && beq u.dynamic (has_dynamic
    (entry_with files failures router file (prefix_at d len) slot false)))
    ≡ is_wanted files failures d tables router len u slot file
closed_wanted files failures d tables router len u slot file none =
    ap₂ (λ o own. same_ospf u.ospf (option_and_then (λ q. held_by_ospf files failures tables router file q
    (prefix_at d len)) o) && beq u.dynamic (has_dynamic (entry_with files failures router file (prefix_at d len) slot own)))
    (sym none) (no_own slot.ospf)
  where
    no_own : (o : Option OspfRec) → false ≡ option_map_or (λ h. option_map_or (λ q. list_any (λ r. is_as_good r h)
        (own_origins files failures router file q (prefix_at d len) slot)) file.ospf false) o false
    no_own None = refl
    no_own (Some h) = sym (ap (λ o. option_map_or (λ q. list_any (λ r. is_as_good r h)
        (own_origins files failures router file q (prefix_at d len) slot)) o false) none)

-- the own origins are those by interfaces, and what the process takes from the router's own table
pub own_is : (files : List File) (failures : Failures) (router : ℕ) (file : File) (process : Ospf) (p : Prefix)
    (slot : Slot) (taken : List OspfRec) → taken ≡ redistributed file process p slot →
    origins_by files failures router p (ospf_interfaces files) ++ taken
    ≡ own_origins files failures router file process p slot
unfolding own_origins origins_by
own_is files failures router file process p slot taken same =
    ap (λ rs. map (λ (x : OspfInterface). internal_route x.cost)
    (filter (originates files failures router p) (ospf_interfaces files)) ++ rs) same
