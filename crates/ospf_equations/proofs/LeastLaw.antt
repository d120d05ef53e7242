-- Where the routes of some tables are those that the routers hold, no internal one costs less than is said where what is
-- said rises over no adjacency by more than the link costs: by the cost, since each is made of a cheaper one.
use Rattle.std.proofs.Common.{◌≡◌, ℕ, zero, suc, ◌+◌, ◌*◌, ◌<◌, ◌≤◌, Bool, true, false, ◌&&◌, ◌||◌, not, List, [], ◌∷◌}
use Rattle.std.proofs.Common.{length, map, Option, Some, None, inl, inr, refl, sym, ap, subst, arith, ◌∙◌, nat_lt}
use Rattle.std.specs.Prelude.{◌==◌, ◌⊎◌, All, option_and_then, option_map, if◌then◌else◌}
use Rattle.std.specs.List.{filter_map, list_all}
use Rattle.std.specs.Option.{option_map_or, option_to_list}
use Rattle.std.proofs.lemmas.Bool.{and_parts, eqb-true, le-ltb}
use Rattle.std.proofs.lemmas.Bool.Decides.{nat_tests}
use Rattle.std.proofs.lemmas.Option.{option_and_then_some, same_Some}
use Rattle.mw_text.specs.declared.address.Addr.{Addr}
use Rattle.mw_text.specs.declared.address.Prefix.{Prefix}
use Rattle.mw_text.specs.Address.{prefix_at, same_prefix}
use Rattle.mw_text.specs.Members.{In}
use Rattle.ios_ast.specs.declared.file.File.{File}
use Rattle.ios_ast.specs.declared.ospf.DefaultOrigin.{DefaultOrigin}
use Rattle.ios_ast.specs.declared.ospf.Ospf.{Ospf}
use Rattle.ios_ast.specs.declared.ospf.Redist.{Redist}
use Rattle.route_record.specs.declared.Failures.{Failures}
use Rattle.route_record.specs.declared.OspfKind.TheVariants.{Internal}
use Rattle.route_record.specs.declared.OspfRec.{OspfRec}
use Rattle.route_record.specs.declared.RibEntry.{RibEntry}
use Rattle.route_record.specs.declared.Slot.{Slot}
use Rattle.route_record.specs.declared.Tables.{Tables}
use Rattle.route_record.specs.declared.TheConstants.{LENGTHS}
use Rattle.route_record.specs.Places.{slot_at}
use Rattle.net_parts.specs.declared.ospf.OspfInterface.{OspfInterface}
use Rattle.net_parts.specs.Origins.{external_record, into_ospf, is_default, is_ospf_entry, is_taken, originated_default}
use Rattle.net_parts.specs.Origins.{redistributed, redistributed_route}
use Rattle.net_parts.specs.Ospf.{adjacencies, advertisement, is_adjacency_up, origin_interfaces, ospf_interfaces}
use Rattle.net_parts.specs.OspfRoutes.{own_origins}
use Rattle.net_parts.specs.World.{is_up}
use Rattle.net_parts.proofs.LeastWalks.{in-cases, in-filter, in-filter_map, in-map}
use Rattle.ios_ast.specs.Maps.{through_map}
use Rattle.ios_ast.specs.Setting.{Attributes}
use Rattle.slot_places.proofs.Supports.{IsOffered, IsOrigin}
use Rattle.sym_ospf.specs.Rows.{is_internal}
use Rattle.sym_ospf.proofs.EquationTests.{all_from}
use Rattle.ospf_equations.specs.Least.{begins_at, holds_cheaper, is_cheaper, least_of, none_cheaper, rises_over}
use Rattle.ospf_equations.specs.Reached.{AreHeld}
use Rattle.ospf_equations.proofs.ReachedLaw.{Holds, cost_is, far_holds, supports_it}

-- what is true of all is true of each
passes : {X : Type 0} (test : X → Bool) (xs : List X) (x : X) → list_all test xs ≡ true → In x xs → test x ≡ true
passes test [] x all none = absurd none
passes test (y ∷ ys) x all (inl same) = ap test same ∙ (and_parts (test y) (list_all test ys) all).0
passes test (y ∷ ys) x all (inr later) = passes test ys x (and_parts (test y) (list_all test ys) all).1 later

at_most : (a b : ℕ) → not (nat_lt a b) ≡ true → b ≤ a
at_most a b is = grind (arith, nat_tests)

-- ---- what is taken from a router's own table is external

external : (type1 : Bool) (metric : ℕ) → is_internal (external_record type1 metric).kind ≡ false
external true metric = refl
external false metric = refl

module _ (file : File) (p : Prefix) (slot : Slot) (h : OspfRec) where
  by_line : (line : Redist) → into_ospf file p slot line ≡ Some h → is_internal h.kind ≡ false
  by_line line is =
      option_and_then_some (λ (entry : RibEntry). if is_taken line p entry.source
      then option_map (λ (r : Attributes). external_record r.type1 r.med)
      (option_and_then (through_map file.policies line.map p false) (redistributed_route line slot)) else None) slot.rib h
      is (λ entry here taken. by (is_taken line p entry.source)
      (option_and_then (through_map file.policies line.map p false) (redistributed_route line slot)) taken)
    where
      by : (b : Bool) (o : Option Attributes) →
          (if b then option_map (λ (r : Attributes). external_record r.type1 r.med) o else None) ≡ Some h →
          is_internal h.kind ≡ false
      by true None none = cc
      by true (Some r) some =
          ap (λ (o : OspfRec). is_internal o.kind) (sym (same_Some (external_record r.type1 r.med) h some))
          ∙ external r.type1 r.med
      by false o none = cc

  by_default : (line : Option DefaultOrigin) →
      In h (option_to_list (option_and_then (originated_default p slot) line)) → is_internal h.kind ≡ false
  by_default None there = absurd there
  by_default (Some line) there =
      by (is_default p && (line.always
      || option_map_or (λ (entry : RibEntry). not (is_ospf_entry entry.source)) slot.rib false)) there
    where
      by : (b : Bool) → In h (option_to_list (if b then Some (external_record line.type1 line.metric) else None)) →
          is_internal h.kind ≡ false
      by true (inl same) = ap (λ (o : OspfRec). is_internal o.kind) same ∙ external line.type1 line.metric
      by true (inr none) = absurd none
      by false none = absurd none

  taken_external : (process : Ospf) → In h (redistributed file process p slot) → is_internal h.kind ≡ false
  unfolding redistributed
  taken_external process there = by (in-cases h (filter_map (into_ospf file p slot) process.redistribute) _ there) where
    by : In h (filter_map (into_ospf file p slot) process.redistribute)
        ⊎ In h (option_to_list (option_and_then (originated_default p slot) process.default)) →
        is_internal h.kind ≡ false
    by (inl line) =
        let found = in-filter_map (into_ospf file p slot) process.redistribute h line in by_line found.0 found.2
    by (inr default) = by_default process.default default

module _ (files : List File) (failures : Failures) (tables : Tables) (d : Addr) (len : ℕ)
    (size : length tables.slots ≡ LENGTHS * length files) (short : len < LENGTHS)
    (costs : All (λ a. 0 < a.cost) (adjacencies files)) (held : AreHeld files failures tables (prefix_at d len))
    (least : List ℕ) (rise : list_all (rises_over least) (adjacencies files) ≡ true)
    (begin : list_all (begins_at least (prefix_at d len)) (ospf_interfaces files) ≡ true) where
  abbrev p : Prefix
  p = prefix_at d len

  abbrev HoldsIt : ℕ → OspfRec → Type 0
  HoldsIt = Holds files failures tables p size short costs held

  by_interface : (router : ℕ) (x : OspfInterface) → In x (origin_interfaces files failures router p) →
      least_of least router ≤ x.cost
  by_interface router x there =
      let found = in-filter _ (ospf_interfaces files) x there in
      let own = and_parts (x.at.id.router == router) _ found.1 in
      let second = and_parts (same_prefix (advertisement x) p) (is_up files failures x.at) own.1 in
      let test : (not (same_prefix (advertisement x) p)
      || not (nat_lt x.cost (least_of least x.at.id.router))) ≡ true =
      passes (begins_at least p) (ospf_interfaces files) x begin found.0 in
      let more : not (nat_lt x.cost (least_of least x.at.id.router)) ≡ true =
      ap (λ b. not b || not (nat_lt x.cost (least_of least x.at.id.router))) (sym second.0) ∙ test in
      subst (λ r. least_of least r ≤ x.cost) (eqb-true x.at.id.router router own.0)
      (at_most x.cost (least_of least x.at.id.router) more)

  from_origin : (router : ℕ) (slot : Slot) (h : OspfRec) → is_internal h.kind ≡ true →
      IsOrigin files failures p router slot h → least_of least router ≤ h.cost
  unfolding own_origins
  from_origin router slot h internal own =
      by (in-cases h (map (λ (x : OspfInterface). record { kind = Internal; metric = 0; cost = x.cost })
      (origin_interfaces files failures router p)) _ own.there)
    where
      by : In h (map (λ (x : OspfInterface). record { kind = Internal; metric = 0; cost = x.cost })
          (origin_interfaces files failures router p)) ⊎ In h (redistributed own.file own.process p slot) →
          least_of least router ≤ h.cost
      by (inl made) =
          let found = in-map (λ (x : OspfInterface). record { kind = Internal; metric = 0; cost = x.cost })
          (origin_interfaces files failures router p) h made in
          let cost : h.cost ≡ found.0.cost = ap (λ (o : OspfRec). o.cost) found.2 in
          subst (λ n. least_of least router ≤ n) (sym cost) (by_interface router found.0 found.1)
      by (inr taken) =
          let none : true ≡ false = sym internal ∙ taken_external own.file p slot h own.process taken in absurd cc

  -- each route that costs less than that is dear enough
  abbrev Below : ℕ → Type 0
  Below most = (router : ℕ) (h : OspfRec) → HoldsIt router h → h.cost < most → least_of least router ≤ h.cost

  from_far : (most router : ℕ) (h : OspfRec) → HoldsIt router h → h.cost < suc most → Below most →
      IsOffered files failures router tables len h → least_of least router ≤ h.cost
  from_far most router h is below deeper other =
      let less = cost_is files failures tables p size short costs held router h other in
      let before : least_of least other.over.to.router ≤ other.held.cost = deeper other.over.to.router other.held
      (far_holds files failures tables p size short costs held router h is.internal other) (omega (arith, below, less)) in
      let cost : h.cost ≡ other.held.cost + other.over.cost = ap (λ (r : OspfRec). r.cost) other.is in
      let near : other.over.from.router ≡ router =
      eqb-true _ _ (and_parts (other.over.from.router == router) (is_adjacency_up files failures other.over) other.up).0 in
      let over : least_of least other.over.from.router ≤ least_of least other.over.to.router + other.over.cost =
      at_most _ _ (passes (rises_over least) (adjacencies files) other.over rise other.there) in
      subst (λ r. least_of least r ≤ h.cost) near (omega (arith, before, cost, over))

  dear : (most : ℕ) → Below most
  dear zero = λ router h is below. absurd (omega (arith, below))
  dear (suc most) = λ router h is below. by router h is below (dear most)
      (supports_it files failures tables p size short costs held router h is)
    where
      by : (router : ℕ) (h : OspfRec) (is : HoldsIt router h) → h.cost < suc most → Below most →
          IsOrigin files failures p router is.slot h ⊎ IsOffered files failures router tables len h →
          least_of least router ≤ h.cost
      by router h is below deeper (inl own) = from_origin router is.slot h is.internal own
      by router h is below deeper (inr other) = from_far most router h is below deeper other

  not_cheaper : (router : ℕ) → not (holds_cheaper tables p (least_of least router) router) ≡ true
  not_cheaper router = by_slot (slot_at tables router len) refl where
    by_kind : (slot : Slot) (h : OspfRec) → slot_at tables router len ≡ Some slot → slot.ospf ≡ Some h → (b : Bool) →
        is_internal h.kind ≡ b → not (b && nat_lt h.cost (least_of least router)) ≡ true
    by_kind slot h here holds true internal =
        let enough = dear (suc h.cost) router h
        (record { slot = slot; here = here; holds = holds; internal = internal }) (omega arith) in
        ap not (le-ltb h.cost (least_of least router) enough)
    by_kind slot h here holds false external = refl

    by_route : (slot : Slot) (o : Option OspfRec) → slot_at tables router len ≡ Some slot → slot.ospf ≡ o →
        not (is_cheaper (least_of least router) o) ≡ true
    by_route slot None here none = refl
    by_route slot (Some h) here holds = by_kind slot h here holds (is_internal h.kind) refl

    by_slot : (o : Option Slot) → slot_at tables router len ≡ o →
        not (option_map_or (λ (slot : Slot). is_cheaper (least_of least router) slot.ospf) o false) ≡ true
    by_slot None none = refl
    by_slot (Some slot) here = by_route slot slot.ospf here refl

  pub least_kept : none_cheaper tables p least (length files) ≡ true
  least_kept = all_from _ (length files) (λ router below. not_cheaper router)
