-- The metric of each OSPF route that a router of a stable routing holds has room in the bits of all.
use Rattle.std.proofs.Common.{◌≡◌, ◌+◌, ◌^◌, ◌<◌, ◌≤◌, ◌==◌, ◌&&◌, ◌||◌, inl, inr, ℕ, Bool, true, false, not}
use Rattle.std.proofs.Common.{List, [], ◌∷◌, ◌++◌, Option, Some, None, refl, subst, arith, max, map, pow_mono}
use Rattle.std.proofs.Common.{slice_get, nat_lt}
use Rattle.std.specs.Prelude.{All, IfSome, filter, fold, if◌then◌else◌, option_and_then, option_map, unwrap_or}
use Rattle.std.specs.List.{filter_map, flat_map, list_all}
use Rattle.std.specs.Option.{option_map_or, option_to_list}
use Rattle.std.proofs.lemmas.Bool.{lt-ltb, or_right}
use Rattle.std.proofs.lemmas.List.Elements.{All-append, All-cons, All-head, All-nil, All-tail, All-weaker}
use Rattle.mw_text.specs.Members.{In}
use Rattle.mw_text.specs.declared.address.Addr.{Addr}
use Rattle.mw_text.specs.declared.address.Prefix.{Prefix}
use Rattle.mw_text.specs.Address.{prefix_at, same_prefix}
use Rattle.mw_text.proofs.Lists.{all_found}
use Rattle.ios_ast.specs.declared.file.File.{File}
use Rattle.ios_ast.specs.declared.ospf.DefaultOrigin.{DefaultOrigin}
use Rattle.ios_ast.specs.declared.ospf.Ospf.{Ospf}
use Rattle.ios_ast.specs.declared.ospf.Redist.{Redist}
use Rattle.ios_ast.specs.declared.ospf.Source.{Source}
use Rattle.ios_ast.specs.declared.ospf.Source.TheVariants as source
use Rattle.ios_ast.specs.Deciding.{carries}
use Rattle.ios_ast.specs.Limits.{keeps_limits}
use Rattle.ios_ast.specs.Maps.{through_map}
use Rattle.ios_ast.specs.Setting.{Attributes}
use Rattle.route_record.specs.declared.BgpRec.{BgpRec}
use Rattle.route_record.specs.declared.Environment.{Environment}
use Rattle.route_record.specs.declared.Failures.{Failures}
use Rattle.route_record.specs.declared.OspfKind.{OspfKind}
use Rattle.route_record.specs.declared.OspfKind.TheVariants.{Internal, Ext1, Ext2}
use Rattle.route_record.specs.declared.OspfRec.{OspfRec}
use Rattle.route_record.specs.declared.RibEntry.{RibEntry}
use Rattle.route_record.specs.declared.Slot.{Slot}
use Rattle.route_record.specs.declared.Tables.{Tables}
use Rattle.route_record.specs.declared.TheConstants.{LENGTHS}
use Rattle.route_record.specs.Fits.{FitsOspf, FitsSlot}
use Rattle.route_record.specs.Places.{slot_at}
use Rattle.net_parts.specs.declared.ospf.OspfInterface.{OspfInterface}
use Rattle.net_parts.specs.Origins.{external_record, into_ospf, is_default, is_ospf_entry, is_taken, originated_default}
use Rattle.net_parts.specs.Origins.{ospf_metric, plain_route, redistributed, redistributed_route}
use Rattle.net_parts.specs.declared.adjacencies.Adjacency.{Adjacency}
use Rattle.net_parts.specs.Ospf.{adjacencies, advertisement, origin_interfaces, ospf_interfaces}
use Rattle.net_parts.specs.OspfRoutes.{own_origins}
use Rattle.net_parts.specs.Stable.{Stable}
use Rattle.net_parts.specs.World.{is_up}
use Rattle.net_parts.proofs.Costs.{adjacency_costs}
use Rattle.net_parts.proofs.LeastWalks.{contains-in}
use Rattle.bgp_shapes.proofs.LengthLaw.{if_then}
use Rattle.rebuilt_routes.proofs.Options.{if_true}
use Rattle.slot_places.specs.declared.fields.Field.{Field}
use Rattle.slot_places.specs.declared.fields.Field.TheVariants.{Addresses, Among, Bits}
use Rattle.slot_places.specs.Rooms.{dearest_interface, dearest_walk}
use Rattle.slot_places.specs.Supported.{AreOrigins}
use Rattle.slot_places.specs.Values.{FitsField, field_bits, greatest, once, width_for}
use Rattle.slot_places.proofs.Bounded.{cost_bound}
use Rattle.slot_places.proofs.Fitting.{all_below_dearest, below_greatest, folded-there}
use Rattle.slot_places.proofs.Supports.{all_held}
use Rattle.slot_places.proofs.Widths.{in_width}
use Rattle.held_values.specs.declared.numbers.HeldNumber.TheVariants.{Med}
use Rattle.held_values.specs.Values.{brought_by_file, brought_by_line, brought_by_process, dearest_brought}
use Rattle.held_values.specs.Values.{dearest_origin, ospf_bits, said_in_map, values_of}
use Rattle.held_values.proofs.Lines.{AreMapsOf, IsKnown, all_joined, all_left, all_right, maps_of, through_kept}
use Rattle.held_values.proofs.Routes.{HasKnownMetric, all_given_known, either_known, given_known, med_kept}

-- a number of 32 bits for which a field has room has room in its bits
pub bits_hold : (field : Field) (n : ℕ) → FitsField field n → n < 2 ^ 32 → n < 2 ^ field_bits field
bits_hold (Bits width) n fits small = fits
bits_hold (Among values) n fits small =
    in_width n (greatest values) 0 32 (below_greatest values 0 n (contains-in n values fits.0)) small
bits_hold (Addresses addresses) n fits small = omega (arith, small)

pub wider : (n narrow wide : ℕ) → narrow ≤ wide → n < 2 ^ narrow → n < 2 ^ wide
wider n narrow wide le fits = let top = pow_mono le in omega (arith, fits, top)

-- ---- what lines bring in

-- neither costs more nor has a greater metric
record IsBrought (most : ℕ) (o : OspfRec) : Type 0 where
  cost : o.cost ≤ most
  metric : o.metric ≤ most

external_brought : (most med : ℕ) (type1 : Bool) → med ≤ most → IsBrought most (external_record type1 med)
external_brought most med true few = record { cost = few; metric = omega arith }
external_brought most med false few = record { cost = omega arith; metric = few }

originates : (most : ℕ) (xs : List OspfInterface) (own : OspfInterface → Bool) → All (λ x. x.cost ≤ most) xs →
    All (IsBrought most) (map (λ x. record { kind = Internal; metric = 0; cost = x.cost }) (filter own xs))
originates most [] own all = All-nil (IsBrought most)
originates most (x ∷ xs) own all =
    by (own x) (originates most xs own (All-tail (λ y. y.cost ≤ most) x xs all))
  where
    route : OspfInterface → OspfRec
    route y = record { kind = Internal; metric = 0; cost = y.cost }

    by : (b : Bool) → All (IsBrought most) (map route (filter own xs)) →
        All (IsBrought most) (map route (if b then x ∷ filter own xs else filter own xs))
    by true rest =
        All-cons (IsBrought most) (route x) (map route (filter own xs))
        (record { cost = All-head (λ y. y.cost ≤ most) x xs all; metric = omega arith }) rest
    by false rest = rest

-- all numbers of a list are at most the greatest of them, each once
all_below : (numbers : List ℕ) → All (λ n. n ≤ greatest (once numbers)) numbers
all_below numbers = by numbers (λ n there. below_greatest (once numbers) 0 n (folded-there numbers [] n there))
  where
    by : (xs : List ℕ) → ((n : ℕ) → In n xs → n ≤ greatest (once numbers)) →
        All (λ n. n ≤ greatest (once numbers)) xs
    by [] each = All-nil (λ n. n ≤ greatest (once numbers))
    by (x ∷ xs) each =
        All-cons (λ n. n ≤ greatest (once numbers)) x xs (each x (inl refl)) (by xs (λ n there. each n (inr there)))

module _ (files : List File) where
  abbrev IsFew : ℕ → Type 0
  IsFew n = n ≤ dearest_brought files

  file_few : (router : ℕ) (file : File) (process : Ospf) → slice_get files router ≡ Some file →
      file.ospf ≡ Some process → All IsFew (brought_by_process file process)
  file_few router file process there runs =
      subst (λ (o : Option Ospf). All IsFew (option_map_or (brought_by_process file) o [])) runs
      (all_found (λ (f : File). All IsFew (brought_by_file f)) files router file
      (all_joined IsFew brought_by_file files (all_below (flat_map brought_by_file files))) there)

  -- the route that a line brings in has such a metric, also once its map has set it
  line_few : (line : Redist) (slot : Slot) → All IsFew (brought_by_line line) →
      IfSome (redistributed_route line slot) (λ r. IsFew r.med)
  line_few line slot all = by line.source
    where
      one : IsFew 1
      one = All-head IsFew 1 (20 ∷ option_to_list line.metric) all

      others : All IsFew (20 ∷ option_to_list line.metric)
      others = All-tail IsFew 1 (20 ∷ option_to_list line.metric) all

      own : (o : Option ℕ) → All IsFew (option_to_list o) → IfSome o IsFew
      own None said = tt
      own (Some n) said = All-head IsFew n [] said

      said : IfSome line.metric IsFew
      said = own line.metric (All-tail IsFew 20 (option_to_list line.metric) others)

      plain : (n : ℕ) → IsFew n → IsFew (unwrap_or line.metric n)
      plain n few = either_known IsFew line.metric n said few

      of_bgp : (o : Option BgpRec) → IfSome (option_map (λ (held : BgpRec).
          record (plain_route line 1) { path = held.path; communities = held.communities }) o) (λ r. IsFew r.med)
      of_bgp None = tt
      of_bgp (Some held) = plain 1 one

      by : (s : Source) → IfSome (redistributed_route (record line { source = s }) slot) (λ r. IsFew r.med)
      by source.Connected = plain 20 (All-head IsFew 20 (option_to_list line.metric) others)
      by source.Static = plain 20 (All-head IsFew 20 (option_to_list line.metric) others)
      by (source.Bgp asn) = of_bgp slot.bgp
      by (source.Ospf process) = tt

  abbrev most : ℕ
  most = dearest_origin files

  few_most : (n : ℕ) → IsFew n → n ≤ most
  few_most n few = omega (arith, few)

  into_brought : (file : File) → AreMapsOf Med IsFew file.policies.maps → (p : Prefix) (slot : Slot) (line : Redist) →
      All IsFew (brought_by_line line) → IfSome (into_ospf file p slot line) (IsBrought most)
  into_brought file maps p slot line all =
      if_then (IsBrought most) _ (λ (entry : RibEntry). if_true (IsBrought most) (is_taken line p entry.source) _
      (λ takes. made (option_and_then (through_map file.policies line.map p false) (redistributed_route line slot))
      (given_known (λ (r : Attributes). IsFew r.med) (through_map file.policies line.map p false)
      (λ (r : Attributes). IsFew r.med)
      (λ r few. through_kept Med IsFew (λ s. IsFew s.med) false (λ s act said h. med_kept IsFew false s act said h)
      file maps line.map p r few) (redistributed_route line slot) (line_few line slot all)))) slot.rib
    where
      made : (o : Option Attributes) → IfSome o (λ r. IsFew r.med) →
          IfSome (option_map (λ (r : Attributes). external_record r.type1 r.med) o) (IsBrought most)
      made None few = tt
      made (Some r) few = external_brought most r.med r.type1 (few_most r.med few)

  default_brought : (p : Prefix) (slot : Slot) (o : Option DefaultOrigin) →
      All IsFew (option_to_list (option_map (λ (line : DefaultOrigin). line.metric) o)) →
      All (IsBrought most) (option_to_list (option_and_then (originated_default p slot) o))
  default_brought p slot None all = All-nil (IsBrought most)
  default_brought p slot (Some line) all =
      by (is_default p && (line.always || option_map_or (λ (entry : RibEntry). not (is_ospf_entry entry.source)) slot.rib
      false))
    where
      by : (b : Bool) → All (IsBrought most) (option_to_list
          (if b then Some (external_record line.type1 line.metric) else None))
      by true =
          All-cons (IsBrought most) (external_record line.type1 line.metric) []
          (external_brought most line.metric line.type1 (few_most line.metric (All-head IsFew line.metric [] all)))
          (All-nil (IsBrought most))
      by false = All-nil (IsBrought most)

  all_brought : (failures : Failures) (tables : Tables) (p : Prefix) → AreOrigins files failures tables p (IsBrought most)
  unfolding own_origins redistributed
  all_brought failures tables p router file process slot there runs here =
      All-append (IsBrought most)
      (map (λ (x : OspfInterface). record { kind = Internal; metric = 0; cost = x.cost })
      (origin_interfaces files failures router p))
      (filter_map (into_ospf file p slot) process.redistribute
      ++ option_to_list (option_and_then (originated_default p slot) process.default))
      (originates most (ospf_interfaces files)
      (λ x. (x.at.id.router == router) && (same_prefix (advertisement x) p && is_up files failures x.at))
      (All-weaker (λ (x : OspfInterface). x.cost ≤ dearest_interface files) (λ (x : OspfInterface). x.cost ≤ most)
      (λ x few. omega (arith, few)) (ospf_interfaces files) (all_below_dearest (λ (x : OspfInterface). x.cost) (ospf_interfaces files))))
      (All-append (IsBrought most) (filter_map (into_ospf file p slot) process.redistribute)
      (option_to_list (option_and_then (originated_default p slot) process.default))
      (all_given_known (IsBrought most) (λ (line : Redist). All IsFew (brought_by_line line)) (into_ospf file p slot)
      (into_brought file (maps_of Med IsFew file.policies.maps maps) p slot) process.redistribute
      (all_joined IsFew brought_by_line process.redistribute
      (all_left IsFew (flat_map brought_by_line process.redistribute) (default ++ said) all)))
      (default_brought p slot process.default (all_left IsFew default said behind)))
    where
      default : List ℕ
      default = option_to_list (option_map (λ (line : DefaultOrigin). line.metric) process.default)

      said : List ℕ
      said = flat_map (said_in_map Med) file.policies.maps

      all : All IsFew (brought_by_process file process)
      all = file_few router file process there runs

      behind : All IsFew (default ++ said)
      behind = all_right IsFew (flat_map brought_by_line process.redistribute) (default ++ said) all

      maps : All IsFew said
      maps = all_right IsFew default said behind

-- ---- what is held

module _ (files : List File) (d : Addr) (failures : Failures) (environment : Environment) (tables : Tables)
    (stable : Stable files d failures environment tables) (limits : list_all keeps_limits files ≡ true) (len : ℕ)
    (short : len < LENGTHS) (router : ℕ) (slot : Slot) (here : slot_at tables router len ≡ Some slot) where
  abbrev bound : ℕ
  bound = dearest_origin files + dearest_walk files

  costs : All (λ a. 0 < a.cost) (adjacencies files)
  costs =
      All-weaker (λ a. (0 < a.cost) × (a.cost ≤ 65535)) (λ a. 0 < a.cost) (λ a both. both.0) (adjacencies files)
      (adjacency_costs files limits)

  weaker : (P : OspfRec → Type 0) → ((o : OspfRec) → IsBrought (dearest_origin files) o → P o) →
      AreOrigins files failures tables (prefix_at d len) P
  weaker P each router' file process slot' at runs there =
      All-weaker (IsBrought (dearest_origin files)) P each
      (own_origins files failures router' file process (prefix_at d len) slot')
      (all_brought files failures tables (prefix_at d len) router' file process slot' at runs there)

  held_few : (r : OspfRec) → slot.ospf ≡ Some r → ospf_metric r ≤ bound
  held_few r holds = by r.kind
    where
      cost : r.cost ≤ bound
      cost =
          cost_bound files d failures environment tables len (dearest_origin files)
          (fold (λ m a. max m a.cost) 0 (adjacencies files)) stable short costs
          (all_below_dearest (λ (a : Adjacency). a.cost) (adjacencies files))
          (weaker (λ o. o.cost ≤ dearest_origin files) (λ o is. is.cost)) router slot r here holds

      origin : r.metric ≤ dearest_origin files
      origin =
          all_held files d failures environment tables len (λ o. o.metric ≤ dearest_origin files) stable short costs
          (λ o cost few. few) (weaker (λ o. o.metric ≤ dearest_origin files) (λ o is. is.metric)) router slot r here holds

      by : (kind : OspfKind) → ospf_metric (record r { kind = kind }) ≤ bound
      by Internal = cost
      by Ext1 = cost
      by Ext2 = omega (arith, origin)

  small : (r : OspfRec) → FitsOspf r → ospf_metric r < 2 ^ 32
  small r fits = by r.kind
    where
      by : (kind : OspfKind) → ospf_metric (record r { kind = kind }) < 2 ^ 32
      by Internal = fits.cost
      by Ext1 = fits.cost
      by Ext2 = fits.metric

  known : (r : OspfRec) → slot.ospf ≡ Some r → FitsOspf r → IsKnown Med files (ospf_metric r)
  unfolding ospf_bits
  known r holds fits =
      or_right (carries (values_of Med files) (ospf_metric r)) (nat_lt (ospf_metric r) (2 ^ width_for bound))
      (lt-ltb (ospf_metric r) (2 ^ width_for bound)
      (in_width (ospf_metric r) bound 0 32 (held_few r holds) (small r fits)))

  -- the metric of what a slot of a stable routing holds is known
  pub slot_metric : HasKnownMetric files slot
  slot_metric = by slot.ospf refl (all_found FitsSlot tables.slots _ slot stable.fits here).ospf
    where
      by : (o : Option OspfRec) → slot.ospf ≡ o → IfSome o FitsOspf → IfSome o (λ r. IsKnown Med files (ospf_metric r))
      by None holds fits = tt
      by (Some r) holds fits = known r holds fits
