-- All that a router originates into OSPF in a stable routing is known from the lines of the files.
use Rattle.std.proofs.Common.{◌≡◌, ℕ, ◌<◌, Bool, true, false, not, ◌&&◌, ◌||◌, List, [], ◌∷◌, ◌++◌, map, Option, Some}
use Rattle.std.proofs.Common.{None, inl, inr, refl, sym, ap, subst, ◌∙◌, slice_get}
use Rattle.std.specs.Prelude.{◌⊎◌, ◌==◌, IfSome, MatchOption, is_some, option_and_then, option_map, if◌then◌else◌}
use Rattle.std.specs.List.{filter_map, flat_map}
use Rattle.std.specs.Option.{option_map_or, option_to_list}
use Rattle.std.proofs.lemmas.Bool.{and_from, and_parts, eqb-true}
use Rattle.mw_text.specs.Members.{In}
use Rattle.mw_text.specs.declared.address.Addr.{Addr}
use Rattle.mw_text.specs.declared.address.Prefix.{Prefix}
use Rattle.mw_text.specs.Address.{covers, prefix_at, same_prefix}
use Rattle.ios_ast.specs.declared.bgp.Bgp.{Bgp}
use Rattle.ios_ast.specs.declared.file.File.{File}
use Rattle.ios_ast.specs.declared.file.StaticRoute.{StaticRoute}
use Rattle.ios_ast.specs.declared.ospf.DefaultOrigin.{DefaultOrigin}
use Rattle.ios_ast.specs.declared.ospf.Ospf.{Ospf}
use Rattle.ios_ast.specs.declared.ospf.Redist.{Redist}
use Rattle.route_record.specs.declared.BgpRec.{BgpRec}
use Rattle.route_record.specs.declared.Environment.{Environment}
use Rattle.route_record.specs.declared.Failures.{Failures}
use Rattle.route_record.specs.declared.OspfKind.TheVariants.{Internal}
use Rattle.route_record.specs.declared.OspfRec.{OspfRec}
use Rattle.route_record.specs.declared.RibEntry.{RibEntry}
use Rattle.route_record.specs.declared.RibSource.{RibSource}
use Rattle.route_record.specs.declared.RibSource.TheVariants.{Connected, Static, Ebgp, Ibgp, Ospf as OspfEntry}
use Rattle.route_record.specs.declared.Slot.{Slot}
use Rattle.route_record.specs.declared.Tables.{Tables}
use Rattle.route_record.specs.declared.TheConstants.{LENGTHS}
use Rattle.net_interfaces.specs.declared.interfaces.Addressed.{Addressed}
use Rattle.net_interfaces.specs.Interfaces.{addressed}
use Rattle.net_parts.specs.declared.ospf.OspfInterface.{OspfInterface}
use Rattle.net_parts.specs.Decisions.{DecidedByBgp}
use Rattle.net_parts.specs.Entries.{own_is_as_good}
use Rattle.net_parts.specs.Origins.{into_ospf, is_default, is_ospf_entry, originated_default, redistributed}
use Rattle.net_parts.specs.Ospf.{advertisement, origin_interfaces, ospf_interfaces}
use Rattle.net_parts.specs.OspfRoutes.{own_origins}
use Rattle.net_parts.specs.Routing.{counts, is_direct, static_routes, up_interfaces}
use Rattle.net_parts.specs.Stable.{Stable}
use Rattle.net_parts.specs.World.{is_up}
use Rattle.net_parts.proofs.LeastWalks.{in-cases, in-filter, in-filter_map, in-left, in-map, in-right}
use Rattle.net_model.proofs.OneSubnet.{one_prefix}
use Rattle.slot_places.specs.Origins.{advertised_by, by_file, by_process, default_of, default_record, is_static_at}
use Rattle.slot_places.specs.Origins.{is_subnet_at, meets, origins_at, slot_from, taken_from, taken_of_bgp}
use Rattle.slot_places.specs.Origins.{taken_of_bgp_lines, taken_of_static, taken_of_subnet}
use Rattle.slot_places.specs.Supported.{AreOrigins}
use Rattle.slot_places.proofs.Brought.{IsBacked, IsOfBgp, brought, by_entry, by_none, connected_again, entry_backed}
use Rattle.slot_places.proofs.Brought.{of_bgp, of_ibgp, of_ospf, static_again}
use Rattle.slot_places.proofs.Meeting.{meets-there}
use Rattle.slot_places.proofs.Members.{all-from-in, flat_map-in, in-any, in-place}

-- ---- connected subnets and static routes of a prefix of a destination

-- an interface of the router that is not shut down and has that subnet
pub record IsSubnet (files : List File) (destinations : Prefix) (router len : ℕ) (p : Prefix) : Type 0 where
  pub at : Addressed
  pub there : In at (addressed files)
  pub own : (at.id.router == router) ≡ true
  pub fits : is_subnet_at destinations len at ≡ true
  pub is : at.subnet ≡ p

pub subnet_there : (files : List File) (failures : Failures) (destinations : Prefix) (d : Addr) (router len : ℕ) →
    covers destinations d ≡ true → is_direct (up_interfaces files failures router) (prefix_at d len) ≡ true →
    IsSubnet files destinations router len (prefix_at d len)
subnet_there files failures destinations d router len covered direct =
    let found = in-any (λ (x : Addressed). same_prefix x.subnet (prefix_at d len)) (up_interfaces files failures router)
    direct in
    let x : Addressed = found.0 in
    let up = in-filter (λ (y : Addressed). (y.id.router == router) && is_up files failures y)
    (addressed files) x found.1 in
    let both = and_parts (x.id.router == router) (is_up files failures x) up.1 in
    record {
      at = x;
      there = up.0;
      own = both.0;
      fits = and_from _ _ (and_parts (not x.shutdown) _ both.1).0
          (meets-there x.subnet destinations d len found.2 covered);
      is = one_prefix x.subnet (prefix_at d len) found.2;
    }

-- a static route of the file to that prefix, whose distance is not 255
pub record IsStatic (destinations : Prefix) (len : ℕ) (file : File) (p : Prefix) : Type 0 where
  pub route : StaticRoute
  pub there : In route file.statics
  pub fits : is_static_at destinations len route ≡ true
  pub is : route.prefix ≡ p

pub static_there : (files : List File) (failures : Failures) (destinations : Prefix) (d : Addr) (router len : ℕ)
    (file : File) (route : StaticRoute) → covers destinations d ≡ true →
    In route (static_routes (up_interfaces files failures router) file.statics (prefix_at d len)) →
    IsStatic destinations len file (prefix_at d len)
static_there files failures destinations d router len file route covered there =
    let found = in-filter (λ (r : StaticRoute). same_prefix r.prefix (prefix_at d len)
    && counts (up_interfaces files failures router) r) file.statics route there in
    let both = and_parts (same_prefix route.prefix (prefix_at d len)) _ found.1 in
    record {
      route = route;
      there = found.0;
      fits = and_from _ _ (and_parts (not (route.distance == 255)) _ both.1).0
          (meets-there route.prefix destinations d len both.0 covered);
      is = one_prefix route.prefix (prefix_at d len) both.0;
    }

-- ---- of a slot whose entry rests on something, and which holds a BGP route only where BGP runs

module _ (files : List File) (destinations : Prefix) (d : Addr) (failures : Failures)
    (covered : covers destinations d ≡ true) (router len : ℕ) (file : File) (process : Ospf)
    (slot : Slot) (at : slice_get files router ≡ Some file) (runs : file.ospf ≡ Some process)
    (backed : IfSome slot.rib (λ entry. IsBacked files failures router file (prefix_at d len) slot entry.source))
    (runs_bgp : (held : BgpRec) → slot.bgp ≡ Some held → is_some file.bgp ≡ true) where
  abbrev p : Prefix
  p = prefix_at d len

  abbrev all : List OspfRec
  all = origins_at files destinations len

  -- ---- what is one of them

  abbrev by_interfaces : List OspfRec
  by_interfaces = flat_map (advertised_by destinations len) (ospf_interfaces files)

  abbrev by_subnets : List OspfRec
  by_subnets = flat_map (taken_of_subnet files destinations len) (addressed files)

  abbrev by_files : List OspfRec
  by_files = flat_map (by_file destinations len) files

  advertised_in : (o : OspfRec) → In o by_interfaces → In o all
  unfolding origins_at
  advertised_in o there = in-left o (by_interfaces ++ by_subnets) by_files (in-left o by_interfaces by_subnets there)

  subnets_in : (o : OspfRec) → In o by_subnets → In o all
  unfolding origins_at
  subnets_in o there = in-left o (by_interfaces ++ by_subnets) by_files (in-right o by_interfaces by_subnets there)

  file_in : (o : OspfRec) → In o (by_file destinations len file) → In o all
  unfolding origins_at
  file_in o there = in-right o (by_interfaces ++ by_subnets) by_files
      (flat_map-in (by_file destinations len) files file o (in-place files router file at) there)

  process_in : (o : OspfRec) → In o (by_process len file process) → In o all
  process_in o there = file_in o (in-right o _ _
      (subst (In o) (sym (ap (λ r. option_map_or (by_process len file) r []) runs)) there))

  -- ---- interfaces

  by_interface : (x : OspfInterface) → In x (origin_interfaces files failures router p) →
      In (record { kind = Internal; metric = 0; cost = x.cost }) all
  by_interface x there =
      let found = in-filter _ (ospf_interfaces files) x there in
      let second = (and_parts (x.at.id.router == router) _ found.1).1 in
      let both = and_parts (same_prefix (advertisement x) p) (is_up files failures x.at) second in
      let test : (not x.at.shutdown && meets destinations len (advertisement x)) ≡ true =
      and_from _ _ (and_parts (not x.at.shutdown) _ both.1).0
      (meets-there (advertisement x) destinations d len both.0 covered) in
      advertised_in (record { kind = Internal; metric = 0; cost = x.cost })
      (flat_map-in (advertised_by destinations len) (ospf_interfaces files) x
      (record { kind = Internal; metric = 0; cost = x.cost }) found.0
      (subst (In (record { kind = Internal; metric = 0; cost = x.cost }))
      (sym (ap (λ b. if b then record { kind = Internal; metric = 0; cost = x.cost } ∷ [] else []) test)) (inl refl)))

  -- ---- connected and static routes

  taken_is : (source : RibSource) (q : Prefix) → q ≡ p → taken_from source file q
      ≡ redistributed file process p (slot_from source)
  taken_is source q same =
      ap (taken_from source file) same
      ∙ ap (λ r. option_map_or (λ process'. redistributed file process' p (slot_from source)) r []) runs

  by_subnet : (o : OspfRec) → IsSubnet files destinations router len p →
      In o (redistributed file process p (slot_from Connected)) → In o all
  by_subnet o subnet there =
      let x : Addressed = subnet.at in
      let at_own : slice_get files x.id.router ≡ Some file =
      ap (slice_get files) (eqb-true x.id.router router subnet.own) ∙ at in
      let is : taken_of_subnet files destinations len x ≡ redistributed file process p (slot_from Connected) =
      ap (λ b. if b then option_map_or (λ f. taken_from Connected f x.subnet) (slice_get files x.id.router) [] else [])
      subnet.fits ∙ ap (λ f. option_map_or (λ f'. taken_from Connected f' x.subnet) f []) at_own
      ∙ taken_is Connected x.subnet subnet.is in
      subnets_in o (flat_map-in (taken_of_subnet files destinations len) (addressed files) x o subnet.there
      (subst (In o) (sym is) there))

  by_static : (o : OspfRec) → IsStatic destinations len file p →
      In o (redistributed file process p (slot_from Static)) → In o all
  by_static o static there =
      let is : taken_of_static destinations len file static.route ≡ redistributed file process p (slot_from Static) =
      ap (λ b. if b then taken_from Static file static.route.prefix else []) static.fits
      ∙ taken_is Static static.route.prefix static.is in
      file_in o (in-left o _ _ (flat_map-in (taken_of_static destinations len file) file.statics static.route o
      static.there (subst (In o) (sym is) there)))

  -- ---- BGP routes

  by_bgp : (line : Redist) (o : OspfRec) → In line process.redistribute → IsOfBgp file p slot line o → In o all
  by_bgp line o there bgp =
      let test : (is_some file.bgp && not (len == 0)) ≡ true =
      and_from _ _ (runs_bgp bgp.held bgp.holds) bgp.no_default in
      let is : taken_of_bgp_lines len file process ≡ flat_map (taken_of_bgp file) process.redistribute =
      ap (λ b. if b then flat_map (taken_of_bgp file) process.redistribute else []) test in
      process_in o (in-right o (default_of len process) _ (subst (In o) (sym is)
      (flat_map-in (taken_of_bgp file) process.redistribute line o there bgp.there)))

  -- ---- lines

  by_source : (source : RibSource) → IsBacked files failures router file p slot source → (line : Redist) (o : OspfRec) →
      In line process.redistribute → brought file p slot source line ≡ Some o → In o all
  by_source Connected backed line o there is =
      by_subnet o (subnet_there files failures destinations d router len covered backed)
      (connected_again file p slot process line o there is)
  by_source Static (route, among) line o there is =
      by_static o (static_there files failures destinations d router len file route covered among)
      (static_again file p slot process line o there is)
  by_source Ebgp backed line o there is = by_bgp line o there (of_bgp file p slot line o is)
  by_source OspfEntry backed line o there is =
      let none : brought file p slot OspfEntry line ≡ None = of_ospf file p slot line in absurd cc
  by_source Ibgp backed line o there is =
      let none : brought file p slot Ibgp line ≡ None = of_ibgp file p slot line in absurd cc

  by_line : (line : Redist) (o : OspfRec) → In line process.redistribute → into_ospf file p slot line ≡ Some o →
      In o all
  by_line line o there is = by slot.rib refl backed where
    Backs : RibEntry → Type 0
    Backs entry = IsBacked files failures router file p slot entry.source

    by : (r : Option RibEntry) → slot.rib ≡ r → IfSome slot.rib Backs → In o all
    by None none backed' =
        let nothing : into_ospf file p slot line ≡ None = by_none file p slot line none in absurd cc
    by (Some entry) some backed' =
        by_source entry.source (subst (λ r. IfSome r Backs) some backed') line o there
        (sym (by_entry file p slot entry line some) ∙ is)

  -- ---- the default route

  by_default : (o : OspfRec) → In o (option_to_list (option_and_then (originated_default p slot) process.default)) →
      In o all
  by_default o there = process_in o (in-left o _ _ (by process.default refl there)) where
    made : (line : DefaultOrigin) (b : Bool) → In o (option_to_list (if b then Some (default_record line) else None)) →
        (b ≡ true) × (o ≡ default_record line)
    made line true (inl same) = (refl, same)
    made line true (inr none) = absurd none
    made line false none = absurd none

    by : (line : Option DefaultOrigin) → process.default ≡ line →
        In o (option_to_list (option_and_then (originated_default p slot) line)) → In o (default_of len process)
    by None none there' = absurd there'
    by (Some line) some there' =
        let found = made line (is_default p && (line.always
        || option_map_or (λ (entry : RibEntry). not (is_ospf_entry entry.source)) slot.rib false)) there' in
        let zero_len : (len == 0) ≡ true = (and_parts (is_default p) _ found.0).0 in
        let is : default_of len process ≡ default_record line ∷ [] =
        ap (λ b. if b then option_to_list (option_map default_record process.default) else []) zero_len
        ∙ ap (λ l. option_to_list (option_map default_record l)) some in
        subst (In o) (sym is) (inl found.1)

  -- ---- all

  pub each_known : (o : OspfRec) → In o (own_origins files failures router file process p slot) → In o all
  unfolding own_origins redistributed
  each_known o there = by (in-cases o _ _ there) where
    by_lines : In o (filter_map (into_ospf file p slot) process.redistribute)
        ⊎ In o (option_to_list (option_and_then (originated_default p slot) process.default)) → In o all
    by_lines (inl lines) =
        let found = in-filter_map (into_ospf file p slot) process.redistribute o lines in
        by_line found.0 o found.1 found.2
    by_lines (inr default) = by_default o default

    by : In o (map (λ (x : OspfInterface). record { kind = Internal; metric = 0; cost = x.cost })
        (origin_interfaces files failures router p))
        ⊎ In o (filter_map (into_ospf file p slot) process.redistribute
        ++ option_to_list (option_and_then (originated_default p slot) process.default)) → In o all
    by (inl own) =
        let found = in-map (λ (x : OspfInterface). record { kind = Internal; metric = 0; cost = x.cost }) _ o own in
        subst (λ r. In r all) (sym found.2) (by_interface found.0 found.1)
    by (inr others) = by_lines (in-cases o _ _ others)

-- a router that holds a BGP route runs BGP
decided_runs : (files : List File) (failures : Failures) (environment : Environment) (tables : Tables) (router : ℕ)
    (file : File) (p : Prefix) (slot : Slot) (b : Option Bgp) (held : BgpRec) → MatchOption b (slot.bgp ≡ None)
    (λ bgp. DecidedByBgp files failures environment tables router file bgp p slot.bgp) → slot.bgp ≡ Some held →
    is_some b ≡ true
decided_runs files failures environment tables router file p slot None held none holds = absurd cc
decided_runs files failures environment tables router file p slot (Some bgp) held decided holds = refl

-- all that routers originate in a stable routing is among these
pub origins_known : (files : List File) (destinations : Prefix) (d : Addr) (failures : Failures)
    (environment : Environment) (tables : Tables) (len : ℕ) → covers destinations d ≡ true →
    Stable files d failures environment tables → len < LENGTHS →
    AreOrigins files failures tables (prefix_at d len) (λ o. In o (origins_at files destinations len))
origins_known files destinations d failures environment tables len covered stable short router file process slot at runs
    here =
    let slot_stable = stable.equations router len file slot at short here in
    all-from-in (λ o. In o (origins_at files destinations len)) _
    (each_known files destinations d failures covered router len file process slot at runs
    (subst (λ r. IfSome r (λ entry. IsBacked files failures router file (prefix_at d len) slot entry.source))
    (sym slot_stable.rib) (entry_backed files failures router file (prefix_at d len) slot
    (own_is_as_good files failures router file (prefix_at d len) slot)))
    (λ held holds. decided_runs files failures environment tables router file (prefix_at d len) slot file.bgp held
    slot_stable.bgp holds))
