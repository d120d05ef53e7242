-- What a router takes from its own table into OSPF, by the source of its entry; and on what an entry rests.
use Rattle.std.proofs.Common.{◌≡◌, ℕ, Bool, true, false, not, List, [], ◌∷◌, map, filter, Option, Some, None}
use Rattle.std.proofs.Common.{inl, refl, sym, ap, subst, ◌∙◌, nat_lt}
use Rattle.std.specs.Prelude.{All, IfSome, fold, is_some, option_and_then, option_map, if◌then◌else◌}
use Rattle.std.specs.Option.{option_map_or, option_to_list}
use Rattle.std.proofs.lemmas.Bool.{and_parts}
use Rattle.std.proofs.lemmas.List.Elements.{All-append, All-cons, All-head, All-map, All-nil, All-tail}
use Rattle.std.proofs.lemmas.Option.{option_and_then_some, same_Some}
use Rattle.mw_text.specs.Members.{In}
use Rattle.mw_text.specs.declared.address.Prefix.{Prefix}
use Rattle.ios_ast.specs.declared.file.File.{File}
use Rattle.ios_ast.specs.declared.file.StaticRoute.{StaticRoute}
use Rattle.ios_ast.specs.declared.file.Use.{Use}
use Rattle.ios_ast.specs.declared.ospf.Ospf.{Ospf}
use Rattle.ios_ast.specs.declared.ospf.Redist.{Redist}
use Rattle.ios_ast.specs.declared.ospf.Source.{Source}
use Rattle.ios_ast.specs.declared.ospf.Source.TheVariants as source
use Rattle.ios_ast.specs.declared.policies.MapEntry.{MapEntry}
use Rattle.ios_ast.specs.declared.policies.SetAct.{SetAct}
use Rattle.ios_ast.specs.declared.policies.SetAct.TheVariants.{LocalPref, Metric, Weight, NoCommunity, Community}
use Rattle.ios_ast.specs.declared.policies.SetAct.TheVariants.{Origin, Prepend, Type1}
use Rattle.ios_ast.specs.Maps.{deciding, entries_named, route_taken, through_map}
use Rattle.ios_ast.specs.Setting.{Attributes, set_all, set_one}
use Rattle.route_record.specs.declared.BgpRec.{BgpRec}
use Rattle.route_record.specs.declared.Failures.{Failures}
use Rattle.route_record.specs.declared.OspfRec.{OspfRec}
use Rattle.route_record.specs.declared.RibEntry.{RibEntry}
use Rattle.route_record.specs.declared.RibSource.{RibSource}
use Rattle.route_record.specs.declared.RibSource.TheVariants.{Connected, Static, Ebgp, Ibgp, Ospf as OspfEntry}
use Rattle.route_record.specs.declared.Slot.{Slot}
use Rattle.net_interfaces.proofs.Members.{filter-in, in-find}
use Rattle.net_parts.specs.declared.sessions.SessionEnd.{SessionEnd}
use Rattle.net_parts.specs.Entries.{bgp_entry, entry_with, ospf_entry}
use Rattle.net_parts.specs.Exports.{learnt_over}
use Rattle.net_parts.specs.Origins.{external_record, into_ospf, is_default, is_taken, plain_route, redistributed}
use Rattle.net_parts.specs.Origins.{redistributed_route}
use Rattle.net_parts.specs.Routing.{closer, is_direct, static_routes, up_interfaces}
use Rattle.net_parts.proofs.LeastWalks.{filter_map-in, in-left}
use Rattle.slot_places.specs.Origins.{external_after, metric_after, slot_from, taken_of_bgp, type1_after}
use Rattle.slot_places.proofs.Members.{all-from-in, map-in, ordered-in}

-- ---- what a line takes of an entry from that source

abbrev pub brought : File → Prefix → Slot → RibSource → Redist → Option OspfRec
brought file p slot source line =
    if is_taken line p source
    then option_map (λ r. external_record r.type1 r.med)
    (option_and_then (through_map file.policies line.map p false) (redistributed_route line slot))
    else None

module _ (file : File) (p : Prefix) (slot : Slot) where
  pub by_entry : (entry : RibEntry) (line : Redist) → slot.rib ≡ Some entry →
      into_ospf file p slot line ≡ brought file p slot entry.source line
  by_entry entry line is = ap (option_and_then (λ (e : RibEntry). brought file p slot e.source line)) is

  pub by_none : (line : Redist) → slot.rib ≡ None → into_ospf file p slot line ≡ None
  by_none line is = ap (option_and_then (λ (e : RibEntry). brought file p slot e.source line)) is

  -- of a connected or static entry it is the same whatever else stands in the slot
  of_connected : (other : Slot) (line : Redist) →
      brought file p slot Connected line ≡ brought file p other Connected line
  of_connected other line = by line.source where
    by : (s : Source) → brought file p slot Connected (record line { source = s })
        ≡ brought file p other Connected (record line { source = s })
    by source.Connected = refl
    by source.Static = refl
    by (source.Bgp asn) = refl
    by (source.Ospf process) = refl

  of_static : (other : Slot) (line : Redist) → brought file p slot Static line ≡ brought file p other Static line
  of_static other line = by line.source where
    by : (s : Source) → brought file p slot Static (record line { source = s })
        ≡ brought file p other Static (record line { source = s })
    by source.Connected = refl
    by source.Static = refl
    by (source.Bgp asn) = refl
    by (source.Ospf process) = refl

  -- of an entry of OSPF or internal BGP nothing is taken
  pub of_ospf : (line : Redist) → brought file p slot OspfEntry line ≡ None
  of_ospf line = by line.source where
    by : (s : Source) → brought file p slot OspfEntry (record line { source = s }) ≡ None
    by source.Connected = refl
    by source.Static = refl
    by (source.Bgp asn) = refl
    by (source.Ospf process) = refl

  pub of_ibgp : (line : Redist) → brought file p slot Ibgp line ≡ None
  of_ibgp line = by line.source where
    by : (s : Source) → brought file p slot Ibgp (record line { source = s }) ≡ None
    by source.Connected = refl
    by source.Static = refl
    by (source.Bgp asn) = refl
    by (source.Ospf process) = refl

  -- what lines take of a connected or static entry they take of a slot that has such an entry alone
  pub connected_again : (process : Ospf) (line : Redist) (o : OspfRec) → In line process.redistribute →
      brought file p slot Connected line ≡ Some o → In o (redistributed file process p (slot_from Connected))
  unfolding redistributed
  connected_again process line o there is =
      in-left o _ _ (filter_map-in (into_ospf file p (slot_from Connected)) process.redistribute line o there
      (sym (of_connected (slot_from Connected) line) ∙ is))

  pub static_again : (process : Ospf) (line : Redist) (o : OspfRec) → In line process.redistribute →
      brought file p slot Static line ≡ Some o → In o (redistributed file process p (slot_from Static))
  unfolding redistributed
  static_again process line o there is =
      in-left o _ _ (filter_map-in (into_ospf file p (slot_from Static)) process.redistribute line o there
      (sym (of_static (slot_from Static) line) ∙ is))

-- ---- what set lines leave of a metric and a type

med_one : (r : Attributes) (act : SetAct) → (set_one false r act).med ≡ metric_after r.med act
med_one r (LocalPref n) = refl
med_one r (Metric n) = refl
med_one r (Weight n) = refl
med_one r NoCommunity = refl
med_one r (Community values additive) = refl
med_one r (Origin igp) = refl
med_one r (Prepend numbers) = refl
med_one r (Type1 type1) = refl

type1_one : (r : Attributes) (act : SetAct) → (set_one false r act).type1 ≡ type1_after r.type1 act
type1_one r (LocalPref n) = refl
type1_one r (Metric n) = refl
type1_one r (Weight n) = refl
type1_one r NoCommunity = refl
type1_one r (Community values additive) = refl
type1_one r (Origin igp) = refl
type1_one r (Prepend numbers) = refl
type1_one r (Type1 type1) = refl

med_left : (r : Attributes) (acts : List SetAct) → (set_all false r acts).med ≡ fold metric_after r.med acts
med_left r [] = refl
med_left r (act ∷ acts) = med_left (set_one false r act) acts ∙ ap (λ n. fold metric_after n acts) (med_one r act)

type1_left : (r : Attributes) (acts : List SetAct) → (set_all false r acts).type1 ≡ fold type1_after r.type1 acts
type1_left r [] = refl
type1_left r (act ∷ acts) =
    type1_left (set_one false r act) acts ∙ ap (λ b. fold type1_after b acts) (type1_one r act)

-- ---- what a line takes of an entry of external BGP

abbrev external_of : Attributes → OspfRec
external_of r = external_record r.type1 r.med

-- what route maps see of a held route
abbrev seen : Redist → BgpRec → Attributes
seen line held = record (plain_route line 1) { path = held.path; communities = held.communities }

abbrev by_map : File → Redist → Option Use → List OspfRec
by_map file line used =
    option_map_or (λ named. map (λ e. external_after line e.sets)
    (filter (λ e. e.permit) (entries_named file.policies named))) used (external_after line [] ∷ [])

through_in : (file : File) (p : Prefix) (line : Redist) (held : BgpRec) (made : Attributes) (used : Option Use) →
    through_map file.policies used p false (seen line held) ≡ Some made → In (external_of made) (by_map file line used)
through_in file p line held made None is = inl (ap external_of (sym (same_Some (seen line held) made is)))
through_in file p line held made (Some named) is =
    option_and_then_some (λ (e : MapEntry). if e.permit then Some (set_all false (seen line held) e.sets) else None)
    (deciding file.policies p (seen line held) (entries_named file.policies named)) made is (λ e found made_is.
    by e (ordered-in (λ (x : MapEntry). x.seq) (entries_named file.policies named) e
    (in-find (route_taken file.policies p (seen line held)) _ e found)) e.permit refl made_is)
  where
    by : (e : MapEntry) → In e (entries_named file.policies named) → (b : Bool) → e.permit ≡ b →
        (if b then Some (set_all false (seen line held) e.sets) else None) ≡ Some made →
        In (external_of made) (by_map file line (Some named))
    by e there true permits made_is =
        let same = same_Some (set_all false (seen line held) e.sets) made made_is in
        let type1 = ap (λ (r : Attributes). r.type1) (sym same) ∙ type1_left (seen line held) e.sets in
        let med = ap (λ (r : Attributes). r.med) (sym same) ∙ med_left (seen line held) e.sets in
        let is_after : external_of made ≡ external_after line e.sets = λ i. external_record (type1 i) (med i) in
        subst (λ o. In o (by_map file line (Some named))) (sym is_after)
        (map-in (λ (x : MapEntry). external_after line x.sets) _ e
        (filter-in (λ (x : MapEntry). x.permit) (entries_named file.policies named) e there permits))
    by e there false permits made_is = absurd cc

-- the line is one of BGP, the prefix is not the default route, a BGP route is held, and what it becomes is known
pub record IsOfBgp (file : File) (p : Prefix) (slot : Slot) (line : Redist) (o : OspfRec) : Type 0 where
  pub no_default : not (is_default p) ≡ true
  pub held : BgpRec
  pub holds : slot.bgp ≡ Some held
  pub there : In o (taken_of_bgp file line)

pub of_bgp : (file : File) (p : Prefix) (slot : Slot) (line : Redist) (o : OspfRec) →
    brought file p slot Ebgp line ≡ Some o → IsOfBgp file p slot line o
of_bgp file p slot line o = by line.source where
  by : (s : Source) → brought file p slot Ebgp (record line { source = s }) ≡ Some o →
      IsOfBgp file p slot (record line { source = s }) o
  by source.Connected is = absurd cc
  by source.Static is = absurd cc
  by (source.Ospf process) is = absurd cc
  by (source.Bgp asn) is = by_test _ refl is where
    bgp : Redist
    bgp = record line { source = source.Bgp asn }

    made : Option Attributes → Option OspfRec
    made r = option_map external_of (option_and_then (through_map file.policies bgp.map p false) r)

    by_test : (b : Bool) → is_taken bgp p Ebgp ≡ b →
        (if b then made (redistributed_route bgp slot) else None) ≡ Some o → IsOfBgp file p slot bgp o
    by_test false test is' = absurd cc
    by_test true test is' = by_held slot.bgp refl is' where
      by_made : (held : BgpRec) → slot.bgp ≡ Some held → (m : Option Attributes) →
          through_map file.policies bgp.map p false (seen bgp held) ≡ m → option_map external_of m ≡ Some o →
          IsOfBgp file p slot bgp o
      by_made held holds None through is'' = absurd cc
      by_made held holds (Some r) through is'' = record {
        no_default = (and_parts (not (is_default p)) _ test).0;
        held = held;
        holds = holds;
        there = subst (λ x. In x (by_map file bgp bgp.map)) (same_Some (external_of r) o is'')
            (through_in file p bgp held r bgp.map through);
      }

      by_held : (h : Option BgpRec) → slot.bgp ≡ h →
          made (option_map (λ held. seen bgp held) h) ≡ Some o → IsOfBgp file p slot bgp o
      by_held None none is'' = absurd cc
      by_held (Some held) holds is'' =
          by_made held holds (through_map file.policies bgp.map p false (seen bgp held)) refl is''

-- ---- on what an entry rests

abbrev pub IsBacked : List File → Failures → ℕ → File → Prefix → Slot → RibSource → Type 0
IsBacked files failures router file p slot Connected = is_direct (up_interfaces files failures router) p ≡ true
IsBacked files failures router file p slot Static =
    (route : StaticRoute) × In route (static_routes (up_interfaces files failures router) file.statics p)
IsBacked files failures router file p slot Ebgp = is_some slot.bgp ≡ true
IsBacked files failures router file p slot OspfEntry = is_some slot.ospf ≡ true
IsBacked files failures router file p slot Ibgp = is_some slot.bgp ≡ true

-- the first of least distance is one of the entries
pub of_closer : (P : RibEntry → Type 0) (entries : List RibEntry) (best : Option RibEntry) → IfSome best P →
    All P entries → IfSome (fold closer best entries) P
of_closer P [] best here all = here
of_closer P (e ∷ entries) None here all =
    of_closer P entries (Some e) (All-head P e entries all) (All-tail P e entries all)
of_closer P (e ∷ entries) (Some best) here all =
    of_closer P entries _ (by (nat_lt e.distance best.distance)) (All-tail P e entries all)
  where
    by : (b : Bool) → IfSome (if b then Some e else Some best) P
    by true = All-head P e entries all
    by false = here

all_of_some : (P : RibEntry → Type 0) (o : Option RibEntry) → IfSome o P → All P (option_to_list o)
all_of_some P None here = All-nil P
all_of_some P (Some e) here = All-cons P e [] here (All-nil P)

module _ (files : List File) (failures : Failures) (router : ℕ) (file : File) (p : Prefix) (slot : Slot) where
  abbrev Backs : RibEntry → Type 0
  Backs entry = IsBacked files failures router file p slot entry.source

  direct_backs : (b : Bool) → is_direct (up_interfaces files failures router) p ≡ b →
      All Backs (if b then record { source = Connected; distance = 0 } ∷ [] else [])
  direct_backs true is = All-cons Backs (record { source = Connected; distance = 0 }) [] is (All-nil Backs)
  direct_backs false is = All-nil Backs

  statics_back : (routes : List StaticRoute) →
      ((route : StaticRoute) → In route routes →
      In route (static_routes (up_interfaces files failures router) file.statics p)) →
      All Backs (map (λ (route : StaticRoute). record { source = Static; distance = route.distance }) routes)
  statics_back routes among =
      All-map Backs (λ (route : StaticRoute). record { source = Static; distance = route.distance }) routes
      (all-from-in (λ (route : StaticRoute). Backs (record { source = Static; distance = route.distance })) routes
      (λ route there. (route, among route there)))

  over_end : (held : BgpRec) → is_some slot.bgp ≡ true → (o : Option SessionEnd) →
      IfSome (option_map (λ (end : SessionEnd). if end.internal then record { source = Ibgp; distance = 200 }
      else record { source = Ebgp; distance = 20 }) o) Backs
  over_end held some None = tt
  over_end held some (Some end) = by end.internal where
    by : (b : Bool) → Backs (if b then record { source = Ibgp; distance = 200 }
        else record { source = Ebgp; distance = 20 })
    by true = some
    by false = some

  bgp_backs : (h : Option BgpRec) → slot.bgp ≡ h → IfSome (option_and_then (λ (held : BgpRec).
      option_map (λ (end : SessionEnd). if end.internal then record { source = Ibgp; distance = 200 }
      else record { source = Ebgp; distance = 20 }) (learnt_over files router held.from)) h) Backs
  bgp_backs None none = tt
  bgp_backs (Some held) holds = over_end held (ap is_some holds) (learnt_over files router held.from)

  ospf_backs : (own : Bool) (h : Option OspfRec) → slot.ospf ≡ h → IfSome (option_and_then (λ (held : OspfRec).
      if own then None else Some (record { source = OspfEntry; distance = 110 })) h) Backs
  ospf_backs own None none = tt
  ospf_backs true (Some held) holds = tt
  ospf_backs false (Some held) holds = ap is_some holds

  pub entry_backed : (own : Bool) → IfSome (entry_with files failures router file p slot own) Backs
  unfolding entry_with
  entry_backed own =
      of_closer Backs _ None tt
      (All-append Backs _ (option_to_list (ospf_entry own slot))
      (All-append Backs _ (option_to_list (bgp_entry files router slot))
      (All-append Backs _ _ (direct_backs (is_direct (up_interfaces files failures router) p) refl)
      (statics_back (static_routes (up_interfaces files failures router) file.statics p) (λ route there. there)))
      (all_of_some Backs (bgp_entry files router slot) (bgp_backs slot.bgp refl)))
      (all_of_some Backs (ospf_entry own slot) (ospf_backs own slot.ospf refl)))
