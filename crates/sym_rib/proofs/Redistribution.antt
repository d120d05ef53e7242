-- What a line takes into OSPF, from the terms of a slot and from the slot for which they stand.
use Rattle.std.proofs.Common.{◌≡◌, ℕ, Bool, true, false, not, ◌&&◌, ◌||◌, if◌then◌else◌, Option, Some}
use Rattle.std.proofs.Common.{None}
use Rattle.std.proofs.Common.{refl, ap, ap₂, ◌∙◌, ◌≤◌, arith, ◌++◌}
use Rattle.std.specs.Prelude.{◌==◌}
use Rattle.std.specs.List.{filter_map}
use Rattle.std.specs.Option.{option_and_then, option_map, option_map_or, option_to_list}
use Rattle.mw_text.specs.declared.address.Prefix.{Prefix}
use Rattle.ios_ast.specs.declared.file.File.{File}
use Rattle.ios_ast.specs.declared.ospf.DefaultOrigin.{DefaultOrigin}
use Rattle.ios_ast.specs.declared.ospf.Ospf.{Ospf}
use Rattle.ios_ast.specs.declared.ospf.Source.{Source}
use Rattle.ios_ast.specs.declared.ospf.Source.TheVariants as source
use Rattle.ios_ast.specs.declared.ospf.Redist.{Redist}
use Rattle.ios_ast.specs.Setting.{Attributes}
use Rattle.route_record.specs.declared.BgpRec.{BgpRec}
use Rattle.route_record.specs.declared.OspfRec.{OspfRec}
use Rattle.route_record.specs.declared.RibEntry.{RibEntry}
use Rattle.route_record.specs.declared.Slot.{Slot}
use Rattle.route_record.specs.declared.tracked.Tracked.{Tracked}
use Rattle.ios_ast.specs.Maps.{through_map}
use Rattle.net_parts.specs.Origins.{external_record, into_ospf, is_ospf_entry, is_taken, originated_default, plain_route}
use Rattle.net_parts.specs.Origins.{redistributed, redistributed_route}
use Rattle.sym_policy.specs.Held.{kind_of_number}
use Rattle.route_shapes.specs.Bgp.{BgpShape, bgp_shape}
use Rattle.route_shapes.specs.Shapes.{RouteShape, route_shape}
use Rattle.route_shapes.specs.Shapes.{all_tracked}
use Rattle.sym_policy.proofs.MapsApplied.{through_stands}
use Rattle.sym_rib.specs.Redistributed.{entry_slot, shape_external, shape_into_ospf, shape_left, shape_of_bgp}
use Rattle.sym_rib.specs.Redistributed.{shape_redistributed, shape_seen}

-- an external route by its type
pub external_chosen : (there type1 : Bool) (kind metric cost n one two none : ℕ)
    → kind ≡ (if type1 then one else two) → metric ≡ (if type1 then none else n) → cost ≡ (if type1 then n else none)
    → one ≡ 1 → two ≡ 2 → none ≡ 0
    → ◌≡◌ {A = Option OspfRec}
    (if there then Some (record { kind = kind_of_number kind; metric = metric; cost = cost }) else None)
    (if there then Some (external_record type1 n) else None)
external_chosen there true kind metric cost n one two none p q r a b c =
    λ i. if there then Some (record { kind = kind_of_number ((p ∙ a) i); metric = (q ∙ c) i; cost = r i }) else None
external_chosen there false kind metric cost n one two none p q r a b c =
    λ i. if there then Some (record { kind = kind_of_number ((p ∙ b) i); metric = q i; cost = (r ∙ c) i }) else None

-- what route maps see of a record with the path and the communities of a BGP route
pub seen_bgp : (tracked : Tracked) (line : Redist) (valid : Bool) (x : BgpShape) (before after : RouteShape)
    → before ≡ route_shape tracked (plain_route line 1)
    → after ≡ record before { path = x.path; communities = x.communities }
    → (if valid then Some after else None) ≡ option_map (shape_of_bgp tracked line) (if valid then Some x else None)
seen_bgp tracked line false x before after plain whole = refl
seen_bgp tracked line true x before after plain whole =
    let with_parts : RouteShape → RouteShape = λ s. record s { path = x.path; communities = x.communities } in
    ap Some (whole ∙ ap with_parts plain)

-- the record that OSPF makes of what a map leaves
pub made_of : (there : Bool) (s : RouteShape)
    → (if there then Some (external_record s.type1 s.preferences.med) else None)
    ≡ option_map shape_external (if there then Some s else None)
made_of true s = refl
made_of false s = refl

pub line_stands : (line : Redist) (p : Prefix) (there left_there : Bool) (entry : RibEntry) (made : OspfRec)
    (left : Option OspfRec) → (if left_there then Some made else None) ≡ left
    → (if (there && is_taken line p entry.source) && left_there then Some made else None)
    ≡ option_and_then (λ e. if is_taken line p e.source then left else None) (if there then Some entry else None)
line_stands line p there left_there entry made left brought =
    by there
    ∙ ap (λ o. option_and_then (λ e. if is_taken line p e.source then o else None) (if there then Some entry else None))
    brought
  where
    read : Option OspfRec
    read = if left_there then Some made else None

    inner : (b : Bool) → (if b && left_there then Some made else None) ≡ (if b then read else None)
    inner true = refl
    inner false = refl

    by : (a : Bool)
        → (if (a && is_taken line p entry.source) && left_there then Some made else None)
        ≡ option_and_then (λ e. if is_taken line p e.source then read else None) (if a then Some entry else None)
    by true = inner (is_taken line p entry.source)
    by false = refl

-- the default route that a line gives
pub default_stands : (line : DefaultOrigin) (p : Prefix) (there : Bool) (entry : RibEntry)
    → (if (p.len == 0) && (line.always || (there && not (is_ospf_entry entry.source)))
    then Some (external_record line.type1 line.metric) else None)
    ≡ originated_default p (entry_slot (if there then Some entry else None)) line
default_stands line p there entry =
    ap (λ b. if (p.len == 0) && (line.always || b) then Some (external_record line.type1 line.metric) else None)
    (by there)
  where
    by : (a : Bool)
        → (a && not (is_ospf_entry entry.source))
        ≡ option_map_or (λ e. not (is_ospf_entry e.source)) (if a then Some entry else None) false
    by true = refl
    by false = refl

pub no_less : (a b c : ℕ) → a ≤ b → b ≤ c → a ≤ c
no_less a b c h k = omega arith

-- ---- what is taken by shapes is what is taken of the slot

module _ (tracked : Tracked) (file : File) (p : Prefix) (slot : Slot) (all : all_tracked tracked file.policies ≡ true)
  where
    seen_same : (line : Redist)
        → shape_seen tracked line (option_map (bgp_shape tracked) slot.bgp)
        ≡ option_map (route_shape tracked) (redistributed_route line slot)
    seen_same line = by_source line.source
      where
        by_bgp : (o : Option BgpRec)
            → option_map (shape_of_bgp tracked line) (option_map (bgp_shape tracked) o)
            ≡ option_map (route_shape tracked)
            (option_map (λ held. record (plain_route line 1) { path = held.path; communities = held.communities }) o)
        by_bgp None = refl
        by_bgp (Some held) = refl

        by_source : (s : Source)
            → shape_seen tracked (record line { source = s }) (option_map (bgp_shape tracked) slot.bgp)
            ≡ option_map (route_shape tracked) (redistributed_route (record line { source = s }) slot)
        by_source source.Connected = refl
        by_source source.Static = refl
        by_source (source.Bgp asn) = by_bgp slot.bgp
        by_source (source.Ospf process) = refl

    external_same : (o : Option Attributes)
        → option_map shape_external (option_map (route_shape tracked) o)
        ≡ option_map (λ r. external_record r.type1 r.med) o
    external_same None = refl
    external_same (Some r) = refl

    left_same : (line : Redist)
        → shape_left tracked file p line (option_map (bgp_shape tracked) slot.bgp)
        ≡ option_map (λ r. external_record r.type1 r.med)
        (option_and_then (through_map file.policies line.map p false) (redistributed_route line slot))
    left_same line =
        let seen : Option Attributes = redistributed_route line slot in
        ap (option_map shape_external)
        (through_stands tracked file.policies line.map p false
        (shape_seen tracked line (option_map (bgp_shape tracked) slot.bgp)) _ seen all (seen_same line) refl)
        ∙ external_same (option_and_then (through_map file.policies line.map p false) seen)

    line_same : (line : Redist)
        → shape_into_ospf tracked file p (option_map (bgp_shape tracked) slot.bgp) slot.rib line
        ≡ into_ospf file p slot line
    line_same line =
        ap (λ o. option_and_then (λ entry. if is_taken line p entry.source then o else None) slot.rib) (left_same line)

    pub redistributed_same : (process : Ospf)
        → shape_redistributed tracked file process p (option_map (bgp_shape tracked) slot.bgp) slot.rib
        ≡ redistributed file process p slot
    unfolding shape_redistributed redistributed
    redistributed_same process = λ i.
        filter_map (λ line. line_same line i) process.redistribute
        ++ option_to_list (option_and_then (originated_default p slot) process.default)

-- so it is where terms stand for the slot
pub redistributed_stands : (tracked : Tracked) (file : File) (p : Prefix) (process : Ospf) (bgp : Option BgpShape)
    (rib : Option RibEntry) (slot : Slot) → all_tracked tracked file.policies ≡ true
    → bgp ≡ option_map (bgp_shape tracked) slot.bgp → rib ≡ slot.rib
    → shape_redistributed tracked file process p bgp rib ≡ redistributed file process p slot
redistributed_stands tracked file p process bgp rib slot all by_bgp by_rib =
    ap₂ (shape_redistributed tracked file process p) by_bgp by_rib ∙ redistributed_same tracked file p slot all process
