-- The slots of the tables that are made of what is open fit their fields.
use Rattle.std.proofs.Common.{◌≡◌, ℕ, ◌*◌, ◌/◌, ◌%◌, Bool, true, false, not, List, [], ◌∷◌, ◌++◌, length, map}
use Rattle.std.proofs.Common.{Option, Some, None, refl, sym, ap, ◌∙◌, subst, arith}
use Rattle.std.specs.Prelude.{All, IfSome, option_and_then, option_map, slice_get, if◌then◌else◌}
use Rattle.std.specs.List.{list_all, range_with_len}
use Rattle.std.specs.Option.{option_map_or, option_to_list}
use Rattle.std.proofs.lemmas.List.Elements.{All-append, All-cons, All-filter, All-map, All-nil}
use Rattle.std.proofs.lemmas.Option.{get_or_from_slice_get, slice_get-map}
use Rattle.mw_text.proofs.Lists.{all_found, item_there}
use Rattle.mw_text.specs.declared.address.Prefix.{Prefix}
use Rattle.mw_text.specs.Address.{prefix_at}
use Rattle.ios_ast.specs.declared.file.File.{File}
use Rattle.ios_ast.specs.declared.file.StaticRoute.{StaticRoute}
use Rattle.ios_ast.specs.Limits.{keeps_limits}
use Rattle.route_record.specs.declared.Failures.{Failures}
use Rattle.route_record.specs.declared.OspfRec.{OspfRec}
use Rattle.route_record.specs.declared.Packet.{Packet}
use Rattle.route_record.specs.declared.Plan.{Plan}
use Rattle.route_record.specs.declared.RibEntry.{RibEntry}
use Rattle.route_record.specs.declared.RibSource.TheVariants.{Connected, Static, Ebgp, Ibgp}
use Rattle.route_record.specs.declared.Slot.{Slot}
use Rattle.route_record.specs.declared.Tables.{Tables}
use Rattle.route_record.specs.declared.TheConstants.{LENGTHS}
use Rattle.route_record.specs.declared.tracked.Tracked.{Tracked}
use Rattle.route_record.specs.Fits.{FitsBgp, FitsOspf, FitsRib, FitsSlot}
use Rattle.net_parts.specs.declared.sessions.SessionEnd.{SessionEnd}
use Rattle.net_parts.specs.Routing.{candidates, is_direct, static_routes, up_interfaces}
use Rattle.net_parts.specs.Tracked.{TracksNet}
use Rattle.bgp_shapes.specs.Candidates.{ShapeEnvironment, ShapeSlot, slot_shape}
use Rattle.bgp_shapes.specs.Crossings.{end_numbered}
use Rattle.route_shapes.specs.Bgp.{BgpShape}
use Rattle.plan_places.specs.declared.places.Place.{Place}
use Rattle.plan_places.specs.Places.{item_at, place, places_of}
use Rattle.slot_places.specs.Rooms.{can_be_used}
use Rattle.slot_places.proofs.Brought.{of_closer}
use Rattle.sym_rib.specs.Sources.{entry_from, entry_over, learnt_entry, ospf_candidate}
use Rattle.world_variables.specs.Worlds.{FitsDistance}
use Rattle.world_variables.proofs.Stability.{bit_fits, item_all}
use Rattle.rebuilt_routes.specs.Words.{HasWordNumbers}
use Rattle.shape_worlds.specs.Worlds.{ShapeWorld, rebuilt_tables}
use Rattle.shape_worlds.proofs.RealWorlds.{routes_fit}
use Rattle.bgp_worlds.specs.Opens.{AnnounceAtSlices, FitOpens, OpenSlot, empty_shape, open_shape, opens_hold, shape_entry, shape_slot_among}
use Rattle.bgp_worlds.specs.Opens.{shape_slot_of, shape_world_of}
use Rattle.bgp_worlds.proofs.OpenSound.{real, shapes_hold}

-- ---- entries

entry_fits : (files : List File) (failures : Failures) (router : ℕ) (file : File) (p : Prefix) (learnt : Option ℕ)
    (ospf : Option OspfRec) (own : Bool) → All FitsDistance file.statics →
    IfSome (entry_from files failures router file p learnt ospf own) FitsRib
entry_fits files failures router file p learnt ospf own distances =
    of_closer FitsRib _ None tt
    (All-append FitsRib (candidates (up_interfaces files failures router) file.statics p
    ++ option_to_list (option_and_then (learnt_entry files router) learnt))
    (option_to_list (option_and_then (ospf_candidate own) ospf))
    (All-append FitsRib (candidates (up_interfaces files failures router) file.statics p)
    (option_to_list (option_and_then (learnt_entry files router) learnt))
    (All-append FitsRib _ (map static_entry (static_routes (up_interfaces files failures router) file.statics p))
    (direct (is_direct (up_interfaces files failures router) p))
    (All-map FitsRib static_entry (static_routes (up_interfaces files failures router) file.statics p)
    (All-filter _ FitsDistance file.statics distances))) (over learnt)) (held ospf own))
  where
    static_entry : StaticRoute → RibEntry
    static_entry route = record { source = Static; distance = route.distance }

    direct : (b : Bool) → All FitsRib (if b then record { source = Connected; distance = 0 } ∷ [] else [])
    direct true = All-cons FitsRib _ [] (omega arith) (All-nil FitsRib)
    direct false = All-nil FitsRib

    by_end : (o : Option SessionEnd) → All FitsRib (option_to_list (option_map entry_over o))
    by_end None = All-nil FitsRib
    by_end (Some end) = All-cons FitsRib (entry_over end) [] (by_kind end.internal) (All-nil FitsRib)
      where
        by_kind : (b : Bool) →
            FitsRib (if b then record { source = Ibgp; distance = 200 } else record { source = Ebgp; distance = 20 })
        by_kind true = omega arith
        by_kind false = omega arith

    over : (o : Option ℕ) → All FitsRib (option_to_list (option_and_then (learnt_entry files router) o))
    over None = All-nil FitsRib
    over (Some n) = by_end (end_numbered files router n)

    held : (o : Option OspfRec) (b : Bool) → All FitsRib (option_to_list (option_and_then (ospf_candidate b) o))
    held None b = All-nil FitsRib
    held (Some r) true = All-nil FitsRib
    held (Some r) false = All-cons FitsRib _ [] (omega arith) (All-nil FitsRib)

-- ---- slots by shape

-- a slot whose parts fit
record FitsShapeSlot (slot : ShapeSlot) : Type 0 where
  ospf : IfSome slot.ospf FitsOspf
  bgp : IfSome slot.bgp HasWordNumbers
  rib : IfSome slot.rib FitsRib

module _ (tracked : Tracked) (files : List File) (destinations : Prefix) (plan : Plan) (packet : Packet)
    (failures : Failures) (opens : List OpenSlot) (announced : ShapeEnvironment) (fit : FitOpens tracked files opens) where
  abbrev s : ShapeWorld
  s = shape_world_of files destinations plan packet failures opens announced

  abbrev places : List Place
  places = places_of plan (length files)

  abbrev among : ℕ → ℕ → ShapeSlot
  among router len = shape_slot_among files destinations failures packet.dst places opens router len

  entry_here : (router len : ℕ) (o : OpenSlot) → IfSome (shape_entry files failures packet.dst router len o) FitsRib
  entry_here router len o = bit_fits o.unknown.dynamic _ (by (slice_get files router) refl)
    where
      by : (f : Option File) → slice_get files router ≡ f → IfSome (option_and_then (λ (file : File).
          entry_from files failures router file (prefix_at packet.dst len) (option_map (λ (t : BgpShape). t.from) o.bgp)
          o.unknown.ospf (not o.unknown.dynamic)) f) FitsRib
      by None found = tt
      by (Some file) found =
          entry_fits files failures router file (prefix_at packet.dst len) (option_map (λ (t : BgpShape). t.from) o.bgp)
          o.unknown.ospf (not o.unknown.dynamic) (fit.distances router file found)

  among_fits : (router len : ℕ) → FitsShapeSlot (among router len)
  among_fits router len =
      by (item_at places opens router len)
      (item_all (λ o. IfSome o.unknown.ospf FitsOspf) places opens router len fit.ospf)
      (item_all (λ o. IfSome o.bgp HasWordNumbers) places opens router len fit.bgp)
    where
      used : (b : Bool) (o : OpenSlot) → IfSome o.unknown.ospf FitsOspf → IfSome o.bgp HasWordNumbers →
          FitsShapeSlot (if b then open_shape files failures packet.dst router len o else empty_shape)
      used true o ospf bgp = record { ospf = ospf; bgp = bgp; rib = entry_here router len o }
      used false o ospf bgp = record { ospf = tt; bgp = tt; rib = tt }

      by : (o : Option OpenSlot) → IfSome o (λ o. IfSome o.unknown.ospf FitsOspf) →
          IfSome o (λ o. IfSome o.bgp HasWordNumbers) →
          FitsShapeSlot
          (option_map_or (shape_slot_of files destinations failures packet.dst (place router len)) o empty_shape)
      by None ospf bgp = record { ospf = tt; bgp = tt; rib = tt }
      by (Some o) ospf bgp = used (can_be_used files destinations router len) o ospf bgp

  all_fit : All FitsShapeSlot s.slots
  all_fit =
      All-map FitsShapeSlot (λ k. among (k / LENGTHS) (k % LENGTHS)) (range_with_len 0 (LENGTHS * length files))
      (λ k d within. among_fits _ _)

  module _ (net : TracksNet files tracked) (limits : list_all keeps_limits files ≡ true)
      (silent : AnnounceAtSlices plan announced)
      (holds : opens_hold tracked files destinations plan
      (shape_world_of files destinations plan packet failures opens announced) opens ≡ true) where
    abbrev tables : Tables
    tables = rebuilt_tables tracked files s

    routes : All (λ (slot : Slot). IfSome slot.bgp FitsBgp) tables.slots
    routes =
        routes_fit tracked files s net limits
        (shapes_hold tracked files destinations plan packet failures opens announced net limits silent holds) fit.values
        (λ k d within. (all_fit k d within).bgp)

    pub slots_fit : All FitsSlot tables.slots
    slots_fit k d within =
        let found = item_there tables.slots k within in
        subst FitsSlot (sym (get_or_from_slice_get tables.slots k found.0 d found.1)) (by found.0 found.1)
      where
        by : (slot : Slot) → slice_get tables.slots k ≡ Some slot → FitsSlot slot
        by slot there =
            let shape : slice_get s.slots k ≡ Some (slot_shape tracked slot) =
            sym (ap (λ (w : ShapeWorld). slice_get w.slots k)
            (real tracked files destinations plan packet failures opens announced net limits silent holds).shapes)
            ∙ slice_get-map (slot_shape tracked) tables.slots k ∙ ap (option_map (slot_shape tracked)) there in
            let fits = all_found FitsShapeSlot s.slots k (slot_shape tracked slot) all_fit shape in
            record {
              ospf = fits.ospf;
              bgp = all_found (λ (x : Slot). IfSome x.bgp FitsBgp) tables.slots k slot routes there;
              rib = fits.rib;
            }
