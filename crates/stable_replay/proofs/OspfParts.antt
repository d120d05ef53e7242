-- What a router holds by the tables, from what the far routers hold and from its own origins by its place.
use Rattle.std.proofs.Common.{◌≡◌, ◌∙◌, ℕ, List, [], map, Option, Some, None, refl, ap, sym}
use Rattle.std.specs.Prelude.{slice_get}
use Rattle.std.specs.Option.{option_map_or}
use Rattle.std.proofs.lemmas.Option.{slice_get-map}
use Rattle.mw_text.specs.declared.address.Prefix.{Prefix}
use Rattle.ios_ast.specs.declared.file.File.{File}
use Rattle.ios_ast.specs.declared.ospf.Ospf.{Ospf}
use Rattle.route_record.specs.declared.Failures.{Failures}
use Rattle.route_record.specs.declared.Slot.{Slot}
use Rattle.route_record.specs.declared.Tables.{Tables}
use Rattle.route_record.specs.Places.{slot_at}
use Rattle.net_parts.specs.declared.adjacencies.Adjacency.{Adjacency}
use Rattle.net_parts.specs.Ospf.{adjacencies}
use Rattle.net_parts.specs.OspfRoutes.{far_record, held_by_ospf, held_from, own_origins}
use Rattle.net_parts.proofs.Heard.{same_held}
use Rattle.route_candidates.specs.Heard.{heard_in}
use Rattle.route_candidates.specs.Origins.{origins_at}
use Rattle.route_candidates.proofs.OspfParts.{origins_of}

-- what the far routers hold, as a list by adjacency
told : (tables : Tables) (p : Prefix) (over : List Adjacency) (at : ℕ) (a : Adjacency) → slice_get over at ≡ Some a →
    heard_in (map (far_record tables p) over) at a ≡ far_record tables p a
told tables p over at a there = rw (slice_get-map (far_record tables p) over at) (rw there refl)

pub held_is : (files : List File) (failures : Failures) (tables : Tables) (router : ℕ) (file : File)
    (process : Ospf) (p : Prefix) →
    slice_get files router ≡ Some file → file.ospf ≡ Some process →
    held_by_ospf files failures tables router file process p
    ≡ held_from files failures (heard_in (map (far_record tables p) (adjacencies files))) router
    (option_map_or (origins_at files failures router p) (slot_at tables router p.len) [])
unfolding held_by_ospf
held_is files failures tables router file process p in_file runs =
    ap (held_from files failures (λ at a. far_record tables p a) router) (same_own (slot_at tables router p.len))
    ∙ same_held files failures (λ at a. far_record tables p a)
    (heard_in (map (far_record tables p) (adjacencies files))) router
    (option_map_or (origins_at files failures router p) (slot_at tables router p.len) [])
    (λ at a there up. sym (told tables p (adjacencies files) at a there))
  where
    same_own : (held : Option Slot) →
        option_map_or (own_origins files failures router file process p) held []
        ≡ option_map_or (origins_at files failures router p) held []
    same_own None = refl
    same_own (Some slot) = origins_of files failures router file process p slot in_file runs
