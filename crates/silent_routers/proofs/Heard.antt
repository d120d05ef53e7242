-- Where silent routers are taken to hold no BGP route, all candidates are the same.
use Rattle.std.proofs.Common.{◌≡◌, ◌∙◌, ℕ, Bool, true, false, List, [], Option, Some, None, refl, sym, ap}
use Rattle.std.proofs.Common.{if◌then◌else◌}
use Rattle.std.specs.Prelude.{not, is_some, option_and_then, option_map, slice_get}
use Rattle.std.specs.Option.{option_map_or}
use Rattle.mw_text.specs.declared.address.Prefix.{Prefix}
use Rattle.ios_ast.specs.declared.bgp.Bgp.{Bgp}
use Rattle.ios_ast.specs.declared.file.File.{File}
use Rattle.route_record.specs.declared.Failures.{Failures}
use Rattle.route_record.specs.declared.tracked.Tracked.{Tracked}
use Rattle.net_parts.specs.declared.sessions.Far.{Far}
use Rattle.net_parts.specs.declared.sessions.Far.TheVariants.{Outside, Inside}
use Rattle.net_parts.specs.declared.sessions.SessionEnd.{SessionEnd}
use Rattle.net_parts.specs.Sessions.{ends_of}
use Rattle.route_shapes.specs.Bgp.{BgpShape}
use Rattle.bgp_shapes.specs.Candidates.{ShapeEnvironment, ShapeSlot, shape_arriving, shape_candidates}
use Rattle.bgp_shapes.specs.Candidates.{shape_candidates_of, shape_local_routes}
use Rattle.bgp_shapes.specs.Exporting.{shape_exported}
use Rattle.bgp_shapes.specs.Held.{held_shape}
use Rattle.rebuilt_routes.specs.Deciding.{is_decided_shape}
use Rattle.silent_routers.specs.Silent.{IsSettled, is_behind_silent, is_silent, sending, without_bgp}
use Rattle.silent_routers.proofs.Unsent.{settled_unsent}

-- ---- local routes look at no BGP route

pub own_same : (tracked : Tracked) (files : List File) (slots : ℕ → Option ShapeSlot) (router : ℕ) (file : File)
    (process : Bgp) (p : Prefix) →
    option_map_or (shape_local_routes tracked files router file process p) (sending files slots router) []
    ≡ option_map_or (shape_local_routes tracked files router file process p) (slots router) []
own_same tracked files slots router file process p = by (is_silent files router) (slots router) where
  by : (b : Bool) (o : Option ShapeSlot) →
      option_map_or (shape_local_routes tracked files router file process p)
      (if b then option_map without_bgp o else o) []
      ≡ option_map_or (shape_local_routes tracked files router file process p) o []
  by false o = refl
  by true None = refl
  by true (Some slot) = refl

-- ---- what arrives

module _ (tracked : Tracked) (files : List File) (environment : ShapeEnvironment) (slots : ℕ → Option ShapeSlot)
    (p : Prefix) where
  abbrev sends : SessionEnd → Option ShapeSlot → Option BgpShape
  sends far o = option_and_then (shape_exported tracked files far p) (option_and_then (λ (slot : ShapeSlot). slot.bgp) o)

  abbrev arrives : (ℕ → Option ShapeSlot) → ℕ → SessionEnd → Option BgpShape
  arrives held at end = shape_arriving tracked files environment held p at end

  sent_none : (far : SessionEnd) (b : Bool) (o : Option ShapeSlot) →
      sends far (if b then option_map without_bgp o else o) ≡ (if b then None else sends far o)
  sent_none far false o = refl
  sent_none far true None = refl
  sent_none far true (Some slot) = refl

  -- nothing from a silent router, and from others what they send
  pub arriving_heard : (at : ℕ) (end : SessionEnd) →
      arrives (sending files slots) at end ≡ (if is_behind_silent files end then None else arrives slots at end)
  unfolding shape_arriving
  arriving_heard at end = by end.far refl where
    by_end : (o : Option SessionEnd) →
        option_and_then (λ (far : SessionEnd). sends far (sending files slots far.router)) o
        ≡ (if option_map_or (λ (far : SessionEnd). is_silent files far.router) o false then None
        else option_and_then (λ (far : SessionEnd). sends far (slots far.router)) o)
    by_end None = refl
    by_end (Some far) = sent_none far (is_silent files far.router) (slots far.router)

    by : (f : Far) → end.far ≡ f →
        arrives (sending files slots) at end ≡ (if is_behind_silent files end then None else arrives slots at end)
    by Outside is =
        ap (λ f. arrives (sending files slots) at (record end { far = f })) is
        ∙ sym (ap (λ f. if is_behind_silent files (record end { far = f }) then None
        else arrives slots at (record end { far = f })) is)
    by (Inside far_at) is =
        ap (λ f. arrives (sending files slots) at (record end { far = f })) is
        ∙ by_end (slice_get (ends_of files) far_at)
        ∙ sym (ap (λ f. if is_behind_silent files (record end { far = f }) then None
        else arrives slots at (record end { far = f })) is)

  -- where each router is settled a silent one sends nothing anyway
  arriving_same : (failures : Failures) (others : ℕ → Option ShapeSlot) →
      ((router : ℕ) → IsSettled tracked files failures environment p others slots router) → (at : ℕ) (end : SessionEnd) →
      arrives (sending files slots) at end ≡ arrives slots at end
  unfolding shape_arriving
  arriving_same failures others settled at end = by end.far refl where
    by_silent : (far_at : ℕ) (far : SessionEnd) → slice_get (ends_of files) far_at ≡ Some far → (b : Bool) →
        is_silent files far.router ≡ b →
        sends far (if b then option_map without_bgp (slots far.router) else slots far.router)
        ≡ sends far (slots far.router)
    by_silent far_at far there false is = refl
    by_silent far_at far there true is =
        sent_none far true (slots far.router)
        ∙ sym (settled_unsent tracked files failures environment p others slots far_at far there is
        (settled far.router))

    by_end : (far_at : ℕ) (o : Option SessionEnd) → slice_get (ends_of files) far_at ≡ o →
        option_and_then (λ (far : SessionEnd). sends far (sending files slots far.router)) o
        ≡ option_and_then (λ (far : SessionEnd). sends far (slots far.router)) o
    by_end far_at None there = refl
    by_end far_at (Some far) there = by_silent far_at far there (is_silent files far.router) refl

    by : (f : Far) → end.far ≡ f → arrives (sending files slots) at end ≡ arrives slots at end
    by Outside is =
        ap (λ f. arrives (sending files slots) at (record end { far = f })) is
        ∙ sym (ap (λ f. arrives slots at (record end { far = f })) is)
    by (Inside far_at) is =
        ap (λ f. arrives (sending files slots) at (record end { far = f })) is
        ∙ by_end far_at (slice_get (ends_of files) far_at) refl
        ∙ sym (ap (λ f. arrives slots at (record end { far = f })) is)

  -- ---- the decision

  candidates_same : (failures : Failures) (others : ℕ → Option ShapeSlot) →
      ((router : ℕ) → IsSettled tracked files failures environment p others slots router) → (router : ℕ) (file : File)
      (process : Bgp) →
      shape_candidates tracked files failures environment (sending files slots) router file process p
      ≡ shape_candidates tracked files failures environment slots router file process p
  unfolding shape_candidates
  candidates_same failures others settled router file process =
      (λ i. shape_candidates_of tracked files failures environment.ids router p
      (own_same tracked files slots router file process p i)
      (λ at end. arriving_same failures others settled at end i))

  pub decided_same : (failures : Failures) (others : ℕ → Option ShapeSlot) →
      ((router : ℕ) → IsSettled tracked files failures environment p others slots router) → (router : ℕ) (file : File)
      (held : Option BgpShape) →
      is_decided_shape tracked files failures environment (sending files slots) router file p held
      ≡ is_decided_shape tracked files failures environment slots router file p held
  decided_same failures others settled router file held =
      (λ i. option_map_or (λ process. held_shape process.always_compare process.compare_routerid
      (candidates_same failures others settled router file process i) held) file.bgp (not (is_some held)))
