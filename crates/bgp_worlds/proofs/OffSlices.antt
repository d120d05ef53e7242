-- Off the slices of a plan nothing stands in a world by shapes; and where nothing stands, and nobody announces anything, no
-- route is decided.
use Rattle.std.proofs.Common.{◌≡◌, ℕ, ◌<◌, ◌==◌, ◌&&◌, Bool, true, false, List, [], ◌∷◌, ◌++◌, length, map}
use Rattle.std.proofs.Common.{Option, Some, None, refl, sym, ap, ◌∙◌}
use Rattle.std.specs.Prelude.{filter, option_and_then, option_map, slice_get, if◌then◌else◌}
use Rattle.std.specs.List.{enumerate_from, find}
use Rattle.std.specs.Option.{option_map_or}
use Rattle.mw_text.specs.declared.address.Prefix.{Prefix}
use Rattle.ios_ast.specs.declared.bgp.Bgp.{Bgp}
use Rattle.ios_ast.specs.declared.file.File.{File}
use Rattle.route_record.specs.declared.Failures.{Failures}
use Rattle.route_record.specs.declared.Plan.{Plan}
use Rattle.route_record.specs.declared.TheConstants.{LENGTHS}
use Rattle.route_record.specs.declared.tracked.Tracked.{Tracked}
use Rattle.net_parts.specs.declared.sessions.Far.{Far}
use Rattle.net_parts.specs.declared.sessions.Far.TheVariants.{Outside, Inside}
use Rattle.net_parts.specs.declared.sessions.SessionEnd.{SessionEnd}
use Rattle.net_parts.specs.Resolution.{session_up}
use Rattle.net_parts.specs.Sessions.{ends_of, neighbour_of}
use Rattle.route_shapes.specs.Bgp.{bgp_shape}
use Rattle.bgp_shapes.specs.Candidates.{ShapeCandidate, ShapeEnvironment, ShapeSlot, shape_announced, shape_arriving}
use Rattle.bgp_shapes.specs.Candidates.{shape_candidates, shape_learnt, shape_local, shape_local_routes}
use Rattle.bgp_shapes.specs.Exporting.{shape_exported}
use Rattle.bgp_shapes.specs.Held.{held_shape}
use Rattle.plan_places.specs.Places.{has_place, item_at, place, places_of}
use Rattle.plan_places.specs.Plans.{has_slice, lens_of}
use Rattle.slot_places.proofs.PlaceLaws.{has-in, in-has, in-lens, in-places, lens-in, places-in}
use Rattle.alike_prefixes.proofs.Emptied.{and_then_none, filter_map_none, none_local}
use Rattle.rebuilt_routes.specs.Deciding.{is_decided_shape}
use Rattle.bgp_worlds.specs.Opens.{empty_shape}
use Rattle.bgp_worlds.proofs.Placed.{not_made}

-- ---- the places of slices

-- each router has a place at each slice
pub slice_there : (files : List File) (plan : Plan) (router len : ℕ) → router < length files → len < LENGTHS →
    has_slice plan len ≡ true → has_place (places_of plan (length files)) router len ≡ true
slice_there files plan router len below short is =
    has-in (places_of plan (length files)) router len
    (places-in (lens_of plan) (length files) router len below (lens-in plan LENGTHS len short is))

-- and at no other length
pub no_place : (files : List File) (plan : Plan) (router len : ℕ) → has_slice plan len ≡ false →
    has_place (places_of plan (length files)) router len ≡ false
no_place files plan router len off = by (has_place (places_of plan (length files)) router len) refl where
  by : (b : Bool) → has_place (places_of plan (length files)) router len ≡ b → b ≡ false
  by false is = refl
  by true is =
      let there = in-places (lens_of plan) (length files) (place router len)
      (in-has (places_of plan (length files)) router len is) in
      let on = (in-lens plan LENGTHS len there.1).1 in
      absurd cc

-- so what stands at a place stands at a slice
pub on_slice : {X : Type 0} (files : List File) (plan : Plan) (xs : List X) (router len : ℕ) (x : X) →
    item_at (places_of plan (length files)) xs router len ≡ Some x → has_slice plan len ≡ true
on_slice {X} files plan xs router len x is = by (has_slice plan len) refl where
  by : (b : Bool) → has_slice plan len ≡ b → b ≡ true
  by true on = refl
  by false off =
      let none : None ≡ Some x =
      sym (not_made (places_of plan (length files)) xs router len (no_place files plan router len off)) ∙ is in
      absurd cc

-- none passes of what is made of things of which none is such
pub none_made : {X Y : Type 0} (f : X → Y) (test : Y → Bool) (xs : List X) → find (λ x. test (f x)) xs ≡ None →
    find test (map f xs) ≡ None
none_made f test [] none = refl
none_made f test (x ∷ xs) none = by (test (f x)) none (none_made f test xs) where
  by : (b : Bool) → (if b then Some x else find (λ y. test (f y)) xs) ≡ None →
      (find (λ y. test (f y)) xs ≡ None → find test (map f xs) ≡ None) →
      (if b then Some (f x) else find test (map f xs)) ≡ None
  by true is rest = absurd cc
  by false is rest = rest is

-- ---- where nothing stands and nobody announces anything

module _ (tracked : Tracked) (files : List File) (failures : Failures) (environment : ShapeEnvironment)
    (slots : ℕ → Option ShapeSlot) (p : Prefix)
    (empty : (router : ℕ) (slot : ShapeSlot) → slots router ≡ Some slot → slot ≡ empty_shape)
    (silent : (end : ℕ) → find (λ a. (a.end == end) && (a.len == p.len)) environment.announced ≡ None) where
  none_arrives : (at : ℕ) (end : SessionEnd) → shape_arriving tracked files environment slots p at end ≡ None
  unfolding shape_arriving
  none_arrives at end = by_far end.far where
    by_far : (far : Far) → shape_arriving tracked files environment slots p at (record end { far = far }) ≡ None
    by_far Outside = and_then_none _ (neighbour_of files end) (λ neighbour there.
        ap (option_map (shape_announced tracked neighbour.addr)) (silent at))
    by_far (Inside far_at) = and_then_none _ (slice_get (ends_of files) far_at) (λ far there.
        ap (option_and_then (shape_exported tracked files far p))
        (and_then_none (λ (slot : ShapeSlot). slot.bgp) (slots far.router)
        (λ slot here. ap (λ (x : ShapeSlot). x.bgp) (empty far.router slot here))))

  none_learnt : (at : ℕ) (end : SessionEnd) →
      shape_learnt tracked files failures environment.ids p at end
      (shape_arriving tracked files environment slots p at end) ≡ None
  none_learnt at end =
      ap (shape_learnt tracked files failures environment.ids p at end) (none_arrives at end)
      ∙ by (session_up files failures end)
    where
      nothing : Option ShapeCandidate
      nothing = None

      by : (b : Bool) → (if b then nothing else None) ≡ nothing
      by true = refl
      by false = refl

  none_own : (router : ℕ) (file : File) (process : Bgp) →
      option_map_or (shape_local_routes tracked files router file process p) (slots router) [] ≡ []
  none_own router file process = by (slots router) (empty router) where
    by : (o : Option ShapeSlot) → ((slot : ShapeSlot) → o ≡ Some slot → slot ≡ empty_shape) →
        option_map_or (shape_local_routes tracked files router file process p) o [] ≡ []
    by None all = refl
    by (Some slot) all =
        ap (shape_local_routes tracked files router file process p) (all slot refl)
        ∙ ap (map (bgp_shape tracked)) (none_local files p router file process)

  no_candidates : (router : ℕ) (file : File) (process : Bgp) →
      shape_candidates tracked files failures environment slots router file process p ≡ []
  unfolding shape_candidates
  no_candidates router file process =
      λ i. map (shape_local files router) (none_own router file process i)
      ++ filter_map_none (λ (e : ℕ × SessionEnd). shape_learnt tracked files failures environment.ids p e.0 e.1
      (shape_arriving tracked files environment slots p e.0 e.1))
      (filter (λ e. e.1.router == router) (enumerate_from 0 (ends_of files))) (λ e. none_learnt e.0 e.1) i

  -- nothing is decided
  pub nothing_decided : (router : ℕ) (file : File) →
      is_decided_shape tracked files failures environment slots router file p None ≡ true
  unfolding held_shape
  nothing_decided router file = by file.bgp where
    by : (o : Option Bgp) → option_map_or (λ (process : Bgp).
        held_shape process.always_compare process.compare_routerid
        (shape_candidates tracked files failures environment slots router file process p) None) o true ≡ true
    by None = refl
    by (Some process) = ap (λ cs. held_shape process.always_compare process.compare_routerid cs None)
        (no_candidates router file process)
