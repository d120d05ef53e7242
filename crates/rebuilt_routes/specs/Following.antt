-- The route that the shape of a held route stands for, followed back over the session over which it was learnt: over
-- sessions between routers, to an announcement or to a local route.
use Rattle.std.specs.Prelude.{◌≡◌, ◌<◌, length, ℕ, zero, suc, ◌==◌, ◌&&◌, List, [], map, Option, Some, None, option_and_then, option_map}
use Rattle.std.specs.Prelude.{slice_get, if◌then◌else◌}
use Rattle.std.specs.List.{enumerate_from, find}
use Rattle.std.specs.Option.{option_map_or}
use Rattle.mw_text.specs.declared.address.Prefix.{Prefix}
use Rattle.ios_ast.specs.declared.file.File.{File}
use Rattle.route_record.specs.declared.BgpMsg.{BgpMsg}
use Rattle.route_record.specs.declared.BgpRec.{BgpRec}
use Rattle.route_record.specs.declared.Environment.{Environment}
use Rattle.route_record.specs.declared.Slot.{Slot}
use Rattle.route_record.specs.declared.tracked.Tracked.{Tracked}
use Rattle.net_parts.specs.declared.sessions.Far.{Far}
use Rattle.net_parts.specs.declared.sessions.Far.TheVariants.{Outside, Inside}
use Rattle.net_parts.specs.declared.sessions.SessionEnd.{SessionEnd}
use Rattle.net_parts.specs.Exports.{announced_message, exported, imported}
use Rattle.net_parts.specs.Origins.{local_routes}
use Rattle.net_parts.specs.Sessions.{ends_of, neighbour_of}
use Rattle.route_shapes.specs.Bgp.{BgpShape, bgp_shape}
use Rattle.bgp_shapes.specs.Candidates.{ShapeSlot, environment_shape, shape_arriving}
use Rattle.bgp_shapes.specs.Crossings.{is_from}
use Rattle.bgp_shapes.specs.Held.{HasMarks, same_shape}
use Rattle.bgp_shapes.specs.Importing.{shape_imported}
use Rattle.bgp_shapes.specs.Messages.{lacks_address}

-- ---- the slots of all routers for one prefix, whose BGP routes are known by their shapes

-- the shape of the route that a router holds
abbrev pub held_at : (ℕ → Option ShapeSlot) → ℕ → Option BgpShape
held_at slots router = option_and_then (λ slot. slot.bgp) (slots router)

-- a slot with that BGP route
abbrev pub slot_with : Option BgpRec → ShapeSlot → Slot
slot_with route slot = record { ospf = slot.ospf; bgp = route; rib = slot.rib }

-- the local routes of a router that runs BGP
abbrev pub own_routes : List File → (ℕ → Option ShapeSlot) → Prefix → ℕ → List BgpRec
own_routes files slots p router =
    option_map_or (λ file. option_map_or (λ process. option_map_or (λ slot.
    local_routes files router file process p (slot_with None slot)) (slots router) []) file.bgp [])
    (slice_get files router) []

-- ---- over which session

-- the end of the router over which a route was learnt, with its place, by the number that stands for the peer
abbrev pub numbered_end : List File → ℕ → ℕ → Option (ℕ × SessionEnd)
numbered_end files router n = find (λ e. is_from files router n e.1) (enumerate_from 0 (ends_of files))

-- the message that arrives over the session of the end at that place, where the routers hold these routes
unfoldable pub arriving_of : List File → Environment → (ℕ → Option BgpRec) → Prefix → ℕ → SessionEnd → Option BgpMsg
arriving_of files environment routes p at end = by_far end.far where
  by_far : Far → Option BgpMsg
  by_far Outside =
      option_and_then (λ neighbour. option_map (announced_message neighbour.addr)
      (find (λ a. (a.end == at) && (a.len == p.len)) environment.announced)) (neighbour_of files end)
  by_far (Inside far_at) =
      option_and_then (λ far. option_and_then (exported files far p) (routes far.router))
      (slice_get (ends_of files) far_at)

-- ---- the route

-- where the shape says that it is local, the first local route of that shape; and else what the router makes of what
-- arrives over the session of which the shape says that it was learnt over it
abbrev pub followed : Tracked → List File → Environment → (ℕ → Option ShapeSlot) → Prefix → (ℕ → Option BgpRec) → ℕ →
    BgpShape → Option BgpRec
followed tracked files environment slots p routes router s =
    if lacks_address s.from
    then find (λ r. same_shape (bgp_shape tracked r) s) (own_routes files slots p router)
    else option_and_then (λ e. option_and_then (imported files e.1 p)
    (arriving_of files environment routes p e.0 e.1)) (numbered_end files router s.from)

-- the route that is followed back from the held shape of a router, over so many routers at most
unfoldable pub real_route : Tracked → List File → Environment → (ℕ → Option ShapeSlot) → Prefix → ℕ → ℕ → Option BgpRec
real_route tracked files environment slots p zero router = None
real_route tracked files environment slots p (suc fuel) router =
    option_and_then (followed tracked files environment slots p
    (real_route tracked files environment slots p fuel) router) (held_at slots router)

-- the same step on shapes alone
unfoldable pub shape_followed : Tracked → List File → Environment → (ℕ → Option ShapeSlot) → Prefix → ℕ → BgpShape →
    Option BgpShape
shape_followed tracked files environment slots p router s =
    if lacks_address s.from
    then find (λ t. same_shape t s) (map (bgp_shape tracked) (own_routes files slots p router))
    else option_and_then (λ e. option_and_then (shape_imported tracked files e.1 p)
    (shape_arriving tracked files (environment_shape tracked environment) slots p e.0 e.1))
    (numbered_end files router s.from)

-- ---- the law

-- a shape that a router of the network holds follows: the step on shapes gives it again
pub record IsFollowed (tracked : Tracked) (files : List File) (environment : Environment) (slots : ℕ → Option ShapeSlot)
    (p : Prefix) (router : ℕ) (s : BgpShape) : Type 0 where
  pub within : router < length files
  pub marks : HasMarks tracked s
  pub follows : shape_followed tracked files environment slots p router s ≡ Some s

-- so do all
abbrev pub AllFollow : Tracked → List File → Environment → (ℕ → Option ShapeSlot) → Prefix → Type 0
AllFollow tracked files environment slots p =
    (router : ℕ) (s : BgpShape) → held_at slots router ≡ Some s → IsFollowed tracked files environment slots p router s

-- routes have the held shapes, and each is the route that its shape says of the routes themselves
pub record AreReal (tracked : Tracked) (files : List File) (environment : Environment) (slots : ℕ → Option ShapeSlot)
    (p : Prefix) (routes : ℕ → Option BgpRec) : Type 0 where
  pub shaped : (router : ℕ) → option_map (bgp_shape tracked) (routes router) ≡ held_at slots router
  pub again : (router : ℕ) → routes router
      ≡ option_and_then (followed tracked files environment slots p routes router) (held_at slots router)

-- the routes of a network that are followed back over as many routers as there are
abbrev pub real_routes : Tracked → List File → Environment → (ℕ → Option ShapeSlot) → Prefix → ℕ → Option BgpRec
real_routes tracked files environment slots p router =
    real_route tracked files environment slots p (length files) router
