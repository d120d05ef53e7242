-- One step back, over the route of one other router.
use Rattle.std.proofs.Common.{◌≡◌, ℕ, zero, suc, ◌+◌, ◌-◌, ◌^◌, ◌<◌, Bool, true, false, List, Option, Some, None}
use Rattle.std.proofs.Common.{refl, sym, ap, ◌∙◌, arith, option_and_then, option_map, if◌then◌else◌}
use Rattle.std.specs.Prelude.{slice_get}
use Rattle.std.specs.List.{find}
use Rattle.std.proofs.lemmas.Bool.Decides.{nat_tests}
use Rattle.mw_text.specs.declared.address.Prefix.{Prefix}
use Rattle.ios_ast.specs.declared.file.File.{File}
use Rattle.route_record.specs.declared.BgpRec.{BgpRec}
use Rattle.route_record.specs.declared.Environment.{Environment}
use Rattle.route_record.specs.declared.Tables.{Tables}
use Rattle.route_record.specs.declared.Slot.{Slot}
use Rattle.route_record.specs.declared.tracked.Tracked.{Tracked}
use Rattle.route_record.specs.Places.{slot_at}
use Rattle.net_parts.specs.declared.sessions.Far.{Far}
use Rattle.net_parts.specs.declared.sessions.Far.TheVariants.{Outside, Inside}
use Rattle.net_parts.specs.declared.sessions.SessionEnd.{SessionEnd}
use Rattle.net_parts.specs.Exports.{exported, imported}
use Rattle.net_parts.specs.Sessions.{ends_of}
use Rattle.route_shapes.specs.Bgp.{BgpShape, bgp_shape}
use Rattle.bgp_shapes.specs.Held.{same_shape}
use Rattle.bgp_shapes.specs.Candidates.{ShapeSlot}
use Rattle.bgp_shapes.specs.Messages.{lacks_address}
use Rattle.rebuilt_routes.specs.Following.{arriving_of, followed, held_at, numbered_end, own_routes}
use Rattle.rebuilt_routes.specs.Following.{real_route}
use Rattle.path_rebuild.specs.declared.ShapeRec.{ShapeRec}
use Rattle.path_rebuild.specs.Shapes.{route_of}
use Rattle.path_rebuild.specs.Sources.{router_behind, source_of}
use Rattle.path_rebuild.specs.Tables.{known_at, slots_of}

-- a number that stands for an address is one of an address
pub has_address : (n : ℕ) → lacks_address (2 ^ 32 + n) ≡ false
has_address n = grind (arith, nat_tests)

-- what arrives over a session asks for the route of the router behind it alone
arriving_one : (files : List File) (environment : Environment) (routes : ℕ → Option BgpRec) (p : Prefix) (at : ℕ)
    (end : SessionEnd) → arriving_of files environment routes p at end
    ≡ arriving_of files environment (λ _. option_and_then routes (router_behind files end.far)) p at end
unfolding arriving_of
arriving_one files environment routes p at end = by end.far where
  by : (far : Far) → arriving_of files environment routes p at (record end { far = far })
      ≡ arriving_of files environment (λ _. option_and_then routes (router_behind files far)) p at
      (record end { far = far })
  by Outside = refl
  by (Inside far_at) = inside (slice_get (ends_of files) far_at) where
    inside : (o : Option SessionEnd) →
        option_and_then (λ far. option_and_then (exported files far p) (routes far.router)) o
        ≡ option_and_then (λ far. option_and_then (exported files far p)
        (option_and_then routes (option_map (λ f. f.router) o))) o
    inside None = refl
    inside (Some far) = refl

-- and so does a step
pub followed_one : (tracked : Tracked) (files : List File) (environment : Environment) (slots : ℕ → Option ShapeSlot)
    (p : Prefix) (routes : ℕ → Option BgpRec) (router : ℕ) (s : BgpShape) →
    followed tracked files environment slots p routes router s
    ≡ followed tracked files environment slots p (λ _. option_and_then routes (source_of files router s)) router s
followed_one tracked files environment slots p routes router s = by (lacks_address s.from) refl where
  own : Option BgpRec
  own = find (λ r. same_shape (bgp_shape tracked r) s) (own_routes files slots p router)

  along : Option (ℕ × SessionEnd) → (ℕ → Option BgpRec) → Option BgpRec
  along o rs = option_and_then (λ (e : ℕ × SessionEnd). option_and_then (imported files e.1 p)
      (arriving_of files environment rs p e.0 e.1)) o

  behind : Option (ℕ × SessionEnd) → Option ℕ
  behind o = option_and_then (λ (e : ℕ × SessionEnd). router_behind files e.1.far) o

  each : (o : Option (ℕ × SessionEnd)) → along o routes ≡ along o (λ _. option_and_then routes (behind o))
  each None = refl
  each (Some e) = ap (option_and_then (imported files e.1 p)) (arriving_one files environment routes p e.0 e.1)

  found : Option (ℕ × SessionEnd)
  found = numbered_end files router s.from

  by : (b : Bool) → lacks_address s.from ≡ b → (if lacks_address s.from then own else along found routes)
      ≡ (if lacks_address s.from then own
      else along found (λ _. option_and_then routes (if lacks_address s.from then None else behind found)))
  by true local =
      ap (λ b. if b then own else along found routes) local
      ∙ sym (ap (λ b. if b then own
      else along found (λ _. option_and_then routes (if lacks_address s.from then None else behind found))) local)
  by false learnt =
      ap (λ b. if b then own else along found routes) learnt ∙ each found
      ∙ sym (ap (λ b. if b then own
      else along found (λ _. option_and_then routes (if b then None else behind found))) learnt)

pub real_none : (tracked : Tracked) (files : List File) (environment : Environment) (slots : ℕ → Option ShapeSlot)
    (p : Prefix) (router : ℕ) → real_route tracked files environment slots p 0 router ≡ None
unfolding real_route
real_none tracked files environment slots p router = refl

pub real_one : (tracked : Tracked) (files : List File) (environment : Environment) (slots : ℕ → Option ShapeSlot)
    (p : Prefix) (fuel router : ℕ) → 0 < fuel →
    real_route tracked files environment slots p fuel router
    ≡ option_and_then (followed tracked files environment slots p
    (real_route tracked files environment slots p (fuel - 1)) router) (held_at slots router)
unfolding real_route
real_one tracked files environment slots p zero router more = absurd (omega (arith, more))
real_one tracked files environment slots p (suc fuel) router more =
    let less : suc fuel - 1 ≡ fuel = omega arith in
    ap (λ k. option_and_then (followed tracked files environment slots p
    (real_route tracked files environment slots p k) router) (held_at slots router)) (sym less)

-- the shape that a router holds is the one that stands for it where it has a slot
held_known : (tracked : Tracked) (held : List (Option ShapeRec)) (rest : Tables) (len router : ℕ)
    (known : Option ShapeRec) →
    option_and_then (λ _. known_at held len router) (slot_at rest router len) ≡ known →
    held_at (slots_of tracked held rest len) router ≡ option_map (route_of tracked) known
held_known tracked held rest len router known is = by (slot_at rest router len) is where
  by : (o : Option Slot) → option_and_then (λ _. known_at held len router) o ≡ known →
      option_and_then (λ (slot : ShapeSlot). slot.bgp) (option_map (λ (slot : Slot). record {
        ospf = slot.ospf;
        bgp = option_map (route_of tracked) (known_at held len router);
        rib = slot.rib;
      }) o) ≡ option_map (route_of tracked) known
  by None is = ap (option_map (route_of tracked)) is
  by (Some slot) is = ap (option_map (route_of tracked)) is

pub real_unknown : (tracked : Tracked) (files : List File) (environment : Environment) (held : List (Option ShapeRec))
    (rest : Tables) (p : Prefix) (fuel router : ℕ) → 0 < fuel →
    option_and_then (λ _. known_at held p.len router) (slot_at rest router p.len) ≡ None →
    real_route tracked files environment (slots_of tracked held rest p.len) p fuel router ≡ None
real_unknown tracked files environment held rest p fuel router more none =
    real_one tracked files environment (slots_of tracked held rest p.len) p fuel router more
    ∙ ap (option_and_then (followed tracked files environment (slots_of tracked held rest p.len) p
    (real_route tracked files environment (slots_of tracked held rest p.len) p (fuel - 1)) router))
    (held_known tracked held rest p.len router None none)

-- the route of a known shape, from that of the router from which it was learnt
pub real_more : (tracked : Tracked) (files : List File) (environment : Environment) (held : List (Option ShapeRec))
    (rest : Tables) (p : Prefix) (fuel router : ℕ) (known : ShapeRec) (route : Option BgpRec) → 0 < fuel →
    option_and_then (λ _. known_at held p.len router) (slot_at rest router p.len) ≡ Some known →
    route ≡ option_and_then (real_route tracked files environment (slots_of tracked held rest p.len) p (fuel - 1))
    (source_of files router (route_of tracked known)) →
    real_route tracked files environment (slots_of tracked held rest p.len) p fuel router
    ≡ followed tracked files environment (slots_of tracked held rest p.len) p (λ _. route) router
    (route_of tracked known)
real_more tracked files environment held rest p fuel router known route more there is =
    let slots = slots_of tracked held rest p.len in
    let before = real_route tracked files environment slots p (fuel - 1) in
    real_one tracked files environment slots p fuel router more
    ∙ ap (option_and_then (followed tracked files environment slots p before router))
    (held_known tracked held rest p.len router (Some known) there)
    ∙ followed_one tracked files environment slots p before router (route_of tracked known)
    ∙ ap (λ o. followed tracked files environment slots p (λ _. o) router (route_of tracked known)) (sym is)
