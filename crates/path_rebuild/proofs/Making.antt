-- What is made again from shapes that follow has these shapes, and each route is a local one or is imported.
use Rattle.std.proofs.Common.{◌≡◌, ◌⊎◌, ℕ, ◌+◌, ◌*◌, ◌^◌, ◌<◌, Bool, true, false, List, Option, Some, None, length}
use Rattle.std.proofs.Common.{inl, inr, refl, sym, ap, subst, arith, ◌∙◌, option_map, option_and_then, if◌then◌else◌}
use Rattle.std.specs.Prelude.{All, Contains, IfSome}
use Rattle.std.specs.List.{enumerate_from, find, list_all}
use Rattle.std.proofs.lemmas.Option.{same_Some}
use Rattle.mw_text.specs.declared.address.Addr.{Addr}
use Rattle.mw_text.specs.declared.address.Prefix.{Prefix}
use Rattle.mw_text.specs.Address.{prefix_at}
use Rattle.mw_text.proofs.Found.{find_passes, no_value}
use Rattle.ios_ast.specs.declared.file.File.{File}
use Rattle.ios_ast.specs.Limits.{keeps_limits}
use Rattle.route_record.specs.declared.BgpRec.{BgpRec}
use Rattle.route_record.specs.declared.Environment.{Environment}
use Rattle.route_record.specs.declared.Failures.{Failures}
use Rattle.route_record.specs.declared.Learnt.{Learnt}
use Rattle.route_record.specs.declared.Learnt.TheVariants.{Local, Peer}
use Rattle.route_record.specs.declared.Slot.{Slot}
use Rattle.route_record.specs.declared.Tables.{Tables}
use Rattle.route_record.specs.declared.TheConstants.{LENGTHS}
use Rattle.route_record.specs.declared.tracked.Tracked.{Tracked}
use Rattle.route_record.specs.Fits.{IsAddress}
use Rattle.route_record.specs.Places.{slot_at}
use Rattle.net_interfaces.proofs.Members.{in-find}
use Rattle.net_interfaces.proofs.Options.{chained}
use Rattle.net_parts.specs.declared.sessions.SessionEnd.{SessionEnd}
use Rattle.net_parts.specs.Decisions.{arriving}
use Rattle.net_parts.specs.Exports.{imported}
use Rattle.net_parts.specs.Sessions.{ends_of}
use Rattle.net_parts.specs.Tracked.{TracksNet}
use Rattle.net_parts.proofs.LeastWalks.{in-contains}
use Rattle.proto_rib.specs.Taken.{local_routes_at}
use Rattle.route_shapes.specs.Bgp.{BgpShape, bgp_shape, learnt_number}
use Rattle.bgp_shapes.specs.Candidates.{ShapeSlot}
use Rattle.bgp_shapes.specs.Held.{same_shape}
use Rattle.bgp_shapes.specs.Messages.{lacks_address}
use Rattle.announced_shapes.specs.Environments.{IsShapeEnvironment, rebuilt_environment}
use Rattle.announced_shapes.proofs.EnvironmentLaw.{environment_again, environment_may}
use Rattle.rebuilt_routes.specs.Deciding.{HaveRealRoutes}
use Rattle.rebuilt_routes.specs.Following.{AreReal, arriving_of, followed, held_at, numbered_end, own_routes}
use Rattle.rebuilt_routes.specs.Following.{real_routes}
use Rattle.rebuilt_routes.specs.Following.{slot_with}
use Rattle.rebuilt_routes.proofs.Followed.{are_real}
use Rattle.rebuilt_routes.proofs.Numbered.{from_end, numbered_place}
use Rattle.rebuilt_routes.proofs.Sources.{arriving_in, routes_in}
use Rattle.path_rebuild.specs.declared.Rebuilt.{Rebuilt}
use Rattle.path_rebuild.specs.Follows.{AllFollow, AreAnnounced, IsImported, IsRebuilt, IsRebuiltSlot, Known, known_of}
use Rattle.path_rebuild.specs.declared.ShapeRec.{ShapeRec}
use Rattle.path_rebuild.specs.Environments.{environment_of}
use Rattle.path_rebuild.specs.Shapes.{route_of}
use Rattle.path_rebuild.specs.Tables.{known_at, rebuilt_tables, slots_of}
use Rattle.path_rebuild.proofs.Followed.{all_follow, held_is, own_is}
use Rattle.path_rebuild.proofs.Places.{in_order}
use Rattle.path_rebuild.proofs.RealRoutes.{have_real, size_again, slot_within}

-- a learnt number that stands for an address is that of a peer at this address
peer_of : (from : Learnt) (a : Addr) → learnt_number from ≡ 2 ^ 32 + a.0 → from ≡ Peer a
peer_of Local a is = absurd (omega (arith, is))
peer_of (Peer b) a is = let same : b.0 ≡ a.0 = omega (arith, is) in λ i. Peer (record { 0 = same i })

module _ (tracked : Tracked) (files : List File) (failures : Failures) (known : Known) (destination : Addr)
    (net : TracksNet files tracked) (limits : list_all keeps_limits files ≡ true)
    (announced : IsShapeEnvironment files tracked known.announced)
    (follow : AllFollow tracked files failures known destination)
    (size : length known.rest.slots ≡ LENGTHS * length files) where
  abbrev env : Environment
  env = rebuilt_environment tracked known.announced

  abbrev tables : Tables
  tables = rebuilt_tables tracked files env known.held known.rest destination

  abbrev made : Rebuilt
  made = record { tables = tables; env = env }

  -- the routes of one prefix
  abbrev slots : ℕ → ℕ → Option ShapeSlot
  slots len = slots_of tracked known.held known.rest len

  abbrev p : ℕ → Prefix
  p len = prefix_at destination len

  abbrev routes : ℕ → ℕ → Option BgpRec
  routes len = real_routes tracked files env (slots len) (p len)

  real : (len : ℕ) → len < LENGTHS → AreReal tracked files env (slots len) (p len) (routes len)
  real len below =
      are_real tracked files env (slots len) (p len) net
      (all_follow tracked files failures known destination net limits announced follow size len below)

  have : (len : ℕ) → len < LENGTHS → HaveRealRoutes tracked files env (slots len) (p len) tables
  have len below = have_real tracked files env known.held known.rest destination len below

  -- ---- the routes of the tables

  none_held : (len : ℕ) → len < LENGTHS → (router : ℕ) → held_at (slots len) router ≡ None → routes len router ≡ None
  none_held len below router none =
      no_value (bgp_shape tracked) (routes len router) ((real len below).shaped router ∙ none)

  route_same : (len : ℕ) → len < LENGTHS → (router : ℕ) → routes_in tables (p len) router ≡ routes len router
  route_same len below router =
      ap (option_and_then (λ (slot : Slot). slot.bgp)) (have len below router) ∙ by (slots len router) refl
    where
      by : (o : Option ShapeSlot) → slots len router ≡ o →
          option_and_then (λ (slot : Slot). slot.bgp) (option_map (slot_with (routes len router)) o)
          ≡ routes len router
      by None there = sym (none_held len below router (ap (option_and_then (λ (x : ShapeSlot). x.bgp)) there))
      by (Some slot) there = refl

  arriving_same : (len : ℕ) → len < LENGTHS → (at : ℕ) (end : SessionEnd) →
      arriving files env tables (p len) at end ≡ arriving_of files env (routes len) (p len) at end
  arriving_same len below at end =
      arriving_in files env tables (p len) at end
      ∙ (λ i. arriving_of files env (λ router. route_same len below router i) (p len) at end)

  -- ---- where a route comes from

  imported_from : (len : ℕ) → len < LENGTHS → (router : ℕ) (s : BgpShape) (r : BgpRec) → bgp_shape tracked r ≡ s →
      option_and_then (λ (e : ℕ × SessionEnd). option_and_then (imported files e.1 (p len))
      (arriving_of files env (routes len) (p len) e.0 e.1)) (numbered_end files router s.from) ≡ Some r →
      IsImported files env tables (p len) router r
  imported_from len below router s r shape is =
      let end = chained _ (numbered_end files router s.from) r is in
      let numbered = from_end files router s.from end.0.1
      (find_passes _ (enumerate_from 0 (ends_of files)) end.0 end.1) in
      record {
        at = end.0.0;
        end = end.0.1;
        address = numbered.neighbour.addr;
        is = record {
          there = numbered_place files router s.from end.0.0 end.0.1 end.1;
          own = numbered.own;
          neighbour = numbered.neighbour;
          line = numbered.named;
          address = refl;
        };
        from = peer_of r.from numbered.neighbour.addr
            (ap (λ (t : BgpShape). t.from) shape ∙ sym numbered.number);
        import = ap (option_and_then (imported files end.0.1 (p len))) (arriving_same len below end.0.0 end.0.1)
            ∙ end.2;
      }

  source_by : (len : ℕ) → len < LENGTHS → (router : ℕ) (rest : Slot) → slot_at known.rest router len ≡ Some rest →
      (s : BgpShape) (r : BgpRec) → bgp_shape tracked r ≡ s → (b : Bool) → lacks_address s.from ≡ b →
      followed tracked files env (slots len) (p len) (routes len) router s ≡ Some r →
      Contains (local_routes_at files router (p len) rest) r ⊎ IsImported files env tables (p len) router r
  source_by len below router rest there s r shape true local is =
      let found = sym (ap (λ b. if b
      then find (λ q. same_shape (bgp_shape tracked q) s) (own_routes files (slots len) (p len) router)
      else option_and_then (λ (e : ℕ × SessionEnd). option_and_then (imported files e.1 (p len))
      (arriving_of files env (routes len) (p len) e.0 e.1)) (numbered_end files router s.from)) local) ∙ is in
      let own = own_is tracked files failures known destination net limits announced follow size len below router rest
      there in
      inl (subst (λ (rs : List BgpRec). Contains rs r) own
      (in-contains r (own_routes files (slots len) (p len) router)
      (in-find (λ q. same_shape (bgp_shape tracked q) s) (own_routes files (slots len) (p len) router) r found)))
  source_by len below router rest there s r shape false learnt is =
      let found = sym (ap (λ b. if b
      then find (λ q. same_shape (bgp_shape tracked q) s) (own_routes files (slots len) (p len) router)
      else option_and_then (λ (e : ℕ × SessionEnd). option_and_then (imported files e.1 (p len))
      (arriving_of files env (routes len) (p len) e.0 e.1)) (numbered_end files router s.from)) learnt) ∙ is in
      inr (imported_from len below router s r shape found)

  source : (len : ℕ) → len < LENGTHS → (router : ℕ) (rest : Slot) → slot_at known.rest router len ≡ Some rest →
      (o : Option BgpRec) → routes len router ≡ o →
      IfSome o (λ r. Contains (local_routes_at files router (p len) rest) r
      ⊎ IsImported files env tables (p len) router r)
  source len below router rest there None holds = tt
  source len below router rest there (Some r) holds =
      let s =
      chained (followed tracked files env (slots len) (p len) (routes len) router) (held_at (slots len) router) r
      (sym ((real len below).again router) ∙ holds) in
      let shape : bgp_shape tracked r ≡ s.0 =
      same_Some (bgp_shape tracked r) s.0 (sym (ap (option_map (bgp_shape tracked)) holds)
      ∙ (real len below).shaped router ∙ s.1) in
      source_by len below router rest there s.0 r shape (lacks_address s.0.from) refl s.2

  -- ---- slots

  slot_made : (router len : ℕ) (rest : Slot) → len < LENGTHS → slot_at known.rest router len ≡ Some rest →
      (slot : Slot) × (slot_at tables router len ≡ Some slot)
      × IsRebuiltSlot tracked files known made (p len) router rest slot
  slot_made router len rest below there =
      let within = slot_within files known.rest router len rest size there in (
        record { ospf = rest.ospf; bgp = routes len router; rib = rest.rib },
        have len below router
            ∙ ap (λ o. option_map (slot_with (routes len router)) (option_map (λ (slot : Slot). record {
              ospf = slot.ospf;
              bgp = option_map (route_of tracked) (known_at known.held len router);
              rib = slot.rib;
            }) o)) there,
        record {
          ospf = refl;
          rib = refl;
          shape = (real len below).shaped router
              ∙ held_is tracked files failures known destination net limits announced follow size len below router
              within;
          source = source len below router rest there (routes len router) refl;
        },
      )

  pub is_rebuilt : IsRebuilt tracked files known destination made
  is_rebuilt = record {
    environment = environment_may files tracked known.announced net.numbers_ascend net.communities_ascend announced;
    announced = environment_again files tracked known.announced net.numbers_ascend net.communities_ascend announced;
    size = size_again tracked files env known.held known.rest destination ∙ size;
    slots = slot_made;
  }

-- the shapes that stand by external end and then by prefix length are those of an environment
pub made_of : (tracked : Tracked) (files : List File) (failures : Failures) (ids : List Addr)
    (announced held : List (Option ShapeRec)) (rest : Tables) (destination : Addr) → TracksNet files tracked →
    list_all keeps_limits files ≡ true → All IsAddress ids → length rest.slots ≡ LENGTHS * length files →
    AreAnnounced tracked files (environment_of tracked files ids announced) →
    AllFollow tracked files failures (known_of tracked files ids announced held rest) destination →
    IsRebuilt tracked files (known_of tracked files ids announced held rest) destination (record {
      tables = rebuilt_tables tracked files
          (rebuilt_environment tracked (environment_of tracked files ids announced)) held rest destination;
      env = rebuilt_environment tracked (environment_of tracked files ids announced);
    })
made_of tracked files failures ids announced held rest destination net limits fit size are follow =
    is_rebuilt tracked files failures (known_of tracked files ids announced held rest) destination net limits (record {
      ids = are.ids;
      fit = fit;
      announced = are.shapes;
      once = in_order tracked 0 (ends_of files) announced;
    }) follow size
