-- Followed back over the sessions, the shapes that the routers hold become routes with these shapes.
use Rattle.std.proofs.Common.{◌≡◌, ℕ, zero, suc, ◌<◌, ◌≤◌, Bool, true, false, List, [], ◌∷◌, length, map}
use Rattle.std.proofs.Common.{Option, Some, None, refl, sym, ap, ◌∙◌, if◌then◌else◌, arith, subst}
use Rattle.std.specs.Prelude.{option_and_then, option_map, slice_get}
use Rattle.std.specs.List.{find}
use Rattle.std.specs.Option.{option_map_or}
use Rattle.std.proofs.lemmas.Option.{same_Some}
use Rattle.mw_text.specs.declared.address.Prefix.{Prefix}
use Rattle.mw_text.proofs.Found.{mapped}
use Rattle.ios_ast.specs.declared.file.File.{File}
use Rattle.route_record.specs.declared.BgpMsg.{BgpMsg}
use Rattle.route_record.specs.declared.BgpRec.{BgpRec}
use Rattle.route_record.specs.declared.Environment.{Environment}
use Rattle.route_record.specs.declared.Tables.{Tables}
use Rattle.route_record.specs.declared.tracked.Tracked.{Tracked}
use Rattle.net_interfaces.proofs.Options.{chained, if_is}
use Rattle.net_parts.specs.declared.sessions.Far.{Far}
use Rattle.net_parts.specs.declared.sessions.Far.TheVariants.{Outside, Inside}
use Rattle.net_parts.specs.declared.sessions.SessionEnd.{SessionEnd}
use Rattle.net_parts.specs.Decisions.{arriving}
use Rattle.net_parts.specs.Exports.{exported, imported, is_reflector, router_id}
use Rattle.net_parts.specs.Sessions.{ends_of}
use Rattle.net_parts.specs.Tracked.{TracksNet, numbers_of}
use Rattle.route_shapes.specs.Bgp.{BgpShape, bgp_shape}
use Rattle.route_shapes.specs.Shapes.{marked}
use Rattle.bgp_shapes.specs.Candidates.{ShapeSlot, environment_shape, shape_arriving}
use Rattle.bgp_shapes.specs.Crossings.{end_numbered}
use Rattle.bgp_shapes.specs.Exporting.{shape_exported}
use Rattle.bgp_shapes.specs.Held.{same_shape}
use Rattle.bgp_shapes.specs.Importing.{shape_imported}
use Rattle.bgp_shapes.specs.Messages.{lacks_address, message_shape}
use Rattle.bgp_shapes.specs.Tracking.{TracksTests}
use Rattle.bgp_shapes.proofs.CandidateLaw.{arriving_shape}
use Rattle.bgp_shapes.proofs.ExportLaw.{exported_shape}
use Rattle.bgp_shapes.proofs.ImportLaw.{imported_shape}
use Rattle.bgp_shapes.proofs.Once.{process_of}
use Rattle.bgp_shapes.proofs.TrackedLaw.{tests_tracked}
use Rattle.rebuilt_routes.specs.Following.{AllFollow, AreReal, IsFollowed, arriving_of, followed, held_at, numbered_end}
use Rattle.rebuilt_routes.specs.Following.{own_routes, real_route, real_routes, shape_followed}
use Rattle.rebuilt_routes.proofs.Crossed.{IsShapeSent, IsShapeTaken, shape_sent_parts, shape_taken_parts, small}
use Rattle.rebuilt_routes.proofs.Fuel.{counted, counted_few, counted_strict}
use Rattle.rebuilt_routes.proofs.Numbered.{end_alone, has_address, numbered_is, numbered_place}
use Rattle.rebuilt_routes.specs.Ranks.{RanksLessBehind, rank}
use Rattle.rebuilt_routes.proofs.Ranks.{IsKept, falls}

find_map : {X Y : Type 0} (f : X → Y) (q : Y → Bool) (xs : List X) →
    find q (map f xs) ≡ option_map f (find (λ x. q (f x)) xs)
find_map f q [] = refl
find_map f q (x ∷ xs) = by (q (f x)) (find_map f q xs)
  where
    by : (b : Bool) → find q (map f xs) ≡ option_map f (find (λ y. q (f y)) xs) →
        (if b then Some (f x) else find q (map f xs)) ≡ option_map f (if b then Some x else find (λ y. q (f y)) xs)
    by true rest = refl
    by false rest = rest

-- import makes of a message of that shape a route of that shape
pub taken_shape : (tracked : Tracked) (files : List File) (end : SessionEnd) (p : Prefix) (o : Option BgpMsg) →
    TracksTests files tracked →
    option_map (bgp_shape tracked) (option_and_then (imported files end p) o)
    ≡ option_and_then (shape_imported tracked files end p) (option_map (message_shape tracked) o)
taken_shape tracked files end p None tracks = refl
taken_shape tracked files end p (Some m) tracks = sym (imported_shape tracked files end p m tracks)

module _ (tracked : Tracked) (files : List File) (environment : Environment) (slots : ℕ → Option ShapeSlot) (p : Prefix)
    (net : TracksNet files tracked) where
  abbrev tests : TracksTests files tracked
  tests = tests_tracked files tracked net

  abbrev arrives : ℕ → SessionEnd → Option BgpShape
  arrives at end = shape_arriving tracked files (environment_shape tracked environment) slots p at end

  -- ---- what arrives

  -- a held route that a far router sends
  pub record IsHeard (end : SessionEnd) (m : BgpShape) : Type 0 where
    pub far_at : ℕ
    pub far : SessionEnd
    pub reached : end.far ≡ Inside far_at
    pub there : slice_get (ends_of files) far_at ≡ Some far
    pub route : BgpShape
    pub holds : held_at slots far.router ≡ Some route
    pub sent : shape_exported tracked files far p route ≡ Some m

  none_there : Tables
  none_there = record { slots = [] }

  -- where the route behind it has the held shape, what arrives has the shape of what arrives by shapes
  pub arriving_alike : (routes : ℕ → Option BgpRec) (at : ℕ) (end : SessionEnd) (m : BgpShape) → arrives at end ≡ Some m →
      ((heard : IsHeard end m) → option_map (bgp_shape tracked) (routes heard.far.router) ≡ Some heard.route) →
      option_map (message_shape tracked) (arriving_of files environment routes p at end) ≡ Some m
  unfolding arriving_of shape_arriving arriving
  arriving_alike routes at end m arrived behind = by end.far refl
    where
      sent_alike : (far : SessionEnd) (t : BgpShape) (o : Option BgpRec) → option_map (bgp_shape tracked) o ≡ Some t →
          shape_exported tracked files far p t ≡ Some m →
          option_map (message_shape tracked) (option_and_then (exported files far p) o) ≡ Some m
      sent_alike far t o same sent =
          let route = mapped (bgp_shape tracked) o t same in
          ap (λ r. option_map (message_shape tracked) (option_and_then (exported files far p) r)) route.1
          ∙ sym (exported_shape tracked files far p route.0 tests)
          ∙ ap (shape_exported tracked files far p) route.2 ∙ sent

      by : (far : Far) → end.far ≡ far →
          option_map (message_shape tracked) (arriving_of files environment routes p at end) ≡ Some m
      by Outside is =
          ap (λ f. option_map (message_shape tracked) (arriving_of files environment routes p at (record end { far = f })))
          is
          ∙ arriving_shape tracked files environment none_there p at (record end { far = Outside }) tests
          ∙ sym (ap (λ f. arrives at (record end { far = f })) is) ∙ arrived
      by (Inside far_at) is =
          let arrived_far = sym (ap (λ f. arrives at (record end { far = f })) is) ∙ arrived in
          let far = chained _ (slice_get (ends_of files) far_at) m arrived_far in
          let route = chained (shape_exported tracked files far.0 p) (held_at slots far.0.router) m far.2 in
          let heard : IsHeard end m = record {
            far_at = far_at;
            far = far.0;
            reached = is;
            there = far.1;
            route = route.0;
            holds = route.1;
            sent = route.2;
          } in
          ap (λ f. option_map (message_shape tracked) (arriving_of files environment routes p at (record end { far = f })))
          is
          ∙ ap (λ o. option_map (message_shape tracked)
          (option_and_then (λ (e : SessionEnd). option_and_then (exported files e p) (routes e.router)) o)) far.1
          ∙ sent_alike far.0 route.0 (routes far.0.router) (behind heard) route.2

  -- and where two hold the same route behind it, the same arrives
  arriving_same : (routes others : ℕ → Option BgpRec) (at : ℕ) (end : SessionEnd) (m : BgpShape) →
      arrives at end ≡ Some m →
      ((heard : IsHeard end m) → routes heard.far.router ≡ others heard.far.router) →
      arriving_of files environment routes p at end ≡ arriving_of files environment others p at end
  unfolding arriving_of shape_arriving
  arriving_same routes others at end m arrived behind = by end.far refl
    where
      by : (far : Far) → end.far ≡ far →
          arriving_of files environment routes p at end ≡ arriving_of files environment others p at end
      by Outside is =
          ap (λ f. arriving_of files environment routes p at (record end { far = f })) is
          ∙ sym (ap (λ f. arriving_of files environment others p at (record end { far = f })) is)
      by (Inside far_at) is =
          let arrived_far = sym (ap (λ f. arrives at (record end { far = f })) is) ∙ arrived in
          let far = chained _ (slice_get (ends_of files) far_at) m arrived_far in
          let route = chained (shape_exported tracked files far.0 p) (held_at slots far.0.router) m far.2 in
          let heard : IsHeard end m = record {
            far_at = far_at;
            far = far.0;
            reached = is;
            there = far.1;
            route = route.0;
            holds = route.1;
            sent = route.2;
          } in
          let sends : (ℕ → Option BgpRec) → Option SessionEnd → Option BgpMsg =
          λ held o. option_and_then (λ (e : SessionEnd). option_and_then (exported files e p) (held e.router)) o in
          ap (λ f. arriving_of files environment routes p at (record end { far = f })) is
          ∙ ap (sends routes) far.1 ∙ ap (option_and_then (exported files far.0 p)) (behind heard)
          ∙ sym (ap (sends others) far.1)
          ∙ sym (ap (λ f. arriving_of files environment others p at (record end { far = f })) is)

  -- ---- the session of a held shape

  -- a shape that was learnt over the end of which it says so
  pub record IsLearntShape (router : ℕ) (s : BgpShape) : Type 0 where
    pub at : ℕ
    pub end : SessionEnd
    pub found : numbered_end files router s.from ≡ Some (at, end)
    pub message : BgpShape
    pub arrived : arrives at end ≡ Some message
    pub taken : shape_imported tracked files end p message ≡ Some s

  pub learnt_shape : (router : ℕ) (s : BgpShape) → lacks_address s.from ≡ false →
      shape_followed tracked files environment slots p router s ≡ Some s → IsLearntShape router s
  unfolding shape_followed
  learnt_shape router s there follows =
      let says = sym (ap (λ b. if b
      then find (λ t. same_shape t s) (map (bgp_shape tracked) (own_routes files slots p router))
      else option_and_then (λ (e : ℕ × SessionEnd). option_and_then (shape_imported tracked files e.1 p)
      (arrives e.0 e.1)) (numbered_end files router s.from)) there) ∙ follows in
      let end = chained _ (numbered_end files router s.from) s says in
      let message = chained (shape_imported tracked files end.0.1 p) (arrives end.0.0 end.0.1) s end.2 in
      record {
        at = end.0.0;
        end = end.0.1;
        found = end.1;
        message = message.0;
        arrived = message.1;
        taken = message.2;
      }

  -- its end is one of the router
  pub learnt_end : (router : ℕ) (s : BgpShape) (learnt : IsLearntShape router s) →
      end_numbered files router s.from ≡ Some learnt.end
  learnt_end router s learnt =
      sym (end_alone files router s.from) ∙ ap (option_map (λ (e : ℕ × SessionEnd). e.1)) learnt.found

  pub learnt_own : (router : ℕ) (s : BgpShape) (learnt : IsLearntShape router s) → learnt.end.router ≡ router
  learnt_own router s learnt = (numbered_is files router s.from learnt.end (learnt_end router s learnt)).own

  taken_parts : (router : ℕ) (s : BgpShape) (learnt : IsLearntShape router s) →
      IsShapeTaken tracked files learnt.end learnt.message s
  taken_parts router s learnt =
      if_is (IsShapeTaken tracked files learnt.end learnt.message)
      (shape_imported tracked files learnt.end p learnt.message) s
      (shape_taken_parts tracked files learnt.end p learnt.message) learnt.taken

  -- ---- all held shapes follow

  module _ (follow : AllFollow tracked files environment slots p) where
    -- so each is such as a router may hold
    kept : (router : ℕ) (s : BgpShape) → held_at slots router ≡ Some s → IsKept tracked files router s
    unfolding shape_followed
    kept router s holds = by (lacks_address s.from) refl
      where
        is : IsFollowed tracked files environment slots p router s
        is = follow router s holds

        local_counted : (o : Option BgpRec) → option_map (bgp_shape tracked) o ≡ Some s → s.path.len ≤ 4294967295
        local_counted o same =
            let route = mapped (bgp_shape tracked) o s same in
            subst (λ (x : BgpShape). x.path.len ≤ 4294967295) route.2 (small (length route.0.path))

        by : (b : Bool) → lacks_address s.from ≡ b → IsKept tracked files router s
        by true local = record {
          marks = is.marks;
          counted = local_counted (find (λ r. same_shape (bgp_shape tracked r) s) (own_routes files slots p router))
              (sym (find_map (bgp_shape tracked) (λ t. same_shape t s) (own_routes files slots p router))
              ∙ sym (ap (λ b. if b
              then find (λ t. same_shape t s) (map (bgp_shape tracked) (own_routes files slots p router))
              else option_and_then (λ (e : ℕ × SessionEnd). option_and_then (shape_imported tracked files e.1 p)
              (arrives e.0 e.1)) (numbered_end files router s.from)) local) ∙ is.follows);
          unlooped = λ from process found runs reflect.
              absurd (let far = has_address files router s.from from (numbered_is files router s.from from found) in
              let no = sym local ∙ far in cc);
        }
        by false far =
            let learnt = learnt_shape router s far is.follows in
            let taken = taken_parts router s learnt in
            let own = learnt_own router s learnt in
            let few = taken.short in
            record {
              marks = is.marks;
              counted = omega (arith, few);
              unlooped = λ from process found runs reflect.
                  let one : Some taken.process ≡ Some process =
                  sym taken.runs ∙ ap (process_of files) own ∙ runs in
                  let same : taken.process ≡ process = cc in
                  subst (λ r. marked (numbers_of tracked.clusters) s.clusters (router_id files r).0 ≡ false) own
                  (taken.unlooped (ap is_reflector same ∙ reflect));
            }

    -- the rank of the route behind a learnt one is less
    behind_less : (router : ℕ) (s : BgpShape) → held_at slots router ≡ Some s → (learnt : IsLearntShape router s) →
        (heard : IsHeard learnt.end learnt.message) →
        rank files heard.far.router heard.route < rank files router s
    behind_less router s holds learnt heard =
        let own = learnt_own router s learnt in
        let found = learnt_end router s learnt in
        subst (λ r. rank files heard.far.router heard.route < rank files r s) own
        (falls tracked files net tests learnt.at heard.far_at learnt.end heard.far
        (numbered_place files router s.from learnt.at learnt.end learnt.found) heard.reached heard.there heard.route
        learnt.message s (kept heard.far.router heard.route heard.holds)
        (if_is (IsShapeSent tracked files heard.far heard.route) (shape_exported tracked files heard.far p heard.route)
        learnt.message (shape_sent_parts tracked files heard.far p heard.route) heard.sent)
        (taken_parts router s learnt) (follow router s holds).marks
        (ap (λ r. end_numbered files r s.from) own ∙ found))

    -- how many routers have a lesser rank
    abbrev ranks : ℕ → ℕ
    ranks router = option_map_or (rank files router) (held_at slots router) 0

    abbrev place : ℕ → ℕ
    place router = counted ranks (length files) (ranks router)

    ranked : (router : ℕ) (s : BgpShape) → held_at slots router ≡ Some s → ranks router ≡ rank files router s
    ranked router s holds = ap (λ o. option_map_or (rank files router) o 0) holds

    place_less : (router : ℕ) (s : BgpShape) → held_at slots router ≡ Some s → (learnt : IsLearntShape router s) →
        (heard : IsHeard learnt.end learnt.message) → place heard.far.router < place router
    place_less router s holds learnt heard =
        let one = ranked router s holds in
        let other = ranked heard.far.router heard.route heard.holds in
        let less = behind_less router s holds learnt heard in
        counted_strict ranks (length files) heard.far.router (ranks heard.far.router) (ranks router)
        (follow heard.far.router heard.route heard.holds).within refl (omega (arith, one, other, less))

    place_few : (router : ℕ) (s : BgpShape) → held_at slots router ≡ Some s → place router < length files
    place_few router s holds =
        counted_few ranks (length files) router (ranks router) (follow router s holds).within refl

    abbrev routes_after : ℕ → ℕ → Option BgpRec
    routes_after fuel router = real_route tracked files environment slots p fuel router

    -- the step on routes, at a shape that was learnt
    step_learnt : (routes : ℕ → Option BgpRec) (router : ℕ) (s : BgpShape) → lacks_address s.from ≡ false →
        (learnt : IsLearntShape router s) →
        followed tracked files environment slots p routes router s
        ≡ option_and_then (imported files learnt.end p) (arriving_of files environment routes p learnt.at learnt.end)
    step_learnt routes router s far learnt =
        ap (λ b. if b
        then find (λ r. same_shape (bgp_shape tracked r) s) (own_routes files slots p router)
        else option_and_then (λ (e : ℕ × SessionEnd). option_and_then (imported files e.1 p)
        (arriving_of files environment routes p e.0 e.1)) (numbered_end files router s.from)) far
        ∙ ap (option_and_then (λ (e : ℕ × SessionEnd). option_and_then (imported files e.1 p)
        (arriving_of files environment routes p e.0 e.1))) learnt.found

    step_local : (routes : ℕ → Option BgpRec) (router : ℕ) (s : BgpShape) → lacks_address s.from ≡ true →
        followed tracked files environment slots p routes router s
        ≡ find (λ r. same_shape (bgp_shape tracked r) s) (own_routes files slots p router)
    step_local routes router s local =
        ap (λ b. if b
        then find (λ r. same_shape (bgp_shape tracked r) s) (own_routes files slots p router)
        else option_and_then (λ (e : ℕ × SessionEnd). option_and_then (imported files e.1 p)
        (arriving_of files environment routes p e.0 e.1)) (numbered_end files router s.from)) local

    -- followed over enough routers, the route has the held shape
    shaped_after : (fuel router : ℕ) (s : BgpShape) → held_at slots router ≡ Some s → place router < fuel →
        option_map (bgp_shape tracked) (routes_after fuel router) ≡ Some s
    unfolding real_route shape_followed
    shaped_after zero router s holds below = absurd (omega (arith, below))
    shaped_after (suc fuel) router s holds below =
        ap (λ o. option_map (bgp_shape tracked)
        (option_and_then (followed tracked files environment slots p (routes_after fuel) router) o)) holds
        ∙ by (lacks_address s.from) refl (shaped_after fuel)
      where
        by : (b : Bool) → lacks_address s.from ≡ b →
            ((j : ℕ) (t : BgpShape) → held_at slots j ≡ Some t → place j < fuel →
            option_map (bgp_shape tracked) (routes_after fuel j) ≡ Some t) →
            option_map (bgp_shape tracked) (followed tracked files environment slots p (routes_after fuel) router s)
            ≡ Some s
        by true local rest =
            ap (option_map (bgp_shape tracked)) (step_local (routes_after fuel) router s local)
            ∙ sym (find_map (bgp_shape tracked) (λ t. same_shape t s) (own_routes files slots p router))
            ∙ sym (ap (λ b. if b
            then find (λ t. same_shape t s) (map (bgp_shape tracked) (own_routes files slots p router))
            else option_and_then (λ (e : ℕ × SessionEnd). option_and_then (shape_imported tracked files e.1 p)
            (arrives e.0 e.1)) (numbered_end files router s.from)) local) ∙ (follow router s holds).follows
        by false far rest =
            let learnt = learnt_shape router s far (follow router s holds).follows in
            ap (option_map (bgp_shape tracked)) (step_learnt (routes_after fuel) router s far learnt)
            ∙ taken_shape tracked files learnt.end p
            (arriving_of files environment (routes_after fuel) p learnt.at learnt.end) tests
            ∙ ap (option_and_then (shape_imported tracked files learnt.end p))
            (arriving_alike (routes_after fuel) learnt.at learnt.end learnt.message learnt.arrived
            (λ heard. let less = place_less router s holds learnt heard in
            rest heard.far.router heard.route heard.holds (omega (arith, less, below))))
            ∙ learnt.taken

    -- and over more it is the same
    same_after : (fuel more router : ℕ) (s : BgpShape) → held_at slots router ≡ Some s → place router < fuel →
        place router < more → routes_after fuel router ≡ routes_after more router
    unfolding real_route
    same_after zero more router s holds below less = absurd (omega (arith, below))
    same_after (suc fuel) zero router s holds below less = absurd (omega (arith, less))
    same_after (suc fuel) (suc more) router s holds below less =
        ap (option_and_then (followed tracked files environment slots p (routes_after fuel) router)) holds
        ∙ by (lacks_address s.from) refl (same_after fuel more)
        ∙ sym (ap (option_and_then (followed tracked files environment slots p (routes_after more) router)) holds)
      where
        by : (b : Bool) → lacks_address s.from ≡ b →
            ((j : ℕ) (t : BgpShape) → held_at slots j ≡ Some t → place j < fuel → place j < more →
            routes_after fuel j ≡ routes_after more j) →
            followed tracked files environment slots p (routes_after fuel) router s
            ≡ followed tracked files environment slots p (routes_after more) router s
        by true local rest =
            step_local (routes_after fuel) router s local ∙ sym (step_local (routes_after more) router s local)
        by false far rest =
            let learnt = learnt_shape router s far (follow router s holds).follows in
            step_learnt (routes_after fuel) router s far learnt
            ∙ ap (option_and_then (imported files learnt.end p))
            (arriving_same (routes_after fuel) (routes_after more) learnt.at learnt.end learnt.message learnt.arrived
            (λ heard. let nearer = place_less router s holds learnt heard in
            rest heard.far.router heard.route heard.holds (omega (arith, nearer, below)) (omega (arith, nearer, less))))
            ∙ sym (step_learnt (routes_after more) router s far learnt)

    -- where nothing is held there is no route
    none_after : (fuel router : ℕ) → held_at slots router ≡ None → routes_after fuel router ≡ None
    unfolding real_route
    none_after zero router none = refl
    none_after (suc fuel) router none =
        ap (option_and_then (followed tracked files environment slots p (routes_after fuel) router)) none

    abbrev routes : ℕ → Option BgpRec
    routes = real_routes tracked files environment slots p

    routes_shaped : (router : ℕ) (o : Option BgpShape) → held_at slots router ≡ o →
        option_map (bgp_shape tracked) (routes router) ≡ o
    routes_shaped router None holds = ap (option_map (bgp_shape tracked)) (none_after (length files) router holds)
    routes_shaped router (Some s) holds =
        shaped_after (length files) router s holds (place_few router s holds)

    routes_again : (router : ℕ) (o : Option BgpShape) → held_at slots router ≡ o →
        routes router ≡ option_and_then (followed tracked files environment slots p routes router) (held_at slots router)
    unfolding real_route
    routes_again router None holds =
        none_after (length files) router holds
        ∙ sym (ap (option_and_then (followed tracked files environment slots p routes router)) holds)
    routes_again router (Some s) holds =
        let few = place_few router s holds in
        same_after (length files) (suc (length files)) router s holds few (omega (arith, few))

    pub are_real : AreReal tracked files environment slots p routes
    are_real = record {
      shaped = λ router. routes_shaped router (held_at slots router) refl;
      again = λ router. routes_again router (held_at slots router) refl;
    }

    -- the router behind the session of a held shape holds one of less rank
    learnt_over : (router : ℕ) (s : BgpShape) (at : ℕ) (end : SessionEnd) → held_at slots router ≡ Some s →
        numbered_end files router s.from ≡ Some (at, end) → IsLearntShape router s
    learnt_over router s at end holds found =
        learnt_shape router s
        (has_address files router s.from end (numbered_is files router s.from end
        (sym (end_alone files router s.from) ∙ ap (option_map (λ (e : ℕ × SessionEnd). e.1)) found)))
        (follow router s holds).follows

    heard_at : (at : ℕ) (end : SessionEnd) (m : BgpShape) (far_at : ℕ) (far : SessionEnd) →
        arrives at end ≡ Some m → end.far ≡ Inside far_at → slice_get (ends_of files) far_at ≡ Some far →
        (t : BgpShape) × (held_at slots far.router ≡ Some t) × (shape_exported tracked files far p t ≡ Some m)
    unfolding shape_arriving
    heard_at at end m far_at far arrived reached there =
        chained (shape_exported tracked files far p) (held_at slots far.router) m
        (sym (ap (λ o. option_and_then (λ (e : SessionEnd). option_and_then (shape_exported tracked files e p)
        (held_at slots e.router)) o) there) ∙ sym (ap (λ f. arrives at (record end { far = f })) reached) ∙ arrived)

    pub ranks_less : RanksLessBehind files slots
    ranks_less = record { behind = behind }
      where
        behind : (router : ℕ) (s : BgpShape) (at : ℕ) (end : SessionEnd) (far_at : ℕ) (far : SessionEnd) →
            held_at slots router ≡ Some s → numbered_end files router s.from ≡ Some (at, end) →
            end.far ≡ Inside far_at → slice_get (ends_of files) far_at ≡ Some far →
            (t : BgpShape) × (held_at slots far.router ≡ Some t) × (rank files far.router t < rank files router s)
        behind router s at end far_at far holds found reached there =
            let learnt = learnt_over router s at end holds found in
            let same : learnt.end ≡ end = end_of (numbered_end files router s.from) learnt.found found in
            let far_is = ap (λ (e : SessionEnd). e.far) same ∙ reached in
            let route = heard_at learnt.at learnt.end learnt.message far_at far learnt.arrived far_is there in (
              route.0,
              route.1,
              behind_less router s holds learnt (record {
                far_at = far_at;
                far = far;
                reached = far_is;
                there = there;
                route = route.0;
                holds = route.1;
                sent = route.2;
              }),
            )
          where
            end_of : {i j : ℕ} {a b : SessionEnd} (o : Option (ℕ × SessionEnd)) → o ≡ Some (i, a) → o ≡ Some (j, b) →
                a ≡ b
            end_of {i} {j} {a} {b} o one other =
                ap (λ (e : ℕ × SessionEnd). e.1) (same_Some (i, a) (j, b) (sym one ∙ other))
