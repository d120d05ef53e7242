-- Shapes that follow over real routes follow by shapes.
use Rattle.std.proofs.Common.{◌≡◌, ◌⊎◌, ℕ, ◌+◌, ◌*◌, ◌^◌, ◌<◌, Bool, true, false, List, [], ◌∷◌, Option, Some, None}
use Rattle.std.proofs.Common.{length, map}
use Rattle.std.proofs.Common.{inl, inr, refl, sym, ap, subst, ◌∙◌, option_map, option_and_then, if◌then◌else◌}
use Rattle.std.specs.Prelude.{◌==◌, ◌&&◌, Contains, slice_get}
use Rattle.std.specs.List.{find, list_all}
use Rattle.std.specs.Option.{option_map_or}
use Rattle.std.proofs.lemmas.List.Elements.{All-contains}
use Rattle.mw_text.specs.declared.address.Addr.{Addr}
use Rattle.mw_text.specs.declared.address.Prefix.{Prefix}
use Rattle.mw_text.specs.Address.{prefix_at}
use Rattle.mw_text.specs.Members.{In}
use Rattle.mw_text.proofs.Lists.{all_found}
use Rattle.ios_ast.specs.declared.bgp.Bgp.{Bgp}
use Rattle.ios_ast.specs.declared.bgp.Neighbour.{Neighbour}
use Rattle.ios_ast.specs.declared.file.File.{File}
use Rattle.ios_ast.specs.Limits.{keeps_limits}
use Rattle.route_record.specs.declared.BgpRec.{BgpRec}
use Rattle.route_record.specs.declared.Environment.{Environment}
use Rattle.route_record.specs.declared.Failures.{Failures}
use Rattle.route_record.specs.declared.Slot.{Slot}
use Rattle.route_record.specs.declared.TheConstants.{LENGTHS}
use Rattle.route_record.specs.declared.tracked.Tracked.{Tracked}
use Rattle.route_record.specs.Places.{slot_at}
use Rattle.net_interfaces.proofs.Members.{in-find}
use Rattle.net_parts.specs.declared.sessions.Far.{Far}
use Rattle.net_parts.specs.declared.sessions.Far.TheVariants.{Outside, Inside}
use Rattle.net_parts.specs.declared.sessions.SessionEnd.{SessionEnd}
use Rattle.net_parts.specs.Exports.{announced_message, exported}
use Rattle.net_parts.specs.Origins.{local_routes}
use Rattle.net_parts.specs.Sessions.{IsPlaced, ends_of, neighbour_of}
use Rattle.net_parts.specs.Tracked.{TracksNet}
use Rattle.net_parts.proofs.EndPlaces.{ends_placed}
use Rattle.net_parts.proofs.LeastWalks.{contains-in, in-contains}
use Rattle.proto_rib.specs.Taken.{local_routes_at}
use Rattle.route_shapes.specs.Bgp.{BgpShape, bgp_shape, learnt_number}
use Rattle.bgp_shapes.specs.Candidates.{ShapeAnnouncement, ShapeSlot, environment_shape}
use Rattle.bgp_shapes.specs.Candidates.{shape_announced, shape_arriving}
use Rattle.bgp_shapes.specs.Exporting.{shape_exported}
use Rattle.bgp_shapes.specs.Held.{HasMarks, same_shape}
use Rattle.bgp_shapes.specs.Importing.{shape_imported}
use Rattle.bgp_shapes.specs.Messages.{lacks_address, message_shape}
use Rattle.bgp_shapes.specs.Tracking.{TracksTests}
use Rattle.bgp_shapes.proofs.ExportLaw.{exported_shape}
use Rattle.bgp_shapes.proofs.HeldLaw.{same_itself}
use Rattle.bgp_shapes.proofs.ImportLaw.{imported_shape}
use Rattle.bgp_shapes.proofs.TrackedLaw.{tests_tracked}
use Rattle.bgp_shapes.proofs.CandidateLaw.{announced_shape}
use Rattle.announced_shapes.specs.Announcements.{IsAnnouncementShape, rebuilt_announcement}
use Rattle.announced_shapes.specs.Environments.{IsShapeEnvironment, rebuilt_environment}
use Rattle.announced_shapes.proofs.AnnouncementLaw.{announcement_again, rebuilt_is}
use Rattle.announced_shapes.proofs.EnvironmentLaw.{environment_again}
use Rattle.rebuilt_routes.specs.Following as routes
use Rattle.rebuilt_routes.specs.Following.{held_at, numbered_end, own_routes, shape_followed, slot_with}
use Rattle.rebuilt_routes.proofs.EndsApart.{end_again}
use Rattle.rebuilt_routes.proofs.Followed.{taken_shape}
use Rattle.rebuilt_routes.proofs.Plain.{IsPlain}
use Rattle.rebuilt_routes.proofs.ShapesFollow.{one_shape, own_plain}
use Rattle.rebuilt_routes.proofs.Supported.{has_marks}
use Rattle.path_rebuild.specs.Follows.{AllFollow, IsLearntShape, IsLocalShape, IsOfFarSide, Known, shape_at}
use Rattle.path_rebuild.specs.Shapes.{route_of}
use Rattle.path_rebuild.specs.Tables.{known_at, slots_of}
use Rattle.path_rebuild.proofs.RealRoutes.{slot_there, slot_within}
use Rattle.path_rebuild.proofs.Steps.{has_address}

-- ---- what is found

-- a shape of some routes is the first that is the same
found_alike : (tracked : Tracked) (s : BgpShape) (rs : List BgpRec) (r : BgpRec) → HasMarks tracked s → In r rs →
    bgp_shape tracked r ≡ s → find (λ t. same_shape t s) (map (bgp_shape tracked) rs) ≡ Some s
found_alike tracked s [] r has there is = absurd there
found_alike tracked s (x ∷ rs) r has there is =
    by (same_shape (bgp_shape tracked x) s) refl there (λ later. found_alike tracked s rs r has later is)
  where
    by : (b : Bool) → same_shape (bgp_shape tracked x) s ≡ b → (r ≡ x) ⊎ In r rs →
        (In r rs → find (λ t. same_shape t s) (map (bgp_shape tracked) rs) ≡ Some s) →
        (if b then Some (bgp_shape tracked x) else find (λ t. same_shape t s) (map (bgp_shape tracked) rs)) ≡ Some s
    by true same there rest = ap Some (one_shape tracked (bgp_shape tracked x) s (has_marks tracked x) has same)
    by false same (inl here) rest =
        absurd (let yes = ap (λ t. same_shape t s) (ap (bgp_shape tracked) (sym here) ∙ is) ∙ same_itself s in
        let no = sym same ∙ yes in cc)
    by false same (inr later) rest = rest later

-- local routes look at no BGP route of their slot
unread : (files : List File) (router : ℕ) (file : File) (process : Bgp) (p : Prefix) (o : Option BgpShape)
    (slot : Slot) →
    local_routes files router file process p (slot_with None (record { ospf = slot.ospf; bgp = o; rib = slot.rib }))
    ≡ local_routes files router file process p slot
unfolding local_routes
unread files router file process p o slot = refl

module _ (tracked : Tracked) (files : List File) (failures : Failures) (known : Known) (destination : Addr)
    (net : TracksNet files tracked) (limits : list_all keeps_limits files ≡ true)
    (announced : IsShapeEnvironment files tracked known.announced)
    (follow : AllFollow tracked files failures known destination)
    (size : length known.rest.slots ≡ LENGTHS * length files) (len : ℕ) (below : len < LENGTHS) where
  tests : TracksTests files tracked
  tests = tests_tracked files tracked net

  abbrev pub environment : Environment
  environment = rebuilt_environment tracked known.announced

  abbrev pub slots : ℕ → Option ShapeSlot
  slots = slots_of tracked known.held known.rest len

  abbrev pub p : Prefix
  p = prefix_at destination len

  shapes_again : environment_shape tracked environment ≡ known.announced
  shapes_again = environment_again files tracked known.announced net.numbers_ascend net.communities_ascend announced

  -- ---- slots

  abbrev with_shape : ℕ → Slot → ShapeSlot
  with_shape router slot = record {
    ospf = slot.ospf;
    bgp = option_map (route_of tracked) (known_at known.held len router);
    rib = slot.rib;
  }

  -- a router that holds a shape is one of the network, and the shape stands in the list
  pub held_there : (router : ℕ) (s : BgpShape) → held_at slots router ≡ Some s →
      (router < length files) × (shape_at tracked known len router ≡ Some s)
  held_there router s holds = by (slot_at known.rest router len) refl
    where
      by : (o : Option Slot) → slot_at known.rest router len ≡ o →
          (router < length files) × (shape_at tracked known len router ≡ Some s)
      by None there =
          absurd (let none =
          ap (λ q. option_and_then (λ (x : ShapeSlot). x.bgp) (option_map (with_shape router) q)) there in
          let no = sym none ∙ holds in cc)
      by (Some slot) there = (
        slot_within files known.rest router len slot size there,
        sym (ap (λ q. option_and_then (λ (x : ShapeSlot). x.bgp) (option_map (with_shape router) q)) there) ∙ holds,
      )

  -- and conversely
  pub held_is : (router : ℕ) → router < length files → held_at slots router ≡ shape_at tracked known len router
  held_is router within =
      let slot = slot_there files known.rest router len size within below in
      ap (λ q. option_and_then (λ (x : ShapeSlot). x.bgp) (option_map (with_shape router) q)) slot.1

  -- the local routes of a router are those of its slot
  pub own_is : (router : ℕ) (slot : Slot) → slot_at known.rest router len ≡ Some slot →
      own_routes files slots p router ≡ local_routes_at files router p slot
  own_is router slot there =
      ap (λ (q : Option Slot). option_map_or (λ (file : File). option_map_or (λ (process : Bgp).
      option_map_or (λ (x : ShapeSlot). local_routes files router file process p (slot_with None x))
      (option_map (with_shape router) q) []) file.bgp []) (slice_get files router) []) there
      ∙ by_file (slice_get files router)
    where
      by_process : (file : File) (o : Option Bgp) →
          option_map_or (λ (process : Bgp). local_routes files router file process p
          (slot_with None (with_shape router slot))) o []
          ≡ option_map_or (λ (process : Bgp). local_routes files router file process p slot) o []
      by_process file None = refl
      by_process file (Some process) =
          unread files router file process p (option_map (route_of tracked) (known_at known.held len router)) slot

      by_file : (o : Option File) →
          option_map_or (λ (file : File). option_map_or (λ (process : Bgp).
          local_routes files router file process p (slot_with None (with_shape router slot))) file.bgp []) o []
          ≡ option_map_or (λ (file : File). option_map_or (λ (process : Bgp).
          local_routes files router file process p slot) file.bgp []) o []
      by_file None = refl
      by_file (Some file) = by_process file file.bgp

  -- ---- a local shape

  local_number : (r : BgpRec) → IsPlain r → (bgp_shape tracked r).from ≡ 0
  local_number r plain = ap learnt_number plain.from

  lacks_none : (n : ℕ) → n ≡ 0 → lacks_address n ≡ true
  lacks_none n is = ap lacks_address is

  local_follows : (router : ℕ) (s : BgpShape) → HasMarks tracked s → IsLocalShape tracked files known p router s →
      shape_followed tracked files environment slots p router s ≡ Some s
  unfolding shape_followed
  local_follows router s has local =
      let own = own_is router local.slot local.there in
      let there = subst (λ (rs : List BgpRec). Contains rs local.route) (sym own) local.local in
      let plain =
      All-contains IsPlain (own_routes files slots p router) local.route (own_plain files slots p router) there in
      let from = sym (ap (λ (t : BgpShape). t.from) local.shape) ∙ local_number local.route plain in
      ap (λ b. if b then find (λ t. same_shape t s) (map (bgp_shape tracked) (own_routes files slots p router))
      else option_and_then (λ (e : ℕ × SessionEnd). option_and_then (shape_imported tracked files e.1 p)
      (shape_arriving tracked files (environment_shape tracked environment) slots p e.0 e.1))
      (numbered_end files router s.from)) (lacks_none s.from from)
      ∙ found_alike tracked s (own_routes files slots p router) local.route has
      (contains-in local.route (own_routes files slots p router) there) local.shape

  -- ---- a learnt shape

  abbrev arrives : ℕ → SessionEnd → Option BgpShape
  arrives at end = shape_arriving tracked files (environment_shape tracked environment) slots p at end

  peer_follows : (at : ℕ) (end : SessionEnd) (neighbour : Neighbour) (s : BgpShape) →
      neighbour_of files end ≡ Some neighbour → end.far ≡ Outside →
      IsOfFarSide tracked files known p at end neighbour.addr s Outside →
      option_and_then (shape_imported tracked files end p) (arrives at end) ≡ Some s
  unfolding shape_arriving
  peer_follows at end neighbour s line outside sent =
      let shape = sent.announced in
      let is = All-contains (IsAnnouncementShape files tracked) known.announced.announced shape announced.announced
      (in-contains shape known.announced.announced (in-find _ known.announced.announced shape sent.there)) in
      let made = rebuilt_announcement tracked shape in
      let again = announcement_again files tracked shape net.numbers_ascend net.communities_ascend is in
      let may = rebuilt_is files tracked shape net.numbers_ascend net.communities_ascend is in
      let message : arrives at end ≡ Some (message_shape tracked (announced_message neighbour.addr made)) =
      ap (λ f. arrives at (record end { far = f })) outside
      ∙ ap (option_and_then (λ (n : Neighbour). option_map (shape_announced tracked n.addr)
      (find (λ (a : ShapeAnnouncement). (a.end == at) && (a.len == len))
      (environment_shape tracked environment).announced))) line
      ∙ ap (λ e. option_map (shape_announced tracked neighbour.addr)
      (find (λ (a : ShapeAnnouncement). (a.end == at) && (a.len == len)) e.announced)) shapes_again
      ∙ ap (option_map (shape_announced tracked neighbour.addr)) sent.there
      ∙ ap (λ a. Some (shape_announced tracked neighbour.addr a)) (sym again)
      ∙ ap Some (sym (announced_shape tracked neighbour.addr made)) in
      ap (option_and_then (shape_imported tracked files end p)) message
      ∙ imported_shape tracked files end p (announced_message neighbour.addr made) tests
      ∙ sent.import made may again

  router_follows : (at far_at : ℕ) (end : SessionEnd) (neighbour : Neighbour) (s : BgpShape) →
      end.far ≡ Inside far_at →
      IsOfFarSide tracked files known p at end neighbour.addr s (Inside far_at) →
      option_and_then (shape_imported tracked files end p) (arrives at end) ≡ Some s
  unfolding shape_arriving
  router_follows at far_at end neighbour s inside sent =
      let far = sent.far in
      let placed = all_found (IsPlaced files) (ends_of files) far_at far (ends_placed files) sent.there in
      let behind = follow far.router len sent.shape placed.router below sent.held in
      let message : arrives at end
      ≡ option_map (message_shape tracked) (exported files far p behind.route) =
      ap (λ f. arrives at (record end { far = f })) inside
      ∙ ap (option_and_then (λ (e : SessionEnd). option_and_then (shape_exported tracked files e p)
      (held_at slots e.router))) sent.there
      ∙ ap (option_and_then (shape_exported tracked files far p)) (held_is far.router placed.router ∙ sent.held)
      ∙ ap (shape_exported tracked files far p) (sym behind.shape)
      ∙ exported_shape tracked files far p behind.route tests in
      ap (option_and_then (shape_imported tracked files end p)) message
      ∙ sym (taken_shape tracked files end p (exported files far p behind.route) tests)
      ∙ sent.import behind.route behind.fits behind.shape

  far_follows : (at : ℕ) (end : SessionEnd) (neighbour : Neighbour) (s : BgpShape) →
      neighbour_of files end ≡ Some neighbour → (far : Far) → end.far ≡ far →
      IsOfFarSide tracked files known p at end neighbour.addr s far →
      option_and_then (shape_imported tracked files end p) (arrives at end) ≡ Some s
  far_follows at end neighbour s line Outside is sent = peer_follows at end neighbour s line is sent
  far_follows at end neighbour s line (Inside far_at) is sent = router_follows at far_at end neighbour s is sent

  learnt_follows : (router : ℕ) (s : BgpShape) → IsLearntShape tracked files failures known p router s →
      shape_followed tracked files environment slots p router s ≡ Some s
  unfolding shape_followed
  learnt_follows router s learnt =
      let at = learnt.at in
      let end = learnt.end in
      let neighbour = learnt.is.neighbour in
      let from : s.from ≡ 2 ^ 32 + neighbour.addr.0 =
      learnt.from ∙ ap (λ (a : Addr). 2 ^ 32 + a.0) (sym learnt.is.address) in
      let found : numbered_end files router s.from ≡ Some (at, end) =
      ap (numbered_end files router) from
      ∙ end_again files limits router at end neighbour learnt.is.there learnt.is.own learnt.is.line in
      let sent =
      subst (λ a. IsOfFarSide tracked files known p at end a s end.far) (sym learnt.is.address) learnt.sent in
      ap (λ b. if b then find (λ t. same_shape t s) (map (bgp_shape tracked) (own_routes files slots p router))
      else option_and_then (λ (e : ℕ × SessionEnd). option_and_then (shape_imported tracked files e.1 p)
      (arrives e.0 e.1)) (numbered_end files router s.from))
      (ap lacks_address from ∙ has_address neighbour.addr.0)
      ∙ ap (option_and_then (λ (e : ℕ × SessionEnd). option_and_then (shape_imported tracked files e.1 p)
      (arrives e.0 e.1))) found
      ∙ far_follows at end neighbour s learnt.is.line end.far refl sent

  -- ---- all shapes follow

  pub all_follow : routes.AllFollow tracked files environment slots p
  all_follow router s holds =
      let held = held_there router s holds in
      let follows = follow router len s held.0 below held.1 in
      let has = subst (HasMarks tracked) follows.shape (has_marks tracked follows.route) in
      record { within = held.0; marks = has; follows = by has follows.source }
    where
      by : HasMarks tracked s → IsLocalShape tracked files known p router s
          ⊎ IsLearntShape tracked files failures known p router s →
          shape_followed tracked files environment slots p router s ≡ Some s
      by has (inl local) = local_follows router s has local
      by has (inr learnt) = learnt_follows router s learnt
