-- Shapes that are decided follow: each is that of a local route, or was learnt over the end of which it says so.
use Rattle.std.proofs.Common.{◌≡◌, ℕ, ◌+◌, ◌^◌, ◌⊎◌, inl, inr, Bool, true, false, List, [], ◌∷◌}
use Rattle.std.proofs.Common.{map, Option, Some, None, refl, sym, ap, ◌∙◌, subst, if◌then◌else◌}
use Rattle.std.specs.Prelude.{All, option_and_then, slice_get}
use Rattle.std.specs.List.{find, list_all}
use Rattle.std.specs.Option.{option_map_or}
use Rattle.std.proofs.lemmas.List.Elements.{All-contains, All-nil}
use Rattle.std.proofs.lemmas.List.Folds.{Any-from_list_any}
use Rattle.mw_text.specs.Members.{In}
use Rattle.mw_text.specs.declared.address.Prefix.{Prefix}
use Rattle.mw_text.proofs.Lists.{item_there}
use Rattle.mw_text.proofs.Found.{mapped}
use Rattle.ios_ast.specs.declared.bgp.Bgp.{Bgp}
use Rattle.ios_ast.specs.declared.file.File.{File}
use Rattle.ios_ast.specs.Limits.{keeps_limits}
use Rattle.route_record.specs.declared.BgpRec.{BgpRec}
use Rattle.route_record.specs.declared.Environment.{Environment}
use Rattle.route_record.specs.declared.Failures.{Failures}
use Rattle.route_record.specs.declared.Tables.{Tables}
use Rattle.route_record.specs.declared.tracked.Tracked.{Tracked}
use Rattle.net_interfaces.proofs.Options.{chained, if_is}
use Rattle.net_parts.specs.declared.sessions.Far.{Far}
use Rattle.net_parts.specs.declared.sessions.Far.TheVariants.{Outside, Inside}
use Rattle.net_parts.specs.declared.sessions.SessionEnd.{SessionEnd}
use Rattle.net_parts.specs.Decisions.{arriving, survivors_by}
use Rattle.net_parts.specs.Origins.{local_routes}
use Rattle.net_parts.specs.Sessions.{ends_of}
use Rattle.net_parts.specs.Tracked.{TracksNet}
use Rattle.net_parts.proofs.LeastWalks.{in-contains, in-map}
use Rattle.route_shapes.specs.Bgp.{BgpShape, bgp_shape, learnt_number}
use Rattle.bgp_shapes.specs.Candidates.{ShapeCandidate, ShapeEnvironment, ShapeSlot, environment_shape, shape_arriving}
use Rattle.bgp_shapes.specs.Candidates.{shape_candidates, shape_key, shape_local_routes}
use Rattle.bgp_shapes.specs.Exporting.{shape_exported}
use Rattle.bgp_shapes.specs.Held.{HasMarks, held_shape, same_shape}
use Rattle.bgp_shapes.specs.Importing.{shape_imported}
use Rattle.bgp_shapes.specs.Messages.{as_route, lacks_address, message_shape}
use Rattle.bgp_shapes.specs.Tracking.{TracksTests}
use Rattle.bgp_shapes.proofs.CandidateLaw.{arriving_shape}
use Rattle.bgp_shapes.proofs.HeldLaw.{same_itself, same_shape-true}
use Rattle.bgp_shapes.proofs.TrackedLaw.{tests_tracked}
use Rattle.rebuilt_routes.specs.Deciding.{AreDecidedShapes, is_decided_shape}
use Rattle.rebuilt_routes.specs.Following.{AllFollow, held_at, numbered_end, own_routes, shape_followed}
use Rattle.rebuilt_routes.specs.Following.{slot_with}
use Rattle.rebuilt_routes.proofs.Crossed.{IsShapeSent, IsShapeTaken, shape_sent_parts, shape_taken_parts}
use Rattle.rebuilt_routes.proofs.EndsApart.{end_again}
use Rattle.rebuilt_routes.proofs.Numbered.{IsNumbered, has_address}
use Rattle.rebuilt_routes.proofs.Plain.{IsPlain, locals_plain}
use Rattle.rebuilt_routes.proofs.Sources.{IsLearntShape, IsShapeFrom, shapes_from, survivors_all}
use Rattle.rebuilt_routes.proofs.Supported.{has_marks}

-- shapes that are the same by their parts are one, where both have a mark for each tracked value
pub one_shape : (tracked : Tracked) (a b : BgpShape) → HasMarks tracked a → HasMarks tracked b → same_shape a b ≡ true →
    a ≡ b
one_shape tracked a b one other same =
    same_shape-true a b (one.numbers ∙ sym other.numbers) (one.communities ∙ sym other.communities)
    (one.clusters ∙ sym other.clusters) same

-- a shape of some routes is the first that is the same
found_alike : (tracked : Tracked) (s : BgpShape) (rs : List BgpRec) → HasMarks tracked s →
    In s (map (bgp_shape tracked) rs) → find (λ t. same_shape t s) (map (bgp_shape tracked) rs) ≡ Some s
found_alike tracked s [] has there = absurd there
found_alike tracked s (r ∷ rs) has there =
    by (same_shape (bgp_shape tracked r) s) refl there (λ later. found_alike tracked s rs has later)
  where
    by : (b : Bool) → same_shape (bgp_shape tracked r) s ≡ b →
        (s ≡ bgp_shape tracked r) ⊎ In s (map (bgp_shape tracked) rs) →
        (In s (map (bgp_shape tracked) rs) → find (λ t. same_shape t s) (map (bgp_shape tracked) rs) ≡ Some s) →
        (if b then Some (bgp_shape tracked r) else find (λ t. same_shape t s) (map (bgp_shape tracked) rs)) ≡ Some s
    by true is there rest = ap Some (one_shape tracked (bgp_shape tracked r) s (has_marks tracked r) has is)
    by false is (inl here) rest =
        absurd (let yes = ap (λ t. same_shape t s) (sym here) ∙ same_itself s in let no = sym is ∙ yes in cc)
    by false is (inr later) rest = rest later

-- the local routes of a router that runs BGP
pub own_there : (files : List File) (slots : ℕ → Option ShapeSlot) (p : Prefix) (router : ℕ) (file : File)
    (process : Bgp) → slice_get files router ≡ Some file → file.bgp ≡ Some process →
    own_routes files slots p router
    ≡ option_map_or (λ slot. local_routes files router file process p (slot_with None slot)) (slots router) []
own_there files slots p router file process found runs =
    ap (λ o. option_map_or (λ (f : File). option_map_or (λ (b : Bgp). option_map_or (λ (slot : ShapeSlot).
    local_routes files router f b p (slot_with None slot)) (slots router) []) f.bgp []) o []) found
    ∙ ap (λ o. option_map_or (λ (b : Bgp). option_map_or (λ (slot : ShapeSlot).
    local_routes files router file b p (slot_with None slot)) (slots router) []) o []) runs

-- local routes are plain
pub own_plain : (files : List File) (slots : ℕ → Option ShapeSlot) (p : Prefix) (router : ℕ) →
    All IsPlain (own_routes files slots p router)
own_plain files slots p router = by_file (slice_get files router)
  where
    by_slot : (file : File) (process : Bgp) (o : Option ShapeSlot) →
        All IsPlain (option_map_or (λ slot. local_routes files router file process p (slot_with None slot)) o [])
    by_slot file process None = All-nil IsPlain
    by_slot file process (Some slot) = locals_plain files router file process p (slot_with None slot)

    by_process : (file : File) (o : Option Bgp) →
        All IsPlain (option_map_or (λ (b : Bgp). option_map_or (λ (slot : ShapeSlot).
        local_routes files router file b p (slot_with None slot)) (slots router) []) o [])
    by_process file None = All-nil IsPlain
    by_process file (Some process) = by_slot file process (slots router)

    by_file : (o : Option File) →
        All IsPlain (option_map_or (λ (f : File). option_map_or (λ (b : Bgp). option_map_or (λ (slot : ShapeSlot).
        local_routes files router f b p (slot_with None slot)) (slots router) []) f.bgp []) o [])
    by_file None = All-nil IsPlain
    by_file (Some file) = by_process file file.bgp

module _ (tracked : Tracked) (files : List File) (failures : Failures) (environment : Environment)
    (slots : ℕ → Option ShapeSlot) (p : Prefix) (net : TracksNet files tracked)
    (limits : list_all keeps_limits files ≡ true)
    (shapes : AreDecidedShapes tracked files failures (environment_shape tracked environment) slots p) where
  env : ShapeEnvironment
  env = environment_shape tracked environment

  tests : TracksTests files tracked
  tests = tests_tracked files tracked net

  none_there : Tables
  none_there = record { slots = [] }

  -- what arrives has a mark for each tracked value
  message_marks : (at : ℕ) (end : SessionEnd) (m : BgpShape) →
      shape_arriving tracked files (environment_shape tracked environment) slots p at end ≡ Some m → HasMarks tracked m
  unfolding shape_arriving arriving
  message_marks at end m arrived = by end.far refl
    where
      by : (far : Far) → end.far ≡ far → HasMarks tracked m
      by Outside is =
          let there = sym (ap (λ f. shape_arriving tracked files (environment_shape tracked environment) slots p at
          (record end { far = f })) is) ∙ arrived in
          let real = mapped (message_shape tracked)
          (arriving files environment none_there p at (record end { far = Outside })) m
          (arriving_shape tracked files environment none_there p at (record end { far = Outside }) tests ∙ there) in
          subst (HasMarks tracked) real.2 (has_marks tracked (as_route real.0))
      by (Inside far_at) is =
          let there = sym (ap (λ f. shape_arriving tracked files (environment_shape tracked environment) slots p at
          (record end { far = f })) is) ∙ arrived in
          let far = chained _ (slice_get (ends_of files) far_at) m there in
          let route = chained (shape_exported tracked files far.0 p) (held_at slots far.0.router) m far.2 in
          (if_is (IsShapeSent tracked files far.0 route.0) (shape_exported tracked files far.0 p route.0) m
          (shape_sent_parts tracked files far.0 p route.0) route.2).marks
          (shapes.marks far.0.router route.0 route.1)

  taken_here : (router : ℕ) (c : ShapeCandidate) →
      (learnt : IsLearntShape tracked files failures (environment_shape tracked environment) slots p router c) →
      IsShapeTaken tracked files learnt.end learnt.message c.rec
  taken_here router c learnt =
      if_is (IsShapeTaken tracked files learnt.end learnt.message)
      (shape_imported tracked files learnt.end p learnt.message) c.rec
      (shape_taken_parts tracked files learnt.end p learnt.message) learnt.taken

  -- a survivor of that shape
  abbrev From : ℕ → ShapeCandidate → Type 0
  From router c =
      IsShapeFrom tracked files failures (environment_shape tracked environment) slots p router
      (map (bgp_shape tracked) (own_routes files slots p router)) c

  own_shapes : (router : ℕ) (file : File) (process : Bgp) → slice_get files router ≡ Some file →
      file.bgp ≡ Some process →
      option_map_or (shape_local_routes tracked files router file process p) (slots router) []
      ≡ map (bgp_shape tracked) (own_routes files slots p router)
  own_shapes router file process found runs =
      by (slots router) ∙ ap (map (bgp_shape tracked)) (sym (own_there files slots p router file process found runs))
    where
      by : (o : Option ShapeSlot) →
          option_map_or (shape_local_routes tracked files router file process p) o []
          ≡ map (bgp_shape tracked)
          (option_map_or (λ slot. local_routes files router file process p (slot_with None slot)) o [])
      by None = refl
      by (Some slot) = refl

  survivor : (router : ℕ) (file : File) (process : Bgp) → slice_get files router ≡ Some file →
      file.bgp ≡ Some process → (s : BgpShape) →
      held_shape process.always_compare process.compare_routerid
      (shape_candidates tracked files failures (environment_shape tracked environment) slots router file process p)
      (Some s) ≡ true → (c : ShapeCandidate) × From router c × (same_shape c.rec s ≡ true)
  unfolding held_shape
  survivor router file process found runs s holds =
      let cands = shape_candidates tracked files failures (environment_shape tracked environment) slots router file
      process p in
      let left = survivors_by shape_key process.always_compare process.compare_routerid cands in
      let some = Any-from_list_any (λ (c : ShapeCandidate). same_shape c.rec s) left holds in
      let all = survivors_all (From router) shape_key process.always_compare process.compare_routerid cands
      (subst (λ own. All (IsShapeFrom tracked files failures (environment_shape tracked environment) slots p router own)
      cands) (own_shapes router file process found runs)
      (shapes_from tracked files failures (environment_shape tracked environment) slots p router file process)) in
      (some.1, All-contains (From router) left some.1 all (some.0, some.2, some.3), some.4)

  -- it follows
  follow_local : (router : ℕ) (s : BgpShape) → HasMarks tracked s →
      In s (map (bgp_shape tracked) (own_routes files slots p router)) →
      shape_followed tracked files environment slots p router s ≡ Some s
  unfolding shape_followed
  follow_local router s has there =
      ap (λ b. if b
      then find (λ t. same_shape t s) (map (bgp_shape tracked) (own_routes files slots p router))
      else option_and_then (λ (e : ℕ × SessionEnd). option_and_then (shape_imported tracked files e.1 p)
      (shape_arriving tracked files (environment_shape tracked environment) slots p e.0 e.1))
      (numbered_end files router s.from)) local ∙ found_alike tracked s (own_routes files slots p router) has there
    where
      local : lacks_address s.from ≡ true
      local =
          let from = in-map (bgp_shape tracked) (own_routes files slots p router) s there in
          let plain = All-contains IsPlain (own_routes files slots p router) from.0 (own_plain files slots p router)
          (in-contains from.0 (own_routes files slots p router) from.1) in
          ap (λ (t : BgpShape). lacks_address t.from) from.2 ∙ ap (λ l. lacks_address (learnt_number l)) plain.from

  follow_learnt : (router : ℕ) (s : BgpShape) (c : ShapeCandidate) → c.rec ≡ s →
      IsLearntShape tracked files failures (environment_shape tracked environment) slots p router c →
      shape_followed tracked files environment slots p router s ≡ Some s
  unfolding shape_followed
  follow_learnt router s c same learnt =
      ap (λ b. if b
      then find (λ t. same_shape t s) (map (bgp_shape tracked) (own_routes files slots p router))
      else option_and_then (λ (e : ℕ × SessionEnd). option_and_then (shape_imported tracked files e.1 p)
      (shape_arriving tracked files (environment_shape tracked environment) slots p e.0 e.1))
      (numbered_end files router s.from)) there
      ∙ ap (option_and_then (λ (e : ℕ × SessionEnd). option_and_then (shape_imported tracked files e.1 p)
      (shape_arriving tracked files (environment_shape tracked environment) slots p e.0 e.1))) found
      ∙ ap (option_and_then (shape_imported tracked files learnt.end p)) learnt.arrived ∙ learnt.taken ∙ ap Some same
    where
      taken : IsShapeTaken tracked files learnt.end learnt.message c.rec
      taken = taken_here router c learnt

      number : s.from ≡ 2 ^ 32 + taken.neighbour.addr.0
      number = ap (λ (t : BgpShape). t.from) (sym same) ∙ taken.from

      numbered : IsNumbered files router s.from learnt.end
      numbered = record {
        own = learnt.is.own;
        neighbour = taken.neighbour;
        named = taken.named;
        number = sym number;
      }

      there : lacks_address s.from ≡ false
      there = has_address files router s.from learnt.end numbered

      found : numbered_end files router s.from ≡ Some (learnt.at, learnt.end)
      found =
          ap (numbered_end files router) number
          ∙ end_again files limits router learnt.at learnt.end taken.neighbour learnt.is.there learnt.is.own taken.named

  follows : (router : ℕ) (s : BgpShape) → HasMarks tracked s →
      (c : ShapeCandidate) × From router c × (same_shape c.rec s ≡ true) →
      shape_followed tracked files environment slots p router s ≡ Some s
  follows router s has (c, inl own, same) =
      let from = in-map (bgp_shape tracked) (own_routes files slots p router) c.rec own in
      let marks = subst (HasMarks tracked) (sym from.2) (has_marks tracked from.0) in
      follow_local router s has
      (subst (λ t. In t (map (bgp_shape tracked) (own_routes files slots p router)))
      (one_shape tracked c.rec s marks has same) own)
  follows router s has (c, inr learnt, same) =
      let marks = (taken_here router c learnt).marks (message_marks learnt.at learnt.end learnt.message learnt.arrived) in
      follow_learnt router s c (one_shape tracked c.rec s marks has same) learnt

  pub all_follow : AllFollow tracked files environment slots p
  all_follow router s holds =
      let slot = chained (λ (x : ShapeSlot). x.bgp) (slots router) s holds in
      let within = shapes.within router slot.0 slot.1 in
      let file = item_there files router within in
      record {
        within = within;
        marks = shapes.marks router s holds;
        follows = by_process file.0 file.1 file.0.bgp refl
            (sym (ap (is_decided_shape tracked files failures (environment_shape tracked environment) slots router file.0 p)
            slot.2) ∙ shapes.decided router file.0 slot.0 file.1 slot.1);
      }
    where
      by_process : (file : File) → slice_get files router ≡ Some file → (o : Option Bgp) → file.bgp ≡ o →
          is_decided_shape tracked files failures (environment_shape tracked environment) slots router file p (Some s)
          ≡ true →
          shape_followed tracked files environment slots p router s ≡ Some s
      by_process file found None runs decided =
          absurd (let no = sym (ap (λ o. option_map_or (λ (process : Bgp).
          held_shape process.always_compare process.compare_routerid
          (shape_candidates tracked files failures (environment_shape tracked environment) slots router file process p)
          (Some s)) o false) runs) ∙ decided in cc)
      by_process file found (Some process) runs decided =
          follows router s (shapes.marks router s holds)
          (survivor router file process found runs s
          (sym (ap (λ o. option_map_or (λ (process : Bgp).
          held_shape process.always_compare process.compare_routerid
          (shape_candidates tracked files failures (environment_shape tracked environment) slots router file process p)
          (Some s)) o false) runs) ∙ decided))
