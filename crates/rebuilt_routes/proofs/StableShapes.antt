-- The shapes of a stable routing are decided.
use Rattle.std.proofs.Common.{◌≡◌, ℕ, ◌+◌, ◌*◌, ◌<◌, ◌≤◌, ◌⊎◌, inl, inr, Bool, true, not, List, [], length}
use Rattle.std.proofs.Common.{Option, Some, None, refl, sym, ap, ◌∙◌, subst, arith, is_some}
use Rattle.std.specs.Prelude.{All, MatchOption, option_map, slice_get}
use Rattle.std.specs.List.{list_all}
use Rattle.std.specs.Option.{option_map_or}
use Rattle.std.proofs.lemmas.List.Elements.{All-contains, All-nil, All-weaker}
use Rattle.std.proofs.lemmas.Option.{slice_get_within}
use Rattle.mw_text.specs.declared.address.Addr.{Addr}
use Rattle.mw_text.specs.declared.address.Prefix.{Prefix}
use Rattle.mw_text.specs.Address.{prefix_at}
use Rattle.mw_text.proofs.Lists.{item_there}
use Rattle.ios_ast.specs.declared.bgp.Bgp.{Bgp}
use Rattle.ios_ast.specs.declared.file.File.{File}
use Rattle.ios_ast.specs.Limits.{keeps_limits}
use Rattle.route_record.specs.declared.BgpRec.{BgpRec}
use Rattle.route_record.specs.declared.Environment.{Environment}
use Rattle.route_record.specs.declared.Failures.{Failures}
use Rattle.route_record.specs.declared.Slot.{Slot}
use Rattle.route_record.specs.declared.Tables.{Tables}
use Rattle.route_record.specs.declared.TheConstants.{LENGTHS}
use Rattle.route_record.specs.declared.tracked.Tracked.{Tracked}
use Rattle.route_record.specs.Places.{slot_at}
use Rattle.net_interfaces.proofs.Options.{chained, if_is}
use Rattle.net_parts.specs.Decisions.{Candidate, DecidedByBgp, candidates, key_of, survivors}
use Rattle.net_parts.specs.Origins.{local_routes}
use Rattle.net_parts.specs.Stable.{IsDecided, Stable}
use Rattle.net_parts.specs.Tracked.{TracksNet}
use Rattle.route_shapes.specs.Bgp.{bgp_shape}
use Rattle.bgp_shapes.specs.Candidates.{ShapeSlot, environment_shape, shape_candidates, slot_shape}
use Rattle.bgp_shapes.specs.Candidates.{slots_shape}
use Rattle.bgp_shapes.specs.Held.{HasMarks, held_shape}
use Rattle.bgp_shapes.specs.Lengths.{IsShort}
use Rattle.bgp_shapes.proofs.CandidateLaw.{candidates_shape}
use Rattle.bgp_shapes.proofs.HeldLaw.{held_complete}
use Rattle.bgp_shapes.proofs.TrackedLaw.{tests_tracked}
use Rattle.rebuilt_routes.specs.Clusters.{HasBoundedLists, IsKeptBySessions, NamesReflectorsOnce}
use Rattle.rebuilt_routes.specs.Deciding.{AreDecidedShapes, is_decided_shape}
use Rattle.rebuilt_routes.proofs.Plain.{IsPlain, locals_plain}
use Rattle.rebuilt_routes.proofs.ReflectorsOnce.{IsRouteTaken, IsUnlooped, all_unlooped, heard_unlooped, once_named}
use Rattle.rebuilt_routes.proofs.ReflectorsOnce.{route_taken_parts}
use Rattle.rebuilt_routes.proofs.RealSources.{all_members}
use Rattle.rebuilt_routes.proofs.Sources.{IsCandidateFrom, IsLearntRoute, arriving_in, candidates_have_sources}
use Rattle.rebuilt_routes.proofs.Sources.{routes_in, survivors_all}
use Rattle.rebuilt_routes.proofs.Supported.{IsAnnounced, IsHeardRoute, arrived_from, has_marks, supported}
use Rattle.net_parts.specs.Exports.{imported}
use Rattle.mw_text.specs.Members.{In}
use Rattle.mw_text.proofs.Found.{mapped}

module _ (files : List File) (destination : Addr) (failures : Failures) (environment : Environment) (tables : Tables)
    (stable : Stable files destination failures environment tables) (len : ℕ) (below : len < LENGTHS) where
  abbrev p : Prefix
  p = prefix_at destination len

  abbrev routes : ℕ → Option BgpRec
  routes = routes_in tables p

  slot_router : (router : ℕ) (slot : Slot) → slot_at tables router len ≡ Some slot → router < length files
  slot_router router slot there =
      let place = slice_get_within tables.slots (LENGTHS * router + len) slot there in
      let size = stable.size in
      omega (arith, place, size)

  abbrev own : ℕ → File → Bgp → List BgpRec
  own router file process = option_map_or (local_routes files router file process p) (slot_at tables router len) []

  -- a local route of a router, which runs BGP
  pub record IsOwn (router : ℕ) (rec : BgpRec) : Type 0 where
    pub file : File
    pub process : Bgp
    pub slot : Slot
    pub there : slice_get files router ≡ Some file
    pub runs : file.bgp ≡ Some process
    pub holds : slot_at tables router len ≡ Some slot
    pub is : In rec (local_routes files router file process p slot)

  own_all_plain : (router : ℕ) (file : File) (process : Bgp) → All IsPlain (own router file process)
  own_all_plain router file process = by (slot_at tables router len)
    where
      by : (o : Option Slot) → All IsPlain (option_map_or (local_routes files router file process p) o [])
      by None = All-nil IsPlain
      by (Some slot) = locals_plain files router file process p slot

  own_is : (router : ℕ) (file : File) (process : Bgp) → slice_get files router ≡ Some file →
      file.bgp ≡ Some process → (rec : BgpRec) → In rec (own router file process) → IsOwn router rec
  own_is router file process found runs rec there = by (slot_at tables router len) refl there
    where
      by : (o : Option Slot) → slot_at tables router len ≡ o →
          In rec (option_map_or (local_routes files router file process p) o []) → IsOwn router rec
      by None holds none = absurd none
      by (Some slot) holds is = record {
        file = file;
        process = process;
        slot = slot;
        there = found;
        runs = runs;
        holds = holds;
        is = is;
      }

  heard_from : (router : ℕ) (rec : BgpRec) → IsLearntRoute files failures environment tables p router rec →
      IsHeardRoute files environment p routes router rec
  heard_from router rec learnt = record {
    at = learnt.at;
    end = learnt.end;
    is = learnt.is;
    message = learnt.message;
    arrived = sym (arriving_in files environment tables p learnt.at learnt.end) ∙ learnt.arrived;
    taken = learnt.taken;
  }

  -- ---- where a held route comes from

  abbrev all : ℕ → File → Bgp → List Candidate
  all router file process = candidates files failures environment tables router file process p

  left_from : (router : ℕ) (file : File) (process : Bgp) →
      All (IsCandidateFrom files failures environment tables p router (own router file process))
      (survivors process.always_compare process.compare_routerid (all router file process))
  unfolding survivors
  left_from router file process =
      survivors_all (IsCandidateFrom files failures environment tables p router (own router file process)) key_of
      process.always_compare process.compare_routerid (all router file process)
      (candidates_have_sources files failures environment tables p router file process)

  decided_from : (router : ℕ) (file : File) → slice_get files router ≡ Some file → (rec : BgpRec) →
      IsDecided files failures environment tables router file p (Some rec) →
      IsOwn router rec ⊎ IsHeardRoute files environment p routes router rec
  unfolding DecidedByBgp
  decided_from router file found rec decided = by file.bgp refl decided
    where
      by : (o : Option Bgp) → file.bgp ≡ o →
          MatchOption o (Some rec ≡ None)
          (λ process. DecidedByBgp files failures environment tables router file process p (Some rec)) →
          IsOwn router rec ⊎ IsHeardRoute files environment p routes router rec
      by None runs none = absurd cc
      by (Some process) runs (k, c, within, is, same) =
          by_source (All-contains (IsCandidateFrom files failures environment tables p router (own router file process))
          (survivors process.always_compare process.compare_routerid (all router file process)) c
          (left_from router file process) (k, within, is))
        where
          by_source : IsCandidateFrom files failures environment tables p router (own router file process) c →
              IsOwn router rec ⊎ IsHeardRoute files environment p routes router rec
          by_source (inl (there, made)) =
              inl (own_is router file process found runs rec
              (subst (λ r. In r (own router file process)) same there))
          by_source (inr learnt) =
              inr (heard_from router rec
              (subst (IsLearntRoute files failures environment tables p router) same learnt))

  pub held_source : (router : ℕ) (rec : BgpRec) → routes router ≡ Some rec →
      IsOwn router rec ⊎ IsHeardRoute files environment p routes router rec
  held_source router rec holds =
      let slot = chained (λ (x : Slot). x.bgp) (slot_at tables router len) rec holds in
      let file = item_there files router (slot_router router slot.0 slot.1) in
      let equations = stable.equations router len file.0 slot.0 file.1 below slot.1 in
      decided_from router file.0 file.1 rec
      (subst (IsDecided files failures environment tables router file.0 p) slot.2 equations.bgp)

  plain_own : (router : ℕ) (rec : BgpRec) → IsOwn router rec → IsPlain rec
  plain_own router rec is =
      all_members IsPlain (local_routes files router is.file is.process p is.slot)
      (locals_plain files router is.file is.process p is.slot) rec is.is

  plain_source : (router : ℕ) (rec : BgpRec) → routes router ≡ Some rec →
      IsPlain rec ⊎ IsHeardRoute files environment p routes router rec
  plain_source router rec holds = by (held_source router rec holds)
    where
      by : IsOwn router rec ⊎ IsHeardRoute files environment p routes router rec →
          IsPlain rec ⊎ IsHeardRoute files environment p routes router rec
      by (inl is) = inl (plain_own router rec is)
      by (inr heard) = inr heard

  module _ (tracked : Tracked) (net : TracksNet files tracked) (limits : list_all keeps_limits files ≡ true) where
    -- ---- clusters

    unlooped : (router : ℕ) (rec : BgpRec) → routes router ≡ Some rec → IsUnlooped tracked files router rec
    unlooped = all_unlooped files environment p tracked net limits routes plain_source

    pub reflectors_once : (router : ℕ) (rec : BgpRec) → routes router ≡ Some rec → NamesReflectorsOnce tracked rec
    reflectors_once router rec holds = once_named tracked files router rec (unlooped router rec holds)

    pub lists_bounded : (router : ℕ) (rec : BgpRec) → routes router ≡ Some rec → HasBoundedLists tracked rec
    lists_bounded router rec holds = record {
      clusters = reflectors_once router rec holds;
      path = by (plain_source router rec holds);
      reflected = (unlooped router rec holds).first;
    }
      where
        by : IsPlain rec ⊎ IsHeardRoute files environment p routes router rec → length rec.path ≤ 255
        by (inl plain) = let none = ap length plain.path in omega (arith, none)
        by (inr heard) =
            (if_is (IsRouteTaken files heard.end heard.message) (imported files heard.end p heard.message) rec
            (route_taken_parts files heard.end p heard.message) heard.taken).few

    -- ---- what is kept by sessions

    pub kept_held : (P : ℕ → BgpRec → Bool) → ((router : ℕ) (rec : BgpRec) → IsOwn router rec → P router rec ≡ true) →
        IsKeptBySessions files environment p P → (router : ℕ) (rec : BgpRec) → routes router ≡ Some rec →
        P router rec ≡ true
    kept_held P locals keeps =
        supported files environment p tracked net limits routes IsOwn plain_own held_source
        (λ router rec. P router rec ≡ true) locals by_said (λ router rec heard from behind.
        subst (λ r. P r rec ≡ true) heard.is.own
        (keeps.sent heard.at from.far_at heard.end from.far from.held heard.message rec heard.is.there from.reached
        from.there from.sends heard.taken behind))
      where
        by_said : (router : ℕ) (rec : BgpRec) (heard : IsHeardRoute files environment p routes router rec) →
            IsAnnounced files environment p heard.at heard.end heard.message → P router rec ≡ true
        by_said router rec heard said =
            subst (λ r. P r rec ≡ true) heard.is.own
            (keeps.announced heard.at heard.end said.neighbour said.announcement rec heard.is.there said.outside
            said.named said.says (ap (imported files heard.end p) said.is ∙ heard.taken))

    -- ---- shapes

    short_from : (router : ℕ) (file : File) (process : Bgp) (c : Candidate) →
        IsCandidateFrom files failures environment tables p router (own router file process) c → IsShort c
    short_from router file process c (inl (there, is)) =
        let plain = all_members IsPlain (own router file process) (own_all_plain router file process) c.rec there in
        let path = ap length plain.path in
        let clusters = ap length plain.clusters in
        record { path = omega (arith, path); clusters = omega (arith, clusters) }
    short_from router file process c (inr learnt) =
        let heard = heard_from router c.rec learnt in
        let once = once_named tracked files router c.rec
        (heard_unlooped files environment p tracked net routes unlooped router c.rec heard
        (arrived_from files environment p routes heard.at heard.end heard.message heard.arrived)) in
        let few = once.few in
        let most = net.few_clusters in
        let path = (if_is (IsRouteTaken files heard.end heard.message) (imported files heard.end p heard.message) c.rec
        (route_taken_parts files heard.end p heard.message) heard.taken).few in
        record { path = omega (arith, path); clusters = omega (arith, few, most) }

    all_short : (router : ℕ) (file : File) (process : Bgp) → All IsShort (all router file process)
    all_short router file process =
        All-weaker (IsCandidateFrom files failures environment tables p router (own router file process)) IsShort
        (short_from router file process) (all router file process)
        (candidates_have_sources files failures environment tables p router file process)

    decided_shape : (router : ℕ) (file : File) → (held : Option BgpRec) →
        IsDecided files failures environment tables router file p held →
        is_decided_shape tracked files failures (environment_shape tracked environment) (slots_shape tracked tables len)
        router file p (option_map (bgp_shape tracked) held) ≡ true
    unfolding DecidedByBgp
    decided_shape router file held decided = by file.bgp decided
      where
        by : (o : Option Bgp) → MatchOption o (held ≡ None)
            (λ process. DecidedByBgp files failures environment tables router file process p held) →
            option_map_or (λ (process : Bgp). held_shape process.always_compare process.compare_routerid
            (shape_candidates tracked files failures (environment_shape tracked environment)
            (slots_shape tracked tables len) router file process p) (option_map (bgp_shape tracked) held)) o
            (not (is_some (option_map (bgp_shape tracked) held))) ≡ true
        by None none = ap (λ o. not (is_some (option_map (bgp_shape tracked) o))) none
        by (Some process) decided =
            ap (λ cs. held_shape process.always_compare process.compare_routerid cs (option_map (bgp_shape tracked) held))
            (sym (candidates_shape tracked files failures environment tables router file process p
            (tests_tracked files tracked net)))
            ∙ held_complete tracked process.always_compare process.compare_routerid (all router file process) held
            (all_short router file process) decided

    pub shapes_decided : AreDecidedShapes tracked files failures (environment_shape tracked environment)
        (slots_shape tracked tables len) p
    shapes_decided = record {
      within = λ router slot there.
          let real = mapped (slot_shape tracked) (slot_at tables router len) slot there in
          slot_router router real.0 real.1;
      marks = λ router s holds.
          let slot = chained (λ (x : ShapeSlot). x.bgp) (slots_shape tracked tables len router) s holds in
          let real = mapped (slot_shape tracked) (slot_at tables router len) slot.0 slot.1 in
          let route = mapped (bgp_shape tracked) real.0.bgp s (ap (λ (x : ShapeSlot). x.bgp) real.2 ∙ slot.2) in
          subst (HasMarks tracked) route.2 (has_marks tracked route.0);
      decided = λ router file slot found there.
          let real = mapped (slot_shape tracked) (slot_at tables router len) slot there in
          ap (is_decided_shape tracked files failures (environment_shape tracked environment)
          (slots_shape tracked tables len) router file p) (ap (λ (x : ShapeSlot). x.bgp) (sym real.2))
          ∙ decided_shape router file real.0.bgp (stable.equations router len file real.0 found below real.1).bgp;
    }
