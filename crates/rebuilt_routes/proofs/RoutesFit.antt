-- The routes that are followed back from shapes fit their fields where the numbers of the shapes do.
use Rattle.std.proofs.Common.{◌≡◌, ℕ, ◌<◌, ◌^◌, ◌==◌, ◌&&◌, true, List, [], ◌∷◌}
use Rattle.std.proofs.Common.{Option, Some, None, refl, sym, ap, ◌∙◌, subst, arith}
use Rattle.std.specs.Prelude.{All, IfSome, option_map, slice_get}
use Rattle.std.specs.List.{find, list_all}
use Rattle.std.specs.Option.{option_map_or}
use Rattle.std.proofs.lemmas.Bool.{and_parts}
use Rattle.std.proofs.lemmas.List.Elements.{All-cons, All-head, All-nil, All-tail, All-weaker}
use Rattle.mw_text.specs.Members.{In}
use Rattle.mw_text.specs.declared.address.Addr.{Addr}
use Rattle.mw_text.specs.declared.address.Prefix.{Prefix}
use Rattle.ios_ast.specs.declared.bgp.Bgp.{Bgp}
use Rattle.ios_ast.specs.declared.file.File.{File}
use Rattle.ios_ast.specs.Deciding.{carries}
use Rattle.ios_ast.specs.Limits.{keeps_limits}
use Rattle.route_record.specs.declared.Announcement.{Announcement}
use Rattle.route_record.specs.declared.BgpRec.{BgpRec}
use Rattle.route_record.specs.declared.Environment.{Environment}
use Rattle.route_record.specs.declared.Learnt.{Learnt}
use Rattle.route_record.specs.declared.Learnt.TheVariants.{Local, Peer}
use Rattle.route_record.specs.declared.tracked.Tracked.{Tracked}
use Rattle.route_record.specs.Fits.{FitsBgp, FitsLearnt, IsAddress, IsWord}
use Rattle.net_interfaces.proofs.Members.{in-find}
use Rattle.net_interfaces.proofs.Options.{if_is}
use Rattle.net_parts.specs.Exports.{exported, imported}
use Rattle.net_parts.specs.Origins.{local_routes}
use Rattle.net_parts.specs.Tracked.{TracksNet, numbers_of}
use Rattle.net_parts.specs.World.{IsAnnouncement, IsAsNumber, IsEnvironment}
use Rattle.route_shapes.specs.Bgp.{BgpShape, address_number, bgp_shape, learnt_number}
use Rattle.bgp_shapes.specs.Candidates.{ShapeSlot}
use Rattle.bgp_shapes.specs.Tracking.{TracksTests}
use Rattle.bgp_shapes.proofs.TrackedLaw.{tests_tracked}
use Rattle.rebuilt_routes.specs.Following.{AllFollow, held_at, own_routes, real_routes, slot_with}
use Rattle.rebuilt_routes.specs.Words.{HasWordNumbers, HasWordValues}
use Rattle.rebuilt_routes.proofs.Followed.{are_real}
use Rattle.rebuilt_routes.proofs.RealSources.{all_members, own_is_plain, plain_source, source}
use Rattle.rebuilt_routes.proofs.ReflectorsOnce.{all_unlooped}
use Rattle.rebuilt_routes.proofs.Supported.{supported}
use Rattle.rebuilt_routes.proofs.Words.{IsWordMessage, IsWordRoute, exported_words, imported_words, locals_words, word_of}

module _ (tracked : Tracked) (files : List File) (environment : Environment) (slots : ℕ → Option ShapeSlot) (p : Prefix)
    (net : TracksNet files tracked) (limits : list_all keeps_limits files ≡ true)
    (follow : AllFollow tracked files environment slots p) (values : HasWordValues tracked files)
    (may : IsEnvironment files environment) where
  abbrev routes : ℕ → Option BgpRec
  routes = real_routes tracked files environment slots p

  -- local routes
  own_words : (router : ℕ) → All IsWordRoute (own_routes files slots p router)
  own_words router = by_file (slice_get files router) refl
    where
      by_slot : (file : File) (process : Bgp) → slice_get files router ≡ Some file → (o : Option ShapeSlot) →
          All IsWordRoute (option_map_or (λ slot. local_routes files router file process p (slot_with None slot)) o [])
      by_slot file process found None = All-nil IsWordRoute
      by_slot file process found (Some slot) =
          locals_words files router file process p (slot_with None slot) (values.sets router file found)

      by_process : (file : File) → slice_get files router ≡ Some file → (o : Option Bgp) →
          All IsWordRoute (option_map_or (λ (b : Bgp). option_map_or (λ (slot : ShapeSlot).
          local_routes files router file b p (slot_with None slot)) (slots router) []) o [])
      by_process file found None = All-nil IsWordRoute
      by_process file found (Some process) = by_slot file process found (slots router)

      by_file : (o : Option File) → slice_get files router ≡ o →
          All IsWordRoute (option_map_or (λ (f : File). option_map_or (λ (b : Bgp). option_map_or (λ (slot : ShapeSlot).
          local_routes files router f b p (slot_with None slot)) (slots router) []) f.bgp []) o [])
      by_file None found = All-nil IsWordRoute
      by_file (Some file) found = by_process file found file.bgp

  -- announcements
  said_words : (at : ℕ) (a : Announcement) →
      find (λ (a : Announcement). (a.end == at) && (a.len == p.len)) environment.announced ≡ Some a →
      (All IsWord a.path) × (All IsWord a.communities)
  said_words at a says =
      let is = all_members (IsAnnouncement files) environment.announced may.announced a
      (in-find (λ (a : Announcement). (a.end == at) && (a.len == p.len)) environment.announced a says) in
      (All-weaker IsAsNumber IsWord (λ n number. number.1) a.path is.path.1, is.communities.1)

  words : (router : ℕ) (rec : BgpRec) → routes router ≡ Some rec → IsWordRoute rec
  words =
      supported files environment p tracked net limits routes (λ router rec. In rec (own_routes files slots p router))
      (own_is_plain tracked files environment slots p net follow) (source tracked files environment slots p net follow)
      (λ router rec. IsWordRoute rec)
      (λ router rec there. all_members IsWordRoute (own_routes files slots p router) (own_words router) rec there)
      (λ router rec heard said. let says = said_words heard.at said.announcement said.says in
      if_is IsWordRoute (imported files heard.end p heard.message) rec
      (imported_words tracked files values tests heard.end p heard.message
      (subst IsWordMessage said.is (record { path = says.0; communities = says.1 }))) heard.taken)
      (λ router rec heard from behind.
      if_is IsWordRoute (imported files heard.end p heard.message) rec
      (imported_words tracked files values tests heard.end p heard.message
      (if_is IsWordMessage (exported files from.far p from.held) heard.message
      (exported_words tracked files values tests from.far p from.held behind) from.sends)) heard.taken)
    where
      tests : TracksTests files tracked
      tests = tests_tracked files tracked net

  -- clusters
  cluster_words : (cs : List Addr) → list_all (carries (numbers_of tracked.clusters)) (numbers_of cs) ≡ true →
      All IsAddress cs
  cluster_words [] all = All-nil IsAddress
  cluster_words (c ∷ cs) all =
      let both = and_parts (carries (numbers_of tracked.clusters) c.0)
      (list_all (carries (numbers_of tracked.clusters)) (numbers_of cs)) all in
      All-cons IsAddress c cs (word_of tracked files values (tests_tracked files tracked net)
      (numbers_of tracked.clusters) c.0 (numbers tracked.clusters values.clusters) both.0) (cluster_words cs both.1)
    where
      numbers : (ts : List Addr) → All IsAddress ts → All IsWord (numbers_of ts)
      numbers [] each = All-nil IsWord
      numbers (t ∷ ts) each =
          All-cons IsWord t.0 (numbers_of ts) (All-head IsAddress t ts each)
          (numbers ts (All-tail IsAddress t ts each))

  pub route_fits : ((router : ℕ) (s : BgpShape) → held_at slots router ≡ Some s → HasWordNumbers s) →
      (router : ℕ) (rec : BgpRec) → routes router ≡ Some rec → FitsBgp rec
  route_fits numbers router rec holds =
      let lists = words router rec holds in
      let unlooped = all_unlooped files environment p tracked net limits routes
      (plain_source tracked files environment slots p net follow) router rec holds in
      let fits = numbers router (bgp_shape tracked rec) shape in
      let from = fits.from in
      let originator = fits.originator in
      record {
        from = by_from rec.from from;
        weight = fits.weight;
        local_pref = fits.local_pref;
        path = lists.path;
        med = fits.med;
        communities = lists.communities;
        next_hop = fits.next_hop;
        originator = by_originator rec.originator originator;
        clusters = cluster_words rec.clusters unlooped.all;
      }
    where
      shape : held_at slots router ≡ Some (bgp_shape tracked rec)
      shape =
          sym ((are_real tracked files environment slots p net follow).shaped router)
          ∙ ap (option_map (bgp_shape tracked)) holds

      by_from : (l : Learnt) → learnt_number l < 2 ^ 33 → FitsLearnt l
      by_from Local small = tt
      by_from (Peer a) small = omega (arith, small)

      by_originator : (o : Option Addr) → address_number o < 2 ^ 33 → IfSome o IsAddress
      by_originator None small = tt
      by_originator (Some a) small = omega (arith, small)
