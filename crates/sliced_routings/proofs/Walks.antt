-- Walks are the same when routes are moved and every router keeps its longest prefix.
use Rattle.std.proofs.Common.{◌≡◌, ℕ, zero, suc, ◌*◌, ◌<◌, ◌≤◌, false, eqb, cond, List, [], ◌∷◌}
use Rattle.std.proofs.Common.{length}
use Rattle.std.proofs.Common.{Option, Some, None, inl, inr, refl, sym, ap, subst, arith, ◌∙◌}
use Rattle.std.specs.Prelude.{◌⊎◌, ◌≢◌, ◌==◌, All, filter, map, slice_get, option_map, option_and_then}
use Rattle.std.specs.List.{flat_map, list_any}
use Rattle.std.specs.Option.{option_map_or}
use Rattle.std.proofs.lemmas.Bool.{cases_lt}
use Rattle.std.proofs.lemmas.Option.{same_Some}
use Rattle.mw_text.specs.declared.address.Prefix.{Prefix}
use Rattle.mw_text.specs.Address.{prefix_at, same_prefix}
use Rattle.mw_text.proofs.Found.{none_found}
use Rattle.ios_ast.specs.declared.file.File.{File}
use Rattle.ios_ast.specs.declared.file.StaticRoute.{StaticRoute}
use Rattle.route_record.specs.declared.Failures.{Failures}
use Rattle.route_record.specs.declared.RibEntry.{RibEntry}
use Rattle.route_record.specs.declared.RibSource.{RibSource}
use Rattle.route_record.specs.declared.RibSource.TheVariants.{Connected, Static, Ebgp, Ospf, Ibgp}
use Rattle.route_record.specs.declared.Slot.{Slot}
use Rattle.route_record.specs.declared.Tables.{Tables}
use Rattle.route_record.specs.declared.TheConstants.{LENGTHS}
use Rattle.route_record.specs.declared.World.{World}
use Rattle.route_record.specs.Places.{slot_at}
use Rattle.net_interfaces.specs.declared.interfaces.Addressed.{Addressed}
use Rattle.net_parts.specs.Ospf.{up_adjacencies}
use Rattle.net_parts.specs.OspfRoutes.{extended}
use Rattle.net_parts.specs.Routing.{static_routes, up_interfaces}
use Rattle.net_parts.specs.Sending.{same_record, sent_by_ospf}
use Rattle.question_lang.specs.declared.question.Kind.{Kind}
use Rattle.question_lang.specs.declared.question.Kind.TheVariants.{Reach, Isolate, Waypoint, NoLoop, NoBlackHole}
use Rattle.question_lang.specs.declared.question.Kind.TheVariants.{Within, Alike, NoStable}
use Rattle.question_lang.specs.declared.question.Start.{Start}
use Rattle.question_lang.specs.declared.question.Target.{Target}
use Rattle.question_lang.specs.declared.question.Target.TheVariants.{Router, Subnet, Peer}
use Rattle.question_lang.specs.declared.walk.End.{End}
use Rattle.question_lang.specs.declared.walk.End.TheVariants.{Delivered, Left, NoRoute, Discarded, DeniedIn, DeniedOut}
use Rattle.question_lang.specs.declared.walk.End.TheVariants.{Loop, Open}
use Rattle.question_lang.specs.declared.walk.Hop.TheVariants.{Ends}
use Rattle.question_lang.specs.declared.walk.Walk.{Walk}
use Rattle.question_lang.specs.Breaking.{BeginsAt, Breaks, BreaksBy, EndsAt, NoneArrives, at_router}
use Rattle.question_lang.specs.Hops.{all_up, connected_hops, entry_at, entry_hops, hops_over, longest_below, next_hops}
use Rattle.question_lang.specs.Hops.{arrive, depart, owner_on, ospf_hops, send_adjacent, static_hops}
use Rattle.question_lang.specs.Walks.{GoesOn, IsWalk, IsWalkOver, MayBegin}
use Rattle.plan_places.specs.Tables.{empty_slot}
use Rattle.alike_prefixes.specs.Alike.{IsBare}
use Rattle.alike_prefixes.specs.Moving.{ArePlain, IsMove, moved_tables}
use Rattle.alike_prefixes.proofs.Moved.{slot_emptied, slot_moved}

-- ---- the longest entry

-- the entry of the longest prefix below n, if there is one
abbrev pub NoneFrom : Tables → ℕ → ℕ → ℕ → Type 0
NoneFrom tables router from n = (k : ℕ) → from ≤ k → k < n → entry_at tables router k ≡ None

longest_is : (tables : Tables) (router n l : ℕ) (f : Slot × RibEntry) → l < n → entry_at tables router l ≡ Some f →
    NoneFrom tables router (suc l) n → longest_below tables router n ≡ Some (l, f.0, f.1)
unfolding longest_below
longest_is tables router zero l f below here none = absurd (omega arith)
longest_is tables router (suc n) l f below here none = by (cases_lt l n) (λ deeper.
    longest_is tables router n l f deeper here (λ k past short. none k past (omega (arith, short))))
  where
    by : (l < n) ⊎ (n ≤ l) → (l < n → longest_below tables router n ≡ Some (l, f.0, f.1)) →
        longest_below tables router (suc n) ≡ Some (l, f.0, f.1)
    by (inl deeper) rest =
        ap (λ o. option_map_or (λ found. Some (n, found.0, found.1)) o (longest_below tables router n))
        (none n (omega (arith, deeper)) (omega arith))
        ∙ rest deeper
    by (inr last) rest =
        let e : n ≡ l = omega (arith, last, below) in
        ap (λ k. option_map_or (λ found. Some (k, found.0, found.1)) (entry_at tables router k)
        (longest_below tables router n)) e
        ∙ ap (λ o. option_map_or (λ found. Some (l, found.0, found.1)) o (longest_below tables router n)) here

pub longest_none : (tables : Tables) (router n : ℕ) → NoneFrom tables router 0 n → longest_below tables router n ≡ None
unfolding longest_below
longest_none tables router zero none = refl
longest_none tables router (suc n) none =
    ap (λ o. option_map_or (λ found. Some (n, found.0, found.1)) o (longest_below tables router n))
    (none n (omega arith) (omega arith))
    ∙ longest_none tables router n (λ k past short. none k past (omega (arith, short)))

record Longest (tables : Tables) (router n : ℕ) : Type 0 where
  len : ℕ
  found : Slot × RibEntry
  below : len < n
  here : entry_at tables router len ≡ Some found
  none : NoneFrom tables router (suc len) n

longest_cases : (tables : Tables) (router n : ℕ) → NoneFrom tables router 0 n ⊎ Longest tables router n
longest_cases tables router zero = inl (λ k past short. absurd (omega (arith, short)))
longest_cases tables router (suc n) = by (entry_at tables router n) refl (longest_cases tables router n) where
  last : (from : ℕ) → entry_at tables router n ≡ None → NoneFrom tables router from n →
      NoneFrom tables router from (suc n)
  last from gone none k past short = choose (cases_lt k n) where
    choose : (k < n) ⊎ (n ≤ k) → entry_at tables router k ≡ None
    choose (inl less) = none k past less
    choose (inr more) = let e : n ≡ k = omega (arith, more, short) in subst (λ m. entry_at tables router m
        ≡ None) e gone

  by : (o : Option (Slot × RibEntry)) → entry_at tables router n ≡ o →
      NoneFrom tables router 0 n ⊎ Longest tables router n → NoneFrom tables router 0 (suc n) ⊎ Longest tables router
      (suc n)
  by (Some f) here rest = inr (record {
    len = n;
    found = f;
    below = omega arith;
    here = here;
    none = λ k past short. absurd (omega (arith, past, short));
  })
  by None gone (inl none) = inl (last 0 gone none)
  by None gone (inr longer) = inr (record {
    len = longer.len;
    found = longer.found;
    below = omega (arith, longer.below);
    here = longer.here;
    none = last (suc longer.len) gone longer.none;
  })

module _ (files : List File) (world : World) (to from : ℕ → Option ℕ) (moves : IsMove files world.packet.dst to from)
    (size : length world.tables.slots ≡ LENGTHS * length files) where
  abbrev pub after : Tables
  after = moved_tables files from world.tables

  abbrev pub moved : World
  moved = record world { tables = after }

  entry_moved : (l m router : ℕ) → to l ≡ Some m → entry_at after router m ≡ entry_at world.tables router l
  entry_moved l m router goes = λ i. option_and_then (λ slot. option_map (λ entry. (slot, entry)) slot.rib)
      (sym (slot_moved files world.packet.dst to from moves world.tables size l m router goes) i)

  entry_emptied : (m router : ℕ) → m < LENGTHS → from m ≡ None → entry_at after router m ≡ None
  entry_emptied m router short none = by (slot_at after router m)
      (slot_emptied files world.packet.dst to from moves world.tables size m router)
    where
      paired : Slot → Option (Slot × RibEntry)
      paired slot = option_map (λ entry. (slot, entry)) slot.rib

      by : (o : Option Slot) → ((slot : Slot) → m < LENGTHS → from m ≡ None → o ≡ Some slot → slot ≡ empty_slot) →
          option_and_then paired o ≡ None
      by None empty = refl
      by (Some slot) empty =
          ap paired (empty slot short none refl)

  -- ---- the hops of one entry

  connected_none : (failures : Failures) (router : ℕ) (up : List Addressed) (p : Prefix) → IsBare files p →
      connected_hops files world.packet up (up_interfaces files failures router) p ≡ []
  connected_none failures router up p bare =
      ap (λ o. option_map_or (λ out. depart files world.packet out.id (option_map_or (arrive files world.packet)
      (owner_on up p world.packet.dst) (Ends Delivered)) ∷ []) o [])
      (none_found (λ x. same_prefix x.subnet p) (up_interfaces files failures router) (bare.direct failures router))

  static_none : (router distance : ℕ) (file : File) (up own : List Addressed) (p : Prefix) → IsBare files p →
      slice_get files router ≡ Some file →
      flat_map (static_hops files world.packet up own)
      (filter (λ (route : StaticRoute). route.distance == distance) (static_routes own file.statics p)) ≡ []
  static_none router distance file up own p bare at =
      ap (λ (routes : List StaticRoute). flat_map (static_hops files world.packet up own)
      (filter (λ route. route.distance == distance) routes)) (bare.statics router file own at)

  ospf_moved : (l m router : ℕ) (slot : Slot) → to l ≡ Some m →
      ospf_hops files moved router (prefix_at world.packet.dst m) slot
      ≡ ospf_hops files world router (prefix_at world.packet.dst l) slot
  unfolding sent_by_ospf
  ospf_moved l m router slot goes = λ i. option_map_or (λ held. map (send_adjacent files world.packet)
      (filter (λ a. option_map_or (same_record held) (option_and_then (extended a.cost) (option_and_then (λ s. s.ospf)
      (sym (slot_moved files world.packet.dst to from moves world.tables size l m a.to.router goes) i))) false)
      (up_adjacencies files world.failures router))) slot.ospf []

  abbrev up : List Addressed
  up = all_up files world.failures

  abbrev own : ℕ → List Addressed
  own router = up_interfaces files world.failures router

  hops_moved : (l m router : ℕ) (file : File) (slot : Slot) (entry : RibEntry) → slice_get files router ≡ Some file →
      to l ≡ Some m →
      entry_hops files moved up (own router) router file (m, slot, entry)
      ≡ entry_hops files world up (own router) router file (l, slot, entry)
  hops_moved l m router file slot entry at goes = by_source entry.source (moves.alike l m goes) where
    by_source : (source : RibSource) → (l ≡ m) ⊎ ArePlain files world.packet.dst l m →
        entry_hops files moved up (own router) router file
        (m, slot, record { source = source; distance = entry.distance })
        ≡ entry_hops files world up (own router) router file
        (l, slot, record { source = source; distance = entry.distance })
    by_source Connected (inl same) =
        ap (λ k. connected_hops files world.packet up (own router) (prefix_at world.packet.dst k)) (sym same)
    by_source Connected (inr both) =
        connected_none world.failures router up (prefix_at world.packet.dst m) both.1
        ∙ sym (connected_none world.failures router up (prefix_at world.packet.dst l) both.0)
    by_source Static (inl same) =
        ap (λ k. flat_map (static_hops files world.packet up (own router))
        (filter (λ (route : StaticRoute). route.distance == entry.distance)
        (static_routes (own router) file.statics (prefix_at world.packet.dst k)))) (sym same)
    by_source Static (inr both) =
        static_none router entry.distance file up (own router) (prefix_at world.packet.dst m) both.1 at
        ∙ sym (static_none router entry.distance file up (own router) (prefix_at world.packet.dst l) both.0 at)
    by_source Ebgp either = refl
    by_source Ospf either = ospf_moved l m router slot goes
    by_source Ibgp either = refl

  -- ---- the hops of a router

  -- the longest length of the router goes somewhere
  abbrev pub KeepsLongest : ℕ → Type 0
  KeepsLongest router = (l : ℕ) (slot : Slot) (entry : RibEntry) →
      longest_below world.tables router LENGTHS ≡ Some (l, slot, entry) → (m : ℕ) × (to l ≡ Some m)

  by_longest : (router : ℕ) (file : File) → slice_get files router ≡ Some file → KeepsLongest router →
      option_map_or (entry_hops files moved up (own router) router file) (longest_below after router LENGTHS)
      (Ends NoRoute ∷ [])
      ≡ option_map_or (entry_hops files world up (own router) router file) (longest_below world.tables router LENGTHS)
      (Ends NoRoute ∷ [])
  by_longest router file at keeps = by (longest_cases world.tables router LENGTHS) where
    by : NoneFrom world.tables router 0 LENGTHS ⊎ Longest world.tables router LENGTHS →
        option_map_or (entry_hops files moved up (own router) router file) (longest_below after router LENGTHS)
        (Ends NoRoute ∷ [])
        ≡ option_map_or (entry_hops files world up (own router) router file) (longest_below world.tables router LENGTHS)
        (Ends NoRoute ∷ [])
    by (inl none) =
        ap (λ o. option_map_or (entry_hops files moved up (own router) router file) o (Ends NoRoute ∷ []))
        (longest_none after router LENGTHS none_there)
        ∙ sym (ap (λ o. option_map_or (entry_hops files world up (own router) router file) o (Ends NoRoute ∷ []))
        (longest_none world.tables router LENGTHS none))
      where
        none_there : NoneFrom after router 0 LENGTHS
        none_there m past short = by_from (from m) refl where
          by_from : (o : Option ℕ) → from m ≡ o → entry_at after router m ≡ None
          by_from None gone = entry_emptied m router short gone
          by_from (Some l) comes =
              let goes = moves.back l m comes in
              entry_moved l m router goes ∙ none l (omega arith) (moves.inside l m goes).0
    by (inr longest) =
        ap (λ o. option_map_or (entry_hops files moved up (own router) router file) o (Ends NoRoute ∷ []))
        (longest_is after router LENGTHS m f (moves.inside longest.len m goes).1
        (entry_moved longest.len m router goes ∙ longest.here) none_there)
        ∙ hops_moved longest.len m router file f.0 f.1 at goes
        ∙ sym (ap (λ o. option_map_or (entry_hops files world up (own router) router file) o (Ends NoRoute ∷ [])) was)
      where
        f : Slot × RibEntry
        f = longest.found

        was : longest_below world.tables router LENGTHS ≡ Some (longest.len, f.0, f.1)
        was = longest_is world.tables router LENGTHS longest.len f longest.below longest.here longest.none

        m : ℕ
        m = (keeps longest.len f.0 f.1 was).0

        goes : to longest.len ≡ Some m
        goes = (keeps longest.len f.0 f.1 was).1

        none_there : NoneFrom after router (suc m) LENGTHS
        none_there k past short = by_from (from k) refl where
          by_from : (o : Option ℕ) → from k ≡ o → entry_at after router k ≡ None
          by_from None gone = entry_emptied k router short gone
          by_from (Some j) comes = choose (cases_lt longest.len j) (cases_lt j longest.len) where
            goes' : to j ≡ Some k
            goes' = moves.back j k comes

            choose : (longest.len < j) ⊎ (j ≤ longest.len) → (j < longest.len) ⊎ (longest.len ≤ j) →
                entry_at after router k ≡ None
            choose (inl more) other =
                entry_moved j k router goes' ∙ longest.none j more (moves.inside j k goes').0
            choose (inr less) (inl strictly) =
                let before = moves.order j longest.len k m strictly goes' goes in
                absurd (omega (arith, before, past))
            choose (inr less) (inr more) =
                let e : j ≡ longest.len = omega (arith, less, more) in
                let both : Some k ≡ Some m = sym goes' ∙ ap to e ∙ goes in
                let same : k ≡ m = same_Some k m both in
                absurd (omega (arith, same, past))

  pub next_hops_moved : (router : ℕ) → KeepsLongest router → next_hops files moved router ≡ next_hops files world router
  next_hops_moved router keeps = by (slice_get files router) refl where
    by : (o : Option File) → slice_get files router ≡ o →
        option_map_or (hops_over files moved up (own router) router) o []
        ≡ option_map_or (hops_over files world up (own router) router) o []
    by None none = refl
    by (Some file) at =
        ap (λ hops. cond (list_any (λ (x : Addressed). eqb x.addr.0 world.packet.dst.0) (own router))
        (Ends Delivered ∷ []) hops) (by_longest router file at keeps)

  -- ---- walks, and what breaks

  module _ (keeps : (router : ℕ) → KeepsLongest router) where
    all_hops : next_hops files moved ≡ next_hops files world
    all_hops = λ i. λ router. next_hops_moved router (keeps router) i

    over_same : (stood : List Start) (end : End) → IsWalkOver files moved stood end ≡ IsWalkOver files world stood end
    over_same [] Delivered = refl
    over_same [] (Left a) = refl
    over_same [] NoRoute = refl
    over_same [] Discarded = refl
    over_same [] (DeniedIn at) = refl
    over_same [] DeniedOut = refl
    over_same [] Loop = refl
    over_same [] Open = refl
    over_same (start ∷ rest) end = λ i. MayBegin files world start × GoesOn (all_hops i) [] (start ∷ rest) end

    walk_same : (walk : Walk) → IsWalk files moved walk ≡ IsWalk files world walk
    walk_same walk = over_same walk.hops walk.end

    ends_same : (target : Target) (walk : Walk) → EndsAt files moved target walk ≡ EndsAt files world target walk
    ends_same (Router router) walk = refl
    ends_same (Subnet p) walk = refl
    ends_same (Peer router a) walk = refl

    none_same : (start : Start) (target : Target) →
        NoneArrives files moved start target ≡ NoneArrives files world start target
    none_same start target =
        λ i. (walk : Walk) → walk_same walk i → BeginsAt start walk → ends_same target walk i → ⊥

    by_same : (kind : Kind) (walk : Walk) → BreaksBy files moved kind walk ≡ BreaksBy files world kind walk
    by_same (Reach start target) walk =
        λ i. BeginsAt start walk × (walk.end ≢ Open) × (ends_same target walk i → ⊥)
    by_same (Isolate start target) walk = λ i. BeginsAt start walk × ends_same target walk i
    by_same (Waypoint start target via) walk =
        λ i. BeginsAt start walk × ends_same target walk i × All (λ stood. stood.router ≢ via) walk.hops
    by_same (NoLoop start) walk = refl
    by_same (NoBlackHole start) walk = refl
    by_same (Within most start) walk = refl
    by_same (Alike a b target) walk = λ i. ends_same target walk i
        × ((BeginsAt (at_router a) walk × none_same (at_router b) target i)
        ⊎ (BeginsAt (at_router b) walk × none_same (at_router a) target i))
    by_same NoStable walk = refl

    -- the moved routing breaks a question exactly where the routing does
    pub breaks_same : (kind : Kind) (walk : Option Walk) → Breaks files moved kind walk ≡ Breaks files world kind walk
    breaks_same kind None = refl
    breaks_same kind (Some walk) = λ i. walk_same walk i × by_same kind walk i
