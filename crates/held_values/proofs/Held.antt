-- The numbers of held routes are known, and so are their peers and originators: over each session, and so in each stable routing.
use Rattle.std.proofs.Common.{arith, ◌≡◌, ℕ, ◌<◌, ◌==◌, ◌&&◌, ◌⊎◌, inl, inr, not, Bool, true, false, List, ◌∷◌}
use Rattle.std.proofs.Common.{Option, Some, None, refl, sym, ap, ◌∙◌, subst, if◌then◌else◌}
use Rattle.std.specs.Prelude.{IfSome, length, nat_le, option_and_then, option_map, slice_get, unwrap_or}
use Rattle.std.specs.List.{find, list_all}
use Rattle.std.proofs.lemmas.Bool.{and_parts, eq-eqb, eqb-true, false≢true, or_left, or_right}
use Rattle.std.proofs.lemmas.Map.Keys.{any_passes_from_place}
use Rattle.std.proofs.lemmas.List.FromFn.{get_or-map-range_with_len, length-map-range_with_len}
use Rattle.std.proofs.lemmas.Option.{same_Some, slice_get_within}
use Rattle.mw_text.proofs.Lists.{all_found}
use Rattle.mw_text.specs.declared.address.Addr.{Addr}
use Rattle.mw_text.specs.declared.address.Prefix.{Prefix}
use Rattle.mw_text.specs.Address.{prefix_at}
use Rattle.mw_text.proofs.Found.{find_passes}
use Rattle.ios_ast.specs.declared.bgp.Bgp.{Bgp}
use Rattle.ios_ast.specs.declared.bgp.Neighbour.{Neighbour}
use Rattle.ios_ast.specs.declared.file.File.{File}
use Rattle.ios_ast.specs.Deciding.{carries}
use Rattle.ios_ast.specs.Limits.{keeps_limits}
use Rattle.ios_ast.specs.Maps.{through_map}
use Rattle.ios_ast.specs.Paths.{first_of, last_of}
use Rattle.ios_ast.specs.Setting.{Attributes}
use Rattle.route_record.specs.declared.Announcement.{Announcement}
use Rattle.route_record.specs.declared.BgpMsg.{BgpMsg}
use Rattle.route_record.specs.declared.BgpRec.{BgpRec}
use Rattle.route_record.specs.declared.Environment.{Environment}
use Rattle.route_record.specs.declared.Failures.{Failures}
use Rattle.route_record.specs.declared.Slot.{Slot}
use Rattle.route_record.specs.declared.Tables.{Tables}
use Rattle.route_record.specs.declared.TheConstants.{LENGTHS}
use Rattle.route_record.specs.declared.tracked.Tracked.{Tracked}
use Rattle.route_record.specs.Places.{slot_at}
use Rattle.net_interfaces.proofs.Members.{in-find}
use Rattle.net_interfaces.proofs.Options.{if_is}
use Rattle.net_parts.specs.declared.sessions.Far.{Far}
use Rattle.net_parts.specs.declared.sessions.Far.TheVariants.{Inside, Outside}
use Rattle.net_parts.specs.declared.sessions.SessionEnd.{SessionEnd}
use Rattle.net_parts.specs.Exports.{announced_message, exported, imported, internal_next_hop, learnt_id, learnt_over}
use Rattle.net_parts.specs.Exports.{reflected_originator, router_id}
use Rattle.net_parts.specs.Exports.{external_message, if_short, internal_message, most_numbers, own_address, received}
use Rattle.net_parts.specs.Mapping.{attributes_of, with_attributes}
use Rattle.net_parts.proofs.LeastWalks.{contains-in}
use Rattle.net_parts.specs.Origins.{local_routes}
use Rattle.net_parts.specs.Sessions.{ends_of, is_outside, neighbour_of}
use Rattle.net_parts.specs.Stable.{Stable}
use Rattle.net_parts.specs.Tracked.{TracksNet}
use Rattle.net_parts.specs.World.{IsAnnouncement, IsEnvironment}
use Rattle.bgp_shapes.proofs.EndLaw.{IsAlike, ends_alike}
use Rattle.rebuilt_routes.specs.Clusters.{IsKeptBySessions}
use Rattle.rebuilt_routes.proofs.Crossed.{runs_there}
use Rattle.rebuilt_routes.proofs.Options.{if_found, if_true}
use Rattle.rebuilt_routes.proofs.Plain.{IsPlain, locals_plain}
use Rattle.rebuilt_routes.proofs.RealSources.{all_members}
use Rattle.rebuilt_routes.proofs.ReflectorsOnce.{IsRouteSent, IsRouteTaken, route_sent_parts, route_taken_parts}
use Rattle.rebuilt_routes.proofs.StableShapes.{kept_held}
use Rattle.slot_places.proofs.Members.{any-in}
use Rattle.held_values.specs.declared.numbers.HeldNumber.{HeldNumber}
use Rattle.held_values.specs.declared.numbers.HeldNumber.TheVariants.{Weight, LocalPref, Med, NextHop, FirstAs, LastAs}
use Rattle.held_values.specs.Values.{HasHeldValues, has_peers, is_held_value, is_learnt_among, is_none_or_among, number_of}
use Rattle.held_values.specs.Values.{originators_of, peers_of, router_ids, said_of_neighbour}
use Rattle.held_values.proofs.EndsMeet.{NamesOther, names_far}
use Rattle.held_values.proofs.Lines.{IsKnown, known_lines, known_unsaid, peers_known}
use Rattle.held_values.proofs.Metrics.{slot_metric}
use Rattle.held_values.proofs.Routes.{IsKnownReceived, IsKnownRoute, IsMadeOf, exported_made, imported_known}
use Rattle.held_values.proofs.Routes.{known_front, locals_known}

-- the line of an end is one of the process of its router
line_there : (files : List File) (end : SessionEnd) (file : File) (process : Bgp) (neighbour : Neighbour) →
    slice_get files end.router ≡ Some file → file.bgp ≡ Some process → neighbour_of files end ≡ Some neighbour →
    slice_get process.neighbours end.neighbour ≡ Some neighbour
line_there files end file process neighbour there runs named =
    sym (ap (option_and_then (λ (b : Bgp). slice_get b.neighbours end.neighbour))
    (runs_there files end.router file process there runs)) ∙ named

-- what such a line says is known
line_known : (which : HeldNumber) (files : List File) (end : SessionEnd) (file : File) (process : Bgp)
    (neighbour : Neighbour) → slice_get files end.router ≡ Some file → file.bgp ≡ Some process →
    neighbour_of files end ≡ Some neighbour → IfSome (said_of_neighbour which process neighbour) (IsKnown which files)
line_known which files end file process neighbour there runs named =
    all_found (λ n. IfSome (said_of_neighbour which process n) (IsKnown which files)) process.neighbours end.neighbour
    neighbour (known_lines which files end.router file process there runs).neighbours
    (line_there files end file process neighbour there runs named)

-- the AS number of a neighbour of another AS
other_as : (which : HeldNumber) (files : List File) (n : ℕ) (b : Bool) → b ≡ false →
    IfSome (if b then None else Some n) (IsKnown which files) → IsKnown which files n
other_as which files n true other said = absurd cc
other_as which files n false other said = said

-- a route that is imported is learnt of a neighbour
learnt_peer : (files : List File) (end : SessionEnd) (p : Prefix) (message : BgpMsg) →
    IfSome (imported files end p message) (λ rec. is_learnt_among (peers_of files) rec.from ≡ true)
unfolding imported
learnt_peer files end p message =
    if_found P _ (slice_get files end.router) (λ file there. if_found P _ file.bgp (λ process runs.
    if_found P _ (neighbour_of files end) (λ neighbour named.
    if_true P _ _ (λ passes. by neighbour
    (all_found (λ (n : Neighbour). carries (peers_of files) n.addr.0 ≡ true) process.neighbours end.neighbour neighbour
    (peers_known files end.router file process there runs)
    (line_there files end file process neighbour there runs named))
    (through_map file.policies neighbour.map_in p (not end.internal)
    (attributes_of (received neighbour end message)))))))
  where
    P : BgpRec → Type 0
    P rec = is_learnt_among (peers_of files) rec.from ≡ true

    by : (neighbour : Neighbour) → carries (peers_of files) neighbour.addr.0 ≡ true → (o : Option Attributes) →
        IfSome (option_and_then (λ r. if_short (with_attributes (received neighbour end message) r)) o) P
    by neighbour there None = tt
    by neighbour there (Some r) =
        if_true P (nat_le (length r.path) most_numbers) (Some (with_attributes (received neighbour end message) r))
        (λ few. there)

kept_learnt : (files : List File) (environment : Environment) (p : Prefix) →
    IsKeptBySessions files environment p (λ router rec. is_learnt_among (peers_of files) rec.from)
kept_learnt files environment p = record {
  announced = λ at end neighbour a rec stands outside named says taken.
      if_is P (imported files end p (announced_message neighbour.addr a)) rec
      (learnt_peer files end p (announced_message neighbour.addr a)) taken;
  sent = λ at far_at end far held message rec stands reached far_stands sends taken behind.
      if_is P (imported files end p message) rec (learnt_peer files end p message) taken;
}
  where
    P : BgpRec → Type 0
    P rec = is_learnt_among (peers_of files) rec.from ≡ true

-- ---- originators

module _ (files : List File) where
  abbrev IsKnownOriginator : Option Addr → Type 0
  IsKnownOriginator o = is_none_or_among (originators_of files) o ≡ true

  -- the identifier of a router is one of them
  id_there : (router : ℕ) → router < length files → IsKnownOriginator (Some (router_id files router))
  id_there router below =
      or_right (0 == (router_id files router).0) (carries (router_ids files) (router_id files router).0)
      (any-in (λ n. n == (router_id files router).0) (router_ids files) (router_id files router).0
      (contains-in (router_id files router).0 (router_ids files) (
        router,
        subst (λ k. router < k) (sym (length-map-range_with_len (λ r. (router_id files r).0) 0 (length files))) below,
        get_or-map-range_with_len (λ r. (router_id files r).0) 0 (length files) router router
            (router_id files router).0 below (omega arith),
      )) (eq-eqb (router_id files router).0 (router_id files router).0 refl))

  -- the router of an end is one of the files
  end_below : (at : ℕ) (end : SessionEnd) → slice_get (ends_of files) at ≡ Some end → end.router < length files
  end_below at end there = by (slice_get files end.router) refl is.runs
    where
      is : IsAlike files end
      is = all_found (IsAlike files) (ends_of files) at end (ends_alike files) there

      by : (o : Option File) → slice_get files end.router ≡ o →
          option_and_then (λ (f : File). f.bgp) o ≡ Some is.process → end.router < length files
      by None none runs = absurd cc
      by (Some file) found runs = slice_get_within files end.router file found

  learnt_id_known : (from : SessionEnd) → IsKnownOriginator (learnt_id files from)
  learnt_id_known from = by from.far
    where
      found : (at : ℕ) (o : Option SessionEnd) → slice_get (ends_of files) at ≡ o →
          IsKnownOriginator (option_map (λ (far : SessionEnd). router_id files far.router) o)
      found at None none = refl
      found at (Some far) there = id_there far.router (end_below at far there)

      by : (far : Far) → IsKnownOriginator (learnt_id files (record from { far = far }))
      by Outside = refl
      by (Inside at) = found at (slice_get (ends_of files) at) refl

  reflected_known : (held : BgpRec) (o : Option SessionEnd) → IsKnownOriginator held.originator →
      IsKnownOriginator (reflected_originator files held o)
  reflected_known held None h = h
  reflected_known held (Some from) h = by from.internal
    where
      first : (p q : Option Addr) → IsKnownOriginator p → IsKnownOriginator q →
          IsKnownOriginator (Some (unwrap_or p (unwrap_or q (record { 0 = 0 }))))
      first (Some a) q known other = known
      first None (Some a) known other = other
      first None None known other = refl

      by : (b : Bool) → IsKnownOriginator (if b then Some (unwrap_or held.originator
          (unwrap_or (learnt_id files from) (record { 0 = 0 }))) else held.originator)
      by true = first held.originator (learnt_id files from) h (learnt_id_known from)
      by false = h

  -- a route that is imported has the originator of its message
  taken_originator : (end : SessionEnd) (p : Prefix) (message : BgpMsg) (rec : BgpRec) →
      IsKnownOriginator message.originator → imported files end p message ≡ Some rec → IsKnownOriginator rec.originator
  taken_originator end p message rec known taken =
      subst IsKnownOriginator (sym (if_is (IsRouteTaken files end message) (imported files end p message) rec
      (route_taken_parts files end p message) taken).originator) known

  sent_originator : (end : SessionEnd) (p : Prefix) (held : BgpRec) (message : BgpMsg) →
      IsKnownOriginator held.originator → exported files end p held ≡ Some message →
      IsKnownOriginator message.originator
  sent_originator end p held message known sends =
      by (if_is (IsRouteSent files end held) (exported files end p held) message (route_sent_parts files end p held)
      sends)
    where
      by : IsRouteSent files end held message → IsKnownOriginator message.originator
      by (inl none) = subst IsKnownOriginator (sym none.originator) refl
      by (inr sent) =
          subst IsKnownOriginator (sym sent.originator)
          (reflected_known held (learnt_over files end.router held.from) known)

  kept_originator : (environment : Environment) (p : Prefix) →
      IsKeptBySessions files environment p (λ router rec. is_none_or_among (originators_of files) rec.originator)
  kept_originator environment p = record {
    announced = λ at end neighbour a rec stands outside named says taken.
        taken_originator end p (announced_message neighbour.addr a) rec refl taken;
    sent = λ at far_at end far held message rec stands reached far_stands sends taken behind.
        taken_originator end p message rec (sent_originator far p held message behind sends) taken;
  }

-- ---- numbers

-- announcements can end in any AS number and have any MED
abbrev IsSaid : HeldNumber → List File → Type 0
IsSaid Weight files = Unit {0}
IsSaid LocalPref files = Unit {0}
IsSaid Med files = has_peers files ≡ false
IsSaid NextHop files = Unit {0}
IsSaid FirstAs files = Unit {0}
IsSaid LastAs files = has_peers files ≡ false

module _ (files : List File) where
  alike : (at : ℕ) (end : SessionEnd) → slice_get (ends_of files) at ≡ Some end → IsAlike files end
  alike at end there = all_found (IsAlike files) (ends_of files) at end (ends_alike files) there

  -- an end is internal where both AS numbers are one
  internal_is : (at : ℕ) (end : SessionEnd) (file : File) (process : Bgp) (neighbour : Neighbour) →
      slice_get (ends_of files) at ≡ Some end → slice_get files end.router ≡ Some file → file.bgp ≡ Some process →
      neighbour_of files end ≡ Some neighbour → end.internal ≡ (process.asn == neighbour.asn)
  internal_is at end file process neighbour stands there runs named =
      is.internal ∙ (λ i. (same i).asn == (line i).asn)
    where
      is : IsAlike files end
      is = alike at end stands

      same : is.process ≡ process
      same =
          same_Some is.process process (sym is.runs ∙ runs_there files end.router file process there runs)

      line : is.line ≡ neighbour
      line =
          same_Some is.line neighbour
          (sym is.there ∙ ap (λ (b : Bgp). slice_get b.neighbours end.neighbour) same
          ∙ line_there files end file process neighbour there runs named)

  -- ---- what is received of a router

  sent_received : (which : HeldNumber) (at far_at : ℕ) (end far : SessionEnd) (p : Prefix) (held : BgpRec)
      (message : BgpMsg) → slice_get (ends_of files) at ≡ Some end → end.far ≡ Inside far_at →
      slice_get (ends_of files) far_at ≡ Some far → exported files far p held ≡ Some message →
      IsKnownRoute which files held → IsKnownReceived which files end message
  sent_received which at far_at end far p held message stands reached far_stands sends h file process neighbour there
      runs named accepted =
      by which (if_is (IsMadeOf which files far held) (exported files far p held) message
      (exported_made which files far p held h) sends) h
    where
      said : (w : HeldNumber) → IfSome (said_of_neighbour w process neighbour) (IsKnown w files)
      said w = line_known w files end file process neighbour there runs named

      same : end.internal ≡ far.internal
      same = (alike at end stands).far far_at far reached far_stands

      met : NamesOther files far neighbour
      met = names_far files at far_at end far neighbour stands reached far_stands named

      address : IsKnown NextHop files (own_address files far).0
      address = subst (IsKnown NextHop files) (sym met.address) (said NextHop)

      preference : IsMadeOf LocalPref files far held message → (b : Bool) → end.internal ≡ b →
          IsKnown LocalPref files (if b then unwrap_or message.local_pref 0 else 100)
      preference of false is = known_unsaid LocalPref files 100 refl
      preference of true is = by_kind of.made
        where
          by_kind : ((far.internal ≡ true)
              × (message ≡ internal_message files far.router of.neighbour (own_address files far) held of.r))
              ⊎ ((far.internal ≡ false) × ((keeps : Bool)
              × (message ≡ external_message of.process of.neighbour (own_address files far) keeps held of.r))) →
              IsKnown LocalPref files (unwrap_or message.local_pref 0)
          by_kind (inl (inside, made)) =
              subst (λ (m : BgpMsg). IsKnown LocalPref files (unwrap_or m.local_pref 0)) (sym made) of.left
          by_kind (inr (outside, made)) = let no : true ≡ false = sym is ∙ same ∙ outside in absurd cc

      hop : IsMadeOf NextHop files far held message → IsKnownRoute NextHop files held →
          IsKnown NextHop files message.next_hop.0
      hop of h = by_kind of.made
        where
          by_self : (b : Bool) → IsKnown NextHop files (if b then own_address files far else held.next_hop).0
          by_self true = address
          by_self false = h

          by_from : (o : Option SessionEnd) →
              IsKnown NextHop files (internal_next_hop of.neighbour (own_address files far) held o).0
          by_from None = address
          by_from (Some e) = by_self (of.neighbour.next_hop_self && not e.internal)

          by_kind : ((far.internal ≡ true)
              × (message ≡ internal_message files far.router of.neighbour (own_address files far) held of.r))
              ⊎ ((far.internal ≡ false) × ((keeps : Bool)
              × (message ≡ external_message of.process of.neighbour (own_address files far) keeps held of.r))) →
              IsKnown NextHop files message.next_hop.0
          by_kind (inl (inside, made)) =
              subst (λ (m : BgpMsg). IsKnown NextHop files m.next_hop.0) (sym made)
              (by_from (learnt_over files far.router held.from))
          by_kind (inr (outside, made)) =
              subst (λ (m : BgpMsg). IsKnown NextHop files m.next_hop.0) (sym made.1) address

      med : IsMadeOf Med files far held message → IsKnown Med files (unwrap_or message.med 0)
      med of = by_kind of.made
        where
          kept : (keeps : Bool) → IsKnown Med files (unwrap_or (if keeps then Some of.r.med else None) 0)
          kept true = of.left
          kept false = known_unsaid Med files 0 refl

          by_kind : ((far.internal ≡ true)
              × (message ≡ internal_message files far.router of.neighbour (own_address files far) held of.r))
              ⊎ ((far.internal ≡ false) × ((keeps : Bool)
              × (message ≡ external_message of.process of.neighbour (own_address files far) keeps held of.r))) →
              IsKnown Med files (unwrap_or message.med 0)
          by_kind (inl (inside, made)) =
              subst (λ (m : BgpMsg). IsKnown Med files (unwrap_or m.med 0)) (sym made) of.left
          by_kind (inr (outside, made)) =
              subst (λ (m : BgpMsg). IsKnown Med files (unwrap_or m.med 0)) (sym made.1) (kept made.0)

      asn_of : (w : HeldNumber) (of : IsMadeOf w files far held message) → of.process.asn ≡ neighbour.asn
      asn_of w of =
          ap (λ (b : Bgp). b.asn) (same_Some of.process met.process
          (sym (runs_there files far.router of.file of.process of.there of.runs) ∙ met.runs)) ∙ met.asn

      other : far.internal ≡ false → (process.asn == neighbour.asn) ≡ false
      other outside = sym (internal_is at end file process neighbour stands there runs named) ∙ same ∙ outside

      last : IsMadeOf LastAs files far held message → IsKnown LastAs files (last_of message.path)
      last of = by_kind of.made
        where
          by_kind : ((far.internal ≡ true)
              × (message ≡ internal_message files far.router of.neighbour (own_address files far) held of.r))
              ⊎ ((far.internal ≡ false) × ((keeps : Bool)
              × (message ≡ external_message of.process of.neighbour (own_address files far) keeps held of.r))) →
              IsKnown LastAs files (last_of message.path)
          by_kind (inl (inside, made)) =
              subst (λ (m : BgpMsg). IsKnown LastAs files (last_of m.path)) (sym made) of.left
          by_kind (inr (outside, made)) =
              subst (λ (m : BgpMsg). IsKnown LastAs files (last_of m.path)) (sym made.1)
              (known_front files of.process.asn of.r.path (subst (IsKnown LastAs files) (sym (asn_of LastAs of))
              (other_as LastAs files neighbour.asn (process.asn == neighbour.asn) (other outside) (said LastAs)))
              of.left)

      first : IsMadeOf FirstAs files far held message → IsKnown FirstAs files (first_of message.path)
      first of = by_kind of.made
        where
          by_kind : ((far.internal ≡ true)
              × (message ≡ internal_message files far.router of.neighbour (own_address files far) held of.r))
              ⊎ ((far.internal ≡ false) × ((keeps : Bool)
              × (message ≡ external_message of.process of.neighbour (own_address files far) keeps held of.r))) →
              IsKnown FirstAs files (first_of message.path)
          by_kind (inl (inside, made)) =
              subst (λ (m : BgpMsg). IsKnown FirstAs files (first_of m.path)) (sym made) of.left
          by_kind (inr (outside, made)) =
              subst (λ (m : BgpMsg). IsKnown FirstAs files (first_of m.path)) (sym made.1)
              (subst (IsKnown FirstAs files) (sym (asn_of FirstAs of))
              (other_as FirstAs files neighbour.asn (process.asn == neighbour.asn) (other outside) (said FirstAs)))

      by : (w : HeldNumber) → IsMadeOf w files far held message → IsKnownRoute w files held →
          IsKnownRoute w files (received neighbour end message)
      by Weight of h = said Weight
      by LocalPref of h = preference of end.internal refl
      by Med of h = med of
      by NextHop of h = hop of h
      by FirstAs of h = first of
      by LastAs of h = last of

  -- ---- what is received of an external peer

  module _ (environment : Environment) (may : IsEnvironment files environment) where
    announced_received : (which : HeldNumber) (at len : ℕ) (end : SessionEnd) (line : Neighbour) (a : Announcement) →
        IsSaid which files → slice_get (ends_of files) at ≡ Some end → end.far ≡ Outside →
        neighbour_of files end ≡ Some line →
        find (λ (a : Announcement). (a.end == at) && (a.len == len)) environment.announced ≡ Some a →
        IsKnownReceived which files end (announced_message line.addr a)
    announced_received which at len end line a may_say stands peer says_line says file process neighbour there runs named
        accepted =
        by which may_say
      where
        said : (w : HeldNumber) → IfSome (said_of_neighbour w process neighbour) (IsKnown w files)
        said w = line_known w files end file process neighbour there runs named

        is : IsAnnouncement files a
        is =
            all_members (IsAnnouncement files) environment.announced may.announced a
            (in-find (λ (a : Announcement). (a.end == at) && (a.len == len)) environment.announced a says)

        place : a.end ≡ at
        place =
            eqb-true a.end at (and_parts (a.end == at) (a.len == len)
            (find_passes (λ (a : Announcement). (a.end == at) && (a.len == len)) environment.announced a says)).0

        same_end : is.from.0 ≡ end
        same_end =
            same_Some is.from.0 end (sym is.from.1 ∙ ap (slice_get (ends_of files)) place ∙ stands)

        begins : (rest : List ℕ) × (a.path ≡ neighbour.asn ∷ rest)
        begins =
            if_is (λ (n : Neighbour). (rest : List ℕ) × (a.path ≡ n.asn ∷ rest)) (neighbour_of files is.from.0)
            neighbour is.from.3 (ap (neighbour_of files) same_end ∙ named)

        -- a peer of the own AS has no path that is taken
        none : (process.asn == neighbour.asn) ≡ true → ⊥
        none same =
            let there : carries a.path process.asn ≡ true =
            ap (λ path. carries path process.asn) begins.1
            ∙ or_left (neighbour.asn == process.asn) (carries begins.0 process.asn)
            (eq-eqb neighbour.asn process.asn (sym (eqb-true process.asn neighbour.asn same))) in
            let missing : not (carries a.path process.asn) ≡ true =
            (and_parts _ _ (and_parts _ _ accepted).0).0 in
            let no : false ≡ true = sym (ap not there) ∙ missing in
            cc

        other : (process.asn == neighbour.asn) ≡ false
        other = by_test (process.asn == neighbour.asn) refl
          where
            by_test : (b : Bool) → (process.asn == neighbour.asn) ≡ b → (process.asn == neighbour.asn) ≡ false
            by_test true same = absurd (none same)
            by_test false same = same

        outside : end.internal ≡ false
        outside = internal_is at end file process neighbour stands there runs named ∙ other

        -- there is an external peer
        no_peer : has_peers files ≡ false → ⊥
        no_peer none =
            false≢true (sym none ∙ any_passes_from_place (λ (e : SessionEnd). is_outside e.far) (ends_of files) at end stands
            (ap is_outside peer))

        preference : (b : Bool) → b ≡ false → IsKnown LocalPref files (if b then 0 else 100)
        preference true own = absurd cc
        preference false own = known_unsaid LocalPref files 100 refl

        by : (w : HeldNumber) → IsSaid w files →
            IsKnownRoute w files (received neighbour end (announced_message line.addr a))
        by Weight may_say = said Weight
        by LocalPref may_say = preference end.internal outside
        by Med none = absurd (no_peer none)
        by NextHop may_say =
            subst (λ (n : Neighbour). IsKnown NextHop files n.addr.0)
            (same_Some neighbour line (sym named ∙ says_line)) (said NextHop)
        by FirstAs may_say =
            subst (IsKnown FirstAs files) (sym (ap first_of begins.1))
            (other_as FirstAs files neighbour.asn (process.asn == neighbour.asn) other (said FirstAs))
        by LastAs none = absurd (no_peer none)

    kept : (which : HeldNumber) (p : Prefix) → IsSaid which files →
        IsKeptBySessions files environment p (λ router rec. is_held_value which files (number_of which rec))
    kept which p may_say = record {
      announced = λ at end neighbour a rec stands outside named says taken.
          if_is (IsKnownRoute which files) (imported files end p (announced_message neighbour.addr a)) rec
          (imported_known which files end p (announced_message neighbour.addr a)
          (announced_received which at p.len end neighbour a may_say stands outside named says)) taken;
      sent = λ at far_at end far held message rec stands reached far_stands sends taken behind.
          if_is (IsKnownRoute which files) (imported files end p message) rec
          (imported_known which files end p message
          (sent_received which at far_at end far p held message stands reached far_stands sends behind)) taken;
    }

-- ---- what is held

pub held_known : (tracked : Tracked) (files : List File) (destination : Addr) (failures : Failures)
    (environment : Environment) (tables : Tables) (len : ℕ) → TracksNet files tracked →
    list_all keeps_limits files ≡ true → IsEnvironment files environment →
    Stable files destination failures environment tables → len < LENGTHS →
    (router : ℕ) (slot : Slot) (held : BgpRec) → slot_at tables router len ≡ Some slot →
    slot.bgp ≡ Some held → HasHeldValues files held
held_known tracked files destination failures environment tables len net limits may stable below router slot held there
    holds = record {
      from = learnt;
      originator = originated;
      weight = known Weight tt;
      local_pref = known LocalPref tt;
      med = λ none. known Med none;
      next_hop = known NextHop tt;
      first = known FirstAs tt;
      last = λ none. known LastAs none;
    }
  where
    known : (which : HeldNumber) → IsSaid which files → IsKnownRoute which files held
    known which may_say =
        kept_held files destination failures environment tables stable len below tracked net limits
        (λ router rec. is_held_value which files (number_of which rec))
        (λ r rec is. all_members (IsKnownRoute which files)
        (local_routes files r is.file is.process (prefix_at destination len) is.slot)
        (locals_known which files r is.file is.process (prefix_at destination len) is.slot is.there is.runs
        (slot_metric files destination failures environment tables stable limits len below r is.slot is.holds)) rec is.is)
        (kept files environment may which (prefix_at destination len) may_say) router held
        (ap (option_and_then (λ (x : Slot). x.bgp)) there ∙ holds)

    learnt : is_learnt_among (peers_of files) held.from ≡ true
    learnt =
        kept_held files destination failures environment tables stable len below tracked net limits
        (λ router rec. is_learnt_among (peers_of files) rec.from)
        (λ r rec is. ap (is_learnt_among (peers_of files)) (all_members IsPlain
        (local_routes files r is.file is.process (prefix_at destination len) is.slot)
        (locals_plain files r is.file is.process (prefix_at destination len) is.slot) rec is.is).from)
        (kept_learnt files environment (prefix_at destination len)) router held
        (ap (option_and_then (λ (x : Slot). x.bgp)) there ∙ holds)

    originated : is_none_or_among (originators_of files) held.originator ≡ true
    originated =
        kept_held files destination failures environment tables stable len below tracked net limits
        (λ router rec. is_none_or_among (originators_of files) rec.originator)
        (λ r rec is. ap (is_none_or_among (originators_of files)) (all_members IsPlain
        (local_routes files r is.file is.process (prefix_at destination len) is.slot)
        (locals_plain files r is.file is.process (prefix_at destination len) is.slot) rec is.is).originator)
        (kept_originator files environment (prefix_at destination len)) router held
        (ap (option_and_then (λ (x : Slot). x.bgp)) there ∙ holds)
