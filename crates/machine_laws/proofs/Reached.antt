-- Every state that events lead to is sound.
use Rattle.std.proofs.Common.{◌≡◌, ◌∙◌, ◌⊎◌, ℕ, ◌+◌, ◌*◌, ◌<◌, ◌==◌, ◌&&◌, Bool, true, false, not, List, [], ◌∷◌}
use Rattle.std.proofs.Common.{◌++◌, length, Option, Some, None, Ok, Err, Result, refl, sym, subst, inl, inr}
use Rattle.std.specs.Prelude.{All, nat_lt, OnErr, OnOk, slice_get, slice_set, if◌then◌else◌}
use Rattle.std.specs.Option.{option_map_or}
use Rattle.std.proofs.Math.ListN.{length-set}
use Rattle.std.proofs.lemmas.Bool.{and_parts, eqb-false, ltb-true}
use Rattle.mw_text.specs.declared.address.Addr.{Addr}
use Rattle.mw_text.specs.Address.{prefix_at}
use Rattle.mw_text.specs.Reading.{following, in_turn}
use Rattle.ios_ast.specs.declared.file.File.{File}
use Rattle.ios_ast.specs.Deciding.{carries}
use Rattle.route_record.specs.declared.Announcement.{Announcement}
use Rattle.route_record.specs.declared.Environment.{Environment}
use Rattle.route_record.specs.declared.Failures.{Failures}
use Rattle.route_record.specs.declared.Slot.{Slot}
use Rattle.route_record.specs.declared.TheConstants.{LENGTHS}
use Rattle.route_record.specs.Fits.{FitsSlot}
use Rattle.route_record.specs.Places.{slot_at}
use Rattle.net_parts.specs.Ospf.{adjacencies}
use Rattle.net_parts.specs.Sessions.{ends_of}
use Rattle.net_parts.specs.Stable.{Stable}
use Rattle.net_parts.specs.World.{IsFailureSet, links_of}
use Rattle.same_routes.specs.Slots.{same_bgp, same_ospf}
use Rattle.same_routes.proofs.SameSlots.{bgp_decides, ospf_decides}
use Rattle.machine_laws.specs.declared.state.Channel.{Channel}
use Rattle.machine_laws.specs.declared.state.Event.{Event}
use Rattle.machine_laws.specs.declared.state.Event.TheVariants.{DeliverBgp, DeliverOspf, Decide, Announce, Cut, Mend}
use Rattle.machine_laws.specs.declared.state.EventRefused.{EventRefused}
use Rattle.machine_laws.specs.declared.state.EventRefused.TheVariants.{NothingToDeliver, UnknownName, AlreadySo}
use Rattle.machine_laws.specs.declared.state.Mail.{Mail}
use Rattle.machine_laws.specs.declared.state.State.{State}
use Rattle.machine_laws.specs.Announcing.{announced_with, is_about}
use Rattle.machine_laws.specs.Channels.{received_one, taken}
use Rattle.machine_laws.specs.Deciding.{decided}
use Rattle.machine_laws.specs.Events.{AreIds, IsReached, after, announced, mended, put_in, start, told, with_cut}
use Rattle.machine_laws.specs.Events.{with_failures, with_slot}
use Rattle.machine_laws.specs.Quiet.{IsQuiet}
use Rattle.machine_laws.specs.Sending.{adjacency_up_at, arriving_at, comes_from, is_outside_at, offered_at, offers_from}
use Rattle.machine_laws.specs.Sending.{session_up_at}
use Rattle.machine_laws.specs.Sound.{IsSound}
use Rattle.machine_laws.proofs.AnnouncedLaws.{all_may, announced_kept, in_order}
use Rattle.machine_laws.proofs.ChannelLaws.{are_published, are_received, are_renewed}
use Rattle.machine_laws.proofs.FailureLaws.{cut_is, mended_is}
use Rattle.machine_laws.proofs.QuietLaws.{quiet_stable}
use Rattle.machine_laws.proofs.SendLaws.{arriving_kept, arriving_still, offered_kept, offered_still}
use Rattle.machine_laws.proofs.Start.{sound_start}

-- ---- each event

-- what is not sent did not change, or does not come from there
unsent : (same from : Bool) → (not same && from) ≡ false → (same ≡ true) ⊎ (from ≡ false)
unsent true from e = inl refl
unsent false from e = inr e

sound_told : (files : List File) (d : Addr) (s : State) (router len : ℕ) (slot new : Slot) → len < LENGTHS →
    slot_at s.tables router len ≡ Some slot → IsSound files d s → IsSound files d (told files d s router len slot new)
sound_told files d s router len slot new h is sound = record {
  slots = length-set s.tables.slots (LENGTHS * router + len) new ∙ sound.slots;
  sessions = are_published (λ at. not (same_bgp slot.bgp new.bgp) && comes_from files router at)
      (session_up_at files s.failures) (arriving_at files d s.environment s.tables)
      (arriving_at files d s.environment (with_slot s.tables router len new)) len (length (ends_of files)) s.sessions
      sound.sessions (λ at l k ne. arriving_kept files d s.environment s.tables router len at l slot new h k is ne)
      (λ at off _. arriving_still files d s.environment s.tables router len at slot new h is
      (elim (unsent (same_bgp slot.bgp new.bgp) (comes_from files router at) off)
      [ inl t ↦ inl (sym ((bgp_decides slot.bgp new.bgp).0 t)) | inr t ↦ inr t ]));
  adjacencies = are_published (λ at. not (same_ospf slot.ospf new.ospf) && offers_from files router at)
      (adjacency_up_at files s.failures) (offered_at files d s.tables)
      (offered_at files d (with_slot s.tables router len new)) len (length (adjacencies files)) s.adjacencies
      sound.adjacencies (λ at l k ne. offered_kept files d s.tables router len at l slot new h k is ne)
      (λ at off _. offered_still files d s.tables router len at slot new h is
      (elim (unsent (same_ospf slot.ospf new.ospf) (offers_from files router at) off)
      [ inl t ↦ inl (sym ((ospf_decides slot.ospf new.ospf).0 t)) | inr t ↦ inr t ]));
  failures = sound.failures;
  environment = sound.environment;
}

sound_announced : (files : List File) (d : Addr) (s : State) (end len : ℕ) (what : Option Announcement) →
    is_about files end len what ≡ true → IsSound files d s → IsSound files d (announced files d s end len what)
sound_announced files d s end len what about sound =
    let environment : Environment =
    record s.environment { announced = announced_with s.environment.announced end len what } in
    record {
      slots = sound.slots;
      sessions = are_published (λ at. at == end) (session_up_at files s.failures)
          (arriving_at files d s.environment s.tables) (arriving_at files d environment s.tables) len
          (length (ends_of files)) s.sessions sound.sessions
          (λ at l _ ne. announced_kept files d s.environment s.tables end len at l what about (λ _ e. ne (sym e)))
          (λ at off _. announced_kept files d s.environment s.tables end len at len what about
          (λ e _. eqb-false at end off (sym e)));
      adjacencies = sound.adjacencies;
      failures = sound.failures;
      environment = record {
        ids = sound.environment.ids;
        fit = sound.environment.fit;
        announced = all_may files s.environment.announced end len what about sound.environment.announced;
        once = in_order files s.environment.announced end len what about sound.environment.once;
      };
    }

sound_failures : (files : List File) (d : Addr) (s : State) (failures : Failures) →
    IsFailureSet files (length failures.links) failures → IsSound files d s →
    IsSound files d (with_failures files d s failures)
sound_failures files d s failures are sound = record {
  slots = sound.slots;
  sessions = are_renewed (session_up_at files s.failures) (session_up_at files failures)
      (arriving_at files d s.environment s.tables) (length (ends_of files)) s.sessions sound.sessions;
  adjacencies = are_renewed (adjacency_up_at files s.failures) (adjacency_up_at files failures)
      (offered_at files d s.tables) (length (adjacencies files)) s.adjacencies sound.adjacencies;
  failures = are;
  environment = sound.environment;
}

-- what a delivery that is not refused is
record IsDelivery {M : Type 0} (put : List (Channel M) → State) (cs : List (Channel M)) (at : ℕ) (next : State)
    : Type 0 where
  c : Channel M
  m : Mail M
  rest : List (Mail M)
  here : slice_get cs at ≡ Some c
  front : c.mail ≡ m ∷ rest
  is : put (slice_set cs at (received_one c m rest)) ≡ next

delivery_of : {M : Type 0} (put : List (Channel M) → State) (cs : List (Channel M)) (at : ℕ) (c : Channel M)
    (mail : List (Mail M)) (next : State) → slice_get cs at ≡ Some c → c.mail ≡ mail →
    put_in put (option_map_or (λ x. Ok (slice_set cs at x)) (taken c mail) (Err NothingToDeliver)) ≡ Ok next →
    IsDelivery put cs at next
delivery_of put cs at c [] next here front e = cc
delivery_of put cs at c (m ∷ rest) next here front e =
    record { c = c; m = m; rest = rest; here = here; front = front; is = cc }

delivery_at : {M : Type 0} (put : List (Channel M) → State) (cs : List (Channel M)) (at : ℕ) (o : Option (Channel M))
    (next : State) → slice_get cs at ≡ o →
    put_in put (option_map_or (λ c. option_map_or (λ x. Ok (slice_set cs at x)) (taken c c.mail) (Err NothingToDeliver)) o
    (Err UnknownName)) ≡ Ok next → IsDelivery put cs at next
delivery_at put cs at None next here e = cc
delivery_at put cs at (Some c) next here e = delivery_of put cs at c c.mail next here refl e

sound_decided : (files : List File) (d : Addr) (s next : State) (router len : ℕ) → IsSound files d s → len < LENGTHS →
    (file : Option File) (slot : Option Slot) → slot_at s.tables router len ≡ slot →
    option_map_or (λ x. option_map_or (λ y. Ok (told files d s router len y (decided files s router x (prefix_at d len) y))) slot
    (Err UnknownName)) file (Err UnknownName) ≡ Ok next → IsSound files d next
sound_decided files d s next router len sound h None slot is e = cc
sound_decided files d s next router len sound h (Some file) None is e = cc
sound_decided files d s next router len sound h (Some file) (Some slot) is e =
    let same : told files d s router len slot (decided files s router file (prefix_at d len) slot) ≡ next = cc in
    subst (IsSound files d) same
    (sound_told files d s router len slot (decided files s router file (prefix_at d len) slot) h is sound)

if_ok : (b : Bool) (r : Result State EventRefused) (why : EventRefused) (next : State) →
    (if b then r else Err why) ≡ Ok next → (b ≡ true) × (r ≡ Ok next)
if_ok true r why next e = (refl, e)
if_ok false r why next e = cc

unless_ok : (b : Bool) (r : Result State EventRefused) (why : EventRefused) (next : State) →
    (if b then Err why else r) ≡ Ok next → (b ≡ false) × (r ≡ Ok next)
unless_ok true r why next e = cc
unless_ok false r why next e = (refl, e)

sound_after : (files : List File) (d : Addr) (s next : State) (event : Event) → IsSound files d s →
    after files d s event ≡ Ok next → IsSound files d next
unfolding after
sound_after files d s next (DeliverBgp end) sound e =
    let done : IsDelivery (λ channels. record s { sessions = channels }) s.sessions end next =
    delivery_at (λ channels. record s { sessions = channels }) s.sessions end (slice_get s.sessions end) next refl e in
    let right : IsSound files d
    (record s { sessions = slice_set s.sessions end (received_one done.c done.m done.rest) }) = record {
      slots = sound.slots;
      sessions = are_received (session_up_at files s.failures) (arriving_at files d s.environment s.tables)
          (length (ends_of files)) s.sessions end done.c done.m done.rest sound.sessions done.here done.front;
      adjacencies = sound.adjacencies;
      failures = sound.failures;
      environment = sound.environment;
    } in subst (IsSound files d) done.is right
sound_after files d s next (DeliverOspf at) sound e =
    let done : IsDelivery (λ channels. record s { adjacencies = channels }) s.adjacencies at next =
    delivery_at (λ channels. record s { adjacencies = channels }) s.adjacencies at (slice_get s.adjacencies at) next
    refl e in
    let right : IsSound files d
    (record s { adjacencies = slice_set s.adjacencies at (received_one done.c done.m done.rest) }) = record {
      slots = sound.slots;
      sessions = sound.sessions;
      adjacencies = are_received (adjacency_up_at files s.failures) (offered_at files d s.tables)
          (length (adjacencies files)) s.adjacencies at done.c done.m done.rest sound.adjacencies done.here done.front;
      failures = sound.failures;
      environment = sound.environment;
    } in subst (IsSound files d) done.is right
sound_after files d s next (Decide router len) sound e =
    let test = if_ok (nat_lt len LENGTHS) _ UnknownName next e in
    sound_decided files d s next router len sound (ltb-true len LENGTHS test.0) (slice_get files router)
    (slot_at s.tables router len) refl test.1
sound_after files d s next (Announce end len what) sound e =
    let test = if_ok ((is_outside_at files end && nat_lt len LENGTHS) && is_about files end len what)
    (Ok (announced files d s end len what)) UnknownName next e in
    let about : is_about files end len what ≡ true =
    (and_parts (is_outside_at files end && nat_lt len LENGTHS) (is_about files end len what) test.0).1 in
    let same : announced files d s end len what ≡ next = cc (test.1) in
    subst (IsSound files d) same (sound_announced files d s end len what about sound)
sound_after files d s next (Cut link) sound e =
    let range = if_ok (nat_lt link (length (links_of files))) _ UnknownName next e in
    let test = unless_ok (carries s.failures.links link) (Ok (with_failures files d s (with_cut link s.failures))) AlreadySo
    next range.1 in
    let same : with_failures files d s (with_cut link s.failures) ≡ next = cc (test.1) in
    subst (IsSound files d) same (sound_failures files d s (with_cut link s.failures)
    (cut_is files link s.failures (ltb-true link (length (links_of files)) range.0) sound.failures) sound)
sound_after files d s next (Mend link) sound e =
    let range = if_ok (nat_lt link (length (links_of files))) _ UnknownName next e in
    let test = if_ok (carries s.failures.links link) (Ok (with_failures files d s (mended link s.failures))) AlreadySo next
    range.1 in
    let same : with_failures files d s (mended link s.failures) ≡ next = cc (test.1) in
    subst (IsSound files d) same (sound_failures files d s (mended link s.failures)
    (mended_is files link s.failures sound.failures) sound)

-- ---- every list of events

sound_next : (files : List File) (d : Addr) (s next : State) (event : Event) (rest : List Event)
    (r : Result State EventRefused) → IsSound files d s → after files d s event ≡ r →
    ((mid : State) → IsSound files d mid → in_turn (after files d) mid rest ≡ Ok next → IsSound files d next) →
    following (λ mid. in_turn (after files d) mid rest) r ≡ Ok next → IsSound files d next
sound_next files d s next event rest (Err why) sound is more e = cc
sound_next files d s next event rest (Ok mid) sound is more e = more mid (sound_after files d s mid event sound is) e

sound_all : (files : List File) (d : Addr) (s next : State) (events : List Event) → IsSound files d s →
    in_turn (after files d) s events ≡ Ok next → IsSound files d next
unfolding in_turn
sound_all files d s next [] sound e = let same : s ≡ next = cc in subst (IsSound files d) same sound
sound_all files d s next (event ∷ rest) sound e =
    sound_next files d s next event rest (after files d s event) sound refl
    (λ mid right k. sound_all files d mid next rest right k) e

pub reached_start : (files : List File) (d : Addr) (ids : List Addr) → AreIds files ids →
    IsReached files d (start files ids)
unfolding in_turn
reached_start files d ids are = record { by = (ids, are, [], refl) }

pub reached_sound : (files : List File) (d : Addr) (s : State) → IsReached files d s → IsSound files d s
reached_sound files d s reached =
    sound_all files d (start files reached.by.0) s reached.by.2 (sound_start files d reached.by.0 reached.by.1)
    reached.by.3

-- a quiet state that some list of events leads to is stable
pub reached_stable : (files : List File) (d : Addr) (s : State) → IsReached files d s → All FitsSlot s.tables.slots →
    IsQuiet files d s → Stable files d s.failures s.environment s.tables
reached_stable files d s reached fits quiet = quiet_stable files d s (reached_sound files d s reached) fits quiet

one_more : (files : List File) (d : Addr) (s mid next : State) (events : List Event) (event : Event) →
    in_turn (after files d) s events ≡ Ok mid → after files d mid event ≡ Ok next →
    in_turn (after files d) s (events ++ event ∷ []) ≡ Ok next
unfolding in_turn
one_more files d s mid next [] event e f = let same : s ≡ mid = cc in rw (same, f) refl
one_more files d s mid next (x ∷ rest) event e f =
    by (after files d s x) refl (λ n k. one_more files d n mid next rest event k f) e
  where
    by : (r : Result State EventRefused) → after files d s x ≡ r →
        ((n : State) → in_turn (after files d) n rest ≡ Ok mid →
        in_turn (after files d) n (rest ++ event ∷ []) ≡ Ok next) →
        following (λ n. in_turn (after files d) n rest) r ≡ Ok mid →
        following (λ n. in_turn (after files d) n (rest ++ event ∷ [])) (after files d s x) ≡ Ok next
    by (Err why) is more k = cc
    by (Ok n) is more k = rw is (more n k)

pub reached_next : (files : List File) (d : Addr) (s next : State) (event : Event) → IsReached files d s →
    after files d s event ≡ Ok next → IsReached files d next
reached_next files d s next event reached e = record {
  by = (
    reached.by.0,
    reached.by.1,
    reached.by.2 ++ event ∷ [],
    one_more files d (start files reached.by.0) s next reached.by.2 event reached.by.3 e,
  );
}

-- the event was taken, or it was refused and nothing changed
pub reached_either : (files : List File) (d : Addr) (s next : State) (event : Event) (r : Result (Unit {0}) EventRefused) →
    IsReached files d s → OnOk r (after files d s event ≡ Ok next) → OnErr r (next ≡ s) → IsReached files d next
reached_either files d s next event (Ok done) reached is kept = reached_next files d s next event reached is
reached_either files d s next event (Err why) reached is kept = subst (IsReached files d) (sym kept) reached
