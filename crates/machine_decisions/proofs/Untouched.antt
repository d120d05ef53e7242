-- An event leaves the decisions at all places that it does not touch.
use Rattle.std.proofs.Common.{◌≡◌, ◌∙◌, ◌≢◌, ℕ, zero, suc, ◌+◌, ◌*◌, ◌/◌, ◌%◌, Bool, true, false, not, List, [], ◌∷◌, ◌++◌}
use Rattle.std.proofs.Common.{◌⊎◌, inl, inr, Option, Some, None, Ok, Err, Result, refl, ap, sym, subst, arith, map}
use Rattle.std.proofs.Common.{add-zero, zero-add}
use Rattle.std.specs.Prelude.{◌==◌, ◌&&◌, IfOk, filter, slice_get, slice_set, option_and_then, nat_lt, if◌then◌else◌}
use Rattle.std.specs.List.{cons_option, enumerate_from, filter_map}
use Rattle.std.specs.Option.{option_map_or}
use Rattle.std.proofs.lemmas.Bool.{and_parts, cases_eq, eqb-true}
use Rattle.mw_text.specs.declared.address.Addr.{Addr}
use Rattle.mw_text.specs.declared.address.Prefix.{Prefix}
use Rattle.mw_text.specs.Address.{prefix_at}
use Rattle.ios_ast.specs.declared.bgp.Bgp.{Bgp}
use Rattle.ios_ast.specs.declared.file.File.{File}
use Rattle.ios_ast.specs.declared.ospf.Ospf.{Ospf}
use Rattle.route_record.specs.declared.BgpMsg.{BgpMsg}
use Rattle.route_record.specs.declared.BgpRec.{BgpRec}
use Rattle.route_record.specs.declared.Failures.{Failures}
use Rattle.route_record.specs.declared.OspfRec.{OspfRec}
use Rattle.route_record.specs.declared.Slot.{Slot}
use Rattle.route_record.specs.declared.TheConstants.{LENGTHS}
use Rattle.route_record.specs.Places.{slot_at}
use Rattle.net_parts.specs.declared.adjacencies.Adjacency.{Adjacency}
use Rattle.net_parts.specs.declared.sessions.SessionEnd.{SessionEnd}
use Rattle.net_parts.specs.Decisions.{candidates_from, learnt_candidate, local_candidate, survivors}
use Rattle.net_parts.specs.Origins.{local_routes}
use Rattle.net_parts.specs.Ospf.{adjacencies, is_adjacency_up}
use Rattle.net_parts.specs.OspfRoutes.{held_from, own_origins}
use Rattle.net_parts.specs.Sessions.{ends_of}
use Rattle.net_parts.proofs.Heard.{same_held}
use Rattle.same_routes.specs.Slots.{same_bgp, same_ospf, same_slot}
use Rattle.machine_laws.specs.declared.state.Channel.{Channel}
use Rattle.machine_laws.specs.declared.state.Event.{Event}
use Rattle.machine_laws.specs.declared.state.Event.TheVariants.{DeliverBgp, DeliverOspf, Decide, Announce, Cut, Mend}
use Rattle.machine_laws.specs.declared.state.EventRefused.{EventRefused}
use Rattle.machine_laws.specs.declared.state.EventRefused.TheVariants.{NothingToDeliver, UnknownName}
use Rattle.machine_laws.specs.declared.state.Mail.{Mail}
use Rattle.machine_laws.specs.declared.state.State.{State}
use Rattle.machine_laws.specs.Announcing.{announced_with, is_about}
use Rattle.machine_laws.specs.Channels.{batch, each_at, heard, last_received, posted, published, received_one, taken}
use Rattle.machine_laws.specs.Deciding.{candidates_heard, decided, decided_bgp, decided_ospf, kept, with_entry}
use Rattle.machine_laws.specs.Events.{after, announced, delivered_at, put_in, told, with_slot}
use Rattle.machine_laws.specs.Quiet.{is_unsettled, is_unsettled_at}
use Rattle.machine_laws.specs.Sending.{adjacency_up_at, arriving_at, comes_from, is_outside_at, offered_at, offers_from}
use Rattle.machine_laws.specs.Sending.{session_up_at}
use Rattle.machine_laws.proofs.ChannelLaws.{written_elsewhere, written_there}
use Rattle.machine_decisions.specs.declared.touched.Touched.{Touched}
use Rattle.machine_decisions.specs.declared.touched.Touched.TheVariants.{Nothing, Place}
use Rattle.machine_decisions.specs.Touched.{AreKnown, AreKnownBut, IsLeft, by_delivery, by_front, touched_by}

-- ---- what a decision looks at

-- the slot of the router for a length, what it last received about that length, and the failed links
record IsAlike (files : List File) (s t : State) (router len : ℕ) : Type 0 where
  failures : s.failures ≡ t.failures
  ids : s.environment.ids ≡ t.environment.ids
  slot : slot_at s.tables router len ≡ slot_at t.tables router len
  sessions : (at : ℕ) (end : SessionEnd) → slice_get (ends_of files) at ≡ Some end → end.router ≡ router →
      heard s.sessions at len ≡ heard t.sessions at len
  adjacencies : (at : ℕ) (a : Adjacency) → slice_get (adjacencies files) at ≡ Some a → a.from.router ≡ router →
      heard s.adjacencies at len ≡ heard t.adjacencies at len

-- what was received over the sessions of the router settles what it learnt
learnt_alike : (files : List File) (failures : Failures) (ids : List Addr) (p : Prefix) (one other : ℕ → Option BgpMsg)
    (router n : ℕ) (ends : List SessionEnd) →
    ((k : ℕ) (end : SessionEnd) → slice_get ends k ≡ Some end → end.router ≡ router → one (n + k) ≡ other (n + k)) →
    filter_map (λ (e : ℕ × SessionEnd). learnt_candidate files failures ids p e.0 e.1 (one e.0))
    (filter (λ (e : ℕ × SessionEnd). e.1.router == router) (enumerate_from n ends))
    ≡ filter_map (λ (e : ℕ × SessionEnd). learnt_candidate files failures ids p e.0 e.1 (other e.0))
    (filter (λ (e : ℕ × SessionEnd). e.1.router == router) (enumerate_from n ends))
learnt_alike files failures ids p one other router n [] same = refl
learnt_alike files failures ids p one other router n (end ∷ ends) same =
    by (end.router == router) refl (learnt_alike files failures ids p one other router (n + 1) ends (λ k x there is.
    let e : n + suc k ≡ n + 1 + k = omega arith in subst (λ j. one j ≡ other j) e (same (suc k) x there is)))
  where
    by : (b : Bool) → (end.router == router) ≡ b →
        filter_map (λ (e : ℕ × SessionEnd). learnt_candidate files failures ids p e.0 e.1 (one e.0))
        (filter (λ (e : ℕ × SessionEnd). e.1.router == router) (enumerate_from (n + 1) ends))
        ≡ filter_map (λ (e : ℕ × SessionEnd). learnt_candidate files failures ids p e.0 e.1 (other e.0))
        (filter (λ (e : ℕ × SessionEnd). e.1.router == router) (enumerate_from (n + 1) ends)) →
        filter_map (λ (e : ℕ × SessionEnd). learnt_candidate files failures ids p e.0 e.1 (one e.0))
        (filter (λ (e : ℕ × SessionEnd). e.1.router == router) (enumerate_from n (end ∷ ends)))
        ≡ filter_map (λ (e : ℕ × SessionEnd). learnt_candidate files failures ids p e.0 e.1 (other e.0))
        (filter (λ (e : ℕ × SessionEnd). e.1.router == router) (enumerate_from n (end ∷ ends)))
    by true e more =
        let here : one n ≡ other n =
        subst (λ j. one j ≡ other j) (add-zero n) (same 0 end refl (eqb-true end.router router e)) in
        rw e (ap (λ received. cons_option (learnt_candidate files failures ids p n end received)
        (filter_map (λ (x : ℕ × SessionEnd). learnt_candidate files failures ids p x.0 x.1 (one x.0))
        (filter (λ (x : ℕ × SessionEnd). x.1.router == router) (enumerate_from (n + 1) ends)))) here
        ∙ ap (cons_option (learnt_candidate files failures ids p n end (other n))) more)
    by false e more = rw e more

candidates_alike : (files : List File) (s t : State) (router len : ℕ) (d : Addr) (local : List BgpRec) →
    IsAlike files s t router len →
    candidates_from files s.failures s.environment.ids (λ at end. heard s.sessions at len) router (prefix_at d len) local
    ≡ candidates_from files t.failures t.environment.ids (λ at end. heard t.sessions at len) router (prefix_at d len)
    local
unfolding candidates_from
candidates_alike files s t router len d local alike =
    ap (λ failures. candidates_from files failures s.environment.ids (λ at end. heard s.sessions at len) router
    (prefix_at d len) local) alike.failures
    ∙ (ap (λ ids. candidates_from files t.failures ids (λ at end. heard s.sessions at len) router (prefix_at d len) local)
    alike.ids
    ∙ ap (λ learnt. map (local_candidate files router) local ++ learnt)
    (learnt_alike files t.failures t.environment.ids (prefix_at d len) (λ at. heard s.sessions at len)
    (λ at. heard t.sessions at len) router 0 (ends_of files)
    (λ k end there is. subst (λ j. heard s.sessions j len ≡ heard t.sessions j len) (sym (zero-add k))
    (alike.sessions k end there is))))

bgp_alike : (files : List File) (s t : State) (router len : ℕ) (d : Addr) (file : File) (slot : Slot) →
    IsAlike files s t router len → (o : Option Bgp) →
    option_and_then (λ process. kept slot.bgp (survivors process.always_compare process.compare_routerid
    (candidates_heard files s router file (prefix_at d len) slot process))) o
    ≡ option_and_then (λ process. kept slot.bgp (survivors process.always_compare process.compare_routerid
    (candidates_heard files t router file (prefix_at d len) slot process))) o
bgp_alike files s t router len d file slot alike None = refl
bgp_alike files s t router len d file slot alike (Some process) =
    ap (λ all. kept slot.bgp (survivors process.always_compare process.compare_routerid all))
    (candidates_alike files s t router len d (local_routes files router file process (prefix_at d len) slot) alike)

ospf_alike : (files : List File) (s t : State) (router len : ℕ) (d : Addr) (file : File) (slot : Slot) →
    IsAlike files s t router len → (o : Option Ospf) →
    option_and_then (λ process. held_from files s.failures (λ at a. heard s.adjacencies at len) router
    (own_origins files s.failures router file process (prefix_at d len) slot)) o
    ≡ option_and_then (λ process. held_from files t.failures (λ at a. heard t.adjacencies at len) router
    (own_origins files t.failures router file process (prefix_at d len) slot)) o
ospf_alike files s t router len d file slot alike None = refl
ospf_alike files s t router len d file slot alike (Some process) =
    ap (λ failures. held_from files failures (λ at a. heard s.adjacencies at len) router
    (own_origins files failures router file process (prefix_at d len) slot)) alike.failures
    ∙ same_held files t.failures (λ at a. heard s.adjacencies at len) (λ at a. heard t.adjacencies at len) router
    (own_origins files t.failures router file process (prefix_at d len) slot)
    (λ at a there up. alike.adjacencies at a there (eqb-true a.from.router router
    (and_parts (a.from.router == router) (is_adjacency_up files t.failures a) up).0))

decided_alike : (files : List File) (s t : State) (router len : ℕ) (d : Addr) (file : File) (slot : Slot) →
    IsAlike files s t router len →
    decided files s router file (prefix_at d len) slot ≡ decided files t router file (prefix_at d len) slot
unfolding decided
decided_alike files s t router len d file slot alike =
    ap (λ failures. with_entry files failures router file (prefix_at d len) slot
    (decided_ospf files s router file (prefix_at d len) slot) (decided_bgp files s router file (prefix_at d len) slot))
    alike.failures
    ∙ (ap (λ o. with_entry files t.failures router file (prefix_at d len) slot o
    (decided_bgp files s router file (prefix_at d len) slot)) (ospf_alike files s t router len d file slot alike file.ospf)
    ∙ ap (with_entry files t.failures router file (prefix_at d len) slot
    (decided_ospf files t router file (prefix_at d len) slot)) (bgp_alike files s t router len d file slot alike file.bgp))

unsettled_alike : (files : List File) (d : Addr) (s t : State) (router len : ℕ) → IsAlike files s t router len →
    is_unsettled files d s router len ≡ is_unsettled files d t router len
unfolding is_unsettled
unsettled_alike files d s t router len alike =
    ap (λ o. option_map_or (λ file. option_map_or (λ slot.
    not (same_slot (decided files s router file (prefix_at d len) slot) slot)) o false) (slice_get files router) false)
    alike.slot
    ∙ of_file (slice_get files router)
  where
    of_slot : (file : File) (o : Option Slot) →
        option_map_or (λ slot. not (same_slot (decided files s router file (prefix_at d len) slot) slot)) o false
        ≡ option_map_or (λ slot. not (same_slot (decided files t router file (prefix_at d len) slot) slot)) o false
    of_slot file None = refl
    of_slot file (Some slot) =
        ap (λ new. not (same_slot new slot)) (decided_alike files s t router len d file slot alike)

    of_file : (o : Option File) →
        option_map_or (λ file. option_map_or (λ slot.
        not (same_slot (decided files s router file (prefix_at d len) slot) slot)) (slot_at t.tables router len) false) o
        false
        ≡ option_map_or (λ file. option_map_or (λ slot.
        not (same_slot (decided files t router file (prefix_at d len) slot) slot)) (slot_at t.tables router len) false) o
        false
    of_file None = refl
    of_file (Some file) = of_slot file (slot_at t.tables router len)

-- ---- what is heard

-- a delivery is heard at its own place alone, and about its length alone
heard_elsewhere : {M : Type 0} (cs : List (Channel M)) (at k len : ℕ) (c : Channel M) (m : Mail M)
    (rest : List (Mail M)) → slice_get cs at ≡ Some c → (at ≡ k → m.len ≡ len → ⊥) →
    heard (slice_set cs at (received_one c m rest)) k len ≡ heard cs k len
heard_elsewhere {M = M} cs at k len c m rest there apart = by (cases_eq at k) where
  by : (at ≡ k) ⊎ (at ≡ k → ⊥) → heard (slice_set cs at (received_one c m rest)) k len ≡ heard cs k len
  by (inr ne) =
      ap (option_and_then (λ (x : Channel M). last_received x len)) (written_elsewhere cs at k (received_one c m rest) ne)
  by (inl same) =
      let now : heard (slice_set cs at (received_one c m rest)) at len ≡ last_received (received_one c m rest) len =
      ap (option_and_then (λ (x : Channel M). last_received x len)) (written_there cs at c (received_one c m rest) there) in
      let was : heard cs at len ≡ last_received c len =
      ap (option_and_then (λ (x : Channel M). last_received x len)) there in
      let kept : last_received (received_one c m rest) len ≡ last_received c len =
      ap (option_and_then (λ (x : Option M). x)) (written_elsewhere c.received m.len len m.what (apart same)) in
      subst (λ j. heard (slice_set cs at (received_one c m rest)) j len ≡ heard cs j len) same (now ∙ (kept ∙ sym was))

-- what is sent is not heard before its delivery
heard_before : {M : Type 0} (more : ℕ → List (Mail M)) (n : ℕ) (cs : List (Channel M)) (at len : ℕ) →
    heard (each_at (λ k c. posted (more k) c) n cs) at len ≡ heard cs at len
heard_before more n [] at len = refl
heard_before more n (c ∷ cs) zero len = refl
heard_before more n (c ∷ cs) (suc at) len = heard_before more (n + 1) cs at len

heard_published : {M : Type 0} (source up : ℕ → Bool) (ex : ℕ → ℕ → Option M) (len : ℕ) (cs : List (Channel M))
    (at l : ℕ) → heard (published source up ex len cs) at l ≡ heard cs at l
heard_published source up ex len cs at l = heard_before (batch source up ex len) 0 cs at l

-- ---- each event

-- the decision at the place is that of the state before
abbrev IsKept : List File → Addr → State → ℕ → State → Type 0
IsKept files d s place next = is_unsettled_at files d next place ≡ is_unsettled_at files d s place

by_either : {X : Type 0} (P : X → Type 0) (b : Bool) (r : Result X EventRefused) (why : EventRefused) → IfOk r P →
    IfOk (if b then r else Err why) P
by_either P true r why kept = kept
by_either P false r why kept = tt

-- what a delivery makes of a state
by_mail : {M : Type 0} (P : State → Type 0) (put : List (Channel M) → State) (cs : List (Channel M)) (at : ℕ) →
    ((c : Channel M) (m : Mail M) (rest : List (Mail M)) → slice_get cs at ≡ Some c → c.mail ≡ m ∷ rest →
    P (put (slice_set cs at (received_one c m rest)))) → IfOk (put_in put (delivered_at cs at)) P
by_mail {M = M} P put cs at each = by (slice_get cs at) refl where
  front : (c : Channel M) (mail : List (Mail M)) → slice_get cs at ≡ Some c → c.mail ≡ mail →
      IfOk (put_in put (option_map_or (λ x. Ok (slice_set cs at x)) (taken c mail) (Err NothingToDeliver))) P
  front c [] there is = tt
  front c (m ∷ rest) there is = each c m rest there is

  by : (o : Option (Channel M)) → slice_get cs at ≡ o →
      IfOk (put_in put (option_map_or (λ c. option_map_or (λ x. Ok (slice_set cs at x)) (taken c c.mail)
      (Err NothingToDeliver)) o (Err UnknownName))) P
  by None there = tt
  by (Some c) there = front c c.mail there refl

-- the slot that a delivery touches
by_session : (files : List File) (s : State) (at : ℕ) (end : SessionEnd) (c : Channel BgpMsg) (m : Mail BgpMsg)
    (rest : List (Mail BgpMsg)) → slice_get (ends_of files) at ≡ Some end → slice_get s.sessions at ≡ Some c →
    c.mail ≡ m ∷ rest → touched_by files s (DeliverBgp at) ≡ Place (LENGTHS * end.router + m.len)
unfolding touched_by
by_session files s at end c m rest is there front =
    ap (λ o. option_map_or (λ e. by_delivery s.sessions at e.router) o Nothing) is
    ∙ (ap (λ o. option_map_or (λ x. by_front end.router x.mail) o Nothing) there ∙ ap (by_front end.router) front)

by_adjacency : (files : List File) (s : State) (at : ℕ) (a : Adjacency) (c : Channel OspfRec) (m : Mail OspfRec)
    (rest : List (Mail OspfRec)) → slice_get (adjacencies files) at ≡ Some a → slice_get s.adjacencies at ≡ Some c →
    c.mail ≡ m ∷ rest → touched_by files s (DeliverOspf at) ≡ Place (LENGTHS * a.from.router + m.len)
unfolding touched_by
by_adjacency files s at a c m rest is there front =
    ap (λ o. option_map_or (λ x. by_delivery s.adjacencies at x.from.router) o Nothing) is
    ∙ (ap (λ o. option_map_or (λ x. by_front a.from.router x.mail) o Nothing) there
    ∙ ap (by_front a.from.router) front)

-- it is no other one
not_there : (touched : Touched) (place router len : ℕ) → IsLeft touched place → touched ≡ Place (LENGTHS * router + len) →
    router ≡ place / LENGTHS → len ≡ place % LENGTHS → ⊥
not_there touched place router len left is row column =
    let apart : LENGTHS * router + len ≢ place = subst (λ t. IsLeft t place) is left in
    apart (omega (arith, row, column))

told_keeps : (files : List File) (d : Addr) (s : State) (router len place : ℕ) (slot new : Slot) →
    LENGTHS * router + len ≢ place → IsKept files d s place (told files d s router len slot new)
told_keeps files d s router len place slot new apart =
    unsettled_alike files d (told files d s router len slot new) s (place / LENGTHS) (place % LENGTHS) record {
      failures = refl;
      ids = refl;
      slot = written_elsewhere s.tables.slots (LENGTHS * router + len)
          (LENGTHS * (place / LENGTHS) + place % LENGTHS) new (λ e. apart (omega (arith, e)));
      sessions = λ at end _ _.
          heard_published (λ k. not (same_bgp slot.bgp new.bgp) && comes_from files router k)
          (session_up_at files s.failures)
          (arriving_at files d s.environment (with_slot s.tables router len new)) len s.sessions at (place % LENGTHS);
      adjacencies = λ at a _ _.
          heard_published (λ k. not (same_ospf slot.ospf new.ospf) && offers_from files router k)
          (adjacency_up_at files s.failures) (offered_at files d (with_slot s.tables router len new)) len
          s.adjacencies at (place % LENGTHS);
    }

-- what is left behind a decision, and that nothing is behind a change of the links
decision_left : (files : List File) (s : State) (router len place : ℕ) →
    IsLeft (touched_by files s (Decide router len)) place → LENGTHS * router + len ≢ place
unfolding touched_by
decision_left files s router len place left = left

cut_left : (files : List File) (s : State) (link place : ℕ) → IsLeft (touched_by files s (Cut link)) place → ⊥
unfolding touched_by
cut_left files s link place left = left

mend_left : (files : List File) (s : State) (link place : ℕ) → IsLeft (touched_by files s (Mend link)) place → ⊥
unfolding touched_by
mend_left files s link place left = left

after_keeps : (files : List File) (d : Addr) (s : State) (event : Event) (place : ℕ) →
    IsLeft (touched_by files s event) place → IfOk (after files d s event) (IsKept files d s place)
unfolding after
after_keeps files d s (DeliverBgp at) place left =
    by_mail (IsKept files d s place) (λ channels. record s { sessions = channels }) s.sessions at (λ c m rest there front.
    unsettled_alike files d (record s { sessions = slice_set s.sessions at (received_one c m rest) }) s
    (place / LENGTHS) (place % LENGTHS) record {
      failures = refl;
      ids = refl;
      slot = refl;
      sessions = λ k end is row. heard_elsewhere s.sessions at k (place % LENGTHS) c m rest there (λ same column.
          let here : slice_get (ends_of files) at ≡ Some end =
          subst (λ j. slice_get (ends_of files) j ≡ Some end) (sym same) is in
          not_there (touched_by files s (DeliverBgp at)) place end.router m.len left
          (by_session files s at end c m rest here there front) row column);
      adjacencies = λ k a _ _. refl;
    })
after_keeps files d s (DeliverOspf at) place left =
    by_mail (IsKept files d s place) (λ channels. record s { adjacencies = channels }) s.adjacencies at
    (λ c m rest there front.
    unsettled_alike files d (record s { adjacencies = slice_set s.adjacencies at (received_one c m rest) }) s
    (place / LENGTHS) (place % LENGTHS) record {
      failures = refl;
      ids = refl;
      slot = refl;
      sessions = λ k end _ _. refl;
      adjacencies = λ k a is row. heard_elsewhere s.adjacencies at k (place % LENGTHS) c m rest there (λ same column.
          let here : slice_get (adjacencies files) at ≡ Some a =
          subst (λ j. slice_get (adjacencies files) j ≡ Some a) (sym same) is in
          not_there (touched_by files s (DeliverOspf at)) place a.from.router m.len left
          (by_adjacency files s at a c m rest here there front) row column);
    })
after_keeps files d s (Decide router len) place left =
    by_either (IsKept files d s place) (nat_lt len LENGTHS) _ UnknownName
    (by (slice_get files router) (slot_at s.tables router len))
  where
    apart : LENGTHS * router + len ≢ place
    apart = decision_left files s router len place left

    by : (file : Option File) (slot : Option Slot) →
        IfOk (option_map_or (λ x. option_map_or (λ y.
        Ok (told files d s router len y (decided files s router x (prefix_at d len) y))) slot (Err UnknownName)) file
        (Err UnknownName)) (IsKept files d s place)
    by None slot = tt
    by (Some file) None = tt
    by (Some file) (Some slot) =
        told_keeps files d s router len place slot (decided files s router file (prefix_at d len) slot) apart
after_keeps files d s (Announce end len what) place left =
    by_either (IsKept files d s place) ((is_outside_at files end && nat_lt len LENGTHS) && is_about files end len what)
    (Ok (announced files d s end len what)) UnknownName
    (unsettled_alike files d (announced files d s end len what) s (place / LENGTHS) (place % LENGTHS) record {
      failures = refl;
      ids = refl;
      slot = refl;
      sessions = λ at x _ _.
          heard_published (λ k. k == end) (session_up_at files s.failures)
          (arriving_at files d
          (record s.environment { announced = announced_with s.environment.announced end len what }) s.tables) len
          s.sessions at (place % LENGTHS);
      adjacencies = λ at a _ _. refl;
    })
after_keeps files d s (Cut link) place left = absurd (cut_left files s link place left)
after_keeps files d s (Mend link) place left = absurd (mend_left files s link place left)

-- what is known of the places that an event does not touch stays so
pub known_after : (files : List File) (d : Addr) (s next : State) (event : Event) (known : List (Option Bool)) →
    AreKnown files d s known → after files d s event ≡ Ok next →
    AreKnownBut files d next (touched_by files s event) known
known_after files d s next event known are is = record {
  each = λ place would left there.
      let kept : IsKept files d s place next =
      subst (λ (r : Result State EventRefused). IfOk r (IsKept files d s place)) is
      (after_keeps files d s event place left) in
      kept ∙ are.each place would tt there;
}
