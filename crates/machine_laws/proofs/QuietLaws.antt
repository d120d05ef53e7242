-- A quiet state is stable.
use Rattle.std.proofs.Common.{◌≡◌, ◌∙◌, ℕ, ◌<◌, Bool, true, false, List, [], ◌∷◌, length, Option, Some, None, refl, ap, sym}
use Rattle.std.proofs.Common.{subst, arith, zero, suc}
use Rattle.std.specs.Prelude.{◌==◌, All, Any, MatchOption, slice_get, option_and_then}
use Rattle.std.specs.List.{list_any}
use Rattle.std.proofs.lemmas.Bool.{and_parts}
use Rattle.std.proofs.lemmas.List.Folds.{Any-from_list_any}
use Rattle.std.proofs.lemmas.Option.{slice_get_within, get_or_from_slice_get}
use Rattle.mw_text.specs.declared.address.Addr.{Addr}
use Rattle.mw_text.specs.Address.{prefix_at}
use Rattle.ios_ast.specs.declared.bgp.Bgp.{Bgp}
use Rattle.ios_ast.specs.declared.file.File.{File}
use Rattle.ios_ast.specs.declared.ospf.Ospf.{Ospf}
use Rattle.route_record.specs.declared.BgpRec.{BgpRec}
use Rattle.route_record.specs.declared.Slot.{Slot}
use Rattle.route_record.specs.declared.TheConstants.{LENGTHS}
use Rattle.route_record.specs.Fits.{FitsSlot}
use Rattle.route_record.specs.Places.{slot_at}
use Rattle.net_parts.specs.Decisions.{Candidate, DecidedByBgp, IsHeld, arriving, candidates, survivors}
use Rattle.net_parts.specs.Origins.{local_routes}
use Rattle.net_parts.specs.Ospf.{adjacencies, is_adjacency_up}
use Rattle.net_parts.specs.OspfRoutes.{far_record, held_by_ospf, held_from, own_origins}
use Rattle.net_parts.specs.Sessions.{ends_of}
use Rattle.net_parts.specs.Stable.{Stable}
use Rattle.net_parts.proofs.Heard.{same_candidates, same_held}
use Rattle.net_parts.proofs.Survivors.{some_survive}
use Rattle.same_routes.proofs.SameRoutes.{same_rec_decides}
use Rattle.machine_laws.specs.declared.state.Channel.{Channel}
use Rattle.machine_laws.specs.declared.state.State.{State}
use Rattle.machine_laws.specs.Channels.{heard, IsRight, AreRight}
use Rattle.machine_laws.specs.Deciding.{candidates_heard, decided, decided_bgp, decided_entry, decided_ospf, first_route}
use Rattle.machine_laws.specs.Deciding.{has_route, kept}
use Rattle.machine_laws.specs.Quiet.{IsQuiet}
use Rattle.machine_laws.specs.Sending.{adjacency_up_at, arriving_at, offered_at, session_up_at}
use Rattle.machine_laws.specs.Sound.{IsSound}
use Rattle.machine_laws.proofs.ChannelLaws.{heard_now}

-- over a channel that is up and has no mail a router has heard what the far side sends
heard_at : {M : Type 0} (up : ℕ → Bool) (ex : ℕ → ℕ → Option M) (count : ℕ) (cs : List (Channel M)) (at len : ℕ) →
    AreRight up ex count cs → All (λ c. c.mail ≡ []) cs → at < count → up at ≡ true → len < LENGTHS →
    heard cs at len ≡ ex at len
heard_at {M = M} up ex count cs at len r quiet h u k = by (slice_get cs at) refl where
  by : (o : Option (Channel M)) → slice_get cs at ≡ o → heard cs at len ≡ ex at len
  by None e =
      let many : at < length cs = omega (arith, r.as_many) in absurd (never cs at many e)
    where
      never : (xs : List (Channel M)) (i : ℕ) → i < length xs → slice_get xs i ≡ None → ⊥
      never [] i h e = omega arith
      never (x ∷ xs) zero h e = cc
      never (x ∷ xs) (suc i) h e = never xs i (omega arith) e
  by (Some c) e =
      let right : IsRight true (ex at) c = subst (λ b. IsRight b (ex at) c) u (r.each at c e) in
      let none : c.mail ≡ [] =
      subst (λ (x : Channel M). x.mail ≡ []) (get_or_from_slice_get cs at c c e) (quiet at c (slice_get_within cs at c e)) in
      rw e (heard_now (ex at) c len right none k)

-- ---- what is decided by what was heard is what the tables make of it

ospf_same : (files : List File) (d : Addr) (s : State) (router len : ℕ) (file : File) (process : Ospf) (slot : Slot) →
    IsSound files d s → All (λ c. c.mail ≡ []) s.adjacencies → len < LENGTHS → slot_at s.tables router len ≡ Some slot →
    held_from files s.failures (λ at a. heard s.adjacencies at len) router
    (own_origins files s.failures router file process (prefix_at d len) slot)
    ≡ held_by_ospf files s.failures s.tables router file process (prefix_at d len)
unfolding held_by_ospf adjacency_up_at offered_at
ospf_same files d s router len file process slot sound quiet h is =
    rw is (same_held files s.failures (λ at a. heard s.adjacencies at len) (λ at a. far_record s.tables (prefix_at d len) a)
    router (own_origins files s.failures router file process (prefix_at d len) slot)
    (λ at a there up.
    let both = and_parts (a.from.router == router) (is_adjacency_up files s.failures a) up in
    let up_at : adjacency_up_at files s.failures at ≡ true = rw there both.1 in
    let far : offered_at files d s.tables at len ≡ far_record s.tables (prefix_at d len) a = rw there refl in
    heard_at (adjacency_up_at files s.failures) (offered_at files d s.tables) (length (adjacencies files)) s.adjacencies at
    len sound.adjacencies quiet (slice_get_within (adjacencies files) at a there) up_at h ∙ far))

candidates_same : (files : List File) (d : Addr) (s : State) (router len : ℕ) (file : File) (process : Bgp)
    (slot : Slot) → IsSound files d s → All (λ c. c.mail ≡ []) s.sessions → len < LENGTHS →
    slot_at s.tables router len ≡ Some slot →
    candidates_heard files s router file (prefix_at d len) slot process
    ≡ candidates files s.failures s.environment s.tables router file process (prefix_at d len)
unfolding candidates session_up_at arriving_at
candidates_same files d s router len file process slot sound quiet h is =
    rw is (same_candidates files s.failures s.environment.ids (λ at end. heard s.sessions at len)
    (arriving files s.environment s.tables (prefix_at d len)) router (prefix_at d len)
    (local_routes files router file process (prefix_at d len) slot)
    (λ at end there up.
    let up_at : session_up_at files s.failures at ≡ true = rw there up in
    let far : arriving_at files d s.environment s.tables at len
    ≡ arriving files s.environment s.tables (prefix_at d len) at end = rw there refl in
    heard_at (session_up_at files s.failures) (arriving_at files d s.environment s.tables) (length (ends_of files))
    s.sessions at len sound.sessions quiet (slice_get_within (ends_of files) at end there) up_at h ∙ far))

-- ---- what stays is held

first_none : (left : List Candidate) → first_route left ≡ None → left ≡ []
first_none [] e = refl
first_none (c ∷ rest) e = cc

first_some : (left : List Candidate) (h : BgpRec) → first_route left ≡ Some h → Any (λ c. c.rec ≡ h) left
first_some [] h e = cc
first_some (c ∷ rest) h e = (0, c, omega arith, refl, cc)

none_left : (always compare_id : Bool) (all : List Candidate) → survivors always compare_id all ≡ [] → all ≡ []
none_left always compare_id [] none = refl
none_left always compare_id (c ∷ rest) none =
    absurd (some_survive always compare_id (c ∷ rest) (λ e. cc) none)

kept_is_held : (all left : List Candidate) (held : Option BgpRec) → (left ≡ [] → all ≡ []) → kept held left ≡ held →
    IsHeld all left held
kept_is_held all left None none e = none (first_none left e)
kept_is_held all left (Some h) none e = by (list_any (has_route h) left) refl e where
  by : (b : Bool) → list_any (has_route h) left ≡ b → kept (Some h) left ≡ Some h → Any (λ c. c.rec ≡ h) left
  by true t is =
      let found : Any (λ c. has_route h c ≡ true) left = Any-from_list_any (has_route h) left t in
      (found.0, found.1, found.2, found.3, (same_rec_decides found.1.rec h).0 found.4)
  by false t is = first_some left h (rw t at is)

-- ---- the equations

ospf_holds : (files : List File) (d : Addr) (s : State) (router len : ℕ) (file : File) (slot : Slot) →
    IsSound files d s → All (λ c. c.mail ≡ []) s.adjacencies → len < LENGTHS → slot_at s.tables router len ≡ Some slot →
    (o : Option Ospf) →
    option_and_then (λ process. held_from files s.failures (λ at a. heard s.adjacencies at len) router
    (own_origins files s.failures router file process (prefix_at d len) slot)) o
    ≡ option_and_then (λ process. held_by_ospf files s.failures s.tables router file process (prefix_at d len)) o
ospf_holds files d s router len file slot sound quiet h is None = refl
ospf_holds files d s router len file slot sound quiet h is (Some process) =
    ospf_same files d s router len file process slot sound quiet h is

bgp_holds : (files : List File) (d : Addr) (s : State) (router len : ℕ) (file : File) (slot : Slot) →
    IsSound files d s → All (λ c. c.mail ≡ []) s.sessions → len < LENGTHS → slot_at s.tables router len ≡ Some slot →
    (o : Option Bgp) →
    option_and_then (λ process. kept slot.bgp (survivors process.always_compare process.compare_routerid
    (candidates_heard files s router file (prefix_at d len) slot process))) o ≡ slot.bgp →
    MatchOption o (slot.bgp ≡ None)
    (λ process. DecidedByBgp files s.failures s.environment s.tables router file process (prefix_at d len) slot.bgp)
unfolding DecidedByBgp
bgp_holds files d s router len file slot sound quiet h is None settled = sym settled
bgp_holds files d s router len file slot sound quiet h is (Some process) settled =
    let all = candidates files s.failures s.environment s.tables router file process (prefix_at d len) in
    kept_is_held all (survivors process.always_compare process.compare_routerid all) slot.bgp
    (none_left process.always_compare process.compare_routerid all)
    (subst (λ cs. kept slot.bgp (survivors process.always_compare process.compare_routerid cs) ≡ slot.bgp)
    (candidates_same files d s router len file process slot sound quiet h is) settled)

pub quiet_stable : (files : List File) (d : Addr) (s : State) → IsSound files d s → All FitsSlot s.tables.slots →
    IsQuiet files d s → Stable files d s.failures s.environment s.tables
unfolding decided
quiet_stable files d s sound fits quiet = record {
  size = sound.slots;
  fits = fits;
  equations = λ router len file slot here h is.
      let settled : decided files s router file (prefix_at d len) slot ≡ slot = quiet.settled router len file slot here h is in
      let ospf : decided_ospf files s router file (prefix_at d len) slot ≡ slot.ospf = ap (λ (x : Slot). x.ospf) settled in
      let bgp : decided_bgp files s router file (prefix_at d len) slot ≡ slot.bgp = ap (λ (x : Slot). x.bgp) settled in
      let rib : decided_entry files s.failures router file (prefix_at d len) slot (decided_ospf files s router file (prefix_at d len) slot)
      (decided_bgp files s router file (prefix_at d len) slot) ≡ slot.rib = ap (λ (x : Slot). x.rib) settled in
      record {
        ospf = sym ospf ∙ ospf_holds files d s router len file slot sound quiet.no_mail.1 h is file.ospf;
        bgp = bgp_holds files d s router len file slot sound quiet.no_mail.0 h is file.bgp bgp;
        rib = sym (ap (λ o. decided_entry files s.failures router file (prefix_at d len) slot o slot.bgp) (sym ospf)
            ∙ (ap (λ b. decided_entry files s.failures router file (prefix_at d len) slot (decided_ospf files s router file (prefix_at d len) slot) b) (sym bgp)
            ∙ rib));
      };
}
