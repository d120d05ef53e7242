-- What is sent over the one session of an external peer.
use Rattle.std.proofs.Common.{◌≡◌, ◌∙◌, ℕ, zero, suc, ◌+◌, ◌<◌, ◌==◌, ◌&&◌, Bool, true, false, List, [], ◌∷◌, length, Option, Some, None}
use Rattle.std.proofs.Common.{refl, ap, sym, arith, get_or}
use Rattle.std.proofs.Common.{Ok, Err, Result}
use Rattle.std.specs.Prelude.{OnOk, nat_lt, slice_get, slice_set, if◌then◌else◌}
use Rattle.std.proofs.lemmas.Bool.{eq-eqb, eqb-true, ne_eqb}
use Rattle.std.proofs.lemmas.Option.{slice_get-get_or}
use Rattle.std.proofs.lemmas.Option.{slice_get_within}
use Rattle.mw_text.specs.declared.address.Addr.{Addr}
use Rattle.ios_ast.specs.declared.file.File.{File}
use Rattle.route_record.specs.declared.Announcement.{Announcement}
use Rattle.route_record.specs.declared.BgpMsg.{BgpMsg}
use Rattle.route_record.specs.declared.Environment.{Environment}
use Rattle.route_record.specs.declared.TheConstants.{LENGTHS}
use Rattle.route_record.specs.declared.Failures.{Failures}
use Rattle.net_parts.specs.declared.sessions.SessionEnd.{SessionEnd}
use Rattle.net_parts.specs.Sessions.{ends_of}
use Rattle.machine_laws.specs.declared.state.Channel.{Channel}
use Rattle.machine_laws.specs.declared.state.Event.TheVariants.{Announce}
use Rattle.machine_laws.specs.declared.state.EventRefused.{EventRefused}
use Rattle.machine_laws.specs.declared.state.State.{State}
use Rattle.machine_laws.specs.Channels.{batch, each_at, one, posted, published, silent}
use Rattle.machine_laws.specs.Announcing.{announced_with, is_about}
use Rattle.machine_laws.specs.Events.{after}
use Rattle.machine_laws.specs.Sending.{arriving_at, is_outside_at, session_up_at}
use Rattle.machine_laws.proofs.ChannelLaws.{posted_none}

no_batch : {M : Type 0} (source up : Bool) (len : ℕ) (what : Option M) (c : Channel M) → (source && up) ≡ false →
    posted (if source && up then one len what else []) c ≡ c
no_batch source up len what c off = rw off (posted_none c)

-- over channels behind that place nothing is sent
behind : {M : Type 0} (end : ℕ) (up : ℕ → Bool) (ex : ℕ → ℕ → Option M) (len n : ℕ) (cs : List (Channel M)) → end < n →
    each_at (λ at c. posted (batch (λ k. k == end) up ex len at) c) n cs ≡ cs
behind end up ex len n [] h = refl
behind end up ex len n (c ∷ cs) h =
    let off : (n == end) ≡ false = ne_eqb n end (λ e. omega arith) in
    let here : posted (batch (λ k. k == end) up ex len n) c ≡ c =
    no_batch (n == end) (up n) len (ex n len) c (rw off refl) in
    let more : each_at (λ at x. posted (batch (λ k. k == end) up ex len at) x) (n + 1) cs ≡ cs =
    behind end up ex len (n + 1) cs (omega arith) in cc

sent_from : {M : Type 0} (end : ℕ) (up : ℕ → Bool) (ex : ℕ → ℕ → Option M) (len n k : ℕ) (cs : List (Channel M))
    (c : Channel M) → slice_get cs k ≡ Some c → end ≡ n + k → up end ≡ true →
    each_at (λ at x. posted (batch (λ j. j == end) up ex len at) x) n cs
    ≡ slice_set cs k (posted (one len (ex end len)) c)
sent_from end up ex len n k [] c there at is = cc
sent_from end up ex len n zero (x ∷ cs) c there at is =
    let here : n ≡ end = omega arith in
    let same : x ≡ c = cc in
    let on : (n == end) ≡ true = eq-eqb n end here in
    let rest : each_at (λ j y. posted (batch (λ i. i == end) up ex len j) y) (n + 1) cs ≡ cs =
    behind end up ex len (n + 1) cs (omega arith) in
    let first : posted (batch (λ j. j == end) up ex len n) x ≡ posted (one len (ex end len)) c =
    rw on (rw here (rw is (ap (posted (one len (ex end len))) same))) in cc
sent_from end up ex len n (suc k) (x ∷ cs) c there at is =
    let off : (n == end) ≡ false = ne_eqb n end (λ e. omega arith) in
    let first : posted (batch (λ j. j == end) up ex len n) x ≡ x =
    no_batch (n == end) (up n) len (ex n len) x (rw off refl) in
    let rest : each_at (λ j y. posted (batch (λ i. i == end) up ex len j) y) (n + 1) cs
    ≡ slice_set cs k (posted (one len (ex end len)) c) =
    sent_from end up ex len (n + 1) k cs c there (omega arith) is in cc

-- where the session is up, one message goes over it
pub sent_at : {M : Type 0} (end : ℕ) (up : ℕ → Bool) (ex : ℕ → ℕ → Option M) (len : ℕ) (cs now : List (Channel M)) →
    end < length cs → up end ≡ true →
    ((c : Channel M) → slice_get cs end ≡ Some c → now ≡ slice_set cs end (posted (one len (ex end len)) c)) →
    now ≡ published (λ at. at == end) up ex len cs
sent_at end up ex len cs now h is each =
    let there = slice_get-get_or cs end silent h in
    each (get_or cs end silent) there
    ∙ sym (sent_from end up ex len 0 end cs (get_or cs end silent) there (omega arith) is)

-- where it is down, nothing is sent
pub unsent_at : {M : Type 0} (end : ℕ) (up : ℕ → Bool) (ex : ℕ → ℕ → Option M) (len : ℕ) (cs : List (Channel M)) →
    up end ≡ false → cs ≡ published (λ at. at == end) up ex len cs
unsent_at {M = M} end up ex len cs off = sym (none 0 cs) where
  unsent : (n : ℕ) (b : Bool) → (n == end) ≡ b → (b && up n) ≡ false
  unsent n true e = ap up (eqb-true n end e) ∙ off
  unsent n false e = refl

  none : (n : ℕ) (xs : List (Channel M)) →
      each_at (λ at c. posted (batch (λ k. k == end) up ex len at) c) n xs ≡ xs
  none n [] = refl
  none n (x ∷ xs) =
      let here : posted (batch (λ k. k == end) up ex len n) x ≡ x =
      no_batch (n == end) (up n) len (ex n len) x (unsent n (n == end) refl) in
      let more : each_at (λ at c. posted (batch (λ k. k == end) up ex len at) c) (n + 1) xs ≡ xs = none (n + 1) xs in cc

-- a session that is up has a place
pub up_within : (files : List File) (failures : Failures) (at : ℕ) → session_up_at files failures at ≡ true →
    at < length (ends_of files)
unfolding session_up_at
up_within files failures at is = by (slice_get (ends_of files) at) refl where
  by : (o : Option SessionEnd) → slice_get (ends_of files) at ≡ o → at < length (ends_of files)
  by None e = let off : false ≡ true = rw e at is in cc
  by (Some end) e = slice_get_within (ends_of files) at end e

-- the state behind it, where memory was not short
pub sent_state : (files : List File) (d : Addr) (s : State) (end len : ℕ) (what : Option BgpMsg)
    (r : Result (Unit {0}) EventRefused) (now : List (Channel BgpMsg)) → length s.sessions ≡ length (ends_of files) →
    session_up_at files s.failures end ≡ true → what ≡ arriving_at files d s.environment s.tables end len →
    OnOk r ((c : Channel BgpMsg) → slice_get s.sessions end ≡ Some c →
    now ≡ slice_set s.sessions end (posted (one len what) c)) →
    OnOk r (◌≡◌ {A = State} (record s { sessions = now }) (record s {
      sessions = published (λ at. at == end) (session_up_at files s.failures)
          (arriving_at files d s.environment s.tables) len s.sessions;
    }))
sent_state files d s end len what (Err why) now many on is each = tt
sent_state files d s end len what (Ok done) now many on is each =
    ap (λ (x : List (Channel BgpMsg)). let made : State = record s { sessions = x } in made)
    (sent_at end (session_up_at files s.failures) (arriving_at files d s.environment s.tables) len s.sessions now
    (omega (arith, many, up_within files s.failures end on)) on
    (λ c there. each c there ∙ ap (λ w. slice_set s.sessions end (posted (one len w) c)) is))

-- the state with these announcements, of which one is sent
abbrev pub announced_by : List File → Addr → State → ℕ → ℕ → List Announcement → State
announced_by files d s end len list =
    let environment : Environment = record s.environment { announced = list } in
    record s {
      environment = environment;
      sessions = published (λ at. at == end) (session_up_at files s.failures) (arriving_at files d environment s.tables)
          len s.sessions;
    }

-- the state behind an announcement
pub announce_is : (files : List File) (d : Addr) (s : State) (end len : ℕ) (what : Option Announcement)
    (list : List Announcement) (new : State) →
    ((is_outside_at files end && nat_lt len LENGTHS) && is_about files end len what) ≡ true →
    list ≡ announced_with s.environment.announced end len what →
    new ≡ announced_by files d s end len list → after files d s (Announce end len what) ≡ Ok new
unfolding after
announce_is files d s end len what list new may is made =
    rw may (ap (λ (x : State). let r : Result State EventRefused = Ok x in r)
    (sym (made ∙ ap (announced_by files d s end len) is)))
