-- What the calls make of a state is what the event makes of it.
use Rattle.std.proofs.Common.{◌≡◌, ◌∙◌, ℕ, ◌+◌, ◌*◌, Bool, true, false, List, Option, Some, None, Ok, Err, Result, refl, ap}
use Rattle.std.proofs.Common.{sym}
use Rattle.std.specs.Prelude.{IfOk, OnErr, nat_lt, not, option_and_then, option_map, slice_get, slice_set, if◌then◌else◌}
use Rattle.std.specs.Bool.{Decides}
use Rattle.std.specs.Option.{is_none, is_some, option_map_or}
use Rattle.mw_text.specs.declared.address.Addr.{Addr}
use Rattle.mw_text.specs.Address.{prefix_at}
use Rattle.ios_ast.specs.declared.file.File.{File}
use Rattle.route_record.specs.declared.BgpMsg.{BgpMsg}
use Rattle.route_record.specs.declared.Failures.{Failures}
use Rattle.route_record.specs.declared.OspfRec.{OspfRec}
use Rattle.route_record.specs.declared.Slot.{Slot}
use Rattle.route_record.specs.declared.Tables.{Tables}
use Rattle.route_record.specs.declared.TheConstants.{LENGTHS}
use Rattle.route_record.specs.Places.{slot_at}
use Rattle.machine_laws.specs.declared.state.Channel.{Channel}
use Rattle.machine_laws.specs.declared.state.Event.{Event}
use Rattle.machine_laws.specs.declared.state.Event.TheVariants.{Decide}
use Rattle.machine_laws.specs.declared.state.EventRefused.{EventRefused}
use Rattle.machine_laws.specs.declared.state.EventRefused.TheVariants.{UnknownName}
use Rattle.machine_laws.specs.declared.state.State.{State}
use Rattle.machine_laws.specs.Deciding.{decided}
use Rattle.machine_laws.specs.Events.{after, delivered_at, put_in, told, told_if, with_failures, with_slot}
use Rattle.machine_laws.specs.Quiet.{IsQuiet, next_event}
use Rattle.machine_laws.specs.Sound.{IsSound}
use Rattle.machine_laws.proofs.NextLaws.{quiet_decides}
use Rattle.machine_channels.specs.Changes.{as_delivered}
use Rattle.machine_sending.specs.Plans.{HasChannels, adjacencies_renewed, adjacencies_told, sessions_renewed, sessions_told}
use Rattle.async_machine.specs.declared.deciding.Decision.{Decision}
use Rattle.async_machine.specs.Decisions.{decision, decision_at}
use Rattle.async_machine.specs.Taking.{Takes}

-- ---- decisions

of_decision : List File → Addr → State → ℕ → ℕ → Option Decision → Result State EventRefused
of_decision files d s router len made =
    option_map_or (λ (x : Decision). Ok (told_if files d s router len x.bgp x.ospf x.slot)) made (Err UnknownName)

decide_by : (files : List File) (d : Addr) (s : State) (router len : ℕ) (fits : Bool) (file : Option File)
    (slot : Option Slot) →
    (if fits then option_map_or (λ x. option_map_or (λ y.
    Ok (told files d s router len y (decided files s router x (prefix_at d len) y))) slot (Err UnknownName)) file
    (Err UnknownName) else Err UnknownName)
    ≡ of_decision files d s router len (if fits then option_and_then (λ x. option_map (λ y.
    decision files s router x (prefix_at d len) y) slot) file else None)
unfolding of_decision
decide_by files d s router len false file slot = refl
decide_by files d s router len true None slot = refl
decide_by files d s router len true (Some x) None = refl
decide_by files d s router len true (Some x) (Some y) = refl

decide_all : (files : List File) (d : Addr) (s : State) (router len : ℕ) →
    after files d s (Decide router len) ≡ of_decision files d s router len (decision_at files d s router len)
unfolding after
decide_all files d s router len =
    decide_by files d s router len (nat_lt len LENGTHS) (slice_get files router) (slot_at s.tables router len)

-- one that there is
pub decide_is : (files : List File) (d : Addr) (s : State) (router len : ℕ) (made : Decision) →
    Some made ≡ decision_at files d s router len →
    after files d s (Decide router len) ≡ Ok (told_if files d s router len made.bgp made.ospf made.slot)
unfolding of_decision
decide_is files d s router len made is =
    decide_all files d s router len ∙ ap (of_decision files d s router len) (sym is)

-- none
pub decide_none : (files : List File) (d : Addr) (s : State) (router len : ℕ) → None ≡ decision_at files d s router len →
    after files d s (Decide router len) ≡ Err UnknownName
unfolding of_decision
decide_none files d s router len is =
    decide_all files d s router len ∙ ap (of_decision files d s router len) (sym is)

-- the state after a slot was written and the plan carried out
pub told_at : (files : List File) (d : Addr) (s : State) (router len : ℕ) (bgp ospf : Bool) (new : Slot) (tables : Tables)
    (sessions : List (Channel BgpMsg)) (adjacencies : List (Channel OspfRec)) →
    tables.slots ≡ slice_set s.tables.slots (LENGTHS * router + len) new →
    sessions ≡ sessions_told files d (record s { tables = tables }) router len bgp →
    adjacencies ≡ adjacencies_told files d (record s { tables = tables }) router len ospf →
    ◌≡◌ {A = State} (record {
      tables = tables;
      sessions = sessions;
      adjacencies = adjacencies;
      failures = s.failures;
      environment = s.environment;
    }) (told_if files d s router len bgp ospf new)
told_at files d s router len bgp ospf new tables sessions adjacencies is one two =
    let same : with_slot s.tables router len new ≡ tables =
    sym (ap (λ (x : List Slot). let t : Tables = record { slots = x } in t) is) in
    let made : Tables → List (Channel BgpMsg) → List (Channel OspfRec) → State = λ t x y. record {
      tables = t;
      sessions = x;
      adjacencies = y;
      failures = s.failures;
      environment = s.environment;
    } in
    let all : Tables → State = λ t. made t (sessions_told files d (record s { tables = t }) router len bgp)
    (adjacencies_told files d (record s { tables = t }) router len ospf) in
    ap (λ x. made tables x adjacencies) one
    ∙ (ap (made tables (sessions_told files d (record s { tables = tables }) router len bgp)) two
    ∙ ap all (sym same))

-- ---- failures

pub renewed_state : (files : List File) (d : Addr) (s : State) (failures : Failures) (sessions : List (Channel BgpMsg))
    (adjacencies : List (Channel OspfRec)) →
    sessions ≡ sessions_renewed files d s failures → adjacencies ≡ adjacencies_renewed files d s failures →
    ◌≡◌ {A = State} (record {
      tables = s.tables;
      sessions = sessions;
      adjacencies = adjacencies;
      failures = failures;
      environment = s.environment;
    }) (with_failures files d s failures)
renewed_state files d s failures sessions adjacencies one two =
    let made : List (Channel BgpMsg) → List (Channel OspfRec) → State = λ x y. record {
      tables = s.tables;
      sessions = x;
      adjacencies = y;
      failures = failures;
      environment = s.environment;
    } in
    ap (λ x. made x adjacencies) one ∙ ap (made (sessions_renewed files d s failures)) two

-- ---- deliveries

-- what a delivery answers is what the event makes
pub delivered : {M : Type 0} (files : List File) (d : Addr) (event : Event) (put : List (Channel M) → State)
    (cs now : List (Channel M)) (at : ℕ) (r : Result (Unit {0}) EventRefused) →
    after files d (put cs) event ≡ put_in put (delivered_at cs at) → delivered_at cs at ≡ as_delivered r now →
    OnErr r (now ≡ cs) → Takes files d (put cs) event r (put now)
delivered files d event put cs now at (Ok done) is told kept =
    record { ok = is ∙ ap (put_in put) told; refused = tt; unchanged = tt }
delivered files d event put cs now at (Err why) is told kept =
    record { ok = tt; refused = λ _. is ∙ ap (put_in put) told; unchanged = ap put kept }

-- ---- what the calls ask for

pub has_channels : (files : List File) (d : Addr) (s : State) → IsSound files d s → HasChannels files s
has_channels files d s sound = record {
  sessions = sound.sessions.as_many;
  adjacencies = sound.adjacencies.as_many;
}

-- there is none where there is not some
pub none_by : {A : Type 0} (o : Option A) (b : Bool) → is_some o ≡ not b → b ≡ is_none o
none_by None true e = refl
none_by None false e = cc
none_by (Some x) true e = cc
none_by (Some x) false e = refl

-- that no event comes next tells whether the state is quiet
pub none_tells : {E : Type 0} (files : List File) (d : Addr) (s : State) (r : Result (Option Event) E) →
    IfOk r (λ next. next ≡ next_event files d s) → IfOk r (λ next. Decides (is_none next) (IsQuiet files d s))
none_tells files d s (Ok next) is = quiet_decides files d s next is
none_tells files d s (Err e) is = tt
