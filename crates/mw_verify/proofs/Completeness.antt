-- Completeness follows of how runs end.
use Rattle.std.proofs.Common.{◌≡◌, ◌∙◌, Bool, true, false, Option, Some, None, refl, sym, subst, inl, inr}
use Rattle.mw_outside.specs.Contents.{Contents}
use Rattle.run_inputs.specs.Due.{Command, IsDue, IsDueBy, Outcome, command_of}
use Rattle.run_inputs.specs.Due.{to_verify, to_check, to_replay, to_simulate, to_gen}
use Rattle.run_inputs.specs.Due.{usage, unread, refused, answering, replaying, checking, simulating, generating}
use Rattle.run_inputs.proofs.Commands.{due_usage}
use Rattle.log_answers.specs.declared.answer.LogAnswer.{LogAnswer}
use Rattle.log_answers.specs.declared.answer.LogAnswer.TheVariants.{Yes, No}
use Rattle.stable_replay.specs.declared.differs.ReplayNo.{ReplayNo}
use Rattle.run_answers.specs.declared.status.Status.{Status}
use Rattle.run_answers.specs.declared.status.Status.TheVariants.{Good, Bad, Unknown, Usage, Refused, ReadFault}
use Rattle.run_answers.specs.declared.status.Status.TheVariants.{WriteFault, Memory}
use Rattle.run_answers.specs.Checks.{log_status}
use Rattle.run_answers.specs.Replays.{replay_status}
use Rattle.run_answers.specs.Simulations.{state_status}
use Rattle.mw_verify.specs.Completeness.{Comes, IsComplete, IsKnownDue, IsOfVerdicts, IsYesOrNo, StandsWhole}
use Rattle.mw_verify.specs.Runs.{Course, EndsSo}

-- ---- nothing else is due

only_due : (told : Option Contents) (command : Option Command) (outcome other : Outcome) →
    IsKnownDue told command outcome → IsDueBy told command other → other ≡ outcome
only_due (Some contents) command outcome other known due = sym due.told ∙ known
only_due None None outcome other known due = absurd known
only_due None (Some (to_verify budget asked names)) outcome other known due = absurd known
only_due None (Some (to_check log asked names)) outcome other known due = absurd known
only_due None (Some (to_replay cex asked names)) outcome other known due = absurd known
only_due None (Some (to_simulate events names)) outcome other known due = absurd known
only_due None (Some (to_gen budget routers)) outcome other known due = sym due.made ∙ known

-- so what comes is what is due
comes_due : (c : Course) (status : Status) (outcome other : Outcome) →
    IsKnownDue c.told (command_of c.words) outcome → IsDue c.told c.words other → Comes c other status →
    Comes c outcome status
comes_due c status outcome other known due comes =
    let C : Outcome → Type 0 = λ o. Comes c o status in
    subst C (only_due c.told (command_of c.words) outcome other known due) comes

-- ---- the status of an answer is one of its command

of_replay : (answer : Option ReplayNo) (status : Status) → status ≡ replay_status answer → IsYesOrNo status
of_replay None status is = inl is
of_replay (Some why) status is = inr is

of_check : (answer : LogAnswer) (status : Status) → status ≡ log_status answer → IsYesOrNo status
of_check Yes status is = inl is
of_check (No line cause) status is = inr is

of_state : (quiet : Bool) (status : Status) → status ≡ state_status quiet → IsYesOrNo status
of_state true status is = inl is
of_state false status is = inr is

comes_answered : (c : Course) (status : Status) (outcome : Outcome) → IsOfVerdicts status →
    StandsWhole c outcome status → Comes c outcome status
comes_answered c status usage one so = absurd so
comes_answered c status unread one so = absurd so
comes_answered c status (refused line) one so = absurd so
comes_answered c status (answering files questions budget) one so = (one, so)
comes_answered c status (generating routers files questions budget) one so = (one, so)
comes_answered c status (replaying files questions cex) one so = (of_replay so.0.answer status so.0.ends, so)
comes_answered c status (checking files questions log) one so = (of_check so.0.answer status so.0.ends, so)
comes_answered c status (simulating files last) one so = (of_state so.0.answer.is_quiet status so.0.ends, so)

-- ---- completeness

pub so_complete : (c : Course) (Unlogged : Type 0) (status : Status) → EndsSo c Unlogged status → IsComplete c status
so_complete c Unlogged Good (is, (other, due, so), read, written) outcome known faultless =
    inr (comes_due c Good outcome other known due (comes_answered c Good other (inl refl) so))
so_complete c Unlogged Bad (is, (other, due, so), read, written) outcome known faultless =
    inr (comes_due c Bad outcome other known due (comes_answered c Bad other (inr (inl refl)) so))
so_complete c Unlogged Unknown (is, (other, due, so), read, written) outcome known faultless =
    inr (comes_due c Unknown outcome other known due (comes_answered c Unknown other (inr (inr refl)) so))
so_complete c Unlogged Usage (none, takes, read, written, unlogged) outcome known faultless =
    inr (comes_due c Usage outcome usage known (due_usage c.told c.words none) (refl, takes))
so_complete c Unlogged Refused (is, (line, takes, due), read, written, unlogged) outcome known faultless =
    inr (comes_due c Refused outcome (refused line) known due (refl, takes))
so_complete c Unlogged ReadFault (is, (rose, stops, same), written, unlogged) outcome known faultless = absurd (faultless.0 rose)
so_complete c Unlogged WriteFault (inl rose, cut, read) outcome known faultless = absurd (faultless.1 rose)
so_complete c Unlogged WriteFault (inr rose, cut, read) outcome known faultless = absurd (faultless.2 rose)
so_complete c Unlogged Memory so outcome known faultless = inl refl
