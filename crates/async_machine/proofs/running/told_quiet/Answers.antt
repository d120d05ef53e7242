use Rattle.std.proofs.Common.{◌∙◌, Bool, subst, sym}
use Rattle.std.specs.Bool.{Decides}
use Rattle.machine_laws.specs.Quiet.{IsQuiet}
use Rattle.machine_laws.proofs.NextLaws.{quiet_decides}
use Rattle.machine_laws.proofs.Reached.{reached_stable}
use Rattle.async_machine.proofs.Taken.{none_by}
use Rattle.async_machine.proofs.running.told_quiet.Goals as goal

pub returns-clause-value : goal.returns-clause-value
returns-clause-value c =
    let s = c.args.state.now in
    subst (λ (b : Bool). Decides b (IsQuiet c.args.net.now.files c.args.d s)) (sym (none_by c.args.next.now c.is_none.result c.is_none.ensures))
    (quiet_decides c.args.net.now.files c.args.d s c.args.next.now c.requires.next)

pub returns-clause-stable : goal.returns-clause-stable
returns-clause-stable c = λ e.
    let s = c.args.state.now in
    reached_stable c.args.net.now.files c.args.d s c.requires.reached c.read_tables.ensures
    ((quiet_decides c.args.net.now.files c.args.d s c.args.next.now c.requires.next).0 (sym (none_by c.args.next.now c.is_none.result c.is_none.ensures) ∙ e))
