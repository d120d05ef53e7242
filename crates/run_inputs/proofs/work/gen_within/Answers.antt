use Rattle.std.proofs.Common.{ℕ, refl, subst, sym}
use Rattle.run_inputs.specs.declared.work.Work.TheVariants.{Gen}
use Rattle.run_inputs.specs.Due.{generating, to_gen}
use Rattle.run_inputs.specs.Loading.{IsBudget}
use Rattle.run_inputs.proofs.Commands.{gen_due_by, gen_stopped, quiet_stop, works_ok, works_stop}
use Rattle.run_inputs.proofs.work.gen_within.Goals as goal

pub returns-in-Ok : goal.returns-in-Ok
returns-in-Ok c = λ told faults last.
    let B : ℕ → Type 0 = λ b. IsBudget b in
    works_ok told _ (to_gen c.args.budget c.args.routers) (Gen c.in-Ok.ring) _ faults faults last last refl
    (gen_due_by told c.args.budget c.args.routers (generating c.in-Ok.ring.routers c.in-Ok.ring.loaded.net.files
    c.in-Ok.ring.loaded.questions c.in-Ok.ring.loaded.budget) c.in-Ok.ensures.ok) refl
    (c.in-Ok.ensures.few, subst B (sym c.in-Ok.ensures.budget) c.requires) refl refl

pub returns-in-Err : goal.returns-in-Err
returns-in-Err c = λ told faults last.
    works_stop ℕ told _ (to_gen c.args.budget c.args.routers) c.in-Err.stop faults faults last last refl
    (gen_stopped told c.args.budget c.args.routers c.in-Err.stop faults faults last c.in-Err.ensures.stop)
    (quiet_stop ℕ c.in-Err.stop refl) (quiet_stop ℕ c.in-Err.stop refl)
