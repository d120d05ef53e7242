use Rattle.std.proofs.Common.{◌≡◌, List, ℕ, Ok, Option, map, subst}
use Rattle.std.specs.Prelude.{IfOk, IfSome}
use Rattle.mw_outside.specs.Contents.{Contents}
use Rattle.run_inputs.specs.declared.text.Text.{Text}
use Rattle.run_inputs.specs.Due.{Outcome, simulation_due, text_of}
use Rattle.run_inputs.specs.Loading.{IsSaidOf}
use Rattle.run_inputs.proofs.Simulating.{led_read}
use Rattle.run_inputs.proofs.events.load_simulation.Goals as goal

pub returns-clause-ok : goal.returns-clause-ok
returns-clause-ok g c =
    let names : List (List ℕ) = map (λ s. s.now) c.args.names.now in
    let told : Option Contents = g.F.Files.contents c.args.files.now in
    let E : Option Contents → Type 0 = λ o.
    IfSome o (λ contents. text_of contents c.args.events.now ≡ Ok c.in_ok-events.events) in
    let sliced = c.as_slice.ensures in
    let same : c.as_slice.result.now ≡ c.in_ok-texts.texts = cc in
    let S : List Text → Type 0 = λ ts. IfOk c.parse_simulation.result
    (λ answer. (outcome : Outcome) × (simulation_due ts c.in_ok-events.events ≡ Ok outcome) × IsSaidOf outcome answer) in
    led_read c.parse_simulation.result told names c.args.events.now c.in_ok-texts.texts c.in_ok-events.events
    c.in_ok-texts.ensures.ok (subst E c.in_ok-texts.ensures.kept c.in_ok-events.ensures.ok)
    (subst S same c.parse_simulation.ensures.ok)
