-- Events that were read, and what they come to.
use Rattle.std.proofs.Common.{◌≡◌, ◌∙◌, List, Option, Some, None, Result, Ok, Err, refl, ap}
use Rattle.std.specs.Prelude.{ℕ, IfOk, IfSome}
use Rattle.mw_text.specs.Reading.{each, following}
use Rattle.mw_outside.specs.Contents.{Contents}
use Rattle.ios_ast.specs.declared.file.File.{File}
use Rattle.simulation.specs.declared.simulating.Simulated.{Simulated}
use Rattle.simulation.specs.Simulating.{IsTold, Last}
use Rattle.run_inputs.specs.declared.text.Text.{Text}
use Rattle.run_inputs.specs.Due.{Outcome, events_of, network_due, simulated_due, simulating, simulation_due, text_of}
use Rattle.run_inputs.specs.Loading.{IsSaidOf}

-- of the network of some texts
pub led_over : {E : Type 0} (result : Result Simulated E) (texts : List Text) (events : Text) (files : List File) →
    network_due texts ≡ Ok files →
    IfOk result (λ answer. (last : Last) × (events_of events files ≡ Ok (simulating files last))
    × IsTold files last answer) →
    IfOk result (λ answer. (outcome : Outcome) × (simulation_due texts events ≡ Ok outcome) × IsSaidOf outcome answer)
led_over (Err e) texts events files made led = tt
led_over (Ok answer) texts events files made (last, led, told) =
    (simulating files last, ap (following (events_of events)) made ∙ led, (files, last, refl, told))

-- of the texts of files
due_read : (told : Option Contents) (names : List (List ℕ)) (own : List ℕ) (texts : List Text) (events : Text)
    (outcome : Outcome) → IfSome told (λ contents. each (text_of contents) names ≡ Ok texts) →
    IfSome told (λ contents. text_of contents own ≡ Ok events) → simulation_due texts events ≡ Ok outcome →
    IfSome told (λ contents. simulated_due contents own names ≡ Ok outcome)
due_read None names own texts events outcome read one is = tt
due_read (Some contents) names own texts events outcome read one is =
    ap (following (λ ts. following (simulation_due ts) (text_of contents own))) read
    ∙ ap (following (simulation_due texts)) one ∙ is

pub led_read : {E : Type 0} (result : Result Simulated E) (told : Option Contents) (names : List (List ℕ))
    (own : List ℕ) (texts : List Text) (events : Text) →
    IfSome told (λ contents. each (text_of contents) names ≡ Ok texts) →
    IfSome told (λ contents. text_of contents own ≡ Ok events) →
    IfOk result (λ answer. (outcome : Outcome) × (simulation_due texts events ≡ Ok outcome)
    × IsSaidOf outcome answer) →
    IfOk result (λ answer. (outcome : Outcome) × IfSome told (λ contents. simulated_due contents own names ≡ Ok outcome)
    × IsSaidOf outcome answer)
led_read (Err e) told names own texts events read one led = tt
led_read (Ok answer) told names own texts events read one (outcome, due, said) =
    (outcome, due_read told names own texts events outcome read one due, said)
