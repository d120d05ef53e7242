-- Texts that are read one after another.
use Rattle.std.proofs.Common.{◌≡◌, ℕ, List, Option, Some, None, Result, Ok, Err, ap, ◌∙◌}
use Rattle.std.specs.Prelude.{IfSome}
use Rattle.mw_outside.specs.Contents.{Contents}
use Rattle.mw_text.specs.Reading.{each, following}
use Rattle.run_inputs.specs.declared.text.Text.{Text}
use Rattle.run_inputs.specs.Due.{Outcome, refused, text_of, text_within}

-- the third kind of file was refused, after those of the first two were read
pub third_refused : {A : Type 0} (told : Option Contents) (names : List (List ℕ)) (own asked : List ℕ)
    (texts : List Text) (question : Text) (line : List ℕ) (most : ℕ)
    (become : List Text → Text → Text → Result A Outcome) →
    IfSome told (λ contents. each (text_of contents) names ≡ Ok texts) →
    IfSome told (λ contents. text_of contents asked ≡ Ok question) →
    IfSome told (λ contents. text_within most contents own ≡ Err (refused line)) →
    IfSome told (λ contents. following (λ ts. following (λ q. following (become ts q) (text_within most contents own))
    (text_of contents asked)) (each (text_of contents) names) ≡ Err (refused line))
third_refused None names own asked texts question line most become read one stopped = tt
third_refused (Some contents) names own asked texts question line most become read one stopped =
    ap (following (λ ts. following (λ q. following (become ts q) (text_within most contents own))
    (text_of contents asked))) read
    ∙ ap (following (λ q. following (become texts q) (text_within most contents own))) one
    ∙ ap (following (become texts question)) stopped
