use Rattle.std.proofs.Common.{◌≤◌, ◌∙◌, [], ◌∷◌, ◌++◌, ap, length, sym}
use Rattle.std.specs.Prelude.{slice_get}
use Rattle.mw_text.proofs.Lists.{each_place-push}
use Rattle.run_inputs.specs.declared.load.TheConstants.{MOST_BYTES}
use Rattle.run_inputs.specs.Due.{ring_texts}
use Rattle.run_inputs.proofs.Commands.{ring_more}
use Rattle.run_inputs.proofs.ring.ring_texts.Goals as goal

pub loop-router-preserved : goal.loop-router-preserved
loop-router-preserved c =
    let before = c.loop-router.texts-inside.items.items in
    let items = c.in_ok-push.ensures.items in (
      items ∙ ap (λ ts. ts ++ c.in_ok-text.text ∷ []) c.loop-router.invariant.0
          ∙ ap (λ t. ring_texts c.args.routers c.loop-router.router ++ t ∷ []) c.in_ok-text.ensures.text
          ∙ sym (ring_more c.args.routers c.loop-router.router),
      λ k text found. each_place-push
          (λ _ t. length t.bytes ≤ MOST_BYTES) before c.in_ok-text.text c.loop-router.invariant.1
          c.in_ok-text.ensures.small k text
          (sym (ap (λ xs. slice_get xs k) items) ∙ found),
    )
