use Rattle.std.proofs.Common.{◌∙◌, ap, sym, map, [], ◌∷◌, ◌++◌}
use Rattle.std.proofs.lemmas.List.{map-append}
use Rattle.trimmed_logs.specs.Kept.{kept}
use Rattle.trimmed_logs.proofs.Keeping.{found_more, found_same}
use Rattle.trimmed_logs.proofs.marking.keep.Goals as goal

pub returns-in_ok-push : goal.returns-in_ok-push
returns-in_ok-push c = λ last later f.
    found_more _ _ _ _ last c.args.entry.now later f
    (sym (c.is_marked.ensures (kept last later ++ last ∷ []) f.marked) ∙ c.if-is_marked.true)
    (λ id. c.in_ok-mark_chain.ensures id)
    (ap (map (λ e. e.now)) c.in_ok-push.ensures.items
    ∙ map-append (λ e. e.now) c.args.found.now.items (c.args.entry ∷ []))

pub returns-else-is_marked : goal.returns-else-is_marked
returns-else-is_marked c = λ last later f.
    found_same _ _ last c.args.entry.now later f
    (sym (c.is_marked.ensures (kept last later ++ last ∷ []) f.marked) ∙ c.if-is_marked.false)
