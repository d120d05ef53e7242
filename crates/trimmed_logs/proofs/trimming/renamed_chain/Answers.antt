use Rattle.std.proofs.Common.{◌∙◌, ap₂, sym, ◌∷◌, ◌++◌, []}
use Rattle.std.proofs.lemmas.List.{map_more}
use Rattle.std.specs.Ordering.{nat_cmp}
use Rattle.std.specs.BTreeMap.{get}
use Rattle.trimmed_logs.specs.Kept.{named}
use Rattle.trimmed_logs.proofs.trimming.renamed_chain.Goals as goal

pub loop-id-preserved : goal.loop-id-preserved
loop-id-preserved c =
    c.in_ok-push.ensures.items ∙ ap₂ (λ xs y. xs ++ y ∷ []) c.loop-id.invariant c.name_of.ensures
    ∙ sym (map_more (named (λ n. get nat_cmp c.args.names.now n)) c.args.chain.now c.loop-id.id-index 0
    c.loop-id-test.true)
