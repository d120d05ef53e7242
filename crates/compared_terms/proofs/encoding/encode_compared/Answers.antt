use Rattle.std.proofs.Common.{List, subst, sym}
use Rattle.packet_fates.specs.declared.fate.Fate.{Fate}
use Rattle.possible_fates.specs.Possible.{HasPossible}
use Rattle.compared_terms.proofs.encoding.encode_compared.Goals as goal

pub compared-requires-clause-one : goal.compared-requires-clause-one
compared-requires-clause-one c =
    subst (λ (fates : List Fate). HasPossible c.args.left.now.files fates) (sym c.as_slice-2.ensures)
    c.in_ok-fates.ensures.left

pub compared-requires-clause-other : goal.compared-requires-clause-other
compared-requires-clause-other c =
    subst (λ (fates : List Fate). HasPossible c.args.right.now.files fates) (sym c.as_slice-2.ensures)
    c.in_ok-fates.ensures.right
