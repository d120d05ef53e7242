use Rattle.std.proofs.Common.{◌≡◌, Some, sym, ◌∙◌}
use Rattle.term_store.specs.declared.Node.TheVariants.{Const}
use Rattle.term_store.proofs.Growth.{Stands-slice_get}
use Rattle.term_arith.proofs.gates.known.Goals as goal

pub returns-in-Const-clause-constant : goal.returns-in-Const-clause-constant
returns-in-Const-clause-constant c b there =
    let found = Stands-slice_get c.args.terms.now c.args.id.0 (Const b) there in
    let same : Some c.get.result ≡ Some (Const b) =
    sym (Stands-slice_get c.args.terms.now c.args.id.0 c.get.result c.get.ensures.node) ∙ found in
    let known = c.in-Const.is in
    cc

pub returns-in_default : goal.returns-in_default
returns-in_default c = record {
  value = tt;
  constant = λ b there.
      let found = Stands-slice_get c.args.terms.now c.args.id.0 (Const b) there in
      let same : Some c.get.result ≡ Some (Const b) =
      sym (Stands-slice_get c.args.terms.now c.args.id.0 c.get.result c.get.ensures.node) ∙ found in
      let other : c.get.result ≡ Const b = cc in
      let not_known = c.in_default.not-Const in
      absurd (not_known b other);
}
