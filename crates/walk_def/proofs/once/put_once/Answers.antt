use Rattle.std.proofs.Common.{◌≡◌, ◌∙◌, ◌++◌, ◌∷◌, [], List, ap, subst, sym}
use Rattle.std.specs.Prelude.{Contains}
use Rattle.question_lang.specs.declared.walk.Hop.{Hop}
use Rattle.walk_def.proofs.EachOnce.{once_new}
use Rattle.walk_def.specs.Sending.{AreOnce}
use Rattle.walk_def.proofs.once.put_once.Goals as goal

pub returns : goal.returns
returns c front so_far =
    let pushed : c.push.new.self.items ≡ c.args.out.now ++ c.args.hop ∷ [] =
    c.in_ok-push.ensures.items ∙ ap (λ xs. xs ++ c.args.hop ∷ []) c.out.view_is in
    let P : List Hop → Type 0 = λ xs. AreOnce xs (front ++ c.args.hop ∷ []) in
    let Q : List Hop → Type 0 = λ xs. Contains xs c.args.hop in
    subst P (sym pushed) (once_new c.args.out.now front c.args.hop so_far
    (λ has. c.stands_in.ensures.no c.if-stands_in.false (subst Q (sym c.as_slice.ensures) has)))
