use Rattle.std.proofs.Common.{List, subst}
use Rattle.std.specs.Prelude.{Contains}
use Rattle.std.proofs.Common.{get_or}
use Rattle.question_lang.specs.declared.walk.Hop.{Hop}
use Rattle.question_lang.specs.declared.walk.Hop.TheVariants.{To}
use Rattle.packet_fates.proofs.Rounding.{hop_inside, read_here}
use Rattle.packet_fates.proofs.rounds.is_round.Goals as goal

pub comes_back_by-requires-clause-within : goal.comes_back_by-requires-clause-within
comes_back_by-requires-clause-within c =
    let hop : Hop = get_or c.args.own.now c.loop-hop.hop-index (To (record { router = 0; at = 0 })) in
    let P : List Hop → Type 0 = λ xs. Contains xs hop in
    hop_inside c.args.all.now c.args.router hop c.requires.inside
    (subst P c.requires.own (
      c.loop-hop.hop-index,
      c.loop-hop-test.true,
      read_here c.args.own.now c.loop-hop.hop-index hop (To (record { router = 0; at = 0 })) c.loop-hop-test.true,
    ))
