use Rattle.std.proofs.Common.{◌≡◌, ◌∙◌, arith}
use Rattle.std.specs.List.{filter_map}
use Rattle.std.proofs.lemmas.Grind.{common_steps}
use Rattle.stable_replay.specs.Parts.{slot_left}
use Rattle.stable_replay.proofs.LeftOver.{slots_left}
use Rattle.stable_replay.proofs.decided.slots_left.Goals as goal

-- all that were made are those of the places
pub returns : goal.returns
returns c =
    let all : c.loop-at.made-inside.items.items ≡ filter_map (slot_left c.args.candidates.now) c.args.left.now =
    grind (arith, common_steps, c.loop-at.invariant) in
    all ∙ slots_left c.args.candidates.now c.args.left.now
