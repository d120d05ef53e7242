use Rattle.std.proofs.Common.{take}
use Rattle.std.specs.List.{flat_map}
use Rattle.cex_story.specs.Pages.{Adds}
use Rattle.cex_story.specs.Stories.{said_text}
use Rattle.cex_story.proofs.telling.put_all_said.Given as goal

-- the standings so far
abbrev pub invariant-loop-said : goal.invariant-loop-said
invariant-loop-said l = Adds l.initial.page l.page (flat_map (said_text l.files) (take l.said-index l.saids))
