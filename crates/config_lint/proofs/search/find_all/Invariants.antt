use Rattle.std.proofs.Common.{◌≡◌}
use Rattle.mw_text.specs.Words.{text_lines}
use Rattle.config_lint.specs.Asides.{asides, unset}
use Rattle.config_lint.proofs.Steps.{Goes}
use Rattle.config_lint.proofs.search.find_all.Given as goal

-- what was noted is left aside, and what the rest of the list makes of the whole
abbrev pub invariant-search : goal.invariant-search
invariant-search l = (l.flags ≡ asides (text_lines l.bytes) l.told) × Goes l.bytes l.told

abbrev pub decreases-search : goal.decreases-search
decreases-search l = unset l.flags
