use Rattle.std.proofs.Common.{◌≡◌, true, not, take}
use Rattle.std.specs.List.{list_all}
use Rattle.mw_text.specs.Words.{is_blank}
use Rattle.trimmed_logs.proofs.answer.has_no_blank.Given as goal

-- no blank so far
abbrev pub invariant-loop-byte : goal.invariant-loop-byte
invariant-loop-byte l = list_all (λ b. not (is_blank b)) (take l.byte-index l.name) ≡ true
