use Rattle.std.proofs.Common.{◌≡◌, ◌+◌, ◌*◌, ◌^◌, ◌≤◌, take}
use Rattle.mw_text.specs.Digits.{value_of}
use Rattle.mw_text.proofs.digits.digits_value.Given as goal

-- the value so far, and that it stays small
abbrev pub invariant-loop-b : goal.invariant-loop-b
invariant-loop-b l =
    (l.value ≡ value_of (take l.b-index l.word)) × (l.value + 23 ≤ 23 * 10 ^ l.b-index)
