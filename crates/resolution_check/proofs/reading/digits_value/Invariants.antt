use Rattle.std.proofs.Common.{◌≡◌, ◌+◌, ◌^◌, ◌≤◌, take, true}
use Rattle.std.specs.List.{list_all}
use Rattle.mw_text.specs.Digits.{is_digit, value_of}
use Rattle.resolution_check.proofs.reading.digits_value.Given as goal

-- the value so far, of digits, and that it stays small
abbrev pub invariant-loop-b : goal.invariant-loop-b
invariant-loop-b l =
    (l.value ≡ value_of (take l.b-index l.word)) × (list_all is_digit (take l.b-index l.word) ≡ true) ×
    (l.value + 1 ≤ 10 ^ l.b-index)
