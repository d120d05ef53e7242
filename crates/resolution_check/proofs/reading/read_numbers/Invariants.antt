use Rattle.std.proofs.Common.{◌≡◌, ◌++◌, length}
use Rattle.std.specs.Option.{option_map}
use Rattle.resolution_check.specs.Words.{words_left, list_in, number_in}
use Rattle.resolution_check.proofs.reading.read_numbers.Given as goal

-- the numbers so far and those of what is left are those of all
abbrev pub invariant-loop-left : goal.invariant-loop-left
invariant-loop-left l =
    list_in number_in (words_left l.fn.rest) ≡ option_map (λ found. (l.numbers ++ found.0, found.1))
    (list_in number_in (words_left l.left))

abbrev pub decreases-loop-left : goal.decreases-loop-left
decreases-loop-left l = length (words_left l.left)
