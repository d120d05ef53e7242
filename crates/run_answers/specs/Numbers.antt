-- The exit status of the program.
use Rattle.std.specs.Prelude.{ℕ}
use Rattle.run_answers.specs.declared.status.Status.{Status}
use Rattle.run_answers.specs.declared.status.Status.TheVariants.{Good, Bad, Unknown, Usage, Refused, ReadFault}
use Rattle.run_answers.specs.declared.status.Status.TheVariants.{WriteFault, Memory}

-- the number of a status
abbrev pub status_number : Status → ℕ
status_number Good = 0
status_number Bad = 1
status_number Unknown = 2
status_number Usage = 3
status_number Refused = 4
status_number ReadFault = 5
status_number WriteFault = 6
status_number Memory = 7
