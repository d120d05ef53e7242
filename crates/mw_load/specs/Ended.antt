-- How a command ends, as the number that the program ends with.
use Rattle.std.specs.Prelude.{ℕ}
use Rattle.mw_load.specs.declared.ended.Ended.{Ended}
use Rattle.mw_load.specs.declared.ended.Ended.TheVariants as ended

abbrev pub number_of : Ended → ℕ
number_of ended.Good = 0
number_of ended.Bad = 1
number_of ended.Unknown = 2
number_of ended.Usage = 3
number_of ended.Refused = 4
number_of ended.ReadFault = 5
number_of ended.WriteFault = 6
number_of ended.Memory = 7
