-- Where route maps are used.
use Rattle.std.specs.Prelude.{Bool, true, false}
use Rattle.route_record.specs.declared.Side.{Side}
use Rattle.route_record.specs.declared.Side.TheVariants.{External, Internal, Redistribution}

abbrev pub at_external : Side → Bool
at_external External = true
at_external Internal = false
at_external Redistribution = false
