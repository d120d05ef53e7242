-- The codes of origins (RFC 4271, section 5.1.1).
use Rattle.std.specs.Prelude.{ℕ, ◌==◌, if◌then◌else◌}
use Rattle.route_record.specs.declared.Origin.{Origin}
use Rattle.route_record.specs.declared.Origin.TheVariants.{Igp, Egp, Incomplete}

-- the code of an origin
abbrev pub origin_code : Origin → ℕ
origin_code Igp = 0
origin_code Egp = 1
origin_code Incomplete = 2

-- the origin of a code
abbrev pub origin_of_code : ℕ → Origin
origin_of_code code = if code == 0 then Igp else if code == 1 then Egp else Incomplete
