use Rattle.std.proofs.Common.{◌≡◌, ◌+◌, drop}
use Rattle.bgp_variables.specs.Shapes.{bgps_width}
use Rattle.bgp_values.proofs.rows.routes_end.Given as goal

-- where the variables of the rooms from here on begin
abbrev pub invariant-loop-room : goal.invariant-loop-room
invariant-loop-room l = l.at + bgps_width (drop l.room-index l.rooms) ≡ l.from + bgps_width l.rooms
