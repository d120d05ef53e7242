use Rattle.std.proofs.Common.{◌≡◌, ◌-◌, ◌++◌, All, replicate}
use Rattle.std.specs.Prelude.{IfSome}
use Rattle.bgp_variables.specs.Environments.{end_room}
use Rattle.bgp_variables.specs.Shapes.{IsRoomOf}
use Rattle.bgp_decoding.proofs.outside.add_rooms.Given as goal

abbrev pub invariant-loop-i : goal.invariant-loop-i
invariant-loop-i l = record {
  value : l.made ++ replicate (l.count - l.i) (end_room l.net.tracked l.net.files l.end)
      ≡ l.fn.made ++ replicate l.count (end_room l.net.tracked l.net.files l.end);
  fit : All (λ room. IfSome room (IsRoomOf l.net.tracked)) l.made;
}
