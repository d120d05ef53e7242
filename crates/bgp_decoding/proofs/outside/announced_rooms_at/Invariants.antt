use Rattle.std.proofs.Common.{◌≡◌, ◌++◌, All, drop}
use Rattle.std.specs.Prelude.{IfSome}
use Rattle.net_parts.specs.Sessions.{ends_of}
use Rattle.bgp_variables.specs.Environments.{announced_rooms, rooms_over}
use Rattle.bgp_variables.specs.Shapes.{IsRoomOf}
use Rattle.bgp_decoding.proofs.outside.announced_rooms_at.Given as goal

-- the rooms that are there already, and those of the ends from here on
abbrev pub invariant-loop-end : goal.invariant-loop-end
invariant-loop-end l = record {
  value : l.made ++ rooms_over l.net.tracked l.net.files l.count (drop l.end-index (ends_of l.net.files))
      ≡ announced_rooms l.net.tracked l.net.files l.count;
  fit : All (λ room. IfSome room (IsRoomOf l.net.tracked)) l.made;
}
