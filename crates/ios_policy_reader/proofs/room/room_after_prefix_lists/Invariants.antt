use Rattle.std.proofs.Common.{◌≡◌, ◌-◌, take, length}
use Rattle.std.specs.List.{sum_by}
use Rattle.ios_policy_reader.proofs.room.room_after_prefix_lists.Given as goal

abbrev pub invariant-loop-list : goal.invariant-loop-list
invariant-loop-list l = l.left ≡ l.room - sum_by (λ list. length list.entries) (take l.list-index l.lists)
