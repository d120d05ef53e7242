use Rattle.std.proofs.Common.{◌≡◌, drop}
use Rattle.std.specs.List.{find}
use Rattle.std.specs.Option.{option_copied}
use Rattle.ios_ast.specs.Deciding.{in_order}
use Rattle.ios_ast.specs.Maps.{route_taken}
use Rattle.policy_eval.specs.Attributes.{attributes_of}
use Rattle.policy_eval.proofs.maps.deciding_entry.Given as goal

abbrev pub invariant-loop-i : goal.invariant-loop-i
invariant-loop-i l =
    option_copied l.found
    ≡ find (route_taken l.policies l.p (attributes_of l.rec)) (in_order (λ e. e.seq) (drop l.i l.entries))
