use Rattle.std.proofs.Common.{◌≡◌, drop}
use Rattle.std.specs.List.{find}
use Rattle.ios_ast.specs.Deciding.{in_order}
use Rattle.ios_ast.specs.Prefixes.{prefix_taken}
use Rattle.policy_eval.proofs.lists.prefix_list.Given as goal

abbrev pub invariant-loop-i : goal.invariant-loop-i
invariant-loop-i l = l.found ≡ find (λ e. prefix_taken e l.p) (in_order (λ e. e.seq) (drop l.i l.entries))
