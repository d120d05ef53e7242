use Rattle.std.proofs.Common.{◌≡◌, drop}
use Rattle.ios_ast.specs.Deciding.{first_permits}
use Rattle.ios_ast.specs.Paths.{pattern_matches, path_permitted}
use Rattle.policy_eval.proofs.lists.as_path_list.Given as goal

abbrev pub invariant-loop-entry : goal.invariant-loop-entry
invariant-loop-entry l =
    first_permits (λ e. pattern_matches e.pattern l.path) (λ e. e.permit) (drop l.entry-index l.entry-items)
    ≡ path_permitted l.list.entries l.path
