use Rattle.std.proofs.Common.{◌≡◌, drop}
use Rattle.ios_ast.specs.Deciding.{first_permits}
use Rattle.ios_ast.specs.Communities.{communities_taken, communities_permitted}
use Rattle.policy_eval.proofs.lists.community_list.Given as goal

abbrev pub invariant-loop-entry : goal.invariant-loop-entry
invariant-loop-entry l =
    first_permits (λ e. communities_taken e l.communities) (λ e. e.permit) (drop l.entry-index l.entry-items)
    ≡ communities_permitted l.list.entries l.communities
