use Rattle.std.proofs.Common.{◌≡◌, drop}
use Rattle.ios_ast.specs.Communities.{communities_permitted}
use Rattle.ios_ast.specs.Matching.{named_answer, communities_named}
use Rattle.policy_eval.proofs.matches.communities_permit.Given as goal

abbrev pub invariant-loop-list : goal.invariant-loop-list
invariant-loop-list l =
    named_answer (λ k. k.name) (λ k. communities_permitted k.entries l.communities)
    (drop l.list-index l.list-items) l.named.name
    ≡ communities_named l.policies l.communities l.named
