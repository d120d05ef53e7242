use Rattle.std.proofs.Common.{◌≡◌, drop}
use Rattle.ios_ast.specs.Prefixes.{prefix_permitted}
use Rattle.ios_ast.specs.Matching.{named_answer, prefixes_named}
use Rattle.policy_eval.proofs.matches.prefixes_permit.Given as goal

abbrev pub invariant-loop-list : goal.invariant-loop-list
invariant-loop-list l =
    named_answer (λ k. k.name) (λ k. prefix_permitted k.entries l.p) (drop l.list-index l.list-items) l.named.name
    ≡ prefixes_named l.policies l.p l.named
