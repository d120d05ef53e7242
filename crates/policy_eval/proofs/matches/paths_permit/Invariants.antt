use Rattle.std.proofs.Common.{◌≡◌, drop}
use Rattle.ios_ast.specs.Paths.{path_permitted}
use Rattle.ios_ast.specs.Matching.{named_answer, paths_named}
use Rattle.policy_eval.proofs.matches.paths_permit.Given as goal

abbrev pub invariant-loop-list : goal.invariant-loop-list
invariant-loop-list l =
    named_answer (λ k. k.name) (λ k. path_permitted k.entries l.path) (drop l.list-index l.list-items) l.named.name
    ≡ paths_named l.policies l.path l.named
