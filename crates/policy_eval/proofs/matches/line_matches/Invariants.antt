use Rattle.std.proofs.Common.{◌≡◌, drop}
use Rattle.std.specs.List.{list_any}
use Rattle.ios_ast.specs.Matching.{list_permits, line_holds}
use Rattle.policy_eval.proofs.matches.line_matches.Given as goal

abbrev pub invariant-loop-named : goal.invariant-loop-named
invariant-loop-named l =
    list_any (list_permits l.policies l.p l.rec.path l.rec.communities l.line) (drop l.named-index l.named-items)
    ≡ line_holds l.policies l.p l.rec.path l.rec.communities l.line
