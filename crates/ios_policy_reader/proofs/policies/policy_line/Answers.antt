use Rattle.std.proofs.Common.{◌≤◌}
use Rattle.std.proofs.lemmas.Result.{IfOk-at_ok}
use Rattle.ios_ast.specs.declared.file.TheConstants.{MOST_POLICY_ENTRIES}
use Rattle.ios_policy_reader.specs.Lists.{policy_entries}
use Rattle.ios_policy_reader.proofs.KeptEntries.{few_entries}
use Rattle.ios_policy_reader.proofs.policies.policy_line.Goals as goal

pub returns-in-Ok-clause-few : goal.returns-in-Ok-clause-few
returns-in-Ok-clause-few c few =
    IfOk-at_ok (λ taken. policy_entries taken.policies ≤ MOST_POLICY_ENTRIES) c.in-Ok.ensures.ok
    (few_entries c.args.line.now c.args.block.now c.args.policies.now few)
