use Rattle.std.proofs.Common.{◌∙◌, map, sym}
use Rattle.std.specs.Prelude.{string_bytes}
use Rattle.run_inputs.proofs.Loading.{on_stop-map}
use Rattle.compare_files.proofs.Reading.{pair_refused}
use Rattle.compare_files.proofs.loading.compared.Goals as goal

pub returns-in-Ok-Some-clause-stop : goal.returns-in-Ok-Some-clause-stop
returns-in-Ok-Some-clause-stop c =
    on_stop-map c.stop_at_pair.result _ _ _ _ c.stop_at_pair.ensures
    (λ line says. pair_refused (map string_bytes c.args.names.now) c.args.left.now c.args.right.now c.in-Ok-Some.why line
    (sym c.in-Ok-Some.field-0-is ∙ c.in-Ok-Some.ensures) says)
    (λ never. absurd never)
