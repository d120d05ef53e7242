use Rattle.std.proofs.Common.{◌∙◌, ap₂, map}
use Rattle.std.specs.Prelude.{string_bytes}
use Rattle.mw_load.specs.Refused.{Refusal}
use Rattle.run_inputs.proofs.Loading.{on_stop-map}
use Rattle.asked_files.specs.Network.{refusal_line}
use Rattle.compare_files.proofs.loading.stop_at_pair.Goals as goal

pub returns : goal.returns
returns c =
    on_stop-map c.stop_at.result _ _ _ _ c.stop_at.ensures
    (λ line says. says ∙ ap₂ (λ n words.
    let r : Refusal = record { name = c.args.why.file; line = c.args.why.line; number = n; cause = words } in
    refusal_line (map string_bytes c.args.names.now) r) c.cause_number-number.ensures c.cause_words.ensures)
    (λ never. never)
