use Rattle.std.proofs.Common.{◌∙◌, map}
use Rattle.std.specs.Prelude.{string_bytes}
use Rattle.net_model.specs.Kept.{Network}
use Rattle.run_inputs.proofs.Commands.{quiet_stop}
use Rattle.run_inputs.proofs.Loading.{on_stop-map}
use Rattle.asked_files.specs.Network.{refusal_line}
use Rattle.asked_files.proofs.Networks.{network_read, network_refused}
use Rattle.asked_files.proofs.network.load_network.Goals as goal

pub returns-in-Ok-clause-ok : goal.returns-in-Ok-clause-ok
returns-in-Ok-clause-ok g c =
    network_read (g.F.Files.contents c.args.files.now) (map string_bytes c.args.names.now) _ c.in-Ok.ensures.ok

pub returns-in-Err-Refused-clause-stop : goal.returns-in-Err-Refused-clause-stop
returns-in-Err-Refused-clause-stop g c =
    on_stop-map c.stop_at.result _ _ _ _ c.stop_at.ensures
    (λ printed says. network_refused (g.F.Files.contents c.args.files.now) (map string_bytes c.args.names.now) _ printed
    (says ∙ (λ i. refusal_line (map string_bytes c.args.names.now) (record {
      name = c.in-Err-Refused.name;
      line = c.in-Err-Refused.line;
      number = c.in-Err-Refused.number;
      cause = c.as_slice.ensures i;
    }))) (rw c.in-Err-Refused.field-0-is at c.in-Err-Refused.ensures.stop))
    (λ never. absurd never)

pub returns-in-Err-Refused-clause-quiet : goal.returns-in-Err-Refused-clause-quiet
returns-in-Err-Refused-clause-quiet g c =
    quiet_stop Network c.stop_at.result (rw c.in-Err-Refused.field-0-is at c.in-Err-Refused.ensures.quiet)

pub returns-in-Err-Refused-clause-name_stays : goal.returns-in-Err-Refused-clause-name_stays
returns-in-Err-Refused-clause-name_stays g c =
    quiet_stop Network c.stop_at.result (rw c.in-Err-Refused.field-0-is at c.in-Err-Refused.ensures.name_stays)
