use Rattle.std.proofs.Common.{◌∙◌, ap}
use Rattle.mw_text.specs.Address.{prefix_at}
use Rattle.proto_rib.specs.Taken.{entry_at}
use Rattle.bgp_decoding.proofs.SlotSteps.{entry_numbers}
use Rattle.bgp_decoding.proofs.slots.entry_at.Goals as goal

pub returns : goal.returns
returns c =
    let setting = c.args.setting.now in
    let files = setting.net.now.files in
    let failures = setting.failures.now in
    c.best_entry.ensures
    ∙ ap (λ q. entry_at files failures c.args.p.router q c.args.slot.now c.args.own) c.prefix_of-prefix.ensures
    ∙ entry_numbers files failures c.args.p.router (prefix_at setting.d c.args.p.len) c.args.slot.now c.args.own
