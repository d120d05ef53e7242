use Rattle.std.proofs.Common.{ap, is_some, sym, ◌∙◌, option_copied}
use Rattle.std.specs.Option.{option_and_then}
use Rattle.mw_text.proofs.Results.{ok_then}
use Rattle.bgp_shapes.specs.Exporting.{shape_exported}
use Rattle.sym_policy.specs.Held.{bgp_at, bgp_of}
use Rattle.sym_policy.specs.Records.{prefix_of}
use Rattle.sym_rib.specs.declared.slots.SymSlot.{SymSlot}
use Rattle.sym_policy.specs.MapRecs.{HasTracked}
use Rattle.sym_rib.proofs.SlotPlaces.{placed_all}
use Rattle.term_store.specs.Terms.{at}
use Rattle.export_terms.proofs.Sent.{there_where}
use Rattle.export_terms.proofs.sending.sym_sent.Goals as goal

pub sym_export-requires-clause-marks : goal.sym_export-requires-clause-marks
sym_export-requires-clause-marks c =
    let asked = c.args.asked.now in
    let t = asked.tables.now in
    placed_all (λ s. HasTracked asked.net.now.tracked s.bgp) t.lens.now t.routers t.slots.now c.args.end.now.router
    c.args.len c.in-Some.slot.now (sym c.slot_for.ensures.place ∙ ap option_copied c.in-Some.is) c.requires.rows

pub returns-in-None-clause-value : goal.returns-in-None-clause-value
returns-in-None-clause-value c =
    let asked = c.args.asked.now in
    ok_then c.constant_node.result c.constant_node.ensures.value (λ r is w reads.
    is w reads
    ∙ ap (λ o. is_some (option_and_then (shape_exported asked.net.now.tracked asked.net.now.files c.args.end.now
    (prefix_of w asked.dst.now c.args.len)) (option_and_then (λ (s : SymSlot). bgp_of w s.bgp) o)))
    (sym (sym c.slot_for.ensures.place ∙ ap option_copied c.in-None.is)))

pub returns-in_ok-message-in-Some-clause-value : goal.returns-in_ok-message-in-Some-clause-value
returns-in_ok-message-in-Some-clause-value c = λ w reads.
    let asked = c.args.asked.now in
    sym (there_where (at w c.in_ok-message-in-Some.message.valid) (bgp_at w c.in_ok-message-in-Some.message))
    ∙ ap is_some (c.in_ok-message-in-Some.ensures.value w reads)
    ∙ (λ i. is_some (option_and_then (λ s. option_and_then (λ end. shape_exported asked.net.now.tracked
    asked.net.now.files end (prefix_of w asked.dst.now c.args.len) s) (c.requires.there i))
    (bgp_of w c.in-Some.slot.now.bgp)))
    ∙ ap (λ o. is_some (option_and_then (shape_exported asked.net.now.tracked asked.net.now.files c.args.end.now
    (prefix_of w asked.dst.now c.args.len)) (option_and_then (λ (s : SymSlot). bgp_of w s.bgp) o)))
    (sym (sym c.slot_for.ensures.place ∙ ap option_copied c.in-Some.is))
