use Rattle.export_terms.proofs.Sent.{end_outside}
use Rattle.export_terms.proofs.lengths.sym_out_at.Goals as goal

pub sym_over_end-requires-clause-outside : goal.sym_over_end-requires-clause-outside
sym_over_end-requires-clause-outside c =
    end_outside c.args.asked.now.net.now.files c.args.asked.now.ask.now.to c.end_to-place.result c.end_to-place.ensures.place
