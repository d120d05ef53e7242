use Rattle.examples_symbols.proofs.NoSlots.{no_slots}
use Rattle.examples_symbols.proofs.nodes.fresh_world.Goals as goal

pub returns-clause-slots : goal.returns-clause-slots
returns-clause-slots c =
    no_slots c.args.net.now.files c.new-2.result (record { class = c.new-3.result; slices = c.new-4.result })
    c.new-2.ensures c.new-3.ensures
