use Rattle.std.proofs.Common.{◌≡◌, arith, rules}
use Rattle.std.proofs.lemmas.Grind.{common_steps}
use Rattle.mw_text.specs.Words.{text_lines}
use Rattle.simulation.proofs.Ends.{refused_whole, simulated_if}
use Rattle.simulation.proofs.simulating.simulate.Goals as goal

pub returns-clause-ok : goal.returns-clause-ok
returns-clause-ok c =
    let same : c.as_slice.result.now ≡ text_lines c.args.events.now =
    first_of (cc, search rules, grind (arith, common_steps)) in
    simulated_if c.args.net.files c.args.events.now c.as_slice.result.now c.simulate_lines.result same
    c.simulate_lines.ensures.ok

pub returns-clause-refused : goal.returns-clause-refused
returns-clause-refused c =
    let same : c.as_slice.result.now ≡ text_lines c.args.events.now =
    first_of (cc, search rules, grind (arith, common_steps)) in
    refused_whole c.args.net.files c.args.events.now c.as_slice.result.now c.simulate_lines.result same
    c.simulate_lines.ensures.refused
