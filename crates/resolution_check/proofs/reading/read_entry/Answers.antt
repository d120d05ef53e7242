use Rattle.resolution_check.proofs.Lines.{found_text, read_exactly}
use Rattle.resolution_check.proofs.reading.read_entry.Goals as goal

pub returns-clause-found : goal.returns-clause-found
returns-clause-found c = found_text c.args.line.now c.read_words.result c.read_words.ensures

pub returns-clause-exact : goal.returns-clause-exact
returns-clause-exact c = read_exactly c.args.line.now c.read_words.result c.read_words.ensures
