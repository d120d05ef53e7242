use Rattle.std.proofs.Common.{◌≡◌, drop}
use Rattle.ios_policy_reader.specs.Words.{port_among}
use Rattle.ios_policy_reader.proofs.words.find_port.Given as goal

abbrev pub invariant-loop-name : goal.invariant-loop-name
invariant-loop-name l = port_among l.word (drop l.name-index l.names) ≡ port_among l.word l.names
