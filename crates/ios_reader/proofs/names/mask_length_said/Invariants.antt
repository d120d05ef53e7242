use Rattle.std.proofs.Common.{◌≡◌, take}
use Rattle.ios_reader.specs.Names.{length_under}
use Rattle.ios_reader.proofs.names.mask_length_said.Given as goal

abbrev pub invariant-loop-one : goal.invariant-loop-one
invariant-loop-one l = l.len ≡ length_under l.tag (take l.one-index l.said) l.otherwise
