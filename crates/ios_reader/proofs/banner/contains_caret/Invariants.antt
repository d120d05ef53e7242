use Rattle.std.proofs.Common.{◌≡◌, drop}
use Rattle.ios_reader.specs.Banners.{has_caret}
use Rattle.ios_reader.proofs.banner.contains_caret.Given as goal

abbrev pub invariant-loop-at : goal.invariant-loop-at
invariant-loop-at l = has_caret (drop l.at l.text) ≡ has_caret l.text
