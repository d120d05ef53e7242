-- The causes of pairs of networks that are refused, by their numbers and their words.
use Rattle.std.specs.Prelude.{ℕ, List, codes}
use Rattle.paired_nets.specs.declared.refused.PairCause.{PairCause}
use Rattle.paired_nets.specs.declared.refused.PairCause.TheVariants.{PeerDiffers, PairLimit}

abbrev pub cause_number : PairCause → ℕ
cause_number PeerDiffers = 40
cause_number PairLimit = 41

abbrev pub cause_words : PairCause → List ℕ
cause_words PeerDiffers = codes "PeerDiffers"
cause_words PairLimit = codes "PairLimit"
