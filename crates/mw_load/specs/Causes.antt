-- Causes of refusals by their numbers and their words.
use Rattle.std.specs.Prelude.{ℕ, List, [], ◌++◌, codes}
use Rattle.std.specs.Fmt.{decimal}
use Rattle.ios_policy_reader.specs.declared.cause.Cause.{Cause}
use Rattle.ios_policy_reader.specs.declared.cause.Cause.TheVariants.{UnknownCommand, BadWord, Repeated, OutOfPlace}
use Rattle.ios_policy_reader.specs.declared.cause.Cause.TheVariants.{Limit, NoHostname, UnknownRouter, UnknownPeer}
use Rattle.ios_policy_reader.specs.declared.cause.Cause.TheVariants.{TooManyQuestions, Undefined, Memory}
use Rattle.net_refusals.specs.declared.refusals.NetCause.{NetCause}
use Rattle.net_refusals.specs.declared.refusals.NetCause.TheVariants as net

-- ---- of the readers

abbrev pub cause_number : Cause → ℕ
cause_number UnknownCommand = 1
cause_number (BadWord word) = 2
cause_number Repeated = 4
cause_number OutOfPlace = 5
cause_number Limit = 6
cause_number Undefined = 7
cause_number UnknownRouter = 15
cause_number UnknownPeer = 16
cause_number TooManyQuestions = 17
cause_number NoHostname = 24
cause_number Memory = 0

abbrev pub cause_words : Cause → List ℕ
cause_words UnknownCommand = codes "UnknownCommand"
cause_words (BadWord word) = codes "BadWord " ++ decimal word
cause_words Repeated = codes "Repeated"
cause_words OutOfPlace = codes "OutOfPlace"
cause_words Limit = codes "Limit"
cause_words Undefined = codes "Undefined"
cause_words UnknownRouter = codes "UnknownRouter"
cause_words UnknownPeer = codes "UnknownPeer"
cause_words TooManyQuestions = codes "TooManyQuestions"
cause_words NoHostname = codes "NoHostname"
cause_words Memory = []

-- ---- of networks

abbrev pub net_cause_number : NetCause → ℕ
net_cause_number net.Undefined = 7
net_cause_number net.SameName = 8
net_cause_number net.SameAddress = 9
net_cause_number net.SubnetClash = 10
net_cause_number net.NextHopNotConnected = 11
net_cause_number net.ExternalInternalPeer = 12
net_cause_number net.SecondArea = 13
net_cause_number net.NetLimit = 14
net_cause_number net.Memory = 0

abbrev pub net_cause_words : NetCause → List ℕ
net_cause_words net.Undefined = codes "Undefined"
net_cause_words net.SameName = codes "SameName"
net_cause_words net.SameAddress = codes "SameAddress"
net_cause_words net.SubnetClash = codes "SubnetClash"
net_cause_words net.NextHopNotConnected = codes "NextHopNotConnected"
net_cause_words net.ExternalInternalPeer = codes "ExternalInternalPeer"
net_cause_words net.SecondArea = codes "SecondArea"
net_cause_words net.NetLimit = codes "NetLimit"
net_cause_words net.Memory = []
