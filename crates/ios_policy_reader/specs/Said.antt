-- What the words of a line said, looked up by tags.
use Rattle.std.specs.Prelude.{ℕ, ◌==◌, ◌||◌, Bool, List, fold, max, min, nat_lt, if◌then◌else◌}
use Rattle.std.specs.List.{list_any}
use Rattle.mw_text.specs.declared.address.Addr.{Addr}
use Rattle.mw_text.specs.declared.address.Prefix.{Prefix as WrittenPrefix}
use Rattle.ios_ast.specs.declared.policies.Pattern.{Pattern as PathPattern}
use Rattle.ios_ast.specs.declared.policies.Pattern.TheVariants.{Any}
use Rattle.ios_policy_reader.specs.declared.said.Tag.{Tag}
use Rattle.ios_policy_reader.specs.declared.said.Tag.TheVariants.{Plain, Action, Name, Number as NumberTag, Sequence}
use Rattle.ios_policy_reader.specs.declared.said.Tag.TheVariants.{Prefix as PrefixTag, Low, High, Protocol, Source}
use Rattle.ios_policy_reader.specs.declared.said.Tag.TheVariants.{SourceWild, SourceTest, SourcePort, SourceTop}
use Rattle.ios_policy_reader.specs.declared.said.Tag.TheVariants.{Target, TargetWild, TargetTest, TargetPort}
use Rattle.ios_policy_reader.specs.declared.said.Tag.TheVariants.{TargetTop, Community, Address as AddressTag}
use Rattle.ios_policy_reader.specs.declared.said.Tag.TheVariants.{Length as LengthTag, Wildcard, NextHop, Discard}
use Rattle.ios_policy_reader.specs.declared.said.Tag.TheVariants.{Leaving, Distance, Direction, Area, Every, Origin}
use Rattle.ios_policy_reader.specs.declared.said.Tag.TheVariants.{Metric, MetricType, Subnets, Map, Always, Match}
use Rattle.ios_policy_reader.specs.declared.said.Tag.TheVariants.{Remote, UpdateSource, NextHopSelf, Client}
use Rattle.ios_policy_reader.specs.declared.said.Tag.TheVariants.{SendCommunity, Weight, Shutdown, PrefixList}
use Rattle.ios_policy_reader.specs.declared.said.Tag.TheVariants.{FilterList, Start, Entering, Router, Subnet, Peer}
use Rattle.ios_policy_reader.specs.declared.said.Tag.TheVariants.{Waypoint, OtherStart, Hops, Failures}
use Rattle.ios_policy_reader.specs.declared.said.Value.{Value}
use Rattle.ios_policy_reader.specs.declared.said.Value.TheVariants.{Nothing, Number, Address, Length, Prefix, Pattern}
use Rattle.ios_policy_reader.specs.declared.said.Value.TheVariants.{Ports, Word}
use Rattle.ios_policy_reader.specs.declared.said.Said.{Said}

-- the place of a tag among the tags
abbrev pub tag_number : Tag → ℕ
tag_number Plain = 0
tag_number Action = 1
tag_number Name = 2
tag_number NumberTag = 3
tag_number Sequence = 4
tag_number PrefixTag = 5
tag_number Low = 6
tag_number High = 7
tag_number Protocol = 8
tag_number Source = 9
tag_number SourceWild = 10
tag_number SourceTest = 11
tag_number SourcePort = 12
tag_number SourceTop = 13
tag_number Target = 14
tag_number TargetWild = 15
tag_number TargetTest = 16
tag_number TargetPort = 17
tag_number TargetTop = 18
tag_number Community = 19
tag_number AddressTag = 20
tag_number LengthTag = 21
tag_number Wildcard = 22
tag_number NextHop = 23
tag_number Discard = 24
tag_number Leaving = 25
tag_number Distance = 26
tag_number Direction = 27
tag_number Area = 28
tag_number Every = 29
tag_number Origin = 30
tag_number Metric = 31
tag_number MetricType = 32
tag_number Subnets = 33
tag_number Map = 34
tag_number Always = 35
tag_number Match = 36
tag_number Remote = 37
tag_number UpdateSource = 38
tag_number NextHopSelf = 39
tag_number Client = 40
tag_number SendCommunity = 41
tag_number Weight = 42
tag_number Shutdown = 43
tag_number PrefixList = 44
tag_number FilterList = 45
tag_number Start = 46
tag_number Entering = 47
tag_number Router = 48
tag_number Subnet = 49
tag_number Peer = 50
tag_number Waypoint = 51
tag_number OtherStart = 52
tag_number Hops = 53
tag_number Failures = 54

abbrev pub number_in : ℕ → Value → ℕ
number_in otherwise Nothing = otherwise
number_in otherwise (Number n) = n
number_in otherwise (Address a) = otherwise
number_in otherwise (Length n) = otherwise
number_in otherwise (Prefix p) = otherwise
number_in otherwise (Pattern p) = otherwise
number_in otherwise (Ports low high) = otherwise
number_in otherwise (Word at) = otherwise

abbrev pub number_more : Tag → ℕ → Said → ℕ
number_more tag n s = if tag_number s.tag == tag_number tag then number_in n s.value else n

-- the number that was said last under a tag
abbrev pub number_under : Tag → List Said → ℕ → ℕ
number_under tag said otherwise = fold (number_more tag) otherwise said

abbrev pub length_in : ℕ → Value → ℕ
length_in otherwise Nothing = otherwise
length_in otherwise (Number n) = otherwise
length_in otherwise (Address a) = otherwise
length_in otherwise (Length n) = otherwise
length_in otherwise (Prefix p) = p.len
length_in otherwise (Pattern p) = otherwise
length_in otherwise (Ports low high) = otherwise
length_in otherwise (Word at) = otherwise

abbrev pub length_more : ℕ → Said → ℕ
length_more n s = length_in n s.value

-- the length of the prefix that was said last
abbrev pub length_said : List Said → ℕ
length_said said = fold length_more 0 said

-- the least length that may be said next in a prefix-list entry, at most 32
abbrev pub least_length : List Said → ℕ
least_length said = min (max (length_said said) (number_under Low said 0)) 32

-- the protocol that was said is TCP or UDP
abbrev pub has_ports : List Said → Bool
has_ports said = (number_under Protocol said 0 == 6) || (number_under Protocol said 0 == 17)

abbrev pub address_in : Addr → Value → Addr
address_in otherwise Nothing = otherwise
address_in otherwise (Number n) = otherwise
address_in otherwise (Address a) = a
address_in otherwise (Length n) = otherwise
address_in otherwise (Prefix p) = otherwise
address_in otherwise (Pattern p) = otherwise
address_in otherwise (Ports low high) = otherwise
address_in otherwise (Word at) = otherwise

abbrev pub address_more : Addr → Said → Addr
address_more a s = address_in a s.value

-- the address that was said last, or 0.0.0.0
abbrev pub address_said : List Said → Addr
address_said said = fold address_more (record { 0 = 0 }) said

-- the address that was said last under a tag
abbrev pub address_more_under : Tag → Addr → Said → Addr
address_more_under tag a s = if tag_number s.tag == tag_number tag then address_in a s.value else a

abbrev pub address_under : Tag → List Said → Addr → Addr
address_under tag said otherwise = fold (address_more_under tag) otherwise said

abbrev pub prefix_in : WrittenPrefix → Value → WrittenPrefix
prefix_in otherwise Nothing = otherwise
prefix_in otherwise (Number n) = otherwise
prefix_in otherwise (Address a) = otherwise
prefix_in otherwise (Length n) = otherwise
prefix_in otherwise (Prefix p) = p
prefix_in otherwise (Pattern p) = otherwise
prefix_in otherwise (Ports low high) = otherwise
prefix_in otherwise (Word at) = otherwise

abbrev pub prefix_more : WrittenPrefix → Said → WrittenPrefix
prefix_more p s = prefix_in p s.value

-- the prefix that was said last, or 0.0.0.0/0
abbrev pub prefix_said : List Said → WrittenPrefix
prefix_said said = fold prefix_more (record { addr = record { 0 = 0 }; len = 0 }) said

abbrev pub pattern_in : PathPattern → Value → PathPattern
pattern_in otherwise Nothing = otherwise
pattern_in otherwise (Number n) = otherwise
pattern_in otherwise (Address a) = otherwise
pattern_in otherwise (Length n) = otherwise
pattern_in otherwise (Prefix p) = otherwise
pattern_in otherwise (Pattern p) = p
pattern_in otherwise (Ports low high) = otherwise
pattern_in otherwise (Word at) = otherwise

abbrev pub pattern_more : PathPattern → Said → PathPattern
pattern_more p s = pattern_in p s.value

-- the pattern that was said last, or that of any path
abbrev pub pattern_said : List Said → PathPattern
pattern_said said = fold pattern_more Any said

-- class A, B or C: the first three bits are not all 1
abbrev pub is_classful : Addr → Bool
is_classful a = nat_lt a.0 3758096384

-- something was said under the tag
abbrev pub has_said : Tag → List Said → Bool
has_said tag said = list_any (λ s. tag_number s.tag == tag_number tag) said
