-- What the words of a line say, as the entry of a list.
use Rattle.std.specs.Prelude.{ℕ, ◌+◌, ◌-◌, ◌==◌, Bool, min, nat_lt, List, [], Option, Some, None, if◌then◌else◌}
use Rattle.ios_ast.specs.declared.policies.PrefixEntry.{PrefixEntry}
use Rattle.ios_ast.specs.declared.policies.AsPathEntry.{AsPathEntry}
use Rattle.ios_ast.specs.declared.policies.AccessEntry.{AccessEntry}
use Rattle.ios_ast.specs.declared.policies.CommunityEntry.{CommunityEntry}
use Rattle.ios_ast.specs.declared.policies.MapEntry.{MapEntry}
use Rattle.ios_ast.specs.declared.policies.Wild.{Wild}
use Rattle.ios_ast.specs.declared.policies.Ports.{Ports}
use Rattle.ios_ast.specs.declared.policies.Ports.TheVariants.{Any, Range, Not, Empty}
use Rattle.ios_policy_reader.specs.declared.said.Tag.{Tag}
use Rattle.ios_policy_reader.specs.declared.said.Tag.TheVariants.{Action, Sequence, Community, Low, High, Protocol}
use Rattle.ios_policy_reader.specs.declared.said.Tag.TheVariants.{Source, SourceWild, SourceTest, SourcePort}
use Rattle.ios_policy_reader.specs.declared.said.Tag.TheVariants.{SourceTop, Target, TargetWild, TargetTest}
use Rattle.ios_policy_reader.specs.declared.said.Tag.TheVariants.{TargetPort, TargetTop}
use Rattle.ios_policy_reader.specs.declared.said.Said.{Said}
use Rattle.ios_policy_reader.specs.Values.{numbers_under}
use Rattle.ios_policy_reader.specs.Said.{number_under, has_said, address_under, prefix_said, pattern_said}

abbrev pub permits : List Said → Bool
permits said = number_under Action said 0 == 1

-- the greatest length of a prefix-list entry without `le`: 32 after `ge`, else the prefix's own
abbrev pub widest : List Said → ℕ
widest said = if has_said Low said then 32 else (prefix_said said).len

-- an entry of a prefix list: the lengths from `ge`, or the prefix's own, to `le`, or the greatest without it
abbrev pub prefix_entry : ℕ → ℕ → List Said → PrefixEntry
prefix_entry line seq said = record {
  line = line;
  seq = seq;
  permit = permits said;
  prefix = prefix_said said;
  low = min (number_under Low said (prefix_said said).len) 255;
  high = min (number_under High said (widest said)) 255;
}

abbrev pub path_entry : ℕ → List Said → AsPathEntry
path_entry line said = record { line = line; permit = permits said; pattern = pattern_said said }

-- the addresses at an end of packets: any where none was said, that one alone where no wildcard was
abbrev pub wild_under : Tag → Tag → List Said → Wild
wild_under addr wild said =
    if has_said addr said
    then (record {
      addr = address_under addr said (record { 0 = 0 });
      wild = (address_under wild said (record { 0 = 0 })).0;
    })
    else (record { addr = record { 0 = 0 }; wild = 4294967295 })

-- the ports that `eq`, `neq`, `lt`, `gt` and `range` take, by their numbers in the tables
abbrev pub ports_by : ℕ → ℕ → ℕ → Ports
ports_by test port top =
    if test == 0 then Range port port
    else if test == 1 then Not port
    else if test == 2 then (if port == 0 then Empty else Range 0 (port - 1))
    else if test == 3 then (if port == 65535 then Empty else Range (port + 1) 65535)
    else Range port top

-- the ports at an end of packets
abbrev pub ports_under : Tag → Tag → Tag → List Said → Ports
ports_under test port top said =
    if has_said test said
    then ports_by (number_under test said 0) (min (number_under port said 0) 65535)
    (min (number_under top said 0) 65535)
    else Any

-- an entry of a community list
abbrev pub community_entry : ℕ → List Said → CommunityEntry
community_entry line said = record { line = line; permit = permits said; values = numbers_under Community said }

-- an entry of a route map, before its lines
abbrev pub map_entry : ℕ → List Said → MapEntry
map_entry line said = record {
  line = line;
  seq = number_under Sequence said 0;
  permit = permits said;
  matches = [];
  sets = [];
}

-- 256 stands for every protocol
abbrev pub protocol_in : ℕ → Option ℕ
protocol_in n = if nat_lt n 256 then Some n else None

abbrev pub access_entry : ℕ → List Said → AccessEntry
access_entry line said = record {
  line = line;
  permit = permits said;
  proto = protocol_in (number_under Protocol said 256);
  src = wild_under Source SourceWild said;
  sport = ports_under SourceTest SourcePort SourceTop said;
  dst = wild_under Target TargetWild said;
  dport = ports_under TargetTest TargetPort TargetTop said;
}
