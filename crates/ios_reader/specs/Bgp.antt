-- What lines say of a BGP process (RFC 4271; Cisco IOS command references).
use Rattle.std.specs.Prelude.{ℕ, ◌+◌, ◌==◌, ◌&&◌, ◌||◌, Bool, false, not, List, [], count_by, nat_lt, None}
use Rattle.std.specs.Prelude.{if◌then◌else◌}
use Rattle.std.specs.List.{list_any}
use Rattle.mw_text.specs.declared.address.Addr.{Addr}
use Rattle.mw_text.specs.declared.address.Prefix.{Prefix}
use Rattle.mw_text.specs.declared.words.Line.{Line}
use Rattle.mw_text.specs.Address.{prefix_at}
use Rattle.ios_ast.specs.declared.ospf.Redist.{Redist}
use Rattle.ios_ast.specs.declared.bgp.Bgp.{Bgp}
use Rattle.ios_ast.specs.declared.bgp.BgpNet.{BgpNet}
use Rattle.ios_ast.specs.declared.bgp.Neighbour.{Neighbour}
use Rattle.ios_policy_reader.specs.declared.said.Tag.TheVariants.{Address, Length, Number, Match}
use Rattle.ios_policy_reader.specs.declared.said.Said.{Said}
use Rattle.ios_policy_reader.specs.Said.{tag_number, number_in, number_under, address_under, has_said}
use Rattle.ios_reader.specs.Names.{length_under, map_under}
use Rattle.ios_reader.specs.Interfaces.{no_address}
use Rattle.ios_reader.specs.Ospf.{source_of, metric_of}

-- a process of which only the number of its autonomous system is read
abbrev pub new_bgp : ℕ → ℕ → Bgp
new_bgp line asn = record {
  line = line;
  asn = asn;
  router_id = None;
  always_compare = false;
  compare_routerid = false;
  networks = [];
  redistribute = [];
  neighbours = [];
}

-- the length of the mask of class A, B or C by the first bits, and 0 for 0.0.0.0
abbrev pub class_length : Addr → ℕ
class_length a =
    if a.0 == 0 then 0
    else if nat_lt a.0 2147483648 then 8
    else if nat_lt a.0 3221225472 then 16
    else 24

-- the prefix of a `network` line: bits of the address past the mask are cleared
abbrev pub network_prefix : List Said → Prefix
network_prefix said =
    prefix_at (address_under Address said no_address)
    (length_under Length said (class_length (address_under Address said no_address)))

abbrev pub network_of : Line → List Said → BgpNet
network_of line said =
    record { line = line.number; prefix = network_prefix said; map = map_under said line }

-- a word after `match`, by the number of its kind in the tables: 0 internal, 1 and 2 external of that type, 3
-- `external`
abbrev pub is_match : ℕ → Said → Bool
is_match kind s = (tag_number s.tag == tag_number Match) && (number_in 4 s.value == kind)

abbrev pub has_match : ℕ → List Said → Bool
has_match kind said = list_any (is_match kind) said

-- some `external` has no number after it: there are more of them than numbers
abbrev pub external_alone : List Said → Bool
external_alone said =
    nat_lt (count_by (is_match 1) said + count_by (is_match 2) said) (count_by (is_match 3) said)

-- a `redistribute` line of a BGP block: of OSPF routes it takes internal ones where it names no kind
abbrev pub into_bgp : Line → List Said → Redist
into_bgp line said = record {
  line = line.number;
  source = source_of said;
  metric = metric_of said;
  type1 = false;
  subnets = false;
  internal = not (has_said Match said) || has_match 0 said;
  ext1 = external_alone said || has_match 1 said;
  ext2 = external_alone said || has_match 2 said;
  map = map_under said line;
}

-- a neighbour of which only the address and the autonomous system are read
abbrev pub new_neighbour : ℕ → List Said → Neighbour
new_neighbour line said = record {
  line = line;
  addr = address_under Address said no_address;
  asn = number_under Number said 0;
  source = None;
  next_hop_self = false;
  client = false;
  send_community = false;
  weight = 0;
  shutdown = false;
  prefix_in = None;
  prefix_out = None;
  filter_in = None;
  filter_out = None;
  map_in = None;
  map_out = None;
}
