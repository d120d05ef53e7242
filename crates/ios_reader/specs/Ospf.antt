-- What lines say of an OSPF process (RFC 2328; Cisco IOS command references).
use Rattle.std.specs.Prelude.{ℕ, ◌==◌, Bool, true, false, List, [], Option, Some, None, if◌then◌else◌}
use Rattle.mw_text.specs.declared.words.Line.{Line}
use Rattle.ios_ast.specs.declared.ospf.Ospf.{Ospf}
use Rattle.ios_ast.specs.declared.ospf.OspfNet.{OspfNet}
use Rattle.ios_ast.specs.declared.ospf.Redist.{Redist}
use Rattle.ios_ast.specs.declared.ospf.DefaultOrigin.{DefaultOrigin}
use Rattle.ios_ast.specs.declared.ospf.Source.{Source}
use Rattle.ios_ast.specs.declared.ospf.Source.TheVariants.{Connected, Static, Bgp, Ospf as OspfSource}
use Rattle.ios_policy_reader.specs.declared.said.Tag.TheVariants.{Address, Wildcard, Area, Origin, Number, Metric}
use Rattle.ios_policy_reader.specs.declared.said.Tag.TheVariants.{MetricType, Subnets, Always}
use Rattle.ios_policy_reader.specs.declared.said.Said.{Said}
use Rattle.ios_policy_reader.specs.Said.{number_under, address_under, has_said}
use Rattle.ios_reader.specs.declared.ospf.TheConstants.{REFERENCE_BANDWIDTH}
use Rattle.ios_reader.specs.Names.{map_under}
use Rattle.ios_reader.specs.Interfaces.{no_address}

-- a process of which only the number is read
abbrev pub new_ospf : ℕ → ℕ → Ospf
new_ospf line process = record {
  line = line;
  process = process;
  networks = [];
  passive_default = false;
  passive = [];
  active = [];
  reference = REFERENCE_BANDWIDTH;
  redistribute = [];
  default = None;
}

-- a `network` line; an area that is written as an address is that number
abbrev pub network_of : ℕ → List Said → OspfNet
network_of line said = record {
  line = line;
  addr = address_under Address said no_address;
  wild = (address_under Wildcard said no_address).0;
  area = number_under Area said (address_under Area said no_address).0;
}

-- the source of redistributed routes by its number in the tables, with the number of its process or autonomous system
abbrev pub source_by : ℕ → ℕ → Source
source_by origin number =
    if origin == 0 then Connected
    else if origin == 1 then Static
    else if origin == 2 then OspfSource number
    else Bgp number

abbrev pub source_of : List Said → Source
source_of said = source_by (number_under Origin said 0) (number_under Number said 0)

abbrev pub metric_of : List Said → Option ℕ
metric_of said = if has_said Metric said then Some (number_under Metric said 0) else None

-- the metric is of type 2 unless type 1 is written
abbrev pub is_type1 : List Said → Bool
is_type1 said = number_under MetricType said 2 == 1

-- a `redistribute` line of an OSPF block
abbrev pub into_ospf : Line → List Said → Redist
into_ospf line said = record {
  line = line.number;
  source = source_of said;
  metric = metric_of said;
  type1 = is_type1 said;
  subnets = has_said Subnets said;
  internal = true;
  ext1 = false;
  ext2 = false;
  map = map_under said line;
}

-- a `default-information originate` line has metric 1 where none is written
abbrev pub default_of : ℕ → List Said → DefaultOrigin
default_of line said = record {
  line = line;
  always = has_said Always said;
  metric = number_under Metric said 1;
  type1 = is_type1 said;
}
