-- What access lists see of a packet.
use Rattle.ios_ast.specs.Packets.{Header}
use Rattle.route_record.specs.declared.Packet.{Packet}

-- the tested fields of a packet
abbrev pub header_of : Packet → Header
header_of packet = record {
  src = packet.src.0;
  dst = packet.dst.0;
  proto = packet.proto;
  sport = packet.sport;
  dport = packet.dport;
}
