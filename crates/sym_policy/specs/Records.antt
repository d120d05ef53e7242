-- What a reading makes of symbolic packets and records.
use Rattle.std.specs.Prelude.{ℕ, max, Bool}
use Rattle.ios_ast.specs.declared.policies.PrefixEntry.{PrefixEntry}
use Rattle.ios_ast.specs.Prefixes.{prefix_taken}
use Rattle.ios_ast.specs.Packets.{Header}
use Rattle.term_store.specs.Terms.{Reading}
use Rattle.term_arith.specs.Bits.{number, ids_end}
use Rattle.term_arith.specs.declared.Bits.{Bits}
use Rattle.mw_text.specs.declared.address.Addr.{Addr}
use Rattle.mw_text.specs.declared.address.Prefix.{Prefix}
use Rattle.mw_text.specs.Address.{prefix_at}
use Rattle.sym_policy.specs.declared.records.SymPacket.{SymPacket}

-- the fields of the packet
abbrev pub header_of : Reading → SymPacket → Header
header_of w packet = record {
  src = number w packet.src.nodes.items;
  dst = number w packet.dst.nodes.items;
  proto = number w packet.proto.nodes.items;
  sport = number w packet.sport.nodes.items;
  dport = number w packet.dport.nodes.items;
}

-- the address whose bits are these nodes, and its prefix of that length
abbrev pub address_of : Reading → Bits → Addr
address_of w address = record { 0 = number w address.nodes.items }

abbrev pub prefix_of : Reading → Bits → ℕ → Prefix
prefix_of w dst len = prefix_at (address_of w dst) len

-- whether an entry takes that prefix
unfoldable pub takes_prefix : Reading → Bits → ℕ → PrefixEntry → Bool
takes_prefix w dst len e = prefix_taken e (prefix_of w dst len)

-- the least size of a store that has all nodes of the packet
abbrev pub packet_end : SymPacket → ℕ
packet_end packet =
    max (max (ids_end packet.src.nodes.items) (ids_end packet.dst.nodes.items))
    (max (ids_end packet.proto.nodes.items) (max (ids_end packet.sport.nodes.items) (ids_end packet.dport.nodes.items)))
