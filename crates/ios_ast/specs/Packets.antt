-- What access lists answer for a packet (Cisco IOS, `access-list`).
use Rattle.std.specs.Prelude.{ℕ, ◌==◌, ◌&&◌, nat_le, not, Bool, true, false, List, bit_or}
use Rattle.std.specs.Option.{option_map_or}
use Rattle.ios_ast.specs.declared.policies.AccessEntry.{AccessEntry}
use Rattle.ios_ast.specs.declared.policies.Wild.{Wild}
use Rattle.ios_ast.specs.declared.policies.Ports.{Ports}
use Rattle.ios_ast.specs.declared.policies.Ports.TheVariants.{Any, Range, Not, Empty}
use Rattle.ios_ast.specs.Deciding.{first_permits}

-- the fields of a packet that access lists test (RFC 791; RFC 9293; RFC 768)
pub record Header : Type 0 where
  pub src : ℕ
  pub dst : ℕ
  pub proto : ℕ
  pub sport : ℕ
  pub dport : ℕ

-- the address agrees with the pattern's in each bit that its mask has 0
abbrev pub address_matches : Wild → ℕ → Bool
address_matches pattern a = bit_or a pattern.wild == bit_or pattern.addr.0 pattern.wild

abbrev pub port_matches : Ports → ℕ → Bool
port_matches Any port = true
port_matches (Range low high) port = nat_le low port && nat_le port high
port_matches (Not other) port = not (port == other)
port_matches Empty port = false

-- an entry takes a packet where each of its tests holds
abbrev pub packet_taken : AccessEntry → Header → Bool
packet_taken e packet =
    option_map_or (λ proto. packet.proto == proto) e.proto true
    && ((address_matches e.src packet.src && port_matches e.sport packet.sport)
    && (address_matches e.dst packet.dst && port_matches e.dport packet.dport))

abbrev pub packet_permitted : List AccessEntry → Header → Bool
packet_permitted entries packet = first_permits (λ e. packet_taken e packet) (λ e. e.permit) entries
