-- The packets of a set by the variables of a formula: what the set fixes is no variable.
use Rattle.std.specs.Prelude.{ℕ, ◌+◌, ◌-◌, ◌*◌, ◌/◌, ◌%◌, ◌^◌, ◌==◌, ◌&&◌, ◌||◌, Bool, not, List, [], ◌++◌, nat_le}
use Rattle.std.specs.Prelude.{Option, Some, None, IfSome, ◌<◌, if◌then◌else◌}
use Rattle.std.specs.Option.{option_map_or}
use Rattle.mw_text.specs.declared.address.Prefix.{Prefix}
use Rattle.mw_text.specs.Address.{block}
use Rattle.route_record.specs.declared.Packet.{Packet}
use Rattle.question_lang.specs.declared.question.PacketSet.{PacketSet}
use Rattle.failed_links.specs.Rows.{digits, number_from}

-- ---- one field

-- a number that is fixed, or the next so many variables
abbrev pub field_from : Option ℕ → ℕ → (ℕ → Bool) → ℕ → ℕ
field_from (Some n) width v from = n
field_from None width v from = number_from v from width

abbrev pub field_width : Option ℕ → ℕ → ℕ
field_width (Some n) width = 0
field_width None width = width

abbrev pub field_bits : Option ℕ → ℕ → ℕ → List Bool
field_bits (Some n) width value = []
field_bits None width value = digits width value

-- an address under a prefix: its first bits are the prefix's, and the others are variables
abbrev pub address_from : Prefix → (ℕ → Bool) → ℕ → ℕ
address_from p v from = number_from v from (32 - p.len) + block p.len * (p.addr.0 / block p.len)

abbrev pub address_bits : Prefix → ℕ → List Bool
address_bits p a = digits (32 - p.len) (a % block p.len)

-- ---- which ports are fixed

-- a protocol without ports
abbrev pub is_portless : ℕ → Bool
is_portless proto = not (proto == 6 || proto == 17)

-- without TCP and UDP a port is 0; a range of one number is that number
abbrev pub fixed_port : Option ℕ → ℕ × ℕ → Option ℕ
fixed_port proto range =
    if option_map_or is_portless proto Bool.false then Some 0
    else (if range.0 == range.1 then Some range.0 else None)

-- ---- the packet

unfoldable pub packet_from : PacketSet → (ℕ → Bool) → ℕ → Packet
packet_from set v from =
    let src = from + field_width set.proto 8 in
    let dst = src + (32 - set.src.len) in
    let sport = dst + (32 - set.dst.len) in
    let dport = sport + field_width (fixed_port set.proto set.sport) 16 in
    record {
      proto = field_from set.proto 8 v from;
      src = record { 0 = address_from set.src v src };
      dst = record { 0 = address_from set.dst v dst };
      sport = field_from (fixed_port set.proto set.sport) 16 v sport;
      dport = field_from (fixed_port set.proto set.dport) 16 v dport;
    }

-- how many variables a packet of the set has
unfoldable pub packet_width : PacketSet → ℕ
packet_width set =
    field_width set.proto 8 + (32 - set.src.len) + (32 - set.dst.len)
    + field_width (fixed_port set.proto set.sport) 16 + field_width (fixed_port set.proto set.dport) 16

-- the values of these variables, before others
unfoldable pub packet_bits : PacketSet → Packet → List Bool → List Bool
packet_bits set packet rest =
    field_bits set.proto 8 packet.proto
    ++ (address_bits set.src packet.src.0
    ++ (address_bits set.dst packet.dst.0
    ++ (field_bits (fixed_port set.proto set.sport) 16 packet.sport
    ++ (field_bits (fixed_port set.proto set.dport) 16 packet.dport ++ rest))))

-- what is left to ask of such a packet: that its ports are in their ranges, and 0 without TCP and UDP
unfoldable pub is_in_set : PacketSet → Packet → Bool
is_in_set set packet =
    (nat_le set.sport.0 packet.sport && nat_le packet.sport set.sport.1)
    && ((nat_le set.dport.0 packet.dport && nat_le packet.dport set.dport.1)
    && (not (is_portless packet.proto) || (packet.sport == 0 && packet.dport == 0)))

-- the numbers of a set fit their fields
pub record FitsSet (set : PacketSet) : Type 0 where
  pub proto : IfSome set.proto (λ n. n < 2 ^ 8)
  pub src : set.src.addr.0 < 2 ^ 32
  pub dst : set.dst.addr.0 < 2 ^ 32
  pub sport : (set.sport.0 < 2 ^ 16) × (set.sport.1 < 2 ^ 16)
  pub dport : (set.dport.0 < 2 ^ 16) × (set.dport.1 < 2 ^ 16)
