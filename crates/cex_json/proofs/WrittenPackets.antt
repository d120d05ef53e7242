-- A packet that was written is read back.
use Rattle.std.proofs.Common.{◌≡◌, ◌≢◌, ℕ, ◌^◌, ◌<◌, ◌≤◌, ◌==◌, ◌&&◌, ◌||◌, Bool, true, false, cond, List, nat_eq}
use Rattle.std.proofs.Common.{Option, Some, None, Ok, refl, ap, sym, ◌∙◌, arith}
use Rattle.std.proofs.Math.Bool.{or-true}
use Rattle.std.specs.Prelude.{codes, nat_le}
use Rattle.std.specs.Option.{option_map_or}
use Rattle.std.proofs.lemmas.Bool.{le-leb, eq-eqb, eqb-false}
use Rattle.mw_text.specs.declared.address.Addr.{Addr}
use Rattle.mw_text.specs.declared.address.Prefix.{Prefix}
use Rattle.mw_text.specs.Address.{covers}
use Rattle.route_record.specs.declared.Packet.{Packet}
use Rattle.question_lang.specs.declared.question.PacketSet.{PacketSet}
use Rattle.question_lang.specs.Packets.{IsInSet}
use Rattle.serde_json.specs.Data.{string}
use Rattle.serde_json.specs.Find.{get}
use Rattle.cex_json.specs.Json.{number_of}
use Rattle.cex_json.specs.Parts.{addr_text, packet_data}
use Rattle.cex_json.specs.Surroundings.{addr_under, has_ports, is_port, packet_at, port_in, proto_fits, proto_in}
use Rattle.cex_json.proofs.Dotted.{addr_back}

-- an address of the prefix
under_back : (p : Prefix) (a : Addr) → a.0 < 2 ^ 32 → covers p a ≡ true →
    addr_under (Some p) (Some (string (addr_text a))) ≡ Some a
unfolding addr_under
under_back p a small covered = rw (addr_back a small) (rw covered refl)

-- the protocol of the set
fits_proto : (wanted : Option ℕ) (n : ℕ) → ((w : ℕ) → wanted ≡ Some w → n ≡ w) →
    option_map_or (λ w. w == n) wanted true ≡ true
fits_proto None n same = refl
fits_proto (Some w) n same = eq-eqb w n (sym (same w refl))

proto_back : (set : PacketSet) (packet : Packet) → IsInSet set packet →
    proto_in (Some set) (packet_data packet) ≡ Some packet.proto
unfolding proto_in packet_data
proto_back set packet inside =
    let small : packet.proto < 2 ^ 8 = inside.ranges.proto in
    rw (le-leb packet.proto 255 (omega arith)) (rw (fits_proto set.proto packet.proto inside.proto) refl)

-- without TCP and UDP a port is 0
portless : (proto n : ℕ) → (proto ≢ 6 → proto ≢ 17 → n ≡ 0) → ((n == 0) || has_ports (Some proto)) ≡ true
portless proto n zero = by (nat_eq proto 6) refl (nat_eq proto 17) refl
  where
    by : (tcp : Bool) → nat_eq proto 6 ≡ tcp → (udp : Bool) → nat_eq proto 17 ≡ udp →
        ((n == 0) || has_ports (Some proto)) ≡ true
    by false tcp false udp = rw (zero (eqb-false proto 6 tcp) (eqb-false proto 17 udp)) refl
    by false tcp true udp = rw tcp (rw udp (or-true (n == 0)))
    by true tcp udp is = rw tcp (or-true (n == 0))

port_back : (proto n : ℕ) (range : ℕ × ℕ) → n < 2 ^ 16 → (range.0 ≤ n) × (n ≤ range.1) →
    (proto ≢ 6 → proto ≢ 17 → n ≡ 0) → port_in (Some proto) (Some range) (Some (number_of n)) ≡ Some n
unfolding port_in
port_back proto n range small within zero =
    rw (le-leb n 65535 (omega arith))
    (rw (portless proto n zero) (rw (le-leb range.0 n within.0) (rw (le-leb n range.1 within.1) refl)))

-- a packet of the set
pub packet_back : (set : PacketSet) (packet : Packet) (at : List ℕ) → IsInSet set packet →
    packet_at (Some set) at (packet_data packet) ≡ Ok packet
unfolding packet_at packet_data
packet_back set packet at inside =
    rw (proto_back set packet inside)
    (rw (port_back packet.proto packet.dport set.dport inside.ranges.dport inside.dport
    (λ tcp udp. (inside.portless tcp udp).1))
    (rw (under_back set.dst packet.dst inside.ranges.dst inside.dst)
    (rw (port_back packet.proto packet.sport set.sport inside.ranges.sport inside.sport
    (λ tcp udp. (inside.portless tcp udp).0))
    (rw (under_back set.src packet.src inside.ranges.src inside.src) refl))))
