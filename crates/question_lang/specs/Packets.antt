-- Packets and sets of packets.
use Rattle.std.specs.Prelude.{◌≡◌, ◌≢◌, ℕ, ◌^◌, ◌<◌, ◌≤◌, IsTrue, Some}
use Rattle.mw_text.specs.Address.{covers}
use Rattle.route_record.specs.declared.Packet.{Packet}
use Rattle.question_lang.specs.declared.question.PacketSet.{PacketSet}

-- the numbers of a packet fit the fields of its headers (RFC 791, RFC 768, RFC 9293)
pub record IsPacket (packet : Packet) : Type 0 where
  pub src : packet.src.0 < 2 ^ 32
  pub dst : packet.dst.0 < 2 ^ 32
  pub proto : packet.proto < 2 ^ 8
  pub sport : packet.sport < 2 ^ 16
  pub dport : packet.dport < 2 ^ 16

-- a packet is in a set where each field is in its range; without TCP (6) and UDP (17) both ports are 0
pub record IsInSet (set : PacketSet) (packet : Packet) : Type 0 where
  pub ranges : IsPacket packet
  pub proto : (wanted : ℕ) → set.proto ≡ Some wanted → packet.proto ≡ wanted
  pub src : IsTrue (covers set.src packet.src)
  pub dst : IsTrue (covers set.dst packet.dst)
  pub sport : (set.sport.0 ≤ packet.sport) × (packet.sport ≤ set.sport.1)
  pub dport : (set.dport.0 ≤ packet.dport) × (packet.dport ≤ set.dport.1)
  pub portless : packet.proto ≢ 6 → packet.proto ≢ 17 → (packet.sport ≡ 0) × (packet.dport ≡ 0)
