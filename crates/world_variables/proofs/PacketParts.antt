-- A packet of a set is read from its bits, and what is read is in the set where the test says so.
use Rattle.std.proofs.Common.{◌≡◌, ◌≢◌, ℕ, ◌+◌, ◌-◌, ◌*◌, ◌/◌, ◌%◌, ◌^◌, ◌<◌, ◌≤◌, Bool, true, false}
use Rattle.std.proofs.Common.{List, ◌++◌, Option, Some, None, refl, sym, ap, subst, arith}
use Rattle.std.proofs.Common.{◌∙◌}
use Rattle.std.specs.Prelude.{◌==◌, IsTrue, if◌then◌else◌}
use Rattle.std.proofs.lemmas.Bool.{eqb-true, false≢true}
use Rattle.std.proofs.Math.Nat.{mod-add-div, mod-lt}
use Rattle.std.proofs.lemmas.Nat.{pow_pos}
use Rattle.std.proofs.lemmas.Option.{same_Some}
use Rattle.mw_text.specs.declared.address.Prefix.{Prefix}
use Rattle.mw_text.specs.Address.{block, covers}
use Rattle.route_record.specs.declared.Packet.{Packet}
use Rattle.question_lang.specs.declared.question.PacketSet.{PacketSet}
use Rattle.question_lang.specs.Packets.{IsInSet}
use Rattle.world_variables.specs.Packets.{address_bits, address_from, field_bits, field_from, field_width, fixed_port}
use Rattle.world_variables.specs.Packets.{is_portless, packet_bits, packet_from, packet_width}
use Rattle.failed_links.specs.Rows.{IsAt}
use Rattle.failed_links.proofs.Reading.{field_at}

-- ---- a field

field_part : (v : ℕ → Bool) (fixed : Option ℕ) (width n from : ℕ) (rest : List Bool) → n < 2 ^ width →
    ((m : ℕ) → fixed ≡ Some m → n ≡ m) → IsAt v from (field_bits fixed width n ++ rest) →
    (field_from fixed width v from ≡ n) × IsAt v (from + field_width fixed width) rest
field_part v (Some m) width n from rest small is here =
    (sym (is m refl), subst (λ k. IsAt v k rest) (omega arith) here)
field_part v None width n from rest small is here = field_at v from width n rest small here

address_part : (v : ℕ → Bool) (p : Prefix) (a from : ℕ) (rest : List Bool) → IsTrue (covers p (record { 0 = a })) →
    IsAt v from (address_bits p a ++ rest) → (address_from p v from ≡ a) × IsAt v (from + (32 - p.len)) rest
address_part v p a from rest covered here =
    let same : a / block p.len ≡ p.addr.0 / block p.len = eqb-true _ _ covered in
    let read = field_at v from (32 - p.len) (a % block p.len) rest (mod-lt a (pow_pos (32 - p.len))) here in (
      ap (λ n. n + block p.len * (p.addr.0 / block p.len)) read.0
          ∙ ap (λ q. a % block p.len + block p.len * q) (sym same) ∙ mod-add-div a (block p.len),
      read.1,
    )

-- ---- a port that is fixed

abbrev HasNoPort : ℕ → ℕ → Type 0
HasNoPort proto port = proto ≢ 6 → proto ≢ 17 → port ≡ 0

no_ports : (proto : ℕ) → is_portless proto ≡ true → (proto ≢ 6) × (proto ≢ 17)
no_ports proto portless = (
  λ six. absurd (false≢true (sym (ap is_portless six) ∙ portless)),
  λ seventeen. absurd (false≢true (sym (ap is_portless seventeen) ∙ portless)),
)

by_range : (range : ℕ × ℕ) (port m : ℕ) (b : Bool) → (range.0 == range.1) ≡ b → (range.0 ≤ port) × (port ≤ range.1) →
    (if b then Some range.0 else None) ≡ Some m → port ≡ m
by_range range port m true same within is =
    let one = eqb-true range.0 range.1 same in
    let low = same_Some range.0 m is in omega (arith, one, low, within.0, within.1)
by_range range port m false same within is = cc

port_fixed : (proto : Option ℕ) (range : ℕ × ℕ) (held port m : ℕ) → ((k : ℕ) → proto ≡ Some k → held ≡ k) →
    HasNoPort held port → (range.0 ≤ port) × (port ≤ range.1) → fixed_port proto range ≡ Some m → port ≡ m
port_fixed None range held port m proto portless within is = by_range range port m _ refl within is
port_fixed (Some k) range held port m proto portless within is = by (is_portless k) refl is where
  by : (b : Bool) → is_portless k ≡ b →
      (if b then Some 0 else (if range.0 == range.1 then Some range.0 else None)) ≡ Some m → port ≡ m
  by true none is' =
      let apart = no_ports held (ap is_portless (proto k refl) ∙ none) in
      let zero_port = portless apart.0 apart.1 in
      let named = same_Some 0 m is' in omega (arith, zero_port, named)
  by false some is' = by_range range port m _ refl within is'

-- ---- the packet

-- a packet of the set is read from its bits
pub packet_at : (set : PacketSet) (packet : Packet) (v : ℕ → Bool) (from : ℕ) (rest : List Bool) →
    IsInSet set packet → IsAt v from (packet_bits set packet rest) →
    (packet_from set v from ≡ packet) × IsAt v (from + packet_width set) rest
unfolding packet_from packet_width packet_bits
packet_at set packet v from rest inside here =
    let proto = field_part v set.proto 8 packet.proto from _ inside.ranges.proto inside.proto here in
    let src = address_part v set.src packet.src.0 _ _ inside.src proto.1 in
    let dst = address_part v set.dst packet.dst.0 _ _ inside.dst src.1 in
    let sport = field_part v (fixed_port set.proto set.sport) 16 packet.sport _ _ inside.ranges.sport
    (λ m. port_fixed set.proto set.sport packet.proto packet.sport m inside.proto
    (λ six seventeen. (inside.portless six seventeen).0) inside.sport) dst.1 in
    let dport = field_part v (fixed_port set.proto set.dport) 16 packet.dport _ rest inside.ranges.dport
    (λ m. port_fixed set.proto set.dport packet.proto packet.dport m inside.proto
    (λ six seventeen. (inside.portless six seventeen).1) inside.dport) sport.1 in (
      λ i. record {
        proto = proto.0 i;
        src = record { 0 = src.0 i };
        dst = record { 0 = dst.0 i };
        sport = sport.0 i;
        dport = dport.0 i;
      },
      subst (λ k. IsAt v k rest) (omega arith) dport.1,
    )
