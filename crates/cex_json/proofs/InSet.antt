-- A packet that is read is in the set of its question.
use Rattle.std.proofs.Common.{◌≡◌, ◌≢◌, ℕ, ◌+◌, ◌*◌, ◌<◌, ◌≤◌, ◌^◌, List, [], Bool, true, false, ◌&&◌, ◌||◌, cond}
use Rattle.std.proofs.Common.{nat_le, Option, Some, None, option_map, option_and_then, Ok, inl, inr, refl, sym, ap}
use Rattle.std.proofs.Common.{◌∙◌, subst, arith}
use Rattle.std.specs.Prelude.{codes, ◌==◌, ◌⊎◌, slice_get}
use Rattle.std.specs.Option.{option_map_or}
use Rattle.std.proofs.lemmas.Bool.{and_parts, eqb-true, leb-true, or_cases}
use Rattle.mw_text.specs.declared.address.Addr.{Addr}
use Rattle.mw_text.specs.declared.address.Prefix.{Prefix}
use Rattle.mw_text.specs.Address.{covers}
use Rattle.mw_text.specs.Digits.{addr_of, cut_at, octet_of, value_of}
use Rattle.ios_ast.specs.declared.file.File.{File}
use Rattle.route_record.specs.declared.Packet.{Packet}
use Rattle.net_interfaces.proofs.Options.{chained}
use Rattle.question_lang.specs.declared.question.PacketSet.{PacketSet}
use Rattle.question_lang.specs.declared.question.Question.{Question}
use Rattle.question_lang.specs.Packets.{IsInSet, IsPacket}
use Rattle.serde_json.specs.Data.{Data}
use Rattle.serde_json.specs.Find.{as_number, as_u64, get}
use Rattle.cex_json.specs.declared.counterexample.Counterexample.{Counterexample}
use Rattle.cex_json.specs.declared.reader.Limits.{Limits}
use Rattle.cex_json.specs.declared.reader.Surroundings.{Surroundings}
use Rattle.cex_json.specs.Entries.{slots_in}
use Rattle.cex_json.specs.Fields.{addr_in, number_in, object_in, required, text_in}
use Rattle.cex_json.specs.Reading.{asked_place, cex_in, format_in, limits, surroundings_in, walk_for}
use Rattle.cex_json.specs.Surroundings.{addr_under, announcements_in, failures_in, has_ports, ids_in, is_port}
use Rattle.cex_json.specs.Surroundings.{packet_at, packet_in, port_in, proto_fits, proto_in}
use Rattle.cex_json.proofs.Inversion.{bound, field, no_value, passed, same_ok, same_some}
use Rattle.cex_json.proofs.Sizes.{number_small}

chosen : (b : Bool) (v n : ℕ) → cond b (Some v) None ≡ Some n → (b ≡ true) × (v ≡ n)
chosen true v n same = (refl, same_some v n same)
chosen false v n same = absurd (no_value n same)

octet_small : (word : List ℕ) (n : ℕ) → octet_of word ≡ Some n → n ≤ 255
octet_small word n same =
    let parts = chosen _ (value_of word) n same in
    let P : ℕ → Type 0 = λ k. k ≤ 255 in
    subst P parts.1 (leb-true (value_of word) 255 (and_parts _ (nat_le (value_of word) 255) parts.0).1)

addr_sum : (a b c d : ℕ) → a ≤ 255 → b ≤ 255 → c ≤ 255 → d ≤ 255 → ((a * 256 + b) * 256 + c) * 256 + d < 2 ^ 32
addr_sum a b c d p q r s = omega arith

-- an address that is read has 32 bits
pub addr_small : (word : List ℕ) (a : Addr) → addr_of word ≡ Some a → a.0 < 2 ^ 32
addr_small word a same =
    let one = chained _ (cut_at 46 word) a same in
    let two = chained _ (cut_at 46 one.0.1) a one.2 in
    let three = chained _ (cut_at 46 two.0.1) a two.2 in
    let first = chained _ (octet_of one.0.0) a three.2 in
    let second = chained _ (octet_of two.0.0) a first.2 in
    let third = chained _ (octet_of three.0.0) a second.2 in
    let fourth = chained _ (octet_of three.0.1) a third.2 in
    let P : Addr → Type 0 = λ x. x.0 < 2 ^ 32 in
    subst P (same_some _ a fourth.2)
    (addr_sum first.0 second.0 third.0 fourth.0 (octet_small one.0.0 first.0 first.1)
    (octet_small two.0.0 second.0 second.1)
    (octet_small three.0.0 third.0 third.1) (octet_small three.0.1 fourth.0 fourth.1))

-- an address under the prefix
under : (p : Prefix) (found : Option Data) (a : Addr) → addr_under (Some p) found ≡ Some a → (covers p a ≡ true)
    × (a.0 < 2 ^ 32)
unfolding addr_under
under p found a same =
    let one = passed (λ x. covers p x) (addr_in found) a same in
    let word = chained addr_of (text_in found) a one.0 in
    (one.1, addr_small word.0 a word.2)

-- a port of the range
port_fits : (proto : ℕ) (range : ℕ × ℕ) (found : Option Data) (n : ℕ) → port_in (Some proto) (Some range) found
    ≡ Some n →
    (n ≤ 65535) × ((range.0 ≤ n) × (n ≤ range.1)) × (proto ≢ 6 → proto ≢ 17 → n ≡ 0)
unfolding port_in
port_fits proto range found n same =
    let one = passed (is_port (Some proto) (Some range)) (number_in 65535 found) n same in
    let parts = and_parts ((n == 0) || has_ports (Some proto)) (nat_le range.0 n && nat_le n range.1) one.1 in
    let bounds = and_parts (nat_le range.0 n) (nat_le n range.1) parts.1 in
    (number_small 65535 found n one.0, (leb-true range.0 n bounds.0, leb-true n range.1 bounds.1), portless parts.0)
  where
    of_ports : (proto ≡ 6) ⊎ (proto ≡ 17) → proto ≢ 6 → proto ≢ 17 → n ≡ 0
    of_ports (inl tcp) not_tcp not_udp = absurd (not_tcp tcp)
    of_ports (inr udp) not_tcp not_udp = absurd (not_udp udp)

    which : ((proto == 6) ≡ true) ⊎ ((proto == 17) ≡ true) → (proto ≡ 6) ⊎ (proto ≡ 17)
    which (inl tcp) = inl (eqb-true proto 6 tcp)
    which (inr udp) = inr (eqb-true proto 17 udp)

    by_test : ((n == 0) ≡ true) ⊎ (has_ports (Some proto) ≡ true) → proto ≢ 6 → proto ≢ 17 → n ≡ 0
    by_test (inl none) not_tcp not_udp = eqb-true n 0 none
    by_test (inr ports) not_tcp not_udp = of_ports (which (or_cases (proto == 6) (proto == 17) ports)) not_tcp not_udp

    portless : ((n == 0) || has_ports (Some proto)) ≡ true → proto ≢ 6 → proto ≢ 17 → n ≡ 0
    portless test = by_test (or_cases (n == 0) (has_ports (Some proto)) test)

-- the protocol of the set
proto_small : (set : PacketSet) (d : Data) (n : ℕ) → proto_in (Some set) d ≡ Some n →
    (n ≤ 255) × ((wanted : ℕ) → set.proto ≡ Some wanted → n ≡ wanted)
unfolding proto_in
proto_small set d n same =
    let one = passed (proto_fits (Some set)) (number_in 255 (get (codes "proto") d)) n same in (
      number_small 255 (get (codes "proto") d) n one.0,
      λ wanted is. sym (eqb-true wanted n (ap (λ o. option_map_or (λ w. w == n) o true) (sym is) ∙ one.1)),
    )

-- a packet that is read is in the set
packet_fits : (set : PacketSet) (at : List ℕ) (d : Data) (packet : Packet) → packet_at (Some set) at d ≡ Ok packet
    → IsInSet set packet
unfolding packet_at
packet_fits set at d packet same =
    let dport = bound (required at (codes "dport")
    (port_in (proto_in (Some set) d) (Some set.dport) (get (codes "dport") d))) _ packet same in
    let dst = bound (required at (codes "dst") (addr_under (Some set.dst) (get (codes "dst") d))) _ packet dport.2 in
    let proto = bound (required at (codes "proto") (proto_in (Some set) d)) _ packet dst.2 in
    let sport = bound (required at (codes "sport")
    (port_in (proto_in (Some set) d) (Some set.sport) (get (codes "sport") d))) _ packet proto.2 in
    let src = bound (required at (codes "src") (addr_under (Some set.src) (get (codes "src") d))) _ packet sport.2 in
    let known = field at (codes "proto") (proto_in (Some set) d) proto.0 proto.1 in
    let p = proto_small set d proto.0 known in
    let to = port_fits proto.0 set.dport (get (codes "dport") d) dport.0
    (ap (λ o. port_in o (Some set.dport) (get (codes "dport") d)) (sym known)
    ∙ field at (codes "dport") _ dport.0 dport.1) in
    let from = port_fits proto.0 set.sport (get (codes "sport") d) sport.0
    (ap (λ o. port_in o (Some set.sport) (get (codes "sport") d)) (sym known)
    ∙ field at (codes "sport") _ sport.0 sport.1) in
    let target = under set.dst (get (codes "dst") d) dst.0 (field at (codes "dst") _ dst.0 dst.1) in
    let source = under set.src (get (codes "src") d) src.0 (field at (codes "src") _ src.0 src.1) in
    let held : Packet = record { src = src.0; dst = dst.0; proto = proto.0; sport = sport.0; dport = dport.0 } in
    let ranges : IsPacket held = record {
      src = source.1;
      dst = target.1;
      proto = omega (arith, p.0);
      sport = omega (arith, from.0);
      dport = omega (arith, to.0);
    } in
    let inside : IsInSet set held = record {
      ranges = ranges;
      proto = p.1;
      src = source.0;
      dst = target.0;
      sport = from.1;
      dport = to.1;
      portless = λ other than. (from.2 other than, to.2 other than);
    } in
    subst (IsInSet set) (same_ok held packet src.2) inside

surroundings_packet : (files : List File) (limits : Limits) (set : PacketSet) (d : Data) (around : Surroundings) →
    surroundings_in files limits d ≡ Ok around → limits.packets ≡ Some set → IsInSet set around.packet
unfolding surroundings_in
surroundings_packet files limits set d around same is =
    let announced = bound (announcements_in files d) _ around same in
    let links = bound (failures_in files limits.failures d) _ around announced.2 in
    let format = bound (required [] (codes "format") (format_in d)) _ around links.2 in
    let packet = bound (packet_in limits.packets d) _ around format.2 in
    let ids = bound (ids_in files format.0 d) _ around packet.2 in
    let part = bound (required [] (codes "packet") (object_in (get (codes "packet") d)))
    (packet_at limits.packets (codes "packet/")) packet.0 packet.1 in
    let read = ap (λ o. packet_at o (codes "packet/") part.0) (sym is) ∙ part.2 in
    let P : Surroundings → Type 0 = λ s. IsInSet set s.packet in
    subst P (same_ok _ around ids.2) (packet_fits set (codes "packet/") part.0 packet.0 read)

-- the packets that a question speaks of
pub set_of : (questions : List Question) (d : Data) (place : ℕ) (question : Question) → asked_place questions d
    ≡ Some place →
    slice_get questions place ≡ Some question → (limits questions d).packets ≡ Some question.packets
unfolding limits
set_of questions d place question asked there =
    ap (λ o. option_map (λ (q : Question). q.packets) (option_and_then (slice_get questions) o)) asked
    ∙ ap (option_map (λ (q : Question). q.packets)) there

-- the packet is in the set of the question
pub cex_packet : (files : List File) (questions : List Question) (d : Data) (cex : Counterexample)
    (question : Question) →
    cex_in files questions d ≡ Ok cex → slice_get questions cex.question ≡ Some question
    → IsInSet question.packets cex.packet
unfolding cex_in
cex_packet files questions d cex question same there =
    let around = bound (surroundings_in files (limits questions d) d) _ cex same in
    let place = bound (required [] (codes "question") (asked_place questions d)) _ cex around.2 in
    let slots = bound (slots_in files d) _ cex place.2 in
    let walk = bound (walk_for files (slice_get questions place.0) d) _ cex slots.2 in
    let is = same_ok _ cex walk.2 in
    let asked = field [] (codes "question") (asked_place questions d) place.0 place.1 in
    let here : slice_get questions place.0
    ≡ Some question = ap (λ (c : Counterexample). slice_get questions c.question) is ∙ there in
    let P : Packet → Type 0 = IsInSet question.packets in
    subst P (ap (λ (c : Counterexample). c.packet) is)
    (surroundings_packet files (limits questions d) question.packets d around.0 around.1
    (set_of questions d place.0 question asked here))
