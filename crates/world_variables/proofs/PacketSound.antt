-- What is read from variables is a packet, and in the set where the test says so.
use Rattle.std.proofs.Common.{◌≡◌, ◌≢◌, ℕ, ◌+◌, ◌-◌, ◌*◌, ◌/◌, ◌^◌, ◌<◌, Bool, true, false, not}
use Rattle.std.proofs.Common.{◌&&◌, ◌||◌, Option, Some, None, refl, sym, ap, subst, arith, ◌∙◌}
use Rattle.std.specs.Prelude.{◌==◌, IfSome, IsTrue, if◌then◌else◌}
use Rattle.std.specs.Option.{option_map_or}
use Rattle.std.proofs.lemmas.Bool.{and_from, and_parts, eqb-true, eq-eqb, le-leb, leb-true, false≢true}
use Rattle.std.proofs.Math.Nat.{add-mul-div_left, div-eq_of_lt, div-lt_iff_lt-mul, mul-le-mul_left, mul-suc, mul_comm}
use Rattle.std.proofs.Math.Nat.{zero-add}
use Rattle.std.proofs.lemmas.Nat.{pow-add, pow_pos}
use Rattle.std.proofs.lemmas.Option.{same_Some}
use Rattle.mw_text.specs.declared.address.Prefix.{Prefix}
use Rattle.mw_text.specs.Address.{block, covers}
use Rattle.route_record.specs.declared.Packet.{Packet}
use Rattle.question_lang.specs.declared.question.PacketSet.{PacketSet}
use Rattle.question_lang.specs.Packets.{IsInSet}
use Rattle.world_variables.specs.Packets.{FitsSet, address_from, field_from, fixed_port, is_in_set, is_portless}
use Rattle.world_variables.specs.Packets.{packet_from}
use Rattle.failed_links.specs.Rows.{number_from}
use Rattle.failed_links.proofs.Reading.{number_from-below}

-- ---- fields are in their ranges

field_below : (v : ℕ → Bool) (fixed : Option ℕ) (width from : ℕ) → IfSome fixed (λ n. n < 2 ^ width) →
    field_from fixed width v from < 2 ^ width
field_below v None width from fits = number_from-below v from width
field_below v (Some n) width from fits = fits

field_fixed : (v : ℕ → Bool) (fixed : Option ℕ) (width from wanted : ℕ) → fixed ≡ Some wanted →
    field_from fixed width v from ≡ wanted
field_fixed v None width from wanted is = cc
field_fixed v (Some n) width from wanted is = same_Some n wanted is

-- the address is covered by the prefix, and has 32 bits where the prefix does
address_covered : (v : ℕ → Bool) (p : Prefix) (from : ℕ) → IsTrue (covers p (record { 0 = address_from p v from }))
address_covered v p from =
    let low = number_from-below v from (32 - p.len) in
    eq-eqb _ _ (add-mul-div_left (number_from v from (32 - p.len)) (p.addr.0 / block p.len) (pow_pos (32 - p.len))
    ∙ ap (λ n. n + p.addr.0 / block p.len) (div-eq_of_lt low) ∙ zero-add (p.addr.0 / block p.len))

whole : (len : ℕ) → block len * 2 ^ (32 - (32 - len)) ≡ 2 ^ 32
whole len =
    let all : (32 - len) + (32 - (32 - len)) ≡ 32 = omega arith in
    sym (pow-add 2 (32 - len) (32 - (32 - len))) ∙ ap (λ n. 2 ^ n) all

address_below : (v : ℕ → Bool) (p : Prefix) (from : ℕ) → p.addr.0 < 2 ^ 32 → address_from p v from < 2 ^ 32
address_below v p from fits =
    let low = number_from-below v from (32 - p.len) in
    let few : p.addr.0 / block p.len < 2 ^ (32 - (32 - p.len)) =
    (div-lt_iff_lt-mul (pow_pos (32 - p.len))).1 (subst (λ n. p.addr.0 < n) (sym (whole p.len)
    ∙ mul_comm (block p.len) (2 ^ (32 - (32 - p.len)))) fits) in
    let most = mul-le-mul_left (block p.len) few in
    omega (arith, low, most, whole p.len, mul-suc (block p.len) (p.addr.0 / block p.len))

-- ---- ports

fits_fixed : (proto : Option ℕ) (range : ℕ × ℕ) → range.0 < 2 ^ 16 → IfSome (fixed_port proto range) (λ n. n < 2 ^ 16)
fits_fixed proto range fits = by_proto (option_map_or is_portless proto false) where
  by_range : (b : Bool) → IfSome (if b then Some range.0 else None) (λ n. n < 2 ^ 16)
  by_range true = fits
  by_range false = tt

  by_proto : (b : Bool) → IfSome (if b then Some 0 else (if range.0 == range.1 then Some range.0 else None))
      (λ n. n < 2 ^ 16)
  by_proto true = omega arith
  by_proto false = by_range (range.0 == range.1)

no_ports : (proto sport dport : ℕ) → (not (is_portless proto) || (sport == 0 && dport == 0)) ≡ true →
    proto ≢ 6 → proto ≢ 17 → (sport ≡ 0) × (dport ≡ 0)
no_ports proto sport dport holds six seventeen = by_six (proto == 6) refl (proto == 17) refl holds where
  by_six : (a : Bool) → (proto == 6) ≡ a → (b : Bool) → (proto == 17) ≡ b →
      (not (not (a || b)) || (sport == 0 && dport == 0)) ≡ true → (sport ≡ 0) × (dport ≡ 0)
  by_six true is b other h = absurd (six (eqb-true proto 6 is))
  by_six false is true other h = absurd (seventeen (eqb-true proto 17 other))
  by_six false is false other h =
      let both = and_parts (sport == 0) (dport == 0) h in (eqb-true sport 0 both.0, eqb-true dport 0 both.1)

-- what is read is in the set where the test says so
pub packet_sound : (set : PacketSet) (v : ℕ → Bool) (from : ℕ) → FitsSet set →
    is_in_set set (packet_from set v from) ≡ true → IsInSet set (packet_from set v from)
unfolding is_in_set packet_from
packet_sound set v from fits holds =
    let first = and_parts _ _ holds in
    let sports = and_parts _ _ first.0 in
    let second = and_parts _ _ first.1 in
    let dports = and_parts _ _ second.0 in
    record {
      ranges = record {
        src = address_below v set.src _ fits.src;
        dst = address_below v set.dst _ fits.dst;
        proto = field_below v set.proto 8 from fits.proto;
        sport = field_below v (fixed_port set.proto set.sport) 16 _ (fits_fixed set.proto set.sport fits.sport.0);
        dport = field_below v (fixed_port set.proto set.dport) 16 _ (fits_fixed set.proto set.dport fits.dport.0);
      };
      proto = λ wanted is. field_fixed v set.proto 8 from wanted is;
      src = address_covered v set.src _;
      dst = address_covered v set.dst _;
      sport = (leb-true _ _ sports.0, leb-true _ _ sports.1);
      dport = (leb-true _ _ dports.0, leb-true _ _ dports.1);
      portless = no_ports _ _ _ second.1;
    }

-- a packet of the set passes the test
pub packet_complete : (set : PacketSet) (packet : Packet) → IsInSet set packet → is_in_set set packet ≡ true
unfolding is_in_set
packet_complete set packet inside =
    and_from _ _ (and_from _ _ (le-leb _ _ inside.sport.0) (le-leb _ _ inside.sport.1))
    (and_from _ _ (and_from _ _ (le-leb _ _ inside.dport.0) (le-leb _ _ inside.dport.1)) portless)
  where
    by : (a b : Bool) → (packet.proto == 6) ≡ a → (packet.proto == 17) ≡ b →
        (not (not (a || b)) || (packet.sport == 0 && packet.dport == 0)) ≡ true
    by true b six seventeen = refl
    by false true six seventeen = refl
    by false false six seventeen =
        let ports = inside.portless (λ is. absurd (false≢true (sym six ∙ eq-eqb packet.proto 6 is)))
        (λ is. absurd (false≢true (sym seventeen ∙ eq-eqb packet.proto 17 is))) in
        and_from (packet.sport == 0) (packet.dport == 0) (eq-eqb packet.sport 0 ports.0) (eq-eqb packet.dport 0 ports.1)

    portless : (not (is_portless packet.proto) || (packet.sport == 0 && packet.dport == 0)) ≡ true
    portless = by (packet.proto == 6) (packet.proto == 17) refl refl
