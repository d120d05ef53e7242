-- The class of a network by the high bits of an address (RFC 791, section 3.2).
use Rattle.std.proofs.Common.{◌≡◌, ℕ, ◌*◌, ◌/◌, ◌^◌, Bool, true, false, if◌then◌else◌, nat_lt}
use Rattle.std.proofs.Common.{refl, ap}
use Rattle.std.proofs.Common.{◌∙◌, arith}
use Rattle.std.specs.Prelude.{◌==◌}
use Rattle.std.proofs.lemmas.Bool.Decides.{nat_tests}
use Rattle.mw_text.specs.declared.address.Addr.{Addr}
use Rattle.mw_text.specs.Address.{prefix_at}
use Rattle.net_parts.specs.Origins.{is_classful}

pub class_a : (d : Addr) (len : ℕ) → len ≡ 8 → is_classful (prefix_at d len) ≡ (d.0 / 2 ^ 31 == 0)
class_a d len is = ap (λ n. is_classful (prefix_at d n)) is ∙ at_eight d.0
  where
    at_eight : (a : ℕ)
        → (if nat_lt (a / 16777216 * 16777216) 2147483648 then true
        else (if nat_lt (a / 16777216 * 16777216) 3221225472 then false
        else (if nat_lt (a / 16777216 * 16777216) 3758096384 then false else false)))
        ≡ (a / 2147483648 == 0)
    at_eight a = grind (arith, nat_tests)

pub class_b : (d : Addr) (len : ℕ) → len ≡ 16 → is_classful (prefix_at d len) ≡ (d.0 / 2 ^ 30 == 2)
class_b d len is = ap (λ n. is_classful (prefix_at d n)) is ∙ at_sixteen d.0
  where
    at_sixteen : (a : ℕ)
        → (if nat_lt (a / 65536 * 65536) 2147483648 then false
        else (if nat_lt (a / 65536 * 65536) 3221225472 then true
        else (if nat_lt (a / 65536 * 65536) 3758096384 then false else false)))
        ≡ (a / 1073741824 == 2)
    at_sixteen a = grind (arith, nat_tests)

pub class_c : (d : Addr) (len : ℕ) → len ≡ 24 → is_classful (prefix_at d len) ≡ (d.0 / 2 ^ 29 == 6)
class_c d len is = ap (λ n. is_classful (prefix_at d n)) is ∙ at_last d.0
  where
    at_last : (a : ℕ)
        → (if nat_lt (a / 256 * 256) 2147483648 then false
        else (if nat_lt (a / 256 * 256) 3221225472 then false
        else (if nat_lt (a / 256 * 256) 3758096384 then true else false)))
        ≡ (a / 536870912 == 6)
    at_last a = grind (arith, nat_tests)

pub class_none : (d : Addr) (len : ℕ) → (len == 8) ≡ false → (len == 16) ≡ false → (len == 24) ≡ false
    → is_classful (prefix_at d len) ≡ false
class_none d len a b c = by (nat_lt (prefix_at d len).addr.0 (2 ^ 31)) (nat_lt (prefix_at d len).addr.0 (3 * 2 ^ 30))
    (nat_lt (prefix_at d len).addr.0 (7 * 2 ^ 29))
  where
    by : (x y z : Bool)
        → (if x then len == 8 else (if y then len == 16 else (if z then len == 24 else false))) ≡ false
    by true y z = a
    by false true z = b
    by false false true = c
    by false false false = refl
