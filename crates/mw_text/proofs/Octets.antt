use Rattle.std.proofs.Common.{◌≡◌, ℕ, ◌+◌, ◌*◌, List, Option, Some, None, option_map, option_and_then, refl, ap, arith}
use Rattle.mw_text.specs.declared.address.Addr.{Addr}
use Rattle.mw_text.specs.Digits.{addr_of, cut_at, octet_of, octets_of}

-- an address of two numbers of 16 bits, the first highest
abbrev joined_of : Option ℕ → Option ℕ → Option Addr
joined_of high low = option_and_then (λ h. option_map (λ l. record { 0 = h * 65536 + l }) low) high

joined : (a b c d : Option ℕ)
    → option_and_then (λ first. option_and_then (λ second. option_and_then (λ third. option_and_then (λ fourth.
    Some (record { 0 = ((first * 256 + second) * 256 + third) * 256 + fourth })) d) c) b) a
    ≡ joined_of (option_and_then (λ first. option_map (λ second. first * 256 + second) b) a)
    (option_and_then (λ third. option_map (λ fourth. third * 256 + fourth) d) c)
joined None b c d = refl
joined (Some first) None c d = refl
joined (Some first) (Some second) None d = refl
joined (Some first) (Some second) (Some third) None = refl
joined (Some first) (Some second) (Some third) (Some fourth) =
    let same : ((first * 256 + second) * 256 + third) * 256 + fourth
    ≡ (first * 256 + second) * 65536 + (third * 256 + fourth) = omega arith in
    let P : ℕ → Option Addr = λ n. Some (record { 0 = n }) in
    ap P same

-- an address by its octets, where the word is cut at three dots
pub addr_of_cuts : (word : List ℕ) (x y z : List ℕ × List ℕ) → cut_at 46 word ≡ Some x → cut_at 46 x.1 ≡ Some y
    → cut_at 46 y.1 ≡ Some z
    → addr_of word
    ≡ option_and_then (λ h. option_map (λ l. record { 0 = h * 65536 + l }) (octets_of z.0 z.1)) (octets_of x.0 y.0)
addr_of_cuts word x y z first second third =
    rw first (rw second (rw third (joined (octet_of x.0) (octet_of y.0) (octet_of z.0) (octet_of z.1))))
