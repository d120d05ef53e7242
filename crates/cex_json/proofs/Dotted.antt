-- Addresses and prefixes that were written are read back.
use Rattle.std.proofs.Common.{◌≡◌, ℕ, suc, ◌+◌, ◌*◌, ◌/◌, ◌%◌, ◌^◌, ◌<◌, ◌≤◌, ◌==◌, ◌&&◌, Bool, true, false}
use Rattle.std.proofs.Common.{cond, not, List, [], ◌∷◌, ◌++◌, length, take, drop, Option, Some, None, refl, ap}
use Rattle.std.proofs.Common.{◌∙◌, arith, length-append}
use Rattle.std.proofs.lemmas.Bool.{and_parts, eq-eqb, eqb-true, lt-ltb, false≢true, not-true, or_parts}
use Rattle.std.proofs.lemmas.List.Folds.{list_any-append}
use Rattle.std.proofs.Math.Seq.{take-append_seam, drop-append-add}
use Rattle.std.specs.Prelude.{codes, decimal, nat_lt, option_map}
use Rattle.std.specs.Fmt.{digits}
use Rattle.std.specs.List.{list_any, position, position_or_len}
use Rattle.std.specs.Option.{option_map_or}
use Rattle.mw_text.specs.declared.address.Addr.{Addr}
use Rattle.mw_text.specs.declared.address.Prefix.{Prefix}
use Rattle.mw_text.specs.Address.{prefix_at}
use Rattle.mw_text.specs.Members.{all_below}
use Rattle.mw_text.proofs.Lists.{below_at}
use Rattle.mw_text.specs.Text.{same_text}
use Rattle.mw_text.specs.Digits.{addr_of, cut_at, number_of, octet_of, prefix_of_text}
use Rattle.cex_json.specs.Parts.{addr_text, octet}
use Rattle.cex_json.specs.Worlds.{prefix_text}

-- ---- cutting at the first byte of a kind

first_place : (byte : ℕ) (front rest : List ℕ) → list_any (λ b. b == byte) front ≡ false →
    position_or_len (λ b. b == byte) (front ++ byte ∷ rest) ≡ length front
first_place byte [] rest none = rw (eq-eqb byte byte refl) refl
first_place byte (b ∷ front) rest none =
    let parts = or_parts (b == byte) (list_any (λ c. c == byte) front) none in
    let more : 1 + length front ≡ suc (length front) = omega arith in
    rw parts.0 (ap (λ n. 1 + n) (first_place byte front rest parts.1) ∙ more)

-- what stands before the byte, without it, and what stands after it
pub cut-append : (byte : ℕ) (front rest : List ℕ) → list_any (λ b. b == byte) front ≡ false →
    cut_at byte (front ++ byte ∷ rest) ≡ Some (front, rest)
cut-append byte front rest none =
    let word : List ℕ = front ++ byte ∷ rest in
    let at : position_or_len (λ b. b == byte) word ≡ length front = first_place byte front rest none in
    let longer : length word ≡ length front + suc (length rest) = length-append front (byte ∷ rest) in
    let inside : nat_lt (length front) (length word) ≡ true = lt-ltb _ _ (omega arith) in
    let found : position (λ b. b == byte) word ≡ Some (length front) =
    ap (λ i. cond (nat_lt i (length word)) (Some i) None) at
    ∙ ap (λ b. cond b (Some (length front)) None) inside in
    ap (option_map (λ i. (take i word, drop (i + 1) word))) found
    ∙ ap (λ t. Some (t, drop (length front + 1) word)) (take-append_seam front (byte ∷ rest))
    ∙ ap (λ t. Some (front, t)) (drop-append-add front (byte ∷ rest) 1)

-- ---- octets

-- an octet is read back, and has neither '.' nor '/'
abbrev is_read : ℕ → Bool
is_read n = option_map_or (λ m. m == n) (octet_of (decimal n)) false

abbrev is_without : ℕ → ℕ → Bool
is_without byte n = not (list_any (λ b. b == byte) (decimal n))

abbrev is_octet : ℕ → Bool
is_octet n = is_read n && (is_without 46 n && is_without 47 n)

octets : all_below is_octet 256 ≡ true
unfolding digits
octets = refl

same_number : (found : Option ℕ) (n : ℕ) → option_map_or (λ m. m == n) found false ≡ true → found ≡ Some n
same_number None n h = absurd (false≢true h)
same_number (Some m) n h = ap Some (eqb-true m n h)

octet_facts : (n : ℕ) → n < 256 → (is_read n ≡ true) × ((is_without 46 n ≡ true) × (is_without 47 n ≡ true))
octet_facts n small =
    let facts = and_parts (is_read n) (is_without 46 n && is_without 47 n) (below_at is_octet 256 n octets small) in
    (facts.0, and_parts (is_without 46 n) (is_without 47 n) facts.1)

-- an octet that was written
pub octet_back : (n : ℕ) → n < 256 → octet_of (decimal n) ≡ Some n
octet_back n small = same_number (octet_of (decimal n)) n (octet_facts n small).0

no_dot : (n : ℕ) → n < 256 → list_any (λ b. b == 46) (decimal n) ≡ false
no_dot n small = not-true _ (octet_facts n small).1.0

no_slash : (n : ℕ) → n < 256 → list_any (λ b. b == 47) (decimal n) ≡ false
no_slash n small = not-true _ (octet_facts n small).1.1

-- ---- addresses

-- four octets with dots between them
dotted : (p q r s : ℕ) → p < 256 → q < 256 → r < 256 → s < 256 →
    addr_of (decimal p ++ (46 ∷ (decimal q ++ (46 ∷ (decimal r ++ (46 ∷ decimal s))))))
    ≡ Some (record { 0 = ((p * 256 + q) * 256 + r) * 256 + s })
dotted p q r s a b c d =
    rw (cut-append 46 (decimal p) (decimal q ++ (46 ∷ (decimal r ++ (46 ∷ decimal s)))) (no_dot p a))
    (rw (cut-append 46 (decimal q) (decimal r ++ (46 ∷ decimal s)) (no_dot q b))
    (rw (cut-append 46 (decimal r) (decimal s) (no_dot r c))
    (rw (octet_back p a) (rw (octet_back q b) (rw (octet_back r c) (rw (octet_back s d) refl))))))

octets_of : (n : ℕ) → n < 2 ^ 32 →
    ((n / 2 ^ 24 % 256 * 256 + n / 2 ^ 16 % 256) * 256 + n / 2 ^ 8 % 256) * 256 + n / 2 ^ 0 % 256 ≡ n
octets_of n small = omega arith

-- an address that was written
pub addr_back : (a : Addr) → a.0 < 2 ^ 32 → addr_of (addr_text a) ≡ Some a
unfolding addr_text
addr_back a small =
    dotted (octet a 24) (octet a 16) (octet a 8) (octet a 0) (omega arith) (omega arith) (omega arith) (omega arith)
    ∙ ap (λ n. Some (record { 0 = n })) (octets_of a.0 small)

-- ---- prefixes

slash_in : (front rest : List ℕ) (b : ℕ) → (b == 47) ≡ false → list_any (λ c. c == 47) front ≡ false →
    list_any (λ c. c == 47) rest ≡ false → list_any (λ c. c == 47) (front ++ b ∷ rest) ≡ false
slash_in front rest b here before after =
    list_any-append (λ c. c == 47) front (b ∷ rest) ∙ (rw before (rw here after))

no_slash_in : (a : Addr) → list_any (λ c. c == 47) (addr_text a) ≡ false
unfolding addr_text
no_slash_in a =
    slash_in (decimal (octet a 24)) _ 46 refl (no_slash _ (omega arith))
    (slash_in (decimal (octet a 16)) _ 46 refl (no_slash _ (omega arith))
    (slash_in (decimal (octet a 8)) _ 46 refl (no_slash _ (omega arith)) (no_slash _ (omega arith))))

abbrev is_length : ℕ → Bool
is_length n = option_map_or (λ m. m == n) (number_of 32 (decimal n)) false

lengths : all_below is_length 33 ≡ true
unfolding digits
lengths = refl

-- a prefix that was written, without the bits past its length
pub prefix_back : (p : Prefix) → p.addr.0 < 2 ^ 32 → p.len ≤ 32 →
    prefix_of_text (prefix_text p) ≡ Some (prefix_at p.addr p.len)
unfolding prefix_text
prefix_back p small short =
    rw (cut-append 47 (addr_text p.addr) (decimal p.len) (no_slash_in p.addr))
    (rw (addr_back p.addr small)
    (rw (same_number (number_of 32 (decimal p.len)) p.len (below_at is_length 33 p.len lengths (omega arith))) refl))

-- ---- an address is no word of letters

-- the first byte of an octet is not that of `local`
abbrev begins_plainly : List ℕ → Bool
begins_plainly [] = false
begins_plainly (b ∷ rest) = not (b == 108)

plain_octets : all_below (λ n. begins_plainly (decimal n)) 256 ≡ true
unfolding digits
plain_octets = refl

other_word : (front rest : List ℕ) → begins_plainly front ≡ true → same_text (front ++ rest) (codes "local") ≡ false
other_word [] rest plain = absurd (false≢true plain)
other_word (b ∷ front) rest plain = rw (not-true _ plain) refl

pub not_local : (a : Addr) → same_text (addr_text a) (codes "local") ≡ false
unfolding addr_text
not_local a = other_word (decimal (octet a 24)) _
    (below_at (λ n. begins_plainly (decimal n)) 256 (octet a 24) plain_octets (omega arith))
