-- Words, numbers and literals: what is read is what was written.
use Rattle.std.proofs.Common.{◌≡◌, ◌≢◌, refl, sym, ◌∙◌, ap, ap₂, subst, lit<, slice_index, ℕ, ◌+◌, ◌-◌, ◌*◌, ◌^◌, ◌<◌}
use Rattle.std.proofs.Common.{◌≤◌, nat_lt, ◌==◌, Bool, true, false, not, ◌&&◌, cond, List, [], ◌∷◌, length, get_or}
use Rattle.std.proofs.Common.{take, drop, position, Option, Some, None, arith, rules}
use Rattle.std.specs.Bool.{nat_le}
use Rattle.std.specs.Option.{option_map}
use Rattle.std.specs.List.{list_all, fold, All, AllByRecursion, position_or_len, onto_first, join_with_byte}
use Rattle.std.specs.Fmt.{decimal}
use Rattle.std.proofs.Math.Nat.{pow-le-pow_right}
use Rattle.std.proofs.lemmas.Bool.{and_parts, and_from, ltb-true, ltb-false, lt-ltb, leb-true, le-leb, eqb-true}
use Rattle.std.proofs.lemmas.Bool.{eqb-false, ne_eqb, not-true}
use Rattle.std.proofs.lemmas.Fmt.{decimal_digit, decimal_nonempty, first_decimal, length-decimal-le, digits_decimal}
use Rattle.std.proofs.lemmas.Fmt.{digits_value-decimal, decimal-digits_value}
use Rattle.std.proofs.lemmas.Option.{cond_some}
use Rattle.std.proofs.lemmas.List.Sums.{fails_before_first, AllPass-from_list_all}
use Rattle.std.proofs.lemmas.List.Splits.{slice_split_first, slice_split_none, slice_split_at}
use Rattle.std.proofs.lemmas.Str.Parse.{IsNumeralModel, numerals_by_fold}
use Rattle.mw_text.specs.Digits.{is_digit, value_of, is_numeral}
use Rattle.resolution_check.specs.declared.log.Lit.{Lit}
use Rattle.resolution_check.specs.Text.{lit_text, IsNumber, IsSmall}
use Rattle.resolution_check.specs.Words.{is_space, words_in, number_in, lit_with, lit_in, finished}

-- ---- words

-- a text without a space is one word
pub cut_none : (text : List ℕ) → position is_space text ≡ None → words_in text ≡ text ∷ []
cut_none text h =
    slice_split_none is_space text
    (λ k d below. fails_before_first is_space text k d
    (far (nat_lt (position_or_len is_space text) (length text)) refl h k below))
  where
    far : (b : Bool) → nat_lt (position_or_len is_space text) (length text) ≡ b
        → cond b (Some (position_or_len is_space text)) None ≡ None → (k : ℕ) → k < length text
        → k < position_or_len is_space text
    far true e h k below = absurd (cc)
    far false e h k below = let past : length text ≤ position_or_len is_space text = ltb-false _ _ e in omega arith

-- the first space ends the first word
pub cut_here : (text : List ℕ) (at : ℕ) → position is_space text ≡ Some at
    → words_in text ≡ take at text ∷ words_in (drop (at + 1) text)
cut_here text at h = here (nat_lt (position_or_len is_space text) (length text)) refl h
  where
    here : (b : Bool) → nat_lt (position_or_len is_space text) (length text) ≡ b
        → cond b (Some (position_or_len is_space text)) None ≡ Some at
        → words_in text ≡ take at text ∷ words_in (drop (at + 1) text)
    here true e h =
        let same : position_or_len is_space text ≡ at = cc in
        slice_split_first is_space text 0 (ltb-true _ _ e) ∙ ap (λ n. take n text ∷ words_in (drop (n + 1) text)) same
    here false e h = absurd (cc)

-- a place that is found is inside the text
pub at_below : (text : List ℕ) (at : ℕ) → position is_space text ≡ Some at → at < length text
at_below text at h = here (nat_lt (position_or_len is_space text) (length text)) refl h
  where
    here : (b : Bool) → nat_lt (position_or_len is_space text) (length text) ≡ b
        → cond b (Some (position_or_len is_space text)) None ≡ Some at → at < length text
    here true e h =
        let same : position_or_len is_space text ≡ at = cc in subst (λ n. n < length text) same (ltb-true _ _ e)
    here false e h = absurd (cc)

-- a text has a word
pub not_finished : {A : Type 0} (text : List ℕ) (x : A) → finished (words_in text) x ≡ None
not_finished [] x = refl
not_finished (b ∷ text) x = either (is_space b) (words_in text)
  where
    either : (s : Bool) (words : List (List ℕ)) → finished (cond s ([] ∷ words) (onto_first b words)) x ≡ None
    either true words = refl
    either false [] = refl
    either false (word ∷ words) = refl

-- each byte is above the space's, so that the word has no space and no line feed
abbrev pub IsPlain : List ℕ → Type 0
IsPlain word = list_all (nat_lt 32) word ≡ true

no_space : (word : List ℕ) → IsPlain word → All (λ b. is_space b ≡ false) word
no_space word h = λ k d below.
    let above : 32 < get_or word k d =
    ltb-true 32 (get_or word k d) (AllPass-from_list_all (nat_lt 32) word h k d below) in
    ne_eqb (get_or word k d) 32 (omega arith)

-- words that are joined by single spaces are read again
pub words_in-join : (word : List ℕ) (words : List (List ℕ)) → AllByRecursion IsPlain (word ∷ words)
    → words_in (join_with_byte 32 (word ∷ words)) ≡ word ∷ words
words_in-join word [] h = slice_split_none is_space word (no_space word h.0)
words_in-join word (next ∷ words) h =
    slice_split_at is_space word 32 (join_with_byte 32 (next ∷ words)) (no_space word h.0) refl
    ∙ ap (λ ws. word ∷ ws) (words_in-join next words h.1)

-- ---- numbers

-- one digit more fits
pub small_value : (v i n : ℕ) → v + 1 ≤ 10 ^ i → i < n → n ≤ 19 → v * 10 + 10 < 2 ^ 64
small_value v i n h below few =
    let far : i ≤ 18 = omega arith in
    let most : 10 ^ i ≤ 10 ^ 18 = pow-le-pow_right {n = 10} (lit< tt) {i = i} {j = 18} far in
    omega arith

-- numerals by the crate's own test and value
pub own : IsNumeralModel (λ ds. list_all is_digit ds ≡ true) value_of
own =
    numerals_by_fold (λ ds. list_all is_digit ds ≡ true) (search rules) (λ n ds. fold (λ m b. 10 * m + (b - 48)) n ds)
    (search rules)

-- no leading zero, and at most 2^63
bounded : List ℕ → Bool
bounded word = not (slice_index word 0 == 48) && nat_le (value_of word) (2 ^ 63)

-- a word that reads as a number writes it
pub number_in-Some : (word : List ℕ) (n : ℕ) → number_in word ≡ Some n → (word ≡ decimal n) × IsNumber n
unfolding bounded
number_in-Some word n h =
    let read = cond_some (is_numeral 19 word && bounded word) (value_of word) n h in
    let parts = and_parts (is_numeral 19 word) (bounded word) read.0 in
    let size = and_parts (nat_lt 0 (length word)) (nat_le (length word) 19 && list_all is_digit word) parts.0 in
    let digits = and_parts (nat_le (length word) 19) (list_all is_digit word) size.1 in
    let limits = and_parts (not (slice_index word 0 == 48)) (nat_le (value_of word) (2 ^ 63)) parts.1 in
    let first : slice_index word 0 ≢ 48 = eqb-false (slice_index word 0) 48 (not-true _ limits.0) in
    let most : value_of word ≤ 2 ^ 63 = leb-true (value_of word) (2 ^ 63) limits.1 in
    let written : decimal (value_of word) ≡ word =
    decimal-digits_value own word digits.1 (ltb-true 0 (length word) size.0) (λ e. absurd (first e)) (omega arith) in
    let same : word ≡ decimal n = sym written ∙ ap decimal read.1 in (
      same,
      (
        positive n (λ e. first (ap (λ w. slice_index w 0) (same ∙ ap decimal e ∙ decimal_digit 0 (omega arith)))),
        subst (λ m. m ≤ 2 ^ 63) read.1 most,
      ),
    )
  where
    positive : (m : ℕ) → (m ≡ 0 → ⊥) → 0 < m
    positive m h = omega arith

-- a number is read from its numeral
pub number_in-decimal : (n : ℕ) → IsNumber n → number_in (decimal n) ≡ Some n
unfolding bounded
number_in-decimal n h =
    let small : n < 2 ^ 64 = omega arith in
    let value : value_of (decimal n) ≡ n = digits_value-decimal own n small in
    let short : length (decimal n) ≤ 19 = length-decimal-le 19 n (omega arith) (omega arith) small in
    let first : 48 < get_or (decimal n) 0 0 = first_decimal n h.0 small in
    let numeral : is_numeral 19 (decimal n) ≡ true =
    and_from (nat_lt 0 (length (decimal n))) (nat_le (length (decimal n)) 19 && list_all is_digit (decimal n))
    (lt-ltb 0 (length (decimal n)) (decimal_nonempty n small))
    (and_from (nat_le (length (decimal n)) 19) (list_all is_digit (decimal n)) (le-leb (length (decimal n)) 19 short)
    (digits_decimal own n small)) in
    let leads : (slice_index (decimal n) 0 == 48) ≡ false = ne_eqb (slice_index (decimal n) 0) 48 (omega arith) in
    let limits : bounded (decimal n) ≡ true =
    and_from (not (slice_index (decimal n) 0 == 48)) (nat_le (value_of (decimal n)) (2 ^ 63)) (ap not leads)
    (ap (λ m. nat_le m (2 ^ 63)) value ∙ le-leb n (2 ^ 63) h.1) in
    ap (λ b. cond b (Some (value_of (decimal n))) None)
    (and_from (is_numeral 19 (decimal n)) (bounded (decimal n)) numeral limits)
    ∙ ap (λ m. Some m) value

-- ---- literals

-- a number's first byte is no minus sign
starts : (n : ℕ) → IsNumber n → (word : List ℕ) → decimal n ≡ word
    → lit_in word ≡ option_map (lit_with false) (number_in word)
starts n h [] e =
    let long : 0 < length (decimal n) = decimal_nonempty n (omega arith) in absurd (omega (arith, ap length e))
starts n h (b ∷ word) e =
    let first : 48 < get_or (decimal n) 0 0 = first_decimal n h.0 (omega arith) in
    let here : get_or (decimal n) 0 0 ≡ b = ap (λ w. get_or w 0 0) e in
    let no_minus : (b == 45) ≡ false = ne_eqb b 45 (omega arith) in
    ap (λ t. cond t (option_map (lit_with true) (number_in word))
    (option_map (lit_with false) (number_in (b ∷ word)))) no_minus

-- a literal is read from its text
pub lit_in-text : (l : Lit) → IsSmall l → lit_in (lit_text l) ≡ Some l
lit_in-text l h = by_sign l.negated refl
  where
    whole : IsNumber (l.var + 1)
    whole = (omega arith, omega arith)

    back : (b : Bool) → l.negated ≡ b → lit_with b (l.var + 1) ≡ l
    back b e = let same : l.var + 1 - 1 ≡ l.var = omega arith in λ i. record { var = same i; negated = sym e i }

    by_sign : (b : Bool) → l.negated ≡ b → lit_in (cond b (45 ∷ decimal (l.var + 1)) (decimal (l.var + 1))) ≡ Some l
    by_sign true e =
        ap (option_map (lit_with true)) (number_in-decimal (l.var + 1) whole) ∙ ap (λ k. Some k) (back true e)
    by_sign false e =
        starts (l.var + 1) whole (decimal (l.var + 1)) refl
        ∙ ap (option_map (lit_with false)) (number_in-decimal (l.var + 1) whole) ∙ ap (λ k. Some k) (back false e)

lit_from : (negated : Bool) (word : List ℕ) (l : Lit) → option_map (lit_with negated) (number_in word) ≡ Some l
    → (l.negated ≡ negated) × (word ≡ decimal (l.var + 1)) × IsSmall l
lit_from negated word l h = by_number (number_in word) refl h
  where
    by_number : (o : Option ℕ) → number_in word ≡ o → option_map (lit_with negated) o ≡ Some l
        → (l.negated ≡ negated) × (word ≡ decimal (l.var + 1)) × IsSmall l
    by_number None e k = absurd (cc)
    by_number (Some n) e k =
        let read = number_in-Some word n e in
        let same : lit_with negated n ≡ l = cc in
        let var : n - 1 ≡ l.var = ap (λ (m : Lit). m.var) same in
        let next : n ≡ l.var + 1 = omega arith in
        (sym (ap (λ (m : Lit). m.negated) same), read.0 ∙ ap decimal next, omega arith)

-- a word that reads as a literal writes it
pub lit_in-Some : (word : List ℕ) (l : Lit) → lit_in word ≡ Some l → (word ≡ lit_text l) × IsSmall l
lit_in-Some [] l h = absurd (cc)
lit_in-Some (b ∷ word) l h = by_sign (b == 45) refl h
  where
    text : (s : Bool) → l.negated ≡ s → lit_text l ≡ cond s (45 ∷ decimal (l.var + 1)) (decimal (l.var + 1))
    text s e = ap (λ t. cond t (45 ∷ decimal (l.var + 1)) (decimal (l.var + 1))) e

    by_sign : (s : Bool) → (b == 45) ≡ s
        → cond s (option_map (lit_with true) (number_in word)) (option_map (lit_with false) (number_in (b ∷ word)))
        ≡ Some l
        → (b ∷ word ≡ lit_text l) × IsSmall l
    by_sign true e k =
        let read =
        lit_from true word l k in (ap₂ (λ x xs. x ∷ xs) (eqb-true b 45 e) read.1 ∙ sym (text true read.0), read.2)
    by_sign false e k = let read = lit_from false (b ∷ word) l k in (read.1 ∙ sym (text false read.0), read.2)
