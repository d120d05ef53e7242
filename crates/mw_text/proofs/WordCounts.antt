-- How many words the lines of a text have.
use Rattle.std.proofs.Common.{◌≡◌, ℕ, zero, suc, ◌+◌, ◌<◌, ◌≤◌, ◌^◌, nat_lt, Bool, true, false, cond, List, [], ◌∷◌}
use Rattle.std.proofs.Common.{length, take, drop, filter, map, refl, ap, ◌-◌, arith, length-drop}
use Rattle.std.proofs.lemmas.Bool.{lt-ltb}
use Rattle.std.proofs.lemmas.List.{length-take}
use Rattle.std.proofs.lemmas.List.Elements.{All-cons}
use Rattle.std.specs.List.{All, slice_split, onto_first}
use Rattle.bstr.specs.Text.{lines_from, lines_of, line_len, no_cr, without_terminator}
use Rattle.mw_text.specs.Words.{is_blank, words_in, line_at, numbered, text_lines}

-- how many parts are not empty
full : List (List ℕ) → ℕ
full [] = 0
full ([] ∷ parts) = full parts
full ((b ∷ part) ∷ parts) = suc (full parts)

-- 1 where the first part is not empty
open_part : List (List ℕ) → ℕ
open_part [] = 0
open_part ([] ∷ parts) = 0
open_part ((b ∷ part) ∷ parts) = 1

full-filter : (parts : List (List ℕ)) → length (filter (λ w. nat_lt 0 (length w)) parts) ≡ full parts
unfolding full
full-filter [] = refl
full-filter ([] ∷ parts) = full-filter parts
full-filter ((b ∷ part) ∷ parts) =
    let full_first : nat_lt 0 (suc (length part)) ≡ true = lt-ltb 0 (suc (length part)) (omega arith) in
    rw full_first (ap suc (full-filter parts))

open_part-small : (parts : List (List ℕ)) → open_part parts ≤ 1
unfolding open_part
open_part-small [] = omega arith
open_part-small ([] ∷ parts) = omega arith
open_part-small ((b ∷ part) ∷ parts) = omega arith

-- the parts are few enough for so many bytes
abbrev IsFew : ℕ → List (List ℕ) → Type 0
IsFew n parts = full parts + full parts ≤ n + open_part parts

-- a byte more at the front of the first part
grown : (n b : ℕ) (parts : List (List ℕ)) → IsFew n parts → IsFew (suc n) (onto_first b parts)
unfolding full open_part
grown n b [] h = omega (arith, h)
grown n b ([] ∷ parts) h = omega (arith, h)
grown n b ((c ∷ part) ∷ parts) h = omega (arith, h)

-- a cut more at the front
cut_more : (n : ℕ) (parts : List (List ℕ)) → IsFew n parts → IsFew (suc n) ([] ∷ parts)
unfolding full open_part
cut_more n parts h = omega (arith, h, open_part-small parts)

at_byte : (cut : Bool) (n b : ℕ) (parts : List (List ℕ)) → IsFew n parts →
    IsFew (suc n) (cond cut ([] ∷ parts) (onto_first b parts))
at_byte true n b parts h = cut_more n parts h
at_byte false n b parts h = grown n b parts h

-- between two parts that are not empty stands a byte at which the text is cut
parts_few : (p : ℕ → Bool) (raw : List ℕ) → IsFew (length raw) (slice_split p raw)
unfolding full open_part
parts_few p [] = omega arith
parts_few p (b ∷ raw) = at_byte (p b) (length raw) b (slice_split p raw) (parts_few p raw)

words_few : (raw : List ℕ) → length (words_in raw) + length (words_in raw) ≤ length raw + 1
words_few raw =
    omega (
      arith,
      full-filter (slice_split is_blank raw),
      parts_few is_blank raw,
      open_part-small (slice_split is_blank raw),
    )

take_short : (n most : ℕ) (bs : List ℕ) → length bs ≤ most → length (take n bs) ≤ most
take_short n most bs h = omega (arith, length-take n bs)

cond_short : (b : Bool) (most : ℕ) (xs ys : List ℕ) → length xs ≤ most → length ys ≤ most → length (cond b xs ys) ≤ most
cond_short true most xs ys h k = h
cond_short false most xs ys h k = k

no_cr-short : (most : ℕ) (bs : List ℕ) → length bs ≤ most → length (no_cr bs) ≤ most
no_cr-short most bs h = cond_short _ most _ _ (take_short (length bs - 1) most bs h) h

without_terminator-short : (most : ℕ) (bs : List ℕ) → length bs ≤ most → length (without_terminator bs) ≤ most
without_terminator-short most bs h =
    cond_short _ most _ _ (no_cr-short most _ (take_short (length bs - 1) most bs h)) h

-- each line of a text is no longer than it
lines_from-short : (n most : ℕ) (bs : List ℕ) → length bs ≤ most → All (λ l. length l ≤ most) (lines_from n bs)
unfolding lines_from
lines_from-short zero most bs h = λ k d within. absurd (omega (arith, within))
lines_from-short (suc n) most [] h = λ k d within. absurd (omega (arith, within))
lines_from-short (suc n) most (b ∷ rest) h =
    let all : List ℕ = b ∷ rest in
    let m = line_len all in
    All-cons (λ l. length l ≤ most) (take m all) (lines_from n (drop m all)) (take_short m most all h)
    (lines_from-short n most (drop m all) (omega (arith, length-drop m all)))

-- so its lines have few words
numbered-few : (number most : ℕ) (lines : List (List ℕ)) → All (λ l. length l ≤ most) lines →
    All (λ line. length line.words + length line.words ≤ most + 1) (numbered number (map without_terminator lines))
numbered-few number most [] h = λ k d within. absurd (omega (arith, within))
numbered-few number most (l ∷ lines) h =
    All-cons (λ line. length line.words + length line.words ≤ most + 1)
    (line_at number (without_terminator l)) (numbered (number + 1) (map without_terminator lines))
    (omega (arith, words_few (without_terminator l), without_terminator-short most l (h 0 [] (omega arith))))
    (numbered-few (number + 1) most lines (λ k d within. h (suc k) d (omega (arith, within))))

-- a line of a text of fewer than 2 ^ 32 bytes has fewer words than that, with room for one more
pub lines_few : (bytes : List ℕ) → length bytes < 2 ^ 32
    → All (λ line. length line.words < 2 ^ 32 - 1) (text_lines bytes)
lines_few bytes h = λ k d within.
    omega (
      arith,
      numbered-few 1 (length bytes) (lines_of bytes)
          (lines_from-short (length bytes) (length bytes) bytes (omega arith)) k d within,
    )
