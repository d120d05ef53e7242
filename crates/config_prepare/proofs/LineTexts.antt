-- Texts of whole lines: their lines are the pieces of which they are joined.
use Rattle.std.proofs.Common.{◌≡◌, ◌≢◌, ◌+◌, ◌-◌, ◌<◌, ◌≤◌, ◌==◌, ℕ, zero, suc, Bool, true, false, cond, List, []}
use Rattle.std.proofs.Common.{◌∷◌, ◌++◌, length, map, take, drop, refl, sym, ap, subst, ◌∙◌, arith, inr}
use Rattle.std.proofs.Common.{⊎_elim, append-nil, slice_index, length-take, length-drop, length-append, get_or-take}
use Rattle.std.proofs.lemmas.Bool.{cases_lt, eq-eqb, eqb-true}
use Rattle.std.proofs.lemmas.List.{get_or_append_left, get_or-append_right}
use Rattle.std.proofs.lemmas.Slice.Zip.{firsts-zip}
use Rattle.std.specs.List.{flat_map, zip}
use Rattle.bstr.specs.Text.{line_len, lines_of}
use Rattle.bstr.proofs.lemmas.LineLemmas.{line_len-bounds, lines-nil, lines-step, lines-append, lines-one}

-- a line with what ends it: a line feed stands at most at its end
pub record IsLine (piece : List ℕ) : Type 0 where
  pub some : 0 < length piece
  pub one : (k : ℕ) → k + 1 < length piece → slice_index piece k ≢ 10

-- a line feed stands at its end
pub record Ends (piece : List ℕ) : Type 0 where
  pub feed : slice_index piece (length piece - 1) ≡ 10

-- lines of which all but the last end
abbrev pub AreLines : List (List ℕ) → Type 0
AreLines [] = Unit {0}
AreLines (piece ∷ []) = IsLine piece
AreLines (piece ∷ next ∷ rest) = IsLine piece × Ends piece × AreLines (next ∷ rest)

-- ---- the lines of a text are lines

cond_small : (t : Bool) (n : ℕ) → cond t 1 (suc n) ≤ suc n
cond_small true n = omega arith
cond_small false n = omega arith

-- no line feed stands before a line's last byte
line_len-before : (bs : List ℕ) (k : ℕ) → k + 1 < line_len bs → slice_index bs k ≢ 10
unfolding line_len
line_len-before [] k within feed = absurd (omega arith)
line_len-before (b ∷ rest) zero within feed =
    let one : cond (b == 10) 1 (suc (line_len rest)) ≡ 1 =
    ap (λ t. cond t 1 (suc (line_len rest))) (eq-eqb b 10 feed) in
    absurd (omega (arith, one))
line_len-before (b ∷ rest) (suc k) within feed =
    line_len-before rest k (omega (arith, cond_small (b == 10) (line_len rest))) feed

-- the same where a line of so many bytes follows the first byte, by whether that is a line feed
ends_by_test : (b : ℕ) (rest : List ℕ) (n : ℕ) (t : Bool) → b == 10 ≡ t →
    (n < length rest → slice_index rest (n - 1) ≡ 10) → (n < length rest → 0 < n) →
    cond t 1 (suc n) < length (b ∷ rest) → slice_index (b ∷ rest) (cond t 1 (suc n) - 1) ≡ 10
ends_by_test b rest n true is inner some within = eqb-true b 10 is
ends_by_test b rest n false is inner some within =
    let shorter : n < length rest = omega arith in
    let place : suc n - 1 ≡ suc (n - 1) = omega (arith, some shorter) in
    ap (slice_index (b ∷ rest)) place ∙ inner shorter

-- a line that more bytes follow ends in a line feed
line_len-ends : (bs : List ℕ) → line_len bs < length bs → slice_index bs (line_len bs - 1) ≡ 10
unfolding line_len
line_len-ends [] within = absurd (omega arith)
line_len-ends (b ∷ rest) within =
    ends_by_test b rest (line_len rest) (b == 10) refl (line_len-ends rest)
    (λ shorter. (line_len-bounds rest (omega arith)).0) within

-- the first line is one
first_is : (bs : List ℕ) → 0 < length bs → IsLine (take (line_len bs) bs)
first_is bs some = record {
  some = omega (arith, length-take (line_len bs) bs, line_len-bounds bs some);
  one = λ k within feed.
      let below : k + 1 < line_len bs = omega (arith, length-take (line_len bs) bs) in
      line_len-before bs k below (sym (get_or-take (line_len bs) bs k 0 (omega arith)) ∙ feed);
}

-- and ends where more bytes follow
first_ends : (bs : List ℕ) → line_len bs < length bs → Ends (take (line_len bs) bs)
first_ends bs within =
    let bounds = line_len-bounds bs (omega arith) in
    let size : length (take (line_len bs) bs) ≡ line_len bs = omega (arith, length-take (line_len bs) bs) in
    record {
      feed = ap (λ n. slice_index (take (line_len bs) bs) (n - 1)) size
          ∙ get_or-take (line_len bs) bs (line_len bs - 1) 0 (omega arith) ∙ line_len-ends bs within;
    }

are_more : (piece : List ℕ) (rest : List (List ℕ)) → IsLine piece → (0 < length rest → Ends piece) → AreLines rest →
    AreLines (piece ∷ rest)
are_more piece [] is ends are = is
are_more piece (next ∷ rest) is ends are = (is, ends (omega arith), are)

some_lines : (bs : List ℕ) → 0 < length (lines_of bs) → 0 < length bs
some_lines [] some = let none : length (lines_of []) ≡ 0 = ap length lines-nil in absurd (omega (arith, none))
some_lines (b ∷ rest) some = omega arith

lines_are : (fuel : ℕ) (bs : List ℕ) → length bs ≤ fuel → AreLines (lines_of bs)
lines_are fuel [] within = subst AreLines (sym lines-nil) tt
lines_are zero (b ∷ rest) within = absurd (omega arith)
lines_are (suc fuel) (b ∷ rest) within =
    let bs : List ℕ = b ∷ rest in
    let n : ℕ = line_len bs in
    let some : 0 < length bs = omega arith in
    let bounds = line_len-bounds bs some in
    let shorter : length (drop n bs) ≤ fuel = omega (arith, length-drop n bs) in
    subst AreLines (sym (lines-step bs some))
    (are_more (take n bs) (lines_of (drop n bs)) (first_is bs some)
    (λ more. first_ends bs (omega (arith, length-drop n bs, some_lines (drop n bs) more)))
    (lines_are fuel (drop n bs) shorter))

-- the lines of a text
pub are_lines_of : (bs : List ℕ) → AreLines (lines_of bs)
are_lines_of bs = lines_are (length bs) bs (omega arith)

-- ---- joined lines

-- the lines of joined lines are these
pub lines_of-joined : {X : Type 0} (f : X → List ℕ) (xs : List X) → AreLines (map f xs) →
    lines_of (flat_map f xs) ≡ map f xs
lines_of-joined f [] are = lines-nil
lines_of-joined f (x ∷ []) are = ap lines_of (append-nil (f x)) ∙ lines-one (f x) are.some are.one
lines_of-joined f (x ∷ y ∷ rest) are =
    lines-append (length (f x)) (f x) (flat_map f (y ∷ rest)) (omega arith) (inr are.1.feed)
    ∙ ap (λ first. first ++ lines_of (flat_map f (y ∷ rest))) (lines-one (f x) are.0.some are.0.one)
    ∙ ap (λ l. f x ∷ l) (lines_of-joined f (y ∷ rest) are.2)

-- what is made of lines, where each becomes a line that ends where it does
pub are_lines-made : {X : Type 0} (g f : X → List ℕ) (xs : List X) → ((x : X) → IsLine (g x) → IsLine (f x)) →
    ((x : X) → IsLine (g x) → Ends (g x) → Ends (f x)) → AreLines (map g xs) → AreLines (map f xs)
are_lines-made g f [] line ends are = tt
are_lines-made g f (x ∷ []) line ends are = line x are
are_lines-made g f (x ∷ y ∷ rest) line ends are =
    (line x are.0, ends x are.0 are.1, are_lines-made g f (y ∷ rest) line ends are.2)

-- the lines of a text that is made of the lines of another, each by what stands beside it
pub lines_of-made : {Y : Type 0} (f : List ℕ × Y → List ℕ) (bytes : List ℕ) (ys : List Y) →
    length ys ≡ length (lines_of bytes) → ((x : List ℕ × Y) → IsLine x.0 → IsLine (f x)) →
    ((x : List ℕ × Y) → IsLine x.0 → Ends x.0 → Ends (f x)) →
    lines_of (flat_map f (zip (lines_of bytes) ys)) ≡ map f (zip (lines_of bytes) ys)
lines_of-made {Y} f bytes ys fit line ends =
    lines_of-joined f (zip (lines_of bytes) ys)
    (are_lines-made (λ (x : List ℕ × Y). x.0) f (zip (lines_of bytes) ys) line ends
    (subst AreLines (sym (firsts-zip (lines_of bytes) ys fit)) (are_lines_of bytes)))

-- ---- bytes before a line

-- bytes without a line feed before a line make a line
pub before_line : (front piece : List ℕ) → ((k : ℕ) → k < length front → slice_index front k ≢ 10) → IsLine piece →
    IsLine (front ++ piece)
before_line front piece none is = record {
  some = omega (arith, length-append front piece, is.some);
  one = λ k within feed. ⊎_elim
      (λ early. none k early (sym (get_or_append_left front piece 0 k early) ∙ feed))
      (λ late. is.one (k - length front) (omega (arith, length-append front piece))
      (sym (get_or-append_right front piece (length front) k 0 refl late) ∙ feed))
      (cases_lt k (length front));
}

-- which ends where that does
pub before_ends : (front piece : List ℕ) → IsLine piece → Ends piece → Ends (front ++ piece)
before_ends front piece is ends =
    let size = length-append front piece in
    let last : length (front ++ piece) - 1 - length front ≡ length piece - 1 = omega (arith, size, is.some) in
    record {
      feed = get_or-append_right front piece (length front) (length (front ++ piece) - 1) 0 refl
          (omega (arith, size, is.some)) ∙ ap (slice_index piece) last ∙ ends.feed;
    }
