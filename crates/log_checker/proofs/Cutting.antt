-- Lines and the entries that they write.
use Rattle.std.proofs.Common.{◌≡◌, ◌<◌, ◌≤◌, ◌∙◌, refl, ap, sym, arith, ℕ, ◌+◌, Bool, true, false}
use Rattle.std.proofs.Common.{List, [], ◌∷◌, ◌++◌, length, take, drop, get_or, Some, None, nat_lt}
use Rattle.std.specs.Prelude.{position, cond}
use Rattle.std.specs.List.{position_or_len}
use Rattle.std.proofs.lemmas.Bool.{eqb-true, ltb-true, ltb-false}
use Rattle.std.proofs.lemmas.List.Quantifiers.{position-Some}
use Rattle.std.proofs.lemmas.List.Splits.{slice_split_first, slice_split_none}
use Rattle.std.proofs.lemmas.List.Sums.{fails_before_first}
use Rattle.resolution_check.specs.Text.{is_line_feed}
use Rattle.mw_text.proofs.Reading.{split-read}
use Rattle.log_checker.specs.Lines.{pieces}

-- ---- where a line is cut

-- the first line feed ends the first line
pub cut_here : (bytes : List ℕ) (at : ℕ) → position is_line_feed bytes ≡ Some at
    → pieces bytes ≡ take at bytes ∷ pieces (drop (at + 1) bytes)
cut_here bytes at h = here (nat_lt (position_or_len is_line_feed bytes) (length bytes)) refl h
  where
    here : (b : Bool) → nat_lt (position_or_len is_line_feed bytes) (length bytes) ≡ b
        → cond b (Some (position_or_len is_line_feed bytes)) None ≡ Some at
        → pieces bytes ≡ take at bytes ∷ pieces (drop (at + 1) bytes)
    here true e h =
        let same : position_or_len is_line_feed bytes ≡ at = cc in
        slice_split_first is_line_feed bytes 0 (ltb-true _ _ e)
        ∙ ap (λ n. take n bytes ∷ pieces (drop (n + 1) bytes)) same
    here false e h = absurd (cc)

-- without one all is one piece
pub cut_none : (bytes : List ℕ) → position is_line_feed bytes ≡ None → pieces bytes ≡ bytes ∷ []
cut_none bytes h =
    slice_split_none is_line_feed bytes
    (λ k d below. fails_before_first is_line_feed bytes k d
    (far (nat_lt (position_or_len is_line_feed bytes) (length bytes)) refl h k below))
  where
    far : (b : Bool) → nat_lt (position_or_len is_line_feed bytes) (length bytes) ≡ b
        → cond b (Some (position_or_len is_line_feed bytes)) None ≡ None → (k : ℕ) → k < length bytes
        → k < position_or_len is_line_feed bytes
    far true e h k below = absurd (cc)
    far false e h k below = let past : length bytes ≤ position_or_len is_line_feed bytes = ltb-false _ _ e in omega arith

-- what stands before and after it
pub cut_whole : (bytes : List ℕ) (at : ℕ) → position is_line_feed bytes ≡ Some at
    → bytes ≡ take at bytes ++ 10 ∷ drop (at + 1) bytes
cut_whole bytes at h =
    let found = position-Some is_line_feed bytes at 10 h in
    split-read bytes at 10 found.0 (sym (eqb-true (get_or bytes at 10) 10 found.1))
