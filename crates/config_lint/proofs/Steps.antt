-- The search for refusals, one after another.
use Rattle.std.proofs.Common.{◌≡◌, ◌≢◌, ℕ, zero, suc, ◌+◌, ◌-◌, ◌<◌, ◌≤◌, ◌||◌, ◌&&◌, ◌==◌, Bool, true, false, List, [], ◌∷◌}
use Rattle.std.proofs.Common.{◌++◌, length, map, get_or, Option, Some, Ok, Err, refl, ap, sym, subst, ◌∙◌, arith}
use Rattle.std.proofs.Common.{append_assoc, append-nil, eq-eqb, drop, nat_lt, nat_le, None}
use Rattle.std.specs.Prelude.{IsOk, MatchOption}
use Rattle.std.proofs.lemmas.Bool.{false_from_ne_true}
use Rattle.std.proofs.lemmas.List.{length-map}
use Rattle.std.proofs.lemmas.Option.{get_or_from_slice_get, slice_get-get_or}
use Rattle.std.specs.Borrow.{Bor}
use Rattle.std.specs.List.{slice_get, zip}
use Rattle.bstr.specs.Text.{lines_of as pieces_in, without_terminator}
use Rattle.mw_text.specs.declared.words.Line.{Line}
use Rattle.mw_text.specs.Words.{is_skipped, line_at, numbered, text_lines}
use Rattle.ios_policy_reader.specs.declared.cause.Refused.{Refused}
use Rattle.ios_reader.specs.Drafts.{empty_draft}
use Rattle.ios_reader.specs.Reading.{reading}
use Rattle.config_prepare.proofs.Steps.{length-text_lines}
use Rattle.config_lint.specs.Asides.{asides, block_size, cut_line, cut_lines, EachGoesWith, goes_with}
use Rattle.config_lint.specs.Asides.{is_of_neighbour, unset, without, with_line}
use Rattle.config_lint.specs.Listed.{AreListed, is_last, Notes}
use Rattle.config_lint.proofs.Cuts.{cut_within, lines_of-cut}
use Rattle.config_lint.proofs.Marks.{asides_more, length-asides, unset_less, with_is}
use Rattle.config_lint.proofs.Refusals.{map_at, numbered_at, refusal_says, Says, zip_at}

-- ---- a line that is refused is not left aside

-- an empty line says nothing
empty_skipped : (n : ℕ) → is_skipped (line_at n (without_terminator (cut_line ([], true)))).words ≡ true
empty_skipped n = refl

cut_skipped : (n : ℕ) (pair : List ℕ × Bool) → pair.1 ≡ true →
    is_skipped (line_at n (without_terminator (cut_line pair))).words ≡ true
cut_skipped n (piece, true) is = refl
cut_skipped n (piece, false) is = absurd (let h : false ≡ true = is in cc)

-- the sign of a line that is refused is not set
pub record Unset (flags : List Bool) (number : ℕ) : Type 0 where
  pub at : ℕ
  pub named : number ≡ 1 + at
  pub found : slice_get flags at ≡ Some false

says_unset : (bytes : List ℕ) (flags : List Bool) (number : ℕ) → length flags ≡ length (pieces_in bytes) →
    Says (text_lines (cut_lines (pieces_in bytes) flags)) number → Unset flags number
says_unset bytes flags number fit it =
    let pairs : List (List ℕ × Bool) = zip (pieces_in bytes) flags in
    let raws : List (List ℕ) = map without_terminator (map cut_line pairs) in
    let same : text_lines (cut_lines (pieces_in bytes) flags) ≡ numbered 1 raws =
    ap (λ pieces. numbered 1 (map without_terminator pieces)) (lines_of-cut bytes flags fit) in
    let there_is : slice_get (numbered 1 raws) it.at ≡ Some it.line = ap (λ l. slice_get l it.at) (sym same) ∙ it.found in
    let line = numbered_at 1 raws it.at it.line there_is in
    let piece = map_at without_terminator (map cut_line pairs) it.at line.0 line.1 in
    let pair = map_at cut_line pairs it.at piece.0 piece.1 in
    let raw_is : line.0 ≡ without_terminator (cut_line pair.0) = piece.2 ∙ ap without_terminator pair.2 in
    let not_set : pair.0.1 ≡ true → ⊥ = λ set.
    let skipped : is_skipped it.line.words ≡ true =
    ap (λ (l : Line). is_skipped l.words) (line.2 ∙ ap (line_at (1 + it.at)) raw_is) ∙ cut_skipped (1 + it.at) pair.0 set in
    let h : false ≡ true = sym it.says ∙ skipped in cc in
    record {
      at = it.at;
      named = sym it.named ∙ ap (λ (l : Line). l.number) line.2;
      found = zip_at (pieces_in bytes) flags it.at pair.0 pair.1 ∙ ap Some (false_from_ne_true pair.0.1 not_set);
    }

fits : (bytes : List ℕ) (told : List Refused) →
    length (asides (text_lines bytes) told) ≡ length (pieces_in bytes)
fits bytes told = length-asides (text_lines bytes) told ∙ length-text_lines bytes

-- where a text is refused, but not as a whole
pub refused_unset : (bytes : List ℕ) (told : List Refused) (refused : Refused) →
    reading (without bytes told) ≡ Err refused → is_last refused ≡ false →
    Unset (asides (text_lines bytes) told) refused.line
refused_unset bytes told refused so last =
    says_unset bytes (asides (text_lines bytes) told) refused.line (fits bytes told)
    (refusal_says empty_draft (text_lines (without bytes told)) refused so last)

found_within : {X : Type 0} (xs : List X) (k : ℕ) (x : X) → slice_get xs k ≡ Some x → k < length xs
found_within [] k x found = absurd cc
found_within (y ∷ rest) zero x found = omega arith
found_within (y ∷ rest) (suc k) x found = omega (arith, found_within rest k x found)

-- its number is one of a line
pub unset_within : (lines : List Line) (told : List Refused) (number : ℕ) → Unset (asides lines told) number →
    (0 < number) × (number ≤ length lines)
unset_within lines told number it =
    let within = found_within (asides lines told) it.at false it.found in
    let size = length-asides lines told in
    (omega (arith, it.named), omega (arith, it.named, within, size))

or_true : (b : Bool) → b || true ≡ true
or_true true = refl
or_true false = refl

with_itself : (line other : Line) (n end k : ℕ) → k ≡ n → with_line line n end other k ≡ true
with_itself line other n end k same =
    ap (λ b. b || nat_lt n k && (nat_le k end || is_of_neighbour line other)) (eq-eqb k n same)

goes_itself : (lines : List Line) (k : ℕ) → k < length lines → (line : Line) → goes_with lines (1 + k) (k + 1) ≡ true
goes_itself lines k within line =
    let first : slice_get lines (1 + k - 1) ≡ Some (get_or lines k line) =
    ap (slice_get lines) (number k) ∙ slice_get-get_or lines k line within in
    with_is lines (1 + k) k (get_or lines k line) (get_or lines k line) first (slice_get-get_or lines k line within)
    ∙ with_itself (get_or lines k line) (get_or lines k line) (1 + k)
    (1 + k + block_size (get_or lines k line) (drop (1 + k) lines)) (k + 1) (omega arith) where
      number : (k : ℕ) → 1 + k - 1 ≡ k
      number k = omega arith

-- when its lines are left aside, fewer are left
pub unset_falls : (lines : List Line) (told : List Refused) (number : ℕ) (old new : List Bool) →
    old ≡ asides lines told → length new ≡ length old → EachGoesWith lines number old new →
    Unset (asides lines told) number → unset new < unset old
unset_falls lines told number old new is fit each it =
    let size : length old ≡ length lines = ap length is ∙ length-asides lines told in
    let within = found_within (asides lines told) it.at false it.found in
    let inside : it.at < length lines = omega (arith, within, length-asides lines told) in
    let was : get_or old it.at false ≡ false =
    ap (λ l. get_or l it.at false) is ∙ get_or_from_slice_get (asides lines told) it.at false false it.found in
    let goes : goes_with lines number (it.at + 1) ≡ true =
    ap (λ n. goes_with lines n (it.at + 1)) it.named ∙ goes_itself lines it.at inside (line_at 0 []) in
    unset_less old new it.at fit
    (λ j inner set. each j (omega (arith, size)) ∙ ap (λ b. b || goes_with lines number (j + 1)) set)
    (omega (arith, size)) was
    (each it.at inside ∙ ap (λ b. get_or old it.at false || b) goes ∙ or_true (get_or old it.at false))

-- ---- the list

pub listed_none : (bytes : List ℕ) (before : List Refused) → IsOk (reading (without bytes before)) →
    AreListed bytes before []
unfolding AreListed
listed_none bytes before taken = taken

pub listed_last : (bytes : List ℕ) (before : List Refused) (refused : Refused) →
    reading (without bytes before) ≡ Err refused → is_last refused ≡ true → AreListed bytes before (refused ∷ [])
unfolding AreListed
listed_last bytes before refused so last = (so, rw last refl)

pub listed_more : (bytes : List ℕ) (before : List Refused) (refused : Refused) (rest : List Refused) →
    reading (without bytes before) ≡ Err refused → is_last refused ≡ false →
    AreListed bytes (before ++ refused ∷ []) rest → AreListed bytes before (refused ∷ rest)
unfolding AreListed
listed_more bytes before refused rest so last later = (so, rw last later)

-- ---- one step

pub note_within : (bytes : List ℕ) (lines : List Line) (told : List Refused) (refused : Refused) →
    lines ≡ text_lines bytes → reading (without bytes told) ≡ Err refused → is_last refused ≡ false →
    (0 < refused.line) × (refused.line ≤ length lines)
note_within bytes lines told refused are so last =
    subst (λ (l : List Line). (0 < refused.line) × (refused.line ≤ length l)) (sym are)
    (unset_within (text_lines bytes) told refused.line (refused_unset bytes told refused so last))

pub note_fits : (lines : List Line) (told : List Refused) (old : List Bool) → old ≡ asides lines told →
    length old ≡ length lines
note_fits lines told old is = ap length is ∙ length-asides lines told

-- the search goes on
pub note_goes : (bytes : List ℕ) (lines : List Line) (told now : List Refused) (refused : Refused)
    (old new : List Bool) → lines ≡ text_lines bytes → old ≡ asides lines told →
    reading (without bytes told) ≡ Err refused → is_last refused ≡ false → now ≡ told ++ refused ∷ [] →
    length new ≡ length old → EachGoesWith lines refused.line old new → Notes bytes told now old new true
note_goes bytes lines told now refused old new are is so last noted fit each =
    let it : Unset (asides lines told) refused.line =
    subst (λ (l : List Line). Unset (asides l told) refused.line) (sym are) (refused_unset bytes told refused so last) in (
      refused,
      noted,
      so,
      last,
      asides_more lines told refused old new is fit each
          ∙ ap (λ (l : List Line). asides l (told ++ refused ∷ [])) are ∙ ap (asides (text_lines bytes)) (sym noted),
      unset_falls lines told refused.line old new is fit each it,
    )

-- or ends with the last refusal
pub note_ends : (bytes : List ℕ) (told now : List Refused) (refused : Refused) (old new : List Bool) →
    reading (without bytes told) ≡ Err refused → is_last refused ≡ true → now ≡ told ++ refused ∷ [] →
    Notes bytes told now old new false
note_ends bytes told now refused old new so last noted = (refused ∷ [], noted, listed_last bytes told refused so last)

-- or with none
pub note_none : (bytes : List ℕ) (told : List Refused) (old new : List Bool) → IsOk (reading (without bytes told)) →
    Notes bytes told told old new false
note_none bytes told old new taken = ([], sym (append-nil told), listed_none bytes told taken)

-- the text without what is left aside, by borrowed pieces
pub without_is : (bytes : List ℕ) (lines : List Line) (pieces : List (Bor (List ℕ))) (flags : List Bool)
    (told : List Refused) → lines ≡ text_lines bytes → map (λ p. p.now) pieces ≡ pieces_in bytes →
    flags ≡ asides lines told → cut_lines (map (λ p. p.now) pieces) flags ≡ without bytes told
without_is bytes lines pieces flags told are are_pieces is =
    ap (λ l. cut_lines l flags) are_pieces ∙ ap (cut_lines (pieces_in bytes)) is
    ∙ ap (λ (l : List Line). cut_lines (pieces_in bytes) (asides l told)) are

pub without_small : (bytes : List ℕ) (lines : List Line) (pieces : List (Bor (List ℕ))) (flags : List Bool)
    (told : List Refused) → lines ≡ text_lines bytes → map (λ p. p.now) pieces ≡ pieces_in bytes →
    flags ≡ asides lines told → length (cut_lines (map (λ p. p.now) pieces) flags) ≤ length bytes
without_small bytes lines pieces flags told are are_pieces is =
    subst (λ l. length (cut_lines l flags) ≤ length bytes) (sym are_pieces) (cut_within bytes flags)

pub pieces_fit : (bytes : List ℕ) (lines : List Line) (pieces : List (Bor (List ℕ))) (flags : List Bool)
    (told : List Refused) → lines ≡ text_lines bytes → map (λ p. p.now) pieces ≡ pieces_in bytes →
    flags ≡ asides lines told → length pieces ≡ length flags
pieces_fit bytes lines pieces flags told are are_pieces is =
    sym (length-map pieces (λ (p : Bor (List ℕ)). p.now)) ∙ ap length are_pieces ∙ sym (length-text_lines bytes)
    ∙ ap length (sym are) ∙ sym (note_fits lines told flags is)

-- ---- the whole list

-- what the rest of the list makes of the whole
abbrev pub Goes : List ℕ → List Refused → Type 0
Goes bytes told = (rest : List Refused) → AreListed bytes told rest → AreListed bytes [] (told ++ rest)

pub goes_none : (bytes : List ℕ) → Goes bytes []
goes_none bytes rest listed = listed

pub goes_more : (bytes : List ℕ) (told now : List Refused) (old new : List Bool) → Goes bytes told →
    Notes bytes told now old new true → Goes bytes now
goes_more bytes told now old new so_far (refused, noted, so, last, signs, less) rest listed =
    let from : AreListed bytes (told ++ refused ∷ []) rest =
    subst (λ l. AreListed bytes l rest) noted listed in
    subst (AreListed bytes []) (sym (append_assoc told (refused ∷ []) rest) ∙ ap (λ l. l ++ rest) (sym noted))
    (so_far (refused ∷ rest) (listed_more bytes told refused rest so last from))

pub goes_done : (bytes : List ℕ) (told now : List Refused) (old new : List Bool) → Goes bytes told →
    Notes bytes told now old new false → AreListed bytes [] now
goes_done bytes told now old new so_far (rest, noted, listed) =
    subst (AreListed bytes []) (sym noted) (so_far rest listed)

-- what a step leaves of the signs
pub signs_after : (bytes : List ℕ) (told now : List Refused) (old new : List Bool) →
    Notes bytes told now old new true → new ≡ asides (text_lines bytes) now
signs_after bytes told now old new (refused, noted, so, last, signs, less) = signs

pub less_after : (bytes : List ℕ) (told now : List Refused) (old new : List Bool) →
    Notes bytes told now old new true → unset new < unset old
less_after bytes told now old new (refused, noted, so, last, signs, less) = less

-- a step that goes on
pub step_more : (bytes : List ℕ) (told now : List Refused) (old new : List Bool) (goes_on : Bool) → Goes bytes told →
    goes_on ≡ true → Notes bytes told now old new goes_on → (new ≡ asides (text_lines bytes) now) × Goes bytes now
step_more bytes told now old new true so_far is notes =
    (signs_after bytes told now old new notes, goes_more bytes told now old new so_far notes)
step_more bytes told now old new false so_far is notes = absurd (let h : false ≡ true = is in cc)

pub step_less : (bytes : List ℕ) (told now : List Refused) (old new : List Bool) (goes_on : Bool) → goes_on ≡ true →
    Notes bytes told now old new goes_on → unset new < unset old
step_less bytes told now old new true is notes = less_after bytes told now old new notes
step_less bytes told now old new false is notes = absurd (let h : false ≡ true = is in cc)

-- and one that ends the search
pub step_done : (bytes : List ℕ) (told now : List Refused) (old new : List Bool) (goes_on : Bool) → Goes bytes told →
    goes_on ≡ false → Notes bytes told now old new goes_on → AreListed bytes [] now
step_done bytes told now old new false so_far is notes = goes_done bytes told now old new so_far notes
step_done bytes told now old new true so_far is notes = absurd (let h : true ≡ false = is in cc)

-- where no refusal was found
pub taken_none : (bytes : List ℕ) (lines : List Line) (pieces : List (Bor (List ℕ))) (flags : List Bool)
    (told : List Refused) (found : Option Refused) → lines ≡ text_lines bytes →
    map (λ p. p.now) pieces ≡ pieces_in bytes → flags ≡ asides lines told → found ≡ None →
    MatchOption found (IsOk (reading (cut_lines (map (λ p. p.now) pieces) flags)))
    (λ refused. reading (cut_lines (map (λ p. p.now) pieces) flags) ≡ Err refused) → IsOk (reading (without bytes told))
taken_none bytes lines pieces flags told None are are_pieces is none found =
    subst (λ text. IsOk (reading text)) (without_is bytes lines pieces flags told are are_pieces is) found
taken_none bytes lines pieces flags told (Some refused) are are_pieces is none found =
    absurd (let h : Some refused ≡ None = none in cc)

-- and where one was
pub found_some : (bytes : List ℕ) (lines : List Line) (pieces : List (Bor (List ℕ))) (flags : List Bool)
    (told : List Refused) (found : Option Refused) (refused : Refused) → lines ≡ text_lines bytes →
    map (λ p. p.now) pieces ≡ pieces_in bytes → flags ≡ asides lines told → found ≡ Some refused →
    MatchOption found (IsOk (reading (cut_lines (map (λ p. p.now) pieces) flags)))
    (λ r. reading (cut_lines (map (λ p. p.now) pieces) flags) ≡ Err r) → reading (without bytes told) ≡ Err refused
found_some bytes lines pieces flags told None refused are are_pieces is some found =
    absurd (let h : None ≡ Some refused = some in cc)
found_some bytes lines pieces flags told (Some r) refused are are_pieces is some found =
    let same : r ≡ refused = cc in
    ap reading (sym (without_is bytes lines pieces flags told are are_pieces is)) ∙ found ∙ ap (λ x. Err x) same
