-- One line, one piece, one kind after another.
use Rattle.std.proofs.Common.{◌≡◌, ℕ, suc, ◌+◌, ◌<◌, ◌≤◌, true, List, [], ◌∷◌, ◌++◌, length, drop, get_or, Option, refl, ap}
use Rattle.std.proofs.Common.{sym, ◌∙◌, append_assoc, append-nil, arith, map}
use Rattle.std.proofs.lemmas.List.{drop_all, get_or-map, length-map}
use Rattle.std.specs.Borrow.{Bor}
use Rattle.mw_text.specs.declared.words.Line.{Line}
use Rattle.mw_text.specs.Words.{numbered, text_lines}
use Rattle.mw_text.proofs.Lists.{drop-read}
use Rattle.mw_text.proofs.Found.{get_or-any}
use Rattle.bstr.specs.Text.{lines_of as pieces_in, without_terminator}
use Rattle.ios_policy_reader.specs.Heads.{is_over}
use Rattle.config_prepare.specs.declared.kinds.Kind.{Kind}
use Rattle.config_prepare.specs.declared.places.Place.{Place}
use Rattle.config_prepare.specs.Kinds.{begins}
use Rattle.config_prepare.specs.Places.{at_start, left_out_by, left_out_from, marks_in, place_after}
use Rattle.config_prepare.specs.Prepared.{out_line, prepared_lines, row_text, rows_from}

-- a head without words begins all words
pub begins_over : (head : List ℕ) (words : List (List ℕ)) → is_over head ≡ true → begins head words ≡ true
begins_over head [] over = over
begins_over head (word ∷ rest) over = rw over refl

-- what is appended to the first items of a line of values, and the values of the rest
shifted : {X : Type 0} (front : List X) (x : X) (rest : List X) → front ++ x ∷ rest ≡ (front ++ x ∷ []) ++ rest
shifted front x rest = sym (append_assoc front (x ∷ []) rest)

-- the mark of one line more
pub marks_step : (place : Place) (lines : List Line) (i : ℕ) (line : Line) (marks : List (Option ℕ)) → i < length lines
    → line ≡ get_or lines i line → marks ++ left_out_from place (drop i lines)
    ≡ (marks ++ left_out_by place line ∷ []) ++ left_out_from (place_after place line) (drop (i + 1) lines)
unfolding left_out_from
marks_step place lines i line marks within is =
    ap (λ rest. marks ++ left_out_from place rest) (drop-read lines i line within is)
    ∙ shifted marks (left_out_by place line) (left_out_from (place_after place line) (drop (i + 1) lines))

-- no line is left
pub marks_done : (place : Place) (lines : List Line) (i : ℕ) (marks : List (Option ℕ)) → length lines ≤ i →
    marks ++ left_out_from place (drop i lines) ≡ marks
unfolding left_out_from
marks_done place lines i marks done =
    ap (λ rest. marks ++ left_out_from place rest) (drop_all i lines done) ∙ append-nil marks

-- one piece more
pub lines_step : (pieces : List (List ℕ)) (marks : List (Option ℕ)) (i : ℕ) (piece : List ℕ) (mark : Option ℕ)
    (text : List ℕ) → i < length pieces → i < length marks → piece ≡ get_or pieces i piece → mark ≡ get_or marks i mark
    → text ++ prepared_lines (drop i pieces) (drop i marks)
    ≡ (text ++ out_line mark piece) ++ prepared_lines (drop (i + 1) pieces) (drop (i + 1) marks)
lines_step pieces marks i piece mark text within_pieces within_marks is_piece is_mark =
    ap (λ rest. text ++ prepared_lines rest (drop i marks)) (drop-read pieces i piece within_pieces is_piece)
    ∙ ap (λ rest. text ++ prepared_lines (piece ∷ drop (i + 1) pieces) rest) (drop-read marks i mark within_marks is_mark)
    ∙ sym (append_assoc text (out_line mark piece) (prepared_lines (drop (i + 1) pieces) (drop (i + 1) marks)))

-- the same of pieces that are borrowed
pub borrowed_step : (pieces : List (Bor (List ℕ))) (marks : List (Option ℕ)) (i : ℕ) (piece : Bor (List ℕ))
    (mark : Option ℕ) (text : List ℕ) → i < length pieces → i < length marks → piece ≡ get_or pieces i piece →
    mark ≡ get_or marks i mark → text ++ prepared_lines (drop i (map (λ p. p.now) pieces)) (drop i marks)
    ≡ (text ++ out_line mark piece.now)
    ++ prepared_lines (drop (i + 1) (map (λ p. p.now) pieces)) (drop (i + 1) marks)
borrowed_step pieces marks i piece mark text within_pieces within_marks is_piece is_mark =
    lines_step (map (λ p. p.now) pieces) marks i piece.now mark text
    (omega (arith, within_pieces, length-map pieces (λ (p : Bor (List ℕ)). p.now))) within_marks
    (ap (λ (p : Bor (List ℕ)). p.now) is_piece ∙ sym (get_or-map (λ p. p.now) pieces i piece piece.now within_pieces))
    is_mark

-- the same of what stands at a place, which is appended
pub lines_next : (pieces : List (Bor (List ℕ))) (marks : List (Option ℕ)) (i : ℕ) (text new : List ℕ)
    (d : Bor (List ℕ)) (e : Option ℕ) → i < length pieces → i < length marks →
    new ≡ text ++ out_line (get_or marks i e) (get_or pieces i d).now →
    new ++ prepared_lines (drop (i + 1) (map (λ p. p.now) pieces)) (drop (i + 1) marks)
    ≡ text ++ prepared_lines (drop i (map (λ p. p.now) pieces)) (drop i marks)
lines_next pieces marks i text new d e within_pieces within_marks more =
    ap (λ t. t ++ prepared_lines (drop (i + 1) (map (λ (p : Bor (List ℕ)). p.now) pieces)) (drop (i + 1) marks)) more
    ∙ sym (borrowed_step pieces marks i (get_or pieces i d) (get_or marks i e) text within_pieces within_marks
    (get_or-any pieces i d (get_or pieces i d) within_pieces) (get_or-any marks i e (get_or marks i e) within_marks))

-- no piece or no mark is left
pub lines_done : (pieces : List (List ℕ)) (marks : List (Option ℕ)) (i : ℕ) (text : List ℕ) → length pieces ≤ i →
    text ++ prepared_lines (drop i pieces) (drop i marks) ≡ text
lines_done pieces marks i text done =
    ap (λ rest. text ++ prepared_lines rest (drop i marks)) (drop_all i pieces done) ∙ append-nil text

-- the row of one kind more
pub rows_step : (marks : List (Option ℕ)) (kinds : List Kind) (i : ℕ) (kind : Kind) (text : List ℕ) → i < length kinds
    → kind ≡ get_or kinds i kind → text ++ rows_from marks i (drop i kinds)
    ≡ (text ++ row_text marks i kind) ++ rows_from marks (i + 1) (drop (i + 1) kinds)
unfolding rows_from
rows_step marks kinds i kind text within is =
    ap (λ rest. text ++ rows_from marks i rest) (drop-read kinds i kind within is)
    ∙ sym (append_assoc text (row_text marks i kind) (rows_from marks (i + 1) (drop (i + 1) kinds)))

-- the same of the kind at a place, whose row is appended
pub rows_next : (marks : List (Option ℕ)) (kinds : List Kind) (i : ℕ) (text row new : List ℕ) (d : Kind) →
    i < length kinds → row ≡ row_text marks i (get_or kinds i d) → new ≡ text ++ row →
    new ++ rows_from marks (i + 1) (drop (i + 1) kinds) ≡ text ++ rows_from marks i (drop i kinds)
rows_next marks kinds i text row new d within is more =
    ap (λ l. l ++ rows_from marks (i + 1) (drop (i + 1) kinds)) (more ∙ ap (λ r. text ++ r) is)
    ∙ sym (rows_step marks kinds i (get_or kinds i d) text within (get_or-any kinds i d (get_or kinds i d) within))

-- no kind is left
pub rows_done : (marks : List (Option ℕ)) (kinds : List Kind) (i : ℕ) (text : List ℕ) → length kinds ≤ i →
    text ++ rows_from marks i (drop i kinds) ≡ text
unfolding rows_from
rows_done marks kinds i text done =
    ap (λ rest. text ++ rows_from marks i rest) (drop_all i kinds done) ∙ append-nil text

-- ---- lengths

length-left_out_from : (place : Place) (lines : List Line) → length (left_out_from place lines) ≡ length lines
unfolding left_out_from
length-left_out_from place [] = refl
length-left_out_from place (line ∷ rest) = ap suc (length-left_out_from (place_after place line) rest)

length-numbered : (n : ℕ) (raws : List (List ℕ)) → length (numbered n raws) ≡ length raws
length-numbered n [] = refl
length-numbered n (raw ∷ rest) = ap suc (length-numbered (n + 1) rest)

-- a text has as many lines as pieces
pub length-text_lines : (bytes : List ℕ) → length (text_lines bytes) ≡ length (pieces_in bytes)
length-text_lines bytes =
    length-numbered 1 (map without_terminator (pieces_in bytes)) ∙ length-map (pieces_in bytes) without_terminator

-- and as many marks
pub length-marks_in : (bytes : List ℕ) → length (marks_in bytes) ≡ length (pieces_in bytes)
length-marks_in bytes = length-left_out_from at_start (text_lines bytes) ∙ length-text_lines bytes

pub marks_fit : (bytes : List ℕ) (pieces : List (Bor (List ℕ))) (marks : List (Option ℕ)) →
    map (λ p. p.now) pieces ≡ pieces_in bytes → marks ≡ marks_in bytes → length pieces ≡ length marks
marks_fit bytes pieces marks are_pieces are_marks =
    sym (length-map pieces (λ (p : Bor (List ℕ)). p.now)) ∙ ap length are_pieces ∙ sym (length-marks_in bytes)
    ∙ ap length (sym are_marks)
