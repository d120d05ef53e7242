-- Each line of a text that is made ready.
use Rattle.std.proofs.Common.{◌≡◌, ◌≢◌, ℕ, zero, suc, List, [], ◌∷◌, length, map, take, refl, sym, ap, ◌∙◌}
use Rattle.std.proofs.Common.{Option, Some, None, arith, slice_index, codes, fold, true, not, ◌==◌}
use Rattle.std.proofs.lemmas.Bool.{and_parts, eq-eqb, false≢true}
use Rattle.std.proofs.lemmas.List.{length-map}
use Rattle.std.proofs.lemmas.Slice.Zip.{length-zip}
use Rattle.std.specs.List.{list_all, slice_get, zip}
use Rattle.bstr.specs.Text.{lines_of as pieces_in}
use Rattle.mw_text.specs.declared.words.Line.{Line}
use Rattle.mw_text.specs.Words.{text_lines}
use Rattle.config_prepare.specs.declared.places.Place.{Place}
use Rattle.config_prepare.specs.Places.{at_start, left_out_by, left_out_from, marks_in, place_after}
use Rattle.config_prepare.specs.Prepared.{out_line, prepared}
use Rattle.config_prepare.specs.Laws.{place_at}
use Rattle.config_prepare.proofs.LineTexts.{IsLine, Ends, lines_of-made, before_line, before_ends}
use Rattle.config_prepare.proofs.Steps.{length-marks_in}

-- a text that has no line feed has none at a place
no_feed : (text : List ℕ) → list_all (λ b. not (b == 10)) text ≡ true → (k : ℕ) → slice_index text k ≢ 10
no_feed [] none k feed = cc
no_feed (b ∷ rest) none zero feed =
    let passes : not (b == 10) ≡ true = (and_parts (not (b == 10)) (list_all (λ x. not (x == 10)) rest) none).0 in
    let is : b == 10 ≡ true = eq-eqb b 10 feed in
    absurd (false≢true (sym (ap not is) ∙ passes))
no_feed (b ∷ rest) none (suc k) feed =
    no_feed rest (and_parts (not (b == 10)) (list_all (λ x. not (x == 10)) rest) none).1 k feed

out_is : (pair : List ℕ × Option ℕ) → IsLine pair.0 → IsLine (out_line pair.1 pair.0)
out_is (piece, None) is = is
out_is (piece, Some at) is = before_line (codes "! left out: ") piece (λ k within. no_feed (codes "! left out: ") refl k) is

out_ends : (pair : List ℕ × Option ℕ) → IsLine pair.0 → Ends pair.0 → Ends (out_line pair.1 pair.0)
out_ends (piece, None) is ends = ends
out_ends (piece, Some at) is ends = before_ends (codes "! left out: ") piece is ends

-- the lines of a text that is made ready
pub lines_of-prepared : (bytes : List ℕ) →
    pieces_in (prepared bytes) ≡ map (λ pair. out_line pair.1 pair.0) (zip (pieces_in bytes) (marks_in bytes))
lines_of-prepared bytes =
    lines_of-made (λ pair. out_line pair.1 pair.0) bytes (marks_in bytes) (length-marks_in bytes) out_is out_ends

-- there are as many
pub prepared_count : (bytes : List ℕ) → length (pieces_in (prepared bytes)) ≡ length (pieces_in bytes)
prepared_count bytes =
    ap length (lines_of-prepared bytes)
    ∙ length-map (zip (pieces_in bytes) (marks_in bytes)) (λ (pair : List ℕ × Option ℕ). out_line pair.1 pair.0)
    ∙ length-zip (pieces_in bytes) (marks_in bytes) ∙ omega (arith, length-marks_in bytes)

-- the mark of a line is by where it stands
mark_at : (place : Place) (lines : List Line) (k : ℕ) (line : Line) → slice_get lines k ≡ Some line →
    slice_get (left_out_from place lines) k ≡ Some (left_out_by (fold place_after place (take k lines)) line)
unfolding left_out_from
mark_at place [] k line there = absurd cc
mark_at place (first ∷ rest) zero line there =
    let same : first ≡ line = cc in ap (λ l. Some (left_out_by place l)) same
mark_at place (first ∷ rest) (suc k) line there = mark_at (place_after place first) rest k line there

-- an item of two lists beside one another
beside : (lines : List (List ℕ)) (marks : List (Option ℕ)) (k : ℕ) (piece : List ℕ) (mark : Option ℕ) →
    slice_get lines k ≡ Some piece → slice_get marks k ≡ Some mark →
    slice_get (map (λ (pair : List ℕ × Option ℕ). out_line pair.1 pair.0) (zip lines marks)) k
    ≡ Some (out_line mark piece)
beside [] marks k piece mark there marked = absurd cc
beside (first ∷ lines) [] k piece mark there marked = absurd cc
beside (first ∷ lines) (by ∷ marks) zero piece mark there marked =
    let same : first ≡ piece = cc in let so : by ≡ mark = cc in
    ap (λ p. Some (out_line by p)) same ∙ ap (λ m. Some (out_line m piece)) so
beside (first ∷ lines) (by ∷ marks) (suc k) piece mark there marked = beside lines marks k piece mark there marked

pub prepared_each : (bytes : List ℕ) (k : ℕ) (line : Line) (piece : List ℕ) → slice_get (text_lines bytes) k ≡ Some line →
    slice_get (pieces_in bytes) k ≡ Some piece → slice_get (pieces_in (prepared bytes)) k
    ≡ Some (out_line (left_out_by (place_at (text_lines bytes) k) line) piece)
prepared_each bytes k line piece there is =
    ap (λ l. slice_get l k) (lines_of-prepared bytes)
    ∙ beside (pieces_in bytes) (marks_in bytes) k piece (left_out_by (place_at (text_lines bytes) k) line) is
    (mark_at at_start (text_lines bytes) k line there)
