-- Texts of lines of which some are empty.
use Rattle.std.proofs.Common.{◌≡◌, ℕ, ◌+◌, ◌<◌, ◌≤◌, Bool, true, false, List, [], ◌∷◌, ◌++◌, length, map}
use Rattle.std.proofs.Common.{drop, get_or, refl, ap, sym, subst, ◌∙◌, arith, append_assoc, append-nil, slice_index}
use Rattle.std.proofs.lemmas.List.{drop_all, length-map, get_or-map, length-append}
use Rattle.std.specs.Borrow.{Bor}
use Rattle.std.specs.List.{concat, flat_map, zip}
use Rattle.bstr.specs.Text.{lines_of as pieces_in}
use Rattle.bstr.proofs.lemmas.RestLemmas.{concat-lines_of}
use Rattle.mw_text.proofs.Lists.{drop-read}
use Rattle.mw_text.proofs.Found.{get_or-any}
use Rattle.config_prepare.proofs.LineTexts.{IsLine, Ends, AreLines, are_lines_of, lines_of-made}
use Rattle.config_lint.specs.Asides.{cut_line, cut_lines}

cuts_step : (pieces : List (List ℕ)) (flags : List Bool) (i : ℕ) (piece : List ℕ) (flag : Bool) (text : List ℕ) →
    i < length pieces → i < length flags → piece ≡ get_or pieces i piece → flag ≡ get_or flags i flag →
    text ++ cut_lines (drop i pieces) (drop i flags)
    ≡ (text ++ cut_line (piece, flag)) ++ cut_lines (drop (i + 1) pieces) (drop (i + 1) flags)
cuts_step pieces flags i piece flag text within_pieces within_flags is_piece is_flag =
    ap (λ rest. text ++ cut_lines rest (drop i flags)) (drop-read pieces i piece within_pieces is_piece)
    ∙ ap (λ rest. text ++ cut_lines (piece ∷ drop (i + 1) pieces) rest) (drop-read flags i flag within_flags is_flag)
    ∙ sym (append_assoc text (cut_line (piece, flag)) (cut_lines (drop (i + 1) pieces) (drop (i + 1) flags)))

-- one line more
pub cuts_next : (pieces : List (Bor (List ℕ))) (flags : List Bool) (i : ℕ) (text new : List ℕ)
    (d : Bor (List ℕ)) (e : Bool) → i < length pieces → i < length flags →
    new ≡ text ++ cut_line ((get_or pieces i d).now, get_or flags i e) →
    new ++ cut_lines (drop (i + 1) (map (λ p. p.now) pieces)) (drop (i + 1) flags)
    ≡ text ++ cut_lines (drop i (map (λ p. p.now) pieces)) (drop i flags)
cuts_next pieces flags i text new d e within_pieces within_flags more =
    let now : Bor (List ℕ) → List ℕ = λ p. p.now in
    let piece : List ℕ = (get_or pieces i d).now in
    let flag : Bool = get_or flags i e in
    ap (λ t. t ++ cut_lines (drop (i + 1) (map now pieces)) (drop (i + 1) flags)) more
    ∙ sym (cuts_step (map now pieces) flags i piece flag text (omega (arith, within_pieces, length-map pieces now))
    within_flags (sym (get_or-map now pieces i d piece within_pieces)) (get_or-any flags i e flag within_flags))

-- no line is left
pub cuts_done : (pieces : List (List ℕ)) (flags : List Bool) (i : ℕ) (text : List ℕ) → length pieces ≤ i →
    text ++ cut_lines (drop i pieces) (drop i flags) ≡ text
cuts_done pieces flags i text done =
    ap (λ rest. text ++ cut_lines rest (drop i flags)) (drop_all i pieces done) ∙ append-nil text

-- ---- the lines of such a text

cut_is : (pair : List ℕ × Bool) → IsLine pair.0 → IsLine (cut_line pair)
cut_is (piece, false) is = is
cut_is (piece, true) is = record { some = omega arith; one = λ k within. absurd (omega arith) }

cut_ends : (pair : List ℕ × Bool) → IsLine pair.0 → Ends pair.0 → Ends (cut_line pair)
cut_ends (piece, false) is ends = ends
cut_ends (piece, true) is ends = record { feed = refl }

pub lines_of-cut : (bytes : List ℕ) (flags : List Bool) → length flags ≡ length (pieces_in bytes) →
    pieces_in (cut_lines (pieces_in bytes) flags) ≡ map cut_line (zip (pieces_in bytes) flags)
lines_of-cut bytes flags fit = lines_of-made cut_line bytes flags fit cut_is cut_ends

-- ---- no such text is longer

cut_short : (piece : List ℕ) (flag : Bool) → IsLine piece → length (cut_line (piece, flag)) ≤ length piece
cut_short piece false is = omega arith
cut_short piece true is = omega (arith, is.some)

first_of : (piece : List ℕ) (rest : List (List ℕ)) → AreLines (piece ∷ rest) → IsLine piece × AreLines rest
first_of piece [] are = (are, tt)
first_of piece (next ∷ rest) are = (are.0, are.2)

cuts_short : (pieces : List (List ℕ)) (flags : List Bool) → AreLines pieces →
    length (cut_lines pieces flags) ≤ length (concat pieces)
cuts_short [] flags are = omega arith
cuts_short (piece ∷ rest) [] are = omega arith
cuts_short (piece ∷ rest) (flag ∷ flags) are =
    let parts = first_of piece rest are in
    omega (
      arith,
      length-append (cut_line (piece, flag)) (cut_lines rest flags),
      length-append piece (concat rest),
      cut_short piece flag parts.0,
      cuts_short rest flags parts.1,
    )

pub cut_within : (bytes : List ℕ) (flags : List Bool) → length (cut_lines (pieces_in bytes) flags) ≤ length bytes
cut_within bytes flags =
    omega (arith, cuts_short (pieces_in bytes) flags (are_lines_of bytes), ap length (concat-lines_of bytes))
