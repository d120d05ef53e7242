-- Reading line by line.
use Rattle.std.proofs.Common.{◌≡◌, ℕ, suc, ◌+◌, ◌<◌, ◌≤◌, List, ◌∷◌, length, drop, get_or, Result, Ok, Err, ap, sym}
use Rattle.std.proofs.Common.{◌∙◌, add-one}
use Rattle.std.proofs.Math.Seq.{drop-cons}
use Rattle.std.proofs.lemmas.List.{drop_all}
use Rattle.mw_text.specs.declared.words.Line.{Line}
use Rattle.ios_policy_reader.specs.declared.cause.Refused.{Refused}
use Rattle.ios_reader.specs.declared.draft.Draft.{Draft}
use Rattle.mw_text.specs.Reading.{following}
use Rattle.ios_reader.specs.Reading.{read_lines, finished, at_line, with_line}

drop_line : (lines : List Line) (at : ℕ) (line : Line) → at < length lines → line ≡ get_or lines at line →
    drop at lines ≡ line ∷ drop (at + 1) lines
drop_line lines at line within is =
    drop-cons lines at line within ∙ ap (λ x. x ∷ drop (suc at) lines) (sym is)
    ∙ ap (λ n. line ∷ drop n lines) (sym (add-one at))

-- after the last line
pub read_lines_done : (draft : Draft) (lines : List Line) (at : ℕ) → length lines ≤ at →
    read_lines draft (drop at lines) ≡ finished draft
unfolding read_lines
read_lines_done draft lines at done = ap (read_lines draft) (drop_all at lines done)

-- at a line that is taken
pub read_lines_taken : (draft next : Draft) (lines : List Line) (at : ℕ) (line : Line) → at < length lines →
    line ≡ get_or lines at line → at_line line.number (with_line line (drop (at + 1) lines) draft) ≡ Ok next →
    read_lines draft (drop at lines) ≡ read_lines next (drop (at + 1) lines)
unfolding read_lines
read_lines_taken draft next lines at line within is taken =
    ap (read_lines draft) (drop_line lines at line within is)
    ∙ ap (λ (r : Result Draft Refused). following (λ d. read_lines d (drop (at + 1) lines)) r) taken

-- at a line that is refused
pub read_lines_refused : (draft : Draft) (refused : Refused) (lines : List Line) (at : ℕ) (line : Line)
    → at < length lines →
    line ≡ get_or lines at line → at_line line.number (with_line line (drop (at + 1) lines) draft) ≡ Err refused →
    read_lines draft (drop at lines) ≡ Err refused
unfolding read_lines
read_lines_refused draft refused lines at line within is no_more =
    ap (read_lines draft) (drop_line lines at line within is)
    ∙ ap (λ (r : Result Draft Refused). following (λ d. read_lines d (drop (at + 1) lines)) r) no_more
