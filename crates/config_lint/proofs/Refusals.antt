-- A line that is refused says something.
use Rattle.std.proofs.Common.{◌≡◌, ℕ, zero, suc, ◌+◌, ◌==◌, Bool, true, false, cond, List, [], ◌∷◌, length, map, Option, Some}
use Rattle.std.proofs.Common.{None, Result, Ok, Err, refl, ap, sym, ◌∙◌, arith, nat_lt}
use Rattle.std.specs.List.{slice_get, zip}
use Rattle.std.specs.Option.{option_map_or}
use Rattle.mw_text.specs.declared.words.Line.{Line}
use Rattle.mw_text.specs.Words.{is_skipped, line_at, numbered}
use Rattle.mw_text.specs.Reading.{following}
use Rattle.ios_ast.specs.declared.file.TheConstants.{MOST_LINES}
use Rattle.ios_ast.specs.declared.file.File.{File}
use Rattle.ios_policy_reader.specs.declared.cause.Cause.{Cause}
use Rattle.ios_policy_reader.specs.declared.cause.Cause.TheVariants.{Limit, NoHostname}
use Rattle.ios_policy_reader.specs.declared.cause.Refused.{Refused}
use Rattle.ios_reader.specs.declared.draft.Draft.{Draft}
use Rattle.ios_reader.specs.declared.draft.Delimiter.{Delimiter}
use Rattle.ios_reader.specs.Reading.{at_line, finished, in_banner, policy_first, read_lines, with_line}
use Rattle.config_lint.specs.Listed.{ends_by, is_last}

-- a line of that number which says something
pub record Says (lines : List Line) (number : ℕ) : Type 0 where
  pub at : ℕ
  pub line : Line
  pub found : slice_get lines at ≡ Some line
  pub named : line.number ≡ number
  pub says : is_skipped line.words ≡ false

says_later : (line : Line) (rest : List Line) (number : ℕ) → Says rest number → Says (line ∷ rest) number
says_later line rest number it =
    record { at = suc it.at; line = it.line; found = it.found; named = it.named; says = it.says }

-- a file without a hostname is refused by its last refusal
finished_last : (draft : Draft) (refused : Refused) (b : Bool) → length draft.file.hostname == 0 ≡ b →
    cond b (Err (record { line = 1; cause = NoHostname })) (Ok draft.file) ≡ Err refused → is_last refused ≡ true
finished_last draft refused true is so =
    let same : record { line = 1; cause = NoHostname } ≡ refused = cc in ap is_last (sym same)
finished_last draft refused false is so = absurd (let h : Ok draft.file ≡ Err refused = so in cc)

-- a banner's line is taken
banner_taken : (banner : Option Delimiter) (f : Delimiter → Draft) (draft : Draft) (cause : Cause) →
    option_map_or (λ d. Ok (f d)) banner (Ok draft) ≡ Err cause → ⊥
banner_taken None f draft cause so = let h : Ok draft ≡ Err cause = so in cc
banner_taken (Some d) f draft cause so = let h : Ok (f d) ≡ Err cause = so in cc

-- a line that is refused says something, or is past the last that a file can have
refused_says : (draft : Draft) (line : Line) (rest : List Line) (cause : Cause) (skipped over : Bool) →
    is_skipped line.words ≡ skipped → nat_lt MOST_LINES line.number ≡ over →
    cond over (Err Limit) (option_map_or (λ d. Ok (in_banner d line draft)) draft.banner
    (cond skipped (Ok draft) (policy_first line rest draft))) ≡ Err cause →
    ends_by cause line.number ≡ false → is_skipped line.words ≡ false
refused_says draft line rest cause skipped true is is_over so last =
    let limit : Limit ≡ cause = cc in
    let ends : ends_by cause line.number ≡ true = ap (λ c. ends_by c line.number) (sym limit) ∙ is_over in
    absurd (let h : true ≡ false = sym ends ∙ last in cc)
refused_says draft line rest cause false false is is_over so last = is
refused_says draft line rest cause true false is is_over so last =
    absurd (banner_taken draft.banner (λ d. in_banner d line draft) draft cause so)

first_says : (draft : Draft) (line : Line) (rest : List Line) (refused : Refused) (first : Result Draft Cause) →
    with_line line rest draft ≡ first →
    following (λ next. read_lines next rest) (at_line line.number first) ≡ Err refused → is_last refused ≡ false →
    ((next : Draft) → read_lines next rest ≡ Err refused → Says rest refused.line) → Says (line ∷ rest) refused.line
first_says draft line rest refused (Ok next) is so last later = says_later line rest refused.line (later next so)
first_says draft line rest refused (Err cause) is so last later =
    let same : record { line = line.number; cause = cause } ≡ refused = cc in
    let ends : ends_by cause line.number ≡ false = ap is_last same ∙ last in
    record {
      at = zero;
      line = line;
      found = refl;
      named = ap (λ (r : Refused). r.line) same;
      says = refused_says draft line rest cause (is_skipped line.words) (nat_lt MOST_LINES line.number) refl refl is ends;
    }

pub refusal_says : (draft : Draft) (lines : List Line) (refused : Refused) → read_lines draft lines ≡ Err refused →
    is_last refused ≡ false → Says lines refused.line
unfolding read_lines
refusal_says draft [] refused so last =
    absurd (let h : true ≡ false =
    sym (finished_last draft refused (length draft.file.hostname == 0) refl so) ∙ last in cc)
refusal_says draft (line ∷ rest) refused so last =
    first_says draft line rest refused (with_line line rest draft) refl so last
    (λ next then. refusal_says next rest refused then last)

-- ---- places of lines

pub numbered_at : (n : ℕ) (raws : List (List ℕ)) (k : ℕ) (line : Line) → slice_get (numbered n raws) k ≡ Some line →
    (raw : List ℕ) × (slice_get raws k ≡ Some raw) × (line ≡ line_at (n + k) raw)
numbered_at n [] k line found = absurd cc
numbered_at n (raw ∷ rest) zero line found =
    let same : line_at n raw ≡ line = cc in
    let number : n ≡ n + 0 = omega arith in (raw, refl, sym same ∙ ap (λ m. line_at m raw) number)
numbered_at n (raw ∷ rest) (suc k) line found =
    let inner = numbered_at (n + 1) rest k line found in
    let number : n + 1 + k ≡ n + suc k = omega arith in
    (inner.0, inner.1, inner.2 ∙ ap (λ m. line_at m inner.0) number)

pub map_at : {X Y : Type 0} (f : X → Y) (xs : List X) (k : ℕ) (y : Y) → slice_get (map f xs) k ≡ Some y →
    (x : X) × (slice_get xs k ≡ Some x) × (y ≡ f x)
map_at f [] k y found = absurd cc
map_at f (x ∷ xs) zero y found = let same : f x ≡ y = cc in (x, refl, sym same)
map_at f (x ∷ xs) (suc k) y found = map_at f xs k y found

pub zip_at : {X Y : Type 0} (xs : List X) (ys : List Y) (k : ℕ) (pair : X × Y) → slice_get (zip xs ys) k ≡ Some pair →
    slice_get ys k ≡ Some pair.1
zip_at [] ys k pair found = absurd cc
zip_at (x ∷ xs) [] k pair found = absurd cc
zip_at (x ∷ xs) (y ∷ ys) zero pair found =
    let same : (x, y) ≡ pair = cc in ap (λ p. Some p.1) same
zip_at (x ∷ xs) (y ∷ ys) (suc k) pair found = zip_at xs ys k pair found
