-- A section, line by line.
use Rattle.std.proofs.Common.{◌≡◌, ◌∙◌, refl, ap, ap₂, sym, subst, arith, ℕ, ◌+◌, ◌-◌, ◌<◌, ◌≤◌, Bool, true, false, ◌||◌, cond}
use Rattle.std.proofs.Common.{List, [], ◌∷◌, ◌++◌, length, length-append, drop, Err, append_assoc}
use Rattle.std.specs.List.{onto_first}
use Rattle.std.proofs.lemmas.List.Folds.{list_any-append}
use Rattle.std.proofs.lemmas.List.Splits.{slice_split-cons_no, slice_split-cons_yes}
use Rattle.std.proofs.Math.Seq.{drop-append_seam}
use Rattle.mw_text.specs.Reading.{following}
use Rattle.resolution_check.specs.declared.log.Entry.{Entry}
use Rattle.resolution_check.specs.declared.log.Entry.TheVariants.{End}
use Rattle.resolution_check.specs.Entries.{KeepsGood, adds_empty, is_refutation}
use Rattle.resolution_check.specs.Known.{HasRead, Known}
use Rattle.resolution_check.specs.Text.{is_line_feed}
use Rattle.resolution_check.proofs.Goods.{each_push}
use Rattle.log_checker.specs.declared.cause.Cause.{Cause}
use Rattle.log_checker.specs.Lines.{pieces}
use Rattle.log_checker.specs.Sections.{unended_cause}
use Rattle.trimmed_logs.specs.declared.holding.Order.{Order}
use Rattle.trimmed_logs.specs.declared.sections.Step.TheVariants.{Goes, Ends, Wrong}
use Rattle.trimmed_logs.specs.Held.{IsHeld}
use Rattle.trimmed_logs.specs.Logs.{Section, Taken, at_end, is_none, read_pieces, take_inner, take_line}
use Rattle.trimmed_logs.specs.Steps.{IsWhole, TakesInner, WithinEnds, WithinGoes, WithinWrong, closed, opened}
use Rattle.trimmed_logs.proofs.Orders.{first_end, held_none}

-- ---- pieces

some_piece : (bytes : List ℕ) → is_none (pieces bytes) ≡ false
some_piece [] = refl
some_piece (b ∷ bytes) = by_feed (is_line_feed b) refl
  where
    by_feed : (feed : Bool) → is_line_feed b ≡ feed → is_none (pieces (b ∷ bytes)) ≡ false
    by_feed true is = ap is_none (slice_split-cons_yes is_line_feed b bytes is)
    by_feed false is = ap is_none (slice_split-cons_no is_line_feed b bytes is) ∙ onto (pieces bytes)
      where
        onto : (parts : List (List ℕ)) → is_none (onto_first b parts) ≡ false
        onto [] = refl
        onto (part ∷ parts) = refl

-- a line that is ended
pub read-line : (t : Taken) (bytes line more : List ℕ) → pieces bytes ≡ line ∷ pieces more →
    read_pieces t (pieces bytes) ≡ following (λ next. read_pieces next (pieces more)) (take_line t line)
unfolding read_pieces
read-line t bytes line more is =
    ap (read_pieces t) is
    ∙ ap (λ b. cond b (at_end t line) (following (λ next. read_pieces next (pieces more)) (take_line t line)))
    (some_piece more)

-- what no line feed ends
pub read-tail : (t : Taken) (bytes : List ℕ) → pieces bytes ≡ bytes ∷ [] → read_pieces t (pieces bytes) ≡ at_end t bytes
unfolding read_pieces
read-tail t bytes is = ap (read_pieces t) is

-- ---- what a section holds after some of its lines

pub record Going (known : Known) (order : Order) (entries : List Entry) (bytes rest : List ℕ) (lines : ℕ) : Type 0 where
  pub held : IsHeld known order entries
  pub goes : WithinGoes bytes rest lines entries
  pub front : List ℕ
  pub parts : bytes ≡ front ++ rest
  pub room : lines + length rest ≤ length bytes

pub going_start : (known : Known) (order : Order) (entries : List Entry) (bytes : List ℕ) → HasRead known [] →
    order.top ≡ 0 → order.begun ≡ false → entries ≡ [] → Going known order entries bytes bytes 0
going_start known order entries bytes read is_top is_begun none =
    let H : List Entry → Type 0 = λ es. IsHeld known order es in record {
      held = subst H (sym none) (held_none known order read is_top is_begun);
      goes = λ at sections name.
          let same : at + 0 ≡ at = omega arith in
          ap₂ (λ n es. read_pieces (opened n sections name es) (pieces bytes)) (sym same) (sym none);
      front = [];
      parts = refl;
      room = omega arith;
    }

module _ (known : Known) (order : Order) (entries : List Entry) (bytes rest line more : List ℕ) (lines : ℕ)
    (g : Going known order entries bytes rest lines) (cut : rest ≡ line ++ 10 ∷ more)
    (piece : pieces rest ≡ line ∷ pieces more) where
  -- the next line is taken inside the section
  next_line : (at : ℕ) (sections : List Section) (name : List ℕ) →
      read_pieces (opened at sections name []) (pieces bytes)
      ≡ following (λ next. read_pieces next (pieces more))
      (take_inner (opened (at + lines) sections name entries) (record { name = name; entries = entries }) line)
  next_line at sections name =
      g.goes at sections name ∙ read-line (opened (at + lines) sections name entries) rest line more piece

  shorter : length more < length rest
  shorter =
      let long : length rest ≡ length line + length (10 ∷ more) = ap length cut ∙ length-append line (10 ∷ more) in
      omega (arith, long)

  front_parts : bytes ≡ (g.front ++ (line ++ 10 ∷ [])) ++ more
  front_parts =
      g.parts ∙ ap (λ xs. g.front ++ xs) (cut ∙ sym (append_assoc line (10 ∷ []) more))
      ∙ sym (append_assoc g.front (line ++ 10 ∷ []) more)

  pub going_more : (later : Known) (new : Order) (es : List Entry) → TakesInner entries es line Goes →
      IsHeld later new es → Going later new es bytes more (lines + 1)
  going_more later new es takes held =
      let less = shorter in
      let room = g.room in record {
        held = held;
        goes = λ at sections name.
            let place : at + lines + 1 ≡ at + (lines + 1) = omega arith in
            next_line at sections name
            ∙ ap (following (λ next. read_pieces next (pieces more))) (takes (at + lines) sections name)
            ∙ ap (λ n. read_pieces (opened n sections name es) (pieces more)) place;
        front = g.front ++ (line ++ 10 ∷ []);
        parts = front_parts;
        room = omega (arith, room, less);
      }

  pub going_ends : (es : List Entry) → TakesInner entries es line Ends →
      WithinEnds bytes (drop (length bytes - length more) bytes) (lines + 1) es
  going_ends es takes at sections name =
      let place : at + lines + 1 ≡ at + (lines + 1) = omega arith in
      next_line at sections name
      ∙ ap (following (λ next. read_pieces next (pieces more))) (takes.2 (at + lines) sections name)
      ∙ ap₂ (λ n xs. read_pieces (closed n sections name xs) (pieces more)) place (sym takes.0)
      ∙ ap (λ xs. read_pieces (closed (at + (lines + 1)) sections name es) (pieces xs)) (sym back)
    where
      back : drop (length bytes - length more) bytes ≡ more
      back =
          let front = g.front ++ (line ++ 10 ∷ []) in
          let long : length bytes ≡ length front + length more =
          ap length front_parts ∙ length-append front more in
          let at : length bytes - length more ≡ length front = omega (arith, long) in
          ap (λ n. drop n bytes) at ∙ ap (drop (length front)) front_parts ∙ drop-append_seam front more

  pub going_wrong : (es : List Entry) (cause : Cause) → TakesInner entries es line (Wrong cause) →
      WithinWrong bytes lines cause
  going_wrong es cause takes at sections name =
      next_line at sections name
      ∙ ap (following (λ next. read_pieces next (pieces more))) (takes (at + lines) sections name)

-- no line feed comes
pub going_unended : (known : Known) (order : Order) (entries : List Entry) (bytes rest : List ℕ) (lines : ℕ) →
    Going known order entries bytes rest lines → pieces rest ≡ rest ∷ [] → WithinWrong bytes lines (unended_cause rest)
going_unended known order entries bytes rest lines g cut at sections name =
    g.goes at sections name ∙ read-tail (opened (at + lines) sections name entries) rest cut
    ∙ by_rest rest
  where
    by_rest : (r : List ℕ) → at_end (opened (at + lines) sections name entries) r
        ≡ Err (record { line = at + lines + 1; cause = unended_cause r })
    by_rest [] = refl
    by_rest (b ∷ bs) = refl

-- a section that was ended is whole
pub whole_of : (known : Known) (order : Order) (es : List Entry) → IsHeld known order es → adds_empty es ≡ true →
    IsWhole es
whole_of known order es h empty = record {
  refutes = (
    each_push KeepsGood es End h.read.good (h.goes_on, tt),
    list_any-append is_refutation es (End ∷ []) ∙ ap (λ b. b || false) empty,
  );
  first = first_end es h.first;
  texts = h.texts;
}
