-- What a line of an open section comes to.
use Rattle.std.proofs.Common.{◌≡◌, ◌≢◌, ◌∙◌, refl, ap, sym, ℕ, ◌+◌, true, false, cond, List, [], ◌∷◌, ◌++◌, Option, Some, None, Result, Ok, Err, ◌⊎◌, inl, inr}
use Rattle.std.specs.Option.{option_map_or}
use Rattle.resolution_check.specs.declared.log.Entry.{Entry}
use Rattle.resolution_check.specs.Entries.{adds_empty, is_end}
use Rattle.resolution_check.specs.Text.{HasText, text_of}
use Rattle.resolution_check.specs.declared.log.LineRefused.{LineRefused}
use Rattle.resolution_check.specs.declared.log.LineRefused.TheVariants as refused
use Rattle.resolution_check.specs.Words.{entry_in, words_in}
use Rattle.resolution_check.proofs.Lines.{entry_from_line, line_from_entry}
use Rattle.log_checker.specs.declared.cause.Cause.{Cause}
use Rattle.log_checker.specs.declared.cause.Cause.TheVariants.{BadLine, NotRefuted}
use Rattle.trimmed_logs.specs.Held.{TakesEntry}
use Rattle.trimmed_logs.specs.Logs.{Section, entry_cause, take_either, take_inner, take_end, take_entry, wrong_next}
use Rattle.trimmed_logs.specs.Steps.{TakesInner, closed, opened}
use Rattle.trimmed_logs.specs.declared.sections.Step.TheVariants.{Goes, Ends, Wrong}

module _ (old : List Entry) (line : List ℕ) where
  -- by the entry that the line writes
  inner_entry : (e : Entry) → HasText e → line ≡ text_of e → (lines : ℕ) (sections : List Section) (name : List ℕ) →
      take_inner (opened lines sections name old) (record { name = name; entries = old }) line
      ≡ take_either (opened lines sections name old) (record { name = name; entries = old }) e
  inner_entry e text is lines sections name =
      ap (λ o. option_map_or (take_either (opened lines sections name old) (record { name = name; entries = old })) o
      (wrong_next (opened lines sections name old) BadLine)) (entry_from_line line e text is)

  module _ (e : Entry) (text : HasText e) (is : line ≡ text_of e) where
    -- the end
    pub ends : is_end e ≡ true → adds_empty old ≡ true → TakesInner old old line Ends
    ends last empty = (
      refl,
      empty,
      λ lines sections name.
          inner_entry e text is lines sections name
          ∙ ap (λ b. cond b (take_end (opened lines sections name old) (record { name = name; entries = old }))
          (take_entry (opened lines sections name old) (record { name = name; entries = old }) e)) last
          ∙ ap (λ b. cond b (Ok (closed (lines + 1) sections name old))
          (wrong_next (opened lines sections name old) NotRefuted)) empty,
    )

    pub ends_early : is_end e ≡ true → adds_empty old ≡ false → TakesInner old old line (Wrong NotRefuted)
    ends_early last empty = λ lines sections name.
        inner_entry e text is lines sections name
        ∙ ap (λ b. cond b (take_end (opened lines sections name old) (record { name = name; entries = old }))
        (take_entry (opened lines sections name old) (record { name = name; entries = old }) e)) last
        ∙ ap (λ b. cond b (Ok (closed (lines + 1) sections name old))
        (wrong_next (opened lines sections name old) NotRefuted)) empty

    -- another entry
    inner_other : is_end e ≡ false → (lines : ℕ) (sections : List Section) (name : List ℕ) →
        take_inner (opened lines sections name old) (record { name = name; entries = old }) line
        ≡ option_map_or (λ cause. wrong_next (opened lines sections name old) cause) (entry_cause old e)
        (Ok (opened (lines + 1) sections name (old ++ e ∷ [])))
    inner_other other lines sections name =
        inner_entry e text is lines sections name
        ∙ ap (λ b. cond b (take_end (opened lines sections name old) (record { name = name; entries = old }))
        (take_entry (opened lines sections name old) (record { name = name; entries = old }) e)) other

    pub goes : (new : List Entry) → is_end e ≡ false → TakesEntry old new e None → TakesInner old new line Goes
    goes new other takes = λ lines sections name.
        inner_other other lines sections name
        ∙ ap (λ o. option_map_or (λ cause. wrong_next (opened lines sections name old) cause) o
        (Ok (opened (lines + 1) sections name (old ++ e ∷ [])))) takes.0
        ∙ ap (λ es. Ok (opened (lines + 1) sections name es)) (sym takes.1)

    pub goes_wrong : (new : List Entry) (cause : Cause) → is_end e ≡ false → TakesEntry old new e (Some cause) →
        TakesInner old new line (Wrong cause)
    goes_wrong new cause other takes = λ lines sections name.
        inner_other other lines sections name
        ∙ ap (λ o. option_map_or (λ c. wrong_next (opened lines sections name old) c) o
        (Ok (opened (lines + 1) sections name (old ++ e ∷ [])))) takes

  -- no entry
  pub no_line : (new : List Entry) → ((e : Entry) → HasText e → line ≢ text_of e) → TakesInner old new line (Wrong BadLine)
  no_line new never = λ lines sections name.
      by_entry (entry_in (words_in line)) refl lines sections name
    where
      by_entry : (o : Option Entry) → entry_in (words_in line) ≡ o → (lines : ℕ) (sections : List Section)
          (name : List ℕ) →
          option_map_or (take_either (opened lines sections name old) (record { name = name; entries = old })) o
          (wrong_next (opened lines sections name old) BadLine) ≡ Err (record { line = lines + 1; cause = BadLine })
      by_entry None is lines sections name = refl
      by_entry (Some e) is lines sections name =
          let k = line_from_entry line e is in absurd (never e k.1 k.0)

-- a line that was refused is no entry's
pub bad_never : (line : List ℕ) (answer : Result Entry LineRefused) → answer ≡ Err refused.BadLine →
    ((e : Entry) → HasText e → line ≡ text_of e → (answer ≡ Ok e) ⊎ (answer ≡ Err refused.Memory)) → (e : Entry) →
    HasText e → line ≢ text_of e
bad_never line answer is exact e text same = by_case (exact e text same)
  where
    by_case : (answer ≡ Ok e) ⊎ (answer ≡ Err refused.Memory) → ⊥
    by_case (inl ok) = absurd (clash answer e is ok)
      where
        clash : (a : Result Entry LineRefused) (d : Entry) → a ≡ Err refused.BadLine → a ≡ Ok d → ⊥
        clash a d h k = absurd (cc)
    by_case (inr memory) = absurd (clash answer is memory)
      where
        clash : (a : Result Entry LineRefused) → a ≡ Err refused.BadLine → a ≡ Err refused.Memory → ⊥
        clash a h k = absurd (cc)
