-- The lines of a log: they are cut at the line feeds, and fix the entries.
use Rattle.std.proofs.Common.{◌≡◌, refl, sym, ◌∙◌, ap, ap₂, ℕ, ◌<◌, nat_lt, true, false, List, [], ◌∷◌, ◌++◌, map}
use Rattle.std.proofs.Common.{get_or, append_assoc, arith}
use Rattle.std.specs.List.{list_all, All, AllByRecursion, slice_split, join_with_byte}
use Rattle.std.proofs.lemmas.Bool.{and_parts, and_from, ltb-true, lt-ltb, ne_eqb}
use Rattle.std.proofs.lemmas.Grind.{flat_map-append}
use Rattle.std.proofs.lemmas.List.{append-nil, append_cancel_right}
use Rattle.std.proofs.lemmas.List.Folds.{list_all-append}
use Rattle.std.proofs.lemmas.List.Splits.{slice_split_at}
use Rattle.std.proofs.lemmas.List.Sums.{AllPass-from_list_all}
use Rattle.resolution_check.specs.declared.log.Entry.{Entry}
use Rattle.resolution_check.specs.Text.{entry_words, text_of, HasText, line_of, log_text, is_line_feed}
use Rattle.resolution_check.proofs.Texts.{IsPlain}
use Rattle.resolution_check.proofs.Lines.{words_plain, same_entry}

-- ---- no line feed stands in a line

-- each byte is above the line feed's
abbrev IsLine : List ℕ → Type 0
IsLine line = list_all (nat_lt 10) line ≡ true

plain_line : (word : List ℕ) → IsPlain word → IsLine word
plain_line [] h = refl
plain_line (b ∷ word) h =
    let both = and_parts (nat_lt 32 b) (list_all (nat_lt 32) word) h in
    let above : 32 < b = ltb-true 32 b both.0 in
    and_from (nat_lt 10 b) (list_all (nat_lt 10) word) (lt-ltb 10 b (omega arith)) (plain_line word both.1)

joined_line : (words : List (List ℕ)) → AllByRecursion IsPlain words → IsLine (join_with_byte 32 words)
joined_line [] h = refl
joined_line (word ∷ []) h = plain_line word h.0
joined_line (word ∷ next ∷ words) h =
    list_all-append (nat_lt 10) word (32 ∷ join_with_byte 32 (next ∷ words))
    ∙ and_from _ _ (plain_line word h.0) (joined_line (next ∷ words) h.1)

no_feed : (line : List ℕ) → IsLine line → All (λ b. is_line_feed b ≡ false) line
no_feed line h = λ k d below.
    let above : 10 < get_or line k d =
    ltb-true 10 (get_or line k d) (AllPass-from_list_all (nat_lt 10) line h k d below) in
    ne_eqb (get_or line k d) 10 (omega arith)

-- ---- the lines of a log are its entries' texts

-- the lines of a log are its entries' texts
pub lines-log_text : (es : List Entry) → AllByRecursion HasText es
    → slice_split is_line_feed (log_text es) ≡ map text_of es ++ [] ∷ []
lines-log_text [] h = refl
lines-log_text (e ∷ es) h =
    ap (slice_split is_line_feed) (append_assoc (text_of e) (10 ∷ []) (log_text es))
    ∙ slice_split_at is_line_feed (text_of e) 10 (log_text es)
    (no_feed (text_of e) (joined_line (entry_words e) (words_plain e h.0))) refl
    ∙ ap (λ lines. text_of e ∷ lines) (lines-log_text es h.1)

same_texts : (ds es : List Entry) → AllByRecursion HasText ds → AllByRecursion HasText es
    → map text_of ds ≡ map text_of es → ds ≡ es
same_texts [] [] h k same = refl
same_texts [] (e ∷ es) h k same = absurd (cc)
same_texts (d ∷ ds) [] h k same = absurd (cc)
same_texts (d ∷ ds) (e ∷ es) h k same =
    let first : text_of d ≡ text_of e = cc in
    let others : map text_of ds ≡ map text_of es = cc in
    ap₂ (λ x xs. x ∷ xs) (same_entry d e h.0 k.0 first) (same_texts ds es h.1 k.1 others)

-- the bytes of a log fix its entries
pub same_log : (ds es : List Entry) → AllByRecursion HasText ds → AllByRecursion HasText es
    → log_text ds ≡ log_text es → ds ≡ es
same_log ds es h k same =
    let lines = sym (lines-log_text ds h) ∙ ap (slice_split is_line_feed) same ∙ lines-log_text es k in
    same_texts ds es h k (append_cancel_right (map text_of ds) (map text_of es) ([] ∷ []) lines)

-- ---- one entry more

pub text-append : (es ds : List Entry) → log_text (es ++ ds) ≡ log_text es ++ log_text ds
text-append es ds = flat_map-append line_of es ds

pub text-push : (es : List Entry) (e : Entry) → log_text (es ++ e ∷ []) ≡ log_text es ++ line_of e
text-push es e = text-append es (e ∷ []) ∙ ap (λ t. log_text es ++ t) (append-nil (line_of e))
