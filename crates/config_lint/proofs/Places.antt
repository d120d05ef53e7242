-- The places of lines, and all refusals of texts, one after another.
use Rattle.std.proofs.Common.{◌≡◌, ℕ, suc, ◌+◌, ◌<◌, ◌≤◌, List, [], ◌∷◌, ◌++◌, length, map, drop, get_or, refl, ap, sym}
use Rattle.std.proofs.Common.{◌∙◌, append_assoc, append-nil, add-one, subst, arith}
use Rattle.std.proofs.lemmas.List.{drop_all}
use Rattle.mw_text.specs.declared.words.Line.{Line}
use Rattle.mw_text.proofs.Lists.{drop-read}
use Rattle.config_prepare.specs.declared.places.Place.{Place}
use Rattle.config_prepare.specs.Places.{place_after}
use Rattle.run_inputs.specs.declared.text.Text.{Text}
use Rattle.config_lint.specs.declared.labels.Entry.{Entry}
use Rattle.config_lint.specs.Labels.{places_from}
use Rattle.config_lint.specs.Linted.{AreEntries, group_of, groups_from, IsLinted}

-- the place of one line more
pub places_step : (place : Place) (lines : List Line) (i : ℕ) (line : Line) (places : List Place) → i < length lines →
    line ≡ get_or lines i line → places ++ places_from place (drop i lines)
    ≡ (places ++ place ∷ []) ++ places_from (place_after place line) (drop (i + 1) lines)
unfolding places_from
places_step place lines i line places within is =
    ap (λ rest. places ++ places_from place rest) (drop-read lines i line within is)
    ∙ sym (append_assoc places (place ∷ []) (places_from (place_after place line) (drop (i + 1) lines)))

-- no line is left
pub places_done : (place : Place) (lines : List Line) (i : ℕ) (places : List Place) → length lines ≤ i →
    places ++ places_from place (drop i lines) ≡ places
unfolding places_from
places_done place lines i places done =
    ap (λ rest. places ++ places_from place rest) (drop_all i lines done) ∙ append-nil places

-- ---- refusals of texts

-- what the refusals of the texts from a place on make of all
abbrev pub Ends : List Text → ℕ → List Entry → Type 0
Ends texts i entries = (later : List Entry) → AreEntries (drop i texts) later → AreEntries texts (entries ++ later)

pub ends_none : (texts : List Text) → Ends texts 0 []
ends_none texts later are = are

pub ends_more : (texts : List Text) (i : ℕ) (text : Text) (entries own now : List Entry) → i < length texts →
    text ≡ get_or texts i text → IsLinted text own → now ≡ entries ++ own → Ends texts i entries → Ends texts (i + 1) now
unfolding AreEntries
ends_more texts i text entries own now within is linted more so_far later are =
    subst (AreEntries texts) (sym (append_assoc entries own later) ∙ ap (λ l. l ++ later) (sym more))
    (so_far (own ++ later)
    (subst (λ l. AreEntries l (own ++ later)) (sym (drop-read texts i text within is)) (own, later, linted, refl, are)))

pub ends_all : (texts : List Text) (i : ℕ) (entries : List Entry) → length texts ≤ i → Ends texts i entries →
    AreEntries texts entries
unfolding AreEntries
ends_all texts i entries done so_far =
    subst (AreEntries texts) (append-nil entries)
    (so_far [] (subst (λ l. AreEntries l []) (sym (drop_all i texts done)) refl))

-- ---- groups

-- the group of one refusal more
pub groups_next : (all entries : List Entry) (i : ℕ) (text group new : List ℕ) (entry : Entry) → i < length entries →
    entry ≡ get_or entries i entry → group ≡ group_of all i entry → new ≡ text ++ group →
    new ++ groups_from all (i + 1) (drop (i + 1) entries) ≡ text ++ groups_from all i (drop i entries)
unfolding groups_from
groups_next all entries i text group new entry within is group_is more =
    ap (λ l. l ++ groups_from all (i + 1) (drop (i + 1) entries)) (more ∙ ap (λ g. text ++ g) group_is)
    ∙ append_assoc text (group_of all i entry) (groups_from all (i + 1) (drop (i + 1) entries))
    ∙ ap (λ n. text ++ (group_of all i entry ++ groups_from all n (drop (i + 1) entries))) (add-one i)
    ∙ ap (λ rest. text ++ groups_from all i rest) (sym (drop-read entries i entry within is))

-- no refusal is left
pub groups_done : (all entries : List Entry) (i : ℕ) (text : List ℕ) → length entries ≤ i →
    text ++ groups_from all i (drop i entries) ≡ text
unfolding groups_from
groups_done all entries i text done =
    ap (λ rest. text ++ groups_from all i rest) (drop_all i entries done) ∙ append-nil text
