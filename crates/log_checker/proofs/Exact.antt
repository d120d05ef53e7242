-- A section that is right is not wrong.
use Rattle.std.proofs.Common.{◌≡◌, ◌≢◌, ◌∙◌, refl, ap, sym, subst, arith, ℕ, ◌+◌, true, false, ◌||◌, List, [], ◌∷◌, ◌++◌}
use Rattle.std.proofs.Common.{length, inl, inr, Some, None, append_assoc}
use Rattle.std.specs.List.{AllByRecursion}
use Rattle.std.proofs.lemmas.Bool.{or_parts}
use Rattle.std.proofs.lemmas.List.{append-nil, append_cancel_left, length-append}
use Rattle.std.proofs.lemmas.Grind.{flat_map-append}
use Rattle.resolution_check.specs.declared.log.Clause.{Clause}
use Rattle.resolution_check.specs.declared.log.Entry.{Entry}
use Rattle.resolution_check.specs.declared.log.Entry.TheVariants.{Input, End}
use Rattle.resolution_check.specs.Entries.{EachAfter, KeepsGood, adds_empty, fault_of, has_ended, is_end}
use Rattle.resolution_check.specs.Text.{HasText, line_of, log_text, text_of}
use Rattle.resolution_check.proofs.Goods.{free_from_kept}
use Rattle.resolution_check.proofs.Lines.{same_entry}
use Rattle.log_checker.specs.declared.cause.Cause.{Cause}
use Rattle.log_checker.specs.declared.cause.Cause.TheVariants.{BadLine, InputDiffers, Refused, NotRefuted, Missing}
use Rattle.log_checker.specs.Lines.{pieces}
use Rattle.log_checker.specs.Sections.{IsEndedBefore, IsInputOf, IsShownBefore, IsUnopened, IsWrong, IsWrongAfter}
use Rattle.log_checker.specs.Sections.{IsWrongWithin, clause_numbered, opening_text}
use Rattle.log_checker.proofs.Fronts.{pieces_entry}

-- bytes begin with the line of one entry alone
one_first : (d e : Entry) (after more : List ℕ) → HasText d → HasText e → line_of d ++ after ≡ line_of e ++ more → d ≡ e
one_first d e after more h k is =
    let lines : text_of d ∷ pieces after ≡ text_of e ∷ pieces more =
    sym (pieces_entry d after h) ∙ ap pieces is ∙ pieces_entry e more k in
    same_entry d e h k (cc)

some_line : (e : Entry) (more : List ℕ) → line_of e ++ more ≢ []
some_line e more none =
    let long : length (line_of e ++ more) ≡ 0 = ap length none in
    let all : length (line_of e ++ more) ≡ length (line_of e) + length more = length-append (line_of e) more in
    let line : length (line_of e) ≡ length (text_of e) + 1 = length-append (text_of e) (10 ∷ []) in
    absurd (omega (arith, long, all, line))

no_fault : {A : Type 0} (x : A) → None ≡ Some x → ⊥
no_fault x is = absurd (cc)

-- an entry that keeps the list good, is no end, and is a clause where it is an input, is nothing wrong
right_entry : (clauses : List Clause) (done : List Entry) (e : Entry) (after : List ℕ) (cause : Cause) → HasText e →
    KeepsGood done e → is_end e ≡ false → IsInputOf clauses e → IsWrong clauses done (line_of e ++ after) cause → ⊥
right_entry clauses done e after BadLine has_text good goes_on input (some, none) = none e after has_text refl
right_entry clauses done e after (InputDiffers wanted) has_text good goes_on input
    (id, clause, more, has_other, is, same, other) =
    let one : e ≡ Input id clause = one_first e (Input id clause) after more has_text has_other is in
    let I : Entry → Type 0 = IsInputOf clauses in
    let there : clause_numbered clauses id ≡ Some clause = subst I one input in other (same ∙ there)
right_entry clauses done e after (Refused bad) has_text good goes_on input (d, more, has_other, is, goes, of, fault) =
    let one : e ≡ d = one_first e d after more has_text has_other is in
    let free : fault_of done d ≡ None = ap (fault_of done) (sym one) ∙ free_from_kept done e good in
    no_fault bad (sym free ∙ fault)
right_entry clauses done e after NotRefuted has_text good goes_on input (more, is, empty) =
    let one : e ≡ End = one_first e End after more has_text tt is in
    let bad : false ≡ true = sym goes_on ∙ ap is_end one in absurd (cc)
right_entry clauses done e after Missing has_text good goes_on input none = some_line e after none

-- and so is the end behind the empty clause
right_end : (clauses : List Clause) (done : List Entry) (after : List ℕ) (cause : Cause) → adds_empty done ≡ true →
    IsWrong clauses done (line_of End ++ after) cause → ⊥
right_end clauses done after BadLine empty (some, none) = none End after tt refl
right_end clauses done after (InputDiffers wanted) empty (id, clause, more, has_other, is, same, other) =
    let one : End ≡ Input id clause = one_first End (Input id clause) after more tt has_other is in absurd (cc)
right_end clauses done after (Refused bad) empty (d, more, has_other, is, goes, of, fault) =
    let one : End ≡ d = one_first End d after more tt has_other is in
    let bad : true ≡ false = ap is_end one ∙ goes in absurd (cc)
right_end clauses done after NotRefuted empty (more, is, none) =
    let bad : true ≡ false = sym empty ∙ none in absurd (cc)
right_end clauses done after Missing empty none = some_line End after none

-- nothing is wrong after some of the entries of a section that is right
never_wrong : (clauses : List Clause) (done more others : List Entry) (rest tail : List ℕ) (cause : Cause) →
    EachAfter KeepsGood done more → AllByRecursion HasText more → AllByRecursion HasText others →
    AllByRecursion (IsInputOf clauses) more → has_ended more ≡ false → has_ended others ≡ false →
    adds_empty (done ++ more) ≡ true → log_text more ++ (line_of End ++ rest) ≡ log_text others ++ tail →
    IsWrong clauses (done ++ others) tail cause → ⊥
never_wrong clauses done [] [] rest tail cause good texts other_texts inputs on other_on empty is wrong =
    let W : List Entry → Type 0 = λ es. IsWrong clauses es tail cause in
    let V : List ℕ → Type 0 = λ bytes. IsWrong clauses done bytes cause in
    right_end clauses done rest cause (ap adds_empty (sym (append-nil done)) ∙ empty)
    (subst V (sym is) (subst W (append-nil done) wrong))
never_wrong clauses done [] (d ∷ others) rest tail cause good texts other_texts inputs on other_on empty is wrong =
    let line : line_of End ++ rest ≡ line_of d ++ (log_text others ++ tail) =
    is ∙ append_assoc (line_of d) (log_text others) tail in
    let one : End ≡ d = one_first End d rest (log_text others ++ tail) tt other_texts.0 line in
    let ends : is_end d ≡ false = (or_parts (is_end d) (has_ended others) other_on).0 in
    let bad : true ≡ false = ap is_end one ∙ ends in absurd (cc)
never_wrong clauses done (e ∷ more) [] rest tail cause good texts other_texts inputs on other_on empty is wrong =
    let W : List Entry → Type 0 = λ es. IsWrong clauses es tail cause in
    let V : List ℕ → Type 0 = λ bytes. IsWrong clauses done bytes cause in
    let line : line_of e ++ (log_text more ++ (line_of End ++ rest)) ≡ tail =
    sym (append_assoc (line_of e) (log_text more) (line_of End ++ rest)) ∙ is in
    right_entry clauses done e (log_text more ++ (line_of End ++ rest)) cause texts.0 good.0
    (or_parts (is_end e) (has_ended more) on).0 inputs.0 (subst V (sym line) (subst W (append-nil done) wrong))
never_wrong clauses done (e ∷ more) (d ∷ others) rest tail cause good texts other_texts inputs on other_on empty is
    wrong =
    let left : line_of e ++ (log_text more ++ (line_of End ++ rest)) ≡ line_of d ++ (log_text others ++ tail) =
    sym (append_assoc (line_of e) (log_text more) (line_of End ++ rest)) ∙ is
    ∙ append_assoc (line_of d) (log_text others) tail in
    let one : e ≡ d = one_first e d (log_text more ++ (line_of End ++ rest)) (log_text others ++ tail) texts.0
    other_texts.0 left in
    let same : log_text more ++ (line_of End ++ rest) ≡ log_text others ++ tail =
    append_cancel_left (line_of e) _ _ (left ∙ ap (λ (x : Entry). line_of x ++ (log_text others ++ tail)) (sym one)) in
    let W : List Entry → Type 0 = λ es. IsWrong clauses es tail cause in
    let moved : done ++ d ∷ others ≡ (done ++ e ∷ []) ++ others =
    ap (λ (x : Entry). done ++ x ∷ others) (sym one) ∙ sym (append_assoc done (e ∷ []) others) in
    never_wrong clauses (done ++ e ∷ []) more others rest tail cause good.1 texts.1 other_texts.1 inputs.1
    (or_parts (is_end e) (has_ended more) on).1 (or_parts (is_end d) (has_ended others) other_on).1
    (ap adds_empty (append_assoc done (e ∷ []) more) ∙ empty) same (subst W moved wrong)

-- the line of the end stands behind those of the other entries
end_apart : (entries : List Entry) (rest : List ℕ) →
    log_text (entries ++ End ∷ []) ++ rest ≡ log_text entries ++ (line_of End ++ rest)
end_apart entries rest =
    ap (λ t. t ++ rest) (flat_map-append line_of entries (End ∷ [])
    ∙ ap (λ t. log_text entries ++ t) (append-nil (line_of End)))
    ∙ append_assoc (log_text entries) (line_of End) rest

never_within : (clauses : List Clause) (bytes rest : List ℕ) (lines others : ℕ) (cause : Cause) →
    IsEndedBefore clauses bytes lines rest → IsWrongWithin clauses bytes others cause → ⊥
never_within clauses bytes rest lines others cause (entries, refuting, count, whole)
    (front, tail, before, lines_are, parts, wrong) =
    let front_is = refuting.front in
    never_wrong clauses [] entries front rest tail cause front_is.good front_is.texts before.texts front_is.inputs
    front_is.goes_on before.goes_on refuting.empty (sym (end_apart entries rest) ∙ sym whole ∙ parts) wrong

-- a section that is right is not wrong
pub never_both : (name : List ℕ) (clauses : List Clause) (bytes rest : List ℕ) (lines others : ℕ) (cause : Cause) →
    IsShownBefore name clauses bytes lines rest → IsWrongAfter name clauses bytes others cause → ⊥
never_both name clauses bytes rest lines others cause (body, within, whole, count, ended) (inl (none, unopened)) =
    by_cause cause unopened
  where
    by_cause : (c : Cause) → IsUnopened name bytes c → ⊥
    by_cause BadLine (some, other) = other body whole
    by_cause (InputDiffers wanted) never = never
    by_cause (Refused bad) never = never
    by_cause NotRefuted never = never
    by_cause Missing empty =
        let long : 0 ≡ length (113 ∷ 32 ∷ ((name ++ 10 ∷ []) ++ body)) = ap length (sym empty ∙ whole) in
        absurd (omega (arith, long))
never_both name clauses bytes rest lines others cause (body, within, whole, count, ended)
    (inr (other_body, other_within, other_whole, other_count, wrong)) =
    let same : body ≡ other_body = append_cancel_left (opening_text name) body other_body (sym whole ∙ other_whole) in
    let W : List ℕ → Type 0 = λ b. IsWrongWithin clauses b other_within cause in
    never_within clauses body rest within other_within cause ended (subst W (sym same) wrong)

-- entries up to the end that begin the same bytes leave the same bytes
same_ends : (es ds : List Entry) (rest other : List ℕ) → AllByRecursion HasText es → AllByRecursion HasText ds →
    has_ended es ≡ false → has_ended ds ≡ false →
    log_text es ++ (line_of End ++ rest) ≡ log_text ds ++ (line_of End ++ other) → rest ≡ other
same_ends [] [] rest other texts other_texts on other_on is = append_cancel_left (line_of End) rest other is
same_ends [] (d ∷ ds) rest other texts other_texts on other_on is =
    let line : line_of End ++ rest ≡ line_of d ++ (log_text ds ++ (line_of End ++ other)) =
    is ∙ append_assoc (line_of d) (log_text ds) (line_of End ++ other) in
    let one : End ≡ d = one_first End d rest (log_text ds ++ (line_of End ++ other)) tt other_texts.0 line in
    let goes : is_end d ≡ false = (or_parts (is_end d) (has_ended ds) other_on).0 in
    let bad : true ≡ false = ap is_end one ∙ goes in absurd (cc)
same_ends (e ∷ es) [] rest other texts other_texts on other_on is =
    let line : line_of End ++ other ≡ line_of e ++ (log_text es ++ (line_of End ++ rest)) =
    sym is ∙ append_assoc (line_of e) (log_text es) (line_of End ++ rest) in
    let one : End ≡ e = one_first End e other (log_text es ++ (line_of End ++ rest)) tt texts.0 line in
    let goes : is_end e ≡ false = (or_parts (is_end e) (has_ended es) on).0 in
    let bad : true ≡ false = ap is_end one ∙ goes in absurd (cc)
same_ends (e ∷ es) (d ∷ ds) rest other texts other_texts on other_on is =
    let left : line_of e ++ (log_text es ++ (line_of End ++ rest))
    ≡ line_of d ++ (log_text ds ++ (line_of End ++ other)) =
    sym (append_assoc (line_of e) (log_text es) (line_of End ++ rest)) ∙ is
    ∙ append_assoc (line_of d) (log_text ds) (line_of End ++ other) in
    let one : e ≡ d = one_first e d (log_text es ++ (line_of End ++ rest)) (log_text ds ++ (line_of End ++ other)) texts.0
    other_texts.0 left in
    let same : log_text es ++ (line_of End ++ rest) ≡ log_text ds ++ (line_of End ++ other) =
    append_cancel_left (line_of e) _ _
    (left ∙ ap (λ (x : Entry). line_of x ++ (log_text ds ++ (line_of End ++ other))) (sym one)) in
    same_ends es ds rest other texts.1 other_texts.1 (or_parts (is_end e) (has_ended es) on).1
    (or_parts (is_end d) (has_ended ds) other_on).1 same

-- and so do sections that are right
pub one_rest : (name : List ℕ) (clauses : List Clause) (bytes rest other : List ℕ) (lines others : ℕ) →
    IsShownBefore name clauses bytes lines rest → IsShownBefore name clauses bytes others other → rest ≡ other
one_rest name clauses bytes rest other lines others (body, within, whole, count, (entries, refuting, many, parts))
    (other_body, other_within, other_whole, other_count, (front, other_refuting, other_many, other_parts)) =
    let same : body ≡ other_body = append_cancel_left (opening_text name) body other_body (sym whole ∙ other_whole) in
    same_ends entries front rest other refuting.front.texts other_refuting.front.texts refuting.front.goes_on
    other_refuting.front.goes_on
    (sym (end_apart entries rest) ∙ sym parts ∙ same ∙ other_parts ∙ end_apart front other)
