-- What the clauses of a question say of what breaks it.
use Rattle.std.proofs.Common.{◌≡◌, ◌↔◌, ℕ, ◌+◌, ◌<◌, ◌≤◌, Bool, true, false, List, [], ◌∷◌, ◌++◌, length, Option, Some}
use Rattle.std.proofs.Common.{None, refl, ap, sym, subst, arith, ◌∙◌, append_assoc, inl, inr}
use Rattle.std.proofs.Common.{Result, Ok, Err}
use Rattle.std.specs.Prelude.{OnErr}
use Rattle.std.proofs.lemmas.Bool.{and_from, and_parts}
use Rattle.std.proofs.lemmas.Grind.{flat_map-append}
use Rattle.mw_outside.specs.Taken.{Takes, TakesPart, takes_more, part_more, part_of_all, part_stops}
use Rattle.term_store.specs.Terms.{truth, value_of}
use Rattle.resolution_check.specs.declared.log.Clause.{Clause}
use Rattle.resolution_check.specs.declared.log.Entry.{Entry}
use Rattle.resolution_check.specs.declared.log.Entry.TheVariants.{End}
use Rattle.resolution_check.specs.Entries.{IsUnsatisfiable, addition_count, satisfies}
use Rattle.resolution_check.specs.Text.{line_of, log_text}
use Rattle.cnf_blaster.specs.Cnf.{clauses_of}
use Rattle.cnf_blaster.specs.Meaning.{CanBeTrue, roots_value}
use Rattle.cdcl_search.specs.declared.outcome.Outcome.{Outcome}
use Rattle.cdcl_search.specs.declared.outcome.Outcome.TheVariants as found
use Rattle.cdcl_search.specs.Outcomes.{IsCut, IsLogged as IsLoggedBySearch, IsSearchLog, OnUnknown, Shows}
use Rattle.ios_ast.specs.declared.file.File.{File}
use Rattle.route_record.specs.declared.Environment.{Environment}
use Rattle.route_record.specs.declared.World.{World}
use Rattle.route_record.specs.declared.tracked.Tracked.{Tracked}
use Rattle.question_lang.specs.Breaking.{Breaks}
use Rattle.question_lang.specs.declared.question.Question.{Question}
use Rattle.question_lang.specs.declared.walk.Walk.{Walk}
use Rattle.cex_json.specs.declared.counterexample.Counterexample.{Counterexample}
use Rattle.cex_json.specs.Counterexamples.{world_of}
use Rattle.question_lang.specs.Breaking.{IsBreakable, IsBreaking}
use Rattle.sliced_routings.proofs.Sliced.{has_sliced}
use Rattle.routing_encoder.specs.Encoded.{routing_bits}
use Rattle.routing_worlds.specs.Worlds.{environment_from, world_from}
use Rattle.run_answers.specs.declared.verdict.Verdict.{Verdict}
use Rattle.question_search.specs.declared.formula.Formula.{Formula}
use Rattle.run_answers.specs.Answering.{IsSearchedSo, IsToldSo, IsUnfinished, answer_of, end_text}
use Rattle.question_search.specs.Formulas.{IsFormula}
use Rattle.run_answers.specs.Running.{IsSectionOf}
use Rattle.run_answers.specs.Verdicts.{IsRight, IsSearched, ShowsVerdict, opening_text}
use Rattle.cex_json.specs.Counterexamples.{IsTrueCounterexample}
use Rattle.question_lang.specs.Breaking.{IsUnbroken}
use Rattle.run_answers.specs.Verdicts.{section_text}

-- a routing that breaks the question has a sliced one, whose bits make the root true
breakable_can : (files : List File) (tracked : Tracked) (question : Question) (formula : Formula) →
    IsFormula files tracked question formula → (world : World) (environment : Environment) (walk : Option Walk) →
    IsBreaking files question world environment walk →
    CanBeTrue formula.encoding.terms.nodes (formula.encoding.root ∷ [])
breakable_can files tracked question formula is world environment walk breaking =
    let plan = formula.encoding.world.plan in
    let sliced = has_sliced files question plan is.coarsest.fits world environment walk breaking in (
      routing_bits files tracked question plan sliced.0 sliced.1,
      and_from _ _ (is.encoding.complete sliced.0 sliced.1 walk sliced.2) refl,
    )

-- the root can be true exactly where something breaks the question
pub encodes : (files : List File) (tracked : Tracked) (question : Question) (formula : Formula) → IsFormula files tracked question formula →
    CanBeTrue formula.encoding.terms.nodes (formula.encoding.root ∷ []) ↔ IsBreakable files question
encodes files tracked question formula is = (
  λ (can : CanBeTrue formula.encoding.terms.nodes (formula.encoding.root ∷ [])).
      let breaking = (is.encoding.sound is.coarsest.fits can.0 (and_parts _ _ can.1).0).1 in (
        world_from files tracked question formula.encoding.world.plan (truth can.0) 0,
        environment_from files tracked question formula.encoding.world.plan (truth can.0) 0,
        breaking.0,
        breaking.1.breaking,
      ),
  λ (b : IsBreakable files question). breakable_can files tracked question formula is b.0 b.1 b.2 b.3,
)

-- nothing breaks a question whose clauses cannot be satisfied
pub unsat_holds : (files : List File) (tracked : Tracked) (question : Question) (formula : Formula) → IsFormula files tracked question formula →
    IsUnsatisfiable formula.cnf.clauses → IsUnbroken files question
unsat_holds files tracked question formula is never world environment walk breaking =
    let some = is.equal.1 (breakable_can files tracked question formula is world environment walk breaking) in
    let clash : true ≡ false = sym some.1 ∙ never some.0 in absurd cc

-- values that satisfy the clauses make the root true
pub sat_true : (files : List File) (tracked : Tracked) (question : Question) (formula : Formula) (values row : List Bool) →
    IsFormula files tracked question formula → satisfies (truth values) formula.cnf.clauses ≡ true →
    (satisfies (truth values) (clauses_of formula.encoding.terms.nodes (formula.encoding.root ∷ [])) ≡ true →
    roots_value formula.encoding.terms.nodes (formula.encoding.root ∷ []) row ≡ true) →
    value_of formula.encoding.terms.nodes row formula.encoding.root.0 ≡ true
sat_true files tracked question formula values row is satisfied roots =
    let S : List Clause → Type 0 = λ cs. satisfies (truth values) cs ≡ true in
    (and_parts _ _ (roots (subst S is.clauses satisfied))).0

-- what shows an outcome shows its verdict
pub few_shown : (budget : ℕ) (entries : List Entry) (outcome : Outcome) → Shows budget entries outcome →
    addition_count entries ≤ budget
few_shown budget entries found.Unsat shows = shows.1
few_shown budget entries (found.Sat values) shows = let few = shows.1 in omega (arith, few)
few_shown budget entries (found.Unknown added) shows = let all = shows.1 in omega (arith, all)

-- the entries of a search for the clauses of a question
searched_from : (files : List File) (tracked : Tracked) (question : Question) (formula : Formula) (budget : ℕ) (entries : List Entry) →
    IsFormula files tracked question formula → IsSearchLog formula.cnf.clauses entries → addition_count entries ≤ budget →
    IsSearched files question budget entries
searched_from files tracked question formula budget entries is log within =
    let L : List Clause → Type 0 = λ cs. IsSearchLog cs entries in record {
      nodes = formula.encoding.terms.nodes;
      root = formula.encoding.root;
      encodes = encodes files tracked question formula is;
      log = subst L is.clauses log;
      within = within;
    }

-- opened, filled and closed, a section stands
section_is : (question : Question) (entries : List Entry) →
    opening_text question ++ (log_text entries ++ end_text) ≡ section_text question entries
section_is question entries =
    ap (λ t. opening_text question ++ t) (sym (flat_map-append line_of entries (End ∷ [])))

pub section_stands : (files : List File) (tracked : Tracked) (question : Question) (formula : Formula) (budget : ℕ) (outcome : Outcome)
    (before opened filled now : Option (List ℕ)) (tolds : List (Option (List ℕ))) → IsFormula files tracked question formula →
    Takes before opened (opening_text question) → IsLoggedBySearch opened filled formula.cnf.clauses budget tolds outcome →
    Takes filled now end_text → IsSearchedSo files budget question outcome before now tolds
section_stands files tracked question formula budget outcome before opened filled now tolds is opens fills closes =
    let T : List ℕ → Type 0 = Takes before now in (
      fills.entries,
      searched_from files tracked question formula budget fills.entries is fills.log
          (few_shown budget fills.entries outcome fills.shows),
      fills.shows,
      subst T (section_is question fills.entries)
          (takes_more before opened now _ _ opens (takes_more opened filled now _ _ fills.text closes)),
      fills.bumps,
    )

-- a section that was opened and filled in part
pub section_filled : (files : List File) (tracked : Tracked) (question : Question) (formula : Formula) (budget : ℕ)
    (before opened now : Option (List ℕ)) → IsFormula files tracked question formula →
    Takes before opened (opening_text question) → IsCut opened now formula.cnf.clauses budget →
    IsUnfinished files budget question before now
section_filled files tracked question formula budget before opened now is opens cut =
    let T : List ℕ → Type 0 = TakesPart before now in (
      section_text question cut.entries,
      inr (cut.entries, searched_from files tracked question formula budget cut.entries is cut.log cut.within, refl),
      subst T (section_is question cut.entries)
          (part_more before opened now _ _ opens
          (part_stops opened now (log_text cut.entries) end_text cut.text)),
    )

-- one that was opened and filled, and closed in part
pub section_closed : (files : List File) (tracked : Tracked) (question : Question) (formula : Formula) (budget : ℕ) (outcome : Outcome)
    (before opened filled now : Option (List ℕ)) (tolds : List (Option (List ℕ))) → IsFormula files tracked question formula →
    Takes before opened (opening_text question) → IsLoggedBySearch opened filled formula.cnf.clauses budget tolds outcome →
    TakesPart filled now end_text → IsUnfinished files budget question before now
section_closed files tracked question formula budget outcome before opened filled now tolds is opens fills part =
    let T : List ℕ → Type 0 = TakesPart before now in (
      section_text question fills.entries,
      inr (
        fills.entries,
        searched_from files tracked question formula budget fills.entries is fills.log
            (few_shown budget fills.entries outcome fills.shows),
        refl,
      ),
      subst T (section_is question fills.entries)
          (part_more before opened now _ _ opens (part_more opened filled now _ _ fills.text part)),
    )

-- one that was opened
pub section_opened : (files : List File) (question : Question) (budget : ℕ) (before now : Option (List ℕ)) →
    TakesPart before now (opening_text question) → IsUnfinished files budget question before now
section_opened files question budget before now part = (opening_text question, inl refl, part)

-- a whole one, of which no verdict came
pub section_whole : (files : List File) (question : Question) (budget : ℕ) (outcome : Outcome)
    (before now : Option (List ℕ)) (tolds : List (Option (List ℕ))) →
    IsSearchedSo files budget question outcome before now tolds → IsUnfinished files budget question before now
section_whole files question budget outcome before now tolds (entries, searched, shows, takes, bumps) =
    (section_text question entries, inr (entries, searched, refl), part_of_all before now _ takes)

-- a right verdict, and the section that shows it
pub verdict_logged : (files : List File) (budget number : ℕ) (question : Question) (outcome : Outcome) (verdict :
    Verdict)
    (before now : Option (List ℕ)) (tolds : List (Option (List ℕ))) →
    IsSearchedSo files budget question outcome before now tolds → OnUnknown outcome (λ added. added ≡ budget) →
    IsRight files number question verdict →
    ((most : ℕ) (entries : List Entry) → OnUnknown outcome (λ added. added ≡ most) → Shows most entries outcome →
    ShowsVerdict most entries verdict) → IsToldSo files budget number question verdict before now tolds
verdict_logged files budget number question outcome verdict before now tolds (entries, searched, shows, takes, bumps)
    after right shown =
    (entries, (right, record { search = searched; shows = shown budget entries after shows }), takes, bumps)
