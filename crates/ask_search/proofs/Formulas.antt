-- What the clauses of an ask say of what breaks it.
use Rattle.std.proofs.Common.{◌≡◌, ◌↔◌, ℕ, ◌≤◌, Bool, true, false, List, [], ◌∷◌, ◌++◌, Option}
use Rattle.std.proofs.Common.{refl, ap, sym, subst, arith, ◌∙◌, inl, inr}
use Rattle.std.proofs.lemmas.Bool.{and_from, and_parts}
use Rattle.std.proofs.lemmas.Grind.{flat_map-append}
use Rattle.mw_outside.specs.Taken.{Takes, TakesPart, takes_more, part_more, part_of_all, part_stops}
use Rattle.term_store.specs.Terms.{truth, value_of}
use Rattle.resolution_check.specs.declared.log.Clause.{Clause}
use Rattle.resolution_check.specs.declared.log.Entry.{Entry}
use Rattle.resolution_check.specs.declared.log.Entry.TheVariants.{End}
use Rattle.resolution_check.specs.Entries.{IsUnsatisfiable, addition_count, satisfies}
use Rattle.resolution_check.specs.Text.{line_of, log_text}
use Rattle.cnf_blaster.specs.Cnf.{clauses_of}
use Rattle.cnf_blaster.specs.Meaning.{CanBeTrue, roots_value}
use Rattle.cdcl_search.specs.declared.outcome.Outcome.{Outcome}
use Rattle.cdcl_search.specs.declared.outcome.Outcome.TheVariants as found
use Rattle.cdcl_search.specs.Outcomes.{IsCut, IsLogged as IsLoggedBySearch, IsSearchLog, OnUnknown, Shows}
use Rattle.ios_ast.specs.declared.file.File.{File}
use Rattle.route_record.specs.declared.tracked.Tracked.{Tracked}
use Rattle.run_answers.specs.Answering.{end_text}
use Rattle.run_answers.specs.Verdicts.{opening_text}
use Rattle.export_asks.specs.declared.ask.Ask.{Ask}
use Rattle.question_search.proofs.Formulas.{few_shown}
use Rattle.ask_search.specs.declared.formula.AskFormula.{AskFormula}
use Rattle.ask_search.specs.declared.verdict.AskVerdict.{AskVerdict}
use Rattle.ask_search.specs.declared.verdict.AskVerdict.TheVariants.{Broken, Holds, Unknown}
use Rattle.ask_search.specs.Encoded.{environment_for, world_for}
use Rattle.ask_search.specs.Exporting.{IsExportable, IsUnexported, question_of}
use Rattle.ask_search.specs.Formulas.{IsAskFormula}
use Rattle.ask_search.specs.Searches.{IsSearchedSo, IsToldSo, IsUnfinished}
use Rattle.ask_search.specs.Verdicts.{IsBroken, IsRight, IsSearched, ShowsVerdict, ask_section}

-- a routing that exports makes the root true under some values
exportable_can : (files : List File) (tracked : Tracked) (ask : Ask) (formula : AskFormula) →
    IsAskFormula files tracked ask formula → IsExportable files ask →
    CanBeTrue formula.encoding.terms.nodes (formula.encoding.root ∷ [])
exportable_can files tracked ask formula is some =
    let values = is.encoding.complete some in (values.0, and_from _ _ values.1 refl)

-- the root can be true exactly where some routing exports
pub encodes : (files : List File) (tracked : Tracked) (ask : Ask) (formula : AskFormula) →
    IsAskFormula files tracked ask formula →
    CanBeTrue formula.encoding.terms.nodes (formula.encoding.root ∷ []) ↔ IsExportable files ask
encodes files tracked ask formula is = (
  λ (can : CanBeTrue formula.encoding.terms.nodes (formula.encoding.root ∷ [])).
      let by = is.encoding.sound can.0 (and_parts _ _ can.1).0 in
      let world = world_for files tracked ask can.0 in
      let out = by.exported in (
        world.packet.dst,
        world.failures,
        environment_for files tracked ask can.0,
        world.tables,
        out.0,
        record {
          destination = by.breaking.packet.ranges.dst;
          environment_fits = by.breaking.environment_fits;
          failures_fit = by.breaking.failures;
          stable = by.breaking.stable;
          short = out.1;
          exported = out.2;
        },
      ),
  exportable_can files tracked ask formula is,
)

-- no routing exports where the clauses cannot be satisfied
pub unsat_holds : (files : List File) (tracked : Tracked) (ask : Ask) (formula : AskFormula) →
    IsAskFormula files tracked ask formula → IsUnsatisfiable formula.cnf.clauses → IsUnexported files ask
unsat_holds files tracked ask formula is never d failures environment tables len exporting =
    let some = is.equal.1 (exportable_can files tracked ask formula is
    (d, failures, environment, tables, len, exporting)) in
    let clash : true ≡ false = sym some.1 ∙ never some.0 in absurd cc

-- values that satisfy the clauses make the root true
pub sat_true : (files : List File) (tracked : Tracked) (ask : Ask) (formula : AskFormula) (values row : List Bool) →
    IsAskFormula files tracked ask formula → satisfies (truth values) formula.cnf.clauses ≡ true →
    (satisfies (truth values) (clauses_of formula.encoding.terms.nodes (formula.encoding.root ∷ [])) ≡ true →
    roots_value formula.encoding.terms.nodes (formula.encoding.root ∷ []) row ≡ true) →
    value_of formula.encoding.terms.nodes row formula.encoding.root.0 ≡ true
sat_true files tracked ask formula values row is satisfied roots =
    let S : List Clause → Type 0 = λ cs. satisfies (truth values) cs ≡ true in
    (and_parts _ _ (roots (subst S is.clauses satisfied))).0

-- what shows values shows what they break
pub broken_shown : (budget : ℕ) (entries : List Entry) (values : List Bool) (verdict : AskVerdict) → IsBroken verdict →
    Shows budget entries (found.Sat values) → ShowsVerdict budget entries verdict
broken_shown budget entries values Holds is shows = absurd is
broken_shown budget entries values (Broken len cex) is shows = shows
broken_shown budget entries values (Unknown after) is shows = absurd is

-- ---- sections

-- the entries of a search for the clauses of an ask
searched_from : (files : List File) (tracked : Tracked) (ask : Ask) (formula : AskFormula) (budget : ℕ)
    (entries : List Entry) → IsAskFormula files tracked ask formula → IsSearchLog formula.cnf.clauses entries →
    addition_count entries ≤ budget → IsSearched files ask budget entries
searched_from files tracked ask formula budget entries is log within =
    let L : List Clause → Type 0 = λ cs. IsSearchLog cs entries in record {
      nodes = formula.encoding.terms.nodes;
      root = formula.encoding.root;
      encodes = encodes files tracked ask formula is;
      log = subst L is.clauses log;
      within = within;
    }

-- opened, filled and closed, a section stands
section_is : (ask : Ask) (entries : List Entry) →
    opening_text (question_of ask) ++ (log_text entries ++ end_text) ≡ ask_section ask entries
section_is ask entries =
    ap (λ t. opening_text (question_of ask) ++ t) (sym (flat_map-append line_of entries (End ∷ [])))

pub section_stands : (files : List File) (tracked : Tracked) (ask : Ask) (formula : AskFormula) (budget : ℕ)
    (outcome : Outcome) (before opened filled now : Option (List ℕ)) (tolds : List (Option (List ℕ))) →
    IsAskFormula files tracked ask formula → Takes before opened (opening_text (question_of ask)) →
    IsLoggedBySearch opened filled formula.cnf.clauses budget tolds outcome → Takes filled now end_text →
    IsSearchedSo files budget ask outcome before now tolds
section_stands files tracked ask formula budget outcome before opened filled now tolds is opens fills closes =
    let T : List ℕ → Type 0 = Takes before now in (
      fills.entries,
      searched_from files tracked ask formula budget fills.entries is fills.log
          (few_shown budget fills.entries outcome fills.shows),
      fills.shows,
      subst T (section_is ask fills.entries)
          (takes_more before opened now _ _ opens (takes_more opened filled now _ _ fills.text closes)),
      fills.bumps,
    )

-- a section that was opened and filled in part
pub section_filled : (files : List File) (tracked : Tracked) (ask : Ask) (formula : AskFormula) (budget : ℕ)
    (before opened now : Option (List ℕ)) → IsAskFormula files tracked ask formula →
    Takes before opened (opening_text (question_of ask)) → IsCut opened now formula.cnf.clauses budget →
    IsUnfinished files budget ask before now
section_filled files tracked ask formula budget before opened now is opens cut =
    let T : List ℕ → Type 0 = TakesPart before now in (
      ask_section ask cut.entries,
      inr (cut.entries, searched_from files tracked ask formula budget cut.entries is cut.log cut.within, refl),
      subst T (section_is ask cut.entries)
          (part_more before opened now _ _ opens
          (part_stops opened now (log_text cut.entries) end_text cut.text)),
    )

-- one that was opened and filled, and closed in part
pub section_closed : (files : List File) (tracked : Tracked) (ask : Ask) (formula : AskFormula) (budget : ℕ)
    (outcome : Outcome) (before opened filled now : Option (List ℕ)) (tolds : List (Option (List ℕ))) →
    IsAskFormula files tracked ask formula → Takes before opened (opening_text (question_of ask)) →
    IsLoggedBySearch opened filled formula.cnf.clauses budget tolds outcome → TakesPart filled now end_text →
    IsUnfinished files budget ask before now
section_closed files tracked ask formula budget outcome before opened filled now tolds is opens fills part =
    let T : List ℕ → Type 0 = TakesPart before now in (
      ask_section ask fills.entries,
      inr (
        fills.entries,
        searched_from files tracked ask formula budget fills.entries is fills.log
            (few_shown budget fills.entries outcome fills.shows),
        refl,
      ),
      subst T (section_is ask fills.entries)
          (part_more before opened now _ _ opens (part_more opened filled now _ _ fills.text part)),
    )

-- one that was opened
pub section_opened : (files : List File) (ask : Ask) (budget : ℕ) (before now : Option (List ℕ)) →
    TakesPart before now (opening_text (question_of ask)) → IsUnfinished files budget ask before now
section_opened files ask budget before now part = (opening_text (question_of ask), inl refl, part)

-- a whole one, of which no verdict came
pub section_whole : (files : List File) (ask : Ask) (budget : ℕ) (outcome : Outcome) (before now : Option (List ℕ))
    (tolds : List (Option (List ℕ))) → IsSearchedSo files budget ask outcome before now tolds →
    IsUnfinished files budget ask before now
section_whole files ask budget outcome before now tolds (entries, searched, shows, takes, bumps) =
    (ask_section ask entries, inr (entries, searched, refl), part_of_all before now _ takes)

-- a right verdict, and the section that shows it
pub verdict_logged : (files : List File) (budget : ℕ) (ask : Ask) (outcome : Outcome) (verdict : AskVerdict)
    (before now : Option (List ℕ)) (tolds : List (Option (List ℕ))) →
    IsSearchedSo files budget ask outcome before now tolds → OnUnknown outcome (λ added. added ≡ budget) →
    IsRight files ask verdict →
    ((most : ℕ) (entries : List Entry) → OnUnknown outcome (λ added. added ≡ most) → Shows most entries outcome →
    ShowsVerdict most entries verdict) → IsToldSo files budget ask verdict before now tolds
verdict_logged files budget ask outcome verdict before now tolds (entries, searched, shows, takes, bumps)
    after right shown =
    (entries, (right, record { search = searched; shows = shown budget entries after shows }), takes, bumps)
