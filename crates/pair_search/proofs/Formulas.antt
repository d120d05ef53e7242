-- What the clauses of two networks say of what makes them answer an ask differently.
use Rattle.std.proofs.Common.{◌≡◌, ◌↔◌, ◌⊎◌, ℕ, ◌≤◌, Bool, true, false, List, [], ◌∷◌, ◌++◌, Option}
use Rattle.std.proofs.Common.{refl, ap, sym, subst, arith, ◌∙◌, inl, inr}
use Rattle.std.proofs.lemmas.Bool.{and_from, and_parts}
use Rattle.std.proofs.lemmas.Grind.{flat_map-append}
use Rattle.mw_outside.specs.Taken.{Takes, TakesPart, takes_more, part_more, part_of_all, part_stops}
use Rattle.term_store.specs.Terms.{truth, value_of}
use Rattle.resolution_check.specs.declared.log.Clause.{Clause}
use Rattle.resolution_check.specs.declared.log.Entry.{Entry}
use Rattle.resolution_check.specs.declared.log.Entry.TheVariants.{End}
use Rattle.resolution_check.specs.Entries.{IsUnsatisfiable, addition_count, satisfies}
use Rattle.resolution_check.specs.Text.{line_of, log_text}
use Rattle.cnf_blaster.specs.Cnf.{clauses_of}
use Rattle.cnf_blaster.specs.Meaning.{CanBeTrue, roots_value}
use Rattle.cdcl_search.specs.declared.outcome.Outcome.{Outcome}
use Rattle.cdcl_search.specs.declared.outcome.Outcome.TheVariants as found
use Rattle.cdcl_search.specs.Outcomes.{IsCut, IsLogged as IsLoggedBySearch, IsSearchLog, OnUnknown, Shows}
use Rattle.compared_nets.specs.Compared.{AnswerSame, AreBeside, DoDiffer, FatesBeside, FatesIn}
use Rattle.ios_ast.specs.declared.file.File.{File}
use Rattle.net_model.specs.Kept.{Network}
use Rattle.packet_fates.specs.Sides.{AreSame}
use Rattle.route_record.specs.declared.Environment.{Environment}
use Rattle.route_record.specs.declared.World.{World}
use Rattle.routings_beside.specs.Pairs.{environment_by, left_values, question_of, right_values, side_bits, world_by}
use Rattle.run_answers.specs.Answering.{end_text}
use Rattle.run_answers.specs.Verdicts.{opening_text}
use Rattle.same_asks.specs.declared.same.Same.{Same}
use Rattle.question_search.proofs.Formulas.{few_shown}
use Rattle.pair_search.specs.declared.formula.PairFormula.{PairFormula}
use Rattle.pair_search.specs.declared.verdict.SameVerdict.{SameVerdict}
use Rattle.pair_search.specs.declared.verdict.SameVerdict.TheVariants as verdict
use Rattle.pair_search.specs.Formulas.{IsPairFormula}
use Rattle.pair_search.specs.Searches.{IsSearchedSo, IsToldSo, IsUnfinished}
use Rattle.pair_search.specs.Verdicts.{IsDifferent, IsRight, IsSearched, ShowsVerdict, same_section}

-- the values of two routings side by side make the root true, or their fates are the same
can_or_same : (left right : Network) (ask : Same) (formula : PairFormula) → IsPairFormula left right ask formula →
    (one other : World) (around about : Environment) →
    AreBeside left.files right.files ask one other around about →
    CanBeTrue formula.encoding.terms.nodes (formula.encoding.root ∷ [])
    ⊎ AreSame (FatesIn left.files one ask) (FatesBeside right.files other ask)
can_or_same left right ask formula is one other around about beside =
    by (value_of formula.encoding.terms.nodes bits formula.encoding.root.0) refl
  where
    bits : List Bool
    bits = side_bits left ask one around ++ side_bits right ask other about

    by : (b : Bool) → value_of formula.encoding.terms.nodes bits formula.encoding.root.0 ≡ b →
        CanBeTrue formula.encoding.terms.nodes (formula.encoding.root ∷ [])
        ⊎ AreSame (FatesIn left.files one ask) (FatesBeside right.files other ask)
    by true holds = inl (bits, and_from _ _ holds refl)
    by false fails = inr (is.encoding.complete one other around about beside fails)

-- the root can be true exactly where the fates of some two routings side by side are not the same
pub encodes : (left right : Network) (ask : Same) (formula : PairFormula) → IsPairFormula left right ask formula →
    CanBeTrue formula.encoding.terms.nodes (formula.encoding.root ∷ []) ↔ DoDiffer left.files right.files ask
encodes left right ask formula is = (to, from) where
  to : CanBeTrue formula.encoding.terms.nodes (formula.encoding.root ∷ []) → DoDiffer left.files right.files ask
  to (valuation, holds) =
      let say = is.encoding.sound valuation (and_parts _ _ holds).0 in (
        world_by left ask (left_values left ask valuation),
        world_by right ask (right_values left right ask valuation),
        environment_by left ask (left_values left ask valuation),
        environment_by right ask (right_values left right ask valuation),
        say.beside,
        say.differ,
      )

  from : DoDiffer left.files right.files ask → CanBeTrue formula.encoding.terms.nodes (formula.encoding.root ∷ [])
  from (one, other, around, about, beside, differ) =
      by (can_or_same left right ask formula is one other around about beside)
    where
      by : CanBeTrue formula.encoding.terms.nodes (formula.encoding.root ∷ [])
          ⊎ AreSame (FatesIn left.files one ask) (FatesBeside right.files other ask) →
          CanBeTrue formula.encoding.terms.nodes (formula.encoding.root ∷ [])
      by (inl can) = can
      by (inr same) = absurd (differ same)

-- all fates are the same where the clauses cannot be satisfied
pub unsat_same : (left right : Network) (ask : Same) (formula : PairFormula) → IsPairFormula left right ask formula →
    IsUnsatisfiable formula.cnf.clauses → AnswerSame left.files right.files ask
unsat_same left right ask formula is never one other around about beside =
    by (can_or_same left right ask formula is one other around about beside)
  where
    by : CanBeTrue formula.encoding.terms.nodes (formula.encoding.root ∷ [])
        ⊎ AreSame (FatesIn left.files one ask) (FatesBeside right.files other ask) →
        AreSame (FatesIn left.files one ask) (FatesBeside right.files other ask)
    by (inl can) =
        let some = is.equal.1 can in let clash : true ≡ false = sym some.1 ∙ never some.0 in absurd cc
    by (inr same) = same

-- values that satisfy the clauses make the root true
pub sat_true : (left right : Network) (ask : Same) (formula : PairFormula) (values row : List Bool) →
    IsPairFormula left right ask formula → satisfies (truth values) formula.cnf.clauses ≡ true →
    (satisfies (truth values) (clauses_of formula.encoding.terms.nodes (formula.encoding.root ∷ [])) ≡ true →
    roots_value formula.encoding.terms.nodes (formula.encoding.root ∷ []) row ≡ true) →
    value_of formula.encoding.terms.nodes row formula.encoding.root.0 ≡ true
sat_true left right ask formula values row is satisfied roots =
    let S : List Clause → Type 0 = λ cs. satisfies (truth values) cs ≡ true in
    (and_parts _ _ (roots (subst S is.clauses satisfied))).0

-- what shows values shows the verdict that names two routings
pub different_shown : (budget : ℕ) (entries : List Entry) (values : List Bool) (said : SameVerdict) →
    IsDifferent said → Shows budget entries (found.Sat values) → ShowsVerdict budget entries said
different_shown budget entries values verdict.Same is shows = absurd is
different_shown budget entries values (verdict.Different one other apart) is shows = shows
different_shown budget entries values (verdict.Unknown after) is shows = absurd is

-- ---- sections

-- the entries of a search for the clauses of an ask
searched_from : (left right : Network) (ask : Same) (formula : PairFormula) (budget : ℕ) (entries : List Entry) →
    IsPairFormula left right ask formula → IsSearchLog formula.cnf.clauses entries → addition_count entries ≤ budget →
    IsSearched left.files right.files ask budget entries
searched_from left right ask formula budget entries is log within =
    let L : List Clause → Type 0 = λ cs. IsSearchLog cs entries in record {
      nodes = formula.encoding.terms.nodes;
      root = formula.encoding.root;
      encodes = encodes left right ask formula is;
      log = subst L is.clauses log;
      within = within;
    }

-- opened, filled and closed, a section stands
section_is : (ask : Same) (entries : List Entry) →
    opening_text (question_of ask) ++ (log_text entries ++ end_text) ≡ same_section ask entries
section_is ask entries =
    ap (λ t. opening_text (question_of ask) ++ t) (sym (flat_map-append line_of entries (End ∷ [])))

pub section_stands : (left right : Network) (ask : Same) (formula : PairFormula) (budget : ℕ) (outcome : Outcome)
    (before opened filled now : Option (List ℕ)) (tolds : List (Option (List ℕ))) →
    IsPairFormula left right ask formula → Takes before opened (opening_text (question_of ask)) →
    IsLoggedBySearch opened filled formula.cnf.clauses budget tolds outcome → Takes filled now end_text →
    IsSearchedSo left.files right.files budget ask outcome before now tolds
section_stands left right ask formula budget outcome before opened filled now tolds is opens fills closes =
    let T : List ℕ → Type 0 = Takes before now in (
      fills.entries,
      searched_from left right ask formula budget fills.entries is fills.log
          (few_shown budget fills.entries outcome fills.shows),
      fills.shows,
      subst T (section_is ask fills.entries)
          (takes_more before opened now _ _ opens (takes_more opened filled now _ _ fills.text closes)),
      fills.bumps,
    )

-- a section that was opened and filled in part
pub section_filled : (left right : Network) (ask : Same) (formula : PairFormula) (budget : ℕ)
    (before opened now : Option (List ℕ)) → IsPairFormula left right ask formula →
    Takes before opened (opening_text (question_of ask)) → IsCut opened now formula.cnf.clauses budget →
    IsUnfinished left.files right.files budget ask before now
section_filled left right ask formula budget before opened now is opens cut =
    let T : List ℕ → Type 0 = TakesPart before now in (
      same_section ask cut.entries,
      inr (cut.entries, searched_from left right ask formula budget cut.entries is cut.log cut.within, refl),
      subst T (section_is ask cut.entries)
          (part_more before opened now _ _ opens
          (part_stops opened now (log_text cut.entries) end_text cut.text)),
    )

-- one that was opened and filled, and closed in part
pub section_closed : (left right : Network) (ask : Same) (formula : PairFormula) (budget : ℕ) (outcome : Outcome)
    (before opened filled now : Option (List ℕ)) (tolds : List (Option (List ℕ))) →
    IsPairFormula left right ask formula → Takes before opened (opening_text (question_of ask)) →
    IsLoggedBySearch opened filled formula.cnf.clauses budget tolds outcome → TakesPart filled now end_text →
    IsUnfinished left.files right.files budget ask before now
section_closed left right ask formula budget outcome before opened filled now tolds is opens fills part =
    let T : List ℕ → Type 0 = TakesPart before now in (
      same_section ask fills.entries,
      inr (
        fills.entries,
        searched_from left right ask formula budget fills.entries is fills.log
            (few_shown budget fills.entries outcome fills.shows),
        refl,
      ),
      subst T (section_is ask fills.entries)
          (part_more before opened now _ _ opens (part_more opened filled now _ _ fills.text part)),
    )

-- one that was opened
pub section_opened : (left right : List File) (ask : Same) (budget : ℕ) (before now : Option (List ℕ)) →
    TakesPart before now (opening_text (question_of ask)) → IsUnfinished left right budget ask before now
section_opened left right ask budget before now part = (opening_text (question_of ask), inl refl, part)

-- a whole one, of which no verdict came
pub section_whole : (left right : List File) (ask : Same) (budget : ℕ) (outcome : Outcome)
    (before now : Option (List ℕ)) (tolds : List (Option (List ℕ))) →
    IsSearchedSo left right budget ask outcome before now tolds → IsUnfinished left right budget ask before now
section_whole left right ask budget outcome before now tolds (entries, searched, shows, takes, bumps) =
    (same_section ask entries, inr (entries, searched, refl), part_of_all before now _ takes)

-- a right verdict, and the section that shows it
pub verdict_logged : (left right : List File) (budget : ℕ) (ask : Same) (outcome : Outcome) (said : SameVerdict)
    (before now : Option (List ℕ)) (tolds : List (Option (List ℕ))) →
    IsSearchedSo left right budget ask outcome before now tolds → OnUnknown outcome (λ added. added ≡ budget) →
    IsRight left right ask said →
    ((most : ℕ) (entries : List Entry) → OnUnknown outcome (λ added. added ≡ most) → Shows most entries outcome →
    ShowsVerdict most entries said) → IsToldSo left right budget ask said before now tolds
verdict_logged left right budget ask outcome said before now tolds (entries, searched, shows, takes, bumps) after right_is
    shown =
    (entries, (right_is, record { search = searched; shows = shown budget entries after shows }), takes, bumps)
