-- Trials one after another.
use Rattle.std.proofs.Common.{◌≡◌, ◌∙◌, ℕ, suc, ◌+◌, ◌<◌, ◌≤◌, true, false, cond, nat_eq, List, [], ◌∷◌, ◌++◌, length}
use Rattle.std.proofs.Common.{Option, Some, None, Result, refl, sym, ap, subst, arith, append_assoc, inl, inr}
use Rattle.std.specs.Prelude.{◌⊎◌, IfOk, IfSome, slice_get}
use Rattle.std.proofs.lemmas.Bool.{cases_order}
use Rattle.std.proofs.lemmas.List.{append-nil, length-append}
use Rattle.std.proofs.lemmas.Option.{slice_get_within}
use Rattle.cdcl_search.specs.Turns.{TellBumps}
use Rattle.cex_json.specs.declared.counterexample.Counterexample.{Counterexample}
use Rattle.cex_json.specs.Counterexamples.{world_of}
use Rattle.ios_ast.specs.declared.file.File.{File}
use Rattle.mw_outside.specs.Taken.{Takes, takes_more, takes_none}
use Rattle.mw_text.proofs.Lists.{each_place-push}
use Rattle.question_lang.specs.Breaking.{IsBreaking}
use Rattle.question_lang.specs.declared.question.Question.{Question}
use Rattle.resolution_check.specs.declared.log.Entry.{Entry}
use Rattle.route_record.specs.declared.Environment.{Environment}
use Rattle.route_record.specs.declared.World.{World}
use Rattle.question_lang.specs.declared.walk.Walk.{Walk}
use Rattle.run_answers.specs.Answering.{IsToldSo, IsUnfinished}
use Rattle.run_answers.specs.declared.verdict.Verdict.{Verdict}
use Rattle.run_answers.specs.declared.verdict.Verdict.TheVariants as verdict
use Rattle.run_answers.specs.Verdicts.{IsSection, section_text}
use Rattle.asked_files.proofs.Endings.{last_more}
use Rattle.least_failures.specs.declared.outcome.Least.{Least}
use Rattle.least_failures.specs.declared.outcome.Least.TheVariants.{At, NoneUpTo, Unknown}
use Rattle.least_failures.specs.Finding.{AreExcluded, IsFound, IsUnfound, TellLast}
use Rattle.least_failures.specs.Leasts.{trials_text, verdict_at}
use Rattle.least_failures.specs.Trials.{Survives, SurvivesFewer, trial}

-- the trials with fewer than k failed links showed that nothing breaks the question
pub record Tried (files : List File) (question : Question) (budget k : ℕ) (logged_before logged_now : Option (List ℕ))
    (tolds : List (Option (List ℕ))) : Type 0 where
  pub sections : List (List Entry)
  pub count : length sections ≡ k
  pub excluded : AreExcluded files question budget sections
  pub survives : SurvivesFewer files question k
  pub logged : Takes logged_before logged_now (trials_text question 0 sections)
  pub bumps : TellLast tolds sections

-- a search for what the trial asks is one for the trial
pub told_of : {E : Type 0} (files : List File) (budget number : ℕ) (asked wanted : Question) (result : Result Verdict E)
    (before now : Option (List ℕ)) (tolds : List (Option (List ℕ))) → asked ≡ wanted →
    IfOk result (λ v. IsToldSo files budget number asked v before now tolds) →
    IfOk result (λ v. IsToldSo files budget number wanted v before now tolds)
told_of files budget number asked wanted result before now tolds is so =
    let P : Question → Type 0 = λ q. IfOk result (λ v. IsToldSo files budget number q v before now tolds) in
    subst P is so

-- before the first
pub tried_none : (files : List File) (question : Question) (budget : ℕ) (logged : Option (List ℕ))
    (tolds : List (Option (List ℕ))) → Tried files question budget 0 logged logged tolds
tried_none files question budget logged tolds = record {
  sections = [];
  count = refl;
  excluded = λ j entries found. absurd cc;
  survives = λ fewer below. absurd (omega (arith, below));
  logged = takes_none logged;
  bumps = tt;
}

-- the text of one section more
trials_more : (question : Question) (j : ℕ) (sections : List (List Entry)) (entries : List Entry) →
    trials_text question j sections ++ section_text (trial (j + length sections) question) entries
    ≡ trials_text question j (sections ++ entries ∷ [])
trials_more question j [] entries =
    let here : j + 0 ≡ j = omega arith in
    ap (λ k. section_text (trial k question) entries) here
    ∙ sym (append-nil (section_text (trial j question) entries))
trials_more question j (x ∷ xs) entries =
    let here : j + suc (length xs) ≡ j + 1 + length xs = omega arith in
    let first = section_text (trial j question) x in
    append_assoc first (trials_text question (j + 1) xs) (section_text (trial (j + suc (length xs)) question) entries)
    ∙ ap (λ k. first ++ (trials_text question (j + 1) xs ++ section_text (trial k question) entries)) here
    ∙ ap (λ t. first ++ t) (trials_more question (j + 1) xs entries)

-- the log after one section more
logs_more : (question : Question) (k : ℕ) (sections : List (List Entry)) (entries : List Entry)
    (before middle now : Option (List ℕ)) → length sections ≡ k → Takes before middle (trials_text question 0 sections) →
    Takes middle now (section_text (trial k question) entries) →
    Takes before now (trials_text question 0 (sections ++ entries ∷ []))
logs_more question k sections entries before middle now count first second =
    let T : List ℕ → Type 0 = Takes before now in
    let S : ℕ → Type 0 = λ n. Takes middle now (section_text (trial n question) entries) in
    let place : k ≡ 0 + length sections = omega (arith, count) in
    subst T (trials_more question 0 sections entries)
    (takes_more before middle now _ _ first (subst S place second))

told_more : (tolds : List (Option (List ℕ))) (sections : List (List Entry)) (entries : List Entry) →
    TellBumps tolds entries → TellLast tolds (sections ++ entries ∷ [])
told_more tolds sections entries bumps =
    let P : Option (List Entry) → Type 0 = λ o. IfSome o (λ last. TellBumps tolds last) in
    subst P (sym (last_more None sections entries)) bumps

survives_more : (files : List File) (question : Question) (k : ℕ) → SurvivesFewer files question k →
    Survives files question k → SurvivesFewer files question (k + 1)
survives_more files question k fewer here = λ j below. by_order j below (cases_order j k) where
  by_order : (j : ℕ) → j < k + 1 → (j ≡ k) ⊎ ((j < k) ⊎ (k < j)) → Survives files question j
  by_order j below (inl same) = let S : ℕ → Type 0 = Survives files question in subst S (sym same) here
  by_order j below (inr (inl less)) = fewer j less
  by_order j below (inr (inr more)) = absurd (omega (arith, below, more))

count_more : (sections : List (List Entry)) (entries : List Entry) (k : ℕ) → length sections ≡ k →
    length (sections ++ entries ∷ []) ≡ k + 1
count_more sections entries k count = length-append sections (entries ∷ []) ∙ ap (λ n. n + 1) count

-- one trial more shows it
pub tried_more : (files : List File) (question : Question) (budget number k : ℕ) (before middle now : Option (List ℕ))
    (earlier tolds : List (Option (List ℕ))) → Tried files question budget k before middle earlier →
    IsToldSo files budget number (trial k question) verdict.Holds middle now tolds →
    Tried files question budget (k + 1) before now tolds
tried_more files question budget number k before middle now earlier tolds so_far (entries, is, takes, bumps) =
    let E : ℕ → Type 0 = λ n. IsSection files (trial n question) budget verdict.Holds entries in record {
      sections = so_far.sections ++ entries ∷ [];
      count = count_more so_far.sections entries k so_far.count;
      excluded = each_place-push (λ j es. IsSection files (trial j question) budget verdict.Holds es) so_far.sections
          entries so_far.excluded (subst E (sym so_far.count) is.1);
      survives = survives_more files question k so_far.survives is.0;
      logged = logs_more question k so_far.sections entries before middle now so_far.count so_far.logged takes;
      bumps = told_more tolds so_far.sections entries bumps;
    }

-- ---- what is found

nat_eq_same : (k : ℕ) → nat_eq k k ≡ true
nat_eq_same k = grind arith

nat_eq_less : (j k : ℕ) → j < k → nat_eq j k ≡ false
nat_eq_less j k less = grind arith

-- the trials before the last and the last one
trials_of : (files : List File) (question : Question) (budget k : ℕ) (found : Least) (sections : List (List Entry))
    (entries : List Entry) → length sections ≡ k →
    ((j : ℕ) → j < k → verdict_at budget found j ≡ verdict.Holds) → AreExcluded files question budget sections →
    IsSection files (trial k question) budget (verdict_at budget found k) entries →
    (j : ℕ) (es : List Entry) → slice_get (sections ++ entries ∷ []) j ≡ Some es →
    IsSection files (trial j question) budget (verdict_at budget found j) es
trials_of files question budget k found sections entries count before excluded last =
    let E : ℕ → Type 0 = λ n. IsSection files (trial n question) budget (verdict_at budget found n) entries in
    each_place-push (λ j es. IsSection files (trial j question) budget (verdict_at budget found j) es) sections entries
    (λ j es there.
    let V : Verdict → Type 0 = λ v. IsSection files (trial j question) budget v es in
    let within = slice_get_within sections j es there in
    subst V (sym (before j (omega (arith, within, count)))) (excluded j es there))
    (subst E (sym count) last)

-- what breaks the question with at most k failed links breaks it with k, where nothing breaks it with fewer
as_many : (files : List File) (question : Question) (k : ℕ) (world : World) (environment : Environment)
    (walk : Option Walk) → SurvivesFewer files question k →
    IsBreaking files (trial k question) world environment walk → length world.failures.links ≡ k
as_many files question k world environment walk fewer breaking =
    by_order (cases_order (length world.failures.links) k)
  where
    by_order : (length world.failures.links ≡ k) ⊎ ((length world.failures.links < k) ⊎ (k < length world.failures.links)) →
        length world.failures.links ≡ k
    by_order (inl same) = same
    by_order (inr (inl less)) = absurd (fewer (length world.failures.links) less world environment walk (record {
      packet = breaking.packet;
      environment_fits = breaking.environment_fits;
      failures = record {
        ascending = breaking.failures.ascending;
        of_links = breaking.failures.of_links;
        at_most = omega arith;
      };
      stable = breaking.stable;
      breaks = breaking.breaks;
    }))
    by_order (inr (inr more)) = let most = breaking.failures.at_most in absurd (omega (arith, more, most))

-- and breaks it with as many as are allowed
allowed : (files : List File) (question : Question) (k : ℕ) (world : World) (environment : Environment)
    (walk : Option Walk) → k ≤ question.failures → IsBreaking files (trial k question) world environment walk →
    IsBreaking files question world environment walk
allowed files question k world environment walk within breaking =
    let most = breaking.failures.at_most in record {
      packet = breaking.packet;
      environment_fits = breaking.environment_fits;
      failures = record {
        ascending = breaking.failures.ascending;
        of_links = breaking.failures.of_links;
        at_most = omega (arith, within, most);
      };
      stable = breaking.stable;
      breaks = breaking.breaks;
    }

pub found_at : (files : List File) (question : Question) (budget number k : ℕ) (cex : Counterexample)
    (before middle now : Option (List ℕ)) (earlier tolds : List (Option (List ℕ))) →
    Tried files question budget k before middle earlier → k ≤ question.failures →
    IsToldSo files budget number (trial k question) (verdict.Broken cex) middle now tolds →
    IsFound files budget number question before now tolds (At k cex)
found_at files question budget number k cex before middle now earlier tolds so_far within (entries, is, takes, bumps) =
    let V : Verdict → Type 0 = λ v. IsSection files (trial k question) budget v entries in
    let here : verdict_at budget (At k cex) k ≡ verdict.Broken cex =
    ap (λ b. cond b (verdict.Broken cex) verdict.Holds) (nat_eq_same k) in record {
      right = (
        (is.0.0, allowed files question k (world_of cex) cex.env cex.walk within is.0.1),
        as_many files question k (world_of cex) cex.env cex.walk so_far.survives is.0.1,
        so_far.survives,
      );
      sections = so_far.sections ++ entries ∷ [];
      trials = record {
        count = count_more so_far.sections entries k so_far.count;
        each = trials_of files question budget k (At k cex) so_far.sections entries so_far.count
            (λ j less. ap (λ b. cond b (verdict.Broken cex) verdict.Holds) (nat_eq_less j k less)) so_far.excluded
            (subst V (sym here) is.1);
      };
      logged = logs_more question k so_far.sections entries before middle now so_far.count so_far.logged takes;
      bumps = told_more tolds so_far.sections entries bumps;
    }

pub found_unknown : (files : List File) (question : Question) (budget number k after : ℕ)
    (before middle now : Option (List ℕ)) (earlier tolds : List (Option (List ℕ))) →
    Tried files question budget k before middle earlier → k ≤ question.failures →
    IsToldSo files budget number (trial k question) (verdict.Unknown after) middle now tolds →
    IsFound files budget number question before now tolds (Unknown k)
found_unknown files question budget number k after before middle now earlier tolds so_far within
    (entries, is, takes, bumps) =
    let V : Verdict → Type 0 = λ v. IsSection files (trial k question) budget v entries in
    let as_allowed : after ≡ budget = is.1.shows.0 in
    let here : verdict_at budget (Unknown k) k ≡ verdict.Unknown after =
    ap (λ b. cond b (verdict.Unknown budget) verdict.Holds) (nat_eq_same k) ∙ ap verdict.Unknown (sym as_allowed) in record {
      right = (within, so_far.survives);
      sections = so_far.sections ++ entries ∷ [];
      trials = record {
        count = count_more so_far.sections entries k so_far.count;
        each = trials_of files question budget k (Unknown k) so_far.sections entries so_far.count
            (λ j less. ap (λ b. cond b (verdict.Unknown budget) verdict.Holds) (nat_eq_less j k less)) so_far.excluded
            (subst V (sym here) is.1);
      };
      logged = logs_more question k so_far.sections entries before middle now so_far.count so_far.logged takes;
      bumps = told_more tolds so_far.sections entries bumps;
    }

-- what breaks a question breaks its trial with as many
unbroken_all : (files : List File) (question : Question) → Survives files question question.failures →
    (world : World) (environment : Environment) (walk : Option Walk) → IsBreaking files question world environment walk → ⊥
unbroken_all files question survives world environment walk breaking = survives world environment walk (record {
  packet = breaking.packet;
  environment_fits = breaking.environment_fits;
  failures = breaking.failures;
  stable = breaking.stable;
  breaks = breaking.breaks;
})

pub found_none : (files : List File) (question : Question) (budget number k : ℕ) (before now : Option (List ℕ))
    (tolds : List (Option (List ℕ))) → Tried files question budget k before now tolds → k ≡ question.failures + 1 →
    IsFound files budget number question before now tolds (NoneUpTo question.failures)
found_none files question budget number k before now tolds so_far all = record {
  right = (refl, unbroken_all files question (so_far.survives question.failures (omega (arith, all))));
  sections = so_far.sections;
  trials = record { count = so_far.count ∙ all; each = so_far.excluded };
  logged = so_far.logged;
  bumps = so_far.bumps;
}

-- the next was cut short
pub unfound : (files : List File) (question : Question) (budget k : ℕ) (before middle now : Option (List ℕ))
    (earlier : List (Option (List ℕ))) → Tried files question budget k before middle earlier → k ≤ question.failures →
    IsUnfinished files budget (trial k question) middle now → IsUnfound files budget question before now
unfound files question budget k before middle now earlier so_far within next =
    let U : ℕ → Type 0 = λ n. IsUnfinished files budget (trial n question) middle now in
    let count = so_far.count in record {
      sections = so_far.sections;
      few = omega (arith, within, count);
      excluded = so_far.excluded;
      middle = middle;
      logged = so_far.logged;
      next = subst U (sym so_far.count) next;
    }
