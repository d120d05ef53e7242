-- What the values of an ask's variables decode to.
use Rattle.std.proofs.Common.{◌≡◌, ℕ, ◌+◌, ◌<◌, ◌≤◌, Bool, true, List, Option, Some, None, refl, sym, subst, ◌∙◌}
use Rattle.std.proofs.Common.{arith}
use Rattle.std.proofs.lemmas.Bool.{true≢false}
use Rattle.ios_ast.specs.declared.file.File.{File}
use Rattle.bgp_variables.specs.Environments.{environment_width}
use Rattle.bgp_decoding.specs.declared.decoding.Decoded.{Decoded}
use Rattle.cex_json.specs.declared.counterexample.Counterexample.{Counterexample}
use Rattle.net_encoder.proofs.TrueWorlds.{true_from}
use Rattle.plan_places.specs.Plans.{lens_of, single_plan}
use Rattle.question_lang.specs.declared.question.Question.{Question}
use Rattle.route_record.specs.declared.Environment.{Environment}
use Rattle.route_record.specs.declared.Plan.{Plan}
use Rattle.route_record.specs.declared.TheConstants.{LENGTHS}
use Rattle.route_record.specs.declared.tracked.Tracked.{Tracked}
use Rattle.route_record.specs.declared.World.{World}
use Rattle.routing_encoder.specs.Opened.{routing_width}
use Rattle.routing_worlds.specs.Worlds.{environment_from, environment_start, is_routing, world_from}
use Rattle.term_store.specs.Terms.{truth}
use Rattle.export_asks.specs.declared.ask.Ask.{Ask}
use Rattle.export_asks.specs.Exported.{IsLeast, is_exported}
use Rattle.ask_search.specs.declared.verdict.AskVerdict.TheVariants.{Broken}
use Rattle.ask_search.specs.Encoded.{IsExportedBy}
use Rattle.ask_search.specs.Exporting.{question_of}
use Rattle.ask_search.specs.Verdicts.{IsRight}

module _ (files : List File) (tracked : Tracked) (ask : Ask) (question : Question) (plan : Plan)
    (is : question ≡ question_of ask) (single : plan ≡ single_plan) where
  -- of a question and a plan that are the ask's
  of_ask : (P : Question → Plan → Type 0) → P (question_of ask) single_plan → P question plan
  of_ask P p = subst (λ (q : Question). P q plan) (sym is) (subst (λ (l : Plan). P (question_of ask) l) (sym single) p)

  width_of : (vars many : ℕ) → many ≡ vars → vars ≡ routing_width files tracked (question_of ask) single_plan →
      environment_start files tracked (question_of ask) single_plan 0
      + environment_width tracked files (lens_of single_plan) ≤ many
  width_of vars many all width = omega (arith, all, width)

  -- there are values of all variables of the routing
  pub width_there : (vars many : ℕ) → many ≡ vars → vars ≡ routing_width files tracked (question_of ask) single_plan →
      environment_start files tracked question plan 0 + environment_width tracked files (lens_of plan) ≤ many
  width_there vars many all width =
      of_ask (λ q l. environment_start files tracked q l 0 + environment_width tracked files (lens_of l) ≤ many)
      (width_of vars many all width)

  -- they pass the test
  pub routing_there : (values : List Bool) →
      is_routing files tracked (question_of ask) single_plan (truth values) 0 ≡ true →
      is_routing files tracked question plan (truth values) 0 ≡ true
  routing_there values routing = of_ask (λ q l. is_routing files tracked q l (truth values) 0 ≡ true) routing

  -- and their routing exports
  pub exported_there : (values : List Bool) (decoded : Decoded) →
      decoded.world ≡ world_from files tracked question plan (truth values) 0 →
      decoded.environment ≡ environment_from files tracked question plan (truth values) 0 →
      IsExportedBy files ask (world_from files tracked (question_of ask) single_plan (truth values) 0)
      (environment_from files tracked (question_of ask) single_plan (truth values) 0) →
      IsExportedBy files ask decoded.world decoded.environment
  exported_there values decoded world environment by =
      let there : IsExportedBy files ask (world_from files tracked question plan (truth values) 0)
      (environment_from files tracked question plan (truth values) 0) =
      of_ask (λ q l. IsExportedBy files ask (world_from files tracked q l (truth values) 0)
      (environment_from files tracked q l (truth values) 0)) by in
      subst (λ (w : World). IsExportedBy files ask w decoded.environment) (sym world)
      (subst (λ (e : Environment). IsExportedBy files ask (world_from files tracked question plan (truth values) 0) e)
      (sym environment) there)

-- where a route goes out at some length there is a least one
pub some_least : (is : ℕ → Bool) → (len : ℕ) × (len < LENGTHS) × (is len ≡ true) → (o : Option ℕ) → IsLeast is o →
    o ≡ None → ⊥
some_least is (len, short, here) None none same = true≢false (sym here ∙ none len short)
some_least is some (Some least) found same = absurd cc

-- the counterexample of a routing that exports
abbrev pub cex_of : Decoded → Counterexample
cex_of decoded = record {
  question = 0;
  packet = decoded.world.packet;
  failures = decoded.world.failures;
  env = decoded.environment;
  tables = decoded.world.tables;
  walk = None;
}

pub right_of : (files : List File) (ask : Ask) (decoded : Decoded) (cex : Counterexample) (len : ℕ) → cex ≡ cex_of decoded →
    IsExportedBy files ask decoded.world decoded.environment →
    IsLeast (is_exported files ask cex.packet.dst cex.failures cex.tables) (Some len) →
    IsRight files ask (Broken len cex)
right_of files ask decoded cex len is by least =
    let R : Counterexample → Type 0 = λ c. IsLeast (is_exported files ask c.packet.dst c.failures c.tables) (Some len) →
    IsRight files ask (Broken len c) in
    let here : R (cex_of decoded) = λ (l : IsLeast (is_exported files ask (cex_of decoded).packet.dst
    (cex_of decoded).failures (cex_of decoded).tables) (Some len)). (
      true_from files 0 (question_of ask) decoded.world decoded.environment None (None, by.breaking) refl,
      l,
    ) in subst R (sym is) here least

-- some length is exported in the counterexample
pub some_in : (files : List File) (ask : Ask) (decoded : Decoded) (cex : Counterexample) → cex ≡ cex_of decoded →
    IsExportedBy files ask decoded.world decoded.environment →
    (len : ℕ) × (len < LENGTHS) × (is_exported files ask cex.packet.dst cex.failures cex.tables len ≡ true)
some_in files ask decoded cex is by =
    let S : Counterexample → Type 0 = λ c. (len : ℕ) × (len < LENGTHS)
    × (is_exported files ask c.packet.dst c.failures c.tables len ≡ true) in
    subst S (sym is) by.exported
