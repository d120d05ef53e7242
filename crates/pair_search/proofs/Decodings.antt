-- What the values of the variables of two networks decode to.
use Rattle.std.proofs.Common.{◌≡◌, ℕ, ◌+◌, ◌≤◌, Bool, true, List, Option, Some, None, drop, length, take}
use Rattle.std.proofs.Common.{ap, arith, refl, sym, subst, ◌∙◌}
use Rattle.std.specs.Prelude.{IfSome}
use Rattle.std.proofs.lemmas.List.{take_all}
use Rattle.bgp_decoding.specs.declared.decoding.Decoded.{Decoded}
use Rattle.bgp_variables.specs.Environments.{environment_width}
use Rattle.cex_json.specs.Counterexamples.{IsTrueCounterexample}
use Rattle.common_failures.proofs.Counted.{is_set}
use Rattle.compared_nets.specs.Compared.{AreBeside, AreDifferent, FatesBeside, FatesIn}
use Rattle.compared_terms.specs.declared.encoding.ComparedTerms.{ComparedTerms}
use Rattle.compared_terms.specs.Compared.{IsComparison}
use Rattle.ios_ast.specs.declared.file.File.{File}
use Rattle.net_encoder.proofs.TrueWorlds.{true_from}
use Rattle.net_model.specs.Kept.{Network}
use Rattle.packet_fates.specs.declared.apart.Apart.{Apart}
use Rattle.packet_fates.specs.Sides.{AreSame, IsFirstApart}
use Rattle.plan_places.specs.Plans.{lens_of, single_plan}
use Rattle.question_lang.specs.declared.question.Question.{Question}
use Rattle.question_lang.specs.Breaking.{IsBreaking}
use Rattle.question_lang.specs.Packets.{IsInSet}
use Rattle.route_record.specs.declared.Environment.{Environment}
use Rattle.route_record.specs.declared.Packet.{Packet}
use Rattle.route_record.specs.declared.Plan.{Plan}
use Rattle.route_record.specs.declared.World.{World}
use Rattle.routing_worlds.specs.Worlds.{environment_from, environment_start, is_routing, world_from}
use Rattle.routings_beside.specs.Pairs.{IsSide, environment_by, left_values, question_of, right_values, width, world_by}
use Rattle.same_asks.specs.declared.same.Same.{Same}
use Rattle.term_store.specs.Terms.{truth, value_of}
use Rattle.pair_search.specs.declared.verdict.SameVerdict.{SameVerdict}
use Rattle.pair_search.specs.declared.verdict.SameVerdict.TheVariants.{Different}
use Rattle.pair_search.specs.Decoded.{DifferSo, cex_of}
use Rattle.pair_search.specs.Verdicts.{IsRight}

-- ---- one network

module _ (net : Network) (ask : Same) (question : Question) (plan : Plan) (is : question ≡ question_of ask)
    (single : plan ≡ single_plan) where
  -- of a question and a plan that are the ask's
  of_ask : (P : Question → Plan → Type 0) → P (question_of ask) single_plan → P question plan
  of_ask P p = subst (λ (q : Question). P q plan) (sym is) (subst (λ (l : Plan). P (question_of ask) l) (sym single) p)

  to_ask : (P : Question → Plan → Type 0) → P question plan → P (question_of ask) single_plan
  to_ask P p = subst (λ (l : Plan). P (question_of ask) l) single (subst (λ (q : Question). P q plan) is p)

  width_of : (many : ℕ) → many ≡ width net ask →
      environment_start net.files net.tracked (question_of ask) single_plan 0
      + environment_width net.tracked net.files (lens_of single_plan) ≤ many
  width_of many all = omega (arith, all)

  -- there are values of all variables of the routing
  pub width_there : (many : ℕ) → many ≡ width net ask →
      environment_start net.files net.tracked question plan 0 + environment_width net.tracked net.files (lens_of plan)
      ≤ many
  width_there many all =
      of_ask (λ q l. environment_start net.files net.tracked q l 0
      + environment_width net.tracked net.files (lens_of l) ≤ many) (width_of many all)

  -- they pass the test
  pub routing_there : (values : List Bool) →
      is_routing net.files net.tracked (question_of ask) single_plan (truth values) 0 ≡ true →
      is_routing net.files net.tracked question plan (truth values) 0 ≡ true
  routing_there values routing = of_ask (λ q l. is_routing net.files net.tracked q l (truth values) 0 ≡ true) routing

  -- and this is what they say
  pub world_there : (values : List Bool) (world : World) →
      world ≡ world_from net.files net.tracked question plan (truth values) 0 → world ≡ world_by net ask values
  world_there values world same =
      to_ask (λ q l. world ≡ world_from net.files net.tracked q l (truth values) 0) same

  pub environment_there : (values : List Bool) (environment : Environment) →
      environment ≡ environment_from net.files net.tracked question plan (truth values) 0 →
      environment ≡ environment_by net ask values
  environment_there values environment same =
      to_ask (λ q l. environment ≡ environment_from net.files net.tracked q l (truth values) 0) same

-- ---- both

-- what is said of four things is said of those that they are
of_four : {A B : Type 0} (P : A → A → B → B → Type 0) (a b c d : A) (w x y z : B) → a ≡ c → b ≡ d → w ≡ y → x ≡ z →
    P c d y z → P a b w x
of_four {A} {B} P a b c d w x y z ac bd wy xz said =
    subst (λ (t : A). P t b w x) (sym ac) (subst (λ (t : A). P c t w x) (sym bd)
    (subst (λ (t : B). P c d t x) (sym wy) (subst (λ (t : B). P c d y t) (sym xz) said)))

-- such worlds stand side by side in such environments, and their fates are not the same
abbrev DifferBy : List File → List File → Same → World → World → Environment → Environment → Type 0
DifferBy left right ask one other around about =
    AreBeside left right ask one other around about
    × (AreSame (FatesIn left one ask) (FatesBeside right other ask) → ⊥)

module _ (left right : Network) (ask : Same) (e : ComparedTerms) (values : List Bool)
    (is : IsComparison left right ask e) (all : length values ≡ e.terms.vars) where
  pub split_within : e.split ≤ length values
  split_within = omega (arith, all, is.split, is.vars)

  module _ (own others : List Bool) (front : own ≡ take e.split values) (back : others ≡ drop e.split values)
      (own_long : length own ≡ e.split) (others_long : length others + e.split ≡ length values) where
    pub own_width : length own ≡ width left ask
    own_width = own_long ∙ is.split

    pub others_width : length others ≡ width right ask
    others_width = omega (arith, all, is.split, is.vars, others_long)

    -- the first part has the left network's values, the rest the right one's
    pub own_is : own ≡ left_values left ask values
    own_is = front ∙ ap (λ n. take n values) is.split

    pub others_is : others ≡ right_values left right ask values
    others_is =
        let rest : others ≡ drop (width left ask) values = back ∙ ap (λ n. drop n values) is.split in
        let whole : take (width right ask) others ≡ others =
        take_all (width right ask) others (omega (arith, others_width)) in
        sym whole ∙ ap (take (width right ask)) rest

    module _ (holds : value_of e.terms.nodes values e.root.0 ≡ true) where
      pub own_routing : is_routing left.files left.tracked (question_of ask) single_plan (truth own) 0 ≡ true
      own_routing =
          subst (λ (v : List Bool). is_routing left.files left.tracked (question_of ask) single_plan (truth v) 0 ≡ true)
          (sym own_is) (is.routings values holds).one

      pub others_routing : is_routing right.files right.tracked (question_of ask) single_plan (truth others) 0 ≡ true
      others_routing =
          subst (λ (v : List Bool). is_routing right.files right.tracked (question_of ask) single_plan (truth v) 0 ≡ true)
          (sym others_is) (is.routings values holds).other

      -- their two routings stand side by side, and their fates are not the same
      pub differ_so : (one other : Decoded) → one.world ≡ world_by left ask own →
          one.environment ≡ environment_by left ask own → other.world ≡ world_by right ask others →
          other.environment ≡ environment_by right ask others → DifferSo left.files right.files ask one other
      differ_so one other here around there about = record { beside = both.0; apart = both.1 } where
        both : DifferBy left.files right.files ask one.world other.world one.environment other.environment
        both =
            of_four (DifferBy left.files right.files ask) one.world other.world _ _ one.environment other.environment _ _
            (here ∙ ap (world_by left ask) own_is) (there ∙ ap (world_by right ask) others_is)
            (around ∙ ap (environment_by left ask) own_is) (about ∙ ap (environment_by right ask) others_is)
            ((is.sound values holds).beside, (is.sound values holds).differ)

-- ---- the verdict

-- the fates of such routings are not the same
pub some_apart : (left right : List File) (ask : Same) (one other : Decoded) (found : Option Apart) →
    DifferSo left right ask one other →
    (found ≡ None → AreSame (FatesIn left one.world ask) (FatesBeside right other.world ask)) → found ≡ None → ⊥
some_apart left right ask one other found so none same = so.apart (none same)

-- and this is the first that one of them alone has
pub first_of : (left right : List File) (ask : Same) (one other : Decoded) (found : Option Apart) (apart : Apart) →
    DifferSo left right ask one other →
    IfSome found (λ a. (around : Environment) (about : Environment) →
    AreBeside left right ask one.world other.world around about →
    AreDifferent left right ask one.world other.world a.side a.fate) → found ≡ Some apart →
    IsFirstApart (FatesIn left one.world ask) (FatesBeside right other.world ask) apart.side apart.fate
first_of left right ask one other found apart so some same =
    let S : Option Apart → Type 0 = λ o. IfSome o (λ a. (around : Environment) (about : Environment) →
    AreBeside left right ask one.world other.world around about →
    AreDifferent left right ask one.world other.world a.side a.fate) in
    (subst S same some one.environment other.environment so.beside).first

-- a stable routing for a packet of the ask is a true counterexample to the question of its counterexamples
true_of : (files : List File) (ask : Same) (decoded : Decoded) → IsSide files ask decoded.world decoded.environment →
    IsTrueCounterexample files 0 (question_of ask) (cex_of decoded)
true_of files ask decoded side =
    let breaking : IsBreaking files (question_of ask) decoded.world decoded.environment None = record {
      packet = side.packet;
      environment_fits = side.environment_fits;
      failures = side.failures;
      stable = side.stable;
      breaks = refl;
    } in
    true_from files 0 (question_of ask) decoded.world decoded.environment None (None, breaking) refl

module _ (left right : List File) (ask : Same) (one other : World) (around about : Environment)
    (beside : AreBeside left right ask one other around about) where
  -- each of two routings side by side is a stable one
  one_side : IsSide left ask one around
  one_side = record {
    packet = beside.packet;
    environment_fits = beside.environment.0;
    failures = is_set left beside.failures.failed one.failures beside.failures.on_left ask.failures beside.failures.few;
    stable = beside.one_stable;
  }

  other_side : IsSide right ask other about
  other_side = record {
    packet = subst (λ (p : Packet). IsInSet ask.packets p) (sym beside.same_packet) beside.packet;
    environment_fits = beside.environment.1;
    failures = is_set right beside.failures.failed other.failures beside.failures.on_right ask.failures
        beside.failures.few;
    stable = beside.other_stable;
  }

-- the verdict that names them is right
pub right_of : (left right : List File) (ask : Same) (one other : Decoded) (apart : Apart) (verdict : SameVerdict) →
    verdict ≡ Different (cex_of one) (cex_of other) apart → DifferSo left right ask one other →
    IsFirstApart (FatesIn left one.world ask) (FatesBeside right other.world ask) apart.side apart.fate →
    IsRight left right ask verdict
right_of left right ask one other apart verdict is so first =
    subst (IsRight left right ask) (sym is) (record {
      one_true = true_of left ask one
          (one_side left right ask one.world other.world one.environment other.environment so.beside);
      other_true = true_of right ask other
          (other_side left right ask one.world other.world one.environment other.environment so.beside);
      beside = so.beside;
      first = first;
    })
