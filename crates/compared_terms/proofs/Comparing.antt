-- What the root of two tied routings says.
use Rattle.std.proofs.Common.{◌≡◌, ◌<◌, ◌&&◌, ◌++◌, ◌∙◌, ℕ, Bool, true, false, List, Some, arith, get_or, length}
use Rattle.std.proofs.Common.{refl, sym, ap, subst}
use Rattle.std.specs.Prelude.{◌↔◌, ◌+◌, ◌≤◌, slice_get}
use Rattle.std.proofs.lemmas.Bool.{and_from, and_parts, false≢true}
use Rattle.std.proofs.lemmas.Option.{slice_get_within}
use Rattle.announced_shapes.specs.Environments.{rebuilt_environment}
use Rattle.bgp_equations.specs.Environments.{environment_read}
use Rattle.bgp_shapes.specs.Candidates.{ShapeEnvironment, environment_shape}
use Rattle.common_failures.specs.Failing.{FailAlike, own_failed}
use Rattle.compared_nets.specs.Compared.{AreBeside, FatesBeside, FatesIn}
use Rattle.ios_ast.specs.declared.file.File.{File}
use Rattle.joined_terms.specs.Joining.{behind}
use Rattle.net_model.specs.Kept.{Network}
use Rattle.net_parts.specs.World.{IsFailureSet}
use Rattle.packet_fates.specs.declared.fate.Fate.{Fate}
use Rattle.packet_fates.specs.Fates.{HasFate}
use Rattle.packet_fates.specs.Sides.{AreSame}
use Rattle.paired_nets.specs.Common.{AreCommon, AreCommonFailures}
use Rattle.paired_nets.specs.Links.{ArePairs}
use Rattle.paired_nets.specs.declared.links.LinkPair.{LinkPair}
use Rattle.peers_beside.specs.Shared.{AreCommonShapes}
use Rattle.plan_places.specs.Plans.{lens_of, single_plan}
use Rattle.possible_fates.specs.Possible.{HasPossible}
use Rattle.question_lang.specs.Packets.{IsInSet}
use Rattle.route_record.specs.declared.Environment.{Environment}
use Rattle.route_record.specs.declared.Failures.{Failures}
use Rattle.route_record.specs.declared.Packet.{Packet}
use Rattle.route_record.specs.declared.World.{World}
use Rattle.route_record.specs.declared.tracked.Tracked.{Tracked}
use Rattle.routing_worlds.specs.Worlds.{shape_world_from}
use Rattle.routings_beside.specs.declared.encoding.PairTerms.{PairTerms}
use Rattle.routings_beside.specs.Pairs.{IsPairEncoding, IsSide, SaysRouting, StandAmong, StandBeside}
use Rattle.routings_beside.specs.Pairs.{environment_by, left_values, own_bits, question_of, right_values, side_bits, world_by}
use Rattle.same_asks.specs.declared.same.Same.{Same}
use Rattle.shape_worlds.specs.Worlds.{ShapeWorld, shapes_of}
use Rattle.sym_policy.specs.Held.{failures_of}
use Rattle.sym_policy.specs.Packets.{packet_of}
use Rattle.term_store.specs.declared.NodeId.{NodeId}
use Rattle.term_store.specs.Reading.{Builds, Reads}
use Rattle.term_store.specs.Terms.{Agrees, Reading, Store, at, reading_of, size, truth, value_of}
use Rattle.compared_terms.specs.declared.encoding.ComparedTerms.{ComparedTerms}
use Rattle.compared_terms.specs.Compared.{IsComparison, SayDifferent}
use Rattle.compared_terms.specs.Ties.{AreTied, DifferBelow, FailSo, IsAround, StandBoth}
use Rattle.compared_terms.proofs.Apart.{apart, beside_there, place_there, together}

-- the nodes of two sides stand where they have to
pub stand_both : (left right : Network) (ask : Same) (fates : List Fate) (e : PairTerms) →
    IsPairEncoding left right ask fates e → StandBoth left right e.terms e.places e.one e.other
stand_both left right ask fates e is = record {
  one_world = is.one_stands.world;
  other_world = is.other_stands.world;
  one_env = is.one_stands.environment;
  other_env = is.other_stands.environment;
  one_fits = is.one_stands.announced;
  other_fits = is.other_stands.announced;
  one_fates = is.one_stands.fates_stand;
  other_fates = is.other_stands.fates_stand;
  fates_long = is.one_stands.fates_long ∙ sym is.other_stands.fates_long;
  places_stand = is.places;
}

-- ---- what ties say of two routings whose shapes the nodes read as

module _ (left right : Network) (ask : Same) (fates : List Fate) (e : PairTerms) (xs ys : List Bool) (w : Reading)
    (stand : StandBeside left right ask fates e xs ys w) (one other : World) (around about : Environment)
    (one_is : shape_world_from left.files left.tracked (question_of ask) single_plan (truth xs) 0
    ≡ shapes_of left.tracked one around)
    (other_is : shape_world_from right.files right.tracked (question_of ask) single_plan (truth ys) 0
    ≡ shapes_of right.tracked other about) where
  one_packet : packet_of w e.one.world.packet ≡ one.packet
  one_packet = stand.one.packet ∙ ap (λ (s : ShapeWorld). s.packet) one_is

  other_packet : packet_of (behind e.places w) e.other.world.packet ≡ other.packet
  other_packet = stand.other.packet ∙ ap (λ (s : ShapeWorld). s.packet) other_is

  one_failed : failures_of w e.one.world.net ≡ one.failures
  unfolding failures_of
  one_failed = stand.one.failures ∙ ap (λ (s : ShapeWorld). s.failures) one_is

  other_failed : failures_of (behind e.places w) e.other.world.net ≡ other.failures
  unfolding failures_of
  other_failed = stand.other.failures ∙ ap (λ (s : ShapeWorld). s.failures) other_is

  one_environment : environment_read w left.files (lens_of single_plan) e.one.env ≡ environment_shape left.tracked around
  one_environment = stand.one.environment ∙ ap (λ (s : ShapeWorld). s.environment) one_is

  other_environment : environment_read (behind e.places w) right.files (lens_of single_plan) e.other.env
      ≡ environment_shape right.tracked about
  other_environment = stand.other.environment ∙ ap (λ (s : ShapeWorld). s.environment) other_is

  -- one packet
  pub packet_tie : packet_of w e.one.world.packet ≡ packet_of (behind e.places w) e.other.world.packet
      ↔ (other.packet ≡ one.packet)
  packet_tie = (
    λ same. sym other_packet ∙ sym same ∙ one_packet,
    λ same. one_packet ∙ sym same ∙ sym other_packet,
  )

  -- common peers
  pub peers_tie : AreCommonShapes left.files right.files (environment_shape left.tracked around)
      (environment_shape right.tracked about) →
      AreCommonShapes left.files right.files (environment_read w left.files (lens_of single_plan) e.one.env)
      (environment_read (behind e.places w) right.files (lens_of single_plan) e.other.env)
  peers_tie common =
      subst (λ (s : ShapeEnvironment). AreCommonShapes left.files right.files s
      (environment_read (behind e.places w) right.files (lens_of single_plan) e.other.env)) (sym one_environment)
      (subst (λ (s : ShapeEnvironment). AreCommonShapes left.files right.files (environment_shape left.tracked around) s)
      (sym other_environment) common)

  -- failed links
  pub failing_tie : (links : List LinkPair) (most : ℕ) →
      FailSo links most (failures_of w e.one.world.net) (failures_of (behind e.places w) e.other.world.net)
      ↔ FailSo links most one.failures other.failures
  failing_tie links most = (
    λ so. subst (λ (f : Failures). FailSo links most f other.failures) one_failed
        (subst (λ (f : Failures). FailSo links most (failures_of w e.one.world.net) f) other_failed so),
    λ so. subst (λ (f : Failures). FailSo links most f (failures_of (behind e.places w) e.other.world.net))
        (sym one_failed)
        (subst (λ (f : Failures). FailSo links most one.failures f) (sym other_failed) so),
  )

  -- where some nodes of fates differ, the fates are not the same
  pub fates_apart : at w e.root ≡ true → length e.one.fates ≡ length fates →
      DifferBelow w e.places e.one.fates e.other.fates (length e.one.fates) →
      AreSame (FatesIn left.files one ask) (FatesBeside right.files other ask) → ⊥
  fates_apart holds long (k, less, (x, y, here, there, differs)) same =
      let fate = get_or fates k Fate.BlackHole in
      let is : slice_get fates k ≡ Some fate = beside_there e.one.fates fates k x Fate.BlackHole (sym long) here in
      apart (at w x) (at (behind e.places w) y) (FatesIn left.files one ask fate)
      (FatesBeside right.files other ask fate)
      (stand.fates_of_one holds one around one_is k fate x is here)
      (stand.fates_of_other holds other about other_is k fate y is there) (same.to fate) (same.from fate) differs

  abbrev none_id : NodeId
  none_id = record { 0 = 0 }

  -- where none do, at each place the one network has the fate where the other does
  there_too : at w e.root ≡ true → length e.one.fates ≡ length fates → length e.other.fates ≡ length fates →
      (DifferBelow w e.places e.one.fates e.other.fates (length e.one.fates) → ⊥) →
      (k : ℕ) (fate : Fate) → slice_get fates k ≡ Some fate →
      (FatesIn left.files one ask fate → FatesBeside right.files other ask fate)
      × (FatesBeside right.files other ask fate → FatesIn left.files one ask fate)
  there_too holds long long_too none k fate is =
      let x = get_or e.one.fates k none_id in
      let y = get_or e.other.fates k none_id in
      let here : slice_get e.one.fates k ≡ Some x = beside_there fates e.one.fates k fate none_id long is in
      let there : slice_get e.other.fates k ≡ Some y = beside_there fates e.other.fates k fate none_id long_too is in
      let both = together (at w x) (at (behind e.places w) y)
      (λ differs. none (k, slice_get_within e.one.fates k x here, (x, y, here, there, differs))) in
      let first = stand.fates_of_one holds one around one_is k fate x is here in
      let second = stand.fates_of_other holds other about other_is k fate y is there in (
        λ has. second.0 (both.0 (first.1 has)),
        λ has. first.0 (both.1 (second.1 has)),
      )

  -- so they are the same
  pub fates_same : at w e.root ≡ true → length e.one.fates ≡ length fates → length e.other.fates ≡ length fates →
      ((fate : Fate) → FatesIn left.files one ask fate → (k : ℕ) × (slice_get fates k ≡ Some fate)) →
      ((fate : Fate) → FatesBeside right.files other ask fate → (k : ℕ) × (slice_get fates k ≡ Some fate)) →
      (DifferBelow w e.places e.one.fates e.other.fates (length e.one.fates) → ⊥) →
      AreSame (FatesIn left.files one ask) (FatesBeside right.files other ask)
  fates_same holds long long_too placed placed_too none = record {
    to = λ fate has.
        let found = placed fate has in (there_too holds long long_too none found.0 fate found.1).0 has;
    from = λ fate has.
        let found = placed_too fate has in (there_too holds long long_too none found.0 fate found.1).1 has;
  }

-- ---- the root

abbrev CountedFrom : Type 0
CountedFrom =
    (left right : List File) (pairs : List LinkPair) (k : ℕ) (one other : Failures) → ArePairs left right pairs →
    IsFailureSet left k one → IsFailureSet right k other → FailAlike pairs one other →
    length one.links + length (own_failed pairs other.links) ≤ k → AreCommonFailures left right k one other

abbrev CountedTo : Type 0
CountedTo =
    (left right : List File) (pairs : List LinkPair) (k : ℕ) (one other : Failures) → ArePairs left right pairs →
    AreCommonFailures left right k one other →
    FailAlike pairs one other × (length one.links + length (own_failed pairs other.links) ≤ k)
    × IsFailureSet left k one × IsFailureSet right k other

abbrev CommonFrom : Type 0
CommonFrom =
    (tracked : Tracked) (left right : List File) (one other : ShapeEnvironment) →
    AreCommonShapes left right one other →
    AreCommon left right (rebuilt_environment tracked one) (rebuilt_environment tracked other)

abbrev CommonTo : Type 0
CommonTo =
    (tracked : Tracked) (left right : List File) (around about : Environment) → AreCommon left right around about →
    AreCommonShapes left right (environment_shape tracked around) (environment_shape tracked about)

module _ (left right : Network) (ask : Same) (fates : List Fate) (e : PairTerms) (links : List LinkPair) (t : Store)
    (tied root : NodeId) (is : IsPairEncoding left right ask fates e) (tracked : left.tracked ≡ right.tracked)
    (possible : HasPossible left.files fates) (possible_too : HasPossible right.files fates)
    (pairs : ArePairs left.files right.files links) (builds : Builds e.terms t) (within : root.0 < size t)
    (value : (w : Reading) → Reads w t → at w root ≡ (at w e.root && at w tied))
    (ties : (w : Reading) → Reads w t →
    at w tied ≡ true ↔ AreTied left right links ask.failures e.places e.one e.other w)
    (reads : (valuation : List Bool) → Reads (reading_of t.nodes valuation) t)
    (has_values : (w : Reading) (valuation : List Bool) → Reads w e.terms → Agrees w valuation e.terms.vars →
    (i : ℕ) → i < size e.terms → w.node i ≡ value_of e.terms.nodes valuation i)
    (counted_from : CountedFrom) (counted_to : CountedTo) (common_from : CommonFrom) (common_to : CommonTo) where
  abbrev read : List Bool → Reading
  read valuation = reading_of t.nodes valuation

  older : (valuation : List Bool) → Reads (read valuation) e.terms
  older valuation = builds.reads (read valuation) (reads valuation)

  root_is : (valuation : List Bool) → at (read valuation) e.root ≡ value_of e.terms.nodes valuation e.root.0
  root_is valuation = has_values (read valuation) valuation (older valuation) (λ k less. refl) e.root.0 is.root

  -- ---- values that make the root true

  module _ (valuation : List Bool) (holds : value_of t.nodes valuation root.0 ≡ true) where
    abbrev w : Reading
    w = read valuation

    parts : (at w e.root ≡ true) × (at w tied ≡ true)
    parts = and_parts _ _ (sym (value w (reads valuation)) ∙ holds)

    abbrev xs : List Bool
    xs = left_values left ask valuation

    abbrev ys : List Bool
    ys = right_values left right ask valuation

    say : SaysRouting left ask xs × SaysRouting right ask ys
    say = is.sound valuation (sym (root_is valuation) ∙ parts.0)

    stand : StandBeside left right ask fates e xs ys w
    stand = is.values valuation w (older valuation) (λ k less. refl)

    tie : AreTied left right links ask.failures e.places e.one e.other w
    tie = (ties w (reads valuation)).0 parts.1

    common : AreCommon left.files right.files (environment_by left ask xs) (environment_by right ask ys)
    common =
        let shapes : AreCommonShapes left.files right.files
        (shape_world_from left.files left.tracked (question_of ask) single_plan (truth xs) 0).environment
        (shape_world_from right.files right.tracked (question_of ask) single_plan (truth ys) 0).environment =
        subst (λ (s : ShapeEnvironment). AreCommonShapes left.files right.files s
        (shape_world_from right.files right.tracked (question_of ask) single_plan (truth ys) 0).environment)
        stand.one.environment
        (subst (λ (s : ShapeEnvironment). AreCommonShapes left.files right.files
        (environment_read w left.files (lens_of single_plan) e.one.env) s) stand.other.environment tie.around.peers) in
        subst (λ (all : Tracked). AreCommon left.files right.files (environment_by left ask xs)
        (rebuilt_environment all
        (shape_world_from right.files right.tracked (question_of ask) single_plan (truth ys) 0).environment)) tracked
        (common_from left.tracked left.files right.files _ _ shapes)

    failures : AreCommonFailures left.files right.files ask.failures (world_by left ask xs).failures
        (world_by right ask ys).failures
    failures =
        let so = (failing_tie left right ask fates e xs ys w stand (world_by left ask xs) (world_by right ask ys)
        (environment_by left ask xs) (environment_by right ask ys) say.0.shapes say.1.shapes links ask.failures).0
        tie.failing in
        counted_from left.files right.files links ask.failures (world_by left ask xs).failures
        (world_by right ask ys).failures pairs say.0.side.failures say.1.side.failures so.alike so.few

    pub different : SayDifferent left right ask valuation
    different = record {
      beside = record {
        packet = say.0.side.packet;
        same_packet = (packet_tie left right ask fates e xs ys w stand (world_by left ask xs) (world_by right ask ys)
            (environment_by left ask xs) (environment_by right ask ys) say.0.shapes say.1.shapes).0 tie.around.packet;
        environment = (say.0.side.environment_fits, say.1.side.environment_fits);
        common = common;
        failures = failures;
        one_stable = say.0.side.stable;
        other_stable = say.1.side.stable;
      };
      differ = fates_apart left right ask fates e xs ys w stand (world_by left ask xs) (world_by right ask ys)
          (environment_by left ask xs) (environment_by right ask ys) say.0.shapes say.1.shapes parts.0
          is.one_stands.fates_long tie.fates;
    }

  -- ---- values of two routings side by side that make it false

  module _ (one other : World) (around about : Environment)
      (beside : AreBeside left.files right.files ask one other around about) where
    abbrev all : List Bool
    all = side_bits left ask one around ++ side_bits right ask other about

    abbrev v : Reading
    v = read all

    counted : FailAlike links one.failures other.failures
        × (length one.failures.links + length (own_failed links other.failures.links) ≤ ask.failures)
        × IsFailureSet left.files ask.failures one.failures × IsFailureSet right.files ask.failures other.failures
    counted =
        counted_to left.files right.files links ask.failures one.failures other.failures pairs beside.failures

    side : IsSide left.files ask one around
    side = record {
      packet = beside.packet;
      environment_fits = beside.environment.0;
      failures = counted.2;
      stable = beside.one_stable;
    }

    side_too : IsSide right.files ask other about
    side_too = record {
      packet = subst (λ (p : Packet). IsInSet ask.packets p) (sym beside.same_packet) beside.packet;
      environment_fits = beside.environment.1;
      failures = counted.3;
      stable = beside.other_stable;
    }

    at_root : at v e.root ≡ true
    at_root = root_is all ∙ is.complete one other around about side side_too

    stands : StandBeside left right ask fates e (own_bits left ask one around) (own_bits right ask other about) v
    stands =
        is.given (own_bits left ask one around) (own_bits right ask other about) v (older all) (λ k less. refl)

    shapes : shape_world_from left.files left.tracked (question_of ask) single_plan
        (truth (own_bits left ask one around)) 0 ≡ shapes_of left.tracked one around
    shapes = is.one_shapes one around side

    shapes_too : shape_world_from right.files right.tracked (question_of ask) single_plan
        (truth (own_bits right ask other about)) 0 ≡ shapes_of right.tracked other about
    shapes_too = is.other_shapes other about side_too

    peers : AreCommonShapes left.files right.files (environment_shape left.tracked around)
        (environment_shape right.tracked about)
    peers =
        subst (λ (all : Tracked). AreCommonShapes left.files right.files (environment_shape left.tracked around)
        (environment_shape all about)) tracked
        (common_to left.tracked left.files right.files around about beside.common)

    tie_of : DifferBelow v e.places e.one.fates e.other.fates (length e.one.fates) →
        AreTied left right links ask.failures e.places e.one e.other v
    tie_of differ = record {
      around = record {
        packet = (packet_tie left right ask fates e _ _ v stands one other around about shapes shapes_too).1
            beside.same_packet;
        peers = peers_tie left right ask fates e _ _ v stands one other around about shapes shapes_too peers;
      };
      failing = (failing_tie left right ask fates e _ _ v stands one other around about shapes shapes_too links
          ask.failures).1 (record { alike = counted.0; few = counted.1 });
      fates = differ;
    }

    pub the_same : value_of t.nodes all root.0 ≡ false →
        AreSame (FatesIn left.files one ask) (FatesBeside right.files other ask)
    the_same fails =
        fates_same left right ask fates e _ _ v stands one other around about shapes shapes_too at_root
        is.one_stands.fates_long is.other_stands.fates_long
        (λ fate has. place_there fates fate (possible one around ask.left fate beside.environment.0 beside.one_stable has))
        (λ fate has. place_there fates fate
        (possible_too other about ask.right fate beside.environment.1 beside.other_stable has))
        (λ differ. false≢true (sym fails ∙ value v (reads all)
        ∙ and_from _ _ at_root ((ties v (reads all)).1 (tie_of differ))))

  pub comparison : IsComparison left right ask (record { terms = t; root = root; split = e.split })
  comparison = record {
    root = within;
    vars = builds.same_vars ∙ is.vars;
    split = is.split;
    routings = λ valuation holds. record {
      one = (say valuation holds).0.passes;
      other = (say valuation holds).1.passes;
    };
    sound = different;
    complete = the_same;
  }
