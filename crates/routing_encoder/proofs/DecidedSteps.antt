-- The BGP equation at a place, of what is read and of the world by shapes.
use Rattle.std.proofs.Common.{◌≡◌, ℕ, ◌+◌, ◌*◌, ◌<◌, ◌≤◌, Bool, true, false, List, length, None, refl, sym, ap, arith, ◌∙◌}
use Rattle.std.proofs.Common.{◌⊎◌, inl, inr, zero, suc, ◌&&◌, ◌||◌, [], ◌∷◌, drop, get_or, subst}
use Rattle.std.specs.List.{list_all}
use Rattle.std.proofs.Math.Bool.{and_assoc, and-true}
use Rattle.std.proofs.lemmas.Bool.{and_from, eq-eqb}
use Rattle.std.proofs.lemmas.Grind.{common_steps}
use Rattle.std.proofs.lemmas.List.{drop_all, drop_more}
use Rattle.plan_places.specs.Places.{is_at}
use Rattle.routing_encoder.proofs.OpeningSteps.{places_are}
use Rattle.routing_encoder.proofs.WorldSteps.{stands_grown}
use Rattle.std.specs.Prelude.{option_map}
use Rattle.std.specs.List.{range_with_len}
use Rattle.std.proofs.lemmas.Bool.{cases_lt}
use Rattle.std.proofs.lemmas.List.{length-map}
use Rattle.std.proofs.lemmas.List.FromFn.{length-range_with_len}
use Rattle.std.proofs.lemmas.Option.{slice_get_past}
use Rattle.mw_text.specs.Address.{prefix_at}
use Rattle.ios_ast.specs.declared.file.File.{File}
use Rattle.route_record.specs.declared.Plan.{Plan}
use Rattle.route_record.specs.declared.TheConstants.{LENGTHS}
use Rattle.route_record.specs.declared.tracked.Tracked.{Tracked}
use Rattle.plan_places.specs.declared.places.Place.{Place}
use Rattle.plan_places.specs.Places.{has_place, item_at, place, places_below}
use Rattle.plan_places.specs.Plans.{lens_of}
use Rattle.question_lang.specs.declared.question.Question.{Question}
use Rattle.slot_places.proofs.PlaceLaws.{has-in, in-has, in-places, places-in}
use Rattle.term_store.specs.Terms.{Reading, Store}
use Rattle.sym_policy.specs.Held.{failures_of}
use Rattle.sym_policy.specs.Records.{prefix_of}
use Rattle.sym_rib.specs.declared.slots.SymSlot.{SymSlot}
use Rattle.sym_rib.specs.declared.slots.SymTables.{SymTables}
use Rattle.sym_rib.proofs.OneEach.{items_at}
use Rattle.world_variables.specs.Worlds.{places_in}
use Rattle.bgp_equations.specs.Environments.{environment_read}
use Rattle.bgp_equations.specs.Equations.{is_decided_heard, slot_read, slots_read}
use Rattle.shape_worlds.specs.Worlds.{slots_for}
use Rattle.bgp_worlds.proofs.Placed.{not_made}
use Rattle.routing_worlds.specs.Worlds.{shape_world_from}
use Rattle.routing_encoder.specs.declared.opening.OpenRouting.{OpenRouting}
use Rattle.routing_encoder.specs.Opened.{ReadsAs, StandsIn}
use Rattle.routing_encoder.specs.Shapes.{ReadAsShapes}

-- a world has slots of the routers of the files alone
past_none : (files : List File) (tracked : Tracked) (question : Question) (plan : Plan) (v : ℕ → Bool) (from router len : ℕ) →
    length files ≤ router → slots_for (shape_world_from files tracked question plan v from) len router ≡ None
unfolding shape_world_from
past_none files tracked question plan v from router len past =
    let long : length (shape_world_from files tracked question plan v from).slots ≡ LENGTHS * length files =
    length-map (range_with_len 0 (LENGTHS * length files)) _
    ∙ length-range_with_len 0 (LENGTHS * length files) in
    slice_get_past (shape_world_from files tracked question plan v from).slots (LENGTHS * router + len)
    (omega (arith, long, past))

off_none : (lens : List ℕ) (n : ℕ) (slots : List SymSlot) (router len : ℕ) → n ≤ router →
    item_at (places_below lens n) slots router len ≡ None
off_none lens n slots router len past = by (has_place (places_below lens n) router len) refl where
  by : (b : Bool) → has_place (places_below lens n) router len ≡ b → item_at (places_below lens n) slots router len ≡ None
  by true there =
      let below = (in-places lens n (place router len) (in-has (places_below lens n) router len there)).0 in
      absurd (omega (arith, below, past))
  by false none = not_made (places_below lens n) slots router len none

-- a length of one router of a plan is one of each
pub each_has : (lens : List ℕ) (n router len other : ℕ) → has_place (places_below lens n) router len ≡ true → other < n →
    has_place (places_below lens n) other len ≡ true
each_has lens n router len other there below =
    let here = (in-places lens n (place router len) (in-has (places_below lens n) router len there)).1 in
    has-in (places_below lens n) other len (places-in lens n other len below here)

-- the slots of all routers at a length read as those of the world
slots_are : (w : Reading) (files : List File) (tracked : Tracked) (question : Question) (plan : Plan) (from : ℕ)
    (slots : List SymSlot) (router len other : ℕ) → ReadAsShapes files tracked question plan from w slots →
    len < LENGTHS → has_place (places_in files plan) router len ≡ true →
    option_map (slot_read w) (item_at (places_in files plan) slots other len)
    ≡ slots_for (shape_world_from files tracked question plan w.variable from) len other
slots_are w files tracked question plan from slots router len other read short there =
    by (cases_lt other (length files))
  where
    by : (other < length files) ⊎ (length files ≤ other) →
        option_map (slot_read w) (item_at (places_in files plan) slots other len)
        ≡ slots_for (shape_world_from files tracked question plan w.variable from) len other
    by (inl below) = read other len below short (each_has (lens_of plan) (length files) router len other there below)
    by (inr past) =
        ap (option_map (slot_read w)) (off_none (lens_of plan) (length files) slots other len past)
        ∙ sym (past_none files tracked question plan w.variable from other len past)

-- the equation of what is read is that of the world
pub decided_is : (w : Reading) (files : List File) (tracked : Tracked) (question : Question) (plan : Plan) (from : ℕ)
    (t : Store) (made : OpenRouting) (tables : SymTables) (slots : List SymSlot) (p : Place) →
    StandsIn files tracked question plan t made → ReadsAs files tracked question plan from w made →
    ReadAsShapes files tracked question plan from w slots → tables.lens.now ≡ made.frame.lens.items →
    tables.routers ≡ length files → tables.slots.now ≡ slots → p.len < LENGTHS →
    has_place (places_in files plan) p.router p.len ≡ true →
    is_decided_heard tracked files (failures_of w made.net) (environment_read w files tables.lens.now made.env)
    (slots_read w tables p.len) p.router (prefix_of w made.packet.dst p.len)
    ≡ is_decided_heard tracked files (shape_world_from files tracked question plan w.variable from).failures
    (shape_world_from files tracked question plan w.variable from).environment
    (slots_for (shape_world_from files tracked question plan w.variable from) p.len) p.router
    (prefix_at (shape_world_from files tracked question plan w.variable from).packet.dst p.len)
unfolding shape_world_from
decided_is w files tracked question plan from t made tables slots p stands read shapes lens routers same short there =
    (λ i. is_decided_heard tracked files (read.failures i) (environment i) (λ router. each router i) p.router
    (prefix_at (read.packet i).dst p.len))
  where
    all_lens : tables.lens.now ≡ lens_of plan
    all_lens = lens ∙ stands.frame.lens

    environment : environment_read w files tables.lens.now made.env
        ≡ (shape_world_from files tracked question plan w.variable from).environment
    environment = ap (λ ls. environment_read w files ls made.env) all_lens ∙ read.environment

    each : (router : ℕ) → slots_read w tables p.len router
        ≡ slots_for (shape_world_from files tracked question plan w.variable from) p.len router
    each router =
        (λ i. option_map (slot_read w) (item_at (places_below (all_lens i) (routers i)) (same i) router p.len))
        ∙ slots_are w files tracked question plan from slots p.router p.len router shapes short there

-- ---- all places

-- a routing that stands in a store has a slot for each place of its frame
pub stands_long : (files : List File) (tracked : Tracked) (question : Question) (plan : Plan) (t : Store)
    (made : OpenRouting) (slots : List SymSlot) → StandsIn files tracked question plan t made →
    length slots ≡ length made.frame.places → (length made.frame.lens.items ≤ LENGTHS)
    × (length slots ≡ length files * length made.frame.lens.items)
stands_long files tracked question plan t made slots stands long =
    (stands.frame.few, long ∙ stands.frame.many)

-- a place of the frame is one of the plan
pub place_has : (files : List File) (tracked : Tracked) (question : Question) (plan : Plan) (t : Store)
    (made : OpenRouting) (at : ℕ) (d : Place) → StandsIn files tracked question plan t made →
    at < length made.frame.places →
    ((get_or made.frame.places at d).len < LENGTHS)
    × (has_place (places_in files plan) (get_or made.frame.places at d).router (get_or made.frame.places at d).len ≡ true)
place_has files tracked question plan t made at d stands below = (
  stands.frame.short at d below,
  subst (λ ps. has_place ps (get_or made.frame.places at d).router (get_or made.frame.places at d).len ≡ true)
      (places_are files tracked plan made.frame stands.frame) (nth_has made.frame.places at d below),
)
  where
    or_right : (a b : Bool) → b ≡ true → (a || b) ≡ true
    or_right true b is = refl
    or_right false b is = is

    nth_has : (ps : List Place) (i : ℕ) (d : Place) → i < length ps →
        has_place ps (get_or ps i d).router (get_or ps i d).len ≡ true
    nth_has [] i d below = absurd (omega (arith, below))
    nth_has (q ∷ ps) zero d below =
        ap (λ b. b || has_place ps q.router q.len) (and_from _ _ (eq-eqb q.router q.router refl) (eq-eqb q.len q.len refl))
    nth_has (q ∷ ps) (suc i) d below =
        or_right (is_at (get_or ps i d).router (get_or ps i d).len q) _ (nth_has ps i d (omega (arith, below)))

pub decided_next : (test : Place → Bool) (ps : List Place) (at : ℕ) (d : Place) → at < length ps →
    list_all test (drop at ps) ≡ (test (get_or ps at d) && list_all test (drop (at + 1) ps))
decided_next test ps at d below = ap (list_all test) (drop_more ps at d below)

pub decided_none : (test : Place → Bool) (ps : List Place) (at : ℕ) → length ps ≤ at → list_all test (drop at ps) ≡ true
decided_none test ps at past = ap (list_all test) (drop_all at ps past)

pub ruleset decided_steps =
    (common_steps, stands_long, stands_grown, place_has, decided_next, decided_none, items_at, and_assoc, and-true)
