-- What the root of an ask's terms says.
use Rattle.std.proofs.Common.{◌≡◌, ℕ, ◌*◌, ◌<◌, ◌≤◌, ◌&&◌, nat_le, Bool, true, false, List, [], ◌∷◌, Option, Some, None, length}
use Rattle.std.proofs.Common.{refl, sym, ap, subst, arith, ◌∙◌}
use Rattle.std.specs.Prelude.{option_and_then, slice_get}
use Rattle.std.specs.Option.{option_map_or}
use Rattle.std.proofs.lemmas.Bool.{and_from, and_parts, leb-true, true≢false}
use Rattle.mw_text.specs.declared.address.Addr.{Addr}
use Rattle.mw_text.specs.Address.{covers, prefix_at}
use Rattle.ios_ast.specs.declared.file.File.{File}
use Rattle.route_record.specs.declared.Environment.{Environment}
use Rattle.route_record.specs.declared.Failures.{Failures}
use Rattle.route_record.specs.declared.Packet.{Packet}
use Rattle.route_record.specs.declared.Plan.{Plan}
use Rattle.route_record.specs.declared.Tables.{Tables}
use Rattle.route_record.specs.declared.TheConstants.{LENGTHS}
use Rattle.route_record.specs.declared.World.{World}
use Rattle.route_record.specs.declared.tracked.Tracked.{Tracked}
use Rattle.net_parts.specs.declared.sessions.SessionEnd.{SessionEnd}
use Rattle.net_parts.specs.Sessions.{ends_of, peerings, sessions}
use Rattle.net_parts.specs.Tracked.{TracksNet}
use Rattle.bgp_shapes.proofs.TrackedLaw.{tests_tracked}
use Rattle.plan_places.specs.Plans.{lens_of, single_plan}
use Rattle.question_lang.specs.declared.question.Question.{Question}
use Rattle.question_lang.specs.declared.walk.Walk.{Walk}
use Rattle.question_lang.specs.Breaking.{IsBreaking}
use Rattle.question_lang.specs.Packets.{IsInSet}
use Rattle.sym_policy.specs.Held.{failures_of}
use Rattle.sym_policy.specs.Records.{address_of, prefix_of}
use Rattle.sym_policy.proofs.HighBits.{covers_prefix}
use Rattle.sym_walk.specs.declared.breaks.SymWorld.{SymWorld}
use Rattle.sym_walk.specs.Whole.{HasSlots}
use Rattle.term_store.specs.Reading.{Builds, Reads}
use Rattle.term_store.specs.Terms.{Agrees, Reading, Store, at, reading_of, size, truth, value_of}
use Rattle.bgp_equations.specs.declared.environment.SymEnv.{SymEnv}
use Rattle.shape_worlds.specs.Worlds.{ShapeWorld, shapes_of}
use Rattle.sliced_routings.specs.Plans.{IsFittingPlan}
use Rattle.sliced_routings.specs.Slicing.{IsSliced, IsSlicedBreak}
use Rattle.routing_worlds.specs.Worlds.{HasWordNetwork, environment_from, is_routing, shape_world_from, world_from}
use Rattle.routing_worlds.proofs.RoutingSound.{shapes_are}
use Rattle.routing_encoder.specs.declared.encoding.Encoding.{Encoding}
use Rattle.routing_encoder.specs.Encoded.{IsEncoding, StandsForWorld, routing_bits}
use Rattle.routing_encoder.specs.Opened.{routing_width}
use Rattle.export_asks.specs.declared.ask.Ask.{Ask}
use Rattle.export_asks.specs.Exported.{end_to, is_asked, is_exported}
use Rattle.export_terms.specs.Routes.{routes_at}
use Rattle.export_terms.specs.Shapes.{any_below, shape_goes_out, shape_out}
use Rattle.export_terms.proofs.Anys.{any_each, any_some}
use Rattle.export_terms.proofs.Read.{out_of_tables}
use Rattle.ask_search.specs.declared.encoding.AskTerms.{AskTerms}
use Rattle.ask_search.specs.Encoded.{IsAskEncoding, IsExportTerm, IsExportedBy, exports_read}
use Rattle.ask_search.specs.Exporting.{IsExportable, IsExporting, packets_to, question_of}
use Rattle.routing_encoder.proofs.RealWorlds.{stand_for}
use Rattle.routing_encoder.proofs.SinglePlan.{all_sliced, fits_single}

-- ---- where a route goes out there is a router

no_ends : ends_of [] ≡ []
unfolding ends_of sessions peerings
no_ends = refl

no_end : (place : Option ℕ) → option_and_then (slice_get (ends_of [])) place ≡ None
no_end None = refl
no_end (Some n) = ap (λ (ends : List SessionEnd). slice_get ends n) no_ends

not_out : (asked : Bool) (goes : SessionEnd → Bool) (end : Option SessionEnd) →
    (asked && option_map_or goes end false) ≡ true → end ≡ None → ⊥
not_out asked goes end out none =
    true≢false (sym (and_parts asked _ out).1 ∙ ap (λ o. option_map_or goes o false) none)

pub some_router : (tracked : Tracked) (files : List File) (ask : Ask) (world : SymWorld) (w : Reading) →
    exports_read tracked files ask world w ≡ true → 0 < length files
unfolding shape_out
some_router tracked [] ask world w any =
    let found = any_some LENGTHS _ any in
    let p = prefix_of w world.packet.dst found.0 in
    let held = routes_at w (lens_of world.plan) 0 world.slots found.0 in
    absurd (not_out (is_asked ask p) (shape_goes_out tracked [] ask (failures_of w world.net) held p)
    (option_and_then (slice_get (ends_of [])) (end_to [] ask.to)) found.2 (no_end (end_to [] ask.to)))
some_router tracked (file ∷ files) ask world w any = omega arith

-- ---- a world of terms that stands for a real one

module _ (w : Reading) (files : List File) (tracked : Tracked) (question : Question) (plan : Plan) (world : SymWorld)
    (env : SymEnv) (real : World) (environment : Environment) (slots : HasSlots files world)
    (at_plan : world.plan ≡ plan) (stands : StandsForWorld files tracked question plan 0 w world env)
    (same : shape_world_from files tracked question plan w.variable 0 ≡ shapes_of tracked real environment) where
  destination : address_of w world.packet.dst ≡ real.packet.dst
  destination =
      ap (λ (p : Packet). p.dst) (stands.packet ∙ ap (λ (s : ShapeWorld). s.packet) same)

  failed : failures_of w world.net ≡ real.failures
  failed = stands.failures ∙ ap (λ (s : ShapeWorld). s.failures) same

  -- by its terms a route goes out where one does by the real tables
  pub exports_are : (ask : Ask) → TracksNet files tracked → exports_read tracked files ask world w
      ≡ any_below LENGTHS (is_exported files ask real.packet.dst real.failures real.tables)
  exports_are ask tracks =
      out_of_tables w tracked files ask (address_of w world.packet.dst) (failures_of w world.net) (lens_of world.plan)
      world.slots real.tables (tests_tracked files tracked tracks)
      (stand_for w files tracked question plan world env real environment slots at_plan stands same)
      ∙ (λ i. any_below LENGTHS (is_exported files ask (destination i) (failed i) real.tables))

-- ---- the packet of a routing that exports

abbrev packet_for : Addr → Packet
packet_for d = record { src = record { 0 = 0 }; dst = d; proto = 0; sport = 0; dport = 0 }

-- the destination of a prefix that is asked for is in the ask's prefix
asked_covers : (files : List File) (ask : Ask) (d : Addr) (failures : Failures) (tables : Tables) (len : ℕ) →
    len < LENGTHS → is_exported files ask d failures tables len ≡ true → covers ask.prefix d ≡ true
unfolding is_exported
asked_covers files ask d failures tables len short exported =
    let asked = (and_parts _ _ exported).0 in
    let inside = (and_parts _ _ asked).0 in
    let parts = and_parts (nat_le ask.prefix.len len) (covers ask.prefix (prefix_at d len).addr) inside in
    sym (covers_prefix ask.prefix d len (leb-true ask.prefix.len len parts.0) (omega (arith, short))) ∙ parts.1

in_set : (files : List File) (ask : Ask) (d : Addr) (failures : Failures) (environment : Environment) (tables : Tables)
    (len : ℕ) → IsExporting files ask d failures environment tables len →
    IsInSet (packets_to ask.prefix) (packet_for d)
in_set files ask d failures environment tables len exporting =
    let inside = asked_covers files ask d failures tables len exporting.short exporting.exported in
    let fits = exporting.destination in record {
      ranges = record {
        src = omega arith;
        dst = fits;
        proto = omega arith;
        sport = omega arith;
        dport = omega arith;
      };
      proto = λ wanted is. absurd cc;
      src = refl;
      dst = inside;
      sport = (omega arith, omega arith);
      dport = (omega arith, omega arith);
      portless = λ tcp udp. (refl, refl);
    }

-- ---- the root

without_walk : (files : List File) (ask : Ask) (world : World) (environment : Environment) (walk : Option Walk) →
    IsBreaking files (question_of ask) world environment walk → IsBreaking files (question_of ask) world environment None
without_walk files ask world environment walk breaking = record {
  packet = breaking.packet;
  environment_fits = breaking.environment_fits;
  failures = breaking.failures;
  stable = breaking.stable;
  breaks = refl;
}

module _ (files : List File) (tracked : Tracked) (ask : Ask) (e : Encoding) (x made : AskTerms)
    (enc : IsEncoding files tracked (question_of ask) e) (at_plan : e.world.plan ≡ single_plan)
    (words : HasWordNetwork files tracked (question_of ask)) (export : IsExportTerm files tracked ask x)
    (builds : Builds e.terms made.terms)
    (value : (w : Reading) → Reads w made.terms → (u : Reading) × Reads u x.terms × (u.variable ≡ w.variable)
    × (at w made.root ≡ (at w e.root && at u x.root)))
    (reads : (valuation : List Bool) → Reads (reading_of made.terms.nodes valuation) made.terms)
    (has_values : (w : Reading) (valuation : List Bool) → Reads w e.terms → Agrees w valuation e.terms.vars →
    (i : ℕ) → i < size e.terms → w.node i ≡ value_of e.terms.nodes valuation i) where
  abbrev read : List Bool → Reading
  read valuation = reading_of made.terms.nodes valuation

  -- the old root has its value
  old_value : (valuation : List Bool) → at (read valuation) e.root ≡ value_of e.terms.nodes valuation e.root.0
  old_value valuation =
      has_values (read valuation) valuation (builds.reads (read valuation) (reads valuation)) (λ k below. refl) e.root.0
      enc.root

  -- both roots are true
  abbrev Halves : List Bool → Type 0
  Halves valuation =
      (value_of e.terms.nodes valuation e.root.0 ≡ true)
      × ((u : Reading) × Reads u x.terms × (u.variable ≡ truth valuation) × (at u x.root ≡ true))

  halves : (valuation : List Bool) → value_of made.terms.nodes valuation made.root.0 ≡ true → Halves valuation
  halves valuation holds = by (value (read valuation) (reads valuation)) where
    by : ((u : Reading) × Reads u x.terms × (u.variable ≡ truth valuation)
        × (at (read valuation) made.root ≡ (at (read valuation) e.root && at u x.root))) → Halves valuation
    by (u, stands, same, is) =
        let parts = and_parts (at (read valuation) e.root) (at u x.root) (sym is ∙ holds) in
        (sym (old_value valuation) ∙ parts.0, (u, stands, same, parts.1))

  fitting : (valuation : List Bool) → Halves valuation → IsFittingPlan files e.world.plan
  fitting valuation (root, (u, stands, same, out)) =
      subst (IsFittingPlan files) (sym at_plan) (fits_single files (export.some u stands out))

  -- what is so with this plan is so with that
  abbrev AtPlan : (Plan → Type 0) → Type 0
  AtPlan P = P e.world.plan → P single_plan

  to_single : (P : Plan → Type 0) → AtPlan P
  to_single P p = subst P at_plan p

  routing_is : (valuation : List Bool) → Halves valuation →
      is_routing files tracked (question_of ask) single_plan (truth valuation) 0 ≡ true
  routing_is valuation both =
      to_single (λ p. is_routing files tracked (question_of ask) p (truth valuation) 0 ≡ true)
      (enc.sound (fitting valuation both) valuation both.0).0

  breaking_is : (valuation : List Bool) → Halves valuation →
      IsBreaking files (question_of ask) (world_from files tracked (question_of ask) single_plan (truth valuation) 0)
      (environment_from files tracked (question_of ask) single_plan (truth valuation) 0) None
  breaking_is valuation both =
      let found = (enc.sound (fitting valuation both) valuation both.0).1 in
      to_single (λ p. IsBreaking files (question_of ask)
      (world_from files tracked (question_of ask) p (truth valuation) 0)
      (environment_from files tracked (question_of ask) p (truth valuation) 0) None)
      (without_walk files ask (world_from files tracked (question_of ask) e.world.plan (truth valuation) 0)
      (environment_from files tracked (question_of ask) e.world.plan (truth valuation) 0) found.0 found.1.breaking)

  out_is : (valuation : List Bool) → Halves valuation →
      any_below LENGTHS (is_exported files ask
      (world_from files tracked (question_of ask) single_plan (truth valuation) 0).packet.dst
      (world_from files tracked (question_of ask) single_plan (truth valuation) 0).failures
      (world_from files tracked (question_of ask) single_plan (truth valuation) 0).tables) ≡ true
  out_is valuation (root, (u, stands, same, out)) =
      let world = world_from files tracked (question_of ask) single_plan (truth valuation) 0 in
      let environment = environment_from files tracked (question_of ask) single_plan (truth valuation) 0 in
      let routing = routing_is valuation (root, (u, stands, same, out)) in
      let shapes = shapes_are files tracked (question_of ask) single_plan (truth valuation) 0 words routing in
      sym (export.value u stands world environment
      (ap (λ v. shape_world_from files tracked (question_of ask) single_plan v 0) same ∙ sym shapes)) ∙ out

  sound_at : (valuation : List Bool) → value_of made.terms.nodes valuation made.root.0 ≡ true →
      IsExportedBy files ask (world_from files tracked (question_of ask) single_plan (truth valuation) 0)
      (environment_from files tracked (question_of ask) single_plan (truth valuation) 0)
  sound_at valuation holds =
      let both = halves valuation holds in record {
        breaking = breaking_is valuation both;
        exported = any_some LENGTHS _ (out_is valuation both);
      }

  sliced : (world : World) (environment : Environment) → IsSliced e.world.plan world environment
  sliced world environment =
      subst (λ (p : Plan). IsSliced p world environment) (sym at_plan) (all_sliced world environment)

  broken_by : (d : Addr) (failures : Failures) (environment : Environment) (tables : Tables) (len : ℕ) →
      IsExporting files ask d failures environment tables len →
      IsSlicedBreak files (question_of ask) e.world.plan
      (record { failures = failures; packet = packet_for d; tables = tables }) environment None
  broken_by d failures environment tables len exporting = record {
    breaking = record {
      packet = in_set files ask d failures environment tables len exporting;
      environment_fits = exporting.environment_fits;
      failures = exporting.failures_fit;
      stable = exporting.stable;
      breaks = refl;
    };
    sliced = sliced (record { failures = failures; packet = packet_for d; tables = tables }) environment;
  }

  -- the bits of a routing that exports make both roots true
  made_true : (bits : List Bool) (real : World) (environment : Environment) →
      value_of e.terms.nodes bits e.root.0 ≡ true →
      shape_world_from files tracked (question_of ask) single_plan (truth bits) 0 ≡ shapes_of tracked real environment →
      any_below LENGTHS (is_exported files ask real.packet.dst real.failures real.tables) ≡ true →
      value_of made.terms.nodes bits made.root.0 ≡ true
  made_true bits real environment root shapes out = by (value (read bits) (reads bits)) where
    by : ((u : Reading) × Reads u x.terms × (u.variable ≡ truth bits)
        × (at (read bits) made.root ≡ (at (read bits) e.root && at u x.root))) →
        value_of made.terms.nodes bits made.root.0 ≡ true
    by (u, stands, same, is) =
        is
        ∙ and_from (at (read bits) e.root) (at u x.root) (old_value bits ∙ root)
        (export.value u stands real environment
        (ap (λ v. shape_world_from files tracked (question_of ask) single_plan v 0) same ∙ shapes) ∙ out)

  complete_at : IsExportable files ask →
      (valuation : List Bool) × (value_of made.terms.nodes valuation made.root.0 ≡ true)
  complete_at (d, failures, environment, tables, len, exporting) =
      let real : World = record { failures = failures; packet = packet_for d; tables = tables } in
      let broken = broken_by d failures environment tables len exporting in
      let bits = routing_bits files tracked (question_of ask) e.world.plan real environment in
      let shapes = to_single (λ p. shape_world_from files tracked (question_of ask) p (truth bits) 0
      ≡ shapes_of tracked real environment) (enc.shapes real environment None broken) in (
        bits,
        made_true bits real environment (enc.complete real environment None broken) shapes
            (any_each LENGTHS _ len exporting.short exporting.exported),
      )

  encoding_for : made.root.0 < size made.terms → IsAskEncoding files tracked ask made
  encoding_for within = record {
    root = within;
    vars = builds.same_vars ∙ enc.vars ∙ ap (routing_width files tracked (question_of ask)) at_plan;
    routing = λ valuation holds. routing_is valuation (halves valuation holds);
    sound = sound_at;
    complete = complete_at;
  }

-- the terms of an ask, by those of its question and of its export
pub ask_encoding : (files : List File) (tracked : Tracked) (ask : Ask) (question : Question) (e : Encoding)
    (x made : AskTerms) → question ≡ question_of ask → IsEncoding files tracked question e →
    e.world.plan ≡ single_plan → HasWordNetwork files tracked question → IsExportTerm files tracked ask x →
    Builds e.terms made.terms → made.root.0 < size made.terms →
    ((w : Reading) → Reads w made.terms → (u : Reading) × Reads u x.terms × (u.variable ≡ w.variable)
    × (at w made.root ≡ (at w e.root && at u x.root))) →
    ((valuation : List Bool) → Reads (reading_of made.terms.nodes valuation) made.terms) →
    ((w : Reading) (valuation : List Bool) → Reads w e.terms → Agrees w valuation e.terms.vars → (i : ℕ) →
    i < size e.terms → w.node i ≡ value_of e.terms.nodes valuation i) → IsAskEncoding files tracked ask made
ask_encoding files tracked ask question e x made is enc at_plan words export builds within value reads has_values =
    encoding_for files tracked ask e x made (subst (λ (q : Question). IsEncoding files tracked q e) is enc) at_plan
    (subst (HasWordNetwork files tracked) is words) export builds value reads has_values within

-- there are no more variables in the terms of the export than in those of the question
pub same_width : (files : List File) (tracked : Tracked) (ask : Ask) (question : Question) (e : Encoding) (x : AskTerms) →
    question ≡ question_of ask → IsEncoding files tracked question e → e.world.plan ≡ single_plan →
    IsExportTerm files tracked ask x → x.terms.vars ≤ e.terms.vars
same_width files tracked ask question e x is enc at_plan export =
    let own = export.vars in
    let all : e.terms.vars ≡ routing_width files tracked (question_of ask) single_plan =
    enc.vars ∙ (λ i. routing_width files tracked (is i) (at_plan i)) in
    omega (arith, own, all)

-- a world of the variables of a question, of which a term says whether a route goes out
pub export_is : (files : List File) (tracked : Tracked) (ask : Ask) (question : Question) (plan : Plan) (t : Store)
    (world : SymWorld) (env : SymEnv) (x : AskTerms) → question ≡ question_of ask → plan ≡ single_plan →
    TracksNet files tracked → HasSlots files world → world.plan ≡ plan →
    ((w : Reading) → Reads w t → StandsForWorld files tracked question plan 0 w world env) →
    t.vars ≡ routing_width files tracked question plan → Builds t x.terms → x.root.0 < size x.terms →
    ((w : Reading) → Reads w x.terms → at w x.root ≡ exports_read tracked files ask world w) →
    IsExportTerm files tracked ask x
export_is files tracked ask question plan t world env x is single tracks slots at_plan stands vars builds within value =
    record {
      root = within;
      vars = builds.same_vars ∙ vars ∙ (λ i. routing_width files tracked (is i) (single i));
      some = λ w reads true_is. some_router tracked files ask world w (sym (value w reads) ∙ true_is);
      value = λ w reads real environment same.
          value w reads
          ∙ exports_are w files tracked question plan world env real environment slots at_plan
          (stands w (builds.reads w reads))
          ((λ i. shape_world_from files tracked (is i) (single i) w.variable 0) ∙ same) ask tracks;
    }
