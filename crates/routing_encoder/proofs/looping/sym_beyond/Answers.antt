use Rattle.std.proofs.Common.{◌≡◌, Bool, true, false, List, ℕ, Option, length, not, refl, sym, ap, ◌∙◌}
use Rattle.std.specs.List.{list_all}
use Rattle.loop_free_walks.specs.Entries.{is_plain}
use Rattle.net_parts.specs.Stable.{Stable}
use Rattle.question_lang.specs.declared.walk.Walk.{Walk}
use Rattle.question_lang.specs.Breaking.{Breaks}
use Rattle.route_record.specs.declared.Environment.{Environment}
use Rattle.route_record.specs.declared.tracked.Tracked.{Tracked}
use Rattle.route_record.specs.declared.World.{World}
use Rattle.sym_rib.specs.Worlds.{StandForTables}
use Rattle.term_store.specs.declared.NodeId.{NodeId}
use Rattle.term_store.specs.Reading.{Reads}
use Rattle.term_store.specs.Terms.{Reading, at}
use Rattle.ospf_equations.proofs.HoldingSteps.{gives_more}
use Rattle.routing_encoder.specs.Looping.{only_loops}
use Rattle.routing_encoder.proofs.LoopingSteps.{all_interior, unbroken}
use Rattle.routing_encoder.proofs.looping.sym_beyond.Goals as goal

-- a question that is of loops has no walk that breaks it, where the entries of a stable routing are interior
pub returns-then-are_plain-clause-value : goal.returns-then-are_plain-clause-value
returns-then-are_plain-clause-value c =
    gives_more c.constant_node-then-are_plain.new.terms c.constant_node-then-are_plain.result _ _ by
    c.constant_node-then-are_plain.ensures.value
  where
    by : (w : Reading) (r : NodeId) → Reads w c.constant_node-then-are_plain.new.terms → at w r ≡ false →
        (tracked : Tracked) (lens : List ℕ) (real : World) (environment : Environment) (walk : Option Walk) →
        StandForTables w tracked lens (length c.args.net.now.files) c.args.slots.now real.tables →
        Stable c.args.net.now.files real.packet.dst real.failures environment real.tables →
        Breaks c.args.net.now.files real c.args.question.now.kind walk → at w r ≡ true
    by w r reads is tracked lens real environment walk stand stable breaks =
        let files = c.args.net.now.files in
        let limits = c.routers-routers.ensures.limits in
        let interior = c.interior_law.ensures files real environment stable
        (ap (list_all is_plain) (sym c.routers-routers.ensures.all) ∙ sym c.are_plain.ensures ∙ c.if-are_plain.true) in
        absurd (unbroken files real
        (c.loop_free_law.ensures.loops files real environment stable limits interior)
        (c.loop_free_law.ensures.short files real environment stable limits interior)
        c.args.question.now.kind walk
        (ap (only_loops c.args.question.now.kind) (ap length (sym c.routers-routers.ensures.all))
        ∙ sym c.is_of_loops.ensures ∙ c.if-not-is_of_loops.false) breaks)

pub returns-clause-value : goal.returns-clause-value
returns-clause-value c =
    gives_more c.negate.new.terms c.negate.result _ _ by c.negate.ensures.value
  where
    by : (w : Reading) (r : NodeId) → Reads w c.negate.new.terms → at w r ≡ not (at w c.in_ok-interior.interior) →
        (tracked : Tracked) (lens : List ℕ) (real : World) (environment : Environment) (walk : Option Walk) →
        StandForTables w tracked lens (length c.args.net.now.files) c.args.slots.now real.tables →
        Stable c.args.net.now.files real.packet.dst real.failures environment real.tables →
        Breaks c.args.net.now.files real c.args.question.now.kind walk → at w r ≡ true
    by w r reads is tracked lens real environment walk stand stable breaks =
        is ∙ ap not (by_value (at w c.in_ok-interior.interior) refl)
      where
        by_value : (b : Bool) → at w c.in_ok-interior.interior ≡ b → at w c.in_ok-interior.interior ≡ false
        by_value false fails = fails
        by_value true holds =
            let files = c.args.net.now.files in
            let limits = c.routers-routers.ensures.limits in
            let interior = all_interior w tracked lens (length files) c.args.slots.now real.tables stand
            (sym (c.in_ok-interior.ensures.value w (c.negate.ensures.builds.reads w reads)) ∙ holds) in
            absurd (unbroken files real
            (c.loop_free_law.ensures.loops files real environment stable limits interior)
            (c.loop_free_law.ensures.short files real environment stable limits interior)
            c.args.question.now.kind walk
            (ap (only_loops c.args.question.now.kind) (ap length (sym c.routers-routers.ensures.all))
            ∙ sym c.is_of_loops.ensures ∙ c.if-not-is_of_loops.false) breaks)
