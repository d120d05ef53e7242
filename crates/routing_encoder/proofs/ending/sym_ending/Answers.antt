use Rattle.std.proofs.Common.{◌≡◌, ap, sym, true, ◌∙◌, Option}
use Rattle.std.specs.List.{list_any}
use Rattle.question_lang.specs.declared.walk.Walk.{Walk}
use Rattle.question_lang.specs.Breaking.{Breaks}
use Rattle.sym_walk.specs.Distances.{DistancesWhereNeeded}
use Rattle.sym_walk.specs.Whole.{whole_of}
use Rattle.term_store.specs.declared.NodeId.{NodeId}
use Rattle.term_store.specs.Reading.{Reads}
use Rattle.term_store.specs.Terms.{Reading, at}
use Rattle.ospf_equations.proofs.HoldingSteps.{gives_more}
use Rattle.routing_encoder.specs.Ending.{may_end_read}
use Rattle.routing_encoder.proofs.EndingSteps.{breaks_ends}
use Rattle.routing_encoder.proofs.ending.sym_ending.Goals as goal

-- a question that is of how walks end is broken by one that ends at some router
pub returns-clause-value : goal.returns-clause-value
returns-clause-value c =
    gives_more c.sym_some_end.new.terms c.sym_some_end.result _ _ by c.sym_some_end.ensures.value
  where
    by : (w : Reading) (r : NodeId) → Reads w c.sym_some_end.new.terms →
        at w r ≡ list_any (may_end_read w) c.as_slice.result.now →
        DistancesWhereNeeded w c.args.net.now.files c.args.world.now.net c.args.world.now.slots →
        (walk : Option Walk) →
        Breaks c.args.net.now.files (whole_of w c.args.net.now.files c.args.world.now) c.args.question.now.kind walk →
        at w r ≡ true
    by w r reads is needed walk breaks =
        let made = c.sym_some_end.ensures.builds.reads w reads in
        is
        ∙ ap (list_any (may_end_read w)) c.as_slice.ensures
        ∙ breaks_ends w c.args.net.now.files (whole_of w c.args.net.now.files c.args.world.now)
        c.args.question.now.kind c.in_ok-table.table
        (sym c.is_of_ends.ensures ∙ c.if-not-is_of_ends.false)
        (c.in_ok-table.ensures.value w made needed) walk breaks
