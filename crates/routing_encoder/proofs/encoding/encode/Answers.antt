use Rattle.std.proofs.Common.{◌≡◌, ◌+◌, ℕ, Bool, List, [], Option, ap, arith, sym, subst, ◌∙◌}
use Rattle.std.proofs.lemmas.List.{append-nil}
use Rattle.ios_ast.specs.declared.file.File.{File}
use Rattle.question_lang.specs.declared.question.Question.{Question}
use Rattle.question_lang.specs.declared.walk.Walk.{Walk}
use Rattle.route_record.specs.declared.Environment.{Environment}
use Rattle.route_record.specs.declared.Plan.{Plan}
use Rattle.route_record.specs.declared.World.{World}
use Rattle.sliced_routings.specs.Slicing.{IsSlicedBreak}
use Rattle.failed_links.specs.Rows.{IsAt}
use Rattle.term_store.specs.Terms.{reading_of, truth}
use Rattle.igp_variables.specs.Rows.{rows_bits}
use Rattle.routing_worlds.specs.Worlds.{IsRouting, worlds_end}
use Rattle.routing_encoder.specs.Encoded.{IsRoot, StandsForWorld, routing_bits}
use Rattle.routing_encoder.specs.Opened.{routing_width}
use Rattle.routing_encoder.proofs.encoding.encode.Goals as goal

none_before : (n : ℕ) → 0 + n ≡ n
none_before n = omega arith

routing_of : (files : List File) (question : Question) (plan : Plan) (world : World) (environment : Environment)
    (walk : Option Walk) → IsSlicedBreak files question plan world environment walk →
    IsRouting files question world environment
routing_of files question plan world environment walk broken = record {
  packet = broken.breaking.packet;
  environment_fits = broken.breaking.environment_fits;
  failures = broken.breaking.failures;
  stable = broken.breaking.stable;
}

pub returns-clause-encoding : goal.returns-clause-encoding
returns-clause-encoding c =
    let files = c.args.net.now.files in
    let tracked = c.args.net.now.tracked in
    let question = c.args.question.now in
    let plan = c.in_ok-made.made.world.plan in
    let root = c.in_ok-made.made.root in
    let nodes = c.root_over_new.new.terms.nodes in
    let none = c.new-terms.ensures.vars in
    let same = sym c.in_ok-made.ensures.plan in
    let fits = c.read_network.ensures in
    let value : (valuation : List Bool) → IsRoot files tracked question plan 0 (reading_of nodes valuation) root =
    λ valuation.
    subst (λ (p : Plan). IsRoot files tracked question p 0 (reading_of nodes valuation) root) same
    (subst (λ n. IsRoot files tracked question c.in_ok-lengths.lengths n (reading_of nodes valuation) root) none
    (c.in_ok-made.ensures.value (reading_of nodes valuation) (c.valuation_reads.ensures valuation))) in
    record {
      root = c.in_ok-made.ensures.root;
      vars = c.in_ok-made.ensures.vars ∙ ap (λ n. n + routing_width files tracked question c.in_ok-lengths.lengths) none
          ∙ none_before (routing_width files tracked question c.in_ok-lengths.lengths)
          ∙ ap (routing_width files tracked question) same;
      world = λ w reads.
          subst (λ (p : Plan). StandsForWorld files tracked question p 0 w c.in_ok-made.made.world c.in_ok-made.made.env)
          same
          (subst (λ n. StandsForWorld files tracked question c.in_ok-lengths.lengths n w c.in_ok-made.made.world
          c.in_ok-made.made.env) none (c.in_ok-made.ensures.world w reads));
      sound = λ fitting valuation holds.
          let found = (value valuation).sound fits holds in
          let routing = c.sound_law.ensures.routing files tracked question plan (truth valuation) 0 fits fitting found.0
          in (
            found.0,
            (
              found.1.0,
              record {
                breaking = record {
                  packet = routing.packet;
                  environment_fits = routing.environment_fits;
                  failures = routing.failures;
                  stable = routing.stable;
                  breaks = found.1.1;
                };
                sliced = c.sound_law.ensures.sliced files tracked question plan (truth valuation) 0 fits found.0;
              },
            ),
          );
      complete = λ world environment walk broken.
          let bits = routing_bits files tracked question plan world environment in
          let v = truth bits in
          let rows = rows_bits files world.failures in
          let routing = routing_of files question plan world environment walk broken in
          let here = c.row_law.ensures bits in
          let behind = c.complete_law.ensures.behind files tracked question plan world environment rows v 0 fits
          broken.sliced routing here in
          let said = (c.rows_law.ensures files world.failures v (worlds_end files tracked question plan 0) []
          c.routers-routers.ensures.limits c.routers-routers.ensures.few
          (subst (IsAt v (worlds_end files tracked question plan 0)) (sym (append-nil rows)) behind)).0 in
          (value bits).complete fits world environment walk
          (c.complete_law.ensures.read files tracked question plan world environment rows v 0 fits broken.sliced
          routing here)
          (c.complete_law.ensures.passes files tracked question plan world environment rows v 0 fits
          broken.sliced routing here) said broken.breaking.stable broken.breaking.breaks;
      shapes = λ world environment walk broken.
          let bits = routing_bits files tracked question plan world environment in
          c.complete_law.ensures.read files tracked question plan world environment (rows_bits files world.failures)
          (truth bits) 0 fits broken.sliced (routing_of files question plan world environment walk broken)
          (c.row_law.ensures bits);
    }
