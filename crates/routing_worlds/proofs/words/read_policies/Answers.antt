use Rattle.std.proofs.Common.{All, arith, subst}
use Rattle.std.proofs.lemmas.List.{take_all}
use Rattle.std.proofs.lemmas.List.Elements.{All-more}
use Rattle.ios_ast.specs.declared.policies.RouteMap.{RouteMap}
use Rattle.rebuilt_routes.specs.Words.{HasWordSets, SetsWords}
use Rattle.std.proofs.Common.{List}
use Rattle.routing_worlds.proofs.words.read_policies.Goals as goal

pub loop-file-preserved : goal.loop-file-preserved
loop-file-preserved c =
    let within = c.loop-file-test.true in
    let last = c.loop-file.auto.file-index-end in
    All-more HasWordSets c.args.files.now c.loop-file.file-index _
    (omega (arith, within, last)) c.loop-file.invariant
    (subst HasWordSets c.file-item.is
    (subst (λ (ms : List RouteMap). All (λ m. All (λ e. All SetsWords e.sets) m.entries) ms) c.as_slice.ensures
    c.read_maps.ensures))

pub returns : goal.returns
returns c =
    let past = c.loop-file-test.false in
    let last = c.loop-file.auto.file-index-end in
    subst (All HasWordSets)
    (take_all c.loop-file.file-index c.args.files.now (omega (arith, past, last)))
    c.loop-file.invariant
