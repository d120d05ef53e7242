use Rattle.std.proofs.Common.{All, arith, subst}
use Rattle.std.proofs.lemmas.List.{take_all}
use Rattle.std.proofs.lemmas.List.Elements.{All-more}
use Rattle.ios_ast.specs.declared.policies.MapEntry.{MapEntry}
use Rattle.ios_ast.specs.declared.policies.RouteMap.{RouteMap}
use Rattle.rebuilt_routes.specs.Words.{SetsWords}
use Rattle.std.proofs.Common.{List}
use Rattle.routing_worlds.proofs.words.read_maps.Goals as goal

abbrev MapWords : RouteMap → Type 0
MapWords = λ (m : RouteMap). All (λ e. All SetsWords e.sets) m.entries

pub loop-map-preserved : goal.loop-map-preserved
loop-map-preserved c =
    let within = c.loop-map-test.true in
    let last = c.loop-map.auto.map-index-end in
    All-more MapWords c.args.maps.now c.loop-map.map-index _
    (omega (arith, within, last)) c.loop-map.invariant
    (subst MapWords c.map-item.is
    (subst (λ (es : List MapEntry). All (λ e. All SetsWords e.sets) es) c.as_slice.ensures c.read_entries.ensures))

pub returns : goal.returns
returns c =
    let past = c.loop-map-test.false in
    let last = c.loop-map.auto.map-index-end in
    subst (All MapWords)
    (take_all c.loop-map.map-index c.args.maps.now (omega (arith, past, last)))
    c.loop-map.invariant
