use Rattle.std.proofs.Common.{All, arith, subst}
use Rattle.std.proofs.lemmas.List.{take_all}
use Rattle.std.proofs.lemmas.List.Elements.{All-more}
use Rattle.ios_ast.specs.declared.policies.MapEntry.{MapEntry}
use Rattle.ios_ast.specs.declared.policies.SetAct.{SetAct}
use Rattle.rebuilt_routes.specs.Words.{SetsWords}
use Rattle.std.proofs.Common.{List}
use Rattle.routing_worlds.proofs.words.read_entries.Goals as goal

abbrev SetWords : MapEntry → Type 0
SetWords = λ (e : MapEntry). All SetsWords e.sets

pub loop-entry-preserved : goal.loop-entry-preserved
loop-entry-preserved c =
    let within = c.loop-entry-test.true in
    let last = c.loop-entry.auto.entry-index-end in
    All-more SetWords c.args.entries.now c.loop-entry.entry-index _
    (omega (arith, within, last)) c.loop-entry.invariant
    (subst SetWords c.entry-item.is
    (subst (λ (s : List SetAct). All SetsWords s) c.as_slice.ensures c.read_sets.ensures))

pub returns : goal.returns
returns c =
    let past = c.loop-entry-test.false in
    let last = c.loop-entry.auto.entry-index-end in
    subst (All SetWords)
    (take_all c.loop-entry.entry-index c.args.entries.now (omega (arith, past, last)))
    c.loop-entry.invariant
