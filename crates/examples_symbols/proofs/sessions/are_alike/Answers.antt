use Rattle.std.proofs.Common.{All, arith, subst}
use Rattle.std.proofs.lemmas.List.{take_all}
use Rattle.std.proofs.lemmas.List.Elements.{All-more}
use Rattle.sym_bgp.specs.declared.parts.SymCand.{SymCand}
use Rattle.sym_bgp.specs.Candidates.{SameMarks}
use Rattle.examples_symbols.proofs.sessions.are_alike.Goals as goal

pub loop-c-preserved : goal.loop-c-preserved
loop-c-preserved c =
    let P : SymCand → Type 0 = λ x. SameMarks x.rec c.args.held.now in
    let within = c.loop-c-test.true in
    let last = c.loop-c.auto.c-index-end in
    All-more P c.args.candidates.now c.loop-c.c-index c.c-item.result (omega (arith, within, last)) c.loop-c.invariant
    (subst P c.c-item.is (c.is_alike.ensures c.if-not-is_alike.false))

pub returns : goal.returns
returns c = λ is.
    let P : SymCand → Type 0 = λ x. SameMarks x.rec c.args.held.now in
    let past = c.loop-c-test.false in
    let last = c.loop-c.auto.c-index-end in
    subst (All P) (take_all c.loop-c.c-index c.args.candidates.now (omega (arith, past, last))) c.loop-c.invariant
