use Rattle.std.proofs.Common.{All, arith, subst}
use Rattle.std.proofs.lemmas.List.{take_all}
use Rattle.std.proofs.lemmas.List.Elements.{All-more}
use Rattle.ios_ast.specs.declared.file.File.{File}
use Rattle.ios_ast.specs.declared.file.StaticRoute.{StaticRoute}
use Rattle.world_variables.specs.Worlds.{FitsDistance}
use Rattle.std.proofs.Common.{List}
use Rattle.routing_worlds.proofs.words.read_distances.Goals as goal

abbrev FitStatics : File → Type 0
FitStatics = λ (file : File). All FitsDistance file.statics

pub loop-file-preserved : goal.loop-file-preserved
loop-file-preserved c =
    let within = c.loop-file-test.true in
    let last = c.loop-file.auto.file-index-end in
    All-more FitStatics c.args.files.now c.loop-file.file-index _
    (omega (arith, within, last)) c.loop-file.invariant
    (subst FitStatics c.file-item.is
    (subst (λ (rs : List StaticRoute). All FitsDistance rs) c.as_slice.ensures c.read_statics.ensures))

pub returns : goal.returns
returns c =
    let past = c.loop-file-test.false in
    let last = c.loop-file.auto.file-index-end in
    subst (All FitStatics)
    (take_all c.loop-file.file-index c.args.files.now (omega (arith, past, last)))
    c.loop-file.invariant
