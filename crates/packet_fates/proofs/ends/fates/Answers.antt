use Rattle.std.proofs.Common.{Bool, List, sym, subst}
use Rattle.std.specs.Prelude.{IfOk}
use Rattle.std.proofs.lemmas.Result.{IfOk-weaker}
use Rattle.packet_fates.specs.Fates.{AreFates}
use Rattle.ios_ast.specs.declared.file.File.{File}
use Rattle.question_lang.specs.declared.walk.Hop.{Hop}
use Rattle.packet_fates.specs.Ends.{AreThose, IsFateOf}
use Rattle.packet_fates.specs.Reaching.{AreInside, AreReached}
use Rattle.packet_fates.proofs.Walking.{all_inside, are_fates}
use Rattle.packet_fates.proofs.ends.fates.Goals as goal

pub reached_from-requires-clause-inside : goal.reached_from-requires-clause-inside
reached_from-requires-clause-inside c =
    subst AreInside (sym c.as_slice.ensures)
    (all_inside c.args.net.now.files c.args.world.now c.in_ok-hops.hops c.in_ok-hops.ensures.len
    c.in_ok-hops.ensures.sent)

pub fates_over-requires-clause-inside : goal.fates_over-requires-clause-inside
fates_over-requires-clause-inside c =
    subst AreInside (sym c.as_slice-2.ensures)
    (all_inside c.args.net.now.files c.args.world.now c.in_ok-hops.hops c.in_ok-hops.ensures.len
    c.in_ok-hops.ensures.sent)

pub returns : goal.returns
returns c =
    let files = c.args.net.now.files in
    let all = c.in_ok-hops.hops in
    let marks = c.in_ok-marks.marks.items in
    let R : List (List Hop) → Type 0 = λ hs. AreReached hs c.args.start marks in
    let A : List File → Type 0 = λ fs. IfOk c.fates_over.result (AreThose (IsFateOf fs all marks)) in
    let B : List (List Hop) → Type 0 =
    λ hs. IfOk c.fates_over.result (AreThose (IsFateOf c.routers.result.now hs marks)) in
    let C : List Bool → Type 0 =
    λ ms. IfOk c.fates_over.result (AreThose (IsFateOf c.routers.result.now c.as_slice-2.result.now ms)) in
    let reached = subst R c.as_slice.ensures c.in_ok-marks.ensures in
    IfOk-weaker c.fates_over.result (AreThose (IsFateOf files all marks))
    (AreFates files c.args.world.now c.args.start)
    (λ fates those. are_fates files c.args.world.now c.args.start all marks fates c.in_ok-hops.ensures.len
    c.in_ok-hops.ensures.sent reached those)
    (subst A c.routers.ensures.all
    (subst B c.as_slice-2.ensures (subst C c.as_slice-3.ensures.value c.fates_over.ensures)))
