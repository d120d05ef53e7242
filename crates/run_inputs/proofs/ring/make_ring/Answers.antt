use Rattle.std.proofs.Common.{◌≡◌, Err, Ok, Result, subst}
use Rattle.std.specs.Prelude.{IfErr, IfOk}
use Rattle.run_inputs.specs.Due.{Outcome, generating, refused, ring_texts}
use Rattle.run_inputs.specs.Loading.{OnStop}
use Rattle.run_inputs.proofs.Commands.{ring_same}
use Rattle.run_inputs.proofs.ring.make_ring.Goals as goal

pub returns-clause-ok : goal.returns-clause-ok
returns-clause-ok c =
    let slice = c.as_slice.ensures in
    let view = c.texts.view_is in
    let are = c.in_ok-texts.ensures.texts in
    let all : c.as_slice.result.now ≡ ring_texts c.args.routers c.args.routers = cc in
    let S : Result Outcome Outcome → Type 0 = λ z. IfOk c.parse_ring.result (λ ring.
    z ≡ Ok (generating ring.routers ring.loaded.net.files ring.loaded.questions ring.loaded.budget)) in
    subst S (ring_same c.args.budget c.args.routers _ _ all c.in_ok-asked.ensures.text) c.parse_ring.ensures.ok

pub returns-clause-stop : goal.returns-clause-stop
returns-clause-stop c =
    let slice = c.as_slice.ensures in
    let view = c.texts.view_is in
    let are = c.in_ok-texts.ensures.texts in
    let all : c.as_slice.result.now ≡ ring_texts c.args.routers c.args.routers = cc in
    let S : Result Outcome Outcome → Type 0 = λ z. IfErr c.parse_ring.result (λ stop.
    OnStop stop (λ line. z ≡ Err (refused line)) ⊥) in
    subst S (ring_same c.args.budget c.args.routers _ _ all c.in_ok-asked.ensures.text) c.parse_ring.ensures.stop
