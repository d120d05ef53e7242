use Rattle.std.proofs.Common.{◌≡◌, ℕ, List, Ok, Err, Option, ap, map, subst}
use Rattle.std.specs.Prelude.{IfSome, string_bytes}
use Rattle.std.proofs.lemmas.Result.{err_from_is_err_and}
use Rattle.mw_outside.specs.Contents.{Contents, TellsOnly}
use Rattle.mw_outside.specs.Faults.{Rose}
use Rattle.run_inputs.proofs.Loading.{on_stop-map}
use Rattle.run_inputs.specs.Due.{refused}
use Rattle.asked_files.specs.Network.{network_of}
use Rattle.asked_files.specs.Words.{Asking, asking}
use Rattle.asked_files.proofs.Networks.{stops_last}
use Rattle.advert_ask.specs.Due.{asks_in}
use Rattle.advert_ask.proofs.Reading.{asks_stopped}
use Rattle.advert_ask.proofs.loading.load_asked.Goals as goal

pub returns-in_err-asks-clause-stop : goal.returns-in_err-asks-clause-stop
returns-in_err-asks-clause-stop g c =
    let p = err_from_is_err_and c.from_residual-in_err-asks.result c.from_residual-in_err-asks.ensures.1 in
    let told : Option Contents = g.F.Files.contents c.args.files.now in
    let all : Asking = asking c.args.asked.now in
    let files = c.in_ok-net.net.files in
    let last = g.F.Files.last_failed c.load_asks.new.files in
    let N : List (List ℕ) → Type 0 = λ names. IfSome told (λ contents. network_of contents names ≡ Ok files) in
    let network = subst N (ap (map string_bytes) c.as_slice.ensures.value) c.in_ok-net.ensures.ok in
    rw (p.1, p.2)
    (on_stop-map c.in_err-asks.field-0.0 _ _ _ _ c.in_err-asks.ensures.stop
    (λ line said.
    let T : Option Contents → Type 0 = λ o.
    IfSome o (λ contents. asks_in contents c.as_str.result.now files ≡ Err (refused line)) in
    let Q : List ℕ → Type 0 = λ name. IfSome told (λ contents. asks_in contents name files ≡ Err (refused line)) in
    asks_stopped told all files line network
    (subst Q c.as_str.ensures.value (subst T c.in_ok-net.ensures.kept said)))
    (λ said.
    let R : ℕ → Type 0 = λ before. Rose before (g.F.Files.faults c.load_asks.new.files) in
    let L : List ℕ → Type 0 = λ name. TellsOnly name last in (
      subst R c.in_ok-net.ensures.quiet said.0,
      stops_last told all.configs all.own files last network (subst L c.as_str.ensures.value said.1),
    )))
