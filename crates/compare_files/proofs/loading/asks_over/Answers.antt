use Rattle.std.proofs.Common.{◌≡◌, ℕ, List, Ok, Err, Option, ap, map, refl, subst}
use Rattle.std.specs.Prelude.{IfSome, string_bytes}
use Rattle.std.proofs.lemmas.Result.{err_from_is_err_and}
use Rattle.mw_outside.specs.Contents.{Contents, TellsOnly}
use Rattle.run_inputs.proofs.Commands.{quiet_stop}
use Rattle.run_inputs.proofs.Loading.{on_stop-map}
use Rattle.run_inputs.specs.Due.{refused}
use Rattle.same_asks.specs.declared.same.Same.{Same}
use Rattle.compare_words.specs.Words.{Asking, asks as asking}
use Rattle.compare_files.specs.Due.{asks_in, pair_of}
use Rattle.compare_files.proofs.Reading.{asks_stopped, asks_unread, files_read, pair_comes, pair_stopped}
use Rattle.compare_files.proofs.Tracking.{beside_of, clusters_fit, comes_still}
use Rattle.compare_files.proofs.loading.asks_over.Goals as goal

pub returns-in_err-compared-clause-stop : goal.returns-in_err-compared-clause-stop
returns-in_err-compared-clause-stop g c =
    let p = err_from_is_err_and c.from_residual.result c.from_residual.ensures.1 in
    let told : Option Contents = g.F.Files.contents c.args.files.now in
    let all : Asking = asking c.args.asked.now in
    let left = c.args.left.now in
    let right = c.args.right.now in
    rw (p.1, p.2)
    (on_stop-map c.in_err-compared.field-0.0 _ _ _ _ c.in_err-compared.ensures.stop
    (λ line said.
    let N : List (List ℕ) → Type 0 = λ names. pair_of names left right ≡ Err (refused line) in
    pair_stopped told all line
    (pair_comes told all.sides left right (Err (refused line)) c.requires
    (subst N (ap (map string_bytes) c.as_slice.ensures.value) said)))
    (λ never. absurd never))

pub returns-in_err-compared-clause-quiet : goal.returns-in_err-compared-clause-quiet
returns-in_err-compared-clause-quiet g c =
    let p = err_from_is_err_and c.from_residual.result c.from_residual.ensures.1 in
    rw (p.1, p.2) (quiet_stop (List Same) c.in_err-compared.field-0.0 refl)

pub returns-in_err-compared-clause-name_stays : goal.returns-in_err-compared-clause-name_stays
returns-in_err-compared-clause-name_stays g c =
    let p = err_from_is_err_and c.from_residual.result c.from_residual.ensures.1 in
    rw (p.1, p.2) (quiet_stop (List Same) c.in_err-compared.field-0.0 refl)

pub returns-in_err-asks-clause-stop : goal.returns-in_err-asks-clause-stop
returns-in_err-asks-clause-stop g c =
    let p = err_from_is_err_and c.from_residual-in_err-asks.result c.from_residual-in_err-asks.ensures.1 in
    let told : Option Contents = g.F.Files.contents c.args.files.now in
    let all : Asking = asking c.args.asked.now in
    let left = c.args.left.now in
    let right = c.args.right.now in
    let last = g.F.Files.last_failed c.load_asks.new.files in
    rw (p.1, p.2)
    (on_stop-map c.in_err-asks.field-0.0 _ _ _ _ c.in_err-asks.ensures.stop
    (λ line said.
    let Q : List ℕ → Type 0 = λ name.
    IfSome told (λ contents. asks_in contents name left.files right.files ≡ Err (refused line)) in
    asks_stopped told all left right line c.requires c.in_ok-compared.ensures.ok
    (subst Q c.as_str.ensures.value said))
    (λ said.
    let L : List ℕ → Type 0 = λ name. TellsOnly name last in
    (said.0, asks_unread told all left right last c.requires (subst L c.as_str.ensures.value said.1))))

pub track_both-requires : goal.track_both-requires
track_both-requires g c = record {
  compared = c.in_ok-compared.ensures.ok;
  left_clusters = clusters_fit c.args.left.now c.requires.left_tracks;
  right_clusters = clusters_fit c.args.right.now c.requires.right_tracks;
}

pub returns-clause-ok : goal.returns-clause-ok
returns-clause-ok g c =
    let told : Option Contents = g.F.Files.contents c.args.files.now in
    let all : Asking = asking c.args.asked.now in
    let left = c.args.left.now in
    let right = c.args.right.now in
    let asks = c.in_ok-asks.asks in
    let Q : List ℕ → Type 0 = λ name. IfSome told (λ contents. asks_in contents name left.files right.files ≡ Ok asks) in
    comes_still told all left right c.track_both.new.left c.track_both.new.right asks c.in_ok-track_both.ensures.left
    c.in_ok-track_both.ensures.right
    (files_read told all left right asks c.requires c.in_ok-compared.ensures.ok
    (subst Q c.as_str.ensures.value c.in_ok-asks.ensures.ok))

pub returns-clause-beside : goal.returns-clause-beside
returns-clause-beside g c =
    let told : Option Contents = g.F.Files.contents c.args.files.now in
    let all : Asking = asking c.args.asked.now in
    beside_of told all.sides c.args.left.now c.args.right.now c.track_both.new.left c.track_both.new.right
    c.in_ok-asks.asks c.requires c.in_ok-compared.ensures.ok c.in_ok-asks.ensures.known c.in_ok-asks.ensures.few
    c.in_ok-track_both.ensures.left c.in_ok-track_both.ensures.right
