use Rattle.std.proofs.Common.{◌≡◌, ℕ, List, Ok, Err, Option, ap, map, subst}
use Rattle.std.specs.Prelude.{IfSome, string_bytes}
use Rattle.std.proofs.lemmas.Result.{err_from_is_err_and}
use Rattle.mw_load.specs.Loading.{StopsAt}
use Rattle.mw_outside.specs.Contents.{Contents}
use Rattle.mw_outside.specs.Faults.{Rose}
use Rattle.run_inputs.proofs.Loading.{on_stop-map}
use Rattle.run_inputs.specs.Due.{refused}
use Rattle.asked_files.specs.Network.{network_of}
use Rattle.compare_words.specs.Words.{Sides, parts_as}
use Rattle.compare_files.proofs.Reading.{left_stopped, left_unread, right_stopped, right_unread}
use Rattle.compare_files.proofs.loading.load_both.Goals as goal

pub returns-in_err-left-clause-stop : goal.returns-in_err-left-clause-stop
returns-in_err-left-clause-stop g c =
    let p = err_from_is_err_and c.from_residual.result c.from_residual.ensures.1 in
    let told : Option Contents = g.F.Files.contents c.args.files.now in
    let sides : Sides = parts_as c.args.parts.now in
    let last = g.F.Files.last_failed c.load_network.new.files in
    let names = ap (map string_bytes) c.as_slice.ensures.value in
    rw (p.1, p.2)
    (on_stop-map c.in_err-left.field-0.0 _ _ _ _ c.in_err-left.ensures.stop
    (λ line said.
    let N : List (List ℕ) → Type 0 = λ ns. IfSome told (λ contents. network_of contents ns ≡ Err (refused line)) in
    left_stopped told sides line (subst N names said))
    (λ said.
    let S : List (List ℕ) → Type 0 = λ ns. StopsAt told ns last in
    (said.0, left_unread told sides last (subst S names said.1))))

pub returns-in_err-right-clause-stop : goal.returns-in_err-right-clause-stop
returns-in_err-right-clause-stop g c =
    let p = err_from_is_err_and c.from_residual-in_err-right.result c.from_residual-in_err-right.ensures.1 in
    let told : Option Contents = g.F.Files.contents c.args.files.now in
    let sides : Sides = parts_as c.args.parts.now in
    let left = c.in_ok-left.left.files in
    let last = g.F.Files.last_failed c.load_network-2.new.files in
    let L : List (List ℕ) → Type 0 = λ ns. IfSome told (λ contents. network_of contents ns ≡ Ok left) in
    let read = subst L (ap (map string_bytes) c.as_slice.ensures.value) c.in_ok-left.ensures.ok in
    let names = ap (map string_bytes) c.as_slice-2.ensures.value in
    rw (p.1, p.2)
    (on_stop-map c.in_err-right.field-0.0 _ _ _ _ c.in_err-right.ensures.stop
    (λ line said.
    let T : Option Contents → Type 0 = λ o.
    IfSome o (λ contents. network_of contents (map string_bytes c.as_slice-2.result.now) ≡ Err (refused line)) in
    let N : List (List ℕ) → Type 0 = λ ns. IfSome told (λ contents. network_of contents ns ≡ Err (refused line)) in
    right_stopped told sides left line read (subst N names (subst T c.in_ok-left.ensures.kept said)))
    (λ said.
    let R : ℕ → Type 0 = λ before. Rose before (g.F.Files.faults c.load_network-2.new.files) in
    let T : Option Contents → Type 0 = λ o. StopsAt o (map string_bytes c.as_slice-2.result.now) last in
    let S : List (List ℕ) → Type 0 = λ ns. StopsAt told ns last in (
      subst R c.in_ok-left.ensures.quiet said.0,
      right_unread told sides left last read (subst S names (subst T c.in_ok-left.ensures.kept said.1)),
    )))

pub returns-clause-ok : goal.returns-clause-ok
returns-clause-ok g c =
    let told : Option Contents = g.F.Files.contents c.args.files.now in
    let L : List (List ℕ) → Type 0 = λ ns. IfSome told (λ contents. network_of contents ns ≡ Ok c.in_ok-left.left.files) in
    let T : Option Contents → Type 0 = λ o.
    IfSome o (λ contents. network_of contents (map string_bytes c.as_slice-2.result.now) ≡ Ok c.in_ok-right.right.files) in
    let R : List (List ℕ) → Type 0 = λ ns.
    IfSome told (λ contents. network_of contents ns ≡ Ok c.in_ok-right.right.files) in
    record {
      left_read = subst L (ap (map string_bytes) c.as_slice.ensures.value) c.in_ok-left.ensures.ok;
      right_read = subst R (ap (map string_bytes) c.as_slice-2.ensures.value)
          (subst T c.in_ok-left.ensures.kept c.in_ok-right.ensures.ok);
      left_tracks = c.in_ok-left.ensures.tracks;
      right_tracks = c.in_ok-right.ensures.tracks;
    }
