use Rattle.std.proofs.Common.{◌≡◌, ◌∙◌, ap, sym, ◌∷◌, ◌++◌, ◌+◌, [], length, map, drop, drop-cons, add-one, suc}
use Rattle.std.proofs.lemmas.List.{append-nil, drop_all}
use Rattle.std.specs.Ordering.{nat_cmp}
use Rattle.std.specs.BTreeMap.{get}
use Rattle.trimmed_logs.specs.Kept.{named, numbered}
use Rattle.trimmed_logs.proofs.Naming.{numbered-none}
use Rattle.trimmed_logs.proofs.trimming.push_all.Goals as goal

pub loop-entry-preserved : goal.loop-entry-preserved
loop-entry-preserved c =
    let i = c.loop-entry.entry-index in
    let kept = c.args.kept.now in
    let out = c.loop-entry.out.items in
    let names = named (λ n. get nat_cmp c.loop-entry.names n) in
    let e = c.entry-item.result in
    let here : drop i kept ≡ e ∷ drop (i + 1) kept =
    rw add-one (drop-cons kept i e c.loop-entry-test.true ∙ ap (λ x. x ∷ drop (suc i) kept) (sym c.entry-item.is)) in
    c.in_ok-push_renamed.ensures (map (λ e. e.now) (drop (i + 1) kept))
    ∙ ap (λ es. out ++ numbered (length out + 1) names (map (λ e. e.now) es)) (sym here)
    ∙ c.loop-entry.invariant

pub returns : goal.returns
returns c =
    let kept = c.args.kept.now in
    let out = c.loop-entry.out.items in
    let names = named (λ n. get nat_cmp c.loop-entry.names n) in
    let none : drop c.loop-entry.entry-index kept ≡ [] = drop_all c.loop-entry.entry-index kept c.loop-entry-test.false in
    sym (append-nil out)
    ∙ ap (λ es. out ++ es) (sym (ap (λ es. numbered (length out + 1) names (map (λ e. e.now) es)) none
    ∙ numbered-none (length out + 1) names))
    ∙ c.loop-entry.invariant
