use Rattle.std.proofs.Common.{◌≡◌, ◌∙◌, ap, sym, subst, map, [], ◌∷◌, ◌++◌, ◌-◌, ◌<◌, drop, length, arith, List, ◌||◌}
use Rattle.std.proofs.Common.{drop-cons, suc}
use Rattle.std.proofs.Math.Seq.{drop-length}
use Rattle.std.specs.Ordering.{nat_cmp}
use Rattle.std.specs.BTreeMap.{is_at}
use Rattle.std.specs.BTreeSet.{contains}
use Rattle.std.specs.List.{list_any}
use Rattle.resolution_check.specs.declared.log.Entry.{Entry}
use Rattle.trimmed_logs.specs.Trimmed.{uses}
use Rattle.trimmed_logs.specs.Kept.{IsFound}
use Rattle.trimmed_logs.proofs.Keeping.{found_last}
use Rattle.trimmed_logs.proofs.marking.kept_backwards.Goals as goal

pub loop-i-init : goal.loop-i-init
loop-i-init c =
    let F : List Entry → Type 0 =
    λ es. IsFound (λ id. contains nat_cmp c.mark_chain.new.marks id) (map (λ e. e.now) c.push.new.self.items)
    c.args.last.now es in
    subst F (sym (drop-length c.args.before.now))
    (found_last _ _ c.args.last.now
    (λ id. c.in_ok-mark_chain.ensures id
    ∙ ap (λ ks. uses id c.args.last.now || list_any (is_at (nat_cmp id)) ks) c.new-marks.ensures.empty)
    (ap (map (λ e. e.now)) (c.in_ok-push.ensures.items ∙ ap (λ xs. xs ++ c.args.last ∷ []) c.new-found.ensures.items)))

pub loop-i-preserved : goal.loop-i-preserved
loop-i-preserved c =
    let at = c.loop-i.i - 1 in
    let e = c.index-before-i.result in
    let next : suc at ≡ c.loop-i.i = omega (arith, c.loop-i-test.true) in
    let within : at < length c.args.before.now = omega (arith, c.loop-i-test.true, c.loop-i.auto.i) in
    let front : drop at c.args.before.now ≡ e ∷ drop c.loop-i.i c.args.before.now =
    drop-cons c.args.before.now at e within ∙ ap (λ x. x ∷ drop (suc at) c.args.before.now) (sym c.index-before-i.is)
    ∙ ap (λ n. e ∷ drop n c.args.before.now) next in
    let F : List Entry → Type 0 =
    λ es. IsFound (λ id. contains nat_cmp c.keep.new.marks id) (map (λ e. e.now) c.keep.new.found.items)
    c.args.last.now es in
    subst F (sym front) (c.in_ok-keep.ensures c.args.last.now (drop c.loop-i.i c.args.before.now) c.loop-i.invariant)
