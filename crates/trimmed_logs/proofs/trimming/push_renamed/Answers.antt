use Rattle.std.proofs.Common.{◌≡◌, ◌∙◌, ap, ap₂, sym, ◌∷◌, ◌++◌, ◌+◌, [], length, map, cond, ◌==◌, Some, ℕ, Option}
use Rattle.std.specs.Ordering.{nat_cmp}
use Rattle.std.specs.BTreeMap.{get}
use Rattle.resolution_check.specs.declared.log.Entry.TheVariants.{Add}
use Rattle.trimmed_logs.specs.Kept.{named, numbered}
use Rattle.trimmed_logs.proofs.Naming.{numbered-other, pushed, no_addition}
use Rattle.trimmed_logs.proofs.trimming.push_renamed.Goals as goal

pub returns-in_ok-set_name : goal.returns-in_ok-set_name
returns-in_ok-set_name c = λ rest.
    let out = c.args.out.now.items in
    let old : ℕ → Option ℕ = λ n. get nat_cmp c.args.names.now n in
    let new : ℕ → Option ℕ = λ n. get nat_cmp c.set_name.new.names n in
    let number : c.len.result + 1 ≡ length out + 1 = ap (λ n. n + 1) (c.len.ensures ∙ c.args.out.now.ok.0) in
    let addition : c.in_ok-addition.addition ≡ Add (length out + 1) c.in-Add.clause (map (named old) c.in-Add.chain) =
    c.in_ok-addition.ensures ∙ ap₂ (λ k ids. Add k c.in-Add.clause (map (named old) ids)) number c.as_slice.ensures in
    pushed out c.push.new.self.items old new c.in-Add.id c.in-Add.clause c.in-Add.chain rest
    (c.in_ok-push.ensures.items ∙ ap (λ e. out ++ e ∷ []) addition)
    (λ n. c.in_ok-set_name.ensures n
    ∙ ap (λ k. cond (c.in-Add.id == n) (Some k) (get nat_cmp c.args.names.now n)) number)
    ∙ ap (λ e. out ++ numbered (length out + 1) (named old) (e ∷ rest)) (sym c.in-Add.is)

pub returns-in_default : goal.returns-in_default
returns-in_default c = λ rest.
    ap (λ xs. c.args.out.now.items ++ xs)
    (sym (numbered-other _ _ c.args.entry.now rest (no_addition c.args.entry.now c.in_default.not-Add)))
