use Rattle.std.specs.Prelude.{ℕ, ◌≡◌, ◌≢◌, ◌+◌, List, length, map}
use Rattle.std.proofs.Common.{sym, ◌∙◌, ap, subst, arith}
use Rattle.std.proofs.lemmas.List.{get_or-set_other}
use Rattle.std.proofs.Math.ListN.{set, length-set}
use Rattle.clause_arena.specs.Links.{word}
use Rattle.clause_arena.specs.Held.{code_of}
use Rattle.clause_arena.proofs.Placing.{code_written}
use Rattle.clause_arena.proofs.adding.write_codes.Goals as goal

pub loop-i-preserved : goal.loop-i-preserved
loop-i-preserved c =
    let a = c.args in
    let ws = c.loop-i.words in
    let at = a.at + c.loop-i.i in
    let e : c.put.new.self ≡ set ws at c.code.result = c.put.ensures in
    let long : length (set ws at c.code.result) ≡ length ws = omega (arith, length-set {A = ℕ}) in
    record {
      codes_at = λ k h. subst (λ (xs : List ℕ). word xs (a.at + k) ≡ word (map code_of a.lits.now) k) (sym e)
          (code_written ws a.lits.now a.at c.loop-i.i c.code.result _ (omega arith) (omega arith) c.code.ensures
          c.loop-i.invariant.codes_at k h);
      len = ap length e ∙ long ∙ c.loop-i.invariant.len;
      others = λ j h. (let ne : j ≢ at = omega arith in
          subst (λ (xs : List ℕ). word xs j ≡ word a.words.now j) (sym e)
          (get_or-set_other ws at j c.code.result 0 ne ∙ c.loop-i.invariant.others j h));
    }
