use Rattle.std.proofs.Common.{◌≡◌, ℕ, true, List, [], ◌∷◌, Some, drop, refl, sym, ◌∙◌}
use Rattle.ios_policy_reader.specs.Heads.{is_over, fit}
use Rattle.ios_policy_reader.proofs.heads.words_of_head.Goals as goal

fit-over : (n : ℕ) (head : List ℕ) (words : List (List ℕ)) → is_over head ≡ true → fit n head words ≡ Some n
fit-over n head [] h = rw h refl
fit-over n head (word ∷ rest) h = rw h refl

-- src/heads.rt:120:13
pub returns-then-is_empty_head-clause-value : goal.returns-then-is_empty_head-clause-value
returns-then-is_empty_head-clause-value c =
    let over : is_over c.loop-at.rest.now ≡ true = sym c.is_empty_head.ensures ∙ c.if-is_empty_head.true in
    sym (fit-over c.loop-at.at c.loop-at.rest.now (drop c.loop-at.at c.args.words.now) over) ∙ c.loop-at.invariant
