-- Where `^C` stands in a text.
use Rattle.std.proofs.Common.{◌≡◌, ℕ, ◌+◌, ◌<◌, ◌||◌, true, false, List, ◌∷◌, length, drop, get_or, refl, ap, sym, ◌∙◌}
use Rattle.std.proofs.Common.{add-one}
use Rattle.std.proofs.Math.Seq.{drop-cons}
use Rattle.ios_reader.specs.Banners.{begins_caret, has_caret}

caret_of : (text rest : List ℕ) (b : ℕ) → text ≡ b ∷ rest → has_caret text ≡ (begins_caret text || has_caret rest)
caret_of text rest b is = rw is refl

caret_step : (text : List ℕ) (at : ℕ) → at < length text →
    has_caret (drop at text) ≡ (begins_caret (drop at text) || has_caret (drop (at + 1) text))
caret_step text at within =
    caret_of (drop at text) (drop (at + 1) text) (get_or text at 0)
    (drop-cons text at 0 within ∙ ap (λ n. get_or text at 0 ∷ drop n text) (sym (add-one at)))

-- it stands in what is left of a text if that begins with it
pub caret_found : (text : List ℕ) (at : ℕ) → at < length text → begins_caret (drop at text) ≡ true →
    has_caret (drop at text) ≡ true
caret_found text at within found = caret_step text at within ∙ ap (λ b. b || has_caret (drop (at + 1) text)) found

-- and else if it stands behind the first byte of that
pub caret_passed : (text : List ℕ) (at : ℕ) → at < length text → begins_caret (drop at text) ≡ false →
    has_caret (drop at text) ≡ has_caret (drop (at + 1) text)
caret_passed text at within passed = caret_step text at within ∙ ap (λ b. b || has_caret (drop (at + 1) text)) passed
