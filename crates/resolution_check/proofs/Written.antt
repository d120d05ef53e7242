-- What is written, piece by piece, is the text.
use Rattle.std.proofs.Common.{◌≡◌, sym, ◌∙◌, ap, ℕ, List, [], ◌∷◌, ◌++◌, map, append_assoc, codes}
use Rattle.std.specs.List.{flat_map, join_with_byte}
use Rattle.std.specs.Fmt.{decimal}
use Rattle.std.proofs.lemmas.List.{append-nil}
use Rattle.std.proofs.lemmas.Grind.{flat_map-append}
use Rattle.resolution_check.specs.declared.log.Clause.{Clause}
use Rattle.resolution_check.specs.declared.log.Entry.TheVariants.{Input, Add}
use Rattle.resolution_check.specs.Text.{lit_text, zero_text, text_of, after_space}

joined : (word : List ℕ) (words : List (List ℕ)) → join_with_byte 32 (word ∷ words) ≡ word ++ flat_map after_space words
joined word [] = sym (append-nil word)
joined word (next ∷ words) = ap (λ rest. word ++ (32 ∷ rest)) (joined next words)

-- the words of a list that `0` ends
listed : (words rest : List (List ℕ))
    → flat_map after_space (words ++ zero_text ∷ rest)
    ≡ (flat_map after_space words ++ after_space zero_text) ++ flat_map after_space rest
listed words rest =
    flat_map-append after_space words (zero_text ∷ rest)
    ∙ sym (append_assoc (flat_map after_space words) (after_space zero_text) (flat_map after_space rest))

regroup : (old a b xs z : List ℕ) → (((old ++ a) ++ b) ++ xs) ++ z ≡ old ++ (a ++ (b ++ (xs ++ z)))
regroup old a b xs z = simp append_assoc

regroup_more : (old a b xs z ys : List ℕ)
    → (((((old ++ a) ++ b) ++ xs) ++ z) ++ ys) ++ z ≡ old ++ (a ++ (b ++ ((xs ++ z) ++ (ys ++ z))))
regroup_more old a b xs z ys = simp append_assoc

-- an input's words behind each other are its text
pub input_written : (old : List ℕ) (id : ℕ) (clause : Clause)
    → (((old ++ codes "i") ++ after_space (decimal id)) ++ flat_map after_space (map lit_text clause.lits))
    ++ after_space zero_text ≡ old ++ text_of (Input id clause)
input_written old id clause =
    let lits = map lit_text clause.lits in
    let text =
    joined (codes "i") (decimal id ∷ (lits ++ zero_text ∷ []))
    ∙ ap (λ t. codes "i" ++ (after_space (decimal id) ++ t)) (listed lits [] ∙ append-nil _) in
    regroup old (codes "i") (after_space (decimal id)) (flat_map after_space lits) (after_space zero_text)
    ∙ ap (λ t. old ++ t) (sym text)

-- an addition's words behind each other are its text
pub addition_written : (old : List ℕ) (id : ℕ) (clause : Clause) (chain : List ℕ) →
    (((((old ++ codes "a") ++ after_space (decimal id)) ++ flat_map after_space (map lit_text clause.lits))
    ++ after_space zero_text) ++ flat_map after_space (map decimal chain)) ++ after_space zero_text
    ≡ old ++ text_of (Add id clause chain)
addition_written old id clause chain =
    let lits = map lit_text clause.lits in
    let numbers = map decimal chain in
    let rest =
    listed lits (numbers ++ zero_text ∷ [])
    ∙ ap (λ t. (flat_map after_space lits ++ after_space zero_text) ++ t) (listed numbers [] ∙ append-nil _) in
    let text =
    joined (codes "a") (decimal id ∷ (lits ++ zero_text ∷ (numbers ++ zero_text ∷ [])))
    ∙ ap (λ t. codes "a" ++ (after_space (decimal id) ++ t)) rest in
    regroup_more old (codes "a") (after_space (decimal id)) (flat_map after_space lits) (after_space zero_text)
    (flat_map after_space numbers)
    ∙ ap (λ t. old ++ t) (sym text)
