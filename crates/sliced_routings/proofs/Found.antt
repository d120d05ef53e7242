-- What holds of all items of a list holds of those that are found, also in order of their numbers.
use Rattle.std.proofs.Common.{◌≡◌, Bool, List, [], ◌∷◌, Some, refl}
use Rattle.std.specs.Prelude.{All, if◌then◌else◌}
use Rattle.std.specs.List.{find}
use Rattle.std.proofs.lemmas.List.Elements.{All-head, All-tail}

-- the first item that two tests find is the same where they agree on all
pub find_alike : {A : Type 0} (f g : A → Bool) (xs : List A) → All (λ x. f x ≡ g x) xs → find f xs ≡ find g xs
find_alike f g [] all = refl
find_alike f g (x ∷ xs) all =
    let here = All-head (λ y. f y ≡ g y) x xs all in
    let rest = find_alike f g xs (All-tail (λ y. f y ≡ g y) x xs all) in
    λ i. if here i then Some x else rest i
