-- Lists in which each item stands once.
use Rattle.std.proofs.Common.{◌≡◌, ◌≢◌, ℕ, ◌+◌, ◌<◌, List, [], ◌∷◌, ◌++◌, length, get_or, ap, arith, ◌∙◌, sym, subst}
use Rattle.std.proofs.Common.{◌⊎◌, inl, inr, length-append}
use Rattle.std.specs.Prelude.{AllPairs, Contains}
use Rattle.std.proofs.lemmas.List.Elements.{Contains-append_left, Contains-get_or, Contains-push, Contains-push_cases}
use Rattle.std.proofs.Math.ListN.{get_or-append}
use Rattle.std.proofs.Math.Seq.{get_or-append_seam}
use Rattle.question_lang.specs.declared.walk.Hop.{Hop}
use Rattle.walk_def.specs.Sending.{AreOnce}

pub once_none : (out : List Hop) → out ≡ [] → AreOnce out []
once_none out none = let P : List Hop → Type 0 = λ xs. AreOnce xs [] in
    subst P (sym none) (record {
      members = record { to = λ x has. has; from = λ x has. has };
      once = λ i j d less
          within. absurd (omega arith);
    })

-- an item that stands there already
pub once_known : (out front : List Hop) (x : Hop) → AreOnce out front → Contains out x → AreOnce out (front ++ x ∷ [])
once_known out front x so_far here = record {
  members = record {
    to = λ y has. Contains-append_left front (x ∷ []) y (so_far.members.to y has);
    from = λ y has. by_cases y (Contains-push_cases front x y has);
  };
  once = so_far.once;
} where
  by_cases : (y : Hop) → Contains front y ⊎ (x ≡ y) → Contains out y
  by_cases y (inl has) = so_far.members.from y has
  by_cases y (inr same) = let P : Hop → Type 0 = λ z. Contains out z in subst P same here

pairs-push : (out : List Hop) (x : Hop) → AllPairs (λ a b. a ≢ b) out → (Contains out x → ⊥)
    → AllPairs (λ a b. a ≢ b) (out ++ x ∷ [])
pairs-push out x pairs new i j d less within same =
    let long : length (out ++ x ∷ []) ≡ length out + 1 = length-append out (x ∷ []) in
    let before : i < length out = omega (arith, long) in
    let first : get_or (out ++ x ∷ []) i d ≡ get_or out i d = get_or-append out (x ∷ []) d i before in
    by_place first (lt_or_eq j (length out) (omega (arith, long)))
  where
    lt_or_eq : (a b : ℕ) → a < b + 1 → (a < b) ⊎ (a ≡ b)
    lt_or_eq a b h = grind arith

    by_place : get_or (out ++ x ∷ []) i d ≡ get_or out i d → (j < length out) ⊎ (j ≡ length out) → ⊥
    by_place first (inl earlier) =
        pairs i j d less earlier (sym first ∙ same ∙ get_or-append out (x ∷ []) d j earlier)
    by_place first (inr last) =
        let here : get_or (out ++ x ∷ []) j d ≡ x = ap (λ n. get_or (out ++ x ∷ []) n d) last
        ∙ get_or-append_seam out x [] d in
        let P : Hop → Type 0 = λ y. Contains out y in
        new (subst P (sym first ∙ same ∙ here) (Contains-get_or out i d (omega (arith, last))))

-- an item that is new
pub once_new : (out front : List Hop) (x : Hop) → AreOnce out front → (Contains out x → ⊥)
    → AreOnce (out ++ x ∷ []) (front ++ x ∷ [])
once_new out front x so_far new = record {
  members = record {
    to = λ y has. there y (Contains-push_cases out x y has);
    from = λ y has. back y (Contains-push_cases front x y has);
  };
  once = pairs-push out x so_far.once new;
} where
  there : (y : Hop) → Contains out y ⊎ (x ≡ y) → Contains (front ++ x ∷ []) y
  there y (inl has) = Contains-append_left front (x ∷ []) y (so_far.members.to y has)
  there y (inr same) = let P : Hop → Type 0 = λ z. Contains (front ++ x ∷ []) z in subst P same (Contains-push front x)

  back : (y : Hop) → Contains front y ⊎ (x ≡ y) → Contains (out ++ x ∷ []) y
  back y (inl has) = Contains-append_left out (x ∷ []) y (so_far.members.from y has)
  back y (inr same) = let P : Hop → Type 0 = λ z. Contains (out ++ x ∷ []) z in subst P same (Contains-push out x)
