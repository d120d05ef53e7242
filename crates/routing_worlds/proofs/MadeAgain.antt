-- Things that stand at places in their order are found there again, and make the same list.
use Rattle.std.proofs.Common.{◌≡◌, ℕ, ◌<◌, ◌==◌, ◌&&◌, ◌⊎◌, inl, inr, Bool, true, false, List, [], ◌∷◌, map}
use Rattle.std.proofs.Common.{Option, Some, None, refl, sym, ap, ◌∙◌, subst, arith}
use Rattle.std.specs.Prelude.{AllPairs, option_map, if◌then◌else◌}
use Rattle.std.specs.List.{find}
use Rattle.std.proofs.lemmas.Bool.Decides.{nat_tests}
use Rattle.mw_text.specs.Members.{In}
use Rattle.mw_text.proofs.Found.{no_value}
use Rattle.net_interfaces.proofs.Pairs.{first, later}
use Rattle.plan_places.specs.declared.places.Place.{Place}
use Rattle.plan_places.specs.Places.{IsBefore, is_at, place}
use Rattle.slot_places.proofs.PlaceLaws.{at-is}
use Rattle.announced_places.specs.Announced.{made_over}
use Rattle.rebuilt_routes.proofs.RealSources.{all_members}

find_none : {X : Type 0} (p : X → Bool) (xs : List X) → ((x : X) → In x xs → p x ≡ false) → find p xs ≡ None
find_none p [] none = refl
find_none {X = X} p (x ∷ xs) none =
    ap (λ b. if b then Some x else find p xs) (none x (inl refl)) ∙ find_none p xs (λ y there. none y (inr there))

-- a place before another is not at it
apart_numbers : (a b c d : ℕ) → (a < c) ⊎ ((a ≡ c) × (b < d)) → ((c == a) && (d == b)) ≡ false
apart_numbers a b c d (inl less) = grind (arith, nat_tests)
apart_numbers a b c d (inr (same, less)) = grind (arith, nat_tests)

apart_back : (a b c d : ℕ) → (a < c) ⊎ ((a ≡ c) × (b < d)) → ((a == c) && (b == d)) ≡ false
apart_back a b c d (inl less) = grind (arith, nat_tests)
apart_back a b c d (inr (same, less)) = grind (arith, nat_tests)

not_at : (p q : Place) → IsBefore p q → is_at p.router p.len q ≡ false
not_at p q before = apart_numbers p.router p.len q.router q.len before

pub not_back : (p q : Place) → IsBefore p q → is_at q.router q.len p ≡ false
not_back p q before = apart_back p.router p.len q.router q.len before

before_trans : (p q r : Place) → IsBefore p q → IsBefore q r → IsBefore p r
before_trans p q r (inl one) (inl other) = inl (omega (arith, one, other))
before_trans p q r (inl one) (inr (same, other)) = inl (omega (arith, one, same))
before_trans p q r (inr (same, one)) (inl other) = inl (omega (arith, same, other))
before_trans p q r (inr (same, one)) (inr (alike, other)) = inr (same ∙ alike, omega (arith, one, other))

module _ {U A : Type 0} (build : ℕ → ℕ → U → A) (at : A → Place) (thing : Place → Option U) where
  -- what is found at the place of a thing is what is made there
  abbrev Finds : List Place → List A → Type 0
  Finds ps xs =
      (p : Place) → In p ps →
      find (λ a. is_at p.router p.len (at a)) xs ≡ option_map (build p.router p.len) (thing p)

  skipped : (p : Place) (ps : List Place) → thing p ≡ None →
      made_over build (p ∷ ps) (map thing (p ∷ ps)) ≡ made_over build ps (map thing ps)
  unfolding made_over
  skipped p ps none = ap (λ o. made_over build (p ∷ ps) (o ∷ map thing ps)) none

  made_one : (p : Place) (ps : List Place) (u : U) → thing p ≡ Some u →
      made_over build (p ∷ ps) (map thing (p ∷ ps)) ≡ build p.router p.len u ∷ made_over build ps (map thing ps)
  unfolding made_over
  made_one p ps u some = ap (λ o. made_over build (p ∷ ps) (o ∷ map thing ps)) some

  pub made_again : (ps : List Place) (xs : List A) → AllPairs IsBefore ps →
      AllPairs (λ a b. IsBefore (at a) (at b)) xs → ((x : A) → In x xs → In (at x) ps) → Finds ps xs →
      made_over build ps (map thing ps) ≡ xs
  unfolding made_over
  made_again [] [] up across stand finds = refl
  made_again [] (x ∷ xs) up across stand finds = absurd (stand x (inl refl))
  made_again (p ∷ ps) [] up across stand finds =
      skipped p ps (no_value (build p.router p.len) (thing p) (sym (finds p (inl refl))))
      ∙ made_again ps [] (later IsBefore p ps up) across (λ x there. absurd there) (λ q there. finds q (inr there))
  made_again (p ∷ ps) (x ∷ xs) up across stand finds =
      by (is_at p.router p.len (at x)) refl
      (λ members found. made_again ps xs (later IsBefore p ps up)
      (later (λ a b. IsBefore (at a) (at b)) x xs across) members found)
      (λ members found. made_again ps (x ∷ xs) (later IsBefore p ps up) across members found)
    where
      R : A → A → Type 0
      R a b = IsBefore (at a) (at b)

      after : (q : Place) → In q ps → IsBefore p q
      after q there = all_members (IsBefore p) ps (first IsBefore p ps up) q there

      behind : (y : A) → In y xs → IsBefore (at x) (at y)
      behind y there = all_members (λ b. IsBefore (at x) (at b)) xs (first (λ a b. IsBefore (at a) (at b)) x xs across) y there

      never : (b : Bool) → b ≡ true → b ≡ false → ⊥
      never true one other = cc
      never false one other = cc

      itself : (q : Place) → is_at q.router q.len q ≡ true
      itself q = same q.router q.len
        where
          same : (a b : ℕ) → ((a == a) && (b == b)) ≡ true
          same a b = grind (arith, nat_tests)

      by : (b : Bool) → is_at p.router p.len (at x) ≡ b →
          (((y : A) → In y xs → In (at y) ps) → Finds ps xs → made_over build ps (map thing ps) ≡ xs) →
          (((y : A) → In y (x ∷ xs) → In (at y) ps) → Finds ps (x ∷ xs) → made_over build ps (map thing ps) ≡ x ∷ xs) →
          made_over build (p ∷ ps) (map thing (p ∷ ps)) ≡ x ∷ xs
      by true is here rest =
          let same : at x ≡ place p.router p.len = at-is (at x) p.router p.len is in
          let found = sym (ap (λ b. if b then Some x else find (λ a. is_at p.router p.len (at a)) xs) is)
          ∙ finds p (inl refl) in
          let u = some_of (thing p) found in
          made_one p ps u.0 u.1
          ∙ (λ i. u.2 i ∷ here (λ y there. not_first y there (stand y (inr there)))
          (λ q there. sym (ap (λ b. if b then Some x else find (λ a. is_at q.router q.len (at a)) xs)
          (subst (λ w. is_at q.router q.len w ≡ false) (sym same) (not_back p q (after q there))))
          ∙ finds q (inr there)) i)
        where
          some_of : (o : Option U) → Some x ≡ option_map (build p.router p.len) o →
              (u : U) × (o ≡ Some u) × (build p.router p.len u ≡ x)
          some_of None is' = absurd cc
          some_of (Some u) is' = (u, refl, cc)

          not_first : (y : A) → In y xs → (at y ≡ p) ⊎ In (at y) ps → In (at y) ps
          not_first y there (inr stands) = stands
          not_first y there (inl first_is) =
              absurd (never (is_at p.router p.len (at x)) is (ap (λ w. is_at w.router w.len (at x)) (sym first_is)
              ∙ not_back (at x) (at y) (behind y there)))
      by false is here rest =
          let stands = not_first x (stand x (inl refl)) is in
          let nothing = find_none (λ a. is_at p.router p.len (at a)) (x ∷ xs) none_at in
          skipped p ps (no_value (build p.router p.len) (thing p) (sym (finds p (inl refl)) ∙ nothing))
          ∙ rest (λ y there. not_first y (stand y there) (none_at y there)) (λ q there. finds q (inr there))
        where
          not_first : (y : A) → (at y ≡ p) ⊎ In (at y) ps → is_at p.router p.len (at y) ≡ false → In (at y) ps
          not_first y (inr stands) off = stands
          not_first y (inl first_is) off =
              absurd (never (is_at p.router p.len (at y)) (ap (λ w. is_at p.router p.len w) first_is ∙ itself p) off)

          none_at : (y : A) → In y (x ∷ xs) → is_at p.router p.len (at y) ≡ false
          none_at y (inl same) = ap (λ a. is_at p.router p.len (at a)) same ∙ is
          none_at y (inr there) =
              not_at p (at y) (before_trans p (at x) (at y) (after (at x) (not_first x (stand x (inl refl)) is))
              (behind y there))
