-- Nodes whose values differ, and fates that one of two sides alone has.
use Rattle.std.proofs.Common.{◌≡◌, ◌<◌, ◌+◌, ◌||◌, ◌⊎◌, ℕ, Bool, true, false, List, Some, Contains}
use Rattle.std.proofs.Common.{arith, get_or, inl, inr, length, refl, subst, sym, ◌∙◌}
use Rattle.std.specs.Prelude.{◌↔◌, not, slice_get}
use Rattle.std.proofs.lemmas.Bool.{or_cases, or_left, or_right, false≢true}
use Rattle.std.proofs.lemmas.Option.{same_Some, slice_get-get_or, slice_get_read, slice_get_within}
use Rattle.mw_text.proofs.Numbers.{earlier}
use Rattle.term_store.specs.declared.NodeId.{NodeId}
use Rattle.term_store.specs.Terms.{Reading, at, differ}
use Rattle.joined_terms.specs.Joining.{behind}
use Rattle.compared_terms.specs.Ties.{DifferBelow, DiffersAt}

-- ---- below one place more

pub none_below : (w : Reading) (places a b : List NodeId) → DifferBelow w places a b 0 → ⊥
none_below w places a b (k, less, differs) = omega (arith, less)

pub more_below : (w : Reading) (places a b : List NodeId) (many : ℕ) (before here : Bool) →
    (before ≡ true ↔ DifferBelow w places a b many) → (here ≡ true ↔ DiffersAt w places a b many) →
    ((before || here) ≡ true ↔ DifferBelow w places a b (many + 1))
more_below w places a b many before here so_far now = (to, from) where
  on : (before ≡ true) ⊎ (here ≡ true) → DifferBelow w places a b (many + 1)
  on (inl holds) = let (k, less, differs) = so_far.0 holds in (k, omega (arith, less), differs)
  on (inr holds) = (many, omega arith, now.0 holds)

  to : (before || here) ≡ true → DifferBelow w places a b (many + 1)
  to holds = on (or_cases before here holds)

  from : DifferBelow w places a b (many + 1) → (before || here) ≡ true
  from (k, less, differs) = by (earlier k many less) where
    by : (k < many) ⊎ (k ≡ many) → (before || here) ≡ true
    by (inl earlier) = or_left before here (so_far.1 (k, earlier, differs))
    by (inr last) = or_right before here (now.1 (subst (DiffersAt w places a b) last differs))

-- ---- fates

-- of two values that differ one alone says what they say
pub apart : (b c : Bool) (F G : Type 0) → (b ≡ true ↔ F) → (c ≡ true ↔ G) → (F → G) → (G → F) →
    differ b c ≡ true → ⊥
apart true true F G one other to from is = false≢true is
apart true false F G one other to from is = false≢true (other.1 (to (one.0 refl)))
apart false true F G one other to from is = false≢true (one.1 (from (other.0 refl)))
apart false false F G one other to from is = false≢true is

-- where they do not, the one says what the other says
pub together : (b c : Bool) → (differ b c ≡ true → ⊥) → (b ≡ true → c ≡ true) × (c ≡ true → b ≡ true)
together true true not_apart = (λ is. refl, λ is. refl)
together true false not_apart = absurd (not_apart refl)
together false true not_apart = absurd (not_apart refl)
together false false not_apart = (λ is. is, λ is. is)

-- a member stands at some place
pub place_there : {X : Type 0} (xs : List X) (x : X) → Contains xs x → (k : ℕ) × (slice_get xs k ≡ Some x)
place_there xs x (k, less, is) = (k, slice_get_read xs (length xs) k x refl less (sym is))

-- and where lists are equally long, something stands there in each
pub beside_there : {X Y : Type 0} (xs : List X) (ys : List Y) (k : ℕ) (x : X) (d : Y) → length ys ≡ length xs →
    slice_get xs k ≡ Some x → slice_get ys k ≡ Some (get_or ys k d)
beside_there xs ys k x d long there =
    let less = slice_get_within xs k x there in slice_get-get_or ys k d (omega (arith, long, less))

-- a node that says whether two nodes differ
pub differs_there : (w : Reading) (places a b : List NodeId) (k : ℕ) (x y : NodeId) (v : Bool) →
    slice_get a k ≡ Some x → slice_get b k ≡ Some y → v ≡ differ (at w x) (at (behind places w) y) →
    (v ≡ true ↔ DiffersAt w places a b k)
differs_there w places a b k x y v here there is = (
  λ holds. (x, y, here, there, sym is ∙ holds),
  λ (c, d, at_c, at_d, apart).
      let one : c ≡ x = same_Some c x (sym at_c ∙ here) in
      let other : d ≡ y = same_Some d y (sym at_d ∙ there) in
      is ∙ sym (λ i. differ (at w (one i)) (at (behind places w) (other i))) ∙ apart,
)

pub not_not : (b : Bool) → not (not b) ≡ b
not_not true = refl
not_not false = refl
