-- How far into a file reads ask, where that is told. It stands still at its last value.
use Rattle.std.specs.Prelude.{ℕ, ◌≡◌, ◌-◌, ◌^◌, ◌≤◌, min, max, Option, Some, None, IfSome, IsSomeAnd}
use Rattle.std.specs.Option.{option_map}
use Rattle.std.proofs.Common.{arith, subst, sym}

-- A read asked for bytes up to this one.
abbrev pub AsksTo : Option ℕ → Option ℕ → ℕ → Type 0
AsksTo before now end = now ≡ option_map (λ far. max far (min end (2 ^ 64 - 1))) before

-- Reads asked for this many bytes of a file at most.
abbrev pub AsksWithin : Option ℕ → Option ℕ → ℕ → Type 0
AsksWithin before now most = IfSome before (λ far. IsSomeAnd now (λ reach. reach ≤ max far most))

-- One read asks for no more than that.
pub asks_once : (before now : Option ℕ) (end most : ℕ) → end ≤ most → AsksTo before now end → AsksWithin before now most
asks_once None now end most within asks = tt
asks_once (Some far) now end most within asks =
    let P : Option ℕ → Type 0 = λ reach. AsksWithin (Some far) reach most in
    subst P (sym asks) (omega arith)

-- One read after another asks for no more than that.
pub asks_again : (before middle now : Option ℕ) (most : ℕ) → AsksWithin before middle most
    → AsksWithin middle now most → AsksWithin before now most
asks_again None middle now most first second = tt
asks_again (Some far) None now most first second = absurd first
asks_again (Some far) (Some reach) None most first second = absurd second
asks_again (Some far) (Some reach) (Some further) most first second = omega arith

-- No read asks for nothing.
pub asks_nothing : (reach : Option ℕ) (most : ℕ) → AsksWithin reach reach most
asks_nothing None most = tt
asks_nothing (Some far) most = omega arith
