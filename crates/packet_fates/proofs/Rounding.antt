-- Whether hops come back to where they began.
use Rattle.std.proofs.Common.{◌≡◌, ℕ, zero, suc, ◌<◌, ◌≤◌, ◌+◌, Bool, true, List, [], ◌∷◌, length, get_or, refl, subst}
use Rattle.std.proofs.Common.{arith, ◌⊎◌, inl, inr}
use Rattle.std.specs.Prelude.{Contains}
use Rattle.mw_text.proofs.Numbers.{earlier}
use Rattle.question_lang.specs.declared.walk.Hop.{Hop}
use Rattle.question_lang.specs.declared.walk.Hop.TheVariants.{To, Ends}
use Rattle.walk_def.specs.Marks.{known}
use Rattle.packet_fates.specs.Reaching.{AreInside, IsRound, hops_at}
use Rattle.packet_fates.specs.Rounds.{ComesBackBy, IsInside, SomeRound}
use Rattle.packet_fates.proofs.Spreading.{hops_within}

-- a hop of a router of the list is inside
pub hop_inside : (all : List (List Hop)) (router : ℕ) (hop : Hop) → AreInside all → Contains (hops_at all router) hop →
    IsInside all hop
hop_inside all router (To i) inside has = inside router i has
hop_inside all router (Ends end) inside has = tt

-- what is read inside a list is the same whatever stands for a place past its end
pub read_here : (xs : List Hop) (k : ℕ) (d e : Hop) → k < length xs → get_or xs k d ≡ get_or xs k e
read_here [] k d e within = absurd (omega (arith, within))
read_here (x ∷ xs) zero d e within = refl
read_here (x ∷ xs) (suc k) d e within = read_here xs k d e (omega (arith, within))

-- a hop of the router that comes back makes a round
pub round_by : (hops : ℕ → List Hop) (router : ℕ) (hop : Hop) → Contains (hops router) hop →
    ComesBackBy hops router hop → IsRound hops router
round_by hops router (To i) has back = (i, has, back)
round_by hops router (Ends end) has back = absurd back

-- no router so far makes one
abbrev pub NoRoundBelow : List (List Hop) → List Bool → ℕ → Type 0
NoRoundBelow all marks bound =
    (router : ℕ) → router < bound → known marks router ≡ true → IsRound (hops_at all) router → ⊥

pub no_round_more : (all : List (List Hop)) (marks : List Bool) (at : ℕ) → NoRoundBelow all marks at →
    (known marks at ≡ true → IsRound (hops_at all) at → ⊥) → NoRoundBelow all marks (at + 1)
no_round_more all marks at so_far none router below marked round = elim (earlier router at below) [
  | inl before ↦ so_far router before marked round
  | inr same ↦ let P : ℕ → Type 0 = λ r. (known marks r ≡ true) × IsRound (hops_at all) r in
      let (here, round_here) = subst P same (marked, round) in none here round_here
]

pub no_round : (all : List (List Hop)) (marks : List Bool) (bound : ℕ) → length all ≤ bound →
    NoRoundBelow all marks bound → SomeRound all marks → ⊥
no_round all marks bound whole none (router, marked, (i, has, back)) =
    none router (omega (arith, whole, hops_within all router (To i) has)) marked (i, has, back)
