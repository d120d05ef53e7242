-- The fates that the hops of marked routers are.
use Rattle.std.specs.Prelude.{◌≡◌, ◌⊎◌, ℕ, Bool, true, List, Contains, Option, Some, None, AllPairs, slice_get}
use Rattle.std.specs.BTreeSet.{insert_key}
use Rattle.ios_ast.specs.declared.file.File.{File}
use Rattle.question_lang.specs.declared.walk.Hop.{Hop}
use Rattle.walk_def.specs.Marks.{known}
use Rattle.packet_fates.specs.declared.fate.Fate.{Fate}
use Rattle.packet_fates.specs.declared.fate.Fate.TheVariants.{Loop}
use Rattle.packet_fates.specs.Fates.{IsFateAt, fate_by}
use Rattle.packet_fates.specs.Order.{Precedes, fate_order}
use Rattle.packet_fates.specs.Reaching.{hops_at}
use Rattle.packet_fates.specs.Rounds.{SomeRound}

-- the list has these fates, each once and in their order
pub record AreThose (P : Fate → Type 0) (fates : List Fate) : Type 0 where
  pub sound : (fate : Fate) → Contains fates fate → P fate
  pub whole : (fate : Fate) → P fate → Contains fates fate
  pub ordered : AllPairs Precedes fates

-- with this fate, where there is one
abbrev pub put_found : List Fate → Option Fate → List Fate
put_found out None = out
put_found out (Some fate) = insert_key fate_order out fate

-- with the fate that a hop of the router of that name is
abbrev pub put_hop : List ℕ → List Fate → Hop → List Fate
put_hop name out hop = put_found out (fate_by name hop)

-- a hop of a marked router of the files is that fate
abbrev pub IsEndOf : List File → List (List Hop) → List Bool → Fate → Type 0
IsEndOf files all marks fate =
    (router : ℕ) × (file : File) × (slice_get files router ≡ Some file) × (known marks router ≡ true)
    × IsFateAt file.hostname (hops_at all router) fate

-- it is, or the fate is to come back, and hops lead from a marked router back to it
abbrev pub IsFateOf : List File → List (List Hop) → List Bool → Fate → Type 0
IsFateOf files all marks fate = IsEndOf files all marks fate ⊎ ((fate ≡ Loop) × SomeRound all marks)
