-- Fates that one of two sides alone has.
use Rattle.std.specs.Prelude.{◌⊎◌}
use Rattle.packet_fates.specs.declared.fate.Fate.{Fate}
use Rattle.packet_fates.specs.Order.{Precedes}
use Rattle.packet_fates.specs.declared.apart.Side.{Side}
use Rattle.packet_fates.specs.declared.apart.Side.TheVariants.{Left, Right}

-- the fate is one of the first side's and none of the second's
abbrev pub IsOnlyOf : (Fate → Type 0) → (Fate → Type 0) → Fate → Type 0
IsOnlyOf L R fate = L fate × (R fate → ⊥)

-- the fate is one that the side alone has
abbrev pub IsAloneOn : (Fate → Type 0) → (Fate → Type 0) → Side → Fate → Type 0
IsAloneOn L R Left fate = IsOnlyOf L R fate
IsAloneOn L R Right fate = IsOnlyOf R L fate

-- the side alone has it, and no side alone has one before it
pub record IsFirstApart (L R : Fate → Type 0) (side : Side) (fate : Fate) : Type 0 where
  pub alone : IsAloneOn L R side fate
  pub first : (earlier : Fate) → IsOnlyOf L R earlier ⊎ IsOnlyOf R L earlier → Precedes earlier fate → ⊥

-- both sides have the same
pub record AreSame (L R : Fate → Type 0) : Type 0 where
  pub to : (fate : Fate) → L fate → R fate
  pub from : (fate : Fate) → R fate → L fate
