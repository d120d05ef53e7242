-- Changes of channels, as they are planned before any is made.
use Rattle.std.specs.Prelude.{ℕ, ◌^◌, ◌<◌, ◌&&◌, ⊤, Bool, List, [], ◌∷◌, length, Option, Ok, Err, Result, if◌then◌else◌}
use Rattle.machine_laws.specs.declared.state.Channel.{Channel}
use Rattle.machine_laws.specs.declared.state.EventRefused.{EventRefused}
use Rattle.machine_laws.specs.Channels.{fresh, one, posted, silent}
use Rattle.machine_channels.specs.declared.channels.Change.{Change}
use Rattle.machine_channels.specs.declared.channels.Change.TheVariants.{Keep, Add, Replace}

abbrev pub changed : {M : Type 0} → Change M → Channel M → Channel M
changed Keep c = c
changed (Add more) c = posted more c
changed (Replace new) c = new

-- each channel by the change at its place
abbrev pub all_changed : {M : Type 0} → List (Channel M) → List (Change M) → List (Channel M)
all_changed [] changes = []
all_changed (c ∷ cs) [] = c ∷ cs
all_changed (c ∷ cs) (x ∷ changes) = changed x c ∷ all_changed cs changes

-- there is room for more mail
abbrev pub IsSmall : {M : Type 0} → Channel M → Type 0
IsSmall c = length c.mail < 2 ^ 62

abbrev pub IsSmallChange : {M : Type 0} → Change M → Type 0
IsSmallChange Keep = ⊤
IsSmallChange (Add more) = length more < 2 ^ 62
IsSmallChange (Replace new) = ⊤

-- what is sent about a length over the channel at a place
abbrev pub sending : {M : Type 0} → (ℕ → Bool) → (ℕ → Bool) → (ℕ → ℕ → Option M) → ℕ → ℕ → Change M
sending source up exports len at = if source at && up at then Add (one len (exports at len)) else Keep

-- what becomes of a channel where failures changed, by whether it was up and whether it is
abbrev pub renewal : {M : Type 0} → Bool → Bool → (ℕ → Option M) → Change M
renewal was is exports = if is then (if was then Keep else Replace (fresh exports)) else Replace silent

-- what a delivery answers, with the channels that it leaves
abbrev pub as_delivered : {M : Type 0} → Result (Unit {0}) EventRefused → List (Channel M)
    → Result (List (Channel M)) EventRefused
as_delivered (Ok done) channels = Ok channels
as_delivered (Err why) channels = Err why
