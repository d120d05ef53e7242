-- What is said of each line of a text that is made ready.
use Rattle.std.specs.Prelude.{ℕ, List, fold, take}
use Rattle.mw_text.specs.declared.words.Line.{Line}
use Rattle.config_prepare.specs.declared.places.Place.{Place}
use Rattle.config_prepare.specs.Places.{at_start, place_after}

-- where the line after the first so many stands
abbrev pub place_at : List Line → ℕ → Place
place_at lines k = fold place_after at_start (take k lines)
