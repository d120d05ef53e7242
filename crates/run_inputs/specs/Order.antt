-- The order in which files are read, and where that stops.
use Rattle.std.specs.Prelude.{◌≡◌, ◌<◌, ℕ, List, [], ◌∷◌, ◌++◌, length, Option, Some, None, IfSome, Ok}
use Rattle.mw_text.specs.Reading.{each}
use Rattle.mw_outside.specs.Contents.{Contents}
use Rattle.run_inputs.specs.declared.text.Text.{Text}
use Rattle.run_inputs.specs.Due.{Command, command_of, text_of, to_verify, to_check, to_replay, to_simulate, to_gen}

-- the names of the files in the order in which they are read: the configurations, then the questions, and then the
-- command's own file; `simulate` has no questions, and `gen` reads none
abbrev pub order_by : Option Command → List (List ℕ)
order_by (Some (to_verify budget questions names)) = names ++ questions ∷ []
order_by (Some (to_check log questions names)) = names ++ questions ∷ log ∷ []
order_by (Some (to_replay cex questions names)) = names ++ questions ∷ cex ∷ []
order_by (Some (to_simulate events names)) = names ++ events ∷ []
order_by (Some (to_gen budget routers)) = []
order_by None = []

abbrev pub in_order : List (List ℕ) → List (List ℕ)
in_order words = order_by (command_of words)

-- the files of these names are there, each with few enough bytes: only the last that a command names, its own, is
-- none of these
abbrev pub AreThere : Contents → List (List ℕ) → Type 0
AreThere files names = (texts : List Text) × (each (text_of files) names ≡ Ok texts)

-- where the last failed name is told, it is one of these names; and where contents are told, every file before it is
-- there and small enough
abbrev pub StopsAt : Option Contents → List (List ℕ) → Option (List ℕ) → Type 0
StopsAt contents names last_failed =
    IfSome last_failed (λ name. (front : List (List ℕ)) × (rest : List (List ℕ)) × (names ≡ front ++ name ∷ rest)
    × IfSome contents (λ files. AreThere files front))

-- the same of files of which there is one
abbrev pub StopsIn : Option Contents → List (List ℕ) → Option (List ℕ) → Type 0
StopsIn contents names last_failed = (0 < length names) × StopsAt contents names last_failed
