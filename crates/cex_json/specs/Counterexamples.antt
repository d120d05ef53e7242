-- True counterexamples.
use Rattle.std.specs.Prelude.{◌≡◌, ℕ, List}
use Rattle.ios_ast.specs.declared.file.File.{File}
use Rattle.route_record.specs.declared.World.{World}
use Rattle.question_lang.specs.declared.question.Question.{Question}
use Rattle.question_lang.specs.Breaking.{IsBreaking}
use Rattle.cex_json.specs.declared.counterexample.Counterexample.{Counterexample}

-- the world of a counterexample
abbrev pub world_of : Counterexample → World
world_of cex = record { failures = cex.failures; packet = cex.packet; tables = cex.tables }

-- a counterexample to the question of that number breaks it
abbrev pub IsTrueCounterexample : List File → ℕ → Question → Counterexample → Type 0
IsTrueCounterexample files number question cex =
    (cex.question ≡ number) × IsBreaking files question (world_of cex) cex.env cex.walk
