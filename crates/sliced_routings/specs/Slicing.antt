-- Routings that stand at the slices of a plan alone.
use Rattle.std.specs.Prelude.{◌≡◌, ℕ, ◌<◌, false, List, Option}
use Rattle.ios_ast.specs.declared.file.File.{File}
use Rattle.route_record.specs.declared.Environment.{Environment}
use Rattle.route_record.specs.declared.Plan.{Plan}
use Rattle.route_record.specs.declared.TheConstants.{LENGTHS}
use Rattle.route_record.specs.declared.World.{World}
use Rattle.plan_places.specs.Plans.{has_slice}
use Rattle.alike_prefixes.specs.Moving.{IsEmptyAt}
use Rattle.question_lang.specs.declared.question.Question.{Question}
use Rattle.question_lang.specs.declared.walk.Walk.{Walk}
use Rattle.question_lang.specs.Breaking.{IsBreaking}

-- off the slices no slot holds anything, and nobody announces anything
abbrev pub IsSliced : Plan → World → Environment → Type 0
IsSliced plan world environment =
    (len : ℕ) → len < LENGTHS → has_slice plan len ≡ false → IsEmptyAt environment world.tables len

-- a sliced routing breaks the question in its environment, by that walk or without one
pub record IsSlicedBreak (files : List File) (question : Question) (plan : Plan) (world : World)
    (environment : Environment) (walk : Option Walk) : Type 0 where
  pub breaking : IsBreaking files question world environment walk
  pub sliced : IsSliced plan world environment

-- some sliced routing for the same packet, with the same failures, breaks it by the same walk, in an environment that
-- gives the external peers the same identifiers
abbrev pub HasSlicedBreak : List File → Question → Plan → World → Environment → Option Walk → Type 0
HasSlicedBreak files question plan world environment walk =
    (sliced : World) × (around : Environment) × IsSlicedBreak files question plan sliced around walk
    × (sliced.packet ≡ world.packet) × (sliced.failures ≡ world.failures) × (around.ids ≡ environment.ids)

-- some sliced routing breaks it
abbrev pub IsSlicedBreakable : List File → Question → Plan → Type 0
IsSlicedBreakable files question plan =
    (world : World) × (environment : Environment) × (walk : Option Walk)
    × IsSlicedBreak files question plan world environment walk
