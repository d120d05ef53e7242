-- What a replay says of a counterexample.
use Rattle.std.specs.Prelude.{◌≢◌, List, Option, Some, None}
use Rattle.ios_ast.specs.declared.file.File.{File}
use Rattle.route_record.specs.declared.World.{World}
use Rattle.net_parts.specs.Stable.{Stable}
use Rattle.cex_json.specs.declared.counterexample.Counterexample.{Counterexample}
use Rattle.cex_json.specs.Counterexamples.{world_of}
use Rattle.question_lang.specs.declared.question.Kind.TheVariants.{NoStable}
use Rattle.question_lang.specs.declared.question.Question.{Question}
use Rattle.question_lang.specs.declared.walk.Walk.{Walk}
use Rattle.question_lang.specs.Breaking.{Breaks}
use Rattle.question_lang.specs.Walks.{IsWalk}
use Rattle.stable_replay.specs.declared.differs.ReplayNo.{ReplayNo}
use Rattle.stable_replay.specs.declared.differs.ReplayNo.TheVariants as no
use Rattle.stable_replay.specs.Differences.{IsFirstDifference}

-- its tables are a stable routing
abbrev pub IsStable : List File → Counterexample → Type 0
IsStable files cex = Stable files cex.packet.dst cex.failures cex.env cex.tables

-- its tables are a stable routing, and its walk breaks the question
abbrev pub IsReplayed : List File → Question → Counterexample → Type 0
IsReplayed files question cex = IsStable files cex × Breaks files (world_of cex) question.kind cex.walk

-- what is told is no walk of the packet; or nothing is told, where the question speaks of a walk
abbrev pub IsNoWalkIn : List File → Question → World → Option Walk → Type 0
IsNoWalkIn files question world (Some walk) = IsWalk files world walk → ⊥
IsNoWalkIn files question world None = question.kind ≢ NoStable

abbrev pub IsNoWalk : List File → Question → Counterexample → Type 0
IsNoWalk files question cex = IsNoWalkIn files question (world_of cex) cex.walk

-- what each refusal says: where the tables differ first; a stable routing whose walk is none; one whose walk is one,
-- where there is a walk, and breaks nothing
abbrev pub IsRefusedSo : List File → Question → Counterexample → ReplayNo → Type 0
IsRefusedSo files question cex (no.Differs differs) =
    IsFirstDifference files cex.packet.dst cex.failures cex.env cex.tables differs
IsRefusedSo files question cex no.NotWalk = IsStable files cex × IsNoWalk files question cex
IsRefusedSo files question cex no.NotBreak =
    IsStable files cex × (IsNoWalk files question cex → ⊥) × (Breaks files (world_of cex) question.kind cex.walk → ⊥)
IsRefusedSo files question cex no.Memory = Unit {0}
