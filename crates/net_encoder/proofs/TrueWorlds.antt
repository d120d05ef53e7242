-- A routing that a walk breaks, as a counterexample.
use Rattle.std.proofs.Common.{◌≡◌, ℕ, List, Option, refl}
use Rattle.ios_ast.specs.declared.file.File.{File}
use Rattle.route_record.specs.declared.Environment.{Environment}
use Rattle.route_record.specs.declared.World.{World}
use Rattle.question_lang.specs.Breaking.{Breaks, IsBreaking}
use Rattle.question_lang.specs.declared.question.Question.{Question}
use Rattle.question_lang.specs.declared.walk.Walk.{Walk}
use Rattle.cex_json.specs.Counterexamples.{IsTrueCounterexample}

-- what breaks the question in such a world makes a true counterexample
pub true_from : (files : List File) (number : ℕ) (question : Question) (world : World) (environment : Environment)
    (walk : Option Walk) → (other : Option Walk) × IsBreaking files question world environment other →
    Breaks files world question.kind walk →
    IsTrueCounterexample files number question (record {
      question = number;
      packet = world.packet;
      failures = world.failures;
      env = environment;
      tables = world.tables;
      walk = walk;
    })
true_from files number question world environment walk (other, breaking) breaks = (
  refl,
  record {
    packet = breaking.packet;
    environment_fits = breaking.environment_fits;
    failures = breaking.failures;
    stable = breaking.stable;
    breaks = breaks;
  },
)
