-- What the reader of counterexamples leaves.
use Rattle.std.proofs.Common.{◌≡◌, ◌*◌, ◌<◌, List, [], ◌∷◌, length, get_or, Some, refl, subst, arith}
use Rattle.std.specs.Prelude.{slice_get}
use Rattle.std.proofs.lemmas.Option.{slice_get-get_or}
use Rattle.cex_json.specs.declared.counterexample.Counterexample.{Counterexample}
use Rattle.ios_ast.specs.declared.file.File.{File}
use Rattle.net_parts.specs.World.{IsEnvironment, IsFailureSet}
use Rattle.question_lang.specs.declared.question.Question.{Question}
use Rattle.question_lang.specs.Packets.{IsInSet}
use Rattle.route_record.specs.declared.TheConstants.{LENGTHS}
use Rattle.run_inputs.specs.Loading.{IsAdmitted}

-- what the reader of counterexamples says of one that it read
pub admitted_from : (files : List File) (questions : List Question) (cex : Counterexample) →
    cex.question < length questions →
    ((question : Question) → slice_get questions cex.question ≡ Some question → IsInSet question.packets cex.packet) →
    ((question : Question) → slice_get questions cex.question ≡ Some question →
    IsFailureSet files question.failures cex.failures) →
    IsEnvironment files cex.env → length cex.tables.slots ≡ LENGTHS * length files → IsAdmitted files questions cex
admitted_from files questions cex within packet failures environment slots = by_questions questions refl within where
  by_questions : (qs : List Question) → qs ≡ questions → cex.question < length qs → IsAdmitted files questions cex
  by_questions [] is within = absurd (omega (arith, within))
  by_questions (q ∷ rest) is within =
      let question = get_or (q ∷ rest) cex.question q in
      let S : List Question → Type 0 = λ qs. slice_get qs cex.question ≡ Some question in
      let asked : slice_get questions cex.question ≡ Some question =
      subst S is (slice_get-get_or (q ∷ rest) cex.question q within) in
      record {
        question = question;
        asked = asked;
        packet = packet question asked;
        environment = environment;
        failures = failures question asked;
        slots = slots;
      }
