-- What was found breaks the question, or nothing was.
use Rattle.std.proofs.Common.{◌≡◌, List, Option, Some, None, refl}
use Rattle.std.specs.Prelude.{IfSome}
use Rattle.ios_ast.specs.declared.file.File.{File}
use Rattle.route_record.specs.declared.World.{World}
use Rattle.question_lang.specs.declared.question.Kind.{Kind}
use Rattle.question_lang.specs.declared.walk.Walk.{Walk}
use Rattle.question_lang.specs.Breaking.{Breaks}

pub found_breaks : {P : Walk → Type 0} (files : List File) (world : World) (kind : Kind) (found : Option Walk) →
    IfSome found P → ((walk : Walk) → P walk → Breaks files world kind (Some walk)) → (found ≡ None → ⊥) →
    Breaks files world kind found
found_breaks files world kind None some breaks none = absurd (none refl)
found_breaks files world kind (Some walk) some breaks none = breaks walk some

pub both_some : {A : Type 0} (P Q : A → Type 0) (found : Option A) → IfSome found P → IfSome found Q →
    IfSome found (λ x. P x × Q x)
both_some P Q None first second = tt
both_some P Q (Some x) first second = (first, second)
