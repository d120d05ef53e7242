-- The fates of packets, with routers by their places, and questions that are broken exactly where a walk ends so.
use Rattle.std.specs.Prelude.{◌≡◌, ◌⊎◌, ℕ, List}
use Rattle.ios_ast.specs.declared.file.File.{File}
use Rattle.route_record.specs.declared.World.{World}
use Rattle.question_lang.specs.declared.question.Kind.{Kind}
use Rattle.question_lang.specs.declared.question.Kind.TheVariants.{Isolate, NoLoop, NoBlackHole}
use Rattle.question_lang.specs.declared.question.Target.TheVariants.{Router, Peer}
use Rattle.question_lang.specs.declared.walk.End.TheVariants.{NoRoute, Discarded}
use Rattle.question_lang.specs.declared.walk.End.TheVariants.{Delivered as EndDelivered, Left as EndLeft}
use Rattle.question_lang.specs.declared.walk.End.TheVariants.{Loop as EndLoop}
use Rattle.question_lang.specs.declared.walk.Walk.{Walk}
use Rattle.question_lang.specs.Breaking.{BeginsAt, LastStands, at_router}
use Rattle.question_lang.specs.Walks.{IsWalk}
use Rattle.fate_terms.specs.declared.ending.Ending.{Ending}
use Rattle.fate_terms.specs.declared.ending.Ending.TheVariants.{Delivered, Left, BlackHole, Loop}

-- the walk ends so: delivered at that router, or out of the network there to that address; without a route or at Null0;
-- back where it stood
abbrev pub EndsAs : Walk → Ending → Type 0
EndsAs walk (Delivered router) = (walk.end ≡ EndDelivered) × LastStands (λ r. r ≡ router) walk
EndsAs walk (Left router a) = (walk.end ≡ EndLeft a) × LastStands (λ r. r ≡ router) walk
EndsAs walk BlackHole = (walk.end ≡ NoRoute) ⊎ (walk.end ≡ Discarded)
EndsAs walk Loop = walk.end ≡ EndLoop

-- some walk from the router does
abbrev pub HasEnding : List File → World → ℕ → Ending → Type 0
HasEnding files world start ending =
    (walk : Walk) × IsWalk files world walk × BeginsAt (at_router start) walk × EndsAs walk ending

-- the kind of the question that such a walk breaks
abbrev pub kind_of : ℕ → Ending → Kind
kind_of start (Delivered router) = Isolate (at_router start) (Router router)
kind_of start (Left router a) = Isolate (at_router start) (Peer router a)
kind_of start BlackHole = NoBlackHole (at_router start)
kind_of start Loop = NoLoop (at_router start)
