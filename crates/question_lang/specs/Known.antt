-- That all which a question names is there.
use Rattle.std.specs.Prelude.{◌≡◌, ◌<◌, ℕ, All, IfSome, IsTrue, List, length}
use Rattle.ios_ast.specs.declared.file.File.{File}
use Rattle.question_lang.specs.declared.question.Kind.{Kind}
use Rattle.question_lang.specs.declared.question.Kind.TheVariants.{Reach, Isolate, Waypoint, NoLoop, NoBlackHole}
use Rattle.question_lang.specs.declared.question.Kind.TheVariants.{Within, Alike, NoStable}
use Rattle.question_lang.specs.declared.question.Question.{Question}
use Rattle.question_lang.specs.declared.question.Start.{Start}
use Rattle.question_lang.specs.declared.question.Target.{Target}
use Rattle.question_lang.specs.declared.question.Target.TheVariants.{Router, Subnet, Peer}
use Rattle.question_lang.specs.Naming.{interfaces_at, is_peer}

-- a router of the files, and one of its interfaces where there is one
abbrev pub IsStart : List File → Start → Type 0
IsStart files start =
    (start.router < length files) × IfSome start.iface (λ at. at < length (interfaces_at files start.router))

-- a router of the files, with an external peer of it where the target is one
abbrev pub IsTarget : List File → Target → Type 0
IsTarget files (Router router) = router < length files
IsTarget files (Subnet p) = Unit {0}
IsTarget files (Peer router a) = (router < length files) × IsTrue (is_peer files router a)

-- all that the question names
abbrev pub IsKnown : List File → Kind → Type 0
IsKnown files (Reach start target) = IsStart files start × IsTarget files target
IsKnown files (Isolate start target) = IsStart files start × IsTarget files target
IsKnown files (Waypoint start target via) = IsStart files start × IsTarget files target × (via < length files)
IsKnown files (NoLoop start) = IsStart files start
IsKnown files (NoBlackHole start) = IsStart files start
IsKnown files (Within most start) = IsStart files start
IsKnown files (Alike one other target) = (one < length files) × (other < length files) × IsTarget files target
IsKnown files NoStable = Unit {0}

-- all that these questions name
abbrev pub AreKnown : List File → List Question → Type 0
AreKnown files questions = All (λ question. IsKnown files question.kind) questions
