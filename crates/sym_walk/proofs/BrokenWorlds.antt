-- The layers over a table of twins say whether a walk breaks a question.
use Rattle.std.proofs.Common.{◌≡◌, true, List, length, Option, Some, sym, subst}
use Rattle.ios_ast.specs.declared.file.File.{File}
use Rattle.route_record.specs.declared.World.{World}
use Rattle.question_lang.specs.declared.question.Kind.{Kind}
use Rattle.question_lang.specs.declared.question.Start.{Start}
use Rattle.question_lang.specs.declared.walk.Walk.{Walk}
use Rattle.question_lang.specs.Breaking.{Breaks}
use Rattle.question_lang.specs.Hops.{next_hops}
use Rattle.sym_forwarding.specs.Beginnings.{begins_at}
use Rattle.sym_forwarding.specs.Forwardings.{AreForwarding, IsBeginning, IsBeginningOf, start_asked}
use Rattle.sym_forwarding.specs.Here.{ends_here}
use Rattle.sym_forwarding.specs.Layers.{Beginning, Forwarding, is_broken}
use Rattle.sym_walk.specs.TwinTables.{AreTwins}
use Rattle.sym_forwarding.proofs.BreakingWalks.{broken_all, broken_yes}
use Rattle.sym_forwarding.proofs.Sought.{twin_forwards}
use Rattle.sym_forwarding.proofs.Starts.{begins}
use Rattle.sym_forwarding.proofs.TargetRouters.{told_here}

-- what is said of the start of the question, where it has one
abbrev pub IsBegun : List File → World → Kind → Beginning → Type 0
IsBegun files world kind start =
    (first : Start) → start_asked kind ≡ Some first → start ≡ begins_at files world.failures world.packet first

forwards : (files : List File) (world : World) (kind : Kind) (table : List Forwarding) →
    AreTwins files world kind (length files) table → AreForwarding files world kind table
forwards files world kind table twins = record {
  long = twins.long;
  each = λ router f found.
      twin_forwards files world kind router (ends_here files world.failures world.packet router kind)
      (next_hops files world router) f (told_here files world router kind) (twins.each router f found);
}

begun : (files : List File) (world : World) (kind : Kind) (start : Beginning) → IsBegun files world kind start →
    IsBeginningOf files world kind start
begun files world kind start is first asked =
    let P : Beginning → Type 0 = λ b. IsBeginning files world first b in
    subst P (sym (is first asked)) (begins files world first)

pub walk_breaks : (files : List File) (world : World) (kind : Kind) (start : Beginning) (table : List Forwarding) →
    AreTwins files world kind (length files) table → IsBegun files world kind start →
    is_broken kind start table ≡ true → (walk : Option Walk) × Breaks files world kind walk
walk_breaks files world kind start table twins is broken =
    broken_yes files world kind start table (forwards files world kind table twins) (begun files world kind start is)
    broken

pub breaks_all : (files : List File) (world : World) (kind : Kind) (start : Beginning) (table : List Forwarding) →
    AreTwins files world kind (length files) table → IsBegun files world kind start →
    (walk : Option Walk) → Breaks files world kind walk → is_broken kind start table ≡ true
breaks_all files world kind start table twins is walk breaks =
    broken_all files world kind start table (forwards files world kind table twins) (begun files world kind start is)
    walk breaks
