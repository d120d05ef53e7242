-- A walk ends so exactly where it breaks the question of that kind.
use Rattle.std.proofs.Common.{◌≡◌, ℕ, List, Option, Some, None, subst}
use Rattle.ios_ast.specs.declared.file.File.{File}
use Rattle.route_record.specs.declared.World.{World}
use Rattle.question_lang.specs.declared.question.Kind.{Kind}
use Rattle.question_lang.specs.declared.walk.Walk.{Walk}
use Rattle.question_lang.specs.Breaking.{Breaks}
use Rattle.fate_terms.specs.declared.ending.Ending.{Ending}
use Rattle.fate_terms.specs.declared.ending.Ending.TheVariants.{Delivered, Left, BlackHole, Loop}
use Rattle.fate_terms.specs.Endings.{HasEnding, kind_of}

by_walk : (files : List File) (world : World) (start : ℕ) (ending : Ending) (walk : Walk) →
    Breaks files world (kind_of start ending) (Some walk) → HasEnding files world start ending
by_walk files world start (Delivered router) walk (is, (begins, ends)) = (walk, is, begins, ends)
by_walk files world start (Left router a) walk (is, (begins, ends)) = (walk, is, begins, ends)
by_walk files world start BlackHole walk (is, (begins, ends)) = (walk, is, begins, ends)
by_walk files world start Loop walk (is, (begins, ends)) = (walk, is, begins, ends)

by_none : (files : List File) (world : World) (start : ℕ) (ending : Ending) →
    Breaks files world (kind_of start ending) None → HasEnding files world start ending
by_none files world start (Delivered router) none = cc
by_none files world start (Left router a) none = cc
by_none files world start BlackHole none = cc
by_none files world start Loop none = cc

-- what breaks the question is a walk that ends so
pub broken_ends : (files : List File) (world : World) (start : ℕ) (ending : Ending) (kind : Kind) →
    kind ≡ kind_of start ending → (walk : Option Walk) × Breaks files world kind walk →
    HasEnding files world start ending
broken_ends files world start ending kind same broken =
    by_option (subst (λ k. (walk : Option Walk) × Breaks files world k walk) same broken)
  where
    by_option : (walk : Option Walk) × Breaks files world (kind_of start ending) walk →
        HasEnding files world start ending
    by_option (None, none) = by_none files world start ending none
    by_option (Some walk, breaks) = by_walk files world start ending walk breaks

-- and such a walk breaks it
pub ending_breaks : (files : List File) (world : World) (start : ℕ) (ending : Ending) →
    HasEnding files world start ending → (walk : Walk) × Breaks files world (kind_of start ending) (Some walk)
ending_breaks files world start (Delivered router) (walk, is, begins, ends) = (walk, (is, (begins, ends)))
ending_breaks files world start (Left router a) (walk, is, begins, ends) = (walk, (is, (begins, ends)))
ending_breaks files world start BlackHole (walk, is, begins, ends) = (walk, (is, (begins, ends)))
ending_breaks files world start Loop (walk, is, begins, ends) = (walk, (is, (begins, ends)))
