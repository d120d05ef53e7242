-- Of tables walks read the next hops of routers alone.
use Rattle.std.proofs.Common.{◌≡◌, ℕ, List, [], ◌∷◌, Option, Some, None, subst, sym, inl, inr}
use Rattle.ios_ast.specs.declared.file.File.{File}
use Rattle.route_record.specs.declared.Tables.{Tables}
use Rattle.route_record.specs.declared.World.{World}
use Rattle.question_lang.specs.declared.question.Kind.{Kind}
use Rattle.question_lang.specs.declared.question.Kind.TheVariants.{Reach, Isolate, Waypoint, NoLoop, NoBlackHole}
use Rattle.question_lang.specs.declared.question.Kind.TheVariants.{Within, Alike, NoStable}
use Rattle.question_lang.specs.declared.question.Start.{Start}
use Rattle.question_lang.specs.declared.question.Target.{Target}
use Rattle.question_lang.specs.declared.question.Target.TheVariants.{Router, Subnet, Peer}
use Rattle.question_lang.specs.declared.walk.End.{End}
use Rattle.question_lang.specs.declared.walk.End.TheVariants.{Delivered, Left, NoRoute, Discarded, DeniedIn, DeniedOut}
use Rattle.question_lang.specs.declared.walk.End.TheVariants.{Loop, Open}
use Rattle.question_lang.specs.declared.walk.Hop.{Hop}
use Rattle.question_lang.specs.declared.walk.Walk.{Walk}
use Rattle.question_lang.specs.Breaking.{Breaks, BreaksBy, EndsAt, NoneArrives}
use Rattle.question_lang.specs.Hops.{next_hops}
use Rattle.question_lang.specs.Walks.{GoesOn, IsWalk, IsWalkOver}

-- the world with other tables
abbrev with_tables : World → Tables → World
with_tables world t = record world { tables = t }

-- the tables give the same next hops
abbrev HaveSameHops : List File → World → Tables → Tables → Type 0
HaveSameHops files world t u =
    (router : ℕ) → next_hops files (with_tables world t) router ≡ next_hops files (with_tables world u) router

back : (files : List File) (world : World) (t u : Tables) → HaveSameHops files world t u →
    HaveSameHops files world u t
back files world t u same router = sym (same router)

walk_over : (files : List File) (world : World) (t u : Tables) → HaveSameHops files world t u →
    (stood : List Start) (end : End) → IsWalkOver files (with_tables world t) stood end →
    IsWalkOver files (with_tables world u) stood end
walk_over files world t u same [] Delivered walk = walk
walk_over files world t u same [] (Left a) walk = walk
walk_over files world t u same [] NoRoute walk = walk
walk_over files world t u same [] Discarded walk = walk
walk_over files world t u same [] (DeniedIn i) walk = walk
walk_over files world t u same [] DeniedOut walk = walk
walk_over files world t u same [] Loop walk = walk
walk_over files world t u same [] Open walk = walk
walk_over files world t u same (start ∷ rest) end walk =
    let P : (ℕ → List Hop) → Type 0 = λ hops. GoesOn hops [] (start ∷ rest) end in
    let all : next_hops files (with_tables world t) ≡ next_hops files (with_tables world u) =
    λ i. λ router. same router i in
    (walk.0, subst P all walk.1)

walk_same : (files : List File) (world : World) (t u : Tables) → HaveSameHops files world t u → (walk : Walk) →
    IsWalk files (with_tables world t) walk → IsWalk files (with_tables world u) walk
walk_same files world t u same walk is = walk_over files world t u same walk.hops walk.end is

ends_same : (files : List File) (world : World) (t u : Tables) (target : Target) (walk : Walk) →
    EndsAt files (with_tables world t) target walk → EndsAt files (with_tables world u) target walk
ends_same files world t u (Router router) walk ends = ends
ends_same files world t u (Subnet p) walk ends = ends
ends_same files world t u (Peer router a) walk ends = ends

none_same : (files : List File) (world : World) (t u : Tables) → HaveSameHops files world t u → (start : Start)
    (target : Target) → NoneArrives files (with_tables world t) start target →
    NoneArrives files (with_tables world u) start target
none_same files world t u same start target none walk is begins ends =
    none walk (walk_same files world u t (back files world t u same) walk is) begins
    (ends_same files world u t target walk ends)

by_same : (files : List File) (world : World) (t u : Tables) → HaveSameHops files world t u → (kind : Kind)
    (walk : Walk) → BreaksBy files (with_tables world t) kind walk → BreaksBy files (with_tables world u) kind walk
by_same files world t u same (Reach start target) walk breaks =
    (breaks.0, breaks.1, λ ends. breaks.2 (ends_same files world u t target walk ends))
by_same files world t u same (Isolate start target) walk breaks =
    (breaks.0, ends_same files world t u target walk breaks.1)
by_same files world t u same (Waypoint start target via) walk breaks =
    (breaks.0, ends_same files world t u target walk breaks.1, breaks.2)
by_same files world t u same (NoLoop start) walk breaks = breaks
by_same files world t u same (NoBlackHole start) walk breaks = breaks
by_same files world t u same (Within most start) walk breaks = breaks
by_same files world t u same (Alike a b target) walk breaks = (
  ends_same files world t u target walk breaks.0,
  elim breaks.1 [
    | inl first ↦ inl (first.0, none_same files world t u same _ target first.1)
    | inr second ↦ inr (second.0, none_same files world t u same _ target second.1)
  ],
)
by_same files world t u same NoStable walk breaks = breaks

pub breaks_same : (files : List File) (world : World) (t u : Tables) →
    ((router : ℕ) → next_hops files (record world { tables = t }) router
    ≡ next_hops files (record world { tables = u }) router) → (kind : Kind)
    (walk : Option Walk) → Breaks files (record world { tables = t }) kind walk →
    Breaks files (record world { tables = u }) kind walk
breaks_same files world t u same kind None breaks = breaks
breaks_same files world t u same kind (Some walk) breaks =
    (walk_same files world t u same walk breaks.0, by_same files world t u same kind walk breaks.1)
