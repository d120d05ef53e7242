-- Walks that were followed break the question, for each kind.
use Rattle.std.proofs.Common.{◌≡◌, ◌≢◌, ℕ, ◌+◌, Bool, true, ◌&&◌, ◌||◌, List, [], length, ◌⊎◌}
use Rattle.std.proofs.Common.{inl, inr, Some, refl, sym, ap, subst, arith, ◌∙◌}
use Rattle.std.proofs.lemmas.Bool.{and_parts, or_cases}
use Rattle.ios_ast.specs.declared.file.File.{File}
use Rattle.route_record.specs.declared.World.{World}
use Rattle.question_lang.specs.declared.question.Kind.{Kind}
use Rattle.question_lang.specs.declared.question.Kind.TheVariants.{Reach, Isolate, NoLoop, NoBlackHole}
use Rattle.question_lang.specs.declared.question.Kind.TheVariants.{Within}
use Rattle.question_lang.specs.declared.question.Start.{Start}
use Rattle.question_lang.specs.declared.question.Target.{Target}
use Rattle.question_lang.specs.declared.question.Target.TheVariants.{Router, Subnet, Peer}
use Rattle.question_lang.specs.declared.walk.End.{End}
use Rattle.question_lang.specs.declared.walk.End.TheVariants.{Loop, Open}
use Rattle.question_lang.specs.declared.walk.Walk.{Walk}
use Rattle.question_lang.specs.Breaking.{BeginsAt, Breaks, EndsAt, start_of}
use Rattle.question_lang.specs.Hops.{next_hops}
use Rattle.question_lang.specs.Walks.{GoesOn, IsWalk, IsWalkOver, MayBegin}
use Rattle.walk_def.proofs.Arrivals.{at_target, from_target}
use Rattle.walk_def.proofs.Members.{last-same}
use Rattle.walk_def.specs.Arriving.{LastIn, target_end}
use Rattle.walk_def.specs.Marks.{is_end, known}
use Rattle.sym_forwarding.specs.Beginnings.{begins_at}
use Rattle.sym_forwarding.specs.Layers.{arrives, going, loops}
use Rattle.sym_forwarding.specs.Forwardings.{IsAtTarget, IsDenied, IsSought}
use Rattle.sym_forwarding.proofs.Starts.{begins}
use Rattle.walk_finder.specs.declared.rows.Row.{Row}
use Rattle.walk_finder.specs.Following.{Arrives, EndsOrLoops, Follows}
use Rattle.walk_finder.specs.Rows.{table_of}
use Rattle.walk_finder.specs.Sought.{AreRows, IsBroken}
use Rattle.walk_finder.proofs.Tables.{rows_over, table_broken}

-- ---- walks of the world

-- a walk that follows the rows from where a walk may begin is one of the world
pub is_walk : (files : List File) (world : World) (kind : Kind) (rows : List Row) (start : Start) (walk : Walk) →
    AreRows files world kind rows → MayBegin files world start → Follows rows start walk →
    IsWalk files world walk × BeginsAt start walk
is_walk files world kind rows start walk are may follows =
    let (rest, same) = follows.begins in
    let on = follows.goes (next_hops files world) (rows_over files world kind rows are) in
    let W : List Start → Type 0 = λ hs. GoesOn (next_hops files world) [] hs walk.end
    → IsWalkOver files world hs walk.end in
    let B : List Start → Type 0 = λ hs. start_of hs walk.end ≡ Some start in
    (subst W (sym same) (λ goes. (may, goes)) on, subst B (sym same) refl)

-- one that arrives ends as the question looks for
pub sought_last : (files : List File) (world : World) (kind : Kind) (rows : List Row) (start : Start) (walk : Walk) →
    AreRows files world kind rows → Arrives rows start walk →
    LastIn (λ r. IsSought files world kind r walk.end) walk.hops
sought_last files world kind rows start walk are arrives =
    let (front, last, same, (row, found, is)) = arrives.last in
    (front, last, same, ((are.each last.router row found).ends walk.end is).1)

pub proper_end : (files : List File) (world : World) (kind : Kind) (rows : List Row) (start : Start) (walk : Walk) →
    AreRows files world kind rows → Arrives rows start walk → is_end walk.end ≡ true
proper_end files world kind rows start walk are arrives =
    let (front, last, same, (row, found, is)) = arrives.last in
    (((rows_over files world kind rows are) last.router row found).ends walk.end is).0

-- elsewhere, where it looks for that
reach_misses : (files : List File) (world : World) (start : Start) (target : Target) (rows : List Row) (walk : Walk) →
    AreRows files world (Reach start target) rows → Arrives rows start walk → EndsAt files world target walk → ⊥
reach_misses files world start target rows walk are arrives ends =
    let (front, last, same, missed) = sought_last files world (Reach start target) rows start walk are arrives in
    let (is, (other, there, as_well, holds)) = from_target files world target walk ends in
    let one : there ≡ last = last-same other front there last (sym as_well ∙ same) in
    let P : Start → Type 0 = λ s. IsAtTarget files world target s.router walk.end in
    missed (subst P one (is, holds))

loop_misses : (files : List File) (world : World) (target : Target) (walk : Walk) → walk.end ≡ Loop →
    EndsAt files world target walk → ⊥
loop_misses files world target walk loop ends =
    by_target target (sym loop ∙ (from_target files world target walk ends).0)
  where
    by_target : (t : Target) → Loop ≡ target_end t → ⊥
    by_target (Router router) same = cc
    by_target (Subnet p) same = cc
    by_target (Peer router a) same = cc

never_open : (end : End) → is_end end ≡ true → end ≢ Open
never_open end proper same = let both : true ≡ is_end Open = sym proper ∙ ap is_end same in cc

-- a walk may begin where the layers need it
pub may_begin : (files : List File) (world : World) (start : Start) (rest : Bool) →
    ((begins_at files world.failures world.packet start).begins && rest) ≡ true →
    MayBegin files world start × (rest ≡ true)
may_begin files world start rest h =
    let at = begins_at files world.failures world.packet start in
    let parts = and_parts at.begins rest h in ((begins files world start).begins parts.0, parts.1)

-- ---- it ends, and not at the target

pub reach_begins : (files : List File) (world : World) (start : Start) (target : Target) (rows : List Row) →
    AreRows files world (Reach start target) rows → IsBroken files world (Reach start target) →
    (IsDenied files world start → ⊥) →
    MayBegin files world start × ((arrives (table_of rows) start.router ≡ true)
    ⊎ (loops (table_of rows) start.router ≡ true))
reach_begins files world start target rows are broken permitted =
    let at = begins_at files world.failures world.packet start in
    let ends = arrives (table_of rows) start.router in
    let back = loops (table_of rows) start.router in
    let h = table_broken files world (Reach start target) start rows are refl broken in
    elim (or_cases at.denied (at.begins && (ends || back)) h) [
      | inl denied ↦ absurd (permitted ((begins files world start).denied denied))
      | inr goes ↦ let (may, wrong) = may_begin files world start (ends || back) goes in
          (may, or_cases ends back wrong)
    ]

pub reach_breaks : (files : List File) (world : World) (start : Start) (target : Target) (rows : List Row)
    (walk : Walk) → AreRows files world (Reach start target) rows → MayBegin files world start →
    EndsOrLoops rows start walk → Breaks files world (Reach start target) (Some walk)
reach_breaks files world start target rows walk are may (inl arrives) =
    let kind : Kind = Reach start target in
    let (walks, begun) = is_walk files world kind rows start walk are may arrives.follows in (
      walks,
      (
        begun,
        never_open walk.end (proper_end files world kind rows start walk are arrives),
        reach_misses files world start target rows walk are arrives,
      ),
    )
reach_breaks files world start target rows walk are may (inr (follows, loop)) =
    let (walks, begun) = is_walk files world (Reach start target) rows start walk are may follows in
    let closed : walk.end ≢ Open = λ same. let both : Loop ≡ Open = sym loop ∙ same in cc in
    (walks, (begun, closed, loop_misses files world target walk loop))

-- ---- at the target

pub isolate_begins : (files : List File) (world : World) (start : Start) (target : Target) (rows : List Row) →
    AreRows files world (Isolate start target) rows → IsBroken files world (Isolate start target) →
    MayBegin files world start × (arrives (table_of rows) start.router ≡ true)
isolate_begins files world start target rows are broken =
    may_begin files world start (arrives (table_of rows) start.router)
    (table_broken files world (Isolate start target) start rows are refl broken)

pub isolate_breaks : (files : List File) (world : World) (start : Start) (target : Target) (rows : List Row)
    (walk : Walk) → AreRows files world (Isolate start target) rows → MayBegin files world start →
    Arrives rows start walk → Breaks files world (Isolate start target) (Some walk)
isolate_breaks files world start target rows walk are may arrives =
    let kind : Kind = Isolate start target in
    let (walks, begun) = is_walk files world kind rows start walk are may arrives.follows in
    let (front, last, same, (is, holds)) = sought_last files world kind rows start walk are arrives in
    (walks, (begun, at_target files world target walk is (front, last, same, holds)))

-- ---- back to where it stood

pub loop_begins : (files : List File) (world : World) (start : Start) (rows : List Row) →
    AreRows files world (NoLoop start) rows → IsBroken files world (NoLoop start) →
    MayBegin files world start × (loops (table_of rows) start.router ≡ true)
loop_begins files world start rows are broken =
    may_begin files world start (loops (table_of rows) start.router)
    (table_broken files world (NoLoop start) start rows are refl broken)

pub loop_breaks : (files : List File) (world : World) (start : Start) (rows : List Row) (walk : Walk) →
    AreRows files world (NoLoop start) rows → MayBegin files world start → Follows rows start walk →
    walk.end ≡ Loop → Breaks files world (NoLoop start) (Some walk)
loop_breaks files world start rows walk are may follows loop =
    let (walks, begun) = is_walk files world (NoLoop start) rows start walk are may follows in (walks, (begun, loop))

-- ---- without a route or at Null0

pub lost_begins : (files : List File) (world : World) (start : Start) (rows : List Row) →
    AreRows files world (NoBlackHole start) rows → IsBroken files world (NoBlackHole start) →
    MayBegin files world start × (arrives (table_of rows) start.router ≡ true)
lost_begins files world start rows are broken =
    may_begin files world start (arrives (table_of rows) start.router)
    (table_broken files world (NoBlackHole start) start rows are refl broken)

pub lost_breaks : (files : List File) (world : World) (start : Start) (rows : List Row) (walk : Walk) →
    AreRows files world (NoBlackHole start) rows → MayBegin files world start → Arrives rows start walk →
    Breaks files world (NoBlackHole start) (Some walk)
lost_breaks files world start rows walk are may arrives =
    let kind : Kind = NoBlackHole start in
    let (walks, begun) = is_walk files world kind rows start walk are may arrives.follows in
    let (front, last, same, lost) = sought_last files world kind rows start walk are arrives in
    (walks, (begun, lost))

-- ---- one hop more than allowed

pub within_begins : (files : List File) (world : World) (most : ℕ) (start : Start) (rows : List Row) →
    AreRows files world (Within most start) rows → IsBroken files world (Within most start) →
    MayBegin files world start × (known (going (table_of rows) (most + 1)) start.router ≡ true)
within_begins files world most start rows are broken =
    may_begin files world start (known (going (table_of rows) (most + 1)) start.router)
    (table_broken files world (Within most start) start rows are refl broken)

pub within_breaks : (files : List File) (world : World) (most : ℕ) (start : Start) (rows : List Row) (walk : Walk) →
    AreRows files world (Within most start) rows → MayBegin files world start → Follows rows start walk →
    length walk.hops ≡ most + 1 + 1 → Breaks files world (Within most start) (Some walk)
within_breaks files world most start rows walk are may follows long =
    let (walks, begun) = is_walk files world (Within most start) rows start walk are may follows in
    let as_long : length walk.hops ≡ most + 2 = omega (arith, long) in (walks, (begun, as_long))
