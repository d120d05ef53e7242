-- Walks that pass a waypoint by, and walks from the one of two routers.
use Rattle.std.proofs.Common.{◌≡◌, ◌≢◌, ℕ, zero, suc, Bool, true, false, cond, ◌&&◌, ◌||◌, not, List, [], ◌∷◌}
use Rattle.std.proofs.Common.{inl, inr, Some, None, refl, sym, ap, subst, arith, ◌∙◌, eqb, eq-eqb, set}
use Rattle.std.specs.Prelude.{All, slice_get}
use Rattle.std.proofs.lemmas.Bool.{eqb-true}
use Rattle.std.proofs.lemmas.List.{map-set}
use Rattle.std.proofs.lemmas.List.Elements.{All-from_recursion}
use Rattle.ios_ast.specs.declared.file.File.{File}
use Rattle.route_record.specs.declared.World.{World}
use Rattle.question_lang.specs.declared.question.Kind.{Kind}
use Rattle.question_lang.specs.declared.question.Kind.TheVariants.{Isolate, Waypoint, Alike}
use Rattle.question_lang.specs.declared.question.Start.{Start}
use Rattle.question_lang.specs.declared.question.Target.{Target}
use Rattle.question_lang.specs.declared.walk.End.{End}
use Rattle.question_lang.specs.declared.walk.Hop.{Hop}
use Rattle.question_lang.specs.declared.walk.Walk.{Walk}
use Rattle.question_lang.specs.Breaking.{Breaks, NoneArrives, at_router, start_of}
use Rattle.question_lang.specs.Hops.{next_hops}
use Rattle.question_lang.specs.Walks.{GoesOn, IsWalkOver, MayBegin}
use Rattle.walk_def.proofs.Arrivals.{at_target}
use Rattle.walk_def.specs.Arriving.{LastIn}
use Rattle.walk_def.specs.Marks.{is_end}
use Rattle.sym_forwarding.specs.Layers.{arrives, silent}
use Rattle.sym_forwarding.specs.Forwardings.{IsAtTarget}
use Rattle.sym_forwarding.proofs.Passing.{passes, without}
use Rattle.walk_finder.specs.declared.rows.Row.{Row}
use Rattle.walk_finder.specs.Following.{Arrives}
use Rattle.walk_finder.specs.Rows.{AreRowsOf, IsRowOf, forwarding_of, silent_row, table_of}
use Rattle.walk_finder.specs.Sought.{AreRows, IsBroken}
use Rattle.walk_finder.proofs.ByKind.{is_walk, may_begin, sought_last}
use Rattle.walk_finder.proofs.Tables.{broken_two, rows_over, table_broken}

-- ---- rows without the one of a router

-- a row of these is the silent one, at that router, or one of the rows at another
data RowOf (rows : List Row) (via router : ℕ) (row : Row) : Type 0 where
  is_silent : router ≡ via → silent_row ≡ row → RowOf rows via router row
  is_other : router ≢ via → slice_get rows router ≡ Some row → RowOf rows via router row

row_among : (rows : List Row) (via router : ℕ) (row : Row) → slice_get (set rows via silent_row) router ≡ Some row →
    RowOf rows via router row
row_among [] via router row found = cc
row_among (r ∷ rest) zero zero row found = let same : silent_row ≡ row = cc in is_silent refl same
row_among (r ∷ rest) zero (suc router) row found = is_other (λ same. omega (arith, same)) found
row_among (r ∷ rest) (suc via) zero row found = is_other (λ same. omega (arith, same)) found
row_among (r ∷ rest) (suc via) (suc router) row found =
    elim (row_among rest via router row found) [
      | is_silent here same ↦ is_silent (ap suc here) same
      | is_other away there ↦ is_other (λ same. away (omega (arith, same))) there
    ]

-- they have the hops of the others
others_over : (hops : ℕ → List Hop) (rows : List Row) (via : ℕ) → AreRowsOf hops rows →
    AreRowsOf (without via hops) (set rows via silent_row)
others_over hops rows via are router row found = by_row (row_among rows via router row found) where
  by_row : RowOf rows via router row → IsRowOf (without via hops router) row
  by_row (is_silent here same) =
      let none : [] ≡ without via hops router =
      ap (λ b. cond b [] (hops router)) (sym (eq-eqb router via here)) in
      let P : List Hop → Type 0 = λ own. IsRowOf own silent_row in
      let Q : Row → Type 0 = λ r. IsRowOf (without via hops router) r in
      subst Q same (subst P none (record { sent = refl; ends = λ end is. cc }))
  by_row (is_other away there) = by_same (eqb router via) refl where
    by_same : (b : Bool) → eqb router via ≡ b → IsRowOf (cond b [] (hops router)) row
    by_same true is = absurd (away (eqb-true router via is))
    by_same false is = are router row there

others_table : (rows : List Row) (via : ℕ) → table_of (set rows via silent_row) ≡ set (table_of rows) via silent
others_table rows via = map-set forwarding_of rows via silent_row

-- ---- at the target, and not at the waypoint

pub waypoint_begins : (files : List File) (world : World) (start : Start) (target : Target) (via : ℕ)
    (rows others : List Row) → AreRows files world (Waypoint start target via) rows → others ≡ set rows via silent_row →
    IsBroken files world (Waypoint start target via) →
    MayBegin files world start × (arrives (table_of others) start.router ≡ true)
waypoint_begins files world start target via rows others are same broken =
    let tables : table_of others ≡ set (table_of rows) via silent = ap table_of same ∙ others_table rows via in
    let (may, marked) = may_begin files world start (arrives (set (table_of rows) via silent) start.router)
    (table_broken files world (Waypoint start target via) start rows are refl broken) in
    (may, ap (λ table. arrives table start.router) tables ∙ marked)

-- a walk over the others' hops passes the router by
passes_by : (via : ℕ) (hops : ℕ → List Hop) (start : Start) (rest : List Start) (end : End) → is_end end ≡ true →
    GoesOn (without via hops) [] (start ∷ rest) end →
    GoesOn hops [] (start ∷ rest) end × All (λ s. s.router ≢ via) (start ∷ rest)
passes_by via hops start rest end proper on =
    let (goes, avoids) = passes via hops [] start rest end proper on in
    (goes, All-from_recursion (λ s. s.router ≢ via) (start ∷ rest) avoids)

-- its end is one of a row
others_last : (files : List File) (world : World) (start : Start) (target : Target) (via : ℕ) (rows : List Row)
    (walk : Walk) → AreRows files world (Waypoint start target via) rows →
    Arrives (set rows via silent_row) start walk →
    (is_end walk.end ≡ true) × LastIn (λ r. IsAtTarget files world target r walk.end) walk.hops
others_last files world start target via rows walk are arrives =
    let (front, last, same, (row, found, is)) = arrives.last in
    let (proper, at) = by_row last.router row is (row_among rows via last.router row found) in
    (proper, (front, last, same, at))
  where
    by_row : (router : ℕ) (row : Row) → row.end ≡ Some walk.end → RowOf rows via router row →
        (is_end walk.end ≡ true) × IsAtTarget files world target router walk.end
    by_row router row is (is_silent here silent) =
        let none : None ≡ Some walk.end = ap (λ r. r.end) silent ∙ is in cc
    by_row router row is (is_other away there) = (
      ((rows_over files world (Waypoint start target via) rows are router row there).ends walk.end is).0,
      ((are.each router row there).ends walk.end is).1,
    )

pub waypoint_breaks : (files : List File) (world : World) (start : Start) (target : Target) (via : ℕ)
    (rows others : List Row) (walk : Walk) → AreRows files world (Waypoint start target via) rows →
    others ≡ set rows via silent_row → MayBegin files world start → Arrives others start walk →
    Breaks files world (Waypoint start target via) (Some walk)
waypoint_breaks files world start target via rows others walk are is_set may ends =
    let hops : ℕ → List Hop = next_hops files world in
    let A : List Row → Type 0 = λ rs. Arrives rs start walk in
    let arrived = subst A is_set ends in
    let (proper, (front, last, ended, (is, holds))) = others_last files world start target via rows walk are arrived in
    let (rest, same) = arrived.follows.begins in
    let on = arrived.follows.goes (without via hops)
    (others_over hops rows via (rows_over files world (Waypoint start target via) rows are)) in
    let G : List Start → Type 0 = λ hs. GoesOn (without via hops) [] hs walk.end in
    let (goes, avoids) = passes_by via hops start rest walk.end proper (subst G same on) in
    let W : List Start → Type 0 = λ hs. IsWalkOver files world hs walk.end in
    let B : List Start → Type 0 = λ hs. start_of hs walk.end ≡ Some start in
    let V : List Start → Type 0 = λ hs. All (λ s. s.router ≢ via) hs in (
      subst W (sym same) (may, goes),
      (
        subst B (sym same) refl,
        at_target files world target walk is (front, last, ended, holds),
        subst V (sym same) avoids,
      ),
    )

-- ---- from the one router, and not from the other

one_alone : (a b : Bool) → ((a && not b) || (b && not a)) ≡ true → a ≡ true → b ≡ false
one_alone true true h is = cc
one_alone true false h is = refl
one_alone false b h is = cc

other_alone : (a b : Bool) → ((a && not b) || (b && not a)) ≡ true → a ≡ false → b ≡ true
other_alone true b h is = cc
other_alone false true h is = refl
other_alone false false h is = cc

-- rows for two routers are rows for each of them
as_isolate : (files : List File) (world : World) (a b router : ℕ) (target : Target) (rows : List Row) →
    AreRows files world (Alike a b target) rows → AreRows files world (Isolate (at_router router) target) rows
as_isolate files world a b router target rows are = record {
  long = are.long;
  each = λ at row found.
      let is = are.each at row found in record { sent = is.sent; ends = is.ends; none = is.none };
}

none_arrives : (files : List File) (world : World) (a b router : ℕ) (target : Target) (rows : List Row) →
    AreRows files world (Alike a b target) rows → arrives (table_of rows) router ≡ false →
    NoneArrives files world (at_router router) target
none_arrives files world a b router target rows are unmarked walk walks begun ends =
    let start : Start = at_router router in
    let h = table_broken files world (Isolate start target) start rows
    (as_isolate files world a b router target rows are) refl (Some walk, (walks, (begun, ends))) in
    let marked = (may_begin files world start (arrives (table_of rows) router) h).1 in
    let both : true ≡ false = sym marked ∙ unmarked in cc

pub alike_marks : (files : List File) (world : World) (a b : ℕ) (target : Target) (rows : List Row) →
    AreRows files world (Alike a b target) rows → IsBroken files world (Alike a b target) →
    arrives (table_of rows) a ≡ false → arrives (table_of rows) b ≡ true
alike_marks files world a b target rows are broken unmarked =
    other_alone (arrives (table_of rows) a) (arrives (table_of rows) b)
    (broken_two files world a b target rows are broken) unmarked

pub first_breaks : (files : List File) (world : World) (a b : ℕ) (target : Target) (rows : List Row) (walk : Walk) →
    AreRows files world (Alike a b target) rows → IsBroken files world (Alike a b target) →
    Arrives rows (at_router a) walk → arrives (table_of rows) a ≡ true →
    Breaks files world (Alike a b target) (Some walk)
first_breaks files world a b target rows walk are broken ends marked =
    let kind : Kind = Alike a b target in
    let (walks, begun) = is_walk files world kind rows (at_router a) walk are tt ends.follows in
    let (front, last, same, (is, holds)) = sought_last files world kind rows (at_router a) walk are ends in
    let unmarked = one_alone (arrives (table_of rows) a) (arrives (table_of rows) b)
    (broken_two files world a b target rows are broken) marked in (
      walks,
      (
        at_target files world target walk is (front, last, same, holds),
        inl (begun, none_arrives files world a b b target rows are unmarked),
      ),
    )

pub second_breaks : (files : List File) (world : World) (a b : ℕ) (target : Target) (rows : List Row) (walk : Walk) →
    AreRows files world (Alike a b target) rows → Arrives rows (at_router b) walk →
    arrives (table_of rows) a ≡ false → Breaks files world (Alike a b target) (Some walk)
second_breaks files world a b target rows walk are ends unmarked =
    let kind : Kind = Alike a b target in
    let (walks, begun) = is_walk files world kind rows (at_router b) walk are tt ends.follows in
    let (front, last, same, (is, holds)) = sought_last files world kind rows (at_router b) walk are ends in (
      walks,
      (
        at_target files world target walk is (front, last, same, holds),
        inr (begun, none_arrives files world a b a target rows are unmarked),
      ),
    )
