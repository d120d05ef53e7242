-- The rows of a question are the forwarding table of its world.
use Rattle.std.proofs.Common.{◌≡◌, ℕ, zero, suc, true, false, ◌&&◌, ◌||◌, not, List, [], ◌∷◌, length, map, inl, inr}
use Rattle.std.proofs.Common.{Option, Some, None, refl, sym, ap, subst, arith, ◌∙◌, eq-eqb}
use Rattle.std.specs.Prelude.{Contains}
use Rattle.std.specs.List.{list_any}
use Rattle.std.specs.Option.{is_some}
use Rattle.std.proofs.lemmas.Bool.{eqb-true, or_cases, or_left, or_right}
use Rattle.std.proofs.lemmas.List.{length-map}
use Rattle.std.proofs.lemmas.Option.{slice_get_within}
use Rattle.mw_text.proofs.Lists.{item_there}
use Rattle.ios_ast.specs.declared.file.File.{File}
use Rattle.route_record.specs.declared.World.{World}
use Rattle.net_interfaces.specs.declared.interfaces.IfaceId.{IfaceId}
use Rattle.question_lang.specs.declared.question.Kind.{Kind}
use Rattle.question_lang.specs.declared.question.Kind.TheVariants.{Alike}
use Rattle.question_lang.specs.declared.question.Start.{Start}
use Rattle.question_lang.specs.declared.question.Target.{Target}
use Rattle.question_lang.specs.declared.walk.End.{End}
use Rattle.question_lang.specs.declared.walk.Hop.{Hop}
use Rattle.question_lang.specs.declared.walk.Hop.TheVariants.{To, Ends}
use Rattle.question_lang.specs.Hops.{next_hops}
use Rattle.walk_def.proofs.Inside.{next_hops_inside}
use Rattle.walk_def.proofs.Members.{test-of_item}
use Rattle.walk_def.specs.Marks.{is_inside}
use Rattle.sym_forwarding.specs.Beginnings.{begins_at}
use Rattle.sym_forwarding.specs.Layers.{Forwarding, arrives, is_broken}
use Rattle.sym_forwarding.specs.Forwardings.{AreForwarding, IsBeginning, IsBeginningOf, IsForwarding, IsSought}
use Rattle.sym_forwarding.specs.Forwardings.{sends_to, start_asked}
use Rattle.sym_forwarding.proofs.BreakingWalks.{broken_all}
use Rattle.sym_forwarding.proofs.Starts.{begins}
use Rattle.walk_finder.specs.declared.rows.Row.{Row}
use Rattle.walk_finder.specs.Rows.{AreRowsOf, edge_of, forwarding_of, table_of}
use Rattle.walk_finder.specs.Sought.{AreRows, IsBroken, IsRow}
use Rattle.walk_finder.proofs.Marked.{row_there}

-- ---- one row

-- a hop that leads to the router
sent_by : (to : ℕ) (hop : Hop) (rest : List Hop) → sends_to to (edge_of hop) ≡ true →
    (at : ℕ) × Contains (hop ∷ rest) (To (record { router = to; at = at }))
sent_by to (To i) rest here =
    let same : i.router ≡ to = eqb-true i.router to here in
    (i.at, (zero, omega arith, ap (λ r. To (record { router = r; at = i.at })) same))
sent_by to (Ends end) rest here = cc

sent_to : (to : ℕ) (own : List Hop) → list_any (sends_to to) (map edge_of own) ≡ true →
    (at : ℕ) × Contains own (To (record { router = to; at = at }))
sent_to to [] h = cc
sent_to to (hop ∷ rest) h =
    elim (or_cases (sends_to to (edge_of hop)) (list_any (sends_to to) (map edge_of rest)) h) [
      | inl here ↦ sent_by to hop rest here
      | inr later ↦ let (at, (k, within, is)) = sent_to to rest later in (at, (suc k, omega (arith, within), is))
    ]

all_sent_to : (own : List Hop) (i : IfaceId) → Contains own (To i) →
    list_any (sends_to i.router) (map edge_of own) ≡ true
all_sent_to [] i (k, within, is) = absurd (omega (arith, within))
all_sent_to (hop ∷ rest) i (zero, within, is) =
    or_left (sends_to i.router (edge_of hop)) (list_any (sends_to i.router) (map edge_of rest))
    (ap (λ h. sends_to i.router (edge_of h)) is ∙ eq-eqb i.router i.router refl)
all_sent_to (hop ∷ rest) i (suc k, within, is) =
    or_right (sends_to i.router (edge_of hop)) (list_any (sends_to i.router) (map edge_of rest))
    (all_sent_to rest i (k, omega (arith, within), is))

-- a row with an end has one
some_end : (o : Option End) → is_some o ≡ true → (end : End) × (o ≡ Some end)
some_end None h = cc
some_end (Some end) h = (end, refl)

has_end : (o : Option End) → (o ≡ None → ⊥) → is_some o ≡ true
has_end None some = absurd (some refl)
has_end (Some end) some = refl

row_forwards : (files : List File) (world : World) (kind : Kind) (router : ℕ) (row : Row) →
    IsRow files world kind router row →
    IsForwarding (next_hops files world router) (IsSought files world kind router) (forwarding_of row)
row_forwards files world kind router row is =
    let P : List Hop → Type 0 = λ own. IsForwarding own (IsSought files world kind router) (forwarding_of row) in
    subst P is.sent (record {
      sent = λ to h. sent_to to row.hops h;
      all_sent = λ i has. all_sent_to row.hops i has;
      ends = λ h.
          let (end, same) = some_end row.end h in
          let (has, sought) = is.ends end same in (end, has, sought);
      all_ends = λ end has sought. has_end row.end (λ none. is.none none end has sought);
    })

-- ---- all rows

pub rows_forward : (files : List File) (world : World) (kind : Kind) (rows : List Row) →
    AreRows files world kind rows → AreForwarding files world kind (table_of rows)
rows_forward files world kind rows are =
    let long : length (table_of rows) ≡ length rows = length-map rows forwarding_of in
    record {
      long = long ∙ are.long;
      each = λ router f found.
          let below = slice_get_within (table_of rows) router f found in
          let (row, there) = item_there rows router (omega (arith, below, long)) in
          let P : Forwarding → Type 0 =
          λ g. IsForwarding (next_hops files world router) (IsSought files world kind router) g in
          subst P (sym (row_there rows router row f there found))
          (row_forwards files world kind router row (are.each router row there));
    }

-- their hops are the next hops
pub rows_over : (files : List File) (world : World) (kind : Kind) (rows : List Row) → AreRows files world kind rows →
    AreRowsOf (next_hops files world) rows
rows_over files world kind rows are router row found =
    let is = are.each router row found in
    record {
      sent = is.sent;
      ends = λ end same.
          let P : List Hop → Type 0 = λ own. Contains own (Ends end) in
          let has = subst P is.sent (is.ends end same).0 in (
            test-of_item (is_inside (length files)) (next_hops files world router) (Ends end)
                (next_hops_inside files world router) has,
            has,
          );
    }

-- ---- what breaks the question

beginning : (files : List File) (world : World) (kind : Kind) (start : Start) → start_asked kind ≡ Some start →
    IsBeginningOf files world kind (begins_at files world.failures world.packet start)
beginning files world kind start asked other same =
    let one : start ≡ other = cc in
    let P : Start → Type 0 = λ s. IsBeginning files world s (begins_at files world.failures world.packet start) in
    subst P one (begins files world start)

-- where something breaks a question with a start, the layers say so
pub table_broken : (files : List File) (world : World) (kind : Kind) (start : Start) (rows : List Row) →
    AreRows files world kind rows → start_asked kind ≡ Some start → IsBroken files world kind →
    is_broken kind (begins_at files world.failures world.packet start) (table_of rows) ≡ true
table_broken files world kind start rows are asked (walk, breaks) =
    broken_all files world kind (begins_at files world.failures world.packet start) (table_of rows)
    (rows_forward files world kind rows are) (beginning files world kind start asked) walk breaks

-- and of two routers, that the one arrives while the other does not
pub broken_two : (files : List File) (world : World) (a b : ℕ) (target : Target) (rows : List Row) →
    AreRows files world (Alike a b target) rows → IsBroken files world (Alike a b target) →
    ((arrives (table_of rows) a && not (arrives (table_of rows) b))
    || (arrives (table_of rows) b && not (arrives (table_of rows) a))) ≡ true
broken_two files world a b target rows are (walk, breaks) =
    broken_all files world (Alike a b target) (record { begins = true; denied = false }) (table_of rows)
    (rows_forward files world (Alike a b target) rows are) (λ start none. cc) walk breaks
