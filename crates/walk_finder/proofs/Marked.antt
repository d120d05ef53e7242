-- The layers of the forwarding table of rows, in terms of the rows.
use Rattle.std.proofs.Common.{◌≡◌, ℕ, zero, suc, ◌+◌, ◌<◌, Bool, true, false, ◌||◌, List, [], ◌∷◌, ◌++◌, length, map}
use Rattle.std.proofs.Common.{inl, inr, Some, refl, sym, ap, subst, arith, ◌∙◌, length-append}
use Rattle.std.specs.Prelude.{slice_get}
use Rattle.std.specs.List.{list_any}
use Rattle.std.specs.Option.{is_some}
use Rattle.std.proofs.lemmas.Bool.{or_cases}
use Rattle.std.proofs.lemmas.List.{length-map}
use Rattle.std.proofs.lemmas.Option.{slice_get_within}
use Rattle.mw_text.proofs.Lists.{each_place-push, item_there}
use Rattle.question_lang.specs.declared.walk.Hop.{Hop}
use Rattle.question_lang.specs.declared.walk.Hop.TheVariants.{To, Ends}
use Rattle.walk_def.specs.Arriving.{leads_to_known}
use Rattle.walk_def.specs.Marks.{known}
use Rattle.sym_forwarding.specs.Layers.{Forwarding, arrives, arriving, ends_or_sends, going, leads, loops, sends_on}
use Rattle.sym_forwarding.proofs.Marks.{known_mapped}
use Rattle.walk_finder.specs.declared.rows.Row.{Row}
use Rattle.walk_finder.specs.Layers.{first_mark, layer, next_mark}
use Rattle.walk_finder.specs.Rows.{edge_of, forwarding_of, table_of}

-- ---- the layers over rows

edge_leads : (marks : List Bool) (hop : Hop) → leads marks (edge_of hop) ≡ leads_to_known marks hop
edge_leads marks (To i) = refl
edge_leads marks (Ends end) = refl

-- an edge leads to a marked router where a hop does
edges_lead : (marks : List Bool) (own : List Hop) →
    list_any (leads marks) (map edge_of own) ≡ list_any (leads_to_known marks) own
edges_lead marks [] = refl
edges_lead marks (hop ∷ rest) =
    ap (λ b. b || list_any (leads marks) (map edge_of rest)) (edge_leads marks hop)
    ∙ ap (λ b. leads_to_known marks hop || b) (edges_lead marks rest)

mapped_rows : (f : Row → Bool) (g : Forwarding → Bool) (rows : List Row) →
    ((row : Row) → f row ≡ g (forwarding_of row)) → map f rows ≡ map g (table_of rows)
mapped_rows f g [] same = refl
mapped_rows f g (row ∷ rest) same =
    ap (λ b. b ∷ map f rest) (same row) ∙ ap (λ bs. g (forwarding_of row) ∷ bs) (mapped_rows f g rest same)

pub first_layer : (to_ends : Bool) (rows : List Row) → map (first_mark to_ends) rows ≡ layer to_ends (table_of rows) 0
unfolding arriving going
first_layer true rows = mapped_rows (first_mark true) (λ f. f.ends) rows (λ row. refl)
first_layer false rows = mapped_rows (first_mark false) (λ f. true) rows (λ row. refl)

pub next_layer : (to_ends : Bool) (rows : List Row) (k : ℕ) →
    map (next_mark to_ends (layer to_ends (table_of rows) k)) rows ≡ layer to_ends (table_of rows) (suc k)
unfolding arriving going
next_layer true rows k =
    let marks = arriving (table_of rows) k in
    mapped_rows (next_mark true marks) (ends_or_sends marks) rows
    (λ row. ap (λ b. is_some row.end || b) (sym (edges_lead marks row.hops)))
next_layer false rows k =
    let marks = going (table_of rows) k in
    mapped_rows (next_mark false marks) (sends_on marks) rows (λ row. sym (edges_lead marks row.hops))

-- ---- what marks say

-- the forwarding of a row that is there
pub row_there : (rows : List Row) (router : ℕ) (row : Row) (f : Forwarding) → slice_get rows router ≡ Some row →
    slice_get (table_of rows) router ≡ Some f → f ≡ forwarding_of row
row_there [] router row f found there = cc
row_there (r ∷ rest) zero row f found there = let same : r ≡ row = cc in let is : forwarding_of r ≡ f = cc in
    sym is ∙ ap forwarding_of same
row_there (r ∷ rest) (suc router) row f found there = row_there rest router row f found there

in_table : (test : Forwarding → Bool) (rows : List Row) (router : ℕ) → known (map test (table_of rows)) router ≡ true →
    router < length rows
in_table test rows router marked =
    let (f, found, _) = known_mapped test (table_of rows) router marked in
    let below = slice_get_within (table_of rows) router f found in
    let long : length (table_of rows) ≡ length rows = length-map rows forwarding_of in omega (arith, below, long)

-- a marked router has a row
pub arriving_within : (rows : List Row) (k router : ℕ) → known (arriving (table_of rows) k) router ≡ true →
    router < length rows
unfolding arriving
arriving_within rows zero router marked = in_table (λ f. f.ends) rows router marked
arriving_within rows (suc k) router marked = in_table (ends_or_sends (arriving (table_of rows) k)) rows router marked

pub going_within : (rows : List Row) (k router : ℕ) → known (going (table_of rows) k) router ≡ true →
    router < length rows
unfolding going
going_within rows zero router marked = in_table (λ f. true) rows router marked
going_within rows (suc k) router marked = in_table (sends_on (going (table_of rows) k)) rows router marked

-- one that has no end leads to a router of the layer before
pub arrives_further : (rows : List Row) (k router : ℕ) (row : Row) → known (arriving (table_of rows) k) router ≡ true →
    slice_get rows router ≡ Some row → is_some row.end ≡ false →
    (before : ℕ) × (k ≡ before + 1) × (list_any (leads_to_known (arriving (table_of rows) before)) row.hops ≡ true)
unfolding arriving
arrives_further rows zero router row marked found endless =
    let (f, there, ends) = known_mapped (λ f. f.ends) (table_of rows) router marked in
    let same : is_some row.end ≡ true = ap (λ g. g.ends) (sym (row_there rows router row f found there)) ∙ ends in cc
arrives_further rows (suc k) router row marked found endless =
    let marks = arriving (table_of rows) k in
    let (f, there, on) = known_mapped (ends_or_sends marks) (table_of rows) router marked in
    let here : ends_or_sends marks (forwarding_of row) ≡ true =
    ap (ends_or_sends marks) (sym (row_there rows router row f found there)) ∙ on in
    elim (or_cases (is_some row.end) (list_any (leads marks) (map edge_of row.hops)) here) [
      | inl ends ↦ let both : true ≡ false = sym ends ∙ endless in cc
      | inr sends ↦ (k, omega arith, sym (edges_lead marks row.hops) ∙ sends)
    ]

-- one that goes on so many hops leads to a router that goes on one less
pub goes_further : (rows : List Row) (k before router : ℕ) (row : Row) →
    known (going (table_of rows) k) router ≡ true → slice_get rows router ≡ Some row → k ≡ before + 1 →
    list_any (leads_to_known (going (table_of rows) before)) row.hops ≡ true
unfolding going
goes_further rows zero before router row marked found more = absurd (omega arith)
goes_further rows (suc k) before router row marked found more =
    let same : before ≡ k = omega arith in
    let marks = going (table_of rows) k in
    let (f, there, on) = known_mapped (sends_on marks) (table_of rows) router marked in
    let here : sends_on marks (forwarding_of row) ≡ true =
    ap (sends_on marks) (sym (row_there rows router row f found there)) ∙ on in
    ap (λ n. list_any (leads_to_known (going (table_of rows) n)) row.hops) same
    ∙ (sym (edges_lead marks row.hops) ∙ here)

-- the last layer, by the number of rows
pub arriving_all : (rows : List Row) (router : ℕ) → arrives (table_of rows) router ≡ true →
    known (arriving (table_of rows) (length rows)) router ≡ true
arriving_all rows router marked =
    let long : length (table_of rows) ≡ length rows = length-map rows forwarding_of in
    ap (λ n. known (arriving (table_of rows) n) router) (sym long) ∙ marked

pub going_all : (rows : List Row) (router : ℕ) → loops (table_of rows) router ≡ true →
    known (going (table_of rows) (length rows)) router ≡ true
going_all rows router marked =
    let long : length (table_of rows) ≡ length rows = length-map rows forwarding_of in
    ap (λ n. known (going (table_of rows) n) router) (sym long) ∙ marked

-- ---- layers that are pushed

-- the layers so far
abbrev pub AreSoFar : Bool → ℕ → List Row → List (List Bool) → Type 0
AreSoFar to_ends at rows layers =
    (length layers ≡ at + 1)
    × ((k : ℕ) (marks : List Bool) → slice_get layers k ≡ Some marks → marks ≡ layer to_ends (table_of rows) k)

pub layers_begin : (to_ends : Bool) (rows : List Row) (first : List Bool) (all : List (List Bool)) →
    first ≡ map (first_mark to_ends) rows → all ≡ first ∷ [] → AreSoFar to_ends 0 rows all
layers_begin to_ends rows first all made one =
    let long : length all ≡ length (first ∷ []) = ap length one in (
      omega (arith, long),
      λ k marks found. each_place-push (λ n ms. ms ≡ layer to_ends (table_of rows) n) [] first
          (λ n ms none. absurd cc) (made ∙ first_layer to_ends rows) k marks
          (ap (λ xs. slice_get xs k) (sym one) ∙ found),
    )

pub layers_more : (to_ends : Bool) (rows : List Row) (at : ℕ) (before read more : List (List Bool))
    (next : List Bool) → AreSoFar to_ends at rows before → read ≡ before →
    ((marks : List Bool) → slice_get read at ≡ Some marks → next ≡ map (next_mark to_ends marks) rows) →
    more ≡ before ++ next ∷ [] → AreSoFar to_ends (at + 1) rows more
layers_more to_ends rows at before read more next (long, each) same made pushed =
    let (marks, found) = item_there before at (omega (arith, long)) in
    let last : marks ≡ layer to_ends (table_of rows) at = each at marks found in
    let P : ℕ → List Bool → Type 0 = λ n ms. ms ≡ layer to_ends (table_of rows) n in
    let place : suc at ≡ length before = omega (arith, long) in
    let here : next ≡ layer to_ends (table_of rows) (suc at) =
    made marks (ap (λ xs. slice_get xs at) same ∙ found) ∙ ap (λ ms. map (next_mark to_ends ms) rows) last
    ∙ next_layer to_ends rows at in
    let longer : length more ≡ length before + 1 = ap length pushed ∙ length-append before (next ∷ []) in (
      omega (arith, longer, long),
      λ k ms there. each_place-push P before next each (subst (λ n. P n next) place here) k ms
          (ap (λ xs. slice_get xs k) (sym pushed) ∙ there),
    )
