-- Following hops along the layers gives walks.
use Rattle.std.proofs.Common.{◌≡◌, ℕ, ◌+◌, ◌-◌, ◌*◌, ◌<◌, ◌≤◌, Bool, true, false, List, [], ◌∷◌, ◌++◌, length, get_or}
use Rattle.std.proofs.Common.{Some, refl, sym, ap, subst, arith, ◌∙◌, cond}
use Rattle.std.specs.Prelude.{Any, replicate, slice_get}
use Rattle.std.specs.List.{list_any}
use Rattle.std.specs.Option.{is_some}
use Rattle.std.proofs.lemmas.List.Folds.{sum_by-replicate}
use Rattle.std.proofs.lemmas.Option.{slice_get_read}
use Rattle.question_lang.specs.declared.question.Start.{Start}
use Rattle.question_lang.specs.declared.walk.End.{End}
use Rattle.question_lang.specs.declared.walk.End.TheVariants.{Loop, Open}
use Rattle.question_lang.specs.declared.walk.Hop.{Hop}
use Rattle.question_lang.specs.declared.walk.Walk.{Walk}
use Rattle.question_lang.specs.Walks.{GoesOn, LeadsTo, MayEnd}
use Rattle.walk_def.proofs.Following.{Begun, Followed, begun-step, followed-step}
use Rattle.walk_def.proofs.Known.{unknown_count}
use Rattle.walk_def.specs.Arriving.{leads_to_known}
use Rattle.walk_def.specs.Marks.{known}
use Rattle.walk_def.proofs.Ends.{may_end}
use Rattle.sym_forwarding.specs.Layers.{Forwarding, arriving, going}
use Rattle.walk_finder.specs.declared.rows.Row.{Row}
use Rattle.walk_finder.specs.Following.{Arrives, Follows}
use Rattle.walk_finder.specs.Layers.{AreLayers, layer}
use Rattle.walk_finder.specs.Rows.{AreRowsOf, table_of}
use Rattle.walk_finder.proofs.Marked.{arrives_further, goes_further}

-- ---- the layer that was read

pub read_layer : (to_ends : Bool) (table : List Forwarding) (count : ℕ) (layers : List (List Bool)) (k : ℕ)
    (read : List Bool) → AreLayers to_ends table count layers → k < count + 1 → read ≡ get_or layers k read →
    read ≡ layer to_ends table k
read_layer to_ends table count layers k read are within is =
    are.each k read (slice_get_read layers (length layers) k read refl (omega (arith, are.long, within)) is)

-- a router that goes on so many hops leads to one of the layer that was read
pub hops_lead : (rows : List Row) (count k : ℕ) (layers : List (List Bool)) (router : ℕ) (read marks : List Bool) →
    AreLayers false (table_of rows) count layers → known (going (table_of rows) k) router ≡ true → 0 < k → k ≤ count →
    read ≡ get_or layers (k - 1) read → marks ≡ read →
    (row : Row) → slice_get rows router ≡ Some row → list_any (leads_to_known marks) row.hops ≡ true
hops_lead rows count k layers router read marks are marked some most is same row found =
    let layer_is : read ≡ going (table_of rows) (k - 1) =
    read_layer false (table_of rows) count layers (k - 1) read are (omega arith) is in
    ap (λ ms. list_any (leads_to_known ms) row.hops) (same ∙ layer_is)
    ∙ goes_further rows k (k - 1) router row marked found (omega arith)

pub hops_marked : (rows : List Row) (count k : ℕ) (layers : List (List Bool)) (router : ℕ) (read marks : List Bool) →
    AreLayers false (table_of rows) count layers → k < count + 1 → read ≡ get_or layers k read → marks ≡ read →
    known marks router ≡ true → known (going (table_of rows) k) router ≡ true
hops_marked rows count k layers router read marks are within is same marked =
    let layer_is : read ≡ going (table_of rows) k =
    read_layer false (table_of rows) count layers k read are within is in
    ap (λ ms. known ms router) (sym (same ∙ layer_is)) ∙ marked

-- so does one that arrives, and has no end
pub ends_left : (rows : List Row) (k router : ℕ) (row : Row) → known (arriving (table_of rows) k) router ≡ true →
    slice_get rows router ≡ Some row → is_some row.end ≡ false → 0 < k
ends_left rows k router row marked found endless =
    let (before, more, _) = arrives_further rows k router row marked found endless in omega (arith, more)

pub ends_lead : (rows : List Row) (count k : ℕ) (layers : List (List Bool)) (router : ℕ) (read marks : List Bool) →
    AreLayers true (table_of rows) count layers → known (arriving (table_of rows) k) router ≡ true → k ≤ count →
    read ≡ get_or layers (k - 1) read → marks ≡ read →
    ((row : Row) → slice_get rows router ≡ Some row → is_some row.end ≡ false) →
    (row : Row) → slice_get rows router ≡ Some row → list_any (leads_to_known marks) row.hops ≡ true
ends_lead rows count k layers router read marks are marked most is same endless row found =
    let (before, more, leads) = arrives_further rows k router row marked found (endless row found) in
    let here : k - 1 ≡ before = omega (arith, more) in
    let layer_is : read ≡ arriving (table_of rows) (k - 1) =
    read_layer true (table_of rows) count layers (k - 1) read are (omega (arith, more)) is in
    ap (λ ms. list_any (leads_to_known ms) row.hops) (same ∙ layer_is ∙ ap (arriving (table_of rows)) here) ∙ leads

pub ends_marked : (rows : List Row) (count k : ℕ) (layers : List (List Bool)) (router : ℕ) (read marks : List Bool) →
    AreLayers true (table_of rows) count layers → k < count + 1 → read ≡ get_or layers k read → marks ≡ read →
    known marks router ≡ true → known (arriving (table_of rows) k) router ≡ true
ends_marked rows count k layers router read marks are within is same marked =
    let layer_is : read ≡ arriving (table_of rows) k =
    read_layer true (table_of rows) count layers k read are within is in
    ap (λ ms. known ms router) (sym (same ∙ layer_is)) ∙ marked

-- no more marks are unset than there are
pub unset_most : (marks : List Bool) (n : ℕ) → marks ≡ replicate n false → unknown_count marks ≤ n
unset_most marks n none =
    let same : unknown_count marks ≡ unknown_count (replicate n false) = ap unknown_count none in
    let count : unknown_count (replicate n false) ≡ n * 1 = sum_by-replicate (λ b. cond b 0 1) n false in
    omega (arith, same, count)

-- ---- the standings so far

pub followed_on : (rows : List Row) (stood more : List Start) (now then : Start) → more ≡ stood ++ now ∷ [] →
    ((hops : ℕ → List Hop) → AreRowsOf hops rows → Followed hops stood now) →
    ((hops : ℕ → List Hop) → AreRowsOf hops rows → LeadsTo hops now then) →
    (hops : ℕ → List Hop) → AreRowsOf hops rows → Followed hops more then
followed_on rows stood more now then same so_far leads hops are =
    let P : List Start → Type 0 = λ hs. Followed hops hs then in
    subst P (sym same) (followed-step hops stood now then (so_far hops are) (leads hops are))

pub begun_on : (start : Start) (stood more : List Start) (now then : Start) → more ≡ stood ++ now ∷ [] →
    Begun start stood now → Begun start more then
begun_on start stood more now then same begun =
    let P : List Start → Type 0 = λ hs. Begun start hs then in
    subst P (sym same) (begun-step start stood now then begun)

-- ---- the walk

pub followed : (rows : List Row) (start : Start) (stood : List Start) (now : Start) (walk : Walk) →
    walk.hops ≡ stood ++ now ∷ [] → ((hops : ℕ → List Hop) → AreRowsOf hops rows → Followed hops stood now) →
    Begun start stood now → ((hops : ℕ → List Hop) → AreRowsOf hops rows → MayEnd hops stood now walk.end) →
    Follows rows start walk
followed rows start stood now walk same so_far begun may = record {
  goes = λ hops are.
      let P : List Start → Type 0 = λ hs. GoesOn hops [] hs walk.end in
      subst P (sym same) (so_far hops are [] walk.end (may hops are));
  begins = let all = begun [] in (all.0, same ∙ all.1);
}

pub open_end : (hops : ℕ → List Hop) (stood : List Start) (now : Start) (end : End) → end ≡ Open →
    MayEnd hops stood now end
open_end hops stood now end is = let P : End → Type 0 = λ e. MayEnd hops stood now e in subst P (sym is) tt

pub loop_end : (hops : ℕ → List Hop) (stood : List Start) (now : Start) (end : End) → end ≡ Loop →
    Any (λ s. s.router ≡ now.router) stood → MayEnd hops stood now end
loop_end hops stood now end is back = let P : End → Type 0 = λ e. MayEnd hops stood now e in subst P (sym is) back

pub arrived : (rows : List Row) (start : Start) (stood : List Start) (now : Start) (walk : Walk) (row : Row) →
    walk.hops ≡ stood ++ now ∷ [] → ((hops : ℕ → List Hop) → AreRowsOf hops rows → Followed hops stood now) →
    Begun start stood now → slice_get rows now.router ≡ Some row → row.end ≡ Some walk.end → Arrives rows start walk
arrived rows start stood now walk row same so_far begun found is = record {
  follows = followed rows start stood now walk same so_far begun
      (λ hops are.
      let (proper, has) = (are now.router row found).ends walk.end is in
      may_end hops stood now walk.end proper has);
  last = (stood, now, same, (row, found, is));
}
