-- Marks one hop on.
use Rattle.std.proofs.Common.{◌≡◌, ◌<◌, ◌≤◌, ◌+◌, ◌++◌, ◌||◌, ◌&&◌, ◌⊎◌, ◌∙◌, ℕ, zero, suc, Bool, true, List, [], ◌∷◌, Some, ap, arith}
use Rattle.std.proofs.Common.{inl, inr, length, refl, subst, sym, get_or}
use Rattle.std.specs.Prelude.{◌↔◌, slice_get}
use Rattle.std.specs.List.{list_any}
use Rattle.std.specs.Cmp.Derive.{both_true}
use Rattle.std.proofs.lemmas.Bool.{and_parts, or_cases, or_left, or_right}
use Rattle.std.proofs.lemmas.Grind.{common_steps}
use Rattle.std.proofs.lemmas.List.{length-map, map-append}
use Rattle.std.proofs.lemmas.Option.{same_Some, slice_get_within}
use Rattle.term_store.specs.declared.NodeId.{NodeId}
use Rattle.term_store.specs.Terms.{Reading, at}
use Rattle.term_arith.specs.Bits.{bits, ids_end}
use Rattle.term_arith.proofs.NumberLemmas.{ids_end_at, ids_end_push}
use Rattle.sym_forwarding.specs.declared.forwarding.SymForwarding.{SymForwarding}
use Rattle.sym_forwarding.specs.Forwardings.{sends_to}
use Rattle.sym_forwarding.specs.Layers.{Forwarding}
use Rattle.walk_def.specs.Marks.{known}
use Rattle.sym_forwarding.specs.Symbolic.{forwarding_of, table_of}
use Rattle.fate_terms.specs.Reaching.{AreReached, AreSpread, Comes, ComesFrom, ComesOn, EndsIn, GoesOver, IsStart}
use Rattle.sym_forwarding.proofs.Tables.{known_at, table_end_at}

-- ---- at one place

there : (w : Reading) (table : List SymForwarding) (k : ℕ) (e : SymForwarding) → k < length table →
    slice_get (table_of w table) k ≡ Some (forwarding_of w (get_or table k e))
there w [] k e less = absurd (omega (arith, less))
there w (f ∷ fs) zero e less = refl
there w (f ∷ fs) (suc k) e less = there w fs k e (omega (arith, less))

pub over_tells : (w : Reading) (marks : List NodeId) (table : List SymForwarding) (router via : ℕ) (d : NodeId)
    (e : SymForwarding) → length marks ≡ length table → via < length table →
    ((at w (get_or marks via d) && list_any (sends_to router) (forwarding_of w (get_or table via e)).next) ≡ true
    ↔ GoesOver (bits w marks) (table_of w table) router via)
over_tells w marks table router via d e long below = (
  λ is.
      let (mark, sends) = and_parts _ _ is in (
        sym (known_at w marks via d (omega (arith, long, below))) ∙ mark,
        (forwarding_of w (get_or table via e), there w table via e below, sends),
      ),
  λ (mark, (f, found, sends)).
      let same : f ≡ forwarding_of w (get_or table via e) = same_Some f _ (sym found ∙ there w table via e below) in
      both_true (known_at w marks via d (omega (arith, long, below)) ∙ mark)
      (subst (λ (g : Forwarding). list_any (sends_to router) g.next ≡ true) same sends),
)

pub ruleset over_steps = (common_steps, ids_end_at, table_end_at, over_tells)

pub ended_tells : (w : Reading) (marks : List NodeId) (table : List SymForwarding) (router : ℕ) (d : NodeId)
    (e : SymForwarding) → length marks ≡ length table → router < length table →
    ((at w (get_or marks router d) && (forwarding_of w (get_or table router e)).ends) ≡ true
    ↔ EndsIn (bits w marks) (table_of w table) router)
ended_tells w marks table router d e long below = (
  λ is.
      let (mark, ends) = and_parts _ _ is in (
        sym (known_at w marks router d (omega (arith, long, below))) ∙ mark,
        (forwarding_of w (get_or table router e), there w table router e below, ends),
      ),
  λ (mark, (f, found, ends)).
      let same : f ≡ forwarding_of w (get_or table router e) =
      same_Some f _ (sym found ∙ there w table router e below) in
      both_true (known_at w marks router d (omega (arith, long, below)) ∙ mark)
      (subst (λ (g : Forwarding). g.ends ≡ true) same ends),
)

pub ruleset ended_steps = (common_steps, ids_end_at, table_end_at, ended_tells)

pub on_tells : (w : Reading) (marks : List NodeId) (table : List SymForwarding) (router : ℕ) (d : NodeId) (b : Bool) →
    length marks ≡ length table → router < length table →
    (b ≡ true ↔ ComesFrom (bits w marks) (table_of w table) router (length table)) →
    ((at w (get_or marks router d) || b) ≡ true ↔ ComesOn (bits w marks) (table_of w table) router)
on_tells w marks table router d b long below from =
    let mark = known_at w marks router d (omega (arith, long, below)) in
    let many : length (table_of w table) ≡ length table = length-map table (forwarding_of w) in
    let Over : ℕ → Type 0 = λ n. ComesFrom (bits w marks) (table_of w table) router n in (
      λ is. by mark many (or_cases (at w (get_or marks router d)) b is),
      λ on. back mark many on,
    )
  where
    by : at w (get_or marks router d) ≡ known (bits w marks) router → length (table_of w table) ≡ length table →
        (at w (get_or marks router d) ≡ true) ⊎ (b ≡ true) → ComesOn (bits w marks) (table_of w table) router
    by mark many (inl here) = inl (sym mark ∙ here)
    by mark many (inr comes) = inr (subst (ComesFrom (bits w marks) (table_of w table) router) (sym many) (from.0 comes))

    back : at w (get_or marks router d) ≡ known (bits w marks) router → length (table_of w table) ≡ length table →
        ComesOn (bits w marks) (table_of w table) router → (at w (get_or marks router d) || b) ≡ true
    back mark many (inl here) = or_left (at w (get_or marks router d)) b (mark ∙ here)
    back mark many (inr comes) =
        or_right (at w (get_or marks router d)) b
        (from.1 (subst (ComesFrom (bits w marks) (table_of w table) router) many comes))

pub ruleset on_steps = (common_steps, ids_end_at, on_tells)

-- ---- a mark more

known_push : (marks : List Bool) (b : Bool) (P : ℕ → Type 0) →
    ((k : ℕ) → k < length marks → known marks k ≡ true ↔ P k) → (b ≡ true ↔ P (length marks)) → (k : ℕ) →
    k < length (marks ++ b ∷ []) → known (marks ++ b ∷ []) k ≡ true ↔ P k
known_push [] b P each here zero less = here
known_push [] b P each here (suc k) less = absurd (omega (arith, less))
known_push (m ∷ ms) b P each here zero less = each 0 (omega arith)
known_push (m ∷ ms) b P each here (suc k) less =
    known_push ms b (λ j. P (suc j)) (λ j l. each (suc j) (omega (arith, l))) here k (omega (arith, less))

pub marks_push : (w : Reading) (ids all : List NodeId) (id : NodeId) (P : ℕ → Type 0) → all ≡ ids ++ id ∷ [] →
    ((k : ℕ) → k < length (bits w ids) → known (bits w ids) k ≡ true ↔ P k) → (at w id ≡ true ↔ P (length ids)) →
    (k : ℕ) → k < length (bits w all) → known (bits w all) k ≡ true ↔ P k
marks_push w ids all id P is each here k less =
    let same : bits w all ≡ bits w ids ++ at w id ∷ [] = ap (bits w) is ∙ map-append (at w) ids (id ∷ []) in
    let last = subst (λ n. at w id ≡ true ↔ P n) (sym (length-map ids (at w))) here in
    subst (λ marks. known marks k ≡ true ↔ P k) (sym same)
    (known_push (bits w ids) (at w id) P each last k (subst (λ marks. k < length marks) same less))

-- ---- a hop more

pub start_reached : (table : List Forwarding) (start : ℕ) (marks : List Bool) → length marks ≡ length table →
    IsStart start marks → AreReached table start 0 marks
unfolding Comes
start_reached table start marks long is = record {
  long = long;
  each = λ router below. is router (omega (arith, long, below));
}

pub spread_reached : (table : List Forwarding) (start hops next : ℕ) (marks later : List Bool) → next ≡ hops + 1 →
    length later ≡ length table → AreReached table start hops marks → AreSpread marks table later →
    AreReached table start next later
unfolding Comes
spread_reached table start hops next marks later more long reached spread =
    subst (λ n. AreReached table start n later) (sym (more ∙ (let one : hops + 1 ≡ suc hops = omega arith in one)))
    (record { long = long; each = each })
  where
    on : (router : ℕ) → router < length table → ComesOn marks table router → Comes table start (suc hops) router
    on router below (inl mark) = inl ((reached.each router below).0 mark)
    on router below (inr (via, first, (mark, sends))) = inr (via, (reached.each via first).0 mark, sends)

    back : (router : ℕ) → router < length table → Comes table start (suc hops) router → ComesOn marks table router
    back router below (inl comes) = inl ((reached.each router below).1 comes)
    back router below (inr (via, comes, (f, found, sends))) =
        let first = slice_get_within table via f found in
        inr (via, first, ((reached.each via first).1 comes, (f, found, sends)))

    each : (router : ℕ) → router < length table → known later router ≡ true ↔ Comes table start (suc hops) router
    each router below =
        let told = spread router (omega (arith, long, below)) in
        (λ mark. on router below (told.0 mark), λ comes. told.1 (back router below comes))

-- ---- a node more

pub ids_end_more : (ids all : List NodeId) (id : NodeId) (most : ℕ) → all ≡ ids ++ id ∷ [] → ids_end ids ≤ most →
    id.0 < most → ids_end all ≤ most
ids_end_more ids all id most is within here =
    let one = ids_end_push ids id in
    subst (λ (xs : List NodeId). ids_end xs ≤ most) (sym is) (omega (arith, one, within, here))
