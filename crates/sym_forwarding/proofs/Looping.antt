-- Which walks have how many hops, and which come back to a router.
use Rattle.std.proofs.Common.{◌≡◌, ℕ, zero, suc, ◌+◌, ◌<◌, Bool, true, false, ◌||◌, List, [], ◌∷◌, ◌++◌, length, map}
use Rattle.std.proofs.Common.{◌⊎◌, inl, inr}
use Rattle.std.proofs.Common.{Some, refl, sym, ap, subst, arith, ◌∙◌, eqb, length-append}
use Rattle.std.specs.Prelude.{Any, Contains, nat_lt}
use Rattle.std.specs.List.{IsDistinct, list_any}
use Rattle.std.proofs.lemmas.Cmp.{nat_eq_equiv}
use Rattle.std.proofs.lemmas.Bool.{eqb-true, ltb-true, or_cases}
use Rattle.std.proofs.lemmas.List.{length-map}
use Rattle.std.proofs.lemmas.List.Elements.{Contains-push_cases}
use Rattle.std.proofs.lemmas.List.Folds.{list_any-append}
use Rattle.std.proofs.lemmas.Map.Keys.{IsDistinct-push}
use Rattle.std.proofs.lemmas.Map.Steps.{length-le_from_distinct_below}
use Rattle.std.proofs.lemmas.Option.{slice_get_within}
use Rattle.mw_text.proofs.Lists.{item_there}
use Rattle.net_interfaces.specs.declared.interfaces.IfaceId.{IfaceId}
use Rattle.question_lang.specs.declared.question.Start.{Start}
use Rattle.question_lang.specs.declared.walk.End.{End}
use Rattle.question_lang.specs.declared.walk.End.TheVariants.{Loop, Open}
use Rattle.question_lang.specs.declared.walk.Hop.{Hop}
use Rattle.question_lang.specs.declared.walk.Hop.TheVariants.{To}
use Rattle.question_lang.specs.Walks.{GoesOn}
use Rattle.walk_def.specs.Marks.{known}
use Rattle.sym_forwarding.specs.Layers.{Forwarding, going, loops, sends_on}
use Rattle.sym_forwarding.proofs.Edges.{Stands, leading, led}
use Rattle.sym_forwarding.proofs.Marks.{known_mapped, mapped_known}

-- ---- walks of a number of hops

-- every router of the table has a walk of no hops
goes_nowhere : (table : List Forwarding) (router : ℕ) → router < length table → known (going table zero) router ≡ true
unfolding going
goes_nowhere table router within =
    let there = item_there table router within in mapped_known (λ f. true) table router there.0 there.1 refl

-- one that leads to a router with a walk of some hops has one of one hop more
goes_further : {Sought : ℕ → End → Type 0} (hops : ℕ → List Hop) (table : List Forwarding) → Stands hops Sought table →
    (k router : ℕ) (i : IfaceId) → Contains (hops router) (To i) → known (going table k) i.router ≡ true →
    known (going table (suc k)) router ≡ true
unfolding going
goes_further hops table stands k router i has marked =
    let (f, found, sends) = leading hops table stands (going table k) router i has marked in
    mapped_known (sends_on (going table k)) table router f found sends

goes_by : {Sought : ℕ → End → Type 0} (hops : ℕ → List Hop) (table : List Forwarding) → Stands hops Sought table →
    (k router : ℕ) → known (going table (suc k)) router ≡ true →
    (i : IfaceId) × Contains (hops router) (To i) × (known (going table k) i.router ≡ true)
unfolding going
goes_by hops table stands k router marked =
    let (f, found, sends) = known_mapped (sends_on (going table k)) table router marked in
    led hops table stands (going table k) router f found sends

-- a marked router is one of the table
in_table : (table : List Forwarding) (k router : ℕ) → known (going table k) router ≡ true → router < length table
unfolding going
in_table table zero router marked =
    let (f, found, _) = known_mapped (λ f. true) table router marked in slice_get_within table router f found
in_table table (suc k) router marked =
    let (f, found, _) = known_mapped (sends_on (going table k)) table router marked in
    slice_get_within table router f found

-- a router to which a hop leads is one
led_inside : {Sought : ℕ → End → Type 0} (hops : ℕ → List Hop) (table : List Forwarding) → Stands hops Sought table →
    (router : ℕ) (i : IfaceId) → Contains (hops router) (To i) → i.router < length table
led_inside hops table stands router i has =
    let inside : nat_lt i.router (length table) ≡ true = stands.inside router (To i) has in
    ltb-true i.router (length table) inside

goes_on_marked : {Sought : ℕ → End → Type 0} (hops : ℕ → List Hop) (table : List Forwarding)
    → Stands hops Sought table →
    (before : List Start) (now : Start) (rest : List Start) (end : End) → now.router < length table →
    GoesOn hops before (now ∷ rest) end → known (going table (length rest)) now.router ≡ true
goes_on_marked hops table stands before now [] end within goes = goes_nowhere table now.router within
goes_on_marked hops table stands before now (then ∷ rest) end within ((at, _, has), on) =
    let i : IfaceId = record { router = then.router; at = at } in
    let further =
    goes_on_marked hops table stands (before ++ now ∷ []) then rest end
    (led_inside hops table stands now.router i has) on in
    goes_further hops table stands (length rest) now.router i has further

-- a walk of at least one hop begins at a router of the table
pub goes_so_far : {Sought : ℕ → End → Type 0} (hops : ℕ → List Hop) (table : List Forwarding)
    → Stands hops Sought table →
    (start : Start) (rest : List Start) (end : End) → 0 < length rest → GoesOn hops [] (start ∷ rest) end →
    known (going table (length rest)) start.router ≡ true
goes_so_far hops table stands start [] end some goes = absurd (omega arith)
goes_so_far hops table stands start (then ∷ rest) end some goes =
    goes_on_marked hops table stands [] start (then ∷ rest) end
    (stands.own start.router (To (record { router = then.router; at = goes.0.0 })) goes.0.2) goes

-- from a marked router there is a walk of that many hops
pub walk_of : {Sought : ℕ → End → Type 0} (hops : ℕ → List Hop) (table : List Forwarding) → Stands hops Sought table →
    (k : ℕ) (before : List Start) (now : Start) → known (going table k) now.router ≡ true →
    (rest : List Start) × (length rest ≡ k) × GoesOn hops before (now ∷ rest) Open
walk_of hops table stands zero before now marked = ([], refl, tt)
walk_of hops table stands (suc k) before now marked =
    let (i, has, further) = goes_by hops table stands k now.router marked in
    let then : Start = record { router = i.router; iface = Some i.at } in
    let (rest, long, on) = walk_of hops table stands k (before ++ now ∷ []) then further in
    (then ∷ rest, omega (arith, long), ((i.at, refl, has), on))

-- ---- one of as many hops as there are routers comes back to one

abbrev pub routers : List Start → List ℕ
routers before = map (λ s. s.router) before

routers-push : (before : List Start) (now : Start) → routers (before ++ now ∷ []) ≡ routers before ++ now.router ∷ []
routers-push [] now = refl
routers-push (s ∷ rest) now = ap (λ rs. s.router ∷ rs) (routers-push rest now)

stood_there : (before : List Start) (router : ℕ) → list_any (eqb router) (routers before) ≡ true →
    Any (λ s. s.router ≡ router) before
stood_there [] router h = cc
stood_there (s ∷ rest) router h =
    elim (or_cases (eqb router s.router) (list_any (eqb router) (routers rest)) h) [
      | inl here ↦ (zero, s, omega arith, refl, sym (eqb-true router s.router here))
      | inr later ↦ let (k, x, within, is, same) = stood_there rest router later in
          (suc k, x, omega (arith, within), is, same)
    ]

-- standings at routers of the table, each at its own
pub record Apart (table : List Forwarding) (before : List Start) : Type 0 where
  pub distinct : IsDistinct eqb (routers before)
  pub inside : (q : ℕ) → list_any (eqb q) (routers before) ≡ true → q < length table

apart_more : (table : List Forwarding) (before : List Start) (now : Start) → Apart table before
    → list_any (eqb now.router) (routers before) ≡ false → now.router < length table
    → Apart table (before ++ now ∷ [])
apart_more table before now apart new within =
    let more = routers-push before now in
    let P : List ℕ → Type 0 = λ rs. IsDistinct eqb rs in
    record {
      distinct = subst P (sym more) (IsDistinct-push nat_eq_equiv (routers before) now.router apart.distinct new);
      inside = λ q h.
          let split : (list_any (eqb q) (routers before) || list_any (eqb q) (now.router ∷ [])) ≡ true =
          sym (list_any-append (eqb q) (routers before) (now.router ∷ []))
          ∙ ap (λ rs. list_any (eqb q) rs) (sym more) ∙ h in
          elim (or_cases (list_any (eqb q) (routers before)) (list_any (eqb q) (now.router ∷ [])) split) [
            | inl earlier ↦ apart.inside q earlier
            | inr here ↦ let same : q ≡ now.router = only q now.router here in omega (arith, same, within)
          ];
    }
  where
    only : (q r : ℕ) → list_any (eqb q) (r ∷ []) ≡ true → q ≡ r
    only q r h = elim (or_cases (eqb q r) false h) [ inl here ↦ eqb-true q r here | inr none ↦ cc ]

-- there are no more of them than routers
apart_few : (table : List Forwarding) (before : List Start) → Apart table before → length before < length table + 1
apart_few table before apart =
    let few = length-le_from_distinct_below (routers before) (length table) apart.distinct apart.inside in
    let long : length (routers before) ≡ length before = length-map before (λ s. s.router) in
    omega (arith, few, long)

back_or_new : (before : List Start) (now : Start) →
    Any (λ s. s.router ≡ now.router) before ⊎ (list_any (eqb now.router) (routers before) ≡ false)
back_or_new before now = by_stood (list_any (eqb now.router) (routers before)) refl where
  by_stood : (b : Bool) → list_any (eqb now.router) (routers before) ≡ b →
      Any (λ s. s.router ≡ now.router) before ⊎ (list_any (eqb now.router) (routers before) ≡ false)
  by_stood true is = inl (stood_there before now.router is)
  by_stood false is = inr is

pub comes_back : {Sought : ℕ → End → Type 0} (hops : ℕ → List Hop) (table : List Forwarding)
    → Stands hops Sought table →
    (k : ℕ) (before : List Start) (now : Start) → known (going table k) now.router ≡ true → Apart table before →
    length before + k ≡ length table → (rest : List Start) × GoesOn hops before (now ∷ rest) Loop
comes_back hops table stands zero before now marked apart long =
    elim (back_or_new before now) [
      | inl back ↦ ([], back)
      | inr new ↦ absurd
          (
          let more = apart_more table before now apart new (in_table table zero now.router marked) in
          let few = apart_few table (before ++ now ∷ []) more in
          let one : length (before ++ now ∷ []) ≡ length before + 1 = length-append before (now ∷ []) in
          omega (arith, few, one, long)
          )
    ]
comes_back hops table stands (suc k) before now marked apart long =
    elim (back_or_new before now) [
      | inl back ↦ ([], back)
      | inr new ↦
          let more = apart_more table before now apart new (in_table table (suc k) now.router marked) in
          let (i, has, further) = goes_by hops table stands k now.router marked in
          let then : Start = record { router = i.router; iface = Some i.at } in
          let one : length (before ++ now ∷ []) ≡ length before + 1 = length-append before (now ∷ []) in
          let (rest, on) =
          comes_back hops table stands k (before ++ now ∷ []) then further more (omega (arith, one, long)) in
          (then ∷ rest, ((i.at, refl, has), on))
    ]

none_apart : (table : List Forwarding) → Apart table []
unfolding IsDistinct
none_apart table = record { distinct = tt; inside = λ q h. cc }

pub loop_from : {Sought : ℕ → End → Type 0} (hops : ℕ → List Hop) (table : List Forwarding) → Stands hops Sought table →
    (start : Start) → loops table start.router ≡ true → (rest : List Start) × GoesOn hops [] (start ∷ rest) Loop
loop_from hops table stands start marked =
    comes_back hops table stands (length table) [] start marked (none_apart table) (omega arith)

-- ---- a walk that comes back goes on without end

-- hops lead from a router to the other
pub data Leads (hops : ℕ → List Hop) : ℕ → ℕ → Type 0 where
  by_one : (from : ℕ) (i : IfaceId) → Contains (hops from) (To i) → Leads hops from i.router
  by_more : (from : ℕ) (i : IfaceId) (to : ℕ) → Contains (hops from) (To i) → Leads hops i.router to
      → Leads hops from to

leads_further : (hops : ℕ → List Hop) (from to : ℕ) (k : IfaceId) → Leads hops from to → Contains (hops to) (To k) →
    Leads hops from k.router
leads_further hops from to k (by_one _ i has) more = by_more from i k.router has (by_one i.router k more)
leads_further hops from to k (by_more _ i _ has rest) more =
    by_more from i k.router has (leads_further hops i.router to k rest more)

-- a router that leads back to itself has a hop to one that does
round : (hops : ℕ → List Hop) (from to : ℕ) → Leads hops from to → from ≡ to →
    (i : IfaceId) × Contains (hops from) (To i) × Leads hops i.router i.router
round hops from to (by_one _ i has) same =
    let P : ℕ → Type 0 = λ r. Contains (hops r) (To i) in (i, has, by_one i.router i (subst P same has))
round hops from to (by_more _ i _ has rest) same =
    let P : ℕ → Type 0 = λ r. Contains (hops r) (To i) in
    (i, has, leads_further hops i.router to i rest (subst P same has))

round_goes : {Sought : ℕ → End → Type 0} (hops : ℕ → List Hop) (table : List Forwarding) → Stands hops Sought table →
    (k router : ℕ) → Leads hops router router → known (going table k) router ≡ true
round_goes hops table stands zero router back =
    let (i, has, _) = round hops router router back refl in goes_nowhere table router (stands.own router (To i) has)
round_goes hops table stands (suc k) router back =
    let (i, has, again) = round hops router router back refl in
    goes_further hops table stands k router i has (round_goes hops table stands k i.router again)

-- from each earlier standing hops lead to the router
abbrev pub AllLead : (ℕ → List Hop) → List Start → ℕ → Type 0
AllLead hops before router = (stood : Start) → Contains before stood → Leads hops stood.router router

all_lead_on : (hops : ℕ → List Hop) (before : List Start) (now : Start) (i : IfaceId) →
    AllLead hops before now.router → Contains (hops now.router) (To i) → AllLead hops (before ++ now ∷ []) i.router
all_lead_on hops before now i all has stood there =
    elim (Contains-push_cases before now stood there) [
      | inl earlier ↦ leads_further hops stood.router now.router i (all stood earlier) has
      | inr same ↦ let P : Start → Type 0 = λ s. Leads hops s.router i.router in
          subst P same (by_one now.router i has)
    ]

pub goes_without_end : {Sought : ℕ → End → Type 0} (hops : ℕ → List Hop) (table : List Forwarding)
    → Stands hops Sought table →
    (before : List Start) (now : Start) (rest : List Start) → AllLead hops before now.router →
    GoesOn hops before (now ∷ rest) Loop → (k : ℕ) → known (going table k) now.router ≡ true
goes_without_end hops table stands before now [] all (at, stood, within, is, same) k =
    let back = all stood (at, within, is) in
    let P : ℕ → Type 0 = λ r. Leads hops r now.router in
    round_goes hops table stands k now.router (subst P same back)
goes_without_end hops table stands before now (then ∷ rest) all ((at, _, has), on) zero =
    goes_nowhere table now.router (stands.own now.router (To (record { router = then.router; at = at })) has)
goes_without_end hops table stands before now (then ∷ rest) all ((at, _, has), on) (suc k) =
    let i : IfaceId = record { router = then.router; at = at } in
    let further =
    goes_without_end hops table stands (before ++ now ∷ []) then rest (all_lead_on hops before now i all has) on k in
    goes_further hops table stands k now.router i has further

pub loops_from : {Sought : ℕ → End → Type 0} (hops : ℕ → List Hop) (table : List Forwarding) →
    Stands hops Sought table →
    (start : Start) (rest : List Start) → GoesOn hops [] (start ∷ rest) Loop → loops table start.router ≡ true
loops_from hops table stands start rest goes =
    goes_without_end hops table stands [] start rest (λ stood (k, within, is). absurd (omega arith)) goes (length table)
