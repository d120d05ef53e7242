-- How walks from a router end, by the table of what each router does with the packet and by where it comes to.
use Rattle.std.proofs.Common.{◌≡◌, ◌<◌, ◌≤◌, ◌==◌, ◌&&◌, ◌∙◌, ℕ, zero, suc, Bool, true, false, List, [], ◌∷◌, length}
use Rattle.std.proofs.Common.{map, Option, Some, None, refl, sym, ap, subst, arith, inl, inr}
use Rattle.std.specs.Prelude.{◌↔◌, slice_get}
use Rattle.std.specs.Cmp.Derive.{both_true}
use Rattle.std.specs.List.{list_any}
use Rattle.std.proofs.lemmas.Bool.{and_parts, eqb-true}
use Rattle.std.proofs.lemmas.Option.{same_Some, slice_get_within}
use Rattle.mw_text.specs.declared.address.Addr.{Addr}
use Rattle.ios_ast.specs.declared.file.File.{File}
use Rattle.route_record.specs.declared.World.{World}
use Rattle.question_lang.specs.declared.question.Kind.{Kind}
use Rattle.question_lang.specs.declared.question.Kind.TheVariants.{NoBlackHole}
use Rattle.question_lang.specs.declared.question.Start.{Start}
use Rattle.question_lang.specs.declared.walk.End.{End}
use Rattle.question_lang.specs.declared.walk.Hop.{Hop}
use Rattle.question_lang.specs.declared.walk.Hop.TheVariants.{To, Ends}
use Rattle.question_lang.specs.Breaking.{at_router}
use Rattle.question_lang.specs.Hops.{next_hops}
use Rattle.walk_def.specs.Marks.{is_delivered, known}
use Rattle.sym_forwarding.specs.Beginnings.{begins_at}
use Rattle.sym_forwarding.specs.Forwardings.{sends_to, start_asked}
use Rattle.sym_forwarding.specs.Layers.{Beginning, Forwarding, arrives, going, is_broken, loops, sends_on}
use Rattle.sym_forwarding.specs.Twins.{ends_as, leaves_to}
use Rattle.sym_walk.proofs.BrokenWorlds.{IsBegun, breaks_all, walk_breaks}
use Rattle.sym_walk.specs.TwinTables.{AreTwins, IsTwinOf, may_end}
use Rattle.fate_terms.specs.declared.ending.Ending.{Ending}
use Rattle.fate_terms.specs.declared.ending.Ending.TheVariants.{Delivered, Left, BlackHole, Loop}
use Rattle.fate_terms.specs.Endings.{HasEnding, kind_of}
use Rattle.fate_terms.specs.declared.named.Walked.{Walked}
use Rattle.fate_terms.specs.Named.{IsWalked, ending_by}
use Rattle.fate_terms.specs.Reaching.{AreReached, Comes, EndsAmong, Sends}
use Rattle.fate_terms.proofs.EndingKinds.{broken_ends, ending_breaks}
use Rattle.fate_terms.proofs.Reached.{arriving_ends, ends_arriving}

-- ---- a table with other ends

abbrev ended : Forwarding → Bool → Forwarding
ended f b = record { next = f.next; ends = b }

abbrev with_ends : (ℕ → Bool) → List Forwarding → List Forwarding
with_ends ends [] = []
with_ends ends (f ∷ fs) = ended f (ends 0) ∷ with_ends (λ k. ends (suc k)) fs

long_ends : (ends : ℕ → Bool) (table : List Forwarding) → length (with_ends ends table) ≡ length table
long_ends ends [] = refl
long_ends ends (f ∷ fs) = ap suc (long_ends (λ k. ends (suc k)) fs)

item_of : (ends : ℕ → Bool) (table : List Forwarding) (k : ℕ) (g : Forwarding) →
    slice_get (with_ends ends table) k ≡ Some g →
    (f : Forwarding) × (slice_get table k ≡ Some f) × (ended f (ends k) ≡ g)
item_of ends [] k g found = absurd cc
item_of ends (f ∷ fs) zero g found = (f, refl, same_Some (ended f (ends 0)) g found)
item_of ends (f ∷ fs) (suc k) g found = item_of (λ j. ends (suc j)) fs k g found

item_there : (ends : ℕ → Bool) (table : List Forwarding) (k : ℕ) (f : Forwarding) → slice_get table k ≡ Some f →
    slice_get (with_ends ends table) k ≡ Some (ended f (ends k))
item_there ends [] k f found = absurd cc
item_there ends (x ∷ fs) zero f found =
    ap (λ (y : Forwarding). Some (ended y (ends 0))) (same_Some x f found)
item_there ends (x ∷ fs) (suc k) f found = item_there (λ j. ends (suc j)) fs k f found

item_at : (table : List Forwarding) (k : ℕ) → k < length table → (f : Forwarding) × (slice_get table k ≡ Some f)
item_at [] k less = absurd (omega (arith, less))
item_at (f ∷ fs) zero less = (f, refl)
item_at (f ∷ fs) (suc k) less = item_at fs k (omega (arith, less))

-- such a table stands for the same hops, for any kind of question
twins_ends : (files : List File) (world : World) (kind other : Kind) (many : ℕ) (table : List Forwarding) →
    AreTwins files world other many table → AreTwins files world kind many (with_ends (may_end files world kind) table)
twins_ends files world kind other many table twins = record {
  long = long_ends (may_end files world kind) table ∙ twins.long;
  each = λ router g found. by router g (item_of (may_end files world kind) table router g found);
}
  where
    by : (router : ℕ) (g : Forwarding) → (f : Forwarding) × (slice_get table router ≡ Some f)
        × (ended f (may_end files world kind router) ≡ g) → IsTwinOf files world kind router g
    by router g (f, there, is) =
        subst (IsTwinOf files world kind router) is (record { sends = (twins.each router f there).sends; ends = refl })

-- ---- and the same hops lead on

sends_same : (ends : ℕ → Bool) (table : List Forwarding) (via router : ℕ) → Sends (with_ends ends table) via router →
    Sends table via router
sends_same ends table via router (g, found, sends) =
    let (f, there, is) = item_of ends table via g found in
    (f, there, subst (λ (x : Forwarding). list_any (sends_to router) x.next ≡ true) (sym is) sends)

sends_back : (ends : ℕ → Bool) (table : List Forwarding) (via router : ℕ) → Sends table via router →
    Sends (with_ends ends table) via router
sends_back ends table via router (f, there, sends) = (ended f (ends via), item_there ends table via f there, sends)

comes_same : (ends : ℕ → Bool) (table : List Forwarding) (start hops router : ℕ) →
    Comes (with_ends ends table) start hops router → Comes table start hops router
unfolding Comes
comes_same ends table start zero router comes = comes
comes_same ends table start (suc hops) router (inl comes) = inl (comes_same ends table start hops router comes)
comes_same ends table start (suc hops) router (inr (via, comes, sends)) =
    inr (via, comes_same ends table start hops via comes, sends_same ends table via router sends)

comes_back : (ends : ℕ → Bool) (table : List Forwarding) (start hops router : ℕ) → Comes table start hops router →
    Comes (with_ends ends table) start hops router
unfolding Comes
comes_back ends table start zero router comes = comes
comes_back ends table start (suc hops) router (inl comes) = inl (comes_back ends table start hops router comes)
comes_back ends table start (suc hops) router (inr (via, comes, sends)) =
    inr (via, comes_back ends table start hops via comes, sends_back ends table via router sends)

map_ends : (g : Forwarding → Bool) (ends : ℕ → Bool) (table : List Forwarding) →
    ((f : Forwarding) (b : Bool) → g (ended f b) ≡ g f) → map g (with_ends ends table) ≡ map g table
map_ends g ends [] same = refl
map_ends g ends (f ∷ fs) same =
    ap (λ b. b ∷ map g (with_ends (λ k. ends (suc k)) fs)) (same f (ends 0))
    ∙ ap (λ bs. g f ∷ bs) (map_ends g (λ k. ends (suc k)) fs same)

going_ends : (ends : ℕ → Bool) (table : List Forwarding) (hops : ℕ) →
    going (with_ends ends table) hops ≡ going table hops
unfolding going
going_ends ends table zero = map_ends (λ f. true) ends table (λ f b. refl)
going_ends ends table (suc hops) =
    ap (λ marks. map (sends_on marks) (with_ends ends table)) (going_ends ends table hops)
    ∙ map_ends (sends_on (going table hops)) ends table (λ f b. refl)

loops_ends : (ends : ℕ → Bool) (table : List Forwarding) (start : ℕ) →
    loops (with_ends ends table) start ≡ loops table start
loops_ends ends table start =
    ap (λ n. known (going (with_ends ends table) n) start) (long_ends ends table)
    ∙ ap (λ marks. known marks start) (going_ends ends table (length table))

-- ---- a walk that ends so leads to a router where it may

abbrev Arrives : (ℕ → Bool) → List Forwarding → ℕ → Type 0
Arrives ends table start =
    (router : ℕ) × Comes table start (length table) router × (router < length table) × (ends router ≡ true)

arrives_by : (ends : ℕ → Bool) (table : List Forwarding) (start : ℕ) → arrives (with_ends ends table) start ≡ true →
    Arrives ends table start
arrives_by ends table start is =
    let (router, comes, (g, found, there)) =
    arriving_ends (with_ends ends table) start (length (with_ends ends table)) is in
    let (f, stands, same) = item_of ends table router g found in (
      router,
      subst (λ n. Comes table start n router) (long_ends ends table)
          (comes_same ends table start (length (with_ends ends table)) router comes),
      slice_get_within table router f stands,
      ap (λ (x : Forwarding). x.ends) same ∙ there,
    )

by_arrives : (ends : ℕ → Bool) (table : List Forwarding) (start : ℕ) → Arrives ends table start →
    arrives (with_ends ends table) start ≡ true
by_arrives ends table start (router, comes, below, may) =
    let (f, stands) = item_at table router below in
    ends_arriving (with_ends ends table) start (length (with_ends ends table)) router
    (subst (λ n. Comes (with_ends ends table) start n router) (sym (long_ends ends table))
    (comes_back ends table start (length table) router comes))
    (ended f (ends router), item_there ends table router f stands, may)

-- ---- endings

abbrev begun_at : Beginning
begun_at = record { begins = true; denied = false }

start_begun : (files : List File) (world : World) (kind : Kind) (start : ℕ) →
    start_asked kind ≡ Some (at_router start) → IsBegun files world kind begun_at
start_begun files world kind start asked first asks =
    subst (λ (s : Start). begun_at ≡ begins_at files world.failures world.packet s)
    (same_Some (at_router start) first (sym asked ∙ asks)) refl

begun : (files : List File) (world : World) (start : ℕ) (ending : Ending) →
    IsBegun files world (kind_of start ending) begun_at
begun files world start (Delivered router) = start_begun files world (kind_of start (Delivered router)) start refl
begun files world start (Left router a) = start_begun files world (kind_of start (Left router a)) start refl
begun files world start BlackHole = start_begun files world (kind_of start BlackHole) start refl
begun files world start Loop = start_begun files world (kind_of start Loop) start refl

ending_tells : (files : List File) (world : World) (start : ℕ) (ending : Ending) (other : Kind)
    (table : List Forwarding) →
    ((t : List Forwarding) → is_broken (kind_of start ending) begun_at t ≡ arrives t start) →
    AreTwins files world other (length files) table →
    HasEnding files world start ending ↔ Arrives (may_end files world (kind_of start ending)) table start
ending_tells files world start ending other table by twins =
    let kind = kind_of start ending in
    let all = with_ends (may_end files world kind) table in
    let same = twins_ends files world kind other (length files) table twins in
    let first = begun files world start ending in (
      λ has.
          let (walk, breaks) = ending_breaks files world start ending has in
          arrives_by (may_end files world kind) table start
          (sym (by all) ∙ breaks_all files world kind begun_at all same first (Some walk) breaks),
      λ arrives_so.
          broken_ends files world start ending kind refl
          (walk_breaks files world kind begun_at all same first
          (by all ∙ by_arrives (may_end files world kind) table start arrives_so)),
    )

pub loop_tells : (files : List File) (world : World) (start : ℕ) (other : Kind) (table : List Forwarding) →
    AreTwins files world other (length files) table → HasEnding files world start Loop ↔ (loops table start ≡ true)
loop_tells files world start other table twins =
    let kind = kind_of start Loop in
    let all = with_ends (may_end files world kind) table in
    let same = twins_ends files world kind other (length files) table twins in
    let first = begun files world start Loop in
    let back = loops_ends (may_end files world kind) table start in (
      λ has.
          let (walk, breaks) = ending_breaks files world start Loop has in
          sym back ∙ breaks_all files world kind begun_at all same first (Some walk) breaks,
      λ is.
          broken_ends files world start Loop kind refl
          (walk_breaks files world kind begun_at all same first (back ∙ is)),
    )

-- ---- at one router

nothing_sought : (hops : List Hop) → list_any (ends_as (λ end. false)) hops ≡ false
nothing_sought [] = refl
nothing_sought (To i ∷ hops) = nothing_sought hops
nothing_sought (Ends end ∷ hops) = nothing_sought hops

sought_here : (b : Bool) (sought : End → Bool) (hops : List Hop) →
    list_any (ends_as (λ end. b && sought end)) hops ≡ true → b ≡ true
sought_here true sought hops is = refl
sought_here false sought hops is = absurd (let no : false ≡ true = sym (nothing_sought hops) ∙ is in cc)

only_there : (files : List File) (world : World) (start : ℕ) (leaves : Option Addr) (router q : ℕ) →
    may_end files world (kind_of start (ending_by leaves router)) q ≡ true → q ≡ router
only_there files world start None router q is =
    eqb-true q router (sought_here (q == router) is_delivered (next_hops files world q) is)
only_there files world start (Some a) router q is =
    eqb-true q router (sought_here (q == router) (leaves_to a.0) (next_hops files world q) is)

by_leaves : (files : List File) (world : World) (start : ℕ) (leaves : Option Addr) (router : ℕ) (other : Kind)
    (table : List Forwarding) → AreTwins files world other (length files) table →
    HasEnding files world start (ending_by leaves router)
    ↔ Arrives (may_end files world (kind_of start (ending_by leaves router))) table start
by_leaves files world start None router other table twins =
    ending_tells files world start (Delivered router) other table (λ t. refl) twins
by_leaves files world start (Some a) router other table twins =
    ending_tells files world start (Left router a) other table (λ t. refl) twins

-- a walk ends so at a router where the packet comes to it and may end so there
pub at_router_tells : (files : List File) (world : World) (start : ℕ) (leaves : Option Addr) (router : ℕ) (other : Kind)
    (table : List Forwarding) (marks : List Bool) (b : Bool) → AreTwins files world other (length files) table →
    AreReached table start (length table) marks → router < length files →
    b ≡ (known marks router && may_end files world (kind_of start (ending_by leaves router)) router) →
    (b ≡ true ↔ HasEnding files world start (ending_by leaves router))
at_router_tells files world start leaves router other table marks b twins reached below is =
    let told = by_leaves files world start leaves router other table twins in
    let long = twins.long in
    let within : router < length table = omega (arith, long, below) in (
      λ holds.
          let (mark, may) = and_parts _ _ (sym is ∙ holds) in
          told.1 (router, (reached.each router within).0 mark, within, may),
      λ has.
          let (q, comes, inside, may) = told.0 has in
          let here = only_there files world start leaves router q may in
          is ∙ both_true
          ((reached.each router within).1 (subst (Comes table start (length table)) here comes))
          (subst (λ r. may_end files world (kind_of start (ending_by leaves router)) r ≡ true) here may),
    )

-- a packet is lost where it comes to a router at which it may be
pub lost_tells : (files : List File) (world : World) (start many : ℕ) (table : List Forwarding) (marks : List Bool) →
    many ≡ length table → AreTwins files world (NoBlackHole (at_router start)) (length files) table →
    AreReached table start (length table) marks →
    (EndsAmong marks table many ↔ HasEnding files world start BlackHole)
lost_tells files world start many table marks all twins reached =
    let told =
    ending_tells files world start BlackHole (NoBlackHole (at_router start)) table (λ t. refl) twins in (
      λ (router, below, (mark, (f, there, ends))).
          let within = slice_get_within table router f there in
          told.1 (
            router,
            (reached.each router within).0 mark,
            within,
            sym (twins.each router f there).ends ∙ ends,
          ),
      λ has.
          let (router, comes, within, may) = told.0 has in
          let (f, there) = item_at table router within in (
            router,
            omega (arith, all, within),
            ((reached.each router within).1 comes, (f, there, (twins.each router f there).ends ∙ may)),
          ),
    )

-- ---- what stands goes on to stand

pub walked_later : (walked : Walked) (n m : ℕ) → n ≤ m → IsWalked walked n → IsWalked walked m
walked_later walked n m more is = record {
  slots = is.slots;
  nodes = let a = is.nodes in omega (arith, a, more);
  table = let a = is.table in omega (arith, a, more);
  marks = let a = is.marks in omega (arith, a, more);
  rows = is.rows;
  marked = is.marked;
}
