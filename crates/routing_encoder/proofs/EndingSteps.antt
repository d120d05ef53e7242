-- A walk that breaks a question by its end ends at some router.
use Rattle.std.proofs.Common.{◌≡◌, ℕ, zero, suc, ◌<◌, Bool, true, false, ◌&&◌, ◌||◌, not, List, []}
use Rattle.std.proofs.Common.{◌∷◌, get_or, length, set, Option, Some, None, inl, inr, refl, ap, arith, ◌∙◌}
use Rattle.std.specs.Prelude.{◌⊎◌, slice_get}
use Rattle.std.specs.List.{list_any}
use Rattle.std.proofs.Math.Bool.{or_assoc, or-false}
use Rattle.std.proofs.lemmas.Bool.{and_parts, or_cases, or_left, or_right}
use Rattle.std.proofs.lemmas.Grind.{common_steps}
use Rattle.std.proofs.lemmas.List.{drop_all}
use Rattle.ios_ast.specs.declared.file.File.{File}
use Rattle.route_record.specs.declared.World.{World}
use Rattle.question_lang.specs.declared.question.Kind.{Kind}
use Rattle.question_lang.specs.declared.question.Kind.TheVariants.{Reach, Isolate, Waypoint, NoLoop, NoBlackHole}
use Rattle.question_lang.specs.declared.question.Kind.TheVariants.{Within, Alike, NoStable}
use Rattle.question_lang.specs.declared.question.Start.{Start}
use Rattle.question_lang.specs.declared.walk.Walk.{Walk}
use Rattle.question_lang.specs.Breaking.{Breaks}
use Rattle.walk_def.specs.Marks.{known}
use Rattle.sym_forwarding.specs.declared.forwarding.SymForwarding.{SymForwarding}
use Rattle.sym_forwarding.specs.Beginnings.{begins_at}
use Rattle.sym_forwarding.specs.Forwardings.{start_asked}
use Rattle.sym_forwarding.specs.Layers.{Beginning, Edge, Forwarding, arrives, arriving, ends_or_sends, is_broken, leads}
use Rattle.sym_forwarding.specs.Layers.{sends_on, silent}
use Rattle.sym_forwarding.specs.Symbolic.{table_end, table_of}
use Rattle.sym_forwarding.proofs.Marks.{known_mapped}
use Rattle.sym_forwarding.proofs.Tables.{table_end_at}
use Rattle.sym_rib.proofs.OneEach.{items_at}
use Rattle.sym_walk.specs.TwinTables.{AreTwins}
use Rattle.sym_walk.proofs.BrokenWorlds.{IsBegun, breaks_all}
use Rattle.term_store.specs.Terms.{Reading}
use Rattle.routing_encoder.specs.Ending.{may_end_read, wants_end}

-- ---- one router after another

pub end_below : (fs : List SymForwarding) (i : ℕ) (d : SymForwarding) → i < length fs →
    (get_or fs i d).ends.0 < table_end fs
end_below fs i d within = let below = table_end_at fs i d within in omega (arith, below)

pub any_next : (w : Reading) (f : SymForwarding) (fs : List SymForwarding) →
    list_any (may_end_read w) (f ∷ fs) ≡ (may_end_read w f || list_any (may_end_read w) fs)
any_next w f fs = refl

pub ruleset table_steps = (common_steps, items_at, end_below, drop_all, any_next, or_assoc, or-false)

-- ---- layers

abbrev some_ends : List Forwarding → Bool
some_ends table = list_any (λ f. f.ends) table

ends_there : (table : List Forwarding) (k : ℕ) (f : Forwarding) → slice_get table k ≡ Some f → f.ends ≡ true →
    some_ends table ≡ true
ends_there [] k f found ends = cc
ends_there (g ∷ table) zero f found ends =
    let same : g ≡ f = cc in or_left g.ends (some_ends table) (ap (λ (x : Forwarding). x.ends) same ∙ ends)
ends_there (g ∷ table) (suc k) f found ends =
    or_right g.ends (some_ends table) (ends_there table k f found ends)

-- one that is sent on is sent to a router that is marked
some_leads : (marks : List Bool) (next : List Edge) → list_any (leads marks) next ≡ true → (k : ℕ) × (known marks k ≡ true)
some_leads marks [] some = cc
some_leads marks (e ∷ next) some =
    by (or_cases (leads marks e) (list_any (leads marks) next) some) (some_leads marks next)
  where
    Leading : Type 0
    Leading = (k : ℕ) × (known marks k ≡ true)

    by : (leads marks e ≡ true) ⊎ (list_any (leads marks) next ≡ true) →
        (list_any (leads marks) next ≡ true → Leading) → Leading
    by (inl here) rest = (e.to, (and_parts e.when (known marks e.to) here).1)
    by (inr later) rest = rest later

-- where a walk arrives, some router may end it
some_arrives : (table : List Forwarding) (hops router : ℕ) → known (arriving table hops) router ≡ true →
    some_ends table ≡ true
unfolding arriving
some_arrives table zero router marked =
    let found = known_mapped (λ f. f.ends) table router marked in
    ends_there table router found.0 found.1 found.2
some_arrives table (suc hops) router marked =
    let found = known_mapped (ends_or_sends (arriving table hops)) table router marked in
    by found.0 found.1 (or_cases found.0.ends (sends_on (arriving table hops) found.0) found.2) (some_arrives table hops)
  where
    by : (f : Forwarding) → slice_get table router ≡ Some f →
        (f.ends ≡ true) ⊎ (sends_on (arriving table hops) f ≡ true) →
        ((next : ℕ) → known (arriving table hops) next ≡ true → some_ends table ≡ true) → some_ends table ≡ true
    by f there (inl ends) rest = ends_there table router f there ends
    by f there (inr sends) rest =
        let next = some_leads (arriving table hops) f.next sends in rest next.0 next.1

-- a router that is silent ends none
ends_without : (table : List Forwarding) (via : ℕ) → some_ends (set table via silent) ≡ true → some_ends table ≡ true
ends_without [] via some = some
ends_without (f ∷ table) zero some = or_right f.ends (some_ends table) some
ends_without (f ∷ table) (suc via) some =
    by (or_cases f.ends (some_ends (set table via silent)) some) (ends_without table via)
  where
    by : (f.ends ≡ true) ⊎ (some_ends (set table via silent) ≡ true) →
        (some_ends (set table via silent) ≡ true → some_ends table ≡ true) → some_ends (f ∷ table) ≡ true
    by (inl here) rest = or_left f.ends (some_ends table) here
    by (inr later) rest = or_right f.ends (some_ends table) (rest later)

arrives_ends : (table : List Forwarding) (router : ℕ) → arrives table router ≡ true → some_ends table ≡ true
arrives_ends table router marked = some_arrives table (length table) router marked

-- a question that is of how walks end is broken only where some router may end one
broken_ends : (kind : Kind) (start : Beginning) (table : List Forwarding) → wants_end kind ≡ true →
    is_broken kind start table ≡ true → some_ends table ≡ true
broken_ends (Reach first target) start table wants broken = cc
broken_ends (Isolate first target) start table wants broken =
    arrives_ends table first.router (and_parts start.begins (arrives table first.router) broken).1
broken_ends (Waypoint first target via) start table wants broken =
    ends_without table via (arrives_ends (set table via silent) first.router
    (and_parts start.begins (arrives (set table via silent) first.router) broken).1)
broken_ends (NoLoop first) start table wants broken = cc
broken_ends (NoBlackHole first) start table wants broken =
    arrives_ends table first.router (and_parts start.begins (arrives table first.router) broken).1
broken_ends (Within most first) start table wants broken = cc
broken_ends (Alike a b target) start table wants broken =
    by (or_cases (arrives table a && not (arrives table b)) (arrives table b && not (arrives table a)) broken)
  where
    by : ((arrives table a && not (arrives table b)) ≡ true) ⊎ ((arrives table b && not (arrives table a)) ≡ true) →
        some_ends table ≡ true
    by (inl one) = arrives_ends table a (and_parts (arrives table a) (not (arrives table b)) one).0
    by (inr other) = arrives_ends table b (and_parts (arrives table b) (not (arrives table a)) other).0
broken_ends NoStable start table wants broken = cc

-- ---- terms

pub ends_read : (w : Reading) (fs : List SymForwarding) → list_any (may_end_read w) fs ≡ some_ends (table_of w fs)
ends_read w [] = refl
ends_read w (f ∷ fs) = ap (λ b. may_end_read w f || b) (ends_read w fs)

-- where the start of the question begins, if it has one
begin_of : List File → World → Option Start → Beginning
begin_of files world None = record { begins = false; denied = false }
begin_of files world (Some first) = begins_at files world.failures world.packet first

begun_so : (files : List File) (world : World) (kind : Kind) →
    IsBegun files world kind (begin_of files world (start_asked kind))
unfolding begin_of
begun_so files world kind first asked = ap (begin_of files world) asked

-- so it is in a world whose routers do with the packet what the table says
pub breaks_ends : (w : Reading) (files : List File) (world : World) (kind : Kind) (fs : List SymForwarding) →
    wants_end kind ≡ true → AreTwins files world kind (length files) (table_of w fs) → (walk : Option Walk) →
    Breaks files world kind walk → list_any (may_end_read w) fs ≡ true
breaks_ends w files world kind fs wants twins walk breaks =
    ends_read w fs
    ∙ broken_ends kind (begin_of files world (start_asked kind)) (table_of w fs) wants
    (breaks_all files world kind (begin_of files world (start_asked kind)) (table_of w fs) twins
    (begun_so files world kind) walk breaks)
