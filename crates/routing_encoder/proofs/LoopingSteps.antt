-- Questions that only a loop breaks, in routings whose entries lead nearer to the destination.
use Rattle.std.proofs.Common.{◌≡◌, ◌≢◌, ℕ, zero, suc, ◌+◌, ◌<◌, ◌≤◌, Bool, true, false, ◌&&◌, ◌||◌, not, List, []}
use Rattle.std.proofs.Common.{◌∷◌, get_or, length, Option, Some, None, refl, sym, ap, arith, ◌∙◌}
use Rattle.std.specs.Prelude.{◌==◌, All, if◌then◌else◌}
use Rattle.std.specs.List.{list_all}
use Rattle.std.specs.Option.{option_map_or}
use Rattle.std.proofs.Math.Bool.{and_assoc, and-true}
use Rattle.std.proofs.lemmas.Bool.{and_parts, leb-true}
use Rattle.std.proofs.lemmas.Grind.{common_steps}
use Rattle.std.proofs.lemmas.List.Elements.{All-cons, All-nil}
use Rattle.std.proofs.lemmas.List.{drop_all}
use Rattle.std.proofs.lemmas.Option.{same_Some}
use Rattle.mw_text.proofs.Numbers.{apart}
use Rattle.ios_ast.specs.declared.file.File.{File}
use Rattle.route_record.specs.declared.Slot.{Slot}
use Rattle.route_record.specs.declared.Tables.{Tables}
use Rattle.route_record.specs.declared.tracked.Tracked.{Tracked}
use Rattle.route_record.specs.declared.World.{World}
use Rattle.question_lang.specs.declared.question.Kind.{Kind}
use Rattle.question_lang.specs.declared.question.Kind.TheVariants.{Reach, Isolate, Waypoint, NoLoop, NoBlackHole}
use Rattle.question_lang.specs.declared.question.Kind.TheVariants.{Within, Alike, NoStable}
use Rattle.question_lang.specs.declared.walk.End.TheVariants.{Loop}
use Rattle.question_lang.specs.declared.walk.Walk.{Walk}
use Rattle.question_lang.specs.Breaking.{Breaks}
use Rattle.question_lang.specs.Walks.{IsWalk}
use Rattle.loop_free_walks.specs.Entries.{AreInterior, is_interior_slot}
use Rattle.sym_rib.specs.declared.slots.SymSlot.{SymSlot}
use Rattle.sym_rib.specs.Slots.{rib_end, source_of_number}
use Rattle.sym_rib.specs.Worlds.{StandForTables, slots_end, sym_slot_at}
use Rattle.sym_rib.proofs.OneEach.{items_at}
use Rattle.sym_rib.proofs.SlotPlaces.{placed_all}
use Rattle.term_store.specs.Terms.{Reading}
use Rattle.ospf_equations.proofs.ReachedSteps.{nothing_there, something_there}
use Rattle.routing_encoder.specs.Looping.{is_interior_entry, is_interior_read, only_loops}

-- the test of an entry that may be there, by its numbers
pub interior_is : (valid : Bool) (n distance : ℕ) → (not valid || ((n == 0) || (n == 3)))
    ≡ is_interior_entry (if valid then Some (record { source = source_of_number n; distance = distance }) else None)
interior_is false n distance = refl
interior_is true zero distance = refl
interior_is true (suc zero) distance = refl
interior_is true (suc (suc zero)) distance = refl
interior_is true (suc (suc (suc zero))) distance = refl
interior_is true (suc (suc (suc (suc n)))) distance =
    rw (apart (suc (suc (suc (suc n)))) 0 (omega arith)) (rw (apart (suc (suc (suc (suc n)))) 1 (omega arith))
    (rw (apart (suc (suc (suc (suc n)))) 2 (omega arith)) (rw (apart (suc (suc (suc (suc n)))) 3 (omega arith)) refl)))

-- ---- one slot after another

pub entry_below : (slots : List SymSlot) (i : ℕ) (d : SymSlot) → i < length slots →
    rib_end (get_or slots i d).rib ≤ slots_end slots
entry_below [] i d within = absurd (omega arith)
entry_below (s ∷ slots) zero d within = omega arith
entry_below (s ∷ slots) (suc i) d within = let below = entry_below slots i d (omega arith) in omega (arith, below)

pub all_next : (w : Reading) (s : SymSlot) (slots : List SymSlot) →
    list_all (is_interior_read w) (s ∷ slots) ≡ (is_interior_read w s && list_all (is_interior_read w) slots)
all_next w s slots = refl

pub ruleset slots_steps = (common_steps, items_at, entry_below, drop_all, all_next, and_assoc, and-true)

-- ---- tables

passes_all : {X : Type 0} (p : X → Bool) (xs : List X) → list_all p xs ≡ true → All (λ x. p x ≡ true) xs
passes_all p [] all = All-nil (λ x. p x ≡ true)
passes_all p (x ∷ xs) all =
    let both = and_parts (p x) (list_all p xs) all in
    All-cons (λ y. p y ≡ true) x xs both.0 (passes_all p xs both.1)

-- where the entries of all symbolic slots are interior those of the tables are that they stand for
pub all_interior : (w : Reading) (tracked : Tracked) (lens : List ℕ) (routers : ℕ) (slots : List SymSlot)
    (tables : Tables) → StandForTables w tracked lens routers slots tables →
    list_all (is_interior_read w) slots ≡ true → AreInterior tables
all_interior w tracked lens routers slots tables stand all router len slot short here =
    by (sym_slot_at lens routers slots router len) refl
  where
    by : (o : Option SymSlot) → sym_slot_at lens routers slots router len ≡ o → is_interior_slot slot ≡ true
    by None none =
        positive (is_interior_slot slot)
        (sym (ap (λ o. option_map_or (λ (x : Slot). not (is_interior_slot x)) o false) here)
        ∙ nothing_there w tracked lens routers slots tables stand (λ x. not (is_interior_slot x)) router len refl short
        none)
      where
        positive : (b : Bool) → not b ≡ false → b ≡ true
        positive true is = refl
        positive false is = cc
    by (Some s) there =
        let found = something_there w tracked lens routers slots tables stand router len s short there in
        let same : found.0 ≡ slot = same_Some found.0 slot (sym found.1 ∙ here) in
        ap is_interior_slot (sym same)
        ∙ ap is_interior_entry (sym found.2.rib)
        ∙ placed_all (λ (x : SymSlot). is_interior_read w x ≡ true) lens routers slots router len s there
        (passes_all (is_interior_read w) slots all)

-- ---- questions

-- where no walk loops and none comes to more routers than there are, nothing breaks such a question
pub unbroken : (files : List File) (world : World) → ((walk : Walk) → IsWalk files world walk → walk.end ≢ Loop) →
    ((walk : Walk) → IsWalk files world walk → 1 < length walk.hops → length walk.hops ≤ length files) → (kind : Kind) →
    (walk : Option Walk) → only_loops kind (length files) ≡ true → Breaks files world kind walk → ⊥
unbroken files world loops short (NoLoop start) (Some walk) only breaks = loops walk breaks.0 breaks.1.1
unbroken files world loops short (NoLoop start) None only breaks = cc
unbroken files world loops short (Within most start) (Some walk) only breaks =
    let long = breaks.1.1 in
    let few = short walk breaks.0 (omega (arith, long)) in
    let most_is : length files ≤ most + 1 = leb-true (length files) (most + 1) only in
    absurd (omega (arith, few, long, most_is))
unbroken files world loops short (Within most start) None only breaks = cc
unbroken files world loops short (Reach start target) walk only breaks = cc
unbroken files world loops short (Isolate start target) walk only breaks = cc
unbroken files world loops short (Waypoint start target via) walk only breaks = cc
unbroken files world loops short (NoBlackHole start) walk only breaks = cc
unbroken files world loops short (Alike a b target) walk only breaks = cc
unbroken files world loops short NoStable walk only breaks = cc
