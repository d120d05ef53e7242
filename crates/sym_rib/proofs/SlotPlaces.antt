-- Slots at their places.
use Rattle.std.proofs.Common.{◌≡◌, ℕ, ◌≤◌, ◌<◌, ◌⊎◌, inl, inr, Bool, true, false, List, [], ◌∷◌, ◌++◌, max, Option, Some}
use Rattle.std.proofs.Common.{None, sym, ap, arith, ◌∙◌, rules, subst, All}
use Rattle.std.specs.Prelude.{option_copied, option_and_then, if◌then◌else◌, IfSome}
use Rattle.std.specs.Borrow.{Bor}
use Rattle.std.specs.Option.{option_map_or}
use Rattle.std.proofs.lemmas.Bool.{cases_lt}
use Rattle.std.proofs.lemmas.List.Elements.{All-head, All-tail}
use Rattle.std.proofs.lemmas.Option.{same_Some}
use Rattle.plan_places.specs.declared.places.Place.{Place}
use Rattle.plan_places.specs.Places.{is_at, item_at, places_below}
use Rattle.plan_places.specs.Tables.{empty_slot, slot_among}
use Rattle.plan_places.proofs.PlaceSteps.{none_above}
use Rattle.plan_places.proofs.Tabulated.{none_past, tabulated-at, tabulated-length}
use Rattle.route_record.specs.declared.Slot.{Slot}
use Rattle.route_record.specs.declared.TheConstants.{LENGTHS}
use Rattle.route_record.specs.Places.{slot_at}
use Rattle.term_store.specs.Terms.{Reading}
use Rattle.sym_rib.specs.declared.slots.SymSlot.{SymSlot}
use Rattle.sym_rib.specs.Slots.{slot_end}
use Rattle.sym_rib.specs.Worlds.{sym_slot_at, slot_of, slots_end, tables_of}

-- ---- what is true of all slots is true of one at a place

placed : (P : SymSlot → Type 0) (ps : List Place) (slots : List SymSlot) (router len : ℕ) (s : SymSlot) →
    item_at ps slots router len ≡ Some s → All P slots → P s
unfolding item_at
placed P [] slots router len s here all = absurd cc
placed P (p ∷ ps) [] router len s here all = absurd cc
placed P (p ∷ ps) (x ∷ slots) router len s here all =
    by (is_at router len p) here (λ later. placed P ps slots router len s later (All-tail P x slots all))
  where
    by : (b : Bool) → (if b then Some x else item_at ps slots router len) ≡ Some s →
        (item_at ps slots router len ≡ Some s → P s) → P s
    by true is rest = subst P (same_Some x s is) (All-head P x slots all)
    by false is rest = rest is

pub placed_all : (P : SymSlot → Type 0) (lens : List ℕ) (routers : ℕ) (slots : List SymSlot) (router len : ℕ)
    (s : SymSlot) → sym_slot_at lens routers slots router len ≡ Some s → All P slots → P s
placed_all P lens routers slots router len s here all =
    placed P (places_below lens routers) slots router len s here all

-- ---- the nodes of a slot at a place

one_max : (a b : ℕ) → a ≤ max a b
one_max a b = omega arith

other_max : (a b c : ℕ) → c ≤ b → c ≤ max a b
other_max a b c below = omega (arith, below)

end_placed : (ps : List Place) (slots : List SymSlot) (router len : ℕ) (s : SymSlot) →
    item_at ps slots router len ≡ Some s → slot_end s ≤ slots_end slots
unfolding item_at
end_placed [] slots router len s here = absurd cc
end_placed (p ∷ ps) [] router len s here = absurd cc
end_placed (p ∷ ps) (x ∷ slots) router len s here =
    by (is_at router len p) here (λ later. end_placed ps slots router len s later)
  where
    by : (b : Bool) → (if b then Some x else item_at ps slots router len) ≡ Some s →
        (item_at ps slots router len ≡ Some s → slot_end s ≤ slots_end slots) →
        slot_end s ≤ max (slot_end x) (slots_end slots)
    by true is rest = subst (λ (y : SymSlot). slot_end y ≤ max (slot_end x) (slots_end slots)) (same_Some x s is)
        (one_max (slot_end x) (slots_end slots))
    by false is rest = other_max (slot_end x) (slots_end slots) (slot_end s) (rest is)

-- stand below the end of all
pub slot_bounded : (lens : List ℕ) (routers : ℕ) (slots : List SymSlot) (router len : ℕ) (o : Option (Bor SymSlot)) →
    option_copied o ≡ sym_slot_at lens routers slots router len → IfSome o (λ r. slot_end r.now ≤ slots_end slots)
slot_bounded lens routers slots router len None h = search rules
slot_bounded lens routers slots router len (Some r) h =
    end_placed (places_below lens routers) slots router len r.now (sym h)

swapped : (a b : ℕ) → max a b ≡ max b a
swapped a b = omega arith

regrouped : (a b c : ℕ) → max a (max b c) ≡ max (max a b) c
regrouped a b c = omega arith

-- the end of the slots with one more
pub slots_end_push : (xs : List SymSlot) (x : SymSlot) → slots_end (xs ++ x ∷ []) ≡ max (slots_end xs) (slot_end x)
slots_end_push [] x = swapped (slot_end x) 0
slots_end_push (y ∷ xs) x =
    ap (max (slot_end y)) (slots_end_push xs x) ∙ regrouped (slot_end y) (slots_end xs) (slot_end x)

-- ---- the tables of symbolic slots

module _ (w : Reading) (lens : List ℕ) (routers : ℕ) (slots : List SymSlot) where
  -- the slot of each router at each length
  pub read_at : (router len : ℕ) → router < routers → len < LENGTHS →
      slot_at (tables_of w lens routers slots) router len
      ≡ Some (option_map_or (slot_of w) (sym_slot_at lens routers slots router len) empty_slot)
  read_at router len below short =
      tabulated-at (slot_among (λ p s. slot_of w s) (places_below lens routers) slots) routers router len below short

  -- that of one that stands at the place
  pub slot_there : (router len : ℕ) (s : SymSlot) → len < LENGTHS →
      sym_slot_at lens routers slots router len ≡ Some s →
      slot_at (tables_of w lens routers slots) router len ≡ Some (slot_of w s)
  slot_there router len s short here = by (cases_lt router routers) where
    by : (router < routers) ⊎ (routers ≤ router) →
        slot_at (tables_of w lens routers slots) router len ≡ Some (slot_of w s)
    by (inl below) =
        read_at router len below short ∙ ap (λ o. Some (option_map_or (slot_of w) o empty_slot)) here
    by (inr past) =
        let none : None ≡ Some s = sym (none_above lens slots routers router len past) ∙ here in
        absurd cc

  -- where none stands nothing is read of the tables that is not read of the empty slot
  pub slot_missing : {A : Type 0} (f : Slot → Option A) (router len : ℕ) → f empty_slot ≡ None → len < LENGTHS →
      sym_slot_at lens routers slots router len ≡ None →
      option_and_then f (slot_at (tables_of w lens routers slots) router len) ≡ None
  slot_missing {A} f router len nothing short none = by (cases_lt router routers) where
    by : (router < routers) ⊎ (routers ≤ router) →
        option_and_then f (slot_at (tables_of w lens routers slots) router len) ≡ None
    by (inl below) =
        ap (option_and_then f)
        (read_at router len below short ∙ ap (λ o. Some (option_map_or (slot_of w) o empty_slot)) none)
        ∙ nothing
    by (inr past) =
        ap (option_and_then f) (none_past (tables_of w lens routers slots) routers router len
        (tabulated-length (slot_among (λ p s. slot_of w s) (places_below lens routers) slots) routers) past)
