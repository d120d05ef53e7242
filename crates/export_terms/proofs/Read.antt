-- Which BGP routes symbolic tables read as, where they stand for tables.
use Rattle.std.proofs.Common.{◌≡◌, ◌⊎◌, ℕ, zero, suc, ◌+◌, ◌*◌, ◌<◌, ◌≤◌, Bool, ◌||◌, List, Option, Some, None, inl, inr}
use Rattle.std.proofs.Common.{arith, get_or, length, refl, sym, ap, ◌∙◌}
use Rattle.std.specs.Prelude.{option_and_then, option_map, slice_get}
use Rattle.std.proofs.lemmas.Bool.{cases_lt}
use Rattle.std.proofs.lemmas.Option.{slice_get_cases, slice_get_past}
use Rattle.mw_text.specs.declared.address.Addr.{Addr}
use Rattle.mw_text.specs.Address.{prefix_at}
use Rattle.ios_ast.specs.declared.file.File.{File}
use Rattle.route_record.specs.declared.Failures.{Failures}
use Rattle.route_record.specs.declared.Slot.{Slot}
use Rattle.route_record.specs.declared.Tables.{Tables}
use Rattle.route_record.specs.declared.TheConstants.{LENGTHS}
use Rattle.route_record.specs.declared.tracked.Tracked.{Tracked}
use Rattle.route_record.specs.Places.{slot_at}
use Rattle.bgp_shapes.specs.Tracking.{TracksTests}
use Rattle.route_shapes.specs.Bgp.{bgp_shape}
use Rattle.plan_places.proofs.PlaceSteps.{none_above}
use Rattle.term_store.specs.Terms.{Reading}
use Rattle.sym_policy.specs.Held.{bgp_of}
use Rattle.sym_rib.specs.declared.slots.SymSlot.{SymSlot}
use Rattle.sym_rib.specs.Worlds.{StandForTables, sym_slot_at}
use Rattle.export_asks.specs.declared.ask.Ask.{Ask}
use Rattle.export_asks.specs.Exported.{is_exported}
use Rattle.export_terms.specs.Routes.{routes_at}
use Rattle.export_terms.specs.Shapes.{any_below, shape_out}
use Rattle.export_terms.proofs.Anys.{any_more, any_none}
use Rattle.export_terms.proofs.ShapeLaw.{exported_same, shapes_held}

module _ (w : Reading) (tracked : Tracked) (lens : List ℕ) (routers : ℕ) (slots : List SymSlot) (tables : Tables)
    (stand : StandForTables w tracked lens routers slots tables) where
  -- the route of a slot and that of a symbolic slot at its place
  same_route : (router len : ℕ) → router < routers → len < LENGTHS → (s : Option SymSlot) (t : Option Slot) →
      sym_slot_at lens routers slots router len ≡ s → slot_at tables router len ≡ t →
      (t ≡ None → ⊥) →
      option_and_then (λ (x : SymSlot). bgp_of w x.bgp) s
      ≡ option_map (bgp_shape tracked) (option_and_then (λ (slot : Slot). slot.bgp) t)
  same_route router len below short s None there is some = absurd (some refl)
  same_route router len below short None (Some slot) there is some =
      ap (λ (x : Slot). option_map (bgp_shape tracked) x.bgp) (sym (stand.off router len slot below short there is))
  same_route router len below short (Some s) (Some slot) there is some =
      (stand.each router len s slot below short there is).bgp

  -- a router that is there has a slot at each length
  has_slot : (router len : ℕ) → router < routers → len < LENGTHS → slot_at tables router len ≡ None → ⊥
  has_slot router len below short none = by (slice_get_cases tables.slots (LENGTHS * router + len)).1
    where
      long : length tables.slots ≡ LENGTHS * routers
      long = stand.long

      by : ((x : Slot) × (LENGTHS * router + len < length tables.slots)
          × (slice_get tables.slots (LENGTHS * router + len) ≡ Some x)
          × (get_or tables.slots (LENGTHS * router + len) x ≡ x))
          ⊎ ((length tables.slots ≤ LENGTHS * router + len)
          × (slice_get tables.slots (LENGTHS * router + len) ≡ None)) → ⊥
      by (inl (x, within, there, rest)) = absurd (let clash : Some x ≡ None = sym there ∙ none in cc)
      by (inr (past, there)) = absurd (omega (arith, past, long, below, short))

  pub routes_are : (len router : ℕ) → len < LENGTHS →
      routes_at w lens routers slots len router ≡ shapes_held tracked tables len router
  routes_are len router short = by (cases_lt router routers)
    where
      long : length tables.slots ≡ LENGTHS * routers
      long = stand.long

      by : (router < routers) ⊎ (routers ≤ router) →
          routes_at w lens routers slots len router ≡ shapes_held tracked tables len router
      by (inl below) =
          same_route router len below short (sym_slot_at lens routers slots router len) (slot_at tables router len) refl refl
          (has_slot router len below short)
      by (inr past) =
          ap (option_and_then (λ (x : SymSlot). bgp_of w x.bgp)) (none_above lens slots routers router len past)
          ∙ ap (λ o. option_map (bgp_shape tracked) (option_and_then (λ (slot : Slot). slot.bgp) o))
          (sym (slice_get_past tables.slots (LENGTHS * router + len) (omega (arith, past, long))))

-- two tests that agree below a bound
pub any_same : (n : ℕ) (f g : ℕ → Bool) → ((k : ℕ) → k < n → f k ≡ g k) → any_below n f ≡ any_below n g
any_same zero f g same = any_none f ∙ sym (any_none g)
any_same (suc n) f g same =
    any_more n f
    ∙ (λ i. any_same n f g (λ k below. same k (omega (arith, below))) i || same n (omega arith) i)
    ∙ sym (any_more n g)

-- a route goes out at some length by what symbolic tables read as exactly where one does by the tables for which they
-- stand
pub out_of_tables : (w : Reading) (tracked : Tracked) (files : List File) (ask : Ask) (d : Addr) (failures : Failures)
    (lens : List ℕ) (slots : List SymSlot) (tables : Tables) → TracksTests files tracked →
    StandForTables w tracked lens (length files) slots tables →
    any_below LENGTHS (λ len. shape_out tracked files ask failures (routes_at w lens (length files) slots len)
    (prefix_at d len)) ≡ any_below LENGTHS (is_exported files ask d failures tables)
out_of_tables w tracked files ask d failures lens slots tables tracks stand =
    any_same LENGTHS _ _ (λ len short.
    ap (λ held. shape_out tracked files ask failures held (prefix_at d len))
    (λ i router. routes_are w tracked lens (length files) slots tables stand len router short i)
    ∙ sym (exported_same tracked files ask d failures tables len tracks))
