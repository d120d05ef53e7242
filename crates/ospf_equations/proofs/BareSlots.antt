-- Slots without a BGP route, as walks read them.
use Rattle.std.proofs.Common.{◌≡◌, ℕ, ◌<◌, Bool, true, false, List, cond, Some, None, refl, sym, ap, subst, ◌∙◌}
use Rattle.std.specs.Prelude.{option_map}
use Rattle.route_record.specs.declared.tracked.Tracked.{Tracked}
use Rattle.term_store.specs.Terms.{Reading, at}
use Rattle.sym_policy.specs.declared.records.SymBgp.{SymBgp}
use Rattle.sym_policy.specs.Held.{StandsForBgp, bgp_at, bgp_of}
use Rattle.route_shapes.specs.Bgp.{bgp_shape}
use Rattle.sym_policy.specs.Records.{address_of}
use Rattle.sym_policy.specs.Seen.{route_towards}
use Rattle.sym_policy.specs.Seen.{towards_of}
use Rattle.std.specs.Option.{option_map_or}
use Rattle.std.proofs.lemmas.Option.{same_Some}
use Rattle.route_record.specs.declared.TheConstants.{LENGTHS}
use Rattle.plan_places.specs.Places.{places_below}
use Rattle.plan_places.specs.Tables.{empty_slot, slot_among}
use Rattle.plan_places.proofs.Tabulated.{tabulated-length}
use Rattle.sym_policy.specs.Held.{failures_of}
use Rattle.sym_policy.specs.declared.records.SymNet.{SymNet}
use Rattle.term_arith.specs.declared.Bits.{Bits}
use Rattle.sym_rib.specs.declared.slots.SymSlot.{SymSlot}
use Rattle.sym_rib.specs.declared.slots.SymTables.{SymTables}
use Rattle.sym_rib.specs.Slots.{StandsForSlot}
use Rattle.sym_rib.specs.Worlds.{StandForTables, read_tables, slot_of as slot_read, tables_of}
use Rattle.sym_rib.proofs.SlotPlaces.{placed_all, read_at, slot_there}
use Rattle.world_variables.specs.Slots.{open_slot}
use Rattle.world_variables.specs.Symbols.{open_of}
use Rattle.world_variables.specs.declared.opens.SymOpen.{SymOpen}
use Rattle.ios_ast.specs.declared.file.File.{File}
use Rattle.ospf_equations.specs.Equations.{AreBare, IsOpenIn, IsOpenSlot}

-- a route that is not there is none
pub bare_towards : (w : Reading) (s : SymBgp) → bgp_of w s ≡ None → towards_of w s ≡ None
bare_towards w s bare = by_valid (at w s.valid) bare where
  by_valid : (b : Bool) → cond b (Some (bgp_at w s)) None ≡ None →
      cond b (Some (route_towards (address_of w s.next_hop))) None ≡ None
  by_valid true some = cc
  by_valid false none = refl

-- and stands for itself
pub bare_stands : (w : Reading) (tracked : Tracked) (s : SymBgp) → bgp_of w s ≡ None →
    StandsForBgp w tracked s (towards_of w s)
bare_stands w tracked s bare = bare ∙ sym (ap (option_map (bgp_shape tracked)) (bare_towards w s bare))

-- slots that are all bare stand for what they read as
pub bare_tables : (w : Reading) (tracked : Tracked) (lens : List ℕ) (routers : ℕ) (slots : List SymSlot) →
    AreBare w slots → StandForTables w tracked lens routers slots (tables_of w lens routers slots)
bare_tables w tracked lens routers slots bare = record {
  long = tabulated-length (slot_among (λ p s. slot_read w s) (places_below lens routers) slots) routers;
  each = λ router len s slot below short here there.
      subst (StandsForSlot w tracked s)
      (same_Some (slot_read w s) slot (sym (slot_there w lens routers slots router len s short here) ∙ there))
      (record {
        ospf = refl;
        bgp = bare_stands w tracked s.bgp
            (placed_all (λ (x : SymSlot). bgp_of w x.bgp ≡ None) lens routers slots router len s here bare);
        rib = refl;
      });
  off = λ router len slot below short here there.
      sym (same_Some empty_slot slot (sym (read_at w lens routers slots router len below short
      ∙ ap (λ o. Some (option_map_or (slot_read w) o empty_slot)) here) ∙ there));
}

-- and what is open of one is so in the tables that they read as
pub bare_open : (w : Reading) (files : List File) (sym_net : SymNet) (dst : Bits) (tables : SymTables)
    (router len : ℕ) (part : SymOpen) → len < LENGTHS → IsOpenSlot w files sym_net dst tables router len part →
    IsOpenIn w tables (read_tables w tables) router len part
    (open_slot files (failures_of w sym_net) (address_of w dst) router len (open_of w part))
bare_open w files sym_net dst tables router len part short open_there = record {
  sym = open_there.slot;
  there = open_there.there;
  is = slot_there w tables.lens.now tables.routers tables.slots.now router len open_there.slot short open_there.there
      ∙ ap Some open_there.is;
  ospf = refl;
}
