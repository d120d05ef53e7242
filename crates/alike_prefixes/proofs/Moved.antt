-- A stable routing stays stable when it is moved.
use Rattle.std.proofs.Common.{◌≡◌, ℕ, ◌+◌, ◌*◌, ◌<◌, ◌≤◌, List, length}
use Rattle.std.proofs.Common.{Option, Some, None, inl, inr, refl, sym, ap, subst, arith, ◌∙◌}
use Rattle.std.specs.Prelude.{◌⊎◌, All, slice_get, option_and_then}
use Rattle.std.specs.Prelude.{unwrap_or}
use Rattle.std.proofs.lemmas.Bool.{cases_lt}
use Rattle.std.proofs.lemmas.Option.{same_Some}
use Rattle.mw_text.proofs.Lists.{all_found, item_there}
use Rattle.mw_text.specs.declared.address.Addr.{Addr}
use Rattle.mw_text.specs.Address.{prefix_at}
use Rattle.ios_ast.specs.declared.file.File.{File}
use Rattle.route_record.specs.declared.Environment.{Environment}
use Rattle.route_record.specs.declared.Failures.{Failures}
use Rattle.route_record.specs.declared.Slot.{Slot}
use Rattle.route_record.specs.declared.Tables.{Tables}
use Rattle.route_record.specs.declared.TheConstants.{LENGTHS}
use Rattle.route_record.specs.Fits.{FitsSlot}
use Rattle.route_record.specs.Places.{slot_at}
use Rattle.net_parts.specs.Stable.{IsStableSlot, Stable}
use Rattle.plan_places.specs.Tables.{empty_slot}
use Rattle.plan_places.proofs.Tabulated.{none_past, rows-all, tabulated-at, tabulated-length}
use Rattle.alike_prefixes.specs.Alike.{AlikePrefixes}
use Rattle.alike_prefixes.specs.Moving.{ArePlain, IsEmptyAt, IsMove, moved_environment, moved_slot, moved_tables}
use Rattle.alike_prefixes.proofs.Alike.{alike_bare, alike_itself, stable_alike}
use Rattle.alike_prefixes.proofs.Announced.{announced_emptied, announced_moved}
use Rattle.alike_prefixes.proofs.Emptied.{empty_stable}

module _ (files : List File) (d : Addr) (to from : ℕ → Option ℕ) (moves : IsMove files d to from)
    (tables : Tables) (size : length tables.slots ≡ LENGTHS * length files) where
  abbrev after : Tables
  after = moved_tables files from tables

  pub slot_moved : (l m router : ℕ) → to l ≡ Some m → slot_at tables router l ≡ slot_at after router m
  slot_moved l m router goes = by (cases_lt router (length files)) where
    here : (m < LENGTHS)
    here = (moves.inside l m goes).1

    by : (router < length files) ⊎ (length files ≤ router) → slot_at tables router l ≡ slot_at after router m
    by (inl below) =
        let short : l < LENGTHS = (moves.inside l m goes).0 in
        let found = item_there tables.slots (LENGTHS * router + l) (omega (arith, below, short, size)) in
        found.1 ∙ sym (tabulated-at (moved_slot tables from) (length files) router m below here
        ∙ ap (λ o. Some (unwrap_or (option_and_then (slot_at tables router) o) empty_slot)) (moves.forth l m goes)
        ∙ ap (λ o. Some (unwrap_or o empty_slot)) found.1)
    by (inr past) =
        none_past tables (length files) router l size past
        ∙ sym (none_past after (length files) router m (tabulated-length (moved_slot tables from) (length files)) past)

  pub slot_emptied : (m router : ℕ) (slot : Slot) → m < LENGTHS → from m ≡ None → slot_at after router m ≡ Some slot →
      slot ≡ empty_slot
  slot_emptied m router slot short none here = by (cases_lt router (length files)) where
    by : (router < length files) ⊎ (length files ≤ router) → slot ≡ empty_slot
    by (inl below) = same_Some slot empty_slot (sym here
        ∙ tabulated-at (moved_slot tables from) (length files) router m below short
        ∙ ap (λ o. Some (unwrap_or (option_and_then (slot_at tables router) o) empty_slot)) none)
    by (inr past) =
        let none' : slot_at after router m ≡ None =
        none_past after (length files) router m (tabulated-length (moved_slot tables from) (length files)) past in
        absurd cc

  -- ---- stable

  all_fit : All FitsSlot tables.slots → (router len : ℕ) → FitsSlot (moved_slot tables from router len)
  all_fit fits router len = by (from len) where
    by_slot : (o : Option Slot) → ((slot : Slot) → o ≡ Some slot → FitsSlot slot) → FitsSlot (unwrap_or o empty_slot)
    by_slot None each = record { ospf = tt; bgp = tt; rib = tt }
    by_slot (Some slot) each = each slot refl

    by : (o : Option ℕ) → FitsSlot (unwrap_or (option_and_then (slot_at tables router) o) empty_slot)
    by None = by_slot None (λ slot none. absurd cc)
    by (Some l) = by_slot (slot_at tables router l)
        (λ slot here. all_found FitsSlot tables.slots (LENGTHS * router + l) slot fits here)

  -- a length goes to one that is alike
  alike_at : (l m : ℕ) → to l ≡ Some m → AlikePrefixes files (prefix_at d l) (prefix_at d m)
  alike_at l m goes = by (moves.alike l m goes) where
    by : (l ≡ m) ⊎ ArePlain files d l m → AlikePrefixes files (prefix_at d l) (prefix_at d m)
    by (inl same) =
        subst (λ n. AlikePrefixes files (prefix_at d l) (prefix_at d n)) same (alike_itself files (prefix_at d l))
    by (inr plain) = alike_bare files (prefix_at d l) (prefix_at d m) plain.0 plain.1 plain.2

  module _ (environment : Environment) where
    abbrev around : Environment
    around = moved_environment to environment

    -- where nothing comes, nothing stands and nothing is announced
    pub emptied_at : (m : ℕ) → m < LENGTHS → from m ≡ None → IsEmptyAt around after m
    emptied_at m short none = record {
      slots = λ router slot there. slot_emptied m router slot short none there;
      announced = λ end. announced_emptied files d to from moves m end environment.announced none;
    }

    pub moved_stable : (failures : Failures) → Stable files d failures environment tables →
        Stable files d failures around after
    moved_stable failures stable = record {
      size = tabulated-length (moved_slot tables from) (length files);
      fits = rows-all FitsSlot (moved_slot tables from) 0 (length files) (all_fit stable.fits);
      equations = each;
    } where
      each : (router len : ℕ) (file : File) (slot : Slot) → slice_get files router ≡ Some file → len < LENGTHS →
          slot_at after router len ≡ Some slot →
          IsStableSlot files failures around after router file (prefix_at d len) slot
      each router len file slot at short here = by (from len) refl where
        by : (o : Option ℕ) → from len ≡ o →
            IsStableSlot files failures around after router file (prefix_at d len) slot
        by None none = subst (IsStableSlot files failures around after router file (prefix_at d len))
            (sym (slot_emptied len router slot short none here))
            (empty_stable files failures around after (prefix_at d len) (moves.emptied len short none)
            (emptied_at len short none) router file at)
        by (Some l) comes =
            let goes : to l ≡ Some len = moves.back l len comes in
            stable_alike files (prefix_at d l) (prefix_at d len) (alike_at l len goes) tables after environment around
            (λ r. slot_moved l len r goes) refl
            (λ end peer. announced_moved files d to from moves l len end peer environment.announced goes) failures
            router file slot at
            (stable.equations router l file slot at (moves.inside l len goes).0
            (slot_moved l len router goes ∙ here))
