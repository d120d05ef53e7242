-- Tables that were written are read back.
use Rattle.std.proofs.Common.{◌≡◌, ℕ, suc, ◌+◌, ◌-◌, ◌*◌, ◌/◌, ◌<◌, ◌≤◌, ◌||◌, Bool, true, false, cond, List, [], ◌∷◌}
use Rattle.std.proofs.Common.{◌++◌, length, Option, Some, None, is_some, Result, Ok, refl, ap, sym, subst, ◌∙◌, arith}
use Rattle.std.proofs.Common.{append_assoc}
use Rattle.std.proofs.lemmas.Bool.{or_parts}
use Rattle.std.proofs.lemmas.List.{append-nil, length-append}
use Rattle.std.specs.Prelude.{codes, decimal, replicate, slice_get}
use Rattle.ios_ast.specs.declared.file.File.{File}
use Rattle.route_record.specs.declared.Slot.{Slot}
use Rattle.route_record.specs.declared.TheConstants.{LENGTHS}
use Rattle.serde_json.specs.Data.{Data}
use Rattle.serde_json.specs.Find.{get}
use Rattle.serde_json.specs.View.{items_of}
use Rattle.cex_json.specs.declared.refused.CexRefused.{CexRefused}
use Rattle.cex_json.specs.Entries.{empty_slot, entry_path, filled, slot_at, slot_step, slots_in}
use Rattle.cex_json.specs.Fields.{◌>>=◌, in_order, object_in, required}
use Rattle.cex_json.specs.Json.{array_of}
use Rattle.cex_json.specs.Parts.{has_part, parts_data, slots_from}
use Rattle.cex_json.specs.Writable.{AreNamed, AreWritableTables, IsWritableSlot}
use Rattle.net_parts.proofs.Defined.{none_here}
use Rattle.cex_json.proofs.Filling.{one_more}
use Rattle.cex_json.proofs.Sizes.{filled_length}
use Rattle.cex_json.proofs.WrittenSlots.{slot_back}

-- ---- a slot

entry_object : (files : List File) (place : ℕ) (slot : Slot) →
    object_in (Some (parts_data files place slot)) ≡ Some (parts_data files place slot)
unfolding parts_data
entry_object files place slot = refl

-- a slot that is not written is empty
no_part : (slot : Slot) → has_part slot ≡ false → slot ≡ empty_slot
no_part slot none =
    let bgp = or_parts (is_some slot.bgp) (is_some slot.ospf || is_some slot.rib) none in
    let others = or_parts (is_some slot.ospf) (is_some slot.rib) bgp.1 in
    let b = none_here slot.bgp bgp.0 in
    let o = none_here slot.ospf others.0 in
    let r = none_here slot.rib others.1 in λ i. record { ospf = o i; bgp = b i; rib = r i }

step_back : (files : List File) (place : ℕ) (slot : Slot) (so_far : List Slot) (i : ℕ) → AreNamed files →
    place < LENGTHS * length files → length so_far ≤ place → IsWritableSlot files (place / LENGTHS) slot →
    slot_step files i so_far (parts_data files place slot) ≡ Ok (filled so_far place ++ slot ∷ [])
step_back files place slot so_far i named within behind fits =
    ap (λ o. required (codes "tables/") (decimal i) o >>= slot_at files (entry_path (codes "tables/") i) so_far)
    (entry_object files place slot)
    ∙ slot_back files place slot so_far (entry_path (codes "tables/") i) named within behind fits

-- ---- slots with empty ones behind them

filled_whole : (xs : List Slot) (place : ℕ) → length xs ≡ place → filled xs place ≡ xs
filled_whole xs place whole =
    let none : place - length xs ≡ 0 = omega arith in ap (λ n. xs ++ replicate n empty_slot) none ∙ append-nil xs

filled_more : (so_far : List Slot) (place : ℕ) → length so_far ≤ place →
    filled so_far (place + 1) ≡ filled so_far place ++ empty_slot ∷ []
filled_more so_far place behind =
    let more : place + 1 - length so_far ≡ (place - length so_far) + 1 = omega arith in
    ap (λ n. so_far ++ replicate n empty_slot) more ∙ sym (one_more so_far (place - length so_far) empty_slot)

-- with the slot of that place there are one more
one_longer : (so_far : List Slot) (place : ℕ) (slot : Slot) → length so_far ≤ place →
    length (filled so_far place ++ slot ∷ []) ≡ place + 1
one_longer so_far place slot behind =
    let size = length-append (filled so_far place) (slot ∷ []) ∙ ap (λ n. n + 1) (filled_length so_far place) in
    let full : length so_far + (place - length so_far) + 1 ≡ place + 1 = omega arith in size ∙ full

-- ---- all slots

-- what is read of entries, with empty slots behind it
abbrev read_from : List File → ℕ → List Slot → List Data → Result (List Slot) CexRefused
read_from files i so_far entries =
    in_order (slot_step files) i so_far (items_of entries) >>= λ slots. Ok (filled slots (LENGTHS * length files))

-- the slots from that place on
rest_back : (files : List File) (rest : List Slot) (place i : ℕ) (so_far : List Slot) → AreNamed files →
    length so_far ≤ place → place + length rest ≡ LENGTHS * length files →
    ((k : ℕ) (slot : Slot) → slice_get rest k ≡ Some slot → IsWritableSlot files ((place + k) / LENGTHS) slot) →
    read_from files i so_far (slots_from files place rest) ≡ Ok (filled so_far place ++ rest)
rest_back files [] place i so_far named behind whole fits =
    let same : LENGTHS * length files ≡ place = omega arith in
    ap (λ n. Ok (filled so_far n)) same ∙ ap (λ xs. Ok xs) (sym (append-nil (filled so_far place)))
rest_back files (slot ∷ rest) place i so_far named behind whole fits =
    by_part (has_part slot) refl
    (λ next size. rest_back files rest (place + 1) (i + 1) next named (omega arith) (omega arith) later)
    (rest_back files rest (place + 1) i so_far named (omega arith) (omega arith) later)
  where
    later : (k : ℕ) (s : Slot) → slice_get rest k ≡ Some s → IsWritableSlot files ((place + 1 + k) / LENGTHS) s
    later k s there =
        let same : place + suc k ≡ place + 1 + k = omega arith in
        subst (λ n. IsWritableSlot files (n / LENGTHS) s) same (fits (suc k) s there)

    here : IsWritableSlot files (place / LENGTHS) slot
    here =
        let same : place + 0 ≡ place = omega arith in
        subst (λ n. IsWritableSlot files (n / LENGTHS) slot) same (fits 0 slot refl)

    others : List Data
    others = slots_from files (place + 1) rest

    by_part : (b : Bool) → has_part slot ≡ b →
        ((next : List Slot) → length next ≡ place + 1 →
        read_from files (i + 1) next others ≡ Ok (filled next (place + 1) ++ rest)) →
        read_from files i so_far others ≡ Ok (filled so_far (place + 1) ++ rest) →
        read_from files i so_far (cond b (parts_data files place slot ∷ []) [] ++ others)
        ≡ Ok (filled so_far place ++ slot ∷ rest)
    by_part true is taken passed =
        let next = filled so_far place ++ slot ∷ [] in
        let size = one_longer so_far place slot behind in
        ap (λ r. (r >>= λ xs. in_order (slot_step files) (i + 1) xs (items_of others))
        >>= λ slots. Ok (filled slots (LENGTHS * length files)))
        (step_back files place slot so_far i named (omega arith) behind here)
        ∙ taken next size ∙ ap (λ xs. Ok (xs ++ rest)) (filled_whole next (place + 1) size)
        ∙ ap (λ xs. Ok xs) (append_assoc (filled so_far place) (slot ∷ []) rest)
    by_part false is taken passed =
        passed ∙ ap (λ xs. Ok (xs ++ rest)) (filled_more so_far place behind)
        ∙ ap (λ xs. Ok xs) (append_assoc (filled so_far place) (empty_slot ∷ []) rest)
        ∙ ap (λ s. Ok (filled so_far place ++ s ∷ rest)) (sym (no_part slot is))

-- tables with a slot for each router and length
pub tables_back : (files : List File) (slots : List Slot) (d : Data) → AreNamed files → AreWritableTables files slots →
    get (codes "tables") d ≡ Some (array_of (slots_from files 0 slots)) → slots_in files d ≡ Ok slots
unfolding slots_in
tables_back files slots d named tables there =
    rw there (rest_back files slots 0 0 [] named (omega arith) whole fits)
  where
    whole : 0 + length slots ≡ LENGTHS * length files
    whole = let size = tables.size in omega arith

    fits : (k : ℕ) (slot : Slot) → slice_get slots k ≡ Some slot → IsWritableSlot files ((0 + k) / LENGTHS) slot
    fits k slot here =
        let same : k ≡ 0 + k = omega arith in
        subst (λ n. IsWritableSlot files (n / LENGTHS) slot) same (tables.slots k slot here)
