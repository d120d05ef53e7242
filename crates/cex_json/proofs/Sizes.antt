-- Tables that are read have a slot for each router and length.
use Rattle.std.proofs.Common.{◌≡◌, ℕ, ◌+◌, ◌-◌, ◌*◌, ◌<◌, ◌≤◌, List, [], ◌∷◌, length, true, nat_le, Option, Some}
use Rattle.std.proofs.Common.{option_and_then, Ok, sym, ap, ◌∙◌, subst, arith}
use Rattle.std.specs.Prelude.{codes, decimal, position, replicate, slice_get}
use Rattle.std.specs.Option.{option_map_or}
use Rattle.std.proofs.lemmas.Bool.{leb-true}
use Rattle.std.proofs.lemmas.List.{length-append, length-replicate}
use Rattle.std.proofs.lemmas.List.Quantifiers.{position-Some}
use Rattle.mw_text.specs.Text.{same_text}
use Rattle.ios_ast.specs.declared.file.File.{File}
use Rattle.route_record.specs.declared.Slot.{Slot}
use Rattle.route_record.specs.declared.TheConstants.{LENGTHS}
use Rattle.net_interfaces.proofs.Options.{chained}
use Rattle.question_lang.specs.declared.question.Question.{Question}
use Rattle.question_lang.specs.Asking.{router_named}
use Rattle.serde_json.specs.Data.{Data}
use Rattle.serde_json.specs.Find.{as_number, as_u64, get}
use Rattle.cex_json.specs.declared.counterexample.Counterexample.{Counterexample}
use Rattle.cex_json.specs.Entries.{bgp_in, empty_slot, entry_path, filled, ospf_in, part_in, rib_in, router_in}
use Rattle.cex_json.specs.Entries.{slot_at, slot_place, slot_step, slots_in}
use Rattle.cex_json.specs.Fields.{in_order, members_in, number_in, object_in, passing, place_of, required, text_in}
use Rattle.cex_json.specs.Reading.{asked_place, cex_in, limits, question_named, surroundings_in, walk_for}
use Rattle.cex_json.proofs.Inversion.{bound, field, kept, no_value, passed, same_ok}

router_within : (files : List File) (d : Data) (router : ℕ) → router_in files d ≡ Some router → router < length files
unfolding router_in
router_within files d router known =
    let named = chained (router_named files) (text_in (get (codes "router") d)) router known in
    by_files named.0 files named.2
  where
    by_files : (name : List ℕ) (all : List File) → position (λ file. same_text file.hostname name) all ≡ Some router
        → router < length all
    by_files name [] found = absurd (no_value router found)
    by_files name (file ∷ rest) found =
        (position-Some (λ f. same_text f.hostname name) (file ∷ rest) router file found).0

-- a number that is read is at most the bound
pub number_small : (most : ℕ) (found : Option Data) (n : ℕ) → number_in most found ≡ Some n → n ≤ most
number_small most found n same =
    leb-true n most (passed (λ k. nat_le k most)
    (option_and_then (λ v. option_and_then as_u64 (as_number v)) found) n same).1

-- how many slots there are up to a place
pub filled_length : (so_far : List Slot) (place : ℕ) → length (filled so_far place) ≡ length so_far
    + (place - length so_far)
filled_length so_far place =
    length-append so_far (replicate (place - length so_far) empty_slot)
    ∙ ap (λ n. length so_far + n) (length-replicate (place - length so_far) empty_slot)

fits_below : (n router len so_far : ℕ) → router < n → len ≤ 32 → so_far ≤ 33 * router + len →
    so_far + ((33 * router + len) - so_far) + 1 ≤ 33 * n
fits_below n router len so_far within short free = omega arith

-- a slot more is within
slot_within : (files : List File) (at : List ℕ) (so_far : List Slot) (d : Data) (next : List Slot) →
    slot_at files at so_far d ≡ Ok next → length next ≤ LENGTHS * length files
unfolding slot_at
slot_within files at so_far d next same =
    let bgp = bound (part_in (bgp_in files (router_in files d)) at (codes "bgp") (get (codes "bgp") d)) _ next same in
    let len = bound (required at (codes "len")
    (passing (slot_place so_far (router_in files d)) (number_in 32 (get (codes "len") d)))) _ next bgp.2 in
    let ospf = bound (part_in ospf_in at (codes "ospf") (get (codes "ospf") d)) _ next len.2 in
    let rib = bound (part_in rib_in at (codes "rib") (get (codes "rib") d)) _ next ospf.2 in
    let router = bound (required at (codes "router") (router_in files d)) _ next rib.2 in
    let is = same_ok _ next router.2 in
    let known = field at (codes "router") (router_in files d) router.0 router.1 in
    let tested = passed (slot_place so_far (router_in files d)) (number_in 32 (get (codes "len") d)) len.0
    (field at (codes "len")
    (passing (slot_place so_far (router_in files d)) (number_in 32 (get (codes "len") d))) len.0 len.1) in
    let short = number_small 32 (get (codes "len") d) len.0 tested.0 in
    let place = LENGTHS * router.0 + len.0 in
    let free = leb-true (length so_far) place
    (ap (λ r. option_map_or (λ k. nat_le (length so_far) (LENGTHS * k + len.0)) r true) (sym known) ∙ tested.1) in
    let slot : Slot = record { ospf = ospf.0; bgp = bgp.0; rib = rib.0 } in
    let size = length-append (filled so_far place) (slot ∷ []) ∙ ap (λ n. n + 1) (filled_length so_far place) in
    let P : ℕ → Type 0 = λ n. n ≤ LENGTHS * length files in
    subst P (sym size ∙ ap length is)
    (fits_below (length files) router.0 len.0 (length so_far) (router_within files d router.0 known) short free)

step_within : (files : List File) (i : ℕ) (so_far : List Slot) (d : Data) (next : List Slot) →
    length so_far ≤ LENGTHS * length files → slot_step files i so_far d ≡ Ok next → length next ≤ LENGTHS * length files
step_within files i so_far d next before same =
    let entry = bound (required (codes "tables/") (decimal i) (object_in (Some d)))
    (slot_at files (entry_path (codes "tables/") i) so_far) next same in
    slot_within files (entry_path (codes "tables/") i) so_far entry.0 next entry.2

slots_fit : (files : List File) (d : Data) (slots : List Slot) → slots_in files d ≡ Ok slots → length slots
    ≡ LENGTHS * length files
unfolding slots_in
slots_fit files d slots same =
    let members = bound (members_in [] (codes "tables") d) _ slots same in
    let all = bound (in_order (slot_step files) 0 [] members.0) _ slots members.2 in
    let is = same_ok _ slots all.2 in
    let P : List Slot → Type 0 = λ xs. length xs ≤ LENGTHS * length files in
    let within = kept P (slot_step files) (step_within files) 0 [] members.0 all.0 (omega arith) all.1 in
    let size = filled_length all.0 (LENGTHS * length files) in
    let full : length all.0 + (LENGTHS * length files - length all.0)
    ≡ LENGTHS * length files = omega (arith, within) in
    sym (ap length is) ∙ size ∙ full

-- the tables that are read
pub cex_slots : (files : List File) (questions : List Question) (d : Data) (cex : Counterexample) →
    cex_in files questions d ≡ Ok cex → length cex.tables.slots ≡ LENGTHS * length files
unfolding cex_in
cex_slots files questions d cex same =
    let around = bound (surroundings_in files (limits questions d) d) _ cex same in
    let place = bound (required [] (codes "question") (asked_place questions d)) _ cex around.2 in
    let slots = bound (slots_in files d) _ cex place.2 in
    let walk = bound (walk_for files (slice_get questions place.0) d) _ cex slots.2 in
    let is = same_ok _ cex walk.2 in
    sym (ap (λ (c : Counterexample). length c.tables.slots) is) ∙ slots_fit files d slots.0 slots.1

place_within : (questions : List Question) (name : List ℕ) (place : ℕ) → question_named questions name ≡ Some place
    → place < length questions
unfolding question_named place_of
place_within [] name place found = absurd (no_value place found)
place_within (question ∷ rest) name place found =
    let here = passed (λ k. nat_le k _) (position (λ q. same_text q.name name) (question ∷ rest)) place found in
    (position-Some (λ q. same_text q.name name) (question ∷ rest) place question here.0).0

asked_within : (questions : List Question) (d : Data) (place : ℕ) → asked_place questions d ≡ Some place
    → place < length questions
unfolding asked_place
asked_within questions d place asked =
    let named = chained (question_named questions) (text_in (get (codes "question") d)) place asked in
    place_within questions named.0 place named.2

-- the question is one of the list
pub cex_question : (files : List File) (questions : List Question) (d : Data) (cex : Counterexample) →
    cex_in files questions d ≡ Ok cex → cex.question < length questions
unfolding cex_in
cex_question files questions d cex same =
    let around = bound (surroundings_in files (limits questions d) d) _ cex same in
    let place = bound (required [] (codes "question") (asked_place questions d)) _ cex around.2 in
    let slots = bound (slots_in files d) _ cex place.2 in
    let walk = bound (walk_for files (slice_get questions place.0) d) _ cex slots.2 in
    let is = same_ok _ cex walk.2 in
    let P : ℕ → Type 0 = λ n. n < length questions in
    subst P (ap (λ (c : Counterexample). c.question) is)
    (asked_within questions d place.0 (field [] (codes "question") (asked_place questions d) place.0 place.1))
