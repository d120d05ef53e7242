-- A slot that was written is read back.
use Rattle.std.proofs.Common.{◌≡◌, ℕ, ◌+◌, ◌-◌, ◌*◌, ◌/◌, ◌%◌, ◌<◌, ◌≤◌, ◌==◌, Bool, true, false, List, [], ◌∷◌, ◌++◌}
use Rattle.std.proofs.Common.{length, Option, Some, None, Result, Ok, refl, ap, sym, ◌∙◌, arith}
use Rattle.std.proofs.lemmas.Bool.{le-leb}
use Rattle.std.specs.Prelude.{IfSome, codes, nat_le, option_map}
use Rattle.ios_ast.specs.declared.file.File.{File}
use Rattle.route_record.specs.declared.BgpRec.{BgpRec}
use Rattle.route_record.specs.declared.OspfRec.{OspfRec}
use Rattle.route_record.specs.declared.RibEntry.{RibEntry}
use Rattle.route_record.specs.declared.Slot.{Slot}
use Rattle.route_record.specs.declared.TheConstants.{LENGTHS}
use Rattle.serde_json.specs.Data.{Data}
use Rattle.serde_json.specs.Find.{get}
use Rattle.cex_json.specs.declared.refused.CexRefused.{CexRefused}
use Rattle.cex_json.specs.Entries.{bgp_in, filled, ospf_in, part_in, rib_in, router_in, slot_at}
use Rattle.cex_json.specs.Fields.{greatest, object_in}
use Rattle.cex_json.specs.Json.{number_of, text_of}
use Rattle.cex_json.specs.Parts.{bgp_data, ospf_data, parts_data, rib_data, router_name}
use Rattle.cex_json.specs.Writable.{AreNamed, IsWritable, IsWritableSlot}
use Rattle.cex_json.proofs.Written.{ospf_back, rib_back}
use Rattle.cex_json.proofs.WrittenRoutes.{bgp_back}

-- what the fields of a written slot are
got : (files : List File) (place : ℕ) (slot : Slot) (bgp : Option BgpRec) (ospf : Option OspfRec)
    (rib : Option RibEntry) → slot.bgp ≡ bgp → slot.ospf ≡ ospf → slot.rib ≡ rib →
    (get (codes "bgp") (parts_data files place slot) ≡ option_map bgp_data slot.bgp)
    × (get (codes "len") (parts_data files place slot) ≡ Some (number_of (place % LENGTHS)))
    × (get (codes "ospf") (parts_data files place slot) ≡ option_map ospf_data slot.ospf)
    × (get (codes "rib") (parts_data files place slot) ≡ option_map rib_data slot.rib)
    × (get (codes "router") (parts_data files place slot) ≡ Some (text_of (router_name files (place / LENGTHS))))
unfolding parts_data
got files place slot None None None b o r = rw b (rw o (rw r (refl, refl, refl, refl, refl)))
got files place slot None None (Some e) b o r = rw b (rw o (rw r (refl, refl, refl, refl, refl)))
got files place slot None (Some h) None b o r = rw b (rw o (rw r (refl, refl, refl, refl, refl)))
got files place slot None (Some h) (Some e) b o r = rw b (rw o (rw r (refl, refl, refl, refl, refl)))
got files place slot (Some x) None None b o r = rw b (rw o (rw r (refl, refl, refl, refl, refl)))
got files place slot (Some x) None (Some e) b o r = rw b (rw o (rw r (refl, refl, refl, refl, refl)))
got files place slot (Some x) (Some h) None b o r = rw b (rw o (rw r (refl, refl, refl, refl, refl)))
got files place slot (Some x) (Some h) (Some e) b o r = rw b (rw o (rw r (refl, refl, refl, refl, refl)))

-- a part that may be absent
part_back : {A : Type 0} (read : List ℕ → Data → Result A CexRefused) (write : A → Data) (at name : List ℕ)
    (part : Option A) → ((x : A) → object_in (Some (write x)) ≡ Some (write x))
    → ((path : List ℕ) → IfSome part (λ x. read path (write x) ≡ Ok x))
    → part_in read at name (option_map write part) ≡ Ok part
part_back read write at name None is reads = refl
part_back read write at name (Some x) is reads = rw (is x) (rw (reads _) refl)

bgp_object : (held : BgpRec) → object_in (Some (bgp_data held)) ≡ Some (bgp_data held)
unfolding bgp_data
bgp_object held = refl

ospf_object : (held : OspfRec) → object_in (Some (ospf_data held)) ≡ Some (ospf_data held)
unfolding ospf_data
ospf_object held = refl

rib_object : (entry : RibEntry) → object_in (Some (rib_data entry)) ≡ Some (rib_data entry)
unfolding rib_data
rib_object entry = refl

bgp_part : (files : List File) (router : ℕ) (path : List ℕ) (part : Option BgpRec) →
    IfSome part (IsWritable files router) →
    IfSome part (λ held. bgp_in files (Some router) path (bgp_data held) ≡ Ok held)
bgp_part files router path None fits = tt
bgp_part files router path (Some held) fits = bgp_back files router path held fits

ospf_part : (path : List ℕ) (part : Option OspfRec) →
    IfSome part (λ held. (held.cost ≤ greatest) × (held.metric ≤ greatest)) →
    IfSome part (λ held. ospf_in path (ospf_data held) ≡ Ok held)
ospf_part path None fits = tt
ospf_part path (Some held) fits = ospf_back path held fits.0 fits.1

rib_part : (path : List ℕ) (part : Option RibEntry) → IfSome part (λ entry. entry.distance ≤ 255) →
    IfSome part (λ entry. rib_in path (rib_data entry) ≡ Ok entry)
rib_part path None fits = tt
rib_part path (Some entry) fits = rib_back path entry fits

router_back : (files : List File) (place : ℕ) (slot : Slot) → AreNamed files → place < LENGTHS * length files →
    router_in files (parts_data files place slot) ≡ Some (place / LENGTHS)
unfolding router_in
router_back files place slot named within =
    let there = got files place slot slot.bgp slot.ospf slot.rib refl refl refl in
    rw there.4 (named (place / LENGTHS) (omega arith))

-- a slot of a place behind those so far
pub slot_back : (files : List File) (place : ℕ) (slot : Slot) (so_far : List Slot) (at : List ℕ) → AreNamed files →
    place < LENGTHS * length files → length so_far ≤ place → IsWritableSlot files (place / LENGTHS) slot →
    slot_at files at so_far (parts_data files place slot) ≡ Ok (filled so_far place ++ slot ∷ [])
unfolding slot_at
slot_back files place slot so_far at named within behind fits =
    let there = got files place slot slot.bgp slot.ospf slot.rib refl refl refl in
    let router = place / LENGTHS in
    let whole : LENGTHS * (place / LENGTHS) + place % LENGTHS ≡ place = omega arith in
    let short : place % LENGTHS ≤ 32 = omega arith in
    rw (router_back files place slot named within)
    (rw there.0 (rw (part_back (bgp_in files (Some router)) bgp_data at (codes "bgp") slot.bgp bgp_object
    (λ path. bgp_part files router path slot.bgp fits.bgp))
    (rw there.1 (rw (le-leb (place % LENGTHS) 32 short) (rw whole (rw (le-leb (length so_far) place behind)
    (rw there.2 (rw (part_back ospf_in ospf_data at (codes "ospf") slot.ospf ospf_object
    (λ path. ospf_part path slot.ospf fits.ospf))
    (rw there.3 (rw (part_back rib_in rib_data at (codes "rib") slot.rib rib_object
    (λ path. rib_part path slot.rib fits.rib)) (ap (λ n. Ok (filled so_far n ++ slot ∷ [])) whole)))))))))))
