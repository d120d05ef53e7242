-- The slots of all routers, by their places.
use Rattle.std.proofs.Common.{◌≡◌, ℕ, true, ◌+◌, ◌*◌, ◌/◌, ◌%◌, ◌<◌, List, [], ◌++◌, length, Option, Some, None, refl}
use Rattle.std.proofs.Common.{ap, ap₂, arith, sym, ◌∙◌, subst, get_or}
use Rattle.std.specs.Prelude.{All, MatchOption, option_and_then, slice_get}
use Rattle.std.proofs.lemmas.List.{append-nil}
use Rattle.std.proofs.lemmas.Option.{slice_get_within, get_or_from_slice_get}
use Rattle.mw_text.proofs.Lists.{list_ext, item_there}
use Rattle.mw_text.specs.declared.address.Addr.{Addr}
use Rattle.mw_text.specs.declared.address.Prefix.{Prefix}
use Rattle.mw_text.specs.Address.{prefix_at}
use Rattle.ios_ast.specs.declared.bgp.Bgp.{Bgp}
use Rattle.ios_ast.specs.declared.file.File.{File}
use Rattle.ios_ast.specs.declared.ospf.Ospf.{Ospf}
use Rattle.route_record.specs.declared.Environment.{Environment}
use Rattle.route_record.specs.declared.BgpRec.{BgpRec}
use Rattle.route_record.specs.declared.OspfRec.{OspfRec}
use Rattle.route_record.specs.declared.RibEntry.{RibEntry}
use Rattle.route_record.specs.declared.Slot.{Slot}
use Rattle.route_record.specs.Fits.{FitsSlot}
use Rattle.route_record.specs.declared.Tables.{Tables}
use Rattle.net_interfaces.specs.declared.interfaces.Addressed.{Addressed}
use Rattle.net_interfaces.specs.Interfaces.{addressed}
use Rattle.net_parts.proofs.Defined.{no_protocol}
use Rattle.net_parts.specs.Protocols.{runs_no_protocol}
use Rattle.net_parts.specs.Decisions.{DecidedByBgp}
use Rattle.net_parts.specs.Entries.{bgp_entry, entry_with, ospf_entry, own_is_as_good, table_entry}
use Rattle.net_parts.specs.OspfRoutes.{held_by_ospf}
use Rattle.net_parts.specs.Routing.{candidates, least_distance, open_interfaces}
use Rattle.std.specs.Option.{option_to_list}
use Rattle.net_parts.specs.World.{no_failures}
use Rattle.route_record.specs.declared.TheConstants.{LENGTHS}
use Rattle.route_record.specs.Places.{slot_at}
use Rattle.net_parts.specs.Stable.{IsStableSlot, Stable}
use Rattle.proto_rib.specs.Unfailed.{slot_over, IsSlotFor, IsSlotAt}

slot_by_parts : (a b : Slot) → a.ospf ≡ b.ospf → a.bgp ≡ b.bgp → a.rib ≡ b.rib → a ≡ b
slot_by_parts a b ospf bgp rib =
    let with_ospf : Option OspfRec → Slot = λ x. record { ospf = x; bgp = a.bgp; rib = a.rib } in
    let with_bgp : Option BgpRec → Slot = λ x. record { ospf = b.ospf; bgp = x; rib = a.rib } in
    let with_rib : Option RibEntry → Slot = λ x. record { ospf = b.ospf; bgp = b.bgp; rib = x } in
    ap with_ospf ospf ∙ ap with_bgp bgp ∙ ap with_rib rib

-- a place is a router and a length
pub mul-add-div-len : (router len : ℕ) → len < LENGTHS → (LENGTHS * router + len) / LENGTHS ≡ router
mul-add-div-len router len in_range = omega arith

pub mul-add-mod-len : (router len : ℕ) → len < LENGTHS → (LENGTHS * router + len) % LENGTHS ≡ len
mul-add-mod-len router len in_range = omega arith

-- the slot at a place, by its router and its length
slot_for : (files : List File) (d : Addr) (k router len : ℕ) (slot : Slot) →
    k / LENGTHS ≡ router → k % LENGTHS ≡ len → IsSlotAt files d k slot → IsSlotFor files d router len slot
slot_for files d k router len slot place rest found =
    let P : ℕ → Type 0 = λ r. IsSlotFor files d r len slot in
    let Q : ℕ → Type 0 = λ l. IsSlotFor files d (k / LENGTHS) l slot in
    subst P place (subst Q rest found)

-- the entry of a slot without OSPF and BGP parts is that of the connected and static routes
plain_entry : (files : List File) (router : ℕ) (file : File) (p : Prefix) (slot : Slot) → slot.ospf ≡ None → slot.bgp
    ≡ None →
    table_entry files no_failures router file p slot
    ≡ least_distance (candidates (open_interfaces (addressed files) router) file.statics p)
unfolding entry_with
plain_entry files router file p slot ospf bgp =
    let plain : List RibEntry = candidates (open_interfaces (addressed files) router) file.statics p in
    let none : option_to_list (bgp_entry files router slot) ≡ [] = rw bgp refl in
    let own : option_to_list (ospf_entry (own_is_as_good files no_failures router file p slot) slot)
    ≡ [] = rw ospf refl in
    ap₂ (λ b o. least_distance (plain ++ b ++ o)) none own
    ∙ ap least_distance (append-nil (plain ++ []) ∙ append-nil plain)

-- slots that are those of their places are a stable routing
pub stable-from_places : (files : List File) (d : Addr) (slots : List Slot) (environment : Environment)
    → runs_no_protocol files ≡ true →
    length slots ≡ LENGTHS * length files → All FitsSlot slots →
    ((k : ℕ) (slot : Slot) → slice_get slots k ≡ Some slot → IsSlotAt files d k slot) →
    Stable files d no_failures environment (record { slots = slots })
stable-from_places files d slots environment network size fits each = record {
  size = size;
  fits = fits;
  equations = λ router len file slot is_file in_range is_slot.
      let k : ℕ = LENGTHS * router + len in
      let found : slot ≡ slot_over (addressed files) router file (prefix_at d len) =
      slot_for files d k router len slot (mul-add-div-len router len in_range) (mul-add-mod-len router len in_range)
      (each k slot is_slot) file is_file in
      let none = no_protocol files network router file is_file in
      let Held : Option Ospf → Type 0 = λ o.
      slot.ospf ≡ option_and_then
      (λ process. held_by_ospf files no_failures (record { slots = slots }) router file process (prefix_at d len)) o in
      let Decided : Option Bgp → Type 0 = λ o.
      MatchOption o (slot.bgp ≡ None)
      (λ process. DecidedByBgp files no_failures environment (record { slots = slots }) router file process
      (prefix_at d len) slot.bgp) in
      record {
        ospf = subst Held (sym none.0) (ap (λ s. s.ospf) found);
        bgp = subst Decided (sym none.1) (ap (λ s. s.bgp) found);
        rib = ap (λ s. s.rib) found
            ∙ sym (plain_entry files router file (prefix_at d len) slot (ap (λ s. s.ospf) found)
            (ap (λ s. s.bgp) found));
      };
}

-- a slot of a stable routing is determined by its three equations
pub slot-of_stable : (files : List File) (d : Addr) (environment : Environment) (tables : Tables)
    → runs_no_protocol files ≡ true →
    Stable files d no_failures environment tables →
    (k : ℕ) (slot : Slot) → slice_get tables.slots k ≡ Some slot → IsSlotAt files d k slot
slot-of_stable files d environment tables network stable k slot is_slot file is_file =
    let place : LENGTHS * (k / LENGTHS) + k % LENGTHS ≡ k = omega arith in
    let at : slot_at tables (k / LENGTHS) (k % LENGTHS) ≡ Some slot =
    ap (λ i. slice_get tables.slots i) place ∙ is_slot in
    let holds : IsStableSlot files no_failures environment tables (k / LENGTHS) file (prefix_at d (k % LENGTHS)) slot =
    stable.equations (k / LENGTHS) (k % LENGTHS) file slot is_file (omega arith) at in
    let p : Prefix = prefix_at d (k % LENGTHS) in
    let none = no_protocol files network (k / LENGTHS) file is_file in
    let Held : Option Ospf → Type 0 = λ o.
    slot.ospf ≡ option_and_then (λ process. held_by_ospf files no_failures tables (k / LENGTHS) file process p) o in
    let Decided : Option Bgp → Type 0 = λ o.
    MatchOption o (slot.bgp ≡ None)
    (λ process. DecidedByBgp files no_failures environment tables (k / LENGTHS) file process p slot.bgp) in
    let ospf : slot.ospf ≡ None = subst Held none.0 holds.ospf in
    let bgp : slot.bgp ≡ None = subst Decided none.1 holds.bgp in
    slot_by_parts slot (slot_over (addressed files) (k / LENGTHS) file p) ospf bgp
    (holds.rib ∙ plain_entry files (k / LENGTHS) file p slot ospf bgp)

-- no other routing is stable
pub stable-only : (files : List File) (d : Addr) (slots : List Slot) (environment : Environment) (other : Tables)
    → runs_no_protocol files ≡ true →
    length slots ≡ LENGTHS * length files →
    ((k : ℕ) (slot : Slot) → slice_get slots k ≡ Some slot → IsSlotAt files d k slot) →
    Stable files d no_failures environment other → other ≡ record { slots = slots }
stable-only files d slots environment other network size each stable =
    let same : other.slots ≡ slots =
    list_ext other.slots slots (stable.size ∙ sym size) (λ k x y is_x is_y.
    let within : k < length slots = slice_get_within slots k y is_y in
    let is_file = item_there files (k / LENGTHS) (omega arith) in
    slot-of_stable files d environment other network stable k x is_x is_file.0 is_file.1
    ∙ sym (each k y is_y is_file.0 is_file.1)) in
    let with_slots : List Slot → Tables = λ s. record { slots = s } in ap with_slots same

-- the slot that was made from what stands at a place is the slot of that place
pub slot_here : (files routers : List File) (d : Addr) (all : List Addressed) (k n : ℕ) (read : File) (p : Prefix)
    (slot : Slot) →
    routers ≡ files → all ≡ addressed files → read ≡ get_or routers (k / LENGTHS) read → p ≡ prefix_at d (k % LENGTHS) →
    slot ≡ slot_over all (k / LENGTHS) read p → n ≡ k → IsSlotAt files d n slot
slot_here files routers d all k n read p slot same_files same_all is_read is_p made same_place =
    let P : ℕ → Type 0 = λ place. IsSlotAt files d place slot in
    subst P (sym same_place) (λ file is_file.
    let is_it : slice_get routers (k / LENGTHS) ≡ Some file = ap (λ fs. slice_get fs (k / LENGTHS)) same_files
    ∙ is_file in
    let same_read : read ≡ file = is_read ∙ get_or_from_slice_get routers (k / LENGTHS) file read is_it in
    made
    ∙ ap (λ xs. slot_over xs (k / LENGTHS) read p) same_all
    ∙ ap (λ f. slot_over (addressed files) (k / LENGTHS) f p) same_read
    ∙ ap (λ q. slot_over (addressed files) (k / LENGTHS) file q) is_p)
