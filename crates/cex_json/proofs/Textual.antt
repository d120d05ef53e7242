-- The parts of a counterexample have texts: their numbers are small, and their texts are UTF-8.
use Rattle.std.proofs.Common.{◌≡◌, ℕ, suc, ◌+◌, ◌/◌, ◌%◌, ◌^◌, ◌<◌, ◌≤◌, Bool, true, false, cond, List, [], ◌∷◌, ◌++◌}
use Rattle.std.proofs.Common.{map, Option, Some, None, refl, sym, subst, arith, IsUtf8}
use Rattle.std.specs.Prelude.{codes, decimal, slice_get}
use Rattle.std.specs.Option.{option_map_or}
use Rattle.std.specs.Str.Lossy.{utf8_lossy}
use Rattle.std.proofs.lemmas.Fmt.{IsAscii-decimal}
use Rattle.std.proofs.lemmas.Str.{IsUtf8-append, IsUtf8-from_ascii, IsUtf8-nil, utf8_lossy_empty}
use Rattle.net_interfaces.proofs.Options.{if_is}
use Rattle.json.proofs.Printed.Utf8.{IsUtf8-are_ascii}
use Rattle.mw_text.proofs.Lists.{all_found}
use Rattle.mw_text.specs.declared.address.Addr.{Addr}
use Rattle.ios_ast.specs.declared.file.File.{File}
use Rattle.ios_ast.specs.declared.file.Iface.{Iface}
use Rattle.route_record.specs.declared.BgpRec.{BgpRec}
use Rattle.route_record.specs.declared.Learnt.{Learnt}
use Rattle.route_record.specs.declared.Learnt.TheVariants.{Local, Peer}
use Rattle.route_record.specs.declared.Origin.{Origin}
use Rattle.route_record.specs.declared.Origin.TheVariants.{Igp, Egp, Incomplete}
use Rattle.route_record.specs.declared.OspfKind.{OspfKind}
use Rattle.route_record.specs.declared.OspfKind.TheVariants.{Internal, Ext1, Ext2}
use Rattle.route_record.specs.declared.OspfRec.{OspfRec}
use Rattle.route_record.specs.declared.Packet.{Packet}
use Rattle.route_record.specs.declared.RibEntry.{RibEntry}
use Rattle.route_record.specs.declared.RibSource.{RibSource}
use Rattle.route_record.specs.declared.RibSource.TheVariants.{Connected, Static, Ebgp, Ospf, Ibgp}
use Rattle.route_record.specs.declared.Slot.{Slot}
use Rattle.route_record.specs.declared.TheConstants.{LENGTHS}
use Rattle.question_lang.specs.Packets.{IsPacket}
use Rattle.serde_json.specs.Data.{string}
use Rattle.serde_json.specs.View.{items_of}
use Rattle.cex_json.specs.Fields.{greatest}
use Rattle.cex_json.specs.Json.{number_of}
use Rattle.cex_json.specs.Parts.{addr_data, addr_text, bgp_data, first_bgp_fields, first_of_bgp, has_part, kind_text}
use Rattle.cex_json.specs.Parts.{iface_name, last_bgp_fields, learnt_text, octet, origin_text, ospf_data, packet_data}
use Rattle.cex_json.specs.Parts.{parts_data, parts_fields, rib_data, router_name, slots_from, source_text}
use Rattle.cex_json.specs.Writable.{AreTexts, IsWritable, IsWritableNet, IsWritableSlot}
use Rattle.cex_json.proofs.Fielded.{FieldsFit, each_fits, fields_fit, option_fits}
use Rattle.cex_json.proofs.Places.{as_written}
use Rattle.cex_json.proofs.TextBack.{Fits, ItemsFit, after_byte}

-- ---- addresses

decimal_utf8 : (n : ℕ) → n < 2 ^ 64 → IsUtf8 (decimal n)
decimal_utf8 n small = IsUtf8-from_ascii (decimal n) (IsAscii-decimal n small)

octet_then : (a : Addr) (below : ℕ) (rest : List ℕ) → IsUtf8 rest → IsUtf8 (decimal (octet a below) ++ (46 ∷ rest))
octet_then a below rest utf8 =
    IsUtf8-append (decimal (octet a below)) (46 ∷ rest) (decimal_utf8 (octet a below) (omega arith))
    (after_byte 46 rest refl utf8)

pub addr_utf8 : (a : Addr) → IsUtf8 (addr_text a)
unfolding addr_text
addr_utf8 a = octet_then a 24 _ (octet_then a 16 _ (octet_then a 8 _ (decimal_utf8 (octet a 0) (omega arith))))

-- ---- names

-- the text of an item that may be there
pub name_utf8 : {A : Type 0} (text : A → List ℕ) (xs : List A) (at : ℕ) → AreTexts text xs →
    IsUtf8 (utf8_lossy (option_map_or text (slice_get xs at) []))
name_utf8 {A = A} text xs at texts = by_item (slice_get xs at) refl where
  by_item : (o : Option A) → slice_get xs at ≡ o → IsUtf8 (utf8_lossy (option_map_or text o []))
  by_item None is = subst IsUtf8 (sym (utf8_lossy_empty [] refl)) IsUtf8-nil
  by_item (Some x) is =
      subst IsUtf8 (sym (as_written text xs at x texts is))
      (all_found (λ y. IsUtf8 (text y)) xs at x texts.utf8 is)

pub router_utf8 : (files : List File) (router : ℕ) → IsWritableNet files →
    IsUtf8 (utf8_lossy (router_name files router))
router_utf8 files router net = name_utf8 (λ file. file.hostname) files router net.routers

pub iface_utf8 : (files : List File) (router at : ℕ) → IsWritableNet files →
    IsUtf8 (utf8_lossy (iface_name files router at))
iface_utf8 files router at net = by_file (slice_get files router) refl where
  by_file : (o : Option File) → slice_get files router ≡ o →
      IsUtf8 (utf8_lossy (option_map_or (λ (file : File). option_map_or (λ (iface : Iface). iface.name)
      (slice_get file.interfaces at) []) o []))
  by_file None is = subst IsUtf8 (sym (utf8_lossy_empty [] refl)) IsUtf8-nil
  by_file (Some file) is =
      name_utf8 (λ (iface : Iface). iface.name) file.interfaces at
      (all_found (λ f. AreTexts (λ (iface : Iface). iface.name) f.interfaces) files router file net.ifaces is)

-- ---- packets and records

pub packet_fits : (packet : Packet) (n : ℕ) → IsPacket packet → Fits (packet_data packet) (suc n)
unfolding packet_data
packet_fits packet n fits =
    let dport = fits.dport in
    let proto = fits.proto in
    let sport = fits.sport in
    let d : packet.dport < 2 ^ 64 = omega arith in
    let p : packet.proto < 2 ^ 64 = omega arith in
    let s : packet.sport < 2 ^ 64 = omega arith in
    fields_fit ((codes "dport", Some (number_of packet.dport)) ∷ (codes "dst", Some (string (addr_text packet.dst)))
    ∷ (codes "proto", Some (number_of packet.proto)) ∷ (codes "sport", Some (number_of packet.sport))
    ∷ (codes "src", Some (string (addr_text packet.src))) ∷ []) n refl
    (d, (addr_utf8 packet.dst, (p, (s, (addr_utf8 packet.src, tt)))))

kind_utf8 : (kind : OspfKind) → IsUtf8 (kind_text kind)
kind_utf8 Internal = IsUtf8-are_ascii (kind_text Internal) refl
kind_utf8 Ext1 = IsUtf8-are_ascii (kind_text Ext1) refl
kind_utf8 Ext2 = IsUtf8-are_ascii (kind_text Ext2) refl

ospf_fits : (held : OspfRec) (n : ℕ) → (held.cost ≤ greatest) × (held.metric ≤ greatest) →
    Fits (ospf_data held) (suc n)
unfolding ospf_data
ospf_fits held n fits =
    let cost = fits.0 in
    let metric = fits.1 in
    let c : held.cost < 2 ^ 64 = omega arith in
    let m : held.metric < 2 ^ 64 = omega arith in
    fields_fit ((codes "cost", Some (number_of held.cost)) ∷ (codes "kind", Some (string (kind_text held.kind)))
    ∷ (codes "metric", Some (number_of held.metric)) ∷ []) n refl (c, (kind_utf8 held.kind, (m, tt)))

source_utf8 : (source : RibSource) → IsUtf8 (source_text source)
source_utf8 Connected = IsUtf8-are_ascii (source_text Connected) refl
source_utf8 Static = IsUtf8-are_ascii (source_text Static) refl
source_utf8 Ebgp = IsUtf8-are_ascii (source_text Ebgp) refl
source_utf8 Ospf = IsUtf8-are_ascii (source_text Ospf) refl
source_utf8 Ibgp = IsUtf8-are_ascii (source_text Ibgp) refl

rib_fits : (entry : RibEntry) (n : ℕ) → entry.distance ≤ 255 → Fits (rib_data entry) (suc n)
unfolding rib_data
rib_fits entry n fits =
    let d : entry.distance < 2 ^ 64 = omega arith in
    fields_fit ((codes "distance", Some (number_of entry.distance))
    ∷ (codes "source", Some (string (source_text entry.source))) ∷ []) n refl (d, (source_utf8 entry.source, tt))

pub origin_utf8 : (origin : Origin) → IsUtf8 (origin_text origin)
origin_utf8 Igp = IsUtf8-are_ascii (origin_text Igp) refl
origin_utf8 Egp = IsUtf8-are_ascii (origin_text Egp) refl
origin_utf8 Incomplete = IsUtf8-are_ascii (origin_text Incomplete) refl

learnt_utf8 : (from : Learnt) → IsUtf8 (learnt_text from)
learnt_utf8 Local = IsUtf8-are_ascii (learnt_text Local) refl
learnt_utf8 (Peer a) = addr_utf8 a

-- numbers of 32 bits
pub numbers_fit : (xs : List ℕ) (n : ℕ) → ((before rest : List ℕ) (k : ℕ) → xs ≡ before ++ k ∷ rest → k ≤ greatest) →
    ItemsFit (items_of (map number_of xs)) n
numbers_fit xs n small =
    each_fits number_of n [] xs (λ before rest k is. let fits = small before rest k is in omega arith)

addrs_fit : (xs : List Addr) (n : ℕ) → ItemsFit (items_of (map addr_data xs)) n
addrs_fit xs n = each_fits addr_data n [] xs (λ before rest a is. addr_utf8 a)

bgp_fits : (files : List File) (router : ℕ) (held : BgpRec) (n : ℕ) → IsWritable files router held →
    Fits (bgp_data held) (suc (suc n))
unfolding bgp_data first_of_bgp
bgp_fits files router held n fits =
    let pref = fits.local_pref in
    let med = fits.med in
    let weight = fits.weight in
    let p : held.local_pref < 2 ^ 64 = omega arith in
    let m : held.med < 2 ^ 64 = omega arith in
    let w : held.weight < 2 ^ 64 = omega arith in
    let first : FieldsFit (first_bgp_fields held ++ last_bgp_fields held) (suc n) = (
      addrs_fit held.clusters n,
      (
        numbers_fit held.communities n (λ before rest k is. (fits.communities before rest k is).1),
        (
          learnt_utf8 held.from,
          (
            p,
            (
              m,
              (
                addr_utf8 held.next_hop,
                (
                  origin_utf8 held.origin,
                  (
                    option_fits addr_data (suc n) held.originator (λ a is. addr_utf8 a),
                    (numbers_fit held.path n (λ before rest k is. (fits.path before rest k is).1), (w, tt)),
                  ),
                ),
              ),
            ),
          ),
        ),
      ),
    ) in
    fields_fit (first_bgp_fields held ++ last_bgp_fields held) (suc n) refl first

-- ---- slots

slot_fits : (files : List File) (place : ℕ) (slot : Slot) (n : ℕ) → IsWritableNet files →
    IsWritableSlot files (place / LENGTHS) slot → Fits (parts_data files place slot) (suc (suc (suc n)))
unfolding parts_data
slot_fits files place slot n net fits =
    let len : place % LENGTHS < 2 ^ 64 = omega arith in
    let bgp = option_fits bgp_data (suc (suc n)) slot.bgp (λ held is. bgp_fits files (place / LENGTHS) held n
    (if_is (IsWritable files (place / LENGTHS)) slot.bgp held fits.bgp is)) in
    let ospf = option_fits ospf_data (suc (suc n)) slot.ospf (λ held is. ospf_fits held (suc n)
    (if_is (λ h. (h.cost ≤ greatest) × (h.metric ≤ greatest)) slot.ospf held fits.ospf is)) in
    let rib = option_fits rib_data (suc (suc n)) slot.rib (λ entry is. rib_fits entry (suc n)
    (if_is (λ e. e.distance ≤ 255) slot.rib entry fits.rib is)) in
    fields_fit (parts_fields files place slot) (suc (suc n)) refl
    (bgp, (len, (ospf, (rib, (router_utf8 files (place / LENGTHS) net, tt)))))

-- the slots from that place on
pub slots_fit : (files : List File) (rest : List Slot) (place n : ℕ) → IsWritableNet files →
    ((k : ℕ) (slot : Slot) → slice_get rest k ≡ Some slot → IsWritableSlot files ((place + k) / LENGTHS) slot) →
    ItemsFit (items_of (slots_from files place rest)) (suc (suc (suc n)))
slots_fit files [] place n net fits = tt
slots_fit files (slot ∷ rest) place n net fits =
    by_part (has_part slot) (slots_fit files rest (place + 1) n net later)
  where
    later : (k : ℕ) (s : Slot) → slice_get rest k ≡ Some s → IsWritableSlot files ((place + 1 + k) / LENGTHS) s
    later k s there =
        let same : place + suc k ≡ place + 1 + k = omega arith in
        subst (λ i. IsWritableSlot files (i / LENGTHS) s) same (fits (suc k) s there)

    here : IsWritableSlot files (place / LENGTHS) slot
    here =
        let same : place + 0 ≡ place = omega arith in
        subst (λ i. IsWritableSlot files (i / LENGTHS) slot) same (fits 0 slot refl)

    by_part : (b : Bool) → ItemsFit (items_of (slots_from files (place + 1) rest)) (suc (suc (suc n))) →
        ItemsFit (items_of (cond b (parts_data files place slot ∷ []) [] ++ slots_from files (place + 1) rest))
        (suc (suc (suc n)))
    by_part true others = (slot_fits files place slot n net here, others)
    by_part false others = others
