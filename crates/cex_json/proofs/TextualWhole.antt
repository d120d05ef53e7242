-- A counterexample has a text, which is read back as that counterexample.
use Rattle.std.proofs.Common.{◌≡◌, ℕ, suc, ◌+◌, ◌/◌, ◌^◌, ◌<◌, ◌≤◌, List, [], ◌∷◌, ◌++◌, map, Option}
use Rattle.std.proofs.Common.{Some, None, option_map, option_and_then, Ok, refl, ap, sym, subst, ◌∙◌, arith, IsUtf8}
use Rattle.std.proofs.Common.{cond}
use Rattle.std.specs.Prelude.{All, IfSome, codes, decimal, slice_get}
use Rattle.std.specs.Option.{option_map_or}
use Rattle.std.specs.Str.Lossy.{utf8_lossy}
use Rattle.std.proofs.lemmas.Fmt.{IsAscii-decimal}
use Rattle.std.proofs.lemmas.List.Elements.{All-filter, All-head, All-tail}
use Rattle.std.proofs.lemmas.Str.{IsUtf8-append, IsUtf8-from_ascii, IsUtf8-nil, utf8_lossy_empty}
use Rattle.json.proofs.Printed.Utf8.{IsUtf8-are_ascii}
use Rattle.mw_text.proofs.Lists.{all_found}
use Rattle.mw_text.specs.declared.address.Addr.{Addr}
use Rattle.mw_text.specs.declared.address.Prefix.{Prefix}
use Rattle.ios_ast.specs.declared.bgp.Neighbour.{Neighbour}
use Rattle.ios_ast.specs.declared.file.File.{File}
use Rattle.route_record.specs.declared.Announcement.{Announcement}
use Rattle.route_record.specs.declared.Slot.{Slot}
use Rattle.route_record.specs.declared.TheConstants.{LENGTHS}
use Rattle.net_parts.specs.declared.links.Link.{Link}
use Rattle.net_parts.specs.declared.sessions.SessionEnd.{SessionEnd}
use Rattle.net_parts.specs.Sessions.{ends_of, external_ends, is_outside, neighbour_of}
use Rattle.net_parts.specs.World.{IsAnnouncement, links_of}
use Rattle.question_lang.specs.declared.question.Question.{Question}
use Rattle.question_lang.specs.declared.question.Start.{Start}
use Rattle.question_lang.specs.declared.walk.End.{End}
use Rattle.question_lang.specs.declared.walk.End.TheVariants.{Delivered, Left, NoRoute, Discarded, DeniedIn, DeniedOut}
use Rattle.question_lang.specs.declared.walk.End.TheVariants.{Loop, Open}
use Rattle.question_lang.specs.declared.walk.Walk.{Walk}
use Rattle.serde_json.specs.Data.{string}
use Rattle.serde_json.specs.Read.{read}
use Rattle.serde_json.specs.View.{items_of}
use Rattle.cex_json.specs.declared.counterexample.Counterexample.{Counterexample}
use Rattle.cex_json.specs.Fields.{greatest}
use Rattle.cex_json.specs.Json.{number_of, text_of}
use Rattle.cex_json.specs.Parts.{addr_text, end_text, hop_data, hop_fields, iface_name, router_name}
use Rattle.cex_json.specs.Parts.{walk_data, walk_fields}
use Rattle.cex_json.specs.Reading.{reading, reading_of, value_of}
use Rattle.cex_json.specs.Text.{cex_data, cex_text, shown_fields, surroundings_of, world_fields}
use Rattle.cex_json.specs.Worlds.{announcement_data, announcement_fields, end_address, end_router, link_data, link_text}
use Rattle.cex_json.specs.Worlds.{peer_asn, peer_data, peer_text, peers_from, prefix_text}
use Rattle.cex_json.specs.Writable.{IsNeighbour, IsPrefix, IsWritableCex, IsWritableNet, IsWritableSlot}
use Rattle.cex_json.proofs.Fielded.{FieldsFit, each_fits, fields_fit, option_fits}
use Rattle.cex_json.proofs.Places.{all_split}
use Rattle.cex_json.proofs.TextBack.{Fits, ItemsFit, after_byte, text_is_utf8, text_read}
use Rattle.cex_json.proofs.Textual.{addr_utf8, iface_utf8, name_utf8, numbers_fit, origin_utf8, packet_fits}
use Rattle.cex_json.proofs.Textual.{router_utf8, slots_fit}
use Rattle.cex_json.proofs.WrittenWhole.{cex_back}

-- ---- failed links

prefix_utf8 : (p : Prefix) → p.len ≤ 32 → IsUtf8 (prefix_text p)
unfolding prefix_text
prefix_utf8 p short =
    let small : p.len < 2 ^ 64 = omega arith in
    IsUtf8-append (addr_text p.addr) (47 ∷ decimal p.len) (addr_utf8 p.addr)
    (after_byte 47 (decimal p.len) refl (IsUtf8-from_ascii (decimal p.len) (IsAscii-decimal p.len small)))

link_utf8 : (links : List Link) (at : ℕ) → All (λ link. IsPrefix link.prefix) links → IsUtf8 (link_text links at)
link_utf8 links at prefixes = by_item (slice_get links at) refl where
  by_item : (o : Option Link) → slice_get links at ≡ o →
      IsUtf8 (option_map_or (λ (link : Link). prefix_text link.prefix) o [])
  by_item None is = IsUtf8-nil
  by_item (Some link) is =
      let prefix = all_found (λ (x : Link). IsPrefix x.prefix) links at link prefixes is in
      prefix_utf8 link.prefix prefix.len

links_fit : (files : List File) (xs : List ℕ) (n : ℕ) → IsWritableNet files →
    ItemsFit (items_of (map (link_data (links_of files)) xs)) n
links_fit files xs n net =
    each_fits (link_data (links_of files)) n [] xs (λ before rest at is. link_utf8 (links_of files) at net.links)

-- ---- external peers

peer_utf8 : (files : List File) (end : SessionEnd) → IsUtf8 (peer_text files end)
peer_utf8 files end = by_line (neighbour_of files end) where
  by_line : (o : Option Neighbour) → IsUtf8 (option_map_or (λ (n : Neighbour). addr_text n.addr) o [])
  by_line None = IsUtf8-nil
  by_line (Some n) = addr_utf8 n.addr

asn_small : (files : List File) (end : SessionEnd) → IfSome (neighbour_of files end) IsNeighbour →
    peer_asn files end < 2 ^ 64
asn_small files end fits = by_line (neighbour_of files end) fits where
  by_line : (o : Option Neighbour) → IfSome o IsNeighbour →
      option_map_or (λ (n : Neighbour). n.asn) o 0 < 2 ^ 64
  by_line None known = omega arith
  by_line (Some n) known = let small = known.1 in omega arith

peer_fits : (files : List File) (end : SessionEnd) (id : Addr) (n : ℕ) → IsWritableNet files →
    IfSome (neighbour_of files end) IsNeighbour → Fits (peer_data files end id) (suc n)
unfolding peer_data
peer_fits files end id n net fits =
    fields_fit ((codes "address", Some (string (peer_text files end)))
    ∷ (codes "asn", Some (number_of (peer_asn files end))) ∷ (codes "id", Some (string (addr_text id)))
    ∷ (codes "router", Some (text_of (router_name files end.router))) ∷ []) n refl
    (peer_utf8 files end, (asn_small files end fits, (addr_utf8 id, (router_utf8 files end.router net, tt))))

peers_fit : (files : List File) (ids : List Addr) (at n : ℕ) (ends : List SessionEnd) → IsWritableNet files →
    All (λ end. IfSome (neighbour_of files end) IsNeighbour) ends →
    ItemsFit (items_of (peers_from files ids at ends)) (suc n)
peers_fit files ids at n [] net fits = tt
peers_fit files ids at n (end ∷ rest) net fits =
    by_id (slice_get ids at) (peers_fit files ids (at + 1) n rest net (All-tail IsKnown end rest fits))
  where
    IsKnown : SessionEnd → Type 0
    IsKnown e = IfSome (neighbour_of files e) IsNeighbour

    by_id : (id : Option Addr) → ItemsFit (items_of (peers_from files ids (at + 1) rest)) (suc n) →
        ItemsFit (items_of (option_map_or (λ written. written ∷ []) (option_map (peer_data files end) id) []
        ++ peers_from files ids (at + 1) rest)) (suc n)
    by_id None others = others
    by_id (Some id) others = (peer_fits files end id n net (All-head IsKnown end rest fits), others)

-- ---- announcements

address_utf8 : (files : List File) (at : ℕ) → IsUtf8 (end_address files at)
address_utf8 files at = by_end (slice_get (ends_of files) at) where
  by_end : (o : Option SessionEnd) → IsUtf8 (option_map_or (peer_text files) o [])
  by_end None = IsUtf8-nil
  by_end (Some end) = peer_utf8 files end

far_router_utf8 : (files : List File) (at : ℕ) → IsWritableNet files → IsUtf8 (utf8_lossy (end_router files at))
far_router_utf8 files at net = by_end (slice_get (ends_of files) at) where
  by_end : (o : Option SessionEnd) →
      IsUtf8 (utf8_lossy (option_map_or (λ (end : SessionEnd). router_name files end.router) o []))
  by_end None = subst IsUtf8 (sym (utf8_lossy_empty [] refl)) IsUtf8-nil
  by_end (Some end) = router_utf8 files end.router net

announcement_fits : (files : List File) (one : Announcement) (n : ℕ) → IsWritableNet files →
    IsAnnouncement files one → Fits (announcement_data files one) (suc (suc n))
unfolding announcement_data
announcement_fits files one n net fits =
    let length = fits.len in
    let cost = fits.med in
    let len : one.len < 2 ^ 64 = omega arith in
    let med : one.med < 2 ^ 64 = omega arith in
    fields_fit (announcement_fields files one) (suc n) refl (
      address_utf8 files one.end,
      (
        numbers_fit one.communities n small,
        (len, (med, (origin_utf8 one.origin, (numbers_fit one.path n asn, (far_router_utf8 files one.end net, tt))))),
      ),
    )
  where
    small : (before rest : List ℕ) (k : ℕ) → one.communities ≡ before ++ k ∷ rest → k ≤ greatest
    small before rest k is =
        let top = all_split (λ c. c < 2 ^ 32) one.communities fits.communities.1 before rest k is in omega arith

    asn : (before rest : List ℕ) (k : ℕ) → one.path ≡ before ++ k ∷ rest → k ≤ greatest
    asn before rest k is =
        let top = (all_split (λ c. (0 < c) × (c < 2 ^ 32)) one.path fits.path.1 before rest k is).1 in omega arith

announcements_fit : (files : List File) (xs : List Announcement) (n : ℕ) → IsWritableNet files →
    All (IsAnnouncement files) xs → ItemsFit (items_of (map (announcement_data files) xs)) (suc (suc n))
announcements_fit files xs n net fits =
    each_fits (announcement_data files) (suc (suc n)) [] xs
    (λ before rest one is.
    announcement_fits files one n net (all_split (IsAnnouncement files) xs fits before rest one is))

-- ---- walks

end_utf8 : (files : List File) (end : End) → IsWritableNet files → IsUtf8 (end_text files end)
end_utf8 files Delivered net = IsUtf8-are_ascii (codes "delivered") refl
end_utf8 files (Left a) net =
    IsUtf8-append (codes "left ") (addr_text a) (IsUtf8-are_ascii (codes "left ") refl) (addr_utf8 a)
end_utf8 files NoRoute net = IsUtf8-are_ascii (codes "noroute") refl
end_utf8 files Discarded net = IsUtf8-are_ascii (codes "discarded") refl
end_utf8 files (DeniedIn id) net =
    let router = utf8_lossy (router_name files id.router) in
    let iface = utf8_lossy (iface_name files id.router id.at) in
    IsUtf8-append (codes "deniedin ") (router ++ (32 ∷ iface)) (IsUtf8-are_ascii (codes "deniedin ") refl)
    (IsUtf8-append router (32 ∷ iface) (router_utf8 files id.router net)
    (after_byte 32 iface refl (iface_utf8 files id.router id.at net)))
end_utf8 files DeniedOut net = IsUtf8-are_ascii (codes "deniedout") refl
end_utf8 files Loop net = IsUtf8-are_ascii (codes "loop") refl
end_utf8 files Open net = IsUtf8-are_ascii (codes "open") refl

hop_fits : (files : List File) (hop : Start) (n : ℕ) → IsWritableNet files → Fits (hop_data files hop) (suc n)
unfolding hop_data
hop_fits files hop n net =
    fields_fit (hop_fields files hop) n refl (
      option_fits (λ at. text_of (iface_name files hop.router at)) n hop.iface
          (λ at is. iface_utf8 files hop.router at net),
      (router_utf8 files hop.router net, tt),
    )

walk_fits : (files : List File) (walk : Walk) (n : ℕ) → IsWritableNet files →
    Fits (walk_data files walk) (suc (suc (suc n)))
unfolding walk_data
walk_fits files walk n net =
    fields_fit (walk_fields files walk) (suc (suc n)) refl (
      end_utf8 files walk.end net,
      (each_fits (hop_data files) (suc n) [] walk.hops (λ before rest hop is. hop_fits files hop n net), tt),
    )

-- ---- the whole

-- the value of a counterexample has a text
cex_fits : (files : List File) (questions : List Question) (cex : Counterexample) →
    IsWritableCex files questions cex → Fits (cex_data files questions cex) 127
unfolding cex_data surroundings_of
cex_fits files questions cex fits =
    let net = fits.net in
    let peers = All-filter (λ end. is_outside end.far) (λ end. IfSome (neighbour_of files end) IsNeighbour)
    (ends_of files) net.neighbours in
    let parts : FieldsFit (world_fields files cex ++ shown_fields files questions cex) 126 = (
      announcements_fit files cex.env.announced 123 net fits.env.announced,
      (
        links_fit files cex.failures.links 125 net,
        (
          two,
          (
            packet_fits cex.packet 125 fits.question.2.packet.ranges,
            (
              peers_fit files cex.env.ids 0 124 (external_ends files) net peers,
              (
                name_utf8 (λ question. question.name) questions cex.question fits.names,
                (
                  slots_fit files cex.tables.slots 0 122 net slots,
                  (option_fits (walk_data files) 126 cex.walk (λ walk is. walk_fits files walk 123 net), tt),
                ),
              ),
            ),
          ),
        ),
      ),
    ) in
    fields_fit (world_fields files cex ++ shown_fields files questions cex) 126 refl parts
  where
    two : 2 < 2 ^ 64
    two = omega arith

    slots : (k : ℕ) (slot : Slot) → slice_get cex.tables.slots k ≡ Some slot →
        IsWritableSlot files ((0 + k) / LENGTHS) slot
    slots k slot there =
        let same : k ≡ 0 + k = omega arith in
        subst (λ i. IsWritableSlot files (i / LENGTHS) slot) same (fits.tables.slots k slot there)

-- the text of a counterexample is JSON with its value
pub value_back : (files : List File) (questions : List Question) (cex : Counterexample) →
    IsWritableCex files questions cex → value_of (cex_text files questions cex) ≡ Some (cex_data files questions cex)
value_back files questions cex fits =
    let d = cex_data files questions cex in
    let has = cex_fits files questions cex fits in
    ap (λ b. option_and_then read (cond b (Some (cex_text files questions cex)) None)) (text_is_utf8 d has)
    ∙ text_read d has

-- and is read as that counterexample
pub text_back : (files : List File) (questions : List Question) (cex : Counterexample) →
    IsWritableCex files questions cex → reading files questions (cex_text files questions cex) ≡ Ok cex
text_back files questions cex fits =
    ap (reading_of files questions) (value_back files questions cex fits) ∙ cex_back files questions cex fits
