-- No number of a counterexample is a float.
use Rattle.std.proofs.Common.{◌≡◌, ℕ, ◌+◌, List, [], ◌∷◌, ◌++◌, Bool, true, false, ◌||◌, cond, map, Option, Some, None}
use Rattle.std.proofs.Common.{option_map, refl}
use Rattle.std.proofs.lemmas.Bool.{or_from, or_parts}
use Rattle.std.specs.Prelude.{slice_get}
use Rattle.std.specs.Option.{option_map_or}
use Rattle.std.specs.Ordering.{nat_cmp, match_ordering}
use Rattle.std.specs.declared.cmp.Ordering.{Ordering}
use Rattle.std.specs.declared.cmp.Ordering.TheVariants.{Less, Equal, Greater}
use Rattle.std.specs.Cmp.Lexicographic.{slice_cmp}
use Rattle.mw_text.specs.declared.address.Addr.{Addr}
use Rattle.ios_ast.specs.declared.file.File.{File}
use Rattle.route_record.specs.declared.Announcement.{Announcement}
use Rattle.route_record.specs.declared.BgpRec.{BgpRec}
use Rattle.route_record.specs.declared.OspfRec.{OspfRec}
use Rattle.route_record.specs.declared.Packet.{Packet}
use Rattle.route_record.specs.declared.RibEntry.{RibEntry}
use Rattle.route_record.specs.declared.Slot.{Slot}
use Rattle.route_record.specs.declared.Tables.{Tables}
use Rattle.net_parts.specs.declared.sessions.SessionEnd.{SessionEnd}
use Rattle.net_parts.specs.Sessions.{external_ends}
use Rattle.net_parts.specs.World.{links_of}
use Rattle.question_lang.specs.declared.question.Question.{Question}
use Rattle.question_lang.specs.declared.question.Start.{Start}
use Rattle.question_lang.specs.declared.walk.Walk.{Walk}
use Rattle.serde_json.specs.Data.{Data, Members, no_members, member, null, put}
use Rattle.serde_json.specs.View.{items_of}
use Rattle.serde_json.specs.Written.{has_float, items_have_float, members_have_float}
use Rattle.cex_json.specs.declared.counterexample.Counterexample.{Counterexample}
use Rattle.cex_json.specs.Parts.{addr_data, bgp_data, first_bgp_fields, first_of_bgp, has_part, last_bgp_fields}
use Rattle.cex_json.specs.Parts.{hop_data, hop_fields, ospf_data, packet_data, parts_data, parts_fields, rib_data}
use Rattle.cex_json.specs.Parts.{slots_from, walk_data, walk_fields}
use Rattle.cex_json.specs.Json.{members_with_from, number_of, with_field}
use Rattle.cex_json.specs.Text.{cex_data, part_data, part_list, shown_fields, surroundings_of, tables_data}
use Rattle.cex_json.specs.Text.{world_fields}
use Rattle.cex_json.specs.Worlds.{announcement_data, announcement_fields, link_data, peer_data, peers_from}

put_plain : (name : List ℕ) (value : Data) (members : Members) → has_float value ≡ false → members_have_float members
    ≡ false →
    members_have_float (put name value members) ≡ false
put_plain name value no_members plain others = or_from (has_float value) false plain refl
put_plain name value (member other held rest) plain others =
    let rest_plain : members_have_float rest ≡ false = (or_parts (has_float held) (members_have_float rest) others).1 in
    by_order (slice_cmp nat_cmp name other) rest_plain (put_plain name value rest plain rest_plain)
  where
    held_plain : has_float held ≡ false
    held_plain = (or_parts (has_float held) (members_have_float rest) others).0

    by_order : (o : Ordering) → members_have_float rest ≡ false → members_have_float (put name value rest) ≡ false
        → members_have_float
        (match_ordering o (member name value (member other held rest)) (member other value rest)
        (member other held (put name value rest))) ≡ false
    by_order Less rest_plain deeper = or_from (has_float value) (has_float held || members_have_float rest) plain others
    by_order Equal rest_plain deeper = or_from (has_float value) (members_have_float rest) plain rest_plain
    by_order Greater rest_plain deeper =
        or_from (has_float held) (members_have_float (put name value rest)) held_plain deeper

-- a value that is there has no float
abbrev pub IsPlain : Option Data → Type 0
IsPlain None = Unit {0}
IsPlain (Some value) = has_float value ≡ false

abbrev pub ArePlain : List (List ℕ × Option Data) → Type 0
ArePlain [] = Unit {0}
ArePlain (field ∷ rest) = IsPlain field.1 × ArePlain rest

field_plain : (name : List ℕ) (value : Option Data) (ms : Members) → IsPlain value → members_have_float ms ≡ false →
    members_have_float (with_field name value ms) ≡ false
field_plain name None ms plain others = others
field_plain name (Some value) ms plain others = put_plain name value ms plain others

fields_plain : (ms : Members) (fields : List (List ℕ × Option Data)) → members_have_float ms ≡ false → ArePlain fields →
    members_have_float (members_with_from ms fields) ≡ false
fields_plain ms [] others plain = others
fields_plain ms (field ∷ rest) others plain =
    fields_plain (with_field field.0 field.1 ms) rest (field_plain field.0 field.1 ms plain.0 others) plain.1

option_plain : {A : Type 0} (f : A → Data) → ((x : A) → has_float (f x) ≡ false) → (o : Option A)
    → IsPlain (option_map f o)
option_plain f plain None = tt
option_plain f plain (Some x) = plain x

all_plain : {A : Type 0} (f : A → Data) → ((x : A) → has_float (f x) ≡ false) → (xs : List A) →
    items_have_float (items_of (map f xs)) ≡ false
all_plain f plain [] = refl
all_plain f plain (x ∷ xs) =
    or_from (has_float (f x)) (items_have_float (items_of (map f xs))) (plain x) (all_plain f plain xs)

packet_plain : (packet : Packet) → has_float (packet_data packet) ≡ false
unfolding packet_data
packet_plain packet = refl

rib_plain : (entry : RibEntry) → has_float (rib_data entry) ≡ false
unfolding rib_data
rib_plain entry = refl

ospf_plain : (held : OspfRec) → has_float (ospf_data held) ≡ false
unfolding ospf_data
ospf_plain held = refl

bgp_plain : (held : BgpRec) → has_float (bgp_data held) ≡ false
unfolding bgp_data first_of_bgp
bgp_plain held =
    let first_half = fields_plain no_members (first_bgp_fields held) refl (
      all_plain addr_data (λ a. refl) held.clusters,
      (all_plain number_of (λ n. refl) held.communities, (refl, (refl, (refl, tt)))),
    ) in
    fields_plain (first_of_bgp held) (last_bgp_fields held) first_half (
      refl,
      (
        refl,
        (
          option_plain addr_data (λ a. refl) held.originator,
          (all_plain number_of (λ n. refl) held.path, (refl, tt)),
        ),
      ),
    )

parts_plain : (files : List File) (place : ℕ) (slot : Slot) → has_float (parts_data files place slot) ≡ false
unfolding parts_data
parts_plain files place slot = fields_plain no_members (parts_fields files place slot) refl (
  option_plain bgp_data bgp_plain slot.bgp,
  (refl, (option_plain ospf_data ospf_plain slot.ospf, (option_plain rib_data rib_plain slot.rib, (refl, tt)))),
)

one_plain : (b : Bool) (value : Data) (rest : List Data) → has_float value ≡ false → items_have_float (items_of rest)
    ≡ false →
    items_have_float (items_of (cond b (value ∷ []) [] ++ rest)) ≡ false
one_plain true value rest plain others = or_from (has_float value) (items_have_float (items_of rest)) plain others
one_plain false value rest plain others = others

slots_plain : (files : List File) (place : ℕ) (slots : List Slot)
    → items_have_float (items_of (slots_from files place slots)) ≡ false
slots_plain files place [] = refl
slots_plain files place (slot ∷ rest) =
    one_plain (has_part slot) (parts_data files place slot) (slots_from files (place + 1) rest)
    (parts_plain files place slot)
    (slots_plain files (place + 1) rest)

hop_plain : (files : List File) (hop : Start) → has_float (hop_data files hop) ≡ false
unfolding hop_data
hop_plain files hop =
    fields_plain no_members (hop_fields files hop) refl (option_plain _ (λ at. refl) hop.iface, (refl, tt))

walk_plain : (files : List File) (walk : Walk) → has_float (walk_data files walk) ≡ false
unfolding walk_data
walk_plain files walk =
    fields_plain no_members (walk_fields files walk) refl
    (refl, (all_plain (hop_data files) (hop_plain files) walk.hops, tt))

peer_plain : (files : List File) (end : SessionEnd) (id : Addr) → has_float (peer_data files end id) ≡ false
unfolding peer_data
peer_plain files end id = refl

peers_plain : (files : List File) (ids : List Addr) (at : ℕ) (ends : List SessionEnd) →
    items_have_float (items_of (peers_from files ids at ends)) ≡ false
peers_plain files ids at [] = refl
peers_plain files ids at (end ∷ rest) = by_id (slice_get ids at) (peers_plain files ids (at + 1) rest) where
  by_id : (id : Option Addr) → items_have_float (items_of (peers_from files ids (at + 1) rest)) ≡ false →
      items_have_float (items_of (option_map_or (λ written. written ∷ []) (option_map (peer_data files end) id) []
      ++ peers_from files ids (at + 1) rest)) ≡ false
  by_id None others = others
  by_id (Some id) others =
      or_from (has_float (peer_data files end id)) (items_have_float (items_of (peers_from files ids (at + 1) rest)))
      (peer_plain files end id) others

announcement_plain : (files : List File) (announcement : Announcement)
    → has_float (announcement_data files announcement) ≡ false
unfolding announcement_data
announcement_plain files announcement = fields_plain no_members (announcement_fields files announcement) refl (
  refl,
  (
    all_plain number_of (λ n. refl) announcement.communities,
    (refl, (refl, (refl, (all_plain number_of (λ n. refl) announcement.path, (refl, tt))))),
  ),
)

-- a counterexample
pub cex_plain : (files : List File) (questions : List Question) (cex : Counterexample)
    → has_float (cex_data files questions cex) ≡ false
unfolding cex_data surroundings_of
cex_plain files questions cex =
    let world = fields_plain no_members (world_fields files cex) refl (
      all_plain (announcement_data files) (announcement_plain files) cex.env.announced,
      (
        all_plain (link_data (links_of files)) (λ at. refl) cex.failures.links,
        (
          refl,
          (packet_plain cex.packet, (peers_plain files cex.env.ids 0 (external_ends files), tt)),
        ),
      ),
    ) in
    fields_plain (surroundings_of files cex) (shown_fields files questions cex) world (
      refl,
      (slots_plain files 0 cex.tables.slots, (option_plain (walk_data files) (walk_plain files) cex.walk, tt)),
    )

-- tables
pub tables_plain : (files : List File) (tables : Tables) → has_float (tables_data files tables) ≡ false
unfolding tables_data
tables_plain files tables = slots_plain files 0 tables.slots

-- parts of slots alone
pub part_plain : (slot : Slot) → has_float (part_data slot) ≡ false
unfolding part_data
part_plain slot = by_bgp slot.bgp where
  by_rib : (held : Option RibEntry) → has_float (option_map_or rib_data held null) ≡ false
  by_rib None = refl
  by_rib (Some held) = rib_plain held

  by_ospf : (held : Option OspfRec) → has_float (option_map_or ospf_data held (option_map_or rib_data slot.rib null))
      ≡ false
  by_ospf None = by_rib slot.rib
  by_ospf (Some held) = ospf_plain held

  by_bgp : (held : Option BgpRec) →
      has_float (option_map_or bgp_data held
      (option_map_or ospf_data slot.ospf (option_map_or rib_data slot.rib null))) ≡ false
  by_bgp None = by_ospf slot.ospf
  by_bgp (Some held) = bgp_plain held

pub part_list_plain : (slots : List Slot) → has_float (part_list slots) ≡ false
unfolding part_list
part_list_plain slots = all_plain part_data part_plain slots
