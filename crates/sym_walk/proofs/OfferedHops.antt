-- Over which adjacencies an OSPF entry sends, one adjacency at a time.
use Rattle.std.proofs.Common.{◌≡◌, ℕ, ◌-◌, ◌<◌, ◌≤◌, Bool, true, false, ◌&&◌, cond, List, [], ◌∷◌}
use Rattle.std.proofs.Common.{◌++◌, length, get_or, drop, Option, Some, None, refl, sym, ap}
use Rattle.std.specs.Prelude.{option_and_then, filter, map}
use Rattle.std.specs.Option.{option_map_or}
use Rattle.mw_text.specs.declared.address.Prefix.{Prefix}
use Rattle.ios_ast.specs.declared.file.File.{File}
use Rattle.route_record.specs.declared.Failures.{Failures}
use Rattle.route_record.specs.declared.OspfRec.{OspfRec}
use Rattle.route_record.specs.declared.Packet.{Packet}
use Rattle.route_record.specs.declared.Slot.{Slot}
use Rattle.route_record.specs.declared.Tables.{Tables}
use Rattle.route_record.specs.declared.TheConstants.{LENGTHS}
use Rattle.net_parts.specs.declared.adjacencies.Adjacency.{Adjacency}
use Rattle.net_parts.specs.Ospf.{adjacencies, up_adjacencies}
use Rattle.net_parts.specs.OspfRoutes.{extended, offer_over}
use Rattle.net_parts.specs.Sending.{same_record, sent_by_ospf}
use Rattle.question_lang.specs.declared.walk.Hop.{Hop}
use Rattle.question_lang.specs.Hops.{send_adjacent}
use Rattle.term_store.specs.Terms.{Reading}
use Rattle.sym_policy.specs.Held.{ospf_of}
use Rattle.sym_rib.specs.declared.slots.SymSlot.{SymSlot}
use Rattle.sym_rib.specs.declared.slots.SymTables.{SymTables}
use Rattle.sym_rib.specs.Worlds.{read_tables, slot_placed}
use Rattle.sym_rib.proofs.SlotPlaces.{slot_missing, slot_there}
use Rattle.sym_forwarding.specs.Offers.{is_up_from, offered_hops, offers, offers_held}
use Rattle.sym_forwarding.proofs.OwnerHops.{back}

-- what the first of some items gives that pass two tests
mapped_twice : {A B : Type 0} (f : A → B) (q p : A → Bool) (x : A) (xs : List A) →
    map f (filter q (filter p (x ∷ xs))) ≡ cond (p x && q x) (f x ∷ []) [] ++ map f (filter q (filter p xs))
mapped_twice {A} {B} f q p x xs = by_one (p x) where
  by_other : (c : Bool) → map f (cond c (x ∷ filter q (filter p xs)) (filter q (filter p xs)))
      ≡ cond c (f x ∷ []) [] ++ map f (filter q (filter p xs))
  by_other true = refl
  by_other false = refl

  by_one : (b : Bool) → map f (filter q (cond b (x ∷ filter p xs) (filter p xs)))
      ≡ cond (b && q x) (f x ∷ []) [] ++ map f (filter q (filter p xs))
  by_one true = by_other (q x)
  by_one false = refl

offered_step : (files : List File) (failures : Failures) (packet : Packet) (tables : Tables) (router : ℕ) (p : Prefix)
    (held : Option OspfRec) (x : Adjacency) (xs : List Adjacency) →
    offered_hops files failures packet tables router p held (x ∷ xs)
    ≡ cond (is_up_from files failures router x && offers tables p held x) (send_adjacent files packet x ∷ []) []
    ++ offered_hops files failures packet tables router p held xs
offered_step files failures packet tables router p None x xs = by_up (is_up_from files failures router x) where
  by_up : (b : Bool) → ◌≡◌ {A = List Hop} [] (cond (b && false) (send_adjacent files packet x ∷ []) [] ++ [])
  by_up true = refl
  by_up false = refl
offered_step files failures packet tables router p (Some h) x xs =
    mapped_twice (send_adjacent files packet) (offers_held tables p h) (is_up_from files failures router) x xs

pub offered_back : (files : List File) (failures : Failures) (packet : Packet) (tables : Tables) (router : ℕ)
    (p : Prefix) (held : Option OspfRec) (xs : List Adjacency) (i : ℕ) (d : Adjacency) → 0 < i → i ≤ length xs →
    offered_hops files failures packet tables router p held (drop (i - 1) xs)
    ≡ cond (is_up_from files failures router (get_or xs (i - 1) d) && offers tables p held (get_or xs (i - 1) d))
    (send_adjacent files packet (get_or xs (i - 1) d) ∷ []) []
    ++ offered_hops files failures packet tables router p held (drop i xs)
offered_back files failures packet tables router p held xs i d above within =
    back (offered_hops files failures packet tables router p held)
    (λ y rest. cond (is_up_from files failures router y && offers tables p held y) (send_adjacent files packet y ∷ [])
    [] ++ rest)
    (offered_step files failures packet tables router p held) xs i d above within

-- these are the hops of an OSPF entry
pub offered_all : (files : List File) (failures : Failures) (packet : Packet) (tables : Tables) (router : ℕ)
    (p : Prefix) (held : Option OspfRec) →
    offered_hops files failures packet tables router p held (adjacencies files)
    ≡ option_map_or (λ h. map (send_adjacent files packet) (sent_by_ospf files failures tables router p h)) held []
unfolding sent_by_ospf up_adjacencies
offered_all files failures packet tables router p None = refl
offered_all files failures packet tables router p (Some h) = refl

-- an offer that is there where the adjacency is up
pub offered_where : (b : Bool) (offer over held : Option OspfRec) → offer ≡ cond b over None →
    option_map_or (λ h. option_map_or (same_record h) offer false) held false
    ≡ (b && option_map_or (λ h. option_map_or (same_record h) over false) held false)
offered_where true offer over held is =
    ap (λ (o : Option OspfRec). option_map_or (λ h. option_map_or (same_record h) o false) held false) is
offered_where false offer over None is = refl
offered_where false offer over (Some h) is = ap (λ (o : Option OspfRec). option_map_or (same_record h) o false) is

-- what the slot of the far router offers
pub far_offer : (w : Reading) (tables : SymTables) (p : Prefix) (a : Adjacency) (s : SymSlot) → p.len < LENGTHS →
    slot_placed tables a.to.router p.len ≡ Some s →
    option_and_then (extended a.cost) (ospf_of w s.ospf) ≡ offer_over (read_tables w tables) p a
far_offer w tables p a s short there =
    sym (ap (λ (o : Option Slot). option_and_then (extended a.cost) (option_and_then (λ (slot : Slot). slot.ospf) o))
    (slot_there w tables.lens.now tables.routers tables.slots.now a.to.router p.len s short there))

-- and nothing where there is none
pub none_offered : (w : Reading) (tables : SymTables) (p : Prefix) (a : Adjacency) (up : Bool) (held : Option OspfRec) →
    p.len < LENGTHS → slot_placed tables a.to.router p.len ≡ None →
    false ≡ (up && offers (read_tables w tables) p held a)
none_offered w tables p a up held short none = by up held (ap (option_and_then (extended a.cost))
    (slot_missing w tables.lens.now tables.routers tables.slots.now (λ slot. slot.ospf) a.to.router p.len refl short
    none))
  where
    by : (b : Bool) (o : Option OspfRec) → offer_over (read_tables w tables) p a ≡ None →
        false ≡ (b && offers (read_tables w tables) p o a)
    by false o nothing = refl
    by true None nothing = refl
    by true (Some h) nothing = sym (ap (λ x. option_map_or (same_record h) x false) nothing)
