-- What the far sides send after a slot was written.
use Rattle.std.proofs.Common.{◌≡◌, ◌∙◌, ◌≢◌, ◌⊎◌, ℕ, ◌+◌, ◌*◌, ◌<◌, ◌==◌, false, List}
use Rattle.std.proofs.Common.{Option, Some, None, refl, ap, sym, subst, arith, inl, inr}
use Rattle.std.specs.Prelude.{slice_get, option_and_then}
use Rattle.std.specs.Option.{option_map_or}
use Rattle.std.proofs.lemmas.Bool.{cases_order, eqb-false}
use Rattle.mw_text.specs.declared.address.Addr.{Addr}
use Rattle.mw_text.specs.declared.address.Prefix.{Prefix}
use Rattle.mw_text.specs.Address.{prefix_at}
use Rattle.ios_ast.specs.declared.file.File.{File}
use Rattle.route_record.specs.declared.BgpRec.{BgpRec}
use Rattle.route_record.specs.declared.Environment.{Environment}
use Rattle.route_record.specs.declared.Slot.{Slot}
use Rattle.route_record.specs.declared.Tables.{Tables}
use Rattle.route_record.specs.declared.TheConstants.{LENGTHS}
use Rattle.route_record.specs.Places.{slot_at}
use Rattle.net_parts.specs.declared.adjacencies.Adjacency.{Adjacency}
use Rattle.net_parts.specs.declared.sessions.Far.{Far}
use Rattle.net_parts.specs.declared.sessions.Far.TheVariants.{Outside, Inside}
use Rattle.net_parts.specs.declared.sessions.SessionEnd.{SessionEnd}
use Rattle.net_parts.specs.Decisions.{arriving}
use Rattle.net_parts.specs.Exports.{exported}
use Rattle.net_parts.specs.Ospf.{adjacencies}
use Rattle.net_parts.specs.OspfRoutes.{far_record}
use Rattle.net_parts.specs.Sessions.{ends_of}
use Rattle.machine_laws.specs.Events.{with_slot}
use Rattle.machine_laws.specs.Sending.{arriving_at, comes_from, is_at, offered_at, offers_from}
use Rattle.machine_laws.proofs.ChannelLaws.{written_elsewhere, written_there}

-- ---- the slots after a write

slot_written : (tables : Tables) (router len : ℕ) (slot new : Slot) → slot_at tables router len ≡ Some slot →
    slot_at (with_slot tables router len new) router len ≡ Some new
slot_written tables router len slot new is = written_there tables.slots (LENGTHS * router + len) slot new is

slot_other : (tables : Tables) (router len r l : ℕ) (new : Slot) → len < LENGTHS → l < LENGTHS →
    (router ≡ r → len ≡ l → ⊥) → slot_at (with_slot tables router len new) r l ≡ slot_at tables r l
slot_other tables router len r l new h k ne =
    written_elsewhere tables.slots (LENGTHS * router + len) (LENGTHS * r + l) new (λ e. ne (omega arith) (omega arith))

-- a part of a slot stays wherever the slot was not written, and there too where it did not change
part_stays : {A : Type 0} (part : Slot → Option A) (tables : Tables) (router len r l : ℕ) (slot new : Slot) →
    len < LENGTHS → l < LENGTHS → slot_at tables router len ≡ Some slot → (router ≡ r → len ≡ l → part new ≡ part slot) →
    ((router ≡ r) × (len ≡ l)) ⊎ (router ≡ r → len ≡ l → ⊥) →
    option_and_then part (slot_at (with_slot tables router len new) r l) ≡ option_and_then part (slot_at tables r l)
part_stays part tables router len r l slot new h k is still (inl here) =
    let before : option_and_then part (slot_at tables router len) ≡ part slot = rw is refl in
    let now : option_and_then part (slot_at (with_slot tables router len new) router len) ≡ part new =
    rw (slot_written tables router len slot new is) refl in
    let same : option_and_then part (slot_at (with_slot tables router len new) router len)
    ≡ option_and_then part (slot_at tables router len) = now ∙ (still here.0 here.1 ∙ sym before) in
    subst (λ j. option_and_then part (slot_at (with_slot tables router len new) j l)
    ≡ option_and_then part (slot_at tables j l)) here.0
    (subst (λ j. option_and_then part (slot_at (with_slot tables router len new) router j)
    ≡ option_and_then part (slot_at tables router j)) here.1 same)
part_stays part tables router len r l slot new h k is still (inr apart) =
    ap (option_and_then part) (slot_other tables router len r l new h k apart)

same_place : (router len r l : ℕ) → ((router ≡ r) × (len ≡ l)) ⊎ (router ≡ r → len ≡ l → ⊥)
same_place router len r l = by_router (cases_order router r) (cases_order len l) where
  by_router : (router ≡ r) ⊎ ((router < r) ⊎ (r < router)) → (len ≡ l) ⊎ ((len < l) ⊎ (l < len)) →
      ((router ≡ r) × (len ≡ l)) ⊎ (router ≡ r → len ≡ l → ⊥)
  by_router (inl a) (inl b) = inl (a, b)
  by_router (inl a) (inr b) = inr (λ e f. omega arith)
  by_router (inr a) b = inr (λ e f. omega arith)

part_kept : {A : Type 0} (part : Slot → Option A) (tables : Tables) (router len r l : ℕ) (slot new : Slot) →
    len < LENGTHS → l < LENGTHS → slot_at tables router len ≡ Some slot → (router ≡ r → len ≡ l → part new ≡ part slot) →
    option_and_then part (slot_at (with_slot tables router len new) r l) ≡ option_and_then part (slot_at tables r l)
part_kept part tables router len r l slot new h k is still =
    part_stays part tables router len r l slot new h k is still (same_place router len r l)

-- ---- what arrives follows what the far side holds

abbrev held_at : Tables → ℕ → ℕ → Option BgpRec
held_at tables router len = option_and_then (λ slot. slot.bgp) (slot_at tables router len)

far_sends : (files : List File) (one two : Tables) (p : Prefix) (far : Option SessionEnd) →
    ((f : SessionEnd) → far ≡ Some f → held_at one f.router p.len ≡ held_at two f.router p.len) →
    option_and_then (λ f. option_and_then (exported files f p) (held_at one f.router p.len)) far
    ≡ option_and_then (λ f. option_and_then (exported files f p) (held_at two f.router p.len)) far
far_sends files one two p None same = refl
far_sends files one two p (Some f) same = ap (option_and_then (exported files f p)) (same f refl)

far_arrives : (files : List File) (environment : Environment) (one two : Tables) (p : Prefix) (at : ℕ)
    (end : SessionEnd) →
    ((far_at : ℕ) (f : SessionEnd) → end.far ≡ Inside far_at → slice_get (ends_of files) far_at ≡ Some f →
    held_at one f.router p.len ≡ held_at two f.router p.len) →
    arriving files environment one p at end ≡ arriving files environment two p at end
unfolding arriving
far_arrives files environment one two p at end same = by end.far refl where
  by : (far : Far) → end.far ≡ far → arriving files environment one p at end ≡ arriving files environment two p at end
  by Outside is =
      ap (λ f. arriving files environment one p at (record end { far = f })) is
      ∙ sym (ap (λ f. arriving files environment two p at (record end { far = f })) is)
  by (Inside far_at) is =
      ap (λ f. arriving files environment one p at (record end { far = f })) is
      ∙ (far_sends files one two p (slice_get (ends_of files) far_at) (λ f there. same far_at f is there)
      ∙ sym (ap (λ f. arriving files environment two p at (record end { far = f })) is))

end_arrives : (files : List File) (environment : Environment) (one two : Tables) (p : Prefix) (at : ℕ)
    (end : Option SessionEnd) →
    ((e : SessionEnd) (far_at : ℕ) (f : SessionEnd) → end ≡ Some e → e.far ≡ Inside far_at →
    slice_get (ends_of files) far_at ≡ Some f → held_at one f.router p.len ≡ held_at two f.router p.len) →
    option_and_then (arriving files environment one p at) end ≡ option_and_then (arriving files environment two p at) end
end_arrives files environment one two p at None same = refl
end_arrives files environment one two p at (Some e) same =
    far_arrives files environment one two p at e (λ far_at f is there. same e far_at f refl is there)

-- of other lengths what arrives stays
pub arriving_kept : (files : List File) (d : Addr) (environment : Environment) (tables : Tables)
    (router len at l : ℕ) (slot new : Slot) → len < LENGTHS → l < LENGTHS → slot_at tables router len ≡ Some slot → l ≢ len →
    arriving_at files d environment (with_slot tables router len new) at l ≡ arriving_at files d environment tables at l
unfolding arriving_at
arriving_kept files d environment tables router len at l slot new h k is ne =
    end_arrives files environment (with_slot tables router len new) tables (prefix_at d l) at (slice_get (ends_of files) at)
    (λ e far_at f _ _ _. part_kept (λ x. x.bgp) tables router len f.router l slot new h k is
    (λ _ same. absurd (ne (sym same))))

not_from : (files : List File) (router at : ℕ) (e f : SessionEnd) (far_at : ℕ) → comes_from files router at ≡ false →
    slice_get (ends_of files) at ≡ Some e → e.far ≡ Inside far_at → slice_get (ends_of files) far_at ≡ Some f →
    router ≢ f.router
unfolding comes_from
not_from files router at e f far_at none here inside there same =
    let first : option_map_or (λ end. is_at files router end.far) (Some e) false ≡ false = rw here at none in
    let second : is_at files router (Inside far_at) ≡ false = rw inside at first in
    let third : option_map_or (λ far. far.router == router) (Some f) false ≡ false = rw there at second in
    eqb-false f.router router third (sym same)

-- of the written one it stays where the BGP part did, and where it does not come from the router
pub arriving_still : (files : List File) (d : Addr) (environment : Environment) (tables : Tables)
    (router len at : ℕ) (slot new : Slot) → len < LENGTHS → slot_at tables router len ≡ Some slot →
    (new.bgp ≡ slot.bgp) ⊎ (comes_from files router at ≡ false) →
    arriving_at files d environment (with_slot tables router len new) at len
    ≡ arriving_at files d environment tables at len
unfolding arriving_at
arriving_still files d environment tables router len at slot new h is (inl same) =
    end_arrives files environment (with_slot tables router len new) tables (prefix_at d len) at
    (slice_get (ends_of files) at)
    (λ e far_at f _ _ _. part_kept (λ x. x.bgp) tables router len f.router len slot new h h is (λ _ _. same))
arriving_still files d environment tables router len at slot new h is (inr apart) =
    end_arrives files environment (with_slot tables router len new) tables (prefix_at d len) at
    (slice_get (ends_of files) at)
    (λ e far_at f here inside there. part_kept (λ x. x.bgp) tables router len f.router len slot new h h is
    (λ same _. absurd (not_from files router at e f far_at apart here inside there same)))

-- ---- offers likewise

adjacency_offers : (one two : Tables) (p : Prefix) (a : Option Adjacency) →
    ((x : Adjacency) → a ≡ Some x → far_record one p x ≡ far_record two p x) →
    option_and_then (far_record one p) a ≡ option_and_then (far_record two p) a
adjacency_offers one two p None same = refl
adjacency_offers one two p (Some x) same = same x refl

pub offered_kept : (files : List File) (d : Addr) (tables : Tables) (router len at l : ℕ) (slot new : Slot) →
    len < LENGTHS → l < LENGTHS → slot_at tables router len ≡ Some slot → l ≢ len →
    offered_at files d (with_slot tables router len new) at l ≡ offered_at files d tables at l
unfolding offered_at
offered_kept files d tables router len at l slot new h k is ne =
    adjacency_offers (with_slot tables router len new) tables (prefix_at d l) (slice_get (adjacencies files) at)
    (λ x _. part_kept (λ s. s.ospf) tables router len x.to.router l slot new h k is (λ _ same. absurd (ne (sym same))))

not_offered : (files : List File) (router at : ℕ) (a : Adjacency) → offers_from files router at ≡ false →
    slice_get (adjacencies files) at ≡ Some a → router ≢ a.to.router
unfolding offers_from
not_offered files router at a none here same =
    let one : option_map_or (λ x. x.to.router == router) (Some a) false ≡ false = rw here at none in
    eqb-false a.to.router router one (sym same)

pub offered_still : (files : List File) (d : Addr) (tables : Tables) (router len at : ℕ) (slot new : Slot) →
    len < LENGTHS → slot_at tables router len ≡ Some slot →
    (new.ospf ≡ slot.ospf) ⊎ (offers_from files router at ≡ false) →
    offered_at files d (with_slot tables router len new) at len ≡ offered_at files d tables at len
unfolding offered_at
offered_still files d tables router len at slot new h is (inl same) =
    adjacency_offers (with_slot tables router len new) tables (prefix_at d len) (slice_get (adjacencies files) at)
    (λ x _. part_kept (λ s. s.ospf) tables router len x.to.router len slot new h h is (λ _ _. same))
offered_still files d tables router len at slot new h is (inr apart) =
    adjacency_offers (with_slot tables router len new) tables (prefix_at d len) (slice_get (adjacencies files) at)
    (λ x here. part_kept (λ s. s.ospf) tables router len x.to.router len slot new h h is
    (λ same _. absurd (not_offered files router at x apart here same)))
