-- One bit of the source of an entry tells whether the entry is made with OSPF's route, also beside a route of BGP.
use Rattle.std.proofs.Common.{◌≡◌, ℕ, ◌≤◌, Bool, true, false, not, List, [], ◌∷◌, ◌++◌, map, Option, Some, None}
use Rattle.std.proofs.Common.{refl, sym, ap, ◌∙◌, arith}
use Rattle.std.specs.Prelude.{All, IfSome, fold, nat_lt, option_and_then, option_map, if◌then◌else◌}
use Rattle.std.specs.Option.{option_to_list}
use Rattle.std.proofs.lemmas.Bool.Decides.{nat_tests}
use Rattle.std.proofs.lemmas.List.Elements.{All-append, All-cons, All-nil}
use Rattle.std.proofs.lemmas.List.Sums.{fold-append}
use Rattle.mw_text.specs.declared.address.Prefix.{Prefix}
use Rattle.ios_ast.specs.declared.file.File.{File}
use Rattle.ios_ast.specs.declared.file.StaticRoute.{StaticRoute}
use Rattle.route_record.specs.declared.BgpRec.{BgpRec}
use Rattle.route_record.specs.declared.Failures.{Failures}
use Rattle.route_record.specs.declared.OspfRec.{OspfRec}
use Rattle.route_record.specs.declared.RibEntry.{RibEntry}
use Rattle.route_record.specs.declared.RibSource.TheVariants.{Connected, Static, Ebgp, Ospf, Ibgp}
use Rattle.route_record.specs.declared.Slot.{Slot}
use Rattle.net_parts.specs.declared.sessions.SessionEnd.{SessionEnd}
use Rattle.net_parts.specs.Entries.{bgp_entry, entry_with, ospf_entry}
use Rattle.net_parts.specs.Exports.{learnt_over}
use Rattle.net_parts.specs.Routing.{candidates, closer, is_direct, static_routes, up_interfaces}
use Rattle.slot_places.proofs.Brought.{of_closer}
use Rattle.world_variables.specs.Slots.{entry_of_bit, has_dynamic, is_dynamic}
use Rattle.world_variables.proofs.Stability.{same_bit}

-- an entry whose number has the bit is closer than OSPF's
abbrev IsCloser : RibEntry → Type 0
IsCloser e = is_dynamic e.source ≡ true → e.distance ≤ 110

candidates_closer : (files : List File) (failures : Failures) (router : ℕ) (file : File) (p : Prefix) →
    All IsCloser (candidates (up_interfaces files failures router) file.statics p)
candidates_closer files failures router file p =
    All-append IsCloser _ (map static_entry (static_routes (up_interfaces files failures router) file.statics p))
    (direct (is_direct (up_interfaces files failures router) p))
    (statics (static_routes (up_interfaces files failures router) file.statics p))
  where
    static_entry : StaticRoute → RibEntry
    static_entry route = record { source = Static; distance = route.distance }

    no_bit : false ≡ true → (n : ℕ) → n ≤ 110
    no_bit is n = absurd cc

    direct : (b : Bool) → All IsCloser (if b then record { source = Connected; distance = 0 } ∷ [] else [])
    direct true = All-cons IsCloser _ [] (λ is. no_bit is 0) (All-nil IsCloser)
    direct false = All-nil IsCloser

    statics : (routes : List StaticRoute) → All IsCloser (map static_entry routes)
    statics [] = All-nil IsCloser
    statics (route ∷ routes) =
        All-cons IsCloser (static_entry route) (map static_entry routes) (λ is. no_bit is route.distance) (statics routes)

bgp_closer : (files : List File) (router : ℕ) (slot : Slot) → All IsCloser (option_to_list (bgp_entry files router slot))
bgp_closer files router slot = by_route slot.bgp
  where
    by_end : (o : Option SessionEnd) → All IsCloser (option_to_list (option_map (λ (end : SessionEnd).
        if end.internal then record { source = Ibgp; distance = 200 } else record { source = Ebgp; distance = 20 }) o))
    by_end None = All-nil IsCloser
    by_end (Some end) = All-cons IsCloser _ [] (by_kind end.internal) (All-nil IsCloser)
      where
        by_kind : (b : Bool) →
            IsCloser (if b then record { source = Ibgp; distance = 200 } else record { source = Ebgp; distance = 20 })
        by_kind true is = absurd cc
        by_kind false is = omega arith

    by_route : (o : Option BgpRec) → All IsCloser (option_to_list (option_and_then (λ (held : BgpRec).
        option_map (λ (end : SessionEnd).
        if end.internal then record { source = Ibgp; distance = 200 } else record { source = Ebgp; distance = 20 })
        (learnt_over files router held.from)) o))
    by_route None = All-nil IsCloser
    by_route (Some held) = by_end (learnt_over files router held.from)

-- the entry by all but OSPF is followed by OSPF's only where the bit says so
decided : (best : Option RibEntry) → IfSome best IsCloser → (ospf : Option OspfRec) (x : Bool) →
    fold closer best (option_to_list (option_and_then (λ held. if x then None else Some (record { source = Ospf; distance = 110 })) ospf))
    ≡ fold closer best (option_to_list (option_and_then (λ held. if not (has_dynamic (fold closer best
    (option_to_list (option_and_then (λ held. if x then None else Some (record { source = Ospf; distance = 110 })) ospf))))
    then None else Some (record { source = Ospf; distance = 110 })) ospf))
decided best close None x = refl
decided None close (Some r) true = refl
decided None close (Some r) false = refl
decided (Some e) close (Some r) true = by (is_dynamic e.source) refl
  where
    later : (b : Bool) → nat_lt 110 e.distance ≡ b → b ≡ false →
        Some e ≡ (if nat_lt 110 e.distance then Some (record { source = Ospf; distance = 110 }) else Some e)
    later b is off = sym (ap (λ c. if c then Some (record { source = Ospf; distance = 110 }) else Some e) (is ∙ off))

    not_less : (n : ℕ) → n ≤ 110 → nat_lt 110 n ≡ false
    not_less n most = grind (arith, nat_tests)

    by : (b : Bool) → is_dynamic e.source ≡ b →
        Some e ≡ fold closer (Some e) (option_to_list (if not b then None else Some (record { source = Ospf; distance = 110 })))
    by true is = later (nat_lt 110 e.distance) refl (not_less e.distance (close is))
    by false is = refl
decided (Some e) close (Some r) false = by (nat_lt 110 e.distance) refl
  where
    by_ospf : RibEntry
    by_ospf = record { source = Ospf; distance = 110 }

    stays : (b : Bool) → nat_lt 110 e.distance ≡ false →
        Some e ≡ fold closer (Some e) (option_to_list (if b then None else Some (record { source = Ospf; distance = 110 })))
    stays true is = refl
    stays false is = sym (ap (λ c. if c then Some by_ospf else Some e) is)

    by : (less : Bool) → nat_lt 110 e.distance ≡ less →
        (if nat_lt 110 e.distance then Some (record { source = Ospf; distance = 110 }) else Some e)
        ≡ fold closer (Some e) (option_to_list (if not (has_dynamic (if nat_lt 110 e.distance then Some (record { source = Ospf; distance = 110 }) else Some e))
        then None else Some (record { source = Ospf; distance = 110 })))
    by true is =
        ap (λ c. if c then Some by_ospf else Some e) is
        ∙ sym (ap (λ c. fold closer (Some e) (option_to_list (if not (has_dynamic (if c then Some by_ospf else Some e)) then None else Some by_ospf))) is
        ∙ ap (λ c. if c then Some by_ospf else Some e) is)
    by false is =
        ap (λ c. if c then Some by_ospf else Some e) is ∙ stays (not (is_dynamic e.source)) is
        ∙ sym (ap (λ c. fold closer (Some e) (option_to_list (if not (has_dynamic (if c then Some by_ospf else Some e)) then None else Some by_ospf))) is)

bit_decides : (files : List File) (failures : Failures) (router : ℕ) (file : File) (p : Prefix) (slot : Slot) (x : Bool) →
    entry_with files failures router file p slot x
    ≡ entry_with files failures router file p slot (not (has_dynamic (entry_with files failures router file p slot x)))
unfolding entry_with
bit_decides files failures router file p slot x =
    is x ∙ decided best own slot.ospf x
    ∙ ap (λ e. fold closer best (option_to_list (ospf_entry (not (has_dynamic e)) slot))) (sym (is x))
    ∙ sym (is _)
  where
    front : List RibEntry
    front = candidates (up_interfaces files failures router) file.statics p ++ option_to_list (bgp_entry files router slot)

    best : Option RibEntry
    best = fold closer None front

    is : (y : Bool) → fold closer None (front ++ option_to_list (ospf_entry y slot))
        ≡ fold closer best (option_to_list (ospf_entry y slot))
    is y = fold-append closer None front (option_to_list (ospf_entry y slot))

    own : IfSome best IsCloser
    own = of_closer IsCloser front None tt
        (All-append IsCloser (candidates (up_interfaces files failures router) file.statics p)
        (option_to_list (bgp_entry files router slot)) (candidates_closer files failures router file p)
        (bgp_closer files router slot))

-- the entry of a slot is made again from its bit
pub entry_again : (files : List File) (failures : Failures) (router : ℕ) (file : File) (p : Prefix) (slot : Slot)
    (own bit : Bool) → bit ≡ has_dynamic (entry_with files failures router file p slot own) →
    option_map (entry_of_bit bit) (entry_with files failures router file p slot (not bit))
    ≡ entry_with files failures router file p slot own
entry_again files failures router file p slot own bit is =
    ap (λ b. option_map (entry_of_bit b) (entry_with files failures router file p slot (not b))) is
    ∙ ap (option_map (entry_of_bit (has_dynamic (entry_with files failures router file p slot own))))
    (sym (bit_decides files failures router file p slot own))
    ∙ same_bit (entry_with files failures router file p slot own)
