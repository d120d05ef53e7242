-- Entries of routers without static routes and BGP.
use Rattle.std.proofs.Common.{◌≡◌, ℕ, ◌<◌, Bool, true, false, List, [], ◌∷◌, ◌++◌, length, map, Option}
use Rattle.std.proofs.Common.{Some, None, inl, inr, refl, sym, ap, arith, ◌∙◌, slice_get, nat_lt}
use Rattle.std.specs.Prelude.{◌⊎◌, ◌==◌, MatchOption, fold, is_none, option_and_then, option_map, if◌then◌else◌}
use Rattle.std.specs.List.{list_all}
use Rattle.std.specs.Option.{option_map_or, option_to_list}
use Rattle.std.proofs.lemmas.Bool.{and_parts, eqb-true}
use Rattle.std.proofs.lemmas.Option.{same_Some}
use Rattle.mw_text.specs.Address.{prefix_at}
use Rattle.mw_text.specs.Members.{In}
use Rattle.mw_text.proofs.Lists.{all_at}
use Rattle.ios_ast.specs.declared.bgp.Bgp.{Bgp}
use Rattle.ios_ast.specs.declared.file.File.{File}
use Rattle.ios_ast.specs.declared.file.StaticRoute.{StaticRoute}
use Rattle.route_record.specs.declared.BgpRec.{BgpRec}
use Rattle.route_record.specs.declared.Environment.{Environment}
use Rattle.route_record.specs.declared.OspfRec.{OspfRec}
use Rattle.route_record.specs.declared.RibEntry.{RibEntry}
use Rattle.route_record.specs.declared.RibSource.TheVariants.{Connected, Static, Ebgp, Ospf, Ibgp}
use Rattle.route_record.specs.declared.Slot.{Slot}
use Rattle.route_record.specs.declared.TheConstants.{LENGTHS}
use Rattle.route_record.specs.declared.World.{World}
use Rattle.route_record.specs.Places.{slot_at}
use Rattle.net_parts.specs.Entries.{bgp_entry, entry_with, ospf_entry, own_is_as_good}
use Rattle.net_parts.specs.Routing.{candidates, closer, is_direct, least_distance, static_routes, up_interfaces}
use Rattle.net_parts.specs.Decisions.{DecidedByBgp}
use Rattle.net_parts.specs.Exports.{learnt_over}
use Rattle.net_parts.specs.Stable.{Stable}
use Rattle.net_parts.proofs.LeastWalks.{in-cases, in-filter, in-map, in-option}
use Rattle.slot_places.proofs.Supports.{file_there}
use Rattle.loop_free_walks.specs.Entries.{AreInterior, is_interior, is_plain}

-- the nearest of some candidates is one of them
least_in : (es : List RibEntry) (b m : RibEntry) → fold closer (Some b) es ≡ Some m → (b ≡ m) ⊎ In m es
least_in [] b m is = inl (same_Some b m is)
least_in (e ∷ es) b m is = by (nat_lt e.distance b.distance) is (least_in es) where
  by : (t : Bool) → fold closer (if t then Some e else Some b) es ≡ Some m →
      ((x n : RibEntry) → fold closer (Some x) es ≡ Some n → (x ≡ n) ⊎ In n es) → (b ≡ m) ⊎ In m (e ∷ es)
  by true nearer rest = later (rest e m nearer) where
    later : (e ≡ m) ⊎ In m es → (b ≡ m) ⊎ In m (e ∷ es)
    later (inl same) = inr (inl (sym same))
    later (inr there) = inr (inr there)
  by false farther rest = later (rest b m farther) where
    later : (b ≡ m) ⊎ In m es → (b ≡ m) ⊎ In m (e ∷ es)
    later (inl same) = inl same
    later (inr there) = inr (inr there)

least_member : (es : List RibEntry) (m : RibEntry) → least_distance es ≡ Some m → In m es
least_member [] m is = absurd cc
least_member (e ∷ es) m is = by (least_in es e m is) where
  by : (e ≡ m) ⊎ In m es → In m (e ∷ es)
  by (inl same) = inl (sym same)
  by (inr there) = inr there

module _ (files : List File) (world : World) (environment : Environment)
    (stable : Stable files world.packet.dst world.failures environment world.tables)
    (plain : list_all is_plain files ≡ true) where
  module _ (router len : ℕ) (slot : Slot) (short : len < LENGTHS) (here : slot_at world.tables router len ≡ Some slot)
      (file : File) (found : slice_get files router ≡ Some file) where
    parts : ((length file.statics == 0) ≡ true) × (is_none file.bgp ≡ true)
    parts = and_parts (length file.statics == 0) (is_none file.bgp) (all_at is_plain files router file plain found)

    no_statics : (routes : List StaticRoute) → length routes ≡ 0 → (x : StaticRoute) → In x routes → ⊥
    no_statics [] none x there = absurd there
    no_statics (route ∷ routes) none x there = absurd (omega (arith, none))

    no_bgp : slot.bgp ≡ None
    no_bgp = by file.bgp refl parts.1 (stable.equations router len file slot found short here).bgp where
      by : (o : Option Bgp) → file.bgp ≡ o → is_none o ≡ true →
          MatchOption o (slot.bgp ≡ None) (λ process. DecidedByBgp files world.failures environment world.tables router
          file process (prefix_at world.packet.dst len) slot.bgp) → slot.bgp ≡ None
      by None none is decided = decided
      by (Some process) some is decided = absurd cc

    from_candidates : (e : RibEntry) →
        In e (candidates (up_interfaces files world.failures router) file.statics (prefix_at world.packet.dst len)) →
        is_interior e.source ≡ true
    from_candidates e there = by (in-cases e (if is_direct (up_interfaces files world.failures router)
        (prefix_at world.packet.dst len) then record { source = Connected; distance = 0 } ∷ [] else []) _ there)
      where
        direct : (b : Bool) → In e (if b then record { source = Connected; distance = 0 } ∷ [] else []) →
            is_interior e.source ≡ true
        direct true (inl same) = ap (λ (x : RibEntry). is_interior x.source) same
        direct true (inr none) = absurd none
        direct false none = absurd none

        by : In e (if is_direct (up_interfaces files world.failures router) (prefix_at world.packet.dst len)
            then record { source = Connected; distance = 0 } ∷ [] else [])
            ⊎ In e (map (λ (route : StaticRoute). record { source = Static; distance = route.distance })
            (static_routes (up_interfaces files world.failures router) file.statics (prefix_at world.packet.dst len))) →
            is_interior e.source ≡ true
        by (inl connected) = direct (is_direct (up_interfaces files world.failures router)
            (prefix_at world.packet.dst len)) connected
        by (inr static) =
            let route = in-map (λ (route : StaticRoute). record { source = Static; distance = route.distance }) _ e
            static in
            absurd (no_statics file.statics (eqb-true (length file.statics) 0 parts.0) route.0 (in-filter _ file.statics route.0 route.1).0)

    from_bgp : (e : RibEntry) → In e (option_to_list (bgp_entry files router slot)) → is_interior e.source ≡ true
    from_bgp e there = absurd (never (ap (option_and_then learnt) no_bgp) (in-option (bgp_entry files router slot) e there))
      where
        learnt : BgpRec → Option RibEntry
        learnt held = option_map (λ end. if end.internal then record { source = Ibgp; distance = 200 }
            else record { source = Ebgp; distance = 20 }) (learnt_over files router held.from)

        never : option_and_then learnt slot.bgp ≡ None → option_and_then learnt slot.bgp ≡ Some e → ⊥
        never none some = let both : None ≡ Some e = sym none ∙ some in cc

    from_ospf : (own : Bool) (e : RibEntry) → In e (option_to_list (ospf_entry own slot)) → is_interior e.source ≡ true
    from_ospf own e there = by slot.ospf (in-option (ospf_entry own slot) e there) where
      by_own : (b : Bool) → (if b then None else Some (record { source = Ospf; distance = 110 })) ≡ Some e →
          is_interior e.source ≡ true
      by_own true is = absurd cc
      by_own false is =
          ap (λ (x : RibEntry). is_interior x.source) (sym (same_Some (record { source = Ospf; distance = 110 }) e is))

      by : (o : Option OspfRec) → option_and_then (λ (held : OspfRec). if own then None else Some (record {
        source = Ospf;
        distance = 110;
      })) o ≡ Some e → is_interior e.source ≡ true
      by None is = absurd cc
      by (Some held) is = by_own own is

    from_any : (own : Bool) (e : RibEntry) →
        In e (candidates (up_interfaces files world.failures router) file.statics (prefix_at world.packet.dst len)
        ++ option_to_list (bgp_entry files router slot) ++ option_to_list (ospf_entry own slot)) →
        is_interior e.source ≡ true
    from_any own e there = by (in-cases e (candidates (up_interfaces files world.failures router) file.statics
        (prefix_at world.packet.dst len) ++ option_to_list (bgp_entry files router slot)) _ there)
      where
        first : In e (candidates (up_interfaces files world.failures router) file.statics
            (prefix_at world.packet.dst len)) ⊎ In e (option_to_list (bgp_entry files router slot)) →
            is_interior e.source ≡ true
        first (inl candidate) = from_candidates e candidate
        first (inr bgp) = from_bgp e bgp

        by : In e (candidates (up_interfaces files world.failures router) file.statics (prefix_at world.packet.dst len)
            ++ option_to_list (bgp_entry files router slot)) ⊎ In e (option_to_list (ospf_entry own slot)) →
            is_interior e.source ≡ true
        by (inl earlier) = first (in-cases e (candidates (up_interfaces files world.failures router) file.statics
            (prefix_at world.packet.dst len)) _ earlier)
        by (inr ospf) = from_ospf own e ospf

    entry_interior : (o : Option RibEntry) → slot.rib ≡ o → option_map_or (λ e. is_interior e.source) o true ≡ true
    unfolding entry_with
    entry_interior None none = refl
    entry_interior (Some e) some =
        from_any (own_is_as_good files world.failures router file (prefix_at world.packet.dst len) slot) e
        (least_member _ e (sym (stable.equations router len file slot found short here).rib ∙ some))

  pub all_plain : AreInterior world.tables
  all_plain router len slot short here =
      let found = file_there files world.tables router len slot stable.size here in
      entry_interior router len slot short here found.0 found.1 slot.rib refl
