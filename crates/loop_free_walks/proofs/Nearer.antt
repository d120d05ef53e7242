-- A hop leads nearer to the destination: by a longer prefix, or by an OSPF route that costs less.
use Rattle.std.proofs.Common.{◌≡◌, ℕ, ◌+◌, ◌*◌, ◌^◌, ◌/◌, ◌-◌, ◌<◌, ◌≤◌, Bool, true, false, ◌&&◌, List, [], ◌∷◌}
use Rattle.std.proofs.Common.{◌++◌, map, nat_lt, Option, Some, None, inl, inr, refl, sym, ap, subst, arith, ◌∙◌, slice_get}
use Rattle.std.specs.Prelude.{◌==◌, ◌⊎◌, All, fold, option_and_then, if◌then◌else◌}
use Rattle.std.specs.List.{filter_map, list_any}
use Rattle.std.specs.Option.{option_map_or, option_to_list}
use Rattle.std.proofs.lemmas.Bool.{and_from, and_parts, cases_lt, eq-eqb, eqb-true}
use Rattle.std.proofs.lemmas.Option.{option_and_then_some, same_Some}
use Rattle.mw_text.specs.declared.address.Addr.{Addr}
use Rattle.mw_text.specs.declared.address.Prefix.{Prefix}
use Rattle.mw_text.specs.Address.{prefix_at, same_prefix}
use Rattle.mw_text.specs.Members.{In}
use Rattle.ios_ast.specs.declared.file.File.{File}
use Rattle.ios_ast.specs.declared.file.StaticRoute.{StaticRoute}
use Rattle.ios_ast.specs.declared.ospf.DefaultOrigin.{DefaultOrigin}
use Rattle.ios_ast.specs.declared.ospf.Ospf.{Ospf as OspfProcess}
use Rattle.ios_ast.specs.declared.ospf.Redist.{Redist}
use Rattle.route_record.specs.declared.Environment.{Environment}
use Rattle.route_record.specs.declared.OspfKind.TheVariants.{Internal}
use Rattle.route_record.specs.declared.OspfRec.{OspfRec}
use Rattle.route_record.specs.declared.RibEntry.{RibEntry}
use Rattle.route_record.specs.declared.RibSource.{RibSource}
use Rattle.route_record.specs.declared.RibSource.TheVariants.{Connected, Static, Ebgp, Ospf, Ibgp}
use Rattle.route_record.specs.declared.Slot.{Slot}
use Rattle.route_record.specs.declared.TheConstants.{LENGTHS}
use Rattle.route_record.specs.declared.World.{World}
use Rattle.route_record.specs.Places.{slot_at}
use Rattle.net_interfaces.specs.declared.interfaces.Addressed.{Addressed}
use Rattle.net_interfaces.specs.Interfaces.{addressed}
use Rattle.net_interfaces.proofs.Members.{filter-in}
use Rattle.net_parts.specs.declared.ospf.OspfInterface.{OspfInterface}
use Rattle.net_parts.specs.Entries.{bgp_entry, entry_with, ospf_entry, own_is_as_good}
use Rattle.net_parts.specs.Origins.{into_ospf, is_default, originated_default, redistributed}
use Rattle.net_parts.specs.Ospf.{adjacencies, advertisement, origin_interfaces, ospf_at, ospf_interfaces, receives, up_adjacencies}
use Rattle.net_parts.specs.OspfRoutes.{extended, is_as_good, is_own, kind_rank, offer_over, own_origins}
use Rattle.net_parts.specs.Routing.{candidates, closer, is_direct, least_distance, static_routes, up_interfaces}
use Rattle.net_parts.specs.Sending.{same_record}
use Rattle.net_parts.specs.Stable.{Stable}
use Rattle.net_parts.specs.World.{is_up}
use Rattle.net_parts.proofs.LeastWalks.{in-cases, in-filter, in-filter_map, in-left, in-map, in-option, in-right, option-in}
use Rattle.net_parts.proofs.LeastWalks.{ospf_at-same}
use Rattle.question_lang.specs.Hops.{longest_below}
use Rattle.slot_places.proofs.Members.{any-in, in-any}
use Rattle.slot_places.proofs.Supports.{all_in}
use Rattle.loop_free_walks.specs.Entries.{AreInterior}
use Rattle.loop_free_walks.proofs.Hops.{IsSent, Leads, longest_is, longest_least, owns}

-- ---- an order

-- a longer prefix, or one as long at less cost
abbrev pub IsNearer : ℕ × ℕ → ℕ × ℕ → Type 0
IsNearer a b = (b.0 < a.0) ⊎ ((a.0 ≡ b.0) × (a.1 < b.1))

pub nearer_still : (a b c : ℕ × ℕ) → IsNearer a b → IsNearer b c → IsNearer a c
nearer_still a b c (inl one) (inl two) = inl (omega (arith, one, two))
nearer_still a b c (inl one) (inr two) = let same = two.0 in inl (omega (arith, one, same))
nearer_still a b c (inr one) (inl two) = let same = one.0 in inl (omega (arith, two, same))
nearer_still a b c (inr one) (inr two) =
    let first = one.1 in
    let second = two.1 in
    inr (one.0 ∙ two.0, omega (arith, first, second))

pub never_nearer : (a : ℕ × ℕ) → IsNearer a a → ⊥
never_nearer a (inl less) = absurd (omega (arith, less))
never_nearer a (inr less) = let second = less.1 in absurd (omega (arith, second))

-- ---- entries

least_from : (es : List RibEntry) (b : RibEntry) → (m : RibEntry) × (fold closer (Some b) es ≡ Some m)
least_from [] b = (b, refl)
least_from (e ∷ es) b = by (nat_lt e.distance b.distance) (least_from es) where
  by : (t : Bool) → ((x : RibEntry) → (m : RibEntry) × (fold closer (Some x) es ≡ Some m)) →
      (m : RibEntry) × (fold closer (if t then Some e else Some b) es ≡ Some m)
  by true rest = rest e
  by false rest = rest b

-- of some candidates one is the nearest
some_least : (es : List RibEntry) (e : RibEntry) → In e es → (m : RibEntry) × (least_distance es ≡ Some m)
some_least [] e none = absurd none
some_least (x ∷ es) e there = least_from es x

-- the prefix of 32 bits of an address is the address
whole : (a d : Addr) (len : ℕ) → same_prefix (prefix_at a 32) (prefix_at d len) ≡ true → (a.0 == d.0) ≡ true
whole a d len same =
    let parts = and_parts (a.0 / 2 ^ (32 - 32) * 2 ^ (32 - 32) == d.0 / 2 ^ (32 - len) * 2 ^ (32 - len)) (32 == len) same in
    let long : 32 ≡ len = eqb-true 32 len parts.1 in
    let first = eqb-true (a.0 / 2 ^ (32 - 32) * 2 ^ (32 - 32)) (d.0 / 2 ^ (32 - len) * 2 ^ (32 - len)) parts.0 in
    let last : d.0 / 2 ^ (32 - len) * 2 ^ (32 - len) ≡ d.0 / 2 ^ (32 - 32) * 2 ^ (32 - 32) =
    ap (λ n. d.0 / 2 ^ (32 - n) * 2 ^ (32 - n)) (sym long) in
    let one : a.0 ≡ a.0 / 1 * 1 = omega arith in
    let other : d.0 ≡ d.0 / 1 * 1 = omega arith in
    eq-eqb a.0 d.0 (one ∙ first ∙ last ∙ sym other)

-- ---- what a router has where it holds a route

module _ (files : List File) (world : World) (environment : Environment)
    (stable : Stable files world.packet.dst world.failures environment world.tables)
    (costs : All (λ a. 0 < a.cost) (adjacencies files))
    (interior : AreInterior world.tables) where
  -- the slot has an entry
  abbrev HasEntry : Slot → Type 0
  HasEntry slot = (entry : RibEntry) × (slot.rib ≡ Some entry)

  module _ (router len : ℕ) (file : File) (slot : Slot) (found : slice_get files router ≡ Some file) (short : len < LENGTHS)
      (here : slot_at world.tables router len ≡ Some slot) where
    abbrev p : Prefix
    p = prefix_at world.packet.dst len

    abbrev all : Bool → List RibEntry
    all own =
        candidates (up_interfaces files world.failures router) file.statics (prefix_at world.packet.dst len)
        ++ option_to_list (bgp_entry files router slot) ++ option_to_list (ospf_entry own slot)

    -- an entry stands where there is a candidate
    from_candidate : (e : RibEntry) →
        In e (all (own_is_as_good files world.failures router file (prefix_at world.packet.dst len) slot)) → HasEntry slot
    unfolding entry_with
    from_candidate e there =
        let least = some_least _ e there in
        (least.0, (stable.equations router len file slot found short here).rib ∙ least.1)

    from_connected : is_direct (up_interfaces files world.failures router) (prefix_at world.packet.dst len) ≡ true →
        HasEntry slot
    from_connected direct =
        from_candidate (record { source = Connected; distance = 0 })
        (in-left (record { source = Connected; distance = 0 })
        (candidates (up_interfaces files world.failures router) file.statics (prefix_at world.packet.dst len)
        ++ option_to_list (bgp_entry files router slot))
        (option_to_list (ospf_entry (own_is_as_good files world.failures router file (prefix_at world.packet.dst len) slot)
        slot))
        (in-left (record { source = Connected; distance = 0 })
        (candidates (up_interfaces files world.failures router) file.statics (prefix_at world.packet.dst len))
        (option_to_list (bgp_entry files router slot))
        (in-left (record { source = Connected; distance = 0 })
        (if is_direct (up_interfaces files world.failures router) (prefix_at world.packet.dst len)
        then record { source = Connected; distance = 0 } ∷ [] else [])
        (map (λ (route : StaticRoute). record { source = Static; distance = route.distance })
        (static_routes (up_interfaces files world.failures router) file.statics (prefix_at world.packet.dst len)))
        (subst (λ b. In {X = RibEntry} (record { source = Connected; distance = 0 })
        (if b then record { source = Connected; distance = 0 } ∷ [] else [])) (sym direct) (inl refl)))))

    -- by an own origin by an interface
    from_interface : owns files world router ≡ false → (x : OspfInterface) →
        In x (origin_interfaces files world.failures router (prefix_at world.packet.dst len)) → HasEntry slot
    unfolding ospf_interfaces
    from_interface elsewhere x there = by x.at.loopback refl where
      inside : In x (ospf_interfaces files) × ((x.at.id.router == router)
          && (same_prefix (advertisement x) (prefix_at world.packet.dst len) && is_up files world.failures x.at) ≡ true)
      inside = in-filter _ (ospf_interfaces files) x there

      of_router : ((x.at.id.router == router) ≡ true)
          × ((same_prefix (advertisement x) (prefix_at world.packet.dst len) && is_up files world.failures x.at) ≡ true)
      of_router = and_parts (x.at.id.router == router) _ inside.1

      told : (same_prefix (advertisement x) (prefix_at world.packet.dst len) ≡ true)
          × (is_up files world.failures x.at ≡ true)
      told = and_parts (same_prefix (advertisement x) (prefix_at world.packet.dst len)) _ of_router.1

      -- the interface is one of the router that is up
      own : In x.at (up_interfaces files world.failures router)
      own =
          let at = in-filter_map (ospf_at files) (addressed files) x inside.0 in
          filter-in (λ (y : Addressed). (y.id.router == router) && is_up files world.failures y) (addressed files) x.at
          (subst (λ y. In y (addressed files)) (sym (ospf_at-same files at.0 x at.2)) at.1)
          (and_from (x.at.id.router == router) _ of_router.0 told.1)

      by : (b : Bool) → x.at.loopback ≡ b → HasEntry slot
      by false subnet =
          from_connected (any-in (λ (y : Addressed). same_prefix y.subnet (prefix_at world.packet.dst len))
          (up_interfaces files world.failures router) x.at own
          (sym (ap (λ b. same_prefix (if b then prefix_at x.at.addr 32 else x.at.subnet) (prefix_at world.packet.dst len))
          subnet) ∙ told.0))
      by true address =
          let same : same_prefix (prefix_at x.at.addr 32) (prefix_at world.packet.dst len) ≡ true =
          sym (ap (λ b. same_prefix (if b then prefix_at x.at.addr 32 else x.at.subnet) (prefix_at world.packet.dst len))
          address) ∙ told.0 in
          let owned : true ≡ false =
          sym (any-in (λ (y : Addressed). y.addr.0 == world.packet.dst.0) (up_interfaces files world.failures router) x.at
          own (whole x.at.addr world.packet.dst len same)) ∙ elsewhere in
          absurd cc

    -- or by what the process takes from the table, which may be the default route
    from_taken : (process : OspfProcess) (o : OspfRec) →
        In o (redistributed file process (prefix_at world.packet.dst len) slot) → HasEntry slot ⊎ (len ≡ 0)
    unfolding redistributed
    from_taken process o there =
        by (in-cases o (filter_map (into_ospf file (prefix_at world.packet.dst len) slot) process.redistribute) _ there)
      where
        line_of : (line : Redist) → into_ospf file (prefix_at world.packet.dst len) slot line ≡ Some o →
            (r : Option RibEntry) → slot.rib ≡ r → HasEntry slot
        line_of line is None none = absurd (nothing none is) where
          nothing : slot.rib ≡ None → into_ospf file (prefix_at world.packet.dst len) slot line ≡ Some o → ⊥
          nothing none' is' = cc
        line_of line is (Some entry) some = (entry, some)

        default_of : (line : DefaultOrigin) → (b : Bool) → is_default (prefix_at world.packet.dst len) ≡ b →
            originated_default (prefix_at world.packet.dst len) slot line ≡ Some o → len ≡ 0
        default_of line true is some = eqb-true len 0 is
        default_of line false is some = absurd (none is some) where
          none : is_default (prefix_at world.packet.dst len) ≡ false →
              originated_default (prefix_at world.packet.dst len) slot line ≡ Some o → ⊥
          none is' some' = cc

        by : In o (filter_map (into_ospf file (prefix_at world.packet.dst len) slot) process.redistribute)
            ⊎ In o (option_to_list (option_and_then (originated_default (prefix_at world.packet.dst len) slot)
            process.default)) → HasEntry slot ⊎ (len ≡ 0)
        by (inl line) =
            let found' = in-filter_map (into_ospf file (prefix_at world.packet.dst len) slot) process.redistribute o line in
            inl (line_of found'.0 found'.2 slot.rib refl)
        by (inr default) =
            inr (option_and_then_some (originated_default (prefix_at world.packet.dst len) slot) process.default o
            (in-option _ o default) (λ line there' some. default_of line (is_default (prefix_at world.packet.dst len)) refl
            some))

    -- where the router holds a route it has an entry, but where the default route is its own
    pub entry_there : owns files world router ≡ false → (h : OspfRec) → slot.ospf ≡ Some h → HasEntry slot ⊎ (len ≡ 0)
    unfolding own_origins
    entry_there elsewhere h holds =
        by (own_is_as_good files world.failures router file (prefix_at world.packet.dst len) slot) refl
      where
        from_origin : (process : OspfProcess) (o : OspfRec) →
            In o (own_origins files world.failures router file process (prefix_at world.packet.dst len) slot) →
            HasEntry slot ⊎ (len ≡ 0)
        from_origin process o there =
            choose (in-cases o (map (λ (x : OspfInterface). record { kind = Internal; metric = 0; cost = x.cost })
            (origin_interfaces files world.failures router (prefix_at world.packet.dst len))) _ there)
          where
            choose : In o (map (λ (x : OspfInterface). record { kind = Internal; metric = 0; cost = x.cost })
                (origin_interfaces files world.failures router (prefix_at world.packet.dst len)))
                ⊎ In o (redistributed file process (prefix_at world.packet.dst len) slot) → HasEntry slot ⊎ (len ≡ 0)
            choose (inl own) = let x = in-map _ _ o own in inl (from_interface elsewhere x.0 x.1)
            choose (inr taken) = from_taken process o taken

        by_process : (q : Option OspfProcess) → file.ospf ≡ q →
            option_map_or (λ process. list_any (λ o. is_as_good o h) (own_origins files world.failures router file process
            (prefix_at world.packet.dst len) slot)) q false ≡ true → HasEntry slot ⊎ (len ≡ 0)
        by_process None none is = absurd cc
        by_process (Some process) runs is =
            let good = in-any (λ o. is_as_good o h) _ is in from_origin process good.0 good.1

        by : (b : Bool) →
            own_is_as_good files world.failures router file (prefix_at world.packet.dst len) slot ≡ b →
            HasEntry slot ⊎ (len ≡ 0)
        by true own =
            by_process file.ospf refl
            (sym (ap (λ o. option_map_or (is_own files world.failures router file (prefix_at world.packet.dst len) slot) o
            false) holds) ∙ own)
        by false own =
            inl (from_candidate (record { source = Ospf; distance = 110 })
            (in-right (record { source = Ospf; distance = 110 })
            (candidates (up_interfaces files world.failures router) file.statics (prefix_at world.packet.dst len)
            ++ option_to_list (bgp_entry files router slot)) _ (option-in (ospf_entry (own_is_as_good files world.failures router file (prefix_at world.packet.dst len)
            slot) slot) (record { source = Ospf; distance = 110 })
            (ap (λ o. option_and_then (λ (r : OspfRec). if own_is_as_good files world.failures router file
            (prefix_at world.packet.dst len) slot then None else Some (record { source = Ospf; distance = 110 })) o) holds
            ∙ ap (λ b. if b then None else Some (record { source = Ospf; distance = 110 })) own))))

  -- ---- how near a router is

  abbrev cost_in : RibSource → Slot → ℕ
  cost_in Connected slot = 0
  cost_in Static slot = option_map_or (λ h. h.cost) slot.ospf 0
  cost_in Ebgp slot = option_map_or (λ h. h.cost) slot.ospf 0
  cost_in Ospf slot = option_map_or (λ h. h.cost) slot.ospf 0
  cost_in Ibgp slot = option_map_or (λ h. h.cost) slot.ospf 0

  abbrev mark_of : ℕ × Slot × RibEntry → ℕ × ℕ
  mark_of found = (found.0, cost_in found.2.source found.1)

  abbrev pub mark : ℕ → ℕ × ℕ
  mark router = option_map_or mark_of (longest_below world.tables router LENGTHS) (0, 0)

  -- the far router of an adjacency holds the route at less cost
  record IsCheaper (len far : ℕ) (held : OspfRec) : Type 0 where
    slot : Slot
    here : slot_at world.tables far len ≡ Some slot
    route : OspfRec
    holds : slot.ospf ≡ Some route
    cost : route.cost < held.cost

  cheaper : (router len far : ℕ) (slot : Slot) (sent : IsSent files world router len slot far) →
      IsCheaper len far sent.held
  unfolding up_adjacencies
  cheaper router len far slot sent =
      by_offer (offer_over world.tables (prefix_at world.packet.dst len) sent.over) refl sent.offers
    where
      some : 0 < sent.over.cost
      some = all_in (λ a. 0 < a.cost) (adjacencies files) sent.over costs
          (in-filter (receives files world.failures router) (adjacencies files) sent.over sent.there).0

      costs_more : (r o : OspfRec) → extended sent.over.cost r ≡ Some o → o.cost ≡ r.cost + sent.over.cost
      costs_more r o is = by (nat_lt (r.cost + sent.over.cost) (2 ^ 32)) is where
        by : (b : Bool) → (if b then Some (record r { cost = r.cost + sent.over.cost }) else None) ≡ Some o →
            o.cost ≡ r.cost + sent.over.cost
        by true same = ap (λ (x : OspfRec). x.cost) (sym (same_Some (record r { cost = r.cost + sent.over.cost }) o same))
        by false same = absurd cc

      by_offer : (o : Option OspfRec) → offer_over world.tables (prefix_at world.packet.dst len) sent.over ≡ o →
          option_map_or (same_record sent.held) o false ≡ true → IsCheaper len far sent.held
      by_offer None none is = absurd cc
      by_offer (Some o) offers is =
          let second = and_parts (kind_rank sent.held.kind == kind_rank o.kind) _ is in
          let third = and_parts (sent.held.metric == o.metric) _ second.1 in
          let equal : sent.held.cost ≡ o.cost = eqb-true sent.held.cost o.cost third.1 in
          option_and_then_some (extended sent.over.cost)
          (option_and_then (λ (x : Slot). x.ospf) (slot_at world.tables sent.over.to.router len)) o offers
          (λ r holds is'. option_and_then_some (λ (x : Slot). x.ospf) (slot_at world.tables sent.over.to.router len) r
          holds (λ x at holds'.
          let more = costs_more r o is' in
          record {
            slot = x;
            here = ap (λ q. slot_at world.tables q len) (sym sent.to) ∙ at;
            route = r;
            holds = holds';
            cost = omega (arith, equal, more, some);
          }))

  -- the router to which a hop leads is nearer, where it sends the packet on
  pub nearer : (router far next : ℕ) → Leads files world router far → Leads files world far next →
      IsNearer (mark far) (mark router)
  nearer router far next first onward = by_how first.how where
    here : mark router ≡ (first.len, cost_in first.entry.source first.slot)
    here = ap (λ o. option_map_or mark_of o (0, 0)) first.longest

    there : mark far ≡ (onward.len, cost_in onward.entry.source onward.slot)
    there = ap (λ o. option_map_or mark_of o (0, 0)) onward.longest

    is : (onward.len < LENGTHS) × (slot_at world.tables far onward.len ≡ Some onward.slot) × (onward.slot.rib ≡ Some onward.entry)
    is = longest_is world.tables far LENGTHS onward.len onward.slot onward.entry onward.longest

    was : (first.len < LENGTHS) × (slot_at world.tables router first.len ≡ Some first.slot)
        × (first.slot.rib ≡ Some first.entry)
    was = longest_is world.tables router LENGTHS first.len first.slot first.entry first.longest

    by_source : (source : RibSource) (slot : Slot) (route held : OspfRec) → slot.ospf ≡ Some route →
        route.cost < held.cost → cost_in source slot < held.cost
    by_source Connected slot route held holds less = omega (arith, less)
    by_source Static slot route held holds less =
        let cost = ap (λ o. option_map_or (λ (h : OspfRec). h.cost) o 0) holds in omega (arith, cost, less)
    by_source Ebgp slot route held holds less =
        let cost = ap (λ o. option_map_or (λ (h : OspfRec). h.cost) o 0) holds in omega (arith, cost, less)
    by_source Ospf slot route held holds less =
        let cost = ap (λ o. option_map_or (λ (h : OspfRec). h.cost) o 0) holds in omega (arith, cost, less)
    by_source Ibgp slot route held holds less =
        let cost = ap (λ o. option_map_or (λ (h : OspfRec). h.cost) o 0) holds in omega (arith, cost, less)

    at_least : (held : OspfRec) (c : IsCheaper first.len far held) → first.len ≤ onward.len
    at_least held c = by (entry_there far first.len onward.file c.slot onward.found was.0 c.here onward.elsewhere c.route c.holds) where
      by : HasEntry c.slot ⊎ (first.len ≡ 0) → first.len ≤ onward.len
      by (inl entry) =
          longest_least world.tables far LENGTHS first.len onward.len c.slot onward.slot entry.0 onward.entry c.here entry.1 was.0
          onward.longest
      by (inr default) = omega (arith, default)

    compare : (sent : IsSent files world router first.len first.slot far) → first.entry.source ≡ Ospf →
        IsCheaper first.len far sent.held → IsNearer (mark far) (mark router)
    compare sent ospf c = subst (λ m. IsNearer m (mark router)) (sym there)
        (subst (IsNearer (onward.len, cost_in onward.entry.source onward.slot)) (sym here) (by (cases_lt first.len onward.len)))
      where
        cost : cost_in first.entry.source first.slot ≡ sent.held.cost
        cost = ap (λ s. cost_in s first.slot) ospf ∙ ap (λ o. option_map_or (λ (h : OspfRec). h.cost) o 0) sent.holds

        by : (first.len < onward.len) ⊎ (onward.len ≤ first.len) →
            IsNearer (onward.len, cost_in onward.entry.source onward.slot) (first.len, cost_in first.entry.source first.slot)
        by (inl longer) = inl longer
        by (inr shorter) =
            let least = at_least sent.held c in
            let same : onward.len ≡ first.len = omega (arith, shorter, least) in
            let slot : onward.slot ≡ c.slot =
            same_Some onward.slot c.slot (sym is.1 ∙ ap (slot_at world.tables far) same ∙ c.here) in
            let less = by_source onward.entry.source onward.slot c.route sent.held (ap (λ (s : Slot). s.ospf) slot ∙ c.holds)
            c.cost in
            inr (same, omega (arith, less, cost))

    by_how : (owns files world far ≡ true)
        ⊎ ((first.entry.source ≡ Ospf) × IsSent files world router first.len first.slot far) →
        IsNearer (mark far) (mark router)
    by_how (inl owner) = let both : true ≡ false = sym owner ∙ onward.elsewhere in absurd cc
    by_how (inr sends) = compare sends.1 sends.0 (cheaper router first.len far first.slot sends.1)
