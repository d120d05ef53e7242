-- The nodes that say which routers reach an origin, one router and one adjacency after another.
use Rattle.std.proofs.Common.{◌≡◌, ℕ, zero, suc, ◌+◌, ◌*◌, ◌<◌, ◌≤◌, Bool, true, false, ◌&&◌, ◌||◌, not, List, [], ◌∷◌}
use Rattle.std.proofs.Common.{◌++◌, Option, Some, None, inl, inr, refl, sym, ap, ap₂, subst, arith, ◌∙◌, length, map, drop}
use Rattle.std.proofs.Common.{get_or, max, nat_lt, slice_get}
use Rattle.std.specs.Prelude.{◌==◌, ◌⊎◌, if◌then◌else◌}
use Rattle.std.specs.List.{list_any}
use Rattle.std.specs.Option.{option_map_or}
use Rattle.std.proofs.Math.Bool.{and_assoc, or_assoc, or-false}
use Rattle.std.proofs.lemmas.Bool.{cases_lt, le-ltb, lt-ltb}
use Rattle.std.proofs.lemmas.Grind.{common_steps}
use Rattle.std.proofs.lemmas.List.{append_assoc, append-nil, drop_all, map-append}
use Rattle.std.proofs.lemmas.Option.{slice_get_cases, slice_get_past}
use Rattle.mw_text.specs.declared.address.Prefix.{Prefix}
use Rattle.mw_text.specs.Members.{all_below}
use Rattle.ios_ast.specs.declared.file.File.{File}
use Rattle.route_record.specs.declared.Failures.{Failures}
use Rattle.route_record.specs.declared.OspfKind.TheVariants.{Internal, Ext1, Ext2}
use Rattle.route_record.specs.declared.OspfRec.{OspfRec}
use Rattle.route_record.specs.declared.Slot.{Slot}
use Rattle.route_record.specs.declared.Tables.{Tables}
use Rattle.route_record.specs.declared.TheConstants.{LENGTHS}
use Rattle.route_record.specs.declared.tracked.Tracked.{Tracked}
use Rattle.route_record.specs.Places.{slot_at}
use Rattle.net_interfaces.proofs.Members.{any_mapped}
use Rattle.net_parts.specs.declared.adjacencies.Adjacency.{Adjacency}
use Rattle.net_parts.specs.Ospf.{adjacencies, is_adjacency_up, receives}
use Rattle.net_parts.specs.OspfRoutes.{own_origins}
use Rattle.ios_ast.specs.declared.ospf.Ospf.{Ospf}
use Rattle.sym_ospf.specs.Rows.{is_internal}
use Rattle.plan_places.specs.Tables.{empty_slot}
use Rattle.plan_places.proofs.PlaceSteps.{none_above}
use Rattle.plan_places.proofs.Tabulated.{none_past}
use Rattle.std.proofs.lemmas.Option.{slice_get-get_or}
use Rattle.sym_policy.specs.Held.{kind_of_number, ospf_of}
use Rattle.sym_rib.specs.declared.slots.SymSlot.{SymSlot}
use Rattle.sym_rib.specs.Slots.{StandsForSlot}
use Rattle.sym_rib.specs.Worlds.{StandForTables, sym_slot_at}
use Rattle.sym_rib.proofs.OneEach.{items_at}
use Rattle.term_arith.specs.Bits.{ids_end}
use Rattle.term_arith.proofs.NumberLemmas.{ids_end_at, ids_end_push}
use Rattle.term_store.specs.declared.NodeId.{NodeId}
use Rattle.term_store.specs.Terms.{Reading, at}
use Rattle.term_store.proofs.Growth.{slice_get_last, slice_get_push}
use Rattle.ospf_equations.specs.declared.adjacent.SymAdjacency.{SymAdjacency}
use Rattle.ospf_equations.specs.Reached.{TellOrigins, TellReached, are_reached, has_internal, holds_internal, is_led}
use Rattle.ospf_equations.specs.Reached.{is_reached, leads, originates_internal, told, up_in, up_read}
use Rattle.ospf_equations.proofs.AdjacentSteps.{up_below, ups_end_push}

-- the test of a route that may be there, by its numbers
pub internal_is : (there : Bool) (kind metric cost : ℕ) → (there && (kind == 0))
    ≡ has_internal (if there then Some (record { kind = kind_of_number kind; metric = metric; cost = cost }) else None)
internal_is false kind metric cost = refl
internal_is true kind metric cost = by_kind (kind == 0) (kind == 1) where
  by_kind : (internal first : Bool) → internal
      ≡ has_internal (Some (record {
        kind = if internal then Internal else (if first then Ext1 else Ext2);
        metric = metric;
        cost = cost;
      }))
  by_kind true first = refl
  by_kind false true = refl
  by_kind false false = refl

-- ---- nodes of routers

pub node_there : (nodes : List NodeId) (i : ℕ) (d : NodeId) → i < length nodes →
    (slice_get nodes i ≡ Some (get_or nodes i d)) × ((get_or nodes i d).0 < ids_end nodes)
node_there nodes i d below = (slice_get-get_or nodes i d below, ids_end_at nodes i d below)

pub told_at : (w : Reading) (nodes : List NodeId) (i : ℕ) (d : NodeId) → i < length nodes →
    told w nodes i ≡ at w (get_or nodes i d)
told_at w nodes i d below = ap (λ o. option_map_or (at w) o false) (slice_get-get_or nodes i d below)

-- where one is put behind those of the routers below it
pub told_push : (w : Reading) (nodes : List NodeId) (node : NodeId) (f : ℕ → Bool) (n : ℕ) → length nodes ≡ n →
    ((i : ℕ) → i < n → told w nodes i ≡ f i) → at w node ≡ f n →
    (i : ℕ) → i < n + 1 → told w (nodes ++ node ∷ []) i ≡ f i
told_push w nodes node f n long before last i below = by (cases_lt i n) where
  by : (i < n) ⊎ (n ≤ i) → told w (nodes ++ node ∷ []) i ≡ f i
  by (inl earlier) = there (slice_get_cases nodes i).1 where
    there : ((x : NodeId) × (i < length nodes) × (slice_get nodes i ≡ Some x) × (get_or nodes i x ≡ x))
        ⊎ ((length nodes ≤ i) × (slice_get nodes i ≡ None)) → told w (nodes ++ node ∷ []) i ≡ f i
    there (inl found) =
        ap (λ o. option_map_or (at w) o false) (slice_get_push nodes node found.0 i found.2
        ∙ sym found.2) ∙ before i earlier
    there (inr past) = absurd (omega (arith, long, earlier, past.0))
  by (inr later) =
      let same : i ≡ length nodes = omega (arith, later, below, long) in
      ap (λ k. told w (nodes ++ node ∷ []) k) same
      ∙ ap (λ o. option_map_or (at w) o false) (slice_get_last nodes node) ∙ last ∙ ap f (sym (same ∙ long))

-- what is put behind some
pub length_push : (nodes : List NodeId) (node : NodeId) → length (nodes ++ node ∷ []) ≡ length nodes + 1
length_push [] node = refl
length_push (x ∷ nodes) node = let rest = length_push nodes node in omega (arith, rest)

-- for a loop over the nodes of routers
pub ruleset node_steps = (common_steps, length_push, ids_end_push, ids_end_at)

-- ---- adjacencies

pub ups_push : (w : Reading) (over : List SymAdjacency) (s : SymAdjacency) →
    map (up_read w) (over ++ s ∷ []) ≡ map (up_read w) over ++ up_read w s ∷ []
ups_push w over s = map-append (up_read w) over (s ∷ [])

pub ruleset up_steps = (common_steps, items_at, drop_all, ups_push, ups_end_push, append_assoc, append-nil)

-- over one adjacency after another
pub led_next : (w : Reading) (reached : List NodeId) (router : ℕ) (s : SymAdjacency) (over : List SymAdjacency) →
    list_any (is_led w reached router) (s ∷ over)
    ≡ (is_led w reached router s || list_any (is_led w reached router) over)
led_next w reached router s over = refl

pub ruleset led_steps = (common_steps, items_at, up_below, drop_all, led_next, or_assoc, or-false)

-- ---- one step

any_same : {X : Type 0} (f g : X → Bool) (xs : List X) → ((x : X) → f x ≡ g x) → list_any f xs ≡ list_any g xs
any_same f g xs same = λ i. list_any (λ x. same x i) xs

below_same : (f g : ℕ → Bool) (n : ℕ) → ((k : ℕ) → k < n → f k ≡ g k) → all_below f n ≡ all_below g n
below_same f g zero same = refl
below_same f g (suc n) same =
    ap₂ (λ a b. a && b) (below_same f g n (λ k below. same k (omega (arith, below)))) (same n (omega arith))

module _ (w : Reading) (files : List File) (failures : Failures) (tables : Tables) (p : Prefix) where
  far_told : (n : ℕ) (reached : List NodeId) (q : ℕ) → length reached ≡ length files →
      TellReached w files failures tables p n reached →
      told w reached q ≡ (nat_lt q (length files) && is_reached files failures tables p n q)
  far_told n reached q long tell = by (cases_lt q (length files)) where
    by : (q < length files) ⊎ (length files ≤ q) →
        told w reached q ≡ (nat_lt q (length files) && is_reached files failures tables p n q)
    by (inl below) =
        tell q below
        ∙ sym (ap (λ b. b && is_reached files failures tables p n q) (lt-ltb q (length files) below))
    by (inr past) =
        ap (λ o. option_map_or (at w) o false) (slice_get_past reached q (omega (arith, past, long)))
        ∙ sym (ap (λ b. b && is_reached files failures tables p n q) (le-ltb q (length files) past))

  led_same : (n router : ℕ) (over : List SymAdjacency) (reached : List NodeId) →
      map (up_read w) over ≡ map (up_in files failures) (adjacencies files) → length reached ≡ length files →
      TellReached w files failures tables p n reached → list_any (is_led w reached router) over
      ≡ list_any (leads files failures (is_reached files failures tables p n) router) (adjacencies files)
  led_same n router over reached ups long tell =
      sym (any_mapped led (up_read w) over)
      ∙ ap (list_any led) ups
      ∙ any_mapped led (up_in files failures) (adjacencies files)
      ∙ any_same (λ a. led (up_in files failures a)) _ (adjacencies files) one
    where
      led : Bool × Adjacency → Bool
      led x = (x.1.from.router == router) && (x.0 && told w reached x.1.to.router)

      one : (a : Adjacency) → led (up_in files failures a)
          ≡ leads files failures (is_reached files failures tables p n) router a
      one a =
          sym (and_assoc (a.from.router == router) (is_adjacency_up files failures a) (told w reached a.to.router))
          ∙ ap (λ b. receives files failures router a && b) (far_told n reached a.to.router long tell)

  pub step_reached : (n : ℕ) (over : List SymAdjacency) (origins reached made : List NodeId) →
      map (up_read w) over ≡ map (up_in files failures) (adjacencies files) →
      TellOrigins w files failures tables p origins → length reached ≡ length files →
      TellReached w files failures tables p n reached →
      ((router : ℕ) → router < length files → told w made router
      ≡ (told w origins router || list_any (is_led w reached router) over)) →
      TellReached w files failures tables p (n + 1) made
  unfolding is_reached
  step_reached n over origins reached made ups told_origins long tell value router below =
      let next : n + 1 ≡ suc n = omega arith in
      value router below
      ∙ ap₂ (λ a b. a || b) (told_origins router below) (led_same n router over reached ups long tell)
      ∙ ap (λ k. is_reached files failures tables p k router) (sym next)

  pub first_reached : (origins : List NodeId) → TellOrigins w files failures tables p origins →
      TellReached w files failures tables p 0 origins
  unfolding is_reached
  first_reached origins told_origins = told_origins

  -- all routers
  pub all_told : (nodes : List NodeId) → TellReached w files failures tables p (length files) nodes →
      all_below (λ router. not (holds_internal tables p router) || told w nodes router) (length files)
      ≡ are_reached files failures tables p
  unfolding are_reached
  all_told nodes tell =
      below_same _ _ (length files) (λ router below. ap (λ b. not (holds_internal tables p router) || b) (tell router below))

-- ---- slots

module _ (w : Reading) (tracked : Tracked) (lens : List ℕ) (routers : ℕ) (slots : List SymSlot) (real : Tables)
    (stand : StandForTables w tracked lens routers slots real) where
  -- where no symbolic slot stands nothing is true that is not of an empty slot
  pub nothing_there : (f : Slot → Bool) (router len : ℕ) → f empty_slot ≡ false → len < LENGTHS →
      sym_slot_at lens routers slots router len ≡ None → option_map_or f (slot_at real router len) false ≡ false
  nothing_there f router len empty short none = by (cases_lt router routers) where
    at_slot : router < routers → (o : Option Slot) → slot_at real router len ≡ o → option_map_or f o false ≡ false
    at_slot below None is = refl
    at_slot below (Some slot) is = ap f (stand.off router len slot below short none is) ∙ empty

    by : (router < routers) ⊎ (routers ≤ router) → option_map_or f (slot_at real router len) false ≡ false
    by (inl below) = at_slot below (slot_at real router len) refl
    by (inr past) = ap (λ o. option_map_or f o false) (none_past real routers router len stand.long past)

  -- and a symbolic slot stands for one
  pub something_there : (router len : ℕ) (s : SymSlot) → len < LENGTHS →
      sym_slot_at lens routers slots router len ≡ Some s →
      (slot : Slot) × (slot_at real router len ≡ Some slot) × StandsForSlot w tracked s slot
  something_there router len s short here = by (cases_lt router routers) where
    slot : Slot
    slot = get_or real.slots (LENGTHS * router + len) empty_slot

    by : (router < routers) ⊎ (routers ≤ router) →
        (slot : Slot) × (slot_at real router len ≡ Some slot) × StandsForSlot w tracked s slot
    by (inl below) =
        let long = stand.long in
        let row : LENGTHS * router + LENGTHS ≤ LENGTHS * routers = omega (arith, below) in
        let there : slot_at real router len ≡ Some slot =
        slice_get-get_or real.slots (LENGTHS * router + len) empty_slot (omega (arith, short, long, row)) in
        (slot, there, stand.each router len s slot below short here there)
    by (inr past) =
        let none : None ≡ Some s = sym (none_above lens slots routers router len past) ∙ here in absurd cc

  -- of whose route is true what is true of the one that is read
  pub holds_there : (test : Option OspfRec → Bool) (router len : ℕ) (s : SymSlot) → len < LENGTHS →
      sym_slot_at lens routers slots router len ≡ Some s →
      test (ospf_of w s.ospf) ≡ option_map_or (λ slot. test slot.ospf) (slot_at real router len) false
  holds_there test router len s short here =
      let found = something_there router len s short here in
      ap test found.2.ospf
      ∙ sym (ap (λ o. option_map_or (λ (slot : Slot). test slot.ospf) o false) found.1)

-- ---- what a router originates

module _ (files : List File) (failures : Failures) (p : Prefix) (router : ℕ) (slot : Slot) where
  pub no_router : slice_get files router ≡ None → originates_internal files failures p router slot ≡ false
  unfolding originates_internal
  no_router none = ap (λ o. option_map_or (λ (file : File). option_map_or (λ (process : Ospf).
      list_any (λ (r : OspfRec). is_internal r.kind) (own_origins files failures router file process p slot)) file.ospf
      false) o false) none

  pub no_process : (file : File) → slice_get files router ≡ Some file → file.ospf ≡ None →
      originates_internal files failures p router slot ≡ false
  unfolding originates_internal
  no_process file found none =
      ap (λ o. option_map_or (λ (file : File). option_map_or (λ (process : Ospf).
      list_any (λ (r : OspfRec). is_internal r.kind) (own_origins files failures router file process p slot)) file.ospf
      false) o false) found
      ∙ ap (λ o. option_map_or (λ (process : Ospf). list_any (λ (r : OspfRec). is_internal r.kind)
      (own_origins files failures router file process p slot)) o false) none

  pub some_process : (file : File) (process : Ospf) → slice_get files router ≡ Some file → file.ospf ≡ Some process →
      originates_internal files failures p router slot
      ≡ list_any (λ r. is_internal r.kind) (own_origins files failures router file process p slot)
  unfolding originates_internal
  some_process file process found runs =
      ap (λ o. option_map_or (λ (file : File). option_map_or (λ (process : Ospf).
      list_any (λ (r : OspfRec). is_internal r.kind) (own_origins files failures router file process p slot)) file.ospf
      false) o false) found
      ∙ ap (λ o. option_map_or (λ (process : Ospf). list_any (λ (r : OspfRec). is_internal r.kind)
      (own_origins files failures router file process p slot)) o false) runs
