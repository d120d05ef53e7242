-- Candidates of local routes, and copies of routes.
use Rattle.std.proofs.Common.{◌≡◌, ℕ, zero, suc, ◌+◌, ◌<◌, Bool, true, false, not, max, List, [], ◌∷◌, ◌++◌, map, drop, length, get_or}
use Rattle.std.proofs.Common.{◌≤◌, Option, Some, None, refl, sym, ap, ◌∙◌, if◌then◌else◌, append-nil}
use Rattle.std.specs.Prelude.{is_some, option_map}
use Rattle.std.specs.List.{cons_option, filter_map}
use Rattle.std.specs.Option.{option_to_list}
use Rattle.std.proofs.lemmas.List.{append_assoc, drop_all, drop_more}
use Rattle.route_record.specs.declared.tracked.Tracked.{Tracked}
use Rattle.route_shapes.specs.Bgp.{BgpShape}
use Rattle.bgp_shapes.specs.Candidates.{ShapeCandidate}
use Rattle.term_store.specs.Terms.{Reading, at}
use Rattle.term_arith.specs.declared.Bits.{Bits}
use Rattle.term_arith.specs.Bits.{bits, ids_end, number}
use Rattle.sym_policy.specs.declared.parts.SymRest.{SymRest}
use Rattle.sym_policy.specs.declared.parts.SymRoute.{SymRoute}
use Rattle.sym_policy.specs.declared.records.SymBgp.{SymBgp}
use Rattle.sym_policy.specs.declared.records.SymMapRec.{SymMapRec}
use Rattle.sym_policy.specs.Held.{bgp_end, bgp_of}
use Rattle.sym_policy.specs.SameNodes.{IsJoined, IsRest, IsSeen}
use Rattle.sym_policy.specs.MapRecs.{HasTracked}
use Rattle.sym_rib.specs.Into.{list_end}
use Rattle.sym_rib.proofs.OneEach.{filter_map_push}
use Rattle.std.proofs.Common.{arith, filter, ◌==◌}
use Rattle.std.specs.List.{enumerate_from}
use Rattle.std.specs.Option.{option_map_or}
use Rattle.ios_ast.specs.declared.bgp.Bgp.{Bgp}
use Rattle.ios_ast.specs.declared.file.File.{File}
use Rattle.net_parts.specs.Sessions.{ends_of}
use Rattle.bgp_shapes.specs.Candidates.{shape_candidates, shape_local, shape_local_routes}
use Rattle.sym_policy.specs.declared.records.SymNet.{SymNet}
use Rattle.sym_policy.specs.Held.{failures_of}
use Rattle.sym_policy.specs.Records.{prefix_of}
use Rattle.sym_rib.specs.declared.slots.SymSlot.{SymSlot}
use Rattle.sym_rib.specs.declared.slots.SymTables.{SymTables}
use Rattle.sym_rib.specs.Worlds.{slot_placed}
use Rattle.bgp_equations.specs.declared.environment.SymEnv.{SymEnv}
use Rattle.bgp_equations.specs.Environments.{environment_read}
use Rattle.silent_routers.proofs.Heard.{own_same}
use Rattle.bgp_equations.specs.Equations.{learnt_read, sending_read, slot_read, slots_read}

-- ---- a copy of a route

-- it has the same nodes, number by number
record IsCopy (a b : SymBgp) : Type 0 where
  valid : b.valid ≡ a.valid
  weight : b.weight.nodes.items ≡ a.weight.nodes.items
  local_pref : b.local_pref.nodes.items ≡ a.local_pref.nodes.items
  origin : b.origin.nodes.items ≡ a.origin.nodes.items
  med : b.med.nodes.items ≡ a.med.nodes.items
  next_hop : b.next_hop.nodes.items ≡ a.next_hop.nodes.items
  originator : b.originator.nodes.items ≡ a.originator.nodes.items
  from : b.from.nodes.items ≡ a.from.nodes.items
  len : b.len.nodes.items ≡ a.len.nodes.items
  first : b.first.nodes.items ≡ a.first.nodes.items
  last : b.last.nodes.items ≡ a.last.nodes.items
  numbers : b.numbers.nodes.items ≡ a.numbers.nodes.items
  communities : b.communities.nodes.items ≡ a.communities.nodes.items
  cluster_len : b.cluster_len.nodes.items ≡ a.cluster_len.nodes.items
  clusters : b.clusters.nodes.items ≡ a.clusters.nodes.items

is_copy : (a : SymBgp) (route : SymRoute) (rest : SymRest) (made : SymMapRec) →
    IsSeen (record { bgp = a; type1 = a.valid }) route → IsRest a rest → IsJoined a.valid route rest made →
    IsCopy a made.bgp
is_copy a route rest made s t h = record {
  valid = h.valid;
  weight = sym h.seen.preferences.weight ∙ s.preferences.weight;
  local_pref = sym h.seen.preferences.local_pref ∙ s.preferences.local_pref;
  origin = sym h.seen.preferences.origin ∙ s.preferences.origin;
  med = sym h.seen.preferences.med ∙ s.preferences.med;
  next_hop = sym h.rest.next_hop ∙ t.next_hop;
  originator = sym h.rest.originator ∙ t.originator;
  from = sym h.rest.from ∙ t.from;
  len = sym h.seen.path.len ∙ s.path.len;
  first = sym h.seen.path.first ∙ s.path.first;
  last = sym h.seen.path.last ∙ s.path.last;
  numbers = sym h.seen.path.numbers ∙ s.path.numbers;
  communities = sym h.seen.communities ∙ s.communities;
  cluster_len = sym h.rest.cluster_len ∙ t.cluster_len;
  clusters = sym h.rest.clusters ∙ t.clusters;
}

pub copy_read : (a : SymBgp) (route : SymRoute) (rest : SymRest) (made : SymMapRec) →
    IsSeen (record { bgp = a; type1 = a.valid }) route → IsRest a rest → IsJoined a.valid route rest made →
    (w : Reading) → bgp_of w made.bgp ≡ bgp_of w a
copy_read a route rest made s t h w =
    let c = is_copy a route rest made s t h in
    (λ i. if at w (c.valid i) then Some (record {
      preferences = record {
        weight = number w (c.weight i);
        local_pref = number w (c.local_pref i);
        med = number w (c.med i);
        origin = number w (c.origin i);
      };
      path = record {
        len = number w (c.len i);
        first = number w (c.first i);
        last = number w (c.last i);
        numbers = bits w (c.numbers i);
      };
      communities = bits w (c.communities i);
      next_hop = number w (c.next_hop i);
      originator = number w (c.originator i);
      from = number w (c.from i);
      cluster_len = number w (c.cluster_len i);
      clusters = bits w (c.clusters i);
    }) else None)

pub copy_end : (a : SymBgp) (route : SymRoute) (rest : SymRest) (made : SymMapRec) →
    IsSeen (record { bgp = a; type1 = a.valid }) route → IsRest a rest → IsJoined a.valid route rest made →
    bgp_end made.bgp ≡ bgp_end a
copy_end a route rest made s t h =
    let c = is_copy a route rest made s t h in
    (λ i.
    max
    (max (max ((c.valid i).0 + 1) (max (ids_end (c.weight i)) (ids_end (c.local_pref i))))
    (max (ids_end (c.med i)) (ids_end (c.origin i))))
    (max
    (max (max (ids_end (c.len i)) (ids_end (c.first i))) (max (ids_end (c.last i)) (ids_end (c.numbers i))))
    (max (max (ids_end (c.communities i)) (ids_end (c.next_hop i)))
    (max (max (ids_end (c.originator i)) (ids_end (c.from i)))
    (max (ids_end (c.cluster_len i)) (ids_end (c.clusters i)))))))

pub copy_marks : (tracked : Tracked) (a : SymBgp) (route : SymRoute) (rest : SymRest) (made : SymMapRec) →
    IsSeen (record { bgp = a; type1 = a.valid }) route → IsRest a rest → IsJoined a.valid route rest made →
    HasTracked tracked a → HasTracked tracked made.bgp
copy_marks tracked a route rest made s t h has =
    let c = is_copy a route rest made s t h in record {
      numbers = ap length c.numbers ∙ has.numbers;
      communities = ap length c.communities ∙ has.communities;
      clusters = ap length c.clusters ∙ has.clusters;
    }

pub ruleset copy_steps = (copy_read, copy_end, copy_marks)

-- ---- the candidate of a local route

pub local_is : (valid external : Bool) (s : BgpShape) (cost peer id : ℕ) (o : Option BgpShape) → external ≡ false →
    cost ≡ 0 → peer ≡ id → (if valid then Some s else None) ≡ o →
    ◌≡◌ {A = Option ShapeCandidate}
    (if valid then Some (record { rec = s; external = external; cost = cost; peer_id = peer }) else None)
    (option_map (λ s. record { rec = s; external = false; cost = 0; peer_id = id }) o)
local_is valid external s cost peer id o external_is cost_is peer_is is =
    (λ i. if valid then Some (record { rec = s; external = external_is i; cost = cost_is i; peer_id = peer_is i })
    else None)
    ∙ by valid
    ∙ ap (option_map (λ s. record { rec = s; external = false; cost = 0; peer_id = id })) is
  where
    by : (b : Bool) → ◌≡◌ {A = Option ShapeCandidate}
        (if b then Some (record { rec = s; external = false; cost = 0; peer_id = id }) else None)
        (option_map (λ s. record { rec = s; external = false; cost = 0; peer_id = id }) (if b then Some s else None))
    by true = refl
    by false = refl

-- one more candidate, of one more route
pub local_more : {A X Y C : Type 0} (f : C → Option Y) (L : X → Y) (g : A → Option X) (cands after : List C) (c : C)
    (own : List A) (i : ℕ) (a : A) → i < length own → a ≡ get_or own i a → after ≡ cands ++ c ∷ [] →
    f c ≡ option_map L (g a) →
    filter_map f after ++ map L (filter_map g (drop (i + 1) own))
    ≡ filter_map f cands ++ map L (filter_map g (drop i own))
local_more {A} {X} {Y} f L g cands after c own i a within here is same =
    ap (λ xs. filter_map f xs ++ rest) is
    ∙ ap (λ xs. xs ++ rest) (filter_map_push f cands c)
    ∙ append_assoc (filter_map f cands) (option_to_list (f c)) rest
    ∙ ap (λ xs. filter_map f cands ++ xs)
    (ap (λ o. option_to_list o ++ rest) same ∙ by (g a)
    ∙ ap (λ xs. map L (filter_map g xs))
    (sym (drop_more own i a within ∙ ap (λ y. y ∷ drop (i + 1) own) (sym here))))
  where
    rest : List Y
    rest = map L (filter_map g (drop (i + 1) own))

    by : (o : Option X) → option_to_list (option_map L o) ++ rest
        ≡ map L (cons_option o (filter_map g (drop (i + 1) own)))
    by None = refl
    by (Some x) = refl

pub local_end : {A X Y : Type 0} (L : X → Y) (g : A → Option X) (own : List A) (i : ℕ) (before : List Y) →
    length own ≤ i → before ++ map L (filter_map g (drop i own)) ≡ before
local_end L g own i before past =
    ap (λ xs. before ++ map L (filter_map g xs)) (drop_all i own past) ∙ append-nil before

-- ---- a missing route

pub missing_is : (valid : Bool) (s : BgpShape) → not valid ≡ not (is_some (if valid then Some s else None))
missing_is true s = refl
missing_is false s = refl

-- ---- an item of a list

pub end_item : {A : Type 0} (end : A → ℕ) (xs : List A) (i : ℕ) (x : A) → i < length xs → x ≡ get_or xs i x →
    end x ≤ list_end end xs
end_item end [] i x within is = absurd (omega (arith, within))
end_item end (y ∷ xs) zero x within is = let same = ap end is in omega (arith, same)
end_item end (y ∷ xs) (suc i) x within is =
    let rest = end_item end xs i x (omega (arith, within)) is in omega (arith, rest)

-- ---- all candidates

pub whole : (w : Reading) (tracked : Tracked) (files : List File) (sym : SymNet) (env : SymEnv) (tables : SymTables)
    (dst : Bits) (len router : ℕ) (file : File) (process : Bgp) (slot : SymSlot) →
    slot_placed tables router len ≡ Some slot →
    map (shape_local files router)
    (shape_local_routes tracked files router file process (prefix_of w dst len) (slot_read w slot))
    ++ filter_map (learnt_read w tracked files sym env tables dst len)
    (filter (λ e. e.1.router == router) (enumerate_from 0 (ends_of files)))
    ≡ shape_candidates tracked files (failures_of w sym) (environment_read w files tables.lens.now env)
    (sending_read w files tables len) router file process (prefix_of w dst len)
unfolding shape_candidates
whole w tracked files s env tables dst len router file process slot there =
    ap (λ o. map (shape_local files router) (option_map_or
    (shape_local_routes tracked files router file process (prefix_of w dst len)) (option_map (slot_read w) o) [])
    ++ filter_map (learnt_read w tracked files s env tables dst len)
    (filter (λ e. e.1.router == router) (enumerate_from 0 (ends_of files)))) (sym there)
    ∙ ap (λ own. map (shape_local files router) own ++ filter_map (learnt_read w tracked files s env tables dst len)
    (filter (λ e. e.1.router == router) (enumerate_from 0 (ends_of files))))
    (sym (own_same tracked files (slots_read w tables len) router file process (prefix_of w dst len)))
