-- Routes that are put together, and what a map leaves of them.
use Rattle.std.proofs.Common.{◌≡◌, Bool, true, false, if◌then◌else◌, List, Option, Some, None}
use Rattle.std.proofs.Common.{length, refl, sym, ap, ◌∙◌}
use Rattle.std.specs.Option.{option_and_then, option_map}
use Rattle.term_store.specs.declared.NodeId.{NodeId}
use Rattle.term_store.specs.Terms.{Reading, at}
use Rattle.term_arith.specs.Bits.{bits, number}
use Rattle.route_record.specs.declared.tracked.Tracked.{Tracked}
use Rattle.route_shapes.specs.Bgp.{BgpShape}
use Rattle.route_shapes.specs.Shapes.{PathShape, Preferences, RouteShape}
use Rattle.bgp_shapes.specs.Messages.{seen_by_maps, with_seen}
use Rattle.sym_policy.specs.declared.parts.SymPreferences.{SymPreferences}
use Rattle.sym_policy.specs.declared.parts.SymRest.{SymRest}
use Rattle.sym_policy.specs.declared.parts.SymRoute.{SymRoute}
use Rattle.sym_policy.specs.declared.records.SymBgp.{SymBgp}
use Rattle.sym_policy.specs.declared.records.SymMapRec.{SymMapRec}
use Rattle.sym_policy.specs.Held.{bgp_at, bgp_of}
use Rattle.sym_policy.specs.MapRecs.{HasTracked, KeepsRest, attributes_at, map_rec_at}
use Rattle.sym_policy.specs.Routes.{preferences_at, route_at}
use Rattle.sym_policy.specs.SameNodes.{HasPreferences, IsJoined, IsRest}
use Rattle.sym_policy.proofs.SameNodes.{joined_steps}
use Rattle.sym_bgp.specs.Joined.{rest_at, with_rest}

-- a route that is put together is read as its parts are
pub joined_read : (there : NodeId) (route : SymRoute) (rest : SymRest) (rec : SymMapRec) →
    IsJoined there route rest rec → (w : Reading) → bgp_at w rec.bgp ≡ with_rest (route_at w route) (rest_at w rest)
joined_read there route rest rec h w = λ i. record {
  preferences = record {
    weight = number w (sym h.seen.preferences.weight i);
    local_pref = number w (sym h.seen.preferences.local_pref i);
    med = number w (sym h.seen.preferences.med i);
    origin = number w (sym h.seen.preferences.origin i);
  };
  path = record {
    len = number w (sym h.seen.path.len i);
    first = number w (sym h.seen.path.first i);
    last = number w (sym h.seen.path.last i);
    numbers = bits w (sym h.seen.path.numbers i);
  };
  communities = bits w (sym h.seen.communities i);
  next_hop = number w (sym h.rest.next_hop i);
  originator = number w (sym h.rest.originator i);
  from = number w (sym h.rest.from i);
  cluster_len = number w (sym h.rest.cluster_len i);
  clusters = bits w (sym h.rest.clusters i);
}

pub joined_of : (there : NodeId) (route : SymRoute) (rest : SymRest) (rec : SymMapRec) →
    IsJoined there route rest rec → (w : Reading) →
    bgp_of w rec.bgp ≡ (if at w there then Some (with_rest (route_at w route) (rest_at w rest)) else None)
joined_of there route rest rec h w =
    (λ i. if at w (h.valid i) then Some (joined_read there route rest rec h w i) else None)

pub joined_all_marks : (tracked : Tracked) (there : NodeId) (route : SymRoute) (rest : SymRest) (rec : SymMapRec) →
    IsJoined there route rest rec → length route.path.numbers.nodes.items ≡ length tracked.numbers →
    length route.communities.nodes.items ≡ length tracked.communities →
    length rest.clusters.nodes.items ≡ length tracked.clusters → HasTracked tracked rec.bgp
joined_all_marks tracked there route rest rec h numbers communities clusters = record {
  numbers = sym (ap length h.seen.path.numbers) ∙ numbers;
  communities = sym (ap length h.seen.communities) ∙ communities;
  clusters = sym (ap length h.rest.clusters) ∙ clusters;
}

pub joined_type1 : (there : NodeId) (route : SymRoute) (rest : SymRest) (rec : SymMapRec) →
    IsJoined there route rest rec → (w : Reading) → at w route.type1 ≡ false → at w rec.type1 ≡ false
joined_type1 there route rest rec h w is = sym (ap (at w) h.seen.type1) ∙ is

pub ruleset route_steps = (joined_steps, joined_of, joined_all_marks, joined_type1)

-- copies of the parts of a route are read as these
pub preferences_read : (w : Reading) (held : SymBgp) (s : SymPreferences) →
    HasPreferences held.weight held.local_pref held.med held.origin s →
    preferences_at w s ≡ (bgp_at w held).preferences
preferences_read w held s h = λ i. record {
  weight = number w (h.weight i);
  local_pref = number w (h.local_pref i);
  med = number w (h.med i);
  origin = number w (h.origin i);
}

pub rest_read : (w : Reading) (held : SymBgp) (seen : RouteShape) (s : SymRest) → IsRest held s →
    seen ≡ seen_by_maps (bgp_at w held) → with_rest seen (rest_at w s) ≡ bgp_at w held
rest_read w held seen s h is = λ i. with_rest (is i) (record {
  next_hop = number w (h.next_hop i);
  originator = number w (h.originator i);
  from = number w (h.from i);
  cluster_len = number w (h.cluster_len i);
  clusters = bits w (h.clusters i);
})

-- what maps see of a route, part by part
pub seen_read : (s : BgpShape) (preferences : Preferences) (path : PathShape) (communities : List Bool) (type1 : Bool) →
    preferences ≡ s.preferences → path ≡ s.path → communities ≡ s.communities → type1 ≡ false →
    ◌≡◌ {A = RouteShape}
    (record { preferences = preferences; path = path; communities = communities; type1 = type1 }) (seen_by_maps s)
seen_read s preferences path communities type1 p q r t = λ i. record {
  preferences = p i;
  path = q i;
  communities = r i;
  type1 = t i;
}

-- what a map has left of a route
pub mapped_route : (w : Reading) (rec left : SymMapRec) (F : RouteShape → Option RouteShape) → KeepsRest rec left →
    at w rec.type1 ≡ false → map_rec_at w left ≡ option_and_then F (map_rec_at w rec) →
    bgp_of w left.bgp ≡ option_and_then (λ s. option_map (with_seen s) (F (seen_by_maps s))) (bgp_of w rec.bgp)
mapped_route w rec left F keeps plain is =
    by_left (at w left.bgp.valid)
    ∙ ap (option_map (with_seen (bgp_at w rec.bgp))) is
    ∙ by_rec (at w rec.bgp.valid)
  where
    read : bgp_at w left.bgp ≡ with_seen (bgp_at w rec.bgp) (attributes_at w left)
    read = λ i. record {
      preferences = (attributes_at w left).preferences;
      path = (attributes_at w left).path;
      communities = (attributes_at w left).communities;
      next_hop = number w (keeps.next_hop i);
      originator = number w (keeps.originator i);
      from = number w (keeps.from i);
      cluster_len = number w (keeps.cluster_len i);
      clusters = bits w (keeps.clusters i);
    }

    by_left : (b : Bool) → (if b then Some (bgp_at w left.bgp) else None)
        ≡ option_map (with_seen (bgp_at w rec.bgp)) (if b then Some (attributes_at w left) else None)
    by_left true = ap Some read
    by_left false = refl

    by_rec : (b : Bool) →
        option_map (with_seen (bgp_at w rec.bgp)) (option_and_then F (if b then Some (attributes_at w rec) else None))
        ≡ option_and_then (λ s. option_map (with_seen s) (F (seen_by_maps s)))
        (if b then Some (bgp_at w rec.bgp) else None)
    by_rec true =
        ap (λ t. option_map (with_seen (bgp_at w rec.bgp)) (F (record (seen_by_maps (bgp_at w rec.bgp)) { type1 = t })))
        plain
    by_rec false = refl
