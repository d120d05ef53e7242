-- A local route as the map of its line leaves it, from the terms of the record and from the route for which they stand.
use Rattle.std.proofs.Common.{◌≡◌, ℕ, ◌≤◌, Bool, true, false, if◌then◌else◌, Option, Some, None}
use Rattle.std.proofs.Common.{[], map, refl, ap, sym, ◌∙◌}
use Rattle.std.specs.Prelude.{IfSome, option_and_then, option_map}
use Rattle.mw_text.specs.declared.address.Prefix.{Prefix}
use Rattle.ios_ast.specs.declared.file.Use.{Use}
use Rattle.ios_ast.specs.declared.policies.Policies.{Policies}
use Rattle.ios_ast.specs.Setting.{Attributes}
use Rattle.route_record.specs.declared.Origin.{Origin}
use Rattle.route_record.specs.declared.RibEntry.{RibEntry}
use Rattle.route_record.specs.declared.tracked.Tracked.{Tracked}
use Rattle.route_record.specs.Origins.{origin_code, origin_of_code}
use Rattle.route_record.specs.Shape.{has_address}
use Rattle.ios_ast.specs.Maps.{through_map}
use Rattle.net_parts.specs.Mapping.{attributes_of, with_attributes}
use Rattle.net_parts.specs.Origins.{local_route}
use Rattle.sym_policy.specs.declared.records.SymMapRec.{SymMapRec}
use Rattle.sym_policy.specs.Held.{bgp_at, bgp_of}
use Rattle.route_shapes.specs.Bgp.{BgpShape, bgp_shape}
use Rattle.sym_policy.specs.MapRecs.{KeepsRest, attributes_at, map_rec_at}
use Rattle.route_shapes.specs.Shapes.{RouteShape, route_shape}
use Rattle.term_store.specs.Terms.{Reading, at}
use Rattle.term_arith.specs.Bits.{bits, number}
use Rattle.sym_rib.specs.IntoBgp.{local_with}
use Rattle.sym_rib.specs.Known.{IsOwn}
use Rattle.bgp_shapes.proofs.PolicyLaw.{through_code}
use Rattle.route_record.proofs.OriginCodes.{code_again, code_small}
use Rattle.route_record.proofs.Saturated.{saturated-none}

-- ---- the record of a local route

-- the shape of a local route, by what maps see of it
abbrev pub own_shape : Tracked → RouteShape → BgpShape
own_shape tracked s = record {
  preferences = s.preferences;
  path = s.path;
  communities = s.communities;
  next_hop = 0;
  originator = 0;
  from = 0;
  cluster_len = 0;
  clusters = map (has_address []) tracked.clusters;
}

-- what no map sets is still a local route's own
pub own_kept : (w : Reading) (tracked : Tracked) (a b : SymMapRec) → KeepsRest a b → IsOwn w tracked a
    → IsOwn w tracked b
own_kept w tracked a b kept own = record {
  next_hop = ap (number w) kept.next_hop ∙ own.next_hop;
  originator = ap (number w) kept.originator ∙ own.originator;
  from = ap (number w) kept.from ∙ own.from;
  cluster_len = ap (number w) kept.cluster_len ∙ own.cluster_len;
  clusters = ap (bits w) kept.clusters ∙ own.clusters;
}

shape_read : (w : Reading) (tracked : Tracked) (rec : SymMapRec) → IsOwn w tracked rec
    → bgp_at w rec.bgp ≡ own_shape tracked (attributes_at w rec)
shape_read w tracked rec own = λ i.
    record (bgp_at w rec.bgp) {
      next_hop = own.next_hop i;
      originator = own.originator i;
      from = own.from i;
      cluster_len = own.cluster_len i;
      clusters = own.clusters i;
    }

shape_of : (tracked : Tracked) (c : Attributes) → c.origin ≤ 2
    → own_shape tracked (route_shape tracked c) ≡ bgp_shape tracked (local_with c)
shape_of tracked c small =
    let shape : ℕ → ℕ → BgpShape =
    λ origin len.
    record (own_shape tracked (route_shape tracked (record c { origin = origin }))) { cluster_len = len } in
    ap (λ n. shape n 0) (code_again c.origin small)
    ∙ ap (shape (origin_code (origin_of_code c.origin))) (sym saturated-none)

shapes_of : (tracked : Tracked) (left : Option Attributes) → IfSome left (λ c. c.origin ≤ 2)
    → option_map (own_shape tracked) (option_map (route_shape tracked) left)
    ≡ option_map (bgp_shape tracked) (option_map local_with left)
shapes_of tracked None small = refl
shapes_of tracked (Some c) small = ap Some (shape_of tracked c small)

-- a record of a local route's own parts that stands for what a map leaves stands for the route with it
pub record_stands : (w : Reading) (tracked : Tracked) (rec : SymMapRec) (left : Option Attributes)
    → IsOwn w tracked rec → IfSome left (λ c. c.origin ≤ 2)
    → map_rec_at w rec ≡ option_map (route_shape tracked) left
    → bgp_of w rec.bgp ≡ option_map (bgp_shape tracked) (option_map local_with left)
record_stands w tracked rec left own small is =
    ap (λ x. if at w rec.bgp.valid then Some x else None) (shape_read w tracked rec own)
    ∙ by (at w rec.bgp.valid)
    ∙ ap (option_map (own_shape tracked)) is
    ∙ shapes_of tracked left small
  where
    by : (there : Bool)
        → (if there then Some (own_shape tracked (attributes_at w rec)) else None)
        ≡ option_map (own_shape tracked) (if there then Some (attributes_at w rec) else None)
    by true = refl
    by false = refl

-- what a map leaves of a local route keeps its own parts
pub local_left : (origin : Origin) (through : Attributes → Option Attributes) (metric : Option ℕ)
    → option_map local_with
    (option_and_then through (option_map (λ med. attributes_of (local_route origin med)) metric))
    ≡ option_and_then (λ med. option_map (with_attributes (local_route origin med))
    (through (attributes_of (local_route origin med)))) metric
local_left origin through None = refl
local_left origin through (Some med) = refl

-- ---- lines

-- the origin of what a map leaves of a local route has a code
pub local_code : (policies : Policies) (used : Option Use) (p : Prefix) (origin : Origin) (metric : Option ℕ)
    → IfSome (option_and_then (through_map policies used p false)
    (option_map (λ med. attributes_of (local_route origin med)) metric)) (λ c. c.origin ≤ 2)
local_code policies used p origin None = tt
local_code policies used p origin (Some med) =
    through_code policies used p false (attributes_of (local_route origin med)) (code_small origin)

none_of : {A : Type 0} (o : Option ℕ) → ◌≡◌ {A = Option A} None (option_and_then (λ k. None) o)
none_of None = refl
none_of (Some k) = refl

-- a `network` line, by the metric where the prefix is its own
pub network_by : {A : Type 0} (same : Bool) (f : ℕ → Option A) (metric : RibEntry → Option ℕ) (rib : Option RibEntry)
    → option_and_then f (if same then option_and_then metric rib else None)
    ≡ option_and_then (λ e. option_and_then (λ med. if same then f med else None) (metric e)) rib
network_by true f metric None = refl
network_by true f metric (Some e) = refl
network_by false f metric None = refl
network_by false f metric (Some e) = none_of (metric e)

-- none at another prefix
pub network_none : {A : Type 0} (same : Bool) (f : ℕ → Option A) (metric : RibEntry → Option ℕ)
    (rib : Option RibEntry) → same ≡ false
    → ◌≡◌ {A = Option A} None
    (option_and_then (λ e. option_and_then (λ med. if same then f med else None) (metric e)) rib)
network_none true f metric rib is = cc
network_none false f metric None is = refl
network_none false f metric (Some e) is = none_of (metric e)

-- a `redistribute` line, by the metric that it names or else that of the entry
pub line_by : {A : Type 0} (default : Bool) (f : ℕ → Option A) (named : ℕ → ℕ) (metric : RibEntry → Option ℕ)
    (rib : Option RibEntry) → default ≡ false
    → option_and_then f (option_map named (option_and_then metric rib))
    ≡ option_and_then (λ e. option_and_then (λ k. if default then None else f (named k)) (metric e)) rib
line_by true f named metric rib is = cc
line_by false f named metric None is = refl
line_by false f named metric (Some e) is = by (metric e)
  where
    by : (o : Option ℕ) → option_and_then f (option_map named o) ≡ option_and_then (λ k. f (named k)) o
    by None = refl
    by (Some k) = refl

-- none takes the default route
pub line_none : {A : Type 0} (default : Bool) (f : ℕ → Option A) (metric : RibEntry → Option ℕ)
    (rib : Option RibEntry) → default ≡ true
    → ◌≡◌ {A = Option A} None
    (option_and_then (λ e. option_and_then (λ k. if default then None else f k) (metric e)) rib)
line_none false f metric rib is = cc
line_none true f metric None is = refl
line_none true f metric (Some e) is = none_of (metric e)
