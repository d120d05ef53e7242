-- Lists and maps of a neighbour answer for the shape of a route what they answer for the route.
use Rattle.std.proofs.Common.{◌≡◌, ℕ, ◌≤◌, ◌==◌, ◌||◌, ◌&&◌, Bool, true, false, if◌then◌else◌, List, [], ◌∷◌}
use Rattle.std.proofs.Common.{Option, Some, None}
use Rattle.std.proofs.Common.{map, refl, sym, ap, ◌∙◌, arith}
use Rattle.std.specs.Prelude.{IfSome}
use Rattle.std.specs.List.{list_any, list_all}
use Rattle.std.specs.Option.{option_and_then, option_map_or}
use Rattle.std.proofs.lemmas.Bool.{and_parts}
use Rattle.mw_text.specs.declared.address.Addr.{Addr}
use Rattle.mw_text.specs.declared.address.Prefix.{Prefix}
use Rattle.ios_ast.specs.declared.file.Use.{Use}
use Rattle.ios_ast.specs.declared.policies.MapEntry.{MapEntry}
use Rattle.ios_ast.specs.declared.policies.Policies.{Policies}
use Rattle.ios_ast.specs.declared.policies.SetAct.{SetAct}
use Rattle.ios_ast.specs.declared.policies.SetAct.TheVariants.{LocalPref, Metric, Weight, NoCommunity, Community}
use Rattle.ios_ast.specs.declared.policies.SetAct.TheVariants.{Origin, Prepend, Type1}
use Rattle.ios_ast.specs.Maps.{deciding, mapped}
use Rattle.ios_ast.specs.Setting.{Attributes, origin_set, set_all, set_one}
use Rattle.net_parts.specs.Exports.{is_metric, passes_paths, sets_metric}
use Rattle.ios_ast.specs.Maps.{entries_named, through_map}
use Rattle.net_parts.specs.Mapping.{with_attributes}
use Rattle.route_record.specs.declared.BgpRec.{BgpRec}
use Rattle.route_record.specs.declared.tracked.Tracked.{Tracked}
use Rattle.route_record.proofs.OriginCodes.{code_again}
use Rattle.route_record.specs.Shape.{has_address}
use Rattle.ios_ast.specs.Deciding.{carries}
use Rattle.net_parts.specs.Tracked.{numbers_of}
use Rattle.route_shapes.specs.Bgp.{bgp_shape}
use Rattle.route_shapes.specs.Shapes.{all_tracked, marked, marks_with, path_shape, path_tracked, route_shape}
use Rattle.route_shapes.proofs.ShapeLaw.{found_same, marked-map, marks_with-map, path_entries}
use Rattle.route_shapes.proofs.ShapeLaw.{shape_deciding-route_shape}
use Rattle.route_shapes.specs.Shapes.{shape_passes_paths}
use Rattle.bgp_shapes.specs.Messages.{shape_sets_metric, with_seen}

-- ---- the origin stays a code, on each side of a map's use

abbrev pub HasCode : Attributes → Type 0
HasCode r = r.origin ≤ 2

set_one_code : (external : Bool) (r : Attributes) (line : SetAct) → HasCode r → HasCode (set_one external r line)
set_one_code external r (LocalPref n) h = h
set_one_code external r (Metric n) h = h
set_one_code external r (Weight n) h = h
set_one_code external r NoCommunity h = h
set_one_code external r (Community values additive) h = h
set_one_code external r (Origin igp) h = set igp
  where
    set : (b : Bool) → origin_set b ≤ 2
    set true = omega arith
    set false = omega arith
set_one_code external r (Prepend numbers) h = h
set_one_code external r (Type1 type1) h = h

-- what every set line keeps of a route, a map keeps, also where none is applied
lines_keep : (P : Attributes → Type 0) (external : Bool) →
    ((r : Attributes) (line : SetAct) → P r → P (set_one external r line)) → (r : Attributes) (lines : List SetAct) →
    P r → P (set_all external r lines)
lines_keep P external keeps r [] h = h
lines_keep P external keeps r (line ∷ lines) h =
    lines_keep P external keeps (set_one external r line) lines (keeps r line h)

map_keeps : (P : Attributes → Type 0) (external : Bool) →
    ((r : Attributes) (line : SetAct) → P r → P (set_one external r line)) → (policies : Policies)
    (entries : List MapEntry) (p : Prefix) (r : Attributes) → P r → IfSome (mapped policies entries p external r) P
map_keeps P external keeps policies entries p r h = by_entry (deciding policies p r entries)
  where
    left : (e : MapEntry) (permit : Bool) → IfSome (if permit then Some (set_all external r e.sets) else None) P
    left e true = lines_keep P external keeps r e.sets h
    left e false = tt

    by_entry : (o : Option MapEntry) →
        IfSome (option_and_then (λ e. if e.permit then Some (set_all external r e.sets) else None) o) P
    by_entry None = tt
    by_entry (Some e) = left e e.permit

pub through_keeps : (P : Attributes → Type 0) (external : Bool) →
    ((r : Attributes) (line : SetAct) → P r → P (set_one external r line)) → (policies : Policies) (used : Option Use)
    (p : Prefix) (r : Attributes) → P r → IfSome (through_map policies used p external r) P
through_keeps P external keeps policies None p r h = h
through_keeps P external keeps policies (Some named) p r h =
    map_keeps P external keeps policies (entries_named policies named) p r h

pub through_code : (policies : Policies) (used : Option Use) (p : Prefix) (external : Bool) (r : Attributes) →
    HasCode r → IfSome (through_map policies used p external r) HasCode
through_code policies used p external r h =
    through_keeps HasCode external (set_one_code external) policies used p r h

-- a route with what a map has left
pub seen_shape : (tracked : Tracked) (rec : BgpRec) (r : Attributes) → HasCode r
    → with_seen (bgp_shape tracked rec) (route_shape tracked r) ≡ bgp_shape tracked (with_attributes rec r)
seen_shape tracked rec r h =
    ap (λ n. with_seen (bgp_shape tracked rec) (route_shape tracked (record r { origin = n }))) (code_again r.origin h)

-- ---- maps and lists

pub paths_shape : (tracked : Tracked) (policies : Policies) (used : Option Use) (path : List ℕ)
    → all_tracked tracked policies ≡ true
    → shape_passes_paths tracked policies used (path_shape tracked.numbers path) ≡ passes_paths policies used path
paths_shape tracked policies None path h = refl
paths_shape tracked policies (Some named) path h =
    found_same (λ l. list_all (path_tracked tracked.numbers) l.entries) _ _ _
    (λ l good. path_entries tracked.numbers path l.entries good) policies.as_paths (and_parts _ _ h).1

pub metric_shape : (tracked : Tracked) (policies : Policies) (used : Option Use) (p : Prefix) (r : Attributes)
    → all_tracked tracked policies ≡ true
    → shape_sets_metric tracked policies used p (route_shape tracked r) ≡ sets_metric policies used p r
metric_shape tracked policies None p r h = refl
metric_shape tracked policies (Some named) p r h =
    ap (λ o. option_map_or (λ e. list_any is_metric e.sets) o false)
    (shape_deciding-route_shape policies (entries_named policies named) tracked p r h)

-- ---- clusters

abbrev pub has_number : List Addr → ℕ → Bool
has_number cs n = list_any (λ y. y.0 == n) cs

pub cluster_marks : (cs ts : List Addr) → map (has_address cs) ts ≡ map (has_number cs) (map (λ a. a.0) ts)
cluster_marks cs [] = refl
cluster_marks cs (t ∷ ts) = ap (λ bs. has_address cs t ∷ bs) (cluster_marks cs ts)

pub cluster_marked : (tracked : Tracked) (cs : List Addr) (id : Addr)
    → carries (numbers_of tracked.clusters) id.0 ≡ true
    → marked (numbers_of tracked.clusters) (map (has_address cs) tracked.clusters) id.0
    ≡ list_any (λ y. y.0 == id.0) cs
cluster_marked tracked cs id h =
    ap (λ bs. marked (numbers_of tracked.clusters) bs id.0) (cluster_marks cs tracked.clusters)
    ∙ marked-map (has_number cs) (numbers_of tracked.clusters) id.0 h

pub cluster_front : (tracked : Tracked) (cs : List Addr) (id : Addr)
    → marks_with (numbers_of tracked.clusters) (id.0 ∷ []) true (map (has_address cs) tracked.clusters)
    ≡ map (has_address (id ∷ cs)) tracked.clusters
cluster_front tracked cs id =
    ap (marks_with (numbers_of tracked.clusters) (id.0 ∷ []) true) (cluster_marks cs tracked.clusters)
    ∙ marks_with-map (has_number cs) (has_number (id ∷ cs)) (numbers_of tracked.clusters) (id.0 ∷ []) true same
    ∙ sym (cluster_marks (id ∷ cs) tracked.clusters)
  where
    same : (x : ℕ) → has_number (id ∷ cs) x ≡ (carries (id.0 ∷ []) x || (true && has_number cs x))
    same x = by (id.0 == x) (has_number cs x)
      where
        by : (a b : Bool) → (a || b) ≡ ((a || false) || (true && b))
        by true b = refl
        by false b = refl
