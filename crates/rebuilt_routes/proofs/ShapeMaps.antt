-- What route maps keep of the shape of a route: there stays a mark for each tracked value, and no path grows shorter.
use Rattle.std.proofs.Common.{◌≡◌, ℕ, ◌≤◌, Bool, true, false, List, [], ◌∷◌, Option, Some, None, length}
use Rattle.std.proofs.Common.{if◌then◌else◌, arith}
use Rattle.std.specs.Prelude.{IfSome}
use Rattle.std.specs.List.{find}
use Rattle.mw_text.specs.declared.address.Prefix.{Prefix}
use Rattle.ios_ast.specs.declared.file.Use.{Use}
use Rattle.ios_ast.specs.declared.policies.MapEntry.{MapEntry}
use Rattle.ios_ast.specs.declared.policies.Policies.{Policies}
use Rattle.ios_ast.specs.declared.policies.SetAct.{SetAct}
use Rattle.ios_ast.specs.declared.policies.SetAct.TheVariants.{LocalPref, Metric, Weight, NoCommunity, Community}
use Rattle.ios_ast.specs.declared.policies.SetAct.TheVariants.{Origin, Prepend, Type1}
use Rattle.ios_ast.specs.Deciding.{in_order}
use Rattle.ios_ast.specs.Maps.{entries_named}
use Rattle.route_record.specs.declared.tracked.Tracked.{Tracked}
use Rattle.route_record.specs.Shape.{saturated}
use Rattle.route_shapes.specs.Shapes.{RouteShape, set_shape, set_shapes, shape_made, shape_route_taken}
use Rattle.route_shapes.specs.Shapes.{shape_through_map}
use Rattle.bgp_shapes.proofs.LengthLaw.{if_then}
use Rattle.rebuilt_routes.proofs.Marks.{long_with}

-- what each set line keeps, a map keeps
module _ (tracked : Tracked) (external : Bool) (P : RouteShape → Type 0)
    (keeps : (r : RouteShape) (line : SetAct) → P r → P (set_shape tracked external r line)) where
  lines_keep : (r : RouteShape) (lines : List SetAct) → P r → P (set_shapes tracked external r lines)
  lines_keep r [] h = h
  lines_keep r (line ∷ lines) h = lines_keep (set_shape tracked external r line) lines (keeps r line h)

  made_keeps : (r : RouteShape) (e : MapEntry) → P r → IfSome (shape_made tracked external r e) P
  made_keeps r e h = by e.permit
    where
      by : (b : Bool) → IfSome (if b then Some (set_shapes tracked external r e.sets) else None) P
      by true = lines_keep r e.sets h
      by false = tt

  pub through_keeps : (policies : Policies) (used : Option Use) (p : Prefix) (r : RouteShape) → P r →
      IfSome (shape_through_map tracked policies used p external r) P
  through_keeps policies None p r h = h
  through_keeps policies (Some named) p r h =
      if_then P (shape_made tracked external r) (λ e. made_keeps r e h)
      (find (shape_route_taken policies tracked p r) (in_order (λ e. e.seq) (entries_named policies named)))

-- ---- marks

-- there is a mark for each tracked number and community
pub record HasRows (tracked : Tracked) (r : RouteShape) : Type 0 where
  pub numbers : length r.path.numbers ≡ length tracked.numbers
  pub communities : length r.communities ≡ length tracked.communities

line_rows : (tracked : Tracked) (external : Bool) (r : RouteShape) (line : SetAct) → HasRows tracked r →
    HasRows tracked (set_shape tracked external r line)
line_rows tracked external r (LocalPref n) h = record { numbers = h.numbers; communities = h.communities }
line_rows tracked external r (Metric n) h = record { numbers = h.numbers; communities = h.communities }
line_rows tracked external r (Weight n) h = record { numbers = h.numbers; communities = h.communities }
line_rows tracked external r NoCommunity h = record {
  numbers = h.numbers;
  communities = long_with tracked.communities [] false r.communities h.communities;
}
line_rows tracked external r (Community values additive) h = record {
  numbers = h.numbers;
  communities = long_with tracked.communities values additive r.communities h.communities;
}
line_rows tracked external r (Origin igp) h = record { numbers = h.numbers; communities = h.communities }
line_rows tracked true r (Prepend numbers) h = record {
  numbers = long_with tracked.numbers numbers true r.path.numbers h.numbers;
  communities = h.communities;
}
line_rows tracked false r (Prepend numbers) h = record { numbers = h.numbers; communities = h.communities }
line_rows tracked external r (Type1 type1) h = record { numbers = h.numbers; communities = h.communities }

pub through_rows : (tracked : Tracked) (external : Bool) (policies : Policies) (used : Option Use) (p : Prefix)
    (r : RouteShape) → HasRows tracked r →
    IfSome (shape_through_map tracked policies used p external r) (HasRows tracked)
through_rows tracked external policies used p r h =
    through_keeps tracked external (HasRows tracked) (line_rows tracked external) policies used p r h

-- ---- lengths

-- a path has at least so many numbers
abbrev pub IsAtLeast : ℕ → RouteShape → Type 0
IsAtLeast n r = n ≤ r.path.len

line_long : (tracked : Tracked) (external : Bool) (n : ℕ) → n ≤ 4294967295 → (r : RouteShape) (line : SetAct) →
    IsAtLeast n r → IsAtLeast n (set_shape tracked external r line)
unfolding saturated
line_long tracked external n small r (LocalPref m) h = h
line_long tracked external n small r (Metric m) h = h
line_long tracked external n small r (Weight m) h = h
line_long tracked external n small r NoCommunity h = h
line_long tracked external n small r (Community values additive) h = h
line_long tracked external n small r (Origin igp) h = h
line_long tracked true n small r (Prepend numbers) h = omega (arith, small, h)
line_long tracked false n small r (Prepend numbers) h = h
line_long tracked external n small r (Type1 type1) h = h

pub through_long : (tracked : Tracked) (external : Bool) (policies : Policies) (used : Option Use) (p : Prefix)
    (r : RouteShape) (n : ℕ) → n ≤ 4294967295 → IsAtLeast n r →
    IfSome (shape_through_map tracked policies used p external r) (IsAtLeast n)
through_long tracked external policies used p r n small h =
    through_keeps tracked external (IsAtLeast n) (line_long tracked external n small) policies used p r h

-- 32 bits count a path
abbrev pub IsCounted : RouteShape → Type 0
IsCounted r = r.path.len ≤ 4294967295

line_counted : (tracked : Tracked) (external : Bool) (r : RouteShape) (line : SetAct) → IsCounted r →
    IsCounted (set_shape tracked external r line)
unfolding saturated
line_counted tracked external r (LocalPref m) h = h
line_counted tracked external r (Metric m) h = h
line_counted tracked external r (Weight m) h = h
line_counted tracked external r NoCommunity h = h
line_counted tracked external r (Community values additive) h = h
line_counted tracked external r (Origin igp) h = h
line_counted tracked true r (Prepend numbers) h = omega arith
line_counted tracked false r (Prepend numbers) h = h
line_counted tracked external r (Type1 type1) h = h

pub through_counted : (tracked : Tracked) (external : Bool) (policies : Policies) (used : Option Use) (p : Prefix)
    (r : RouteShape) → IsCounted r → IfSome (shape_through_map tracked policies used p external r) IsCounted
through_counted tracked external policies used p r h =
    through_keeps tracked external IsCounted (line_counted tracked external) policies used p r h
