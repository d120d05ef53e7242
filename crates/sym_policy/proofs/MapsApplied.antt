-- Maps that are applied, and what stands for a route before and after one.
use Rattle.std.proofs.Common.{◌≡◌, Bool, true, [], Option, Some, None, refl, ap, ◌∙◌}
use Rattle.std.specs.Option.{option_and_then, option_map}
use Rattle.mw_text.specs.declared.address.Prefix.{Prefix}
use Rattle.ios_ast.specs.declared.file.Use.{Use}
use Rattle.ios_ast.specs.declared.policies.Policies.{Policies}
use Rattle.ios_ast.specs.Maps.{through_map}
use Rattle.ios_ast.specs.Setting.{Attributes}
use Rattle.route_record.specs.declared.tracked.Tracked.{Tracked}
use Rattle.route_shapes.specs.Shapes.{RouteShape, all_tracked, route_shape, shape_mapped, shape_through_map}
use Rattle.route_shapes.proofs.ShapeLaw.{through_map-route_shape}

-- no entry takes a route
pub none_mapped : (tracked : Tracked) (policies : Policies) (p : Prefix) (external : Bool) (o : Option RouteShape) →
    None ≡ option_and_then (shape_mapped policies [] tracked p external) o
none_mapped tracked policies p external None = refl
none_mapped tracked policies p external (Some s) = refl

-- no map is applied
pub none_applied : (o : Option RouteShape) → o ≡ option_and_then (λ s. Some s) o
none_applied None = refl
none_applied (Some s) = refl

-- what stands for a route stands for what a map leaves of it
pub through_stands : (tracked : Tracked) (policies : Policies) (used : Option Use) (p : Prefix) (external : Bool)
    (before after : Option RouteShape) (held : Option Attributes) → all_tracked tracked policies ≡ true →
    before ≡ option_map (route_shape tracked) held →
    after ≡ option_and_then (shape_through_map tracked policies used p external) before →
    after ≡ option_map (route_shape tracked) (option_and_then (through_map policies used p external) held)
through_stands tracked policies used p external before after held all is value =
    value ∙ ap (option_and_then (shape_through_map tracked policies used p external)) is ∙ by_held held
  where
    by_held : (o : Option Attributes) →
        option_and_then (shape_through_map tracked policies used p external) (option_map (route_shape tracked) o)
        ≡ option_map (route_shape tracked) (option_and_then (through_map policies used p external) o)
    by_held None = refl
    by_held (Some r) = through_map-route_shape tracked policies used p external r all
