-- A choice between two routes, part by part.
use Rattle.std.proofs.Common.{◌≡◌, ◌&&◌, Bool, true, false, if◌then◌else◌, List, Option, Some, None, refl}
use Rattle.std.specs.Option.{option_and_then}
use Rattle.route_shapes.specs.Shapes.{Preferences, PathShape, RouteShape}

pub chosen_parts : (b : Bool) (x y : RouteShape) (preferences : Preferences) (path : PathShape) (marks : List Bool)
    (type1 : Bool)
    → preferences ≡ (if b then x.preferences else y.preferences) → path ≡ (if b then x.path else y.path)
    → marks ≡ (if b then x.communities else y.communities) → type1 ≡ (if b then x.type1 else y.type1)
    → ◌≡◌ {A = RouteShape} (record { preferences = preferences; path = path; communities = marks; type1 = type1 })
    (if b then x else y)
chosen_parts true x y preferences path marks type1 p q r s =
    λ i. record { preferences = p i; path = q i; communities = r i; type1 = s i }
chosen_parts false x y preferences path marks type1 p q r s =
    λ i. record { preferences = p i; path = q i; communities = r i; type1 = s i }

-- what is there where two tests hold
pub both_there : (a b : Bool) (x : RouteShape)
    → (if a && b then Some x else None) ≡ (if a then (if b then Some x else None) else None)
both_there true b x = refl
both_there false b x = refl

-- a map over a route that is there where a test holds
pub mapped_there : (there : Bool) (x : RouteShape) (F : RouteShape → Option RouteShape)
    → (if there then F x else None) ≡ option_and_then F (if there then Some x else None)
mapped_there true x F = refl
mapped_there false x F = refl
