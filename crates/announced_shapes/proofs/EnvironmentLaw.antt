-- Environments and their shapes.
use Rattle.std.proofs.Common.{◌≡◌, true, List, [], ◌∷◌, map, refl}
use Rattle.std.specs.Prelude.{All}
use Rattle.std.proofs.lemmas.List.Elements.{All-cons, All-head, All-nil, All-tail}
use Rattle.net_interfaces.proofs.Pairs.{later, pairs_map}
use Rattle.ios_ast.specs.declared.file.File.{File}
use Rattle.route_record.specs.declared.Environment.{Environment}
use Rattle.route_record.specs.declared.tracked.Tracked.{Tracked}
use Rattle.net_parts.specs.World.{IsAnnouncement, IsEarlier, IsEnvironment, ascends}
use Rattle.bgp_shapes.specs.Candidates.{ShapeAnnouncement, ShapeEnvironment, announcement_shape, environment_shape}
use Rattle.announced_shapes.specs.Announcements.{IsAnnouncementShape, rebuilt_announcement}
use Rattle.announced_shapes.specs.Environments.{IsEarlierShape, IsShapeEnvironment, rebuilt_environment}
use Rattle.announced_shapes.proofs.AnnouncementLaw.{announced_shape, announcement_again, rebuilt_is}

-- ---- lists that are made item by item

all_map : {X Y : Type 0} (P : X → Type 0) (Q : Y → Type 0) (f : X → Y) → ((x : X) → P x → Q (f x)) → (xs : List X) →
    All P xs → All Q (map f xs)
all_map P Q f each [] all = All-nil Q
all_map P Q f each (x ∷ xs) all =
    All-cons Q (f x) (map f xs) (each x (All-head P x xs all)) (all_map P Q f each xs (All-tail P x xs all))

all_again : (files : List File) (tracked : Tracked) (shapes : List ShapeAnnouncement) →
    ascends tracked.numbers ≡ true → ascends tracked.communities ≡ true →
    All (IsAnnouncementShape files tracked) shapes →
    map (announcement_shape tracked) (map (rebuilt_announcement tracked) shapes) ≡ shapes
all_again files tracked [] numbers communities all = refl
all_again files tracked (s ∷ rest) numbers communities all =
    let here = announcement_again files tracked s numbers communities
    (All-head (IsAnnouncementShape files tracked) s rest all) in
    let later = all_again files tracked rest numbers communities
    (All-tail (IsAnnouncementShape files tracked) s rest all) in
    cc

-- the rebuilt environment has these shapes
pub environment_again : (files : List File) (tracked : Tracked) (s : ShapeEnvironment) →
    ascends tracked.numbers ≡ true → ascends tracked.communities ≡ true → IsShapeEnvironment files tracked s →
    environment_shape tracked (rebuilt_environment tracked s) ≡ s
environment_again files tracked s numbers communities is =
    let same = all_again files tracked s.announced numbers communities is.announced in
    λ i. record { ids = s.ids; announced = same i }

-- and is an environment
pub environment_may : (files : List File) (tracked : Tracked) (s : ShapeEnvironment) →
    ascends tracked.numbers ≡ true → ascends tracked.communities ≡ true → IsShapeEnvironment files tracked s →
    IsEnvironment files (rebuilt_environment tracked s)
environment_may files tracked s numbers communities is = record {
  ids = is.ids;
  fit = is.fit;
  announced = all_map (IsAnnouncementShape files tracked) (IsAnnouncement files) (rebuilt_announcement tracked)
      (λ a is_shape. rebuilt_is files tracked a numbers communities is_shape) s.announced is.announced;
  once = pairs_map IsEarlierShape IsEarlier (rebuilt_announcement tracked) (λ a b is. is) s.announced is.once;
}

-- an environment has such shapes
pub environment_shapes : (files : List File) (tracked : Tracked) (environment : Environment) →
    ascends tracked.numbers ≡ true → IsEnvironment files environment →
    IsShapeEnvironment files tracked (environment_shape tracked environment)
environment_shapes files tracked environment numbers is = record {
  ids = is.ids;
  fit = is.fit;
  announced = all_map (IsAnnouncement files) (IsAnnouncementShape files tracked) (announcement_shape tracked)
      (λ a may. announced_shape files tracked a numbers may) environment.announced is.announced;
  once = pairs_map IsEarlier IsEarlierShape (announcement_shape tracked) (λ a b is. is) environment.announced is.once;
}
