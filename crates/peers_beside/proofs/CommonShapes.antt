-- What environments have in common their shapes have, and the other way round.
use Rattle.std.proofs.Common.{◌≡◌, ℕ, Bool, true, false, List, [], ◌∷◌, map, Option, Some, None, refl, sym, ap, ◌∙◌}
use Rattle.std.specs.Prelude.{◌==◌, ◌&&◌, option_map, if◌then◌else◌}
use Rattle.std.specs.List.{find}
use Rattle.ios_ast.specs.declared.file.File.{File}
use Rattle.route_record.specs.declared.Announcement.{Announcement}
use Rattle.route_record.specs.declared.Environment.{Environment}
use Rattle.route_record.specs.declared.tracked.Tracked.{Tracked}
use Rattle.bgp_shapes.specs.Candidates.{ShapeAnnouncement, ShapeEnvironment, announcement_shape, environment_shape}
use Rattle.announced_shapes.specs.Announcements.{rebuilt_announcement}
use Rattle.announced_shapes.specs.Environments.{rebuilt_environment}
use Rattle.paired_nets.specs.Common.{AreCommon, announced_over, unplaced}
use Rattle.peers_beside.specs.Shared.{AreCommonShapes, shape_over, unplaced_shape}

-- the first that passes among what is made of items is made of the first that does
find_made : {X Y : Type 0} (p : X → Bool) (q : Y → Bool) (f : X → Y) → ((x : X) → q (f x) ≡ p x) → (xs : List X) →
    find q (map f xs) ≡ option_map f (find p xs)
find_made p q f same [] = refl
find_made {X} {Y} p q f same (x ∷ xs) =
    ap (λ b. if b then Some (f x) else find q (map f xs)) (same x) ∙ by (p x) (find_made p q f same xs)
  where
    by : (b : Bool) → find q (map f xs) ≡ option_map f (find p xs) →
        (if b then Some (f x) else find q (map f xs)) ≡ option_map f (if b then Some x else find p xs)
    by true rest = refl
    by false rest = rest

-- ---- shapes of announcements

unplaced_shaped : (tracked : Tracked) (o : Option Announcement) →
    option_map unplaced_shape (option_map (announcement_shape tracked) o)
    ≡ option_map (announcement_shape tracked) (option_map unplaced o)
unplaced_shaped tracked None = refl
unplaced_shaped tracked (Some a) = refl

shaped_over : (tracked : Tracked) (environment : Environment) (end len : ℕ) →
    shape_over (environment_shape tracked environment) end len
    ≡ option_map (announcement_shape tracked) (announced_over environment end len)
shaped_over tracked environment end len =
    ap (option_map unplaced_shape) (find_made (λ (a : Announcement). (a.end == end) && (a.len == len))
    (λ (s : ShapeAnnouncement). (s.end == end) && (s.len == len)) (announcement_shape tracked) (λ a. refl)
    environment.announced)
    ∙ unplaced_shaped tracked (find (λ a. (a.end == end) && (a.len == len)) environment.announced)

pub common_shaped : (tracked : Tracked) (left right : List File) (around about : Environment) →
    AreCommon left right around about →
    AreCommonShapes left right (environment_shape tracked around) (environment_shape tracked about)
common_shaped tracked left right around about common = record {
  ids = common.ids;
  announced = λ i j len a b here there outer other peer.
      shaped_over tracked around i len
      ∙ ap (option_map (announcement_shape tracked)) (common.announced i j len a b here there outer other peer)
      ∙ sym (shaped_over tracked about j len);
}

-- ---- announcements of shapes

unplaced_made : (tracked : Tracked) (o : Option ShapeAnnouncement) →
    option_map unplaced (option_map (rebuilt_announcement tracked) o)
    ≡ option_map (rebuilt_announcement tracked) (option_map unplaced_shape o)
unplaced_made tracked None = refl
unplaced_made tracked (Some s) = refl

made_over : (tracked : Tracked) (s : ShapeEnvironment) (end len : ℕ) →
    announced_over (rebuilt_environment tracked s) end len
    ≡ option_map (rebuilt_announcement tracked) (shape_over s end len)
made_over tracked s end len =
    ap (option_map unplaced) (find_made (λ (a : ShapeAnnouncement). (a.end == end) && (a.len == len))
    (λ (a : Announcement). (a.end == end) && (a.len == len)) (rebuilt_announcement tracked) (λ a. refl) s.announced)
    ∙ unplaced_made tracked (find (λ a. (a.end == end) && (a.len == len)) s.announced)

pub common_made : (tracked : Tracked) (left right : List File) (one other : ShapeEnvironment) →
    AreCommonShapes left right one other →
    AreCommon left right (rebuilt_environment tracked one) (rebuilt_environment tracked other)
common_made tracked left right one other common = record {
  ids = common.ids;
  announced = λ i j len a b here there outer outside peer.
      made_over tracked one i len
      ∙ ap (option_map (rebuilt_announcement tracked)) (common.announced i j len a b here there outer outside peer)
      ∙ sym (made_over tracked other j len);
}
