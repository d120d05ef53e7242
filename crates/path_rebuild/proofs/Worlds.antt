-- What is rebuilt is what is made of a world of the same shapes.
use Rattle.std.proofs.Common.{◌≡◌, ℕ, ◌+◌, ◌*◌, ◌/◌, ◌%◌, List, [], ◌∷◌, Option, map}
use Rattle.std.proofs.Common.{refl, sym, ap, ◌∙◌, arith, option_map}
use Rattle.std.specs.Prelude.{slice_get}
use Rattle.std.specs.List.{enumerate_from}
use Rattle.mw_text.specs.declared.address.Addr.{Addr}
use Rattle.mw_text.specs.Address.{prefix_at}
use Rattle.ios_ast.specs.declared.file.File.{File}
use Rattle.route_record.specs.declared.Environment.{Environment}
use Rattle.route_record.specs.declared.Slot.{Slot}
use Rattle.route_record.specs.declared.Tables.{Tables}
use Rattle.route_record.specs.declared.TheConstants.{LENGTHS}
use Rattle.route_record.specs.declared.tracked.Tracked.{Tracked}
use Rattle.announced_shapes.specs.Environments.{rebuilt_environment}
use Rattle.rebuilt_routes.specs.Following.{real_routes}
use Rattle.shape_worlds.specs.Worlds as worlds
use Rattle.shape_worlds.specs.Worlds.{ShapeWorld, real_slot, slots_for}
use Rattle.path_rebuild.specs.declared.ShapeRec.{ShapeRec}
use Rattle.path_rebuild.specs.Environments.{environment_of}
use Rattle.path_rebuild.specs.Tables.{IsWorldOf, rebuilt_slot, rebuilt_tables, shape_slot, slots_of}
use Rattle.path_rebuild.proofs.RealRoutes.{made_there}

-- items that are made of items with their places, with their places again
numbered_again : {A B : Type 0} (f : ℕ × A → B) (n : ℕ) (xs : List A) →
    enumerate_from n (map f (enumerate_from n xs)) ≡ map (λ e. (e.0, f e)) (enumerate_from n xs)
numbered_again f n [] = refl
numbered_again f n (x ∷ xs) = ap (λ ys. (n, f (n, x)) ∷ ys) (numbered_again f (n + 1) xs)

map_alike : {A B C : Type 0} (g : B → C) (h : A → B) (k : A → C) → ((x : A) → g (h x) ≡ k x) → (xs : List A) →
    map g (map h xs) ≡ map k xs
map_alike g h k each [] = refl
map_alike g h k each (x ∷ xs) = let here = each x in let rest = map_alike g h k each xs in cc

module _ (tracked : Tracked) (files : List File) (destination : Addr) (ids : List Addr)
    (announced held : List (Option ShapeRec)) (rest : Tables) (s : ShapeWorld)
    (is : IsWorldOf tracked files destination ids announced held rest s) where
  abbrev env : Environment
  env = rebuilt_environment tracked (environment_of tracked files ids announced)

  same_env : worlds.environment_of tracked s ≡ env
  same_env = ap (rebuilt_environment tracked) is.environment

  same_slots : (len router : ℕ) → slots_for s len router ≡ slots_of tracked held rest len router
  same_slots len router =
      let place : 0 + (LENGTHS * router + len) ≡ LENGTHS * router + len = omega arith in
      ap (λ xs. slice_get xs (LENGTHS * router + len)) is.slots
      ∙ made_there (shape_slot tracked held) 0 rest.slots (LENGTHS * router + len)
      ∙ ap (λ k. option_map (λ (x : Slot). shape_slot tracked held (k, x))
      (slice_get rest.slots (LENGTHS * router + len))) place

  same_slot : (e : ℕ × Slot) → real_slot tracked files s (e.0, shape_slot tracked held e)
      ≡ rebuilt_slot tracked files env held rest destination e
  same_slot e = λ i. record {
    ospf = e.1.ospf;
    bgp = real_routes tracked files (same_env i) (λ router. same_slots (e.0 % LENGTHS) router i)
        (prefix_at (is.destined i) (e.0 % LENGTHS)) (e.0 / LENGTHS);
    rib = e.1.rib;
  }

  pub same_tables : rebuilt_tables tracked files env held rest destination ≡ worlds.rebuilt_tables tracked files s
  unfolding rebuilt_tables worlds.rebuilt_tables
  same_tables =
      let numbered = ap (enumerate_from 0) is.slots ∙ numbered_again (shape_slot tracked held) 0 rest.slots in
      let slots = ap (map (real_slot tracked files s)) numbered
      ∙ map_alike (real_slot tracked files s) (λ e. (e.0, shape_slot tracked held e))
      (rebuilt_slot tracked files env held rest destination) same_slot (enumerate_from 0 rest.slots) in
      λ i. record { slots = sym slots i }
