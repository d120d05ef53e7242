-- Tables that are made again have the routes that are followed back from their shapes.
use Rattle.std.proofs.Common.{◌≡◌, ℕ, zero, suc, ◌+◌, ◌*◌, ◌/◌, ◌%◌, ◌<◌, List, [], ◌∷◌, Option, Some, None, length}
use Rattle.std.proofs.Common.{map}
use Rattle.std.proofs.Common.{refl, ap, ◌∙◌, arith, option_map}
use Rattle.std.specs.Prelude.{slice_get}
use Rattle.std.specs.List.{enumerate_from}
use Rattle.std.proofs.lemmas.List.{length-map}
use Rattle.std.proofs.lemmas.Option.{slice_get_within}
use Rattle.mw_text.specs.declared.address.Addr.{Addr}
use Rattle.mw_text.specs.Address.{prefix_at}
use Rattle.mw_text.proofs.Lists.{item_there}
use Rattle.ios_ast.specs.declared.file.File.{File}
use Rattle.route_record.specs.declared.Environment.{Environment}
use Rattle.route_record.specs.declared.Slot.{Slot}
use Rattle.route_record.specs.declared.Tables.{Tables}
use Rattle.route_record.specs.declared.TheConstants.{LENGTHS}
use Rattle.route_record.specs.declared.tracked.Tracked.{Tracked}
use Rattle.route_record.specs.Places.{slot_at}
use Rattle.net_parts.specs.Tracked.{TracksNet}
use Rattle.rebuilt_routes.specs.Deciding.{HaveRealRoutes}
use Rattle.rebuilt_routes.specs.Following.{real_routes, slot_with}
use Rattle.proto_rib.proofs.Places.{mul-add-div-len, mul-add-mod-len}
use Rattle.path_rebuild.specs.declared.ShapeRec.{ShapeRec}
use Rattle.path_rebuild.specs.Shapes.{AreFew, route_of}
use Rattle.path_rebuild.specs.Tables.{known_at, rebuilt_slot, rebuilt_tables, routes_of, slots_of}

pub few_of : (files : List File) (tracked : Tracked) → TracksNet files tracked → AreFew tracked
few_of files tracked tracks = record {
  communities = tracks.few_communities;
  numbers = tracks.few_numbers;
  clusters = tracks.few_clusters;
}

-- ---- places

-- what is made of items with their places stands at these places
pub made_there : {A B : Type 0} (f : ℕ × A → B) (n : ℕ) (xs : List A) (k : ℕ) →
    slice_get (map f (enumerate_from n xs)) k ≡ option_map (λ x. f (n + k, x)) (slice_get xs k)
made_there f n [] k = refl
made_there f n (x ∷ xs) zero =
    let place : n ≡ n + 0 = omega arith in ap (λ j. Some (f (j, x))) place
made_there {A = A} f n (x ∷ xs) (suc k) =
    let place : n + 1 + k ≡ n + suc k = omega arith in
    made_there f (n + 1) xs k ∙ ap (λ j. option_map (λ (y : A). f (j, y)) (slice_get xs k)) place

long : {A : Type 0} (n : ℕ) (xs : List A) → length (enumerate_from n xs) ≡ length xs
long n [] = refl
long n (x ∷ xs) = ap suc (long (n + 1) xs)

pub size_again : (tracked : Tracked) (files : List File) (environment : Environment) (held : List (Option ShapeRec))
    (rest : Tables) (destination : Addr) →
    length (rebuilt_tables tracked files environment held rest destination).slots ≡ length rest.slots
unfolding rebuilt_tables
size_again tracked files environment held rest destination =
    length-map (enumerate_from 0 rest.slots) (rebuilt_slot tracked files environment held rest destination)
    ∙ long 0 rest.slots

-- each slot is that of the given tables, with the route of its shape
pub have_real : (tracked : Tracked) (files : List File) (environment : Environment) (held : List (Option ShapeRec))
    (rest : Tables) (destination : Addr) (len : ℕ) → len < LENGTHS →
    HaveRealRoutes tracked files environment (slots_of tracked held rest len) (prefix_at destination len)
    (rebuilt_tables tracked files environment held rest destination)
unfolding rebuilt_tables
have_real tracked files environment held rest destination len below router =
    made_there (rebuilt_slot tracked files environment held rest destination) 0 rest.slots (LENGTHS * router + len)
    ∙ by (slot_at rest router len)
  where
    by : (o : Option Slot) →
        option_map (λ x. rebuilt_slot tracked files environment held rest destination
        (0 + (LENGTHS * router + len), x)) o
        ≡ option_map (slot_with (real_routes tracked files environment (slots_of tracked held rest len)
        (prefix_at destination len) router)) (option_map (λ (slot : Slot). record {
          ospf = slot.ospf;
          bgp = option_map (route_of tracked) (known_at held len router);
          rib = slot.rib;
        }) o)
    by None = refl
    by (Some slot) =
        let place : 0 + (LENGTHS * router + len) ≡ LENGTHS * router + len = omega arith in
        let one = ap (λ k. k % LENGTHS) place ∙ mul-add-mod-len router len below in
        let other = ap (λ k. k / LENGTHS) place ∙ mul-add-div-len router len below in
        λ i. Some (record {
          ospf = slot.ospf;
          bgp = routes_of tracked files environment held rest destination (one i) (other i);
          rib = slot.rib;
        })

-- ---- slots of the given tables

pub slot_there : (files : List File) (rest : Tables) (router len : ℕ) → length rest.slots ≡ LENGTHS * length files →
    router < length files → len < LENGTHS → (slot : Slot) × (slot_at rest router len ≡ Some slot)
slot_there files rest router len size within below =
    item_there rest.slots (LENGTHS * router + len) (omega (arith, size, within, below))

pub slot_within : (files : List File) (rest : Tables) (router len : ℕ) (slot : Slot) →
    length rest.slots ≡ LENGTHS * length files → slot_at rest router len ≡ Some slot → router < length files
slot_within files rest router len slot size there =
    let place = slice_get_within rest.slots (LENGTHS * router + len) slot there in
    omega (arith, size, place)
