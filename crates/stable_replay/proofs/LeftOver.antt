-- What the decision process leaves, by the places of the candidates.
use Rattle.std.proofs.Common.{◌≡◌, ◌∙◌, ℕ, Bool, true, false, List, [], ◌∷◌, map, Option, Some, None, refl, ap}
use Rattle.std.specs.Prelude.{Any, option_map}
use Rattle.std.specs.Bool.{Decides}
use Rattle.std.specs.List.{filter_map, list_any}
use Rattle.std.specs.Option.{option_map_or}
use Rattle.std.proofs.lemmas.Bool.Decides.{Decides-at}
use Rattle.std.proofs.lemmas.List.Folds.{Any-from_list_any, list_any-from_Any}
use Rattle.route_record.specs.declared.BgpRec.{BgpRec}
use Rattle.net_parts.specs.Decisions as decisions
use Rattle.proto_bgp.specs.declared.decision.Candidate.{Candidate}
use Rattle.proto_bgp.specs.Places.{candidate_at, candidates_at}
use Rattle.proto_bgp.proofs.StepLaws.{any_found}
use Rattle.stable_replay.specs.Parts.{bgp_slot, bgp_slots, slot_left}
use Rattle.same_routes.specs.Same.{same_rec}
use Rattle.same_routes.proofs.SameRoutes.{same_rec_decides}

found_one : {X Y Z : Type 0} (f : Y → Z) (g : X → Option Y) (x : X) (xs : List X) (o : Option Y) → g x ≡ o →
    filter_map (λ y. option_map f (g y)) xs ≡ map f (filter_map g xs) →
    filter_map (λ y. option_map f (g y)) (x ∷ xs) ≡ map f (filter_map g (x ∷ xs))
found_one f g x xs None is more = rw is more
found_one f g x xs (Some y) is more = rw is (ap (λ zs. f y ∷ zs) more)

-- what is made of all that is found is found of each
map_found : {X Y Z : Type 0} (f : Y → Z) (g : X → Option Y) (xs : List X) →
    filter_map (λ x. option_map f (g x)) xs ≡ map f (filter_map g xs)
map_found f g [] = refl
map_found f g (x ∷ xs) = found_one f g x xs (g x) refl (map_found f g xs)

-- the slots of the candidates at some places
pub slots_left : (candidates : List Candidate) (left : List ℕ) →
    filter_map (slot_left candidates) left ≡ bgp_slots (candidates_at candidates left)
slots_left candidates left = map_found (λ c. bgp_slot (Some c.rec)) (candidate_at candidates) left

any_decides : (rec : BgpRec) (cs : List decisions.Candidate) →
    Decides (list_any (λ c. same_rec c.rec rec) cs) (Any (λ c. c.rec ≡ rec) cs)
any_decides rec cs =
    let has : decisions.Candidate → Bool = λ c. same_rec c.rec rec in
    let tells : (c : decisions.Candidate) → Decides (has c) (c.rec ≡ rec) = λ c. same_rec_decides c.rec rec in (
      λ h. let found : Any (λ c. has c ≡ true) cs = Any-from_list_any has cs h in
          (found.0, found.1, found.2, found.3, (tells found.1).0 found.4),
      λ found. list_any-from_Any has cs
          (found.0, found.1, found.2, found.3, (tells found.1).1 found.4),
    )

-- the test over places tells whether some candidate that is left has the route
pub held_decides : (candidates : List Candidate) (left : List ℕ) (rec : BgpRec) (found : Bool) →
    found ≡ list_any (λ at. option_map_or (λ c. same_rec c.rec rec) (candidate_at candidates at) false) left →
    Decides found (Any (λ c. c.rec ≡ rec) (candidates_at candidates left))
held_decides candidates left rec found is =
    Decides-at found (list_any (λ c. same_rec c.rec rec) (candidates_at candidates left))
    (is ∙ any_found (candidate_at candidates) (λ c. same_rec c.rec rec) left)
    (any_decides rec (candidates_at candidates left))
