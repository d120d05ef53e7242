-- The first adjacencies of least walks, by the distances to the first advertised prefix that contains the address.
use Rattle.std.proofs.Common.{◌≡◌, ℕ, ◌+◌, Bool, true, false, eqb, List, [], ◌∷◌, filter, map, refl, sym, ap, ◌∙◌}
use Rattle.std.specs.List.{find}
use Rattle.std.specs.Option.{option_map_or}
use Rattle.std.proofs.lemmas.List.Elements.{filter_agree}
use Rattle.mw_text.specs.declared.address.Addr.{Addr}
use Rattle.mw_text.specs.declared.address.Prefix.{Prefix}
use Rattle.mw_text.specs.Address.{covers}
use Rattle.ios_ast.specs.declared.file.File.{File}
use Rattle.route_record.specs.declared.Failures.{Failures}
use Rattle.net_parts.specs.declared.adjacencies.Adjacency.{Adjacency}
use Rattle.net_parts.specs.Distances.{interior_distance}
use Rattle.net_parts.specs.Ospf.{advertised}
use Rattle.net_parts.specs.Sending.{is_on_least_walk}
use Rattle.proto_ospf.specs.Reached.{all_reached, reached}
use Rattle.proto_ospf.specs.Rounds.{interior_distances, of_router}
use Rattle.proto_ospf.specs.Steps.{is_step, steps}
use Rattle.proto_ospf.proofs.Interior.{interior_there}

step_is : (files : List File) (failures : Failures) (router : ℕ) (p : Prefix) (a : Adjacency) →
    is_step (interior_distances files failures p) router a ≡ is_on_least_walk files failures router p a
step_is files failures router p a =
    ap (λ o. option_map_or (λ d. option_map_or (λ further. eqb d (a.cost + further))
    (of_router (interior_distances files failures p) a.to.router) false) o false)
    (sym (interior_there files failures p router))
    ∙ ap (λ o. option_map_or (λ d. option_map_or (λ further. eqb d (a.cost + further)) o false)
    (interior_distance files failures router p) false) (sym (interior_there files failures p a.to.router))

steps_of : (files : List File) (failures : Failures) (router : ℕ) (a : Addr) (up : List Adjacency) (ps : List Prefix) →
    steps (map (reached files failures) ps) up router a
    ≡ option_map_or (λ p. filter (is_on_least_walk files failures router p) up) (find (λ p. covers p a) ps) []
steps_of files failures router a up [] = refl
steps_of files failures router a up (p ∷ ps) = by_first (covers p a) refl (steps_of files failures router a up ps) where
  by_first : (b : Bool) → covers p a ≡ b → steps (map (reached files failures) ps) up router a
      ≡ option_map_or (λ q. filter (is_on_least_walk files failures router q) up) (find (λ q. covers q a) ps) [] →
      steps (map (reached files failures) (p ∷ ps)) up router a
      ≡ option_map_or (λ q. filter (is_on_least_walk files failures router q) up) (find (λ q. covers q a) (p ∷ ps)) []
  by_first true is rest =
      rw is (filter_agree (is_step (interior_distances files failures p) router)
      (is_on_least_walk files failures router p)
      (λ b. step_is files failures router p b) up)
  by_first false is rest = rw is rest

pub steps_are : (files : List File) (failures : Failures) (router : ℕ) (a : Addr) (up : List Adjacency) →
    steps (all_reached files failures) up router a
    ≡ option_map_or (λ p. filter (is_on_least_walk files failures router p) up)
    (find (λ p. covers p a) (advertised files)) []
steps_are files failures router a up = steps_of files failures router a up (advertised files)
