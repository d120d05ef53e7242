-- An address is resolved by what the distances to the first advertised prefix that contains it say.
use Rattle.std.proofs.Common.{◌≡◌, ℕ, List, [], ◌∷◌, Bool, true, false, map, refl, sym}
use Rattle.std.specs.Prelude.{option_and_then}
use Rattle.std.specs.List.{find}
use Rattle.mw_text.specs.declared.address.Addr.{Addr}
use Rattle.mw_text.specs.declared.address.Prefix.{Prefix}
use Rattle.mw_text.specs.Address.{covers}
use Rattle.ios_ast.specs.declared.file.File.{File}
use Rattle.route_record.specs.declared.Failures.{Failures}
use Rattle.net_parts.specs.Distances.{interior_distance}
use Rattle.net_parts.specs.Ospf.{advertised}
use Rattle.proto_ospf.specs.Reached.{all_reached, reached, to_first}
use Rattle.proto_ospf.proofs.Interior.{interior_there}

first_of : (files : List File) (failures : Failures) (router : ℕ) (a : Addr) (ps : List Prefix) →
    to_first (map (reached files failures) ps) router a
    ≡ option_and_then (interior_distance files failures router) (find (λ p. covers p a) ps)
first_of files failures router a [] = refl
first_of files failures router a (p ∷ ps) = by_first (covers p a) refl (first_of files failures router a ps) where
  by_first : (b : Bool) → covers p a ≡ b → to_first (map (reached files failures) ps) router a
      ≡ option_and_then (interior_distance files failures router) (find (λ q. covers q a) ps) →
      to_first (map (reached files failures) (p ∷ ps)) router a
      ≡ option_and_then (interior_distance files failures router) (find (λ q. covers q a) (p ∷ ps))
  by_first true is rest = rw is (sym (interior_there files failures p router))
  by_first false is rest = rw is rest

pub first_is : (files : List File) (failures : Failures) (router : ℕ) (a : Addr) →
    to_first (all_reached files failures) router a
    ≡ option_and_then (interior_distance files failures router) (find (λ p. covers p a) (advertised files))
first_is files failures router a = first_of files failures router a (advertised files)
