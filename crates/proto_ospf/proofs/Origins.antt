-- The own cost of a router, from the interfaces of all routers that originate the prefix.
use Rattle.std.proofs.Common.{◌≡◌, ℕ, Bool, true, false, ◌&&◌, eqb, List, [], ◌∷◌, map, filter, refl, sym, ap}
use Rattle.mw_text.specs.declared.address.Prefix.{Prefix}
use Rattle.mw_text.specs.Address.{same_prefix}
use Rattle.ios_ast.specs.declared.file.File.{File}
use Rattle.route_record.specs.declared.Failures.{Failures}
use Rattle.net_parts.specs.Distances.{least, own_cost}
use Rattle.net_parts.specs.Ospf.{advertisement, ospf_interfaces}
use Rattle.net_parts.specs.World.{is_up}
use Rattle.proto_ospf.specs.Origins.{least_cost, origins}

-- a filter of what a filter keeps
filter_both : {X : Type 0} (p q : X → Bool) (xs : List X) → filter p (filter q xs) ≡ filter (λ x. p x && q x) xs
filter_both p q [] = refl
filter_both {X} p q (x ∷ xs) = by_tests (p x) (q x) refl refl (filter_both p q xs) where
  by_tests : (b c : Bool) → p x ≡ b → q x ≡ c → filter p (filter q xs) ≡ filter (λ y. p y && q y) xs →
      filter p (filter q (x ∷ xs)) ≡ filter (λ y. p y && q y) (x ∷ xs)
  by_tests true true one two rest = rw (two, one) (ap (λ ys. x ∷ ys) rest)
  by_tests true false one two rest = rw (two, one) rest
  by_tests false true one two rest = rw (two, one) rest
  by_tests false false one two rest = rw (two, one) rest

pub own_of_origins : (files : List File) (failures : Failures) (p : Prefix) (router : ℕ) →
    own_cost files failures p router ≡ least_cost (origins files failures p) router
unfolding own_cost
own_of_origins files failures p router =
    sym (ap (λ xs. least (map (λ x. x.cost) xs))
    (filter_both (λ x. eqb x.at.id.router router) (λ x. same_prefix (advertisement x) p && is_up files failures x.at)
    (ospf_interfaces files)))
