-- The attributes of a route, as route maps and as the definitions of BGP read them.
use Rattle.std.proofs.Common.{◌≡◌, refl, Option, Some, None}
use Rattle.std.specs.Option.{option_and_then, option_map}
use Rattle.policy_eval.specs.Attributes as policies
use Rattle.policy_eval.specs.Routes.{as_map_rec}
use Rattle.route_record.specs.declared.BgpRec.{BgpRec}
use Rattle.net_parts.specs.Mapping.{attributes_of}

-- both readings of a route's attributes are one
pub same_attributes : (rec : BgpRec) → policies.attributes_of (as_map_rec rec) ≡ attributes_of rec
same_attributes rec = refl

-- a test after a map
pub then_mapped : {A B C : Type 0} (f : B → Option C) (g : A → B) (found : Option A) →
    option_and_then f (option_map g found) ≡ option_and_then (λ x. f (g x)) found
then_mapped f g None = refl
then_mapped f g (Some x) = refl
