-- What ties two routings that stand side by side in one formula.
use Rattle.std.specs.Prelude.{◌≡◌, ◌+◌, ◌<◌, ◌≤◌, ℕ, true, List, Some, length, slice_get}
use Rattle.bgp_equations.specs.Environments.{FitsNet, env_end, environment_read}
use Rattle.common_failures.specs.Failing.{FailAlike, own_failed}
use Rattle.joined_terms.specs.Joining.{behind}
use Rattle.net_model.specs.Kept.{Network}
use Rattle.paired_nets.specs.declared.links.LinkPair.{LinkPair}
use Rattle.peers_beside.specs.Shared.{AreCommonShapes}
use Rattle.plan_places.specs.Plans.{lens_of, single_plan}
use Rattle.routings_beside.specs.declared.sides.Side.{Side}
use Rattle.route_record.specs.declared.Failures.{Failures}
use Rattle.sym_policy.specs.Held.{failures_of}
use Rattle.sym_policy.specs.Packets.{packet_of}
use Rattle.sym_walk.specs.Whole.{whole_end}
use Rattle.term_arith.specs.Bits.{ids_end}
use Rattle.term_store.specs.declared.NodeId.{NodeId}
use Rattle.term_store.specs.Terms.{Reading, Store, at, differ, size}

-- the nodes at that place of the two lists have different values; those of the second list stand at these places
abbrev pub DiffersAt : Reading → List NodeId → List NodeId → List NodeId → ℕ → Type 0
DiffersAt w places a b k =
    (x : NodeId) × (y : NodeId) × (slice_get a k ≡ Some x) × (slice_get b k ≡ Some y)
    × (differ (at w x) (at (behind places w) y) ≡ true)

abbrev pub DifferBelow : Reading → List NodeId → List NodeId → List NodeId → ℕ → Type 0
DifferBelow w places a b many = (k : ℕ) × (k < many) × DiffersAt w places a b k

-- they have one packet, and their common peers are and announce the same
pub record IsAround (left right : Network) (places : List NodeId) (one other : Side) (w : Reading) : Type 0 where
  pub packet : packet_of w one.world.packet ≡ packet_of (behind places w) other.world.packet
  pub peers : AreCommonShapes left.files right.files
      (environment_read w left.files (lens_of single_plan) one.env)
      (environment_read (behind places w) right.files (lens_of single_plan) other.env)

-- common links fail together, and of both networks' no more than so many
pub record FailSo (links : List LinkPair) (most : ℕ) (one other : Failures) : Type 0 where
  pub alike : FailAlike links one other
  pub few : length one.links + length (own_failed links other.links) ≤ most

-- all of these; and the fates of the two are not the same
pub record AreTied (left right : Network) (links : List LinkPair) (most : ℕ) (places : List NodeId) (one other : Side)
    (w : Reading) : Type 0 where
  pub around : IsAround left right places one other w
  pub failing : FailSo links most (failures_of w one.world.net) (failures_of (behind places w) other.world.net)
  pub fates : DifferBelow w places one.fates other.fates (length one.fates)

-- ---- where the nodes of both stand

pub record StandBoth (left right : Network) (t : Store) (places : List NodeId) (one other : Side) : Type 0 where
  pub one_world : whole_end one.world ≤ size t
  pub other_world : whole_end other.world ≤ length places
  pub one_env : env_end one.env ≤ size t
  pub other_env : env_end other.env ≤ length places
  pub one_fits : FitsNet left.files left.tracked (lens_of single_plan) one.env
  pub other_fits : FitsNet right.files right.tracked (lens_of single_plan) other.env
  pub one_fates : ids_end one.fates ≤ size t
  pub other_fates : ids_end other.fates ≤ length places
  pub fates_long : length one.fates ≡ length other.fates
  pub places_stand : ids_end places ≤ size t
