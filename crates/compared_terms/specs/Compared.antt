-- What is said of two networks as one formula.
use Rattle.std.specs.Prelude.{◌≡◌, ◌+◌, ◌<◌, Bool, true, false, List, ◌++◌}
use Rattle.compared_nets.specs.Compared.{AreBeside, FatesBeside, FatesIn}
use Rattle.net_model.specs.Kept.{Network}
use Rattle.packet_fates.specs.Sides.{AreSame}
use Rattle.route_record.specs.declared.Environment.{Environment}
use Rattle.route_record.specs.declared.World.{World}
use Rattle.plan_places.specs.Plans.{single_plan}
use Rattle.routing_worlds.specs.Worlds.{is_routing}
use Rattle.routings_beside.specs.Pairs.{environment_by, left_values, question_of, right_values, side_bits, width, world_by}
use Rattle.same_asks.specs.declared.same.Same.{Same}
use Rattle.term_store.specs.Terms.{size, truth, value_of}
use Rattle.compared_terms.specs.declared.encoding.ComparedTerms.{ComparedTerms}

-- values of all variables: those of the left network's and those of the right one's are a routing each
pub record SayTwo (left right : Network) (ask : Same) (valuation : List Bool) : Type 0 where
  pub one : is_routing left.files left.tracked (question_of ask) single_plan
      (truth (left_values left ask valuation)) 0 ≡ true
  pub other : is_routing right.files right.tracked (question_of ask) single_plan
      (truth (right_values left right ask valuation)) 0 ≡ true

-- they stand side by side, and their fates are not the same
pub record SayDifferent (left right : Network) (ask : Same) (valuation : List Bool) : Type 0 where
  pub beside : AreBeside left.files right.files ask
      (world_by left ask (left_values left ask valuation))
      (world_by right ask (right_values left right ask valuation))
      (environment_by left ask (left_values left ask valuation))
      (environment_by right ask (right_values left right ask valuation))
  pub differ : AreSame (FatesIn left.files (world_by left ask (left_values left ask valuation)) ask)
      (FatesBeside right.files (world_by right ask (right_values left right ask valuation)) ask) → ⊥

-- the root stands in the terms; whatever values make it true say two routings side by side whose fates are not the same;
-- and where it is false under the values of two routings side by side, their fates are the same
pub record IsComparison (left right : Network) (ask : Same) (e : ComparedTerms) : Type 0 where
  pub root : e.root.0 < size e.terms
  pub vars : e.terms.vars ≡ width left ask + width right ask
  pub split : e.split ≡ width left ask
  pub routings : (valuation : List Bool) → value_of e.terms.nodes valuation e.root.0 ≡ true →
      SayTwo left right ask valuation
  pub sound : (valuation : List Bool) → value_of e.terms.nodes valuation e.root.0 ≡ true →
      SayDifferent left right ask valuation
  pub complete : (one other : World) (around about : Environment) →
      AreBeside left.files right.files ask one other around about →
      value_of e.terms.nodes (side_bits left ask one around ++ side_bits right ask other about) e.root.0 ≡ false →
      AreSame (FatesIn left.files one ask) (FatesBeside right.files other ask)
