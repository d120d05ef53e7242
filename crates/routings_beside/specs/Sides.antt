-- One network of two as a formula of its own.
use Rattle.std.specs.Prelude.{◌≡◌, ◌<◌, ◌≤◌, ℕ, Bool, true, List, length}
use Rattle.route_record.specs.declared.Environment.{Environment}
use Rattle.route_record.specs.declared.World.{World}
use Rattle.net_model.specs.Kept.{Network}
use Rattle.packet_fates.specs.declared.fate.Fate.{Fate}
use Rattle.plan_places.specs.Plans.{single_plan}
use Rattle.routing_encoder.specs.Encoded.{HasEnvironment, StandsForWorld}
use Rattle.same_asks.specs.declared.same.Same.{Same}
use Rattle.sym_walk.specs.Whole.{whole_end}
use Rattle.term_arith.specs.Bits.{ids_end}
use Rattle.term_store.specs.Reading.{Reads}
use Rattle.term_store.specs.Terms.{IsSound, Reading, at, reading_of, size, value_of}
use Rattle.routings_beside.specs.declared.sides.SideTerms.{SideTerms}
use Rattle.routings_beside.specs.Pairs.{IsSide, SayFates, SayShapes, SaysRouting, own_bits, question_of, width}

-- Whatever values make the root true say a stable routing, and the values of each make it true and say its shapes. The
-- nodes of the world, of the environment and of the fates stand in the terms. World and environment read as the values
-- say; and where the root is true, the node of each fate says whether packets have it in the routing of these values.
pub record IsSideTerms (net : Network) (ask : Same) (start : ℕ) (fates : List Fate) (s : SideTerms) : Type 0 where
  pub root : s.root.0 < size s.terms
  pub vars : s.terms.vars ≡ width net ask
  pub ordered : IsSound s.terms.nodes s.terms.vars
  pub reads : (valuation : List Bool) → Reads (reading_of s.terms.nodes valuation) s.terms
  pub sound : 0 < length net.files → (valuation : List Bool) →
      value_of s.terms.nodes valuation s.root.0 ≡ true → SaysRouting net ask valuation
  pub complete : (world : World) (environment : Environment) → IsSide net.files ask world environment →
      value_of s.terms.nodes (own_bits net ask world environment) s.root.0 ≡ true
  pub shapes : SayShapes net ask
  pub nodes : whole_end s.side.world ≤ size s.terms
  pub outside : HasEnvironment net.files net.tracked single_plan s.terms s.side.env
  pub fates_stand : ids_end s.side.fates ≤ size s.terms
  pub fates_long : length s.side.fates ≡ length fates
  pub world : (w : Reading) → Reads w s.terms →
      StandsForWorld net.files net.tracked (question_of ask) single_plan 0 w s.side.world s.side.env
  pub told : (w : Reading) → Reads w s.terms → at w s.root ≡ true → SayFates net ask start fates w s.side.fates
