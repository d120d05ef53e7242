use Rattle.std.proofs.Common.{◌≡◌, ◌≤◌, ◌++◌, drop, length, map}
use Rattle.sym_policy.specs.Held.{bgp_of, failures_of}
use Rattle.sym_policy.specs.Records.{address_of}
use Rattle.sym_rib.specs.Worlds.{slots_end}
use Rattle.term_store.specs.Terms.{Reading, size}
use Rattle.term_store.specs.Reading.{Reads, Builds}
use Rattle.bgp_equations.specs.Equations.{HaveTracked, slot_read}
use Rattle.bgp_worlds.specs.Opens.{shape_slot_of}
use Rattle.routing_worlds.specs.Worlds.{opens_with}
use Rattle.world_variables.specs.Symbols.{open_of}
use Rattle.routing_encoder.specs.Slots.{shapes_over}
use Rattle.routing_encoder.proofs.slots.slots.Given as goal

-- the slots so far, with those that are left, are all
abbrev pub invariant-loop-at : goal.invariant-loop-at
invariant-loop-at l = record {
  builds : Builds l.fn.terms l.terms;
  within : slots_end l.made ≤ size l.terms;
  rows : HaveTracked l.towards.net.now.tracked l.made;
  long : length l.made ≡ l.at;
  value : (w : Reading) → Reads w l.terms → map (slot_read w) l.made
      ++ shapes_over (shape_slot_of l.towards.net.now.files l.question.packets.dst (failures_of w l.towards.sym.now)
      (address_of w l.towards.dst.now)) (drop l.at l.places)
      (opens_with l.towards.net.now.files l.question (failures_of w l.towards.sym.now)
      (address_of w l.towards.dst.now) (drop l.at l.places)
      (map (open_of w) (drop l.at l.parts)) (map (bgp_of w) (drop l.at l.routes)))
      ≡ shapes_over (shape_slot_of l.towards.net.now.files l.question.packets.dst (failures_of w l.towards.sym.now)
      (address_of w l.towards.dst.now)) l.places
      (opens_with l.towards.net.now.files l.question (failures_of w l.towards.sym.now)
      (address_of w l.towards.dst.now) l.places (map (open_of w) l.parts) (map (bgp_of w) l.routes));
}
