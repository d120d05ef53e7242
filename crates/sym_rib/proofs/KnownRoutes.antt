-- Records that are put together of what maps see of them and of a rest that carries nothing.
use Rattle.std.proofs.Common.{◌≡◌, length, sym, ap, ◌∙◌}
use Rattle.term_store.specs.declared.NodeId.{NodeId}
use Rattle.term_store.specs.Terms.{Reading}
use Rattle.term_arith.specs.Bits.{bits, number}
use Rattle.route_record.specs.declared.tracked.Tracked.{Tracked}
use Rattle.sym_policy.specs.declared.parts.SymRest.{SymRest}
use Rattle.sym_policy.specs.declared.parts.SymRoute.{SymRoute}
use Rattle.sym_policy.specs.declared.records.SymMapRec.{SymMapRec}
use Rattle.sym_policy.specs.MapRecs.{HasMarks, HasTracked, KeepsRest}
use Rattle.sym_policy.specs.Routes.{HasRows, IsBare}
use Rattle.sym_policy.specs.SameNodes.{IsJoined}
use Rattle.sym_policy.proofs.SameNodes.{joined_steps}
use Rattle.sym_rib.specs.Known.{IsOwn}

pub own_joined : (w : Reading) (tracked : Tracked) (there : NodeId) (route : SymRoute) (rest : SymRest)
    (rec : SymMapRec) → IsJoined there route rest rec → IsBare w tracked 0 rest → IsOwn w tracked rec
own_joined w tracked there route rest rec joined bare = record {
  next_hop = sym (ap (number w) joined.rest.next_hop) ∙ bare.next_hop;
  originator = sym (ap (number w) joined.rest.originator) ∙ bare.originator;
  from = sym (ap (number w) joined.rest.from) ∙ bare.from;
  cluster_len = sym (ap (number w) joined.rest.cluster_len) ∙ bare.cluster_len;
  clusters = sym (ap (bits w) joined.rest.clusters) ∙ bare.clusters;
}

-- the rows of both are there
pub tracked_joined : (tracked : Tracked) (there : NodeId) (route : SymRoute) (rest : SymRest) (rec : SymMapRec)
    → IsJoined there route rest rec → HasRows tracked route
    → length rest.clusters.nodes.items ≡ length tracked.clusters → HasTracked tracked rec.bgp
tracked_joined tracked there route rest rec joined rows clusters = record {
  numbers = sym (ap length joined.seen.path.numbers) ∙ rows.numbers;
  communities = sym (ap length joined.seen.communities) ∙ rows.communities;
  clusters = sym (ap length joined.rest.clusters) ∙ clusters;
}

-- no map changes how many there are
pub tracked_kept : (tracked : Tracked) (a b : SymMapRec) → HasTracked tracked a.bgp → HasMarks tracked b
    → KeepsRest a b → HasTracked tracked b.bgp
tracked_kept tracked a b before marks kept = record {
  numbers = marks.numbers;
  communities = marks.communities;
  clusters = ap length kept.clusters ∙ before.clusters;
}

pub ruleset known_steps = (joined_steps, own_joined, tracked_joined)
