-- A candidate from its route and from what it has beside it.
use Rattle.std.specs.Prelude.{◌+◌, ℕ, All, List, max, if◌then◌else◌, Option, Some, None}
use Rattle.route_record.specs.declared.tracked.Tracked.{Tracked}
use Rattle.bgp_shapes.specs.Candidates.{ShapeCandidate}
use Rattle.term_store.specs.Terms.{Reading, at}
use Rattle.term_arith.specs.Bits.{ids_end, number}
use Rattle.sym_policy.specs.declared.records.SymBgp.{SymBgp}
use Rattle.sym_policy.specs.Held.{bgp_at}
use Rattle.sym_bgp.specs.declared.parts.SymCand.{SymCand}
use Rattle.sym_policy.specs.MapRecs.{HasTracked}
use Rattle.bgp_equations.specs.declared.parts.SymBeside.{SymBeside}

abbrev pub candidate_with : Reading → SymBgp → SymBeside → Option ShapeCandidate
candidate_with w rec b =
    if at w b.there then Some (record {
      rec = bgp_at w rec;
      external = at w b.external;
      cost = number w b.cost.nodes.items;
      peer_id = number w b.peer_id.nodes.items;
    }) else None

-- the least size of a store that has all of its nodes
abbrev pub beside_end : SymBeside → ℕ
beside_end b =
    max (max (b.there.0 + 1) (b.external.0 + 1)) (max (ids_end b.cost.nodes.items) (ids_end b.peer_id.nodes.items))

-- the routes of candidates have one node for each tracked value
abbrev pub HaveAllMarks : Tracked → List SymCand → Type 0
HaveAllMarks tracked cands = All (λ c. HasTracked tracked c.rec) cands
