-- What a reading makes of a symbolic candidate.
use Rattle.std.specs.Prelude.{◌≡◌, ℕ, ◌+◌, max, if◌then◌else◌, All, List, [], ◌∷◌, length, Option, Some, None}
use Rattle.term_store.specs.Terms.{Reading, at}
use Rattle.term_arith.specs.Bits.{number, ids_end}
use Rattle.sym_policy.specs.declared.records.SymBgp.{SymBgp}
use Rattle.sym_policy.specs.Held.{bgp_at, bgp_end}
use Rattle.bgp_shapes.specs.Candidates.{ShapeCandidate}
use Rattle.sym_bgp.specs.declared.parts.SymCand.{SymCand}

-- the candidate, as if it were there
abbrev pub candidate_at : Reading → SymCand → ShapeCandidate
candidate_at w c = record {
  rec = bgp_at w c.rec;
  external = at w c.external;
  cost = number w c.cost.nodes.items;
  peer_id = number w c.peer_id.nodes.items;
}

-- the candidate, where it is there
abbrev pub candidate_of : Reading → SymCand → Option ShapeCandidate
candidate_of w c = if at w c.rec.valid then Some (candidate_at w c) else None

-- the least size of a store that has all nodes of the candidate, and of several
abbrev pub candidate_end : SymCand → ℕ
candidate_end c =
    max (bgp_end c.rec)
    (max (c.external.0 + 1) (max (ids_end c.cost.nodes.items) (ids_end c.peer_id.nodes.items)))

abbrev pub candidates_end : List SymCand → ℕ
candidates_end [] = 0
candidates_end (c ∷ cs) = max (candidate_end c) (candidates_end cs)

-- the rows of tracked values are as long in both routes
pub record SameMarks (a b : SymBgp) : Type 0 where
  pub numbers : length a.numbers.nodes.items ≡ length b.numbers.nodes.items
  pub communities : length a.communities.nodes.items ≡ length b.communities.nodes.items
  pub clusters : length a.clusters.nodes.items ≡ length b.clusters.nodes.items

-- so they are in all candidates
abbrev pub HaveMarksOf : SymBgp → List SymCand → Type 0
HaveMarksOf held candidates = All (λ c. SameMarks c.rec held) candidates
