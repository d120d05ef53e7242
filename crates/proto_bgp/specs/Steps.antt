-- A candidate as the decision process sees it.
use Rattle.net_parts.specs.Decisions as decisions
use Rattle.proto_bgp.specs.declared.decision.Candidate.{Candidate}

abbrev pub seen : Candidate → decisions.Candidate
seen c = record { rec = c.rec; external = c.external; cost = c.cost; peer_id = c.peer_id }

-- what the steps compare of it
abbrev pub key : Candidate → decisions.Key
key c = decisions.key_of (seen c)
