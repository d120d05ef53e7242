-- How a route goes on over a session, by the end over which it was learnt (RFC 4271, section 5.1.3; RFC 4456, section
-- 6).
use Rattle.std.specs.Prelude.{ℕ, ◌+◌, ◌^◌, ◌==◌, ◌&&◌, ◌||◌, Bool, true, false, not, List, Option, Some, None}
use Rattle.std.specs.Prelude.{unwrap_or}
use Rattle.std.specs.List.{find}
use Rattle.std.specs.Option.{option_map_or}
use Rattle.ios_ast.specs.declared.bgp.Bgp.{Bgp}
use Rattle.ios_ast.specs.declared.bgp.Neighbour.{Neighbour}
use Rattle.ios_ast.specs.declared.file.File.{File}
use Rattle.net_parts.specs.declared.sessions.SessionEnd.{SessionEnd}
use Rattle.net_parts.specs.Exports.{learnt_id, may_reflect}
use Rattle.net_parts.specs.Sessions.{ends_of, neighbour_of}

-- whether the route may go, whether it gets the own address as next hop over an internal session, whether it is
-- reflected, and the identifier of the peer from which it came
pub record Crossing : Type 0 where
  pub may : Bool
  pub own_hop : Bool
  pub reflected : Bool
  pub peer : ℕ

-- a local route goes everywhere, with the own address; what came over an end goes on by what the two ends are
abbrev pub crossing : List File → Bgp → Neighbour → SessionEnd → Option SessionEnd → Crossing
crossing files process neighbour end None = record { may = true; own_hop = true; reflected = false; peer = 0 }
crossing files process neighbour end (Some from) = record {
  may = not (from.neighbour == end.neighbour)
      && (not (from.internal && end.internal) || may_reflect files process from end);
  own_hop = neighbour.next_hop_self && not from.internal;
  reflected = from.internal;
  peer = (unwrap_or (learnt_id files from) (record { 0 = 0 })).0;
}

-- the end over which a route was learnt, by the number that stands for its peer
abbrev pub is_from : List File → ℕ → ℕ → SessionEnd → Bool
is_from files router n end =
    (end.router == router)
    && option_map_or (λ neighbour. 2 ^ 32 + neighbour.addr.0 == n) (neighbour_of files end) false

abbrev pub end_numbered : List File → ℕ → ℕ → Option SessionEnd
end_numbered files router n = find (is_from files router n) (ends_of files)
