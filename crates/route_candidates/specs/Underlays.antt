-- What the links that are up give, whatever routes are held.
use Rattle.std.specs.Prelude.{◌≡◌, ◌≤◌, List, length, map}
use Rattle.ios_ast.specs.declared.file.File.{File}
use Rattle.route_record.specs.declared.Failures.{Failures}
use Rattle.net_parts.specs.Ospf as ospf
use Rattle.net_parts.specs.Resolution.{session_up}
use Rattle.net_parts.specs.Sessions.{ends_of}
use Rattle.proto_ospf.specs.Reached.{all_reached}
use Rattle.route_candidates.specs.declared.underlay.Underlay.{Underlay}

-- it is that of these files while these links have failed; and there are so few session ends that a place has 32 bits
pub record IsUnderlay (files : List File) (failures : Failures) (underlay : Underlay) : Type 0 where
  pub adjacencies : underlay.adjacencies ≡ map (ospf.is_adjacency_up files failures) (ospf.adjacencies files)
  pub distances : underlay.distances ≡ all_reached files failures
  pub sessions : underlay.sessions ≡ map (session_up files failures) (ends_of files)
  pub few : length (ends_of files) ≤ 4294967295
