-- What contracts see of a network, and what it keeps beside its files.
use Rattle.std.specs.Prelude.{◌≡◌, ℕ, ◌+◌, ◌≤◌, List, [], ◌∷◌, length}
use Rattle.mw_text.specs.declared.address.Addr.{Addr}
use Rattle.ios_ast.specs.declared.file.File.{File}
use Rattle.route_record.specs.declared.tracked.Tracked.{Tracked}
use Rattle.net_model.specs.declared.network.Joined.{Joined}
use Rattle.net_model.specs.declared.network.OspfParts.{OspfParts}
use Rattle.net_model.specs.declared.network.Parts.{Parts}
use Rattle.net_interfaces.specs.declared.interfaces.TheConstants.{MOST_FILES}
use Rattle.net_parts.specs.Exports.{router_id}
use Rattle.net_interfaces.specs.Interfaces.{addressed}
use Rattle.net_refusals.specs.Network.{IsNetwork}
use Rattle.net_parts.specs.Ospf.{adjacencies, advertised, ospf_interfaces}
use Rattle.net_parts.specs.Sessions.{ends_of}
use Rattle.net_parts.specs.Tracked.{TracksNet}
use Rattle.net_parts.specs.World.{links_of}

-- a network: the files of its routers, and the values that it tracks
pub record Network : Type 0 where
  pub files : List File
  pub tracked : Tracked

-- the identifiers of the routers from that number on
abbrev pub ids_from : List File → ℕ → List File → List Addr
ids_from files router [] = []
ids_from files router (file ∷ rest) = router_id files router ∷ ids_from files (router + 1) rest

-- these are the interfaces, links and ends of sessions of the files
pub record IsJoined (files : List File) (joined : Joined) : Type 0 where
  pub addresses : joined.addresses ≡ addressed files
  pub links : joined.links ≡ links_of files
  pub ends : joined.ends ≡ ends_of files

-- these run OSPF, and are adjacent, and are advertised
pub record RunsOspf (files : List File) (parts : OspfParts) : Type 0 where
  pub running : parts.running ≡ ospf_interfaces files
  pub adjacencies : parts.adjacencies ≡ adjacencies files
  pub advertised : parts.advertised ≡ advertised files

-- the files are a network, and these are its parts and values that it may track
pub record IsKept (files : List File) (parts : Parts) : Type 0 where
  pub network : IsNetwork files
  pub few : length files ≤ MOST_FILES
  pub joined : IsJoined files parts.joined
  pub ospf : RunsOspf files parts.ospf
  pub tracked : TracksNet files parts.tracked
  pub ids : parts.ids ≡ ids_from files 0 files
