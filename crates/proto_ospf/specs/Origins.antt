-- The interfaces that originate a prefix, of all routers.
use Rattle.std.specs.Prelude.{ℕ, ◌==◌, ◌&&◌, List, Option, filter, map}
use Rattle.mw_text.specs.declared.address.Prefix.{Prefix}
use Rattle.mw_text.specs.Address.{same_prefix}
use Rattle.ios_ast.specs.declared.file.File.{File}
use Rattle.route_record.specs.declared.Failures.{Failures}
use Rattle.net_parts.specs.declared.ospf.OspfInterface.{OspfInterface}
use Rattle.net_parts.specs.Distances.{least}
use Rattle.net_parts.specs.Ospf.{advertisement, ospf_interfaces}
use Rattle.net_parts.specs.World.{is_up}

-- those that advertise it and are up
abbrev pub origins : List File → Failures → Prefix → List OspfInterface
origins files failures p =
    filter (λ x. same_prefix (advertisement x) p && is_up files failures x.at) (ospf_interfaces files)

-- the least cost of those of the router
abbrev pub least_cost : List OspfInterface → ℕ → Option ℕ
least_cost all router = least (map (λ x. x.cost) (filter (λ x. x.at.id.router == router) all))
