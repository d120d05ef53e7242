-- What route maps make of a BGP route.
use Rattle.std.specs.Prelude.{false}
use Rattle.ios_ast.specs.Setting.{Attributes}
use Rattle.route_record.specs.declared.BgpRec.{BgpRec}
use Rattle.route_record.specs.declared.MapRec.{MapRec}
use Rattle.route_record.specs.Origins.{origin_of_code}

-- a route that is not redistributed, as route maps take it
abbrev pub as_map_rec : BgpRec → MapRec
as_map_rec rec = record { bgp = rec; type1 = false }

-- the route with what a map has left of its attributes
abbrev pub with_attributes : BgpRec → Attributes → BgpRec
with_attributes rec r = record rec {
  weight = r.weight;
  local_pref = r.local_pref;
  med = r.med;
  origin = origin_of_code r.origin;
  path = r.path;
  communities = r.communities;
}
