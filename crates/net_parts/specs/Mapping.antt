-- What route maps see of a BGP route, and what they leave of it.
use Rattle.std.specs.Prelude.{Bool, false, List, [], Option, Some}
use Rattle.std.specs.List.{find}
use Rattle.std.specs.Option.{option_map_or}
use Rattle.mw_text.specs.declared.address.Prefix.{Prefix}
use Rattle.mw_text.specs.Text.{same_text}
use Rattle.ios_ast.specs.declared.file.Use.{Use}
use Rattle.ios_ast.specs.declared.policies.MapEntry.{MapEntry}
use Rattle.ios_ast.specs.declared.policies.Policies.{Policies}
use Rattle.ios_ast.specs.Maps.{mapped}
use Rattle.ios_ast.specs.Setting.{Attributes}
use Rattle.route_record.specs.declared.BgpRec.{BgpRec}
use Rattle.route_record.specs.Origins.{origin_code, origin_of_code}

-- what route maps see of a BGP route
abbrev pub attributes_of : BgpRec → Attributes
attributes_of rec = record {
  weight = rec.weight;
  local_pref = rec.local_pref;
  med = rec.med;
  origin = origin_code rec.origin;
  path = rec.path;
  communities = rec.communities;
  type1 = false;
}

-- the route with what a map has left of these
abbrev pub with_attributes : BgpRec → Attributes → BgpRec
with_attributes rec r = record rec {
  weight = r.weight;
  local_pref = r.local_pref;
  med = r.med;
  origin = origin_of_code r.origin;
  path = r.path;
  communities = r.communities;
}
