-- Which routers run a routing protocol.
use Rattle.std.specs.Prelude.{◌&&◌, Bool, not, List, is_some}
use Rattle.std.specs.List.{list_all}
use Rattle.ios_ast.specs.declared.file.File.{File}

-- the router runs neither OSPF nor BGP
abbrev pub is_plain : File → Bool
is_plain file = not (is_some file.ospf) && not (is_some file.bgp)

-- no router of the network runs a routing protocol
abbrev pub runs_no_protocol : List File → Bool
runs_no_protocol files = list_all is_plain files
