-- Over which adjacencies an OSPF entry sends, one adjacency at a time.
use Rattle.std.specs.Prelude.{ℕ, ◌==◌, ◌&&◌, Bool, false, List, [], filter, map, Option}
use Rattle.std.specs.Option.{option_map_or}
use Rattle.mw_text.specs.declared.address.Prefix.{Prefix}
use Rattle.ios_ast.specs.declared.file.File.{File}
use Rattle.route_record.specs.declared.Failures.{Failures}
use Rattle.route_record.specs.declared.OspfRec.{OspfRec}
use Rattle.route_record.specs.declared.Packet.{Packet}
use Rattle.route_record.specs.declared.Tables.{Tables}
use Rattle.net_parts.specs.declared.adjacencies.Adjacency.{Adjacency}
use Rattle.net_parts.specs.Ospf.{is_up_at}
use Rattle.net_parts.specs.OspfRoutes.{offer_over}
use Rattle.net_parts.specs.Sending.{same_record}
use Rattle.question_lang.specs.declared.walk.Hop.{Hop}
use Rattle.question_lang.specs.Hops.{send_adjacent}

-- the router receives over the adjacency: both of its interfaces are up
abbrev pub is_up_from : List File → Failures → ℕ → Adjacency → Bool
is_up_from files failures router a =
    (a.from.router == router) && (is_up_at files failures a.from && is_up_at files failures a.to)

-- what is offered over the adjacency is that record
abbrev pub offers_held : Tables → Prefix → OspfRec → Adjacency → Bool
offers_held tables p held a = option_map_or (same_record held) (offer_over tables p a) false

-- it is the record held, where there is one
abbrev pub offers : Tables → Prefix → Option OspfRec → Adjacency → Bool
offers tables p held a = option_map_or (λ h. offers_held tables p h a) held false

-- the hops over those of some adjacencies that are up and offer the record held
abbrev pub offered_hops : List File → Failures → Packet → Tables → ℕ → Prefix → Option OspfRec → List Adjacency →
    List Hop
offered_hops files failures packet tables router p held adjacent =
    option_map_or (λ h. map (send_adjacent files packet)
    (filter (offers_held tables p h) (filter (is_up_from files failures router) adjacent))) held []
