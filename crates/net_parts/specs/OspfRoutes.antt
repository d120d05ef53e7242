-- The OSPF route that a router holds (RFC 2328, section 16.4).
use Rattle.std.specs.Prelude.{ℕ, ◌+◌, ◌==◌, ◌&&◌, ◌||◌, ◌^◌, Bool, true, false, not, List, [], ◌++◌, filter, fold, map}
use Rattle.std.specs.Prelude.{nat_lt, Option, Some, None, option_and_then, if◌then◌else◌}
use Rattle.std.specs.List.{enumerate_from, filter_map, list_any}
use Rattle.std.specs.Option.{option_map_or}
use Rattle.mw_text.specs.declared.address.Prefix.{Prefix}
use Rattle.ios_ast.specs.declared.file.File.{File}
use Rattle.ios_ast.specs.declared.ospf.Ospf.{Ospf}
use Rattle.route_record.specs.declared.Failures.{Failures}
use Rattle.route_record.specs.declared.OspfKind.{OspfKind}
use Rattle.route_record.specs.declared.OspfKind.TheVariants.{Internal, Ext1, Ext2}
use Rattle.route_record.specs.declared.OspfRec.{OspfRec}
use Rattle.route_record.specs.declared.Slot.{Slot}
use Rattle.route_record.specs.declared.Tables.{Tables}
use Rattle.route_record.specs.Places.{slot_at}
use Rattle.net_parts.specs.declared.adjacencies.Adjacency.{Adjacency}
use Rattle.net_parts.specs.Origins.{redistributed}
use Rattle.net_parts.specs.Ospf.{adjacencies, origin_interfaces, receives}

-- internal before type 1, and type 1 before type 2
abbrev pub kind_rank : OspfKind → ℕ
kind_rank Internal = 0
kind_rank Ext1 = 1
kind_rank Ext2 = 2

abbrev pub is_type2 : OspfKind → Bool
is_type2 Internal = false
is_type2 Ext1 = false
is_type2 Ext2 = true

-- the one is better: by its kind; of two of type 2 by the metric, and then by the cost; else by the cost
abbrev pub is_better : OspfRec → OspfRec → Bool
is_better a b =
    nat_lt (kind_rank a.kind) (kind_rank b.kind)
    || ((kind_rank a.kind == kind_rank b.kind)
    && ((is_type2 a.kind && nat_lt a.metric b.metric)
    || ((not (is_type2 a.kind) || a.metric == b.metric) && nat_lt a.cost b.cost)))

-- the one is at least as good
abbrev pub is_as_good : OspfRec → OspfRec → Bool
is_as_good a b = not (is_better b a)

-- the first of the best
abbrev pub better_of : Option OspfRec → OspfRec → Option OspfRec
better_of None next = Some next
better_of (Some best) next = if is_better next best then Some next else Some best

abbrev pub first_best : List OspfRec → Option OspfRec
first_best offers = fold better_of None offers

-- a record that costs more by so much; one whose cost has no 32 bits is no offer
abbrev pub extended : ℕ → OspfRec → Option OspfRec
extended cost held = if nat_lt (held.cost + cost) (2 ^ 32) then Some (record held { cost = held.cost + cost }) else None

-- a router's own origins: its up interfaces that advertise the prefix, and what it takes from its own table
unfoldable pub own_origins : List File → Failures → ℕ → File → Ospf → Prefix → Slot → List OspfRec
own_origins files failures router file process p slot =
    map (λ x. record { kind = Internal; metric = 0; cost = x.cost }) (origin_interfaces files failures router p)
    ++ redistributed file process p slot

-- the record that the far router of an adjacency holds
abbrev pub far_record : Tables → Prefix → Adjacency → Option OspfRec
far_record tables p a = option_and_then (λ slot. slot.ospf) (slot_at tables a.to.router p.len)

-- what is offered over an adjacency: the far router's record, extended by the cost of the receiving interface
abbrev pub offer_over : Tables → Prefix → Adjacency → Option OspfRec
offer_over tables p a = option_and_then (extended a.cost) (far_record tables p a)

-- what a router has heard over the adjacency at a place is an offer, extended in the same way
abbrev pub offer_heard : (ℕ → Adjacency → Option OspfRec) → ℕ × Adjacency → Option OspfRec
offer_heard heard over = option_and_then (extended over.1.cost) (heard over.0 over.1)

-- the record that a router holds by its own origins and by what it has heard over each adjacency: the first best of the
-- origins and of the offers over the adjacencies that are up
unfoldable pub held_from : List File → Failures → (ℕ → Adjacency → Option OspfRec) → ℕ → List OspfRec → Option OspfRec
held_from files failures heard router origins =
    first_best (origins ++ filter_map (offer_heard heard)
    (filter (λ over. receives files failures router over.1) (enumerate_from 0 (adjacencies files))))

-- that by the tables: the origins are those of its own slot, and it has heard what the far routers hold
unfoldable pub held_by_ospf : List File → Failures → Tables → ℕ → File → Ospf → Prefix → Option OspfRec
held_by_ospf files failures tables router file process p =
    held_from files failures (λ at a. far_record tables p a) router
    (option_map_or (own_origins files failures router file process p) (slot_at tables router p.len) [])

-- an own origin is as good as the held record
abbrev pub is_own : List File → Failures → ℕ → File → Prefix → Slot → OspfRec → Bool
is_own files failures router file p slot held =
    option_map_or (λ process. list_any (λ o. is_as_good o held)
    (own_origins files failures router file process p slot)) file.ospf false
