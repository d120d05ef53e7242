-- What walks read of routing tables: of a BGP route its next hop alone.
use Rattle.std.specs.Prelude.{[], map, Option, Some, None, option_map, if◌then◌else◌}
use Rattle.mw_text.specs.declared.address.Addr.{Addr}
use Rattle.route_record.specs.declared.BgpRec.{BgpRec}
use Rattle.route_record.specs.declared.Learnt.TheVariants.{Local}
use Rattle.route_record.specs.declared.Origin.TheVariants.{Igp}
use Rattle.route_record.specs.declared.Slot.{Slot}
use Rattle.route_record.specs.declared.Tables.{Tables}
use Rattle.route_record.specs.declared.World.{World}
use Rattle.term_store.specs.Terms.{Reading, at}
use Rattle.sym_policy.specs.declared.records.SymBgp.{SymBgp}
use Rattle.sym_policy.specs.Records.{address_of}

-- a BGP route with that next hop, and nothing else
abbrev pub route_towards : Addr → BgpRec
route_towards a = record {
  from = Local;
  weight = 0;
  local_pref = 0;
  path = [];
  origin = Igp;
  med = 0;
  communities = [];
  next_hop = a;
  originator = None;
  clusters = [];
}

-- the slot as walks see it
abbrev pub seen : Slot → Slot
seen slot = record slot { bgp = option_map (λ r. route_towards r.next_hop) slot.bgp }

-- so the tables, and the world with them
abbrev pub seen_tables : Tables → Tables
seen_tables tables = record { slots = map seen tables.slots }

abbrev pub seen_world : World → World
seen_world world = record world { tables = seen_tables world.tables }

-- the BGP route that a reading makes of a symbolic one, where it is there
abbrev pub towards_of : Reading → SymBgp → Option BgpRec
towards_of w s = if at w s.valid then Some (route_towards (address_of w s.next_hop)) else None
