-- Fields for the numbers of held BGP routes, for the peers of whom they are learnt and for their originators.
use Rattle.std.specs.Prelude.{ℕ, ◌==◌, List, Option, Some, None, if◌then◌else◌, max}
use Rattle.ios_ast.specs.declared.file.File.{File}
use Rattle.ios_ast.specs.Paths.{first_of, last_of}
use Rattle.route_record.specs.declared.BgpRec.{BgpRec}
use Rattle.route_shapes.specs.Bgp.{address_number, learnt_number}
use Rattle.slot_places.specs.declared.fields.Field.{Field}
use Rattle.slot_places.specs.declared.fields.Field.TheVariants.{Bits}
use Rattle.slot_places.specs.Values.{FitsField, addresses_field, field_bits, field_of, once, put_once}
use Rattle.held_values.specs.declared.values.HeldValues.{HeldValues}
use Rattle.held_values.specs.Values.{firsts_of, has_peers, lasts_of, meds_of, next_hops_of, originators_of, ospf_bits}
use Rattle.held_values.specs.Values.{peers_of, preferences_of, weights_of}

-- a value that may be there, behind others unless it is one of them
abbrev pub put_option : List ℕ → Option ℕ → List ℕ
put_option held None = held
put_option held (Some n) = put_once held n

-- a field for numbers for which another has room, and for all that have room in so many bits: where only 0 has, the other
abbrev pub with_bits : Field → ℕ → Field
with_bits field bits = if bits == 0 then field else Bits (max (field_bits field) bits)

-- that of the MED: of lines, or of OSPF routes; an external peer can announce each
abbrev pub meds_field : List File → Field
meds_field files =
    if has_peers files then Bits 32 else with_bits (field_of (once (meds_of files))) (ospf_bits files)

-- those for the values that lines of the files say
abbrev pub values_room : List File → HeldValues
values_room files = record {
  from = addresses_field (once (peers_of files));
  originator = addresses_field (once (originators_of files));
  weight = field_of (once (weights_of files));
  local_pref = field_of (once (preferences_of files));
  med = meds_field files;
  next_hop = field_of (once (next_hops_of files));
  first = field_of (once (firsts_of files));
  last = if has_peers files then Bits 32 else field_of (once (lasts_of files));
}

-- the fields have room for the numbers of the route
pub record FitsHeldValues (room : HeldValues) (rec : BgpRec) : Type 0 where
  pub from : FitsField room.from (learnt_number rec.from)
  pub originator : FitsField room.originator (address_number rec.originator)
  pub weight : FitsField room.weight rec.weight
  pub local_pref : FitsField room.local_pref rec.local_pref
  pub med : FitsField room.med rec.med
  pub next_hop : FitsField room.next_hop rec.next_hop.0
  pub first : FitsField room.first (first_of rec.path)
  pub last : FitsField room.last (last_of rec.path)
