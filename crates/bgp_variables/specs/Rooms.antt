-- Rooms of held routes, and of what external peers announce.
use Rattle.std.specs.Prelude.{◌==◌, ℕ, Bool, true, false, List, [], ◌∷◌, length, map, replicate, if◌then◌else◌}
use Rattle.std.specs.Prelude.{Option, nat_le, option_map}
use Rattle.std.specs.List.{list_all}
use Rattle.ios_ast.specs.declared.bgp.Neighbour.{Neighbour}
use Rattle.ios_ast.specs.declared.file.File.{File}
use Rattle.route_record.specs.declared.tracked.Tracked.{Tracked}
use Rattle.net_parts.specs.World.{is_word}
use Rattle.held_values.specs.Rooms.{values_room}
use Rattle.plan_places.specs.declared.places.Place.{Place}
use Rattle.slot_places.specs.declared.fields.Field.{Field}
use Rattle.slot_places.specs.declared.fields.Field.TheVariants.{Bits, Among, Addresses}
use Rattle.slot_places.specs.Values.{width_for}
use Rattle.bgp_variables.specs.declared.rooms.BgpRoom.{BgpRoom}
use Rattle.bgp_variables.specs.Brought.{speaker_at}

-- a number that is known
abbrev pub only : ℕ → Field
only n = Among (n ∷ [])

-- each mark can be set, and none
abbrev pub all_marks : {X : Type 0} → List X → List Bool
all_marks tracked = replicate (length tracked) true

abbrev pub no_marks : {X : Type 0} → List X → List Bool
no_marks tracked = replicate (length tracked) false

-- a number that only a reflected route has, by that field where some router of the network is a reflector (RFC 4456,
-- section 8); else it is 0, and has no bits
abbrev pub reflected : Tracked → Field → Field
reflected tracked field = if length tracked.clusters == 0 then Bits 0 else field

-- how long a cluster list is, which names no reflector twice
abbrev pub clusters_field : Tracked → Field
clusters_field tracked = reflected tracked (Bits (width_for (length tracked.clusters)))

-- a field for numbers of 32 bits: where a value has more, it tells all of 32
abbrev pub of_words : Field → Field
of_words (Bits width) = if nat_le width 32 then Bits width else Bits 32
of_words (Among values) = if list_all is_word values then Among values else Bits 32
of_words (Addresses addresses) = Bits 32

-- and one for numbers of addresses that may be missing, which have 33
abbrev pub of_addresses : Field → Field
of_addresses (Bits width) = if nat_le width 33 then Bits width else Bits 33
of_addresses (Among values) = if list_all is_word values then Among values else Bits 33
of_addresses (Addresses addresses) = if list_all is_word addresses then Addresses addresses else Bits 33

-- what a held route can be, by what lines of the files say of its numbers and of peers, and by the identifiers of routers.
-- An imported path has at most 255 numbers
unfoldable pub held_room : Tracked → List File → BgpRoom
held_room tracked files = record {
  from = of_addresses (values_room files).from;
  preferences = record {
    weight = of_words (values_room files).weight;
    local_pref = of_words (values_room files).local_pref;
    med = of_words (values_room files).med;
    origin = Bits 2;
  };
  path = record {
    len = Bits 8;
    first = of_words (values_room files).first;
    last = of_words (values_room files).last;
    numbers = all_marks tracked.numbers;
  };
  communities = all_marks tracked.communities;
  next_hop = of_words (values_room files).next_hop;
  originator = reflected tracked (of_addresses (values_room files).originator);
  cluster_len = clusters_field tracked;
  clusters = all_marks tracked.clusters;
}

-- what an external peer announces, as a message: its path begins with the peer's AS number, and the next hop is the peer
abbrev pub announcement_room : Tracked → Neighbour → BgpRoom
announcement_room tracked neighbour = record {
  from = only 0;
  preferences = record { weight = only 0; local_pref = only 0; med = Bits 32; origin = Bits 2 };
  path = record { len = Bits 8; first = only neighbour.asn; last = Bits 32; numbers = all_marks tracked.numbers };
  communities = all_marks tracked.communities;
  next_hop = only neighbour.addr.0;
  originator = only 0;
  cluster_len = only 0;
  clusters = no_marks tracked.clusters;
}

-- the room of the BGP route of a router's slot of that length, where it can hold one
abbrev pub bgp_room : Tracked → List File → ℕ → ℕ → Option BgpRoom
bgp_room tracked files router len = option_map (λ process. held_room tracked files) (speaker_at files router len)

-- those of the slots at places
abbrev pub bgp_rooms : Tracked → List File → List Place → List (Option BgpRoom)
bgp_rooms tracked files places = map (λ p. bgp_room tracked files p.router p.len) places
