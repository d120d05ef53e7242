-- Rooms: a mark for each tracked value, and numbers that fit the fields of a route.
use Rattle.std.proofs.Common.{ℕ, ◌^◌, ◌<◌, ◌≤◌, ◌==◌, Bool, true, false, List, [], length, Option, Some, None}
use Rattle.std.proofs.Common.{arith, if◌then◌else◌, ◌≡◌, ◌∷◌, refl}
use Rattle.slot_places.specs.declared.fields.Field.TheVariants.{Addresses, Among, Bits}
use Rattle.slot_places.specs.declared.fields.Field.{Field}
use Rattle.slot_places.specs.Values.{width_for}
use Rattle.slot_places.proofs.Widths.{few}
use Rattle.net_parts.specs.World.{is_word}
use Rattle.held_values.specs.Rooms.{values_room}
use Rattle.std.specs.Prelude.{IfSome, nat_le, option_map}
use Rattle.std.specs.List.{All, list_all}
use Rattle.std.proofs.lemmas.Bool.{and_parts, leb-true, ltb-true}
use Rattle.std.proofs.lemmas.List.{length-replicate}
use Rattle.std.proofs.lemmas.List.Elements.{All-cons, All-nil, All-weaker}
use Rattle.ios_ast.specs.declared.bgp.Bgp.{Bgp}
use Rattle.ios_ast.specs.declared.bgp.Neighbour.{Neighbour}
use Rattle.ios_ast.specs.declared.file.File.{File}
use Rattle.route_record.specs.declared.tracked.Tracked.{Tracked}
use Rattle.world_variables.specs.Unknowns.{TellsWithin}
use Rattle.bgp_variables.specs.Rooms.{announcement_room, bgp_room, held_room, of_addresses, of_words, only, reflected}
use Rattle.bgp_variables.specs.Brought.{speaker_at}
use Rattle.bgp_variables.specs.Shapes.{IsRoomOf}

only_within : (bits n : ℕ) → n < 2 ^ bits → TellsWithin bits (only n)
only_within bits n small = All-cons (λ m. m < 2 ^ bits) n [] small (All-nil (λ m. m < 2 ^ bits))

reflected_within : (tracked : Tracked) (most : ℕ) (field : Field) → TellsWithin most field →
    TellsWithin most (reflected tracked field)
reflected_within tracked most field few = by (length tracked.clusters == 0)
  where
    by : (b : Bool) → TellsWithin most (if b then Bits 0 else field)
    by true = omega arith
    by false = few

all_words : (values : List ℕ) → list_all is_word values ≡ true → All (λ n. n < 2 ^ 32) values
all_words [] words = All-nil (λ n. n < 2 ^ 32)
all_words (n ∷ values) words =
    let both = and_parts (is_word n) (list_all is_word values) words in
    All-cons (λ n. n < 2 ^ 32) n values (ltb-true n (2 ^ 32) both.0) (all_words values both.1)

-- a field for numbers of 32 bits tells no larger one
words_within : (field : Field) → TellsWithin 32 (of_words field)
words_within (Bits width) = by (nat_le width 32) refl
  where
    by : (b : Bool) → nat_le width 32 ≡ b → TellsWithin 32 (if b then Bits width else Bits 32)
    by true few = leb-true width 32 few
    by false few = omega arith
words_within (Among values) = by (list_all is_word values) refl
  where
    by : (b : Bool) → list_all is_word values ≡ b → TellsWithin 32 (if b then Among values else Bits 32)
    by true words = all_words values words
    by false words = omega arith
words_within (Addresses addresses) = omega arith

-- and one for numbers of addresses none of more than 33 bits
addresses_within : (field : Field) → TellsWithin 33 (of_addresses field)
addresses_within (Bits width) = by (nat_le width 33) refl
  where
    by : (b : Bool) → nat_le width 33 ≡ b → TellsWithin 33 (if b then Bits width else Bits 33)
    by true few = leb-true width 33 few
    by false few = omega arith
addresses_within (Among values) = by (list_all is_word values) refl
  where
    by : (b : Bool) → list_all is_word values ≡ b → TellsWithin 33 (if b then Among values else Bits 33)
    by true words =
        All-weaker (λ n. n < 2 ^ 32) (λ n. n < 2 ^ 33) (λ n small. omega (arith, small)) values
        (all_words values words)
    by false words = omega arith
addresses_within (Addresses addresses) = by (list_all is_word addresses) refl
  where
    by : (b : Bool) → list_all is_word addresses ≡ b → TellsWithin 33 (if b then Addresses addresses else Bits 33)
    by true words = (omega arith, all_words addresses words)
    by false words = omega arith

pub held_is_room : (tracked : Tracked) (files : List File) → IsRoomOf tracked (held_room tracked files)
unfolding held_room
held_is_room tracked files = (
  record {
    from = addresses_within (values_room files).from;
    preferences = record {
      weight = words_within (values_room files).weight;
      local_pref = words_within (values_room files).local_pref;
      med = words_within (values_room files).med;
      origin = omega arith;
    };
    path = record { len = omega arith; first = words_within (values_room files).first; last = words_within (values_room files).last };
    next_hop = words_within (values_room files).next_hop;
    originator = reflected_within tracked 33 (of_addresses (values_room files).originator)
        (addresses_within (values_room files).originator);
    cluster_len = let below = few (length tracked.clusters) 0 32 (omega arith) in
        reflected_within tracked 32 (Bits (width_for (length tracked.clusters))) (omega (arith, below));
  },
  record {
    numbers = length-replicate (length tracked.numbers) true;
    communities = length-replicate (length tracked.communities) true;
    clusters = length-replicate (length tracked.clusters) true;
  },
)

-- the room of a slot, where it has one
pub room_held : (tracked : Tracked) (files : List File) (router len : ℕ) →
    IfSome (bgp_room tracked files router len) (IsRoomOf tracked)
room_held tracked files router len = by (speaker_at files router len)
  where
    by : (o : Option Bgp) → IfSome (option_map (λ process. held_room tracked files) o) (IsRoomOf tracked)
    by None = tt
    by (Some process) = held_is_room tracked files

pub announcement_is_room : (tracked : Tracked) (neighbour : Neighbour) → neighbour.asn < 2 ^ 32 →
    neighbour.addr.0 < 2 ^ 32 → IsRoomOf tracked (announcement_room tracked neighbour)
announcement_is_room tracked neighbour asn addr = (
  record {
    from = only_within 33 0 (omega arith);
    preferences = record {
      weight = only_within 32 0 (omega arith);
      local_pref = only_within 32 0 (omega arith);
      med = omega arith;
      origin = omega arith;
    };
    path = record { len = omega arith; first = only_within 32 neighbour.asn asn; last = omega arith };
    next_hop = only_within 32 neighbour.addr.0 addr;
    originator = only_within 33 0 (omega arith);
    cluster_len = only_within 32 0 (omega arith);
  },
  record {
    numbers = length-replicate (length tracked.numbers) true;
    communities = length-replicate (length tracked.communities) true;
    clusters = length-replicate (length tracked.clusters) false;
  },
)
