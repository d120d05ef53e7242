-- The text of a counterexample.
use Rattle.std.specs.Prelude.{ℕ, List, [], ◌∷◌, codes, map, Option, Some, option_map, slice_get}
use Rattle.std.specs.Option.{option_map_or}
use Rattle.ios_ast.specs.declared.file.File.{File}
use Rattle.route_record.specs.declared.Slot.{Slot}
use Rattle.route_record.specs.declared.Tables.{Tables}
use Rattle.question_lang.specs.declared.question.Question.{Question}
use Rattle.serde_json.specs.Data.{Data, Members, null, object}
use Rattle.serde_json.specs.Written.{compact_text}
use Rattle.cex_json.specs.declared.counterexample.Counterexample.{Counterexample}
use Rattle.cex_json.specs.Json.{array_of, members_with, members_with_from, number_of, text_of}
use Rattle.cex_json.specs.Parts.{bgp_data, ospf_data, packet_data, rib_data, slots_from, walk_data}
use Rattle.cex_json.specs.Worlds.{announcements_data, failures_data, peers_data}

-- the name of a question; a number that is no question's has the empty name
abbrev pub question_name : List Question → ℕ → List ℕ
question_name questions at = option_map_or (λ question. question.name) (slice_get questions at) []

-- the fields of a counterexample in two halves: what its world is, and what it shows
abbrev pub world_fields : List File → Counterexample → List (List ℕ × Option Data)
world_fields files cex =
    (codes "announcements", Some (announcements_data files cex.env.announced))
    ∷ (codes "failures", Some (failures_data files cex.failures.links))
    ∷ (codes "format", Some (number_of 2))
    ∷ (codes "packet", Some (packet_data cex.packet))
    ∷ (codes "peers", Some (peers_data files cex.env.ids))
    ∷ []

unfoldable pub surroundings_of : List File → Counterexample → Members
surroundings_of files cex = members_with (world_fields files cex)

abbrev pub shown_fields : List File → List Question → Counterexample → List (List ℕ × Option Data)
shown_fields files questions cex =
    (codes "question", Some (text_of (question_name questions cex.question)))
    ∷ (codes "tables", Some (array_of (slots_from files 0 cex.tables.slots)))
    ∷ (codes "walk", option_map (walk_data files) cex.walk)
    ∷ []

-- the JSON value of a counterexample to one of the questions over the files
unfoldable pub cex_data : List File → List Question → Counterexample → Data
cex_data files questions cex =
    object (members_with_from (surroundings_of files cex) (shown_fields files questions cex))

-- its text, without blanks, the names of each object ascending
abbrev pub cex_text : List File → List Question → Counterexample → List ℕ
cex_text files questions cex = compact_text (cex_data files questions cex)

-- the text of tables alone
unfoldable pub tables_data : List File → Tables → Data
tables_data files tables = array_of (slots_from files 0 tables.slots)

abbrev pub tables_text : List File → Tables → List ℕ
tables_text files tables = compact_text (tables_data files tables)

-- ---- parts of a slot alone

-- the part that is there, of several the first by name; null where there is none
unfoldable pub part_data : Slot → Data
part_data slot =
    option_map_or bgp_data slot.bgp (option_map_or ospf_data slot.ospf (option_map_or rib_data slot.rib null))

abbrev pub part_text : Slot → List ℕ
part_text slot = compact_text (part_data slot)

-- the parts of slots, as a list
unfoldable pub part_list : List Slot → Data
part_list slots = array_of (map part_data slots)

abbrev pub part_list_text : List Slot → List ℕ
part_list_text slots = compact_text (part_list slots)
