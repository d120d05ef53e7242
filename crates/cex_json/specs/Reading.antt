-- Which text states which counterexample, and else where its first bad field stands.
use Rattle.std.specs.Prelude.{ℕ, ◌==◌, ◌||◌, List, [], codes, position, slice_get, Option, Some, None, option_and_then}
use Rattle.std.specs.Prelude.{option_map, Result, Ok, Err, if◌then◌else◌}
use Rattle.std.specs.Str.{is_utf8}
use Rattle.mw_text.specs.Text.{same_text}
use Rattle.ios_ast.specs.declared.file.File.{File}
use Rattle.question_lang.specs.declared.question.Question.{Question}
use Rattle.question_lang.specs.declared.walk.Walk.{Walk}
use Rattle.serde_json.specs.Data.{Data}
use Rattle.serde_json.specs.Find.{get}
use Rattle.serde_json.specs.Read.{read}
use Rattle.cex_json.specs.declared.counterexample.Counterexample.{Counterexample}
use Rattle.cex_json.specs.declared.reader.Limits.{Limits}
use Rattle.cex_json.specs.declared.reader.Surroundings.{Surroundings}
use Rattle.cex_json.specs.declared.refused.CexRefused.{CexRefused}
use Rattle.cex_json.specs.declared.refused.CexRefused.TheVariants.{NotJson}
use Rattle.cex_json.specs.Entries.{slots_in}
use Rattle.cex_json.specs.Fields.{◌>>=◌, number_in, passing, place_of, required, text_in}
use Rattle.cex_json.specs.Standings.{walk_in}
use Rattle.cex_json.specs.Surroundings.{announcements_in, failures_in, ids_in, packet_in}

-- the place of the question that the field `question` names
unfoldable pub question_named : List Question → List ℕ → Option ℕ
question_named questions name = place_of (position (λ q. same_text q.name name) questions)

unfoldable pub asked_place : List Question → Data → Option ℕ
asked_place questions d = option_and_then (question_named questions) (text_in (get (codes "question") d))

-- what that question limits; where none is named there is no limit
unfoldable pub limits : List Question → Data → Limits
limits questions d = record {
  failures = option_map (λ q. q.failures) asked;
  packets = option_map
      (λ q. q.packets) asked;
} where
  asked : Option Question
  asked = option_and_then (slice_get questions) (asked_place questions d)

abbrev pub format_in : Data → Option ℕ
format_in d = passing (λ n. (n == 1) || (n == 2)) (number_in 2 (get (codes "format") d))

-- what surrounds a routing: announcements, failed links, the packet and the identifiers of external peers
unfoldable pub surroundings_in : List File → Limits → Data → Result Surroundings CexRefused
surroundings_in files limits d = do
  announced ← announcements_in files d
  links ← failures_in files limits.failures d
  format ← required [] (codes "format") (format_in d)
  packet ← packet_in limits.packets d
  ids ← ids_in files format d
  Ok (record { announced = announced; links = links; packet = packet; ids = ids })

-- the walk, where the question asks for one
abbrev pub walk_for : List File → Option Question → Data → Result (Option Walk) CexRefused
walk_for files None d = Ok None
walk_for files (Some question) d = walk_in files question.kind d

-- the fields of a counterexample, in the order of their names
unfoldable pub cex_in : List File → List Question → Data → Result Counterexample CexRefused
cex_in files questions d = do
  around ← surroundings_in files (limits questions d) d
  place ← required [] (codes "question") (asked_place questions d)
  slots ← slots_in files d
  walk ← walk_for files (slice_get questions place) d
  Ok (record {
    question = place;
    packet = around.packet;
    failures = record { links = around.links };
    env = record { ids = around.ids; announced = around.announced };
    tables = record { slots = slots };
    walk = walk;
  })

-- the JSON value of a text (RFC 8259), which is UTF-8
abbrev pub utf8_of : List ℕ → Option (List ℕ)
utf8_of bytes = if is_utf8 bytes then Some bytes else None

abbrev pub value_of : List ℕ → Option Data
value_of bytes = option_and_then read (utf8_of bytes)

-- the counterexample that a text states; it is no JSON, or the first bad field is told
abbrev pub reading_of : List File → List Question → Option Data → Result Counterexample CexRefused
reading_of files questions None = Err NotJson
reading_of files questions (Some d) = cex_in files questions d

abbrev pub reading : List File → List Question → List ℕ → Result Counterexample CexRefused
reading files questions bytes = reading_of files questions (value_of bytes)
