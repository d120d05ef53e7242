-- Where the variables of a question's worlds stand: those of a packet of its set, of failed links, and of what is open of
-- the slots at the places of a plan.
use Rattle.std.specs.Prelude.{◌≡◌, ℕ, ◌+◌, ◌<◌, ◌^◌, ◌&&◌, Bool, List, [], length}
use Rattle.ios_ast.specs.declared.file.File.{File}
use Rattle.ios_ast.specs.declared.file.StaticRoute.{StaticRoute}
use Rattle.route_record.specs.declared.Plan.{Plan}
use Rattle.net_parts.specs.World.{links_of}
use Rattle.question_lang.specs.declared.question.Question.{Question}
use Rattle.failed_links.specs.Failures.{downs_width}
use Rattle.plan_places.specs.declared.places.Place.{Place}
use Rattle.plan_places.specs.Places.{places_of}
use Rattle.world_variables.specs.declared.unknowns.Unknown.{Unknown}
use Rattle.world_variables.specs.Packets.{packet_width}
use Rattle.world_variables.specs.Unknowns.{rooms_at, unknowns_from}

-- the administrative distance of a static route fits its field
abbrev pub FitsDistance : StaticRoute → Type 0
FitsDistance route = route.distance < 2 ^ 8

-- the places at which slots stand
abbrev pub places_in : List File → Plan → List Place
places_in files plan = places_of plan (length files)

-- where the variables of the links begin, and those of the slots, after those of the packet
abbrev pub downs_start : Question → ℕ → ℕ
downs_start question from = from + packet_width question.packets

abbrev pub slots_start : List File → Question → ℕ → ℕ
slots_start files question from =
    downs_start question from + downs_width question.failures (length (links_of files))

-- what is open of the slots
unfoldable pub opens_from : List File → Question → Plan → (ℕ → Bool) → ℕ → List Unknown
opens_from files question plan v from =
    unknowns_from (rooms_at files question.packets.dst (places_in files plan)) v (slots_start files question from)
