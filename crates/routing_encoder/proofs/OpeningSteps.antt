-- The routing of new variables, by its parts.
use Rattle.std.proofs.Common.{◌≡◌, ℕ, ◌+◌, List, arith, length, map, refl, ap, ap₂, ◌∙◌}
use Rattle.mw_text.specs.declared.address.Prefix.{Prefix}
use Rattle.ios_ast.specs.declared.file.File.{File}
use Rattle.route_record.specs.declared.Plan.{Plan}
use Rattle.route_record.specs.declared.tracked.Tracked.{Tracked}
use Rattle.net_parts.specs.World.{links_of}
use Rattle.plan_places.specs.declared.places.Place.{Place}
use Rattle.plan_places.specs.Places.{places_below}
use Rattle.plan_places.specs.Plans.{lens_of}
use Rattle.question_lang.specs.declared.question.Question.{Question}
use Rattle.term_store.specs.Terms.{Reading}
use Rattle.sym_policy.specs.Held.{bgp_of, failures_of, ospf_of}
use Rattle.sym_policy.specs.declared.records.SymNet.{SymNet}
use Rattle.sym_policy.specs.declared.records.SymOspf.{SymOspf}
use Rattle.sym_policy.specs.Packets.{packet_of}
use Rattle.sym_policy.specs.Records.{address_of}
use Rattle.failed_links.specs.Failures.{failures_from}
use Rattle.igp_variables.specs.Rows.{rows_from, rows_width}
use Rattle.announced_places.specs.Environments.{environment_of}
use Rattle.bgp_variables.specs.Environments.{announced_from, environment_width, ids_from}
use Rattle.bgp_variables.specs.Rooms.{bgp_rooms}
use Rattle.bgp_variables.specs.Shapes.{bgps_from, bgps_width}
use Rattle.world_variables.specs.Packets.{packet_from}
use Rattle.world_variables.specs.Symbols.{open_of}
use Rattle.world_variables.specs.Unknowns.{rooms_at, unknowns_from, unknowns_width}
use Rattle.world_variables.specs.Worlds.{downs_start, opens_from, places_in, slots_start}
use Rattle.routing_worlds.specs.Worlds.{environment_start}
use Rattle.routing_encoder.specs.declared.frame.Frame.{Frame}
use Rattle.routing_encoder.specs.declared.opening.OpenRouting.{OpenRouting}
use Rattle.routing_encoder.specs.Frames.{IsFrame}
use Rattle.routing_encoder.specs.Opened.{ReadsAs, routing_width}

-- the places of a frame are those of its plan
pub places_are : (files : List File) (tracked : Tracked) (plan : Plan) (frame : Frame) →
    IsFrame files tracked plan frame → frame.places ≡ places_in files plan
places_are files tracked plan frame is = is.places ∙ ap (λ ls. places_below ls (length files)) is.lens

-- a routing has as many variables wherever they begin
width_from : (files : List File) (tracked : Tracked) (question : Question) (plan : Plan) (from : ℕ) →
    environment_start files tracked question plan from + environment_width tracked files (lens_of plan) + rows_width files
    ≡ from + routing_width files tracked question plan
width_from files tracked question plan from = omega arith

-- distances do not change which links have failed
pub rows_apart : (w : Reading) (net : SymNet) (igp : List SymOspf) →
    failures_of w (record { down = net.down; igp = igp }) ≡ failures_of w net
unfolding failures_of
rows_apart w net igp = refl

-- where what comes from outside begins
pub environment_begins : (files : List File) (tracked : Tracked) (question : Question) (plan : Plan) (frame : Frame)
    (from outside inside : ℕ) → IsFrame files tracked plan frame → frame.destinations ≡ question.packets.dst →
    outside ≡ slots_start files question from →
    inside ≡ outside + unknowns_width (rooms_at files frame.destinations frame.places)
    + bgps_width (bgp_rooms tracked files frame.places) → inside ≡ environment_start files tracked question plan from
environment_begins files tracked question plan frame from outside inside is destinations begin within =
    within
    ∙ ap (λ n. n + unknowns_width (rooms_at files frame.destinations frame.places)
    + bgps_width (bgp_rooms tracked files frame.places)) begin
    ∙ ap₂ (λ (d : Prefix) (ps : List Place). slots_start files question from + unknowns_width (rooms_at files d ps)
    + bgps_width (bgp_rooms tracked files ps)) destinations (places_are files tracked plan frame is)

-- and how many variables all are
pub routing_ends : (files : List File) (tracked : Tracked) (question : Question) (plan : Plan) (frame : Frame)
    (from inside all : ℕ) → IsFrame files tracked plan frame →
    inside ≡ environment_start files tracked question plan from →
    all ≡ inside + environment_width tracked files frame.lens.items + rows_width files →
    all ≡ from + routing_width files tracked question plan
routing_ends files tracked question plan frame from inside all is begin end =
    end
    ∙ ap (λ ls. inside + environment_width tracked files ls + rows_width files) is.lens
    ∙ ap (λ n. n + environment_width tracked files (lens_of plan) + rows_width files) begin
    ∙ width_from files tracked question plan from

-- a routing whose parts are of the variables reads as what they stand for
pub routing_is : (w : Reading) (files : List File) (tracked : Tracked) (question : Question) (plan : Plan)
    (from outside inside : ℕ) (made : OpenRouting) → IsFrame files tracked plan made.frame →
    made.frame.destinations ≡ question.packets.dst →
    packet_of w made.packet ≡ packet_from question.packets w.variable from →
    failures_of w made.net
    ≡ failures_from question.failures (length (links_of files)) w.variable (downs_start question from) →
    outside ≡ slots_start files question from → inside ≡ environment_start files tracked question plan from →
    map (open_of w) made.parts
    ≡ unknowns_from (rooms_at files made.frame.destinations made.frame.places) w.variable outside →
    map (bgp_of w) made.routes ≡ bgps_from (bgp_rooms tracked files made.frame.places) w.variable
    (outside + unknowns_width (rooms_at files made.frame.destinations made.frame.places)) →
    map (address_of w) made.env.ids ≡ ids_from files w.variable inside →
    map (bgp_of w) made.env.announced ≡ announced_from tracked files made.frame.lens.items w.variable inside →
    map (ospf_of w) made.net.igp
    ≡ rows_from files w.variable (inside + environment_width tracked files made.frame.lens.items) →
    ReadsAs files tracked question plan from w made
unfolding opens_from
routing_is w files tracked question plan from outside inside made frame destinations packet failures begin after parts
    routes ids announced rows = record {
      packet = packet;
      failures = failures;
      parts = parts
          ∙ ap (λ n. unknowns_from (rooms_at files made.frame.destinations made.frame.places) w.variable n) begin
          ∙ ap₂ (λ (d : Prefix) (ps : List Place). unknowns_from (rooms_at files d ps) w.variable
          (slots_start files question from)) destinations places;
      routes = routes
          ∙ ap (λ n. bgps_from (bgp_rooms tracked files made.frame.places) w.variable
          (n + unknowns_width (rooms_at files made.frame.destinations made.frame.places))) begin
          ∙ ap₂ (λ (d : Prefix) (ps : List Place). bgps_from (bgp_rooms tracked files ps) w.variable
          (slots_start files question from + unknowns_width (rooms_at files d ps))) destinations places;
      environment = ap₂ (environment_of files (lens_of plan))
          (ids ∙ ap (ids_from files w.variable) after)
          told;
      announced = told;
      distances = rows
          ∙ ap (λ ls. rows_from files w.variable (inside + environment_width tracked files ls)) frame.lens
          ∙ ap (λ n. rows_from files w.variable (n + environment_width tracked files (lens_of plan))) after;
    } where
      told : map (bgp_of w) made.env.announced ≡ announced_from tracked files (lens_of plan) w.variable
          (environment_start files tracked question plan from)
      told =
          announced ∙ ap (λ ls. announced_from tracked files ls w.variable inside) frame.lens
          ∙ ap (announced_from tracked files (lens_of plan) w.variable) after

      places : made.frame.places ≡ places_in files plan
      places = places_are files tracked plan made.frame frame
