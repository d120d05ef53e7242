-- What is said of a routing of new variables as terms.
use Rattle.std.specs.Prelude.{◌≡◌, ℕ, ◌+◌, ◌≤◌, All, List, length, map}
use Rattle.ios_ast.specs.declared.file.File.{File}
use Rattle.route_record.specs.declared.Plan.{Plan}
use Rattle.route_record.specs.declared.tracked.Tracked.{Tracked}
use Rattle.plan_places.specs.Plans.{lens_of}
use Rattle.question_lang.specs.declared.question.Question.{Question}
use Rattle.term_store.specs.Terms.{Reading, Store, size}
use Rattle.sym_ospf.specs.Rows.{net_end}
use Rattle.sym_policy.specs.Held.{bgp_end, bgp_of, failures_of, ospf_of}
use Rattle.sym_policy.specs.Packets.{packet_of}
use Rattle.sym_policy.specs.Records.{packet_end}
use Rattle.sym_policy.specs.MapRecs.{HasTracked}
use Rattle.sym_rib.specs.Into.{list_end}
use Rattle.bgp_equations.specs.Environments.{FitsNet, env_end, environment_read}
use Rattle.igp_variables.specs.Rows.{HasRows, rows_from, rows_width}
use Rattle.bgp_variables.specs.Environments.{announced_from}
use Rattle.world_variables.specs.Packets.{packet_from}
use Rattle.world_variables.specs.Symbols.{open_of, opens_end}
use Rattle.world_variables.specs.Worlds.{opens_from as unknowns_read_from}
use Rattle.routing_worlds.specs.Worlds.{announced_by, bgps_read_from, environment_start, failures_read_from, worlds_end}
use Rattle.routing_encoder.specs.Frames.{IsFrame}
use Rattle.routing_encoder.specs.declared.opening.OpenRouting.{OpenRouting}

-- how many variables a routing has: those of its packet, its failed links, what is open of its slots, its environment and
-- its interior distances
abbrev pub routing_width : List File → Tracked → Question → Plan → ℕ
routing_width files tracked question plan = worlds_end files tracked question plan 0 + rows_width files

-- its nodes stand in the store, and at each place of the plan something is open, with a node for all that is tracked
pub record StandsIn (files : List File) (tracked : Tracked) (question : Question) (plan : Plan) (t : Store)
    (made : OpenRouting) : Type 0 where
  pub frame : IsFrame files tracked plan made.frame
  pub destinations : made.frame.destinations ≡ question.packets.dst
  pub packet : packet_end made.packet ≤ size t
  pub net : net_end made.net ≤ size t
  pub distances : HasRows files made.net
  pub parts : opens_end made.parts ≤ size t
  pub parts_long : length made.parts ≡ length made.frame.places
  pub routes : list_end bgp_end made.routes ≤ size t
  pub routes_long : length made.routes ≡ length made.frame.places
  pub rows : All (HasTracked tracked) made.routes
  pub environment : env_end made.env ≤ size t
  pub fits : FitsNet files tracked made.frame.lens.items made.env

-- it reads as what the variables from one on stand for
pub record ReadsAs (files : List File) (tracked : Tracked) (question : Question) (plan : Plan) (from : ℕ) (w : Reading)
    (made : OpenRouting) : Type 0 where
  pub packet : packet_of w made.packet ≡ packet_from question.packets w.variable from
  pub failures : failures_of w made.net ≡ failures_read_from files question w.variable from
  pub parts : map (open_of w) made.parts ≡ unknowns_read_from files question plan w.variable from
  pub routes : map (bgp_of w) made.routes ≡ bgps_read_from files tracked question plan w.variable from
  pub environment : environment_read w files (lens_of plan) made.env
      ≡ announced_by files tracked question plan w.variable from
  pub announced : map (bgp_of w) made.env.announced ≡ announced_from tracked files (lens_of plan) w.variable
      (environment_start files tracked question plan from)
  pub distances : map (ospf_of w) made.net.igp ≡ rows_from files w.variable (worlds_end files tracked question plan from)
