-- What the variables stand for is a routing where the test says so.
use Rattle.std.proofs.Common.{◌≡◌, ℕ, Bool, true, List, length}
use Rattle.std.specs.Prelude.{nat_le}
use Rattle.std.proofs.lemmas.Bool.{and_parts, leb-true}
use Rattle.ios_ast.specs.declared.file.File.{File}
use Rattle.route_record.specs.declared.Plan.{Plan}
use Rattle.route_record.specs.declared.tracked.Tracked.{Tracked}
use Rattle.plan_places.specs.Plans.{lens_of}
use Rattle.question_lang.specs.declared.question.Question.{Question}
use Rattle.question_lang.specs.Packets.{IsInSet}
use Rattle.failed_links.proofs.FailureParts.{failures_sound}
use Rattle.world_variables.specs.Packets.{is_in_set, packet_from}
use Rattle.world_variables.specs.Worlds.{downs_start, opens_from as unknowns_read_from, places_in, slots_start}
use Rattle.world_variables.proofs.DecodingSteps.{places_short}
use Rattle.world_variables.proofs.PacketSound.{packet_sound}
use Rattle.world_variables.proofs.Worlds.{opens_fit}
use Rattle.shape_worlds.specs.Worlds.{IsRealWorld, shapes_of}
use Rattle.sliced_routings.specs.Plans.{IsFittingPlan}
use Rattle.sliced_routings.specs.Slicing.{IsSliced}
use Rattle.bgp_variables.specs.Environments.{announced_from, ids_from}
use Rattle.bgp_worlds.specs.Opens.{AnnounceAtSlices, FitOpens, opens_hold, shape_world_of}
use Rattle.bgp_worlds.proofs.OpenSound.{real, sliced, stable}
use Rattle.bgp_worlds.proofs.OpensFit.{slots_fit}
use Rattle.routing_worlds.specs.Worlds.{HasWordNetwork, IsRouting, announced_by, bgps_read_from, bgps_start, environment_from}
use Rattle.routing_worlds.specs.Worlds.{environment_start, failures_read_from, is_routing, opens_from, shape_world_from, world_from}
use Rattle.routing_worlds.proofs.EnvironmentRead.{announced_at_slices}
use Rattle.routing_worlds.proofs.OpensRead.{bgps_words, opens_bgp, opens_ospf, rooms_kept}

module _ (files : List File) (tracked : Tracked) (question : Question) (plan : Plan) (v : ℕ → Bool) (from : ℕ)
    (fits : HasWordNetwork files tracked question)
    (holds : is_routing files tracked question plan v from ≡ true) where
  parts : (is_in_set question.packets (packet_from question.packets v from) ≡ true)
      × (nat_le (length (failures_read_from files question v from).links) question.failures ≡ true)
      × (opens_hold tracked files question.packets.dst plan (shape_world_of files question.packets.dst plan
      (packet_from question.packets v from) (failures_read_from files question v from)
      (opens_from files tracked question plan v from) (announced_by files tracked question plan v from))
      (opens_from files tracked question plan v from) ≡ true)
  unfolding is_routing shape_world_from
  parts =
      let first = and_parts _ _ holds in
      let second = and_parts _ _ first.1 in
      (first.0, second.0, second.1)

  packet : IsInSet question.packets (packet_from question.packets v from)
  packet = packet_sound question.packets v from fits.packets parts.0

  fit : FitOpens tracked files (opens_from files tracked question plan v from)
  unfolding unknowns_read_from
  fit = record {
    ospf = opens_ospf files question (failures_read_from files question v from)
        (packet_from question.packets v from).dst (places_in files plan) (unknowns_read_from files question plan v from)
        (bgps_read_from files tracked question plan v from)
        (opens_fit files question.packets.dst (places_in files plan) v (slots_start files question from) fits.metrics
        (places_short plan (length files)));
    bgp = opens_bgp files question (failures_read_from files question v from)
        (packet_from question.packets v from).dst (places_in files plan) (unknowns_read_from files question plan v from)
        (bgps_read_from files tracked question plan v from)
        (bgps_words tracked files (places_in files plan) v (bgps_start files question plan from));
    distances = fits.distances;
    values = fits.values;
  }

  silent : AnnounceAtSlices plan (announced_by files tracked question plan v from)
  silent = announced_at_slices files plan (ids_from files v (environment_start files tracked question plan from))
      (announced_from tracked files (lens_of plan) v (environment_start files tracked question plan from))

  real_world : IsRealWorld tracked files (shape_world_from files tracked question plan v from)
      (world_from files tracked question plan v from) (environment_from files tracked question plan v from)
  unfolding shape_world_from
  real_world =
      real tracked files question.packets.dst plan (packet_from question.packets v from)
      (failures_read_from files question v from) (opens_from files tracked question plan v from)
      (announced_by files tracked question plan v from) fits.tracks fits.limits silent parts.2

  pub shapes_are : shapes_of tracked (world_from files tracked question plan v from)
      (environment_from files tracked question plan v from) ≡ shape_world_from files tracked question plan v from
  shapes_are = real_world.shapes

  -- it stands at the slices of the plan alone
  pub routing_sliced : IsSliced plan (world_from files tracked question plan v from)
      (environment_from files tracked question plan v from)
  unfolding shape_world_from
  routing_sliced =
      sliced tracked files question.packets.dst plan (packet_from question.packets v from)
      (failures_read_from files question v from) (opens_from files tracked question plan v from)
      (announced_by files tracked question plan v from) fits.tracks fits.limits silent parts.2

  pub routing_sound : IsFittingPlan files plan →
      IsRouting files question (world_from files tracked question plan v from)
      (environment_from files tracked question plan v from)
  unfolding shape_world_from
  routing_sound fitting = record {
    packet = packet;
    environment_fits = real_world.environment_may;
    failures = failures_sound files question.failures v (downs_start question from) (leb-true _ _ parts.1);
    stable = stable tracked files question.packets.dst plan (packet_from question.packets v from)
        (failures_read_from files question v from) (opens_from files tracked question plan v from)
        (announced_by files tracked question plan v from) fits.tracks fits.limits silent parts.2 fitting packet.dst
        (rooms_kept files question (failures_read_from files question v from)
        (packet_from question.packets v from).dst (places_in files plan) (unknowns_read_from files question plan v from)
        (bgps_read_from files tracked question plan v from))
        (slots_fit tracked files question.packets.dst plan (packet_from question.packets v from)
        (failures_read_from files question v from) (opens_from files tracked question plan v from)
        (announced_by files tracked question plan v from) fit fits.tracks fits.limits silent parts.2);
  }
