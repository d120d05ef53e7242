use Rattle.std.proofs.Common.{ℕ, All, List, Option, IfSome, subst}
use Rattle.ios_ast.specs.declared.file.File.{File}
use Rattle.mw_text.proofs.Lists.{all_found}
use Rattle.mw_text.specs.declared.address.Addr.{Addr}
use Rattle.route_record.specs.declared.tracked.Tracked.{Tracked}
use Rattle.route_record.specs.Fits.{IsAddress, IsWord}
use Rattle.slot_places.specs.declared.rooms.Room.{Room}
use Rattle.rebuilt_routes.specs.Words.{HasWordSets}
use Rattle.world_variables.specs.Unknowns.{HasWords}
use Rattle.world_variables.specs.Worlds.{FitsDistance}
use Rattle.routing_worlds.proofs.words.read_network.Goals as goal

pub returns : goal.returns
returns c =
    let files = c.args.net.now.files in
    let value = c.tracked-tracked.ensures.value in
    let sets = subst (λ (fs : List File). All HasWordSets fs) c.routers-files.ensures.all c.read_policies.ensures in
    let P : File → Type 0 = λ file. All FitsDistance file.statics in
    let distances = subst (λ (fs : List File). All P fs) c.routers-files.ensures.all c.read_distances.ensures in
    record {
      limits = c.routers-files.ensures.limits;
      tracks = c.tracked-tracked.ensures.tracks;
      values = record {
        numbers = subst (λ (t : Tracked). All IsWord t.numbers) value
            (subst (λ (ns : List ℕ). All IsWord ns) c.as_slice.ensures c.read_words.ensures.all);
        clusters = subst (λ (t : Tracked). All IsAddress t.clusters) value
            (subst (λ (cs : List Addr). All IsAddress cs) c.as_slice-2.ensures c.read_clusters.ensures);
        sets = λ router file found. all_found HasWordSets files router file sets found;
      };
      distances = λ router file found. all_found P files router file distances found;
      metrics = subst (λ (rs : List (Option Room)). All (λ o. IfSome o (λ room. HasWords room.metric)) rs)
          c.requires.rooms c.read_rooms.ensures;
      packets = c.read_packets.ensures;
    }
