-- The lists of a network's files are enough for it, also when more is put to them.
use Rattle.std.proofs.Common.{◌≡◌, ◌≤◌, List, ap, ◌∙◌, arith, length, None}
use Rattle.ios_ast.specs.declared.file.File.{File}
use Rattle.route_record.specs.declared.tracked.Tracked.{Tracked}
use Rattle.net_interfaces.specs.declared.interfaces.TheConstants.{MOST_FILES}
use Rattle.net_interfaces.specs.Values.{has_all, tracked_communities, tracked_numbers, united}
use Rattle.net_refusals.specs.Refusals.{first_refusal}
use Rattle.net_refusals.proofs.TrackedFew.{few_communities, few_numbers}
use Rattle.net_parts.specs.Tracked.{IsRoomFor, TracksNet, numbers_of, tracked_clusters, tracked_of, united_addresses}
use Rattle.net_parts.specs.Tracked.{united_tracked}
use Rattle.net_parts.specs.World.{ascends}
use Rattle.net_parts.proofs.TrackedUp.{all_put, clusters_ascend, communities_ascend, few_clusters, numbers_ascend}
use Rattle.net_parts.proofs.TrackedUp.{same_numbers}
use Rattle.net_parts.proofs.Tracks.{has_itself, has_more}

pub tracks_files : (files : List File) → first_refusal files ≡ None → length files ≤ MOST_FILES →
    TracksNet files (tracked_of files)
tracks_files files unrefused few = record {
  communities = has_itself (tracked_communities files);
  numbers = has_itself (tracked_numbers files);
  clusters = has_itself (numbers_of (tracked_clusters files));
  communities_ascend = communities_ascend files;
  numbers_ascend = numbers_ascend files;
  clusters_ascend = clusters_ascend files;
  few_communities = omega (arith, few_communities files unrefused);
  few_numbers = few_numbers files unrefused;
  few_clusters = omega (arith, few_clusters files, few);
}

pub tracks_more : (files : List File) (known more : Tracked) → TracksNet files known → IsRoomFor known more →
    TracksNet files (united_tracked known more)
tracks_more files known more tracks room =
    let own = numbers_of known.clusters in
    let others = numbers_of more.clusters in
    let same : numbers_of (united_addresses known.clusters more.clusters) ≡ united own others =
    same_numbers (united own others) in
    record {
      communities = has_more known.communities more.communities (tracked_communities files) tracks.communities;
      numbers = has_more known.numbers more.numbers (tracked_numbers files) tracks.numbers;
      clusters = ap (λ xs. has_all xs (numbers_of (tracked_clusters files))) same
          ∙ has_more own others (numbers_of (tracked_clusters files)) tracks.clusters;
      communities_ascend = all_put more.communities known.communities tracks.communities_ascend;
      numbers_ascend = all_put more.numbers known.numbers tracks.numbers_ascend;
      clusters_ascend = ap ascends same ∙ all_put others own tracks.clusters_ascend;
      few_communities = room.communities;
      few_numbers = room.numbers;
      few_clusters = room.clusters;
    }
