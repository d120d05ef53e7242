-- Which pairs of networks are refused.
use Rattle.std.specs.Prelude.{ℕ, ◌==◌, ◌&&◌, ◌||◌, Bool, not, nat_lt, List, length, Option, Some, None, option_and_then}
use Rattle.std.specs.Prelude.{option_map, slice_get, if◌then◌else◌}
use Rattle.std.specs.List.{find, list_any}
use Rattle.std.specs.Option.{option_map_or}
use Rattle.ios_ast.specs.declared.file.File.{File}
use Rattle.route_record.specs.declared.tracked.TheConstants.{MOST_TRACKED}
use Rattle.route_record.specs.declared.tracked.Tracked.{Tracked}
use Rattle.net_interfaces.specs.Interfaces.{addressed}
use Rattle.net_model.specs.Kept.{Network}
use Rattle.net_parts.specs.declared.sessions.Peering.{Peering}
use Rattle.net_parts.specs.Sessions.{is_external_peer, peerings}
use Rattle.net_parts.specs.Tracked.{united_tracked}
use Rattle.paired_nets.specs.declared.refused.PairCause.TheVariants.{PeerDiffers, PairLimit}
use Rattle.paired_nets.specs.declared.refused.PairRefused.{PairRefused}
use Rattle.paired_nets.specs.Peers.{is_one_peer}

-- ---- AS numbers of external peers

-- the second line, of the left files, is of the peer of the first one, an external one there, with another AS number
abbrev pub differs_from : List File → List File → Peering → Peering → Bool
differs_from left right other one =
    is_external_peer (addressed left) one && (is_one_peer left right one other && not (one.remote == other.remote))

-- the line of the right files is of an external peer that the left network has too, with another AS number
abbrev pub differs : List File → List File → Peering → Bool
differs left right other =
    is_external_peer (addressed right) other && list_any (differs_from left right other) (peerings left)

-- the line at which the neighbour is named
abbrev pub line_of : List File → Peering → ℕ
line_of files line =
    option_map_or (λ neighbour. neighbour.line)
    (option_and_then (λ bgp. slice_get bgp.neighbours line.at)
    (option_and_then (λ file. file.bgp) (slice_get files line.router))) 0

abbrev pub refused_at : List File → Peering → PairRefused
refused_at files line = record { file = line.router; line = line_of files line; cause = PeerDiffers }

-- at the first such line, by files and then by neighbour lines
abbrev pub peer_refusal : List File → List File → Option PairRefused
peer_refusal left right = option_map (refused_at right) (find (differs left right) (peerings right))

-- ---- what both track

-- the communities or the AS numbers are too many
abbrev pub is_over : Tracked → Bool
is_over all = nat_lt MOST_TRACKED (length all.communities) || nat_lt MOST_TRACKED (length all.numbers)

abbrev pub passes_limit : Tracked → Tracked → Bool
passes_limit left right = is_over (united_tracked left right)

-- ---- both, in this order

abbrev pub pair_refusal : Network → Network → Option PairRefused
pair_refusal left right =
    option_map_or (λ why. Some why) (peer_refusal left.files right.files)
    (if passes_limit left.tracked right.tracked
    then Some (record { file = 0; line = 0; cause = PairLimit })
    else None)
