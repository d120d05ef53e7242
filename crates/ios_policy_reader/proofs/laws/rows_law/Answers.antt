use Rattle.std.proofs.Common.{◌≡◌, true, refl, drop}
use Rattle.ios_policy_reader.specs.declared.heads.Row.{Row}
use Rattle.ios_policy_reader.specs.declared.heads.Row.TheVariants.{Hostname, InterfaceBlock, StaticRoute, OspfBlock}
use Rattle.ios_policy_reader.specs.declared.heads.Row.TheVariants.{BgpBlock, AccessList, StandardBlock, ExtendedBlock}
use Rattle.ios_policy_reader.specs.declared.heads.Row.TheVariants.{PrefixList, CommunityList, PathList, MapBlock}
use Rattle.ios_policy_reader.specs.declared.heads.Row.TheVariants.{Banner, IgnoredBlock, Ignored, Address, NoAddress}
use Rattle.ios_policy_reader.specs.declared.heads.Row.TheVariants.{Shutdown, NoShutdown, Bandwidth, OspfCost}
use Rattle.ios_policy_reader.specs.declared.heads.Row.TheVariants.{AccessGroup, RouterId, OspfNetwork, Passive}
use Rattle.ios_policy_reader.specs.declared.heads.Row.TheVariants.{NoPassive, ReferenceBandwidth, OspfRedistribute}
use Rattle.ios_policy_reader.specs.declared.heads.Row.TheVariants.{Originate, AlwaysCompareMed, CompareRouterId}
use Rattle.ios_policy_reader.specs.declared.heads.Row.TheVariants.{DeterministicMed, BgpNetwork, BgpRedistribute}
use Rattle.ios_policy_reader.specs.declared.heads.Row.TheVariants.{Neighbor, MatchAddress, MatchPrefixList}
use Rattle.ios_policy_reader.specs.declared.heads.Row.TheVariants.{MatchCommunity, MatchPath, SetPreference, SetMetric}
use Rattle.ios_policy_reader.specs.declared.heads.Row.TheVariants.{SetWeight, SetCommunity, SetOrigin, SetPrepend}
use Rattle.ios_policy_reader.specs.declared.heads.Row.TheVariants.{SetMetricType, StandardEntry, ExtendedEntry}
use Rattle.ios_policy_reader.specs.Masks.{length_below}
use Rattle.ios_policy_reader.specs.Words.{port_of}
use Rattle.ios_policy_reader.specs.Edges.{said_by, said_back}
use Rattle.ios_policy_reader.specs.Least.{closes, opens, no_dead_end}
use Rattle.ios_policy_reader.specs.Heads.{edges_of, state_of, tail_of}
use Rattle.ios_policy_reader.proofs.Leasts.{least}
use Rattle.ios_policy_reader.proofs.laws.rows_law.Goals as goal

each : (row : Row) → no_dead_end (edges_of row) (state_of row) ≡ true
unfolding edges_of closes opens said_by said_back length_below port_of
each Hostname = refl
each InterfaceBlock = refl
each StaticRoute = refl
each OspfBlock = refl
each BgpBlock = refl
each AccessList = refl
each StandardBlock = refl
each ExtendedBlock = refl
each PrefixList = refl
each CommunityList = refl
each PathList = refl
each MapBlock = refl
each Banner = refl
each IgnoredBlock = refl
each Ignored = refl
each Address = refl
each NoAddress = refl
each Shutdown = refl
each NoShutdown = refl
each Bandwidth = refl
each OspfCost = refl
each AccessGroup = refl
each RouterId = refl
each OspfNetwork = refl
each Passive = refl
each NoPassive = refl
each ReferenceBandwidth = refl
each OspfRedistribute = refl
each Originate = refl
each AlwaysCompareMed = refl
each CompareRouterId = refl
each DeterministicMed = refl
each BgpNetwork = refl
each BgpRedistribute = refl
each Neighbor = refl
each MatchAddress = refl
each MatchPrefixList = refl
each MatchCommunity = refl
each MatchPath = refl
each SetPreference = refl
each SetMetric = refl
each SetWeight = refl
each SetCommunity = refl
each SetOrigin = refl
each SetPrepend = refl
each SetMetricType = refl
each StandardEntry = refl
each ExtendedEntry = refl

pub returns-clause-no_dead_end : goal.returns-clause-no_dead_end
returns-clause-no_dead_end c = each

pub returns-clause-first : goal.returns-clause-first
returns-clause-first c found words n e =
    least (edges_of found.row) (state_of found.row) (each found.row) (tail_of found) (drop (tail_of found) words) n e
