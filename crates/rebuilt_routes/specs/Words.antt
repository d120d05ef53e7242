-- Routes whose lists have values that fit their fields (RFC 4271, section 5.1.2; RFC 6793; RFC 1997; RFC 4456).
use Rattle.std.specs.Prelude.{◌≡◌, ◌<◌, ◌^◌, ℕ, All, List, Some, slice_get}
use Rattle.ios_ast.specs.declared.file.File.{File}
use Rattle.ios_ast.specs.declared.policies.SetAct.{SetAct}
use Rattle.ios_ast.specs.declared.policies.SetAct.TheVariants.{LocalPref, Metric, Weight, NoCommunity, Community}
use Rattle.ios_ast.specs.declared.policies.SetAct.TheVariants.{Origin, Prepend, Type1}
use Rattle.route_record.specs.declared.BgpRec.{BgpRec}
use Rattle.route_record.specs.declared.tracked.Tracked.{Tracked}
use Rattle.route_record.specs.Fits.{IsAddress, IsWord}
use Rattle.route_shapes.specs.Bgp.{BgpShape}

-- the communities and AS numbers that a set line puts into a route have 32 bits
abbrev pub SetsWords : SetAct → Type 0
SetsWords (LocalPref n) = Unit {0}
SetsWords (Metric n) = Unit {0}
SetsWords (Weight n) = Unit {0}
SetsWords NoCommunity = Unit {0}
SetsWords (Community values additive) = All IsWord values
SetsWords (Origin igp) = Unit {0}
SetsWords (Prepend numbers) = All IsWord numbers
SetsWords (Type1 type1) = Unit {0}

-- so do all set lines of a file
abbrev pub HasWordSets : File → Type 0
HasWordSets file = All (λ map. All (λ e. All SetsWords e.sets) map.entries) file.policies.maps

-- and the tracked AS numbers and clusters, those of the routers among them
pub record HasWordValues (tracked : Tracked) (files : List File) : Type 0 where
  pub numbers : All IsWord tracked.numbers
  pub clusters : All IsAddress tracked.clusters
  pub sets : (router : ℕ) (file : File) → slice_get files router ≡ Some file → HasWordSets file

-- the values of a route's lists fit
pub record HasWordLists (rec : BgpRec) : Type 0 where
  pub path : All IsWord rec.path
  pub communities : All IsWord rec.communities
  pub clusters : All IsAddress rec.clusters

-- the numbers of a shape fit: an address that may be missing has one bit more
pub record HasWordNumbers (s : BgpShape) : Type 0 where
  pub from : s.from < 2 ^ 33
  pub weight : IsWord s.preferences.weight
  pub local_pref : IsWord s.preferences.local_pref
  pub med : IsWord s.preferences.med
  pub next_hop : IsWord s.next_hop
  pub originator : s.originator < 2 ^ 33
