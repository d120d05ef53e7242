-- What the tests of a network ask for is tracked.
use Rattle.std.specs.Prelude.{◌≡◌, ℕ, true, List, Some, slice_get}
use Rattle.ios_ast.specs.declared.bgp.Bgp.{Bgp}
use Rattle.ios_ast.specs.declared.file.File.{File}
use Rattle.ios_ast.specs.Deciding.{carries}
use Rattle.route_record.specs.declared.tracked.Tracked.{Tracked}
use Rattle.net_parts.specs.Exports.{is_reflector, no_advertise, no_export, router_id}
use Rattle.route_shapes.specs.Shapes.{all_tracked}
use Rattle.net_parts.specs.Tracked.{numbers_of}

-- the tests of one router ask for tracked values alone: its AS number, its cluster where it reflects, and what its
-- lists name
pub record TracksRouter (files : List File) (router : ℕ) (file : File) (process : Bgp) (tracked : Tracked) : Type 0
  where
    pub number : carries tracked.numbers process.asn ≡ true
    pub cluster : is_reflector process ≡ true → carries (numbers_of tracked.clusters) (router_id files router).0 ≡ true
    pub policies : all_tracked tracked file.policies ≡ true

-- so do those of all routers, and the well-known communities are tracked
pub record TracksTests (files : List File) (tracked : Tracked) : Type 0 where
  pub advertised : carries tracked.communities no_advertise ≡ true
  pub exported : carries tracked.communities no_export ≡ true
  pub routers : (router : ℕ) (file : File) (process : Bgp) → slice_get files router ≡ Some file →
      file.bgp ≡ Some process → TracksRouter files router file process tracked
