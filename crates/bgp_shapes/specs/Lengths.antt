-- Candidates whose lists 32 bits can count.
use Rattle.std.specs.Prelude.{◌<◌, ◌^◌, length}
use Rattle.net_parts.specs.Decisions.{Candidate}

pub record IsShort (c : Candidate) : Type 0 where
  pub path : length c.rec.path < 2 ^ 32
  pub clusters : length c.rec.clusters < 2 ^ 32
