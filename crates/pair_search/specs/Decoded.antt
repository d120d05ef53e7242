-- Two routings that values of all variables say.
use Rattle.std.specs.Prelude.{List, None}
use Rattle.ios_ast.specs.declared.file.File.{File}
use Rattle.bgp_decoding.specs.declared.decoding.Decoded.{Decoded}
use Rattle.cex_json.specs.declared.counterexample.Counterexample.{Counterexample}
use Rattle.compared_nets.specs.Compared.{AreBeside, FatesBeside, FatesIn}
use Rattle.packet_fates.specs.Sides.{AreSame}
use Rattle.same_asks.specs.declared.same.Same.{Same}

-- they stand side by side, and the fates of their packet are not the same
pub record DifferSo (left right : List File) (ask : Same) (one other : Decoded) : Type 0 where
  pub beside : AreBeside left right ask one.world other.world one.environment other.environment
  pub apart : AreSame (FatesIn left one.world ask) (FatesBeside right other.world ask) → ⊥

-- a routing as a counterexample to the only question, whether there is no stable routing at all
abbrev pub cex_of : Decoded → Counterexample
cex_of decoded = record {
  question = 0;
  packet = decoded.world.packet;
  failures = decoded.world.failures;
  env = decoded.environment;
  tables = decoded.world.tables;
  walk = None;
}
