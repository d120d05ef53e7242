-- What a reading makes of what external peers are and announce.
use Rattle.std.specs.Prelude.{◌≡◌, ◌*◌, ℕ, All, List, length, map, max}
use Rattle.mw_text.specs.declared.address.Addr.{Addr}
use Rattle.ios_ast.specs.declared.file.File.{File}
use Rattle.route_record.specs.declared.tracked.Tracked.{Tracked}
use Rattle.net_parts.specs.Sessions.{external_ends}
use Rattle.route_shapes.specs.Bgp.{BgpShape}
use Rattle.bgp_shapes.specs.Candidates.{ShapeEnvironment, shape_announced}
use Rattle.announced_places.specs.Environments.{announcement_of, environment_of}
use Rattle.term_store.specs.Terms.{Reading}
use Rattle.term_arith.specs.Bits.{ids_end}
use Rattle.sym_policy.specs.declared.records.SymBgp.{SymBgp}
use Rattle.sym_policy.specs.Held.{bgp_end, bgp_of}
use Rattle.sym_policy.specs.Records.{address_of}
use Rattle.sym_rib.specs.Into.{list_end}
use Rattle.bgp_equations.specs.declared.environment.SymEnv.{SymEnv}

-- the environment, where there is an announcement of each external end at each of these lengths
abbrev pub environment_read : Reading → List File → List ℕ → SymEnv → ShapeEnvironment
environment_read w files lens env =
    environment_of files lens (map (address_of w) env.ids) (map (bgp_of w) env.announced)

-- the message of an external peer at that address of which such a route is announced, wherever it stands
abbrev pub message_of : Tracked → Addr → BgpShape → BgpShape
message_of tracked peer s = shape_announced tracked peer (announcement_of 0 0 s)

-- there is one node for each tracked number and community
pub record HasLists (tracked : Tracked) (s : SymBgp) : Type 0 where
  pub numbers : length s.numbers.nodes.items ≡ length tracked.numbers
  pub communities : length s.communities.nodes.items ≡ length tracked.communities

-- identifiers have 32 bits, and there is an announcement of each external end at each of these lengths, with a node for
-- each tracked number and community
pub record FitsNet (files : List File) (tracked : Tracked) (lens : List ℕ) (env : SymEnv) : Type 0 where
  pub wide : All (λ id. length id.nodes.items ≡ 32) env.ids
  pub long : length env.announced ≡ length (external_ends files) * length lens
  pub lists : All (HasLists tracked) env.announced

-- the least size of a store that has all of its nodes
abbrev pub env_end : SymEnv → ℕ
env_end env = max (list_end (λ id. ids_end id.nodes.items) env.ids) (list_end bgp_end env.announced)
