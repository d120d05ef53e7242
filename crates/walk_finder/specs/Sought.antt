-- Rows that have the ends that a question looks for.
use Rattle.std.specs.Prelude.{◌≡◌, ℕ, false, List, [], length, Contains, Option, Some, None, slice_get}
use Rattle.ios_ast.specs.declared.file.File.{File}
use Rattle.route_record.specs.declared.World.{World}
use Rattle.net_interfaces.specs.declared.interfaces.IfaceId.{IfaceId}
use Rattle.question_lang.specs.declared.question.Kind.{Kind}
use Rattle.question_lang.specs.declared.walk.End.{End}
use Rattle.question_lang.specs.declared.walk.End.TheVariants.{DeniedIn}
use Rattle.question_lang.specs.declared.walk.Hop.TheVariants.{Ends}
use Rattle.question_lang.specs.declared.walk.Walk.{Walk}
use Rattle.question_lang.specs.Breaking.{Breaks}
use Rattle.question_lang.specs.Hops.{next_hops}
use Rattle.question_lang.specs.Walks.{IsTestedIn}
use Rattle.sym_forwarding.specs.Forwardings.{IsSought}
use Rattle.walk_finder.specs.declared.rows.Row.{Row}

-- the row has the router's next hops, and one of its ends that the question looks for, where there is one
pub record IsRow (files : List File) (world : World) (kind : Kind) (router : ℕ) (row : Row) : Type 0 where
  pub sent : row.hops ≡ next_hops files world router
  pub ends : (end : End) → row.end ≡ Some end → Contains row.hops (Ends end) × IsSought files world kind router end
  pub none : row.end ≡ None → (end : End) → Contains row.hops (Ends end) → IsSought files world kind router end → ⊥

-- the rows of all routers of the network
pub record AreRows (files : List File) (world : World) (kind : Kind) (rows : List Row) : Type 0 where
  pub long : length rows ≡ length files
  pub each : (router : ℕ) (row : Row) → slice_get rows router ≡ Some row → IsRow files world kind router row

-- some walk breaks a question of that kind, or, where it asks for no stable routing, the routing itself
abbrev pub IsBroken : List File → World → Kind → Type 0
IsBroken files world kind = (walk : Option Walk) × Breaks files world kind walk

-- the walk that stands nowhere, since the in list of that interface denies the packet
abbrev pub IsDeniedWalk : List File → World → IfaceId → Walk → Type 0
IsDeniedWalk files world i walk =
    (walk ≡ record { hops = []; end = DeniedIn i }) × IsTestedIn files world i false
