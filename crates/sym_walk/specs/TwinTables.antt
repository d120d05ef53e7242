-- Tables of forwardings that stand for the next hops of the first routers of a network.
use Rattle.std.specs.Prelude.{◌≡◌, ℕ, Bool, List, length, Some, slice_get}
use Rattle.std.specs.List.{list_any}
use Rattle.ios_ast.specs.declared.file.File.{File}
use Rattle.route_record.specs.declared.World.{World}
use Rattle.question_lang.specs.declared.question.Kind.{Kind}
use Rattle.question_lang.specs.Hops.{next_hops}
use Rattle.sym_forwarding.specs.Here.{ends_here}
use Rattle.sym_forwarding.specs.Layers.{Forwarding}
use Rattle.sym_forwarding.specs.Twins.{IsTwin, ends_as, is_sought}

-- the forwarding sends and ends as the next hops of the router do, for a question of that kind
abbrev pub IsTwinOf : List File → World → Kind → ℕ → Forwarding → Type 0
IsTwinOf files world kind router f =
    IsTwin (is_sought kind (ends_here files world.failures world.packet router kind)) (next_hops files world router) f

-- a walk that comes to the router may end there as a question of that kind asks
abbrev pub may_end : List File → World → Kind → ℕ → Bool
may_end files world kind router =
    list_any (ends_as (is_sought kind (ends_here files world.failures world.packet router kind)))
    (next_hops files world router)

-- the table has one for each of so many routers
pub record AreTwins (files : List File) (world : World) (kind : Kind) (many : ℕ) (table : List Forwarding) : Type 0
  where
    pub long : length table ≡ many
    pub each : (router : ℕ) (f : Forwarding) → slice_get table router ≡ Some f → IsTwinOf files world kind router f
