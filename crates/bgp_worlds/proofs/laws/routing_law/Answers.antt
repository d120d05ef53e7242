use Rattle.std.proofs.Common.{◌≡◌, sym, subst, true}
use Rattle.net_parts.specs.Stable.{Stable}
use Rattle.sliced_routings.specs.Slicing.{IsSliced}
use Rattle.shape_worlds.specs.Worlds.{IsRealWorld, ShapeWorld, environment_of, rebuilt_tables, rebuilt_world}
use Rattle.bgp_worlds.specs.Opens.{opens_hold}
use Rattle.bgp_worlds.proofs.OpenSound.{real, sliced, stable}
use Rattle.bgp_worlds.proofs.OpensFit.{slots_fit}
use Rattle.bgp_worlds.proofs.laws.routing_law.Goals as goal

pub returns-clause-real : goal.returns-clause-real
returns-clause-real c tracked files destinations plan packet failures opens announced s is net limits silent =
    subst (λ (w : ShapeWorld). opens_hold tracked files destinations plan w opens ≡ true →
    IsRealWorld tracked files w (rebuilt_world tracked files w) (environment_of tracked w)) (sym is)
    (λ holds. real tracked files destinations plan packet failures opens announced net limits silent holds)

pub returns-clause-sliced : goal.returns-clause-sliced
returns-clause-sliced c tracked files destinations plan packet failures opens announced s is net limits silent =
    subst (λ (w : ShapeWorld). opens_hold tracked files destinations plan w opens ≡ true →
    IsSliced plan (rebuilt_world tracked files w) (environment_of tracked w)) (sym is)
    (λ holds. sliced tracked files destinations plan packet failures opens announced net limits silent holds)

pub returns-clause-stable : goal.returns-clause-stable
returns-clause-stable c tracked files destinations plan packet failures opens announced s is net limits silent fitting covered rooms fit =
    subst (λ (w : ShapeWorld). opens_hold tracked files destinations plan w opens ≡ true →
    Stable files packet.dst failures (environment_of tracked w) (rebuilt_tables tracked files w)) (sym is)
    (λ holds.
    stable tracked files destinations plan packet failures opens announced net limits silent holds fitting covered rooms
    (slots_fit tracked files destinations plan packet failures opens announced fit net limits silent holds))
