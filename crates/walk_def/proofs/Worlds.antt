-- A walk from a router, in a world.
use Rattle.std.specs.Prelude.{option_and_then}
use Rattle.std.proofs.Common.{◌≡◌, ℕ, zero, suc, arith, List, [], ◌∷◌, Some, None, ap}
use Rattle.ios_ast.specs.declared.file.File.{File}
use Rattle.route_record.specs.declared.World.{World}
use Rattle.question_lang.specs.declared.question.Start.{Start}
use Rattle.question_lang.specs.declared.walk.End.{End}
use Rattle.question_lang.specs.declared.walk.End.TheVariants.{Delivered, Left, NoRoute, Discarded, DeniedIn, DeniedOut}
use Rattle.question_lang.specs.declared.walk.End.TheVariants.{Loop, Open}
use Rattle.question_lang.specs.Hops.{next_hops}
use Rattle.question_lang.specs.Walks.{GoesOn, IsWalkOver}
use Rattle.question_lang.specs.Breaking.{at_router, denied_start, start_of}

some_none : (n : ℕ) → Some n ≡ None → ⊥
some_none n h = absurd (let e : zero ≡ suc zero = cc in omega (arith, e))

-- a walk that stands nowhere does not begin at a router without an interface
no_start : (end : End) (start : ℕ) → denied_start end ≡ Some (at_router start) → ⊥
no_start Delivered start h = cc
no_start (Left a) start h = cc
no_start NoRoute start h = cc
no_start Discarded start h = cc
no_start (DeniedIn i) start h =
    let iface : Some i.at ≡ None = ap (option_and_then (λ s. s.iface)) h in some_none i.at iface
no_start DeniedOut start h = cc
no_start Loop start h = cc
no_start Open start h = cc

-- its standings begin there, and go on over the next hops
pub begun : (files : List File) (world : World) (hops : List Start) (end : End) (start : ℕ)
    → IsWalkOver files world hops end →
    start_of hops end ≡ Some (at_router start) →
    GoesOn (next_hops files world) [] hops end × ((rest : List Start) × (hops ≡ at_router start ∷ rest))
begun files world [] end start walk begins = absurd (no_start end start begins)
begun files world (first ∷ rest) end start walk begins =
    let same : first ≡ at_router start = cc in (walk.1, (rest, ap (λ s. s ∷ rest) same))
