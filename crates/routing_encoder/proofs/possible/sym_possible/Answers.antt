use Rattle.std.proofs.Common.{length, subst, sym}
use Rattle.sym_rib.specs.Worlds.{StandForTables}
use Rattle.routing_encoder.proofs.possible.sym_possible.Goals as goal

pub returns-then-is_never-clause-complete : goal.returns-then-is_never-clause-complete
returns-then-is_never-clause-complete c = λ w reads from read shapes word routing given tracked lens real environment walk
    stand stable breaks.
    c.in_ok-beyond.ensures.value w reads tracked lens real environment walk
    (subst (λ xs. StandForTables w tracked lens (length c.args.net.now.files) xs real.tables) (sym c.as_slice.ensures) stand)
    stable breaks

pub returns-clause-complete : goal.returns-clause-complete
returns-clause-complete c = λ w reads from read shapes word routing given tracked lens real environment walk stand stable
    breaks.
    c.in_ok-routing.ensures.complete w reads from read shapes word routing given
