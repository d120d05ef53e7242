use Rattle.stable_replay.proofs.AllPlaces.{first_refutes}
use Rattle.stable_replay.proofs.checking.check.Goals as goal

-- the first difference refutes
pub returns-in-Ok-Some-clause-unstable : goal.returns-in-Ok-Some-clause-unstable
returns-in-Ok-Some-clause-unstable c told stable =
    first_refutes c.args.net.now.files c.args.d c.args.failures.now c.args.env.now c.args.tables.now c.in-Ok-Some.differs
    (rw c.in-Ok-Some.field-0-is at c.in-Ok-Some.ensures) stable
