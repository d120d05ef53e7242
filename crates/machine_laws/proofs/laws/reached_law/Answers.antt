use Rattle.machine_laws.proofs.Reached.{reached_next, reached_sound, reached_start}
use Rattle.machine_laws.proofs.laws.reached_law.Goals as goal

pub returns-clause-start : goal.returns-clause-start
returns-clause-start c files d ids are = reached_start files d ids are

pub returns-clause-next : goal.returns-clause-next
returns-clause-next c files d s next event reached is = reached_next files d s next event reached is

pub returns-clause-sound : goal.returns-clause-sound
returns-clause-sound c files d s reached = reached_sound files d s reached
