use Rattle.announced_shapes.proofs.AnnouncementLaw.{shape_passes, shape_tested}
use Rattle.announced_shapes.proofs.laws.test_law.Goals as goal

pub returns-clause-tested : goal.returns-clause-tested
returns-clause-tested c files tracked s is = shape_tested files tracked s is

pub returns-clause-passes : goal.returns-clause-passes
returns-clause-passes c files tracked s is = shape_passes files tracked s is
