use Rattle.announced_shapes.proofs.AnnouncementLaw.{announcement_again, rebuilt_is}
use Rattle.announced_shapes.proofs.laws.rebuilt_law.Goals as goal

pub returns-clause-shape : goal.returns-clause-shape
returns-clause-shape c files tracked s numbers communities is =
    announcement_again files tracked s numbers communities is

pub returns-clause-may : goal.returns-clause-may
returns-clause-may c files tracked s numbers communities is = rebuilt_is files tracked s numbers communities is
