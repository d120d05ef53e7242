use Rattle.machine_laws.proofs.AnnouncedLaws.{announcement_passes, may_announce}
use Rattle.machine_laws.proofs.laws.announcement_law.Goals as goal

pub returns : goal.returns
returns c files a = (λ is. may_announce files a is, λ may. announcement_passes files a may)
