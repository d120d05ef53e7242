use Rattle.resolution_check.proofs.Goods.{each_last}
use Rattle.resolution_check.proofs.Accepted.{stepped, refused, only_memory}
use Rattle.resolution_check.specs.Entries.{KeepsGood}
use Rattle.resolution_check.proofs.checking.Checker.step.Goals as goal

pub returns-clause-ok : goal.returns-clause-ok
returns-clause-ok c =
    stepped c.args.self.now c.accept.new.self c.args.entry c.accept.result c.accept.ensures.judged c.accept.ensures.ok

pub returns-clause-refused : goal.returns-clause-refused
returns-clause-refused c = refused c.args.self.now c.args.entry c.accept.result c.accept.ensures.judged

pub returns-clause-exact : goal.returns-clause-exact
returns-clause-exact c =
    λ es h good. only_memory c.args.self.now es c.args.entry c.accept.result h
    (each_last KeepsGood es c.args.entry good) c.accept.ensures.judged
