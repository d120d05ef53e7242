use Rattle.std.proofs.Common.{sym}
use Rattle.std.proofs.lemmas.List.{drop_all, take_all}
use Rattle.route_record.specs.declared.TheConstants.{LENGTHS}
use Rattle.path_rebuild.proofs.environment.split.Goals as goal

pub returns-then-shapes-le-LENGTHS-clause-first : goal.returns-then-shapes-le-LENGTHS-clause-first
returns-then-shapes-le-LENGTHS-clause-first c =
    sym (take_all LENGTHS c.args.shapes.now c.if-shapes-le-LENGTHS.true)

pub returns-then-shapes-le-LENGTHS-clause-rest : goal.returns-then-shapes-le-LENGTHS-clause-rest
returns-then-shapes-le-LENGTHS-clause-rest c =
    sym (drop_all LENGTHS c.args.shapes.now c.if-shapes-le-LENGTHS.true)
