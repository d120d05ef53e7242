use Rattle.std.proofs.Common.{sym, ◌∙◌}
use Rattle.std.proofs.lemmas.Bool.{not-false}
use Rattle.walk_def.proofs.Lasts.{not_avoiding}
use Rattle.walk_def.proofs.breaking.avoids.Goals as goal

pub returns-clause-no : goal.returns-clause-no
returns-clause-no c among all =
    not_avoiding c.args.via c.args.standings.now (sym c.is_among.ensures ∙ not-false c.is_among.result among) all
