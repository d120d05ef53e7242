use Rattle.std.proofs.Common.{◌≡◌, ◌<◌, ap, subst, sym, ◌∙◌}
use Rattle.failed_links.specs.Rows.{number_from}
use Rattle.slot_places.specs.Values.{read_as}
use Rattle.term_store.specs.Terms.{truth}
use Rattle.world_variables.proofs.Worlds.{told_small}
use Rattle.bgp_values.proofs.routes.long_told_at.Goals as goal

pub returns-clause-small : goal.returns-clause-small
returns-clause-small c =
    subst (λ n. n < 8589934592) (sym (c.read.ensures
    ∙ ap (read_as c.args.field.now) (c.long_number_at.ensures.value
    ∙ ap (number_from (truth c.args.values.now) c.args.from) c.width.ensures)))
    (told_small 33 c.args.field.now (truth c.args.values.now) c.args.from c.requires.narrow)
