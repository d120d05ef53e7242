use Rattle.std.proofs.Common.{◌∙◌, ap, map, reverse}
use Rattle.std.proofs.lemmas.List.{reverse-reverse}
use Rattle.trimmed_logs.proofs.Keeping.{map-reverse}
use Rattle.trimmed_logs.proofs.marking.kept_entries.Goals as goal

pub returns : goal.returns
returns c =
    ap (map (λ e. e.now)) c.reverse.ensures.items ∙ map-reverse (λ e. e.now) c.in_ok-found.found.items
    ∙ ap reverse c.in_ok-found.ensures ∙ reverse-reverse _
