use Rattle.std.proofs.Common.{map}
use Rattle.std.specs.Prelude.{string_bytes}
use Rattle.asked_files.proofs.Running.{so_complete}
use Rattle.compare_words.specs.Words.{asked_of}
use Rattle.net_compare.specs.Running.{comparing}
use Rattle.extra_commands.proofs.compare.compare_pair.Goals as goal

pub returns-clause-complete : goal.returns-clause-complete
returns-clause-complete g c =
    λ accepted quiet. so_complete comparing (g.F.Files.contents c.args.files.now)
    (asked_of (map string_bytes c.args.words.now)) _ _ _ c.do_compare.result (λ told asked unread. unread.0)
    c.do_compare.ensures.so accepted quiet
