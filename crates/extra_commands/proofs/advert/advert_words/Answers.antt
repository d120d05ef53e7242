use Rattle.std.proofs.Common.{map}
use Rattle.std.specs.Prelude.{string_bytes}
use Rattle.asked_files.proofs.Running.{so_complete}
use Rattle.advert_ask.specs.Words.{asked_of}
use Rattle.advert_ask.specs.Running.{advertising}
use Rattle.extra_commands.proofs.advert.advert_words.Goals as goal

pub returns-clause-complete : goal.returns-clause-complete
returns-clause-complete g c =
    λ accepted quiet. so_complete advertising (g.F.Files.contents c.args.files.now)
    (asked_of (map string_bytes c.args.words.now)) _ _ _ c.do_advert.result (λ told asked unread. unread.0)
    c.do_advert.ensures.so accepted quiet
