use Rattle.std.proofs.Common.{ap, map, ◌∙◌}
use Rattle.mw_text.proofs.Results.{ok_then}
use Rattle.clap.specs.Words.{found_of}
use Rattle.clap.proofs.WalkLemmas.{raw_values-rows}
use Rattle.mw_words.proofs.Found.{no_value, some_value}
use Rattle.mw_words.proofs.values.all_values.Goals as goal

pub returns-in-Some : goal.returns-in-Some
returns-in-Some c =
    let told = some_value (λ s. map (λ v. v.now) s.now) c.get_strs.result c.in-Some.values _ c.in-Some.is
    (c.get_strs.ensures ∙ raw_values-rows (found_of c.args.matches.now) c.args.id.now) in
    ok_then c.from_slice.result c.from_slice.ensures.items (λ v is. ap (map (λ s. s.now)) is ∙ told)

pub returns-in-None : goal.returns-in-None
returns-in-None c =
    ap (map (λ s. s.now)) c.new.ensures.items
    ∙ no_value (λ s. map (λ v. v.now) s.now) c.get_strs.result _ c.in-None.is
    (c.get_strs.ensures ∙ raw_values-rows (found_of c.args.matches.now) c.args.id.now)
