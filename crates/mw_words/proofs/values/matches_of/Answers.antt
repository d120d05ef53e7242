use Rattle.std.proofs.Common.{Some, None, ap, sym, ◌∙◌, cond, length, map, ◌==◌}
use Rattle.std.specs.Prelude.{string_bytes}
use Rattle.std.proofs.lemmas.Bool.{and_parts}
use Rattle.clap.specs.Words.{app_of, matches_of}
use Rattle.mw_words.proofs.values.matches_of.Goals as goal

pub returns-in-Ok : goal.returns-in-Ok
returns-in-Ok c =
    let rows = c.in-Ok.ensures.matches (and_parts _ _ c.requires).0 in
    ap Some rows.0
    ∙ sym (ap (λ ks. cond (length ks == 0) (Some (matches_of (app_of c.args.form) (map string_bytes c.args.words.now)))
    None) (c.in-Ok.ensures.kinds c.requires))
