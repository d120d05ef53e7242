use Rattle.std.proofs.Common.{List, ℕ, ◌≤◌, length, rules, subst, sym}
use Rattle.mw_text.proofs.Results.{ok_then}
use Rattle.mw_gen.specs.declared.TheConstants.{MOST_BYTES}
use Rattle.mw_gen.proofs.Lengths.{router_short}
use Rattle.mw_gen.proofs.router_text.Goals as goal

pub returns-clause-text : goal.returns-clause-text
returns-clause-text c = search rules

pub returns-clause-short : goal.returns-clause-short
returns-clause-short c =
    let S : List ℕ → Type 0 = λ text. length text ≤ MOST_BYTES in
    ok_then c.joined.result (returns-clause-text c)
    (λ text is. subst S (sym is)
    (router_short c.args.routers c.args.router c.ranges.routers.fits c.ranges.router.fits))
