use Rattle.std.proofs.Common.{◌≡◌, ◌-◌, ◌∙◌, min, length, inl, inr, arith}
use Rattle.std.proofs.lemmas.Bool.{cases_lt}
use Rattle.watched_search.proofs.Places.{take-same}
use Rattle.watched_search.proofs.assigned.Assigned.cut.Goals as goal

pub returns-clause-lits : goal.returns-clause-lits
returns-clause-lits c =
    let long = length c.args.self.now.lits in
    let same : min (c.len-end.result - (c.loop.counter - c.args.len)) long ≡ min c.args.len long =
    elim (cases_lt c.len-end.result c.args.len) [
      | inl idle ↦ let still = c.loop.invariant.idle idle in omega arith
      | inr through ↦ let last = c.loop.auto.counter-end through in omega arith
    ] in
    c.loop.invariant.kept ∙ take-same _ c.args.len c.args.self.now.lits same

pub returns-clause-levels : goal.returns-clause-levels
returns-clause-levels c =
    let long = length c.args.self.now.levels in
    let same : min (c.len-end.result - (c.loop.counter - c.args.len)) long ≡ min c.args.len long =
    elim (cases_lt c.len-end.result c.args.len) [
      | inl idle ↦ let still = c.loop.invariant.idle idle in omega arith
      | inr through ↦ let last = c.loop.auto.counter-end through in omega arith
    ] in
    c.loop.invariant.levels ∙ take-same _ c.args.len c.args.self.now.levels same

pub returns-clause-reasons : goal.returns-clause-reasons
returns-clause-reasons c =
    let long = length c.args.self.now.reasons in
    let same : min (c.len-end.result - (c.loop.counter - c.args.len)) long ≡ min c.args.len long =
    elim (cases_lt c.len-end.result c.args.len) [
      | inl idle ↦ let still = c.loop.invariant.idle idle in omega arith
      | inr through ↦ let last = c.loop.auto.counter-end through in omega arith
    ] in
    c.loop.invariant.reasons ∙ take-same _ c.args.len c.args.self.now.reasons same
