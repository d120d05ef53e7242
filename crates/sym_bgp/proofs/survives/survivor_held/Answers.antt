use Rattle.std.proofs.Common.{◌∙◌, ap, map, refl}
use Rattle.std.proofs.lemmas.Result.{IfOk-weaker}
use Rattle.term_store.specs.Terms.{at}
use Rattle.term_arith.specs.Bits.{bits}
use Rattle.sym_policy.specs.Held.{bgp_at}
use Rattle.bgp_shapes.specs.Candidates.{ShapeCandidate}
use Rattle.bgp_shapes.specs.Flags.{any_flagged}
use Rattle.bgp_shapes.specs.Held.{same_shape}
use Rattle.sym_bgp.specs.Beside.{beside_at}
use Rattle.sym_bgp.specs.Candidates.{candidate_at}
use Rattle.sym_bgp.specs.Keys.{keys_at}
use Rattle.sym_bgp.proofs.BesideLaw.{survivor_read}
use Rattle.sym_bgp.proofs.survives.survivor_held.Goals as goal

pub returns-clause-value : goal.returns-clause-value
returns-clause-value c =
    IfOk-weaker c.both.result _ _ (λ r chosen w reads.
    let before_here = c.both.ensures.builds.reads w reads in
    let before_left = c.in_ok-here.ensures.builds.reads w before_here in
    let before_first = c.in_ok-left.ensures.builds.reads w before_left in
    let before_keys = c.in_ok-first.ensures.builds.reads w before_first in
    let route = bgp_at w c.args.held.now in
    let cands = map (candidate_at w) c.args.cands.now in
    let first = beside_at w c.in_ok-first.first in
    survivor_read c.args.always_compare c.args.compare_id route (bits w c.args.there.nodes.items)
    (bits w c.in_ok-left.left.nodes.items) cands (keys_at w c.as_slice-keys.result.now) first first.unbeaten
    (at w c.in_ok-here.here) (at w r)
    (ap (keys_at w) c.as_slice-keys.ensures ∙ c.in_ok-keys.ensures.value w before_keys)
    (c.in_ok-first.ensures.value w before_first) refl (c.in_ok-left.ensures.value w before_left)
    (c.in_ok-here.ensures.value w before_here
    ∙ ap (λ ids. any_flagged (λ (k : ShapeCandidate). same_shape k.rec route) (bits w ids) cands)
    c.as_slice.ensures.value)
    (chosen w reads)) c.both.ensures.value
