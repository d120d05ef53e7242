use Rattle.std.proofs.Common.{ap, ap₂, ◌∙◌, ◌&&◌}
use Rattle.std.specs.Prelude.{option_and_then}
use Rattle.std.specs.Bool.{beq}
use Rattle.mw_text.specs.Address.{prefix_at}
use Rattle.net_parts.specs.Entries.{entry_with}
use Rattle.term_store.specs.Terms.{at}
use Rattle.sym_policy.specs.Held.{failures_of, ospf_at}
use Rattle.sym_policy.specs.Records.{address_of}
use Rattle.world_variables.specs.Slots.{has_dynamic}
use Rattle.ospf_equations.proofs.HoldingSteps.{none_is}
use Rattle.ospf_equations.proofs.Wanted.{agree_is}
use Rattle.ospf_equations.proofs.holding.sym_closed.Goals as goal

pub returns-clause-value : goal.returns-clause-value
returns-clause-value c = λ w reads slot file stands found.
    let place = c.args.place.now in
    let r4 = c.both.ensures.builds.reads w reads in
    let r3 = c.negate.ensures.builds.reads w r4 in
    let r2 = c.agree.ensures.builds.reads w r3 in
    let r1 = c.sym_dynamic.ensures.builds.reads w r2 in
    let files = place.net.now.files in
    let failures = failures_of w place.sym.now in
    let p = prefix_at (address_of w place.dst.now) place.len in
    let part = c.args.part.now in
    let bit = c.in_ok-bit.ensures.value w r2 slot stands
    ∙ ap (λ o. has_dynamic (option_and_then (λ f. entry_with files failures place.router f p slot
    (at w c.in_ok-never.never)) o)) found
    ∙ ap (λ b. has_dynamic (entry_with files failures place.router file p slot b)) (c.in_ok-never.ensures.value w r1) in
    c.in_ok-closed.ensures.value w reads
    ∙ ap₂ (λ a b. a && b)
    (c.in_ok-none.ensures.value w r4 ∙ none_is (at w part.ospf.valid) (ospf_at w part.ospf))
    (c.in_ok-same.ensures.value w r3 ∙ agree_is (at w part.dynamic) (at w c.in_ok-bit.bit)
    ∙ ap (beq (at w part.dynamic)) bit)
