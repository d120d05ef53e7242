use Rattle.std.proofs.Common.{◌++◌, ap, ap₂, sym, ◌∙◌, Bool, List, ◌&&◌}
use Rattle.std.specs.Prelude.{option_and_then}
use Rattle.std.specs.Bool.{beq}
use Rattle.std.specs.List.{filter_map, list_any}
use Rattle.std.specs.Option.{option_map_or}
use Rattle.mw_text.specs.Address.{prefix_at}
use Rattle.route_record.specs.declared.OspfRec.{OspfRec}
use Rattle.net_parts.specs.Entries.{entry_with}
use Rattle.net_parts.specs.Ospf.{adjacencies}
use Rattle.net_parts.specs.OspfRoutes.{first_best, is_as_good}
use Rattle.term_store.specs.Terms.{at}
use Rattle.sym_policy.specs.Held.{failures_of, ospf_of}
use Rattle.sym_policy.specs.Records.{address_of}
use Rattle.ospf_equations.specs.Equations.{offers_by}
use Rattle.world_variables.specs.Slots.{has_dynamic, same_ospf}
use Rattle.world_variables.specs.Symbols.{open_of}
use Rattle.ospf_equations.proofs.Wanted.{agree_is, wanted_is}
use Rattle.ospf_equations.proofs.holding.sym_runs.Goals as goal

pub returns-clause-value : goal.returns-clause-value
returns-clause-value c = λ w reads real slot file process stand stands there same found runs.
    let place = c.args.place.now in
    let r5 = c.both.ensures.builds.reads w reads in
    let r4 = c.agree.ensures.builds.reads w r5 in
    let r3 = c.sym_dynamic.ensures.builds.reads w r4 in
    let r2 = c.sym_held.ensures.builds.reads w r3 in
    let r1 = c.sym_as_good.ensures.builds.reads w r2 in
    let files = place.net.now.files in
    let failures = failures_of w place.sym.now in
    let part = open_of w c.args.part.now in
    let p = prefix_at (address_of w place.dst.now) place.len in
    let offers = offers_by files failures real place.router p (adjacencies files) in
    let own = c.in_ok-own.ensures.value w r1 file process slot found runs stands in
    let good = c.in_ok-good.ensures.value w r2
    ∙ ap (λ (rs : List OspfRec). option_map_or (λ h. list_any (λ o. is_as_good o h) rs) part.ospf Bool.false)
    (ap (filter_map (ospf_of w)) c.as_slice.ensures ∙ own) in
    let best = c.in_ok-best.ensures.value w r3 real stand in
    let bit = c.in_ok-bit.ensures.value w r4 slot stands
    ∙ ap (λ o. has_dynamic (option_and_then (λ f. entry_with files failures place.router f p slot
    (at w c.in_ok-good.good)) o)) found
    ∙ ap (λ b. has_dynamic (entry_with files failures place.router file p slot b)) good in
    let agreed = c.in_ok-same.ensures.value w r5 in
    c.in_ok-wanted.ensures.value w reads
    ∙ ap₂ (λ a b. a && b)
    (best ∙ ap (λ (rs : List OspfRec). same_ospf part.ospf (first_best (rs ++ offers))) own)
    (agreed ∙ agree_is part.dynamic (at w c.in_ok-bit.bit) ∙ ap (beq part.dynamic) bit)
    ∙ sym (wanted_is files failures (address_of w place.dst.now) real place.router place.len part slot file process runs
    there same)
