use Rattle.std.proofs.Common.{◌≡◌, ◌≤◌, ◌++◌, ap, ap₂, subst, sym, ◌∙◌, true, List}
use Rattle.std.specs.List.{filter_map}
use Rattle.route_record.specs.declared.OspfRec.{OspfRec}
use Rattle.net_parts.specs.Ospf.{adjacencies}
use Rattle.net_parts.specs.OspfRoutes.{first_best}
use Rattle.term_store.specs.Terms.{at, size}
use Rattle.sym_policy.specs.declared.records.SymOspf.{SymOspf}
use Rattle.sym_policy.specs.Held.{failures_of, ospf_of}
use Rattle.sym_policy.specs.Records.{prefix_of}
use Rattle.sym_ospf.specs.Routes.{routes_end}
use Rattle.ospf_equations.specs.Adjacent.{offers_read}
use Rattle.ospf_equations.specs.Equations.{offers_by}
use Rattle.ospf_equations.specs.Levels.{of_length}
use Rattle.world_variables.specs.Slots.{same_ospf}
use Rattle.ospf_equations.proofs.HoldingSteps.{ends_same}
use Rattle.ospf_equations.proofs.LevelSteps.{implied, offers_of_length}
use Rattle.ospf_equations.proofs.levels.sym_held.Goals as goal

pub sym_best-requires : goal.sym_best-requires
sym_best-requires c =
    let P : List SymOspf → Type 0 = λ rs. routes_end rs ≤ size c.with_offers.new.terms in
    record {
      nodes = subst P (sym c.as_slice-4.ensures) (subst (λ n. n ≤ size c.with_offers.new.terms)
          (sym (ends_same c.in_ok-all.all)) c.in_ok-all.ensures.within);
    }

pub returns-clause-value : goal.returns-clause-value
returns-clause-value c = λ w reads real stand.
    let place = c.args.place.now in
    let r4 = c.both.ensures.builds.reads w reads in
    let r3 = c.sym_same.ensures.builds.reads w r4 in
    let r2 = c.sym_best.ensures.builds.reads w r3 in
    let r1 = c.with_offers.ensures.builds.reads w r2 in
    let r0 = c.sym_levels.ensures.builds.reads w r1 in
    let held = ospf_of w c.args.held.now in
    let files = place.net.now.files in
    let failures = failures_of w place.sym.now in
    let p = prefix_of w place.dst.now place.len in
    let own = filter_map (ospf_of w) c.args.own in
    let offers = offers_by files failures real place.router p (adjacencies files) in
    let read = c.in_ok-over.ensures.value w r0 real in
    let tracked = place.net.now.tracked in
    let all = c.in_ok-all.ensures.value w r2 tracked real stand
    ∙ ap (λ over. own ++ offers_read w real p over) c.as_slice-3.ensures ∙ ap (λ l. own ++ l) (read p) in
    let is = c.in_ok-same.ensures.value w r4 ∙ ap (same_ospf held) (c.in_ok-best.ensures.value w r3
    ∙ ap first_best (ap (filter_map (ospf_of w)) c.as_slice-4.ensures ∙ all)) in
    let shown = ap₂ (λ (xs ys : List OspfRec). same_ospf held (first_best (xs ++ ys)))
    (ap (filter_map (ospf_of w)) c.as_slice-2.ensures)
    (ap (offers_read w real (of_length place.len)) c.as_slice.ensures ∙ read (of_length place.len)
    ∙ offers_of_length files failures real place.router p (adjacencies files)) in
    let follows : at w c.in_ok-same.same ≡ true → at w c.in_ok-levels.levels ≡ true =
    λ same. c.in_ok-levels.ensures.value w r1 tracked real stand (shown ∙ sym is ∙ same) in
    c.in_ok-firm.ensures.value w reads ∙ implied (at w c.in_ok-same.same) (at w c.in_ok-levels.levels) follows ∙ is
