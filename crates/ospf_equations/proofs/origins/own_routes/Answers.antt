use Rattle.std.proofs.Common.{◌≤◌, ◌++◌, [], List, arith, subst, sym, ap, ◌∙◌}
use Rattle.std.specs.List.{filter_map}
use Rattle.std.specs.Option.{option_map_or}
use Rattle.std.proofs.lemmas.List.Elements.{filter_map-append}
use Rattle.ios_ast.specs.declared.file.File.{File}
use Rattle.ios_ast.specs.declared.ospf.Ospf.{Ospf}
use Rattle.route_record.specs.declared.OspfRec.{OspfRec}
use Rattle.net_parts.specs.Origins.{redistributed}
use Rattle.term_store.specs.Terms.{size}
use Rattle.sym_policy.specs.declared.records.SymOspf.{SymOspf}
use Rattle.sym_policy.specs.Held.{failures_of, ospf_end, ospf_of}
use Rattle.sym_policy.specs.Records.{prefix_of}
use Rattle.sym_rib.specs.Into.{list_end}
use Rattle.ospf_equations.proofs.EquationSteps.{routes_end_joined}
use Rattle.ospf_equations.proofs.Wanted.{own_is}
use Rattle.ospf_equations.proofs.origins.own_routes.Goals as goal

pub returns-clause-within : goal.returns-clause-within
returns-clause-within c =
    let P : List SymOspf → Type 0 = λ rs. list_end ospf_end rs ≤ size c.sym_redistribute.new.terms in
    subst P (sym c.in_ok-all.ensures) (omega (
      arith,
      routes_end_joined c.in_ok-own.own c.in_ok-taken.taken,
      c.in_ok-own.ensures.within,
      c.sym_redistribute.ensures.builds.larger,
      c.in_ok-taken.ensures.within,
    ))

pub returns-clause-value : goal.returns-clause-value
returns-clause-value c = λ w reads file process held found runs stands.
    let place = c.args.place.now in
    let p = prefix_of w place.dst.now place.len in
    let failures = failures_of w place.sym.now in
    let by_process : File → List OspfRec =
    λ f. option_map_or (λ (q : Ospf). redistributed f q p held) f.ospf [] in
    let taken = c.in_ok-taken.ensures.stands w reads held stands
    ∙ ap (λ o. option_map_or by_process o []) found
    ∙ ap (λ o. option_map_or (λ (q : Ospf). redistributed file q p held) o []) runs in
    ap (filter_map (ospf_of w)) c.in_ok-all.ensures
    ∙ filter_map-append (ospf_of w) c.in_ok-own.own c.in_ok-taken.taken
    ∙ ap (λ rs. rs ++ filter_map (ospf_of w) c.in_ok-taken.taken)
    (c.in_ok-own.ensures.value w (c.sym_redistribute.ensures.builds.reads w reads))
    ∙ own_is place.net.now.files failures place.router file process p held
    (filter_map (ospf_of w) c.in_ok-taken.taken) taken
