use Rattle.std.proofs.Common.{Option, ◌∙◌, ap}
use Rattle.std.specs.Prelude.{option_and_then, slice_get}
use Rattle.ios_ast.specs.declared.file.File.{File}
use Rattle.route_record.specs.declared.RibEntry.{RibEntry}
use Rattle.net_parts.specs.Entries.{entry_with}
use Rattle.sym_policy.specs.Held.{failures_of, ospf_of}
use Rattle.sym_policy.specs.Records.{prefix_of}
use Rattle.term_store.specs.Terms.{at}
use Rattle.sym_rib.specs.Slots.{learnt_of}
use Rattle.sym_rib.specs.Sources.{entry_from}
use Rattle.sym_rib.proofs.TableEntries.{entry_made, entry_stands}
use Rattle.sym_rib.proofs.entry.sym_entry.Goals as goal

pub returns-in_ok-entry-in-Some-clause-value : goal.returns-in_ok-entry-in-Some-clause-value
returns-in_ok-entry-in-Some-clause-value c = λ w reads.
    let files = c.args.net.now.files in
    let failures = failures_of w c.args.sym.now in
    let p = prefix_of w c.args.dst.now c.args.len in
    let own = at w c.args.own_ospf in
    let slot = c.args.slot.now in
    let entry_of : Option File → Option RibEntry =
    option_and_then (λ file. entry_from files failures c.args.router file p (learnt_of w slot.bgp)
    (ospf_of w slot.ospf) own) in
    c.in_ok-entry-in-Some.ensures.value w reads
    ∙ entry_made w files failures c.args.router c.in-Some.file.now p slot own
    ∙ ap entry_of (c.in-Some.ensures ∙ ap (λ fs. slice_get fs c.args.router) c.routers.ensures.all)

pub returns-in_ok-entry-in-Some-clause-stands : goal.returns-in_ok-entry-in-Some-clause-stands
returns-in_ok-entry-in-Some-clause-stands c = λ w reads held stands.
    let files = c.args.net.now.files in
    let failures = failures_of w c.args.sym.now in
    let p = prefix_of w c.args.dst.now c.args.len in
    let own = at w c.args.own_ospf in
    let file = c.in-Some.file.now in
    let entry_of : Option File → Option RibEntry =
    option_and_then (λ file. entry_with files failures c.args.router file p held own) in
    c.in_ok-entry-in-Some.ensures.value w reads
    ∙ entry_made w files failures c.args.router file p c.args.slot.now own
    ∙ entry_stands w files failures c.args.router file p c.args.net.now.tracked c.args.slot.now held own stands
    ∙ ap entry_of (c.in-Some.ensures ∙ ap (λ fs. slice_get fs c.args.router) c.routers.ensures.all)
