use Rattle.std.proofs.Common.{sym, subst}
use Rattle.std.specs.Option.{option_copied}
use Rattle.sym_policy.specs.Held.{failures_of}
use Rattle.sym_policy.specs.Records.{address_of}
use Rattle.world_variables.specs.Symbols.{open_of}
use Rattle.routing_worlds.specs.Worlds.{open_with}
use Rattle.routing_encoder.specs.Wanted.{TellsWanted}
use Rattle.routing_encoder.proofs.wanted.wanted_with.Goals as goal

pub returns-in_ok-closed-in-None-clause-value : goal.returns-in_ok-closed-in-None-clause-value
returns-in_ok-closed-in-None-clause-value c = λ w reads bgp.
    let towards = c.args.towards.now in
    let files = towards.net.now.files in
    let failures = failures_of w towards.sym.now in
    let d = address_of w towards.dst.now in
    let p = c.args.p in
    let u = open_of w c.args.part.now in
    subst (λ room. TellsWanted w towards.net.now.tracked files failures d c.args.tables.now p
    (open_with files failures d (option_copied room) p u bgp) c.in_ok-closed-in-None.closed) (sym c.in-None.is)
    (c.in_ok-closed-in-None.ensures.value w reads u bgp)

pub returns-in_ok-holds-in-Some-clause-value : goal.returns-in_ok-holds-in-Some-clause-value
returns-in_ok-holds-in-Some-clause-value c = λ w reads bgp.
    let towards = c.args.towards.now in
    let files = towards.net.now.files in
    let failures = failures_of w towards.sym.now in
    let d = address_of w towards.dst.now in
    let p = c.args.p in
    let u = open_of w c.args.part.now in
    subst (λ room. TellsWanted w towards.net.now.tracked files failures d c.args.tables.now p
    (open_with files failures d (option_copied room) p u bgp) c.in_ok-holds-in-Some.holds) (sym c.in-Some.is)
    (λ real slot stand open_there. c.in_ok-holds-in-Some.ensures.value w reads real slot stand (record {
      sym = open_there.sym;
      there = open_there.there;
      is = open_there.is;
      ospf = sym open_there.ospf;
    }))
