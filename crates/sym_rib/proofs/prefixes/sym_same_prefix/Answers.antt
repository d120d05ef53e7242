use Rattle.std.proofs.Common.{◌∙◌, sym}
use Rattle.sym_policy.specs.Records.{address_of}
use Rattle.sym_interfaces.proofs.Networks.{network_same, network_other}
use Rattle.sym_rib.proofs.prefixes.sym_same_prefix.Goals as goal

pub returns-in_ok-same-clause-value : goal.returns-in_ok-same-clause-value
returns-in_ok-same-clause-value c = λ w reads.
    c.in_ok-same.ensures.value w reads
    ∙ sym (network_same c.args.p.now (address_of w c.args.dst.now) c.args.len
    (sym c.is_network.ensures ∙ c.if-is_network.true))

pub returns-in_ok-never-clause-value : goal.returns-in_ok-never-clause-value
returns-in_ok-never-clause-value c = λ w reads.
    c.in_ok-never.ensures.value w reads
    ∙ sym (network_other c.args.p.now (address_of w c.args.dst.now) c.args.len
    (sym c.is_network.ensures ∙ c.if-is_network.false))
