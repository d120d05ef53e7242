use Rattle.std.proofs.Common.{◌≡◌, ◌++◌, ◌-◌}
use Rattle.route_record.specs.declared.TheConstants.{LENGTHS}
use Rattle.machine_laws.specs.Channels.{greetings}
use Rattle.machine_laws.specs.Sending.{offered_at}
use Rattle.machine_sending.proofs.renewing.adjacency_greetings.Given as goal

-- those so far, with those of the lengths that are left, are all
abbrev pub invariant-loop-len : goal.invariant-loop-len
invariant-loop-len l =
    l.mail ++ greetings (LENGTHS - l.len) l.len (offered_at l.net.files l.d l.state.tables l.at)
    ≡ greetings LENGTHS 0 (offered_at l.net.files l.d l.state.tables l.at)
