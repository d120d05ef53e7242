use Rattle.std.proofs.Common.{◌≡◌, ◌++◌, drop, map}
use Rattle.machine_laws.specs.Channels.{last_received}
use Rattle.machine_decisions.proofs.heard.heard_records.Given as goal

-- those so far, with those of the channels that are left, are all
abbrev pub invariant-loop-channel : goal.invariant-loop-channel
invariant-loop-channel l =
    l.made.items ++ map (λ c. last_received c l.len) (drop l.channel-index l.adjacencies)
    ≡ map (λ c. last_received c l.len) l.adjacencies
