use Rattle.std.proofs.Common.{◌≡◌, ◌++◌, drop, map}
use Rattle.net_parts.specs.Resolution.{session_up}
use Rattle.net_parts.specs.Sessions.{ends_of}
use Rattle.proto_ospf.proofs.sessions.sessions_up.Given as goal

-- those so far, with those of the ends that are left, are all
abbrev pub invariant-loop-end : goal.invariant-loop-end
invariant-loop-end l =
    l.up-inside.items.items ++ map (session_up l.net.files l.failures) (drop l.end-index (ends_of l.net.files))
    ≡ map (session_up l.net.files l.failures) (ends_of l.net.files)
