use Rattle.std.proofs.Common.{◌≡◌, drop}
use Rattle.std.specs.Prelude.{fold}
use Rattle.packet_fates.specs.Ends.{put_hop}
use Rattle.packet_fates.proofs.ends.put_hops.Given as goal

-- the hops that are left put the rest
abbrev pub invariant-loop-hop : goal.invariant-loop-hop
invariant-loop-hop l =
    fold (put_hop l.name) l.out (drop l.hop-index l.own) ≡ fold (put_hop l.name) l.initial.out l.own
