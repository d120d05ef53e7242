use Rattle.std.proofs.Common.{◌≡◌, [], drop, map}
use Rattle.std.specs.Prelude.{AllPairs, fold}
use Rattle.net_parts.specs.Ospf.{advertisement}
use Rattle.net_parts.specs.World.{ComesBefore, put_in_order}
use Rattle.net_parts.proofs.ospf.advertised.Given as goal

-- the prefixes so far, which ascend, with those that are left, are all
abbrev pub invariant-loop-x : goal.invariant-loop-x
invariant-loop-x l = record {
  all : fold put_in_order l.ordered (map advertisement (drop l.x-index l.running))
      ≡ fold put_in_order [] (map advertisement l.running);
  ascending : AllPairs ComesBefore l.ordered;
}
