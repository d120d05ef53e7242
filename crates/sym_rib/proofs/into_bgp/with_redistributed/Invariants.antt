use Rattle.std.proofs.Common.{◌≡◌, ◌≤◌, ◌++◌, true, All, map, take}
use Rattle.std.specs.List.{filter_map}
use Rattle.route_record.specs.declared.Slot.{Slot}
use Rattle.net_parts.specs.Origins.{into_bgp}
use Rattle.sym_policy.specs.Held.{bgp_end, bgp_of}
use Rattle.route_shapes.specs.Bgp.{bgp_shape}
use Rattle.sym_policy.specs.Records.{prefix_of}
use Rattle.route_shapes.specs.Shapes.{all_tracked}
use Rattle.term_store.specs.Terms.{Reading, size}
use Rattle.term_store.specs.Reading.{Reads, Builds}
use Rattle.sym_policy.specs.MapRecs.{HasTracked}
use Rattle.sym_rib.specs.Into.{list_end}
use Rattle.sym_rib.specs.Slots.{StandsBesideBgp}
use Rattle.sym_rib.proofs.into_bgp.with_redistributed.Given as goal

-- the routes that were there, and behind them those of the lines so far
abbrev pub invariant-loop-line : goal.invariant-loop-line
invariant-loop-line l = record {
  builds : Builds l.fn.terms l.terms;
  within : list_end bgp_end l.made ≤ size l.terms;
  rows : All (HasTracked l.tracked) l.fn.before → All (HasTracked l.tracked) l.made;
  value : (w : Reading) → Reads w l.terms → (held : Slot) → all_tracked l.tracked l.lookup.file.now.policies ≡ true
      → StandsBesideBgp w l.slot held
      → filter_map (bgp_of w) l.made
      ≡ filter_map (bgp_of w) l.fn.before ++ map (bgp_shape l.tracked)
      (filter_map (into_bgp l.lookup.net.now.files l.lookup.router l.lookup.file.now
      (prefix_of w l.lookup.dst.now l.lookup.len) held) (take l.line-index l.lines));
}
