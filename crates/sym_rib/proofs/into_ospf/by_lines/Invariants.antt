use Rattle.std.proofs.Common.{◌≡◌, ◌≤◌, take}
use Rattle.std.specs.List.{filter_map}
use Rattle.sym_policy.specs.Held.{bgp_of, ospf_of, ospf_end}
use Rattle.sym_policy.specs.Records.{prefix_of}
use Rattle.term_store.specs.Terms.{Reading, size}
use Rattle.term_store.specs.Reading.{Reads, Builds}
use Rattle.sym_rib.specs.Into.{list_end}
use Rattle.sym_rib.specs.Redistributed.{shape_into_ospf}
use Rattle.sym_rib.specs.Slots.{rib_of}
use Rattle.sym_rib.proofs.into_ospf.by_lines.Given as goal

-- one record for each line so far
abbrev pub invariant-loop-line : goal.invariant-loop-line
invariant-loop-line l = record {
  builds : Builds l.fn.terms l.terms;
  within : list_end ospf_end l.made ≤ size l.terms;
  value : (w : Reading) → Reads w l.terms
      → filter_map (ospf_of w) l.made
      ≡ filter_map (shape_into_ospf l.tracked l.file (prefix_of w l.dst l.len) (bgp_of w l.slot.bgp)
      (rib_of w l.slot.rib)) (take l.line-index l.lines);
}
