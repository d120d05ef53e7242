use Rattle.std.proofs.Common.{◌≡◌, ◌≤◌, List, length, map}
use Rattle.mw_text.specs.declared.address.Prefix.{Prefix}
use Rattle.ios_ast.specs.declared.file.File.{File}
use Rattle.route_record.specs.declared.Failures.{Failures}
use Rattle.route_record.specs.declared.Tables.{Tables}
use Rattle.net_parts.specs.Ospf.{adjacencies}
use Rattle.term_arith.specs.Bits.{ids_end}
use Rattle.term_store.specs.Terms.{Reading, size}
use Rattle.term_store.specs.Reading.{Reads, Builds}
use Rattle.ospf_equations.specs.Reached.{TellOrigins, TellReached, up_in, up_read}
use Rattle.ospf_equations.proofs.reached.sym_steps.Given as goal

-- the nodes say from where as many adjacencies as there were steps lead to an origin
abbrev pub invariant-loop-step : goal.invariant-loop-step
invariant-loop-step l = record {
  builds : Builds l.fn.terms l.terms;
  within : ids_end l.made ≤ size l.terms;
  long : length l.made ≡ l.count;
  value : (w : Reading) → Reads w l.terms → (files : List File) (failures : Failures) (real : Tables) (p : Prefix) →
      length files ≡ l.count → map (up_read w) l.over ≡ map (up_in files failures) (adjacencies files) →
      TellOrigins w files failures real p l.origins → TellReached w files failures real p l.step l.made;
}
