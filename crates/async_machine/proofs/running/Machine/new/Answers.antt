use Rattle.std.proofs.Common.{subst, sym}
use Rattle.machine_laws.specs.Events.{IsReached}
use Rattle.machine_laws.proofs.Reached.{reached_start}
use Rattle.async_machine.proofs.running.Machine.new.Goals as goal

pub invariant_of-result : goal.invariant_of-result
invariant_of-result c = record {
  reached = subst (IsReached c.args.net.files c.args.d) (sym c.in_ok-state.ensures)
      (reached_start c.args.net.files c.args.d c.args.ids
      (c.requires, rw c.as_slice.ensures at c.read_addresses.ensures));
  underlay = c.in_ok-underlay.ensures;
  known = c.in_ok-known.ensures;
}
