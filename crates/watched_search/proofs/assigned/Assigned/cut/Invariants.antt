use Rattle.std.proofs.Common.{◌≡◌, ◌<◌, ◌-◌, length, take}
use Rattle.watched_search.proofs.assigned.Assigned.cut.Given as goal

abbrev pub invariant-loop : goal.invariant-loop
invariant-loop l = record {
  kept : l.self.lits ≡ take (l.end - (l.counter - l.len)) l.fn.self.lits;
  levels : l.self.levels ≡ take (l.end - (l.counter - l.len)) l.fn.self.levels;
  reasons : l.self.reasons ≡ take (l.end - (l.counter - l.len)) l.fn.self.reasons;
  vars : l.self.vars ≡ l.fn.self.vars;
  end : l.end ≡ length l.fn.self.lits;
  end_levels : l.end ≡ length l.fn.self.levels;
  end_reasons : l.end ≡ length l.fn.self.reasons;
  idle : l.end < l.len → l.counter ≡ l.len;
}
