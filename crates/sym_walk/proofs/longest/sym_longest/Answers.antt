use Rattle.std.proofs.Common.{◌≡◌, Option, arith, rules, subst, sym}
use Rattle.std.specs.Prelude.{ℕ}
use Rattle.question_lang.specs.Hops.{longest_below}
use Rattle.route_record.specs.declared.RibEntry.{RibEntry}
use Rattle.route_record.specs.declared.Slot.{Slot}
use Rattle.sym_forwarding.specs.Aims.{sought_by}
use Rattle.sym_walk.specs.Entries.{by_entry}
use Rattle.sym_forwarding.specs.Symbolic.{forwarding_of}
use Rattle.sym_forwarding.specs.Twins.{IsTwin}
use Rattle.sym_rib.specs.Worlds.{read_tables, read_world}
use Rattle.sym_walk.proofs.EntryHops.{longest_more, longest_none}
use Rattle.sym_walk.proofs.longest.sym_longest.Goals as goal

pub loop-len-init : goal.loop-len-init
loop-len-init c = record {
  builds = search rules;
  within = search rules;
  value = λ w reads needed.
      let stop = c.args.stop.now in
      let world = read_world w stop.sym.now stop.packet.now stop.tables.now in
      let P : Option (ℕ × Slot × RibEntry) → Type 0 = λ found. IsTwin (sought_by w c.args.aim.now)
      (by_entry stop.net.now.files world stop.router c.args.file.now found) (forwarding_of w c.in_ok-rest.rest) in
      subst P (sym (longest_none (read_tables w stop.tables.now) stop.router)) (c.in_ok-rest.ensures.value w reads);
}

pub loop-len-preserved : goal.loop-len-preserved
loop-len-preserved c = record {
  builds = search rules;
  within = search rules;
  value = λ w reads needed.
      let stop = c.args.stop.now in
      let world = read_world w stop.sym.now stop.packet.now stop.tables.now in
      let tables = read_tables w stop.tables.now in
      let step = c.in_ok-rest-2.ensures in
      let P : Option (ℕ × Slot × RibEntry) → Type 0 = λ found. IsTwin (sought_by w c.args.aim.now)
      (by_entry stop.net.now.files world stop.router c.args.file.now found) (forwarding_of w c.in_ok-rest-2.rest) in
      subst P (sym (longest_more tables stop.router c.loop-len.len))
      (step.value w reads needed (longest_below tables stop.router c.loop-len.len)
      (c.loop-len.invariant.value w (step.builds.reads w reads) needed));
}

pub returns-clause-value : goal.returns-clause-value
returns-clause-value c = λ w reads needed.
    let stop = c.args.stop.now in
    let all : c.loop-len.len ≡ 33 = omega arith in
    let world = read_world w stop.sym.now stop.packet.now stop.tables.now in
    let P : ℕ → Type 0 = λ n. IsTwin (sought_by w c.args.aim.now)
    (by_entry stop.net.now.files world stop.router c.args.file.now (longest_below (read_tables w stop.tables.now)
    stop.router n)) (forwarding_of w c.loop-len.rest) in
    subst P all (c.loop-len.invariant.value w reads needed)
