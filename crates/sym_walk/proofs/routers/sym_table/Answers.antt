use Rattle.std.proofs.Common.{◌≡◌, ℕ, List, arith, length, rules, subst, sym}
use Rattle.sym_forwarding.specs.declared.forwarding.SymForwarding.{SymForwarding}
use Rattle.sym_forwarding.specs.Symbolic.{table_of}
use Rattle.sym_walk.specs.TwinTables.{AreTwins}
use Rattle.sym_rib.specs.Worlds.{read_world}
use Rattle.sym_walk.proofs.PushedTwins.{twins_none}
use Rattle.sym_walk.proofs.routers.sym_table.Goals as goal

pub loop-router-init : goal.loop-router-init
loop-router-init c = record {
  builds = search rules;
  within = search rules;
  long = search rules;
  value = λ w reads needed.
      let net = c.args.net.now.files in
      let world = read_world w c.args.sym.now c.args.packet.now c.args.tables.now in
      let P : List SymForwarding → Type 0 = λ t. AreTwins net world c.args.kind 0 (table_of w t) in
      subst P (sym c.new-table.ensures) (twins_none net world c.args.kind);
}

pub loop-router-preserved : goal.loop-router-preserved
loop-router-preserved c = record {
  builds = search rules;
  within = search rules;
  long = search rules;
  value = λ w reads needed.
      let step = c.in_ok-table.ensures in
      step.value w reads needed (c.loop-router.invariant.value w (step.builds.reads w reads) needed);
}

pub returns-clause-value : goal.returns-clause-value
returns-clause-value c = λ w reads needed.
    let all : c.loop-router.router ≡ length c.args.net.now.files = omega arith in
    let P : ℕ → Type 0 = λ n. AreTwins c.args.net.now.files
    (read_world w c.args.sym.now c.args.packet.now c.args.tables.now) c.args.kind n (table_of w c.loop-router.table) in
    subst P all (c.loop-router.invariant.value w reads needed)
