use Rattle.std.proofs.Common.{◌≡◌, ◌&&◌, true, arith, rules}
use Rattle.std.specs.Prelude.{nat_lt}
use Rattle.std.proofs.lemmas.Grind.{common_steps}
use Rattle.route_record.specs.declared.TheConstants.{LENGTHS}
use Rattle.machine_laws.specs.Announcing.{announced_with, is_about}
use Rattle.machine_laws.specs.Sending.{is_outside_at}
use Rattle.async_machine.proofs.Posted.{announce_is}
use Rattle.async_machine.proofs.announcing.announce.Goals as goal

pub returns-in-Ok-send_at-clause-takes : goal.returns-in-Ok-send_at-clause-takes
returns-in-Ok-send_at-clause-takes c =
    let files = c.args.net.now.files in
    let s = c.args.state.now in
    let may : ((is_outside_at files c.args.end && nat_lt c.args.len LENGTHS)
    && is_about files c.args.end c.args.len c.args.what) ≡ true = first_of (search rules, grind (arith, common_steps)) in
    let is_list : c.replace-former.new.dest ≡ announced_with s.environment.announced c.args.end c.args.len c.args.what =
    first_of (cc, grind (arith, common_steps)) in
    record {
      ok = announce_is files c.args.d s c.args.end c.args.len c.args.what c.replace-former.new.dest c.send_at.new.state may
          is_list c.in-Ok-send_at.ensures.ok;
      refused = tt;
      unchanged = tt;
    }
