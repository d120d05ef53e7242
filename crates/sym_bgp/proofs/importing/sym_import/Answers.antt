use Rattle.std.specs.Prelude.{slice_get}
use Rattle.net_parts.specs.Sessions.{ends_of}
use Rattle.sym_policy.specs.Held.{bgp_of}
use Rattle.sym_policy.specs.Records.{prefix_of}
use Rattle.sym_bgp.proofs.StandsFor.{import_stands}
use Rattle.sym_bgp.proofs.importing.sym_import.Goals as goal

pub returns-clause-stands : goal.returns-clause-stands
returns-clause-stands c = λ w reads sent is.
    let net = c.args.net.now in
    import_stands net.tracked net.files (slice_get (ends_of net.files) c.args.end)
    (prefix_of w c.args.dst.now c.args.len) c.in_ok-made.ensures.tracks (bgp_of w c.args.message.now)
    (bgp_of w c.in_ok-made.made) sent is (c.in_ok-made.ensures.value w reads)
