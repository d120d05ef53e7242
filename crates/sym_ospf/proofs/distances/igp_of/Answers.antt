use Rattle.std.proofs.Common.{length, arith, ap}
use Rattle.net_parts.specs.Ospf.{advertised}
use Rattle.sym_ospf.proofs.LeastOffers.{fits_product, fits_sum}
use Rattle.sym_ospf.proofs.distances.igp_of.Goals as goal

pub overflow_mul-at : goal.overflow_mul-at
overflow_mul-at c =
    fits_product c.args.router (length (advertised c.args.net.now.files)) c.args.k (length c.args.net.now.files)
    (length c.args.sym.now.igp) (length c.advertised.result.now) c.requires.rows c.requires.router c.requires.place
    (ap length c.advertised.ensures.value)
    (omega (arith, c.as_slice-rows.type_inv.0, ap length c.as_slice-rows.ensures))

pub overflow_add-at : goal.overflow_add-at
overflow_add-at c =
    fits_sum c.args.router (length (advertised c.args.net.now.files)) c.args.k (length c.args.net.now.files)
    (length c.args.sym.now.igp) (length c.advertised.result.now) c.requires.rows c.requires.router c.requires.place
    (ap length c.advertised.ensures.value)
    (omega (arith, c.as_slice-rows.type_inv.0, ap length c.as_slice-rows.ensures))
