-- The shapes of real routes are read as they are.
use Rattle.std.proofs.Common.{◌≡◌, ◌+◌, ◌^◌, Option, Some, None, refl, ap, if◌then◌else◌}
use Rattle.mw_text.specs.declared.address.Addr.{Addr}
use Rattle.route_record.specs.declared.BgpRec.{BgpRec}
use Rattle.route_record.specs.declared.Learnt.{Learnt}
use Rattle.route_record.specs.declared.Learnt.TheVariants.{Local, Peer}
use Rattle.route_record.specs.declared.tracked.Tracked.{Tracked}
use Rattle.route_record.specs.Origins.{origin_code}
use Rattle.route_record.proofs.OriginCodes.{code_back}
use Rattle.route_shapes.specs.Bgp.{address_number, bgp_shape, learnt_number}
use Rattle.path_rebuild.proofs.Steps.{has_address}
use Rattle.bgp_values.specs.Told.{as_told, plain_address}

learnt_plain : (from : Learnt) → plain_address (learnt_number from) ≡ learnt_number from
learnt_plain Local = refl
learnt_plain (Peer a) = ap (λ b. if b then 0 else 2 ^ 32 + a.0) (has_address a.0)

address_plain : (a : Option Addr) → plain_address (address_number a) ≡ address_number a
address_plain None = refl
address_plain (Some a) = ap (λ b. if b then 0 else 2 ^ 32 + a.0) (has_address a.0)

pub real_told : (tracked : Tracked) (r : BgpRec) → as_told (bgp_shape tracked r) ≡ bgp_shape tracked r
real_told tracked r =
    let origin = ap origin_code (code_back r.origin) in
    let from = learnt_plain r.from in
    let originator = address_plain r.originator in
    λ i. record (bgp_shape tracked r) {
      preferences = record (bgp_shape tracked r).preferences { origin = origin i };
      from = from i;
      originator = originator i;
    }
