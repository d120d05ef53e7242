-- Tests of what internal routes cost, by the nodes that say whether they are there.
use Rattle.std.proofs.Common.{◌≡◌, ℕ, ◌-◌, ◌<◌, false, ◌&&◌, not, Option, Some, None, refl, ap, arith, ◌∙◌}
use Rattle.std.proofs.Common.{nat_lt}
use Rattle.std.specs.Prelude.{◌==◌}
use Rattle.std.specs.Option.{option_map_or}
use Rattle.std.proofs.Math.Bool.{and-false}
use Rattle.std.proofs.lemmas.Bool.{le-ltb}
use Rattle.std.proofs.lemmas.Bool.Decides.{nat_tests}
use Rattle.mw_text.specs.declared.address.Prefix.{Prefix}
use Rattle.route_record.specs.declared.OspfKind.{OspfKind}
use Rattle.route_record.specs.declared.OspfKind.TheVariants.{Internal, Ext1, Ext2}
use Rattle.route_record.specs.declared.OspfRec.{OspfRec}
use Rattle.route_record.specs.declared.Slot.{Slot}
use Rattle.route_record.specs.declared.Tables.{Tables}
use Rattle.route_record.specs.Places.{slot_at}
use Rattle.net_parts.specs.OspfRoutes.{kind_rank}
use Rattle.sym_ospf.specs.Rows.{is_internal}
use Rattle.ospf_equations.specs.Least.{holds_cheaper, is_cheaper}
use Rattle.ospf_equations.specs.Levels.{has_within}

-- a route is within one less exactly where it costs less
pub less_is : (most : ℕ) (o : Option OspfRec) → 0 < most → has_within (most - 1) o ≡ is_cheaper most o
less_is most None some = refl
less_is most (Some r) some = by_kind r.kind where
  by_cost : not (nat_lt (most - 1) r.cost) ≡ nat_lt r.cost most
  by_cost = grind (arith, nat_tests)

  by_kind : (k : OspfKind) → ((kind_rank k == 0) && not (nat_lt (most - 1) r.cost)) ≡ (is_internal k && nat_lt r.cost most)
  by_kind Internal = by_cost
  by_kind Ext1 = refl
  by_kind Ext2 = refl

-- nothing costs less than nothing
pub none_below : (o : Option OspfRec) → is_cheaper 0 o ≡ false
none_below None = refl
none_below (Some r) = ap (λ b. is_internal r.kind && b) (le-ltb r.cost 0 (omega arith)) ∙ and-false (is_internal r.kind)

pub none_holds : (tables : Tables) (p : Prefix) (router : ℕ) → holds_cheaper tables p 0 router ≡ false
none_holds tables p router = by (slot_at tables router p.len) where
  by : (o : Option Slot) → option_map_or (λ (slot : Slot). is_cheaper 0 slot.ospf) o false ≡ false
  by None = refl
  by (Some slot) = none_below slot.ospf
