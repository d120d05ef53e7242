-- Parts of a counterexample that were written are read back.
use Rattle.std.proofs.Common.{◌≡◌, ℕ, ◌+◌, ◌-◌, ◌^◌, ◌<◌, ◌≤◌, ◌==◌, ◌&&◌, ◌||◌, Bool, true, false, cond, List, [], ◌∷◌}
use Rattle.std.proofs.Common.{◌++◌, length, nat_eq, nat_le, Option, Some, None, Ok, Err, refl, ap, sym, ◌∙◌, arith, map}
use Rattle.std.proofs.lemmas.Bool.{le-leb, eq-eqb, eqb-false, eqb-true}
use Rattle.std.specs.Prelude.{codes}
use Rattle.mw_text.specs.declared.address.Addr.{Addr}
use Rattle.route_record.specs.declared.Origin.{Origin}
use Rattle.route_record.specs.declared.Origin.TheVariants.{Igp, Egp, Incomplete}
use Rattle.route_record.specs.declared.OspfKind.{OspfKind}
use Rattle.route_record.specs.declared.OspfKind.TheVariants.{Internal, Ext1, Ext2}
use Rattle.route_record.specs.declared.OspfRec.{OspfRec}
use Rattle.route_record.specs.declared.RibEntry.{RibEntry}
use Rattle.route_record.specs.declared.RibSource.{RibSource}
use Rattle.route_record.specs.declared.RibSource.TheVariants.{Connected, Static, Ebgp, Ospf, Ibgp}
use Rattle.cex_json.specs.Entries.{kind_named, origin_named, ospf_in, rib_in, source_named}
use Rattle.cex_json.specs.Fields.{greatest, number_in}
use Rattle.cex_json.specs.Json.{number_of}
use Rattle.cex_json.specs.Parts.{kind_text, origin_text, ospf_data, rib_data, source_text}

-- a number that is not too great
pub number_back : (most n : ℕ) → n ≤ most → number_in most (Some (number_of n)) ≡ Some n
number_back most n fits = rw (le-leb n most fits) refl

source_back : (source : RibSource) → source_named (source_text source) ≡ Some source
source_back Connected = refl
source_back Static = refl
source_back Ebgp = refl
source_back Ospf = refl
source_back Ibgp = refl

-- an entry of the routing table
pub rib_back : (at : List ℕ) (entry : RibEntry) → entry.distance ≤ 255 → rib_in at (rib_data entry) ≡ Ok entry
unfolding rib_in rib_data
rib_back at entry fits = rw (le-leb entry.distance 255 fits) (rw (source_back entry.source) refl)

kind_back : (kind : OspfKind) → kind_named (kind_text kind) ≡ Some kind
kind_back Internal = refl
kind_back Ext1 = refl
kind_back Ext2 = refl

-- an OSPF record
pub ospf_back : (at : List ℕ) (held : OspfRec) → held.cost ≤ greatest → held.metric ≤ greatest →
    ospf_in at (ospf_data held) ≡ Ok held
unfolding ospf_in ospf_data
ospf_back at held cost metric =
    rw (le-leb held.cost greatest cost) (rw (kind_back held.kind) (rw (le-leb held.metric greatest metric) refl))

-- the ORIGIN of a route
pub origin_back : (origin : Origin) → origin_named (origin_text origin) ≡ Some origin
origin_back Igp = refl
origin_back Egp = refl
origin_back Incomplete = refl
