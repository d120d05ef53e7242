-- Whether two BGP routes are the same, field by field.
use Rattle.std.specs.Prelude.{◌==◌, ◌&&◌, Bool, true, false, nat_eq, Option, Some, None}
use Rattle.std.specs.Cmp.Lexicographic.{pointwise}
use Rattle.mw_text.specs.declared.address.Addr.{Addr}
use Rattle.route_record.specs.declared.BgpRec.{BgpRec}
use Rattle.route_record.specs.declared.Learnt.{Learnt}
use Rattle.route_record.specs.declared.Learnt.TheVariants.{Local, Peer}
use Rattle.route_record.specs.Origins.{origin_code}

abbrev pub same_address : Addr → Addr → Bool
same_address a b = a.0 == b.0

abbrev pub same_id : Option Addr → Option Addr → Bool
same_id None None = true
same_id None (Some b) = false
same_id (Some a) None = false
same_id (Some a) (Some b) = same_address a b

abbrev pub same_learnt : Learnt → Learnt → Bool
same_learnt Local Local = true
same_learnt Local (Peer b) = false
same_learnt (Peer a) Local = false
same_learnt (Peer a) (Peer b) = same_address a b

abbrev pub same_lists : BgpRec → BgpRec → Bool
same_lists a b =
    pointwise nat_eq a.path b.path
    && (pointwise nat_eq a.communities b.communities && pointwise same_address a.clusters b.clusters)

abbrev pub same_numbers : BgpRec → BgpRec → Bool
same_numbers a b = (a.weight == b.weight) && ((a.local_pref == b.local_pref) && (a.med == b.med))

abbrev pub same_sources : BgpRec → BgpRec → Bool
same_sources a b =
    (same_learnt a.from b.from && (origin_code a.origin == origin_code b.origin))
    && (same_address a.next_hop b.next_hop && same_id a.originator b.originator)

unfoldable pub same_rec : BgpRec → BgpRec → Bool
same_rec a b = same_lists a b && (same_numbers a b && same_sources a b)
