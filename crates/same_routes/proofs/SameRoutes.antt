-- The test of all fields tells whether two routes are the same.
use Rattle.std.proofs.Common.{◌≡◌, ℕ, ◌==◌, ◌&&◌, List, Option, Some, None, refl, ap}
use Rattle.std.specs.Prelude.{nat_eq}
use Rattle.std.specs.Bool.{Decides}
use Rattle.std.specs.Cmp.Lexicographic.{pointwise}
use Rattle.std.proofs.lemmas.Bool.Decides.{Decides-and, Decides-eqb, Decides-like}
use Rattle.std.proofs.lemmas.Option.{same_Some}
use Rattle.std.proofs.lemmas.Slice.Eq.{slice_eq-Decides}
use Rattle.mw_text.specs.declared.address.Addr.{Addr}
use Rattle.route_record.specs.declared.BgpRec.{BgpRec}
use Rattle.route_record.specs.declared.Learnt.{Learnt}
use Rattle.route_record.specs.declared.Learnt.TheVariants.{Local, Peer}
use Rattle.route_record.specs.declared.Origin.{Origin}
use Rattle.route_record.specs.declared.Origin.TheVariants.{Igp, Egp, Incomplete}
use Rattle.route_record.specs.Origins.{origin_code}
use Rattle.same_routes.specs.Same.{same_address, same_id, same_learnt, same_lists, same_numbers, same_rec}
use Rattle.same_routes.specs.Same.{same_sources}

address_decides : (a b : Addr) → Decides (same_address a b) (a ≡ b)
address_decides a b =
    let make : ℕ → Addr = λ n. record { 0 = n } in
    Decides-like (same_address a b) (λ e. ap make e) (λ e. ap (λ x. x.0) e) (Decides-eqb a.0 b.0)

id_decides : (a b : Option Addr) → Decides (same_id a b) (a ≡ b)
id_decides None None = (λ _. refl, λ _. refl)
id_decides None (Some b) = (λ h. cc, λ h. cc)
id_decides (Some a) None = (λ h. cc, λ h. cc)
id_decides (Some a) (Some b) =
    (λ h. ap Some ((address_decides a b).0 h), λ h. (address_decides a b).1 (same_Some a b h))

learnt_decides : (a b : Learnt) → Decides (same_learnt a b) (a ≡ b)
learnt_decides Local Local = (λ _. refl, λ _. refl)
learnt_decides Local (Peer b) = (λ h. cc, λ h. cc)
learnt_decides (Peer a) Local = (λ h. cc, λ h. cc)
learnt_decides (Peer a) (Peer b) = (λ h. ap Peer ((address_decides a b).0 h), λ h. (address_decides a b).1 (cc))

origin_decides : (a b : Origin) → Decides (origin_code a == origin_code b) (a ≡ b)
origin_decides Igp Igp = (λ _. refl, λ _. refl)
origin_decides Igp Egp = (λ h. cc, λ h. cc)
origin_decides Igp Incomplete = (λ h. cc, λ h. cc)
origin_decides Egp Igp = (λ h. cc, λ h. cc)
origin_decides Egp Egp = (λ _. refl, λ _. refl)
origin_decides Egp Incomplete = (λ h. cc, λ h. cc)
origin_decides Incomplete Igp = (λ h. cc, λ h. cc)
origin_decides Incomplete Egp = (λ h. cc, λ h. cc)
origin_decides Incomplete Incomplete = (λ _. refl, λ _. refl)

-- the fields together are the route
record AreFields (a b : BgpRec) : Type 0 where
  path : a.path ≡ b.path
  communities : a.communities ≡ b.communities
  clusters : a.clusters ≡ b.clusters
  weight : a.weight ≡ b.weight
  local_pref : a.local_pref ≡ b.local_pref
  med : a.med ≡ b.med
  from : a.from ≡ b.from
  origin : a.origin ≡ b.origin
  next_hop : a.next_hop ≡ b.next_hop
  originator : a.originator ≡ b.originator

of_fields : (a b : BgpRec) → AreFields a b → a ≡ b
of_fields a b fields =
    let of_a : BgpRec = record {
      from = a.from;
      weight = a.weight;
      local_pref = a.local_pref;
      path = a.path;
      origin = a.origin;
      med = a.med;
      communities = a.communities;
      next_hop = a.next_hop;
      originator = a.originator;
      clusters = a.clusters;
    } in
    let of_b : BgpRec = record {
      from = b.from;
      weight = b.weight;
      local_pref = b.local_pref;
      path = b.path;
      origin = b.origin;
      med = b.med;
      communities = b.communities;
      next_hop = b.next_hop;
      originator = b.originator;
      clusters = b.clusters;
    } in
    let same : of_a ≡ of_b = cc in same

pub same_rec_decides : (a b : BgpRec) → Decides (same_rec a b) (a ≡ b)
unfolding same_rec
same_rec_decides a b =
    Decides-like (same_rec a b)
    (λ h. of_fields a b (record {
      path = h.0.0;
      communities = h.0.1.0;
      clusters = h.0.1.1;
      weight = h.1.0.0;
      local_pref = h.1.0.1.0;
      med = h.1.0.1.1;
      from = h.1.1.0.0;
      origin = h.1.1.0.1;
      next_hop = h.1.1.1.0;
      originator = h.1.1.1.1;
    }))
    (λ e. (
      (ap (λ x. x.path) e, (ap (λ x. x.communities) e, ap (λ x. x.clusters) e)),
      (
        (ap (λ x. x.weight) e, (ap (λ x. x.local_pref) e, ap (λ x. x.med) e)),
        (
          (ap (λ x. x.from) e, ap (λ x. x.origin) e),
          (ap (λ x. x.next_hop) e, ap (λ x. x.originator) e),
        ),
      ),
    ))
    (Decides-and (same_lists a b) (same_numbers a b && same_sources a b)
    (Decides-and _ _ (numbers_decide a.path b.path)
    (Decides-and _ _ (numbers_decide a.communities b.communities)
    (slice_eq-Decides address_decides a.clusters b.clusters _ refl)))
    (Decides-and (same_numbers a b) (same_sources a b)
    (Decides-and _ _ (Decides-eqb a.weight b.weight)
    (Decides-and _ _ (Decides-eqb a.local_pref b.local_pref) (Decides-eqb a.med b.med)))
    (Decides-and _ _ (Decides-and _ _ (learnt_decides a.from b.from) (origin_decides a.origin b.origin))
    (Decides-and _ _ (address_decides a.next_hop b.next_hop) (id_decides a.originator b.originator)))))
  where
    numbers_decide : (xs ys : List ℕ) → Decides (pointwise nat_eq xs ys) (xs ≡ ys)
    numbers_decide xs ys = slice_eq-Decides Decides-eqb xs ys _ refl
