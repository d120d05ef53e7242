-- A forwarding that stands for the next hops of a router is that of the router.
use Rattle.std.proofs.Common.{◌≡◌, ℕ, Bool, true, false, ◌&&◌, not, List, ◌⊎◌, inl, inr}
use Rattle.std.proofs.Common.{refl, sym, ap}
use Rattle.std.proofs.Common.{subst, ◌∙◌, eq-eqb}
use Rattle.std.specs.Prelude.{Contains}
use Rattle.std.specs.List.{list_any}
use Rattle.std.proofs.lemmas.Bool.{and_from, and_parts, eqb-true}
use Rattle.std.proofs.lemmas.List.Folds.{Any-from_list_any, list_any-from_Any}
use Rattle.ios_ast.specs.declared.file.File.{File}
use Rattle.route_record.specs.declared.World.{World}
use Rattle.net_model.proofs.OneSubnet.{negated as opposite}
use Rattle.question_lang.specs.declared.question.Kind.{Kind}
use Rattle.question_lang.specs.declared.question.Kind.TheVariants.{Reach, Isolate, Waypoint, NoLoop, NoBlackHole}
use Rattle.question_lang.specs.declared.question.Kind.TheVariants.{Within, Alike, NoStable}
use Rattle.question_lang.specs.declared.question.Target.{Target}
use Rattle.question_lang.specs.declared.question.Target.TheVariants.{Router, Subnet, Peer}
use Rattle.question_lang.specs.declared.walk.End.{End}
use Rattle.question_lang.specs.declared.walk.End.TheVariants.{Delivered, Left, NoRoute, Discarded, DeniedIn, DeniedOut}
use Rattle.question_lang.specs.declared.walk.End.TheVariants.{Loop, Open}
use Rattle.question_lang.specs.declared.walk.Hop.{Hop}
use Rattle.question_lang.specs.declared.walk.Hop.TheVariants.{To, Ends}
use Rattle.walk_def.specs.Arriving.{IsTargetRouter, target_end}
use Rattle.walk_def.specs.Marks.{is_delivered}
use Rattle.sym_forwarding.specs.Layers.{Forwarding}
use Rattle.sym_forwarding.specs.Forwardings.{IsAtTarget, IsForwarding, IsSought}
use Rattle.sym_forwarding.specs.Twins.{IsTwin, ends_as, is_lost, is_sought, is_target_end, leads_to, leaves_to}

delivered_is : (end : End) → is_delivered end ≡ true → end ≡ Delivered
delivered_is Delivered h = refl
delivered_is (Left a) h = cc
delivered_is NoRoute h = cc
delivered_is Discarded h = cc
delivered_is (DeniedIn i) h = cc
delivered_is DeniedOut h = cc
delivered_is Loop h = cc
delivered_is Open h = cc

leaves_is : (a : ℕ) (end : End) → leaves_to a end ≡ true → end ≡ Left (record { 0 = a })
leaves_is a Delivered h = cc
leaves_is a (Left b) h = ap (λ n. Left (record { 0 = n })) (eqb-true b.0 a h)
leaves_is a NoRoute h = cc
leaves_is a Discarded h = cc
leaves_is a (DeniedIn i) h = cc
leaves_is a DeniedOut h = cc
leaves_is a Loop h = cc
leaves_is a Open h = cc

target_end_is : (target : Target) (end : End) → is_target_end target end ≡ true → end ≡ target_end target
target_end_is (Router router) end h = delivered_is end h
target_end_is (Subnet p) end h = delivered_is end h
target_end_is (Peer router a) end h = leaves_is a.0 end h

is_target_end_of : (target : Target) → is_target_end target (target_end target) ≡ true
is_target_end_of (Router router) = refl
is_target_end_of (Subnet p) = refl
is_target_end_of (Peer router a) = eq-eqb a.0 a.0 refl

lost_is : (end : End) → is_lost end ≡ true → (end ≡ NoRoute) ⊎ (end ≡ Discarded)
lost_is Delivered h = cc
lost_is (Left b) h = cc
lost_is NoRoute h = inl refl
lost_is Discarded h = inr refl
lost_is (DeniedIn i) h = cc
lost_is DeniedOut h = cc
lost_is Loop h = cc
lost_is Open h = cc

is_lost_of : (end : End) → (end ≡ NoRoute) ⊎ (end ≡ Discarded) → is_lost end ≡ true
is_lost_of end (inl same) = ap is_lost same
is_lost_of end (inr same) = ap is_lost same

-- the mark says whether the router is one where walks to the target end
pub record Tells (P : Type 0) (here : Bool) : Type 0 where
  pub so : here ≡ true → P
  pub whole : P → here ≡ true

at_target : (files : List File) (world : World) (target : Target) (router : ℕ) (here : Bool) (end : End) →
    Tells (IsTargetRouter files world target router) here → (here && is_target_end target end) ≡ true →
    IsAtTarget files world target router end
at_target files world target router here end tells h =
    let parts = and_parts here (is_target_end target end) h in
    (target_end_is target end parts.1, tells.so parts.0)

from_target : (files : List File) (world : World) (target : Target) (router : ℕ) (here : Bool) (end : End) →
    Tells (IsTargetRouter files world target router) here → IsAtTarget files world target router end →
    (here && is_target_end target end) ≡ true
from_target files world target router here end tells (same, is) =
    and_from here (is_target_end target end) (tells.whole is) (ap (is_target_end target) same ∙ is_target_end_of target)

negated : (b : Bool) → (b ≡ true → ⊥) → not b ≡ true
negated true h = absurd (h refl)
negated false h = refl

-- where the walks of a question end, as far as it asks
abbrev pub IsHere : List File → World → Kind → ℕ → Bool → Type 0
IsHere files world (Reach start target) router here = Tells (IsTargetRouter files world target router) here
IsHere files world (Isolate start target) router here = Tells (IsTargetRouter files world target router) here
IsHere files world (Waypoint start target via) router here = Tells (IsTargetRouter files world target router) here
IsHere files world (NoLoop start) router here = Unit {0}
IsHere files world (NoBlackHole start) router here = Unit {0}
IsHere files world (Within most start) router here = Unit {0}
IsHere files world (Alike a b target) router here = Tells (IsTargetRouter files world target router) here
IsHere files world NoStable router here = Unit {0}

sought : (files : List File) (world : World) (kind : Kind) (router : ℕ) (here : Bool) (end : End) →
    IsHere files world kind router here → is_sought kind here end ≡ true → IsSought files world kind router end
sought files world (Reach start target) router here end tells h =
    λ at. opposite (here && is_target_end target end) h (from_target files world target router here end tells at)
sought files world (Isolate start target) router here end tells h =
    at_target files world target router here end tells h
sought files world (Waypoint start target via) router here end tells h =
    at_target files world target router here end tells h
sought files world (NoLoop start) router here end tells h = cc
sought files world (NoBlackHole start) router here end tells h = lost_is end h
sought files world (Within most start) router here end tells h = cc
sought files world (Alike a b target) router here end tells h =
    at_target files world target router here end tells h
sought files world NoStable router here end tells h = cc

is_sought_of : (files : List File) (world : World) (kind : Kind) (router : ℕ) (here : Bool) (end : End) →
    IsHere files world kind router here → IsSought files world kind router end → is_sought kind here end ≡ true
is_sought_of files world (Reach start target) router here end tells missed =
    negated (here && is_target_end target end)
    (λ h. missed (at_target files world target router here end tells h))
is_sought_of files world (Isolate start target) router here end tells at =
    from_target files world target router here end tells at
is_sought_of files world (Waypoint start target via) router here end tells at =
    from_target files world target router here end tells at
is_sought_of files world (NoLoop start) router here end tells none = absurd none
is_sought_of files world (NoBlackHole start) router here end tells lost = is_lost_of end lost
is_sought_of files world (Within most start) router here end tells none = absurd none
is_sought_of files world (Alike a b target) router here end tells at =
    from_target files world target router here end tells at
is_sought_of files world NoStable router here end tells none = absurd none

-- ---- hops

hop_to : (router : ℕ) (own : List Hop) → list_any (leads_to router) own ≡ true →
    (at : ℕ) × Contains own (To (record { router = router; at = at }))
hop_to router own h =
    let (k, hop, within, is, leads) = Any-from_list_any (leads_to router) own h in by_hop hop (k, within, is) leads
  where
    by_hop : (hop : Hop) → Contains own hop → leads_to router hop ≡ true →
        (at : ℕ) × Contains own (To (record { router = router; at = at }))
    by_hop (To i) has leads =
        let same : i.router ≡ router = eqb-true i.router router leads in
        let P : ℕ → Type 0 = λ r. Contains own (To (record { router = r; at = i.at })) in (i.at, subst P same has)
    by_hop (Ends end) has leads = cc

end_as : (test : End → Bool) (own : List Hop) → list_any (ends_as test) own ≡ true →
    (end : End) × Contains own (Ends end) × (test end ≡ true)
end_as test own h =
    let (k, hop, within, is, ends) = Any-from_list_any (ends_as test) own h in by_hop hop (k, within, is) ends
  where
    by_hop : (hop : Hop) → Contains own hop → ends_as test hop ≡ true →
        (end : End) × Contains own (Ends end) × (test end ≡ true)
    by_hop (To i) has ends = cc
    by_hop (Ends end) has ends = (end, has, ends)

pub twin_forwards : (files : List File) (world : World) (kind : Kind) (router : ℕ) (here : Bool) (own : List Hop)
    (f : Forwarding) → IsHere files world kind router here → IsTwin (is_sought kind here) own f →
    IsForwarding own (IsSought files world kind router) f
twin_forwards files world kind router here own f tells twin = record {
  sent = λ to h. hop_to to own (sym (twin.sends to) ∙ h);
  all_sent = λ i (k, within, is).
      twin.sends i.router
      ∙ list_any-from_Any (leads_to i.router) own (k, To i, within, is, eq-eqb i.router i.router refl);
  ends = λ h.
      let (end, has, found) = end_as (is_sought kind here) own (sym twin.ends ∙ h) in
      (end, has, sought files world kind router here end tells found);
  all_ends = λ end (k, within, is) asked.
      twin.ends
      ∙ list_any-from_Any (ends_as (is_sought kind here)) own
      (k, Ends end, within, is, is_sought_of files world kind router here end tells asked);
}
