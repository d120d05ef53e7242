-- Walks from a router, and where hops lead from it.
use Rattle.std.proofs.Common.{◌≡◌, ℕ, Bool, true, List, [], ◌∷◌, ◌++◌, length, Option, Some, None}
use Rattle.std.proofs.Common.{refl, sym, ap, subst, arith, ◌∙◌, inl, inr}
use Rattle.std.specs.Prelude.{Contains, slice_get, unwrap_or}
use Rattle.std.specs.Option.{option_map_or}
use Rattle.std.proofs.lemmas.Bool.{ltb-true}
use Rattle.std.proofs.lemmas.List.Elements.{Contains-append_left, Contains-push, Contains-push_cases}
use Rattle.std.proofs.lemmas.Option.{slice_get_within}
use Rattle.mw_text.proofs.Lists.{item_there}
use Rattle.ios_ast.specs.declared.file.File.{File}
use Rattle.route_record.specs.declared.World.{World}
use Rattle.net_interfaces.specs.declared.interfaces.IfaceId.{IfaceId}
use Rattle.net_parts.specs.Routing.{up_interfaces}
use Rattle.question_lang.specs.declared.question.Start.{Start}
use Rattle.question_lang.specs.declared.walk.End.{End}
use Rattle.question_lang.specs.declared.walk.End.TheVariants.{NoRoute, Discarded, DeniedIn, DeniedOut, Open}
use Rattle.question_lang.specs.declared.walk.End.TheVariants.{Delivered as EndDelivered, Left as EndLeft}
use Rattle.question_lang.specs.declared.walk.End.TheVariants.{Loop as EndLoop}
use Rattle.question_lang.specs.declared.walk.Hop.{Hop}
use Rattle.question_lang.specs.declared.walk.Hop.TheVariants.{To, Ends}
use Rattle.question_lang.specs.declared.walk.Walk.{Walk}
use Rattle.question_lang.specs.Breaking.{BeginsAt, LastStands, at_router, start_of}
use Rattle.question_lang.specs.Hops.{all_up, hops_over, next_hops}
use Rattle.question_lang.specs.Walks.{GoesOn, IsWalk, IsWalkOver, LeadsTo, MayEnd}
use Rattle.walk_def.proofs.Following.{Begun, Followed, begun-start, begun-step, followed-start, followed-step}
use Rattle.walk_def.proofs.Inside.{next_hops_inside}
use Rattle.walk_def.proofs.Members.{last-same, test-of_item}
use Rattle.walk_def.proofs.Worlds.{begun}
use Rattle.walk_def.specs.Marks.{is_end, is_inside, known}
use Rattle.walk_def.specs.Sending.{AreSent}
use Rattle.walk_def.proofs.Ends.{may_end, must_end}
use Rattle.packet_fates.specs.declared.fate.Fate.{Fate}
use Rattle.packet_fates.specs.declared.fate.Fate.TheVariants.{Delivered, Left, BlackHole, Loop}
use Rattle.packet_fates.specs.Ends.{AreThose, IsEndOf, IsFateOf}
use Rattle.packet_fates.specs.Fates.{AreFates, EndsSo, HasFate, IsCalled, fate_by, fate_of}
use Rattle.packet_fates.specs.Reaching.{AreInside, AreReached, IsRound, Leads, here, further, hops_at}
use Rattle.packet_fates.specs.Rounds.{SomeRound}
use Rattle.packet_fates.proofs.Spreading.{hops_within, leads_on}

-- ---- ends that a router gives by itself

-- ---- where hops lead, a walk goes

abbrev pub Goes : (ℕ → List Hop) → Start → List Start → ℕ → Type 0
Goes hops start stood router =
    (more : List Start) × (now : Start) × Followed hops more now × Begun start more now × (now.router ≡ router)
    × ((s : Start) → Contains stood s → Contains more s)

follow : (hops : ℕ → List Hop) (from to : ℕ) → Leads hops from to → (start : Start) (stood : List Start)
    (now : Start) → now.router ≡ from → Followed hops stood now → Begun start stood now → Goes hops start stood to
follow hops from to (here _) start stood now at followed begun_so =
    (stood, now, followed, begun_so, at, λ s has. has)
follow hops from to (further _ i _ has rest) start stood now at followed begun_so =
    let then : Start = record { router = i.router; iface = Some i.at } in
    let P : ℕ → Type 0 = λ r. Contains (hops r) (To i) in
    let leads : LeadsTo hops now then = (i.at, refl, subst P (sym at) has) in
    let (more, last, f, b, is, keeps) =
    follow hops i.router to rest start (stood ++ now ∷ []) then refl
    (followed-step hops stood now then followed leads) (begun-step start stood now then begun_so) in
    (more, last, f, b, is, λ s before. keeps s (Contains-append_left stood (now ∷ []) s before))

walk_so : (files : List File) (world : World) (start : ℕ) (stood : List Start) (now : Start) (end : End) →
    Followed (next_hops files world) stood now → Begun (at_router start) stood now →
    MayEnd (next_hops files world) stood now end →
    IsWalk files world (record { hops = stood ++ now ∷ []; end = end })
    × BeginsAt (at_router start) (record { hops = stood ++ now ∷ []; end = end })
walk_so files world start stood now end followed begun_so may =
    let goes = followed [] end may in
    let (more, same) = begun_so [] in
    let G : List Start → Type 0 = λ hs. GoesOn (next_hops files world) [] hs end in
    let W : List Start → Type 0 = λ hs. IsWalkOver files world hs end × (start_of hs end ≡ Some (at_router start)) in
    subst W (sym same) ((tt, subst G same goes), refl)

-- ---- where a walk goes, hops lead

abbrev pub EndsAtLast : (ℕ → List Hop) → Start → List Start → End → Type 0
EndsAtLast hops now rest end =
    (front : List Start) × (last : Start) × (now ∷ rest ≡ front ++ last ∷ []) × Leads hops now.router last.router
    × Contains (hops last.router) (Ends end)

from_end : (hops : ℕ → List Hop) (before : List Start) (now : Start) (rest : List Start) (end : End) →
    is_end end ≡ true → GoesOn hops before (now ∷ rest) end → EndsAtLast hops now rest end
from_end hops before now [] end proper may =
    ([], now, refl, here now.router, must_end hops before now end proper may)
from_end hops before now (then ∷ rest) end proper ((at, _, has), on) =
    let i : IfaceId = record { router = then.router; at = at } in
    let (front, last, same, leads, ends) = from_end hops (before ++ now ∷ []) then rest end proper on in
    (now ∷ front, last, ap (λ xs. now ∷ xs) same, further now.router i last.router has leads, ends)

-- each earlier standing is where hops lead from the start, and one or more of them on to the router
abbrev pub AllCome : (ℕ → List Hop) → ℕ → List Start → ℕ → Type 0
AllCome hops start before router =
    (s : Start) → Contains before s → Leads hops start s.router
    × ((i : IfaceId) × Contains (hops s.router) (To i) × Leads hops i.router router)

come_on : (hops : ℕ → List Hop) (start : ℕ) (before : List Start) (now : Start) (i : IfaceId) →
    AllCome hops start before now.router → Leads hops start now.router → Contains (hops now.router) (To i) →
    AllCome hops start (before ++ now ∷ []) i.router
come_on hops start before now i all leads has s there = elim (Contains-push_cases before now s there) [
  | inl earlier ↦ let (from, (k, first, rest)) = all s earlier in
      (from, (k, first, leads_on hops k.router now.router i rest has))
  | inr same ↦ let P : Start → Type 0 = λ x. Leads hops start x.router
      × ((k : IfaceId) × Contains (hops x.router) (To k) × Leads hops k.router i.router) in
      subst P same (leads, (i, has, here i.router))
]

from_round : (hops : ℕ → List Hop) (start : ℕ) (before : List Start) (now : Start) (rest : List Start) →
    AllCome hops start before now.router → Leads hops start now.router → GoesOn hops before (now ∷ rest) EndLoop →
    (router : ℕ) × Leads hops start router × IsRound hops router
from_round hops start before now [] all leads (k, s, within, is, same) =
    let (from, (i, first, back)) = all s (k, within, is) in
    let P : ℕ → Type 0 = λ r. Leads hops i.router r in (s.router, from, (i, first, subst P (sym same) back))
from_round hops start before now (then ∷ rest) all leads ((at, _, has), on) =
    let i : IfaceId = record { router = then.router; at = at } in
    from_round hops start (before ++ now ∷ []) then rest (come_on hops start before now i all leads has)
    (leads_on hops start now.router i leads has) on

-- ---- the hops of all routers

pub same_hops : (files : List File) (world : World) (all : List (List Hop)) (router : ℕ) → length all ≡ length files →
    AreSent files world all → hops_at all router ≡ next_hops files world router
same_hops files world all router long sent = by_place (slice_get all router) refl where
  by_file : (o : Option File) → slice_get files router ≡ o → slice_get all router ≡ None →
      [] ≡ option_map_or
      (hops_over files world (all_up files world.failures) (up_interfaces files world.failures router) router) o []
  by_file None found none = refl
  by_file (Some file) found none =
      let (own, there) = item_there all router (omega (arith, long, slice_get_within files router file found)) in cc

  by_place : (o : Option (List Hop)) → slice_get all router ≡ o → unwrap_or o [] ≡ next_hops files world router
  by_place None found = by_file (slice_get files router) refl found
  by_place (Some own) found = sent router own found

pub all_inside : (files : List File) (world : World) (all : List (List Hop)) → length all ≡ length files →
    AreSent files world all → AreInside all
all_inside files world all long sent router i has =
    let P : List Hop → Type 0 = λ xs. Contains xs (To i) in
    let below = test-of_item (is_inside (length files)) (next_hops files world router) (To i)
    (next_hops_inside files world router) (subst P (same_hops files world all router long sent) has) in
    omega (arith, long, ltb-true i.router (length files) below)

leads_as : (hops others : ℕ → List Hop) → ((router : ℕ) → hops router ≡ others router) → (from to : ℕ) →
    Leads hops from to → Leads others from to
leads_as hops others same from to (here _) = here from
leads_as hops others same from to (further _ i _ has rest) =
    let P : List Hop → Type 0 = λ xs. Contains xs (To i) in
    further from i to (subst P (same from) has) (leads_as hops others same i.router to rest)

-- the hops of all routers of the network, and marks on those to which they lead from the start
pub record IsKnown (files : List File) (world : World) (start : ℕ) (all : List (List Hop)) (marks : List Bool) :
    Type 0 where
  pub long : length all ≡ length files
  pub sent : AreSent files world all
  pub reached : AreReached all start marks

hops_same : (files : List File) (world : World) (start : ℕ) (all : List (List Hop)) (marks : List Bool) →
    IsKnown files world start all marks → (router : ℕ) → hops_at all router ≡ next_hops files world router
hops_same files world start all marks is router = same_hops files world all router is.long is.sent

marked_leads : (files : List File) (world : World) (start : ℕ) (all : List (List Hop)) (marks : List Bool) →
    IsKnown files world start all marks → (router : ℕ) → known marks router ≡ true →
    Leads (next_hops files world) start router
marked_leads files world start all marks is router marked =
    leads_as (hops_at all) (next_hops files world) (hops_same files world start all marks is) start router
    (is.reached.sound router marked)

leads_marked : (files : List File) (world : World) (start : ℕ) (all : List (List Hop)) (marks : List Bool) →
    IsKnown files world start all marks → (router : ℕ) → Leads (next_hops files world) start router →
    known marks router ≡ true
leads_marked files world start all marks is router leads =
    is.reached.whole router
    (leads_as (next_hops files world) (hops_at all) (λ r. sym (hops_same files world start all marks is r)) start router
    leads)

-- ---- each fate that was found is one

-- what a fate that a hop is says of a walk that ends by this hop
abbrev EndsBy : List File → List ℕ → Hop → Fate → Type 0
EndsBy files name hop fate =
    (end : End) × (hop ≡ Ends end) × (is_end end ≡ true)
    × ((walk : Walk) → walk.end ≡ end → LastStands (IsCalled files name) walk → EndsSo files walk fate)

by_end : (files : List File) (name : List ℕ) (end : End) (fate : Fate) → fate_of name end ≡ Some fate →
    EndsBy files name (Ends end) fate
by_end files name EndDelivered fate is =
    let same : Delivered name ≡ fate = cc in
    (EndDelivered, refl, refl, λ walk ends last. subst (λ f. EndsSo files walk f) same (ends, last))
by_end files name (EndLeft a) fate is =
    let same : Left name a ≡ fate = cc in
    (EndLeft a, refl, refl, λ walk ends last. subst (λ f. EndsSo files walk f) same (ends, last))
by_end files name NoRoute fate is =
    let same : BlackHole ≡ fate = cc in
    (NoRoute, refl, refl, λ walk ends last. subst (λ f. EndsSo files walk f) same (inl ends))
by_end files name Discarded fate is =
    let same : BlackHole ≡ fate = cc in
    (Discarded, refl, refl, λ walk ends last. subst (λ f. EndsSo files walk f) same (inr ends))
by_end files name (DeniedIn i) fate is = cc
by_end files name DeniedOut fate is = cc
by_end files name EndLoop fate is = cc
by_end files name Open fate is = cc

by_hop : (files : List File) (name : List ℕ) (hop : Hop) (fate : Fate) → fate_by name hop ≡ Some fate →
    EndsBy files name hop fate
by_hop files name (To i) fate is = cc
by_hop files name (Ends end) fate is = by_end files name end fate is

found_end : (files : List File) (world : World) (start : ℕ) (all : List (List Hop)) (marks : List Bool) (fate : Fate) →
    IsKnown files world start all marks → IsEndOf files all marks fate → HasFate files world start fate
found_end files world start all marks fate is (router, file, found, marked, (hop, has, says)) =
    let (end, same, proper, so) = by_hop files file.hostname hop fate says in
    let hops : ℕ → List Hop = next_hops files world in
    let leads = marked_leads files world start all marks is router marked in
    let (stood, now, followed, begun_so, at, _) =
    follow hops start router leads (at_router start) [] (at_router start) refl
    (followed-start hops (at_router start)) (begun-start (at_router start)) in
    let P : Hop → Type 0 = λ h. Contains (hops_at all router) h in
    let Q : List Hop → Type 0 = λ xs. Contains xs (Ends end) in
    let R : ℕ → Type 0 = λ r. Contains (hops r) (Ends end) in
    let there : Contains (hops now.router) (Ends end) =
    subst R (sym at) (subst Q (hops_same files world start all marks is router) (subst P same has)) in
    let (walks, begins) =
    walk_so files world start stood now end followed begun_so (may_end hops stood now end proper there) in
    let walk : Walk = record { hops = stood ++ now ∷ []; end = end } in
    let C : ℕ → Type 0 = λ r. IsCalled files file.hostname r in
    (walk, walks, begins, so walk refl (stood, now, refl, subst C (sym at) (file, found, refl)))

found_round : (files : List File) (world : World) (start : ℕ) (all : List (List Hop)) (marks : List Bool) →
    IsKnown files world start all marks → SomeRound all marks → HasFate files world start Loop
found_round files world start all marks is (router, marked, (i, has, back)) =
    let hops : ℕ → List Hop = next_hops files world in
    let same = hops_same files world start all marks is in
    let leads = marked_leads files world start all marks is router marked in
    let (stood, now, followed, begun_so, at, _) =
    follow hops start router leads (at_router start) [] (at_router start) refl
    (followed-start hops (at_router start)) (begun-start (at_router start)) in
    let then : Start = record { router = i.router; iface = Some i.at } in
    let Q : List Hop → Type 0 = λ xs. Contains xs (To i) in
    let R : ℕ → Type 0 = λ r. Contains (hops r) (To i) in
    let leads_to : LeadsTo hops now then = (i.at, refl, subst R (sym at) (subst Q (same router) has)) in
    let (more, last, on, begun_more, ends, keeps) =
    follow hops i.router router (leads_as (hops_at all) hops same i.router router back) (at_router start)
    (stood ++ now ∷ []) then refl (followed-step hops stood now then followed leads_to)
    (begun-step (at_router start) stood now then begun_so) in
    let (k, within, there) = keeps now (Contains-push stood now) in
    let may : MayEnd hops more last EndLoop = (k, now, within, there, at ∙ sym ends) in
    let (walks, begins) = walk_so files world start more last EndLoop on begun_more may in
    (record { hops = more ++ last ∷ []; end = EndLoop }, walks, begins, refl)

-- ---- each fate was found

-- a walk that ends by itself ends at a marked router, of which P holds where it does of the last
walk_ends : (files : List File) (world : World) (start : ℕ) (all : List (List Hop)) (marks : List Bool) (walk : Walk)
    (end : End) → IsKnown files world start all marks → IsWalk files world walk → BeginsAt (at_router start) walk →
    walk.end ≡ end → is_end end ≡ true →
    (last : Start) × (known marks last.router ≡ true) × Contains (hops_at all last.router) (Ends end)
    × ((front : List Start) × (walk.hops ≡ front ++ last ∷ []))
walk_ends files world start all marks walk end is walks begins ends proper =
    let hops : ℕ → List Hop = next_hops files world in
    let (on, (rest, same)) = begun files world walk.hops walk.end start walks begins in
    let G : List Start → Type 0 = λ hs. GoesOn hops [] hs end in
    let E : End → Type 0 = λ e. GoesOn hops [] walk.hops e in
    let (front, last, at_last, leads, has) =
    from_end hops [] (at_router start) rest end proper (subst G same (subst E ends on)) in
    let Q : List Hop → Type 0 = λ xs. Contains xs (Ends end) in (
      last,
      leads_marked files world start all marks is last.router leads,
      subst Q (sym (hops_same files world start all marks is last.router)) has,
      (front, same ∙ at_last),
    )

called_end : (files : List File) (world : World) (start : ℕ) (all : List (List Hop)) (marks : List Bool) (walk : Walk)
    (end : End) (name : List ℕ) (fate : Fate) → IsKnown files world start all marks → IsWalk files world walk →
    BeginsAt (at_router start) walk → walk.end ≡ end → is_end end ≡ true →
    LastStands (IsCalled files name) walk → fate_of name end ≡ Some fate → IsEndOf files all marks fate
called_end files world start all marks walk end name fate is walks begins ends proper (front, last, same, called)
    says =
    let (other, marked, has, (before, as_well)) =
    walk_ends files world start all marks walk end is walks begins ends proper in
    let one : last ≡ other = last-same front before last other (sym same ∙ as_well) in
    let C : Start → Type 0 = λ s. IsCalled files name s.router in
    let (file, found, hostname) = subst C one called in
    (other.router, file, found, marked, (Ends end, has, ap (λ n. fate_of n end) hostname ∙ says))

lost_end : (files : List File) (world : World) (start : ℕ) (all : List (List Hop)) (marks : List Bool) (walk : Walk)
    (end : End) → IsKnown files world start all marks → IsWalk files world walk → BeginsAt (at_router start) walk →
    walk.end ≡ end → is_end end ≡ true → ((name : List ℕ) → fate_of name end ≡ Some BlackHole) →
    IsEndOf files all marks BlackHole
lost_end files world start all marks walk end is walks begins ends proper says =
    let (last, marked, has, _) = walk_ends files world start all marks walk end is walks begins ends proper in
    let here = hops_within all last.router (Ends end) has in
    let (file, found) = item_there files last.router (omega (arith, is.long, here)) in
    (last.router, file, found, marked, (Ends end, has, says file.hostname))

round_found : (files : List File) (world : World) (start : ℕ) (all : List (List Hop)) (marks : List Bool)
    (walk : Walk) → IsKnown files world start all marks → IsWalk files world walk → BeginsAt (at_router start) walk →
    walk.end ≡ EndLoop → SomeRound all marks
round_found files world start all marks walk is walks begins ends =
    let hops : ℕ → List Hop = next_hops files world in
    let (on, (rest, same)) = begun files world walk.hops walk.end start walks begins in
    let G : List Start → Type 0 = λ hs. GoesOn hops [] hs EndLoop in
    let E : End → Type 0 = λ e. GoesOn hops [] walk.hops e in
    let (router, leads, (i, has, back)) =
    from_round hops start [] (at_router start) rest (λ s (k, within, _). absurd (omega (arith, within))) (here start)
    (subst G same (subst E ends on)) in
    let Q : List Hop → Type 0 = λ xs. Contains xs (To i) in
    let others : (r : ℕ) → next_hops files world r ≡ hops_at all r =
    λ r. sym (hops_same files world start all marks is r) in (
      router,
      leads_marked files world start all marks is router leads,
      (i, subst Q (others router) has, leads_as hops (hops_at all) others i.router router back),
    )

fate_found : (files : List File) (world : World) (start : ℕ) (all : List (List Hop)) (marks : List Bool) (fate : Fate) →
    IsKnown files world start all marks → HasFate files world start fate → IsFateOf files all marks fate
fate_found files world start all marks (Delivered name) is (walk, walks, begins, (ends, last)) =
    inl (called_end files world start all marks walk EndDelivered name (Delivered name) is walks begins ends refl last
    refl)
fate_found files world start all marks (Left name a) is (walk, walks, begins, (ends, last)) =
    inl (called_end files world start all marks walk (EndLeft a) name (Left name a) is walks begins ends refl last refl)
fate_found files world start all marks BlackHole is (walk, walks, begins, inl ends) =
    inl (lost_end files world start all marks walk NoRoute is walks begins ends refl (λ name. refl))
fate_found files world start all marks BlackHole is (walk, walks, begins, inr ends) =
    inl (lost_end files world start all marks walk Discarded is walks begins ends refl (λ name. refl))
fate_found files world start all marks Loop is (walk, walks, begins, ends) =
    inr (refl, round_found files world start all marks walk is walks begins ends)

found_fate : (files : List File) (world : World) (start : ℕ) (all : List (List Hop)) (marks : List Bool) (fate : Fate) →
    IsKnown files world start all marks → IsFateOf files all marks fate → HasFate files world start fate
found_fate files world start all marks fate is (inl end) = found_end files world start all marks fate is end
found_fate files world start all marks fate is (inr (same, round)) =
    let P : Fate → Type 0 = λ f. HasFate files world start f in
    subst P (sym same) (found_round files world start all marks is round)

-- the fates that were found are those of all walks
pub are_fates : (files : List File) (world : World) (start : ℕ) (all : List (List Hop)) (marks : List Bool)
    (fates : List Fate) → length all ≡ length files → AreSent files world all → AreReached all start marks →
    AreThose (IsFateOf files all marks) fates → AreFates files world start fates
are_fates files world start all marks fates long sent reached those =
    let is : IsKnown files world start all marks = record { long = long; sent = sent; reached = reached } in
    record {
      sound = λ fate has. found_fate files world start all marks fate is (those.sound fate has);
      whole = λ fate has. those.whole fate (fate_found files world start all marks fate is has);
      ordered = those.ordered;
    }
