-- From which routers a walk ends at a target.
use Rattle.std.proofs.Common.{◌≡◌, ℕ, zero, suc, ◌<◌, Bool, true, false, List, [], ◌∷◌, ◌++◌, length, set, Option}
use Rattle.std.proofs.Common.{Some, None, refl, sym, ap, subst, arith, ◌∙◌}
use Rattle.std.specs.Prelude.{Contains, slice_get, unwrap_or}
use Rattle.std.specs.List.{list_any}
use Rattle.std.specs.Option.{option_map_or}
use Rattle.std.proofs.lemmas.List.Folds.{Any-from_list_any, list_any-from_Any}
use Rattle.std.proofs.lemmas.Option.{slice_get_within}
use Rattle.mw_text.proofs.Lists.{item_there}
use Rattle.ios_ast.specs.declared.file.File.{File}
use Rattle.route_record.specs.declared.World.{World}
use Rattle.net_interfaces.specs.declared.interfaces.IfaceId.{IfaceId}
use Rattle.net_parts.specs.Routing.{up_interfaces}
use Rattle.question_lang.specs.declared.question.Start.{Start}
use Rattle.question_lang.specs.declared.question.Target.{Target}
use Rattle.question_lang.specs.declared.question.Target.TheVariants.{Router, Subnet, Peer}
use Rattle.question_lang.specs.declared.walk.Hop.{Hop}
use Rattle.question_lang.specs.declared.walk.Hop.TheVariants.{To, Ends}
use Rattle.question_lang.specs.declared.walk.Walk.{Walk}
use Rattle.question_lang.specs.Breaking.{EndsAt, NoneArrives, at_router}
use Rattle.question_lang.specs.Hops.{all_up, hops_over, next_hops}
use Rattle.question_lang.specs.Walks.{GoesOn, MayEnd}
use Rattle.walk_def.proofs.Known.{known-set}
use Rattle.walk_def.proofs.Members.{last-same}
use Rattle.walk_def.proofs.Worlds.{begun}
use Rattle.walk_def.specs.Arriving.{Arrives, lands, goes, AreArriving, AreLanding, AreShut, IsLandingMark}
use Rattle.walk_def.specs.Arriving.{IsTargetRouter, Lands, LastIn, leads_to_known, target_end}
use Rattle.walk_def.specs.Marks.{known}
use Rattle.walk_def.specs.Sending.{AreSent}

-- ---- ends at a target

may_land : (hops : ℕ → List Hop) (before : List Start) (now : Start) (target : Target) →
    Contains (hops now.router) (Ends (target_end target)) → MayEnd hops before now (target_end target)
may_land hops before now (Router router) has = has
may_land hops before now (Subnet p) has = has
may_land hops before now (Peer router a) has = has

must_land : (hops : ℕ → List Hop) (before : List Start) (now : Start) (target : Target) →
    MayEnd hops before now (target_end target) → Contains (hops now.router) (Ends (target_end target))
must_land hops before now (Router router) may = may
must_land hops before now (Subnet p) may = may
must_land hops before now (Peer router a) may = may

-- a walk ends at the target where its end and its last router are of it
pub at_target : (files : List File) (world : World) (target : Target) (walk : Walk) → walk.end ≡ target_end target →
    LastIn (IsTargetRouter files world target) walk.hops → EndsAt files world target walk
at_target files world (Router router) walk end last = (end, last)
at_target files world (Subnet p) walk end last = (end, last)
at_target files world (Peer router a) walk end last = (end, last)

pub from_target : (files : List File) (world : World) (target : Target) (walk : Walk) → EndsAt files world target walk →
    (walk.end ≡ target_end target) × LastIn (IsTargetRouter files world target) walk.hops
from_target files world (Router router) walk ends = ends
from_target files world (Subnet p) walk ends = ends
from_target files world (Peer router a) walk ends = ends

-- ---- the first marks

-- the marks of the routers so far
abbrev pub AreLandingSoFar : List File → World → Target → List (List Hop) → List Bool → Type 0
AreLandingSoFar files world target hops marks =
    (router : ℕ) (mark : Bool) → slice_get marks router ≡ Some mark → IsLandingMark files world target hops router mark

pub landing_mark : (files : List File) (world : World) (target : Target) (hops : List (List Hop)) (router : ℕ)
    (own : List Hop) (mark : Bool) →
    AreSent files world hops → slice_get hops router ≡ Some own →
    (mark ≡ true → Lands files world target router own) → (mark ≡ false → Lands files world target router own → ⊥) →
    IsLandingMark files world target hops router mark
landing_mark files world target hops router own mark sent found lands_so not_so = (
  λ marked. let P : List Hop → Type 0 = λ xs. Lands files world target router xs in
      subst P (sent router own found) (lands_so marked),
  λ unmarked other there lands_here.
      let same : other ≡ own = cc in
      let P : List Hop → Type 0 = λ xs. Lands files world target router xs in not_so unmarked (subst P same lands_here),
)

marked_there : (o : Option Bool) → unwrap_or o false ≡ true → o ≡ Some true
marked_there None h = cc
marked_there (Some b) h = ap Some h

pub all_landing : (files : List File) (world : World) (target : Target) (hops : List (List Hop)) (marks : List Bool) →
    length marks ≡ length hops → AreLandingSoFar files world target hops marks
    → AreLanding files world target hops marks
all_landing files world target hops marks long each = record {
  sound = λ router marked. (each router true (marked_there (slice_get marks router) marked)).0 refl;
  whole = λ router own found unmarked lands_here.
      let mark = item_there marks router (omega (arith, long, slice_get_within hops router own found)) in
      let is_false : mark.0 ≡ false = ap (λ o. unwrap_or o false) (sym mark.1) ∙ unmarked in
      (each router mark.0 mark.1).1 is_false own found lands_here;
}

-- ---- marking what leads to a marked router

-- a router that is marked stays so
pub known_stays : (marks : List Bool) (at router : ℕ) → known marks router ≡ true → known (set marks at true) router
    ≡ true
known_stays [] at router h = h
known_stays (x ∷ xs) zero zero h = refl
known_stays (x ∷ xs) zero (suc router) h = h
known_stays (x ∷ xs) (suc at) zero h = h
known_stays (x ∷ xs) (suc at) (suc router) h = known_stays xs at router h

arrives_by : (hops : ℕ → List Hop) (landing marks : List Bool) (at : ℕ) (own : List Hop) → own ≡ hops at →
    ((router : ℕ) → known marks router ≡ true → Arrives hops landing router) → list_any (leads_to_known marks) own
    ≡ true →
    Arrives hops landing at
arrives_by hops landing marks at own is_own sound some =
    let (k, hop, within, is, leads) = Any-from_list_any (leads_to_known marks) own some in
    by_hop hop (k, within, is) leads
  where
    by_hop : (hop : Hop) → Contains own hop → leads_to_known marks hop ≡ true → Arrives hops landing at
    by_hop (Ends end) has leads = cc
    by_hop (To i) has leads =
        let P : List Hop → Type 0 = λ xs. Contains xs (To i) in goes at i (subst P is_own has) (sound i.router leads)

-- a router that was found to lead to a marked one may be marked
pub marked_arrives : (all : List (List Hop)) (landing marks read : List Bool) (at : ℕ) → read ≡ marks
    → at < length all →
    ((own : List Hop) → slice_get all at ≡ Some own → list_any (leads_to_known read) own ≡ true) →
    AreArriving all landing marks → AreArriving all landing (set marks at true)
marked_arrives all landing marks read at same within leads sound hops lists router marked =
    let own = item_there all at within in
    let some : list_any (leads_to_known marks) own.0 ≡ true =
    ap (λ xs. list_any (leads_to_known xs) own.0) (sym same) ∙ leads own.0 own.1 in
    known-set (λ r. Arrives hops landing r) marks at router
    (arrives_by hops landing marks at own.0 (lists at own.0 own.1) (sound hops lists) some)
    (sound hops lists router) marked

-- the first marks
pub first_arrive : (all : List (List Hop)) (landing marks : List Bool) → marks ≡ landing → AreArriving all landing marks
first_arrive all landing marks same hops lists router marked =
    lands router (ap (λ xs. known xs router) (sym same) ∙ marked)

-- ---- from a marked router a walk ends at the target

arrival : (files : List File) (world : World) (target : Target) (landing : List Bool) →
    ((router : ℕ) → known landing router ≡ true → Lands files world target router (next_hops files world router)) →
    (router : ℕ) → Arrives (next_hops files world) landing router → (before : List Start) (now : Start) → now.router
    ≡ router →
    (rest : List Start) × GoesOn (next_hops files world) before (now ∷ rest) (target_end target)
    × LastIn (IsTargetRouter files world target) (now ∷ rest)
arrival files world target landing sound router (lands _ marked) before now here =
    let P : ℕ → Type 0 = λ r. Lands files world target r (next_hops files world r) in
    let there : Lands files world target now.router (next_hops files world now.router) =
    subst P (sym here) (sound router marked) in
    ([], may_land (next_hops files world) before now target there.0, ([], now, refl, there.1))
arrival files world target landing sound router (goes _ i has further) before now here =
    let then : Start = record { router = i.router; iface = Some i.at } in
    let (rest, on, (front, last, same, holds)) =
    arrival files world target landing sound i.router further (before ++ now ∷ []) then refl in
    let P : ℕ → Type 0 = λ r. Contains (next_hops files world r) (To i) in
    (then ∷ rest, ((i.at, refl, subst P (sym here) has), on), (now ∷ front, last, ap (λ xs. now ∷ xs) same, holds))

pub some_arrives : (files : List File) (world : World) (target : Target) (all : List (List Hop))
    (landing marks : List Bool) (start : ℕ) →
    AreSent files world all → AreLanding files world target all landing → AreArriving all landing marks
    → known marks start ≡ true →
    NoneArrives files world (at_router start) target → ⊥
some_arrives files world target all landing marks start sent landed arriving marked none =
    let (rest, on, last) =
    arrival files world target landing landed.sound start (arriving (next_hops files world) sent start marked) []
    (at_router start) refl in
    let walk : Walk = record { hops = at_router start ∷ rest; end = target_end target } in
    none walk (tt, on) refl (at_target files world target walk refl last)

-- ---- from one that is not marked none does

unreached : (hops : ℕ → List Hop) (marks : List Bool) (P : ℕ → Type 0) (target : Target) →
    ((router : ℕ) → known marks router ≡ false → Contains (hops router) (Ends (target_end target)) → P router → ⊥) →
    ((router : ℕ) (i : IfaceId) → known marks router ≡ false → Contains (hops router) (To i) → known marks i.router
    ≡ false) →
    (before : List Start) (now : Start) (rest : List Start) → known marks now.router ≡ false →
    GoesOn hops before (now ∷ rest) (target_end target) → LastIn P (now ∷ rest) → ⊥
unreached hops marks P target missed shut before now [] unmarked may (front, last, same, holds) =
    let is_last : now ≡ last = last-same [] front now last same in
    missed now.router unmarked (must_land hops before now target may) (subst (λ s. P s.router) (sym is_last) holds)
unreached hops marks P target missed shut before now (then ∷ rest) unmarked ((at, _, has), on)
    ([], last, same, holds) = cc
unreached hops marks P target missed shut before now (then ∷ rest) unmarked ((at, _, has), on) (
  first
      ∷ front,
  last,
  same,
  holds,
) =
    let later : then ∷ rest ≡ front ++ last ∷ [] = cc in
    unreached hops marks P target missed shut (before ++ now ∷ []) then rest
    (shut now.router (record { router = then.router; at = at }) unmarked has) on (front, last, later, holds)

-- a router that has hops is of the list
own_there : (files : List File) (world : World) (all : List (List Hop)) (router : ℕ) (hop : Hop) → length all
    ≡ length files →
    Contains (next_hops files world router) hop → (own : List Hop) × (slice_get all router ≡ Some own)
own_there files world all router hop long has = by_file (slice_get files router) refl has where
  by_file : (o : Option File) → slice_get files router ≡ o →
      Contains (option_map_or
      (hops_over files world (all_up files world.failures) (up_interfaces files world.failures router) router) o [])
      hop →
      (own : List Hop) × (slice_get all router ≡ Some own)
  by_file None is (k, within, _) = absurd (omega (arith, within))
  by_file (Some file) is has = item_there all router (omega (arith, long, slice_get_within files router file is))

unmarked_first : (landing marks : Bool) → (landing ≡ true → marks ≡ true) → marks ≡ false → landing ≡ false
unmarked_first true marks kept none = let marked = kept refl in cc
unmarked_first false marks kept none = refl

pub no_arrival : (files : List File) (world : World) (target : Target) (all : List (List Hop))
    (landing marks : List Bool) (start : ℕ) →
    length all ≡ length files → AreSent files world all → AreLanding files world target all landing →
    ((router : ℕ) → known landing router ≡ true → known marks router ≡ true) → AreShut all marks → known marks start
    ≡ false →
    NoneArrives files world (at_router start) target
no_arrival files world target all landing marks start long sent landed kept shut unmarked walk is_walk begins ends =
    let hops : ℕ → List Hop = next_hops files world in
    let P : ℕ → Type 0 = IsTargetRouter files world target in
    let at_end = from_target files world target walk ends in
    let (on, (rest, same)) = begun files world walk.hops walk.end start is_walk begins in
    unreached hops marks P target
    (λ router none has holds.
    let (own, found) = own_there files world all router (Ends (target_end target)) long has in
    let Q : List Hop → Type 0 = λ xs. Contains xs (Ends (target_end target)) in
    landed.whole router own found (unmarked_first (known landing router) (known marks router) (kept router) none)
    (subst Q (sym (sent router own found)) has, holds))
    (λ router i none has.
    let (own, found) = own_there files world all router (To i) long has in
    let Q : List Hop → Type 0 = λ xs. Contains xs (To i) in
    unled marks own i (subst Q (sym (sent router own found)) has) (shut router own found none)
    (known marks i.router) refl)
    [] (at_router start) rest unmarked
    (subst (λ hs. GoesOn hops [] hs (target_end target)) same (subst (λ e. GoesOn hops [] walk.hops e) at_end.0 on))
    (subst (LastIn P) same at_end.1)
  where
    unled : (marks : List Bool) (own : List Hop) (i : IfaceId) → Contains own (To i)
        → list_any (leads_to_known marks) own ≡ false →
        (b : Bool) → known marks i.router ≡ b → known marks i.router ≡ false
    unled marks own i (k, within, is) none true marked =
        let some = list_any-from_Any (leads_to_known marks) own (k, To i, within, is, marked) in cc
    unled marks own i has none false unmarked = unmarked
