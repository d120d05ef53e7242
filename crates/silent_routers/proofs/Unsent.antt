-- What a silent router holds goes over none of its sessions.
use Rattle.std.proofs.Common.{◌≡◌, ◌⊎◌, ℕ, zero, suc, ◌+◌, ◌^◌, ◌==◌, ◌&&◌, ◌||◌, not, Bool, true, false, List, [], ◌∷◌}
use Rattle.std.proofs.Common.{◌++◌, ◌∙◌, length, map, Option, Some, None, inl, inr, refl, sym, ap, subst, arith}
use Rattle.std.proofs.Common.{if◌then◌else◌}
use Rattle.std.specs.Prelude.{All, IfSome, option_and_then, slice_get}
use Rattle.std.specs.List.{find, filter_map, list_all, list_any}
use Rattle.std.specs.Option.{option_map_or}
use Rattle.std.proofs.lemmas.Bool.{and_from, and_parts, eq-eqb, eqb-true, false≢true, or_cases}
use Rattle.std.proofs.lemmas.List.{nil_from_length}
use Rattle.std.proofs.lemmas.List.Elements.{All-head, All-tail, All-weaker}
use Rattle.mw_text.specs.declared.address.Prefix.{Prefix}
use Rattle.mw_text.specs.Members.{In}
use Rattle.mw_text.proofs.Lists.{all_at, all_found}
use Rattle.ios_ast.specs.declared.bgp.Bgp.{Bgp}
use Rattle.ios_ast.specs.declared.bgp.Neighbour.{Neighbour}
use Rattle.ios_ast.specs.declared.file.File.{File}
use Rattle.route_record.specs.declared.Failures.{Failures}
use Rattle.route_record.specs.declared.Slot.{Slot}
use Rattle.route_record.specs.declared.tracked.Tracked.{Tracked}
use Rattle.net_parts.specs.declared.sessions.SessionEnd.{SessionEnd}
use Rattle.net_parts.specs.Exports.{is_client, is_reflector, may_reflect}
use Rattle.net_parts.specs.Origins.{by_network, into_bgp, local_routes}
use Rattle.net_parts.specs.Sessions.{ends_of, neighbour_of}
use Rattle.route_shapes.specs.Bgp.{BgpShape, bgp_shape}
use Rattle.bgp_shapes.specs.Candidates.{ShapeCandidate, ShapeEnvironment, ShapeSlot, shape_candidates, shape_key}
use Rattle.bgp_shapes.specs.Candidates.{shape_local_routes}
use Rattle.bgp_shapes.specs.Crossings.{crossing, end_numbered, is_from}
use Rattle.bgp_shapes.specs.Exporting.{shape_exported}
use Rattle.bgp_shapes.specs.Held.{held_shape, same_marks, same_path, same_peers, same_preferences, same_shape}
use Rattle.bgp_shapes.proofs.EndLaw.{IsAlike, ends_alike}
use Rattle.bgp_shapes.proofs.Once.{process_of}
use Rattle.net_parts.specs.Decisions.{survivors_by}
use Rattle.rebuilt_routes.specs.Deciding.{is_decided_shape}
use Rattle.rebuilt_routes.proofs.Crossed.{IsShapeSent, IsShapeTaken, shape_sent_parts, shape_taken_parts}
use Rattle.rebuilt_routes.proofs.Numbered.{IsNumbered, numbered_is}
use Rattle.rebuilt_routes.proofs.Sources.{IsLearntShape, IsShapeFrom, shapes_from, survivors_all}
use Rattle.rebuilt_routes.proofs.Words.{found_all}
use Rattle.silent_routers.specs.Silent.{IsSettled, is_plain_peer, is_silent, is_silent_process}

-- ---- the process of a silent router

record Silent (files : List File) (router : ℕ) : Type 0 where
  file : File
  there : slice_get files router ≡ Some file
  process : Bgp
  runs : file.bgp ≡ Some process
  plain : list_all (is_plain_peer process) process.neighbours ≡ true
  networks : process.networks ≡ []
  redistribute : process.redistribute ≡ []

nothing : {X : Type 0} (xs : List X) → (length xs == 0) ≡ true → xs ≡ []
nothing xs none = nil_from_length xs (eqb-true (length xs) 0 none)

silent_parts : (files : List File) (router : ℕ) → is_silent files router ≡ true → Silent files router
silent_parts files router silent = by_file (slice_get files router) refl silent where
  by_process : (file : File) → slice_get files router ≡ Some file → (o : Option Bgp) → file.bgp ≡ o →
      option_map_or is_silent_process o false ≡ true → Silent files router
  by_process file there None runs is = absurd (false≢true is)
  by_process file there (Some process) runs is =
      let both = and_parts (list_all (is_plain_peer process) process.neighbours) _ is in
      let none = and_parts (length process.networks == 0) _ both.1 in record {
        file = file;
        there = there;
        process = process;
        runs = runs;
        plain = both.0;
        networks = nothing process.networks none.0;
        redistribute = nothing process.redistribute none.1;
      }

  by_file : (o : Option File) → slice_get files router ≡ o →
      option_map_or (λ file. option_map_or is_silent_process file.bgp false) o false ≡ true → Silent files router
  by_file None there is = absurd (false≢true is)
  by_file (Some file) there is = by_process file there file.bgp refl is

-- its process is that one
own_process : (files : List File) (router : ℕ) (s : Silent files router) → process_of files router ≡ Some s.process
own_process files router s = ap (option_and_then (λ file. file.bgp)) s.there ∙ s.runs

same_process : (files : List File) (router : ℕ) (s : Silent files router) (process : Bgp) →
    process_of files router ≡ Some process → s.process ≡ process
same_process files router s process runs =
    let same : Some s.process ≡ Some process = sym (own_process files router s) ∙ runs in cc

no_client : (process : Bgp) (ns : List Neighbour) → list_all (is_plain_peer process) ns ≡ true →
    list_any (λ neighbour. neighbour.client) ns ≡ false
no_client process [] plain = refl
no_client process (n ∷ ns) plain =
    let both = and_parts (is_plain_peer process n) (list_all (is_plain_peer process) ns) plain in
    let own = (and_parts (process.asn == n.asn) (not n.client) both.0).1 in
    by n.client own (no_client process ns both.1)
  where
    by : (b : Bool) → not b ≡ true → list_any (λ (neighbour : Neighbour). neighbour.client) ns ≡ false →
        (b || list_any (λ (neighbour : Neighbour). neighbour.client) ns) ≡ false
    by true own rest = absurd (false≢true own)
    by false own rest = rest

-- ---- its sessions are internal

abbrev IsInner : List File → SessionEnd → Type 0
IsInner files end = is_silent files end.router ≡ true → end.internal ≡ true

alike_inner : (files : List File) (end : SessionEnd) → IsAlike files end → IsInner files end
alike_inner files end alike silent =
    let s = silent_parts files end.router silent in
    let same = same_process files end.router s alike.process alike.runs in
    let plain = all_at (is_plain_peer s.process) s.process.neighbours end.neighbour alike.line s.plain
    (ap (λ (q : Bgp). slice_get q.neighbours end.neighbour) same ∙ alike.there) in
    alike.internal ∙ ap (λ (q : Bgp). q.asn == alike.line.asn) (sym same)
    ∙ (and_parts (s.process.asn == alike.line.asn) _ plain).0

all_inner : (files : List File) → All (IsInner files) (ends_of files)
all_inner files =
    All-weaker (IsAlike files) (IsInner files) (alike_inner files) (ends_of files) (ends_alike files)

-- ---- what was learnt over one of them goes over none

numbered_inner : (files : List File) (router n : ℕ) (from : SessionEnd) → is_silent files router ≡ true →
    end_numbered files router n ≡ Some from → from.internal ≡ true
numbered_inner files router n from silent found =
    let inner : IsInner files from =
    subst (λ o. IfSome o (IsInner files)) found
    (found_all (IsInner files) (is_from files router n) (ends_of files) (all_inner files)) in
    inner (ap (is_silent files) (numbered_is files router n from found).own ∙ silent)

pub unsent : (tracked : Tracked) (files : List File) (p : Prefix) (k : ℕ) (far from : SessionEnd) (held : BgpShape) →
    slice_get (ends_of files) k ≡ Some far → is_silent files far.router ≡ true →
    end_numbered files far.router held.from ≡ Some from → shape_exported tracked files far p held ≡ None
unsent tracked files p k far from held there silent found =
    by (shape_exported tracked files far p held) (shape_sent_parts tracked files far p held)
  where
    s : Silent files far.router
    s = silent_parts files far.router silent

    may_not : (a b c d : Bool) → b ≡ true → c ≡ true → d ≡ false → (a && (not (b && c) || d)) ≡ true → false ≡ true
    may_not true true true false one two three may = may
    may_not false true true false one two three may = may
    may_not a false c d one two three may = one
    may_not a true false d one two three may = two
    may_not a true true true one two three may = sym three

    by : (o : Option BgpShape) → IfSome o (IsShapeSent tracked files far held) → o ≡ None
    by None sent = refl
    by (Some m) sent =
        let same = same_process files far.router s sent.process sent.runs in
        let plain : is_reflector sent.process ≡ false =
        ap is_reflector (sym same) ∙ no_client s.process s.process.neighbours s.plain in
        let may = ap (λ o. (crossing files sent.process sent.neighbour far o).may) (sym found) ∙ sent.may in
        absurd (false≢true (may_not (not (from.neighbour == far.neighbour)) from.internal far.internal
        (may_reflect files sent.process from far)
        (numbered_inner files far.router held.from from silent found)
        (all_found (IsInner files) (ends_of files) k far (all_inner files) there silent)
        (ap (λ b. b && (is_client files from || is_client files far)) plain) may))

-- ---- what it holds was learnt over one of them

no_own : (tracked : Tracked) (files : List File) (router : ℕ) (s : Silent files router) (p : Prefix) (o : Option ShapeSlot)
    → option_map_or (shape_local_routes tracked files router s.file s.process p) o [] ≡ []
unfolding local_routes
no_own tracked files router s p None = refl
no_own tracked files router s p (Some slot) =
    let bare : Slot = record { ospf = slot.ospf; bgp = None; rib = slot.rib } in
    (λ i. map (bgp_shape tracked) (filter_map (by_network s.file p bare) (s.networks i)
    ++ filter_map (into_bgp files router s.file p bare) (s.redistribute i)))

some_passes : {X : Type 0} (P : X → Type 0) (q : X → Bool) (xs : List X) → list_any q xs ≡ true → All P xs →
    (x : X) × (q x ≡ true) × P x
some_passes P q [] any all = absurd (false≢true any)
some_passes P q (x ∷ xs) any all = elim (or_cases (q x) (list_any q xs) any) [
  | inl here ↦ (x, here, All-head P x xs all)
  | inr later ↦ some_passes P q xs later (All-tail P x xs all)
]

found_some : {X : Type 0} (p : X → Bool) (xs : List X) (k : ℕ) (x : X) → slice_get xs k ≡ Some x → p x ≡ true →
    (y : X) × (find p xs ≡ Some y)
found_some p [] k x there passes = absurd cc
found_some p (y ∷ ys) zero x there passes =
    let same : y ≡ x = cc in
    (y, ap (λ b. if b then Some y else find p ys) (ap p same ∙ passes))
found_some {X = X} p (y ∷ ys) (suc k) x there passes = by (p y) (found_some p ys k x there passes) where
  by : (b : Bool) → (z : X) × (find p ys ≡ Some z) → (z : X) × ((if b then Some y else find p ys) ≡ Some z)
  by true rest = (y, refl)
  by false rest = rest

same_from : (a b : BgpShape) → same_shape a b ≡ true → a.from ≡ b.from
unfolding same_shape
same_from a b same =
    let rest = (and_parts (same_preferences a b && same_path a b) _ same).1 in
    let peers = (and_parts (same_peers a b) (same_marks a b) rest).0 in
    let from = (and_parts ((a.next_hop == b.next_hop) && (a.originator == b.originator)) _ peers).1 in
    eqb-true a.from b.from (and_parts (a.from == b.from) _ from).0

module _ (tracked : Tracked) (files : List File) (failures : Failures) (environment : ShapeEnvironment) (p : Prefix)
    (others : ℕ → Option ShapeSlot) where
  candidate_from : (router : ℕ) (s : Silent files router) (c : ShapeCandidate) (held : BgpShape) →
      same_shape c.rec held ≡ true →
      IsShapeFrom tracked files failures environment others p router
      (option_map_or (shape_local_routes tracked files router s.file s.process p) (others router) []) c →
      (from : SessionEnd) × (end_numbered files router held.from ≡ Some from)
  candidate_from router s c held same (inl own) =
      absurd (subst (In c.rec) (no_own tracked files router s p (others router)) own)
  candidate_from router s c held same (inr learnt) =
      let taken : IsShapeTaken tracked files learnt.end learnt.message c.rec =
      subst (λ o. IfSome o (IsShapeTaken tracked files learnt.end learnt.message)) learnt.taken
      (shape_taken_parts tracked files learnt.end p learnt.message) in
      let number : 2 ^ 32 + taken.neighbour.addr.0 ≡ held.from = sym taken.from ∙ same_from c.rec held same in
      found_some (is_from files router held.from) (ends_of files) learnt.at learnt.end learnt.is.there
      (and_from (learnt.end.router == router) _ (eq-eqb learnt.end.router router learnt.is.own)
      (ap (λ o. option_map_or (λ neighbour. 2 ^ 32 + neighbour.addr.0 == held.from) o false) taken.named
      ∙ eq-eqb (2 ^ 32 + taken.neighbour.addr.0) held.from number))

  held_from : (router : ℕ) (s : Silent files router) (held : BgpShape) →
      is_decided_shape tracked files failures environment others router s.file p (Some held) ≡ true →
      (from : SessionEnd) × (end_numbered files router held.from ≡ Some from)
  unfolding held_shape
  held_from router s held decided =
      let always = s.process.always_compare in
      let by_id = s.process.compare_routerid in
      let all = shape_candidates tracked files failures environment others router s.file s.process p in
      let own = option_map_or (shape_local_routes tracked files router s.file s.process p) (others router) [] in
      let P = IsShapeFrom tracked files failures environment others p router own in
      let left : held_shape always by_id all (Some held) ≡ true =
      sym (ap (λ o. option_map_or (λ (q : Bgp). held_shape q.always_compare q.compare_routerid
      (shape_candidates tracked files failures environment others router s.file q p) (Some held)) o false) s.runs)
      ∙ decided in
      let some = some_passes P (λ c. same_shape c.rec held) (survivors_by shape_key always by_id all) left
      (survivors_all P shape_key always by_id all
      (shapes_from tracked files failures environment others p router s.file s.process)) in
      candidate_from router s some.0 held some.1 some.2

  -- so it sends nothing of it
  pub settled_unsent : (slots : ℕ → Option ShapeSlot) (k : ℕ) (far : SessionEnd) →
      slice_get (ends_of files) k ≡ Some far → is_silent files far.router ≡ true →
      IsSettled tracked files failures environment p others slots far.router →
      option_and_then (shape_exported tracked files far p)
      (option_and_then (λ (slot : ShapeSlot). slot.bgp) (slots far.router)) ≡ None
  settled_unsent slots k far there silent settled = by_slot (slots far.router) refl where
    s : Silent files far.router
    s = silent_parts files far.router silent

    by_route : (slot : ShapeSlot) → slots far.router ≡ Some slot → (o : Option BgpShape) → slot.bgp ≡ o →
        option_and_then (shape_exported tracked files far p) o ≡ None
    by_route slot is None holds = refl
    by_route slot is (Some held) holds = elim (settled s.file slot s.there is) [
      | inl none ↦ let never : Some held ≡ None = sym holds ∙ none in absurd cc
      | inr decided ↦
          let from = held_from far.router s held
          (ap (is_decided_shape tracked files failures environment others far.router s.file p) (sym holds) ∙ decided) in
          unsent tracked files p k far from.0 held there silent from.1
    ]

    by_slot : (o : Option ShapeSlot) → slots far.router ≡ o →
        option_and_then (shape_exported tracked files far p) (option_and_then (λ (slot : ShapeSlot). slot.bgp) o) ≡ None
    by_slot None is = refl
    by_slot (Some slot) is = by_route slot is slot.bgp refl
