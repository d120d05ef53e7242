-- For each kind of question: the layers say whether a walk breaks it.
use Rattle.std.proofs.Common.{◌≡◌, ◌≢◌, ℕ, ◌+◌, Bool, true, false, ◌&&◌, ◌||◌, not, List, [], ◌∷◌}
use Rattle.std.proofs.Common.{◌++◌, length}
use Rattle.std.proofs.Common.{◌⊎◌, inl, inr, Option, Some, None, refl, sym, ap, subst, arith, ◌∙◌, set}
use Rattle.std.specs.Prelude.{All}
use Rattle.std.proofs.lemmas.Bool.{and_from, and_parts, or_cases, or_left, or_right}
use Rattle.std.proofs.lemmas.List.Elements.{All-from_recursion, recursion_from_All}
use Rattle.ios_ast.specs.declared.file.File.{File}
use Rattle.route_record.specs.declared.World.{World}
use Rattle.net_interfaces.specs.declared.interfaces.IfaceId.{IfaceId}
use Rattle.question_lang.specs.declared.question.Kind.{Kind}
use Rattle.question_lang.specs.declared.question.Kind.TheVariants.{Reach, Isolate, Waypoint, NoLoop, NoBlackHole}
use Rattle.question_lang.specs.declared.question.Kind.TheVariants.{Within, Alike, NoStable}
use Rattle.question_lang.specs.declared.question.Start.{Start}
use Rattle.question_lang.specs.declared.question.Target.{Target}
use Rattle.question_lang.specs.declared.question.Target.TheVariants.{Router, Subnet, Peer}
use Rattle.question_lang.specs.declared.walk.End.{End}
use Rattle.question_lang.specs.declared.walk.End.TheVariants.{Delivered, Left, NoRoute, Discarded, DeniedIn, DeniedOut}
use Rattle.question_lang.specs.declared.walk.End.TheVariants.{Loop, Open}
use Rattle.question_lang.specs.declared.walk.Hop.{Hop}
use Rattle.question_lang.specs.declared.walk.Walk.{Walk}
use Rattle.question_lang.specs.Breaking.{BeginsAt, Breaks, EndsAt, NoneArrives, at_router}
use Rattle.question_lang.specs.Hops.{next_hops}
use Rattle.question_lang.specs.Walks.{GoesOn, IsWalk, MayBegin}
use Rattle.walk_def.proofs.Arrivals.{at_target, from_target}
use Rattle.walk_def.proofs.Lasts.{no_last}
use Rattle.walk_def.proofs.Members.{last-same}
use Rattle.walk_def.specs.Arriving.{LastIn, target_end}
use Rattle.walk_def.specs.Marks.{is_end, known}
use Rattle.sym_forwarding.specs.Layers.{Beginning, Forwarding, arrives, going, is_broken, loops, silent}
use Rattle.sym_forwarding.specs.Forwardings.{AreForwarding, IsAtTarget, IsBeginning, IsBeginningOf, IsSought}
use Rattle.sym_forwarding.proofs.Arriving.{arrival, arrives_from}
use Rattle.sym_forwarding.proofs.Beginnings.{Begun, begun, denied_walk, stands_in}
use Rattle.sym_forwarding.proofs.Beginnings.{stood, denied}
use Rattle.sym_forwarding.proofs.Edges.{Stands}
use Rattle.sym_forwarding.proofs.Looping.{goes_so_far, loop_from, loops_from, walk_of}
use Rattle.sym_forwarding.proofs.Passing.{passed, passes, stands_without, without}

-- ---- ends at a target

target_proper : (target : Target) → is_end (target_end target) ≡ true
target_proper (Router router) = refl
target_proper (Subnet p) = refl
target_proper (Peer router a) = refl

not_loop : (target : Target) → Loop ≡ target_end target → ⊥
not_loop (Router router) h = cc
not_loop (Subnet p) h = cc
not_loop (Peer router a) h = cc

-- the last standing, with the end, is of the target
sought_at : (files : List File) (world : World) (target : Target) (walk : Walk) → EndsAt files world target walk →
    (is_end walk.end ≡ true) × LastIn (λ r. IsAtTarget files world target r walk.end) walk.hops
sought_at files world target walk ends =
    let (is, (front, last, same, holds)) = from_target files world target walk ends in
    (ap is_end is ∙ target_proper target, (front, last, same, (is, holds)))

ends_at : (files : List File) (world : World) (target : Target) (walk : Walk) →
    LastIn (λ r. IsAtTarget files world target r walk.end) walk.hops → EndsAt files world target walk
ends_at files world target walk (front, last, same, (is, holds)) =
    at_target files world target walk is (front, last, same, holds)

-- a walk that ends elsewhere does not end at the target
not_at : (files : List File) (world : World) (target : Target) (walk : Walk) →
    LastIn (λ r. IsAtTarget files world target r walk.end → ⊥) walk.hops → EndsAt files world target walk → ⊥
not_at files world target walk (front, last, same, missed) ends =
    let (proper, (other, there, is, holds)) = sought_at files world target walk ends in
    let one : there ≡ last = last-same other front there last (sym is ∙ same) in
    let P : Start → Type 0 = λ s. IsAtTarget files world target s.router walk.end in
    missed (subst P one holds)

has_last : (P : ℕ → Type 0) (start : Start) (rest : List Start) →
    ((front : List Start) (last : Start) → start ∷ rest ≡ front ++ last ∷ [] → P last.router) → LastIn P (start ∷ rest)
has_last P start rest holds =
    let (front, last, same) = split start rest in (front, last, same, holds front last same)
  where
    split : (start : Start) (rest : List Start) → (front : List Start) × (last : Start)
        × (start ∷ rest ≡ front ++ last ∷ [])
    split start [] = ([], start, refl)
    split start (then ∷ rest) = let (front, last, same) = split then rest in
        (start ∷ front, last, ap (λ xs. start ∷ xs) same)

-- ---- walks that end as the question asks

-- a walk from the start that ends so
pub record Found (files : List File) (world : World) (Sought : ℕ → End → Type 0) (start : Start) : Type 0 where
  pub walk : Walk
  pub is_walk : IsWalk files world walk
  pub begins : BeginsAt start walk
  pub proper : is_end walk.end ≡ true
  pub last : LastIn (λ r. Sought r walk.end) walk.hops

found : {Sought : ℕ → End → Type 0} (files : List File) (world : World) (table : List Forwarding) →
    Stands (next_hops files world) Sought table → (start : Start) → MayBegin files world start →
    arrives table start.router ≡ true → Found files world Sought start
found files world table stands start may h =
    let there = arrival (next_hops files world) table stands (length table) start.router h [] start refl in
    record {
      walk = record { hops = start ∷ there.rest; end = there.end };
      is_walk = (may, there.goes);
      begins = refl;
      proper = there.proper;
      last = there.last;
    }

-- a walk that ends so begins at a start that is marked
marked : {Sought : ℕ → End → Type 0} (files : List File) (world : World) (table : List Forwarding) →
    Stands (next_hops files world) Sought table → (start : Start) (walk : Walk) → IsWalk files world walk →
    BeginsAt start walk → is_end walk.end ≡ true → LastIn (λ r. Sought r walk.end) walk.hops →
    MayBegin files world start × (arrives table start.router ≡ true)
marked {Sought} files world table stands start walk is_walk begins proper last =
    by_begun (begun files world start walk.hops walk.end is_walk begins)
  where
    by_begun : Begun files world start walk.hops walk.end → MayBegin files world start
        × (arrives table start.router ≡ true)
    by_begun (stood may rest same goes) =
        let P : List Start → Type 0 = λ hs. LastIn (λ r. Sought r walk.end) hs in
        (may, arrives_from (next_hops files world) table stands [] start rest walk.end proper goes (subst P same last))
    by_begun (denied none is i end) = absurd (no_last (λ r. Sought r walk.end) walk.hops none last)

not_open : (end : End) → is_end end ≡ true → end ≡ Open → ⊥
not_open end proper same = let is : is_end end ≡ false = ap is_end same in cc

-- ---- the kinds

reach_yes : (files : List File) (world : World) (start : Start) (target : Target) (at : Beginning)
    (table : List Forwarding) → Stands (next_hops files world) (IsSought files world (Reach start target)) table →
    IsBeginning files world start at → is_broken (Reach start target) at table ≡ true →
    (walk : Option Walk) × Breaks files world (Reach start target) walk
reach_yes files world start target at table stands is h =
    elim (or_cases at.denied (at.begins && (arrives table start.router || loops table start.router)) h) [
      | inl off ↦ let (walk, is_walk, begins, none, (i, end)) = denied_walk files world start (is.denied off) in
          let missed : EndsAt files world target walk → ⊥ =
          λ ends. no_last (λ r. IsAtTarget files world target r walk.end) walk.hops none
          (sought_at files world target walk ends).1 in
          let closed : walk.end ≢ Open = λ same. cc in
          (Some walk, (is_walk, (begins, closed, missed)))
      | inr goes ↦
          let parts = and_parts at.begins (arrives table start.router || loops table start.router) goes in
          elim (or_cases (arrives table start.router) (loops table start.router) parts.1) [
            | inl ends ↦ let there = found files world table stands start (is.begins parts.0) ends in
                let closed : there.walk.end ≢ Open = λ same. not_open there.walk.end there.proper same in (
                  Some there.walk,
                  (there.is_walk, (there.begins, closed, not_at files world target there.walk there.last)),
                )
            | inr back ↦ let (rest, on) = loop_from (next_hops files world) table stands start back in
                let walk : Walk = record { hops = start ∷ rest; end = Loop } in
                let closed : Loop ≢ Open = λ same. cc in
                let missed : EndsAt files world target walk → ⊥ =
                λ ends. not_loop target (from_target files world target walk ends).0 in
                (Some walk, ((is.begins parts.0, on), (refl, closed, missed)))
          ]
    ]

-- an end is one that a router gives, a loop or open
data EndIs : End → Type 0 where
  given : (end : End) → is_end end ≡ true → EndIs end
  a_loop : EndIs Loop
  not_yet : EndIs Open

end_is : (end : End) → EndIs end
end_is Delivered = given Delivered refl
end_is (Left a) = given (Left a) refl
end_is NoRoute = given NoRoute refl
end_is Discarded = given Discarded refl
end_is (DeniedIn i) = given (DeniedIn i) refl
end_is DeniedOut = given DeniedOut refl
end_is Loop = a_loop
end_is Open = not_yet

reach_on : (files : List File) (world : World) (start : Start) (target : Target) (table : List Forwarding) →
    Stands (next_hops files world) (IsSought files world (Reach start target)) table →
    (rest : List Start) (end : End) → GoesOn (next_hops files world) [] (start ∷ rest) end → end ≢ Open →
    (EndsAt files world target (record { hops = start ∷ rest; end = end }) → ⊥) →
    (arrives table start.router || loops table start.router) ≡ true
reach_on files world start target table stands rest end goes closed missed = by_end end (end_is end) goes closed missed
  where
    by_end : (e : End) → EndIs e → GoesOn (next_hops files world) [] (start ∷ rest) e → e ≢ Open →
        (EndsAt files world target (record { hops = start ∷ rest; end = e }) → ⊥) →
        (arrives table start.router || loops table start.router) ≡ true
    by_end _ (given e proper) goes closed missed =
        or_left (arrives table start.router) (loops table start.router)
        (arrives_from (next_hops files world) table stands [] start rest e proper goes
        (has_last (λ r. IsAtTarget files world target r e → ⊥) start rest
        (λ front last same here.
        missed (ends_at files world target (record { hops = start ∷ rest; end = e }) (front, last, same, here)))))
    by_end _ a_loop goes closed missed =
        or_right (arrives table start.router) (loops table start.router)
        (loops_from (next_hops files world) table stands start rest goes)
    by_end _ not_yet goes closed missed = absurd (closed refl)

reach_all : (files : List File) (world : World) (start : Start) (target : Target) (at : Beginning)
    (table : List Forwarding) → Stands (next_hops files world) (IsSought files world (Reach start target)) table →
    IsBeginning files world start at → (walk : Walk) → IsWalk files world walk → BeginsAt start walk →
    walk.end ≢ Open → (EndsAt files world target walk → ⊥) → is_broken (Reach start target) at table ≡ true
reach_all files world start target at table stands is walk is_walk begins closed missed =
    by_begun (begun files world start walk.hops walk.end is_walk begins)
  where
    by_begun : Begun files world start walk.hops walk.end → is_broken (Reach start target) at table ≡ true
    by_begun (stood may rest same goes) =
        let P : List Start → Type 0 = λ hs. EndsAt files world target (record { hops = hs; end = walk.end }) → ⊥ in
        or_right at.denied (at.begins && (arrives table start.router || loops table start.router))
        (and_from at.begins (arrives table start.router || loops table start.router) (is.all_begin may)
        (reach_on files world start target table stands rest walk.end goes closed (subst P same missed)))
    by_begun (denied none off i end) =
        or_left at.denied (at.begins && (arrives table start.router || loops table start.router)) (is.all_denied off)

-- a walk that ends so, where the question asks for one
isolate_yes : (files : List File) (world : World) (start : Start) (target : Target) (at : Beginning)
    (table : List Forwarding) → Stands (next_hops files world) (IsAtTarget files world target) table →
    IsBeginning files world start at → (at.begins && arrives table start.router) ≡ true →
    (walk : Option Walk) × Breaks files world (Isolate start target) walk
isolate_yes files world start target at table stands is h =
    let parts = and_parts at.begins (arrives table start.router) h in
    let there = found files world table stands start (is.begins parts.0) parts.1 in
    (Some there.walk, (there.is_walk, (there.begins, ends_at files world target there.walk there.last)))

isolate_all : (files : List File) (world : World) (start : Start) (target : Target) (at : Beginning)
    (table : List Forwarding) → Stands (next_hops files world) (IsAtTarget files world target) table →
    IsBeginning files world start at → (walk : Walk) → IsWalk files world walk → BeginsAt start walk →
    EndsAt files world target walk → (at.begins && arrives table start.router) ≡ true
isolate_all files world start target at table stands is walk is_walk begins ends =
    let (proper, last) = sought_at files world target walk ends in
    let (may, here) = marked files world table stands start walk is_walk begins proper last in
    and_from at.begins (arrives table start.router) (is.all_begin may) here

-- over the hops of all routers but the waypoint
waypoint_yes : (files : List File) (world : World) (start : Start) (target : Target) (via : ℕ) (at : Beginning)
    (table : List Forwarding) → Stands (next_hops files world) (IsAtTarget files world target) table →
    IsBeginning files world start at → (at.begins && arrives (set table via silent) start.router) ≡ true →
    (walk : Option Walk) × Breaks files world (Waypoint start target via) walk
waypoint_yes files world start target via at table stands is h =
    let parts = and_parts at.begins (arrives (set table via silent) start.router) h in
    let hops : ℕ → List Hop = next_hops files world in
    let others = stands_without hops table stands via in
    let there = arrival (without via hops) (set table via silent) others (length (set table via silent)) start.router
    parts.1 [] start refl in
    let (goes, avoids) = passes via hops [] start there.rest there.end there.proper there.goes in
    let walk : Walk = record { hops = start ∷ there.rest; end = there.end } in (
      Some walk,
      (
        (is.begins parts.0, goes),
        (
          refl,
          ends_at files world target walk there.last,
          All-from_recursion (λ s. s.router ≢ via) (start ∷ there.rest) avoids,
        ),
      ),
    )

waypoint_all : (files : List File) (world : World) (start : Start) (target : Target) (via : ℕ) (at : Beginning)
    (table : List Forwarding) → Stands (next_hops files world) (IsAtTarget files world target) table →
    IsBeginning files world start at → (walk : Walk) → IsWalk files world walk → BeginsAt start walk →
    EndsAt files world target walk → All (λ s. s.router ≢ via) walk.hops →
    (at.begins && arrives (set table via silent) start.router) ≡ true
waypoint_all files world start target via at table stands is walk is_walk begins ends avoids =
    let (proper, last) = sought_at files world target walk ends in
    by_begun proper last (begun files world start walk.hops walk.end is_walk begins)
  where
    by_begun : is_end walk.end ≡ true → LastIn (λ r. IsAtTarget files world target r walk.end) walk.hops →
        Begun files world start walk.hops walk.end →
        (at.begins && arrives (set table via silent) start.router) ≡ true
    by_begun proper last (stood may rest same goes) =
        let hops : ℕ → List Hop = next_hops files world in
        let P : List Start → Type 0 = λ hs. LastIn (λ r. IsAtTarget files world target r walk.end) hs in
        let Q : List Start → Type 0 = λ hs. All (λ s. s.router ≢ via) hs in
        let apart = recursion_from_All (λ s. s.router ≢ via) (start ∷ rest) (subst Q same avoids) in
        let on = passed via hops [] start rest walk.end proper goes apart in
        and_from at.begins (arrives (set table via silent) start.router) (is.all_begin may)
        (arrives_from (without via hops) (set table via silent) (stands_without hops table stands via) [] start rest
        walk.end proper on (subst P same last))
    by_begun proper last (denied none off i end) =
        absurd (no_last (λ r. IsAtTarget files world target r walk.end) walk.hops none last)

loop_yes : (files : List File) (world : World) (start : Start) (at : Beginning) (table : List Forwarding) →
    Stands (next_hops files world) (IsSought files world (NoLoop start)) table → IsBeginning files world start at →
    (at.begins && loops table start.router) ≡ true → (walk : Option Walk) × Breaks files world (NoLoop start) walk
loop_yes files world start at table stands is h =
    let parts = and_parts at.begins (loops table start.router) h in
    let (rest, on) = loop_from (next_hops files world) table stands start parts.1 in
    let walk : Walk = record { hops = start ∷ rest; end = Loop } in
    (Some walk, ((is.begins parts.0, on), (refl, refl)))

loop_all : (files : List File) (world : World) (start : Start) (at : Beginning) (table : List Forwarding) →
    Stands (next_hops files world) (IsSought files world (NoLoop start)) table → IsBeginning files world start at →
    (walk : Walk) → IsWalk files world walk → BeginsAt start walk → walk.end ≡ Loop →
    (at.begins && loops table start.router) ≡ true
loop_all files world start at table stands is walk is_walk begins end =
    by_begun (begun files world start walk.hops walk.end is_walk begins)
  where
    by_begun : Begun files world start walk.hops walk.end → (at.begins && loops table start.router) ≡ true
    by_begun (stood may rest same goes) =
        let P : End → Type 0 = λ e. GoesOn (next_hops files world) [] (start ∷ rest) e in
        and_from at.begins (loops table start.router) (is.all_begin may)
        (loops_from (next_hops files world) table stands start rest (subst P end goes))
    by_begun (denied none off i is_denied) = let both : Loop ≡ DeniedIn i = sym end ∙ is_denied in cc

hole_yes : (files : List File) (world : World) (start : Start) (at : Beginning) (table : List Forwarding) →
    Stands (next_hops files world) (IsSought files world (NoBlackHole start)) table →
    IsBeginning files world start at → (at.begins && arrives table start.router) ≡ true →
    (walk : Option Walk) × Breaks files world (NoBlackHole start) walk
hole_yes files world start at table stands is h =
    let parts = and_parts at.begins (arrives table start.router) h in
    let there = found files world table stands start (is.begins parts.0) parts.1 in
    let (front, last, same, sought) = there.last in
    (Some there.walk, (there.is_walk, (there.begins, sought)))

hole_all : (files : List File) (world : World) (start : Start) (at : Beginning) (table : List Forwarding) →
    Stands (next_hops files world) (IsSought files world (NoBlackHole start)) table →
    IsBeginning files world start at → (walk : Walk) → IsWalk files world walk → BeginsAt start walk →
    (walk.end ≡ NoRoute) ⊎ (walk.end ≡ Discarded) → (at.begins && arrives table start.router) ≡ true
hole_all files world start at table stands is walk is_walk begins lost =
    by_begun (begun files world start walk.hops walk.end is_walk begins)
  where
    proper : (walk.end ≡ NoRoute) ⊎ (walk.end ≡ Discarded) → is_end walk.end ≡ true
    proper (inl same) = ap is_end same
    proper (inr same) = ap is_end same

    not_denied : (i : IfaceId) → walk.end ≡ DeniedIn i → (walk.end ≡ NoRoute) ⊎ (walk.end ≡ Discarded) → ⊥
    not_denied i end (inl same) = cc
    not_denied i end (inr same) = cc

    by_begun : Begun files world start walk.hops walk.end → (at.begins && arrives table start.router) ≡ true
    by_begun (stood may rest same goes) =
        and_from at.begins (arrives table start.router) (is.all_begin may)
        (arrives_from (next_hops files world) table stands [] start rest walk.end (proper lost) goes
        (has_last (λ r. (walk.end ≡ NoRoute) ⊎ (walk.end ≡ Discarded)) start rest (λ front last is_last. lost)))
    by_begun (denied none off i end) = absurd (not_denied i end lost)

within_yes : (files : List File) (world : World) (most : ℕ) (start : Start) (at : Beginning)
    (table : List Forwarding) → Stands (next_hops files world) (IsSought files world (Within most start)) table →
    IsBeginning files world start at → (at.begins && known (going table (most + 1)) start.router) ≡ true →
    (walk : Option Walk) × Breaks files world (Within most start) walk
within_yes files world most start at table stands is h =
    let parts = and_parts at.begins (known (going table (most + 1)) start.router) h in
    let (rest, long, on) = walk_of (next_hops files world) table stands (most + 1) [] start parts.1 in
    let walk : Walk = record { hops = start ∷ rest; end = Open } in
    let as_long : length (start ∷ rest) ≡ most + 2 = omega (arith, long) in
    (Some walk, ((is.begins parts.0, on), (refl, as_long)))

within_all : (files : List File) (world : World) (most : ℕ) (start : Start) (at : Beginning)
    (table : List Forwarding) → Stands (next_hops files world) (IsSought files world (Within most start)) table →
    IsBeginning files world start at → (walk : Walk) → IsWalk files world walk → BeginsAt start walk →
    length walk.hops ≡ most + 2 → (at.begins && known (going table (most + 1)) start.router) ≡ true
within_all files world most start at table stands is walk is_walk begins long =
    by_begun (begun files world start walk.hops walk.end is_walk begins)
  where
    by_begun : Begun files world start walk.hops walk.end →
        (at.begins && known (going table (most + 1)) start.router) ≡ true
    by_begun (stood may rest same goes) =
        let count : length walk.hops ≡ length (start ∷ rest) = ap length same in
        let as_many : length rest ≡ most + 1 = omega (arith, count, long) in
        let P : ℕ → Type 0 = λ n. known (going table n) start.router ≡ true in
        and_from at.begins (known (going table (most + 1)) start.router) (is.all_begin may)
        (subst P as_many
        (goes_so_far (next_hops files world) table stands start rest walk.end (omega (arith, as_many)) goes))
    by_begun (denied none off i end) =
        let nothing : length walk.hops ≡ 0 = ap length none in absurd (omega (arith, nothing, long))

-- ---- from one router, and not from the other

none_arrives : (files : List File) (world : World) (target : Target) (table : List Forwarding) →
    Stands (next_hops files world) (IsAtTarget files world target) table → (router : ℕ) →
    not (arrives table router) ≡ true → NoneArrives files world (at_router router) target
none_arrives files world target table stands router none walk is_walk begins ends =
    let (proper, last) = sought_at files world target walk ends in
    let (may, here) = marked files world table stands (at_router router) walk is_walk begins proper last in
    opposite (arrives table router) here none
  where
    opposite : (b : Bool) → b ≡ true → not b ≡ true → ⊥
    opposite true here none = cc
    opposite false here none = cc

not_marked : (files : List File) (world : World) (target : Target) (table : List Forwarding) →
    Stands (next_hops files world) (IsAtTarget files world target) table → (router : ℕ) →
    NoneArrives files world (at_router router) target → not (arrives table router) ≡ true
not_marked files world target table stands router none = by_mark (arrives table router) refl where
  by_mark : (b : Bool) → arrives table router ≡ b → not b ≡ true
  by_mark false is = refl
  by_mark true is =
      let there = found files world table stands (at_router router) tt is in
      absurd (none there.walk there.is_walk there.begins (ends_at files world target there.walk there.last))

one_arrives : (files : List File) (world : World) (target : Target) (table : List Forwarding) →
    Stands (next_hops files world) (IsAtTarget files world target) table → (a b : ℕ) →
    (arrives table a && not (arrives table b)) ≡ true →
    (walk : Walk) × IsWalk files world walk × EndsAt files world target walk × BeginsAt (at_router a) walk
    × NoneArrives files world (at_router b) target
one_arrives files world target table stands a b h =
    let parts = and_parts (arrives table a) (not (arrives table b)) h in
    let there = found files world table stands (at_router a) tt parts.0 in (
      there.walk,
      there.is_walk,
      ends_at files world target there.walk there.last,
      there.begins,
      none_arrives files world target table stands b parts.1,
    )

alike_yes : (files : List File) (world : World) (a b : ℕ) (target : Target) (table : List Forwarding) →
    Stands (next_hops files world) (IsAtTarget files world target) table →
    ((arrives table a && not (arrives table b)) || (arrives table b && not (arrives table a))) ≡ true →
    (walk : Option Walk) × Breaks files world (Alike a b target) walk
alike_yes files world a b target table stands h =
    elim (or_cases (arrives table a && not (arrives table b)) (arrives table b && not (arrives table a)) h) [
      | inl first ↦ let (walk, is_walk, ends, begins, none) = one_arrives files world target table stands a b first in
          (Some walk, (is_walk, (ends, inl (begins, none))))
      | inr second ↦ let (walk, is_walk, ends, begins, none) = one_arrives files world target table stands b a second in
          (Some walk, (is_walk, (ends, inr (begins, none))))
    ]

arrives_alone : (files : List File) (world : World) (target : Target) (table : List Forwarding) →
    Stands (next_hops files world) (IsAtTarget files world target) table → (a b : ℕ) → (walk : Walk) →
    IsWalk files world walk → EndsAt files world target walk → BeginsAt (at_router a) walk →
    NoneArrives files world (at_router b) target → (arrives table a && not (arrives table b)) ≡ true
arrives_alone files world target table stands a b walk is_walk ends begins none =
    let (proper, last) = sought_at files world target walk ends in
    let (may, here) = marked files world table stands (at_router a) walk is_walk begins proper last in
    and_from (arrives table a) (not (arrives table b)) here (not_marked files world target table stands b none)

alike_all : (files : List File) (world : World) (a b : ℕ) (target : Target) (table : List Forwarding) →
    Stands (next_hops files world) (IsAtTarget files world target) table → (walk : Walk) →
    IsWalk files world walk → EndsAt files world target walk →
    (BeginsAt (at_router a) walk × NoneArrives files world (at_router b) target)
    ⊎ (BeginsAt (at_router b) walk × NoneArrives files world (at_router a) target) →
    ((arrives table a && not (arrives table b)) || (arrives table b && not (arrives table a))) ≡ true
alike_all files world a b target table stands walk is_walk ends (inl (begins, none)) =
    or_left (arrives table a && not (arrives table b)) (arrives table b && not (arrives table a))
    (arrives_alone files world target table stands a b walk is_walk ends begins none)
alike_all files world a b target table stands walk is_walk ends (inr (begins, none)) =
    or_right (arrives table a && not (arrives table b)) (arrives table b && not (arrives table a))
    (arrives_alone files world target table stands b a walk is_walk ends begins none)

-- ---- the law

pub broken_yes : (files : List File) (world : World) (kind : Kind) (at : Beginning) (table : List Forwarding) →
    AreForwarding files world kind table → IsBeginningOf files world kind at → is_broken kind at table ≡ true →
    (walk : Option Walk) × Breaks files world kind walk
broken_yes files world (Reach start target) at table are is h =
    reach_yes files world start target at table (stands_in files world (Reach start target) table are)
    (is start refl) h
broken_yes files world (Isolate start target) at table are is h =
    isolate_yes files world start target at table (stands_in files world (Isolate start target) table are)
    (is start refl) h
broken_yes files world (Waypoint start target via) at table are is h =
    waypoint_yes files world start target via at table
    (stands_in files world (Waypoint start target via) table are) (is start refl) h
broken_yes files world (NoLoop start) at table are is h =
    loop_yes files world start at table (stands_in files world (NoLoop start) table are) (is start refl) h
broken_yes files world (NoBlackHole start) at table are is h =
    hole_yes files world start at table (stands_in files world (NoBlackHole start) table are) (is start refl) h
broken_yes files world (Within most start) at table are is h =
    within_yes files world most start at table (stands_in files world (Within most start) table are)
    (is start refl) h
broken_yes files world (Alike a b target) at table are is h =
    alike_yes files world a b target table (stands_in files world (Alike a b target) table are) h
broken_yes files world NoStable at table are is h = (None, refl)

-- only no stable routing is broken without a walk
walkless : (kind : Kind) (at : Beginning) (table : List Forwarding) → kind ≡ NoStable → is_broken kind at table ≡ true
walkless kind at table same = ap (λ k. is_broken k at table) same

by_walk : (files : List File) (world : World) (kind : Kind) (at : Beginning) (table : List Forwarding) →
    AreForwarding files world kind table → IsBeginningOf files world kind at → (walk : Walk) →
    Breaks files world kind (Some walk) → is_broken kind at table ≡ true
by_walk files world (Reach start target) at table are is walk (is_walk, (begins, closed, missed)) =
    reach_all files world start target at table (stands_in files world (Reach start target) table are)
    (is start refl) walk is_walk begins closed missed
by_walk files world (Isolate start target) at table are is walk (is_walk, (begins, ends)) =
    isolate_all files world start target at table (stands_in files world (Isolate start target) table are)
    (is start refl) walk is_walk begins ends
by_walk files world (Waypoint start target via) at table are is walk (is_walk, (begins, ends, avoids)) =
    waypoint_all files world start target via at table
    (stands_in files world (Waypoint start target via) table are) (is start refl) walk is_walk begins ends avoids
by_walk files world (NoLoop start) at table are is walk (is_walk, (begins, end)) =
    loop_all files world start at table (stands_in files world (NoLoop start) table are) (is start refl) walk is_walk
    begins end
by_walk files world (NoBlackHole start) at table are is walk (is_walk, (begins, lost)) =
    hole_all files world start at table (stands_in files world (NoBlackHole start) table are) (is start refl) walk
    is_walk begins lost
by_walk files world (Within most start) at table are is walk (is_walk, (begins, long)) =
    within_all files world most start at table (stands_in files world (Within most start) table are)
    (is start refl) walk is_walk begins long
by_walk files world (Alike a b target) at table are is walk (is_walk, (ends, which)) =
    alike_all files world a b target table (stands_in files world (Alike a b target) table are) walk is_walk ends which
by_walk files world NoStable at table are is walk breaks = refl

pub broken_all : (files : List File) (world : World) (kind : Kind) (at : Beginning) (table : List Forwarding) →
    AreForwarding files world kind table → IsBeginningOf files world kind at → (walk : Option Walk) →
    Breaks files world kind walk → is_broken kind at table ≡ true
broken_all files world kind at table are is None breaks = walkless kind at table breaks
broken_all files world kind at table are is (Some walk) breaks = by_walk files world kind at table are is walk breaks
