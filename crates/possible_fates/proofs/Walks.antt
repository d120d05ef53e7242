-- A fate that a packet has in a stable routing is a possible one.
use Rattle.std.proofs.Common.{◌≡◌, ℕ, true, List, [], ◌∷◌, ◌++◌, refl, sym, ap, subst, ◌∙◌}
use Rattle.std.specs.Prelude.{Contains}
use Rattle.std.specs.List.{list_all}
use Rattle.mw_text.specs.declared.address.Addr.{Addr}
use Rattle.ios_ast.specs.declared.file.File.{File}
use Rattle.ios_ast.specs.Limits.{keeps_limits}
use Rattle.route_record.specs.declared.tracked.Tracked.{Tracked}
use Rattle.route_record.specs.declared.World.{World}
use Rattle.net_parts.specs.Tracked.{TracksNet}
use Rattle.question_lang.specs.declared.question.Start.{Start}
use Rattle.question_lang.specs.declared.walk.End.{End}
use Rattle.question_lang.specs.declared.walk.End.TheVariants.{Left as EndLeft}
use Rattle.question_lang.specs.declared.walk.Hop.{Hop}
use Rattle.question_lang.specs.declared.walk.Hop.TheVariants.{Ends}
use Rattle.question_lang.specs.Hops.{next_hops}
use Rattle.question_lang.specs.Walks.{GoesOn, IsWalkOver}
use Rattle.walk_def.proofs.Members.{last-same}
use Rattle.packet_fates.specs.declared.fate.Fate.{Fate}
use Rattle.packet_fates.specs.declared.fate.Fate.TheVariants.{Delivered, Left, BlackHole, Loop}
use Rattle.packet_fates.specs.Fates.{HasFate}
use Rattle.leaving_addresses.proofs.Held.{hop_leaves}
use Rattle.possible_fates.specs.Possible.{EachFate, IsPossible}

-- the last of the standings sends the packet out of the network
abbrev LeavesLast : (ℕ → List Hop) → List Start → Addr → Type 0
LeavesLast hops standings a =
    (front : List Start) × (last : Start) × (standings ≡ front ++ last ∷ [])
    × Contains (hops last.router) (Ends (EndLeft a))

leaves_last : (hops : ℕ → List Hop) (before standings : List Start) (a : Addr) →
    GoesOn hops before standings (EndLeft a) → LeavesLast hops standings a
leaves_last hops before [] a goes = absurd goes
leaves_last hops before (now ∷ []) a goes = ([], now, refl, goes)
leaves_last hops before (now ∷ then ∷ rest) a (_, on) =
    let (front, last, same, has) = leaves_last hops (before ++ now ∷ []) (then ∷ rest) a on in
    (now ∷ front, last, ap (λ xs. now ∷ xs) same, has)

walk_leaves : (files : List File) (world : World) (standings : List Start) (a : Addr) →
    IsWalkOver files world standings (EndLeft a) → LeavesLast (next_hops files world) standings a
walk_leaves files world [] a walks = absurd walks
walk_leaves files world (start ∷ rest) a (_, goes) =
    leaves_last (next_hops files world) [] (start ∷ rest) a goes

-- the router at which a walk leaves the network does so by a hop of its own
left_there : (files : List File) (world : World) (standings front : List Start) (last : Start) (end : End) (a : Addr) →
    IsWalkOver files world standings end → end ≡ EndLeft a → standings ≡ front ++ last ∷ [] →
    Contains (next_hops files world last.router) (Ends (EndLeft a))
left_there files world standings front last end a walks ends same =
    let Walks : End → Type 0 = λ e. IsWalkOver files world standings e in
    let (before, other, as_well, has) = walk_leaves files world standings a (subst Walks ends walks) in
    let one : other ≡ last = last-same before front other last (sym as_well ∙ same) in
    let Has : Start → Type 0 = λ s. Contains (next_hops files world s.router) (Ends (EndLeft a)) in
    subst Has one has

pub each_possible : (tracked : Tracked) (files : List File) → TracksNet files tracked →
    list_all keeps_limits files ≡ true → EachFate files (IsPossible files)
each_possible tracked files net limits world environment start fate may stable has = by_fate fate has where
  by_fate : (fate : Fate) → HasFate files world start fate → IsPossible files fate
  by_fate (Delivered name) (_, _, _, (_, (_, last, _, called))) = (last.router, called)
  by_fate (Left name a) (walk, walks, _, (ends, (front, last, same, called))) = (
    last.router,
    called,
    hop_leaves tracked files world environment net limits may stable last.router a
        (left_there files world walk.hops front last walk.end a walks ends same),
  )
  by_fate BlackHole _ = tt
  by_fate Loop _ = tt
