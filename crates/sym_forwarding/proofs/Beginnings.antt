-- Where walks of a question begin, in a world.
use Rattle.std.proofs.Common.{◌≡◌, ℕ, ◌<◌, true, false, List, [], ◌∷◌, length, Option}
use Rattle.std.proofs.Common.{Some, None}
use Rattle.std.proofs.Common.{refl, sym, ap, subst, arith}
use Rattle.std.specs.Prelude.{Contains, slice_get}
use Rattle.std.specs.Option.{option_map_or}
use Rattle.std.proofs.lemmas.Option.{slice_get_within}
use Rattle.ios_ast.specs.declared.file.File.{File}
use Rattle.route_record.specs.declared.World.{World}
use Rattle.net_interfaces.specs.declared.interfaces.IfaceId.{IfaceId}
use Rattle.net_parts.specs.Routing.{up_interfaces}
use Rattle.question_lang.specs.declared.question.Kind.{Kind}
use Rattle.question_lang.specs.declared.question.Start.{Start}
use Rattle.question_lang.specs.declared.walk.End.{End}
use Rattle.question_lang.specs.declared.walk.End.TheVariants.{Delivered, Left, NoRoute, Discarded, DeniedIn, DeniedOut}
use Rattle.question_lang.specs.declared.walk.End.TheVariants.{Loop, Open}
use Rattle.question_lang.specs.declared.walk.Hop.{Hop}
use Rattle.question_lang.specs.declared.walk.Walk.{Walk}
use Rattle.question_lang.specs.Breaking.{BeginsAt, start_of}
use Rattle.question_lang.specs.Hops.{all_up, hops_over, next_hops}
use Rattle.question_lang.specs.Walks.{GoesOn, IsTestedIn, IsWalk, IsWalkOver, MayBegin}
use Rattle.walk_def.proofs.Inside.{next_hops_inside}
use Rattle.walk_def.proofs.Members.{test-of_item}
use Rattle.walk_def.specs.Marks.{is_inside}
use Rattle.sym_forwarding.specs.Layers.{Forwarding}
use Rattle.sym_forwarding.specs.Forwardings.{AreForwarding, IsDenied, IsSought}
use Rattle.sym_forwarding.proofs.Edges.{Stands}

-- ---- the table of a world

-- a router that has hops is of the network
has_file : (files : List File) (world : World) (router : ℕ) (hop : Hop) → Contains (next_hops files world router) hop →
    router < length files
has_file files world router hop has = by_file (slice_get files router) refl has where
  by_file : (o : Option File) → slice_get files router ≡ o →
      Contains (option_map_or
      (hops_over files world (all_up files world.failures) (up_interfaces files world.failures router) router) o [])
      hop → router < length files
  by_file None is (k, within, _) = absurd (omega (arith, within))
  by_file (Some file) is has = slice_get_within files router file is

pub stands_in : (files : List File) (world : World) (kind : Kind) (table : List Forwarding) →
    AreForwarding files world kind table → Stands (next_hops files world) (IsSought files world kind) table
stands_in files world kind table is = record {
  each = is.each;
  own = λ router hop has. let below = has_file files world router hop has in omega (arith, below, is.long);
  inside = λ router hop has.
      let P : ℕ → Type 0 = λ n. is_inside n hop ≡ true in
      subst P (sym is.long)
      (test-of_item (is_inside (length files)) (next_hops files world router) hop
      (next_hops_inside files world router) has);
}

-- ---- the first standing

-- a walk that begins there: it stands there first, or the interface denied it
pub data Begun (files : List File) (world : World) (start : Start) (hops : List Start) (end : End) : Type 0 where
  stood : MayBegin files world start → (rest : List Start) → hops ≡ start ∷ rest →
      GoesOn (next_hops files world) [] (start ∷ rest) end → Begun files world start hops end
  denied : hops ≡ [] → IsDenied files world start → (i : IfaceId) → end ≡ DeniedIn i → Begun files world start hops end

denied_at : (files : List File) (world : World) (i : IfaceId) (start : Start) →
    Some (record { router = i.router; iface = Some i.at }) ≡ Some start → IsTestedIn files world i false →
    IsDenied files world start
denied_at files world i start same tested =
    let is : record { router = i.router; iface = Some i.at } ≡ start = cc in
    let P : Start → Type 0 = λ s. IsDenied files world s in subst P is (i.at, refl, tested)

none_begun : (files : List File) (world : World) (start : Start) (end : End) → IsWalkOver files world [] end →
    start_of [] end ≡ Some start → IsDenied files world start × ((i : IfaceId) × (end ≡ DeniedIn i))
none_begun files world start Delivered walk begins = absurd walk
none_begun files world start (Left a) walk begins = absurd walk
none_begun files world start NoRoute walk begins = absurd walk
none_begun files world start Discarded walk begins = absurd walk
none_begun files world start (DeniedIn i) walk begins = (denied_at files world i start begins walk, (i, refl))
none_begun files world start DeniedOut walk begins = absurd walk
none_begun files world start Loop walk begins = absurd walk
none_begun files world start Open walk begins = absurd walk

pub begun : (files : List File) (world : World) (start : Start) (hops : List Start) (end : End) →
    IsWalkOver files world hops end → start_of hops end ≡ Some start → Begun files world start hops end
begun files world start [] end walk begins =
    let (is_denied, (i, same)) = none_begun files world start end walk begins in denied refl is_denied i same
begun files world start (first ∷ rest) end (may, goes) begins =
    let same : first ≡ start = cc in
    let P : Start → Type 0 = λ s. MayBegin files world s in
    let Q : Start → Type 0 = λ s. GoesOn (next_hops files world) [] (s ∷ rest) end in
    stood (subst P same may) rest (ap (λ s. s ∷ rest) same) (subst Q same goes)

-- a start whose interface denies the packet begins a walk that stands nowhere
pub denied_walk : (files : List File) (world : World) (start : Start) → IsDenied files world start →
    (walk : Walk) × IsWalk files world walk × BeginsAt start walk × (walk.hops ≡ [])
    × ((i : IfaceId) × (walk.end ≡ DeniedIn i))
denied_walk files world start (at, is, tested) =
    let i : IfaceId = record { router = start.router; at = at } in
    let walk : Walk = record { hops = []; end = DeniedIn i } in
    let Q : Option ℕ → Type 0 = λ o. denied_name start at ≡ Some (record { router = start.router; iface = o }) in
    (walk, tested, subst Q (sym is) refl, refl, (i, refl))
  where
    denied_name : Start → ℕ → Option Start
    denied_name s k = Some (record { router = s.router; iface = Some k })
