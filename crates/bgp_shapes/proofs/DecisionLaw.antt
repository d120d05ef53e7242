-- The shapes of survivors are the survivors of shapes, where 32 bits tell the lengths of their lists.
use Rattle.std.proofs.Common.{◌≡◌, ℕ, ◌+◌, ◌^◌, Bool, true, false, List, []}
use Rattle.std.proofs.Common.{◌∷◌, Option, Some, None, length, map, refl, sym, ap, ◌∙◌, arith}
use Rattle.std.specs.Prelude.{All, unwrap_or}
use Rattle.std.proofs.lemmas.Bool.Decides.{nat_tests}
use Rattle.std.proofs.lemmas.List.Elements.{All-head, All-tail}
use Rattle.mw_text.specs.declared.address.Addr.{Addr}
use Rattle.route_record.specs.declared.Learnt.{Learnt}
use Rattle.route_record.specs.declared.Learnt.TheVariants.{Local, Peer}
use Rattle.route_record.specs.declared.tracked.Tracked.{Tracked}
use Rattle.route_record.proofs.Saturated.{saturated-small}
use Rattle.net_parts.specs.Decisions.{Candidate, Key, is_local, key_of}
use Rattle.net_parts.specs.Decisions.{peer_address, survivors, survivors_by}
use Rattle.route_shapes.specs.Bgp.{address_number, learnt_number}
use Rattle.bgp_shapes.specs.Candidates.{address_or, candidate_shape, shape_key}
use Rattle.bgp_shapes.specs.Lengths.{IsShort}
use Rattle.bgp_shapes.specs.Messages.{lacks_address}
use Rattle.bgp_shapes.proofs.FlagLaw.{surviving_picked}
use Rattle.bgp_shapes.specs.Flags.{pick, surviving}

-- ---- what keeps the keys keeps the survivors

pick_all : {X : Type 0} (xs : List X) → pick (map (λ x. true) xs) xs ≡ xs
pick_all [] = refl
pick_all (x ∷ xs) = ap (λ ys. x ∷ ys) (pick_all xs)

pub pick_map : {X Y : Type 0} (f : X → Y) (fs : List Bool) (xs : List X) → map f (pick fs xs) ≡ pick fs (map f xs)
pick_map f [] xs = refl
pick_map f (b ∷ fs) [] = refl
pick_map f (true ∷ fs) (x ∷ xs) = ap (λ ys. f x ∷ ys) (pick_map f fs xs)
pick_map f (false ∷ fs) (x ∷ xs) = pick_map f fs xs

pub survivors_map : {X Y : Type 0} (f : X → Y) (k : X → Key) (l : Y → Key) (always compare_id : Bool) (xs : List X) →
    map k xs ≡ map l (map f xs) →
    map f (survivors_by k always compare_id xs) ≡ survivors_by l always compare_id (map f xs)
survivors_map f k l always compare_id xs same =
    let flags : List Bool = map (λ x. true) xs in
    ap (λ ys. map f (survivors_by k always compare_id ys)) (sym (pick_all xs))
    ∙ ap (map f) (sym (surviving_picked k always compare_id flags xs))
    ∙ pick_map f (surviving always compare_id flags (map k xs)) xs
    ∙ ap (λ keys. pick (surviving always compare_id flags keys) (map f xs)) same
    ∙ surviving_picked l always compare_id flags (map f xs)
    ∙ ap (survivors_by l always compare_id) (sym (pick_map f flags xs) ∙ ap (map f) (pick_all xs))

-- ---- the key of a candidate is that of its shape

is_local_number : (from : Learnt) → is_local from ≡ lacks_address (learnt_number from)
is_local_number Local = refl
is_local_number (Peer a) = grind (arith, nat_tests)

address_there : (a other : ℕ) → a ≡ address_or (2 ^ 32 + a) other
address_there a other = grind (arith, nat_tests)

peer_number : (from : Learnt) → (peer_address from).0 ≡ address_or (learnt_number from) 0
peer_number Local = refl
peer_number (Peer a) = address_there a.0 0

id_number : (o : Option Addr) (peer : Addr) → (unwrap_or o peer).0 ≡ address_or (address_number o) peer.0
id_number None peer = refl
id_number (Some a) peer = address_there a.0 peer.0

key_shape : (tracked : Tracked) (c : Candidate) → IsShort c → key_of c ≡ shape_key (candidate_shape tracked c)
key_shape tracked c short =
    let len = saturated-small (length c.rec.path) short.path in
    let clusters = saturated-small (length c.rec.clusters) short.clusters in
    let local = is_local_number c.rec.from in
    let id = id_number c.rec.originator c.peer_id in
    let address = peer_number c.rec.from in
    λ i. record (key_of c) { len = len i; clusters = clusters i; local = local i; id = id i; address = address i }

keys_shape : (tracked : Tracked) (cs : List Candidate) → All IsShort cs →
    map key_of cs ≡ map shape_key (map (candidate_shape tracked) cs)
keys_shape tracked [] short = refl
keys_shape tracked (c ∷ cs) short =
    let here = key_shape tracked c (All-head IsShort c cs short) in
    let rest = keys_shape tracked cs (All-tail IsShort c cs short) in
    cc

-- the shapes of survivors are the survivors of shapes
pub survivors_shape : (tracked : Tracked) (always compare_id : Bool) (cs : List Candidate) → All IsShort cs →
    map (candidate_shape tracked) (survivors always compare_id cs)
    ≡ survivors_by shape_key always compare_id (map (candidate_shape tracked) cs)
unfolding survivors
survivors_shape tracked always compare_id cs short =
    survivors_map (candidate_shape tracked) key_of shape_key always compare_id cs (keys_shape tracked cs short)
