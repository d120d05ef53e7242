-- The two ends of a session between routers name each other: a neighbour line has the address from which the router at
-- the far side speaks, and its AS number.
use Rattle.std.proofs.Common.{◌≡◌, ℕ, zero, suc, ◌+◌, ◌≤◌, ◌<◌, ◌==◌, ◌&&◌, ◌||◌, not, Bool, true, false, List, []}
use Rattle.std.proofs.Common.{◌∷◌, ◌++◌, get_or, filter, Option, Some, None, if◌then◌else◌, refl, sym, ap}
use Rattle.std.proofs.Common.{◌∙◌, arith}
use Rattle.std.specs.Prelude.{All, IfSome, option_and_then, position, slice_get, unwrap_or}
use Rattle.std.specs.List.{find, list_any, position_or_len}
use Rattle.std.specs.Option.{option_map_or}
use Rattle.std.proofs.lemmas.Bool.{and_from, and_parts, eq-eqb, eqb-true, or_right}
use Rattle.std.proofs.lemmas.Bool.Decides.{nat_tests}
use Rattle.std.proofs.lemmas.List.Elements.{All-append, All-cons, All-filter, All-head, All-nil, All-tail}
use Rattle.std.proofs.lemmas.List.Elements.{All-weaker, filter_passes}
use Rattle.std.proofs.lemmas.List.Quantifiers.{position-Some}
use Rattle.std.proofs.lemmas.Option.{get_or_from_slice_get, same_Some, slice_get-map}
use Rattle.std.proofs.lemmas.Map.Keys.{any_passes_from_place}
use Rattle.mw_text.proofs.Lists.{all_found}
use Rattle.mw_text.proofs.Found.{mapped}
use Rattle.ios_ast.specs.declared.bgp.Bgp.{Bgp}
use Rattle.ios_ast.specs.declared.bgp.Neighbour.{Neighbour}
use Rattle.ios_ast.specs.declared.file.File.{File}
use Rattle.ios_ast.specs.declared.file.Iface.{Iface}
use Rattle.ios_ast.specs.declared.file.IfAddr.{IfAddr}
use Rattle.net_interfaces.specs.declared.interfaces.Addressed.{Addressed}
use Rattle.net_interfaces.specs.declared.interfaces.IfaceId.{IfaceId}
use Rattle.net_interfaces.specs.Interfaces.{addressed, addressed_from, addressed_iface, addressed_routers}
use Rattle.net_parts.specs.declared.sessions.Far.TheVariants.{Outside, Inside}
use Rattle.net_parts.specs.declared.sessions.Peering.{Peering}
use Rattle.net_parts.specs.declared.sessions.SessionEnd.{SessionEnd}
use Rattle.net_parts.specs.Exports.{own_address}
use Rattle.net_parts.specs.Sessions.{end_of, ends_of, far_of, has_session, is_external_peer, meet, names_other}
use Rattle.net_parts.specs.Sessions.{neighbour_of, peering, peerings, peerings_from, peerings_of, peerings_routers}
use Rattle.net_parts.specs.Sessions.{sessions, speaking, speaks_from}
use Rattle.bgp_shapes.proofs.EndLaw.{IsAt, all_there, any_filtered, meet_back, position_there}
use Rattle.bgp_shapes.proofs.Once.{process_of}
use Rattle.rebuilt_routes.proofs.Words.{found_all}

-- ---- an interface is found by its router and its place there

abbrev is_at : IfaceId → Addressed → Bool
is_at id x = (x.id.router == id.router) && (x.id.at == id.at)

abbrev IsFound : List Addressed → Addressed → Type 0
IsFound all x = find (is_at x.id) all ≡ Some x

found_front : {X : Type 0} (p : X → Bool) (xs ys : List X) (x : X) → find p xs ≡ Some x → find p (xs ++ ys) ≡ Some x
found_front p [] ys x is = absurd cc
found_front {X = X} p (z ∷ zs) ys x is = by (p z) is (found_front p zs ys x)
  where
    by : (b : Bool) → (if b then Some z else find p zs) ≡ Some x → (find p zs ≡ Some x → find p (zs ++ ys) ≡ Some x) →
        (if b then Some z else find p (zs ++ ys)) ≡ Some x
    by true is rest = is
    by false is rest = rest is

found_behind : {X : Type 0} (p : X → Bool) (xs ys : List X) → All (λ x. p x ≡ false) xs →
    find p (xs ++ ys) ≡ find p ys
found_behind p [] ys none = refl
found_behind p (z ∷ zs) ys none =
    ap (λ b. if b then Some z else find p (zs ++ ys)) (All-head (λ x. p x ≡ false) z zs none)
    ∙ found_behind p zs ys (All-tail (λ x. p x ≡ false) z zs none)

same_place : (id : IfaceId) → ((id.router == id.router) && (id.at == id.at)) ≡ true
same_place id =
    and_from (id.router == id.router) (id.at == id.at) (eq-eqb id.router id.router refl) (eq-eqb id.at id.at refl)

other_place : (r s i j : ℕ) → i < j → ((r == s) && (i == j)) ≡ false
other_place r s i j less = grind (arith, nat_tests)

other_router : (r s i j : ℕ) → r < s → ((r == s) && (i == j)) ≡ false
other_router r s i j less = grind (arith, nat_tests)

-- those of one router, from that place on
record IsFrom (router at : ℕ) (x : Addressed) : Type 0 where
  own : x.id.router ≡ router
  later : at ≤ x.id.at

from_place : (router at : ℕ) (ifaces : List Iface) → All (IsFrom router at) (addressed_from router at ifaces)
from_place router at [] = All-nil (IsFrom router at)
from_place router at (iface ∷ rest) = by iface.address (from_place router (at + 1) rest)
  where
    more : (x : Addressed) → IsFrom router (at + 1) x → IsFrom router at x
    more x is = let later = is.later in record { own = is.own; later = omega (arith, later) }

    by : (o : Option IfAddr) → All (IsFrom router (at + 1)) (addressed_from router (at + 1) rest) →
        All (IsFrom router at)
        (option_map_or (λ a. addressed_iface (record { router = router; at = at }) iface a ∷ []) o []
        ++ addressed_from router (at + 1) rest)
    by None all = All-weaker (IsFrom router (at + 1)) (IsFrom router at) more (addressed_from router (at + 1) rest) all
    by (Some a) all =
        All-cons (IsFrom router at) (addressed_iface (record { router = router; at = at }) iface a)
        (addressed_from router (at + 1) rest) (record { own = refl; later = omega arith })
        (All-weaker (IsFrom router (at + 1)) (IsFrom router at) more (addressed_from router (at + 1) rest) all)

found_place : (router at : ℕ) (ifaces : List Iface) →
    All (IsFound (addressed_from router at ifaces)) (addressed_from router at ifaces)
found_place router at [] = All-nil (IsFound [])
found_place router at (iface ∷ rest) = by iface.address (found_place router (at + 1) rest)
  where
    behind : List Addressed
    behind = addressed_from router (at + 1) rest

    by : (o : Option IfAddr) → All (IsFound behind) behind →
        All (IsFound (option_map_or (λ a. addressed_iface (record { router = router; at = at }) iface a ∷ []) o []
        ++ behind))
        (option_map_or (λ a. addressed_iface (record { router = router; at = at }) iface a ∷ []) o [] ++ behind)
    by None all = all
    by (Some a) all =
        let here = addressed_iface (record { router = router; at = at }) iface a in
        All-cons (IsFound (here ∷ behind)) here behind
        (ap (λ b. if b then Some here else find (is_at here.id) behind) (same_place here.id))
        (λ k d within. ap (λ b. if b then Some here else find (is_at (get_or behind k d).id) behind)
        (apart (get_or behind k d) (from_place router (at + 1) rest k d within)) ∙ all k d within)
      where
        apart : (x : Addressed) → IsFrom router (at + 1) x →
            ((router == x.id.router) && (at == x.id.at)) ≡ false
        apart x is = let later = is.later in other_place router x.id.router at x.id.at (omega (arith, later))

-- those of the routers from that number on
from_router : (router : ℕ) (files : List File) → All (λ x. router ≤ x.id.router) (addressed_routers router files)
from_router router [] = All-nil (λ x. router ≤ x.id.router)
from_router router (file ∷ rest) =
    All-append (λ x. router ≤ x.id.router) (addressed_from router 0 file.interfaces)
    (addressed_routers (router + 1) rest)
    (All-weaker (IsFrom router 0) (λ x. router ≤ x.id.router) (λ x is. let own = is.own in omega (arith, own))
    (addressed_from router 0 file.interfaces) (from_place router 0 file.interfaces))
    (All-weaker (λ x. router + 1 ≤ x.id.router) (λ x. router ≤ x.id.router) (λ x is. omega (arith, is))
    (addressed_routers (router + 1) rest) (from_router (router + 1) rest))

found_router : (router : ℕ) (files : List File) →
    All (IsFound (addressed_routers router files)) (addressed_routers router files)
found_router router [] = All-nil (IsFound [])
found_router router (file ∷ rest) =
    All-append (IsFound (front ++ behind)) front behind
    (All-weaker (IsFound front) (IsFound (front ++ behind)) (λ x is. found_front (is_at x.id) front behind x is)
    front (found_place router 0 file.interfaces))
    (λ k d within. found_behind (is_at (get_or behind k d).id) front behind
    (apart (get_or behind k d) (from_router (router + 1) rest k d within))
    ∙ found_router (router + 1) rest k d within)
  where
    front : List Addressed
    front = addressed_from router 0 file.interfaces

    behind : List Addressed
    behind = addressed_routers (router + 1) rest

    apart : (x : Addressed) → router + 1 ≤ x.id.router → All (λ y. is_at x.id y ≡ false) front
    apart x above =
        All-weaker (IsFrom router 0) (λ y. is_at x.id y ≡ false) (λ y is.
        let own = is.own in
        other_router y.id.router x.id.router y.id.at x.id.at (omega (arith, own, above))) front
        (from_place router 0 file.interfaces)

-- ---- neighbour lines with their AS numbers, addresses and interfaces

-- a line of these, the first of which is at a place
record IsAmong (all : List Addressed) (of with first : ℕ) (lines : List Neighbour) (a : Peering) : Type 0 where
  router : a.router ≡ of
  asn : a.asn ≡ with
  k : ℕ
  place : a.at ≡ first + k
  line : Neighbour
  there : slice_get lines k ≡ Some line
  remote : a.remote ≡ line.asn
  address : a.neighbour.0 ≡ line.addr.0
  source : IsFound all a.source

among_lines : (all own : List Addressed) → All (IsFound all) own → (router : ℕ) (file : File) (asn first : ℕ)
    (lines : List Neighbour) → All (IsAmong all router asn first lines) (peerings_from own router file asn first lines)
among_lines all own found router file asn first [] = All-nil (IsAmong all router asn first [])
among_lines all own found router file asn first (n ∷ rest) =
    All-append (IsAmong all router asn first (n ∷ rest))
    (option_map_or (λ source. peering router asn first n source ∷ []) (find (speaks_from file n) own) [])
    (peerings_from own router file asn (first + 1) rest)
    (here (find (speaks_from file n) own) (found_all (IsFound all) (speaks_from file n) own found))
    (All-weaker (IsAmong all router asn (first + 1) rest) (IsAmong all router asn first (n ∷ rest)) later
    (peerings_from own router file asn (first + 1) rest) (among_lines all own found router file asn (first + 1) rest))
  where
    later : (a : Peering) → IsAmong all router asn (first + 1) rest a → IsAmong all router asn first (n ∷ rest) a
    later a is =
        let place = is.place in
        record {
          router = is.router;
          asn = is.asn;
          k = suc is.k;
          place = omega (arith, place);
          line = is.line;
          there = is.there;
          remote = is.remote;
          address = is.address;
          source = is.source;
        }

    here : (o : Option Addressed) → IfSome o (IsFound all) → All (IsAmong all router asn first (n ∷ rest))
        (option_map_or (λ source. peering router asn first n source ∷ []) o [])
    here None is = All-nil (IsAmong all router asn first (n ∷ rest))
    here (Some source) is =
        All-cons (IsAmong all router asn first (n ∷ rest)) (peering router asn first n source) [] (record {
          router = refl;
          asn = refl;
          k = zero;
          place = omega arith;
          line = n;
          there = refl;
          remote = refl;
          address = refl;
          source = is;
        }) (All-nil (IsAmong all router asn first (n ∷ rest)))

-- a line of the process that one of some files runs, the first of which has that number
record IsLine (all : List Addressed) (first : ℕ) (files : List File) (a : Peering) : Type 0 where
  k : ℕ
  place : a.router ≡ first + k
  process : Bgp
  runs : process_of files k ≡ Some process
  line : Neighbour
  there : slice_get process.neighbours a.at ≡ Some line
  asn : a.asn ≡ process.asn
  remote : a.remote ≡ line.asn
  address : a.neighbour.0 ≡ line.addr.0
  source : IsFound all a.source

lines_of : (all : List Addressed) → All (IsFound all) all → (first : ℕ) (file : File) (rest : List File) →
    All (IsLine all first (file ∷ rest)) (peerings_of all first file)
lines_of all found first file rest = by_process file.bgp refl
  where
    own : List Addressed
    own = filter (λ x. x.id.router == first) all

    by_process : (o : Option Bgp) → file.bgp ≡ o → All (IsLine all first (file ∷ rest))
        (option_map_or (λ bgp. peerings_from own first file bgp.asn 0 bgp.neighbours) o [])
    by_process None runs = All-nil (IsLine all first (file ∷ rest))
    by_process (Some bgp) runs =
        All-weaker (IsAmong all first bgp.asn 0 bgp.neighbours) (IsLine all first (file ∷ rest)) (λ a is.
        let router = is.router in
        let place : is.k ≡ a.at = (let at = is.place in omega (arith, at)) in
        record {
          k = zero;
          place = omega (arith, router);
          process = bgp;
          runs = runs;
          line = is.line;
          there = ap (slice_get bgp.neighbours) (sym place) ∙ is.there;
          asn = is.asn;
          remote = is.remote;
          address = is.address;
          source = is.source;
        }) (peerings_from own first file bgp.asn 0 bgp.neighbours)
        (among_lines all own (All-filter (λ x. x.id.router == first) (IsFound all) all found) first file bgp.asn 0
        bgp.neighbours)

lines_routers : (all : List Addressed) → All (IsFound all) all → (first : ℕ) (files : List File) →
    All (IsLine all first files) (peerings_routers all first files)
lines_routers all found first [] = All-nil (IsLine all first [])
lines_routers all found first (file ∷ rest) =
    All-append (IsLine all first (file ∷ rest)) (peerings_of all first file) (peerings_routers all (first + 1) rest)
    (lines_of all found first file rest)
    (All-weaker (IsLine all (first + 1) rest) (IsLine all first (file ∷ rest)) later
    (peerings_routers all (first + 1) rest) (lines_routers all found (first + 1) rest))
  where
    later : (a : Peering) → IsLine all (first + 1) rest a → IsLine all first (file ∷ rest) a
    later a is =
        let place = is.place in
        record {
          k = suc is.k;
          place = omega (arith, place);
          process = is.process;
          runs = is.runs;
          line = is.line;
          there = is.there;
          asn = is.asn;
          remote = is.remote;
          address = is.address;
          source = is.source;
        }

session_lines : (files : List File) → All (IsLine (addressed files) 0 files) (sessions files)
unfolding sessions peerings
session_lines files =
    All-filter (has_session (addressed files) (speaking files)) (IsLine (addressed files) 0 files) (speaking files)
    (All-filter (λ a. not a.shutdown) (IsLine (addressed files) 0 files) (peerings files)
    (lines_routers (addressed files) (found_router 0 files) 0 files))

-- ---- the far end

-- a session, with its line
record Stands (files : List File) (a : Peering) : Type 0 where
  line : IsLine (addressed files) 0 files a
  speaks : IsAt (speaking files) a
  session : has_session (addressed files) (speaking files) a ≡ true

standing : (files : List File) → All (Stands files) (sessions files)
unfolding sessions
standing files k d within =
    let test = has_session (addressed files) (speaking files) in
    record {
      line = session_lines files k d within;
      speaks = All-filter test (IsAt (speaking files)) (speaking files) (all_there (speaking files)) k d within;
      session = filter_passes test (speaking files) k d within;
    }

-- one that is towards no external peer meets another one
met_session : (files : List File) (a : Peering) → IsAt (speaking files) a →
    has_session (addressed files) (speaking files) a ≡ true → is_external_peer (addressed files) a ≡ false →
    list_any (meet a) (sessions files) ≡ true
unfolding sessions
met_session files a is stands inside =
    any_filtered (meet a) (has_session (addressed files) (speaking files)) keeps (speaking files)
    (sym (ap (λ b. b || list_any (meet a) (speaking files)) inside) ∙ stands)
  where
    keeps : (b : Peering) → meet a b ≡ true → has_session (addressed files) (speaking files) b ≡ true
    keeps b met =
        or_right (is_external_peer (addressed files) b) (list_any (meet b) (speaking files))
        (any_passes_from_place (meet b) (speaking files) is.k a is.there (meet_back a b met))

-- it meets the one at its far side
far_met : (files : List File) (a b : Peering) (at : ℕ) → Stands files a →
    far_of (addressed files) (sessions files) a ≡ Inside at → slice_get (sessions files) at ≡ Some b → meet a b ≡ true
far_met files a b at stands is there = by_peer (is_external_peer all a) refl is
  where
    all : List Addressed
    all = addressed files

    others : List Peering
    others = sessions files

    by_peer : (outside : Bool) → is_external_peer all a ≡ outside →
        (if outside then Outside else Inside (unwrap_or (position (meet a) others) 0)) ≡ Inside at → meet a b ≡ true
    by_peer true outside far = absurd cc
    by_peer false inside far =
        let some = met_session files a stands.speaks stands.session inside in
        let place = position_or_len (meet a) others in
        let found : position (meet a) others ≡ Some place = position_there (meet a) others some in
        let far_at : Inside (unwrap_or (position (meet a) others) 0) ≡ Inside at = far in
        let same : unwrap_or (position (meet a) others) 0 ≡ at = cc in
        let which : place ≡ at = sym (ap (λ o. unwrap_or o 0) found) ∙ same in
        let met = position-Some (meet a) others place b found in
        sym (ap (meet a) (get_or_from_slice_get others place b b (ap (slice_get others) which ∙ there))) ∙ met.1

-- ---- the ends

-- the neighbour line has the address from which the far router speaks, and the AS number of its process
pub record NamesOther (files : List File) (far : SessionEnd) (neighbour : Neighbour) : Type 0 where
  pub address : (own_address files far).0 ≡ neighbour.addr.0
  pub process : Bgp
  pub runs : process_of files far.router ≡ Some process
  pub asn : process.asn ≡ neighbour.asn

pub names_far : (files : List File) (at far_at : ℕ) (end far : SessionEnd) (neighbour : Neighbour) →
    slice_get (ends_of files) at ≡ Some end → end.far ≡ Inside far_at → slice_get (ends_of files) far_at ≡ Some far →
    neighbour_of files end ≡ Some neighbour → NamesOther files far neighbour
unfolding ends_of
names_far files at far_at end far neighbour there reached far_there named = record {
  address = own ∙ sym address ∙ one.line.address ∙ ap (λ (n : Neighbour). n.addr.0) same_line;
  process = two.line.process;
  runs = ap (process_of files) (sym two_router) ∙ two.line.runs;
  asn = sym two.line.asn ∙ sym remote ∙ one.line.remote ∙ ap (λ (n : Neighbour). n.asn) same_line;
}
  where
    all : List Addressed
    all = addressed files

    make : Peering → SessionEnd
    make = end_of all (sessions files)

    from : (k : ℕ) (e : SessionEnd) → slice_get (ends_of files) k ≡ Some e →
        (x : Peering) × (slice_get (sessions files) k ≡ Some x) × (make x ≡ e)
    from k e there =
        mapped make (slice_get (sessions files) k) e (sym (slice_get-map make (sessions files) k) ∙ there)

    a : (x : Peering) × (slice_get (sessions files) at ≡ Some x) × (make x ≡ end)
    a = from at end there

    b : (x : Peering) × (slice_get (sessions files) far_at ≡ Some x) × (make x ≡ far)
    b = from far_at far far_there

    one : Stands files a.0
    one = all_found (Stands files) (sessions files) at a.0 (standing files) a.1

    two : Stands files b.0
    two = all_found (Stands files) (sessions files) far_at b.0 (standing files) b.1

    met : meet a.0 b.0 ≡ true
    met = far_met files a.0 b.0 far_at one (ap (λ (e : SessionEnd). e.far) a.2 ∙ reached) b.1

    names : ((a.0.neighbour.0 == b.0.source.addr.0) ≡ true) × ((a.0.remote == b.0.asn) ≡ true)
    names = and_parts _ _ (and_parts (names_other a.0 b.0) _ (and_parts (not (a.0.router == b.0.router)) _ met).1).0

    address : a.0.neighbour.0 ≡ b.0.source.addr.0
    address = eqb-true a.0.neighbour.0 b.0.source.addr.0 names.0

    remote : a.0.remote ≡ b.0.asn
    remote = eqb-true a.0.remote b.0.asn names.1

    own : (own_address files far).0 ≡ b.0.source.addr.0
    own =
        ap (λ (e : SessionEnd). (own_address files e).0) (sym b.2)
        ∙ ap (λ (o : Option Addressed). (option_map_or (λ x. x.addr) o (record { 0 = 0 })).0) two.line.source

    one_router : one.line.k ≡ end.router
    one_router =
        (let place = one.line.place in let k : one.line.k ≡ a.0.router = omega (arith, place) in k)
        ∙ ap (λ (e : SessionEnd). e.router) a.2

    two_router : two.line.k ≡ far.router
    two_router =
        (let place = two.line.place in let k : two.line.k ≡ b.0.router = omega (arith, place) in k)
        ∙ ap (λ (e : SessionEnd). e.router) b.2

    same_line : one.line.line ≡ neighbour
    same_line =
        same_Some one.line.line neighbour
        (sym one.line.there
        ∙ sym (ap (option_and_then (λ (bgp : Bgp). slice_get bgp.neighbours a.0.at)) one.line.runs)
        ∙ ap (λ r. option_and_then (λ (bgp : Bgp). slice_get bgp.neighbours a.0.at) (process_of files r)) one_router
        ∙ ap (λ k. option_and_then (λ (bgp : Bgp). slice_get bgp.neighbours k) (process_of files end.router))
        (ap (λ (e : SessionEnd). e.neighbour) a.2)
        ∙ named)
