-- The two ends of a session are alike: both internal or both external. And so are all ends of one router towards one
-- address, where its process names each address once.
use Rattle.std.proofs.Common.{◌≡◌, ℕ, zero, suc, ◌+◌, ◌<◌, ◌==◌, ◌&&◌, ◌||◌, not, Bool, true, false, List, []}
use Rattle.std.proofs.Common.{◌∷◌, length, get_or, map, filter, Option, Some, None, if◌then◌else◌, refl, sym, ap, ◌∙◌}
use Rattle.std.proofs.Common.{arith}
use Rattle.std.specs.Prelude.{All, option_and_then, position, slice_get, unwrap_or}
use Rattle.std.specs.List.{find, list_any, position_or_len}
use Rattle.std.specs.Option.{option_map_or}
use Rattle.std.proofs.lemmas.Bool.{and_from, and_parts, eq-eqb, eqb-true, lt-ltb, or_left, or_right}
use Rattle.std.proofs.lemmas.Bool.Decides.{nat_tests}
use Rattle.std.proofs.lemmas.List.Elements.{All-append, All-cons, All-filter, All-head, All-map, All-nil, All-tail}
use Rattle.std.proofs.lemmas.List.Elements.{All-weaker, filter_passes}
use Rattle.std.proofs.lemmas.List.Quantifiers.{position-Some}
use Rattle.std.proofs.lemmas.Option.{slice_get-get_or, slice_get-map}
use Rattle.std.proofs.lemmas.Map.Keys.{any_passes_from_place}
use Rattle.ios_ast.specs.declared.bgp.Bgp.{Bgp}
use Rattle.ios_ast.specs.declared.bgp.Neighbour.{Neighbour}
use Rattle.ios_ast.specs.declared.file.File.{File}
use Rattle.net_interfaces.specs.declared.interfaces.Addressed.{Addressed}
use Rattle.net_parts.specs.declared.sessions.Far.TheVariants.{Outside, Inside}
use Rattle.net_parts.specs.declared.sessions.Peering.{Peering}
use Rattle.net_parts.specs.declared.sessions.SessionEnd.{SessionEnd}
use Rattle.net_parts.specs.Exports.{end_towards}
use Rattle.net_interfaces.specs.Interfaces.{addressed}
use Rattle.net_parts.specs.Sessions.{end_of, ends_of, far_of, has_session, is_external_peer, meet, names_other}
use Rattle.net_parts.specs.Sessions.{neighbour_of, peering, peerings, peerings_from, peerings_of, peerings_routers}
use Rattle.net_parts.specs.Sessions.{sessions, speaking, speaks_from}
use Rattle.bgp_shapes.proofs.Once.{NamesOnce, process_of}

-- ---- neighbour lines with their AS numbers

-- a line of these, the first of which is at a place
record IsAmong (of with first : ℕ) (lines : List Neighbour) (a : Peering) : Type 0 where
  router : a.router ≡ of
  asn : a.asn ≡ with
  k : ℕ
  place : a.at ≡ first + k
  line : Neighbour
  there : slice_get lines k ≡ Some line
  remote : a.remote ≡ line.asn

among_lines : (own : List Addressed) (router : ℕ) (file : File) (asn first : ℕ) (lines : List Neighbour) →
    All (IsAmong router asn first lines) (peerings_from own router file asn first lines)
among_lines own router file asn first [] = All-nil (IsAmong router asn first [])
among_lines own router file asn first (n ∷ rest) =
    All-append (IsAmong router asn first (n ∷ rest))
    (option_map_or (λ source. peering router asn first n source ∷ []) (find (speaks_from file n) own) [])
    (peerings_from own router file asn (first + 1) rest) (here (find (speaks_from file n) own))
    (All-weaker (IsAmong router asn (first + 1) rest) (IsAmong router asn first (n ∷ rest)) later
    (peerings_from own router file asn (first + 1) rest) (among_lines own router file asn (first + 1) rest))
  where
    later : (a : Peering) → IsAmong router asn (first + 1) rest a → IsAmong router asn first (n ∷ rest) a
    later a is =
        let place = is.place in
        record {
          router = is.router;
          asn = is.asn;
          k = suc is.k;
          place = omega (arith, place);
          line = is.line;
          there = is.there;
          remote = is.remote;
        }

    here : (o : Option Addressed) → All (IsAmong router asn first (n ∷ rest))
        (option_map_or (λ source. peering router asn first n source ∷ []) o [])
    here None = All-nil (IsAmong router asn first (n ∷ rest))
    here (Some source) =
        All-cons (IsAmong router asn first (n ∷ rest)) (peering router asn first n source) [] (record {
          router = refl;
          asn = refl;
          k = zero;
          place = omega arith;
          line = n;
          there = refl;
          remote = refl;
        }) (All-nil (IsAmong router asn first (n ∷ rest)))

-- a line of the process that one of some files runs, the first of which has that number
record IsLine (first : ℕ) (files : List File) (a : Peering) : Type 0 where
  k : ℕ
  place : a.router ≡ first + k
  process : Bgp
  runs : process_of files k ≡ Some process
  line : Neighbour
  there : slice_get process.neighbours a.at ≡ Some line
  asn : a.asn ≡ process.asn
  remote : a.remote ≡ line.asn

lines_of : (all : List Addressed) (first : ℕ) (file : File) (rest : List File) →
    All (IsLine first (file ∷ rest)) (peerings_of all first file)
lines_of all first file rest = by_process file.bgp refl where
  own : List Addressed
  own = filter (λ x. x.id.router == first) all

  by_process : (o : Option Bgp) → file.bgp ≡ o → All (IsLine first (file ∷ rest))
      (option_map_or (λ bgp. peerings_from own first file bgp.asn 0 bgp.neighbours) o [])
  by_process None runs = All-nil (IsLine first (file ∷ rest))
  by_process (Some bgp) runs =
      All-weaker (IsAmong first bgp.asn 0 bgp.neighbours) (IsLine first (file ∷ rest)) (λ a is.
      let router = is.router in
      let place : is.k ≡ a.at = (let at = is.place in omega (arith, at)) in
      record {
        k = zero;
        place = omega (arith, router);
        process = bgp;
        runs = runs;
        line = is.line;
        there = ap (slice_get bgp.neighbours) (sym place) ∙ is.there;
        asn = is.asn;
        remote = is.remote;
      }) (peerings_from own first file bgp.asn 0 bgp.neighbours)
      (among_lines own first file bgp.asn 0 bgp.neighbours)

lines_routers : (all : List Addressed) (first : ℕ) (files : List File) →
    All (IsLine first files) (peerings_routers all first files)
lines_routers all first [] = All-nil (IsLine first [])
lines_routers all first (file ∷ rest) =
    All-append (IsLine first (file ∷ rest)) (peerings_of all first file) (peerings_routers all (first + 1) rest)
    (lines_of all first file rest)
    (All-weaker (IsLine (first + 1) rest) (IsLine first (file ∷ rest)) later
    (peerings_routers all (first + 1) rest) (lines_routers all (first + 1) rest))
  where
    later : (a : Peering) → IsLine (first + 1) rest a → IsLine first (file ∷ rest) a
    later a is =
        let place = is.place in
        record {
          k = suc is.k;
          place = omega (arith, place);
          process = is.process;
          runs = is.runs;
          line = is.line;
          there = is.there;
          asn = is.asn;
          remote = is.remote;
        }

session_lines : (files : List File) → All (IsLine 0 files) (sessions files)
unfolding sessions peerings
session_lines files =
    All-filter (has_session (addressed files) (speaking files)) (IsLine 0 files) (speaking files)
    (All-filter (λ a. not a.shutdown) (IsLine 0 files) (peerings files) (lines_routers (addressed files) 0 files))

-- ---- the far end

meet_numbers : (r s : ℕ) (x y : Bool) (m n p q k l : ℕ) →
    (not (r == s) && (x && (y && ((m == n) || ((p == q) && (k == l)))))) ≡ true →
    (not (s == r) && (y && (x && ((n == m) || ((q == p) && (l == k)))))) ≡ true
meet_numbers r s x y m n p q k l h = grind (arith, nat_tests)

pub meet_back : (a b : Peering) → meet a b ≡ true → meet b a ≡ true
meet_back a b met =
    meet_numbers a.router b.router (names_other a b) (names_other b a) a.asn b.asn a.source.subnet.addr.0
    b.source.subnet.addr.0 a.source.subnet.len b.source.subnet.len met

same_kind : (r s : ℕ) (x y c : Bool) (m n k l : ℕ) →
    (not (r == s) && ((x && (k == n)) && ((y && (l == m)) && c))) ≡ true → (m == k) ≡ (n == l)
same_kind r s x y c m n k l h = grind (arith, nat_tests)

-- of two that meet both are internal, or none
meet_alike : (a b : Peering) → meet a b ≡ true → (a.asn == a.remote) ≡ (b.asn == b.remote)
meet_alike a b met =
    same_kind a.router b.router (a.neighbour.0 == b.source.addr.0) (b.neighbour.0 == a.source.addr.0) _ a.asn b.asn
    a.remote b.remote met

-- what a filter lets pass stands in the list before it, at a place
pub record IsAt {X : Type 0} (xs : List X) (x : X) : Type 0 where
  pub k : ℕ
  pub there : slice_get xs k ≡ Some x

pub all_there : {X : Type 0} (xs : List X) → All (IsAt xs) xs
all_there [] = All-nil (IsAt [])
all_there (x ∷ xs) =
    All-cons (IsAt (x ∷ xs)) x xs (record { k = zero; there = refl })
    (All-weaker (IsAt xs) (IsAt (x ∷ xs)) (λ y is. record { k = suc is.k; there = is.there }) xs (all_there xs))

pub any_filtered : {X : Type 0} (p q : X → Bool) → ((x : X) → p x ≡ true → q x ≡ true) → (xs : List X) →
    list_any p xs ≡ true → list_any p (filter q xs) ≡ true
any_filtered p q keeps [] some = some
any_filtered p q keeps (x ∷ xs) some =
    by_test (p x) (q x) refl refl (any_filtered p q keeps xs) some
  where
    by_test : (a b : Bool) → p x ≡ a → q x ≡ b → (list_any p xs ≡ true → list_any p (filter q xs) ≡ true) →
        (a || list_any p xs) ≡ true → list_any p (if b then x ∷ filter q xs else filter q xs) ≡ true
    by_test true true passes stays rest some = or_left (p x) (list_any p (filter q xs)) passes
    by_test true false passes stays rest some = let kept = keeps x passes in cc
    by_test false true passes stays rest some = or_right (p x) (list_any p (filter q xs)) (rest some)
    by_test false false passes stays rest some = rest some

place_below : {X : Type 0} (p : X → Bool) (xs : List X) → list_any p xs ≡ true → position_or_len p xs < length xs
place_below p [] some = cc
place_below p (x ∷ xs) some = by_test (p x) refl (place_below p xs) some
  where
    by_test : (b : Bool) → p x ≡ b → (list_any p xs ≡ true → position_or_len p xs < length xs) →
        (b || list_any p xs) ≡ true → (if not b then 1 + position_or_len p xs else 0) < suc (length xs)
    by_test true is rest some = omega arith
    by_test false is rest some = let deeper = rest some in omega (arith, deeper)

pub position_there : {X : Type 0} (p : X → Bool) (xs : List X) → list_any p xs ≡ true →
    position p xs ≡ Some (position_or_len p xs)
position_there p xs some =
    ap (λ b. if b then Some (position_or_len p xs) else None)
    (lt-ltb (position_or_len p xs) (length xs) (place_below p xs some))

-- a session that is towards no external peer meets another one
met_session : (files : List File) (a : Peering) → IsAt (speaking files) a →
    has_session (addressed files) (speaking files) a ≡ true → is_external_peer (addressed files) a ≡ false →
    list_any (meet a) (sessions files) ≡ true
unfolding sessions
met_session files a is stands inside =
    any_filtered (meet a) (has_session (addressed files) (speaking files)) keeps (speaking files)
    (sym (ap (λ b. b || list_any (meet a) (speaking files)) inside) ∙ stands)
  where
    keeps : (b : Peering) → meet a b ≡ true → has_session (addressed files) (speaking files) b ≡ true
    keeps b met =
        or_right (is_external_peer (addressed files) b) (list_any (meet b) (speaking files))
        (any_passes_from_place (meet b) (speaking files) is.k a is.there (meet_back a b met))

-- ---- the ends

-- an end, by its neighbour line: it is internal where both AS numbers are one, and so is the end at its far side
pub record IsAlike (files : List File) (end : SessionEnd) : Type 0 where
  pub process : Bgp
  pub runs : process_of files end.router ≡ Some process
  pub line : Neighbour
  pub there : slice_get process.neighbours end.neighbour ≡ Some line
  pub internal : end.internal ≡ (process.asn == line.asn)
  pub far : (at : ℕ) (other : SessionEnd) → end.far ≡ Inside at → slice_get (ends_of files) at ≡ Some other →
      end.internal ≡ other.internal

record Stands (files : List File) (a : Peering) : Type 0 where
  line : IsLine 0 files a
  speaks : IsAt (speaking files) a
  session : has_session (addressed files) (speaking files) a ≡ true

standing : (files : List File) → All (Stands files) (sessions files)
unfolding sessions
standing files k d within =
    let test = has_session (addressed files) (speaking files) in
    record {
      line = session_lines files k d within;
      speaks = All-filter test (IsAt (speaking files)) (speaking files) (all_there (speaking files)) k d within;
      session = filter_passes test (speaking files) k d within;
    }

far_alike : (files : List File) (a : Peering) → Stands files a → (at : ℕ) (other : SessionEnd) →
    far_of (addressed files) (sessions files) a ≡ Inside at → slice_get (ends_of files) at ≡ Some other →
    (a.asn == a.remote) ≡ other.internal
unfolding ends_of
far_alike files a stands at other is there = by_peer (is_external_peer (addressed files) a) refl is where
  all : List Addressed
  all = addressed files

  others : List Peering
  others = sessions files

  by_peer : (outside : Bool) → is_external_peer all a ≡ outside →
      (if outside then Outside else Inside (unwrap_or (position (meet a) others) 0)) ≡ Inside at →
      (a.asn == a.remote) ≡ other.internal
  by_peer true outside far = cc
  by_peer false inside far =
      let some = met_session files a stands.speaks stands.session inside in
      let place = position_or_len (meet a) others in
      let found : position (meet a) others ≡ Some place = position_there (meet a) others some in
      let far_at : Inside (unwrap_or (position (meet a) others) 0) ≡ Inside at = far in
      let same : unwrap_or (position (meet a) others) 0 ≡ at = cc in
      let which : place ≡ at = sym (ap (λ o. unwrap_or o 0) found) ∙ same in
      let met = position-Some (meet a) others place a found in
      let b = get_or others place a in
      let here : slice_get (map (end_of all others) others) place ≡ Some (end_of all others b) =
      slice_get-map (end_of all others) others place
      ∙ ap (λ o. option_map_end o) (slice_get-get_or others place a met.0) in
      let one : Some (end_of all others b) ≡ Some other =
      sym here ∙ ap (slice_get (map (end_of all others) others)) which ∙ there in
      let end : end_of all others b ≡ other = cc in
      meet_alike a b met.1 ∙ ap (λ e. e.internal) end
    where
      option_map_end : Option Peering → Option SessionEnd
      option_map_end None = None
      option_map_end (Some x) = Some (end_of all others x)

pub ends_alike : (files : List File) → All (IsAlike files) (ends_of files)
unfolding ends_of
ends_alike files =
    All-map (IsAlike files) (end_of (addressed files) (sessions files)) (sessions files) (λ k d within.
    let a = get_or (sessions files) k d in
    let stands = standing files k d within in
    let line = stands.line in
    let place = line.place in
    let router : line.k ≡ a.router = omega (arith, place) in
    let asn = line.asn in
    let remote = line.remote in
    record {
      process = line.process;
      runs = ap (process_of files) (sym router) ∙ line.runs;
      line = line.line;
      there = line.there;
      internal = λ i. asn i == remote i;
      far = far_alike files a stands;
    })

-- ---- the end that an address finds

found_among : {X : Type 0} (P : X → Type 0) (p : X → Bool) (xs : List X) (k : ℕ) (x : X) → All P xs →
    slice_get xs k ≡ Some x → p x ≡ true → (y : X) × (find p xs ≡ Some y) × (p y ≡ true) × P y
found_among P p [] k x all there passes = cc
found_among P p (z ∷ zs) zero x all there passes =
    let same : z ≡ x = cc in
    (z, ap (λ b. if b then Some z else find p zs) (ap p same ∙ passes), ap p same ∙ passes, All-head P z zs all)
found_among P p (z ∷ zs) (suc k) x all there passes =
    by_test (p z) refl (found_among P p zs k x (All-tail P z zs all) there passes)
  where
    by_test : (b : Bool) → p z ≡ b → (y : _) × (find p zs ≡ Some y) × (p y ≡ true) × P y →
        (y : _) × ((if b then Some z else find p zs) ≡ Some y) × (p y ≡ true) × P y
    by_test true is later = (z, refl, is, All-head P z zs all)
    by_test false is later = later

-- the end that is found by the address of an end's neighbour is internal where that one is
pub towards_alike : (files : List File) → NamesOnce files → (k : ℕ) (end : SessionEnd) (neighbour : Neighbour) →
    slice_get (ends_of files) k ≡ Some end → IsAlike files end → neighbour_of files end ≡ Some neighbour →
    (found : SessionEnd) × (end_towards files end.router neighbour.addr ≡ Some found) × (found.internal ≡ end.internal)
towards_alike files once k end neighbour there is named =
    let found = found_among (IsAlike files) test (ends_of files) k end (ends_alike files) there here in
    (found.0, found.1, alike found.0 found.2 found.3)
  where
    test : SessionEnd → Bool
    test e =
        (e.router == end.router)
        && option_map_or (λ n. n.addr.0 == neighbour.addr.0) (neighbour_of files e) false

    here : test end ≡ true
    here =
        and_from (end.router == end.router) _ (eq-eqb end.router end.router refl)
        (ap (λ o. option_map_or (λ n. n.addr.0 == neighbour.addr.0) o false) named
        ∙ eq-eqb neighbour.addr.0 neighbour.addr.0 refl)

    line_named : (e : SessionEnd) (of : IsAlike files e) → neighbour_of files e ≡ Some of.line
    line_named e of = ap (option_and_then (λ bgp. slice_get bgp.neighbours e.neighbour)) of.runs ∙ of.there

    alike : (e : SessionEnd) → test e ≡ true → IsAlike files e → e.internal ≡ end.internal
    alike e passes of =
        let both = and_parts (e.router == end.router) _ passes in
        let router = eqb-true e.router end.router both.0 in
        let one : Some of.process ≡ Some is.process = sym of.runs ∙ ap (process_of files) router ∙ is.runs in
        let process : of.process ≡ is.process = cc in
        let two : Some is.line ≡ Some neighbour = sym (line_named end is) ∙ named in
        let line : is.line ≡ neighbour = cc in
        let address : of.line.addr.0 ≡ is.line.addr.0 =
        eqb-true of.line.addr.0 neighbour.addr.0
        (sym (ap (λ o. option_map_or (λ n. n.addr.0 == neighbour.addr.0) o false) (line_named e of)) ∙ both.1)
        ∙ ap (λ n. n.addr.0) (sym line) in
        let lines : of.line ≡ is.line =
        once end.router is.process is.runs e.neighbour end.neighbour of.line is.line
        (ap (λ b. slice_get b.neighbours e.neighbour) (sym process) ∙ of.there) is.there address in
        of.internal ∙ (λ i. (process i).asn == (lines i).asn) ∙ sym is.internal
