-- An external peer's address lies on the subnet of the interface from which its router speaks, so it costs nothing while
-- that interface is up.
use Rattle.std.proofs.Common.{◌≡◌, ℕ, suc, ◌+◌, ◌==◌, ◌&&◌, Bool, true, false, not, List, [], ◌∷◌, filter}
use Rattle.std.proofs.Common.{Option, Some, None, inl, inr, ◌||◌, refl, sym, ap, subst, arith, ◌∙◌, slice_get, if◌then◌else◌}
use Rattle.std.specs.Prelude.{All, Contains, option_and_then, position, unwrap_or}
use Rattle.std.specs.List.{find, list_any}
use Rattle.std.specs.Option.{option_map_or}
use Rattle.std.proofs.lemmas.Bool.{and_from, and_parts, eqb-true}
use Rattle.std.proofs.lemmas.List.Elements.{All-append, All-cons, All-contains_itself, All-filter}
use Rattle.std.proofs.lemmas.List.Elements.{All-nil, All-weaker, filter_passes}
use Rattle.std.proofs.lemmas.List.Folds.{Any-from_list_any}
use Rattle.std.proofs.lemmas.Option.{same_Some, slice_get-map}
use Rattle.std.proofs.Math.Bool.{or-true}
use Rattle.mw_text.proofs.Lists.{all_found}
use Rattle.mw_text.specs.Members.{In}
use Rattle.net_parts.proofs.LeastWalks.{contains-in}
use Rattle.mw_text.specs.Address.{covers}
use Rattle.mw_text.proofs.Found.{all_find, mapped}
use Rattle.ios_ast.specs.declared.bgp.Bgp.{Bgp}
use Rattle.ios_ast.specs.declared.bgp.Neighbour.{Neighbour}
use Rattle.ios_ast.specs.declared.file.File.{File}
use Rattle.route_record.specs.declared.Failures.{Failures}
use Rattle.net_interfaces.specs.declared.interfaces.Addressed.{Addressed}
use Rattle.net_interfaces.specs.Interfaces.{addressed}
use Rattle.net_model.proofs.OneSubnet.{one_place}
use Rattle.net_model.proofs.Placed.{placed}
use Rattle.net_parts.specs.declared.sessions.Far.{Far}
use Rattle.net_parts.specs.declared.sessions.Far.TheVariants.{Outside, Inside}
use Rattle.net_parts.specs.declared.sessions.Peering.{Peering}
use Rattle.net_parts.specs.declared.sessions.SessionEnd.{SessionEnd}
use Rattle.net_parts.specs.Distances.{interior_distance}
use Rattle.net_parts.specs.Ospf.{advertised, is_up_at}
use Rattle.net_parts.specs.Resolution.{resolved, session_up}
use Rattle.net_parts.specs.Routing.{up_interfaces}
use Rattle.net_parts.specs.Sessions.{end_of, ends_of, far_of, has_session, is_external_peer, is_outside, meet, neighbour_of}
use Rattle.net_parts.specs.Sessions.{peering, peerings, peerings_from, peerings_of, peerings_routers, sessions}
use Rattle.net_parts.specs.Sessions.{speaking, speaks_from}
use Rattle.net_parts.specs.World.{is_up}

-- ---- the neighbour line of a session, and the interface from which its router speaks

-- one of these interfaces, of that router
abbrev IsOwn : List Addressed → ℕ → Addressed → Type 0
IsOwn all router x = Contains all x × ((x.id.router == router) ≡ true)

-- a line among some, and the router's own interface from which it speaks
record IsLine (all : List Addressed) (router : ℕ) (lines : List Neighbour) (a : Peering) : Type 0 where
  of : a.router ≡ router
  line : Neighbour
  there : slice_get lines a.at ≡ Some line
  named : a.neighbour ≡ line.addr
  own : IsOwn all router a.source

lines_from : (all own : List Addressed) (router : ℕ) (file : File) (asn at : ℕ) (ns lines : List Neighbour) →
    All (IsOwn all router) own → ((k : ℕ) → slice_get lines (at + k) ≡ slice_get ns k) →
    All (IsLine all router lines) (peerings_from own router file asn at ns)
lines_from all own router file asn at [] lines owns behind = All-nil (IsLine all router lines)
lines_from all own router file asn at (n ∷ rest) lines owns behind =
    All-append (IsLine all router lines)
    (option_map_or (λ source. peering router asn at n source ∷ []) (find (speaks_from file n) own) [])
    (peerings_from own router file asn (at + 1) rest) (here (find (speaks_from file n) own) refl)
    (lines_from all own router file asn (at + 1) rest lines owns (λ k.
    let next : at + 1 + k ≡ at + suc k = omega arith in
    ap (slice_get lines) next ∙ behind (suc k)))
  where
    place : slice_get lines at ≡ Some n
    place = let none : at ≡ at + 0 = omega arith in ap (slice_get lines) none ∙ behind 0

    here : (o : Option Addressed) → find (speaks_from file n) own ≡ o → All (IsLine all router lines)
        (option_map_or (λ source. peering router asn at n source ∷ []) o [])
    here None is = All-nil (IsLine all router lines)
    here (Some source) is =
        All-cons (IsLine all router lines) (peering router asn at n source) []
        (record {
          of = refl;
          line = n;
          there = place;
          named = refl;
          own = all_find (IsOwn all router) (speaks_from file n) own source owns is;
        })
        (All-nil (IsLine all router lines))

-- the same of the process that one of some files, the first of which is of that number, runs
record IsSpoken (all : List Addressed) (router : ℕ) (files : List File) (a : Peering) : Type 0 where
  k : ℕ
  place : a.router ≡ router + k
  line : Neighbour
  there : option_and_then (λ bgp. slice_get bgp.neighbours a.at)
      (option_and_then (λ file. file.bgp) (slice_get files k)) ≡ Some line
  named : a.neighbour ≡ line.addr
  own : IsOwn all a.router a.source

lines_of : (all : List Addressed) (router : ℕ) (file : File) (rest : List File) →
    All (IsSpoken all router (file ∷ rest)) (peerings_of all router file)
lines_of all router file rest = by_process file.bgp refl where
  owns : All (IsOwn all router) (filter (λ x. x.id.router == router) all)
  owns k d within = (
    All-filter (λ x. x.id.router == router) (Contains all) all (All-contains_itself all) k d within,
    filter_passes (λ (x : Addressed). x.id.router == router) all k d within,
  )

  by_process : (o : Option Bgp) → file.bgp ≡ o → All (IsSpoken all router (file ∷ rest))
      (option_map_or (λ bgp. peerings_from
      (filter (λ x. x.id.router == router) all) router file bgp.asn 0 bgp.neighbours) o [])
  by_process None runs = All-nil (IsSpoken all router (file ∷ rest))
  by_process (Some bgp) runs =
      let own = filter (λ (x : Addressed). x.id.router == router) all in
      All-weaker (IsLine all router bgp.neighbours) (IsSpoken all router (file ∷ rest)) (λ a is.
      let same = is.of in record {
        k = 0;
        place = omega (arith, same);
        line = is.line;
        there = ap (option_and_then (λ (b : Bgp). slice_get b.neighbours a.at)) runs ∙ is.there;
        named = is.named;
        own = subst (λ r. IsOwn all r a.source) (sym same) is.own;
      })
      (peerings_from own router file bgp.asn 0 bgp.neighbours)
      (lines_from all own router file bgp.asn 0 bgp.neighbours bgp.neighbours owns (λ k.
      let none : 0 + k ≡ k = omega arith in ap (slice_get bgp.neighbours) none))

lines_routers : (all : List Addressed) (router : ℕ) (files : List File) →
    All (IsSpoken all router files) (peerings_routers all router files)
lines_routers all router [] = All-nil (IsSpoken all router [])
lines_routers all router (file ∷ rest) =
    All-append (IsSpoken all router (file ∷ rest)) (peerings_of all router file) (peerings_routers all (router + 1) rest)
    (lines_of all router file rest)
    (All-weaker (IsSpoken all (router + 1) rest) (IsSpoken all router (file ∷ rest)) further
    (peerings_routers all (router + 1) rest) (lines_routers all (router + 1) rest))
  where
    further : (a : Peering) → IsSpoken all (router + 1) rest a → IsSpoken all router (file ∷ rest) a
    further a is =
        let place = is.place in
        record {
          k = suc is.k;
          place = omega (arith, place);
          line = is.line;
          there = is.there;
          named = is.named;
          own = is.own;
        }

session_lines : (files : List File) → All (IsSpoken (addressed files) 0 files) (sessions files)
unfolding sessions peerings
session_lines files =
    All-filter (has_session (addressed files) (speaking files)) (IsSpoken (addressed files) 0 files) (speaking files)
    (All-filter (λ a. not a.shutdown) (IsSpoken (addressed files) 0 files) (peerings files)
    (lines_routers (addressed files) 0 files))

-- ---- an external end

-- a member that is kept and passes a test
any_kept : {X : Type 0} (test keep : X → Bool) (xs : List X) (x : X) → Contains xs x → keep x ≡ true → test x ≡ true →
    list_any test (filter keep xs) ≡ true
any_kept test keep xs x has kept passes = by_all test keep xs x (contains-in x xs has) kept passes where
  by_all : {X : Type 0} (test keep : X → Bool) (xs : List X) (x : X) → In x xs → keep x ≡ true → test x ≡ true →
      list_any test (filter keep xs) ≡ true
  by_all test keep [] x there kept passes = absurd there
  by_all {X} test keep (y ∷ ys) x (inl same) kept passes =
      ap (λ b. list_any test (if b then y ∷ filter keep ys else filter keep ys)) (ap keep (sym same) ∙ kept)
      ∙ ap (λ b. b || list_any test (filter keep ys)) (ap test (sym same) ∙ passes)
  by_all {X} test keep (y ∷ ys) x (inr there) kept passes =
      by (keep y) (by_all test keep ys x there kept passes)
    where
      by : (b : Bool) → list_any test (filter keep ys) ≡ true →
          list_any test (if b then y ∷ filter keep ys else filter keep ys) ≡ true
      by true rest = ap (λ b. test y || b) rest ∙ or-true (test y)
      by false rest = rest

-- the interface from which its router speaks has the peer's address on its subnet
record Reaches (files : List File) (end : SessionEnd) (neighbour : Neighbour) : Type 0 where
  source : Addressed
  listed : Contains (addressed files) source
  router : (source.id.router == end.router) ≡ true
  own : source.id ≡ end.own
  covered : covers source.subnet neighbour.addr ≡ true

reaches : (files : List File) (at : ℕ) (end : SessionEnd) (neighbour : Neighbour) →
    slice_get (ends_of files) at ≡ Some end → is_outside end.far ≡ true → neighbour_of files end ≡ Some neighbour →
    Reaches files end neighbour
unfolding ends_of
reaches files at end neighbour there outer named =
    let from = mapped make (slice_get (sessions files) at) end (sym (slice_get-map make (sessions files) at) ∙ there) in
    of from.0 from.1 from.2
  where
    make : Peering → SessionEnd
    make = end_of (addressed files) (sessions files)

    of : (a : Peering) → slice_get (sessions files) at ≡ Some a → make a ≡ end → Reaches files end neighbour
    of a found is =
        let line = all_found (IsSpoken (addressed files) 0 files) (sessions files) at a (session_lines files) found in
        let place = line.place in
        let router : a.router ≡ line.k = omega (arith, place) in
        let same_router : a.router ≡ end.router = ap (λ (e : SessionEnd). e.router) is in
        let own = line.own in
        let spoken : neighbour_of files (make a) ≡ Some line.line =
        ap (λ k. option_and_then (λ (bgp : Bgp). slice_get bgp.neighbours a.at)
        (option_and_then (λ (file : File). file.bgp) (slice_get files k))) router ∙ line.there in
        let one : neighbour ≡ line.line =
        sym (same_Some line.line neighbour (sym spoken ∙ ap (neighbour_of files) is ∙ named)) in
        let external = external_of a (ap (λ (e : SessionEnd). is_outside e.far) is ∙ outer) in
        let shared = (and_parts _ (covers a.source.subnet a.neighbour) external).1 in record {
          source = a.source;
          listed = own.0;
          router = ap (λ r. a.source.id.router == r) (sym same_router) ∙ own.1;
          own = ap (λ (e : SessionEnd). e.own) is;
          covered = ap (covers a.source.subnet) (ap (λ (n : Neighbour). n.addr) one ∙ sym line.named) ∙ shared;
        }
      where
        external_of : (a : Peering) → is_outside (far_of (addressed files) (sessions files) a) ≡ true →
            is_external_peer (addressed files) a ≡ true
        external_of a is = by (is_external_peer (addressed files) a) refl is where
          by : (b : Bool) → is_external_peer (addressed files) a ≡ b →
              is_outside (if b then Outside else Inside (unwrap_or (position (meet a) (sessions files)) 0)) ≡ true → is_external_peer (addressed files) a ≡ true
          by true same out = same
          by false same out = absurd cc

-- so while the session is up its address is resolved over that interface
pub external_cost : (files : List File) (failures : Failures) (at : ℕ) (end : SessionEnd) (neighbour : Neighbour) →
    slice_get (ends_of files) at ≡ Some end → is_outside end.far ≡ true → neighbour_of files end ≡ Some neighbour →
    session_up files failures end ≡ true → resolved files failures end.router neighbour.addr ≡ Some 0
unfolding session_up resolved
external_cost files failures at end neighbour there outer named up = by_up (up_own end.far refl outer up) where
  reach : Reaches files end neighbour
  reach = reaches files at end neighbour there outer named

  up_own : (far : Far) → end.far ≡ far → is_outside end.far ≡ true → session_up files failures end ≡ true →
      is_up_at files failures end.own ≡ true
  up_own Outside is out goes = ap (λ f. session_up files failures (record end { far = f })) (sym is) ∙ goes
  up_own (Inside k) is out goes = let inner = ap is_outside is in absurd cc

  by_up : is_up_at files failures end.own ≡ true → resolved files failures end.router neighbour.addr ≡ Some 0
  by_up own_up =
      let some = Any-from_list_any (λ (x : Addressed). ((x.id.router == end.own.router) && (x.id.at == end.own.at))
      && is_up files failures x) (addressed files) own_up in
      let x : Addressed = some.1 in
      let has : Contains (addressed files) x = (some.0, some.2, some.3) in
      let tests = and_parts ((x.id.router == end.own.router) && (x.id.at == end.own.at)) (is_up files failures x)
      some.4 in
      let ids = and_parts (x.id.router == end.own.router) (x.id.at == end.own.at) tests.0 in
      let router = eqb-true x.id.router end.own.router ids.0 ∙ ap (λ i. i.router) (sym reach.own) in
      let place = eqb-true x.id.at end.own.at ids.1 ∙ ap (λ i. i.at) (sym reach.own) in
      let same : x ≡ reach.source = one_place files x reach.source (placed files x has)
      (placed files reach.source reach.listed) router place in
      let up_there : is_up files failures reach.source ≡ true = ap (is_up files failures) (sym same) ∙ tests.1 in
      let own : ((reach.source.id.router == end.router) && is_up files failures reach.source) ≡ true =
      and_from _ _ reach.router up_there in
      ap (λ b. if b then Some 0 else option_and_then (interior_distance files failures end.router)
      (find (λ p. covers p neighbour.addr) (advertised files)))
      (covered_up reach.source reach.listed own reach.covered)
    where
      covered_up : (s : Addressed) → Contains (addressed files) s →
          ((s.id.router == end.router) && is_up files failures s) ≡ true → covers s.subnet neighbour.addr ≡ true →
          list_any (λ x. covers x.subnet neighbour.addr) (up_interfaces files failures end.router) ≡ true
      covered_up s has own covered =
          any_kept (λ (x : Addressed). covers x.subnet neighbour.addr)
          (λ (x : Addressed). (x.id.router == end.router) && is_up files failures x) (addressed files) s has own covered
