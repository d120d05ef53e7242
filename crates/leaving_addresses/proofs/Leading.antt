-- A hop out of the network leads over an interface of the router, to a next hop of a route.
use Rattle.std.proofs.Common.{◌≡◌, ℕ, Bool, true, false, not, cond, List, [], ◌∷◌, Option}
use Rattle.std.proofs.Common.{Some, None, inl, inr, refl, sym, ap, subst, ◌∙◌}
use Rattle.std.specs.Prelude.{◌==◌, ◌&&◌, map, option_map}
use Rattle.std.specs.List.{find, list_any}
use Rattle.std.specs.Option.{option_map_or}
use Rattle.std.proofs.lemmas.Bool.{and_from, and_parts, false_from_ne_true, not_from_false}
use Rattle.mw_text.specs.Members.{In}
use Rattle.mw_text.specs.declared.address.Addr.{Addr}
use Rattle.mw_text.specs.declared.address.Prefix.{Prefix}
use Rattle.mw_text.specs.Address.{covers, same_prefix}
use Rattle.mw_text.proofs.Found.{find_passes}
use Rattle.ios_ast.specs.declared.file.File.{File}
use Rattle.ios_ast.specs.declared.file.StaticRoute.{StaticRoute}
use Rattle.ios_ast.specs.declared.file.Via.{Via}
use Rattle.ios_ast.specs.declared.file.Via.TheVariants.{Null0, Next, Out}
use Rattle.route_record.specs.declared.Failures.{Failures}
use Rattle.route_record.specs.declared.Packet.{Packet}
use Rattle.net_interfaces.specs.declared.interfaces.Addressed.{Addressed}
use Rattle.net_interfaces.specs.declared.interfaces.IfaceId.{IfaceId}
use Rattle.net_interfaces.specs.Connected.{next_hop}
use Rattle.net_interfaces.specs.Interfaces.{addressed}
use Rattle.net_interfaces.proofs.Members.{filter-in, in-find}
use Rattle.net_parts.specs.declared.adjacencies.Adjacency.{Adjacency}
use Rattle.net_parts.specs.Routing.{up_interfaces}
use Rattle.net_parts.specs.World.{is_failed, is_up}
use Rattle.net_parts.proofs.LeastWalks.{in-filter, in-map}
use Rattle.net_model.proofs.OneSubnet.{one_prefix}
use Rattle.slot_places.proofs.Members.{any-in, in-any}
use Rattle.question_lang.specs.declared.walk.End.TheVariants.{Delivered, Left, DeniedIn, DeniedOut}
use Rattle.question_lang.specs.declared.walk.Hop.{Hop}
use Rattle.question_lang.specs.declared.walk.Hop.TheVariants.{To, Ends}
use Rattle.question_lang.specs.Hops.{all_up, arrive, connected_hops, depart, owner_on, permits_in, permits_out}
use Rattle.question_lang.specs.Hops.{send_adjacent, send_over, send_to, static_hops}
use Rattle.leaving_addresses.specs.Leaving.{can_leave, is_owner_on, leads_out}

-- ---- hops that do not leave

arrive_stays : (files : List File) (packet : Packet) (i : IfaceId) (a : Addr) →
    Ends (Left a) ≡ arrive files packet i → ⊥
arrive_stays files packet i a = by (permits_in files packet i) where
  by : (b : Bool) → Ends (Left a) ≡ cond b (To i) (Ends (DeniedIn i)) → ⊥
  by true same = cc
  by false same = cc

-- one that leaves is permitted out
departs : (files : List File) (packet : Packet) (out : IfaceId) (hop : Hop) (a : Addr) →
    Ends (Left a) ≡ depart files packet out hop → Ends (Left a) ≡ hop
departs files packet out hop a = by (permits_out files packet out) where
  by : (b : Bool) → Ends (Left a) ≡ cond b hop (Ends DeniedOut) → Ends (Left a) ≡ hop
  by true same = same
  by false same = cc

adjacent_stays : (files : List File) (packet : Packet) (over : Adjacency) (a : Addr) →
    Ends (Left a) ≡ send_adjacent files packet over → ⊥
adjacent_stays files packet over a same =
    arrive_stays files packet over.to a (departs files packet over.from (arrive files packet over.to) a same)

pub adjacencies_stay : (files : List File) (packet : Packet) (over : List Adjacency) (a : Addr) →
    In (Ends (Left a)) (map (send_adjacent files packet) over) → ⊥
adjacencies_stay files packet over a there =
    let (one, _, same) = in-map (send_adjacent files packet) over (Ends (Left a)) there in
    adjacent_stays files packet one a same

pub connected_stays : (files : List File) (packet : Packet) (up own : List Addressed) (p : Prefix) (a : Addr) →
    In (Ends (Left a)) (connected_hops files packet up own p) → ⊥
connected_stays files packet up own p a = by_out (find (λ x. same_prefix x.subnet p) own) where
  by_owner : (o : Option IfaceId) → Ends (Left a) ≡ option_map_or (arrive files packet) o (Ends Delivered) → ⊥
  by_owner None same = cc
  by_owner (Some i) same = arrive_stays files packet i a same

  by_out : (o : Option Addressed) → In (Ends (Left a)) (option_map_or (λ out. depart files packet out.id
      (option_map_or (arrive files packet) (owner_on up p packet.dst) (Ends Delivered)) ∷ []) o []) → ⊥
  by_out None there = there
  by_out (Some out) (inl same) =
      by_owner (owner_on up p packet.dst)
      (departs files packet out.id
      (option_map_or (arrive files packet) (owner_on up p packet.dst) (Ends Delivered)) a same)
  by_out (Some out) (inr there) = there

-- ---- a hop that leaves

-- the interface that has the address, up and on that subnet
abbrev pub is_at : Prefix → Addr → Addressed → Bool
is_at subnet a x = (x.addr.0 == a.0) && same_prefix x.subnet subnet

-- out of the interface to an address that no interface there has which is up
pub sent_out : (files : List File) (packet : Packet) (up : List Addressed) (out : Addressed) (to a : Addr) →
    Ends (Left a) ≡ send_to files packet up out to → (find (is_at out.subnet to) up ≡ None) × (a ≡ to)
sent_out files packet up out to a same =
    by_owner (find (is_at out.subnet to) up) refl
    (departs files packet out.id
    (option_map_or (arrive files packet) (owner_on up out.subnet to) (Ends (Left to))) a same)
  where
    by_owner : (o : Option Addressed) → find (is_at out.subnet to) up ≡ o →
        Ends (Left a) ≡ option_map_or (arrive files packet) (option_map (λ x. x.id) o) (Ends (Left to)) →
        (find (is_at out.subnet to) up ≡ None) × (a ≡ to)
    by_owner None is left = (is, cc)
    by_owner (Some x) is left = absurd (arrive_stays files packet x.id a left)

-- the interface over which it leaves
pub record LeavesOver (up own : List Addressed) (to a : Addr) : Type 0 where
  pub out : Addressed
  pub listed : In out own
  pub covered : covers out.subnet to ≡ true
  pub none : find (is_at out.subnet to) up ≡ None
  pub same : a ≡ to

pub over_out : (files : List File) (packet : Packet) (up own : List Addressed) (to a : Addr) →
    In (Ends (Left a)) (send_over files packet up own to) → LeavesOver up own to a
over_out files packet up own to a = by_out (find (λ x. covers x.subnet to) own) refl where
  by_out : (o : Option Addressed) → find (λ x. covers x.subnet to) own ≡ o →
      In (Ends (Left a)) (option_map_or (λ out. send_to files packet up out to ∷ []) o []) →
      LeavesOver up own to a
  by_out None found there = absurd there
  by_out (Some out) found (inl same) =
      let (none, one) = sent_out files packet up out to a same in
      record {
        out = out;
        listed = in-find (λ x. covers x.subnet to) own out found;
        covered = find_passes (λ x. covers x.subnet to) own out found;
        none = none;
        same = one;
      }
  by_out (Some out) found (inr there) = absurd there

-- a static route by which it leaves
pub static_out : (files : List File) (packet : Packet) (up own : List Addressed) (route : StaticRoute) (a : Addr) →
    In (Ends (Left a)) (static_hops files packet up own route) →
    (next_hop route.via ≡ Some a) × LeavesOver up own a a
static_out files packet up own route a = by_via route.via refl where
  over : (to : Addr) → next_hop route.via ≡ Some to → LeavesOver up own to a →
      (next_hop route.via ≡ Some a) × LeavesOver up own a a
  over to leads leaves =
      (leads ∙ ap Some (sym leaves.same), subst (λ w. LeavesOver up own w a) (sym leaves.same) leaves)

  by_via : (via : Via) → route.via ≡ via →
      In (Ends (Left a)) (static_hops files packet up own (record route { via = via })) →
      (next_hop route.via ≡ Some a) × LeavesOver up own a a
  by_via Null0 is (inl same) = cc
  by_via Null0 is (inr there) = absurd there
  by_via (Next to) is there = over to (ap next_hop is) (over_out files packet up own to a there)
  by_via (Out named to) is there = over to (ap next_hop is) (over_out files packet up own to a there)

-- ---- it can leave, whatever fails

none_found : {X : Type 0} (p : X → Bool) (xs : List X) (x : X) → find p xs ≡ None → In x xs → p x ≡ true → ⊥
none_found p [] x none there passes = there
none_found {X} p (y ∷ ys) x none there passes = by (p y) refl none there (none_found p ys x) where
  by : (b : Bool) → p y ≡ b → cond b (Some y) (find p ys) ≡ None → In x (y ∷ ys) →
      (find p ys ≡ None → In x ys → p x ≡ true → ⊥) → ⊥
  by true is wrong there' rest = cc
  by false is found (inl same) rest = let both : true ≡ false = sym passes ∙ ap p same ∙ is in cc
  by false is found (inr later) rest = rest found later passes

-- interfaces on one subnet fail together, so where the one is up, the other is up or shut down
up_too : (files : List File) (failures : Failures) (out x : Addressed) → x.subnet ≡ out.subnet →
    not x.shutdown ≡ true → is_up files failures out ≡ true → is_up files failures x ≡ true
up_too files failures out x same unshut up =
    and_from (not x.shutdown) (not (is_failed files failures x.subnet)) unshut
    (ap (λ p. not (is_failed files failures p)) same
    ∙ (and_parts (not out.shutdown) (not (is_failed files failures out.subnet)) up).1)

-- so no interface that is not shut down has the address there, where none that is up has it
free_of : (files : List File) (failures : Failures) (out : Addressed) (a : Addr) → is_up files failures out ≡ true →
    find (is_at out.subnet a) (all_up files failures) ≡ None →
    list_any (is_owner_on out.subnet a) (addressed files) ≡ true → ⊥
free_of files failures out a up none some =
    let (x, there, owns) = in-any (is_owner_on out.subnet a) (addressed files) some in
    let (unshut, here) = and_parts (not x.shutdown) (is_at out.subnet a x) owns in
    let (_, on) = and_parts (x.addr.0 == a.0) (same_prefix x.subnet out.subnet) here in
    none_found (is_at out.subnet a) (all_up files failures) x none
    (filter-in (is_up files failures) (addressed files) x there
    (up_too files failures out x (one_prefix x.subnet out.subnet on) unshut up)) here

leads_over : (files : List File) (failures : Failures) (router : ℕ) (out : Addressed) (a : Addr) →
    In out (up_interfaces files failures router) → covers out.subnet a ≡ true →
    find (is_at out.subnet a) (all_up files failures) ≡ None → can_leave (addressed files) router a ≡ true
leads_over files failures router out a own covered none =
    let (listed, passes) =
    in-filter (λ x. (x.id.router == router) && is_up files failures x) (addressed files) out own in
    let (here, up) = and_parts (out.id.router == router) (is_up files failures out) passes in
    let (unshut, _) = and_parts (not out.shutdown) (not (is_failed files failures out.subnet)) up in
    let free : not (list_any (is_owner_on out.subnet a) (addressed files)) ≡ true =
    not_from_false (list_any (is_owner_on out.subnet a) (addressed files))
    (false_from_ne_true (list_any (is_owner_on out.subnet a) (addressed files))
    (free_of files failures out a up none)) in
    let rest : (covers out.subnet a && not (list_any (is_owner_on out.subnet a) (addressed files))) ≡ true =
    and_from (covers out.subnet a) (not (list_any (is_owner_on out.subnet a) (addressed files))) covered free in
    any-in (leads_out (addressed files) router a) (addressed files) out listed
    (and_from (out.id.router == router) _ here (and_from (not out.shutdown) _ unshut rest))

pub leaves_out : (files : List File) (failures : Failures) (router : ℕ) (a : Addr) →
    LeavesOver (all_up files failures) (up_interfaces files failures router) a a →
    can_leave (addressed files) router a ≡ true
leaves_out files failures router a leaves =
    leads_over files failures router leaves.out a leaves.listed leaves.covered leaves.none
