-- Adjacencies on least walks to the prefix that contains an address, by the rows of interior distances.
use Rattle.std.proofs.Common.{◌≡◌, ℕ, zero, suc, ◌+◌, ◌-◌, ◌*◌, ◌^◌, ◌/◌, ◌<◌, ◌≤◌, Bool, true, false, ◌&&◌, cond}
use Rattle.std.proofs.Common.{List, [], ◌∷◌, ◌++◌, length, get_or, drop, Option, Some, None, refl, sym, ap, ap₂}
use Rattle.std.proofs.Common.{arith, rules, eqb, ◌∙◌}
use Rattle.std.specs.Prelude.{filter, map, nat_lt, slice_get, option_copied, option_map, option_and_then, IfSome}
use Rattle.std.specs.Borrow.{Bor}
use Rattle.std.specs.List.{find}
use Rattle.std.specs.Option.{option_map_or}
use Rattle.std.proofs.lemmas.Bool.{eq-eqb, ltb-true, ltb-false, ne_eqb}
use Rattle.std.proofs.lemmas.List.{drop_all}
use Rattle.std.proofs.lemmas.Option.{slice_get-get_or}
use Rattle.mw_text.specs.declared.address.Addr.{Addr}
use Rattle.mw_text.specs.declared.address.Prefix.{Prefix}
use Rattle.mw_text.specs.Address.{block, covers}
use Rattle.ios_ast.specs.declared.file.File.{File}
use Rattle.route_record.specs.declared.BgpRec.{BgpRec}
use Rattle.route_record.specs.declared.Failures.{Failures}
use Rattle.route_record.specs.declared.OspfRec.{OspfRec}
use Rattle.route_record.specs.declared.Packet.{Packet}
use Rattle.net_parts.specs.declared.adjacencies.Adjacency.{Adjacency}
use Rattle.net_parts.specs.Distances.{interior_distance}
use Rattle.net_parts.specs.Ospf.{adjacencies, advertised, up_adjacencies}
use Rattle.net_parts.specs.Sending.{is_on_least_walk, sent_towards}
use Rattle.question_lang.specs.declared.walk.Hop.{Hop}
use Rattle.question_lang.specs.Hops.{send_adjacent}
use Rattle.term_store.specs.Terms.{Reading}
use Rattle.sym_policy.specs.declared.records.SymNet.{SymNet}
use Rattle.sym_policy.specs.declared.records.SymOspf.{SymOspf}
use Rattle.sym_policy.specs.Held.{failures_of, internal_route, ospf_end, ospf_of}
use Rattle.sym_ospf.specs.Routes.{routes_end}
use Rattle.sym_ospf.specs.Reached.{found}
use Rattle.sym_ospf.specs.Rows.{HasDistances}
use Rattle.sym_ospf.proofs.Reach.{found_past}
use Rattle.sym_forwarding.specs.Offers.{is_up_from}
use Rattle.sym_policy.specs.Seen.{route_towards}
use Rattle.sym_forwarding.specs.Towards.{costs_more, leads_by, led_hops}
use Rattle.sym_forwarding.proofs.OwnerHops.{back}

-- ---- the rows

-- a router past the files has no distance
none_past : (files : List File) (failures : Failures) (router : ℕ) (p : Prefix) → length files ≤ router →
    option_map internal_route (interior_distance files failures router p) ≡ None
unfolding found
none_past files failures router p past =
    let self : covers p p.addr ≡ true = eq-eqb (p.addr.0 / block p.len) (p.addr.0 / block p.len) refl in
    ap (λ b. option_map internal_route (option_and_then (interior_distance files failures router)
    (cond b (Some p) None))) (sym self)
    ∙ found_past files failures router p.addr (p ∷ []) past

-- the route at a place of the rows is the distance, and there is none past the files
pub row_distance : (w : Reading) (files : List File) (net : SymNet) (router k : ℕ) (p : Prefix) (o : Option SymOspf) →
    HasDistances w files net → slice_get (advertised files) k ≡ Some p →
    o ≡ cond (nat_lt router (length files)) (slice_get net.igp (router * length (advertised files) + k)) None →
    option_and_then (ospf_of w) o
    ≡ option_map internal_route (interior_distance files (failures_of w net) router p)
row_distance w files net router k p o has there is = by_router (nat_lt router (length files)) refl where
  by_router : (b : Bool) → nat_lt router (length files) ≡ b → option_and_then (ospf_of w) o
      ≡ option_map internal_route (interior_distance files (failures_of w net) router p)
  by_router true test =
      ap (option_and_then (ospf_of w))
      (is ∙ ap (λ b. cond b (slice_get net.igp (router * length (advertised files) + k)) None) test)
      ∙ has.are router k p (ltb-true router (length files) test) there
  by_router false test =
      ap (option_and_then (ospf_of w))
      (is ∙ ap (λ b. cond b (slice_get net.igp (router * length (advertised files) + k)) None) test)
      ∙ sym (none_past files (failures_of w net) router p (ltb-false router (length files) test))

-- the nodes of a row that is found stand below the end of all
end_at : (rows : List SymOspf) (place : ℕ) (s : SymOspf) → slice_get rows place ≡ Some s → ospf_end s ≤ routes_end rows
end_at [] place s h = cc
end_at (x ∷ rest) zero s h =
    let same : x ≡ s = cc in
    let here : ospf_end x ≡ ospf_end s = ap ospf_end same in
    omega arith
end_at (x ∷ rest) (suc place) s h =
    let deeper = end_at rest place s h in
    omega arith

pub row_bounded : (rows read : List SymOspf) (place : ℕ) (o : Option (Bor SymOspf)) → read ≡ rows →
    option_copied o ≡ slice_get read place → IfSome o (λ r. ospf_end r.now ≤ routes_end rows)
row_bounded rows read place None same h = search rules
row_bounded rows read place (Some r) same h =
    end_at rows place r.now (sym (h ∙ ap (λ xs. slice_get xs place) same))

-- ---- one adjacency

between : (cost : ℕ) (n f : Option ℕ) →
    costs_more cost (option_map internal_route n) (option_map internal_route f)
    ≡ option_map_or (λ d. option_map_or (λ further. eqb d (cost + further)) f false) n false
between cost None f = refl
between cost (Some n) None = refl
between cost (Some n) (Some f) = refl

-- the adjacency is on a least walk where the routes of the rows say so
pub least_by_rows : (w : Reading) (files : List File) (net : SymNet) (router k : ℕ) (p : Prefix) (x : Adjacency)
    (near far : Option SymOspf) → HasDistances w files net → slice_get (advertised files) k ≡ Some p →
    near ≡ cond (nat_lt router (length files)) (slice_get net.igp (router * length (advertised files) + k)) None →
    far ≡ cond (nat_lt x.to.router (length files)) (slice_get net.igp (x.to.router * length (advertised files) + k))
    None →
    costs_more x.cost (option_and_then (ospf_of w) near) (option_and_then (ospf_of w) far)
    ≡ is_on_least_walk files (failures_of w net) router p x
least_by_rows w files net router k p x near far has there here on =
    ap₂ (costs_more x.cost) (row_distance w files net router k p near has there here)
    (row_distance w files net x.to.router k p far has there on)
    ∙ between x.cost (interior_distance files (failures_of w net) router p)
    (interior_distance files (failures_of w net) x.to.router p)

-- without the far route there is no sum
pub no_sum : (cost : ℕ) (near : Option OspfRec) → costs_more cost near None ≡ false
no_sum cost None = refl
no_sum cost (Some r) = refl

-- a sum that fits is the cost, and one that does not is greater than each
pub sums : (v u fits same : Bool) (near far : OspfRec) (cost sum : ℕ) → near.cost < 2 ^ 32 →
    fits ≡ nat_lt (cost + far.cost) (2 ^ 32) → (fits ≡ true → sum ≡ cost + far.cost) →
    same ≡ eqb near.cost sum →
    ((v && u) && (fits && same)) ≡ costs_more cost (cond v (Some near) None) (cond u (Some far) None)
sums true true fits same near far cost sum small fit exact is = by_fit fits fit exact where
  by_fit : (b : Bool) → b ≡ nat_lt (cost + far.cost) (2 ^ 32) → (b ≡ true → sum ≡ cost + far.cost) →
      (b && same) ≡ eqb near.cost (cost + far.cost)
  by_fit true fit exact = is ∙ ap (eqb near.cost) (exact refl)
  by_fit false fit exact =
      let great = ltb-false (cost + far.cost) (2 ^ 32) (sym fit) in
      sym (ne_eqb near.cost (cost + far.cost) (λ same. absurd (omega (arith, small, great, same))))
sums true false fits same near far cost sum small fit exact is = refl
sums false true fits same near far cost sum small fit exact is = refl
sums false false fits same near far cost sum small fit exact is = refl

-- ---- the first prefix that contains the address

leads_step : (files : List File) (failures : Failures) (router : ℕ) (a : Addr) (x : Adjacency) (p : Prefix)
    (ps : List Prefix) →
    leads_by files failures router a x (p ∷ ps)
    ≡ cond (covers p a) (is_on_least_walk files failures router p x) (leads_by files failures router a x ps)
unfolding leads_by
leads_step files failures router a x p ps = by_test (covers p a) where
  by_test : (b : Bool) →
      option_map_or (λ q. is_on_least_walk files failures router q x) (cond b (Some p) (find (λ q. covers q a) ps))
      false
      ≡ cond b (is_on_least_walk files failures router p x)
      (option_map_or (λ q. is_on_least_walk files failures router q x) (find (λ q. covers q a) ps) false)
  by_test true = refl
  by_test false = refl

pub leads_back : (files : List File) (failures : Failures) (router : ℕ) (a : Addr) (x : Adjacency)
    (ps qs : List Prefix) (i : ℕ) (d : Prefix) → 0 < i → i ≤ length ps → qs ≡ ps →
    cond (covers (get_or qs (i - 1) d) a) (is_on_least_walk files failures router (get_or qs (i - 1) d) x)
    (leads_by files failures router a x (drop i ps))
    ≡ leads_by files failures router a x (drop (i - 1) ps)
leads_back files failures router a x ps qs i d above within same =
    ap (λ (xs : List Prefix). cond (covers (get_or xs (i - 1) d) a)
    (is_on_least_walk files failures router (get_or xs (i - 1) d) x) (leads_by files failures router a x (drop i ps)))
    same
    ∙ sym (back (leads_by files failures router a x)
    (λ p rest. cond (covers p a) (is_on_least_walk files failures router p x) rest)
    (leads_step files failures router a x) ps i d above within)

pub leads_end : (files : List File) (failures : Failures) (router : ℕ) (a : Addr) (x : Adjacency)
    (ps : List Prefix) (i : ℕ) → length ps ≤ i → leads_by files failures router a x (drop i ps) ≡ false
unfolding leads_by
leads_end files failures router a x ps i past =
    ap (λ qs. option_map_or (λ q. is_on_least_walk files failures router q x) (find (λ q. covers q a) qs) false)
    (drop_all i ps past)

pub ruleset leads_steps = (leads_end, slice_get-get_or)

-- ---- the hops over those that lead there

kept_step : (f : Adjacency → Hop) (test : Adjacency → Bool) (x : Adjacency) (xs : List Adjacency) →
    map f (filter test (x ∷ xs)) ≡ cond (test x) (f x ∷ []) [] ++ map f (filter test xs)
kept_step f test x xs = by_test (test x) where
  by_test : (b : Bool) → map f (cond b (x ∷ filter test xs) (filter test xs))
      ≡ cond b (f x ∷ []) [] ++ map f (filter test xs)
  by_test true = refl
  by_test false = refl

pub led_back : (files : List File) (failures : Failures) (packet : Packet) (router : ℕ) (a : Addr)
    (xs : List Adjacency) (i : ℕ) (d : Adjacency) → 0 < i → i ≤ length xs →
    led_hops files failures packet router a (drop (i - 1) xs)
    ≡ cond (is_up_from files failures router (get_or xs (i - 1) d)
    && leads_by files failures router a (get_or xs (i - 1) d) (advertised files))
    (send_adjacent files packet (get_or xs (i - 1) d) ∷ []) []
    ++ led_hops files failures packet router a (drop i xs)
led_back files failures packet router a xs i d above within =
    back (led_hops files failures packet router a)
    (λ y rest. cond (is_up_from files failures router y && leads_by files failures router a y (advertised files))
    (send_adjacent files packet y ∷ []) [] ++ rest)
    (kept_step (send_adjacent files packet)
    (λ y. is_up_from files failures router y && leads_by files failures router a y (advertised files)))
    xs i d above within

twice_kept : (p q : Adjacency → Bool) (xs : List Adjacency) → filter (λ x. p x && q x) xs ≡ filter q (filter p xs)
twice_kept p q [] = refl
twice_kept p q (x ∷ xs) = by_first (p x) (twice_kept p q xs) where
  by_first : (b : Bool) → filter (λ y. p y && q y) xs ≡ filter q (filter p xs) →
      cond (b && q x) (x ∷ filter (λ y. p y && q y) xs) (filter (λ y. p y && q y) xs)
      ≡ filter q (cond b (x ∷ filter p xs) (filter p xs))
  by_first true rest = ap (λ ys. cond (q x) (x ∷ ys) ys) rest
  by_first false rest = rest

none_kept : (p : Adjacency → Bool) (xs : List Adjacency) → filter (λ x. p x && false) xs ≡ []
none_kept p [] = refl
none_kept p (x ∷ xs) = by_first (p x) (none_kept p xs) where
  by_first : (b : Bool) → filter (λ y. p y && false) xs ≡ [] →
      cond (b && false) (x ∷ filter (λ y. p y && false) xs) (filter (λ y. p y && false) xs) ≡ []
  by_first true rest = rest
  by_first false rest = rest

-- these are the adjacencies towards the address
pub led_all : (files : List File) (failures : Failures) (packet : Packet) (router : ℕ) (a : Addr) →
    led_hops files failures packet router a (adjacencies files)
    ≡ map (send_adjacent files packet) (sent_towards files failures router a)
unfolding leads_by sent_towards up_adjacencies
led_all files failures packet router a =
    ap (map (send_adjacent files packet)) (by_found (find (λ p. covers p a) (advertised files)))
  where
    by_found : (o : Option Prefix) →
        filter (λ x. is_up_from files failures router x
        && option_map_or (λ p. is_on_least_walk files failures router p x) o false) (adjacencies files)
        ≡ option_map_or (λ p. filter (is_on_least_walk files failures router p)
        (filter (is_up_from files failures router) (adjacencies files))) o []
    by_found None = none_kept (is_up_from files failures router) (adjacencies files)
    by_found (Some p) =
        twice_kept (is_up_from files failures router) (is_on_least_walk files failures router p) (adjacencies files)

-- ---- the hops of a BGP route that may be held

pub held_hops : (hops : Addr → List Hop) (b : Bool) (a : Addr) →
    cond b (hops a) [] ≡ option_map_or (λ (r : BgpRec). hops r.next_hop) (cond b (Some (route_towards a)) None) []
held_hops hops true a = refl
held_hops hops false a = refl

-- what stands past the end of a list of adjacencies
abbrev pub no_adjacency : Adjacency
no_adjacency = record { from = record { router = 0; at = 0 }; to = record { router = 0; at = 0 }; cost = 0 }
