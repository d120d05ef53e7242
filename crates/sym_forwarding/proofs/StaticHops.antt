-- Where static routes lead, one route at a time.
use Rattle.std.proofs.Common.{◌≡◌, ℕ, ◌-◌, ◌<◌, ◌≤◌, Bool, true, false, ◌&&◌, not, cond, List, [], ◌∷◌}
use Rattle.std.proofs.Common.{◌++◌, length, get_or, drop, refl, sym, ap, ◌∙◌, eqb}
use Rattle.std.specs.Prelude.{filter}
use Rattle.std.specs.List.{flat_map, list_any}
use Rattle.std.specs.Option.{option_map_or}
use Rattle.mw_text.specs.declared.address.Addr.{Addr}
use Rattle.mw_text.specs.declared.address.Prefix.{Prefix}
use Rattle.mw_text.specs.Address.{covers, same_prefix}
use Rattle.mw_text.proofs.Found.{none_found}
use Rattle.ios_ast.specs.declared.file.File.{File}
use Rattle.ios_ast.specs.declared.file.StaticRoute.{StaticRoute}
use Rattle.ios_ast.specs.declared.file.Via.{Via}
use Rattle.ios_ast.specs.declared.file.Via.TheVariants.{Null0, Next, Out}
use Rattle.route_record.specs.declared.Failures.{Failures}
use Rattle.route_record.specs.declared.Packet.{Packet}
use Rattle.net_interfaces.specs.declared.interfaces.Addressed.{Addressed}
use Rattle.net_parts.specs.Routing.{counts, up_interfaces}
use Rattle.question_lang.specs.declared.walk.Hop.{Hop}
use Rattle.question_lang.specs.Hops.{all_up, send_over, send_to, static_hops}
use Rattle.sym_forwarding.specs.Statics.{is_taken, leads_on, route_hops, routes_hops}
use Rattle.sym_forwarding.proofs.OwnerHops.{back}

-- over no interface, where none has the address on its subnet
send_nowhere : (files : List File) (packet : Packet) (up own : List Addressed) (a : Addr) →
    list_any (λ x. covers x.subnet a) own ≡ false → send_over files packet up own a ≡ []
send_nowhere files packet up own a h =
    ap (λ o. option_map_or (λ out. send_to files packet up out a ∷ []) o []) (none_found (λ x. covers x.subnet a) own h)

counts_is : (own : List Addressed) (route : StaticRoute) →
    counts own route ≡ (not (eqb route.distance 255) && leads_on own route.via)
counts_is own route = by_via route.via where
  by_via : (via : Via) →
      counts own (record route { via = via }) ≡ (not (eqb route.distance 255) && leads_on own via)
  by_via Null0 = refl
  by_via (Next a) = refl
  by_via (Out named a) = refl

-- a route that does not lead on has no hops
leads_nowhere : (files : List File) (packet : Packet) (up own : List Addressed) (route : StaticRoute) →
    leads_on own route.via ≡ false → static_hops files packet up own route ≡ []
leads_nowhere files packet up own route = by_via route.via where
  by_via : (via : Via) → leads_on own via ≡ false → static_hops files packet up own (record route { via = via }) ≡ []
  by_via Null0 h = cc
  by_via (Next a) h = send_nowhere files packet up own a h
  by_via (Out named a) h = send_nowhere files packet up own a h

-- what the first of some items gives that pass two tests
first_twice : {A B : Type 0} (f : A → List B) (q p : A → Bool) (x : A) (xs : List A) →
    flat_map f (filter q (filter p (x ∷ xs))) ≡ cond (p x && q x) (f x) [] ++ flat_map f (filter q (filter p xs))
first_twice {A} {B} f q p x xs = by_one (p x) where
  by_other : (c : Bool) → flat_map f (cond c (x ∷ filter q (filter p xs)) (filter q (filter p xs)))
      ≡ cond c (f x) [] ++ flat_map f (filter q (filter p xs))
  by_other true = refl
  by_other false = refl

  by_one : (b : Bool) → flat_map f (filter q (cond b (x ∷ filter p xs) (filter p xs)))
      ≡ cond (b && q x) (f x) [] ++ flat_map f (filter q (filter p xs))
  by_one true = by_other (q x)
  by_one false = refl

-- whether the route leads on need not be asked
unasked : (same near on close : Bool) (hops : List Hop) → (on ≡ false → hops ≡ []) →
    cond ((same && (near && on)) && close) hops [] ≡ cond (near && (same && close)) hops []
unasked true true true close hops nowhere = refl
unasked true true false true hops nowhere = sym (nowhere refl)
unasked true true false false hops nowhere = refl
unasked true false on close hops nowhere = refl
unasked false true on close hops nowhere = refl
unasked false false on close hops nowhere = refl

routes_step : (files : List File) (failures : Failures) (packet : Packet) (router : ℕ) (p : Prefix) (distance : ℕ)
    (x : StaticRoute) (xs : List StaticRoute) →
    routes_hops files failures packet router p distance (x ∷ xs)
    ≡ cond (is_taken p distance x) (route_hops files failures packet router x) []
    ++ routes_hops files failures packet router p distance xs
routes_step files failures packet router p distance x xs =
    let own = up_interfaces files failures router in
    let hops = static_hops files packet (all_up files failures) own in
    let rest = routes_hops files failures packet router p distance xs in
    first_twice hops (λ route. eqb route.distance distance)
    (λ route. same_prefix route.prefix p && counts own route) x xs
    ∙ ap (λ b. cond ((same_prefix x.prefix p && b) && eqb x.distance distance) (hops x) [] ++ rest) (counts_is own x)
    ∙ ap (λ hs. hs ++ rest)
    (unasked (same_prefix x.prefix p) (not (eqb x.distance 255)) (leads_on own x.via) (eqb x.distance distance)
    (hops x) (leads_nowhere files packet (all_up files failures) own x))

pub routes_back : (files : List File) (failures : Failures) (packet : Packet) (router : ℕ) (p : Prefix) (distance : ℕ)
    (xs : List StaticRoute) (i : ℕ) (x : StaticRoute) → 0 < i → i ≤ length xs → x ≡ get_or xs (i - 1) x →
    routes_hops files failures packet router p distance (drop (i - 1) xs)
    ≡ cond (is_taken p distance x) (route_hops files failures packet router x) []
    ++ routes_hops files failures packet router p distance (drop i xs)
routes_back files failures packet router p distance xs i x above within here =
    let rest = routes_hops files failures packet router p distance (drop i xs) in
    back (routes_hops files failures packet router p distance)
    (λ y more. cond (is_taken p distance y) (route_hops files failures packet router y) [] ++ more)
    (routes_step files failures packet router p distance) xs i x above within
    ∙ ap (λ y. cond (is_taken p distance y) (route_hops files failures packet router y) [] ++ rest) (sym here)
