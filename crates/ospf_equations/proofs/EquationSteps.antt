-- Routes of a router, one interface and one adjacency after another.
use Rattle.std.proofs.Common.{◌≡◌, ℕ, ◌+◌, ◌*◌, ◌≤◌, Bool, true, false, ◌||◌, not, List, [], ◌∷◌, ◌++◌}
use Rattle.std.proofs.Common.{filter, map, max, Option, Some, None, refl, sym, ap, ap₂, arith, ◌∙◌}
use Rattle.std.specs.Prelude.{◌==◌, ◌&&◌, if◌then◌else◌, cond}
use Rattle.std.specs.List.{filter_map, cons_option}
use Rattle.std.specs.Option.{option_to_list}
use Rattle.std.proofs.lemmas.Grind.{common_steps}
use Rattle.std.proofs.lemmas.List.{drop_all, append_assoc, append-nil}
use Rattle.mw_text.specs.declared.address.Prefix.{Prefix}
use Rattle.mw_text.specs.Address.{same_prefix}
use Rattle.ios_ast.specs.declared.file.File.{File}
use Rattle.route_record.specs.declared.Failures.{Failures}
use Rattle.route_record.specs.declared.OspfRec.{OspfRec}
use Rattle.route_record.specs.declared.Tables.{Tables}
use Rattle.net_parts.specs.declared.adjacencies.Adjacency.{Adjacency}
use Rattle.net_parts.specs.declared.ospf.OspfInterface.{OspfInterface}
use Rattle.net_parts.specs.Ospf.{advertisement, receives}
use Rattle.net_parts.specs.OspfRoutes.{offer_over}
use Rattle.net_parts.specs.World.{is_up}
use Rattle.term_store.specs.Terms.{Reading}
use Rattle.sym_policy.specs.declared.records.SymOspf.{SymOspf}
use Rattle.sym_policy.specs.Held.{internal_route, ospf_of, ospf_end}
use Rattle.sym_rib.specs.Into.{list_end}
use Rattle.sym_rib.proofs.OneEach.{filter_map_push, items_at, list_end_push}
use Rattle.ospf_equations.specs.Equations.{offered_by, offers_by, origin_by, originates, origins_by}

-- ---- one route more

pub routes_push : (w : Reading) (xs : List SymOspf) (x : SymOspf) →
    filter_map (ospf_of w) (xs ++ x ∷ []) ≡ filter_map (ospf_of w) xs ++ option_to_list (ospf_of w x)
routes_push w xs x = filter_map_push (ospf_of w) xs x

pub routes_end_push : (xs : List SymOspf) (x : SymOspf) →
    list_end ospf_end (xs ++ x ∷ []) ≡ max (list_end ospf_end xs) (ospf_end x)
routes_end_push xs x = list_end_push ospf_end xs x

-- ---- origins

pub origins_next : (files : List File) (failures : Failures) (router : ℕ) (p : Prefix) (x : OspfInterface)
    (xs : List OspfInterface) → origins_by files failures router p (x ∷ xs)
    ≡ option_to_list (origin_by files failures router p x) ++ origins_by files failures router p xs
unfolding origins_by
origins_next files failures router p x xs = by_test (originates files failures router p x) where
  by_test : (b : Bool) → map (λ (y : OspfInterface). internal_route y.cost)
      (cond b (x ∷ filter (originates files failures router p) xs) (filter (originates files failures router p) xs))
      ≡ option_to_list (if b then Some (internal_route x.cost) else None)
      ++ map (λ (y : OspfInterface). internal_route y.cost) (filter (originates files failures router p) xs)
  by_test true = refl
  by_test false = refl

pub origins_none : (files : List File) (failures : Failures) (router : ℕ) (p : Prefix) →
    origins_by files failures router p [] ≡ []
unfolding origins_by
origins_none files failures router p = refl

pub ruleset origin_steps = (common_steps, items_at, drop_all, origins_next, origins_none, append_assoc, append-nil)

-- ---- offers

pub offers_next : (files : List File) (failures : Failures) (tables : Tables) (router : ℕ) (p : Prefix) (a : Adjacency)
    (links : List Adjacency) → offers_by files failures tables router p (a ∷ links)
    ≡ option_to_list (offered_by files failures tables router p a) ++ offers_by files failures tables router p links
unfolding offers_by
offers_next files failures tables router p a links = by_test (receives files failures router a) where
  one : (o : Option OspfRec) (rest : List OspfRec) → cons_option o rest ≡ option_to_list o ++ rest
  one None rest = refl
  one (Some r) rest = refl

  by_test : (b : Bool) → filter_map (offer_over tables p)
      (cond b (a ∷ filter (receives files failures router) links) (filter (receives files failures router) links))
      ≡ option_to_list (if b then offer_over tables p a else None)
      ++ filter_map (offer_over tables p) (filter (receives files failures router) links)
  by_test true = one (offer_over tables p a) _
  by_test false = refl

pub offers_none : (files : List File) (failures : Failures) (tables : Tables) (router : ℕ) (p : Prefix) →
    offers_by files failures tables router p [] ≡ []
unfolding offers_by
offers_none files failures tables router p = refl

pub ruleset offer_steps = (common_steps, items_at, drop_all, offers_next, offers_none, append_assoc, append-nil)

-- ---- lists joined

pub routes_joined : (first : List SymOspf) (x : SymOspf) (rest : List SymOspf) →
    (first ++ x ∷ []) ++ rest ≡ first ++ x ∷ rest
routes_joined first x rest = append_assoc first (x ∷ []) rest

-- ---- lists of routes

pub nothing_put : (xs : List OspfRec) (b : Bool) (o : Option OspfRec) → o ≡ None →
    xs ≡ xs ++ option_to_list (if b then o else None)
nothing_put xs true o none = sym (append-nil xs) ∙ ap (λ (e : Option OspfRec). xs ++ option_to_list e) (sym none)
nothing_put xs false o none = sym (append-nil xs)

pub routes_end_joined : (xs ys : List SymOspf) →
    list_end ospf_end (xs ++ ys) ≡ max (list_end ospf_end xs) (list_end ospf_end ys)
routes_end_joined [] ys = omega arith
routes_end_joined (x ∷ xs) ys = let rest = routes_end_joined xs ys in omega (arith, rest)

-- an origin of the router
pub origin_put : (files : List File) (failures : Failures) (router : ℕ) (p : Prefix) (x : OspfInterface)
    (here up : Bool) →
    (x.at.id.router == router) ≡ true → here ≡ same_prefix (advertisement x) p → up ≡ is_up files failures x.at →
    (if here && up then Some (internal_route x.cost) else None) ≡ origin_by files failures router p x
origin_put files failures router p x here up same first second =
    ap₂ (λ a b. if a && b then Some (internal_route x.cost) else None) first second
    ∙ ap (λ b. if b && (same_prefix (advertisement x) p && is_up files failures x.at)
    then Some (internal_route x.cost) else None) (sym same)
