-- Routes that are compared, by the nodes that say whether they are there.
use Rattle.std.proofs.Common.{◌≡◌, ℕ, zero, suc, ◌+◌, ◌<◌, ◌≤◌, Bool, true, false, ◌&&◌, ◌||◌, not, List, [], ◌∷◌}
use Rattle.std.proofs.Common.{length, drop}
use Rattle.std.proofs.Common.{get_or, max, Option, Some, None, refl, ap, arith}
use Rattle.std.specs.Prelude.{if◌then◌else◌}
use Rattle.std.specs.List.{filter_map, cons_option, list_any}
use Rattle.std.specs.Option.{option_map_or}
use Rattle.std.proofs.lemmas.Grind.{common_steps}
use Rattle.std.proofs.Math.Bool.{or_assoc, or-false}
use Rattle.std.proofs.lemmas.List.{drop_more, drop_all}
use Rattle.route_record.specs.declared.OspfRec.{OspfRec}
use Rattle.net_parts.specs.OspfRoutes.{is_as_good, is_better}
use Rattle.net_parts.specs.Sending.{same_record}
use Rattle.std.specs.Prelude.{Result, Ok, Err}
use Rattle.std.specs.declared.alloc.AllocError.{AllocError}
use Rattle.term_store.specs.Terms.{Reading, Store}
use Rattle.term_store.specs.Reading.{Gives, Reads}
use Rattle.sym_policy.specs.declared.records.SymOspf.{SymOspf}
use Rattle.sym_policy.specs.Held.{ospf_of, ospf_end}
use Rattle.sym_ospf.specs.Routes.{routes_end}
use Rattle.sym_rib.specs.Into.{list_end}
use Rattle.world_variables.specs.Slots.{same_ospf}

-- two routes that may be there are one
pub same_is : (a b : Bool) (x y : OspfRec) → (not (a || b) || ((a && b) && same_record x y))
    ≡ same_ospf (if a then Some x else None) (if b then Some y else None)
same_is true true x y = refl
same_is true false x y = refl
same_is false true x y = refl
same_is false false x y = refl

pub ruleset same_steps = (common_steps, same_is)

-- one that may be there is as good as another
pub good_is : (a : Bool) (x held : OspfRec) → (a && not (is_better held x))
    ≡ option_map_or (λ o. is_as_good o held) (if a then Some x else None) false
good_is true x held = refl
good_is false x held = refl

-- and one of some is
pub held_is : (b any : Bool) (f : OspfRec → Bool) (x : OspfRec) → any ≡ f x →
    (b && any) ≡ option_map_or f (if b then Some x else None) false
held_is true any f x same = same
held_is false any f x same = refl

-- no route is there exactly where the node is false
pub none_is : (there : Bool) (x : OspfRec) → not there ≡ same_ospf (if there then Some x else None) None
none_is true x = refl
none_is false x = refl

-- ---- one route after another

pub some_next : (p : OspfRec → Bool) (w : Reading) (x : SymOspf) (xs : List SymOspf) →
    list_any p (filter_map (ospf_of w) (x ∷ xs))
    ≡ (option_map_or p (ospf_of w x) false || list_any p (filter_map (ospf_of w) xs))
some_next p w x xs = by_option (ospf_of w x) where
  by_option : (o : Option OspfRec) → list_any p (cons_option o (filter_map (ospf_of w) xs))
      ≡ (option_map_or p o false || list_any p (filter_map (ospf_of w) xs))
  by_option None = refl
  by_option (Some r) = refl

pub routes_at : (xs : List SymOspf) (i : ℕ) (d : SymOspf) → i < length xs →
    (get_or xs i d ≡ get_or xs i d) × (drop i xs ≡ get_or xs i d ∷ drop (i + 1) xs)
routes_at xs i d within = (refl, drop_more xs i d within)

-- a route of a list has its nodes below the end of all
pub route_below : (xs : List SymOspf) (i : ℕ) (d : SymOspf) → i < length xs →
    ospf_end (get_or xs i d) ≤ list_end ospf_end xs
route_below [] i d within = absurd (omega arith)
route_below (x ∷ xs) zero d within = omega arith
route_below (x ∷ xs) (suc i) d within = let below = route_below xs i d (omega arith) in omega (arith, below)

pub ruleset any_steps = (common_steps, some_next, routes_at, route_below, drop_all, or_assoc, or-false)

-- both ends of a list of routes are one
pub ends_same : (xs : List SymOspf) → routes_end xs ≡ list_end ospf_end xs
ends_same [] = refl
ends_same (x ∷ xs) = ap (max (ospf_end x)) (ends_same xs)

-- what a call gives gives what follows from it
pub gives_more : {A : Type 0} (t : Store) (result : Result A AllocError) (P Q : Reading → A → Type 0) →
    ((w : Reading) (r : A) → Reads w t → P w r → Q w r) → Gives t result P → Gives t result Q
gives_more t (Ok r) P Q follows given = λ w reads. follows w r reads (given w reads)
gives_more t (Err e) P Q follows given = tt
