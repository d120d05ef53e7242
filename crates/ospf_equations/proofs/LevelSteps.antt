-- Limits of what routes cost: the best is within one exactly where one of all is.
use Rattle.std.proofs.Common.{◌≡◌, ℕ, ◌+◌, ◌-◌, ◌<◌, ◌≤◌, ◌^◌, Bool, true, false, not, List, [], ◌∷◌, Option}
use Rattle.std.proofs.Common.{Some, None, refl, ap, sym, ◌∙◌, arith, if◌then◌else◌}
use Rattle.std.specs.Prelude.{◌==◌, ◌&&◌, ◌||◌, nat_lt, fold, option_and_then}
use Rattle.std.specs.List.{list_any}
use Rattle.std.proofs.lemmas.Bool.Decides.{nat_tests}
use Rattle.std.proofs.Math.Bool.{or_assoc, or-false}
use Rattle.mw_text.specs.declared.address.Prefix.{Prefix}
use Rattle.ios_ast.specs.declared.file.File.{File}
use Rattle.route_record.specs.declared.Failures.{Failures}
use Rattle.route_record.specs.declared.OspfKind.{OspfKind}
use Rattle.route_record.specs.declared.OspfKind.TheVariants.{Internal, Ext1, Ext2}
use Rattle.route_record.specs.declared.OspfRec.{OspfRec}
use Rattle.route_record.specs.declared.Tables.{Tables}
use Rattle.net_parts.specs.declared.adjacencies.Adjacency.{Adjacency}
use Rattle.net_parts.specs.OspfRoutes.{better_of, extended, first_best, is_better, kind_rank}
use Rattle.net_parts.specs.Sending.{same_record}
use Rattle.sym_policy.specs.Held.{kind_of_number}
use Rattle.ospf_equations.specs.Equations.{offers_by}
use Rattle.ospf_equations.specs.Levels.{has_within, is_within, of_length}
use Rattle.world_variables.specs.Slots.{same_ospf}

-- the better one of two is within a limit exactly where one of them is
better_within : (most : ℕ) (x b : OspfRec) →
    is_within most (if is_better x b then x else b) ≡ (is_within most b || is_within most x)
better_within most x b = by_kinds x.kind b.kind where
  by_cost : (wins : Bool) → nat_lt x.cost b.cost ≡ wins →
      is_within most (if wins then record x { kind = Internal } else record b { kind = Internal })
      ≡ (not (nat_lt most b.cost) || not (nat_lt most x.cost))
  by_cost true is = grind (arith, nat_tests)
  by_cost false is = grind (arith, nat_tests)

  neither : (wins : Bool) (y z : OspfRec) → is_within most y ≡ false → is_within most z ≡ false →
      is_within most (if wins then y else z) ≡ false
  neither true y z first second = first
  neither false y z first second = second

  by_kinds : (k l : OspfKind) →
      is_within most (if is_better (record x { kind = k }) (record b { kind = l })
      then record x { kind = k } else record b { kind = l })
      ≡ (is_within most (record b { kind = l }) || is_within most (record x { kind = k }))
  by_kinds Internal Internal = by_cost (nat_lt x.cost b.cost) refl
  by_kinds Internal Ext1 = refl
  by_kinds Internal Ext2 = refl
  by_kinds Ext1 Internal = sym (or-false (not (nat_lt most b.cost)))
  by_kinds Ext2 Internal = sym (or-false (not (nat_lt most b.cost)))
  by_kinds Ext1 Ext1 =
      neither (is_better (record x { kind = Ext1 }) (record b { kind = Ext1 })) (record x { kind = Ext1 })
      (record b { kind = Ext1 }) refl refl
  by_kinds Ext1 Ext2 = refl
  by_kinds Ext2 Ext1 = refl
  by_kinds Ext2 Ext2 =
      neither (is_better (record x { kind = Ext2 }) (record b { kind = Ext2 })) (record x { kind = Ext2 })
      (record b { kind = Ext2 }) refl refl

best_from : (most : ℕ) (best : Option OspfRec) (xs : List OspfRec) →
    has_within most (fold better_of best xs) ≡ (has_within most best || list_any (is_within most) xs)
best_from most best [] = sym (or-false (has_within most best))
best_from most None (x ∷ xs) = best_from most (Some x) xs
best_from most (Some b) (x ∷ xs) =
    best_from most (better_of (Some b) x) xs
    ∙ ap (λ t. t || list_any (is_within most) xs) (one (is_better x b) ∙ better_within most x b)
    ∙ or_assoc (is_within most b) (is_within most x) (list_any (is_within most) xs)
  where
    one : (wins : Bool) → has_within most (if wins then Some x else Some b)
        ≡ is_within most (if wins then x else b)
    one true = refl
    one false = refl

best_within : (most : ℕ) (xs : List OspfRec) → has_within most (first_best xs) ≡ list_any (is_within most) xs
best_within most xs = best_from most None xs

same_within : (most : ℕ) (a b : OspfRec) → same_record a b ≡ true → is_within most a ≡ is_within most b
same_within most a b same = grind (arith, nat_tests)

-- a route that is the best of some is within a limit exactly where one of them is
pub level_is : (most : ℕ) (held : Option OspfRec) (xs : List OspfRec) → same_ospf held (first_best xs) ≡ true →
    has_within most held ≡ list_any (is_within most) xs
level_is most held xs same = by_options held (first_best xs) same ∙ best_within most xs where
  by_options : (a b : Option OspfRec) → same_ospf a b ≡ true → has_within most a ≡ has_within most b
  by_options None None h = refl
  by_options None (Some b) h = cc
  by_options (Some a) None h = cc
  by_options (Some a) (Some b) h = same_within most a b h

-- an offer is within a limit exactly where the far route is within what is left of it
pub offer_within : (most cost : ℕ) (far : Option OspfRec) → most < 2 ^ 32 → cost ≤ most →
    has_within (most - cost) far ≡ has_within most (option_and_then (extended cost) far)
offer_within most cost None few within = refl
offer_within most cost (Some r) few within = by_test (nat_lt (r.cost + cost) (2 ^ 32)) refl where
  by_test : (fits : Bool) → nat_lt (r.cost + cost) (2 ^ 32) ≡ fits → is_within (most - cost) r
      ≡ has_within most (if fits then Some (record r { cost = r.cost + cost }) else None)
  by_test true is = grind (arith, nat_tests)
  by_test false is = grind (arith, nat_tests)

pub dear_offer : (most cost : ℕ) (far : Option OspfRec) → most < cost →
    has_within most (option_and_then (extended cost) far) ≡ false
dear_offer most cost None dear = refl
dear_offer most cost (Some r) dear = by_test (nat_lt (r.cost + cost) (2 ^ 32)) where
  by_test : (fits : Bool) →
      has_within most (if fits then Some (record r { cost = r.cost + cost }) else None) ≡ false
  by_test true = grind (arith, nat_tests)
  by_test false = refl

-- ---- by nodes

-- what is offered where a node is true is within a limit where both are true
pub up_within : (most : ℕ) (up within : Bool) (o : Option OspfRec) → within ≡ has_within most o →
    (up && within) ≡ has_within most (if up then o else None)
up_within most true within o same = same
up_within most false within o same = refl

-- a route within a limit is within each greater one
pub within_more : (least most : ℕ) (o : Option OspfRec) → least ≤ most → has_within least o ≡ true →
    has_within most o ≡ true
within_more least most None more within = within
within_more least most (Some r) more within = by_kind (kind_rank r.kind == 0) within where
  by_kind : (internal : Bool) → (internal && not (nat_lt least r.cost)) ≡ true →
      (internal && not (nat_lt most r.cost)) ≡ true
  by_kind true is = grind (arith, nat_tests, more, is)
  by_kind false is = is

-- one of some is true where one of those before, this one and those that are left is: a step that weakens this one
pub near_step : (any here one rest all : Bool) → (all ≡ true → (any || (one || rest)) ≡ true) →
    (one ≡ true → here ≡ true) → all ≡ true → ((any || here) || rest) ≡ true
near_step true here one rest all before step is = refl
near_step false here true rest all before step is = ap (λ h. h || rest) (step refl)
near_step false true false rest all before step is = refl
near_step false false false rest all before step is = before is

-- and one that strengthens it
pub far_step : (any here one rest all : Bool) → ((any || (one || rest)) ≡ true → all ≡ true) →
    (here ≡ true → one ≡ true) → ((any || here) || rest) ≡ true → all ≡ true
far_step true here one rest all before step is = before refl
far_step false true one rest all before step is = before (ap (λ o. o || rest) (step refl))
far_step false false true rest all before step is = before refl
far_step false false false rest all before step is = before is

-- what holds exactly where one of two does: then the first holds or what the second implies
pub either_so : (here a b near : Bool) → here ≡ (a || b) → (b ≡ true → near ≡ true) →
    (not here || (a || near)) ≡ true
either_so false a b near is follows = refl
either_so true true b near is follows = refl
either_so true false b near is follows = follows (sym is)

-- and it holds where the first does, or what implies the second
pub so_either : (here a b far : Bool) → here ≡ (a || b) → (far ≡ true → b ≡ true) → (not (a || far) || here) ≡ true
so_either here true b far is follows = is
so_either here false b true is follows = is ∙ follows refl
so_either here false b false is follows = refl

pub implies_true : (a b : Bool) → (a ≡ true → b ≡ true) → (not a || b) ≡ true
implies_true true b follows = follows refl
implies_true false b follows = refl

-- what follows from a test excludes nothing
pub implied : (a b : Bool) → (a ≡ true → b ≡ true) → (a && b) ≡ a
implied true b follows = follows refl
implied false b follows = refl

-- the test of a route that may be there, by its numbers
pub within_is : (there : Bool) (kind metric cost most : ℕ) → ((there && (kind == 0)) && not (nat_lt most cost))
    ≡ has_within most (if there
    then Some (record { kind = kind_of_number kind; metric = metric; cost = cost }) else None)
within_is false kind metric cost most = refl
within_is true kind metric cost most = by_kind (kind == 0) (kind == 1) where
  by_kind : (internal first : Bool) → (internal && not (nat_lt most cost))
      ≡ ((kind_rank (if internal then Internal else (if first then Ext1 else Ext2)) == 0) && not (nat_lt most cost))
  by_kind true first = refl
  by_kind false true = refl
  by_kind false false = refl

-- the offers depend on the prefix by its length alone
pub offers_of_length : (files : List File) (failures : Failures) (tables : Tables) (router : ℕ) (p : Prefix)
    (links : List Adjacency) → offers_by files failures tables router (of_length p.len) links
    ≡ offers_by files failures tables router p links
unfolding offers_by
offers_of_length files failures tables router p links = refl
