-- Identifiers and announcements by the number of an external end.
use Rattle.std.proofs.Common.{◌≡◌, ℕ, zero, suc, ◌≤◌, Bool, true, false, List, [], ◌∷◌, length, map, take, Option, Some, None}
use Rattle.std.proofs.Common.{refl, sym, ap, ◌∙◌, arith, slice_get, if◌then◌else◌}
use Rattle.std.specs.Prelude.{All, IfSome, option_copied, option_map, unwrap_or}
use Rattle.std.specs.Borrow.{Bor}
use Rattle.mw_text.proofs.Lists.{all_found}
use Rattle.std.specs.List.{count_by}
use Rattle.std.proofs.lemmas.List.{length-take}
use Rattle.std.proofs.lemmas.List.Elements.{All-head, All-tail}
use Rattle.std.proofs.lemmas.List.Sums.{count_by-le-length, length-filter}
use Rattle.std.proofs.lemmas.Option.{same_Some, slice_get-map}
use Rattle.mw_text.specs.declared.address.Addr.{Addr}
use Rattle.net_parts.specs.declared.sessions.SessionEnd.{SessionEnd}
use Rattle.net_parts.specs.Decisions.{external_count}
use Rattle.net_parts.specs.Sessions.{is_outside}
use Rattle.plan_places.specs.declared.places.Place.{Place}
use Rattle.plan_places.specs.Places.{is_at, item_at}
use Rattle.term_store.specs.Terms.{Reading}
use Rattle.term_arith.specs.declared.Bits.{Bits}
use Rattle.term_arith.specs.Bits.{ids_end, number}
use Rattle.sym_policy.specs.Records.{address_of}
use Rattle.sym_rib.specs.Into.{list_end}

-- how many external ends stand before a place
pub count_is : (ends : List SessionEnd) → count_by (λ end. is_outside end.far) ends ≡ external_count ends
count_is ends = sym (length-filter (λ (end : SessionEnd). is_outside end.far) ends)

pub count_small : (ends : List SessionEnd) (at : ℕ) → at ≤ length ends →
    count_by (λ end. is_outside end.far) (take at ends) ≤ at
count_small ends at within =
    let most = count_by-le-length (λ (end : SessionEnd). is_outside end.far) (take at ends) in
    let long = length-take at ends in
    omega (arith, most, long, within)

-- ---- an item of a list

pub end_at : {A : Type 0} (end : A → ℕ) (xs : List A) (k : ℕ) (x : A) → slice_get xs k ≡ Some x →
    end x ≤ list_end end xs
end_at end [] k x there = absurd cc
end_at end (y ∷ xs) zero x there = let same = ap end (same_Some y x there) in omega (arith, same)
end_at end (y ∷ xs) (suc k) x there = let rest = end_at end xs k x there in omega (arith, rest)

pub id_there : (w : Reading) (ids : List Bits) (k : ℕ) (id : Bits) → Some id ≡ slice_get ids k →
    number w id.nodes.items ≡ (unwrap_or (slice_get (map (address_of w) ids) k) (record { 0 = 0 })).0
id_there w ids k id there =
    sym (ap (λ (o : Option Addr). (unwrap_or o (record { 0 = 0 })).0)
    (slice_get-map (address_of w) ids k ∙ ap (option_map (address_of w)) (sym there)))

pub id_missing : (w : Reading) (ids : List Bits) (k : ℕ) → None ≡ slice_get ids k →
    0 ≡ (unwrap_or (slice_get (map (address_of w) ids) k) (record { 0 = 0 })).0
id_missing w ids k there =
    sym (ap (λ (o : Option Addr). (unwrap_or o (record { 0 = 0 })).0)
    (slice_get-map (address_of w) ids k ∙ ap (option_map (address_of w)) (sym there)))

pub id_wide : (ids : List Bits) (k : ℕ) (o : Option (Bor Bits)) → All (λ id. length id.nodes.items ≡ 32) ids →
    option_copied o ≡ slice_get ids k → IfSome o (λ id. length id.now.nodes.items ≡ 32)
id_wide ids k None all is = tt
id_wide ids k (Some id) all is = all_found (λ (id : Bits). length id.nodes.items ≡ 32) ids k id.now all (sym is)

pub id_within : (ids : List Bits) (k : ℕ) (o : Option (Bor Bits)) → option_copied o ≡ slice_get ids k →
    IfSome o (λ id. ids_end id.now.nodes.items ≤ list_end (λ (id : Bits). ids_end id.nodes.items) ids)
id_within ids k None is = tt
id_within ids k (Some id) is = end_at (λ (id : Bits). ids_end id.nodes.items) ids k id.now (sym is)

pub ruleset ids_steps = (id_wide, id_within)

-- ---- an item at a place

pub item_map : {X Y : Type 0} (f : X → Y) (ps : List Place) (xs : List X) (router len : ℕ) →
    item_at ps (map f xs) router len ≡ option_map f (item_at ps xs router len)
unfolding item_at
item_map f [] xs router len = refl
item_map f (p ∷ ps) [] router len = refl
item_map {X} {Y} f (p ∷ ps) (x ∷ xs) router len = by (is_at router len p) (item_map f ps xs router len) where
  by : (b : Bool) → item_at ps (map f xs) router len ≡ option_map f (item_at ps xs router len) →
      (if b then Some (f x) else item_at ps (map f xs) router len)
      ≡ option_map f (if b then Some x else item_at ps xs router len)
  by true rest = refl
  by false rest = rest

-- what holds of all holds of it
pub item_all : {X : Type 0} (P : X → Type 0) (ps : List Place) (xs : List X) (router len : ℕ) → All P xs →
    IfSome (item_at ps xs router len) P
unfolding item_at
item_all P [] xs router len all = tt
item_all P (p ∷ ps) [] router len all = tt
item_all {X} P (p ∷ ps) (x ∷ xs) router len all =
    by (is_at router len p) (item_all P ps xs router len (All-tail P x xs all))
  where
    by : (b : Bool) → IfSome (item_at ps xs router len) P →
        IfSome (if b then Some x else item_at ps xs router len) P
    by true rest = All-head P x xs all
    by false rest = rest

pub item_end : {X : Type 0} (end : X → ℕ) (ps : List Place) (xs : List X) (router len : ℕ) →
    IfSome (item_at ps xs router len) (λ x. end x ≤ list_end end xs)
unfolding item_at
item_end end [] xs router len = tt
item_end end (p ∷ ps) [] router len = tt
item_end {X} end (p ∷ ps) (x ∷ xs) router len =
    by (is_at router len p) (item_at ps xs router len) (item_end end ps xs router len)
  where
    by : (b : Bool) (o : Option X) → IfSome o (λ y. end y ≤ list_end end xs) →
        IfSome (if b then Some x else o) (λ y. end y ≤ list_end end (x ∷ xs))
    by true o rest = omega arith
    by false None rest = tt
    by false (Some y) rest = omega (arith, rest)

pub item_under : {X : Type 0} (end : X → ℕ) (ps : List Place) (xs : List X) (router len n : ℕ) → list_end end xs ≤ n →
    IfSome (item_at ps xs router len) (λ x. end x ≤ n)
item_under end ps xs router len n under = by (item_at ps xs router len) (item_end end ps xs router len) where
  by : (o : Option _) → IfSome o (λ x. end x ≤ list_end end xs) → IfSome o (λ x. end x ≤ n)
  by None less = tt
  by (Some x) less = omega (arith, less, under)
