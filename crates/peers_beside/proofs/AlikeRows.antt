-- Rows of announcements, item by item.
use Rattle.std.proofs.Common.{◌≡◌, ℕ, zero, suc, ◌+◌, ◌*◌, ◌<◌, ◌≤◌, Bool, true, List, [], ◌∷◌, ◌++◌, length, map, take, drop}
use Rattle.std.proofs.Common.{Some, refl, sym, ap, ap₂, subst, arith, ◌∙◌, slice_get}
use Rattle.std.specs.Prelude.{◌&&◌, ◌↔◌, All}
use Rattle.std.proofs.lemmas.Bool.{and_from, and_parts}
use Rattle.std.proofs.lemmas.List.{length-drop, length-map, length-take-le, map-append, take_all}
use Rattle.std.proofs.lemmas.List.Elements.{All-drop, All-pop, All-push, All-take}
use Rattle.std.proofs.lemmas.Nat.{mul-le}
use Rattle.std.proofs.lemmas.Option.{slice_get_within}
use Rattle.std.proofs.Math.Nat.{suc-mul}
use Rattle.mw_text.proofs.Lists.{all_found}
use Rattle.mw_text.proofs.Found.{take_at}
use Rattle.route_record.specs.declared.tracked.Tracked.{Tracked}
use Rattle.sym_policy.specs.declared.records.SymBgp.{SymBgp}
use Rattle.sym_rib.specs.Into.{list_end}
use Rattle.bgp_equations.specs.Environments.{HasLists}
use Rattle.peers_beside.specs.Same.{HaveLists, row}
use Rattle.peers_beside.proofs.RowsRead.{row_is}

-- ---- one item more

last_same : {Y : Type 0} (ps qs : List Y) (y z : Y) → length ps ≡ length qs → ps ++ y ∷ [] ≡ qs ++ z ∷ [] →
    (ps ≡ qs) × (y ≡ z)
last_same [] [] y z long same = let is : y ≡ z = cc in (refl, is)
last_same [] (q ∷ qs) y z long same = absurd (omega (arith, long))
last_same (p ∷ ps) [] y z long same = absurd (omega (arith, long))
last_same (p ∷ ps) (q ∷ qs) y z long same =
    let head : p ≡ q = cc in
    let tail : ps ++ y ∷ [] ≡ qs ++ z ∷ [] = cc in
    let rest = last_same ps qs y z (omega (arith, long)) tail in
    (ap (λ r. r ∷ ps) head ∙ ap (λ rs. q ∷ rs) rest.0, rest.1)

pub same_more : {X Y : Type 0} (f g : X → Y) (xs ys : List X) (i : ℕ) (x y : X) (all one r : Bool) →
    slice_get xs i ≡ Some x → slice_get ys i ≡ Some y → all ≡ true ↔ map f (take i xs) ≡ map g (take i ys) →
    one ≡ true ↔ f x ≡ g y → r ≡ (all && one) → r ≡ true ↔ map f (take (i + 1) xs) ≡ map g (take (i + 1) ys)
same_more {X} {Y} f g xs ys i x y all one r here there so_far next is = (
  λ holds.
      let both = and_parts all one (sym is ∙ holds) in
      left ∙ ap₂ (λ ps p. ps ++ p ∷ []) (so_far.0 both.0) (next.0 both.1) ∙ sym right,
  λ same.
      let both = last_same (map f (take i xs)) (map g (take i ys)) (f x) (g y) long (sym left ∙ same ∙ right) in
      is ∙ and_from all one (so_far.1 both.0) (next.1 both.1),
)
  where
    left : map f (take (i + 1) xs) ≡ map f (take i xs) ++ f x ∷ []
    left = ap (map f) (take_at xs i x here) ∙ map-append f (take i xs) (x ∷ [])

    right : map g (take (i + 1) ys) ≡ map g (take i ys) ++ g y ∷ []
    right = ap (map g) (take_at ys i y there) ∙ map-append g (take i ys) (y ∷ [])

    long : length (map f (take i xs)) ≡ length (map g (take i ys))
    long =
        let less = slice_get_within xs i x here in
        let lower = slice_get_within ys i y there in
        length-map (take i xs) f ∙ length-take-le i xs (omega (arith, less))
        ∙ sym (length-take-le i ys (omega (arith, lower))) ∙ sym (length-map (take i ys) g)

pub same_all : {X Y : Type 0} (f g : X → Y) (xs ys : List X) (i : ℕ) (r : Bool) → length xs ≤ i → length xs ≡ length ys →
    r ≡ true ↔ map f (take i xs) ≡ map g (take i ys) → r ≡ true ↔ map f xs ≡ map g ys
same_all f g xs ys i r past long tells =
    let left = ap (map f) (take_all i xs past) in
    let right = ap (map g) (take_all i ys (omega (arith, past, long))) in
    (λ holds. sym left ∙ tells.0 holds ∙ right, λ same. tells.1 (left ∙ same ∙ sym right))

-- ---- all items

pub all_more : {X : Type 0} (P : X → Type 0) (xs : List X) (i : ℕ) (x : X) (all one r : Bool) →
    slice_get xs i ≡ Some x → all ≡ true ↔ All P (take i xs) → one ≡ true ↔ P x → r ≡ (all && one) →
    r ≡ true ↔ All P (take (i + 1) xs)
all_more P xs i x all one r there so_far next is = (
  λ holds.
      let both = and_parts all one (sym is ∙ holds) in
      subst (All P) (sym (take_at xs i x there)) (All-push P (take i xs) x (so_far.0 both.0) (next.0 both.1)),
  λ each.
      let both = All-pop P (take (i + 1) xs) (take i xs) (Some x) (take_at xs i x there) each in
      is ∙ and_from all one (so_far.1 both.0) (next.1 both.1),
)

pub all_whole : {X : Type 0} (P : X → Type 0) (xs : List X) (i : ℕ) (r : Bool) → length xs ≤ i →
    r ≡ true ↔ All P (take i xs) → r ≡ true ↔ All P xs
all_whole P xs i r past tells = (
  λ holds. subst (All P) (take_all i xs past) (tells.0 holds),
  λ each. tells.1 (subst (All P) (sym (take_all i xs past)) each),
)

-- ---- a row of many

end_take : {X : Type 0} (end : X → ℕ) (n : ℕ) (xs : List X) → list_end end (take n xs) ≤ list_end end xs
end_take end zero xs = omega arith
end_take end (suc n) [] = omega arith
end_take end (suc n) (x ∷ xs) = let rest = end_take end n xs in omega (arith, rest)

end_drop : {X : Type 0} (end : X → ℕ) (n : ℕ) (xs : List X) → list_end end (drop n xs) ≤ list_end end xs
end_drop end zero xs = omega arith
end_drop end (suc n) [] = omega arith
end_drop end (suc n) (x ∷ xs) = let rest = end_drop end n xs in omega (arith, rest)

-- it ends no later than all do
pub row_end : {X : Type 0} (end : X → ℕ) (count : ℕ) (xs : List X) (k most : ℕ) → list_end end xs ≤ most →
    list_end end (row count xs k) ≤ most
row_end end count xs k most within =
    let part = end_take end count (drop (k * count) xs) in
    let rest = end_drop end (k * count) xs in
    subst (λ ys. list_end end ys ≤ most) (sym (row_is count xs k)) (omega (arith, part, rest, within))

-- it stands among them
pub row_within : {X : Type 0} (count : ℕ) (xs : List X) (k n : ℕ) → k < n → length xs ≡ n * count →
    k * count + count ≤ length xs
row_within count xs k n less long =
    let rows = mul-le (suc k) count n count (omega (arith, less)) (omega arith) in
    let next = suc-mul k count in
    omega (arith, long, rows, next)

-- and is as long as each
pub row_full : {X : Type 0} (count : ℕ) (xs : List X) (k : ℕ) → k * count + count ≤ length xs →
    length (row count xs k) ≡ count
row_full count xs k within =
    let rest = length-drop (k * count) xs in
    ap length (row_is count xs k) ∙ length-take-le count (drop (k * count) xs) (omega (arith, within, rest))

pub row_long : {X : Type 0} (count : ℕ) (xs : List X) (k n : ℕ) → k < n → length xs ≡ n * count →
    length (row count xs k) ≡ count
row_long count xs k n less long = row_full count xs k (row_within count xs k n less long)

-- ---- the lists of routes

pub row_all : {X : Type 0} (P : X → Type 0) (count : ℕ) (xs : List X) (k : ℕ) → All P xs → All P (row count xs k)
row_all P count xs k all =
    subst (All P) (sym (row_is count xs k))
    (All-take P count (drop (k * count) xs) (All-drop P (k * count) xs all))

-- rows of two networks that track the same have as many nodes for each list
pub lists_rows : (tracked also : Tracked) (count : ℕ) (xs ys : List SymBgp) (i j : ℕ) → tracked ≡ also →
    All (HasLists tracked) xs → All (HasLists also) ys → HaveLists (row count xs i) (row count ys j)
lists_rows tracked also count xs ys i j same all others = λ k x y here there.
    let left = row_all (HasLists tracked) count xs i all in
    let right = row_all (HasLists also) count ys j others in
    let one = all_found (HasLists tracked) (row count xs i) k x left here in
    let other = all_found (HasLists also) (row count ys j) k y right there in
    record {
      numbers = one.numbers ∙ ap (λ (t : Tracked). length t.numbers) same ∙ sym other.numbers;
      communities = one.communities ∙ ap (λ (t : Tracked). length t.communities) same ∙ sym other.communities;
    }
