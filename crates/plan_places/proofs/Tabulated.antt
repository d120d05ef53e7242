-- Tables that have a given slot at each router and length.
use Rattle.std.proofs.Common.{◌≡◌, ℕ, zero, suc, ◌+◌, ◌-◌, ◌*◌, ◌<◌, ◌≤◌, List, [], ◌∷◌, ◌++◌, length}
use Rattle.std.proofs.Common.{Some, None, inl, inr, refl, sym, ap, ap₂, arith, ◌∙◌, length-append, slice_get}
use Rattle.std.specs.Prelude.{◌⊎◌, All, unwrap_or}
use Rattle.std.proofs.lemmas.Bool.{cases_lt}
use Rattle.std.proofs.lemmas.List.Elements.{All-append, All-cons, All-nil}
use Rattle.std.proofs.lemmas.Option.{same_Some, slice_get_past, slice_get_within}
use Rattle.mw_text.proofs.Lists.{list_ext}
use Rattle.route_record.specs.declared.Slot.{Slot}
use Rattle.route_record.specs.declared.Tables.{Tables}
use Rattle.route_record.specs.declared.TheConstants.{LENGTHS}
use Rattle.route_record.specs.Places.{slot_at}
use Rattle.plan_places.specs.Tables.{empty_slot, row_from, rows_from, tabulated}

-- ---- the slot at each router and length

row-length : (f : ℕ → Slot) (from n : ℕ) → length (row_from f from n) ≡ n
unfolding row_from
row-length f from zero = refl
row-length f from (suc n) = ap suc (row-length f (suc from) n)

row-at : (f : ℕ → Slot) (from n k : ℕ) → k < n → slice_get (row_from f from n) k ≡ Some (f (from + k))
unfolding row_from
row-at f from zero k below = absurd (omega (arith, below))
row-at f from (suc n) zero below = let e : from ≡ from + 0 = omega arith in ap (λ m. Some (f m)) e
row-at f from (suc n) (suc k) below =
    let e : suc from + k ≡ from + suc k = omega arith in
    row-at f (suc from) n k (omega (arith, below)) ∙ ap (λ m. Some (f m)) e

at_front : {X : Type 0} (xs ys : List X) (k : ℕ) → k < length xs → slice_get (xs ++ ys) k ≡ slice_get xs k
at_front [] ys k below = absurd (omega (arith, below))
at_front (x ∷ xs) ys zero below = refl
at_front (x ∷ xs) ys (suc k) below = at_front xs ys k (omega (arith, below))

pub at_back : {X : Type 0} (xs ys : List X) (j k : ℕ) → j ≡ length xs + k → slice_get (xs ++ ys) j ≡ slice_get ys k
at_back [] ys j k same = let e : j ≡ k = omega (arith, same) in ap (slice_get ys) e
at_back (x ∷ xs) ys zero k same = absurd (omega (arith, same))
at_back (x ∷ xs) ys (suc j) k same = at_back xs ys j k (omega (arith, same))

rows-length : (f : ℕ → ℕ → Slot) (router n : ℕ) → length (rows_from f router n) ≡ LENGTHS * n
unfolding rows_from
rows-length f router zero = refl
rows-length f router (suc n) =
    let a = length-append (row_from (f router) 0 LENGTHS) (rows_from f (suc router) n) in
    let b = row-length (f router) 0 LENGTHS in
    let c = rows-length f (suc router) n in
    omega (arith, a, b, c)

rows-at : (f : ℕ → ℕ → Slot) (router n k l i : ℕ) → k < n → l < LENGTHS → i ≡ LENGTHS * k + l →
    slice_get (rows_from f router n) i ≡ Some (f (router + k) l)
unfolding rows_from
rows-at f router zero k l i below short at = absurd (omega (arith, below))
rows-at f router (suc n) zero l i below short at =
    let long = row-length (f router) 0 LENGTHS in
    let e : i ≡ l = omega (arith, at) in
    let r : router ≡ router + 0 = omega arith in
    let z : 0 + l ≡ l = omega arith in
    ap (slice_get (row_from (f router) 0 LENGTHS ++ rows_from f (suc router) n)) e
    ∙ at_front (row_from (f router) 0 LENGTHS) (rows_from f (suc router) n) l (omega (arith, long, short))
    ∙ row-at (f router) 0 LENGTHS l short ∙ ap (λ m. Some (f router m)) z ∙ ap (λ m. Some (f m l)) r
rows-at f router (suc n) (suc k) l i below short at =
    let long = row-length (f router) 0 LENGTHS in
    let r : suc router + k ≡ router + suc k = omega arith in
    at_back (row_from (f router) 0 LENGTHS) (rows_from f (suc router) n) i (LENGTHS * k + l) (omega (arith, long, at))
    ∙ rows-at f (suc router) n k l (LENGTHS * k + l) (omega (arith, below)) short refl
    ∙ ap (λ m. Some (f m l)) r

row-all : (P : Slot → Type 0) (f : ℕ → Slot) (from n : ℕ) → ((k : ℕ) → P (f k)) → All P (row_from f from n)
unfolding row_from
row-all P f from zero each = All-nil P
row-all P f from (suc n) each =
    All-cons P (f from) (row_from f (suc from) n) (each from) (row-all P f (suc from) n each)

pub rows-all : (P : Slot → Type 0) (f : ℕ → ℕ → Slot) (router n : ℕ) → ((r k : ℕ) → P (f r k)) →
    All P (rows_from f router n)
unfolding rows_from
rows-all P f router zero each = All-nil P
rows-all P f router (suc n) each =
    All-append P (row_from (f router) 0 LENGTHS) (rows_from f (suc router) n)
    (row-all P (f router) 0 LENGTHS (each router))
    (rows-all P f (suc router) n each)

pub tabulated-length : (f : ℕ → ℕ → Slot) (n : ℕ) → length (tabulated f n).slots ≡ LENGTHS * n
tabulated-length f n = rows-length f 0 n

-- the slot at each router and length is the given one
pub tabulated-at : (f : ℕ → ℕ → Slot) (n router len : ℕ) → router < n → len < LENGTHS →
    slot_at (tabulated f n) router len ≡ Some (f router len)
tabulated-at f n router len below short =
    let z : 0 + router ≡ router = omega arith in
    rows-at f 0 n router len (LENGTHS * router + len) below short refl ∙ ap (λ m. Some (f m len)) z

-- and no other router has one
pub none_past : (tables : Tables) (n router len : ℕ) → length tables.slots ≡ LENGTHS * n → n ≤ router →
    slot_at tables router len ≡ None
none_past tables n router len long past =
    slice_get_past tables.slots (LENGTHS * router + len) (omega (arith, long, past))

-- ---- tables of slots that are the same are the same

row-same : (g h : ℕ → Slot) (from n : ℕ) → ((k : ℕ) → from ≤ k → k < from + n → g k ≡ h k) →
    row_from g from n ≡ row_from h from n
unfolding row_from
row-same g h from zero same = refl
row-same g h from (suc n) same =
    ap₂ (λ x xs. x ∷ xs) (same from (omega arith) (omega arith))
    (row-same g h (suc from) n (λ k low high. same k (omega (arith, low)) (omega (arith, high))))

rows-same : (g h : ℕ → ℕ → Slot) (r n : ℕ) → ((q k : ℕ) → r ≤ q → q < r + n → k < LENGTHS → g q k ≡ h q k) →
    rows_from g r n ≡ rows_from h r n
unfolding rows_from
rows-same g h r zero same = refl
rows-same g h r (suc n) same =
    ap₂ (λ xs ys. xs ++ ys)
    (row-same (g r) (h r) 0 LENGTHS (λ k low high. same r k (omega arith) (omega arith) (omega (arith, high))))
    (rows-same g h (suc r) n (λ q k low high short. same q k (omega (arith, low)) (omega (arith, high)) short))

pub tabulated-same : (g h : ℕ → ℕ → Slot) (n : ℕ) → ((q k : ℕ) → q < n → k < LENGTHS → g q k ≡ h q k) →
    tabulated g n ≡ tabulated h n
tabulated-same g h n same = ap (λ (xs : List Slot). record { slots = xs })
    (rows-same g h 0 n (λ q k low high short. same q k (omega (arith, high)) short))

-- the place of each slot of whole tables is that of a router and a length
split : (n k : ℕ) → k < LENGTHS * n → (q : ℕ) × (l : ℕ) × (q < n) × (l < LENGTHS) × (k ≡ LENGTHS * q + l)
split zero k below = absurd (omega (arith, below))
split (suc n) k below = by (cases_lt k (LENGTHS * n)) (split n k) where
  by : (k < LENGTHS * n) ⊎ (LENGTHS * n ≤ k) →
      (k < LENGTHS * n → (q : ℕ) × (l : ℕ) × (q < n) × (l < LENGTHS) × (k ≡ LENGTHS * q + l)) →
      (q : ℕ) × (l : ℕ) × (q < suc n) × (l < LENGTHS) × (k ≡ LENGTHS * q + l)
  by (inl less) rest =
      let found = rest less in
      let few = found.2 in
      (found.0, found.1, omega (arith, few), found.3, found.4)
  by (inr past) rest = (n, k - LENGTHS * n, omega arith, omega (arith, below, past), omega (arith, past))

-- whole tables of so many routers have a slot at each
pub as_tabulated : (tables : Tables) (n : ℕ) → length tables.slots ≡ LENGTHS * n →
    tables ≡ tabulated (λ router len. unwrap_or (slot_at tables router len) empty_slot) n
as_tabulated tables n long = ap (λ (xs : List Slot). record { slots = xs })
    (list_ext tables.slots (tabulated read n).slots (long ∙ sym (tabulated-length read n)) each)
  where
    read : ℕ → ℕ → Slot
    read router len = unwrap_or (slot_at tables router len) empty_slot

    same : (k q l : ℕ) (x y : Slot) → q < n → l < LENGTHS → k ≡ LENGTHS * q + l → slice_get tables.slots k ≡ Some x →
        slice_get (tabulated read n).slots k ≡ Some y → x ≡ y
    same k q l x y below short is here there =
        let here' : slot_at tables q l ≡ Some x = ap (slice_get tables.slots) (sym is) ∙ here in
        let there' : slot_at (tabulated read n) q l ≡ Some y = ap (slice_get (tabulated read n).slots) (sym is)
        ∙ there in
        let found : Some (read q l) ≡ Some y = sym (tabulated-at read n q l below short) ∙ there' in
        ap (λ o. unwrap_or o empty_slot) (sym here') ∙ same_Some (read q l) y found

    each : (k : ℕ) (x y : Slot) → slice_get tables.slots k ≡ Some x → slice_get (tabulated read n).slots k ≡ Some y →
        x ≡ y
    each k x y here there =
        let within = slice_get_within tables.slots k x here in
        let found = split n k (omega (arith, within, long)) in
        same k found.0 found.1 x y found.2 found.3 found.4 here there
