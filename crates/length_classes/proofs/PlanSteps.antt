-- The lists of the coarsest plan.
use Rattle.std.proofs.Common.{◌≡◌, ℕ, zero, suc, ◌+◌, ◌<◌, ◌≤◌, Bool, true, false, List, [], ◌∷◌, ◌++◌, length}
use Rattle.std.proofs.Common.{map}
use Rattle.std.proofs.Common.{Some, inl, inr, refl, sym, ap, ap₂, subst, arith, ◌∙◌, add-one, length-append}
use Rattle.std.specs.Prelude.{◌⊎◌, ◌==◌, if◌then◌else◌, min, slice_get, unwrap_or}
use Rattle.std.specs.List.{count_by}
use Rattle.std.proofs.lemmas.Bool.{cases_lt}
use Rattle.std.proofs.lemmas.List.{map-append}
use Rattle.std.proofs.lemmas.List.Sums.{count_by-le-length}
use Rattle.std.proofs.lemmas.Option.{same_Some, slice_get_within}
use Rattle.mw_text.proofs.Lists.{item_before}
use Rattle.ios_ast.specs.declared.file.File.{File}
use Rattle.route_record.specs.declared.Plan.{Plan}
use Rattle.route_record.specs.declared.TheConstants.{LENGTHS}
use Rattle.plan_places.specs.Plans.{numbers_below}
use Rattle.plan_places.proofs.Tabulated.{at_back}
use Rattle.sliced_routings.specs.Cuts.{is_cut}
use Rattle.length_classes.specs.Lists.{classes_below, cuts_to, slices_below, slices_in}
use Rattle.sliced_routings.specs.Plans.{EndsClass, IsCoarsestPlan, class_at, size_of}

-- ---- numbers

mapped_more : (f : ℕ → ℕ) (n : ℕ) → map f (numbers_below n) ++ f n ∷ [] ≡ map f (numbers_below (n + 1))
unfolding numbers_below
mapped_more f n = sym (map-append f (numbers_below n) (n ∷ [])) ∙ ap (λ k. map f (numbers_below k)) (sym (add-one n))

mapped-length : (f : ℕ → ℕ) (n : ℕ) → length (map f (numbers_below n)) ≡ n
unfolding numbers_below
mapped-length f zero = refl
mapped-length f (suc n) =
    let a = ap length (mapped_more f n) in
    let e : n + 1 ≡ suc n = omega arith in
    let b = ap (λ k. length (map f (numbers_below k))) e in
    let c = length-append (map f (numbers_below n)) (f n ∷ []) in
    let d = mapped-length f n in
    omega (arith, a, b, c, d)

mapped-at : (f : ℕ → ℕ) (n k : ℕ) → k < n → slice_get (map f (numbers_below n)) k ≡ Some (f k)
unfolding numbers_below
mapped-at f zero k below = absurd (omega (arith, below))
mapped-at f (suc n) k below =
    let e : n + 1 ≡ suc n = omega arith in
    ap (λ m. slice_get (map f (numbers_below m)) k) (sym e) ∙ ap (λ xs. slice_get xs k) (sym (mapped_more f n))
    ∙ by (cases_lt k n) (mapped-at f n k)
  where
    by : (k < n) ⊎ (n ≤ k) → (k < n → slice_get (map f (numbers_below n)) k ≡ Some (f k)) →
        slice_get (map f (numbers_below n) ++ f n ∷ []) k ≡ Some (f k)
    by (inl less) rest = item_before (map f (numbers_below n)) (f n ∷ []) k (f k) (rest less)
    by (inr more) rest =
        let e : k ≡ n = omega (arith, more, below) in
        let long = mapped-length f n in
        at_back (map f (numbers_below n)) (f n ∷ []) k 0 (omega (arith, e, long)) ∙ ap (λ m. Some (f m)) (sym e)

-- ---- one length more

pub cuts_more : (files : List File) (len : ℕ) →
    cuts_to files len + (if is_cut files (len + 1) then 1 else 0) ≡ cuts_to files (len + 1)
unfolding cuts_to
cuts_more files len =
    ap (λ n. cuts_to files len + (if is_cut files n then 1 else 0)) (add-one len) ∙ ap (cuts_to files) (sym
    (add-one len))

pub classes_more : (files : List File) (len : ℕ) →
    classes_below files len ++ cuts_to files len ∷ [] ≡ classes_below files (len + 1)
classes_more files len = mapped_more (cuts_to files) len

pub no_classes : (files : List File) → classes_below files 0 ≡ []
unfolding numbers_below
no_classes files = refl

pub no_cuts : (files : List File) → cuts_to files 0 ≡ 0
unfolding cuts_to
no_cuts files = refl

-- ---- one class more

pub slices_more : (classes : List ℕ) (routers n : ℕ) →
    slices_below classes routers n ++ slices_in classes routers n ∷ [] ≡ slices_below classes routers (n + 1)
slices_more classes routers n = mapped_more (slices_in classes routers) n

pub no_slices : (classes : List ℕ) (routers : ℕ) → slices_below classes routers 0 ≡ []
unfolding numbers_below
no_slices classes routers = refl

pub few_slices : (classes : List ℕ) (class : ℕ) → count_by (λ c. c == class) classes ≤ length classes
few_slices classes class = count_by-le-length (λ c. c == class) classes

-- ---- the whole plan

few_cuts : (files : List File) (n : ℕ) → cuts_to files n ≤ n
unfolding cuts_to
few_cuts files zero = omega arith
few_cuts files (suc n) = by (is_cut files (suc n)) (few_cuts files n) where
  by : (b : Bool) → cuts_to files n ≤ n → cuts_to files n + (if b then 1 else 0) ≤ suc n
  by true rest = omega (arith, rest)
  by false rest = omega (arith, rest)

pub few_classes : (files : List File) → length (classes_below files LENGTHS) ≤ LENGTHS
few_classes files = let h = mapped-length (cuts_to files) LENGTHS in omega (arith, h)

last_is : (files : List File) → unwrap_or (slice_get (classes_below files LENGTHS) 32) 0 ≡ cuts_to files 32
last_is files = ap (λ o. unwrap_or o 0) (mapped-at (cuts_to files) LENGTHS 32 (omega arith))

pub low_last : (files : List File) → unwrap_or (slice_get (classes_below files LENGTHS) 32) 0 < 255
low_last files = let e = last_is files in let h = few_cuts files 32 in omega (arith, e, h)

module _ (files : List File) (classes : List ℕ) (is : classes ≡ classes_below files LENGTHS) where
  abbrev plan : Plan
  plan = record {
    class = classes;
    slices = slices_below classes (length files) (unwrap_or (slice_get classes 32) 0 + 1);
  }

  at : (len : ℕ) → len < LENGTHS → class_at plan len ≡ cuts_to files len
  at len short = ap (λ xs. unwrap_or (slice_get xs len) 0) is
      ∙ ap (λ o. unwrap_or o 0) (mapped-at (cuts_to files) LENGTHS len short)

  next : (len : ℕ) → suc len < LENGTHS →
      class_at plan (suc len) ≡ class_at plan len + (if is_cut files (suc len) then 1 else 0)
  next len short =
      at (suc len) short ∙ ap (cuts_to files) (sym (add-one len)) ∙ sym (cuts_more files len)
      ∙ ap₂ (λ n b. n + (if b then 1 else 0)) (sym (at len (omega (arith, short)))) (ap (is_cut files) (add-one len))

  upwards_of : (len : ℕ) → suc len < LENGTHS →
      (class_at plan (suc len) ≡ class_at plan len) ⊎ EndsClass plan len
  upwards_of len short = by (is_cut files (suc len)) (next len short) where
    by : (b : Bool) → class_at plan (suc len) ≡ class_at plan len + (if b then 1 else 0) →
        (class_at plan (suc len) ≡ class_at plan len) ⊎ EndsClass plan len
    by true e = inr (omega (arith, e))
    by false e = inl (omega (arith, e))

  cuts_of : (len : ℕ) → suc len < LENGTHS → is_cut files (suc len) ≡ true → EndsClass plan len
  cuts_of len short cut =
      let e = next len short in
      let f : class_at plan (suc len) ≡ class_at plan len + 1 =
      e ∙ ap (λ b. class_at plan len + (if b then 1 else 0)) cut in
      omega (arith, f)

  only_of : (len : ℕ) → suc len < LENGTHS → EndsClass plan len → is_cut files (suc len) ≡ true
  only_of len short ends = by (is_cut files (suc len)) refl (next len short) where
    by : (b : Bool) → is_cut files (suc len) ≡ b →
        class_at plan (suc len) ≡ class_at plan len + (if b then 1 else 0) → is_cut files (suc len) ≡ true
    by true cut e = cut
    by false cut e = absurd (omega (arith, e, ends))

  slices_are : (class many : ℕ) → slice_get plan.slices class ≡ Some many →
      many ≡ min (size_of plan class) (length files)
  slices_are class many there =
      let within = slice_get_within plan.slices class many there in
      let long = mapped-length (slices_in classes (length files)) (unwrap_or (slice_get classes 32) 0 + 1) in
      let found = mapped-at (slices_in classes (length files)) (unwrap_or (slice_get classes 32) 0 + 1) class
      (omega (arith, within, long)) in
      same_Some many (slices_in classes (length files) class) (sym there ∙ found)

  coarsest : IsCoarsestPlan files plan
  coarsest = record {
    fits = record {
      lengths = ap length is ∙ mapped-length (cuts_to files) LENGTHS;
      first = at 0 (omega arith) ∙ no_cuts files;
      upwards = upwards_of;
      cuts = cuts_of;
      classes = mapped-length (slices_in classes (length files)) (unwrap_or (slice_get classes 32) 0 + 1)
          ∙ add-one (unwrap_or (slice_get classes 32) 0);
      slices = slices_are;
    };
    only = only_of;
  }

pub coarsest_of : (files : List File) (classes slices : List ℕ) → classes ≡ classes_below files LENGTHS →
    slices ≡ slices_below classes (length files) (unwrap_or (slice_get classes 32) 0 + 1) →
    IsCoarsestPlan files (record { class = classes; slices = slices })
coarsest_of files classes slices is are =
    subst (λ xs. IsCoarsestPlan files (record { class = classes; slices = xs })) (sym are) (coarsest files classes is)
