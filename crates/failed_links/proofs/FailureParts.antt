-- The failed links are read from their bits, and what is read is a set of links.
use Rattle.std.proofs.Common.{◌≡◌, ◌≢◌, ℕ, zero, suc, ◌+◌, ◌<◌, ◌≤◌, Bool, true, false, List, [], ◌∷◌, ◌++◌}
use Rattle.std.proofs.Common.{length}
use Rattle.std.proofs.Common.{nat_lt, refl, sym, ap, subst, arith, ◌∙◌, inl, inr}
use Rattle.std.specs.Prelude.{◌==◌, ◌⊎◌, All, if◌then◌else◌}
use Rattle.std.specs.List.{list_all}
use Rattle.std.proofs.lemmas.Bool.{and_from, and_parts, cases_lt, eq-eqb, eqb-true, false≢true, lt-ltb, ltb-true}
use Rattle.std.proofs.lemmas.List.Elements.{All-cons, All-head, All-nil, All-tail, All-weaker}
use Rattle.ios_ast.specs.declared.file.File.{File}
use Rattle.route_record.specs.declared.Failures.{Failures}
use Rattle.net_parts.specs.World.{IsFailureSet, ascends, links_of}
use Rattle.sym_policy.specs.Held.{positions}
use Rattle.failed_links.specs.Failures.{downs_bits, downs_from, downs_width, failures_from, marks, none_of}
use Rattle.failed_links.specs.Rows.{IsAt, row}
use Rattle.failed_links.proofs.Reading.{after, length-row}

-- ---- positions are those of a list of links

all_past : (first more : ℕ) (xs : List ℕ) → first ≤ more → list_all (λ y. nat_lt more (suc y)) xs ≡ true →
    list_all (λ y. nat_lt first (suc y)) xs ≡ true
all_past first more [] le past = refl
all_past first more (x ∷ xs) le past =
    let both = and_parts (nat_lt more (suc x)) (list_all (λ y. nat_lt more (suc y)) xs) past in
    let one = ltb-true more (suc x) both.0 in
    and_from _ _ (lt-ltb first (suc x) (omega (arith, one, le))) (all_past first more xs le both.1)

above : (first : ℕ) (xs : List ℕ) → list_all (λ y. nat_lt (suc first) (suc y)) xs ≡ true →
    list_all (nat_lt first) xs ≡ true
above first [] past = refl
above first (x ∷ xs) past =
    let both = and_parts (nat_lt (suc first) (suc x)) (list_all (λ y. nat_lt (suc first) (suc y)) xs) past in
    let one = ltb-true (suc first) (suc x) both.0 in
    and_from _ _ (lt-ltb first x (omega (arith, one))) (above first xs both.1)

-- the positions of a row from the first one on
record ArePositions (first past : ℕ) (xs : List ℕ) : Type 0 where
  low : list_all (λ y. nat_lt first (suc y)) xs ≡ true
  ascending : ascends xs ≡ true
  high : All (λ x. x < past) xs

joined : (first past : ℕ) (b : Bool) (xs : List ℕ) → first < past → ArePositions (suc first) past xs →
    ArePositions first past (if b then first ∷ xs else xs)
joined first past true xs within rest = record {
  low = and_from _ _ (lt-ltb first (suc first) (omega arith))
      (all_past first (suc first) xs (omega arith) rest.low);
  ascending = and_from _ _ (above first xs rest.low) rest.ascending;
  high = All-cons (λ x. x < past) first xs within rest.high;
}
joined first past false xs within rest = record {
  low = all_past first (suc first) xs (omega arith) rest.low;
  ascending = rest.ascending;
  high = rest.high;
}

are_positions : (first past : ℕ) (bs : List Bool) → first + length bs ≡ past →
    ArePositions first past (positions first bs)
are_positions first past [] long = record { low = refl; ascending = refl; high = All-nil (λ x. x < past) }
are_positions first past (b ∷ bs) long =
    let rest = are_positions (suc first) past bs (omega (arith, long)) in
    let is = joined first past b (positions (suc first) bs) (omega (arith, long)) rest in
    by b is
  where
    by : (c : Bool) → ArePositions first past (if c then first ∷ positions (suc first) bs else positions
        (suc first) bs) →
        ArePositions first past (if c then first ∷ positions (suc first) bs else positions (suc first) bs)
    by c is = is

pub length-none : (count : ℕ) → length (none_of count) ≡ count
length-none zero = refl
length-none (suc count) = ap suc (length-none count)

pub length-downs : (most links : ℕ) (v : ℕ → Bool) (from : ℕ) → length (downs_from most links v from) ≡ links
unfolding downs_from
length-downs most links v from = by (most == 0) where
  by : (b : Bool) → length (if b then none_of links else row v from links) ≡ links
  by true = length-none links
  by false = length-row v from links

-- what is read is a set of links
pub failures_sound : (files : List File) (most : ℕ) (v : ℕ → Bool) (from : ℕ) →
    length (failures_from most (length (links_of files)) v from).links ≤ most →
    IsFailureSet files most (failures_from most (length (links_of files)) v from)
unfolding failures_from
failures_sound files most v from few =
    let long = length-downs most (length (links_of files)) v from in
    let are = are_positions 0 (length (links_of files)) (downs_from most (length (links_of files)) v from)
    (omega (arith, long)) in
    record { ascending = are.ascending; of_links = are.high; at_most = few }

-- ---- the positions of the marks are the failed links

pub no_positions : (first count : ℕ) → positions first (none_of count) ≡ []
no_positions first zero = refl
no_positions first (suc count) = no_positions (suc first) count

no_marks : (first count : ℕ) → positions first (marks first count []) ≡ []
no_marks first zero = refl
no_marks first (suc count) = no_marks (suc first) count

marked_length : (first count f : ℕ) (failed : List ℕ) (b : Bool) → length (marks (suc first) count failed) ≡ count →
    length (marks (suc first) count (f ∷ failed)) ≡ count →
    length (if b then true ∷ marks (suc first) count failed else false ∷ marks (suc first) count (f ∷ failed))
    ≡ suc count
marked_length first count f failed true here there = ap suc here
marked_length first count f failed false here there = ap suc there

length-marks : (first count : ℕ) (failed : List ℕ) → length (marks first count failed) ≡ count
length-marks first zero failed = refl
length-marks first (suc count) [] = ap suc (length-marks (suc first) count [])
length-marks first (suc count) (f ∷ failed) =
    marked_length first count f failed (f == first) (length-marks (suc first) count failed)
    (length-marks (suc first) count (f ∷ failed))

past_next : (first : ℕ) (xs : List ℕ) → list_all (nat_lt first) xs ≡ true →
    list_all (λ y. nat_lt (suc first) (suc y)) xs ≡ true
past_next first [] past = refl
past_next first (x ∷ xs) past =
    let both = and_parts (nat_lt first x) (list_all (nat_lt first) xs) past in
    let one = ltb-true first x both.0 in
    and_from _ _ (lt-ltb (suc first) (suc x) (omega (arith, one))) (past_next first xs both.1)

all_next : (first f : ℕ) (xs : List ℕ) → first ≤ f → list_all (nat_lt f) xs ≡ true →
    list_all (λ y. nat_lt (suc first) (suc y)) xs ≡ true
all_next first f xs le past = all_past (suc first) (suc f) xs (omega (arith, le)) (past_next f xs past)

-- the row of one more link, by whether it is the first failed one
marks_next : (first count f : ℕ) (failed : List ℕ) (b : Bool) → (f == first) ≡ b →
    list_all (λ y. nat_lt first (suc y)) (f ∷ failed) ≡ true → ascends (f ∷ failed) ≡ true →
    (list_all (λ y. nat_lt (suc first) (suc y)) failed ≡ true → positions (suc first) (marks (suc first) count failed)
    ≡ failed) →
    (list_all (λ y. nat_lt (suc first) (suc y)) (f ∷ failed) ≡ true →
    positions (suc first) (marks (suc first) count (f ∷ failed)) ≡ f ∷ failed) →
    positions first (if b then true ∷ marks (suc first) count failed else false ∷ marks (suc first) count (f ∷ failed))
    ≡ f ∷ failed
marks_next first count f failed true same past up here there =
    let both = and_parts (list_all (nat_lt f) failed) (ascends failed) up in
    let is = eqb-true f first same in
    let rest = here (all_next first f failed (omega (arith, is)) both.0) in cc
marks_next first count f failed false other past up here there =
    let both = and_parts (list_all (nat_lt f) failed) (ascends failed) up in
    let one = ltb-true first (suc f) (and_parts _ _ past).0 in
    let apart : f ≢ first = λ is. absurd (false≢true (sym other ∙ eq-eqb f first is)) in
    let more : first < f = by_lt (cases_lt first f) apart one in
    there (and_from _ _ (lt-ltb (suc first) (suc f) (omega (arith, more)))
    (all_next first f failed (omega (arith, more)) both.0))
  where
    by_lt : (first < f) ⊎ (f ≤ first) → f ≢ first → first < suc f → first < f
    by_lt (inl less) apart one = less
    by_lt (inr more) apart one = absurd (apart (omega (arith, more, one)))

-- the positions of the marks of an ascending list are that list
pub positions-marks : (first count : ℕ) (failed : List ℕ) → list_all (λ y. nat_lt first (suc y)) failed ≡ true →
    ascends failed ≡ true → All (λ x. x < first + count) failed → positions first (marks first count failed) ≡ failed
positions-marks first zero [] past up high = refl
positions-marks first zero (f ∷ failed) past up high =
    let one = ltb-true first (suc f) (and_parts _ _ past).0 in
    let below = All-head (λ x. x < first + zero) f failed high in absurd (omega (arith, one, below))
positions-marks first (suc count) [] past up high = no_marks (suc first) count
positions-marks first (suc count) (f ∷ failed) past up high =
    let wider : All (λ x. x < suc first + count) (f ∷ failed) =
    All-weaker (λ x. x < first + suc count) (λ x. x < suc first + count) (λ x below. omega (arith, below))
    (f ∷ failed) high in
    marks_next first count f failed (f == first) refl past up
    (λ past'. positions-marks (suc first) count failed past' (and_parts _ _ up).1
    (All-tail (λ x. x < suc first + count) f failed wider))
    (λ past'. positions-marks (suc first) count (f ∷ failed) past' up wider)

at_least_none : (xs : List ℕ) → list_all (λ y. nat_lt 0 (suc y)) xs ≡ true
at_least_none [] = refl
at_least_none (x ∷ xs) = and_from _ _ (lt-ltb 0 (suc x) (omega arith)) (at_least_none xs)

no_links : (failures : Failures) → length failures.links ≤ 0 → failures.links ≡ []
no_links failures few = by failures.links few where
  by : (xs : List ℕ) → length xs ≤ 0 → xs ≡ []
  by [] none = refl
  by (x ∷ xs) none = absurd (omega (arith, none))

-- a set of at most so many links is read from its bits
pub failures_at : (files : List File) (most : ℕ) (failures : Failures) (v : ℕ → Bool) (from : ℕ) (rest : List Bool) →
    IsFailureSet files most failures →
    IsAt v from (downs_bits most (length (links_of files)) failures rest) →
    (failures_from most (length (links_of files)) v from ≡ failures)
    × IsAt v (from + downs_width most (length (links_of files))) rest
unfolding failures_from downs_from downs_bits downs_width
failures_at files most failures v from rest fits here = by (most == 0) refl here where
  count : ℕ
  count = length (links_of files)

  made : List ℕ → Failures
  made links = record { links = links }

  by : (b : Bool) → (most == 0) ≡ b → IsAt v from (if b then rest else marks 0 count failures.links ++ rest) →
      (made (positions 0 (if b then none_of count else row v from count)) ≡ failures)
      × IsAt v (from + (if b then 0 else count)) rest
  by true none read =
      let zero_most = eqb-true most 0 none in
      let empty = no_links failures (omega (arith, fits.at_most, zero_most)) in
      (ap made (no_positions 0 count ∙ sym empty), subst (λ k. IsAt v k rest) (omega arith) read)
  by false some read =
      let long = length-marks 0 count failures.links in
      let parts = after v from (marks 0 count failures.links) rest read in
      let within = All-weaker (λ x. x < count) (λ x. x < 0 + count) (λ x below. omega (arith, below)) failures.links
      fits.of_links in
      let is = positions-marks 0 count failures.links (at_least_none failures.links) fits.ascending within in (
        ap made (ap (positions 0) (subst (λ k. row v from k ≡ marks 0 count failures.links) long parts.0) ∙ is),
        subst (λ k. IsAt v (from + k) rest) long parts.1,
      )
