-- A stable routing that breaks a question is moved to the first lengths of each class, as many as there are routers.
use Rattle.std.proofs.Common.{◌≡◌, ℕ, zero, suc, ◌+◌, ◌-◌, ◌<◌, ◌≤◌, Bool, true, false, eqb, List, []}
use Rattle.std.proofs.Common.{◌++◌, length}
use Rattle.std.proofs.Common.{Option, Some, None, inl, inr, refl, sym, ap, arith, ◌∙◌}
use Rattle.std.specs.Prelude.{◌⊎◌, ◌≢◌, ◌||◌, ◌==◌, min, nat_le, nat_lt, option_map}
use Rattle.std.specs.Prelude.{if◌then◌else◌}
use Rattle.std.specs.List.{list_any}
use Rattle.std.specs.Option.{option_to_list}
use Rattle.std.proofs.lemmas.Bool.{cases_lt, eqb-true, eq-eqb, le-leb, lt-leb, lt-ltb, ltb-true}
use Rattle.std.proofs.lemmas.List.Folds.{list_any-append}
use Rattle.mw_text.specs.declared.address.Addr.{Addr}
use Rattle.mw_text.specs.Address.{prefix_at}
use Rattle.ios_ast.specs.declared.file.File.{File}
use Rattle.route_record.specs.declared.RibEntry.{RibEntry}
use Rattle.route_record.specs.declared.Slot.{Slot}
use Rattle.route_record.specs.declared.Tables.{Tables}
use Rattle.route_record.specs.declared.TheConstants.{LENGTHS}
use Rattle.question_lang.specs.Hops.{longest_below}
use Rattle.sliced_routings.specs.Cuts.{is_cut}
use Rattle.sliced_routings.proofs.SameClasses.{clear, same_class}
use Rattle.sliced_routings.proofs.Ranks.{AreClasses, Goes, bit, is_move, place, place_before, rank, rank_few, seek}
use Rattle.sliced_routings.proofs.Ranks.{start, start_between, to, to_is}
use Rattle.sliced_routings.proofs.Ranks.{step, used_below, used_few}
use Rattle.alike_prefixes.specs.Alike.{IsBare}
use Rattle.alike_prefixes.specs.Moving.{ArePlain, IsMove}

-- ---- which lengths are used, and which are kept

unfoldable pub used : Tables → ℕ → List ℕ
used tables zero = []
used tables (suc n) = option_to_list (option_map (λ f. f.0) (longest_below tables n LENGTHS)) ++ used tables n

pub used-length : (tables : Tables) (n : ℕ) → length (used tables n) ≤ n
unfolding used
used-length tables zero = omega arith
used-length tables (suc n) = by (option_map (λ f. f.0) (longest_below tables n LENGTHS)) (used-length tables n) where
  by : (o : Option ℕ) → length (used tables n) ≤ n → length (option_to_list o ++ used tables n) ≤ suc n
  by None h = omega (arith, h)
  by (Some l) h = omega (arith, h)

pub used-has : (tables : Tables) (n router l : ℕ) (slot : Slot) (entry : RibEntry) → router < n →
    longest_below tables router LENGTHS ≡ Some (l, slot, entry) → list_any (eqb l) (used tables n) ≡ true
unfolding used
used-has tables zero router l slot entry below is = absurd (omega arith)
used-has tables (suc n) router l slot entry below is =
    list_any-append (eqb l) (option_to_list (option_map (λ f. f.0) (longest_below tables n LENGTHS))) (used tables n)
    ∙ by (cases_lt router n) (λ deeper. used-has tables n router l slot entry deeper is)
  where
    or_true : (b : Bool) → (b || true) ≡ true
    or_true true = refl
    or_true false = refl

    by : (router < n) ⊎ (n ≤ router) → (router < n → list_any (eqb l) (used tables n) ≡ true) →
        (list_any (eqb l) (option_to_list (option_map (λ f. f.0) (longest_below tables n LENGTHS)))
        || list_any (eqb l) (used tables n)) ≡ true
    by (inl deeper) rest = ap (λ b. list_any (eqb l)
        (option_to_list (option_map (λ f. f.0) (longest_below tables n LENGTHS))) || b) (rest deeper)
        ∙ or_true (list_any (eqb l) (option_to_list (option_map (λ f. f.0) (longest_below tables n LENGTHS))))
    by (inr last) rest =
        let e : router ≡ n = omega (arith, last, below) in
        let there : longest_below tables n LENGTHS ≡ Some (l, slot, entry) =
        ap (λ r. longest_below tables r LENGTHS) (sym e) ∙ is in
        ap (λ o. list_any (eqb l) (option_to_list (option_map (λ (f : ℕ × Slot × RibEntry). f.0) o))
        || list_any (eqb l) (used tables n)) there
        ∙ ap (λ b. (b || false) || list_any (eqb l) (used tables n)) (eq-eqb l l refl)

module _ (cut : ℕ → Bool) where
  -- how many lengths below n are of the class that begins at s
  unfoldable pub members : ℕ → ℕ → ℕ
  members s zero = 0
  members s (suc n) = members s n + bit (start cut n == s)

  abbrev pub size : ℕ → ℕ
  size l = members (start cut l) LENGTHS

  bit_one : (m n : ℕ) → m ≡ n → bit (m == n) ≡ 1
  bit_one m n same = ap bit (eq-eqb m n same)

  -- another length of the class, or at most one
  another : (s m n : ℕ) → ((k : ℕ) × (k < n) × (start cut k ≡ s) × (k ≢ m)) ⊎ (members s n ≤ bit (nat_lt m n))
  unfolding members
  another s m zero = inr (omega arith)
  another s m (suc n) = by (start cut n == s) refl (n == m) refl (another s m n) where
    not_more : (b : Bool) → nat_lt m n ≡ b → bit b ≤ bit (nat_lt m (suc n))
    not_more true is = let h = ltb-true m n is in
        let o : bit (nat_lt m (suc n)) ≡ 1 = ap bit (lt-ltb m (suc n) (omega (arith, h))) in omega (arith, o)
    not_more false is = omega arith

    by : (b : Bool) → (start cut n == s) ≡ b → (c : Bool) → (n == m) ≡ c →
        ((k : ℕ) × (k < n) × (start cut k ≡ s) × (k ≢ m)) ⊎ (members s n ≤ bit (nat_lt m n)) →
        ((k : ℕ) × (k < suc n) × (start cut k ≡ s) × (k ≢ m)) ⊎ (members s n + bit b ≤ bit (nat_lt m (suc n)))
    by b is c same (inl found) = inl (found.0, omega (arith, found.1), found.2, found.3)
    by false is c same (inr few) = inr (let h = not_more (nat_lt m n) refl in omega (arith, few, h))
    by true is false same (inr few) = inl (n, omega arith, eqb-true (start cut n) s is, differs) where
      differs : n ≢ m
      differs e = let h = eq-eqb n m e in cc
    by true is true same (inr few) =
        let e = eqb-true n m same in
        let z : nat_lt m n ≡ false = lt-leb (suc m) n (omega (arith, e)) in
        let y : bit (nat_lt m n) ≡ 0 = ap bit z in
        let o : bit (nat_lt m (suc n)) ≡ 1 = ap bit (lt-ltb m (suc n) (omega (arith, e))) in
        inr (omega (arith, few, y, o))

  -- a class has all lengths from its first one to any of its own
  long_from : (l j : ℕ) → j ≤ suc l → j ≤ members (start cut l) j + start cut l
  unfolding members
  long_from l zero low = omega arith
  long_from l (suc j) low = by (cases_lt j (start cut l)) (long_from l j (omega (arith, low))) where
    by : (j < start cut l) ⊎ (start cut l ≤ j) → j ≤ members (start cut l) j + start cut l →
        suc j ≤ (members (start cut l) j + bit (start cut j == start cut l)) + start cut l
    by (inl less) rest = omega (arith, less)
    by (inr more) rest =
        let one = bit_one (start cut j) (start cut l) (start_between cut (λ k. true) l j more (omega (arith, low))) in
        omega (arith, rest, one)

  grows : (s n more : ℕ) → members s n ≤ members s (n + more)
  unfolding members
  grows s n zero = let e : n ≡ n + 0 = omega arith in let h = ap (members s) e in omega (arith, h)
  grows s n (suc more) =
      let e : suc (n + more) ≡ n + suc more = omega arith in
      let h : members s (suc (n + more)) ≡ members s (n + suc more) = ap (members s) e in
      let g = grows s n more in
      omega (arith, h, g)

  inside_size : (l : ℕ) → l < LENGTHS → l < start cut l + size l
  inside_size l short =
      let h = long_from l (suc l) (omega arith) in
      let e : suc l + (LENGTHS - suc l) ≡ LENGTHS = omega (arith, short) in
      let g = grows (start cut l) (suc l) (LENGTHS - suc l) in
      let f : members (start cut l) (suc l + (LENGTHS - suc l)) ≡ size l = ap (members (start cut l)) e in
      omega (arith, h, g, f)

  -- between the first length of a class and another of its lengths no class begins
  none_between : (l m k : ℕ) → start cut l ≤ m → m < k → k ≤ l → cut k ≡ false
  unfolding start
  none_between zero m k low more less = absurd (omega (arith, more, less))
  none_between (suc l) m k low more less = by (cut (suc l)) refl low (cases_lt l k)
      (λ low' less'. none_between l m k low' more less')
    where
      by : (c : Bool) → cut (suc l) ≡ c → (if c then suc l else start cut l) ≤ m → (l < k) ⊎ (k ≤ l) →
          (start cut l ≤ m → k ≤ l → cut k ≡ false) → cut k ≡ false
      by true is low' either rest = absurd (omega (arith, low', more, less))
      by false is low' (inl last) rest =
          let e : suc l ≡ k = omega (arith, last, less) in ap cut (sym e) ∙ is
      by false is low' (inr deeper) rest = rest low' deeper

  module _ (n : ℕ) (us : List ℕ) where
    -- all lengths of a class that has no more than there are routers, and else those that some router uses
    abbrev pub kept : ℕ → Bool
    kept l = nat_le (size l) n || list_any (eqb l) us

    pub kept_used : (l : ℕ) → list_any (eqb l) us ≡ true → kept l ≡ true
    kept_used l is = ap (λ b. nat_le (size l) n || b) is ∙ or_true (nat_le (size l) n) where
      or_true : (b : Bool) → (b || true) ≡ true
      or_true true = refl
      or_true false = refl

    kept_small : (l : ℕ) → size l ≤ n → kept l ≡ true
    kept_small l small = ap (λ b. b || list_any (eqb l) us) (le-leb (size l) n small)

    -- where all are kept, each stays
    stays : (m l : ℕ) → start cut m ≤ l → l ≤ m → ((k : ℕ) → start cut k ≡ start cut m → kept k ≡ true) →
        place cut kept l ≡ l
    unfolding start rank
    stays m zero low high all = refl
    stays m (suc l) low high all = by (cases_lt l (start cut m)) (λ low'. stays m l low' (omega (arith, high)) all)
        (start_between cut kept m (suc l) low high) (step cut kept l)
      where
        by : (l < start cut m) ⊎ (start cut m ≤ l) → (start cut m ≤ l → place cut kept l ≡ l) →
            start cut (suc l) ≡ start cut m →
            (place cut kept (suc l) ≡ suc l) ⊎ ((place cut kept (suc l) ≡ place cut kept l + 1) × (kept l ≡ true))
            ⊎ ((place cut kept (suc l) ≡ place cut kept l) × (kept l ≡ false)) → place cut kept (suc l) ≡ suc l
        by either rest same (inl first) = first
        by (inl less) rest same other =
            let e : start cut m ≡ suc l = omega (arith, less, low) in
            let s : start cut (suc l) ≡ suc l = same ∙ e in
            let b = place_before cut kept (suc l) in
            omega (arith, s, b)
        by (inr more) rest same (inr (inl on)) = let h = rest more in omega (arith, on.0, h)
        by (inr more) rest same (inr (inr off)) =
            let k : kept l ≡ true = all l (start_between cut kept m l more (omega (arith, high))) in
            let g : kept l ≡ false = off.1 in
            absurd cc

    -- no length goes past the slices of its class
    pub at_slice : length us ≤ n → (l m : ℕ) → to cut kept l ≡ Some m → rank cut kept l < min (size l) n
    unfolding used_below
    at_slice few l m goes = by (cases_lt n (size l)) where
      g : Goes cut kept LENGTHS m l
      g = to_is cut kept l m goes

      by : (n < size l) ⊎ (size l ≤ n) → rank cut kept l < min (size l) n
      by (inr small) =
          let a = place_before cut kept l in
          let b = inside_size l g.below in
          omega (arith, a, b, small)
      by (inl large) =
          let only = λ (k : ℕ) (low : start cut l ≤ k) (less : k < l) (is : kept k ≡ true).
          used_only k (start_between cut kept l k low (omega (arith, less))) is in
          let a = rank_few cut kept us l only in
          let b = used_few us (suc l) in
          let c : bit (list_any (eqb l) us) ≡ 1 = ap bit (used_only l refl g.is_kept) in
          omega (arith, a, b, c, few, large)
        where
          used_only : (k : ℕ) → start cut k ≡ start cut l → kept k ≡ true → list_any (eqb k) us ≡ true
          used_only k same is =
              let s : size k ≡ size l = ap (λ s. members s LENGTHS) same in
              let z : nat_le (size k) n ≡ false = lt-leb (size k) n (omega (arith, s, large)) in
              ap (λ b. b || list_any (eqb k) us) (sym z) ∙ is

-- ---- the move of a routing

module _ (files : List File) (cut : ℕ → Bool) (fits : (k : ℕ) → cut k ≡ false → is_cut files k ≡ false) (d : Addr)
    (us : List ℕ) (some : 0 < length files) where
  -- two lengths of a class
  pub both_of : (m l : ℕ) → m < l → start cut l ≡ start cut m → ArePlain files d l m
  both_of m l before same = same_class files d m l before (λ k more less. clear files k (fits k (none_between cut l m k
      (let h = place_before cut (λ j. false) m in omega (arith, same, h)) more less)))

  -- nothing stands at a length of a class that has more lengths than there are routers
  large_bare : (m : ℕ) → m < LENGTHS → length files < size cut m → IsBare files (prefix_at d m)
  large_bare m short large = choose (another cut (start cut m) m LENGTHS) where
    choose : ((k : ℕ) × (k < LENGTHS) × (start cut k ≡ start cut m) × (k ≢ m))
        ⊎ (members cut (start cut m) LENGTHS ≤ bit (nat_lt m LENGTHS)) → IsBare files (prefix_at d m)
    choose (inl found) = side (cases_lt found.0 m) (cases_lt m found.0) where
      side : (found.0 < m) ⊎ (m ≤ found.0) → (m < found.0) ⊎ (found.0 ≤ m) → IsBare files (prefix_at d m)
      side (inl less) either = (both_of found.0 m less (sym found.2)).0
      side (inr more) (inl less) = (both_of m found.0 less found.2).1
      side (inr more) (inr less) = absurd (found.3 (omega (arith, more, less)))
    choose (inr few) =
        let o : bit (nat_lt m LENGTHS) ≡ 1 = ap bit (lt-ltb m LENGTHS short) in
        absurd (omega (arith, few, o, large, some))

  pub classes_are : AreClasses cut (kept cut (length files) us) files d
  classes_are = record {
    alike = alike_of;
    whole = whole_of;
  } where
    alike_of : (l m : ℕ) → l < LENGTHS → m ≤ l → start cut l ≡ start cut m → (l ≡ m) ⊎ ArePlain files d l m
    alike_of l m short before same = by (cases_lt m l) where
      by : (m < l) ⊎ (l ≤ m) → (l ≡ m) ⊎ ArePlain files d l m
      by (inl less) = inr (both_of m l less same)
      by (inr more) = inl (omega (arith, more, before))

    whole_of : (m : ℕ) → m < LENGTHS → IsBare files (prefix_at d m)
        ⊎ ((kept cut (length files) us m ≡ true) × (place cut (kept cut (length files) us) m ≡ m))
    whole_of m short = by (cases_lt (length files) (size cut m)) where
      by : (length files < size cut m) ⊎ (size cut m ≤ length files) → IsBare files (prefix_at d m)
          ⊎ ((kept cut (length files) us m ≡ true) × (place cut (kept cut (length files) us) m ≡ m))
      by (inr small) = inr (
        kept_small cut (length files) us m small,
        stays cut (length files) us m m (let h = place_before cut (λ j. false) m in omega (arith, h)) (omega arith)
            (λ k same. kept_small cut (length files) us k
            (let s : size cut k ≡ size cut m = ap (λ s. members cut s LENGTHS) same in omega (arith, s, small))),
      )
      by (inl large) = inl (large_bare m short large)

  -- the move to the first lengths of each class
  pub the_move : IsMove files d (to cut (kept cut (length files) us)) (seek cut (kept cut (length files) us) LENGTHS)
  the_move = is_move cut (kept cut (length files) us) files d classes_are
