-- Where the lengths that are kept of a class go: to its first ones, in their order.
use Rattle.std.proofs.Common.{◌≡◌, ℕ, zero, suc, ◌+◌, ◌<◌, ◌≤◌, Bool, true, false, eqb, List, [], ◌∷◌, length}
use Rattle.std.proofs.Common.{Option, Some, None, inl, inr, refl, sym, ap, ap₂, subst, arith, ◌∙◌}
use Rattle.std.specs.Prelude.{◌⊎◌, ◌&&◌, ◌||◌, ◌==◌, nat_lt, if◌then◌else◌}
use Rattle.std.specs.List.{list_any}
use Rattle.std.proofs.lemmas.Bool.{cases_lt, eqb-true, eq-eqb, lt-ltb, ltb-true}
use Rattle.std.proofs.lemmas.Option.{same_Some}
use Rattle.mw_text.specs.declared.address.Addr.{Addr}
use Rattle.mw_text.specs.Address.{prefix_at}
use Rattle.ios_ast.specs.declared.file.File.{File}
use Rattle.route_record.specs.declared.TheConstants.{LENGTHS}
use Rattle.alike_prefixes.specs.Alike.{IsBare}
use Rattle.alike_prefixes.specs.Moving.{ArePlain, IsMove}

abbrev pub bit : Bool → ℕ
bit b = if b then 1 else 0

module _ (cut : ℕ → Bool) where
  -- the first length of the class of a length
  unfoldable pub start : ℕ → ℕ
  start zero = 0
  start (suc l) = if cut (suc l) then suc l else start l

  module _ (kept : ℕ → Bool) where
    -- how many lengths of the class before this one are kept
    unfoldable pub rank : ℕ → ℕ
    rank zero = 0
    rank (suc l) = if cut (suc l) then 0 else (rank l + (bit (kept l)))

    abbrev pub place : ℕ → ℕ
    place l = start l + rank l

    -- one step: a class begins, or goes on with the length before kept or not
    pub step : (l : ℕ) → (place (suc l) ≡ suc l) ⊎ ((place (suc l) ≡ place l + 1) × (kept l ≡ true))
        ⊎ ((place (suc l) ≡ place l) × (kept l ≡ false))
    unfolding start rank
    step l = by (cut (suc l)) (kept l) refl where
      by : (c k : Bool) → kept l ≡ k →
          ((if c then suc l else start l) + (if c then 0 else (rank l + (bit (k)))) ≡ suc l)
          ⊎ (((if c then suc l else start l) + (if c then 0 else (rank l + (bit (k)))) ≡ place l + 1)
          × (kept l ≡ true)) ⊎ (((if c then suc l else start l) + (if c then 0 else (rank l + (bit (k))))
          ≡ place l) × (kept l ≡ false))
      by true k is = inl (omega arith)
      by false true is = inr (inl ((omega arith), is))
      by false false is = inr (inr ((omega arith), is))

    pub place_before : (l : ℕ) → place l ≤ l
    unfolding start rank
    place_before zero = omega arith
    place_before (suc l) = by (step l) (place_before l) where
      by : (place (suc l) ≡ suc l) ⊎ ((place (suc l) ≡ place l + 1) × (kept l ≡ true))
          ⊎ ((place (suc l) ≡ place l) × (kept l ≡ false)) → place l ≤ l → place (suc l) ≤ suc l
      by (inl first) rest = omega (arith, first)
      by (inr (inl on)) rest = omega (arith, on.0, rest)
      by (inr (inr off)) rest = omega (arith, off.0, rest)

    -- the order is kept
    pub place_order : (l k : ℕ) → l < k → kept l ≡ true → place l < place k
    place_order l zero before is = absurd (omega arith)
    place_order l (suc k) before is = by (step k) (cases_lt l k) (λ less. place_order l k less is)
        (place_before l) where
          by : (place (suc k) ≡ suc k) ⊎ ((place (suc k) ≡ place k + 1) × (kept k ≡ true))
              ⊎ ((place (suc k) ≡ place k) × (kept k ≡ false)) → (l < k) ⊎ (k ≤ l) → (l < k → place l < place k) →
              place l ≤ l → place l < place (suc k)
          by (inl first) either rest low = omega (arith, first, low, before)
          by (inr (inl on)) (inl less) rest low = let h = rest less in omega (arith, on.0, h)
          by (inr (inl on)) (inr more) rest low =
              let e : l ≡ k = omega (arith, more, before) in
              let h : place l ≡ place k = ap place e in
              omega (arith, on.0, h)
          by (inr (inr off)) (inl less) rest low = let h = rest less in omega (arith, off.0, h)
          by (inr (inr off)) (inr more) rest low =
              let e : l ≡ k = omega (arith, more, before) in
              let h : kept k ≡ true = ap kept (sym e) ∙ is in
              let g : kept k ≡ false = off.1 in
              absurd cc

    -- in the class
    pub start_between : (l m : ℕ) → start l ≤ m → m ≤ l → start m ≡ start l
    unfolding start
    start_between zero m low high = let e : m ≡ 0 = omega arith in ap start e
    start_between (suc l) m low high = by (cut (suc l)) refl low (cases_lt l m)
        (λ low' high'. start_between l m low' high')
      where
        by : (c : Bool) → cut (suc l) ≡ c → (if c then suc l else start l) ≤ m → (l < m) ⊎ (m ≤ l) →
            (start l ≤ m → m ≤ l → start m ≡ start l) → start m ≡ (if c then suc l else start l)
        by true is low' either rest =
            let e : m ≡ suc l = omega (arith, low', high) in
            ap start e ∙ ap (λ b. if b then suc l else start l) is
        by false is low' (inl more) rest =
            let e : m ≡ suc l = omega (arith, more, high) in
            ap start e ∙ ap (λ b. if b then suc l else start l) is
        by false is low' (inr less) rest = rest low' less

    -- ---- to and from

    abbrev pub to : ℕ → Option ℕ
    to l = if nat_lt l LENGTHS && kept l then Some (place l) else None

    -- the length below n that is kept and goes to m
    unfoldable pub seek : ℕ → ℕ → Option ℕ
    seek zero m = None
    seek (suc n) m = if kept n && (place n == m) then Some n else seek n m

    abbrev pub from : ℕ → Option ℕ
    from m = seek LENGTHS m

    pub record Goes (n m l : ℕ) : Type 0 where
      pub below : l < n
      pub is_kept : kept l ≡ true
      pub there : place l ≡ m

    pub seek_is : (n m l : ℕ) → seek n m ≡ Some l → Goes n m l
    unfolding seek
    seek_is zero m l is = absurd cc
    seek_is (suc n) m l is = by (kept n) refl (place n == m) refl is (seek_is n m l) where
      by : (a : Bool) → kept n ≡ a → (b : Bool) → (place n == m) ≡ b →
          (if a && b then Some n else seek n m) ≡ Some l → (seek n m ≡ Some l → Goes n m l) → Goes (suc n) m l
      by true k true p is' rest =
          let e : n ≡ l = same_Some n l is' in
          subst (Goes (suc n) m) e (record { below = omega arith; is_kept = k; there = eqb-true (place n) m p })
      by true k false p is' rest =
          let r : Goes n m l = rest is' in
          record { below = omega (arith, r.below); is_kept = r.is_kept; there = r.there }
      by false k b p is' rest =
          let r : Goes n m l = rest is' in
          record { below = omega (arith, r.below); is_kept = r.is_kept; there = r.there }

    seek_at : (n m l : ℕ) → Goes n m l → seek n m ≡ Some l
    unfolding seek
    seek_at zero m l goes = absurd (omega (arith, goes.below))
    seek_at (suc n) m l goes = by (cases_lt l n)
        (λ less. seek_at n m l (record { below = less; is_kept = goes.is_kept; there = goes.there }))
      where
        by : (l < n) ⊎ (n ≤ l) → (l < n → seek n m ≡ Some l) →
            (if kept n && (place n == m) then Some n else seek n m) ≡ Some l
        by (inl less) rest = by_kept (place n == m) refl where
          by_kept : (b : Bool) → (place n == m) ≡ b → (if kept n && b then Some n else seek n m) ≡ Some l
          by_kept true p =
              let h = place_order l n less goes.is_kept in
              let g = eqb-true (place n) m p in
              absurd (omega (arith, h, g, goes.there))
          by_kept false p = none (kept n) where
            none : (a : Bool) → (if a && false then Some n else seek n m) ≡ Some l
            none true = rest less
            none false = rest less
        by (inr more) rest =
            let e : l ≡ n = omega (arith, more, goes.below) in
            let k : kept n ≡ true = ap kept (sym e) ∙ goes.is_kept in
            let p : (place n == m) ≡ true = eq-eqb (place n) m (ap place (sym e) ∙ goes.there) in
            ap₂ (λ a b. if a && b then Some n else seek n m) k p ∙ ap Some (sym e)

    pub to_is : (l m : ℕ) → to l ≡ Some m → Goes LENGTHS m l
    to_is l m is = by (cases_lt l LENGTHS) where
      by : (l < LENGTHS) ⊎ (LENGTHS ≤ l) → Goes LENGTHS m l
      by (inl below) = by_kept (kept l) refl (subst (λ b. (if b && kept l then Some (place l) else None) ≡ Some m)
          (lt-ltb l LENGTHS below) is)
        where
          by_kept : (b : Bool) → kept l ≡ b → (if b then Some (place l) else None) ≡ Some m → Goes LENGTHS m l
          by_kept true k is' = record { below = below; is_kept = k; there = same_Some (place l) m is' }
          by_kept false k is' = absurd cc
      by (inr past) = absurd (none (nat_lt l LENGTHS) refl is) where
        none : (b : Bool) → nat_lt l LENGTHS ≡ b → (if b && kept l then Some (place l) else None) ≡ Some m → ⊥
        none true p is' = let h = ltb-true l LENGTHS p in omega (arith, h, past)
        none false p is' = cc

    pub to_at : (l m : ℕ) → Goes LENGTHS m l → to l ≡ Some m
    to_at l m goes =
        ap₂ (λ a b. if a && b then Some (place l) else None) (lt-ltb l LENGTHS goes.below) goes.is_kept
        ∙ ap Some goes.there

    -- ---- the move

    -- lengths of one class are the same to every definition, and all lengths of a class are kept unless nothing stands
    -- at any of them
    pub record AreClasses (files : List File) (d : Addr) : Type 0 where
      pub alike : (l m : ℕ) → l < LENGTHS → m ≤ l → start l ≡ start m → (l ≡ m) ⊎ ArePlain files d l m
      pub whole : (m : ℕ) → m < LENGTHS → IsBare files (prefix_at d m)
          ⊎ ((kept m ≡ true) × (place m ≡ m))

    pub is_move : (files : List File) (d : Addr) → AreClasses files d → IsMove files d to from
    is_move files d classes = record {
      forth = λ l m goes. seek_at LENGTHS m l (to_is l m goes);
      back = λ l m comes. to_at l m (seek_is LENGTHS m l comes);
      inside = λ l m goes. inside_of l m (to_is l m goes);
      alike = λ l m goes. alike_of l m (to_is l m goes);
      emptied = emptied_of;
      order = λ l k m n before goes went. order_of l k m n before (to_is l m goes) (to_is k n went);
    } where
      inside_of : (l m : ℕ) → Goes LENGTHS m l → (l < LENGTHS) × (m < LENGTHS)
      inside_of l m goes =
          let low = place_before l in
          (goes.below, omega (arith, low, goes.there, goes.below))

      alike_of : (l m : ℕ) → Goes LENGTHS m l → (l ≡ m) ⊎ ArePlain files d l m
      alike_of l m goes =
          let low = place_before l in
          let high : m ≤ l = omega (arith, low, goes.there) in
          classes.alike l m goes.below high (sym (start_between l m (omega (arith, goes.there)) high))

      emptied_of : (m : ℕ) → m < LENGTHS → from m ≡ None → IsBare files (prefix_at d m)
      emptied_of m short none = by (classes.whole m short) where
        by : IsBare files (prefix_at d m) ⊎ ((kept m ≡ true) × (place m ≡ m)) → IsBare files (prefix_at d m)
        by (inl bare) = bare
        by (inr both) =
            let h = seek_at LENGTHS m m (record { below = short; is_kept = both.0; there = both.1 }) in
            absurd cc

      order_of : (l k m n : ℕ) → l < k → Goes LENGTHS m l → Goes LENGTHS n k → m < n
      order_of l k m n before goes went =
          let h = place_order l k before goes.is_kept in
          omega (arith, h, goes.there, went.there)

-- ---- how many are used

-- how many numbers below n stand in the list
unfoldable pub used_below : List ℕ → ℕ → ℕ
used_below us zero = 0
used_below us (suc n) = used_below us n + (bit (list_any (eqb n) us))

is_below : (u n : ℕ) → u < n → (bit (nat_lt u n)) ≡ 1
is_below u n less = ap bit (lt-ltb u n less)

not_below : (u n : ℕ) → n ≤ u → (bit (nat_lt u n)) ≡ 0
not_below u n more = by (nat_lt u n) refl where
  by : (b : Bool) → nat_lt u n ≡ b → (bit (b)) ≡ 0
  by true is = let h = ltb-true u n is in absurd (omega (arith, h, more))
  by false is = refl

one_more : (u : ℕ) (us : List ℕ) (n : ℕ) → used_below (u ∷ us) n ≤ used_below us n + (bit (nat_lt u n))
unfolding used_below
one_more u us zero = omega arith
one_more u us (suc n) = by (eqb n u) refl (list_any (eqb n) us) (cases_lt u n) (one_more u us n) where
  by : (a : Bool) → eqb n u ≡ a → (b : Bool) → (u < n) ⊎ (n ≤ u) →
      used_below (u ∷ us) n ≤ used_below us n + (bit (nat_lt u n)) →
      used_below (u ∷ us) n + (bit (a || b))
      ≤ (used_below us n + (bit (b))) + (bit (nat_lt u (suc n)))
  by true same true either rest =
      let e = eqb-true n u same in
      let z = not_below u n (omega (arith, e)) in
      omega (arith, rest, z)
  by true same false either rest =
      let e = eqb-true n u same in
      let z = not_below u n (omega (arith, e)) in
      let o = is_below u (suc n) (omega (arith, e)) in
      omega (arith, rest, z, o)
  by false same b (inl less) rest =
      let z = is_below u n less in
      let o = is_below u (suc n) (omega (arith, less)) in
      omega (arith, rest, z, o)
  by false same b (inr more) rest =
      let z = not_below u n more in
      omega (arith, rest, z)

pub used_few : (us : List ℕ) (n : ℕ) → used_below us n ≤ length us
unfolding used_below
used_few [] zero = omega arith
used_few [] (suc n) = let h = used_few [] n in omega (arith, h)
used_few (u ∷ us) n = by (nat_lt u n) (one_more u us n) (used_few us n) where
  by : (b : Bool) → used_below (u ∷ us) n ≤ used_below us n + (bit (b)) → used_below us n ≤ length us →
      used_below (u ∷ us) n ≤ suc (length us)
  by true h g = omega (arith, h, g)
  by false h g = omega (arith, h, g)

-- where only used lengths of a class are kept, no more go anywhere than there are users
pub rank_few : (cut kept : ℕ → Bool) (us : List ℕ) (l : ℕ) →
    ((k : ℕ) → start cut l ≤ k → k < l → kept k ≡ true → list_any (eqb k) us ≡ true) →
    rank cut kept l ≤ used_below us l
unfolding rank start used_below
rank_few cut kept us zero only = omega arith
rank_few cut kept us (suc l) only = by (cut (suc l)) only (place_before cut kept l) (rank_few cut kept us l) where
  by : (c : Bool) → ((k : ℕ) → (if c then suc l else start cut l) ≤ k → k < suc l → kept k ≡ true →
      list_any (eqb k) us ≡ true) → start cut l + rank cut kept l ≤ l →
      (((k : ℕ) → start cut l ≤ k → k < l → kept k ≡ true → list_any (eqb k) us ≡ true) →
      rank cut kept l ≤ used_below us l) →
      (if c then 0 else (rank cut kept l + (bit (kept l))))
      ≤ used_below us l + (bit (list_any (eqb l) us))
  by true only' low rest = omega arith
  by false only' low rest = by_kept (kept l) refl (rest (λ k more less is. only' k more (omega (arith, less)) is)) where
    by_kept : (b : Bool) → kept l ≡ b → rank cut kept l ≤ used_below us l →
        rank cut kept l + (bit (b)) ≤ used_below us l + (bit (list_any (eqb l) us))
    by_kept true is h =
        let one : (bit (list_any (eqb l) us)) ≡ 1 =
        ap bit (only' l (omega (arith, low)) (omega arith) is) in
        omega (arith, h, one)
    by_kept false is h = omega (arith, h)
