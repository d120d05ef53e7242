-- A path that is rebuilt from a shape has that shape.
use Rattle.std.proofs.Common.{◌≡◌, ℕ, zero, suc, ◌+◌, ◌-◌, Bool, true, false, not, ◌&&◌, ◌||◌, List, [], ◌∷◌, ◌++◌}
use Rattle.std.proofs.Common.{length, map, filter, replicate, refl, sym, ap, subst, arith, ◌∙◌, if◌then◌else◌, get_or}
use Rattle.std.proofs.Common.{leb-true, append_assoc}
use Rattle.std.specs.Prelude.{◌==◌, nat_lt, nat_le}
use Rattle.std.specs.List.{list_all}
use Rattle.std.proofs.lemmas.Bool.{and_parts, eqb-true}
use Rattle.std.proofs.lemmas.Bool.Decides.{nat_tests}
use Rattle.std.proofs.lemmas.List.Folds.{list_any-append}
use Rattle.std.proofs.Math.Seq.{get_or-append_seam}
use Rattle.std.proofs.lemmas.List.{length-append}
use Rattle.std.proofs.lemmas.Map.Views.{any-filter_same}
use Rattle.ios_ast.specs.Deciding.{carries}
use Rattle.ios_ast.specs.Paths.{last_of}
use Rattle.net_parts.specs.World.{ascends}
use Rattle.net_parts.proofs.Tracks.{itself}
use Rattle.route_shapes.specs.Shapes.{PathShape}
use Rattle.announced_shapes.specs.Paths.{IsPathShape, after_first, taken, is_end, between, rebuilt_path}
use Rattle.announced_shapes.specs.Paths.{are_marked}
use Rattle.announced_shapes.proofs.PlainShape.{plain_shape}

-- ---- marks

differs : (t u : ℕ) → nat_lt t u ≡ true → (t == u) ≡ false
differs t u h = grind (arith, nat_tests)

differs_back : (t u : ℕ) → nat_lt t u ≡ true → (u == t) ≡ false
differs_back t u h = grind (arith, nat_tests)

map_above : (t : ℕ) (w ts : List ℕ) → list_all (nat_lt t) ts ≡ true → map (carries (t ∷ w)) ts ≡ map (carries w) ts
map_above t w [] above = refl
map_above t w (u ∷ us) above =
    let both = and_parts (nat_lt t u) (list_all (nat_lt t) us) above in
    let one : ((t == u) || carries w u) ≡ carries w u = ap (λ b. b || carries w u) (differs t u both.0) in
    let others = map_above t w us both.1 in cc

none_taken : (t : ℕ) (ts : List ℕ) (bs : List Bool) → list_all (nat_lt t) ts ≡ true → carries (taken ts bs) t ≡ false
none_taken t [] bs above = refl
none_taken t (u ∷ us) [] above = refl
none_taken t (u ∷ us) (true ∷ bs) above =
    let both = and_parts (nat_lt t u) (list_all (nat_lt t) us) above in
    ap (λ b. b || carries (taken us bs) t) (differs_back t u both.0) ∙ none_taken t us bs both.1
none_taken t (u ∷ us) (false ∷ bs) above =
    none_taken t us bs (and_parts (nat_lt t u) (list_all (nat_lt t) us) above).1

-- the marked values carry what is marked
pub taken_marks : (ts : List ℕ) (bs : List Bool) → ascends ts ≡ true → length bs ≡ length ts →
    map (carries (taken ts bs)) ts ≡ bs
taken_marks [] [] up long = refl
taken_marks [] (b ∷ bs) up long = absurd (omega (arith, long))
taken_marks (t ∷ ts) [] up long = absurd (omega (arith, long))
taken_marks (t ∷ ts) (true ∷ bs) up long =
    let both = and_parts (list_all (nat_lt t) ts) (ascends ts) up in
    let rest = taken_marks ts bs both.1 (omega (arith, long)) in
    let front : carries (t ∷ taken ts bs) t ≡ true = ap (λ b. b || carries (taken ts bs) t) (itself t) in
    let behind = map_above t (taken ts bs) ts both.0 in cc
taken_marks (t ∷ ts) (false ∷ bs) up long =
    let both = and_parts (list_all (nat_lt t) ts) (ascends ts) up in
    let rest = taken_marks ts bs both.1 (omega (arith, long)) in
    let front = none_taken t ts bs both.0 in cc

-- ---- the numbers of a rebuilt path

pub carries-filter : (p : ℕ → Bool) (xs : List ℕ) (t : ℕ) → carries (filter p xs) t ≡ (p t && carries xs t)
carries-filter p xs t = any-filter_same (λ y. y == t) p (p t) (λ k e. ap p (eqb-true k t e)) xs

-- a value that is there already may be there again
or_again : (a b c : Bool) → (b ≡ true → a ≡ true) → (a || (b || c)) ≡ (a || c)
or_again true b c h = refl
or_again false true c h = absurd (let no = h refl in cc)
or_again false false c h = refl

carries_again : (n x t : ℕ) → carries (replicate n x) t ≡ true → (x == t) ≡ true
carries_again zero x t h = absurd (cc)
carries_again (suc n) x t h = by (x == t) refl (carries_again n x t) where
  by : (b : Bool) → (x == t) ≡ b → (carries (replicate n x) t ≡ true → (x == t) ≡ true) → (x == t) ≡ true
  by true e rest = e
  by false e rest = rest (ap (λ c. c || carries (replicate n x) t) (sym e) ∙ h)

or_order : (a m r l : Bool) → (r ≡ true → a ≡ true) → (a || (m || (r || (l || false)))) ≡ ((a || l) || m)
or_order true m r l h = refl
or_order false true true l h = absurd (let no = h refl in cc)
or_order false true false true h = refl
or_order false true false false h = refl
or_order false false true l h = absurd (let no = h refl in cc)
or_order false false false true h = refl
or_order false false false false h = refl

long_carries : (first last t n : ℕ) (mid : List ℕ) →
    carries (first ∷ (mid ++ (replicate n first ++ (last ∷ [])))) t ≡ (((first == t) || (last == t)) || carries mid t)
long_carries first last t n mid =
    let outer = list_any-append (λ y. y == t) mid (replicate n first ++ (last ∷ [])) in
    let inner = list_any-append (λ y. y == t) (replicate n first) (last ∷ []) in
    ap (λ b. (first == t) || b) (outer ∙ ap (λ b. carries mid t || b) inner)
    ∙ or_order (first == t) (carries mid t) (carries (replicate n first) t) (last == t) (carries_again n first t)

-- ---- a rebuilt path of at least two numbers

-- where the ends are marked, marking them again changes nothing
marked_again : (is : ℕ → Bool) (f : ℕ → Bool) (ts : List ℕ) (bs : List Bool) → map f ts ≡ bs →
    are_marked is ts bs ≡ true → map (λ t. is t || f t) ts ≡ bs
marked_again is f [] [] same marked = same
marked_again is f [] (b ∷ bs) same marked = same
marked_again is f (t ∷ ts) [] same marked = absurd (cc)
marked_again is f (t ∷ ts) (b ∷ bs) same marked =
    let both = and_parts (not (is t) || b) (are_marked is ts bs) marked in
    let here : f t ≡ b = cc in
    let there : map f ts ≡ bs = cc in
    let rest = marked_again is f ts bs there both.1 in
    let front = by (is t) b both.0 in
    let head : (is t || f t) ≡ b = ap (λ c. is t || c) here ∙ front in cc
  where
    by : (a b : Bool) → (not a || b) ≡ true → (a || b) ≡ b
    by true b h = sym h
    by false b h = refl

same_marks : (f g : ℕ → Bool) (ts : List ℕ) → ((t : ℕ) → f t ≡ g t) → map f ts ≡ map g ts
same_marks f g [] h = refl
same_marks f g (t ∷ ts) h = let here = h t in let rest = same_marks f g ts h in cc

absorbed : (a b : Bool) → (a || (not a && b)) ≡ (a || b)
absorbed true b = refl
absorbed false b = refl

-- a path that carries its ends and the marked values between them has the marks of its shape
marks_of : (tracked : List ℕ) (s : PathShape) (path : List ℕ) → ascends tracked ≡ true →
    length s.numbers ≡ length tracked → are_marked (is_end s) tracked s.numbers ≡ true →
    ((t : ℕ) → carries path t ≡ (is_end s t || carries (between tracked s) t)) →
    map (carries path) tracked ≡ s.numbers
marks_of tracked s path up long ends carried =
    same_marks (carries path) (λ t. is_end s t || carries (taken tracked s.numbers) t) tracked each
    ∙ marked_again (is_end s) (carries (taken tracked s.numbers)) tracked s.numbers
    (taken_marks tracked s.numbers up long) ends
  where
    each : (t : ℕ) → carries path t ≡ (is_end s t || carries (taken tracked s.numbers) t)
    each t =
        carried t
        ∙ ap (λ b. is_end s t || b) (carries-filter (λ u. not (is_end s u)) (taken tracked s.numbers) t)
        ∙ absorbed (is_end s t) (carries (taken tracked s.numbers) t)

last-append : (xs : List ℕ) (x : ℕ) → get_or (xs ++ (x ∷ [])) (length xs) 0 ≡ x
last-append xs x = get_or-append_seam xs x [] 0

-- the last number of a path that ends so
ends_so : (front : List ℕ) (x : ℕ) → last_of (front ++ (x ∷ [])) ≡ x
ends_so front x =
    let long : length (front ++ (x ∷ [])) - 1 ≡ length front = omega (arith, length-append front (x ∷ [])) in
    ap (λ k. get_or (front ++ (x ∷ [])) k 0) long
    ∙ last-append front x

no_items : (xs : List ℕ) → length xs ≡ 0 → xs ≡ []
no_items [] h = refl
no_items (x ∷ xs) h = absurd (omega (arith, h))

single_carries : (first last t : ℕ) → first ≡ last →
    carries (first ∷ []) t ≡ (((first == t) || (last == t)) || carries [] t)
single_carries first last t e = subst (λ x. carries (first ∷ []) t ≡ (((first == t) || (x == t)) || carries [] t)) e
    (by (first == t))
  where
    by : (b : Bool) → (b || false) ≡ ((b || b) || false)
    by true = refl
    by false = refl

length-again : (n x : ℕ) → length (replicate n x) ≡ n
length-again zero x = refl
length-again (suc n) x = ap suc (length-again n x)

long_length : (first last n : ℕ) (mid : List ℕ) →
    length (first ∷ (mid ++ (replicate n first ++ (last ∷ [])))) ≡ length mid + n + 2
long_length first last n mid =
    let outer = length-append mid (replicate n first ++ (last ∷ [])) in
    let inner = length-append (replicate n first) (last ∷ []) in
    let fill = length-again n first in omega (arith, outer, inner, fill)

-- the path of a shape, by its length
pub path_again : (asn : ℕ) (tracked : List ℕ) (s : PathShape) → ascends tracked ≡ true →
    IsPathShape asn tracked s → plain_shape tracked (rebuilt_path tracked s) ≡ s
unfolding rebuilt_path
path_again asn tracked s up is = by (s.len == 1) refl where
  long : length s.numbers ≡ length tracked
  long = is.marks

  mid : List ℕ
  mid = between tracked s

  fill : ℕ
  fill = s.len - 2 - length (between tracked s)

  long_path : List ℕ
  long_path = s.first ∷ after_first s (between tracked s)

  front : List ℕ
  front = s.first ∷ (between tracked s ++ replicate (s.len - 2 - length (between tracked s)) s.first)

  one : (s.len == 1) ≡ true → plain_shape tracked (s.first ∷ []) ≡ s
  one e =
      let len = eqb-true s.len 1 e in
      let ends : (s.first == s.last) ≡ true = ap (λ b. not b || (s.first == s.last)) (sym e) ∙ is.single in
      let last = eqb-true s.first s.last ends in
      let room = leb-true _ _ (subst (λ k. nat_le (length (between tracked s) + k) s.len ≡ true)
      (ap (λ b. if b then 1 else 2) e) is.room) in
      let none : length (between tracked s) ≡ 0 = omega (arith, len, room) in
      let empty = no_items (between tracked s) none in
      let numbers = marks_of tracked s (s.first ∷ []) up long is.ends
      (λ t. single_carries s.first s.last t last ∙ ap (λ xs. is_end s t || carries xs t) (sym empty)) in
      λ i. record { len = sym len i; first = s.first; last = last i; numbers = numbers i }

  more : (s.len == 1) ≡ false → plain_shape tracked long_path ≡ s
  more e =
      let room = leb-true _ _ (subst (λ k. nat_le (length (between tracked s) + k) s.len ≡ true)
      (ap (λ b. if b then 1 else 2) e) is.room) in
      let numbers = marks_of tracked s long_path up long is.ends
      (λ t. long_carries s.first s.last t fill (between tracked s)) in
      let count = long_length s.first s.last fill (between tracked s) in
      let len : length long_path ≡ s.len = omega (arith, room, count) in
      let whole : front ++ (s.last ∷ []) ≡ long_path =
      ap (λ xs. s.first ∷ xs) (append_assoc (between tracked s) (replicate fill s.first) (s.last ∷ [])) in
      let last : last_of long_path ≡ s.last = ap last_of (sym whole) ∙ ends_so front s.last in
      λ i. record { len = len i; first = s.first; last = last i; numbers = numbers i }

  by : (b : Bool) → (s.len == 1) ≡ b → plain_shape tracked (rebuilt_path tracked s) ≡ s
  by true e = ap (λ b. plain_shape tracked (if b then s.first ∷ [] else long_path)) e ∙ one e
  by false e = ap (λ b. plain_shape tracked (if b then s.first ∷ [] else long_path)) e ∙ more e
