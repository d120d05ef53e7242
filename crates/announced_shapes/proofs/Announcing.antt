-- A path that is rebuilt may be announced; and the test of its shape.
use Rattle.std.proofs.Common.{◌≡◌, ℕ, zero, suc, ◌+◌, ◌-◌, Bool, true, false, not, ◌&&◌, ◌||◌, List, [], ◌∷◌, ◌++◌}
use Rattle.std.proofs.Common.{length, replicate, refl, ap, ◌∙◌, if◌then◌else◌}
use Rattle.std.specs.Prelude.{◌==◌, nat_lt, nat_le}
use Rattle.std.specs.List.{list_all}
use Rattle.std.proofs.lemmas.Bool.{and_from, and_parts, eq-eqb, eqb-true}
use Rattle.std.proofs.lemmas.List.Folds.{list_all-append}
use Rattle.mw_text.proofs.Numbers.{all_kept}
use Rattle.net_parts.specs.Exports.{most_numbers}
use Rattle.route_shapes.specs.Shapes.{PathShape}
use Rattle.net_parts.specs.World.{is_as_number}
use Rattle.announced_shapes.specs.Paths.{IsPathShape, after_first, is_path_shape, taken, is_end, between}
use Rattle.announced_shapes.specs.Paths.{rebuilt_path, are_marked}
use Rattle.announced_shapes.specs.Paths.{ends_count, has_path_length, has_path_ends, has_path_marks}

pub tested : (asn : ℕ) (tracked : List ℕ) (s : PathShape) → is_path_shape asn tracked s ≡ true →
    IsPathShape asn tracked s
unfolding is_path_shape
tested asn tracked s is =
    let thirds = and_parts (has_path_length s) (has_path_ends asn s && has_path_marks tracked s) is in
    let two = and_parts (has_path_ends asn s) (has_path_marks tracked s) thirds.1 in
    let len = and_parts (nat_lt 0 s.len) (nat_le s.len most_numbers) thirds.0 in
    let ends = and_parts ((s.first == asn) && is_as_number s.first)
    (is_as_number s.last && (not (s.len == 1) || (s.first == s.last))) two.0 in
    let first = and_parts (s.first == asn) (is_as_number s.first) ends.0 in
    let last = and_parts (is_as_number s.last) (not (s.len == 1) || (s.first == s.last)) ends.1 in
    let marks = and_parts ((length s.numbers == length tracked) && are_marked (is_end s) tracked s.numbers)
    (list_all is_as_number (taken tracked s.numbers)
    && nat_le (length (between tracked s) + ends_count s) s.len) two.1 in
    let own = and_parts (length s.numbers == length tracked) (are_marked (is_end s) tracked s.numbers) marks.0 in
    let others = and_parts (list_all is_as_number (taken tracked s.numbers))
    (nat_le (length (between tracked s) + ends_count s) s.len) marks.1 in
    record {
      marks = eqb-true _ _ own.0;
      some = len.0;
      short = len.1;
      first = first.0;
      known = first.1;
      last = last.0;
      single = last.1;
      ends = own.1;
      others = others.0;
      room = others.1;
    }

pub passes : (asn : ℕ) (tracked : List ℕ) (s : PathShape) → IsPathShape asn tracked s →
    is_path_shape asn tracked s ≡ true
unfolding is_path_shape
passes asn tracked s is =
    and_from _ _ (and_from _ _ is.some is.short)
    (and_from _ _ (and_from _ _ (and_from _ _ is.first is.known) (and_from _ _ is.last is.single))
    (and_from _ _ (and_from _ _ (eq-eqb _ _ is.marks) is.ends) (and_from _ _ is.others is.room)))

all_again : (p : ℕ → Bool) (n x : ℕ) → p x ≡ true → list_all p (replicate n x) ≡ true
all_again p zero x h = refl
all_again p (suc n) x h = and_from _ _ h (all_again p n x h)

-- its numbers are AS numbers
pub rebuilt_numbers : (asn : ℕ) (tracked : List ℕ) (s : PathShape) → IsPathShape asn tracked s →
    list_all is_as_number (rebuilt_path tracked s) ≡ true
unfolding rebuilt_path
rebuilt_numbers asn tracked s is = by (s.len == 1) where
  first : is_as_number s.first ≡ true
  first = is.known

  mid : list_all is_as_number (between tracked s) ≡ true
  mid = all_kept is_as_number (λ t. not (is_end s t)) (taken tracked s.numbers) is.others

  behind : (n : ℕ) → list_all is_as_number (between tracked s ++ (replicate n s.first ++ (s.last ∷ []))) ≡ true
  behind n =
      list_all-append is_as_number (between tracked s) (replicate n s.first ++ (s.last ∷ []))
      ∙ and_from _ _ mid (list_all-append is_as_number (replicate n s.first) (s.last ∷ [])
      ∙ and_from _ _ (all_again is_as_number n s.first first) (and_from _ _ is.last refl))

  by : (b : Bool) → list_all is_as_number (if b then s.first ∷ []
      else s.first ∷ after_first s (between tracked s)) ≡ true
  by true = and_from _ _ first refl
  by false = and_from _ _ first (behind (s.len - 2 - length (between tracked s)))

-- and the peer's is the first
pub rebuilt_first : (asn : ℕ) (tracked : List ℕ) (s : PathShape) → IsPathShape asn tracked s →
    (rest : List ℕ) × (rebuilt_path tracked s ≡ asn ∷ rest)
unfolding rebuilt_path
rebuilt_first asn tracked s is = by (s.len == 1) where
  same : s.first ≡ asn
  same = eqb-true s.first asn is.first

  by : (b : Bool) → (rest : List ℕ) × ((if b then s.first ∷ []
      else s.first ∷ after_first s (between tracked s)) ≡ asn ∷ rest)
  by true = ([], ap (λ x. x ∷ []) same)
  by false = (_, ap (λ x. x ∷ after_first s (between tracked s)) same)
