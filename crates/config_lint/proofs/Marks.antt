-- Signs of lines that are left aside.
use Rattle.std.proofs.Common.{◌≡◌, ◌≢◌, ℕ, zero, suc, ◌+◌, ◌-◌, ◌<◌, ◌≤◌, ◌||◌, ◌&&◌, ◌==◌, Bool, true, false, List, []}
use Rattle.std.proofs.Common.{◌∷◌, ◌++◌, length, map, drop, get_or, set, Option, Some, None, refl, ap, sym, ◌∙◌, arith}
use Rattle.std.proofs.Common.{inl, inr, ⊎_elim, nat_lt, nat_le, eq-eqb, subst, replicate}
use Rattle.std.proofs.Common.{get_or-set_other, get_or-set_same, take, length-drop}
use Rattle.std.proofs.lemmas.List.{take_all}
use Rattle.std.proofs.lemmas.Bool.{cases_lt, cases_eq, or_parts}
use Rattle.std.proofs.lemmas.List.{length-map}
use Rattle.std.proofs.lemmas.Option.{slice_get-get_or}
use Rattle.std.proofs.lemmas.List.FromFn.{fill_by_all, get_or-map-range_with_len, length-map-range_with_len}
use Rattle.std.specs.List.{list_any, range_with_len, slice_get}
use Rattle.std.specs.Option.{option_map_or}
use Rattle.mw_text.specs.declared.words.Line.{Line}
use Rattle.ios_policy_reader.specs.declared.cause.Refused.{Refused}
use Rattle.config_lint.specs.Asides.{asides, block_size, EachGoesWith, EachIsWith, goes_with, is_aside, unset, with_line}

-- ---- one sign after another

-- the signs before a place are set where they were or their line goes, and those from it on are as they were
pub record MarkedTo (lines : List Line) (line : Line) (n end : ℕ) (old now : List Bool) (at : ℕ) : Type 0 where
  pub before : (k : ℕ) (other : Line) → k < at → slice_get lines k ≡ Some other →
      get_or now k false ≡ get_or old k false || with_line line n end other (k + 1)
  pub after : (k : ℕ) → at ≤ k → get_or now k false ≡ get_or old k false

pub marked_none : (lines : List Line) (line : Line) (n end : ℕ) (old : List Bool) → MarkedTo lines line n end old old 0
marked_none lines line n end old = record { before = λ k other early. absurd (omega arith); after = λ k late. refl }

pub marked_one : (lines : List Line) (line : Line) (n end : ℕ) (old now : List Bool) (at : ℕ) (other : Line)
    (value : Bool) → MarkedTo lines line n end old now at → at < length now → slice_get lines at ≡ Some other →
    value ≡ get_or now at false || with_line line n end other (at + 1) →
    MarkedTo lines line n end old (set now at value) (at + 1)
marked_one lines line n end old now at other value so_far within here is = record {
  before = λ k line_k early found. ⊎_elim
      (λ same. at_place k line_k same found)
      (λ differs.
      get_or-set_other now at k value false differs ∙ so_far.before k line_k (omega arith) found)
      (cases_eq k at);
  after = λ k late. get_or-set_other now at k value false (omega arith) ∙ so_far.after k (omega arith);
} where
  at_place : (k : ℕ) (line_k : Line) → k ≡ at → slice_get lines k ≡ Some line_k →
      get_or (set now at value) k false ≡ get_or old k false || with_line line n end line_k (k + 1)
  at_place k line_k same found =
      let found_at : slice_get lines at ≡ Some line_k = ap (slice_get lines) (sym same) ∙ found in
      let one : other ≡ line_k = cc in
      subst (λ j. get_or (set now at value) j false ≡ get_or old j false || with_line line n end line_k (j + 1)) (sym same)
      (get_or-set_same now at value false within ∙ is
      ∙ ap (λ b. b || with_line line n end other (at + 1)) (so_far.after at (omega arith))
      ∙ ap (λ l. get_or old at false || with_line line n end l (at + 1)) one)

pub marked_all : (lines : List Line) (line : Line) (n end : ℕ) (old now : List Bool) (at : ℕ) →
    MarkedTo lines line n end old now at → length lines ≤ at → EachIsWith lines line n end old now
marked_all lines line n end old now at so_far done k other found =
    so_far.before k other (omega (arith, found_within lines k other found)) found where
      found_within : (lines : List Line) (k : ℕ) (other : Line) → slice_get lines k ≡ Some other → k < length lines
      found_within [] k other found = absurd cc
      found_within (l ∷ rest) zero other found = omega arith
      found_within (l ∷ rest) (suc k) other found = omega (arith, found_within rest k other found)

-- ---- the signs of a line that goes

-- in the words of line numbers
pub with_is : (lines : List Line) (n k : ℕ) (line other : Line) → slice_get lines (n - 1) ≡ Some line →
    slice_get lines k ≡ Some other →
    goes_with lines n (k + 1) ≡ with_line line n (n + block_size line (drop n lines)) other (k + 1)
with_is lines n k line other first found =
    let end : Line → ℕ = λ l. n + block_size l (drop n lines) in
    let place : k + 1 - 1 ≡ k = omega arith in
    let at_k : slice_get lines (k + 1 - 1) ≡ Some other = ap (slice_get lines) place ∙ found in
    ap (λ (o : Option Line). option_map_or
    (λ l. option_map_or (λ q. with_line l n (end l) q (k + 1)) (slice_get lines (k + 1 - 1)) false) o false) first
    ∙ ap (λ (o : Option Line). option_map_or (λ q. with_line line n (end line) q (k + 1)) o false) at_k

pub each_goes : (lines : List Line) (n : ℕ) (line : Line) (old new : List Bool) → slice_get lines (n - 1) ≡ Some line →
    EachIsWith lines line n (n + block_size line (drop n lines)) old new → EachGoesWith lines n old new
each_goes lines n line old new first each k within =
    let other : Line = get_or lines k line in
    let found : slice_get lines k ≡ Some other = slice_get-get_or lines k line within in
    each k other found ∙ ap (λ b. get_or old k false || b) (sym (with_is lines n k line other first found))

-- by the size of the block of the line at that place
pub leaves : (lines : List Line) (n : ℕ) (line : Line) (size : ℕ) (old new : List Bool) → 0 < n → n ≤ length lines →
    line ≡ get_or lines (n - 1) line → size ≡ block_size line (take (length lines - n) (drop n lines)) →
    EachIsWith lines line n (n + size) old new → EachGoesWith lines n old new
leaves lines n line size old new some within is size_is each =
    let first : slice_get lines (n - 1) ≡ Some line =
    slice_get-get_or lines (n - 1) line (omega arith) ∙ ap (λ l. Some l) (sym is) in
    let rest : take (length lines - n) (drop n lines) ≡ drop n lines =
    take_all (length lines - n) (drop n lines) (omega (arith, length-drop n lines)) in
    each_goes lines n line old new first
    (subst (λ (e : ℕ). EachIsWith lines line n (n + e) old new) (size_is ∙ ap (block_size line) rest) each)

-- ---- the signs of all that is left aside

or_false : (b : Bool) → b || false ≡ b
or_false true = refl
or_false false = refl

or_assoc : (a b c : Bool) → (a || b) || c ≡ a || (b || c)
or_assoc true b c = refl
or_assoc false b c = refl

any_more : (p : Refused → Bool) (told : List Refused) (refused : Refused) →
    list_any p (told ++ refused ∷ []) ≡ list_any p told || p refused
any_more p [] refused = or_false (p refused)
any_more p (r ∷ rest) refused =
    ap (λ b. p r || b) (any_more p rest refused) ∙ sym (or_assoc (p r) (list_any p rest) (p refused))

-- one refusal more
pub asides_more : (lines : List Line) (told : List Refused) (refused : Refused) (old new : List Bool) →
    old ≡ asides lines told → length new ≡ length old → EachGoesWith lines refused.line old new →
    new ≡ asides lines (told ++ refused ∷ [])
asides_more lines told refused old new is fit each =
    fill_by_all (λ k. is_aside lines (told ++ refused ∷ []) (k + 1)) new (length lines) false
    (fit ∙ ap length is ∙ length-map-range_with_len (λ k. is_aside lines told (k + 1)) 0 (length lines))
    (λ k within.
    each k within
    ∙ ap (λ b. b || goes_with lines refused.line (k + 1))
    (ap (λ l. get_or l k false) is
    ∙ get_or-map-range_with_len (λ j. is_aside lines told (j + 1)) 0 (length lines) k k false within (omega arith))
    ∙ sym (any_more (λ r. goes_with lines r.line (k + 1)) told refused))

pub length-asides : (lines : List Line) (told : List Refused) → length (asides lines told) ≡ length lines
length-asides lines told = length-map-range_with_len (λ k. is_aside lines told (k + 1)) 0 (length lines)

none_set : (f : ℕ → Bool) (from n : ℕ) → ((k : ℕ) → f k ≡ false) → replicate n false ≡ map f (range_with_len from n)
none_set f from zero none = refl
none_set f from (suc n) none =
    ap (λ b. b ∷ replicate n false) (sym (none from)) ∙ ap (λ l. f from ∷ l) (none_set f (from + 1) n none)

-- nothing is left aside yet
pub asides_none : (lines : List Line) → replicate (length lines) false ≡ asides lines []
asides_none lines = none_set (λ k. is_aside lines [] (k + 1)) 0 (length lines) (λ k. refl)

-- ---- fewer lines are left

unset_rest : (a b : Bool) (old new : List Bool) → (a ≡ true → b ≡ true) → unset new ≤ unset old →
    unset (b ∷ new) ≤ unset (a ∷ old)
unset_rest true true old new keeps less = less
unset_rest true false old new keeps less = absurd cc_false where
  cc_false : ⊥
  cc_false = let h : false ≡ true = keeps refl in cc
unset_rest false true old new keeps less = omega arith
unset_rest false false old new keeps less = omega arith

unset_same : (old new : List Bool) → length new ≡ length old →
    ((k : ℕ) → k < length old → get_or old k false ≡ true → get_or new k false ≡ true) → unset new ≤ unset old
unset_same [] [] fit keeps = omega arith
unset_same [] (b ∷ new) fit keeps = absurd (omega arith)
unset_same (a ∷ old) [] fit keeps = absurd (omega arith)
unset_same (a ∷ old) (b ∷ new) fit keeps =
    unset_rest a b old new (keeps zero (omega arith))
    (unset_same old new (omega arith) (λ k within. keeps (suc k) (omega arith)))

unset_first : (a b : Bool) (old new : List Bool) → a ≡ false → b ≡ true → unset new ≤ unset old →
    unset (b ∷ new) < unset (a ∷ old)
unset_first false true old new was is less = omega arith
unset_first true b old new was is less = absurd (let h : true ≡ false = was in cc)
unset_first false false old new was is less = absurd (let h : false ≡ true = is in cc)

unset_later : (a b : Bool) (old new : List Bool) → (a ≡ true → b ≡ true) → unset new < unset old →
    unset (b ∷ new) < unset (a ∷ old)
unset_later true true old new keeps less = less
unset_later true false old new keeps less = absurd (let h : false ≡ true = keeps refl in cc)
unset_later false true old new keeps less = omega arith
unset_later false false old new keeps less = omega arith

-- where signs stay set and one more is set
pub unset_less : (old new : List Bool) (k : ℕ) → length new ≡ length old →
    ((j : ℕ) → j < length old → get_or old j false ≡ true → get_or new j false ≡ true) → k < length old →
    get_or old k false ≡ false → get_or new k false ≡ true → unset new < unset old
unset_less [] new k fit keeps within was is = absurd (omega arith)
unset_less (a ∷ old) [] k fit keeps within was is = absurd (omega arith)
unset_less (a ∷ old) (b ∷ new) zero fit keeps within was is =
    unset_first a b old new was is (unset_same old new (omega arith) (λ j inner. keeps (suc j) (omega arith)))
unset_less (a ∷ old) (b ∷ new) (suc k) fit keeps within was is =
    unset_later a b old new (keeps zero (omega arith))
    (unset_less old new k (omega arith) (λ j inner. keeps (suc j) (omega arith)) (omega arith) was is)
