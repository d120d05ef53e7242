-- What is asked of an announcement, gate by gate.
use Rattle.std.proofs.Common.{◌≡◌, ◌≢◌, ℕ, zero, suc, ◌+◌, ◌^◌, ◌<◌, ◌≤◌, ◌&&◌, ◌||◌, Bool, true, false, not, List, [], ◌∷◌}
use Rattle.std.proofs.Common.{length, refl, sym, ap, subst, arith, ◌∙◌, drop, get_or}
use Rattle.std.specs.Prelude.{◌==◌, filter, nat_le, nat_lt, if◌then◌else◌}
use Rattle.std.specs.List.{list_all}
use Rattle.std.proofs.lemmas.Bool.{and_from, eq-eqb, lt-ltb}
use Rattle.std.proofs.lemmas.Bool.Decides.{nat_tests}
use Rattle.std.proofs.lemmas.Grind.{common_steps}
use Rattle.std.proofs.lemmas.List.{drop_more, length-map}
use Rattle.route_record.specs.declared.tracked.Tracked.{Tracked}
use Rattle.route_shapes.specs.Bgp.{BgpShape}
use Rattle.route_shapes.specs.Shapes.{PathShape}
use Rattle.term_store.specs.declared.NodeId.{NodeId}
use Rattle.term_store.specs.Terms.{Reading, Store, at}
use Rattle.term_store.specs.Reading.{Builds}
use Rattle.term_arith.proofs.NumberLemmas.{ids_end_at}
use Rattle.term_arith.specs.Bits.{bits, number, number_of}
use Rattle.failed_links.proofs.Reading.{number-below}
use Rattle.net_parts.specs.World.{is_as_number}
use Rattle.announced_shapes.specs.Paths.{are_marked, has_path_ends, has_path_length, has_path_marks}
use Rattle.announced_shapes.specs.Paths.{is_path_shape, taken}
use Rattle.rebuilt_routes.proofs.Ranks.{small_bit}
use Rattle.bgp_variables.specs.Announced.{are_fit, inner_count, is_announced, is_one_of}

pub not_above : (a b : ℕ) → not (nat_lt b a) ≡ nat_le a b
not_above a b = grind (arith, nat_tests)

-- ---- AS numbers

pub as_number : (w : Reading) (ids : List NodeId) → length ids ≡ 32 →
    is_as_number (number w ids) ≡ nat_lt 0 (number w ids)
as_number w ids wide = by (nat_lt 0 (number w ids)) (lt-ltb (number w ids) (2 ^ 32) small) where
  small : number w ids < 2 ^ 32
  small = subst (λ k. number w ids < 2 ^ k) (length-map ids (at w) ∙ wide) (number-below (bits w ids))

  by : (b : Bool) {c : Bool} → c ≡ true → (b && c) ≡ b
  by true is = is
  by false is = refl

pub no_number : (t : ℕ) → t ≡ 0 → is_as_number t ≡ false
no_number t is = ap is_as_number is

pub a_number : (t : ℕ) → t ≢ 0 → t < 2 ^ 32 → is_as_number t ≡ true
a_number t some small = and_from (nat_lt 0 t) (nat_lt t (2 ^ 32)) (lt-ltb 0 t (grind (arith, some))) (lt-ltb t (2 ^ 32) small)

pub ruleset known_word = (no_number, a_number)

-- ---- counts

pub one_more : (w : Reading) (r sum count one : List NodeId) (fits node : Bool) →
    bits w r ≡ (if node then bits w sum else bits w count) →
    fits ≡ nat_lt (number w count + number w one) (2 ^ length count) →
    (fits ≡ true → number w sum ≡ number w count + number w one) → number w one ≡ 1 → length count ≡ 8 →
    number w count < 255 → number w r ≡ number w count + (if node then 1 else 0)
one_more w r sum count one fits true is fits_is sum_is one_is wide small =
    let total : number w count + number w one < 2 ^ length count =
    subst (λ k. number w count + number w one < 2 ^ k) (sym wide) (omega (arith, one_is, small)) in
    ap number_of is ∙ sum_is (fits_is ∙ lt-ltb _ _ total) ∙ ap (λ k. number w count + k) one_is
one_more w r sum count one fits false is fits_is sum_is one_is wide small = ap number_of is ∙ omega arith

-- ---- marks one by one

fit_cons : (is : ℕ → Bool) (t : ℕ) (ts : List ℕ) (b : Bool) (bs : List Bool) →
    are_fit is (t ∷ ts) (b ∷ bs) ≡ (((not (is t) || b) && (is_as_number t || not b)) && are_fit is ts bs)
fit_cons is t ts true bs = by (not (is t) || true) (is_as_number t) (are_marked is ts bs) (list_all is_as_number (taken ts bs))
  where
    by : (a b c d : Bool) → ((a && c) && (b && d)) ≡ ((a && (b || false)) && (c && d))
    by true true c d = refl
    by true false true d = refl
    by true false false d = refl
    by false b c d = refl
fit_cons is t ts false bs = by (not (is t) || false) (is_as_number t) (are_marked is ts bs) (list_all is_as_number (taken ts bs))
  where
    by : (a b c d : Bool) → ((a && c) && d) ≡ ((a && (b || true)) && (c && d))
    by true true true d = refl
    by true true false d = refl
    by true false true d = refl
    by true false false d = refl
    by false b c d = refl

inner_cons : (is : ℕ → Bool) (t : ℕ) (ts : List ℕ) (b : Bool) (bs : List Bool) →
    inner_count is (t ∷ ts) (b ∷ bs) ≡ (if b && not (is t) then 1 else 0) + inner_count is ts bs
inner_cons is t ts true bs = by (not (is t)) where
  by : (b : Bool) → length (if b then t ∷ filter (λ x. not (is x)) (taken ts bs) else filter (λ x. not (is x)) (taken ts bs))
      ≡ (if b then 1 else 0) + inner_count is ts bs
  by true = omega arith
  by false = omega arith
inner_cons is t ts false bs = omega arith

pub fit_next : (w : Reading) (is : ℕ → Bool) (tracked : List ℕ) (marks : List NodeId) (i d : ℕ) (e : NodeId) →
    i < length tracked → i < length marks →
    are_fit is (drop i tracked) (bits w (drop i marks))
    ≡ (((not (is (get_or tracked i d)) || at w (get_or marks i e))
    && (is_as_number (get_or tracked i d) || not (at w (get_or marks i e))))
    && are_fit is (drop (i + 1) tracked) (bits w (drop (i + 1) marks)))
fit_next w is tracked marks i d e below within =
    ap (λ ts. are_fit is ts (bits w (drop i marks))) (drop_more tracked i d below)
    ∙ ap (λ ms. are_fit is (get_or tracked i d ∷ drop (i + 1) tracked) (bits w ms)) (drop_more marks i e within)
    ∙ fit_cons is (get_or tracked i d) (drop (i + 1) tracked) (at w (get_or marks i e)) (bits w (drop (i + 1) marks))

pub inner_next : (w : Reading) (is : ℕ → Bool) (tracked : List ℕ) (marks : List NodeId) (i d : ℕ) (e : NodeId) →
    i < length tracked → i < length marks →
    inner_count is (drop i tracked) (bits w (drop i marks))
    ≡ (if at w (get_or marks i e) && not (is (get_or tracked i d)) then 1 else 0)
    + inner_count is (drop (i + 1) tracked) (bits w (drop (i + 1) marks))
inner_next w is tracked marks i d e below within =
    ap (λ ts. inner_count is ts (bits w (drop i marks))) (drop_more tracked i d below)
    ∙ ap (λ ms. inner_count is (get_or tracked i d ∷ drop (i + 1) tracked) (bits w ms)) (drop_more marks i e within)
    ∙ inner_cons is (get_or tracked i d) (drop (i + 1) tracked) (at w (get_or marks i e)) (bits w (drop (i + 1) marks))

drop_all : (xs : List ℕ) (i : ℕ) → length xs ≤ i → drop i xs ≡ []
drop_all [] zero past = refl
drop_all [] (suc i) past = refl
drop_all (x ∷ xs) zero past = absurd (omega (arith, past))
drop_all (x ∷ xs) (suc i) past = drop_all xs i (omega (arith, past))

pub fit_none : (is : ℕ → Bool) (tracked : List ℕ) (bs : List Bool) (i : ℕ) → length tracked ≤ i →
    are_fit is (drop i tracked) bs ≡ true
fit_none is tracked bs i past = ap (λ ts. are_fit is ts bs) (drop_all tracked i past)

pub inner_none : (is : ℕ → Bool) (tracked : List ℕ) (bs : List Bool) (i : ℕ) → length tracked ≤ i →
    inner_count is (drop i tracked) bs ≡ 0
inner_none is tracked bs i past = ap (λ ts. inner_count is ts bs) (drop_all tracked i past)

pub ruleset mark_steps = (common_steps, ids_end_at, fit_next, inner_next, fit_none, inner_none, small_bit)

-- four steps of a store
pub mark_chain : {s t u v x : Store} → Builds s t → Builds t u → Builds u v → Builds v x → Builds s x
mark_chain first next third last = record {
  larger = omega (arith, first.larger, next.larger, third.larger, last.larger);
  same_vars = last.same_vars ∙ third.same_vars ∙ next.same_vars ∙ first.same_vars;
  reads = λ w reads. first.reads w (next.reads w (third.reads w (last.reads w reads)));
  keeps = λ i n stands. last.keeps i n (third.keeps i n (next.keeps i n (first.keeps i n stands)));
}

-- one mark more, behind those that were looked at
pub fit_more : (w : Reading) (is : ℕ → Bool) (tracked : List ℕ) (marks : List NodeId) (i : ℕ) (before now test : Bool) →
    i < length tracked → i < length marks → now ≡ (before && test) →
    test ≡ ((not (is (get_or tracked i 0)) || at w (get_or marks i (record { 0 = 0 })))
    && (is_as_number (get_or tracked i 0) || not (at w (get_or marks i (record { 0 = 0 }))))) →
    (now && are_fit is (drop (i + 1) tracked) (bits w (drop (i + 1) marks)))
    ≡ (before && are_fit is (drop i tracked) (bits w (drop i marks)))
fit_more w is tracked marks i before now test below within now_is test_is =
    ap (λ b. b && rest) now_is ∙ by before test rest
    ∙ ap (λ b. before && b) (ap (λ b. b && rest) test_is
    ∙ sym (fit_next w is tracked marks i 0 (record { 0 = 0 }) below within))
  where
    rest : Bool
    rest = are_fit is (drop (i + 1) tracked) (bits w (drop (i + 1) marks))

    by : (a b c : Bool) → ((a && b) && c) ≡ (a && (b && c))
    by true b c = refl
    by false b c = refl

pub inner_more : (w : Reading) (is : ℕ → Bool) (tracked : List ℕ) (marks : List NodeId) (i before now : ℕ) (test : Bool) →
    i < length tracked → i < length marks → now ≡ before + (if test then 1 else 0) →
    test ≡ (at w (get_or marks i (record { 0 = 0 })) && not (is (get_or tracked i 0))) →
    now + inner_count is (drop (i + 1) tracked) (bits w (drop (i + 1) marks))
    ≡ before + inner_count is (drop i tracked) (bits w (drop i marks))
inner_more w is tracked marks i before now test below within now_is test_is =
    let next = inner_next w is tracked marks i 0 (record { 0 = 0 }) below within in
    let one = now_is ∙ ap (λ b. before + (if b then 1 else 0)) test_is in
    sums before now (inner_count is (drop i tracked) (bits w (drop i marks)))
    (inner_count is (drop (i + 1) tracked) (bits w (drop (i + 1) marks)))
    (if at w (get_or marks i (record { 0 = 0 })) && not (is (get_or tracked i 0)) then 1 else 0) one next
  where
    sums : (b n all rest one : ℕ) → n ≡ b + one → all ≡ one + rest → n + rest ≡ b + all
    sums b n all rest one first last = omega (arith, first, last)

pub few_more : (now before i : ℕ) (test : Bool) → now ≡ before + (if test then 1 else 0) → before ≤ i → now ≤ i + 1
few_more now before i true is few = omega (arith, is, few)
few_more now before i false is few = omega (arith, is, few)

-- ---- the whole

pub marks_are : (tracked : List ℕ) (s : PathShape) (fit room : Bool) (count : ℕ) →
    length s.numbers ≡ length tracked → fit ≡ are_fit (is_one_of s.first s.last) tracked s.numbers →
    count ≡ inner_count (is_one_of s.first s.last) tracked s.numbers →
    room ≡ nat_le (count + (if s.len == 1 then 1 else 2)) s.len → (fit && room) ≡ has_path_marks tracked s
marks_are tracked s fit room count long fit_is count_is room_is =
    ap (λ b. b && room) fit_is
    ∙ ap (λ b. are_fit (is_one_of s.first s.last) tracked s.numbers && b) (room_is
    ∙ ap (λ k. nat_le (k + (if s.len == 1 then 1 else 2)) s.len) count_is)
    ∙ by (length s.numbers == length tracked) (are_marked (is_one_of s.first s.last) tracked s.numbers)
    (list_all is_as_number (taken tracked s.numbers)) _ (eq-eqb (length s.numbers) (length tracked) long)
  where
    by : (a b c d : Bool) → a ≡ true → ((b && c) && d) ≡ ((a && b) && (c && d))
    by true true c d is = refl
    by true false c d is = refl
    by false b c d is = cc

pub announced_is : (tracked : Tracked) (asn : ℕ) (s : BgpShape) (plain marks : Bool) →
    plain ≡ (nat_le s.preferences.origin 2 && (has_path_length s.path && has_path_ends asn s.path)) →
    marks ≡ has_path_marks tracked.numbers s.path → (plain && marks) ≡ is_announced tracked asn s
unfolding is_path_shape
announced_is tracked asn s plain marks plain_is marks_is =
    ap (λ b. b && marks) plain_is
    ∙ ap (λ b. (nat_le s.preferences.origin 2 && (has_path_length s.path && has_path_ends asn s.path)) && b) marks_is
    ∙ by (nat_le s.preferences.origin 2) (has_path_length s.path) (has_path_ends asn s.path)
    (has_path_marks tracked.numbers s.path)
  where
    by : (a b c d : Bool) → ((a && (b && c)) && d) ≡ (a && (b && (c && d)))
    by true true c d = refl
    by true false c d = refl
    by false b c d = refl
