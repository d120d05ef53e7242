-- Candidates, one after another.
use Rattle.std.proofs.Common.{◌≡◌, ℕ, ◌+◌, ◌≤◌, ◌<◌, Bool, true, false, List, [], ◌∷◌, ◌++◌, drop, filter}
use Rattle.std.proofs.Common.{length, get_or, Option, Some, None, refl, sym, ap, subst, ◌∙◌, arith, if◌then◌else◌, append-nil}
use Rattle.std.specs.Prelude.{IfOk, OnOk, option_and_then, slice_get}
use Rattle.std.proofs.Common.{Result, Ok, Err}
use Rattle.std.specs.List.{list_all}
use Rattle.std.proofs.lemmas.List.{length-map}
use Rattle.std.proofs.lemmas.Option.{get_or_from_slice_get}
use Rattle.mw_text.proofs.Lists.{item_there}
use Rattle.ios_ast.specs.declared.file.File.{File}
use Rattle.net_interfaces.specs.Interfaces.{addressed}
use Rattle.net_interfaces.specs.Limits.{keeps_limits}
use Rattle.net_parts.specs.Sessions.{end_of, ends_of, sessions}
use Rattle.net_parts.proofs.Peers.{few_sessions}
use Rattle.std.specs.List.{cons_option, enumerate_from, filter_map}
use Rattle.std.specs.Option.{option_to_list}
use Rattle.std.proofs.lemmas.List.{drop_all, drop_more}
use Rattle.std.proofs.lemmas.List.Elements.{All-append, All-cons, All-nil, All-weaker}
use Rattle.route_record.specs.declared.tracked.Tracked.{Tracked}
use Rattle.term_store.specs.Terms.{Store}
use Rattle.term_store.specs.Reading.{Builds}
use Rattle.sym_policy.specs.declared.records.SymBgp.{SymBgp}
use Rattle.sym_bgp.specs.declared.parts.SymCand.{SymCand}
use Rattle.sym_bgp.specs.Candidates.{HaveMarksOf, SameMarks}
use Rattle.sym_policy.specs.MapRecs.{HasTracked}
use Rattle.sym_rib.proofs.OneEach.{filter_map_push}
use Rattle.bgp_equations.specs.Beside.{HaveAllMarks}

-- ---- one more

pub marks_push : (tracked : Tracked) (cs after : List SymCand) (c : SymCand) → after ≡ cs ++ c ∷ [] →
    HaveAllMarks tracked cs → HasTracked tracked c.rec → HaveAllMarks tracked after
marks_push tracked cs after c is before here =
    subst (HaveAllMarks tracked) (sym is)
    (All-append (λ (x : SymCand). HasTracked tracked x.rec) cs (c ∷ []) before
    (All-cons (λ (x : SymCand). HasTracked tracked x.rec) c [] here (All-nil (λ (x : SymCand). HasTracked tracked x.rec))))

pub none_put : {X : Type 0} (xs : List X) (b : Bool) (o : Option X) → b ≡ false →
    xs ≡ xs ++ option_to_list (if b then o else None)
none_put xs b o is = sym (append-nil xs) ∙ ap (λ c. xs ++ option_to_list (if c then o else None)) (sym is)

pub one_put : {A X : Type 0} (f : A → Option X) (before after : List A) (c : A) (b : Bool) (o : Option X) →
    after ≡ before ++ c ∷ [] → b ≡ true → f c ≡ o →
    filter_map f after ≡ filter_map f before ++ option_to_list (if b then o else None)
one_put f before after c b o is own same =
    ap (filter_map f) is ∙ filter_map_push f before c ∙ ap (λ x. filter_map f before ++ option_to_list x) same
    ∙ ap (λ d. filter_map f before ++ option_to_list (if d then o else None)) (sym own)

pub nothing_put : {X : Type 0} (xs : List X) → xs ≡ xs ++ []
nothing_put xs = sym (append-nil xs)

-- what holds on success of the value
pub if_on : {A E P : Type 0} {Q : A → Type 0} (r : Result A E) → OnOk r P → ((a : A) → P → Q a) → IfOk r Q
if_on (Ok a) p go = go a p
if_on (Err e) p go = tt

-- a store that is built on in two steps
pub builds_join : (a b c : Store) → Builds a b → Builds b c → Builds a c
builds_join a b c one two =
    let first = one.larger in
    let second = two.larger in record {
      larger = omega (arith, first, second);
      same_vars = two.same_vars ∙ one.same_vars;
      reads = λ w reads. one.reads w (two.reads w reads);
      keeps = λ i n stands. two.keeps i n (one.keeps i n stands);
    }

-- ---- an end more

pub few_ends : (files : List File) → length files ≤ 64 → list_all keeps_limits files ≡ true →
    length (ends_of files) ≤ 4294967295
unfolding ends_of
few_ends files few limits =
    let long = length-map (sessions files) (end_of (addressed files) (sessions files)) in
    let most = few_sessions files (sessions files) refl few limits in
    omega (arith, long, most)

-- what the first of some numbered items gives, and then the others
pub numbered_more : {X Y : Type 0} (test : X → Bool) (F : ℕ × X → Option Y) (xs : List X) (i : ℕ) (x : X) →
    i < length xs → x ≡ get_or xs i x →
    option_to_list (if test x then F (i, x) else None)
    ++ filter_map F (filter (λ (e : ℕ × X). test e.1) (enumerate_from (i + 1) (drop (i + 1) xs)))
    ≡ filter_map F (filter (λ (e : ℕ × X). test e.1) (enumerate_from i (drop i xs)))
numbered_more {X} {Y} test F xs i x within is =
    by (test x)
    ∙ ap (λ ys. filter_map F (filter (λ (e : ℕ × X). test e.1) (enumerate_from i ys)))
    (sym (drop_more xs i x within ∙ ap (λ y. y ∷ drop (i + 1) xs) (sym is)))
  where
    others : List (ℕ × X)
    others = filter (λ (e : ℕ × X). test e.1) (enumerate_from (i + 1) (drop (i + 1) xs))

    by : (b : Bool) → option_to_list (if b then F (i, x) else None) ++ filter_map F others
        ≡ filter_map F (if b then (i, x) ∷ others else others)
    by true = one (F (i, x)) where
      one : (o : Option Y) → option_to_list o ++ filter_map F others ≡ cons_option o (filter_map F others)
      one None = refl
      one (Some y) = refl
    by false = refl

-- the same at a place that is within
pub numbered_at : {X Y : Type 0} (test : X → Bool) (F : ℕ × X → Option Y) (xs : List X) (i : ℕ) → i < length xs →
    option_to_list (option_and_then (λ x. if test x then F (i, x) else None) (slice_get xs i))
    ++ filter_map F (filter (λ (e : ℕ × X). test e.1) (enumerate_from (i + 1) (drop (i + 1) xs)))
    ≡ filter_map F (filter (λ (e : ℕ × X). test e.1) (enumerate_from i (drop i xs)))
numbered_at {X} test F xs i within =
    let there = item_there xs i within in
    ap (λ o. option_to_list (option_and_then (λ x. if test x then F (i, x) else None) o)
    ++ filter_map F (filter (λ (e : ℕ × X). test e.1) (enumerate_from (i + 1) (drop (i + 1) xs)))) there.1
    ∙ numbered_more test F xs i there.0 within (sym (get_or_from_slice_get xs i there.0 there.0 there.1))

pub numbered_none : {X Y : Type 0} (test : X → Bool) (F : ℕ × X → Option Y) (xs : List X) (i : ℕ) → length xs ≤ i →
    filter_map F (filter (λ (e : ℕ × X). test e.1) (enumerate_from i (drop i xs))) ≡ []
numbered_none {X} test F xs i past =
    ap (λ ys. filter_map F (filter (λ (e : ℕ × X). test e.1) (enumerate_from i ys))) (drop_all i xs past)

-- ---- the rows of tracked values

pub same_marks : (tracked : Tracked) (cands : List SymCand) (held : SymBgp) → HaveAllMarks tracked cands →
    HasTracked tracked held → HaveMarksOf held cands
same_marks tracked cands held all has =
    All-weaker (λ (c : SymCand). HasTracked tracked c.rec) (λ c. SameMarks c.rec held) (λ c is. record {
      numbers = is.numbers ∙ sym has.numbers;
      communities = is.communities ∙ sym has.communities;
      clusters = is.clusters ∙ sym has.clusters;
    }) cands all
