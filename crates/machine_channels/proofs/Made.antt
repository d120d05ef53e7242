-- Lists that loops make, one item for each place or length.
use Rattle.std.proofs.Common.{◌≡◌, ◌∙◌, ℕ, zero, suc, ◌+◌, ◌-◌, ◌<◌, ◌≤◌, List, [], ◌∷◌, ◌++◌, length, map, replicate}
use Rattle.std.proofs.Common.{Option, Some, refl, ap, sym, subst, arith, zero-add, append_assoc, append-nil}
use Rattle.std.specs.Prelude.{All, option_map}
use Rattle.std.specs.List.{range_with_len}
use Rattle.std.specs.Option.{option_to_list}
use Rattle.std.proofs.lemmas.List.Elements.{All-push}
use Rattle.std.proofs.lemmas.List.FromFn.{length-map-range_with_len, map-range_with_len_more}
use Rattle.route_record.specs.declared.TheConstants.{LENGTHS}
use Rattle.machine_laws.specs.declared.state.Mail.{Mail}
use Rattle.machine_laws.specs.Channels.{greetings}

pub made_more : {X : Type 0} (P : X → Type 0) (f : ℕ → X) (n : ℕ) (xs ys : List X) (x : X) →
    (xs ≡ map f (range_with_len 0 n)) × All P xs → ys ≡ xs ++ x ∷ [] → x ≡ f n → P x →
    (ys ≡ map f (range_with_len 0 (n + 1))) × All P ys
made_more {X = X} P f n xs ys x made more is p = (
  more ∙ (ap (λ (l : List X). l ++ x ∷ []) made.0 ∙ (ap (λ (y : X). map f (range_with_len 0 n) ++ y ∷ []) is
      ∙ sym (map-range_with_len_more f 0 n n (zero-add n)))),
  subst (All P) (sym more) (All-push P xs x made.1 p),
)

pub made_as_many : {X : Type 0} (f : ℕ → X) (n : ℕ) (xs : List X) → xs ≡ map f (range_with_len 0 n) → length xs ≡ n
made_as_many {X = X} f n xs e = ap (λ (l : List X). length l) e ∙ length-map-range_with_len f 0 n

pub replicate_more : {A : Type 0} (n : ℕ) (x : A) → replicate (n + 1) x ≡ replicate n x ++ x ∷ []
replicate_more zero x = refl
replicate_more (suc n) x =
    let e : suc n + 1 ≡ suc (n + 1) = omega arith in rw e (ap (λ l. x ∷ l) (replicate_more n x))

greetings_next : {M : Type 0} (n len : ℕ) (ex : ℕ → Option M) (mail new : List (Mail M)) (all : List (Mail M)) →
    mail ++ greetings (suc n) len ex ≡ all →
    new ≡ mail ++ option_to_list (option_map (λ m. record { len = len; what = Some m }) (ex len)) →
    new ++ greetings n (len + 1) ex ≡ all
unfolding greetings
greetings_next n len ex mail new all before is =
    rw is (append_assoc mail (option_to_list (option_map (λ m. record { len = len; what = Some m }) (ex len)))
    (greetings n (len + 1) ex) ∙ before)

-- one length more is greeted
pub greeted_more : {M : Type 0} (len : ℕ) (ex : ℕ → Option M) (mail new : List (Mail M)) (all : List (Mail M)) →
    len < LENGTHS → mail ++ greetings (LENGTHS - len) len ex ≡ all →
    new ≡ mail ++ option_to_list (option_map (λ m. record { len = len; what = Some m }) (ex len)) →
    new ++ greetings (LENGTHS - (len + 1)) (len + 1) ex ≡ all
greeted_more len ex mail new all h before is =
    let e : LENGTHS - len ≡ suc (LENGTHS - (len + 1)) = omega arith in
    greetings_next (LENGTHS - (len + 1)) len ex mail new all (rw e at before) is

pub greeted_all : {M : Type 0} (len : ℕ) (ex : ℕ → Option M) (mail : List (Mail M)) → LENGTHS ≤ len →
    mail ++ greetings (LENGTHS - len) len ex ≡ greetings LENGTHS 0 ex → mail ≡ greetings LENGTHS 0 ex
unfolding greetings
greeted_all len ex mail h e =
    let none : LENGTHS - len ≡ 0 = omega arith in sym (append-nil mail) ∙ rw none at e
