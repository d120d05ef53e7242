-- What a channel states after each of its changes.
use Rattle.std.proofs.Common.{◌≡◌, ◌∙◌, ◌≢◌, ◌⊎◌, ℕ, zero, suc, ◌+◌, ◌<◌, ◌≤◌, ◌==◌, ◌&&◌, Bool, true, false, List, []}
use Rattle.std.proofs.Common.{◌∷◌, length, Option, Some, None, refl, ap, sym, subst, arith, inl, inr, replicate}
use Rattle.std.proofs.Common.{add-zero, zero-add, append-nil, get_or}
use Rattle.std.specs.Prelude.{fold, slice_get, slice_set, option_and_then, option_map, if◌then◌else◌}
use Rattle.std.specs.Option.{option_to_list}
use Rattle.std.proofs.Math.Dec.{eqb}
use Rattle.std.proofs.Math.ListN.{length-set}
use Rattle.std.proofs.lemmas.Bool.{eq-eqb}
use Rattle.std.proofs.lemmas.Bool.Decides.{eqb_tells}
use Rattle.std.proofs.lemmas.List.Sums.{fold-append}
use Rattle.std.proofs.lemmas.Option.{slice_get-get_or}
use Rattle.mw_text.proofs.Found.{mapped}
use Rattle.route_record.specs.declared.TheConstants.{LENGTHS}
use Rattle.machine_laws.specs.declared.state.Channel.{Channel}
use Rattle.machine_laws.specs.declared.state.Mail.{Mail}
use Rattle.machine_laws.specs.Channels.{said, last_received, stated, silent, received_one, posted, one, greetings, fresh}
use Rattle.machine_laws.specs.Channels.{renewed, each_at, batch, published, all_renewed, IsRight, AreRight}

-- ---- an item of a list is written

pub written_there : {A : Type 0} (xs : List A) (i : ℕ) (x y : A) → slice_get xs i ≡ Some x →
    slice_get (slice_set xs i y) i ≡ Some y
written_there [] i x y is = cc
written_there (z ∷ xs) zero x y is = refl
written_there (z ∷ xs) (suc i) x y is = written_there xs i x y is

pub written_elsewhere : {A : Type 0} (xs : List A) (i k : ℕ) (y : A) → i ≢ k →
    slice_get (slice_set xs i y) k ≡ slice_get xs k
written_elsewhere [] i k y ne = refl
written_elsewhere (x ∷ xs) zero zero y ne = absurd (ne refl)
written_elsewhere (x ∷ xs) zero (suc k) y ne = refl
written_elsewhere (x ∷ xs) (suc i) zero y ne = refl
written_elsewhere (x ∷ xs) (suc i) (suc k) y ne = written_elsewhere xs i k y (λ e. ne (ap (λ n. suc n) e))

-- ---- what a channel states

at_set_by : {M : Type 0} (rs : List (Option M)) (i len : ℕ) (x : Option M) → len < length rs →
    ((eqb i len ≡ true) × (i ≡ len)) ⊎ ((eqb i len ≡ false) × (i ≢ len)) →
    option_and_then (λ m. m) (slice_get (slice_set rs i x) len)
    ≡ (if i == len then x else option_and_then (λ m. m) (slice_get rs len))
at_set_by rs i len x h (inl same) =
    rw same.0 (rw (written_there rs len (get_or rs len x) x (slice_get-get_or rs len x h)) at (ap (λ k. option_and_then (λ m. m) (slice_get (slice_set rs k x) len)) same.1))
at_set_by rs i len x h (inr apart) = rw apart.0 (ap (option_and_then (λ m. m)) (written_elsewhere rs i len x apart.1))

at_set : {M : Type 0} (rs : List (Option M)) (i len : ℕ) (x : Option M) → len < length rs →
    option_and_then (λ m. m) (slice_get (slice_set rs i x) len)
    ≡ (if i == len then x else option_and_then (λ m. m) (slice_get rs len))
at_set rs i len x h = at_set_by rs i len x h (eqb_tells i len)

-- a delivery changes nothing of what is stated
stated_received : {M : Type 0} (c : Channel M) (m : Mail M) (rest : List (Mail M)) (len : ℕ) → c.mail ≡ m ∷ rest →
    len < length c.received → stated (received_one c m rest) len ≡ stated c len
unfolding stated
stated_received c m rest len is h = rw is (ap (λ o. fold (said len) o rest) (at_set c.received m.len len m.what h))

stated_posted : {M : Type 0} (c : Channel M) (more : List (Mail M)) (len : ℕ) →
    stated (posted more c) len ≡ fold (said len) (stated c len) more
unfolding stated
stated_posted c more len = fold-append (said len) (last_received c len) c.mail more

stated_one : {M : Type 0} (c : Channel M) (len : ℕ) (what : Option M) → stated (posted (one len what) c) len ≡ what
stated_one c len what = stated_posted c (one len what) len ∙ rw (eq-eqb len len refl) refl

stated_other : {M : Type 0} (c : Channel M) (len l : ℕ) (what : Option M) → eqb len l ≡ false →
    stated (posted (one len what) c) l ≡ stated c l
stated_other c len l what ne = stated_posted c (one len what) l ∙ rw ne refl

pub posted_none : {M : Type 0} (c : Channel M) → posted [] c ≡ c
posted_none {M = M} c = ap (λ (mail : List (Mail M)). let made : Channel M = record { received = c.received; mail = mail } in made) (append-nil c.mail)

-- ---- greetings

heads : {M : Type 0} → ℕ → Option M → List (Mail M)
heads from o = option_to_list (option_map (λ m. record { len = from; what = Some m }) o)

head_yes : {M : Type 0} (from len : ℕ) (o : Option M) → eqb from len ≡ true → fold (said len) None (heads from o) ≡ o
unfolding heads
head_yes from len None e = refl
head_yes from len (Some m) e = rw e refl

head_no : {M : Type 0} (from len : ℕ) (o last : Option M) → eqb from len ≡ false → fold (said len) last (heads from o) ≡ last
unfolding heads
head_no from len None last e = refl
head_no from len (Some m) last e = rw e refl

greet_more : {M : Type 0} (n from len : ℕ) (ex : ℕ → Option M) (last : Option M) →
    fold (said len) last (greetings (suc n) from ex)
    ≡ fold (said len) (fold (said len) last (heads from (ex from))) (greetings n (from + 1) ex)
unfolding greetings heads
greet_more n from len ex last = fold-append (said len) last (heads from (ex from)) (greetings n (from + 1) ex)

not_equal : (a b : ℕ) → a ≢ b → eqb a b ≡ false
not_equal a b ne = elim (eqb_tells a b) [ inl same ↦ absurd (ne same.1) | inr apart ↦ apart.0 ]

greet_below : {M : Type 0} (n from len : ℕ) (ex : ℕ → Option M) (last : Option M) → len < from →
    fold (said len) last (greetings n from ex) ≡ last
unfolding greetings
greet_below zero from len ex last h = refl
greet_below (suc n) from len ex last h =
    greet_more n from len ex last
    ∙ (greet_below n (from + 1) len ex _ (omega arith) ∙ head_no from len (ex from) last (not_equal from len (λ e. omega arith)))

greet_step : {M : Type 0} (n from len : ℕ) (ex : ℕ → Option M) → from ≤ len → len < from + suc n →
    ((from + 1 ≤ len) → fold (said len) None (greetings n (from + 1) ex) ≡ ex len) →
    ((eqb from len ≡ true) × (from ≡ len)) ⊎ ((eqb from len ≡ false) × (from ≢ len)) →
    fold (said len) None (greetings (suc n) from ex) ≡ ex len
greet_step n from len ex low high more (inl same) =
    greet_more n from len ex None
    ∙ (greet_below n (from + 1) len ex _ (omega arith) ∙ (head_yes from len (ex from) same.0 ∙ ap ex same.1))
greet_step n from len ex low high more (inr apart) =
    greet_more n from len ex None
    ∙ (ap (λ o. fold (said len) o (greetings n (from + 1) ex)) (head_no from len (ex from) None apart.0)
    ∙ more (omega (arith, apart.1)))

greet_in : {M : Type 0} (n from len : ℕ) (ex : ℕ → Option M) → from ≤ len → len < from + n →
    fold (said len) None (greetings n from ex) ≡ ex len
greet_in zero from len ex low high = absurd (omega arith)
greet_in (suc n) from len ex low high =
    greet_step n from len ex low high (λ h. greet_in n (from + 1) len ex h (omega arith)) (eqb_tells from len)

none_received : {M : Type 0} (n len : ℕ) → option_and_then (λ m. m) (slice_get (replicate {A = Option M} n None) len) ≡ None
none_received zero len = refl
none_received (suc n) zero = refl
none_received (suc n) (suc len) = none_received n len

stated_fresh : {M : Type 0} (ex : ℕ → Option M) (len : ℕ) → len < LENGTHS → stated (fresh ex) len ≡ ex len
unfolding stated
stated_fresh ex len h =
    ap (λ o. fold (said len) o (greetings LENGTHS 0 ex)) (none_received LENGTHS len) ∙ greet_in LENGTHS 0 len ex (omega arith) (omega arith)

-- ---- a channel that is right stays right

pub right_received : {M : Type 0} (up : Bool) (ex : ℕ → Option M) (c : Channel M) (m : Mail M) (rest : List (Mail M)) →
    IsRight up ex c → c.mail ≡ m ∷ rest → IsRight up ex (received_one c m rest)
right_received {M = M} up ex c m rest r is = record {
  size = length-set c.received m.len m.what ∙ r.size;
  states = λ u len h. stated_received c m rest len is (omega (arith, r.size)) ∙ r.states u len h;
  down = λ d. let none : c.mail ≡ [] = ap (λ (x : Channel M). x.mail) (r.down d) in cc;
}

says_after : {M : Type 0} (ex new : ℕ → Option M) (c : Channel M) (len l : ℕ) → stated c l ≡ ex l →
    (l ≢ len → new l ≡ ex l) →
    ((eqb len l ≡ true) × (len ≡ l)) ⊎ ((eqb len l ≡ false) × (len ≢ l)) →
    stated (posted (one len (new len)) c) l ≡ new l
says_after ex new c len l is kept (inl same) = subst (λ k. stated (posted (one len (new len)) c) k ≡ new k) same.1 (stated_one c len (new len))
says_after ex new c len l is kept (inr apart) =
    stated_other c len l (new len) apart.0 ∙ (is ∙ sym (kept (λ e. apart.1 (sym e))))

says_still : {M : Type 0} (ex new : ℕ → Option M) (len l : ℕ) → l < LENGTHS → (l ≢ len → new l ≡ ex l) → (len < LENGTHS → new len ≡ ex len) →
    ((eqb len l ≡ true) × (len ≡ l)) ⊎ ((eqb len l ≡ false) × (len ≢ l)) → ex l ≡ new l
says_still ex new len l h kept still (inl same) =
    sym (subst (λ k. k < LENGTHS → new k ≡ ex k) same.1 still h)
says_still ex new len l h kept still (inr apart) = sym (kept (λ e. apart.1 (sym e)))

pub right_published : {M : Type 0} (source up : Bool) (ex new : ℕ → Option M) (len : ℕ) (c : Channel M) → IsRight up ex c →
    ((l : ℕ) → l < LENGTHS → l ≢ len → new l ≡ ex l) → (source ≡ false → len < LENGTHS → new len ≡ ex len) →
    IsRight up new (posted (if source && up then one len (new len) else []) c)
right_published true true ex new len c r kept still = record {
  size = r.size;
  states = λ u l h. says_after ex new c len l (r.states u l h) (kept l h) (eqb_tells len l);
  down = λ d. cc;
}
right_published false true ex new len c r kept still = rw posted_none record {
  size = r.size;
  states = λ u l h. r.states u l h ∙ says_still ex new len l h (kept l h) (still refl) (eqb_tells len l);
  down = λ d. cc;
}
right_published true false ex new len c r kept still = rw posted_none record {
  size = r.size;
  states = λ u. cc;
  down = r.down;
}
right_published false false ex new len c r kept still = rw posted_none record {
  size = r.size;
  states = λ u. cc;
  down = r.down;
}

pub right_silent : {M : Type 0} (ex : ℕ → Option M) → IsRight false ex silent
right_silent ex = record { size = refl; states = λ u. cc; down = λ _. refl }

pub right_renewed : {M : Type 0} (was is : Bool) (ex : ℕ → Option M) (c : Channel M) → IsRight was ex c →
    IsRight is ex (renewed was is ex c)
right_renewed true true ex c r = r
right_renewed false true ex c r = record { size = refl; states = λ u len h. stated_fresh ex len h; down = λ d. cc }
right_renewed true false ex c r = right_silent ex
right_renewed false false ex c r = right_silent ex

-- ---- all channels

length_each : {A B : Type 0} (f : ℕ → A → B) (n : ℕ) (xs : List A) → length (each_at f n xs) ≡ length xs
length_each f n [] = refl
length_each f n (x ∷ xs) = ap (λ k. suc k) (length_each f (n + 1) xs)

slice_get_each : {A B : Type 0} (f : ℕ → A → B) (n : ℕ) (xs : List A) (k : ℕ) →
    slice_get (each_at f n xs) k ≡ option_map (f (n + k)) (slice_get xs k)
slice_get_each f n [] k = refl
slice_get_each f n (x ∷ xs) zero = rw add-zero refl
slice_get_each f n (x ∷ xs) (suc k) =
    let e : n + 1 + k ≡ n + suc k = omega arith in
    slice_get_each f (n + 1) xs k ∙ ap (λ i. option_map (f i) (slice_get xs k)) e

each_got : {A B : Type 0} (f : ℕ → A → B) (xs : List A) (k : ℕ) (y : B) → slice_get (each_at f 0 xs) k ≡ Some y →
    (x : A) × (slice_get xs k ≡ Some x) × (f k x ≡ y)
each_got f xs k y e =
    let at : slice_get (each_at f 0 xs) k ≡ option_map (f k) (slice_get xs k) =
    slice_get_each f 0 xs k ∙ ap (λ i. option_map (f i) (slice_get xs k)) (zero-add k) in
    mapped (f k) (slice_get xs k) y (sym at ∙ e)

pub are_published : {M : Type 0} (source up : ℕ → Bool) (ex new : ℕ → ℕ → Option M) (len count : ℕ) (cs : List (Channel M)) →
    AreRight up ex count cs →
    ((at l : ℕ) → l < LENGTHS → l ≢ len → new at l ≡ ex at l) →
    ((at : ℕ) → source at ≡ false → len < LENGTHS → new at len ≡ ex at len) →
    AreRight up new count (published source up new len cs)
are_published {M = M} source up ex new len count cs r kept still = record {
  as_many = length_each (λ at c. posted (batch source up new len at) c) 0 cs ∙ r.as_many;
  each = λ at c is.
      let got = each_got (λ k x. posted (batch source up new len k) x) cs at c is in
      subst (λ (x : Channel M). IsRight (up at) (new at) x) got.2
      (right_published (source at) (up at) (ex at) (new at) len got.0 (r.each at got.0 got.1) (kept at) (still at));
}

pub are_renewed : {M : Type 0} (was is : ℕ → Bool) (ex : ℕ → ℕ → Option M) (count : ℕ) (cs : List (Channel M)) →
    AreRight was ex count cs → AreRight is ex count (all_renewed was is ex cs)
are_renewed {M = M} was is ex count cs r = record {
  as_many = length_each (λ at c. renewed (was at) (is at) (ex at) c) 0 cs ∙ r.as_many;
  each = λ at c e.
      let got = each_got (λ k x. renewed (was k) (is k) (ex k) x) cs at c e in
      subst (λ (x : Channel M). IsRight (is at) (ex at) x) got.2
      (right_renewed (was at) (is at) (ex at) got.0 (r.each at got.0 got.1));
}

set_case : {M : Type 0} (up : ℕ → Bool) (ex : ℕ → ℕ → Option M) (count : ℕ) (cs : List (Channel M)) (at : ℕ)
    (was x : Channel M) → AreRight up ex count cs → IsRight (up at) (ex at) x → slice_get cs at ≡ Some was →
    (k : ℕ) (c : Channel M) →
    slice_get (slice_set cs at x) k ≡ Some c →
    ((eqb at k ≡ true) × (at ≡ k)) ⊎ ((eqb at k ≡ false) × (at ≢ k)) → IsRight (up k) (ex k) c
set_case {M = M} up ex count cs at was x r right there k c e (inl same) =
    let here : slice_get (slice_set cs at x) k ≡ Some x =
    subst (λ j. slice_get (slice_set cs at x) j ≡ Some x) same.1 (written_there cs at was x there) in
    let is : x ≡ c = cc in
    subst (λ j. IsRight (up j) (ex j) c) same.1 (subst (λ (y : Channel M). IsRight (up at) (ex at) y) is right)
set_case up ex count cs at was x r right there k c e (inr apart) =
    r.each k c (sym (written_elsewhere cs at k x apart.1) ∙ e)

pub are_received : {M : Type 0} (up : ℕ → Bool) (ex : ℕ → ℕ → Option M) (count : ℕ) (cs : List (Channel M)) (at : ℕ)
    (c : Channel M) (m : Mail M) (rest : List (Mail M)) → AreRight up ex count cs → slice_get cs at ≡ Some c → c.mail ≡ m ∷ rest →
    AreRight up ex count (slice_set cs at (received_one c m rest))
are_received up ex count cs at c m rest r is front = record {
  as_many = length-set cs at (received_one c m rest) ∙ r.as_many;
  each = λ k x e. set_case up ex count cs at c (received_one c m rest) r
      (right_received (up at) (ex at) c m rest (r.each at c is) front) is k x e (eqb_tells at k);
}

-- where there is no mail, what was last received is what the far side exports
pub heard_now : {M : Type 0} (ex : ℕ → Option M) (c : Channel M) (len : ℕ) → IsRight true ex c → c.mail ≡ [] → len < LENGTHS →
    last_received c len ≡ ex len
unfolding stated
heard_now ex c len r none h = rw none at (r.states refl len h)

-- what is silent is right where nothing is exported
pub right_start : {M : Type 0} (up : Bool) (ex : ℕ → Option M) → ((len : ℕ) → ex len ≡ None) → IsRight up ex silent
unfolding stated
right_start up ex none = record {
  size = refl;
  states = λ u len h. none_received LENGTHS len ∙ sym (none len);
  down = λ d. refl;
}
