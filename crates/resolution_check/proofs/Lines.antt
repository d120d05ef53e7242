-- Lists of words and lines: an entry is read back from its text, and from no other.
use Rattle.std.proofs.Common.{◌≡◌, ◌⊎◌, inl, inr, refl, sym, ◌∙◌, ap, ap₂, subst, ℕ, ◌+◌, ◌<◌, ◌≤◌, get_or, nat_lt}
use Rattle.std.proofs.Common.{Bool, true, false, cond, List, [], ◌∷◌, ◌++◌, map, Option, Some, None, Result, Ok, Err}
use Rattle.std.proofs.Common.{IfOk, arith, codes}
use Rattle.std.specs.Bool.{nat_le}
use Rattle.std.specs.Option.{option_map, option_and_then}
use Rattle.std.specs.List.{list_all, AllByRecursion, join_with_byte}
use Rattle.std.specs.Fmt.{decimal}
use Rattle.std.specs.Cmp.Lexicographic.{bytes_decides}
use Rattle.std.proofs.lemmas.Bool.{and_parts, and_from, false_from_ne_true, leb-true, lt-ltb}
use Rattle.std.proofs.lemmas.Fmt.{first_decimal, digits_decimal}
use Rattle.std.proofs.lemmas.List.Splits.{join_with_byte-slice_split}
use Rattle.mw_text.specs.Digits.{is_digit}
use Rattle.mw_text.specs.Text.{same_text}
use Rattle.resolution_check.specs.declared.log.Lit.{Lit}
use Rattle.resolution_check.specs.declared.log.Clause.{Clause}
use Rattle.resolution_check.specs.declared.log.Entry.{Entry}
use Rattle.resolution_check.specs.declared.log.Entry.TheVariants.{Input, Add, Delete, End}
use Rattle.resolution_check.specs.declared.log.LineRefused.{LineRefused}
use Rattle.resolution_check.specs.declared.log.LineRefused.TheVariants.{Memory}
use Rattle.resolution_check.specs.Text.{lit_text, zero_text, entry_words, text_of, IsNumber, IsSmall, HasText}
use Rattle.resolution_check.specs.Words.{words_in, number_in, lit_in, list_in, finished, input_in, addition_in}
use Rattle.resolution_check.specs.Words.{entry_with, entry_in, ReadsAs}
use Rattle.resolution_check.proofs.Texts.{IsPlain, words_in-join, number_in-Some, number_in-decimal, lit_in-text}
use Rattle.resolution_check.proofs.Texts.{lit_in-Some, own}

-- ---- lists that a word `0` ends

module _ {A : Type 0} (read : List ℕ → Option A) (write : A → List ℕ) (P : A → Type 0) where
  abbrev Found : Type 0
  Found = List A × List (List ℕ)

  list_in-text : ((x : A) → P x → read (write x) ≡ Some x) → ((x : A) → P x → same_text (write x) zero_text ≡ false)
      → (xs : List A) (rest : List (List ℕ)) → AllByRecursion P xs
      → list_in read (map write xs ++ zero_text ∷ rest) ≡ Some (xs, rest)
  list_in-text back apart [] rest h = refl
  list_in-text back apart (x ∷ xs) rest h =
      let more : list_in read (map write xs ++ zero_text ∷ rest) ≡ Some (xs, rest) =
      list_in-text back apart xs rest h.1 in
      rw (apart x h.0, back x h.0, more) refl

  -- what follows a word
  after_word : (x : A) (words : List (List ℕ)) (xs : List A) (rest : List (List ℕ))
      (o : Option (List A × List (List ℕ)))
      → ((ys : List A) (r : List (List ℕ)) → o ≡ Some (ys, r) → (words ≡ map write ys ++ zero_text ∷ r)
      × AllByRecursion P ys)
      → P x → option_map {U = Found} (λ found. (x ∷ found.0, found.1)) o ≡ Some (xs, rest)
      → (write x ∷ words ≡ map write xs ++ zero_text ∷ rest) × AllByRecursion P xs
  after_word x words xs rest None later p h = absurd (cc)
  after_word x words xs rest (Some found) later p h =
      let inside = later found.0 found.1 refl in
      let now : Found = (x ∷ found.0, found.1) in
      let all : Found = (xs, rest) in
      let both : now ≡ all = cc in
      let first : x ∷ found.0 ≡ xs = ap (λ (q : Found). q.0) both in
      let second : found.1 ≡ rest = ap (λ (q : Found). q.1) both in (
        ap (λ ws. write x ∷ ws) inside.0 ∙ ap₂ (λ ys r. map write ys ++ zero_text ∷ r) first second,
        subst (AllByRecursion P) first (p, inside.1),
      )

  at_word : ((w : List ℕ) (x : A) → read w ≡ Some x → (w ≡ write x) × P x)
      → (word : List ℕ) (words : List (List ℕ)) (xs : List A) (rest : List (List ℕ))
      → ((ys : List A) (r : List (List ℕ)) → list_in read words ≡ Some (ys, r)
      → (words ≡ map write ys ++ zero_text ∷ r) × AllByRecursion P ys)
      → (o : Option A) → read word ≡ o
      → option_and_then {U = Found}
      (λ x. option_map {U = Found} (λ found. (x ∷ found.0, found.1)) (list_in read words)) o ≡ Some (xs, rest)
      → (word ∷ words ≡ map write xs ++ zero_text ∷ rest) × AllByRecursion P xs
  at_word sound word words xs rest later None e h = absurd (cc)
  at_word sound word words xs rest later (Some x) e h =
      let here = sound word x e in
      let all = after_word x words xs rest (list_in read words) later here.1 h in
      (ap (λ w. w ∷ words) here.0 ∙ all.0, all.1)

  at_zero : ((w : List ℕ) (x : A) → read w ≡ Some x → (w ≡ write x) × P x)
      → (word : List ℕ) (words : List (List ℕ)) (xs : List A) (rest : List (List ℕ))
      → ((ys : List A) (r : List (List ℕ)) → list_in read words ≡ Some (ys, r)
      → (words ≡ map write ys ++ zero_text ∷ r) × AllByRecursion P ys)
      → (b : Bool) → same_text word zero_text ≡ b
      → cond {A = Option Found} b (Some ([], words))
      (option_and_then {U = Found}
      (λ x. option_map {U = Found} (λ found. (x ∷ found.0, found.1)) (list_in read words)) (read word))
      ≡ Some (xs, rest)
      → (word ∷ words ≡ map write xs ++ zero_text ∷ rest) × AllByRecursion P xs
  at_zero sound word words xs rest later true e h =
      let nothing : Found = ([], words) in
      let all : Found = (xs, rest) in
      let both : nothing ≡ all = cc in
      let none : [] ≡ xs = ap (λ (q : Found). q.0) both in
      let left : words ≡ rest = ap (λ (q : Found). q.1) both in (
        ap₂ (λ w ws. w ∷ ws) ((bytes_decides word zero_text).0 e) left
            ∙ ap (λ ys. map write ys ++ zero_text ∷ rest) none,
        subst (AllByRecursion P) none tt,
      )
  at_zero sound word words xs rest later false e h = at_word sound word words xs rest later (read word) refl h

  list_in-Some : ((w : List ℕ) (x : A) → read w ≡ Some x → (w ≡ write x) × P x)
      → (words : List (List ℕ)) (xs : List A) (rest : List (List ℕ)) → list_in read words ≡ Some (xs, rest)
      → (words ≡ map write xs ++ zero_text ∷ rest) × AllByRecursion P xs
  list_in-Some sound [] xs rest h = absurd (cc)
  list_in-Some sound (word ∷ words) xs rest h =
      at_zero sound word words xs rest (λ ys r. list_in-Some sound words ys r) (same_text word zero_text) refl h

-- ---- numbers and literals are not `0`

number_apart : (n : ℕ) → IsNumber n → same_text (decimal n) zero_text ≡ false
number_apart n h = false_from_ne_true (same_text (decimal n) zero_text) (λ e.
    let first : 48 < get_or (decimal n) 0 0 = first_decimal n h.0 (omega arith) in
    let same : get_or (decimal n) 0 0 ≡ 48 = ap (λ w. get_or w 0 0) ((bytes_decides (decimal n) zero_text).0 e) in
    absurd (omega arith))

lit_apart : (l : Lit) → IsSmall l → same_text (lit_text l) zero_text ≡ false
lit_apart l h = by_sign l.negated
  where
    by_sign : (b : Bool) → same_text (cond b (45 ∷ decimal (l.var + 1)) (decimal (l.var + 1))) zero_text ≡ false
    by_sign true = refl
    by_sign false = number_apart (l.var + 1) (omega arith, omega arith)

lits_in-text : (c : List Lit) (rest : List (List ℕ)) → AllByRecursion IsSmall c
    → list_in lit_in (map lit_text c ++ zero_text ∷ rest) ≡ Some (c, rest)
lits_in-text c rest h = list_in-text lit_in lit_text IsSmall lit_in-text lit_apart c rest h

numbers_in-text : (ns : List ℕ) (rest : List (List ℕ)) → AllByRecursion IsNumber ns
    → list_in number_in (map decimal ns ++ zero_text ∷ rest) ≡ Some (ns, rest)
numbers_in-text ns rest h = list_in-text number_in decimal IsNumber number_in-decimal number_apart ns rest h

-- ---- an entry is read back from its words

entry_in-words : (e : Entry) → HasText e → entry_in (entry_words e) ≡ Some e
entry_in-words (Input id clause) h = rw (number_in-decimal id h.0, lits_in-text clause.lits [] h.1) refl
entry_in-words (Add id clause chain) h =
    rw (
      number_in-decimal id h.0,
      lits_in-text clause.lits (map decimal chain ++ zero_text ∷ []) h.1,
      numbers_in-text chain [] h.2,
    ) refl
entry_in-words (Delete id) h = rw (number_in-decimal id h) refl
entry_in-words End h = refl

-- ---- nothing else reads as an entry

nothing_left : {A : Type 0} (words : List (List ℕ)) (x y : A) → finished words x ≡ Some y → (words ≡ []) × (x ≡ y)
nothing_left [] x y h = (refl, cc)
nothing_left (word ∷ words) x y h = absurd (cc)

same_words : (kind number word : List ℕ) (id : ℕ) (words rest : List (List ℕ)) → kind ≡ word → number ≡ decimal id
    → words ≡ rest → kind ∷ number ∷ words ≡ word ∷ decimal id ∷ rest
same_words kind number word id words rest p q r = λ i. p i ∷ q i ∷ r i

IsRead : List (List ℕ) → Entry → Type 0
IsRead words e = (words ≡ entry_words e) × HasText e

input_from : (kind number : List ℕ) (id : ℕ) (words : List (List ℕ)) (e : Entry) → kind ≡ codes "i"
    → number ≡ decimal id → IsNumber id → (o : Option (List Lit × List (List ℕ))) → list_in lit_in words ≡ o
    → option_and_then (λ lits. finished lits.1 (Input id (record { lits = lits.0 }))) o
    ≡ Some e → IsRead (kind ∷ number ∷ words) e
unfolding IsRead
input_from kind number id words e k n h None r f = absurd (cc)
input_from kind number id words e k n h (Some lits) r f =
    let clause : Clause = record { lits = lits.0 } in
    let read = list_in-Some lit_in lit_text IsSmall lit_in-Some words lits.0 lits.1 r in
    let end = nothing_left lits.1 (Input id clause) e f in
    subst (λ d. (kind ∷ number ∷ words ≡ entry_words d) × HasText d) end.1 (
      same_words kind number (codes "i") id words (map lit_text lits.0 ++ zero_text ∷ []) k n (read.0
          ∙ ap (λ rest. map lit_text lits.0 ++ zero_text ∷ rest) end.0),
      (h, read.1),
    )

chain_from : (kind number : List ℕ) (id : ℕ) (words : List (List ℕ)) (e : Entry) → kind ≡ codes "a"
    → number ≡ decimal id → IsNumber id → (lits : List Lit) (left : List (List ℕ))
    → (words ≡ map lit_text lits ++ zero_text ∷ left) × AllByRecursion IsSmall lits
    → (o : Option (List ℕ × List (List ℕ))) → list_in number_in left ≡ o
    → option_and_then (λ ids. finished ids.1 (Add id (record { lits = lits }) ids.0)) o
    ≡ Some e → IsRead (kind ∷ number ∷ words) e
unfolding IsRead
chain_from kind number id words e k n h lits left p None r f = absurd (cc)
chain_from kind number id words e k n h lits left p (Some ids) r f =
    let clause : Clause = record { lits = lits } in
    let read = list_in-Some number_in decimal IsNumber number_in-Some left ids.0 ids.1 r in
    let end = nothing_left ids.1 (Add id clause ids.0) e f in
    subst (λ d. (kind ∷ number ∷ words ≡ entry_words d) × HasText d) end.1 (
      same_words kind number (codes "a") id words
          (map lit_text lits ++ zero_text ∷ (map decimal ids.0 ++ zero_text ∷ [])) k n
          (p.0 ∙ ap (λ rest. map lit_text lits ++ zero_text ∷ rest) (read.0
          ∙ ap (λ rest. map decimal ids.0 ++ zero_text ∷ rest) end.0)),
      (h, p.1, read.1),
    )

addition_from : (kind number : List ℕ) (id : ℕ) (words : List (List ℕ)) (e : Entry) → kind ≡ codes "a"
    → number ≡ decimal id → IsNumber id → (o : Option (List Lit × List (List ℕ))) → list_in lit_in words ≡ o
    → option_and_then (λ lits. option_and_then (λ ids. finished ids.1 (Add id (record { lits = lits.0 }) ids.0))
    (list_in number_in lits.1)) o ≡ Some e → IsRead (kind ∷ number ∷ words) e
addition_from kind number id words e k n h None r f = absurd (cc)
addition_from kind number id words e k n h (Some lits) r f =
    chain_from kind number id words e k n h lits.0 lits.1
    (list_in-Some lit_in lit_text IsSmall lit_in-Some words lits.0 lits.1 r) (list_in number_in lits.1) refl f

delete_from : (kind number : List ℕ) (id : ℕ) (words : List (List ℕ)) (e : Entry) → kind ≡ codes "d"
    → number ≡ decimal id → IsNumber id → finished words (Delete id) ≡ Some e → IsRead (kind ∷ number ∷ words) e
unfolding IsRead
delete_from kind number id words e k n h f =
    let end = nothing_left words (Delete id) e f in
    subst (λ d. (kind ∷ number ∷ words ≡ entry_words d) × HasText d) end.1
    (same_words kind number (codes "d") id words [] k n end.0, h)

by_kind : (kind number : List ℕ) (id : ℕ) (words : List (List ℕ)) (e : Entry) → number ≡ decimal id → IsNumber id
    → (i a d : Bool) → same_text kind (codes "i") ≡ i → same_text kind (codes "a") ≡ a → same_text kind (codes "d") ≡ d
    → cond i (input_in id words) (cond a (addition_in id words) (cond d (finished words (Delete id)) None))
    ≡ Some e → IsRead (kind ∷ number ∷ words) e
by_kind kind number id words e n h true a d p q r f =
    input_from kind number id words e ((bytes_decides kind (codes "i")).0 p) n h (list_in lit_in words) refl f
by_kind kind number id words e n h false true d p q r f =
    addition_from kind number id words e ((bytes_decides kind (codes "a")).0 q) n h (list_in lit_in words) refl f
by_kind kind number id words e n h false false true p q r f =
    delete_from kind number id words e ((bytes_decides kind (codes "d")).0 r) n h f
by_kind kind number id words e n h false false false p q r f = absurd (cc)

by_number : (kind number : List ℕ) (words : List (List ℕ)) (e : Entry) → (o : Option ℕ) → number_in number ≡ o
    → option_and_then (λ id. entry_with kind id words) o ≡ Some e → IsRead (kind ∷ number ∷ words) e
by_number kind number words e None r f = absurd (cc)
by_number kind number words e (Some id) r f =
    let read = number_in-Some number id r in
    by_kind kind number id words e read.0 read.1 (same_text kind (codes "i")) (same_text kind (codes "a"))
    (same_text kind (codes "d")) refl refl refl f

at_end : (kind : List ℕ) (e : Entry) → (b : Bool) → same_text kind (codes "e") ≡ b → cond b (Some End) None ≡ Some e
    → IsRead (kind ∷ []) e
unfolding IsRead
at_end kind e true p f =
    let same : End ≡ e =
    cc in subst (λ d. (kind ∷ [] ≡ entry_words d) × HasText d) same
    (ap (λ w. w ∷ []) ((bytes_decides kind (codes "e")).0 p), tt)
at_end kind e false p f = absurd (cc)

entry_in-Some : (words : List (List ℕ)) (e : Entry) → entry_in words ≡ Some e → IsRead words e
entry_in-Some [] e h = absurd (cc)
entry_in-Some (kind ∷ []) e h = at_end kind e (same_text kind (codes "e")) refl h
entry_in-Some (kind ∷ number ∷ words) e h = by_number kind number words e (number_in number) refl h

-- ---- lines

digits_plain : (word : List ℕ) → list_all is_digit word ≡ true → IsPlain word
digits_plain [] h = refl
digits_plain (b ∷ word) h =
    let both = and_parts (is_digit b) (list_all is_digit word) h in
    let low = and_parts (nat_le 48 b) (nat_le b 57) both.0 in
    let above : 48 ≤ b = leb-true 48 b low.0 in
    and_from (nat_lt 32 b) (list_all (nat_lt 32) word) (lt-ltb 32 b (omega arith)) (digits_plain word both.1)

number_plain : (n : ℕ) → IsNumber n → IsPlain (decimal n)
number_plain n h = digits_plain (decimal n) (digits_decimal own n (omega arith))

lit_plain : (l : Lit) → IsSmall l → IsPlain (lit_text l)
lit_plain l h = by_sign l.negated
  where
    whole : IsPlain (decimal (l.var + 1))
    whole = number_plain (l.var + 1) (omega arith, omega arith)

    by_sign : (b : Bool) → IsPlain (cond b (45 ∷ decimal (l.var + 1)) (decimal (l.var + 1)))
    by_sign true = whole
    by_sign false = whole

all_plain : {A : Type 0} (write : A → List ℕ) (P : A → Type 0) → ((x : A) → P x → IsPlain (write x))
    → (xs : List A) (rest : List (List ℕ)) → AllByRecursion P xs → AllByRecursion IsPlain rest
    → AllByRecursion IsPlain (map write xs ++ zero_text ∷ rest)
all_plain write P each [] rest h k = (refl, k)
all_plain write P each (x ∷ xs) rest h k = (each x h.0, all_plain write P each xs rest h.1 k)

-- the words of an entry have no space and no line feed
pub words_plain : (e : Entry) → HasText e → AllByRecursion IsPlain (entry_words e)
words_plain (Input id clause) h =
    (refl, (number_plain id h.0, all_plain lit_text IsSmall lit_plain clause.lits [] h.1 tt))
words_plain (Add id clause chain) h =
    let numbers = all_plain decimal IsNumber number_plain chain [] h.2 tt in (
      refl,
      (
        number_plain id h.0,
        all_plain lit_text IsSmall lit_plain clause.lits (map decimal chain ++ zero_text ∷ []) h.1 numbers,
      ),
    )
words_plain (Delete id) h = (refl, (number_plain id h, tt))
words_plain End h = (refl, tt)

words_in-text : (e : Entry) → HasText e → words_in (text_of e) ≡ entry_words e
words_in-text (Input id clause) h = words_in-join (codes "i") _ (words_plain (Input id clause) h)
words_in-text (Add id clause chain) h = words_in-join (codes "a") _ (words_plain (Add id clause chain) h)
words_in-text (Delete id) h = words_in-join (codes "d") (decimal id ∷ []) (words_plain (Delete id) h)
words_in-text End h = words_in-join (codes "e") [] (words_plain End h)

-- a line that reads as an entry is its text
pub line_from_entry : (line : List ℕ) (e : Entry) → entry_in (words_in line) ≡ Some e → (line ≡ text_of e) × HasText e
unfolding IsRead
line_from_entry line e h =
    let read = entry_in-Some (words_in line) e h in
    (sym (join_with_byte-slice_split 32 line) ∙ ap (join_with_byte 32) read.0, read.1)

-- the text of an entry reads as that entry
pub entry_from_line : (line : List ℕ) (e : Entry) → HasText e → line ≡ text_of e → entry_in (words_in line) ≡ Some e
entry_from_line line e h same =
    ap (λ l. entry_in (words_in l)) same ∙ ap entry_in (words_in-text e h) ∙ entry_in-words e h

-- ---- what reading answers

-- an entry that is read is the one whose text the line is
pub found_text : (line : List ℕ) (answer : Result Entry LineRefused)
    → ReadsAs (λ e. e) answer (entry_in (words_in line)) → IfOk answer (λ e. (line ≡ text_of e) × HasText e)
found_text line (Ok e) h = line_from_entry line e h
found_text line (Err refusal) h = tt

-- an entry's text is read as that entry, or memory is refused
pub read_exactly : (line : List ℕ) (answer : Result Entry LineRefused)
    → ReadsAs (λ e. e) answer (entry_in (words_in line)) → (e : Entry) → HasText e → line ≡ text_of e
    → (answer ≡ Ok e) ⊎ (answer ≡ Err Memory)
read_exactly line (Ok d) h e has same =
    let one : d ≡ e = some_one d e (sym h ∙ entry_from_line line e has same) in inl (ap (λ x. Ok x) one)
  where
    some_one : (x y : Entry) → Some x ≡ Some y → x ≡ y
    some_one x y k = cc
read_exactly line (Err refusal) (inl memory) e has same = inr (ap (λ x. Err x) memory)
read_exactly line (Err refusal) (inr bad) e has same =
    let none : None ≡ Some e = sym bad.1 ∙ entry_from_line line e has same in absurd (cc)

-- no two entries have one text
pub same_entry : (d e : Entry) → HasText d → HasText e → text_of d ≡ text_of e → d ≡ e
same_entry d e h k same =
    let one : Some d ≡ Some e = sym (entry_from_line (text_of d) d h refl) ∙ entry_from_line (text_of d) e k same in cc
