-- The compact text of a JSON value is read back as that value.
use Rattle.std.proofs.Common.{◌≡◌, ℕ, zero, suc, ◌^◌, ◌<◌, ◌≤◌, Bool, true, false, List, [], ◌∷◌, ◌++◌, Some}
use Rattle.std.proofs.Common.{option_map, option_and_then, refl, ap, sym, ◌∙◌, arith, IsUtf8}
use Rattle.std.specs.Prelude.{⊤, decimal}
use Rattle.std.specs.Cmp.Lexicographic.{slice_cmp}
use Rattle.std.specs.Ordering.{nat_cmp}
use Rattle.std.specs.declared.cmp.Ordering.TheVariants.{Greater}
use Rattle.std.proofs.lemmas.Fmt.{IsAscii-decimal}
use Rattle.std.proofs.lemmas.List.{append-nil}
use Rattle.std.proofs.lemmas.Str.{IsUtf8-append, IsUtf8-from_ascii, is_utf8-from_IsUtf8}
use Rattle.std.specs.Str.{is_utf8}
use Rattle.json.specs.Json as json
use Rattle.json.specs.Print.{print, quoted}
use Rattle.json.specs.Tree as tree
use Rattle.json.proofs.Printed.Decimals.{IsNumber-decimal}
use Rattle.json.specs.Lex.{tokens}
use Rattle.json.proofs.Printed.Tokens.{tokens-print}
use Rattle.json.proofs.Printed.Trees.{ArePrintable-json_tokens, value-json_tokens}
use Rattle.json.proofs.Printed.Utf8.{IsUtf8-are_ascii, IsUtf8-quoted, are_ascii}
use Rattle.serde_json.specs.Data.{Num, unsigned, negative, float, Data, null, boolean, number, string, array, object}
use Rattle.serde_json.specs.Data.{Items, no_items, item, Members, no_members, member, put}
use Rattle.serde_json.specs.Read.{of_items, of_json, of_members, read}
use Rattle.serde_json.specs.Written.{comma_if, compact_text, items_outline, items_text, members_outline, members_text}
use Rattle.serde_json.specs.Written.{number_text, outline}
use Rattle.serde_json.proofs.Numbers.{number_of-decimal}
use Rattle.serde_json.proofs.Texts.{print-outline}

-- ---- members, each behind those before it

abbrev pub joined : Members → Members → Members
joined no_members more = more
joined (member k d rest) more = member k d (joined rest more)

-- a name behind all of these
abbrev pub IsPast : List ℕ → Members → Type 0
IsPast name no_members = ⊤
IsPast name (member k d rest) = (slice_cmp nat_cmp name k ≡ Greater) × IsPast name rest

-- members in the order of their names, behind those found
abbrev pub Follow : Members → Members → Type 0
Follow found no_members = ⊤
Follow found (member k d rest) = IsPast k found × Follow (joined found (member k d no_members)) rest

-- a name behind all goes last
pub put_past : (name : List ℕ) (d : Data) (ms : Members) → IsPast name ms →
    put name d ms ≡ joined ms (member name d no_members)
put_past name d no_members past = refl
put_past name d (member k e rest) past = rw past.0 (ap (member k e) (put_past name d rest past.1))

pub joined_one : (found : Members) (k : List ℕ) (d : Data) (rest : Members) →
    joined (joined found (member k d no_members)) rest ≡ joined found (member k d rest)
joined_one no_members k d rest = refl
joined_one (member l e found) k d rest = ap (member l e) (joined_one found k d rest)

pub joined_none : (found : Members) → joined found no_members ≡ found
joined_none no_members = refl
joined_none (member k d rest) = ap (member k d) (joined_none rest)

-- ---- values that have a text

-- an unsigned number of 64 bits
abbrev pub IsSmall : Num → Type 0
IsSmall (unsigned n) = n < 2 ^ 64
IsSmall (negative z) = ⊥
IsSmall (float x) = ⊥

-- numbers are small, texts are UTF-8, names are in order, and lists and objects nest at most so deep
abbrev mutual
  pub Fits : Data → ℕ → Type 0
  Fits null n = ⊤
  Fits (boolean b) n = ⊤
  Fits (number x) n = IsSmall x
  Fits (string s) n = IsUtf8 s
  Fits (array ds) zero = ⊥
  Fits (array ds) (suc n) = ItemsFit ds n
  Fits (object ms) zero = ⊥
  Fits (object ms) (suc n) = Follow no_members ms × MembersFit ms n

  pub ItemsFit : Items → ℕ → Type 0
  ItemsFit no_items n = ⊤
  ItemsFit (item d ds) n = Fits d n × ItemsFit ds n

  pub MembersFit : Members → ℕ → Type 0
  MembersFit no_members n = ⊤
  MembersFit (member k d ms) n = IsUtf8 k × Fits d n × MembersFit ms n

-- ---- what is written is that value

number_has : (x : Num) → IsSmall x → tree.HasNumbers (outline (number x))
number_has (unsigned n) small = IsNumber-decimal n small
number_has (negative z) small = absurd small
number_has (float x) small = absurd small

mutual
  has_numbers : (d : Data) (n : ℕ) → Fits d n → tree.HasNumbers (outline d)
  has_numbers null n fits = tt
  has_numbers (boolean b) n fits = tt
  has_numbers (number x) n fits = number_has x fits
  has_numbers (string s) n fits = tt
  has_numbers (array ds) zero fits = absurd fits
  has_numbers (array ds) (suc n) fits = items_have ds n fits
  has_numbers (object ms) zero fits = absurd fits
  has_numbers (object ms) (suc n) fits = members_have ms n fits.1

  items_have : (ds : Items) (n : ℕ) → ItemsFit ds n → tree.ItemsHaveNumbers (items_outline ds)
  items_have no_items n fits = tt
  items_have (item d ds) n fits = (has_numbers d n fits.0, items_have ds n fits.1)

  members_have : (ms : Members) (n : ℕ) → MembersFit ms n → tree.MembersHaveNumbers (members_outline ms)
  members_have no_members n fits = tt
  members_have (member k d ms) n fits = (has_numbers d n fits.1, members_have ms n fits.2)

mutual
  shallow : (d : Data) (n : ℕ) → Fits d n → tree.depth (outline d) ≤ n
  shallow null n fits = omega arith
  shallow (boolean b) n fits = omega arith
  shallow (number x) n fits = omega arith
  shallow (string s) n fits = omega arith
  shallow (array ds) zero fits = absurd fits
  shallow (array ds) (suc n) fits = omega (arith, items_shallow ds n fits)
  shallow (object ms) zero fits = absurd fits
  shallow (object ms) (suc n) fits = omega (arith, members_shallow ms n fits.1)

  items_shallow : (ds : Items) (n : ℕ) → ItemsFit ds n → tree.items_depth (items_outline ds) ≤ n
  items_shallow no_items n fits = omega arith
  items_shallow (item d ds) n fits = omega (arith, shallow d n fits.0, items_shallow ds n fits.1)

  members_shallow : (ms : Members) (n : ℕ) → MembersFit ms n → tree.members_depth (members_outline ms) ≤ n
  members_shallow no_members n fits = omega arith
  members_shallow (member k d ms) n fits = omega (arith, shallow d n fits.1, members_shallow ms n fits.2)

number_same : (x : Num) → IsSmall x → of_json (outline (number x)) ≡ Some (number x)
number_same (unsigned n) small = ap (option_map number) (number_of-decimal n small)
number_same (negative z) small = absurd small
number_same (float x) small = absurd small

mutual
  same_value : (d : Data) (n : ℕ) → Fits d n → of_json (outline d) ≡ Some d
  same_value null n fits = refl
  same_value (boolean b) n fits = refl
  same_value (number x) n fits = number_same x fits
  same_value (string s) n fits = refl
  same_value (array ds) zero fits = absurd fits
  same_value (array ds) (suc n) fits = ap (option_map array) (same_items ds n fits)
  same_value (object ms) zero fits = absurd fits
  same_value (object ms) (suc n) fits = ap (option_map object) (same_members ms no_members n fits.0 fits.1)

  same_items : (ds : Items) (n : ℕ) → ItemsFit ds n → of_items (items_outline ds) ≡ Some ds
  same_items no_items n fits = refl
  same_items (item d ds) n fits =
      ap (option_and_then (λ e. option_map (item e) (of_items (items_outline ds)))) (same_value d n fits.0)
      ∙ ap (option_map (item d)) (same_items ds n fits.1)

  same_members : (ms found : Members) (n : ℕ) → Follow found ms → MembersFit ms n →
      of_members (members_outline ms) found ≡ Some (joined found ms)
  same_members no_members found n follow fits = ap Some (sym (joined_none found))
  same_members (member k d ms) found n follow fits =
      let last = joined found (member k d no_members) in
      ap (option_and_then (λ e. of_members (members_outline ms) (put k e found))) (same_value d n fits.1)
      ∙ ap (of_members (members_outline ms)) (put_past k d found follow.0)
      ∙ same_members ms last n follow.1 fits.2 ∙ ap Some (joined_one found k d ms)

-- ---- the text is UTF-8

comma_utf8 : (later : Bool) → IsUtf8 (comma_if later)
comma_utf8 true = IsUtf8-are_ascii (44 ∷ []) refl
comma_utf8 false = IsUtf8-are_ascii [] refl

number_utf8 : (x : Num) → IsSmall x → IsUtf8 (number_text x)
number_utf8 (unsigned n) small = IsUtf8-from_ascii (decimal n) (IsAscii-decimal n small)
number_utf8 (negative z) small = absurd small
number_utf8 (float x) small = absurd small

boolean_utf8 : (b : Bool) → IsUtf8 (compact_text (boolean b))
boolean_utf8 true = IsUtf8-are_ascii (compact_text (boolean true)) refl
boolean_utf8 false = IsUtf8-are_ascii (compact_text (boolean false)) refl

-- ASCII and then UTF-8
pub after_byte : (b : ℕ) (bs : List ℕ) → are_ascii (b ∷ []) ≡ true → IsUtf8 bs → IsUtf8 (b ∷ bs)
after_byte b bs ascii utf8 = IsUtf8-append (b ∷ []) bs (IsUtf8-are_ascii (b ∷ []) ascii) utf8

mutual
  text_utf8 : (d : Data) (n : ℕ) → Fits d n → IsUtf8 (compact_text d)
  text_utf8 null n fits = IsUtf8-are_ascii (compact_text null) refl
  text_utf8 (boolean b) n fits = boolean_utf8 b
  text_utf8 (number x) n fits = number_utf8 x fits
  text_utf8 (string s) n fits = IsUtf8-quoted s fits
  text_utf8 (array ds) zero fits = absurd fits
  text_utf8 (array ds) (suc n) fits = after_byte 91 (items_text false ds) refl (items_utf8 false ds n fits)
  text_utf8 (object ms) zero fits = absurd fits
  text_utf8 (object ms) (suc n) fits = after_byte 123 (members_text false ms) refl (members_utf8 false ms n fits.1)

  items_utf8 : (later : Bool) (ds : Items) (n : ℕ) → ItemsFit ds n → IsUtf8 (items_text later ds)
  items_utf8 later no_items n fits = IsUtf8-are_ascii (93 ∷ []) refl
  items_utf8 later (item d ds) n fits =
      IsUtf8-append (comma_if later) (compact_text d ++ items_text true ds) (comma_utf8 later)
      (IsUtf8-append (compact_text d) (items_text true ds) (text_utf8 d n fits.0) (items_utf8 true ds n fits.1))

  members_utf8 : (later : Bool) (ms : Members) (n : ℕ) → MembersFit ms n → IsUtf8 (members_text later ms)
  members_utf8 later no_members n fits = IsUtf8-are_ascii (125 ∷ []) refl
  members_utf8 later (member k d ms) n fits =
      let rest = compact_text d ++ members_text true ms in
      let whole = IsUtf8-append (compact_text d) (members_text true ms) (text_utf8 d n fits.1)
      (members_utf8 true ms n fits.2) in
      IsUtf8-append (comma_if later) (quoted k ++ 58 ∷ rest) (comma_utf8 later)
      (IsUtf8-append (quoted k) (58 ∷ rest) (IsUtf8-quoted k fits.0) (after_byte 58 rest refl whole))

-- ---- both

-- the text of such a value is UTF-8
pub text_is_utf8 : (d : Data) → Fits d 127 → is_utf8 (compact_text d) ≡ true
text_is_utf8 d fits = is_utf8-from_IsUtf8 (compact_text d) (text_utf8 d 127 fits)

-- and is read back as that value
pub text_read : (d : Data) → Fits d 127 → read (compact_text d) ≡ Some d
text_read d fits =
    ap read (sym (print-outline d))
    ∙ ap (λ p. option_and_then of_json (option_and_then (λ q. json.if_last q.0 q.1) p))
    (ap (json.value 127) (printed d fits)
    ∙ value-json_tokens (outline d) 127 [] (shallow d 127 fits))
    ∙ same_value d 127 fits
  where
    printed : (e : Data) → Fits e 127 →
        tokens (print (tree.json_tokens (outline e))) ≡ tree.json_tokens (outline e) ++ []
    printed e holds =
        tokens-print (tree.json_tokens (outline e))
        (ArePrintable-json_tokens (outline e) (has_numbers e 127 holds))
        ∙ sym (append-nil (tree.json_tokens (outline e)))
