-- What a field of a text takes, and where a reading stops.
use Rattle.std.specs.Prelude.{◌≡◌, ◌≢◌, ℕ, ◌+◌, ◌-◌, ◌^◌, List, [], ◌∷◌, ◌++◌, length, Bool, true, nat_le, nat_lt}
use Rattle.std.specs.Prelude.{is_some, slice_get, Option, Some, None, option_and_then, option_map, Result, Ok, Err}
use Rattle.std.specs.Prelude.{if◌then◌else◌}
use Rattle.std.specs.Option.{option_map_or}
use Rattle.mw_text.specs.declared.address.Addr.{Addr}
use Rattle.mw_text.specs.Digits.{addr_of}
use Rattle.serde_json.specs.Data.{Data, Items, no_items, item}
use Rattle.serde_json.specs.Find.{get, as_array, as_number, as_object, as_str, as_u64}
use Rattle.cex_json.specs.declared.refused.CexRefused.{CexRefused}
use Rattle.cex_json.specs.declared.refused.CexRefused.TheVariants.{Field, Memory}

-- a reading came out as wanted, memory aside
abbrev pub Reads : {A : Type 0} → Result A CexRefused → Result A CexRefused → Type 0
Reads (Ok x) wanted = wanted ≡ Ok x
Reads (Err why) wanted = why ≢ Memory → wanted ≡ Err why

-- what follows a value; the first bad field stands
infixl 10 ◌>>=◌
abbrev pub ◌>>=◌ : {A B : Type 0} → Result A CexRefused → (A → Result B CexRefused) → Result B CexRefused
Ok x >>= next = next x
Err why >>= next = Err why

-- the field of that name of what stands at that path has a value, or it is bad
abbrev pub required : {A : Type 0} → List ℕ → List ℕ → Option A → Result A CexRefused
required at name (Some x) = Ok x
required at name None = Err (Field (at ++ name))

-- a value that passes a test
abbrev pub passing : {A : Type 0} → (A → Bool) → Option A → Option A
passing test found = option_and_then (λ x. if test x then Some x else None) found

-- the greatest number of 32 bits
abbrev pub greatest : ℕ
greatest = 2 ^ 32 - 1

-- a place that a number of 32 bits can name
unfoldable pub place_of : Option ℕ → Option ℕ
place_of found = passing (λ at. nat_le at greatest) found

-- a text, a number that is at most so great, an address, an object
abbrev pub text_in : Option Data → Option (List ℕ)
text_in found = option_and_then as_str found

abbrev pub number_in : ℕ → Option Data → Option ℕ
number_in most found = passing (λ n. nat_le n most) (option_and_then (λ d. option_and_then as_u64 (as_number d)) found)

abbrev pub addr_in : Option Data → Option Addr
addr_in found = option_and_then addr_of (text_in found)

abbrev pub object_in : Option Data → Option Data
object_in found = passing (λ d. is_some (as_object d)) found

-- what may be absent
abbrev pub absent_or : {A : Type 0} → (Option Data → Option A) → Option Data → Option (Option A)
absent_or kind None = Some None
absent_or kind (Some d) = option_map Some (kind (Some d))

-- the members of a list
abbrev pub members_in : List ℕ → List ℕ → Data → Result Items CexRefused
members_in at name d = required at name (option_and_then as_array (get name d))

-- the members in their order, each taken at its place
abbrev pub in_order : {S : Type 0} → (ℕ → S → Data → Result S CexRefused) → ℕ → S → Items → Result S CexRefused
in_order step at state no_items = Ok state
in_order step at state (item d rest) = step at state d >>= λ next. in_order step (at + 1) next rest

-- the values so far with one more; a bad one is the list's
abbrev pub with_one : {A : Type 0} → List ℕ → List ℕ → List A → Option A → Result (List A) CexRefused
with_one at name so_far found = required at name found >>= λ x. Ok (so_far ++ x ∷ [])

-- above the last of the numbers so far
abbrev pub is_above : List ℕ → ℕ → Bool
is_above so_far n = option_map_or (λ last. nat_lt last n) (slice_get so_far (length so_far - 1)) true

-- numbers that ascend, AS numbers (RFC 6793), addresses
abbrev pub ascending_step : List ℕ → List ℕ → ℕ → List ℕ → Data → Result (List ℕ) CexRefused
ascending_step at name _ so_far d = with_one at name so_far (passing (is_above so_far) (number_in greatest (Some d)))

unfoldable pub ascending_in : List ℕ → List ℕ → Data → Result (List ℕ) CexRefused
ascending_in at name d = members_in at name d >>= in_order (ascending_step at name) 0 []

abbrev pub asn_step : List ℕ → List ℕ → ℕ → List ℕ → Data → Result (List ℕ) CexRefused
asn_step at name _ so_far d = with_one at name so_far (passing (nat_lt 0) (number_in greatest (Some d)))

unfoldable pub path_in : List ℕ → List ℕ → Data → Result (List ℕ) CexRefused
path_in at name d = members_in at name d >>= in_order (asn_step at name) 0 []

abbrev pub addr_step : List ℕ → List ℕ → ℕ → List Addr → Data → Result (List Addr) CexRefused
addr_step at name _ so_far d = with_one at name so_far (addr_in (Some d))

unfoldable pub addrs_in : List ℕ → List ℕ → Data → Result (List Addr) CexRefused
addrs_in at name d = members_in at name d >>= in_order (addr_step at name) 0 []
