-- JSON values (RFC 8259), for texts of counterexamples.
use Rattle.std.specs.Prelude.{ℕ, List, [], ◌∷◌, Option, Some, None}
use Rattle.std.specs.Str.Lossy.{utf8_lossy}
use Rattle.serde_json.specs.Data.{Data, array, number, object, put, string, unsigned, Members, no_members}
use Rattle.serde_json.specs.View.{items_of}

-- a member more, at its place by name; one without a value is absent
abbrev pub with_field : List ℕ → Option Data → Members → Members
with_field name None members = members
with_field name (Some value) members = put name value members

-- the members with these names, ascending
abbrev pub members_with_from : Members → List (List ℕ × Option Data) → Members
members_with_from members [] = members
members_with_from members (field ∷ rest) = members_with_from (with_field field.0 field.1 members) rest

abbrev pub members_with : List (List ℕ × Option Data) → Members
members_with fields = members_with_from no_members fields

abbrev pub object_of : List (List ℕ × Option Data) → Data
object_of fields = object (members_with fields)

abbrev pub array_of : List Data → Data
array_of values = array (items_of values)

abbrev pub number_of : ℕ → Data
number_of n = number (unsigned n)

-- a text of the files. What is read there is ASCII, which stays as it is; other bytes that are no UTF-8 become U+FFFD
abbrev pub text_of : List ℕ → Data
text_of bytes = string (utf8_lossy bytes)
