-- Where reading stops, and which files are there then.
use Rattle.std.proofs.Common.{◌≡◌, ◌∙◌, ℕ, ◌+◌, Bool, true, false, List, [], ◌∷◌, ◌++◌, length, nat_le, append_assoc}
use Rattle.std.proofs.Common.{Option, Some, None, Result, Ok, Err, refl, ap, sym, subst, cond}
use Rattle.std.specs.Prelude.{IfSome}
use Rattle.std.specs.Option.{option_map_or}
use Rattle.ios_ast.specs.declared.file.File.{File}
use Rattle.mw_load.specs.declared.loading.Placed.{Placed}
use Rattle.mw_load.specs.declared.loading.TheConstants.{MOST_BYTES}
use Rattle.mw_load.specs.Loading.{AreThere, StopsAt, Unloaded, placed, refused, text_of, too_long, unread}
use Rattle.mw_outside.specs.Contents.{Contents, TellsOnly, get}
use Rattle.mw_text.proofs.Reading.{read-none}
use Rattle.mw_text.specs.Reading.{following, in_turn, with_value}
use Rattle.mw_text.proofs.Found.{if_told, if_told_one}
use Rattle.asked_files.specs.Network.{network_of}
use Rattle.asked_files.proofs.Networks.{read_of}

-- ---- files that are there

-- the file of the name is there, with few enough bytes
abbrev IsSmall : Contents → List ℕ → Type 0
IsSmall contents name =
    (bytes : List ℕ) × (get contents name ≡ Some bytes) × (nat_le (length bytes) MOST_BYTES ≡ true)

abbrev AreSmall : Contents → List (List ℕ) → Type 0
AreSmall contents [] = Unit {0}
AreSmall contents (name ∷ names) = IsSmall contents name × AreSmall contents names

small_both : (contents : Contents) (names others : List (List ℕ)) → AreSmall contents names → AreSmall contents others →
    AreSmall contents (names ++ others)
small_both contents [] others small too = too
small_both contents (name ∷ names) others small too = (small.0, small_both contents names others small.1 too)

abbrev text_sized : ℕ → List ℕ → Bool → Result Placed Unloaded
text_sized at bytes few = cond few (Ok (record { at = at; bytes = bytes })) (Err (refused (too_long at)))

abbrev text_there : ℕ → Option (List ℕ) → Result Placed Unloaded
text_there at there =
    option_map_or (λ bytes. text_sized at bytes (nat_le (length bytes) MOST_BYTES)) there (Err unread)

-- the texts from a place on, after the first one
abbrev texts_after : Contents → ℕ → List (List ℕ) → List Placed → Result Placed Unloaded → Result (List Placed) Unloaded
texts_after contents at names so_far first =
    following (λ next. in_turn (with_value (text_of contents)) next (placed (at + 1) names))
    (following (λ y. Ok (so_far ++ y ∷ [])) first)

sized_small : (contents : Contents) (name : List ℕ) (names : List (List ℕ)) (at : ℕ) (so_far all : List Placed)
    (bytes : List ℕ) (few : Bool) → get contents name ≡ Some bytes → nat_le (length bytes) MOST_BYTES ≡ few →
    texts_after contents at names so_far (text_sized at bytes few) ≡ Ok all →
    ((next : List Placed) → in_turn (with_value (text_of contents)) next (placed (at + 1) names) ≡ Ok all →
    AreSmall contents names) → AreSmall contents (name ∷ names)
sized_small contents name names at so_far all bytes true there small is others =
    ((bytes, there, small), others (so_far ++ record { at = at; bytes = bytes } ∷ []) is)
sized_small contents name names at so_far all bytes false there small is others = absurd cc

first_small : (contents : Contents) (name : List ℕ) (names : List (List ℕ)) (at : ℕ) (so_far all : List Placed)
    (file : Option (List ℕ)) → get contents name ≡ file →
    texts_after contents at names so_far (text_there at file) ≡ Ok all →
    ((next : List Placed) → in_turn (with_value (text_of contents)) next (placed (at + 1) names) ≡ Ok all →
    AreSmall contents names) → AreSmall contents (name ∷ names)
first_small contents name names at so_far all None there is others = absurd cc
first_small contents name names at so_far all (Some bytes) there is others =
    sized_small contents name names at so_far all bytes (nat_le (length bytes) MOST_BYTES) there refl is others

-- files whose texts were read are small
read_small : (contents : Contents) (names : List (List ℕ)) (at : ℕ) (so_far all : List Placed) →
    in_turn (with_value (text_of contents)) so_far (placed at names) ≡ Ok all → AreSmall contents names
unfolding in_turn
read_small contents [] at so_far all is = tt
read_small contents (name ∷ names) at so_far all is =
    first_small contents name names at so_far all (get contents name) refl is
    (λ next deeper. read_small contents names (at + 1) next all deeper)

-- the texts of small files are read
small_read : (contents : Contents) (names : List (List ℕ)) (at : ℕ) (so_far : List Placed) → AreSmall contents names →
    (all : List Placed) × (in_turn (with_value (text_of contents)) so_far (placed at names) ≡ Ok all)
unfolding in_turn
small_read contents [] at so_far small = (so_far, refl)
small_read contents (name ∷ names) at so_far small =
    let bytes = small.0.0 in
    let text : Placed = record { at = at; bytes = bytes } in
    let deeper = small_read contents names (at + 1) (so_far ++ text ∷ []) small.1 in
    let here : text_there at (get contents name) ≡ Ok text =
    ap (text_there at) small.0.1 ∙ ap (text_sized at bytes) small.0.2 in
    (deeper.0, ap (texts_after contents at names so_far) here ∙ deeper.1)

there_both : (contents : Contents) (names others : List (List ℕ)) → AreThere contents names → AreThere contents others →
    AreThere contents (names ++ others)
there_both contents names others there too =
    small_read contents (names ++ others) 0 []
    (small_both contents names others (read_small contents names 0 [] there.0 there.1)
    (read_small contents others 0 [] too.0 too.1))

-- the files of a network are there
pub network_there : (told : Option Contents) (names : List (List ℕ)) (files : List File) →
    IfSome told (λ contents. network_of contents names ≡ Ok files) → IfSome told (λ contents. AreThere contents names)
network_there told names files read =
    if_told_one told (λ contents. network_of contents names ≡ Ok files) _ read
    (λ contents is. read_of names _ files is)

-- ---- where reading stops

-- a read of the file failed
pub stops_at : (told : Option Contents) (name : List ℕ) (last : Option (List ℕ)) → TellsOnly name last →
    StopsAt told (name ∷ []) last
stops_at None name None only = tt
stops_at (Some contents) name None only = tt
stops_at None name (Some other) only =
    let P : List ℕ → Type 0 = λ n. name ∷ [] ≡ [] ++ n ∷ [] in ([], [], subst P (sym only) refl, tt)
stops_at (Some contents) name (Some other) only =
    let P : List ℕ → Type 0 = λ n. name ∷ [] ≡ [] ++ n ∷ [] in
    ([], [], subst P (sym only) refl, ([], read-none (with_value (text_of contents)) []))

-- others come after these
pub stops_among : (told : Option Contents) (names later : List (List ℕ)) (last : Option (List ℕ)) →
    StopsAt told names last → StopsAt told (names ++ later) last
stops_among told names later None stops = tt
stops_among told names later (Some other) (front, rest, is, there) =
    (front, rest ++ later, ap (λ xs. xs ++ later) is ∙ append_assoc front (other ∷ rest) later, there)

-- others that are there come before these
pub stops_after : (told : Option Contents) (before names : List (List ℕ)) (last : Option (List ℕ)) →
    IfSome told (λ contents. AreThere contents before) → StopsAt told names last → StopsAt told (before ++ names) last
stops_after told before names None read stops = tt
stops_after told before names (Some other) read (front, rest, is, there) = (
  before ++ front,
  rest,
  ap (λ xs. before ++ xs) is ∙ sym (append_assoc before front (other ∷ rest)),
  if_told told (λ contents. AreThere contents before) (λ contents. AreThere contents front) _ read there
      (λ contents one other. there_both contents before front one other),
)
