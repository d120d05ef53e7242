-- Reading and parsing one file after another.
use Rattle.std.proofs.Common.{◌≡◌, ℕ, zero, suc, ◌+◌, ◌<◌, ◌≤◌, true, false, List, [], ◌∷◌, ◌++◌, length, take, drop}
use Rattle.std.proofs.Common.{get_or, Option, Some, None, Result, Ok, Err, refl, ap, ap₂, sym, arith, ◌∙◌}
use Rattle.std.proofs.Common.{cond, map, nat_le, subst}
use Rattle.std.proofs.lemmas.Bool.{le-leb, lt-leb}
use Rattle.std.specs.Prelude.{IfSome, IsSomeAnd}
use Rattle.std.specs.Option.{option_map_or}
use Rattle.mw_outside.specs.Contents.{Contents, get, Has, TellsOnly}
use Rattle.mw_text.proofs.Reading.{EachTo, split-read}
use Rattle.mw_text.specs.Reading.{each}
use Rattle.mw_text.proofs.Found.{if_told_one, read-at}
use Rattle.mw_load.specs.declared.loading.Placed.{Placed}
use Rattle.mw_load.specs.declared.loading.TheConstants.{MOST_BYTES}
use Rattle.mw_load.specs.declared.refused.LoadRefused.{LoadRefused}
use Rattle.mw_load.specs.declared.refused.LoadRefused.TheVariants.{Fault, Refused, Memory}
use Rattle.mw_load.specs.Loading.{StopsAt, Unloaded, placed, refused, text_of, too_long, unread}
use Rattle.mw_load.specs.Refused.{OnRefused, Refusal}

abbrev text_there : ℕ → Option (List ℕ) → Result Placed Unloaded
text_there at there =
    option_map_or (λ bytes. cond (nat_le (length bytes) MOST_BYTES) (Ok (record { at = at; bytes = bytes }))
    (Err (refused (too_long at))))
    there (Err unread)

there_whole : (at : ℕ) (bytes : List ℕ) (there : Option (List ℕ)) → IsSomeAnd there (λ file. file ≡ bytes) →
    length bytes ≤ MOST_BYTES → text_there at there ≡ Ok (record { at = at; bytes = bytes })
there_whole at bytes None whole small = absurd whole
there_whole at bytes (Some file) whole small =
    ap (λ f. text_there at (Some f)) whole
    ∙ ap (λ b. cond b (Ok (record { at = at; bytes = bytes })) (Err (refused (too_long at))))
    (le-leb (length bytes) MOST_BYTES small)

there_too_long : (at : ℕ) (there : Option (List ℕ)) → IsSomeAnd there (λ file. MOST_BYTES < length file) →
    text_there at there ≡ Err (refused (too_long at))
there_too_long at None long = absurd long
there_too_long at (Some file) long =
    ap (λ b. cond b (Ok (record { at = at; bytes = file })) (Err (refused (too_long at))))
    (lt-leb (length file) MOST_BYTES long)

-- a file that was read whole, where contents are told
pub text_whole : (told : Option Contents) (at : ℕ) (name bytes : List ℕ) → Has told name (λ file. file ≡ bytes) →
    length bytes ≤ MOST_BYTES →
    IfSome told (λ contents. text_of contents (at, name) ≡ Ok (record { at = at; bytes = bytes }))
text_whole None at name bytes whole small = tt
text_whole (Some contents) at name bytes whole small = there_whole at bytes (get contents name) whole small

-- a file that was too long
pub text_too_long : (told : Option Contents) (at : ℕ) (name : List ℕ) (refusal : Refusal) →
    Has told name (λ file. MOST_BYTES < length file) → refusal ≡ too_long at →
    IfSome told (λ contents. text_of contents (at, name) ≡ Err (refused refusal))
text_too_long None at name refusal long is = tt
text_too_long (Some contents) at name refusal long is =
    there_too_long at (get contents name) long ∙ ap (λ r. Err (refused r)) (sym is)

-- what is said of a refusal
pub on_refused-map : (why : LoadRefused) (P P' : Refusal → Type 0) (Q Q' : Type 0) → OnRefused why P Q →
    ((refusal : Refusal) → P refusal → P' refusal) → (Q → Q') → OnRefused why P' Q'
on_refused-map Fault P P' Q Q' said lines faults = faults said
on_refused-map (Refused name line number cause) P P' Q Q' said lines faults = lines _ said
on_refused-map Memory P P' Q Q' said lines faults = tt

-- ---- names with their places

pub length-placed : (at : ℕ) (names : List (List ℕ)) → length (placed at names) ≡ length names
length-placed at [] = refl
length-placed at (name ∷ names) = ap suc (length-placed (at + 1) names)

placed-from : (at : ℕ) (names : List (List ℕ)) (i : ℕ) (name : List ℕ) → i < length names →
    name ≡ get_or names i name → (at + i, name) ≡ get_or (placed at names) i (at + i, name)
placed-from at [] i name within is = absurd (omega arith)
placed-from at (first ∷ names) zero name within is =
    let same : at + 0 ≡ at = omega arith in ap₂ (λ (k : ℕ) (n : List ℕ). (k, n)) same is
placed-from at (first ∷ names) (suc i) name within is =
    let same : at + suc i ≡ at + 1 + i = omega arith in
    let P : ℕ → Type 0 = λ k. (k, name) ≡ get_or (placed (at + 1) names) i (k, name) in
    subst P (sym same) (placed-from (at + 1) names i name (omega arith) is)

pub placed-at : (names : List (List ℕ)) (i : ℕ) (name : List ℕ) → i < length names → name ≡ get_or names i name →
    (i, name) ≡ get_or (placed 0 names) i (i, name)
placed-at names i name within is =
    let same : 0 + i ≡ i = omega arith in
    let P : ℕ → Type 0 = λ k. (k, name) ≡ get_or (placed 0 names) i (k, name) in
    subst P same (placed-from 0 names i name within is)

-- the image of an item at its place
pub at-place : {A B : Type 0} (f : A → B) (xs : List A) (i : ℕ) (x : A) (y : B) → i < length xs → x ≡ get_or xs i x →
    y ≡ f x → y ≡ get_or (map f xs) i y
at-place {B = B} f xs i x y within is image =
    let P : B → Type 0 = λ z. z ≡ get_or (map f xs) i z in
    subst P (sym image)
    (ap f is ∙ read-at f xs i x within ∙ ap (λ z. get_or (map f xs) i (f z)) (sym is))

pub take-placed : (at i : ℕ) (names : List (List ℕ)) → take i (placed at names) ≡ placed at (take i names)
take-placed at zero names = refl
take-placed at (suc i) [] = refl
take-placed at (suc i) (name ∷ names) = ap (λ xs. (at, name) ∷ xs) (take-placed (at + 1) i names)

-- a read of one of the files failed, after those before it were read
pub stops-here : (told : Option Contents) (names : List (List ℕ)) (i : ℕ) (name : List ℕ) (texts : List Placed)
    (last : Option (List ℕ)) → i < length names → name ≡ get_or names i name →
    IfSome told (λ contents. EachTo (text_of contents) (placed 0 names) i texts) → TellsOnly name last →
    StopsAt told names last
stops-here told names i name texts None within is read only = tt
stops-here told names i name texts (Some other) within is read only =
    let P : List ℕ → Type 0 = λ n. names ≡ take i names ++ n ∷ drop (i + 1) names in (
      take i names,
      drop (i + 1) names,
      subst P (sym only) (split-read names i name within is),
      if_told_one told _ _ read (λ contents so. (
        texts,
        ap (λ xs. each (text_of contents) xs) (sym (take-placed 0 i names)) ∙ so,
      )),
    )
