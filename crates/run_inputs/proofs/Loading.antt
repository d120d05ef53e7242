-- Reading and parsing one after another.
use Rattle.std.proofs.Common.{◌≡◌, ℕ, ◌+◌, ◌<◌, ◌≤◌, true, false, List, [], ◌∷◌, ◌++◌, length, take, drop}
use Rattle.std.proofs.Common.{get_or, Option, Some, None, Result, Ok, Err, refl, ap, sym, arith, ◌∙◌}
use Rattle.std.proofs.Common.{cond, append_assoc, nat_le, subst}
use Rattle.std.proofs.lemmas.Bool.{le-leb, lt-leb}
use Rattle.std.specs.Prelude.{IfSome, IsSomeAnd}
use Rattle.std.proofs.Math.Seq.{get_or-append_seam, take-append_seam}
use Rattle.std.proofs.lemmas.List.{length-append}
use Rattle.std.specs.Option.{option_map_or}
use Rattle.mw_outside.specs.Contents.{Contents, get, Has, TellsOnly}
use Rattle.run_inputs.specs.declared.load.Stop.{Stop}
use Rattle.run_inputs.specs.declared.load.Stop.TheVariants.{Refused, ReadFault, Memory}
use Rattle.run_inputs.specs.Loading.{OnStop}
use Rattle.run_inputs.specs.declared.text.Text.{Text}
use Rattle.mw_text.proofs.Reading.{EachTo, each-one, read-done, split-read}
use Rattle.mw_text.specs.Reading.{each, following, in_turn, with_value}
use Rattle.mw_text.proofs.Found.{if_told, if_told_one}
use Rattle.run_inputs.specs.Due.{Outcome, unread, refused, text_of, text_within}
use Rattle.run_inputs.specs.Order.{StopsAt}
use Rattle.run_inputs.specs.Texts.{too_long}

-- the text of what is there
abbrev text_there : ℕ → List ℕ → Option (List ℕ) → Result Text Outcome
text_there most name there =
    option_map_or (λ bytes. cond (nat_le (length bytes) most) (Ok (record { name = name; bytes = bytes }))
    (Err (refused (too_long name))))
    there (Err unread)

there_whole : (most : ℕ) (name bytes : List ℕ) (there : Option (List ℕ)) → IsSomeAnd there (λ file. file ≡ bytes)
    → length bytes ≤ most →
    text_there most name there ≡ Ok (record { name = name; bytes = bytes })
there_whole most name bytes None whole small = absurd whole
there_whole most name bytes (Some file) whole small =
    ap (λ f. text_there most name (Some f)) whole
    ∙ ap (λ b. cond b (Ok (record { name = name; bytes = bytes })) (Err (refused (too_long name))))
    (le-leb (length bytes) most small)

there_too_long : (most : ℕ) (name : List ℕ) (there : Option (List ℕ)) → IsSomeAnd there (λ file. most < length file) →
    text_there most name there ≡ Err (refused (too_long name))
there_too_long most name None long = absurd long
there_too_long most name (Some file) long =
    ap (λ b. cond b (Ok (record { name = name; bytes = file })) (Err (refused (too_long name))))
    (lt-leb (length file) most long)

-- a file that was read whole, where contents are told
pub text_whole : (most : ℕ) (told : Option Contents) (name bytes : List ℕ) (text : Text)
    → Has told name (λ file. file ≡ bytes) → length bytes ≤ most →
    text ≡ record { name = name; bytes = bytes } → IfSome told (λ contents. text_within most contents name ≡ Ok text)
text_whole most None name bytes text whole small is = tt
text_whole most (Some contents) name bytes text whole small is =
    there_whole most name bytes (get contents name) whole small ∙ ap Ok (sym is)

-- a file that was too long
pub text_too_long : (most : ℕ) (told : Option Contents) (name line : List ℕ) → Has told name
    (λ file. most < length file)
    → line ≡ too_long name →
    IfSome told (λ contents. text_within most contents name ≡ Err (refused line))
text_too_long most None name line long is = tt
text_too_long most (Some contents) name line long is =
    there_too_long most name (get contents name) long ∙ ap (λ l. Err (refused l)) (sym is)

-- what is said of a stop
pub on_stop-map : (stop : Stop) (P P' : List ℕ → Type 0) (Q Q' : Type 0) → OnStop stop P Q
    → ((line : List ℕ) → P line → P' line) → (Q → Q') → OnStop stop P' Q'
on_stop-map (Refused line) P P' Q Q' said lines faults = lines line said
on_stop-map ReadFault P P' Q Q' said lines faults = faults said
on_stop-map Memory P P' Q Q' said lines faults = tt

-- a read of one of the files failed, after those before it were read
pub stops-here : (told : Option Contents) (names : List (List ℕ)) (i : ℕ) (name : List ℕ) (texts : List Text)
    (last : Option (List ℕ)) →
    i < length names → name ≡ get_or names i name → IfSome told (λ contents. EachTo (text_of contents) names i texts) →
    TellsOnly name last → StopsAt told names last
stops-here told names i name texts None within is read only = tt
stops-here told names i name texts (Some other) within is read only =
    let P : List ℕ → Type 0 = λ n. names ≡ take i names ++ n ∷ drop (i + 1) names in (
      take i names,
      drop (i + 1) names,
      subst P (sym only) (split-read names i name within is),
      if_told_one told _ _ read (λ contents so. (texts, so)),
    )

-- the same, where another file comes after all of these
pub stops-before : (told : Option Contents) (names : List (List ℕ)) (later : List ℕ) (last : Option (List ℕ)) →
    StopsAt told names last → StopsAt told (names ++ later ∷ []) last
stops-before told names later None stops = tt
stops-before told names later (Some other) (front, rest, is, there) =
    (front, rest ++ later ∷ [], ap (λ xs. xs ++ later ∷ []) is ∙ append_assoc front (other ∷ rest) (later ∷ []), there)

-- the last file failed, after all before it were read
pub stops-last : (told : Option Contents) (names : List (List ℕ)) (name : List ℕ) (texts : List Text)
    (last : Option (List ℕ)) →
    IfSome told (λ contents. each (text_of contents) names ≡ Ok texts) → TellsOnly name last
    → StopsAt told (names ++ name ∷ []) last
stops-last told names name texts None read only = tt
stops-last told names name texts (Some other) read only =
    let P : List ℕ → Type 0 = λ n. names ++ name ∷ [] ≡ names ++ n ∷ [] in
    (names, [], subst P (sym only) refl, if_told_one told _ _ read (λ contents so. (texts, so)))

-- a file after all of these
each_last : {A B E : Type 0} (become : A → Result B E) (items : List A) (x : A) (values : List B) (y : B) →
    each become items ≡ Ok values → become x ≡ Ok y → each become (items ++ x ∷ []) ≡ Ok (values ++ y ∷ [])
each_last {A} {B} {E} become items x values y before one =
    let all : List A = items ++ x ∷ [] in
    let size : length all ≡ length items + 1 = length-append items (x ∷ []) in
    let start : EachTo become all (length items) values =
    ap (in_turn (with_value become) []) (take-append_seam items (x ∷ [])) ∙ before in
    let more = each-one become all (length items) x values y start (omega (arith, size))
    (sym (get_or-append_seam items x [] x)) one in
    read-done (with_value become) [] all (length items + 1) (values ++ y ∷ []) more (omega (arith, size))

-- the third kind of file failed, after those of the first two were read
pub stops-third : (told : Option Contents) (names : List (List ℕ)) (asked told_name : List ℕ) (texts : List Text)
    (question : Text) (last : Option (List ℕ)) → IfSome told (λ contents. each (text_of contents) names ≡ Ok texts) →
    IfSome told (λ contents. text_of contents asked ≡ Ok question) → TellsOnly told_name last →
    StopsAt told (names ++ asked ∷ told_name ∷ []) last
stops-third told names asked told_name texts question None read one only = tt
stops-third told names asked told_name texts question (Some other) read one only =
    let P : List ℕ → Type 0 = λ n. names ++ asked ∷ told_name ∷ [] ≡ (names ++ asked ∷ []) ++ n ∷ [] in (
      names ++ asked ∷ [],
      [],
      subst P (sym only) (sym (append_assoc names (asked ∷ []) (told_name ∷ []))),
      if_told told _ _ _ read one
          (λ contents so too. (texts ++ question ∷ [], each_last (text_of contents) names asked texts question so too)),
    )

-- and was refused
pub third_refused : (told : Option Contents) (names : List (List ℕ)) (own asked : List ℕ) (texts : List Text)
    (question : Text) (line : List ℕ) (most : ℕ) (become : List Text → Text → Text → Result Outcome Outcome) →
    IfSome told (λ contents. each (text_of contents) names ≡ Ok texts) →
    IfSome told (λ contents. text_of contents asked ≡ Ok question) →
    IfSome told (λ contents. text_within most contents own ≡ Err (refused line)) →
    IfSome told (λ contents. following (λ ts. following (λ q. following (become ts q) (text_within most contents own))
    (text_of contents asked)) (each (text_of contents) names) ≡ Err (refused line))
third_refused None names own asked texts question line most become read one stopped = tt
third_refused (Some contents) names own asked texts question line most become read one stopped =
    ap (following (λ ts. following (λ q. following (become ts q) (text_within most contents own))
    (text_of contents asked))) read
    ∙ ap (following (λ q. following (become texts q) (text_within most contents own))) one
    ∙ ap (following (become texts question)) stopped

-- the texts of all three were read, and this comes of them
pub third_read : (told : Option Contents) (names : List (List ℕ)) (own asked : List ℕ) (texts : List Text)
    (question text : Text) (most : ℕ) (become : List Text → Text → Text → Result Outcome Outcome)
    (wanted : Result Outcome Outcome) → IfSome told (λ contents. each (text_of contents) names ≡ Ok texts) →
    IfSome told (λ contents. text_of contents asked ≡ Ok question) →
    IfSome told (λ contents. text_within most contents own ≡ Ok text) → become texts question text ≡ wanted →
    IfSome told (λ contents. following (λ ts. following (λ q. following (become ts q) (text_within most contents own))
    (text_of contents asked)) (each (text_of contents) names) ≡ wanted)
third_read None names own asked texts question text most become wanted read one two is = tt
third_read (Some contents) names own asked texts question text most become wanted read one two is =
    ap (following (λ ts. following (λ q. following (become ts q) (text_within most contents own))
    (text_of contents asked))) read
    ∙ ap (following (λ q. following (become texts q) (text_within most contents own))) one
    ∙ ap (following (become texts question)) two ∙ is
