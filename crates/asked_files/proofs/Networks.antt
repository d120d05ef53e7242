-- What comes of the configurations that are named.
use Rattle.std.proofs.Common.{◌≡◌, ◌∙◌, ℕ, List, [], ◌∷◌, ◌++◌, Option, Some, None, Result, Ok, Err, refl, ap, sym, subst}
use Rattle.std.specs.Prelude.{IfSome}
use Rattle.ios_ast.specs.declared.file.File.{File}
use Rattle.mw_load.specs.declared.loading.Placed.{Placed}
use Rattle.mw_load.specs.Loading.{StopsAt, Unloaded, network_due, parsed_due}
use Rattle.mw_load.specs.Loading as load
use Rattle.mw_load.specs.Refused.{Refusal}
use Rattle.mw_outside.specs.Contents.{Contents, TellsOnly}
use Rattle.mw_text.specs.Reading.{following}
use Rattle.mw_text.proofs.Found.{if_told_one}
use Rattle.run_inputs.specs.Due.{refused}
use Rattle.asked_files.specs.Network.{loaded_as, network_of, refusal_line}

pub network_read : (told : Option Contents) (names : List (List ℕ)) (files : List File) →
    IfSome told (λ contents. network_due contents names ≡ Ok files) →
    IfSome told (λ contents. network_of contents names ≡ Ok files)
network_read told names files read =
    if_told_one told (λ contents. network_due contents names ≡ Ok files) _ read (λ contents is. ap (loaded_as names) is)

pub network_refused : (told : Option Contents) (names : List (List ℕ)) (refusal : Refusal) (line : List ℕ) →
    line ≡ refusal_line names refusal →
    IfSome told (λ contents. network_due contents names ≡ Err (load.refused refusal)) →
    IfSome told (λ contents. network_of contents names ≡ Err (refused line))
network_refused told names refusal line says stopped =
    if_told_one told (λ contents. network_due contents names ≡ Err (load.refused refusal)) _ stopped
    (λ contents is. ap (loaded_as names) is ∙ ap (λ l. Err (refused l)) (sym says))

-- the texts were read of files that are a network
pub read_of : (names : List (List ℕ)) (r : Result (List Placed) Unloaded) (files : List File) →
    loaded_as names (following parsed_due r) ≡ Ok files → (texts : List Placed) × (r ≡ Ok texts)
read_of names (Ok texts) files is = (texts, refl)
read_of names (Err load.unread) files is = absurd cc
read_of names (Err (load.refused refusal)) files is = absurd cc

-- ---- where reading stops

-- that of the last failed, after all before it were read
pub stops_last : (told : Option Contents) (names : List (List ℕ)) (name : List ℕ) (files : List File)
    (last : Option (List ℕ)) → IfSome told (λ contents. network_of contents names ≡ Ok files) → TellsOnly name last →
    StopsAt told (names ++ name ∷ []) last
stops_last told names name files None read only = tt
stops_last told names name files (Some other) read only =
    let P : List ℕ → Type 0 = λ n. names ++ name ∷ [] ≡ names ++ n ∷ [] in (
      names,
      [],
      subst P (sym only) refl,
      if_told_one told (λ contents. network_of contents names ≡ Ok files) _ read
          (λ contents is. read_of names _ files is),
    )
