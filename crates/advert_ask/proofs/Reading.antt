-- What comes of the words and of the files.
use Rattle.std.proofs.Common.{◌≡◌, ◌∙◌, ℕ, List, ap}
use Rattle.std.proofs.Common.{Option, Some, Result, Ok, Err}
use Rattle.std.specs.Prelude.{IfSome}
use Rattle.ios_ast.specs.declared.file.File.{File}
use Rattle.log_trim.specs.Running.{Reads}
use Rattle.mw_load.specs.Loading.{StopsAt}
use Rattle.mw_outside.specs.Contents.{Contents}
use Rattle.mw_outside.specs.Faults.{Rose}
use Rattle.mw_text.specs.Reading.{following}
use Rattle.mw_text.proofs.Found.{if_told, if_told_one}
use Rattle.run_inputs.specs.declared.load.Stop.{Stop}
use Rattle.run_inputs.specs.declared.load.Stop.TheVariants as stop
use Rattle.run_inputs.specs.declared.text.Text.{Text}
use Rattle.run_inputs.specs.Due.{Outcome, refused, text_of}
use Rattle.run_inputs.specs.Loading.{OnStop, UnlessReadFault}
use Rattle.export_asks.specs.declared.ask.Ask.{Ask}
use Rattle.advert_ask.specs.declared.loading.Loaded.{Loaded}
use Rattle.asked_files.specs.Network.{in_order, network_of}
use Rattle.asked_files.specs.Words.{Asking}
use Rattle.advert_ask.specs.Due.{ComesTo, asks_in, asks_of}
use Rattle.advert_ask.specs.Loading.{LoadsSo, WorksBy}

-- ---- the asks

pub asks_read : (told : Option Contents) (name : List ℕ) (files : List File) (text : Text) (asks : List Ask) →
    IfSome told (λ contents. text_of contents name ≡ Ok text) → asks_of text files ≡ Ok asks →
    IfSome told (λ contents. asks_in contents name files ≡ Ok asks)
asks_read told name files text asks read is =
    if_told_one told (λ contents. text_of contents name ≡ Ok text) _ read
    (λ contents there. ap (following (λ t. asks_of t files)) there ∙ is)

pub asks_refused : (told : Option Contents) (name : List ℕ) (files : List File) (text : Text) (line : List ℕ) →
    IfSome told (λ contents. text_of contents name ≡ Ok text) → asks_of text files ≡ Err (refused line) →
    IfSome told (λ contents. asks_in contents name files ≡ Err (refused line))
asks_refused told name files text line read is =
    if_told_one told (λ contents. text_of contents name ≡ Ok text) _ read
    (λ contents there. ap (following (λ t. asks_of t files)) there ∙ is)

pub text_refused : (told : Option Contents) (name : List ℕ) (files : List File) (line : List ℕ) →
    IfSome told (λ contents. text_of contents name ≡ Err (refused line)) →
    IfSome told (λ contents. asks_in contents name files ≡ Err (refused line))
text_refused told name files line stopped =
    if_told_one told (λ contents. text_of contents name ≡ Err (refused line)) _ stopped
    (λ contents there. ap (following (λ t. asks_of t files)) there)

-- ---- both

abbrev with_asks : Contents → Asking → List File → Result (List File × List Ask) Outcome
with_asks contents asked files = following (λ all. Ok (files, all)) (asks_in contents asked.own files)

pub files_read : (told : Option Contents) (asked : Asking) (files : List File) (asks : List Ask) →
    IfSome told (λ contents. network_of contents asked.configs ≡ Ok files) →
    IfSome told (λ contents. asks_in contents asked.own files ≡ Ok asks) → ComesTo told asked (Ok (files, asks))
files_read told asked files asks network read =
    if_told told (λ contents. network_of contents asked.configs ≡ Ok files)
    (λ contents. asks_in contents asked.own files ≡ Ok asks) _ network read
    (λ contents is too.
    ap (following (with_asks contents asked)) is ∙ ap (following (λ all. Ok (files, all))) too)

pub network_stopped : (told : Option Contents) (asked : Asking) (line : List ℕ) →
    IfSome told (λ contents. network_of contents asked.configs ≡ Err (refused line)) →
    ComesTo told asked (Err (refused line))
network_stopped told asked line network =
    if_told_one told (λ contents. network_of contents asked.configs ≡ Err (refused line)) _ network
    (λ contents is. ap (following (with_asks contents asked)) is)

pub asks_stopped : (told : Option Contents) (asked : Asking) (files : List File) (line : List ℕ) →
    IfSome told (λ contents. network_of contents asked.configs ≡ Ok files) →
    IfSome told (λ contents. asks_in contents asked.own files ≡ Err (refused line)) →
    ComesTo told asked (Err (refused line))
asks_stopped told asked files line network stopped =
    if_told told (λ contents. network_of contents asked.configs ≡ Ok files)
    (λ contents. asks_in contents asked.own files ≡ Err (refused line)) _ network stopped
    (λ contents is too.
    ap (following (with_asks contents asked)) is ∙ ap (following (λ all. Ok (files, all))) too)

-- ---- what comes of what is asked for

pub loads_stopped : (told : Option Contents) (asked : Asking) (r : Reads) (why : Stop) →
    UnlessReadFault {A = Loaded} (Err why) (r.faults_now ≡ r.faults) →
    UnlessReadFault {A = Loaded} (Err why) (r.last_now ≡ r.last) →
    OnStop why (λ line. ComesTo told asked (Err (refused line)))
    (Rose r.faults r.faults_now × StopsAt told (in_order asked) r.last_now) → LoadsSo told asked r (Err why)
loads_stopped told asked r (stop.Refused line) quiet stays said = ((quiet, stays), said)
loads_stopped told asked r stop.ReadFault quiet stays said = said
loads_stopped told asked r stop.Memory quiet stays said = (quiet, stays)

-- of the words
pub works_stopped : (told : Option Contents) (asked : Asking) (asking : Option Asking) (r : Reads) (why : Stop) →
    asking ≡ Some asked → LoadsSo told asked r (Err why) → WorksBy told asking r (Err why)
works_stopped told asked asking r (stop.Refused line) is so = (asked, is, so)
works_stopped told asked asking r stop.ReadFault is so = (asked, is, so)
works_stopped told asked asking r stop.Memory is so = so
