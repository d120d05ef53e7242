-- What comes of the words and of the files.
use Rattle.std.proofs.Common.{◌≡◌, ◌∙◌, ℕ, List, [], ◌∷◌, ◌++◌, ap, ap₂, sym, append_assoc, subst}
use Rattle.std.proofs.Common.{Option, Some, None, Result, Ok, Err}
use Rattle.std.specs.Prelude.{IfSome}
use Rattle.std.specs.Option.{option_map_or}
use Rattle.ios_ast.specs.declared.file.File.{File}
use Rattle.log_trim.specs.Running.{Reads}
use Rattle.mw_load.specs.Loading.{StopsAt}
use Rattle.mw_outside.specs.Contents.{Contents, TellsOnly}
use Rattle.mw_outside.specs.Faults.{Rose}
use Rattle.mw_text.specs.Reading.{following}
use Rattle.mw_text.proofs.Found.{if_told, if_told_one}
use Rattle.net_model.specs.Kept.{Network}
use Rattle.net_parts.specs.Tracked.{tracked_of}
use Rattle.paired_nets.specs.declared.refused.PairRefused.{PairRefused}
use Rattle.paired_nets.specs.Refusals.{pair_refusal}
use Rattle.route_record.specs.declared.tracked.Tracked.{Tracked}
use Rattle.run_inputs.specs.declared.load.Stop.{Stop}
use Rattle.run_inputs.specs.declared.load.Stop.TheVariants as stop
use Rattle.run_inputs.specs.declared.text.Text.{Text}
use Rattle.run_inputs.specs.Due.{Outcome, refused, text_of}
use Rattle.run_inputs.specs.Loading.{OnStop, UnlessReadFault}
use Rattle.same_asks.specs.declared.same.Same.{Same}
use Rattle.asked_files.specs.Network.{network_of}
use Rattle.compare_words.specs.Words.{Asking, Sides}
use Rattle.compare_files.specs.declared.loading.Loaded.{Loaded}
use Rattle.compare_files.specs.Due.{ComesTo, asked_over, asks_in, asks_of, beside, built, configs_of, pair_in, pair_line}
use Rattle.compare_files.specs.Due.{pair_of}
use Rattle.compare_files.specs.Loading.{AreBuilt, LoadsSo, WorksBy, in_order}
use Rattle.compare_files.proofs.Stopping.{network_there, stops_after, stops_among, stops_at}

-- ---- the networks

pub left_stopped : (told : Option Contents) (sides : Sides) (line : List ℕ) →
    IfSome told (λ contents. network_of contents sides.left ≡ Err (refused line)) →
    IfSome told (λ contents. pair_in contents sides ≡ Err (refused line))
left_stopped told sides line stopped =
    if_told_one told (λ contents. network_of contents sides.left ≡ Err (refused line)) _ stopped
    (λ contents is. ap (following (beside contents sides.right)) is)

pub right_stopped : (told : Option Contents) (sides : Sides) (left : List File) (line : List ℕ) →
    IfSome told (λ contents. network_of contents sides.left ≡ Ok left) →
    IfSome told (λ contents. network_of contents sides.right ≡ Err (refused line)) →
    IfSome told (λ contents. pair_in contents sides ≡ Err (refused line))
right_stopped told sides left line read stopped =
    if_told told (λ contents. network_of contents sides.left ≡ Ok left)
    (λ contents. network_of contents sides.right ≡ Err (refused line)) _ read stopped
    (λ contents is too. ap (following (beside contents sides.right)) is
    ∙ ap (following (λ right. pair_of sides.right (built left) (built right))) too)

-- a network that tracks what its files name
pub as_built : (n : Network) → n.tracked ≡ tracked_of n.files → n ≡ built n.files
as_built n is = ap (λ (t : Tracked). let m : Network = record { files = n.files; tracked = t } in m) is

-- what the pair comes to
pub pair_comes : (told : Option Contents) (sides : Sides) (left right : Network)
    (result : Result (List File × List File) Outcome) → AreBuilt told sides left right →
    pair_of sides.right left right ≡ result → IfSome told (λ contents. pair_in contents sides ≡ result)
pair_comes told sides left right result all is =
    let same : pair_of sides.right (built left.files) (built right.files) ≡ pair_of sides.right left right =
    ap₂ (pair_of sides.right) (sym (as_built left all.left_tracks)) (sym (as_built right all.right_tracks)) in
    if_told told (λ contents. network_of contents sides.left ≡ Ok left.files)
    (λ contents. network_of contents sides.right ≡ Ok right.files) _ all.left_read all.right_read
    (λ contents one other. ap (following (beside contents sides.right)) one
    ∙ ap (following (λ files. pair_of sides.right (built left.files) (built files))) other ∙ same ∙ is)

pub pair_compared : (names : List (List ℕ)) (left right : Network) → pair_refusal left right ≡ None →
    pair_of names left right ≡ Ok (left.files, right.files)
pair_compared names left right is =
    ap (λ why. option_map_or (λ w. Err (refused (pair_line names w))) why (Ok (left.files, right.files))) is

pub pair_refused : (names : List (List ℕ)) (left right : Network) (why : PairRefused) (line : List ℕ) →
    Some why ≡ pair_refusal left right → line ≡ pair_line names why → pair_of names left right ≡ Err (refused line)
pair_refused names left right why line is says =
    ap (λ w. option_map_or (λ w. Err (refused (pair_line names w))) w (Ok (left.files, right.files))) (sym is)
    ∙ ap (λ l. Err (refused l)) (sym says)

-- ---- the asks

pub asks_read : (told : Option Contents) (name : List ℕ) (left right : List File) (text : Text) (asks : List Same) →
    IfSome told (λ contents. text_of contents name ≡ Ok text) → asks_of text left right ≡ Ok asks →
    IfSome told (λ contents. asks_in contents name left right ≡ Ok asks)
asks_read told name left right text asks read is =
    if_told_one told (λ contents. text_of contents name ≡ Ok text) _ read
    (λ contents there. ap (following (λ t. asks_of t left right)) there ∙ is)

pub asks_refused : (told : Option Contents) (name : List ℕ) (left right : List File) (text : Text) (line : List ℕ) →
    IfSome told (λ contents. text_of contents name ≡ Ok text) → asks_of text left right ≡ Err (refused line) →
    IfSome told (λ contents. asks_in contents name left right ≡ Err (refused line))
asks_refused told name left right text line read is =
    if_told_one told (λ contents. text_of contents name ≡ Ok text) _ read
    (λ contents there. ap (following (λ t. asks_of t left right)) there ∙ is)

pub text_refused : (told : Option Contents) (name : List ℕ) (left right : List File) (line : List ℕ) →
    IfSome told (λ contents. text_of contents name ≡ Err (refused line)) →
    IfSome told (λ contents. asks_in contents name left right ≡ Err (refused line))
text_refused told name left right line stopped =
    if_told_one told (λ contents. text_of contents name ≡ Err (refused line)) _ stopped
    (λ contents there. ap (following (λ t. asks_of t left right)) there)

-- ---- all of it

pub files_read : (told : Option Contents) (asked : Asking) (left right : Network) (asks : List Same) →
    AreBuilt told asked.sides left right → pair_refusal left right ≡ None →
    IfSome told (λ contents. asks_in contents asked.asks left.files right.files ≡ Ok asks) →
    ComesTo told asked (Ok (left.files, right.files, asks))
files_read told asked left right asks all compared read =
    let pair = pair_comes told asked.sides left right (Ok (left.files, right.files)) all
    (pair_compared asked.sides.right left right compared) in
    if_told told (λ contents. pair_in contents asked.sides ≡ Ok (left.files, right.files))
    (λ contents. asks_in contents asked.asks left.files right.files ≡ Ok asks) _ pair read
    (λ contents is too. ap (following (asked_over contents asked.asks)) is
    ∙ ap (following (λ some. Ok (left.files, right.files, some))) too)

pub pair_stopped : (told : Option Contents) (asked : Asking) (line : List ℕ) →
    IfSome told (λ contents. pair_in contents asked.sides ≡ Err (refused line)) →
    ComesTo told asked (Err (refused line))
pair_stopped told asked line stopped =
    if_told_one told (λ contents. pair_in contents asked.sides ≡ Err (refused line)) _ stopped
    (λ contents is. ap (following (asked_over contents asked.asks)) is)

pub asks_stopped : (told : Option Contents) (asked : Asking) (left right : Network) (line : List ℕ) →
    AreBuilt told asked.sides left right → pair_refusal left right ≡ None →
    IfSome told (λ contents. asks_in contents asked.asks left.files right.files ≡ Err (refused line)) →
    ComesTo told asked (Err (refused line))
asks_stopped told asked left right line all compared stopped =
    let pair = pair_comes told asked.sides left right (Ok (left.files, right.files)) all
    (pair_compared asked.sides.right left right compared) in
    if_told told (λ contents. pair_in contents asked.sides ≡ Ok (left.files, right.files))
    (λ contents. asks_in contents asked.asks left.files right.files ≡ Err (refused line)) _ pair stopped
    (λ contents is too. ap (following (asked_over contents asked.asks)) is
    ∙ ap (following (λ some. Ok (left.files, right.files, some))) too)

-- ---- where reading stops

-- at a file of the left network
pub left_unread : (told : Option Contents) (sides : Sides) (last : Option (List ℕ)) → StopsAt told sides.left last →
    StopsAt told (configs_of sides) last
left_unread told sides last stops = stops_among told sides.left sides.right last stops

-- of the right one
pub right_unread : (told : Option Contents) (sides : Sides) (left : List File) (last : Option (List ℕ)) →
    IfSome told (λ contents. network_of contents sides.left ≡ Ok left) → StopsAt told sides.right last →
    StopsAt told (configs_of sides) last
right_unread told sides left last read stops =
    stops_after told sides.left sides.right last (network_there told sides.left left read) stops

-- of either
pub configs_unread : (told : Option Contents) (asked : Asking) (last : Option (List ℕ)) →
    StopsAt told (configs_of asked.sides) last → StopsAt told (in_order asked) last
configs_unread told asked last stops = stops_among told (configs_of asked.sides) (asked.asks ∷ []) last stops

-- at the asks
pub asks_unread : (told : Option Contents) (asked : Asking) (left right : Network) (last : Option (List ℕ)) →
    AreBuilt told asked.sides left right → TellsOnly asked.asks last → StopsAt told (in_order asked) last
asks_unread told asked left right last all only =
    let P : List (List ℕ) → Type 0 = λ names. StopsAt told names last in
    subst P (sym (append_assoc asked.sides.left asked.sides.right (asked.asks ∷ [])))
    (stops_after told asked.sides.left (asked.sides.right ++ asked.asks ∷ []) last
    (network_there told asked.sides.left left.files all.left_read)
    (stops_after told asked.sides.right (asked.asks ∷ []) last
    (network_there told asked.sides.right right.files all.right_read) (stops_at told asked.asks last only)))

-- ---- what comes of what is asked for

pub loads_stopped : (told : Option Contents) (asked : Asking) (r : Reads) (why : Stop) →
    UnlessReadFault {A = Loaded} (Err why) (r.faults_now ≡ r.faults) →
    UnlessReadFault {A = Loaded} (Err why) (r.last_now ≡ r.last) →
    OnStop why (λ line. ComesTo told asked (Err (refused line)))
    (Rose r.faults r.faults_now × StopsAt told (in_order asked) r.last_now) → LoadsSo told asked r (Err why)
loads_stopped told asked r (stop.Refused line) quiet stays said = ((quiet, stays), said)
loads_stopped told asked r stop.ReadFault quiet stays said = said
loads_stopped told asked r stop.Memory quiet stays said = (quiet, stays)

-- of the words
pub works_stopped : (told : Option Contents) (asked : Asking) (asking : Option Asking) (r : Reads) (why : Stop) →
    asking ≡ Some asked → LoadsSo told asked r (Err why) → WorksBy told asking r (Err why)
works_stopped told asked asking r (stop.Refused line) is so = (asked, is, so)
works_stopped told asked asking r stop.ReadFault is so = (asked, is, so)
works_stopped told asked asking r stop.Memory is so = so
