-- Routers, interfaces and questions are found by their names as they are written.
use Rattle.std.proofs.Common.{◌≡◌, ℕ, ◌^◌, ◌<◌, ◌≤◌, ◌==◌, List, length, Option, Some, refl}
use Rattle.std.proofs.Common.{arith, false}
use Rattle.std.proofs.lemmas.Bool.{le-leb}
use Rattle.std.proofs.lemmas.Option.{slice_get_within}
use Rattle.std.specs.List.{list_any}
use Rattle.std.specs.Prelude.{slice_get}
use Rattle.std.specs.Str.Lossy.{utf8_lossy}
use Rattle.mw_text.proofs.Lists.{all_found, item_there}
use Rattle.ios_ast.specs.declared.file.File.{File}
use Rattle.question_lang.specs.declared.question.Question.{Question}
use Rattle.question_lang.specs.Asking.{router_named}
use Rattle.cex_json.specs.Fields.{greatest, place_of}
use Rattle.cex_json.specs.Parts.{iface_name, router_name}
use Rattle.cex_json.specs.Reading.{question_named}
use Rattle.cex_json.specs.Standings.{iface_at, iface_named}
use Rattle.cex_json.specs.Text.{question_name}
use Rattle.cex_json.specs.Writable.{AreNamed, AreTexts, IsIfaceThere, IsWritableNet}
use Rattle.cex_json.proofs.Places.{as_written, text_found}

-- a place that a number of 32 bits can name
pub place_there : (found : Option ℕ) (at : ℕ) → found ≡ Some at → at ≤ greatest → place_of found ≡ Some at
unfolding place_of
place_there found at is fits = rw is (rw (le-leb at greatest fits) refl)

-- of a list with few members each place fits
pub place_fits : {A : Type 0} (xs : List A) (at : ℕ) (x : A) → slice_get xs at ≡ Some x → length xs ≤ 2 ^ 32 →
    at ≤ greatest
place_fits xs at x there few = let within : at < length xs = slice_get_within xs at x there in omega arith

-- the name of a router
router_found : (files : List File) (router : ℕ) (file : File) → AreTexts (λ f. f.hostname) files →
    slice_get files router ≡ Some file → router_named files (utf8_lossy (router_name files router)) ≡ Some router
router_found files router file texts there = rw there (text_found (λ f. f.hostname) files router file texts there)

pub are_named : (files : List File) → AreTexts (λ file. file.hostname) files → AreNamed files
are_named files texts router within =
    let there = item_there files router within in router_found files router there.0 texts there.1

-- the name of an interface of a router
pub iface_found : (files : List File) (router at : ℕ) → IsWritableNet files → IsIfaceThere files router at →
    iface_named files router (utf8_lossy (iface_name files router at)) ≡ Some at
unfolding iface_named iface_at
iface_found files router at net there =
    let file = there.0 in
    let texts : AreTexts (λ iface. iface.name) file.interfaces =
    all_found (λ f. AreTexts (λ iface. iface.name) f.interfaces) files router file net.ifaces there.1 in
    let iface = item_there file.interfaces at there.2 in
    rw there.1 (rw iface.1 (place_there _ at (text_found (λ x. x.name) file.interfaces at iface.0 texts iface.1)
    (place_fits file.interfaces at iface.0 iface.1 texts.few)))

-- the name of a question
pub question_found : (questions : List Question) (at : ℕ) (question : Question) → AreTexts (λ q. q.name) questions →
    slice_get questions at ≡ Some question →
    question_named questions (utf8_lossy (question_name questions at)) ≡ Some at
unfolding question_named
question_found questions at question texts there =
    rw there (place_there _ at (text_found (λ q. q.name) questions at question texts there)
    (place_fits questions at question there texts.few))

-- the name of a router has no blank
pub is_word : (files : List File) (router : ℕ) → IsWritableNet files → router < length files →
    list_any (λ b. b == 32) (utf8_lossy (router_name files router)) ≡ false
is_word files router net within =
    let there = item_there files router within in
    rw there.1 (rw (as_written (λ f. f.hostname) files router there.0 net.routers there.1)
    (all_found (λ f. list_any (λ b. b == 32) f.hostname ≡ false) files router there.0 net.words there.1))
