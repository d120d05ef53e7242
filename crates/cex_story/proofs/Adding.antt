-- Texts that are written piece by piece.
use Rattle.std.proofs.Common.{◌≡◌, ℕ, ◌+◌, ◌<◌, ◌≤◌, false, List, [], ◌∷◌, ◌++◌, length, map, take, get_or, codes, ap, sym, subst}
use Rattle.std.proofs.Common.{◌∙◌, append_assoc, append-nil}
use Rattle.std.specs.List.{flat_map}
use Rattle.std.proofs.lemmas.Grind.{flat_map-append}
use Rattle.std.proofs.lemmas.List.{take_all}
use Rattle.mw_text.proofs.Reading.{take-read}
use Rattle.ios_ast.specs.declared.file.File.{File}
use Rattle.question_lang.specs.declared.walk.Walk.{Walk}
use Rattle.cex_story.specs.declared.page.Page.{Page}
use Rattle.cex_story.specs.declared.telling.Said.{Said}
use Rattle.cex_story.specs.Pages.{Adds}
use Rattle.cex_story.specs.Stories.{end_words, said_text, TellsWalk}

pub adds_none : (page : Page) → Adds page page []
adds_none page kept = (kept, sym (append-nil page.text))

pub adds_then : (a b c : Page) (x y : List ℕ) → Adds a b x → Adds b c y → Adds a c (x ++ y)
adds_then a b c x y first next kept =
    let after = next kept in
    let before = first after.0 in
    (before.0, after.1 ∙ ap (λ t. t ++ y) before.1 ∙ append_assoc a.text x y)

flat_more : {X : Type 0} (f : X → List ℕ) (xs : List X) (i : ℕ) (x : X) → i < length xs → x ≡ get_or xs i x →
    flat_map f (take (i + 1) xs) ≡ flat_map f (take i xs) ++ f x
flat_more f xs i x within is =
    ap (flat_map f) (take-read xs i x within is) ∙ flat_map-append f (take i xs) (x ∷ [])
    ∙ ap (λ t. flat_map f (take i xs) ++ t) (append-nil (f x))

-- one piece more
pub adds_more : {X : Type 0} (f : X → List ℕ) (xs : List X) (i : ℕ) (x : X) (a b c : Page) → i < length xs →
    x ≡ get_or xs i x → Adds a b (flat_map f (take i xs)) → Adds b c (f x) → Adds a c (flat_map f (take (i + 1) xs))
adds_more f xs i x a b c within is so_far one =
    subst (Adds a c) (sym (flat_more f xs i x within is)) (adds_then a b c (flat_map f (take i xs)) (f x) so_far one)

-- no piece is left
pub adds_all : {X : Type 0} (f : X → List ℕ) (xs : List X) (i : ℕ) (a b : Page) → length xs ≤ i →
    Adds a b (flat_map f (take i xs)) → Adds a b (flat_map f xs)
adds_all f xs i a b done so_far = subst (λ l. Adds a b (flat_map f l)) (take_all i xs done) so_far

-- what is written of a walk
pub told : (files : List File) (walk : Walk) (saids : List Said) (front back text : List ℕ)
    (p0 p1 p2 p3 p4 p5 : Page) → p0.text ≡ [] → Adds p0 p1 front → Adds p1 p2 (flat_map (said_text files) saids) →
    Adds p2 p3 (codes "  end: ") → Adds p3 p4 (end_words walk.end) → Adds p4 p5 back →
    map (λ said. said.standing) saids ≡ walk.hops → p5.full ≡ false → text ≡ p5.text → TellsWalk files text walk
told files walk saids front back text p0 p1 p2 p3 p4 p5 none one two three four five standings kept is =
    let body : List ℕ = flat_map (said_text files) saids in
    let e5 = five kept in
    let e4 = four e5.0 in
    let e3 = three e4.0 in
    let e2 = two e3.0 in
    let e1 = one e2.0 in
    let end : List ℕ = codes "  end: " in
    let words : List ℕ = end_words walk.end in
    let t1 : p1.text ≡ front = e1.1 ∙ ap (λ t. t ++ front) none in
    let t2 : p2.text ≡ front ++ body = e2.1 ∙ ap (λ t. t ++ body) t1 in
    let t3 : p3.text ≡ front ++ body ++ end = e3.1 ∙ ap (λ t. t ++ end) t2 in
    let t4 : p4.text ≡ front ++ body ++ end ++ words = e4.1 ∙ ap (λ t. t ++ words) t3 in
    let t5 : p5.text ≡ front ++ body ++ end ++ words ++ back = e5.1 ∙ ap (λ t. t ++ back) t4 in
    (front, back, saids, standings, is ∙ t5)
