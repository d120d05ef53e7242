-- A bad word is the first one.
use Rattle.std.proofs.Common.{◌≡◌, ℕ, zero, suc, ◌+◌, ◌≤◌, Bool, true, false, ◌&&◌, cond, List, [], ◌∷◌}
use Rattle.std.proofs.Common.{◌++◌, length, take, nat_eq, Option, Some, None, is_some, Ok, Err, option_map}
use Rattle.std.proofs.Common.{inl, inr, refl, sym, ap, subst, ◌∙◌, arith}
use Rattle.std.specs.List.{list_all}
use Rattle.std.specs.Option.{option_map_or, option_or}
use Rattle.std.proofs.lemmas.Bool.{and_parts, or_cases, false≢true}
use Rattle.ios_policy_reader.specs.declared.cause.Cause.TheVariants.{BadWord}
use Rattle.ios_policy_reader.specs.declared.said.Said.{Said}
use Rattle.ios_policy_reader.specs.declared.said.Value.{Value}
use Rattle.ios_policy_reader.specs.declared.edges.Edge.{Edge}
use Rattle.ios_policy_reader.specs.declared.edges.Way.{Way}
use Rattle.ios_policy_reader.specs.Edges.{said_by, goes, leaves, way_of, may_end, read_from}
use Rattle.ios_policy_reader.specs.Least.{BeginsFrom, IsFirstBadFrom, opens, sample, first_from, closes}
use Rattle.ios_policy_reader.specs.Least.{no_dead_end}
use Rattle.ios_policy_reader.proofs.Openings.{open_says}

-- ---- one word

some_of : {A : Type 0} (o : Option A) → is_some o ≡ true → (x : A) × (o ≡ Some x)
some_of None h = absurd (false≢true h)
some_of (Some x) h = (x, refl)

-- the way along an edge that leaves the state
leaves-yes : (from : ℕ) (said : List Said) (at : ℕ) (word : List ℕ) (edge : Edge) → nat_eq edge.0 from ≡ true
    → leaves from said at word edge ≡ option_map (goes edge) (said_by edge.1 said at word)
leaves-yes from said at word edge h = rw h refl

leaves-no : (from : ℕ) (said : List Said) (at : ℕ) (word : List ℕ) (edge : Edge) → nat_eq edge.0 from ≡ false
    → leaves from said at word edge ≡ None
leaves-no from said at word edge h = rw h refl

-- where the first edge that leaves a state is open, its sample takes it
abbrev OpenWay : List Edge → ℕ → Edge → List Said → ℕ → Type 0
OpenWay edges from edge said at =
    (way : Way) × (way_of from said at (sample edge.1) edges ≡ Some way) × (way.to ≡ edge.3)

first_way : (edges : List Edge) (from : ℕ) (edge : Edge) → first_from from edges ≡ Some edge → opens edge.1 ≡ true
    → (said : List Said) (at : ℕ)
    → OpenWay edges from edge said at
first_way [] from edge h open_ said at = absurd cc
first_way (x ∷ rest) from edge h open_ said at =
    by (nat_eq x.0 from) refl (λ later. first_way rest from edge later open_ said at)
  where
    by : (b : Bool) → nat_eq x.0 from ≡ b → (first_from from rest ≡ Some edge → OpenWay rest from edge said at)
        → OpenWay (x ∷ rest) from edge said at
    by true e later =
        let here : Some x ≡ Some edge = rw e at h in
        let same : x ≡ edge = cc in
        let some = some_of (said_by edge.1 said at (sample edge.1)) (open_says edge.1 said at open_) in
        let way : Way = goes edge some.0 in
        let leaving : leaves from said at (sample edge.1) x ≡ Some way =
        ap (leaves from said at (sample edge.1)) same
        ∙ leaves-yes from said at (sample edge.1) edge (subst (λ (y : Edge). nat_eq y.0 from ≡ true) same e)
        ∙ ap (option_map (goes edge)) some.1 in
        (way, ap (λ o. option_or o (way_of from said at (sample edge.1) rest)) leaving, refl)
    by false e later =
        let there : OpenWay rest from edge said at = later (rw e at h) in
        let not_here = leaves-no from said at (sample edge.1) x e in
        (there.0, ap (λ o. option_or o (way_of from said at (sample edge.1) rest)) not_here ∙ there.1, there.2)

-- ---- from a state that closes

-- a word that takes a way
read-step : (edges : List Edge) (from : ℕ) (said : List Said) (at : ℕ) (word : List ℕ) (rest : List (List ℕ))
    (way : Way)
    → way_of from said at word edges ≡ Some way
    → read_from edges from said at (word ∷ rest) ≡ read_from edges way.to (said ++ way.said ∷ []) (at + 1) rest
read-step edges from said at word rest way e =
    ap
    (λ o. option_map_or (λ (w : Way). read_from edges w.to (said ++ w.said ∷ []) (at + 1) rest) o
    (Err (BadWord (at + 1)))) e

-- some words make a line from there on
pub completes : (steps : ℕ) (edges : List Edge) (from : ℕ) → closes steps edges from ≡ true
    → (said : List Said) (at : ℕ) → BeginsFrom edges from said at []
unfolding closes
completes zero edges from h said at = absurd (false≢true h)
completes (suc steps) edges from h said at =
    elim (or_cases (may_end edges from) (option_map_or on_open (first_from from edges) false) h) [
      | inl plain ↦ ([], said, rw plain refl)
      | inr on ↦ by (first_from from edges) refl on (λ to c more at'. completes steps edges to c more at')
    ]
  where
    on_open : Edge → Bool
    on_open edge = opens edge.1 && closes steps edges edge.3

    by : (o : Option Edge) → first_from from edges ≡ o
        → option_map_or on_open o false ≡ true
        → ((to : ℕ) → closes steps edges to ≡ true → (said' : List Said) (at' : ℕ) → BeginsFrom edges to said' at' [])
        → BeginsFrom edges from said at []
    by None e g later = absurd (false≢true g)
    by (Some edge) e g later =
        let both = and_parts _ _ g in
        let open_way : OpenWay edges from edge said at = first_way edges from edge e both.0 said at in
        let rest : BeginsFrom edges open_way.0.to (said ++ open_way.0.said ∷ []) (at + 1) [] =
        later open_way.0.to (subst (λ k. closes steps edges k ≡ true) (sym open_way.2) both.1)
        (said ++ open_way.0.said ∷ []) (at + 1) in (
          sample edge.1 ∷ rest.0,
          rest.1,
          read-step edges from said at (sample edge.1) rest.0 open_way.0 open_way.1
              ∙ rest.2,
        )

-- ---- along a line

-- a way leads where its edge does
leaves-to : (from : ℕ) (said : List Said) (at : ℕ) (word : List ℕ) (edge : Edge) (way : Way)
    → leaves from said at word edge ≡ Some way → way.to ≡ edge.3
leaves-to from said at word edge way h = by (nat_eq edge.0 from) (said_by edge.1 said at word) h
  where
    by : (b : Bool) (o : Option Value) → cond b (option_map (goes edge) o) None ≡ Some way → way.to ≡ edge.3
    by true None e = absurd cc
    by true (Some v) e =
        let here : Way = goes edge v in
        let same : here ≡ way = cc in
        ap (λ (w : Way). w.to) (sym same)
    by false o e = absurd cc

module _ (edges : List Edge) where
  abbrev goes_on : Edge → Bool
  goes_on edge = closes 24 edges edge.3

  way_closes : (es : List Edge) → list_all goes_on es ≡ true
      → (from : ℕ) (said : List Said) (at : ℕ) (word : List ℕ) (way : Way)
      → way_of from said at word es ≡ Some way → closes 24 edges way.to ≡ true
  way_closes [] h from said at word way e = absurd cc
  way_closes (x ∷ rest) h from said at word way e =
      by (leaves from said at word x) refl e (λ there. way_closes rest (and_parts _ _ h).1 from said at word way there)
    where
      by : (o : Option Way) → leaves from said at word x ≡ o → option_or o (way_of from said at word rest) ≡ Some way
          → (way_of from said at word rest ≡ Some way → closes 24 edges way.to ≡ true) → closes 24 edges way.to ≡ true
      by None is there later = later there
      by (Some w) is there later =
          let same : w ≡ way = cc in
          subst (λ k. closes 24 edges k ≡ true) (sym (leaves-to from said at word x way (is ∙ ap Some same)))
          (and_parts _ _ h).0

  bad_from : list_all goes_on edges ≡ true → (words : List (List ℕ)) (from : ℕ) (said : List Said) (at n : ℕ)
      → closes 24 edges from ≡ true
      → read_from edges from said at words ≡ Err (BadWord n) → IsFirstBadFrom edges from said at words n
  bad_from each [] from said at n c h = by (may_end edges from) refl
    where
      by : (b : Bool) → may_end edges from ≡ b → IsFirstBadFrom edges from said at [] n
      by true e = let wrong : Ok said ≡ Err (BadWord n) = rw e at h in absurd cc
      by false e =
          let right : Err (BadWord (at + 1)) ≡ Err (BadWord n) = rw e at h in
          let same : at + 1 ≡ n = cc in
          record {
            good = 0;
            place = omega arith;
            within = omega arith;
            before = completes 24 edges from c said at;
            none = λ less b. absurd (omega arith);
          }
  bad_from each (w ∷ rest) from said at n c h = by (way_of from said at w edges) refl
      (λ way to later. bad_from each rest way.to (said ++ way.said ∷ []) (at + 1) n to later)
    where
      by : (o : Option Way) → way_of from said at w edges ≡ o
          → ((way : Way) → closes 24 edges way.to ≡ true
          → read_from edges way.to (said ++ way.said ∷ []) (at + 1) rest ≡ Err (BadWord n)
          → IsFirstBadFrom edges way.to (said ++ way.said ∷ []) (at + 1) rest n)
          → IsFirstBadFrom edges from said at (w ∷ rest) n
      by None e later =
          let right : Err (BadWord (at + 1)) ≡ Err (BadWord n) = rw e at h in
          let same : at + 1 ≡ n = cc in
          record {
            good = 0;
            place = omega arith;
            within = omega arith;
            before = completes 24 edges from c said at;
            none = λ less b. let wrong : Err (BadWord (at + 1)) ≡ Ok b.1 = rw e at b.2 in absurd cc;
          }
      by (Some way) e later =
          let next = said ++ way.said ∷ [] in
          let to : closes 24 edges way.to ≡ true = way_closes edges each from said at w way e in
          let rec : IsFirstBadFrom edges way.to next (at + 1) rest n =
          later way to (sym (read-step edges from said at w rest way e) ∙ h) in
          let placed : n ≡ at + 1 + rec.good + 1 = rec.place in
          let within : rec.good ≤ length rest = rec.within in
          record {
            good = suc rec.good;
            place = omega arith;
            within = omega arith;
            before = (
              rec.before.0,
              rec.before.1,
              read-step edges from said at w (take rec.good rest ++ rec.before.0) way e
                  ∙ rec.before.2,
            );
            none =
                λ less b. rec.none (omega arith)
                (b.0, b.1, sym (read-step edges from said at w (take (suc rec.good) rest ++ b.0) way e) ∙ b.2);
          }

-- where no state is a dead end
pub least : (edges : List Edge) (from : ℕ) → no_dead_end edges from ≡ true → (head : ℕ) (words : List (List ℕ)) (n : ℕ)
    → read_from edges from [] head words ≡ Err (BadWord n) → IsFirstBadFrom edges from [] head words n
least edges from h head words n e = let both = and_parts _ _ h in bad_from edges both.1 words from [] head n both.0 e
