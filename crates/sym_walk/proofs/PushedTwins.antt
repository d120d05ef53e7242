-- Tables of forwardings with one router more.
use Rattle.std.proofs.Common.{◌≡◌, ℕ, zero, suc, ◌+◌, max, List, [], ◌∷◌, ◌++◌, length, Some, refl, sym}
use Rattle.std.proofs.Common.{ap, subst, ◌∙◌, arith, ◌⊎◌, inl, inr}
use Rattle.std.specs.Prelude.{slice_get}
use Rattle.std.proofs.lemmas.List.{map-append}
use Rattle.ios_ast.specs.declared.file.File.{File}
use Rattle.route_record.specs.declared.World.{World}
use Rattle.question_lang.specs.declared.question.Kind.{Kind}
use Rattle.term_store.specs.Terms.{Reading}
use Rattle.sym_forwarding.specs.declared.forwarding.SymForwarding.{SymForwarding}
use Rattle.sym_forwarding.specs.Layers.{Forwarding}
use Rattle.sym_forwarding.specs.Symbolic.{forwarding_end, forwarding_of, table_end, table_of}
use Rattle.sym_walk.specs.TwinTables.{AreTwins, IsTwinOf}

-- an item of a list that is one longer
pushed : {A : Type 0} (xs : List A) (x y : A) (i : ℕ) → slice_get (xs ++ x ∷ []) i ≡ Some y →
    (slice_get xs i ≡ Some y) ⊎ ((i ≡ length xs) × (x ≡ y))
pushed [] x y zero h = let same : x ≡ y = cc in inr (refl, same)
pushed [] x y (suc i) h = cc
pushed (z ∷ xs) x y zero h = inl h
pushed (z ∷ xs) x y (suc i) h =
    elim (pushed xs x y i h) [
      | inl before ↦ inl before
      | inr here ↦ let place : suc i ≡ length (z ∷ xs) = ap suc here.0 in inr (place, here.1)
    ]

pub longer_by_one : {A : Type 0} (xs : List A) (x : A) → length (xs ++ x ∷ []) ≡ length xs + 1
longer_by_one [] x = refl
longer_by_one (z ∷ xs) x = let rest = longer_by_one xs x in omega arith

pub twins_none : (files : List File) (world : World) (kind : Kind) → AreTwins files world kind 0 []
twins_none files world kind = record { long = refl; each = λ router f h. cc }

pub twins_push : (files : List File) (world : World) (kind : Kind) (many : ℕ) (table : List Forwarding)
    (f : Forwarding) → AreTwins files world kind many table → IsTwinOf files world kind many f →
    AreTwins files world kind (many + 1) (table ++ f ∷ [])
twins_push files world kind many table f twins twin = record {
  long = longer_by_one table f ∙ ap (λ n. n + 1) twins.long;
  each = λ router g h.
      elim (pushed table f g router h) [
        | inl before ↦ twins.each router g before
        | inr here ↦ let at : many ≡ router = sym (here.0 ∙ twins.long) in
            let P : ℕ → Type 0 = λ r. IsTwinOf files world kind r g in
            let Q : Forwarding → Type 0 = λ x. IsTwinOf files world kind many x in
            subst P at (subst Q here.1 twin)
      ];
}

-- the same, of a symbolic table
pub twins_pushed : (w : Reading) (files : List File) (world : World) (kind : Kind) (many : ℕ)
    (table : List SymForwarding) (f : SymForwarding) → AreTwins files world kind many (table_of w table) →
    IsTwinOf files world kind many (forwarding_of w f) →
    AreTwins files world kind (many + 1) (table_of w (table ++ f ∷ []))
twins_pushed w files world kind many table f twins twin =
    let P : List Forwarding → Type 0 = λ t. AreTwins files world kind (many + 1) t in
    subst P (sym (map-append (forwarding_of w) table (f ∷ [])))
    (twins_push files world kind many (table_of w table) (forwarding_of w f) twins twin)

pub table_end_push : (table : List SymForwarding) (f : SymForwarding) →
    table_end (table ++ f ∷ []) ≡ max (table_end table) (forwarding_end f)
table_end_push [] f = omega arith
table_end_push (g ∷ gs) f = let rest = table_end_push gs f in omega arith
