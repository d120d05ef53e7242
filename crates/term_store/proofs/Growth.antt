-- What stays true of a store when a node is put into it.
use Rattle.std.proofs.Common.{◌≡◌, ℕ, ◌+◌, ◌<◌, ◌≤◌, List, [], ◌∷◌, ◌++◌, slice_get, get_or, length, Some, ◌⊎◌, inl}
use Rattle.std.proofs.Common.{inr, ⊎_elim, sym, ap, subst, ◌∙◌, arith}
use Rattle.std.proofs.lemmas.Option.{slice_get_within, get_or_from_slice_get, slice_get-get_or}
use Rattle.std.proofs.lemmas.List.{get_or_append_left, length_push}
use Rattle.std.proofs.Math.Seq.{get_or-append_seam}
use Rattle.std.proofs.lemmas.Bool.{cases_lt}
use Rattle.term_store.specs.declared.Node.{Node}
use Rattle.term_store.specs.declared.Node.TheVariants.{Const, Var, Not, And, Or, Xor, Ite}
use Rattle.term_store.specs.Terms.{Store, Reading, size, gate, IsBelow, IsSound, Puts}
use Rattle.term_store.specs.Reading.{Reads, Stands, Grows, Builds}

-- an item stays where it is when another is put last
pub slice_get_push : {X : Type 0} (xs : List X) (x y : X) (i : ℕ) → slice_get xs i ≡ Some y
    → slice_get (xs ++ x ∷ []) i ≡ Some y
slice_get_push xs x y i h =
    let within = slice_get_within xs i y h in
    slice_get-get_or (xs ++ x ∷ []) i y (omega (arith, length_push xs x))
    ∙ ap Some (get_or_append_left xs (x ∷ []) y i within ∙ get_or_from_slice_get xs i y y h)

-- the last item
pub slice_get_last : {X : Type 0} (xs : List X) (x : X) → slice_get (xs ++ x ∷ []) (length xs) ≡ Some x
slice_get_last xs x =
    slice_get-get_or (xs ++ x ∷ []) (length xs) x (omega (arith, length_push xs x))
    ∙ ap Some (get_or-append_seam xs x [] x)

-- an item of the longer list was there before, or it is the last one
pub push_cases : {X : Type 0} (xs : List X) (x y : X) (i : ℕ) → slice_get (xs ++ x ∷ []) i ≡ Some y
    → (slice_get xs i ≡ Some y) ⊎ ((i ≡ length xs) × (y ≡ x))
push_cases xs x y i h =
    let within : i < length xs + 1 = subst (λ n. i < n) (length_push xs x) (slice_get_within (xs ++ x ∷ []) i y h) in
    ⊎_elim
    (λ below. inl (slice_get-get_or xs i y below
    ∙ ap Some (sym (get_or_append_left xs (x ∷ []) y i below) ∙ get_or_from_slice_get (xs ++ x ∷ []) i y y h)))
    (λ last. let e : i ≡ length xs = omega arith in
    inr (
      e,
      sym (get_or_from_slice_get (xs ++ x ∷ []) i y y h) ∙ ap (λ k. get_or (xs ++ x ∷ []) k y) e
          ∙ get_or-append_seam xs x [] y,
    ))
    (cases_lt i (length xs))

-- numbers that are below a limit are below a larger one
pub IsBelow-more : (limit vars limit' vars' : ℕ) (n : Node) → limit ≤ limit' → vars ≤ vars' → IsBelow limit vars n
    → IsBelow limit' vars' n
IsBelow-more l v l' v' (Const b) h g p = tt
IsBelow-more l v l' v' (Var k) h g p = omega arith
IsBelow-more l v l' v' (Not a) h g p = omega arith
IsBelow-more l v l' v' (And a b) h g p = (omega arith, omega arith)
IsBelow-more l v l' v' (Or a b) h g p = (omega arith, omega arith)
IsBelow-more l v l' v' (Xor a b) h g p = (omega arith, omega arith)
IsBelow-more l v l' v' (Ite c a b) h g p = (omega arith, omega arith, omega arith)

-- more variables change nothing
pub IsSound-more : (nodes : List Node) (vars vars' : ℕ) → IsSound nodes vars → vars ≤ vars'
    → vars' ≤ 9223372036854775808 → IsSound nodes vars'
IsSound-more nodes vars vars' sound more few = record {
  below = λ i m h. IsBelow-more i vars i vars' m (omega arith) more (sound.below i m h);
  few = few;
}

-- a node above its operands may be put last
pub IsSound-push : (nodes : List Node) (vars vars' : ℕ) (n : Node) → IsSound nodes vars → vars ≤ vars'
    → vars' ≤ 9223372036854775808 → IsBelow (length nodes) vars' n → IsSound (nodes ++ n ∷ []) vars'
IsSound-push nodes vars vars' n sound more few fits = record {
  below = λ i m h. ⊎_elim
      (λ old. IsBelow-more i vars i vars' m (omega arith) more (sound.below i m old))
      (λ last. subst (λ x. IsBelow i vars' x) (sym last.1) (subst (λ k. IsBelow k vars' n) (sym last.0) fits))
      (push_cases nodes n m i h);
  few = few;
}

-- a node of the store is above its operands
pub IsBelow-at : (nodes : List Node) (vars i : ℕ) (d : Node) → IsSound nodes vars → i < length nodes
    → IsBelow i vars (get_or nodes i d)
IsBelow-at nodes vars i d sound h = sound.below i (get_or nodes i d) (slice_get-get_or nodes i d h)

-- the next variable has no node yet, so its node goes last
pub Puts-next_var : (nodes : List Node) (vars : ℕ) (new : List Node) → IsSound nodes vars → Puts nodes (Var vars) new
    → new ≡ nodes ++ Var vars ∷ []
Puts-next_var nodes vars new sound puts = ⊎_elim
    (λ known. let there = known.0 in
    let below : vars < vars =
    sound.below there.0 (Var vars) (slice_get-get_or nodes there.0 (Var vars) there.1 ∙ ap Some there.2) in
    absurd (omega arith))
    (λ last. last.1)
    puts

-- a reading gives a node that stands the value of its gate
pub Reads-at : (w : Reading) (s : Store) (i : ℕ) (n : Node) → Reads w s → slice_get s.nodes i ≡ Some n
    → w.node i ≡ gate w n
unfolding Reads
Reads-at w s i n reads h = reads i n h

-- what stands is the node of the list
pub Stands-slice_get : (s : Store) (i : ℕ) (n : Node) → Stands s i n → slice_get s.nodes i ≡ Some n
unfolding Stands
Stands-slice_get s i n h = h

pub Stands-from : (s : Store) (i : ℕ) (n : Node) → slice_get s.nodes i ≡ Some n → Stands s i n
unfolding Stands
Stands-from s i n h = h

pub Stands-get_or : (s : Store) (i : ℕ) (d : Node) → i < size s → Stands s i (get_or s.nodes i d)
unfolding Stands
Stands-get_or s i d h = slice_get-get_or s.nodes i d h

-- a node that stands has a number below the size
pub Stands-within : (s : Store) (i : ℕ) (n : Node) → Stands s i n → i < size s
unfolding Stands
Stands-within s i n h = slice_get_within s.nodes i n h

-- the same, by the node's number
pub Reads-get_or : (w : Reading) (s : Store) (i : ℕ) (d : Node) → i < size s → Reads w s
    → w.node i ≡ gate w (get_or s.nodes i d)
Reads-get_or w s i d h reads = Reads-at w s i (get_or s.nodes i d) reads (slice_get-get_or s.nodes i d h)

-- the same, of the node that stands last
pub Reads-last : (w : Reading) (s : Store) (nodes : List Node) (i : ℕ) (n : Node) → s.nodes ≡ nodes ++ n ∷ []
    → i ≡ length nodes → Reads w s → w.node i ≡ gate w n
Reads-last w s nodes i n e at reads =
    Reads-at w s i n reads
    (ap (λ l. slice_get l i) e ∙ ap (λ k. slice_get (nodes ++ n ∷ []) k) at ∙ slice_get_last nodes n)

-- a store grows where its nodes stay and one is put last
pub Grows-push : (s t : Store) (n : Node) → t.nodes ≡ s.nodes ++ n ∷ [] → s.vars ≤ t.vars → Grows s t
unfolding Reads Stands
Grows-push s t n e more = record {
  larger = omega (arith, ap length e, length_push s.nodes n);
  more_vars = more;
  reads = λ w reads i m h. reads i m (ap (λ l. slice_get l i) e ∙ slice_get_push s.nodes n m i h);
  keeps = λ i m h. ap (λ l. slice_get l i) e ∙ slice_get_push s.nodes n m i h;
}

-- a store grows where its nodes stay
pub Grows-same : (s t : Store) → t.nodes ≡ s.nodes → s.vars ≤ t.vars → Grows s t
unfolding Reads Stands
Grows-same s t e more = record {
  larger = omega (arith, ap length e);
  more_vars = more;
  reads = λ w reads i m h. reads i m (ap (λ l. slice_get l i) e ∙ h);
  keeps = λ i m h. ap (λ l. slice_get l i) e ∙ h;
}

Grows-Puts : (s t : Store) (n : Node) → Puts s.nodes n t.nodes → s.vars ≤ t.vars → Grows s t
Grows-Puts s t n puts more = ⊎_elim (λ known. Grows-same s t known.1 more) (λ last. Grows-push s t n last.1 more) puts

pub Builds-Puts : (s t : Store) (n : Node) → Puts s.nodes n t.nodes → t.vars ≡ s.vars → Builds s t
Builds-Puts s t n puts same =
    let more : s.vars ≤ t.vars = omega arith in
    let grows = Grows-Puts s t n puts more in
    record { larger = grows.larger; same_vars = same; reads = grows.reads; keeps = grows.keeps }
