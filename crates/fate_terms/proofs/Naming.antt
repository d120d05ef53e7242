-- Fates by endings at the routers of their names.
use Rattle.std.proofs.Common.{◌≡◌, ◌<◌, ◌+◌, ◌++◌, ◌||◌, ◌⊎◌, ◌∙◌, ℕ, Bool, true, List, [], ◌∷◌, None, Option, Some, ap, arith}
use Rattle.std.proofs.Common.{inl, inr, length, refl, subst, sym}
use Rattle.std.specs.Prelude.{◌↔◌, Result, Ok, Err, slice_get}
use Rattle.std.specs.declared.alloc.AllocError.{AllocError}
use Rattle.std.proofs.Math.Seq.{get_or-append_seam}
use Rattle.std.proofs.lemmas.Bool.{or_cases, or_left, or_right}
use Rattle.std.proofs.lemmas.List.{get_or_append_left}
use Rattle.std.proofs.lemmas.Option.{get_or_from_slice_get, same_Some, slice_get-get_or, slice_get_within}
use Rattle.ios_ast.specs.declared.file.File.{File}
use Rattle.mw_text.specs.declared.address.Addr.{Addr}
use Rattle.mw_text.proofs.Numbers.{earlier}
use Rattle.route_record.specs.declared.World.{World}
use Rattle.packet_fates.specs.declared.fate.Fate.{Fate}
use Rattle.packet_fates.specs.declared.fate.Fate.TheVariants.{Delivered, Left, BlackHole, Loop}
use Rattle.packet_fates.specs.Fates.{HasFate, IsCalled}
use Rattle.term_store.specs.declared.NodeId.{NodeId}
use Rattle.term_store.specs.Reading.{Gives}
use Rattle.term_store.specs.Terms.{Reading, Store, at}
use Rattle.fate_terms.specs.declared.ending.Ending.TheVariants as ends
use Rattle.fate_terms.specs.Endings.{HasEnding}
use Rattle.fate_terms.specs.Named.{AreFateNodes, EndsAmongCalled, EndsAtCalled}
use Rattle.sym_walk.proofs.PushedTwins.{longer_by_one}

-- ---- fates and endings

pub delivered_among : (files : List File) (world : World) (start : ℕ) (name : List ℕ) →
    EndsAmongCalled files world start name None (length files) ↔ HasFate files world start (Delivered name)
delivered_among files world start name = (
  λ (router, below, (called, (walk, is, begins, (end, (front, last, hops, stands))))).
      (walk, is, begins, (end, (front, last, hops, subst (IsCalled files name) (sym stands) called))),
  λ (walk, is, begins, (end, (front, last, hops, (file, there, named)))). (
    last.router,
    slice_get_within files last.router file there,
    (
      (file, there, named),
      (walk, is, begins, (end, (front, last, hops, refl))),
    ),
  ),
)

pub left_among : (files : List File) (world : World) (start : ℕ) (name : List ℕ) (a : Addr) →
    EndsAmongCalled files world start name (Some a) (length files) ↔ HasFate files world start (Left name a)
left_among files world start name a = (
  λ (router, below, (called, (walk, is, begins, (end, (front, last, hops, stands))))).
      (walk, is, begins, (end, (front, last, hops, subst (IsCalled files name) (sym stands) called))),
  λ (walk, is, begins, (end, (front, last, hops, (file, there, named)))). (
    last.router,
    slice_get_within files last.router file there,
    (
      (file, there, named),
      (walk, is, begins, (end, (front, last, hops, refl))),
    ),
  ),
)

-- ---- among one router more

pub none_among : (files : List File) (world : World) (start : ℕ) (name : List ℕ) (leaves : Option Addr) →
    EndsAmongCalled files world start name leaves 0 → ⊥
none_among files world start name leaves (router, less, ends) = omega (arith, less)

pub more_among : (files : List File) (world : World) (start : ℕ) (name : List ℕ) (leaves : Option Addr) (many : ℕ)
    (b c : Bool) → (b ≡ true ↔ EndsAmongCalled files world start name leaves many) →
    (c ≡ true ↔ EndsAtCalled files world start name leaves many) →
    ((b || c) ≡ true ↔ EndsAmongCalled files world start name leaves (many + 1))
more_among files world start name leaves many b c before here = (to, from) where
  on : b ≡ true ⊎ c ≡ true → EndsAmongCalled files world start name leaves (many + 1)
  on (inl holds) = let (router, less, ends) = before.0 holds in (router, omega (arith, less), ends)
  on (inr holds) = (many, omega arith, here.0 holds)

  to : (b || c) ≡ true → EndsAmongCalled files world start name leaves (many + 1)
  to holds = on (or_cases b c holds)

  from : EndsAmongCalled files world start name leaves (many + 1) → (b || c) ≡ true
  from (router, less, ends) = by (earlier router many less) where
    by : (router < many) ⊎ (router ≡ many) → (b || c) ≡ true
    by (inl before_it) = or_left b c (before.1 (router, before_it, ends))
    by (inr last) = or_right b c (here.1 (subst (EndsAtCalled files world start name leaves) last ends))

-- ---- fates that name a router

pub called_delivered : (files : List File) (world : World) (start : ℕ) (name n : List ℕ) (fate : Fate) → n ≡ name →
    fate ≡ Delivered name →
    (EndsAmongCalled files world start n None (length files) ↔ HasFate files world start fate)
called_delivered files world start name n fate same is =
    subst (λ (f : Fate). EndsAmongCalled files world start n None (length files) ↔ HasFate files world start f) (sym is)
    (subst (λ (m : List ℕ). EndsAmongCalled files world start m None (length files)
    ↔ HasFate files world start (Delivered name)) (sym same) (delivered_among files world start name))

pub called_left : (files : List File) (world : World) (start : ℕ) (name n : List ℕ) (a : Addr) (fate : Fate) →
    n ≡ name → fate ≡ Left name a →
    (EndsAmongCalled files world start n (Some a) (length files) ↔ HasFate files world start fate)
called_left files world start name n a fate same is =
    subst (λ (f : Fate). EndsAmongCalled files world start n (Some a) (length files) ↔ HasFate files world start f)
    (sym is)
    (subst (λ (m : List ℕ). EndsAmongCalled files world start m (Some a) (length files)
    ↔ HasFate files world start (Left name a)) (sym same) (left_among files world start name a))

-- a term that tells whether a walk ends so tells whether packets have the fate
pub gives_fate : (t : Store) (made : Result NodeId AllocError) (Needed : Reading → Type 0)
    (Ends Has : Reading → Type 0) → ((w : Reading) → Needed w → Ends w ↔ Has w) →
    Gives t made (λ w r. Needed w → at w r ≡ true ↔ Ends w) → Gives t made (λ w r. Needed w → at w r ≡ true ↔ Has w)
gives_fate t (Err e) Needed Ends Has both given = tt
gives_fate t (Ok r) Needed Ends Has both given = λ w reads needed.
    let told = given w reads needed in
    (λ holds. (both w needed).0 (told.0 holds), λ has. told.1 ((both w needed).1 has))

-- whatever else a term is said to be
pub gives_by : (t : Store) (made : Result NodeId AllocError) (Needed Has : Reading → Type 0)
    (Told : Reading → NodeId → Type 0) → ((w : Reading) (r : NodeId) → Needed w → Told w r → at w r ≡ true ↔ Has w) →
    Gives t made Told → Gives t made (λ w r. Needed w → at w r ≡ true ↔ Has w)
gives_by t (Err e) Needed Has Told by given = tt
gives_by t (Ok r) Needed Has Told by given = λ w reads needed. by w r needed (given w reads)

-- the other fates are endings
pub lost_fate : (files : List File) (world : World) (start : ℕ) (fate : Fate) → fate ≡ BlackHole →
    HasEnding files world start ends.BlackHole ↔ HasFate files world start fate
lost_fate files world start fate is =
    subst (λ (f : Fate). HasEnding files world start ends.BlackHole ↔ HasFate files world start f) (sym is)
    (λ has. has, λ has. has)

pub back_fate : (files : List File) (world : World) (start : ℕ) (fate : Fate) → fate ≡ Loop →
    HasEnding files world start ends.Loop ↔ HasFate files world start fate
back_fate files world start fate is =
    subst (λ (f : Fate). HasEnding files world start ends.Loop ↔ HasFate files world start f) (sym is)
    (λ has. has, λ has. has)

-- ---- a node more

slice_left : {X : Type 0} (xs : List X) (x y : X) (k : ℕ) → k < length xs → slice_get (xs ++ y ∷ []) k ≡ Some x →
    slice_get xs k ≡ Some x
slice_left xs x y k less there =
    slice_get-get_or xs k x less
    ∙ ap Some (sym (get_or_append_left xs (y ∷ []) x k less) ∙ get_or_from_slice_get (xs ++ y ∷ []) k x x there)

slice_last : {X : Type 0} (xs : List X) (x y : X) → slice_get (xs ++ y ∷ []) (length xs) ≡ Some x → y ≡ x
slice_last xs x y there =
    sym (get_or-append_seam xs y [] x) ∙ get_or_from_slice_get (xs ++ y ∷ []) (length xs) x x there

pub fates_more : (w : Reading) (files : List File) (world : World) (start : ℕ) (fates : List Fate)
    (ids all : List NodeId) (fate : Fate) (id : NodeId) → slice_get fates (length ids) ≡ Some fate →
    all ≡ ids ++ id ∷ [] → AreFateNodes w files world start fates ids →
    (at w id ≡ true ↔ HasFate files world start fate) → AreFateNodes w files world start fates all
fates_more w files world start fates ids all fate id next is told here = λ k f d at_f at_d.
    let there : slice_get (ids ++ id ∷ []) k ≡ Some d =
    subst (λ (xs : List NodeId). slice_get xs k ≡ Some d) is at_d in
    let long = longer_by_one ids id in
    let within = slice_get_within (ids ++ id ∷ []) k d there in
    by k f d at_f there (earlier k (length ids) (omega (arith, within, long)))
  where
    by : (k : ℕ) (f : Fate) (d : NodeId) → slice_get fates k ≡ Some f → slice_get (ids ++ id ∷ []) k ≡ Some d →
        (k < length ids) ⊎ (k ≡ length ids) → (at w d ≡ true ↔ HasFate files world start f)
    by k f d at_f at_d (inl before_it) = told k f d at_f (slice_left ids d id k before_it at_d)
    by k f d at_f at_d (inr last) =
        let node : id ≡ d =
        slice_last ids d id (subst (λ (n : ℕ). slice_get (ids ++ id ∷ []) n ≡ Some d) last at_d) in
        let same : fate ≡ f =
        same_Some fate f (sym next ∙ subst (λ (n : ℕ). slice_get fates n ≡ Some f) last at_f) in
        subst (λ (g : Fate). at w d ≡ true ↔ HasFate files world start g) same
        (subst (λ (e : NodeId). at w e ≡ true ↔ HasFate files world start fate) node here)
