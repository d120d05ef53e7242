-- The fates that are put are the possible ones.
use Rattle.std.proofs.Common.{◌≡◌, ℕ, zero, suc, ◌+◌, List, [], ◌∷◌, Some, refl, sym, ap, subst, arith}
use Rattle.std.proofs.Common.{◌⊎◌, inl, inr}
use Rattle.std.specs.Prelude.{AllPairs, Contains, slice_get}
use Rattle.std.specs.BTreeSet.{insert_key}
use Rattle.std.proofs.lemmas.Option.{same_Some}
use Rattle.mw_text.specs.Members.{In}
use Rattle.ios_ast.specs.declared.file.File.{File}
use Rattle.net_parts.proofs.LeastWalks.{contains-in, in-cases, in-contains, in-left, in-map, in-right}
use Rattle.packet_fates.specs.declared.fate.Fate.{Fate}
use Rattle.packet_fates.specs.declared.fate.Fate.TheVariants.{Delivered, Left, BlackHole, Loop}
use Rattle.packet_fates.specs.Ends.{AreThose}
use Rattle.packet_fates.specs.Order.{Precedes, fate_order}
use Rattle.packet_fates.proofs.Putting.{found_from, found_has, found_keeps, found_up}
use Rattle.slot_places.proofs.Members.{map-in}
use Rattle.leaving_addresses.specs.Leaving.{leaving}
use Rattle.possible_fates.specs.Possible.{EachFate, HasPossible, IsPossible}
use Rattle.possible_fates.specs.Putting.{fates_at, fates_from, fates_in, left_at, put_all}

-- ---- what a list has with more

from_put : (more out : List Fate) (g : Fate) → Contains (put_all out more) g → Contains out g ⊎ In g more
from_put [] out g has = inl has
from_put (f ∷ rest) out g has = elim (from_put rest (insert_key fate_order out f) g has) [
  | inl before ↦ elim (found_from out (Some f) g before) [
    | inl earlier ↦ inl earlier
    | inr is ↦ inr (inl (sym (same_Some f g is)))
  ]
  | inr later ↦ inr (inr later)
]

kept_put : (more out : List Fate) (g : Fate) → Contains out g → Contains (put_all out more) g
kept_put [] out g has = has
kept_put (f ∷ rest) out g has = kept_put rest (insert_key fate_order out f) g (found_keeps out (Some f) g has)

has_put : (more out : List Fate) (g : Fate) → In g more → Contains (put_all out more) g
has_put [] out g there = absurd there
has_put (f ∷ rest) out g (inl same) =
    kept_put rest (insert_key fate_order out f) g (found_has out (Some f) g (ap Some (sym same)))
has_put (f ∷ rest) out g (inr later) = has_put rest (insert_key fate_order out f) g later

up_put : (more out : List Fate) → AllPairs Precedes out → AllPairs Precedes (put_all out more)
up_put [] out up = up
up_put (f ∷ rest) out up = up_put rest (insert_key fate_order out f) (found_up out (Some f) up)

none_apart : AllPairs Precedes []
none_apart = λ i j d below within. absurd (omega (arith, within))

-- ---- the possible fates

-- a fate at one of some routers
from_routers : (files : List File) (router : ℕ) (rest : List File) (g : Fate) → In g (fates_from files router rest) →
    (k : ℕ) × (file : File) × (slice_get rest k ≡ Some file)
    × In g (fates_at file.hostname (leaving files (router + k)))
from_routers files router [] g there = absurd there
from_routers files router (file ∷ rest) g there = elim (in-cases g (fates_at file.hostname (leaving files router))
    (fates_from files (router + 1) rest) there) [
      | inl here ↦ let same : router ≡ router + 0 = omega arith in
          (0, file, refl, subst (λ r. In g (fates_at file.hostname (leaving files r))) same here)
      | inr later ↦ let (k, other, found, is) = from_routers files (router + 1) rest g later in
          let same : (router + 1) + k ≡ router + suc k = omega arith in
          (suc k, other, found, subst (λ r. In g (fates_at other.hostname (leaving files r))) same is)
    ]

at_router : (files : List File) (router : ℕ) (rest : List File) (k : ℕ) (file : File) (g : Fate) →
    slice_get rest k ≡ Some file → In g (fates_at file.hostname (leaving files (router + k))) →
    In g (fates_from files router rest)
at_router files router [] k file g found there = absurd cc
at_router files router (first ∷ rest) zero file g found there =
    let same : router + 0 ≡ router = omega arith in
    let one : file ≡ first = sym (same_Some first file found) in
    let here = subst (λ r. In g (fates_at file.hostname (leaving files r))) same there in
    in-left g (fates_at first.hostname (leaving files router)) (fates_from files (router + 1) rest)
    (subst (λ (f : File). In g (fates_at f.hostname (leaving files router))) one here)
at_router files router (first ∷ rest) (suc k) file g found there =
    let same : router + suc k ≡ (router + 1) + k = omega arith in
    in-right g (fates_at first.hostname (leaving files router)) (fates_from files (router + 1) rest)
    (at_router files (router + 1) rest k file g found
    (subst (λ r. In g (fates_at file.hostname (leaving files r))) same there))

is_possible : (files : List File) (g : Fate) → In g (fates_in files) → IsPossible files g
is_possible files g (inl lost) = subst (IsPossible files) (sym lost) tt
is_possible files g (inr (inl back)) = subst (IsPossible files) (sym back) tt
is_possible files g (inr (inr there)) =
    let (k, file, found, is) = from_routers files 0 files g there in
    let same : 0 + k ≡ k = omega arith in
    by_fate k file found (subst (λ r. In g (fates_at file.hostname (leaving files r))) same is)
  where
    by_fate : (k : ℕ) (file : File) → slice_get files k ≡ Some file →
        In g (fates_at file.hostname (leaving files k)) → IsPossible files g
    by_fate k file found (inl delivered) =
        subst (IsPossible files) (sym delivered) (k, (file, found, refl))
    by_fate k file found (inr left) =
        let (a, listed, same) = in-map (λ a. Left file.hostname a) (leaving files k) g left in
        subst (IsPossible files) (sym same) (k, (file, found, refl), in-contains a (leaving files k) listed)

possible_is : (files : List File) (g : Fate) → IsPossible files g → In g (fates_in files)
possible_is files (Delivered name) (router, (file, found, named)) =
    inr (inr (at_router files 0 files router file (Delivered name) found (inl (ap (λ n. Delivered n) (sym named)))))
possible_is files (Left name a) (router, (file, found, named), has) =
    let same : router ≡ 0 + router = omega arith in
    let listed = map-in (λ b. Left file.hostname b) (leaving files router) a (contains-in a (leaving files router) has) in
    let here = subst (λ n. In (Left n a) (left_at file.hostname (leaving files router))) named listed in
    inr (inr (at_router files 0 files router file (Left name a) found
    (inr (subst (λ r. In (Left name a) (left_at file.hostname (leaving files r))) same here))))
possible_is files BlackHole is = inl refl
possible_is files Loop is = inr (inl refl)

-- ---- of one network, and of two

pub those_of_one : (files : List File) (out : List Fate) → out ≡ put_all [] (fates_in files) →
    AreThose (IsPossible files) out
those_of_one files out made = subst (AreThose (IsPossible files)) (sym made) (record {
  sound = λ g has. elim (from_put (fates_in files) [] g has) [
    | inl (k, within, is) ↦ absurd (omega (arith, within))
    | inr there ↦ is_possible files g there
  ];
  whole = λ g is. has_put (fates_in files) [] g (possible_is files g is);
  ordered = up_put (fates_in files) [] none_apart;
})

abbrev pub IsOfEither : List File → List File → Fate → Type 0
IsOfEither left right fate = IsPossible left fate ⊎ IsPossible right fate

pub those_of_two : (left right : List File) (out : List Fate) →
    out ≡ put_all (put_all [] (fates_in left)) (fates_in right) → AreThose (IsOfEither left right) out
those_of_two left right out made = subst (AreThose (IsOfEither left right)) (sym made) (record {
  sound = λ g has. elim (from_put (fates_in right) (put_all [] (fates_in left)) g has) [
    | inl before ↦ elim (from_put (fates_in left) [] g before) [
      | inl (k, within, is) ↦ absurd (omega (arith, within))
      | inr there ↦ inl (is_possible left g there)
    ]
    | inr there ↦ inr (is_possible right g there)
  ];
  whole = λ g is. whole g is;
  ordered = up_put (fates_in right) (put_all [] (fates_in left)) (up_put (fates_in left) [] none_apart);
})
  where
    whole : (g : Fate) → IsOfEither left right g → Contains (put_all (put_all [] (fates_in left)) (fates_in right)) g
    whole g (inl is) =
        kept_put (fates_in right) (put_all [] (fates_in left)) g
        (has_put (fates_in left) [] g (possible_is left g is))
    whole g (inr is) = has_put (fates_in right) (put_all [] (fates_in left)) g (possible_is right g is)

-- ---- a list that has all possible fates has all that packets have

has_each : (files : List File) (out : List Fate) → ((g : Fate) → IsPossible files g → Contains out g) →
    EachFate files (IsPossible files) → HasPossible files out
has_each files out whole each world environment start fate may stable has =
    whole fate (each world environment start fate may stable has)

pub each_of_one : (files : List File) (out : List Fate) → out ≡ put_all [] (fates_in files) →
    EachFate files (IsPossible files) → HasPossible files out
each_of_one files out made each = has_each files out (those_of_one files out made).whole each

pub each_of_left : (left right : List File) (out : List Fate) →
    out ≡ put_all (put_all [] (fates_in left)) (fates_in right) → EachFate left (IsPossible left) →
    HasPossible left out
each_of_left left right out made each =
    has_each left out (λ g is. (those_of_two left right out made).whole g (inl is)) each

pub each_of_right : (left right : List File) (out : List Fate) →
    out ≡ put_all (put_all [] (fates_in left)) (fates_in right) → EachFate right (IsPossible right) →
    HasPossible right out
each_of_right left right out made each =
    has_each right out (λ g is. (those_of_two left right out made).whole g (inr is)) each
