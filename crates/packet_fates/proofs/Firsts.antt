-- The first fate that one of two ordered lists alone has.
use Rattle.std.proofs.Common.{◌≡◌, ℕ, ◌<◌, true, false, List, length, get_or}
use Rattle.std.proofs.Common.{Option}
use Rattle.std.proofs.Common.{Some, None, refl, sym, ap, subst, arith, ◌∙◌, ◌⊎◌, inl, inr}
use Rattle.std.specs.Prelude.{AllPairs, Contains, IfSome, slice_get}
use Rattle.std.specs.declared.cmp.Ordering.{Ordering}
use Rattle.std.specs.declared.cmp.Ordering.TheVariants.{Less, Equal, Greater}
use Rattle.std.specs.Ordering.{is_eq, ordering_reverse}
use Rattle.std.proofs.lemmas.Cmp.{tied_itself}
use Rattle.std.proofs.lemmas.Bool.{cases_order}
use Rattle.std.proofs.lemmas.Option.{get_or_from_slice_get, slice_get_read, slice_get_within}
use Rattle.packet_fates.specs.declared.fate.Fate.{Fate}
use Rattle.packet_fates.specs.Order.{Precedes, fate_order}
use Rattle.packet_fates.proofs.Putting.{same_fate, total}
use Rattle.packet_fates.specs.declared.apart.Side.{Side}
use Rattle.packet_fates.specs.declared.apart.Side.TheVariants.{Left, Right}
use Rattle.packet_fates.specs.Sides.{AreSame, IsAloneOn, IsFirstApart, IsOnlyOf}
use Rattle.ios_ast.specs.declared.file.File.{File}
use Rattle.route_record.specs.declared.World.{World}
use Rattle.packet_fates.specs.declared.apart.Apart.{Apart}
use Rattle.packet_fates.specs.declared.apart.Place.{Place}
use Rattle.packet_fates.specs.Fates.{AreFates, HasFate}
use Rattle.packet_fates.specs.Places.{IsEarlier, IsFirstAlone, IsPlaceApart, is_same, list_on}

-- ---- one fate

tied_is : (o : Ordering) → is_eq o ≡ true → o ≡ Equal
tied_is Less h = cc
tied_is Equal h = refl
tied_is Greater h = cc

-- a fate that is the same as one of the list is there
pub same_there : (all : List Fate) (k : ℕ) (f g : Fate) → k < length all → g ≡ get_or all k g → is_same f g ≡ true →
    Contains all f
same_there all k f g within is same =
    let one : f ≡ g = same_fate f g (tied_is (fate_order f g) same) in
    let P : Fate → Type 0 = λ x. Contains all x in subst P (sym one) (k, within, sym is)

-- a fate is the same as itself
pub self_same : (f : Fate) → is_same f f ≡ true
self_same f = ap is_eq (tied_itself total f)

never_before : (f : Fate) → Precedes f f → ⊥
never_before f before = let both : Less ≡ Equal = sym before ∙ tied_itself total f in cc

pub none_there : (all : List Fate) (f : Fate) →
    ((k : ℕ) (d : Fate) → k < length all → is_same f (get_or all k d) ≡ false) → Contains all f → ⊥
none_there all f none (k, within, is) =
    let here : is_same f f ≡ false = ap (is_same f) (sym is) ∙ none k f within in
    let both : true ≡ false = sym (self_same f) ∙ here in cc

-- ---- the place of a fate

place_of : (xs : List Fate) (f : Fate) → Contains xs f → (k : ℕ) × (slice_get xs k ≡ Some f)
place_of xs f (k, within, is) = (k, slice_get_read xs (length xs) k f refl within (sym is))

has_at : (xs : List Fate) (k : ℕ) (f : Fate) → slice_get xs k ≡ Some f → Contains xs f
has_at xs k f found = (k, slice_get_within xs k f found, get_or_from_slice_get xs k f f found)

-- in an ordered list the first fate that the others lack comes before all others that they lack
pub first_of : (own others : List Fate) (at : ℕ) → AllPairs Precedes own → (is : IsFirstAlone own others at) →
    (f : Fate) → IsOnlyOf (Contains own) (Contains others) f → (is.fate ≡ f) ⊎ Precedes is.fate f
first_of own others at up is f (has, lacks) =
    let (k, found) = place_of own f has in
    elim (cases_order k at) [
      | inr (inl before) ↦ absurd (lacks (is.before k f before found))
      | inl same ↦ let here : Some is.fate ≡ Some f = sym is.found ∙ ap (slice_get own) (sym same) ∙ found in
          inl cc
      | inr (inr after) ↦ let within = slice_get_within own k f found in
          let P : Fate → Type 0 = λ x. Precedes x f in
          let Q : Fate → Type 0 = λ x. Precedes (get_or own at f) x in
          inr (subst P (get_or_from_slice_get own at is.fate f is.found)
          (subst Q (get_or_from_slice_get own k f f found) (up at k f after within)))
    ]

not_before : (x f : Fate) → (x ≡ f) ⊎ Precedes x f → Precedes f x → ⊥
not_before x f (inl same) before =
    let P : Fate → Type 0 = λ y. Precedes f y in never_before f (subst P same before)
not_before x f (inr after) before = never_before x (total.trans x f x after before)

-- ---- which side

pub left_first : (left right : List Fate) (at : ℕ) → AllPairs Precedes left → (is : IsFirstAlone left right at) →
    ((f : Fate) → IsOnlyOf (Contains right) (Contains left) f → Precedes is.fate f) →
    IsFirstApart (Contains left) (Contains right) Left is.fate
left_first left right at up is others = record {
  alone = (has_at left at is.fate is.found, is.alone);
  first = λ f alone before. elim alone [
    | inl own ↦ not_before is.fate f (first_of left right at up is f own) before
    | inr other ↦ not_before is.fate f (inr (others f other)) before
  ];
}

pub right_first : (left right : List Fate) (at : ℕ) → AllPairs Precedes right → (is : IsFirstAlone right left at) →
    ((f : Fate) → IsOnlyOf (Contains left) (Contains right) f → Precedes is.fate f) →
    IsFirstApart (Contains left) (Contains right) Right is.fate
right_first left right at up is others = record {
  alone = (has_at right at is.fate is.found, is.alone);
  first = λ f alone before. elim alone [
    | inl other ↦ not_before is.fate f (inr (others f other)) before
    | inr own ↦ not_before is.fate f (first_of right left at up is f own) before
  ];
}

-- what comes before the first that a list alone has comes before all of them
pub before_all : (own others : List Fate) (at : ℕ) (x : Fate) → AllPairs Precedes own →
    (is : IsFirstAlone own others at) → Precedes x is.fate → (f : Fate) → IsOnlyOf (Contains own) (Contains others) f →
    Precedes x f
before_all own others at x up is before f alone = elim (first_of own others at up is f alone) [
  | inl same ↦ let P : Fate → Type 0 = λ y. Precedes x y in subst P same before
  | inr after ↦ total.trans x is.fate f before after
]

-- of two fates that are two the one comes before the other
pub other_first : (a b : Fate) → (Precedes a b → ⊥) → (a ≡ b → ⊥) → Precedes b a
other_first a b not_first apart = by_order (fate_order a b) refl where
  by_order : (o : Ordering) → fate_order a b ≡ o → Precedes b a
  by_order Less is = absurd (not_first is)
  by_order Equal is = absurd (apart (same_fate a b is))
  by_order Greater is = total.antisymm b a ∙ ap ordering_reverse is

pub none_only : (own others : List Fate) (x : Fate) → ((f : Fate) → Contains own f → Contains others f) → (f : Fate) →
    IsOnlyOf (Contains own) (Contains others) f → Precedes x f
none_only own others x all f (has, lacks) = absurd (lacks (all f has))

-- ---- fates as worlds have them

pub first_for : (L R : Fate → Type 0) (left right : List Fate) (side : Side) (fate : Fate) →
    ((f : Fate) → Contains left f → L f) → ((f : Fate) → L f → Contains left f) →
    ((f : Fate) → Contains right f → R f) → ((f : Fate) → R f → Contains right f) →
    IsFirstApart (Contains left) (Contains right) side fate → IsFirstApart L R side fate
first_for L R left right side fate to_l from_l to_r from_r is =
    record { alone = by_side side is.alone; first = λ f alone before. is.first f (both f alone) before }
  where
    by_side : (s : Side) → IsAloneOn (Contains left) (Contains right) s fate →
        IsAloneOn L R s fate
    by_side Left (has, lacks) = (to_l fate has, λ r. lacks (from_r fate r))
    by_side Right (has, lacks) = (to_r fate has, λ l. lacks (from_l fate l))

    both : (f : Fate) → IsOnlyOf L R f ⊎ IsOnlyOf R L f →
        IsOnlyOf (Contains left) (Contains right) f ⊎ IsOnlyOf (Contains right) (Contains left) f
    both f (inl (has, lacks)) = inl (from_l f has, λ r. lacks (to_r f r))
    both f (inr (has, lacks)) = inr (from_r f has, λ l. lacks (to_l f l))

pub apart_for : (files others : List File) (one other : World) (start other_start : ℕ) (left right : List Fate)
    (found : Option Apart) → AreFates files one start left → AreFates others other other_start right →
    IfSome found (λ a. IsFirstApart (Contains left) (Contains right) a.side a.fate) →
    IfSome found (λ a. IsFirstApart (HasFate files one start) (HasFate others other other_start) a.side a.fate)
apart_for files others one other start other_start left right None own beside is = tt
apart_for files others one other start other_start left right (Some a) own beside is =
    first_for (HasFate files one start) (HasFate others other other_start) left right a.side a.fate own.sound own.whole
    beside.sound beside.whole is

pub same_for : (files others : List File) (one other : World) (start other_start : ℕ) (left right : List Fate) →
    AreFates files one start left → AreFates others other other_start right →
    AreSame (Contains left) (Contains right) →
    AreSame (HasFate files one start) (HasFate others other other_start)
same_for files others one other start other_start left right own beside same = record {
  to = λ fate has. beside.sound fate (same.to fate (own.whole fate has));
  from = λ fate has. own.sound fate (same.from fate (beside.whole fate has));
}

-- ---- the place that is found

pub alone_left : (left right : List Fate) (at : ℕ) (place : Place) → place ≡ record { side = Left; at = at } →
    AllPairs Precedes left → IsFirstAlone left right at →
    ((f : Fate) → Contains right f → Contains left f) → IsPlaceApart left right place
alone_left left right at place made up is all =
    subst (λ p. IsPlaceApart left right p) (sym made) (record {
      fate = is.fate;
      found = is.found;
      first = left_first left right at up is (none_only right left is.fate all);
    })

pub alone_right : (left right : List Fate) (at : ℕ) (place : Place) → place ≡ record { side = Right; at = at } →
    AllPairs Precedes right → IsFirstAlone right left at →
    ((f : Fate) → Contains left f → Contains right f) → IsPlaceApart left right place
alone_right left right at place made up is all =
    subst (λ p. IsPlaceApart left right p) (sym made) (record {
      fate = is.fate;
      found = is.found;
      first = right_first left right at up is (none_only left right is.fate all);
    })

pub earlier_apart : (left right : List Fate) (one other : ℕ) (place : Place) → AllPairs Precedes left →
    AllPairs Precedes right → IsFirstAlone left right one → IsFirstAlone right left other →
    IsEarlier left right one other place → IsPlaceApart left right place
earlier_apart left right one other place up up_too is also chosen = by_side place.side chosen where
  by_side : (side : Side) → IsEarlier left right one other (record { side = side; at = place.at }) →
      IsPlaceApart left right (record { side = side; at = place.at })
  by_side Left (same, before) = record {
    fate = is.fate;
    found = ap (slice_get left) same ∙ is.found;
    first = left_first left right one up is
        (before_all right left other is.fate up_too also (before is.fate also.fate is.found also.found));
  }
  by_side Right (same, not_first) = record {
    fate = also.fate;
    found = ap (slice_get right) same ∙ also.found;
    first = right_first left right other up_too also
        (before_all left right one also.fate up is
        (other_first is.fate also.fate (not_first is.fate also.fate is.found also.found)
        (λ one_fate. let P : Fate → Type 0 = λ f. Contains right f in
        is.alone (subst P (sym one_fate) (has_at right other also.fate also.found)))));
  }

pub both_same : (left right : List Fate) → ((f : Fate) → Contains left f → Contains right f) →
    ((f : Fate) → Contains right f → Contains left f) → AreSame (Contains left) (Contains right)
both_same left right to from = record { to = to; from = from }

-- the fate at the place is the one that was found
pub taken_left : (left right : List Fate) (place : Place) (fate : Fate) → place.side ≡ Left →
    slice_get left place.at ≡ Some fate → IsPlaceApart left right place →
    IsFirstApart (Contains left) (Contains right) place.side fate
taken_left left right place fate side there is =
    let there_too : slice_get left place.at ≡ Some is.fate =
    ap (λ s. slice_get (list_on s left right) place.at) (sym side) ∙ is.found in
    let one : is.fate ≡ fate = cc in
    subst (λ f. IsFirstApart (Contains left) (Contains right) place.side f) one is.first

pub taken_right : (left right : List Fate) (place : Place) (fate : Fate) → place.side ≡ Right →
    slice_get right place.at ≡ Some fate → IsPlaceApart left right place →
    IsFirstApart (Contains left) (Contains right) place.side fate
taken_right left right place fate side there is =
    let there_too : slice_get right place.at ≡ Some is.fate =
    ap (λ s. slice_get (list_on s left right) place.at) (sym side) ∙ is.found in
    let one : is.fate ≡ fate = cc in
    subst (λ f. IsFirstApart (Contains left) (Contains right) place.side f) one is.first
