-- The places of common ends, one at a time.
use Rattle.std.proofs.Common.{◌≡◌, ℕ, ◌+◌, ◌<◌, ◌≤◌, Bool, true, false, List, [], ◌∷◌, ◌++◌, length, Some, refl, sym}
use Rattle.std.proofs.Common.{ap}
use Rattle.std.proofs.Common.{subst, arith, ◌∙◌, ◌⊎◌, inl, inr}
use Rattle.std.specs.Prelude.{Contains, slice_get}
use Rattle.std.proofs.lemmas.List.Elements.{Contains-append_left, Contains-push, Contains-push_cases}
use Rattle.std.proofs.lemmas.Option.{slice_get_within}
use Rattle.mw_text.proofs.Numbers.{earlier}
use Rattle.ios_ast.specs.declared.file.File.{File}
use Rattle.net_parts.specs.declared.sessions.SessionEnd.{SessionEnd}
use Rattle.net_parts.specs.Sessions.{ends_of}
use Rattle.paired_nets.specs.declared.ends.EndPair.{EndPair}
use Rattle.paired_nets.specs.Ends.{AreCommonEnds, AreEndPairs, AreOneEnd, ArePut, IsPairOf, with_pair}

-- ---- the ends of the right network, one at a time

-- the pairs of this end with the others below the bound are put
pub record PutBelow (left right : List File) (a : SessionEnd) (one : ℕ) (others : List SessionEnd) (bound : ℕ)
    (before now : List EndPair) : Type 0 where
  pub kept : (pair : EndPair) → Contains before pair → Contains now pair
  pub sound : (pair : EndPair) → Contains now pair → Contains before pair ⊎ IsPairOf left right a one others pair
  pub whole : (other : ℕ) (b : SessionEnd) → other < bound → slice_get others other ≡ Some b →
      AreCommonEnds left right a b → Contains now (record { one = one; other = other })

pub put_none : (left right : List File) (a : SessionEnd) (one : ℕ) (others : List SessionEnd) (before : List EndPair) →
    PutBelow left right a one others 0 before before
put_none left right a one others before = record {
  kept = λ pair has. has;
  sound = λ pair has. inl has;
  whole = λ other b below there common. absurd (omega (arith, below));
}

same_end : (others : List SessionEnd) (other at : ℕ) (b c : SessionEnd) → other ≡ at → slice_get others at ≡ Some b →
    slice_get others other ≡ Some c → b ≡ c
same_end others other at b c same here there =
    let too : slice_get others at ≡ Some c = ap (slice_get others) (sym same) ∙ there in cc

pub put_more : (left right : List File) (a : SessionEnd) (one : ℕ) (others : List SessionEnd) (at : ℕ)
    (b : SessionEnd) (common : Bool) (before now then : List EndPair) → slice_get others at ≡ Some b →
    (common ≡ true → AreCommonEnds left right a b) → (common ≡ false → AreCommonEnds left right a b → ⊥) →
    then ≡ with_pair now one at common → PutBelow left right a one others at before now →
    PutBelow left right a one others (at + 1) before then
put_more left right a one others at b false before now then there is is_not made so_far =
    subst (λ ps. PutBelow left right a one others (at + 1) before ps) (sym made) (record {
      kept = so_far.kept;
      sound = so_far.sound;
      whole = λ other c below found common. elim (earlier other at below) [
        | inl less ↦ so_far.whole other c less found common
        | inr same ↦ let P : SessionEnd → Type 0 = λ e. AreCommonEnds left right a e in
            absurd (is_not refl (subst P (sym (same_end others other at b c same there found)) common))
      ];
    })
put_more left right a one others at b true before now then there is is_not made so_far =
    let pair : EndPair = record { one = one; other = at } in
    subst (λ ps. PutBelow left right a one others (at + 1) before ps) (sym made) (record {
      kept = λ other has. Contains-append_left now (pair ∷ []) other (so_far.kept other has);
      sound = λ other has. elim (Contains-push_cases now pair other has) [
        | inl earlier_on ↦ so_far.sound other earlier_on
        | inr same ↦ inr (subst (λ p. IsPairOf left right a one others p) same (refl, (b, there, is refl)))
      ];
      whole = λ other c below found common. elim (earlier other at below) [
        | inl less ↦ Contains-append_left now (pair ∷ []) (record { one = one; other = other })
            (so_far.whole other c less found common)
        | inr same ↦ let all : pair ≡ record { one = one; other = other } =
            ap (λ n. record { one = one; other = n }) (sym same) in
            subst (λ p. Contains (now ++ pair ∷ []) p) all (Contains-push now pair)
      ];
    })

pub put_all : (left right : List File) (a : SessionEnd) (one : ℕ) (others : List SessionEnd) (bound : ℕ)
    (before now : List EndPair) → length others ≤ bound → PutBelow left right a one others bound before now →
    ArePut left right a one others before now
put_all left right a one others bound before now whole so_far = record {
  kept = so_far.kept;
  sound = so_far.sound;
  whole = λ other b there common.
      so_far.whole other b (omega (arith, whole, slice_get_within others other b there)) there common;
}

-- ---- the ends of the left network, one at a time

pub record AreEndPairsBelow (left right : List File) (bound : ℕ) (pairs : List EndPair) : Type 0 where
  pub sound : (pair : EndPair) → Contains pairs pair → AreOneEnd left right pair.one pair.other
  pub whole : (one other : ℕ) → one < bound → AreOneEnd left right one other →
      Contains pairs (record { one = one; other = other })

pub no_ends : (left right : List File) (pairs : List EndPair) → pairs ≡ [] → AreEndPairsBelow left right 0 pairs
no_ends left right pairs none =
    subst (λ ps. AreEndPairsBelow left right 0 ps) (sym none) (record {
      sound = λ pair (k, within, _). absurd (omega (arith, within));
      whole = λ one other below is. absurd (omega (arith, below));
    })

pub ends_more : (left right : List File) (at : ℕ) (a : SessionEnd) (out new : List EndPair) →
    slice_get (ends_of left) at ≡ Some a → ArePut left right a at (ends_of right) out new →
    AreEndPairsBelow left right at out → AreEndPairsBelow left right (at + 1) new
ends_more left right at a out new there put so_far = record {
  sound = λ pair has. elim (put.sound pair has) [
    | inl before ↦ so_far.sound pair before
    | inr (same, (b, found, common)) ↦ (a, b, ap (slice_get (ends_of left)) same ∙ there, found, common)
  ];
  whole = λ one other below (e, b, on_left, on_right, common). elim (earlier one at below) [
    | inl before ↦ put.kept (record { one = one; other = other })
        (so_far.whole one other before (e, b, on_left, on_right, common))
    | inr same ↦ let P : SessionEnd → Type 0 = λ x. AreCommonEnds left right x b in
        let own = subst P (sym (same_end (ends_of left) one at a e same there on_left)) common in
        let all : record { one = at; other = other } ≡ record { one = one; other = other } =
        ap (λ n. record { one = n; other = other }) (sym same) in
        subst (λ (p : EndPair). Contains new p) all (put.whole other b on_right own)
  ];
}

pub all_ends : (left right : List File) (bound : ℕ) (pairs : List EndPair) → length (ends_of left) ≤ bound →
    AreEndPairsBelow left right bound pairs → AreEndPairs left right pairs
all_ends left right bound pairs whole so_far = record {
  sound = so_far.sound;
  whole = λ one other (a, b, on_left, on_right, common).
      so_far.whole one other (omega (arith, whole, slice_get_within (ends_of left) one a on_left))
      (a, b, on_left, on_right, common);
}

-- as the files and the ends were read
pub ends_read : (left right fs gs : List File) (xs others : List SessionEnd) (at : ℕ) (a : SessionEnd)
    (out new : List EndPair) → fs ≡ left → gs ≡ right → xs ≡ ends_of left → others ≡ ends_of right →
    slice_get xs at ≡ Some a → ArePut fs gs a at others out new → AreEndPairsBelow left right at out →
    AreEndPairsBelow left right (at + 1) new
ends_read left right fs gs xs others at a out new on_left on_right ends beside there put so_far =
    let P : List File → Type 0 = λ ys. ArePut ys gs a at others out new in
    let Q : List File → Type 0 = λ ys. ArePut left ys a at others out new in
    let R : List SessionEnd → Type 0 = λ ys. ArePut left right a at ys out new in
    ends_more left right at a out new (ap (λ ys. slice_get ys at) (sym ends) ∙ there)
    (subst R beside (subst Q on_right (subst P on_left put))) so_far
