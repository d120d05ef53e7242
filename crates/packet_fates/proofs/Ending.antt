-- The fates of the ends of marked routers, one router at a time.
use Rattle.std.proofs.Common.{◌≡◌, ℕ, ◌+◌, ◌<◌, ◌≤◌, Bool, true, false, List, [], length, Some, sym, ap, subst}
use Rattle.std.proofs.Common.{arith, ◌∙◌, ◌⊎◌, inl, inr}
use Rattle.std.specs.Prelude.{Contains, fold, slice_get}
use Rattle.std.specs.BTreeSet.{insert_key}
use Rattle.std.proofs.lemmas.Option.{slice_get_within}
use Rattle.ios_ast.specs.declared.file.File.{File}
use Rattle.question_lang.specs.declared.walk.Hop.{Hop}
use Rattle.walk_def.specs.Marks.{known}
use Rattle.packet_fates.specs.declared.fate.Fate.{Fate}
use Rattle.packet_fates.specs.declared.fate.Fate.TheVariants.{Loop}
use Rattle.packet_fates.specs.Ends.{AreThose, IsEndOf, IsFateOf, put_hop}
use Rattle.packet_fates.specs.Fates.{IsFateAt}
use Rattle.packet_fates.specs.Order.{fate_order}
use Rattle.packet_fates.specs.Reaching.{hops_at}
use Rattle.packet_fates.specs.Rounds.{SomeRound}
use Rattle.packet_fates.proofs.Putting.{found_from, found_has, found_keeps, found_up, hops_from, hops_have, hops_keep}
use Rattle.packet_fates.proofs.Putting.{hops_up}

-- a hop of an earlier marked router is that fate
abbrev pub IsEndBelow : List File → List (List Hop) → List Bool → ℕ → Fate → Type 0
IsEndBelow files all marks bound fate =
    (router : ℕ) × (file : File) × (slice_get files router ≡ Some file) × (router < bound) × (known marks router ≡ true)
    × IsFateAt file.hostname (hops_at all router) fate

pub none_below : (files : List File) (all : List (List Hop)) (marks : List Bool) (out : List Fate) → out ≡ [] →
    AreThose (IsEndBelow files all marks 0) out
none_below files all marks out none =
    subst (λ fs. AreThose (IsEndBelow files all marks 0) fs) (sym none) (record {
      sound = λ fate (k, within, is). absurd (omega (arith, within));
      whole = λ fate (router, file, found, below, marked, is). absurd (omega (arith, below));
      ordered = λ i j d below within. absurd (omega (arith, within));
    })

-- a router that is not marked has none
pub skip_router : (files : List File) (all : List (List Hop)) (marks : List Bool) (at : ℕ) (out : List Fate) →
    known marks at ≡ false → AreThose (IsEndBelow files all marks at) out →
    AreThose (IsEndBelow files all marks (at + 1)) out
skip_router files all marks at out unmarked so_far = record {
  sound = λ fate has.
      let (router, file, found, below, marked, is) = so_far.sound fate has in
      (router, file, found, omega (arith, below), marked, is);
  whole = λ fate (router, file, found, below, marked, is).
      elim (earlier router below) [
        | inl before ↦ so_far.whole fate (router, file, found, before, marked, is)
        | inr same ↦ let both : known marks router ≡ false = ap (known marks) same ∙ unmarked in cc
      ];
  ordered = so_far.ordered;
}
  where
    earlier : (router : ℕ) → router < at + 1 → (router < at) ⊎ (router ≡ at)
    earlier router below = grind (arith, below)

-- the ends of a marked one are put to those before
pub put_router : (files : List File) (all : List (List Hop)) (marks : List Bool) (at : ℕ) (file : File)
    (own : List Hop) (out new : List Fate) → known marks at ≡ true → slice_get files at ≡ Some file →
    hops_at all at ≡ own → new ≡ fold (put_hop file.hostname) out own →
    AreThose (IsEndBelow files all marks at) out → AreThose (IsEndBelow files all marks (at + 1)) new
put_router files all marks at file own out new marked found hops made so_far =
    subst (λ fs. AreThose (IsEndBelow files all marks (at + 1)) fs) (sym made) (record {
      sound = λ fate has. elim (hops_from file.hostname own out fate has) [
        | inl before ↦ let (router, other, there, below, is_marked, is) = so_far.sound fate before in
            (router, other, there, omega (arith, below), is_marked, is)
        | inr is ↦ (at, file, found, omega arith, marked, here fate is)
      ];
      whole = λ fate (router, other, there, below, is_marked, is). elim (earlier router below) [
        | inl before ↦ hops_keep file.hostname own out fate
            (so_far.whole fate (router, other, there, before, is_marked, is))
        | inr same ↦ hops_have file.hostname own out fate (as_here fate router other same there is)
      ];
      ordered = hops_up file.hostname own out so_far.ordered;
    })
  where
    here : (fate : Fate) → IsFateAt file.hostname own fate → IsFateAt file.hostname (hops_at all at) fate
    here fate is = let P : List Hop → Type 0 = λ xs. IsFateAt file.hostname xs fate in subst P (sym hops) is

    earlier : (router : ℕ) → router < at + 1 → (router < at) ⊎ (router ≡ at)
    earlier router below = grind (arith, below)

    as_here : (fate : Fate) (router : ℕ) (other : File) → router ≡ at → slice_get files router ≡ Some other →
        IsFateAt other.hostname (hops_at all router) fate → IsFateAt file.hostname own fate
    as_here fate router other same there is =
        let there_too : slice_get files at ≡ Some other = ap (slice_get files) (sym same) ∙ there in
        let one : other ≡ file = cc in
        let P : File → Type 0 = λ f. IsFateAt f.hostname (hops_at all router) fate in
        let Q : List Hop → Type 0 = λ xs. IsFateAt file.hostname xs fate in
        subst Q (ap (hops_at all) same ∙ hops) (subst P one is)

-- all routers are earlier than their number
pub all_ends : (files : List File) (all : List (List Hop)) (marks : List Bool) (bound : ℕ) (out : List Fate) →
    length files ≤ bound → AreThose (IsEndBelow files all marks bound) out → AreThose (IsEndOf files all marks) out
all_ends files all marks bound out whole so_far = record {
  sound = λ fate has.
      let (router, file, found, _, marked, is) = so_far.sound fate has in (router, file, found, marked, is);
  whole = λ fate (router, file, found, marked, is).
      so_far.whole fate (
        router,
        file,
        found,
        omega (arith, whole, slice_get_within files router file found),
        marked,
        is,
      );
  ordered = so_far.ordered;
}

-- ---- and to come back

pub with_loop : (files : List File) (all : List (List Hop)) (marks : List Bool) (out new : List Fate) →
    new ≡ insert_key fate_order out Loop → SomeRound all marks → AreThose (IsEndOf files all marks) out →
    AreThose (IsFateOf files all marks) new
with_loop files all marks out new made round those =
    subst (λ fs. AreThose (IsFateOf files all marks) fs) (sym made) (record {
      sound = λ fate has. elim (found_from out (Some Loop) fate has) [
        | inl before ↦ inl (those.sound fate before)
        | inr is ↦ let same : fate ≡ Loop = cc in inr (same, round)
      ];
      whole = λ fate is. by_case fate is;
      ordered = found_up out (Some Loop) those.ordered;
    })
  where
    by_case : (fate : Fate) → IsFateOf files all marks fate → Contains (insert_key fate_order out Loop) fate
    by_case fate (inl is) = found_keeps out (Some Loop) fate (those.whole fate is)
    by_case fate (inr (same, _)) = found_has out (Some Loop) fate (ap Some (sym same))

pub without_loop : (files : List File) (all : List (List Hop)) (marks : List Bool) (out : List Fate) →
    (SomeRound all marks → ⊥) → AreThose (IsEndOf files all marks) out → AreThose (IsFateOf files all marks) out
without_loop files all marks out none those = record {
  sound = λ fate has. inl (those.sound fate has);
  whole = λ fate is. by_case fate is;
  ordered = those.ordered;
}
  where
    by_case : (fate : Fate) → IsFateOf files all marks fate → Contains out fate
    by_case fate (inl is) = those.whole fate is
    by_case fate (inr (_, round)) = absurd (none round)
