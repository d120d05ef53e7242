-- The places of common links, one link of the left network at a time.
use Rattle.std.proofs.Common.{◌≡◌, ℕ, ◌+◌, ◌<◌, ◌≤◌, Bool, true, false, ◌&&◌, List, [], ◌∷◌, ◌++◌, length, get_or}
use Rattle.std.proofs.Common.{Option, Some}
use Rattle.std.proofs.Common.{None, refl, sym, ap, subst, arith, ◌∙◌, inl, inr, eqb, eq-eqb, cond}
use Rattle.std.specs.Prelude.{Contains, nat_lt, position, slice_get}
use Rattle.std.specs.List.{position_or_len}
use Rattle.std.proofs.lemmas.Bool.{cases_order, ltb-false}
use Rattle.std.proofs.lemmas.List.Elements.{Contains-append_left, Contains-push, Contains-push_cases}
use Rattle.std.proofs.lemmas.List.Quantifiers.{position-Some}
use Rattle.std.proofs.lemmas.List.Sums.{fails_before_first}
use Rattle.std.proofs.lemmas.Option.{get_or_from_slice_get, slice_get-get_or, slice_get_within}
use Rattle.mw_text.specs.declared.address.Prefix.{Prefix}
use Rattle.mw_text.specs.Address.{same_prefix}
use Rattle.mw_text.proofs.Numbers.{earlier, not_both}
use Rattle.ios_ast.specs.declared.file.File.{File}
use Rattle.net_model.proofs.OneSubnet.{one_prefix}
use Rattle.net_parts.specs.declared.links.Link.{Link}
use Rattle.net_parts.specs.World.{links_of}
use Rattle.net_parts.proofs.Ascending.{before-apart, links_ascend}
use Rattle.paired_nets.specs.declared.links.LinkPair.{LinkPair}
use Rattle.paired_nets.specs.Links.{AreOneLink, ArePairs, with_pair}

-- ---- prefixes and places

pub self_prefix : (p : Prefix) → same_prefix p p ≡ true
self_prefix p =
    ap (λ b. b && eqb p.len p.len) (eq-eqb p.addr.0 p.addr.0 refl) ∙ eq-eqb p.len p.len refl

-- where a list has no such place no item passes
none_passes_at : {X : Type 0} (p : X → Bool) (xs : List X) (k : ℕ) (x : X) → position p xs ≡ None →
    slice_get xs k ≡ Some x → p x ≡ false
none_passes_at p xs k x none found = by_test (nat_lt (position_or_len p xs) (length xs)) refl none
  where
    by_test : (b : Bool) → nat_lt (position_or_len p xs) (length xs) ≡ b →
        cond b (Some (position_or_len p xs)) None ≡ None → p x ≡ false
    by_test true is gone = cc
    by_test false is gone =
        let past = ltb-false (position_or_len p xs) (length xs) is in
        let within = slice_get_within xs k x found in
        ap p (sym (get_or_from_slice_get xs k x x found))
        ∙ fails_before_first p xs k x (omega (arith, past, within))

abbrev on : Link → Link → Bool
on link l = same_prefix l.prefix link.prefix

-- a link with the subnet is the one at the place that was found
only_place : (files : List File) (link b : Link) (k other : ℕ) → position (on link) (links_of files) ≡ Some k →
    slice_get (links_of files) other ≡ Some b → link.prefix ≡ b.prefix → other ≡ k
only_place files link b k other found there same =
    let xs = links_of files in
    let (within, passes, fail) = position-Some (on link) xs k link found in
    let here : on link b ≡ true = ap (λ p. same_prefix b.prefix p) same ∙ self_prefix b.prefix in
    let read : get_or xs other link ≡ b = get_or_from_slice_get xs other b link there in
    let below = slice_get_within xs other b there in
    elim (cases_order other k) [
      | inl one ↦ one
      | inr (inl less) ↦ absurd (not_both (on link b) here (ap (on link) (sym read) ∙ fail other less))
      | inr (inr more) ↦ let before = links_ascend files k other link more below in
          let first : (get_or xs k link).prefix ≡ link.prefix =
          one_prefix (get_or xs k link).prefix link.prefix passes in
          let second : (get_or xs other link).prefix ≡ link.prefix = ap (λ l. l.prefix) read ∙ sym same in
          let apart = before-apart (get_or xs k link).prefix (get_or xs other link).prefix before in
          absurd (not_both (same_prefix link.prefix link.prefix) (self_prefix link.prefix)
          (ap (λ p. same_prefix p link.prefix) (sym first)
          ∙ ap (λ p. same_prefix (get_or xs k link).prefix p) (sym second) ∙ apart))
    ]

-- ---- the pairs so far

pub record ArePairsBelow (left right : List File) (bound : ℕ) (pairs : List LinkPair) : Type 0 where
  pub sound : (pair : LinkPair) → Contains pairs pair → AreOneLink left right pair.one pair.other
  pub whole : (one other : ℕ) → one < bound → AreOneLink left right one other →
      Contains pairs (record { one = one; other = other })

pub no_pairs : (left right : List File) (pairs : List LinkPair) → pairs ≡ [] → ArePairsBelow left right 0 pairs
no_pairs left right pairs none =
    subst (λ ps. ArePairsBelow left right 0 ps) (sym none) (record {
      sound = λ pair (k, within, _). absurd (omega (arith, within));
      whole = λ one other below is. absurd (omega (arith, below));
    })

same_link : (files : List File) (at one : ℕ) (link a : Link) → one ≡ at → slice_get (links_of files) at ≡ Some link →
    slice_get (links_of files) one ≡ Some a → link ≡ a
same_link files at one link a same there found =
    let here : slice_get (links_of files) at ≡ Some a = ap (slice_get (links_of files)) (sym same) ∙ found in cc

pub pairs_more : (left right : List File) (at : ℕ) (link : Link) (found : Option ℕ) (out new : List LinkPair) →
    slice_get (links_of left) at ≡ Some link → found ≡ position (on link) (links_of right) →
    new ≡ with_pair out at found → ArePairsBelow left right at out → ArePairsBelow left right (at + 1) new
pairs_more left right at link None out new there place made so_far =
    subst (λ ps. ArePairsBelow left right (at + 1) ps) (sym made) (record {
      sound = so_far.sound;
      whole = λ one other below (a, b, on_left, on_right, same). elim (earlier one at below) [
        | inl before ↦ so_far.whole one other before (a, b, on_left, on_right, same)
        | inr here ↦ let is = same_link left at one link a here there on_left in
            let one_subnet : link.prefix ≡ b.prefix = ap (λ l. l.prefix) is ∙ same in
            let passes : on link b ≡ true = ap (λ p. same_prefix b.prefix p) one_subnet ∙ self_prefix b.prefix in
            absurd (not_both (on link b) passes (none_passes_at (on link) (links_of right) other b (sym place) on_right))
      ];
    })
pairs_more left right at link (Some k) out new there place made so_far =
    let (within, passes, _) = position-Some (on link) (links_of right) k link (sym place) in
    let b = get_or (links_of right) k link in
    let pair : LinkPair = record { one = at; other = k } in
    let is : AreOneLink left right at k = (
      link,
      b,
      there,
      slice_get-get_or (links_of right) k link within,
      sym (one_prefix b.prefix link.prefix passes),
    ) in
    subst (λ ps. ArePairsBelow left right (at + 1) ps) (sym made) (record {
      sound = λ other has. elim (Contains-push_cases out pair other has) [
        | inl before ↦ so_far.sound other before
        | inr same ↦ subst (λ p. AreOneLink left right p.one p.other) same is
      ];
      whole = λ one other below (a, c, on_left, on_right, same). elim (earlier one at below) [
        | inl before ↦ Contains-append_left out (pair ∷ []) (record { one = one; other = other })
            (so_far.whole one other before (a, c, on_left, on_right, same))
        | inr here ↦ let own = same_link left at one link a here there on_left in
            let one_subnet : link.prefix ≡ c.prefix = ap (λ l. l.prefix) own ∙ same in
            let place_is = only_place right link c k other (sym place) on_right one_subnet in
            let first : pair ≡ record { one = one; other = k } = ap (λ n. record { one = n; other = k }) (sym here) in
            let second : LinkPair = record { one = one; other = other } in
            let all : pair ≡ second = first ∙ ap (λ n. record { one = one; other = n }) (sym place_is) in
            subst (λ p. Contains (out ++ pair ∷ []) p) all (Contains-push out pair)
      ];
    })

pub all_pairs : (left right : List File) (bound : ℕ) (pairs : List LinkPair) → length (links_of left) ≤ bound →
    ArePairsBelow left right bound pairs → ArePairs left right pairs
all_pairs left right bound pairs whole so_far = record {
  sound = so_far.sound;
  whole = λ one other (a, b, on_left, on_right, same).
      so_far.whole one other (omega (arith, whole, slice_get_within (links_of left) one a on_left))
      (a, b, on_left, on_right, same);
}
