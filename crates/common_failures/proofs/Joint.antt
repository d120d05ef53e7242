-- Failed links of two networks that are tied and counted are parts of one set of prefixes.
use Rattle.std.proofs.Common.{◌≡◌, ◌∙◌, ℕ, ◌+◌, ◌<◌, ◌≤◌, ◌⊎◌, inl, inr, Bool, true, false, List, ◌++◌, Contains}
use Rattle.std.proofs.Common.{arith, length, map, refl, subst, sym}
use Rattle.std.specs.Prelude.{All}
use Rattle.std.proofs.lemmas.List.{length-append, length-map}
use Rattle.std.proofs.lemmas.List.Elements.{All-append, All-contains, All-filter, All-map, All-weaker}
use Rattle.std.proofs.lemmas.List.Elements.{Contains-append_cases, Contains-append_left, Contains-append_right}
use Rattle.std.proofs.lemmas.Option.{slice_get_within}
use Rattle.mw_text.specs.declared.address.Prefix.{Prefix}
use Rattle.ios_ast.specs.declared.file.File.{File}
use Rattle.net_parts.specs.World.{IsFailureSet, links_of}
use Rattle.paired_nets.specs.Common.{AreCommonFailures, AreThoseOf, IsLink}
use Rattle.paired_nets.specs.Links.{ArePairs}
use Rattle.paired_nets.specs.declared.links.LinkPair.{LinkPair}
use Rattle.route_record.specs.declared.Failures.{Failures}
use Rattle.ties_beside.specs.Count.{is_own}
use Rattle.common_failures.specs.Failing.{FailAlike, own_failed}
use Rattle.common_failures.proofs.Items.{from_filter, from_map, to_filter, to_map}
use Rattle.common_failures.proofs.Own.{no_pair, pair_of}
use Rattle.common_failures.proofs.Prefixes.{link_at, link_there, one_place, prefix_at, prefix_there}

-- links of both networks with one prefix are a pair
pub pair_there : (left right : List File) (pairs : List LinkPair) (i j : ℕ) → ArePairs left right pairs →
    i < length (links_of left) → j < length (links_of right) → prefix_at left i ≡ prefix_at right j →
    Contains pairs (record { one = i; other = j })
pair_there left right pairs i j are one other same =
    are.whole i j (link_at left i, link_at right j, link_there left i one, link_there right j other, same)

-- the prefixes of places below the number of links are those of links
links_are : (files : List File) (xs : List ℕ) → All (λ at. at < length (links_of files)) xs →
    All (IsLink files) (map (prefix_at files) xs)
links_are files xs within =
    All-map (IsLink files) (prefix_at files) xs
    (All-weaker (λ at. at < length (links_of files)) (λ at. IsLink files (prefix_at files at))
    (λ at inside. (at, link_at files at, link_there files at inside, refl)) xs within)

module _ (left right : List File) (pairs : List LinkPair) (k : ℕ) (one other : Failures)
    (are : ArePairs left right pairs) (first : IsFailureSet left k one) (second : IsFailureSet right k other)
    (alike : FailAlike pairs one other) where
  -- the prefixes of the left network's failed links, and of those that the right one has alone
  abbrev failed : List Prefix
  failed = map (prefix_at left) one.links ++ map (prefix_at right) (own_failed pairs other.links)

  on_left : (i : ℕ) → Contains one.links i → i < length (links_of left)
  on_left i there = All-contains (λ at. at < length (links_of left)) one.links i first.of_links there

  on_right : (j : ℕ) → Contains other.links j → j < length (links_of right)
  on_right j there = All-contains (λ at. at < length (links_of right)) other.links j second.of_links there

  -- of which failed link a prefix is
  whose : (p : Prefix) → Contains failed p →
      ((i : ℕ) × Contains one.links i × (prefix_at left i ≡ p))
      ⊎ ((j : ℕ) × Contains other.links j × (is_own pairs j ≡ true) × (prefix_at right j ≡ p))
  whose p there = by (Contains-append_cases _ _ p there)
    where
      by : Contains (map (prefix_at left) one.links) p
          ⊎ Contains (map (prefix_at right) (own_failed pairs other.links)) p →
          ((i : ℕ) × Contains one.links i × (prefix_at left i ≡ p))
          ⊎ ((j : ℕ) × Contains other.links j × (is_own pairs j ≡ true) × (prefix_at right j ≡ p))
      by (inl here) = inl (from_map (prefix_at left) one.links p here)
      by (inr here) =
          let (j, kept, is) = from_map (prefix_at right) (own_failed pairs other.links) p here in
          let (fails, own) = from_filter (is_own pairs) other.links j kept in
          inr (j, fails, own, is)

  -- the prefix of a failed link of the left network is one of them
  left_has : (i : ℕ) → Contains one.links i → Contains failed (prefix_at left i)
  left_has i there = Contains-append_left _ _ (prefix_at left i) (to_map (prefix_at left) one.links i there)

  left_part : AreThoseOf left failed one
  left_part = record {
    ascending = first.ascending;
    sound = λ at there. (link_at left at, link_there left at (on_left at there), left_has at there);
    whole = λ at link here has. by at (slice_get_within (links_of left) at link here) (whose (prefix_at left at)
        (subst (Contains failed) (sym (prefix_there left at link here)) has));
  } where
    by : (at : ℕ) → at < length (links_of left) →
        ((i : ℕ) × Contains one.links i × (prefix_at left i ≡ prefix_at left at))
        ⊎ ((j : ℕ) × Contains other.links j × (is_own pairs j ≡ true) × (prefix_at right j ≡ prefix_at left at)) →
        Contains one.links at
    by at within (inl (i, there, is)) =
        subst (Contains one.links) (one_place left i at (on_left i there) within is) there
    by at within (inr (j, there, own, is)) =
        let pair : LinkPair = record { one = at; other = j } in
        absurd (no_pair pairs pair own (pair_there left right pairs at j are within (on_right j there) (sym is)))

  -- and so is that of one of the right network: where a pair has it, as the prefix of the left link
  right_has : (j : ℕ) → Contains other.links j → Contains failed (prefix_at right j)
  right_has j there = by (is_own pairs j) refl
    where
      by : (b : Bool) → is_own pairs j ≡ b → Contains failed (prefix_at right j)
      by true own =
          Contains-append_right _ _ (prefix_at right j)
          (to_map (prefix_at right) (own_failed pairs other.links) j (to_filter (is_own pairs) other.links j there own))
      by false not_own =
          let (pair, has, is) = pair_of pairs j not_own in
          let fails = (alike pair has).1 (subst (Contains other.links) (sym is) there) in
          let (a, b, here, beside, same) = are.sound pair has in
          let there : prefix_at right pair.other ≡ b.prefix = prefix_there right pair.other b beside in
          subst (Contains failed)
          (prefix_there left pair.one a here ∙ same ∙ sym there ∙ (λ i. prefix_at right (is i)))
          (left_has pair.one fails)

  right_part : AreThoseOf right failed other
  right_part = record {
    ascending = second.ascending;
    sound = λ at there. (link_at right at, link_there right at (on_right at there), right_has at there);
    whole = λ at link here has. by at (slice_get_within (links_of right) at link here) (whose (prefix_at right at)
        (subst (Contains failed) (sym (prefix_there right at link here)) has));
  } where
    by : (at : ℕ) → at < length (links_of right) →
        ((i : ℕ) × Contains one.links i × (prefix_at left i ≡ prefix_at right at))
        ⊎ ((j : ℕ) × Contains other.links j × (is_own pairs j ≡ true) × (prefix_at right j ≡ prefix_at right at)) →
        Contains other.links at
    by at within (inl (i, there, is)) =
        let pair : LinkPair = record { one = i; other = at } in
        (alike pair (pair_there left right pairs i at are (on_left i there) within is)).0 there
    by at within (inr (j, there, own, is)) =
        subst (Contains other.links) (one_place right j at (on_right j there) within is) there

  pub joined : length one.links + length (own_failed pairs other.links) ≤ k → AreCommonFailures left right k one other
  joined few = record {
    failed = failed;
    few = omega (
      arith,
      few,
      length-append (map (prefix_at left) one.links)
          (map (prefix_at right) (own_failed pairs other.links)),
      length-map one.links (prefix_at left),
      length-map (own_failed pairs other.links) (prefix_at right),
    );
    links = All-append (λ p. IsLink left p ⊎ IsLink right p) _ _
        (All-weaker (IsLink left) (λ p. IsLink left p ⊎ IsLink right p) (λ p is. inl is) _
        (links_are left one.links first.of_links))
        (All-weaker (IsLink right) (λ p. IsLink left p ⊎ IsLink right p) (λ p is. inr is) _
        (links_are right (own_failed pairs other.links)
        (All-filter (is_own pairs) (λ at. at < length (links_of right)) other.links second.of_links)));
    on_left = left_part;
    on_right = right_part;
  }
