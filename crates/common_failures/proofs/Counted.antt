-- Of failed links that are parts of one set of prefixes: how they are tied, and how many they are.
use Rattle.std.proofs.Common.{◌≡◌, ◌∙◌, ℕ, ◌+◌, ◌<◌, ◌≤◌, ◌⊎◌, inl, inr, List, ◌++◌, Some, Contains, arith}
use Rattle.std.proofs.Common.{length, map, subst, sym}
use Rattle.std.specs.Prelude.{◌≢◌, All, AllPairs, slice_get}
use Rattle.std.proofs.lemmas.List.{length-append, length-map}
use Rattle.std.proofs.lemmas.List.Elements.{All-contains_itself, All-weaker, Contains-append_cases}
use Rattle.std.proofs.lemmas.List.Kept.{AllPairs-filter}
use Rattle.std.proofs.lemmas.Option.{same_Some, slice_get_within}
use Rattle.mw_text.specs.declared.address.Prefix.{Prefix}
use Rattle.ios_ast.specs.declared.file.File.{File}
use Rattle.net_parts.specs.declared.links.Link.{Link}
use Rattle.net_parts.specs.World.{IsFailureSet, links_of}
use Rattle.paired_nets.specs.Common.{AreCommonFailures, AreThoseOf}
use Rattle.paired_nets.specs.Links.{ArePairs}
use Rattle.paired_nets.specs.declared.links.LinkPair.{LinkPair}
use Rattle.route_record.specs.declared.Failures.{Failures}
use Rattle.ties_beside.specs.Count.{is_own}
use Rattle.common_failures.specs.Failing.{FailAlike, own_failed}
use Rattle.common_failures.proofs.Items.{IsBelow, ascending, from_filter, from_map, pairs_append}
use Rattle.common_failures.proofs.Joint.{pair_there}
use Rattle.common_failures.proofs.Own.{no_pair}
use Rattle.common_failures.proofs.Prefixes.{no_more, prefix_at, prefix_there, prefixes_differ}

-- ---- of one network

module _ (files : List File) (failed : List Prefix) (failures : Failures) (those : AreThoseOf files failed failures)
  where
    -- the prefix of the link at a failed place is in the set
    pub there_is : (at : ℕ) (link : Link) → Contains failures.links at → slice_get (links_of files) at ≡ Some link →
        Contains failed link.prefix
    there_is at link there here =
        let (found, at_place, has) = those.sound at there in
        let same : found ≡ link = same_Some found link (sym at_place ∙ here) in
        subst (λ (l : Link). Contains failed l.prefix) same has

    pub within : (at : ℕ) → Contains failures.links at → at < length (links_of files)
    within at there = let (link, here, _) = those.sound at there in slice_get_within (links_of files) at link here

    pub prefix_has : (at : ℕ) → Contains failures.links at → Contains failed (prefix_at files at)
    prefix_has at there =
        let (link, here, has) = those.sound at there in
        subst (Contains failed) (sym (prefix_there files at link here)) has

    pub all_within : All (λ at. at < length (links_of files)) failures.links
    all_within =
        All-weaker (Contains failures.links) (λ at. at < length (links_of files)) within failures.links
        (All-contains_itself failures.links)

    pub up : AllPairs (IsBelow (length (links_of files))) failures.links
    up = ascending (length (links_of files)) failures.links those.ascending all_within

    -- there are no more of them than prefixes of the set
    few_of : length failures.links ≤ length failed
    few_of =
        let few = no_more (map (prefix_at files) failures.links) failed (prefixes_differ files failures.links up)
        (λ p has. let (at, there, is) = from_map (prefix_at files) failures.links p has in
        subst (Contains failed) is (prefix_has at there)) in
        omega (arith, few, length-map failures.links (prefix_at files))

    pub is_set : (k : ℕ) → length failed ≤ k → IsFailureSet files k failures
    is_set k few = record {
      ascending = those.ascending;
      of_links = all_within;
      at_most = omega (arith, few, few_of);
    }

-- ---- of both

module _ (left right : List File) (pairs : List LinkPair) (k : ℕ) (one other : Failures)
    (are : ArePairs left right pairs) (common : AreCommonFailures left right k one other) where
  -- links of a pair have one prefix, and that is in the set or not
  pub tied : FailAlike pairs one other
  tied pair has =
      let (a, b, here, beside, same) = are.sound pair has in (
        λ fails. common.on_right.whole pair.other b beside
            (subst (Contains common.failed) same (there_is left common.failed one common.on_left pair.one a fails here)),
        λ fails. common.on_left.whole pair.one a here
            (subst (Contains common.failed) (sym same)
            (there_is right common.failed other common.on_right pair.other b fails beside)),
      )

  abbrev own : List ℕ
  own = own_failed pairs other.links

  own_up : AllPairs (IsBelow (length (links_of right))) own
  own_up =
      AllPairs-filter (IsBelow (length (links_of right))) (is_own pairs) other.links
      (up right common.failed other common.on_right)

  -- no link that the right network has alone is on a subnet of the left one's links
  across : (p q : Prefix) → Contains (map (prefix_at left) one.links) p → Contains (map (prefix_at right) own) q → p ≢ q
  across p q here there = λ same.
      let (i, fails, is) = from_map (prefix_at left) one.links p here in
      let (j, kept, at) = from_map (prefix_at right) own q there in
      let (also, alone) = from_filter (is_own pairs) other.links j kept in
      let pair : LinkPair = record { one = i; other = j } in
      no_pair pairs pair alone
      (pair_there left right pairs i j are (within left common.failed one common.on_left i fails)
      (within right common.failed other common.on_right j also) (is ∙ same ∙ sym at))

  inside : (p : Prefix) → Contains (map (prefix_at left) one.links ++ map (prefix_at right) own) p →
      Contains common.failed p
  inside p has = by (Contains-append_cases (map (prefix_at left) one.links) (map (prefix_at right) own) p has)
    where
      by : Contains (map (prefix_at left) one.links) p ⊎ Contains (map (prefix_at right) own) p →
          Contains common.failed p
      by (inl here) =
          let (i, fails, is) = from_map (prefix_at left) one.links p here in
          subst (Contains common.failed) is (prefix_has left common.failed one common.on_left i fails)
      by (inr here) =
          let (j, kept, is) = from_map (prefix_at right) own p here in
          let also = (from_filter (is_own pairs) other.links j kept).0 in
          subst (Contains common.failed) is (prefix_has right common.failed other common.on_right j also)

  -- the failed links of the left network and those that the right one has alone stand at distinct prefixes of the set
  pub few : length one.links + length own ≤ k
  few =
      let apart = pairs_append (λ p q. p ≢ q) (map (prefix_at left) one.links) (map (prefix_at right) own)
      (prefixes_differ left one.links (up left common.failed one common.on_left))
      (prefixes_differ right own own_up) across in
      let most = no_more (map (prefix_at left) one.links ++ map (prefix_at right) own) common.failed apart inside in
      omega (
        arith,
        most,
        common.few,
        length-append (map (prefix_at left) one.links) (map (prefix_at right) own),
        length-map one.links (prefix_at left),
        length-map own (prefix_at right),
      )

  pub left_set : IsFailureSet left k one
  left_set = is_set left common.failed one common.on_left k common.few

  pub right_set : IsFailureSet right k other
  right_set = is_set right common.failed other common.on_right k common.few
