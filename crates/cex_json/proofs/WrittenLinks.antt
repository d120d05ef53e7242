-- Failed links that were written are read back.
use Rattle.std.proofs.Common.{◌≡◌, ℕ, ◌^◌, ◌<◌, ◌≤◌, ◌==◌, ◌&&◌, ◌⊎◌, true, List, []}
use Rattle.std.proofs.Common.{◌∷◌, ◌++◌, length, map, nat_lt, Some, Ok, inl, inr}
use Rattle.std.proofs.Common.{refl, ap, sym, ◌∙◌, arith}
use Rattle.std.proofs.lemmas.Bool.{and_from, and_parts, cases_lt, eq-eqb, eqb-true, le-leb, ltb-true, or_cases}
use Rattle.std.specs.List.{position}
use Rattle.std.specs.Prelude.{All, AllPairs, codes, slice_get}
use Rattle.mw_text.proofs.Lists.{all_found, item_there}
use Rattle.mw_text.specs.declared.address.Prefix.{Prefix}
use Rattle.mw_text.specs.Address.{same_prefix}
use Rattle.ios_ast.specs.declared.file.File.{File}
use Rattle.route_record.specs.declared.Failures.{Failures}
use Rattle.net_parts.specs.declared.links.Link.{Link}
use Rattle.net_parts.specs.World.{IsBefore, IsFailureSet, ascends, comes_before, links_of}
use Rattle.net_parts.proofs.Ascending.{links_ascend}
use Rattle.serde_json.specs.Data.{Data}
use Rattle.serde_json.specs.Find.{get}
use Rattle.serde_json.specs.View.{items_of}
use Rattle.cex_json.specs.Fields.{in_order}
use Rattle.cex_json.specs.Surroundings.{failures_in, link_named, link_step}
use Rattle.cex_json.specs.Worlds.{failures_data, link_data, link_text}
use Rattle.cex_json.specs.Writable.{IsPrefix, IsWritableNet}
use Rattle.cex_json.proofs.Dotted.{prefix_back}
use Rattle.cex_json.proofs.Named.{place_fits, place_there}
use Rattle.cex_json.proofs.Orders.{ascending_split}
use Rattle.cex_json.proofs.Places.{all_split, only_place, pair_at}
use Rattle.cex_json.proofs.WrittenLists.{in_order_back}

-- ---- links

-- a prefix that comes before another is another
apart : (p q : Prefix) → comes_before p q ≡ true → p.addr.0 ≡ q.addr.0 → p.len ≡ q.len → ⊥
apart p q before addr len =
    by (or_cases (nat_lt p.addr.0 q.addr.0) ((p.addr.0 == q.addr.0) && nat_lt p.len q.len) before) where
      by : (nat_lt p.addr.0 q.addr.0 ≡ true) ⊎ (((p.addr.0 == q.addr.0) && nat_lt p.len q.len) ≡ true) → ⊥
      by (inl less) = omega (arith, ltb-true p.addr.0 q.addr.0 less)
      by (inr both) =
          let shorter = (and_parts (p.addr.0 == q.addr.0) (nat_lt p.len q.len) both).1 in
          omega (arith, ltb-true p.len q.len shorter)

same_parts : (p q : Prefix) → same_prefix p q ≡ true → (p.addr.0 ≡ q.addr.0) × (p.len ≡ q.len)
same_parts p q same =
    let parts = and_parts (p.addr.0 == q.addr.0) (p.len == q.len) same in
    (eqb-true p.addr.0 q.addr.0 parts.0, eqb-true p.len q.len parts.1)

-- of links that ascend one alone has that prefix
one_link : (links : List Link) (k at : ℕ) (other link : Link) → AllPairs IsBefore links →
    slice_get links k ≡ Some other → slice_get links at ≡ Some link → same_prefix link.prefix other.prefix ≡ true →
    k ≡ at
one_link links k at other link pairs found there same = by (cases_lt k at) (cases_lt at k) where
  parts : (link.prefix.addr.0 ≡ other.prefix.addr.0) × (link.prefix.len ≡ other.prefix.len)
  parts = same_parts link.prefix other.prefix same

  by : (k < at) ⊎ (at ≤ k) → (at < k) ⊎ (k ≤ at) → k ≡ at
  by (inl less) _ =
      absurd (apart other.prefix link.prefix (pair_at IsBefore links k at other link pairs less found there)
      (sym parts.0) (sym parts.1))
  by (inr most) (inl less) =
      absurd (apart link.prefix other.prefix (pair_at IsBefore links at k link other pairs less there found)
      parts.0 parts.1)
  by (inr most) (inr least) = omega (arith, most, least)

-- the place of a link is found by its prefix as it is written
link_found : (links : List Link) (at : ℕ) (link : Link) → slice_get links at ≡ Some link → IsPrefix link.prefix →
    AllPairs IsBefore links → length links ≤ 2 ^ 32 → link_named links (link_text links at) ≡ Some at
link_found links at link there prefix pairs few =
    rw there (rw (prefix_back link.prefix prefix.addr prefix.len ∙ ap Some prefix.cleared)
    (place_there (position (λ other. same_prefix link.prefix other.prefix) links) at
    (only_place (λ other. same_prefix link.prefix other.prefix) links at link there itself
    (λ k other found same. one_link links k at other link pairs found there same))
    (place_fits links at link there few)))
  where
    itself : same_prefix link.prefix link.prefix ≡ true
    itself = and_from (link.prefix.addr.0 == link.prefix.addr.0) (link.prefix.len == link.prefix.len)
        (eq-eqb link.prefix.addr.0 link.prefix.addr.0 refl) (eq-eqb link.prefix.len link.prefix.len refl)

links_back : (files : List File) (xs : List ℕ) → IsWritableNet files → ascends xs ≡ true →
    All (λ at. at < length (links_of files)) xs →
    in_order (link_step (links_of files)) 0 [] (items_of (map (link_data (links_of files)) xs)) ≡ Ok xs
links_back files xs net up within =
    in_order_back (link_step (links_of files)) (link_data (links_of files)) 0 [] xs each
  where
    found : (at : ℕ) → at < length (links_of files) →
        link_named (links_of files) (link_text (links_of files) at) ≡ Some at
    found at inside =
        let link = item_there (links_of files) at inside in
        link_found (links_of files) at link.0 link.1
        (all_found (λ (x : Link). IsPrefix x.prefix) (links_of files) at link.0 net.links link.1)
        (links_ascend files) net.few_links

    each : (i : ℕ) (before rest : List ℕ) (at : ℕ) → xs ≡ before ++ at ∷ rest →
        link_step (links_of files) i before (link_data (links_of files) at) ≡ Ok (before ++ at ∷ [])
    each i before rest at is =
        rw (found at (all_split (λ k. k < length (links_of files)) xs within before rest at is))
        (rw (ascending_split xs up before rest at is) refl)

-- failed links, at most as many as may fail
pub failures_back : (files : List File) (most : ℕ) (failures : Failures) (d : Data) → IsWritableNet files →
    IsFailureSet files most failures → get (codes "failures") d ≡ Some (failures_data files failures.links) →
    failures_in files (Some most) d ≡ Ok failures.links
unfolding failures_in
failures_back files most failures d net set there =
    rw there (rw (links_back files failures.links net set.ascending set.of_links)
    (rw (le-leb (length failures.links) most set.at_most) refl))
