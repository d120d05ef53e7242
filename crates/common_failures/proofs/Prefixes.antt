-- The prefixes of the links of a network, by their places.
use Rattle.std.proofs.Common.{◌≡◌, ◌∙◌, ℕ, ◌<◌, ◌≤◌, inl, inr, true, List, [], Some, Contains}
use Rattle.std.proofs.Common.{ap, eqb, eq-eqb, get_or, length, map, refl, sym}
use Rattle.std.specs.Prelude.{◌≢◌, AllPairs, slice_get}
use Rattle.std.specs.Bool.{Decides}
use Rattle.std.specs.Cmp.{IsEquivalence}
use Rattle.std.proofs.lemmas.Bool.{both_ways, cases_order}
use Rattle.std.proofs.lemmas.Map.Made.{IsDistinct-from_AllPairs, length-le_from_is_member}
use Rattle.std.proofs.lemmas.Map.Views.{Contains-from_any, list_any-from_Contains}
use Rattle.std.proofs.lemmas.Option.{get_or_from_slice_get, slice_get-get_or}
use Rattle.mw_text.specs.declared.address.Prefix.{Prefix}
use Rattle.mw_text.specs.Address.{same_prefix}
use Rattle.mw_text.proofs.Numbers.{flipped}
use Rattle.net_interfaces.proofs.Pairs.{pairs_map}
use Rattle.ios_ast.specs.declared.file.File.{File}
use Rattle.net_model.proofs.OneSubnet.{one_prefix}
use Rattle.net_parts.specs.declared.links.Link.{Link}
use Rattle.net_parts.specs.World.{links_of}
use Rattle.net_parts.proofs.Ascending.{before-apart, links_ascend}
use Rattle.paired_nets.proofs.Pairing.{self_prefix}
use Rattle.common_failures.proofs.Items.{IsBelow}

-- ---- prefixes

-- the test of prefixes tells which are equal
prefix_decides : (p q : Prefix) → Decides (same_prefix p q) (p ≡ q)
prefix_decides p q = (one_prefix p q, λ same. ap (same_prefix p) (sym same) ∙ self_prefix p)

prefix_laws : IsEquivalence same_prefix
prefix_laws = record {
  refl = self_prefix;
  symm = λ p q. flipped p.addr.0 q.addr.0 p.len q.len;
  congr = λ p q r same. ap (λ s. same_prefix s r) (one_prefix p q same);
}

-- prefixes of which no two are equal and each is among others are at most as many as these
pub no_more : (ps qs : List Prefix) → AllPairs (λ p q. p ≢ q) ps →
    ((p : Prefix) → Contains ps p → Contains qs p) → length ps ≤ length qs
no_more ps qs differ inside =
    length-le_from_is_member prefix_laws ps qs (IsDistinct-from_AllPairs prefix_decides ps differ)
    (λ p there. list_any-from_Contains prefix_laws p qs (inside p (Contains-from_any one_prefix p ps there)))

-- ---- places

-- what stands past the links
abbrev pub no_link : Link
no_link = record { prefix = record { addr = record { 0 = 0 }; len = 0 }; ifaces = [] }

abbrev pub link_at : List File → ℕ → Link
link_at files at = get_or (links_of files) at no_link

abbrev pub prefix_at : List File → ℕ → Prefix
prefix_at files at = (link_at files at).prefix

-- below the number of links a link stands at its place
pub link_there : (files : List File) (at : ℕ) → at < length (links_of files) →
    slice_get (links_of files) at ≡ Some (link_at files at)
link_there files at within = slice_get-get_or (links_of files) at no_link within

-- and its prefix is that of the place
pub prefix_there : (files : List File) (at : ℕ) (link : Link) → slice_get (links_of files) at ≡ Some link →
    prefix_at files at ≡ link.prefix
prefix_there files at link there =
    ap (λ l. l.prefix) (get_or_from_slice_get (links_of files) at link no_link there)

apart : (files : List File) (i j : ℕ) → IsBelow (length (links_of files)) i j → prefix_at files i ≢ prefix_at files j
apart files i j (below, within) = λ same.
    both_ways (same_prefix (prefix_at files i) (prefix_at files j))
    (before-apart (prefix_at files i) (prefix_at files j) (links_ascend files i j no_link below within))
    ((prefix_decides (prefix_at files i) (prefix_at files j)).1 same)

-- links of two places have two prefixes
pub one_place : (files : List File) (i j : ℕ) → i < length (links_of files) → j < length (links_of files) →
    prefix_at files i ≡ prefix_at files j → i ≡ j
one_place files i j one other same = elim (cases_order i j) [
  | inl is ↦ is
  | inr (inl less) ↦ absurd (apart files i j (less, other) same)
  | inr (inr more) ↦ absurd (apart files j i (more, one) (sym same))
]

-- so those of ascending places differ
pub prefixes_differ : (files : List File) (xs : List ℕ) → AllPairs (IsBelow (length (links_of files))) xs →
    AllPairs (λ p q. p ≢ q) (map (prefix_at files) xs)
prefixes_differ files xs up =
    pairs_map (IsBelow (length (links_of files))) (λ p q. p ≢ q) (prefix_at files) (apart files) xs up
