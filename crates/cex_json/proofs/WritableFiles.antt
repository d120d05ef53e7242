-- Files that fit make a network that a text can speak of.
use Rattle.std.proofs.Common.{◌≡◌, ℕ, zero, suc, ◌+◌, ◌^◌, ◌<◌, ◌≤◌, ◌⊎◌, ◌==◌, true, false, List}
use Rattle.std.proofs.Common.{[], ◌∷◌, length, take, get_or, Option, Some, None, inl, inr, refl, ap}
use Rattle.std.proofs.Common.{sym, ◌∙◌, arith}
use Rattle.std.proofs.lemmas.Bool.{cases_lt, false≢true, leb-true}
use Rattle.std.proofs.lemmas.List.{length-map}
use Rattle.std.proofs.lemmas.List.Elements.{All-weaker}
use Rattle.std.proofs.lemmas.Option.{slice_get-get_or}
use Rattle.std.specs.Cmp.Lexicographic.{bytes_decides}
use Rattle.std.specs.List.{list_any}
use Rattle.std.specs.Option.{option_map_or, option_or}
use Rattle.std.specs.Prelude.{slice_get}
use Rattle.std.specs.Str.{IsUtf8}
use Rattle.mw_text.proofs.Lists.{all_at, none_passes}
use Rattle.mw_text.specs.Text.{same_text}
use Rattle.ios_ast.specs.declared.file.File.{File}
use Rattle.ios_ast.proofs.KeptLimits.{limits_of}
use Rattle.net_refusals.specs.declared.refusals.NetCause.TheVariants.{SameName}
use Rattle.net_refusals.specs.declared.refusals.NetRefused.{NetRefused}
use Rattle.net_interfaces.specs.Interfaces.{addressed}
use Rattle.net_interfaces.specs.Limits.{keeps_limits}
use Rattle.net_refusals.specs.Network.{IsNetwork}
use Rattle.net_refusals.specs.Refusals.{external_internal_peer, first_broken, first_from, first_refusal}
use Rattle.net_refusals.specs.Refusals.{net_limit, next_hop_not_connected, refused_at, refused_by_addresses}
use Rattle.net_refusals.specs.Refusals.{refused_by_uses}
use Rattle.net_refusals.specs.Refusals.{same_address, same_name, same_name_line, second_area_number, subnet_clash}
use Rattle.net_refusals.specs.Refusals.{undefined}
use Rattle.net_parts.specs.Sessions.{end_of, ends_of, sessions}
use Rattle.net_refusals.proofs.Few.{few_files, no_line}
use Rattle.net_parts.proofs.FewLinks.{few_links}
use Rattle.net_parts.proofs.Peers.{few_sessions}
use Rattle.net_model.proofs.Unbroken.{left_none}
use Rattle.net_model.proofs.OneSubnet.{in_front}
use Rattle.cex_json.specs.Writable.{AreApart, AreTexts, AreWritableFiles, HasIfaceNames, IsHostName, IsWritableNet}
use Rattle.cex_json.proofs.EndsApart.{ends_apart, neighbours_fit}
use Rattle.cex_json.proofs.Subnets.{links_fit}

-- ---- no two files of a network have one host name

first_none : (at : ℕ) (line : Option ℕ) (later : Option NetRefused) →
    option_map_or (λ n. Some (refused_at SameName at n)) line later ≡ None → (line ≡ None) × (later ≡ None)
first_none at None later none = (refl, none)
first_none at (Some n) later none = cc

-- where no file breaks the rule, the file of a number does not
none_at : (all : List File) (at k : ℕ) (files : List File) (file : File) → first_from SameName all at files ≡ None →
    slice_get files k ≡ Some file → same_name_line (take (at + k) all) file ≡ None
none_at all at k [] file none found = cc
none_at all at zero (x ∷ rest) file none found =
    let here = first_none at (same_name_line (take at all) x) (first_from SameName all (at + 1) rest) none in
    let same : x ≡ file = cc in
    let place : at + 0 ≡ at = omega arith in
    ap (λ n. same_name_line (take n all) file) place ∙ ap (λ f. same_name_line (take at all) f) (sym same) ∙ here.0
none_at all at (suc k) (x ∷ rest) file none found =
    let here = first_none at (same_name_line (take at all) x) (first_from SameName all (at + 1) rest) none in
    let place : at + suc k ≡ (at + 1) + k = omega arith in
    ap (λ n. same_name_line (take n all) file) place ∙ none_at all (at + 1) k rest file here.1 found

unnamed : (files : List File) → first_refusal files ≡ None → first_from SameName files 0 files ≡ None
unfolding first_refusal first_broken
unnamed files unrefused =
    let areas = left_none (option_or (refused_by_uses (refused_by_addresses files) files) (second_area_number files))
    (net_limit files) unrefused in
    let uses = left_none (refused_by_uses (refused_by_addresses files) files) (second_area_number files) areas in
    let peers = left_none (option_or (option_or (refused_by_addresses files) (undefined files))
    (next_hop_not_connected files)) (external_internal_peer files) uses in
    let hops = left_none (option_or (refused_by_addresses files) (undefined files)) (next_hop_not_connected files) peers
    in
    let addresses = left_none (refused_by_addresses files) (undefined files) hops in
    let clashes = left_none (option_or (same_name files) (same_address files)) (subnet_clash files) addresses in
    left_none (same_name files) (same_address files) clashes

-- an earlier file has another host name
other_name : (files : List File) (i j : ℕ) (x y : File) → first_refusal files ≡ None → i < j →
    slice_get files i ≡ Some x → slice_get files j ≡ Some y → x.hostname ≡ y.hostname → ⊥
other_name files i j x y unrefused less one other same =
    let place : 0 + j ≡ j = omega arith in
    let line = ap (λ n. same_name_line (take n files) y) (sym place)
    ∙ none_at files 0 j files y (unnamed files unrefused) other in
    let none = no_line (list_any (λ f. same_text f.hostname y.hostname) (take j files)) y.hostname_line line in
    let differs = none_passes (λ (f : File). same_text f.hostname y.hostname) (take j files) i x none
    (in_front files i j x less one) in
    false≢true (sym differs ∙ (bytes_decides x.hostname y.hostname).1 same)

names_apart : (files : List File) → first_refusal files ≡ None → AreApart (λ file. file.hostname) files
names_apart files unrefused i j x y one other same = by_order (cases_lt i j) (cases_lt j i) where
  by_order : (i < j) ⊎ (j ≤ i) → (j < i) ⊎ (i ≤ j) → i ≡ j
  by_order (inl less) _ = absurd (other_name files i j x y unrefused less one other same)
  by_order (inr most) (inl less) = absurd (other_name files j i y x unrefused less other one (sym same))
  by_order (inr most) (inr least) = omega (arith, most, least)

-- ---- so few that 32 bits name each place

few_ends : (files : List File) → IsNetwork files → length (ends_of files) ≤ 2 ^ 32
unfolding ends_of
few_ends files net =
    let small : length files ≤ 64 = few_files files net.unrefused in
    omega (
      arith,
      length-map (sessions files) (end_of (addressed files) (sessions files)),
      few_sessions files (sessions files) refl small net.limits,
    )

few_ifaces : (file : File) → keeps_limits file ≡ true → length file.interfaces ≤ 2 ^ 32
few_ifaces file keeps =
    omega (arith, leb-true (length file.interfaces) 64 (limits_of file keeps).interfaces)

-- ---- the network

pub writable_net : (files : List File) → AreWritableFiles files → IsWritableNet files
writable_net files fits = record {
  routers = record {
    utf8 = All-weaker IsHostName (λ file. IsUtf8 file.hostname) (λ file is. is.0) files fits.names;
    once = names_apart files fits.network.unrefused;
    few = omega (arith, few);
  };
  words =
      All-weaker IsHostName (λ file. list_any (λ b. b == 32) file.hostname ≡ false) (λ file is. is.1) files fits.names;
  ifaces = λ k d within. ifaces (get_or files k d) (fits.ifaces k d within)
      (all_at keeps_limits files k (get_or files k d) fits.network.limits (slice_get-get_or files k d within));
  links = links_fit files fits.addresses;
  few_links = omega (arith, few_links files few fits.network.limits);
  neighbours = neighbours_fit files fits.neighbours;
  ends = ends_apart files fits.neighbours;
  few_ends = few_ends files fits.network;
} where
  few : length files ≤ 64
  few = few_files files fits.network.unrefused

  ifaces : (file : File) → HasIfaceNames file → keeps_limits file ≡ true →
      AreTexts (λ iface. iface.name) file.interfaces
  ifaces file has keeps = record { utf8 = has.0; once = has.1; few = few_ifaces file keeps }
