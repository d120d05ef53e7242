-- Files of which none is refused break none of the rules of a network.
use Rattle.std.proofs.Common.{◌≡◌, ℕ, ◌+◌, List, [], ◌∷◌, take, Option, Some, None, refl, ap, sym, ◌∙◌}
use Rattle.std.proofs.Common.{arith, zero, suc}
use Rattle.std.specs.Prelude.{fold, slice_get}
use Rattle.std.specs.Option.{option_or}
use Rattle.ios_ast.specs.declared.file.File.{File}
use Rattle.net_refusals.specs.declared.refusals.NetCause.{NetCause}
use Rattle.net_refusals.specs.declared.refusals.NetCause.TheVariants.{NextHopNotConnected, SubnetClash}
use Rattle.net_refusals.specs.Refusals.{broken_line, earlier, external_internal_peer, first_broken}
use Rattle.net_refusals.specs.Refusals.{first_refusal, least, net_limit, next_hop_not_connected, refused_by_addresses}
use Rattle.net_refusals.specs.Refusals.{refused_by_uses, same_address, same_name, second_area_number, subnet_clash}
use Rattle.net_refusals.specs.Refusals.{undefined}
use Rattle.net_refusals.proofs.Few.{none_at, or_none}
use Rattle.net_refusals.proofs.TrackedFew.{both_none}

-- where nothing is found, nothing was found before
pub left_none : {A : Type 0} (a b : Option A) → option_or a b ≡ None → a ≡ None
left_none None b none = refl
left_none (Some x) b none = cc

uses_none : (files : List File) → first_refusal files ≡ None →
    option_or (option_or (refused_by_addresses files) (undefined files)) (next_hop_not_connected files) ≡ None
unfolding first_refusal
uses_none files unrefused =
    let uses = refused_by_uses (refused_by_addresses files) files in
    let areas = left_none (option_or uses (second_area_number files)) (net_limit files) unrefused in
    left_none (option_or (option_or (refused_by_addresses files) (undefined files)) (next_hop_not_connected files))
    (external_internal_peer files) (left_none uses (second_area_number files) areas)

-- each next hop is connected
pub hops_connected : (files : List File) → first_refusal files ≡ None → first_broken NextHopNotConnected files ≡ None
hops_connected files unrefused =
    or_none (option_or (refused_by_addresses files) (undefined files)) (next_hop_not_connected files)
    (uses_none files unrefused)

-- no subnets clash
pub subnets_apart : (files : List File) → first_refusal files ≡ None → first_broken SubnetClash files ≡ None
subnets_apart files unrefused =
    let before = option_or (refused_by_addresses files) (undefined files) in
    let uses = left_none before (next_hop_not_connected files) (uses_none files unrefused) in
    or_none (option_or (same_name files) (same_address files)) (subnet_clash files)
    (left_none (refused_by_addresses files) (undefined files) uses)

-- a rule that no file breaks is not broken by the file of a number
pub unbroken_at : (cause : NetCause) (files : List File) (k : ℕ) (file : File) → first_broken cause files ≡ None →
    slice_get files k ≡ Some file → broken_line cause files (take k files) file ≡ None
unfolding first_broken
unbroken_at cause files k file none found =
    let place : k ≡ 0 + k = omega arith in
    ap (λ n. broken_line cause files (take n files) file) place ∙ none_at cause files 0 k files file none found

-- ---- the earliest of some lines

none_each : {A : Type 0} (line : A → Option ℕ) (first : Option ℕ) (xs : List A) →
    fold (λ a x. earlier a (line x)) first xs ≡ None →
    (first ≡ None) × ((k : ℕ) (x : A) → slice_get xs k ≡ Some x → line x ≡ None)
none_each line first [] none = (none, λ k x found. absurd cc)
none_each {A = A} line first (y ∷ rest) none = by (none_each line (earlier first (line y)) rest none) where
  each : line y ≡ None → ((k : ℕ) (x : A) → slice_get rest k ≡ Some x → line x ≡ None) → (k : ℕ) (x : A) →
      slice_get (y ∷ rest) k ≡ Some x → line x ≡ None
  each here later zero x found = let same : y ≡ x = cc in ap line (sym same) ∙ here
  each here later (suc k) x found = later k x found

  by : (earlier first (line y) ≡ None) × ((k : ℕ) (x : A) → slice_get rest k ≡ Some x → line x ≡ None) →
      (first ≡ None) × ((k : ℕ) (x : A) → slice_get (y ∷ rest) k ≡ Some x → line x ≡ None)
  by deeper = let both = both_none first (line y) deeper.0 in (both.0, each both.1 deeper.1)

-- where no part has a line, the part at a place has none
pub least_none : {A : Type 0} (line : A → Option ℕ) (parts : List A) → least line parts ≡ None → (k : ℕ) (part : A) →
    slice_get parts k ≡ Some part → line part ≡ None
least_none line parts none = (none_each line None parts none).1
