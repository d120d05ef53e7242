-- What a network tracks is enough for all its tests.
use Rattle.std.proofs.Common.{◌≡◌, ℕ, Bool, true, false, ◌&&◌, List, [], ◌∷◌, map, Some, refl, ap, sym, ◌∙◌}
use Rattle.std.specs.Prelude.{slice_get}
use Rattle.std.specs.List.{filter_map, flat_map, list_all}
use Rattle.std.specs.Option.{option_map_or}
use Rattle.std.proofs.lemmas.Bool.{and_from, and_parts}
use Rattle.std.proofs.lemmas.List.Folds.{list_all-append, list_all-map}
use Rattle.mw_text.proofs.Lists.{all_at}
use Rattle.ios_ast.specs.declared.bgp.Bgp.{Bgp}
use Rattle.ios_ast.specs.declared.file.File.{File}
use Rattle.ios_ast.specs.declared.policies.AsPathEntry.{AsPathEntry}
use Rattle.ios_ast.specs.declared.policies.CommunityEntry.{CommunityEntry}
use Rattle.ios_ast.specs.declared.policies.CommunityList.{CommunityList}
use Rattle.ios_ast.specs.declared.policies.Pattern.{Pattern}
use Rattle.ios_ast.specs.declared.policies.Pattern.TheVariants.{Empty, Any, Only, First, Last, Has}
use Rattle.ios_ast.specs.Deciding.{carries}
use Rattle.route_record.specs.declared.tracked.Tracked.{Tracked}
use Rattle.net_interfaces.specs.declared.values.Said.{Said}
use Rattle.net_interfaces.specs.Values.{said_as, said_at, said_communities, said_in_list, said_in_map, said_in_paths}
use Rattle.net_interfaces.specs.Values.{said_in_pattern, said_numbers}
use Rattle.net_parts.specs.Exports.{is_reflector}
use Rattle.net_parts.specs.Tracked.{TracksNet}
use Rattle.net_parts.proofs.Tracks.{advertise_tracked, cluster_tracked, communities_tracked, export_tracked}
use Rattle.net_parts.proofs.Tracks.{numbers_tracked}
use Rattle.route_shapes.specs.Shapes.{all_tracked, path_tracked, values_tracked}
use Rattle.bgp_shapes.specs.Tracking.{TracksTests}

-- ---- a test of all values that are said, list by list

all_flat : {A B : Type 0} (q : B → Bool) (f : A → List B) (good : A → Bool) → ((x : A) → list_all q (f x) ≡ good x)
    → (xs : List A) → list_all q (flat_map f xs) ≡ list_all good xs
all_flat q f good same [] = refl
all_flat q f good same (x ∷ xs) =
    list_all-append q (f x) (flat_map f xs)
    ∙ ap (λ b. b && list_all q (flat_map f xs)) (same x)
    ∙ ap (λ b. good x && b) (all_flat q f good same xs)

abbrev holds : List ℕ → Said → Bool
holds tracked s = carries tracked s.value

said_of_entry : (tracked : List ℕ) (e : CommunityEntry)
    → list_all (holds tracked) (map (said_at e.line) e.values) ≡ values_tracked tracked e
said_of_entry tracked e = list_all-map (holds tracked) (said_at e.line) e.values

said_of_list : (tracked : List ℕ) (l : CommunityList)
    → list_all (holds tracked) (said_in_list l) ≡ list_all (values_tracked tracked) l.entries
said_of_list tracked l =
    all_flat (holds tracked) (λ e. map (said_at e.line) e.values) (values_tracked tracked) (said_of_entry tracked)
    l.entries

said_of_paths : (tracked : List ℕ) (es : List AsPathEntry)
    → list_all (holds tracked) (filter_map said_in_pattern es) ≡ list_all (path_tracked tracked) es
said_of_paths tracked [] = refl
said_of_paths tracked (e ∷ es) = by e.pattern ∙ ap (λ b. path_tracked tracked e && b) (said_of_paths tracked es)
  where
    by : (p : Pattern)
        → list_all (holds tracked) (filter_map said_in_pattern (record e { pattern = p } ∷ es))
        ≡ (path_tracked tracked (record e { pattern = p }) && list_all (holds tracked) (filter_map said_in_pattern es))
    by Empty = refl
    by Any = refl
    by (Only n) = refl
    by (First n) = refl
    by (Last n) = refl
    by (Has n) = refl

-- ---- what one file says

module _ (files : List File) (tracked : Tracked) (tracks : TracksNet files tracked) where
  all_communities : list_all (holds tracked.communities) (flat_map said_communities files) ≡ true
  all_communities =
      sym (list_all-map (carries tracked.communities) (λ s. s.value) (flat_map said_communities files))
      ∙ communities_tracked files tracked tracks

  all_numbers : list_all (holds tracked.numbers) (flat_map said_numbers files) ≡ true
  all_numbers =
      sym (list_all-map (carries tracked.numbers) (λ s. s.value) (flat_map said_numbers files))
      ∙ numbers_tracked files tracked tracks

  of_file : (q : Said → Bool) (said : File → List Said) → list_all q (flat_map said files) ≡ true → (router : ℕ)
      (file : File) → slice_get files router ≡ Some file → list_all q (said file) ≡ true
  of_file q said all router file is =
      all_at (λ f. list_all q (said f)) files router file
      (sym (all_flat q said (λ f. list_all q (said f)) (λ f. refl) files) ∙ all) is

  -- the AS number of a router and what its patterns ask for
  numbers_said : (router : ℕ) (file : File) → slice_get files router ≡ Some file →
      (list_all (holds tracked.numbers) (said_as file)
      && list_all (holds tracked.numbers) (flat_map said_in_paths file.policies.as_paths)) ≡ true
  numbers_said router file is =
      sym (list_all-append (holds tracked.numbers) (said_as file) (flat_map said_in_paths file.policies.as_paths))
      ∙ of_file (holds tracked.numbers) said_numbers all_numbers router file is

  -- all that the lists of one file test
  pub policies_tracked : (router : ℕ) (file : File) → slice_get files router ≡ Some file →
      all_tracked tracked file.policies ≡ true
  policies_tracked router file is =
      let communities = tracked.communities in
      let numbers = tracked.numbers in
      let of_lists =
      (and_parts _ _ (sym (list_all-append (holds communities) (flat_map said_in_list file.policies.communities)
      (flat_map said_in_map file.policies.maps))
      ∙ of_file (holds communities) said_communities all_communities router file is)).0 in
      let of_paths = (and_parts _ _ (numbers_said router file is)).1 in
      and_from _ _
      (sym (all_flat (holds communities) said_in_list (λ l. list_all (values_tracked communities) l.entries)
      (said_of_list communities) file.policies.communities) ∙ of_lists)
      (sym (all_flat (holds numbers) said_in_paths (λ l. list_all (path_tracked numbers) l.entries)
      (λ l. said_of_paths numbers l.entries) file.policies.as_paths) ∙ of_paths)

  number_tracked : (router : ℕ) (file : File) (process : Bgp) → slice_get files router ≡ Some file →
      file.bgp ≡ Some process → carries tracked.numbers process.asn ≡ true
  number_tracked router file process is runs =
      let own = (and_parts _ _ (numbers_said router file is)).0 in
      (and_parts (carries tracked.numbers process.asn) true
      (ap (λ o. list_all (holds tracked.numbers) (option_map_or (λ bgp. said_at bgp.line bgp.asn ∷ []) o [])) (sym runs)
      ∙ own)).0

-- what a network tracks is enough for all its tests
pub tests_tracked : (files : List File) (tracked : Tracked) → TracksNet files tracked → TracksTests files tracked
tests_tracked files tracked tracks = record {
  advertised = advertise_tracked files tracked tracks;
  exported = export_tracked files tracked tracks;
  routers = λ router file process is runs. record {
    number = number_tracked files tracked tracks router file process is runs;
    cluster = λ reflect. cluster_tracked files tracked tracks router file is
        (ap (λ o. option_map_or is_reflector o false) runs ∙ reflect);
    policies = policies_tracked files tracked tracks router file is;
  };
}
