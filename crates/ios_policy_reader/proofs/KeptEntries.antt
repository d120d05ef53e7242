-- Lines of lists and route maps keep the limit of their entries.
use Rattle.std.proofs.Common.{◌≡◌, ℕ, ◌+◌, ◌-◌, ◌<◌, ◌≤◌, Bool, true, false, List, [], ◌∷◌, ◌++◌, length, get_or}
use Rattle.std.proofs.Common.{Option}
use Rattle.std.proofs.Common.{Some, None, Ok, Err, refl, ap, arith}
use Rattle.std.specs.Prelude.{IfOk, nat_lt, position, slice_get, slice_set, if◌then◌else◌}
use Rattle.std.specs.List.{sum_by}
use Rattle.std.specs.Option.{option_map_or}
use Rattle.std.proofs.lemmas.Bool.{ltb-true}
use Rattle.std.proofs.lemmas.List.{length_push, length-set}
use Rattle.std.proofs.lemmas.List.Quantifiers.{position-Some}
use Rattle.std.proofs.lemmas.List.Sums.{sum_by-append, sum_by-set}
use Rattle.std.proofs.lemmas.Option.{get_or_from_slice_get, slice_get_within}
use Rattle.mw_text.specs.declared.words.Line.{Line}
use Rattle.mw_text.specs.Text.{same_text}
use Rattle.ios_ast.specs.declared.file.TheConstants.{MOST_POLICY_ENTRIES}
use Rattle.ios_ast.specs.declared.policies.Policies.{Policies}
use Rattle.ios_policy_reader.specs.declared.cause.Cause.TheVariants.{BadWord, Limit, Repeated}
use Rattle.ios_policy_reader.specs.declared.clauses.MapClause.{MapClause}
use Rattle.ios_policy_reader.specs.declared.heads.Row.{Row}
use Rattle.ios_policy_reader.specs.declared.policies.PolicyBlock.{PolicyBlock}
use Rattle.ios_policy_reader.specs.declared.said.Said.{Said}
use Rattle.ios_policy_reader.specs.declared.said.Tag.TheVariants.{Action, Number}
use Rattle.ios_policy_reader.specs.Clauses.{clause_of, maps_with, open_entry, repeats, with_clause}
use Rattle.ios_policy_reader.specs.Entries.{access_entry, community_entry, map_entry, path_entry, prefix_entry}
use Rattle.ios_policy_reader.specs.Lists.{changed_at, changed_or_new, has_number, has_room, is_opened}
use Rattle.ios_policy_reader.specs.Lists.{policy_entries, prefix_entries_of}
use Rattle.ios_policy_reader.specs.Lists.{with_prefix_entry}
use Rattle.ios_policy_reader.specs.Policies.{access_line, clause_line, community_line, entry_line, is_extended}
use Rattle.ios_policy_reader.specs.Policies.{map_block_line, map_line, numbered_line, open_line, path_line}
use Rattle.ios_policy_reader.specs.Policies.{policy_reading, prefix_line, sequence_of, within_limit}
use Rattle.ios_policy_reader.specs.Said.{has_said, number_under}
use Rattle.ios_policy_reader.proofs.KeptPolicies.{KeepsEach, either, policies_kept}

-- ---- sums over changed lists

-- where the item that is changed, or the new one, counts so many more
changed_sum : {A : Type 0} (f : A → ℕ) (more : ℕ) (test : A → Bool) (change : A → A) (new : A) (items : List A)
    → ((x : A) → f (change x) ≡ f x + more) → f new ≡ more
    → sum_by f (changed_or_new test change new items) ≡ sum_by f items + more
changed_sum {A = A} f more test change new items each fresh =
    by (position test items) (λ i is. (position-Some test items i new is).0)
  where
    by : (at : Option ℕ) → ((i : ℕ) → at ≡ Some i → i < length items)
        → sum_by f (option_map_or (λ i. slice_set items i (change (get_or items i new))) at (items ++ new ∷ []))
        ≡ sum_by f items + more
    by None within = omega (arith, sum_by-append f items (new ∷ []), fresh)
    by (Some i) within =
        omega (
          arith,
          sum_by-set f items i (change (get_or items i new)) new (within i refl),
          each (get_or items i new),
        )

-- where the item at a place counts so many more
changed_at_sum : {A : Type 0} (f : A → ℕ) (more : ℕ) (change : A → A) (at : ℕ) (items : List A)
    → ((x : A) → f (change x) ≡ f x + more) → sum_by f (changed_at change at items) ≤ sum_by f items + more
changed_at_sum {A = A} f more change at items each =
    by (slice_get items at) (λ x is. slice_get_within items at x is) (λ x is. get_or_from_slice_get items at x x is)
  where
    by : (found : Option A) → ((x : A) → found ≡ Some x → at < length items)
        → ((x : A) → found ≡ Some x → get_or items at x ≡ x)
        → sum_by f (option_map_or (λ item. slice_set items at (change item)) found items) ≤ sum_by f items + more
    by None within same = omega arith
    by (Some x) within same =
        omega (
          arith,
          sum_by-set f items at (change x) x (within x refl),
          ap f (same x refl),
          each x,
        )

-- a list is as long where an item is changed
changed_length : {A : Type 0} (change : A → A) (at : ℕ) (items : List A)
    → length (changed_at change at items) ≡ length items
changed_length {A = A} change at items = by (slice_get items at) where
  by : (found : Option A) → length (option_map_or (λ item. slice_set items at (change item)) found items)
      ≡ length items
  by None = refl
  by (Some x) = length-set items at (change x)

-- ---- the limit

abbrev Few : Policies → Type 0
Few policies = policy_entries policies ≤ MOST_POLICY_ENTRIES

limit_kept : (policies more : Policies) → policy_entries more ≤ policy_entries policies + 1
    → IfOk (within_limit policies more) Few
limit_kept policies more one = by (has_room policies) (λ room. ltb-true _ _ room) where
  by : (room : Bool) → (room ≡ true → policy_entries policies < MOST_POLICY_ENTRIES)
      → IfOk (if room then Ok more else Err Limit) Few
  by true within = omega (arith, one, within refl)
  by false within = tt

-- ---- a line

access_line_kept : (line : Line) (said : List Said) (name : List ℕ) (policies : Policies) → Few policies
    → IfOk (access_line line said name policies) Few
unfolding access_line
access_line_kept line said name policies few =
    either (has_said Action said) _ (Ok policies) Few
    (limit_kept policies _
    (omega (
      arith,
      changed_sum (λ list. length list.entries) 1 (λ list. same_text list.name name)
          (λ list. record list { entries = list.entries ++ access_entry line.number said ∷ [] })
          (record {
            name = name;
            extended = is_extended (number_under Number said 0);
            named = false;
            entries = access_entry line.number said ∷ [];
          })
          policies.access (λ list. length_push list.entries (access_entry line.number said)) refl,
    )))
    few

entry_line_kept : (line : Line) (said : List Said) (at : ℕ) (policies : Policies) → Few policies
    → IfOk (entry_line line said at policies) Few
unfolding entry_line
entry_line_kept line said at policies few =
    either (has_said Action said) _ (Ok policies) Few
    (limit_kept policies _
    (omega (
      arith,
      changed_at_sum (λ list. length list.entries) 1
          (λ list. record list { entries = list.entries ++ access_entry line.number said ∷ [] }) at policies.access
          (λ list. length_push list.entries (access_entry line.number said)),
    )))
    few

open_line_kept : (extended : Bool) (name : List ℕ) (policies : Policies) → Few policies
    → IfOk (open_line extended name policies) Few
unfolding open_line
open_line_kept extended name policies few =
    either (is_opened name policies.access) (Err Repeated) _ Few tt
    (omega (
      arith,
      few,
      changed_sum (λ list. length list.entries) 0 (λ list. same_text list.name name)
          (λ list. record list { named = true })
          (record { name = name; extended = extended; named = true; entries = [] }) policies.access
          (λ list. omega arith) refl,
    ))

numbered_line_kept : (line : Line) (said : List Said) (name : List ℕ) (n : ℕ) (policies : Policies) → Few policies
    → IfOk (numbered_line line said name n policies) Few
unfolding numbered_line
numbered_line_kept line said name n policies few =
    let more : Policies = record policies {
      prefix_lists = with_prefix_entry name (prefix_entry line.number n said) policies.prefix_lists;
    } in
    either (nat_lt 4294967294 n) (Err (BadWord 4)) _ Few tt
    (either (has_number n (prefix_entries_of name policies.prefix_lists)) (Err Repeated)
    (within_limit policies more) Few
    tt
    (limit_kept policies more
    (omega (
      arith,
      changed_sum (λ list. length list.entries) 1 (λ list. same_text list.name name)
          (λ list. record list { entries = list.entries ++ prefix_entry line.number n said ∷ [] })
          (record { name = name; entries = prefix_entry line.number n said ∷ [] }) policies.prefix_lists
          (λ list. length_push list.entries (prefix_entry line.number n said)) refl,
    ))))

prefix_line_kept : (line : Line) (said : List Said) (name : List ℕ) (policies : Policies) → Few policies
    → IfOk (prefix_line line said name policies) Few
unfolding prefix_line
prefix_line_kept line said name policies few =
    either (has_said Action said) (numbered_line line said name (sequence_of name said policies) policies)
    (Ok policies) Few (numbered_line_kept line said name (sequence_of name said policies) policies few) few

community_line_kept : (line : Line) (said : List Said) (name : List ℕ) (policies : Policies)
    → IfOk (community_line line said name policies) Few
unfolding community_line
community_line_kept line said name policies =
    limit_kept policies _
    (omega (
      arith,
      changed_sum (λ list. length list.entries) 1 (λ list. same_text list.name name)
          (λ list. record list { entries = list.entries ++ community_entry line.number said ∷ [] })
          (record { name = name; entries = community_entry line.number said ∷ [] }) policies.communities
          (λ list. length_push list.entries (community_entry line.number said)) refl,
    ))

path_line_kept : (line : Line) (said : List Said) (name : List ℕ) (policies : Policies)
    → IfOk (path_line line said name policies) Few
unfolding path_line
path_line_kept line said name policies =
    limit_kept policies _
    (omega (
      arith,
      changed_sum (λ list. length list.entries) 1 (λ list. same_text list.name name)
          (λ list. record list { entries = list.entries ++ path_entry line.number said ∷ [] })
          (record { name = name; entries = path_entry line.number said ∷ [] }) policies.as_paths
          (λ list. length_push list.entries (path_entry line.number said)) refl,
    ))

map_line_kept : (line : Line) (said : List Said) (name : List ℕ) (policies : Policies)
    → IfOk (map_line line said name policies) Few
unfolding map_line
map_line_kept line said name policies =
    either _ (Err Repeated) _ Few tt
    (limit_kept policies _
    (omega (
      arith,
      changed_sum (λ map. length map.entries) 1 (λ map. same_text map.name name)
          (λ map. record map { entries = map.entries ++ map_entry line.number said ∷ [] })
          (record { name = name; entries = map_entry line.number said ∷ [] }) policies.maps
          (λ map. length_push map.entries (map_entry line.number said)) refl,
    )))

clause_line_kept : (clause : MapClause) (at : ℕ) (policies : Policies) → Few policies
    → IfOk (clause_line clause at policies) Few
unfolding clause_line
clause_line_kept clause at policies few =
    let more : Policies = record policies { maps = maps_with clause at policies.maps } in
    let fewer : Few more = omega (
      arith,
      few,
      changed_at_sum (λ map. length map.entries) 0
          (λ map. record map { entries = changed_at (with_clause clause) (length map.entries - 1) map.entries }) at
          policies.maps
          (λ map. omega (arith, changed_length (with_clause clause) (length map.entries - 1) map.entries)),
    ) in
    either (option_map_or (λ entry. repeats clause entry) (open_entry at policies.maps) false) (Err Repeated) (Ok more)
    Few tt fewer

map_block_line_kept : (r : Row) (line : Line) (said : List Said) (at : ℕ) (policies : Policies) → Few policies
    → IfOk (map_block_line r line said at policies) Few
unfolding map_block_line
map_block_line_kept r line said at policies few = by (clause_of r line.number line.words said) where
  by : (clause : Option MapClause) → IfOk (option_map_or (λ c. clause_line c at policies) clause (Ok policies)) Few
  by None = few
  by (Some clause) = clause_line_kept clause at policies few

-- ---- any line

few_each : KeepsEach Few
few_each = record {
  access = access_line_kept;
  entry = entry_line_kept;
  opening = open_line_kept;
  prefix = λ line said name policies says few. prefix_line_kept line said name policies few;
  community = λ line said name policies few. community_line_kept line said name policies;
  path = λ line said name policies few. path_line_kept line said name policies;
  route_map = λ line said name policies few. map_line_kept line said name policies;
  clause = map_block_line_kept;
}

-- where there are not too many entries, there are not too many after a line
pub few_entries : (line : Line) (block : PolicyBlock) (policies : Policies)
    → policy_entries policies ≤ MOST_POLICY_ENTRIES
    → IfOk (policy_reading line block policies) (λ taken. policy_entries taken.policies ≤ MOST_POLICY_ENTRIES)
few_entries line block policies few = policies_kept Few few_each line block policies few
