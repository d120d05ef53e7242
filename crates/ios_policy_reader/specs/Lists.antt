-- What the lines of lists and route maps put into the policies of a file.
use Rattle.std.specs.Prelude.{ℕ, ◌+◌, ◌==◌, ◌&&◌, Bool, true, false, max, min, List, [], ◌∷◌, ◌++◌, length, fold}
use Rattle.std.specs.Prelude.{position, unwrap_or, slice_get, slice_set, slice_index_or, nat_lt}
use Rattle.std.specs.Option.{option_map_or}
use Rattle.std.specs.List.{list_any, find, sum_by}
use Rattle.mw_text.specs.Text.{same_text}
use Rattle.ios_ast.specs.declared.file.TheConstants.{MOST_POLICY_ENTRIES}
use Rattle.ios_ast.specs.declared.policies.Policies.{Policies}
use Rattle.ios_ast.specs.declared.policies.PrefixEntry.{PrefixEntry}
use Rattle.ios_ast.specs.declared.policies.PrefixList.{PrefixList}
use Rattle.ios_ast.specs.declared.policies.CommunityEntry.{CommunityEntry}
use Rattle.ios_ast.specs.declared.policies.CommunityList.{CommunityList}
use Rattle.ios_ast.specs.declared.policies.AsPathEntry.{AsPathEntry}
use Rattle.ios_ast.specs.declared.policies.AsPathList.{AsPathList}
use Rattle.ios_ast.specs.declared.policies.AccessEntry.{AccessEntry}
use Rattle.ios_ast.specs.declared.policies.AccessList.{AccessList}
use Rattle.ios_ast.specs.declared.policies.MapEntry.{MapEntry}
use Rattle.ios_ast.specs.declared.policies.RouteMap.{RouteMap}

-- ---- lists of lists

-- the item at a place changed
abbrev pub changed_at : {A : Type 0} → (A → A) → ℕ → List A → List A
changed_at change at items = option_map_or (λ item. slice_set items at (change item)) (slice_get items at) items

-- the first such item changed, or a new one at the end
abbrev pub changed_or_new : {A : Type 0} → (A → Bool) → (A → A) → A → List A → List A
changed_or_new test change new items =
    option_map_or (λ at. slice_set items at (change (slice_index_or items at new))) (position test items)
    (items ++ new ∷ [])

-- where the first such item stands, or a new one would; positions have 32 bits
unfoldable pub place_of : {A : Type 0} → (A → Bool) → List A → ℕ
place_of test items = min (unwrap_or (position test items) (length items)) 4294967295

-- ---- how many entries there are

-- how many entries the lists and route maps of a file have, all together
abbrev pub policy_entries : Policies → ℕ
policy_entries policies =
    sum_by (λ list. length list.entries) policies.prefix_lists
    + sum_by (λ list. length list.entries) policies.communities
    + sum_by (λ list. length list.entries) policies.as_paths
    + sum_by (λ list. length list.entries) policies.access
    + sum_by (λ map. length map.entries) policies.maps

-- there is room for one more
abbrev pub has_room : Policies → Bool
has_room policies = nat_lt (policy_entries policies) MOST_POLICY_ENTRIES

-- ---- an entry at the end of the list of that name

abbrev pub with_prefix_entry : List ℕ → PrefixEntry → List PrefixList → List PrefixList
with_prefix_entry name entry lists =
    changed_or_new (λ list. same_text list.name name)
    (λ list. record list { entries = list.entries ++ entry ∷ [] })
    (record { name = name; entries = entry ∷ [] }) lists

abbrev pub with_community_entry : List ℕ → CommunityEntry → List CommunityList → List CommunityList
with_community_entry name entry lists =
    changed_or_new (λ list. same_text list.name name)
    (λ list. record list { entries = list.entries ++ entry ∷ [] })
    (record { name = name; entries = entry ∷ [] }) lists

abbrev pub with_path_entry : List ℕ → AsPathEntry → List AsPathList → List AsPathList
with_path_entry name entry lists =
    changed_or_new (λ list. same_text list.name name)
    (λ list. record list { entries = list.entries ++ entry ∷ [] })
    (record { name = name; entries = entry ∷ [] }) lists

-- a list that no `ip access-list` line opened is not named
abbrev pub with_access_entry : List ℕ → Bool → AccessEntry → List AccessList → List AccessList
with_access_entry name extended entry lists =
    changed_or_new (λ list. same_text list.name name)
    (λ list. record list { entries = list.entries ++ entry ∷ [] })
    (record { name = name; extended = extended; named = false; entries = entry ∷ [] }) lists

abbrev pub with_map_entry : List ℕ → MapEntry → List RouteMap → List RouteMap
with_map_entry name entry maps =
    changed_or_new (λ map. same_text map.name name)
    (λ map. record map { entries = map.entries ++ entry ∷ [] })
    (record { name = name; entries = entry ∷ [] }) maps

-- ---- access lists

-- an `ip access-list` line opened the list of that name
abbrev pub is_opened : List ℕ → List AccessList → Bool
is_opened name lists = list_any (λ list. same_text list.name name && list.named) lists

-- the list of that name, opened by an `ip access-list` line
abbrev pub with_opened : List ℕ → Bool → List AccessList → List AccessList
with_opened name extended lists =
    changed_or_new (λ list. same_text list.name name)
    (λ list. record list { named = true })
    (record { name = name; extended = extended; named = true; entries = [] }) lists

-- an entry in the list at that place
abbrev pub with_entry_at : ℕ → AccessEntry → List AccessList → List AccessList
with_entry_at at entry lists = changed_at (λ list. record list { entries = list.entries ++ entry ∷ [] }) at lists

-- ---- numbers of entries

-- the entries of the prefix list of that name
abbrev pub prefix_entries_of : List ℕ → List PrefixList → List PrefixEntry
prefix_entries_of name lists =
    option_map_or (λ list. list.entries) (find (λ list. same_text list.name name) lists) []

-- the highest number plus 5
abbrev pub next_number : List PrefixEntry → ℕ
next_number entries = fold (λ n entry. max n entry.seq) 0 entries + 5

abbrev pub has_number : ℕ → List PrefixEntry → Bool
has_number n entries = list_any (λ entry. entry.seq == n) entries

-- the entries of the route map of that name
abbrev pub map_entries_of : List ℕ → List RouteMap → List MapEntry
map_entries_of name maps = option_map_or (λ map. map.entries) (find (λ map. same_text map.name name) maps) []

abbrev pub has_map_number : ℕ → List MapEntry → Bool
has_map_number n entries = list_any (λ entry. entry.seq == n) entries
