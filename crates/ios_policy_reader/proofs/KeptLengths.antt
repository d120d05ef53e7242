-- Lines of lists and route maps keep the lengths of prefix lists in their order.
use Rattle.std.proofs.Common.{◌≡◌, ℕ, ◌<◌, Bool, true, false, List, [], ◌∷◌, ◌++◌, length, get_or, Option, Some, None}
use Rattle.std.proofs.Common.{Ok, Err, refl, ◌∙◌}
use Rattle.std.specs.Prelude.{IfOk, All, nat_lt, position, slice_set}
use Rattle.std.specs.List.{list_all}
use Rattle.std.specs.Option.{option_map_or}
use Rattle.std.proofs.lemmas.Bool.{and_from}
use Rattle.std.proofs.lemmas.List.Elements.{All-set}
use Rattle.std.proofs.lemmas.List.Folds.{list_all-append}
use Rattle.std.proofs.lemmas.List.Quantifiers.{position-Some}
use Rattle.std.proofs.lemmas.List.Sums.{AllPass-from_list_all, list_all-from_AllPass}
use Rattle.mw_text.specs.declared.words.Line.{Line}
use Rattle.mw_text.specs.Text.{same_text}
use Rattle.ios_ast.specs.declared.policies.Policies.{Policies}
use Rattle.ios_ast.specs.declared.policies.PrefixEntry.{PrefixEntry}
use Rattle.ios_ast.specs.declared.policies.PrefixList.{PrefixList}
use Rattle.ios_ast.specs.Limits.{has_lengths_in_order, have_lengths_in_order}
use Rattle.ios_policy_reader.specs.declared.cause.Cause.TheVariants.{BadWord, Limit, Repeated}
use Rattle.ios_policy_reader.specs.declared.clauses.MapClause.{MapClause}
use Rattle.ios_policy_reader.specs.declared.heads.Row.{Row}
use Rattle.ios_policy_reader.specs.declared.policies.PolicyBlock.{PolicyBlock}
use Rattle.ios_policy_reader.specs.declared.said.Said.{Said}
use Rattle.ios_policy_reader.specs.declared.said.Tag.TheVariants.{Action}
use Rattle.ios_policy_reader.specs.Clauses.{clause_of, maps_with, open_entry, repeats}
use Rattle.ios_policy_reader.specs.Entries.{prefix_entry}
use Rattle.ios_policy_reader.specs.Lists.{changed_or_new, has_number, has_room, is_opened, prefix_entries_of}
use Rattle.ios_policy_reader.specs.Lists.{with_prefix_entry}
use Rattle.ios_policy_reader.specs.Policies.{access_line, clause_line, community_line, entry_line, map_block_line}
use Rattle.ios_policy_reader.specs.Policies.{map_line, numbered_line, open_line, path_line, policy_reading, prefix_line}
use Rattle.ios_policy_reader.specs.Policies.{sequence_of, within_limit}
use Rattle.ios_policy_reader.specs.Said.{has_said}
use Rattle.ios_policy_reader.proofs.KeptPolicies.{KeepsEach, either, policies_kept}
use Rattle.ios_policy_reader.proofs.SaidLengths.{HasLengths}

abbrev InOrder : Policies → Type 0
InOrder policies = have_lengths_in_order policies.prefix_lists ≡ true

-- ---- a prefix list with an entry more

-- all pass where the item that is changed, or the new one, does
all_changed : {A : Type 0} (p test : A → Bool) (change : A → A) (new : A) (items : List A) →
    ((x : A) → p x ≡ true → p (change x) ≡ true) → p new ≡ true → list_all p items ≡ true →
    list_all p (changed_or_new test change new items) ≡ true
all_changed {A} p test change new items each fresh all =
    by (position test items) (λ i is. (position-Some test items i new is).0)
  where
    passes : All (λ x. p x ≡ true) items
    passes = AllPass-from_list_all p items all

    by : (at : Option ℕ) → ((i : ℕ) → at ≡ Some i → i < length items) →
        list_all p (option_map_or (λ i. slice_set items i (change (get_or items i new))) at (items ++ new ∷ [])) ≡ true
    by None within =
        list_all-append p items (new ∷ [])
        ∙ and_from (list_all p items) (list_all p (new ∷ [])) all (and_from (p new) true fresh refl)
    by (Some i) within =
        list_all-from_AllPass p (slice_set items i (change (get_or items i new)))
        (All-set (λ x. p x ≡ true) items i (change (get_or items i new))
        (each (get_or items i new) (passes i new (within i refl))) passes)

entry_added : (name : List ℕ) (entry : PrefixEntry) (lists : List PrefixList) → has_lengths_in_order entry ≡ true →
    have_lengths_in_order lists ≡ true → have_lengths_in_order (with_prefix_entry name entry lists) ≡ true
entry_added name entry lists fits all =
    let alone : list_all has_lengths_in_order (entry ∷ []) ≡ true = and_from (has_lengths_in_order entry) true fits refl
    in
    all_changed (λ list. list_all has_lengths_in_order list.entries) (λ list. same_text list.name name)
    (λ list. record list { entries = list.entries ++ entry ∷ [] }) (record { name = name; entries = entry ∷ [] }) lists
    (λ list fit. list_all-append has_lengths_in_order list.entries (entry ∷ [])
    ∙ and_from (list_all has_lengths_in_order list.entries) (list_all has_lengths_in_order (entry ∷ [])) fit alone)
    alone all

-- ---- a line

limit_kept : (policies more : Policies) → InOrder more → IfOk (within_limit policies more) InOrder
limit_kept policies more kept = either (has_room policies) (Ok more) (Err Limit) InOrder kept tt

access_line_kept : (line : Line) (said : List Said) (name : List ℕ) (policies : Policies) → InOrder policies
    → IfOk (access_line line said name policies) InOrder
unfolding access_line
access_line_kept line said name policies kept =
    either (has_said Action said) _ (Ok policies) InOrder (limit_kept policies _ kept) kept

entry_line_kept : (line : Line) (said : List Said) (at : ℕ) (policies : Policies) → InOrder policies
    → IfOk (entry_line line said at policies) InOrder
unfolding entry_line
entry_line_kept line said at policies kept =
    either (has_said Action said) _ (Ok policies) InOrder (limit_kept policies _ kept) kept

open_line_kept : (extended : Bool) (name : List ℕ) (policies : Policies) → InOrder policies
    → IfOk (open_line extended name policies) InOrder
unfolding open_line
open_line_kept extended name policies kept =
    either (is_opened name policies.access) (Err Repeated) _ InOrder tt kept

numbered_line_kept : (line : Line) (said : List Said) (name : List ℕ) (n : ℕ) (policies : Policies) → HasLengths said
    → InOrder policies → IfOk (numbered_line line said name n policies) InOrder
unfolding numbered_line
numbered_line_kept line said name n policies has kept =
    either (nat_lt 4294967294 n) (Err (BadWord 4)) _ InOrder tt
    (either (has_number n (prefix_entries_of name policies.prefix_lists)) (Err Repeated) _ InOrder tt
    (limit_kept policies _ (entry_added name (prefix_entry line.number n said) policies.prefix_lists has kept)))

prefix_line_kept : (line : Line) (said : List Said) (name : List ℕ) (policies : Policies) → HasLengths said
    → InOrder policies → IfOk (prefix_line line said name policies) InOrder
unfolding prefix_line
prefix_line_kept line said name policies has kept =
    either (has_said Action said) (numbered_line line said name (sequence_of name said policies) policies)
    (Ok policies) InOrder (numbered_line_kept line said name (sequence_of name said policies) policies has kept) kept

community_line_kept : (line : Line) (said : List Said) (name : List ℕ) (policies : Policies) → InOrder policies
    → IfOk (community_line line said name policies) InOrder
unfolding community_line
community_line_kept line said name policies kept = limit_kept policies _ kept

path_line_kept : (line : Line) (said : List Said) (name : List ℕ) (policies : Policies) → InOrder policies
    → IfOk (path_line line said name policies) InOrder
unfolding path_line
path_line_kept line said name policies kept = limit_kept policies _ kept

map_line_kept : (line : Line) (said : List Said) (name : List ℕ) (policies : Policies) → InOrder policies
    → IfOk (map_line line said name policies) InOrder
unfolding map_line
map_line_kept line said name policies kept = either _ (Err Repeated) _ InOrder tt (limit_kept policies _ kept)

clause_line_kept : (clause : MapClause) (at : ℕ) (policies : Policies) → InOrder policies
    → IfOk (clause_line clause at policies) InOrder
unfolding clause_line
clause_line_kept clause at policies kept =
    either (option_map_or (λ entry. repeats clause entry) (open_entry at policies.maps) false) (Err Repeated)
    (Ok (record policies { maps = maps_with clause at policies.maps })) InOrder tt kept

map_block_line_kept : (r : Row) (line : Line) (said : List Said) (at : ℕ) (policies : Policies) → InOrder policies
    → IfOk (map_block_line r line said at policies) InOrder
unfolding map_block_line
map_block_line_kept r line said at policies kept = by (clause_of r line.number line.words said) where
  by : (clause : Option MapClause) → IfOk (option_map_or (λ c. clause_line c at policies) clause (Ok policies)) InOrder
  by None = kept
  by (Some clause) = clause_line_kept clause at policies kept

order_each : KeepsEach InOrder
order_each = record {
  access = access_line_kept;
  entry = entry_line_kept;
  opening = open_line_kept;
  prefix = prefix_line_kept;
  community = community_line_kept;
  path = path_line_kept;
  route_map = map_line_kept;
  clause = map_block_line_kept;
}

-- where the lengths of prefix lists are in order, they are after a line
pub lengths_kept : (line : Line) (block : PolicyBlock) (policies : Policies)
    → have_lengths_in_order policies.prefix_lists ≡ true
    → IfOk (policy_reading line block policies) (λ taken. have_lengths_in_order taken.policies.prefix_lists ≡ true)
lengths_kept line block policies kept = policies_kept InOrder order_each line block policies kept
