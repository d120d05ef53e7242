-- Reading keeps the limits of a file: each line that is taken does.
use Rattle.std.proofs.Common.{◌≡◌, ℕ, ◌+◌, ◌-◌, ◌<◌, ◌≤◌, ◌⊎◌, Bool, true, false, not, List, [], ◌∷◌, ◌++◌, length}
use Rattle.std.proofs.Common.{Option, Some, None, Result, Ok, Err, is_some, refl, ap, sym, subst, ◌∙◌, arith, nat_le}
use Rattle.std.proofs.Common.{cond, get_or, inl, inr}
use Rattle.std.specs.Prelude.{All, IfOk, IfSome, ◌==◌, nat_lt, position, slice_get, slice_set, if◌then◌else◌}
use Rattle.std.specs.List.{list_all, list_any, position_or_len}
use Rattle.std.specs.Option.{option_map_or}
use Rattle.std.proofs.lemmas.Bool.{and_from, cond_both, leb-false, le-leb, lt-ltb, ltb-false}
use Rattle.std.proofs.lemmas.Bool.Decides.{nat_tests}
use Rattle.std.proofs.lemmas.List.{length-append, length-set}
use Rattle.std.proofs.lemmas.List.Elements.{All-nil, All-push, All-set, All-weaker}
use Rattle.std.proofs.lemmas.List.Folds.{list_all-append}
use Rattle.std.proofs.lemmas.List.Sums.{AllPass-from_list_all, fails_before_first, list_all-from_AllPass}
use Rattle.mw_text.proofs.Lists.{all_at, all_found}
use Rattle.std.proofs.lemmas.Result.{IfOk-at_ok, IfOk-weaker}
use Rattle.mw_text.specs.declared.address.Addr.{Addr}
use Rattle.mw_text.specs.declared.words.Line.{Line}
use Rattle.mw_text.specs.Reading.{following}
use Rattle.mw_text.specs.Text.{same_text}
use Rattle.mw_text.specs.Words.{is_skipped, line_at, numbered}
use Rattle.ios_ast.specs.declared.bgp.Bgp.{Bgp}
use Rattle.ios_ast.specs.declared.bgp.Neighbour.{Neighbour}
use Rattle.ios_ast.specs.declared.file.File.{File}
use Rattle.ios_ast.specs.declared.file.IfAddr.{IfAddr}
use Rattle.ios_ast.specs.declared.file.Iface.{Iface}
use Rattle.ios_ast.specs.declared.file.TheConstants.{MOST_INTERFACES, MOST_LINES, MOST_NEIGHBOURS, MOST_POLICY_ENTRIES}
use Rattle.ios_ast.specs.declared.file.Use.{Use}
use Rattle.ios_ast.specs.declared.policies.Policies.{Policies}
use Rattle.ios_ast.specs.Limits.{each_pair, has_cost_in_range, have_lengths_in_order, have_two_addresses}
use Rattle.ios_ast.specs.Limits.{have_two_lines, keeps_limits}
use Rattle.ios_ast.proofs.KeptLimits.{KeepsLimits, limits_from}
use Rattle.ios_ast.proofs.Pairs.{PassesFor, each_pair-push, each_pair-set}
use Rattle.ios_policy_reader.specs.declared.cause.Cause.{Cause}
use Rattle.ios_policy_reader.specs.declared.cause.Cause.TheVariants.{OutOfPlace}
use Rattle.ios_policy_reader.specs.declared.cause.Refused.{Refused}
use Rattle.ios_policy_reader.specs.declared.heads.Row.{Row}
use Rattle.ios_policy_reader.specs.declared.heads.Row.TheVariants as row
use Rattle.ios_policy_reader.specs.declared.said.Said.{Said}
use Rattle.ios_policy_reader.specs.declared.said.Tag.TheVariants.{Address, Client, FilterList, Map, Name, NextHopSelf}
use Rattle.ios_policy_reader.specs.declared.said.Tag.TheVariants.{Number, PrefixList, Remote, SendCommunity, Shutdown}
use Rattle.ios_policy_reader.specs.declared.said.Tag.TheVariants.{UpdateSource, Weight}
use Rattle.ios_policy_reader.specs.Heads.{said_in}
use Rattle.ios_policy_reader.specs.Lists.{policy_entries}
use Rattle.ios_policy_reader.specs.Policies.{Taken, policy_reading}
use Rattle.ios_policy_reader.proofs.KeptEntries.{few_entries}
use Rattle.ios_policy_reader.proofs.KeptLengths.{lengths_kept}
use Rattle.ios_policy_reader.specs.Said.{address_under, has_said, number_under}
use Rattle.ios_reader.specs.declared.draft.Block.{Block}
use Rattle.ios_reader.specs.declared.draft.Block.TheVariants as block
use Rattle.ios_reader.specs.declared.draft.Draft.{Draft}
use Rattle.ios_reader.specs.declared.draft.Seen.{Seen}
use Rattle.ios_reader.specs.Banners.{banner_text, delimiter_of, ends_on_line, has_end, holds}
use Rattle.ios_reader.specs.Bgp.{new_bgp, new_neighbour}
use Rattle.ios_reader.specs.BgpRows.{bgp_row}
use Rattle.ios_reader.specs.Drafts.{closed, empty_draft}
use Rattle.ios_reader.specs.InterfaceRows.{interface_row, is_inward, named_once, with_cost, with_list}
use Rattle.ios_reader.specs.Interfaces.{new_interface, no_address}
use Rattle.ios_reader.specs.Names.{name_under}
use Rattle.ios_reader.specs.Neighbours.{changed_by, place_of, use_of, used_by, with_changed, with_filter, with_flag}
use Rattle.ios_reader.specs.Neighbours.{with_map, with_neighbour, with_new, with_prefix_list}
use Rattle.ios_reader.specs.OspfRows.{ospf_row}
use Rattle.ios_reader.specs.Reading.{at_line, found_in, from_policies, in_banner, in_ignored, is_preamble, own_line}
use Rattle.ios_reader.specs.Reading.{policy_first, put_row, read_lines, reading, row_line, with_line}
use Rattle.ios_reader.specs.SubRows.{bgp_set, block_row, in_bgp, in_last_interface, in_ospf, last_set, ospf_set}
use Rattle.ios_reader.specs.TopRows.{in_new_interface, top_row, with_interface}
use Rattle.ios_reader.proofs.SaidCosts.{SaysCost, says_cost}

-- ---- facts of what follows

after : {A B E : Type 0} (next : A → Result B E) (r : Result A E) (P : B → Type 0)
    → ((x : A) → r ≡ Ok x → IfOk (next x) P) → IfOk (following next r) P
after next (Ok x) P each = each x refl
after next (Err why) P each = tt

mapped : {A B E : Type 0} (f : A → B) (r : Result A E) (P : B → Type 0) → IfOk r (λ x. P (f x))
    → IfOk (following (λ x. Ok (f x)) r) P
mapped f (Ok x) P holds = holds
mapped f (Err why) P holds = tt

always : {A E : Type 0} (r : Result A E) (P : A → Type 0) → ((x : A) → P x) → IfOk r P
always (Ok x) P all = all x
always (Err why) P all = tt

present : {A B E : Type 0} (f : A → Result B E) (o : Option A) (otherwise : Result B E) (P : B → Type 0)
    → ((x : A) → o ≡ Some x → IfOk (f x) P) → IfOk otherwise P → IfOk (option_map_or f o otherwise) P
present f None otherwise P some none = none
present f (Some x) otherwise P some none = some x refl

either : {A E : Type 0} (test : Bool) (x y : Result A E) (P : A → Type 0) → (test ≡ true → IfOk x P)
    → (test ≡ false → IfOk y P) → IfOk (if test then x else y) P
either true x y P there here = there refl
either false x y P there here = here refl

-- ---- the limits

-- the limits of a file, that of the entries of its lists and maps among them
abbrev IsWithinLimits : File → Type 0
IsWithinLimits file = (keeps_limits file ≡ true) × (policy_entries file.policies ≤ MOST_POLICY_ENTRIES)

-- the interface has its address by a line before that number
abbrev IsAbove : ℕ → Iface → Type 0
IsAbove n iface = IfSome iface.address (λ own. own.line < n)

-- before the line of a number these parts of a file keep the limits, and all `ip address` lines stand above it
record Kept (n : ℕ) (interfaces : List Iface) (bgp : Option Bgp) (policies : Policies) : Type 0 where
  few_interfaces : nat_le (length interfaces) MOST_INTERFACES ≡ true
  few_neighbours : option_map_or (λ b. nat_le (length b.neighbours) MOST_NEIGHBOURS) bgp true ≡ true
  costs : list_all has_cost_in_range interfaces ≡ true
  lengths : have_lengths_in_order policies.prefix_lists ≡ true
  once : option_map_or (λ b. each_pair have_two_addresses b.neighbours) bgp true ≡ true
  lines : each_pair have_two_lines interfaces ≡ true
  entries : policy_entries policies ≤ MOST_POLICY_ENTRIES
  above : All (IsAbove n) interfaces

abbrev Keeps : ℕ → Draft → Type 0
Keeps n draft = Kept n draft.file.interfaces draft.file.bgp draft.file.policies

further : (n : ℕ) (iface : Iface) → IsAbove n iface → IsAbove (n + 1) iface
further n iface = by iface.address where
  by : (own : Option IfAddr) → IfSome own (λ a. a.line < n) → IfSome own (λ a. a.line < n + 1)
  by None above = tt
  by (Some own) above = omega (arith, above)

-- so it is before the next
next : (n : ℕ) (draft : Draft) → Keeps n draft → Keeps (n + 1) draft
next n draft keeps = record {
  few_interfaces = keeps.few_interfaces;
  few_neighbours = keeps.few_neighbours;
  costs = keeps.costs;
  lengths = keeps.lengths;
  once = keeps.once;
  lines = keeps.lines;
  entries = keeps.entries;
  above = All-weaker (IsAbove n) (IsAbove (n + 1)) (further n) draft.file.interfaces keeps.above;
}

-- at the end the file is within its limits
within_limits : (n : ℕ) (draft : Draft) → Keeps n draft → IsWithinLimits draft.file
within_limits n draft keeps =
    let all : KeepsLimits draft.file = record {
      interfaces = keeps.few_interfaces;
      neighbours = keeps.few_neighbours;
      costs = keeps.costs;
      lengths = keeps.lengths;
      once = keeps.once;
      lines = keeps.lines;
    } in
    (limits_from draft.file all, keeps.entries)

-- one more, where there are not too many
one_more : {A : Type 0} (xs : List A) (x : A) (most : ℕ) → nat_le most (length xs) ≡ false
    → nat_le (length (xs ++ x ∷ [])) most ≡ true
one_more xs x most room =
    le-leb (length (xs ++ x ∷ [])) most (omega (arith, length-append xs (x ∷ []), leb-false most (length xs) room))

-- as many, where one is changed
as_many : {A : Type 0} (xs : List A) (k : ℕ) (x : A) (most : ℕ) → nat_le (length xs) most ≡ true
    → nat_le (length (slice_set xs k x)) most ≡ true
as_many xs k x most few = ap (λ n. nat_le n most) (length-set xs k x) ∙ few

all_set : {A : Type 0} (p : A → Bool) (xs : List A) (k : ℕ) (x : A) → list_all p xs ≡ true → p x ≡ true
    → list_all p (slice_set xs k x) ≡ true
all_set p xs k x all one =
    list_all-from_AllPass p (slice_set xs k x) (All-set (λ y. p y ≡ true) xs k x one (AllPass-from_list_all p xs all))

-- ---- an interface block

abbrev CostKept : Iface → Type 0
CostKept iface = has_cost_in_range iface ≡ true

-- its address is the one from before, or was written by the line of that number, or is none
abbrev AddressKept : ℕ → Iface → Iface → Type 0
AddressKept n old new = (new.address ≡ old.address) ⊎ IfSome new.address (λ own. own.line ≡ n)

abbrev StepKept : ℕ → Iface → Iface × Seen → Type 0
StepKept n old changed = CostKept changed.0 × AddressKept n old changed.0

abbrev AsBefore : Iface → Iface → Type 0
AsBefore old new = CostKept new × (new.address ≡ old.address)

with_list_kept : (line : Line) (said : List Said) (iface : Iface) → CostKept iface
    → IfOk (with_list line said iface) (AsBefore iface)
with_list_kept line said iface kept =
    either (is_inward said) _ _ (AsBefore iface)
    (λ _. mapped (λ list. record iface { list_in = list }) (named_once line said iface.list_in) (AsBefore iface)
    (always (named_once line said iface.list_in) _ (λ _. (kept, refl))))
    (λ _. mapped (λ list. record iface { list_out = list }) (named_once line said iface.list_out) (AsBefore iface)
    (always (named_once line said iface.list_out) _ (λ _. (kept, refl))))

-- a step that leaves the address
same_address : (n : ℕ) (old : Iface) (seen : Seen) (changed : Result Iface Cause) → IfOk changed (AsBefore old)
    → IfOk (following (λ iface. Ok (iface, seen)) changed) (StepKept n old)
same_address n old seen (Ok new) kept = (kept.0, inl kept.1)
same_address n old seen (Err cause) kept = tt

interface_kept : (r : Row) (line : Line) (said : List Said) (iface : Iface) (seen : Seen) → SaysCost r said
    → CostKept iface → IfOk (interface_row r line said iface seen) (StepKept line.number iface)
interface_kept row.Address line said iface seen says kept =
    either seen.address _ _ (StepKept line.number iface) (λ _. tt) (λ _. (kept, inr refl))
interface_kept row.NoAddress line said iface seen says kept = (kept, inr tt)
interface_kept row.Bandwidth line said iface seen says kept =
    either seen.bandwidth _ _ (StepKept line.number iface) (λ _. tt) (λ _. (kept, inl refl))
interface_kept row.OspfCost line said iface seen says kept =
    same_address line.number iface seen (with_cost said iface)
    (either (is_some iface.cost) _ _ (AsBefore iface) (λ _. tt)
    (λ _. (
      and_from (nat_lt 0 (number_under Number said 0)) (nat_le (number_under Number said 0) 65535)
          (lt-ltb _ _ says.0) (le-leb _ _ says.1),
      refl,
    )))
interface_kept row.AccessGroup line said iface seen says kept =
    same_address line.number iface seen (with_list line said iface) (with_list_kept line said iface kept)
interface_kept _ line said iface seen says kept = (kept, inl refl)

apart : (a b : ℕ) → a < b → not (a == b) ≡ true
apart a b less = grind (arith, nat_tests)

apart_turned : (a b : ℕ) → a < b → not (b == a) ≡ true
apart_turned a b less = grind (arith, nat_tests)

-- a new address has another line than all above it
new_line : (n : ℕ) (old new other : Iface) → AddressKept n old new → IsAbove n other
    → PassesFor have_two_lines old new other
new_line n old new other (inl same) above = (
  subst (λ o. option_map_or (λ a. option_map_or (λ b. not (a.line == b.line)) other.address true) o true ≡ true)
      (sym same),
  subst (λ o. option_map_or (λ a. option_map_or (λ b. not (a.line == b.line)) o true) other.address true ≡ true)
      (sym same),
)
new_line n old new other (inr new_own) above = (
  λ _. first new.address other.address new_own above,
  λ _. second other.address new.address new_own above,
) where
  first : (own theirs : Option IfAddr) → IfSome own (λ a. a.line ≡ n) → IfSome theirs (λ a. a.line < n)
      → option_map_or (λ a. option_map_or (λ b. not (a.line == b.line)) theirs true) own true ≡ true
  first None theirs is below = refl
  first (Some a) None is below = refl
  first (Some a) (Some b) is below = apart_turned b.line a.line (omega (arith, is, below))

  second : (theirs own : Option IfAddr) → IfSome own (λ a. a.line ≡ n) → IfSome theirs (λ a. a.line < n)
      → option_map_or (λ a. option_map_or (λ b. not (a.line == b.line)) own true) theirs true ≡ true
  second None own is below = refl
  second (Some b) None is below = refl
  second (Some b) (Some a) is below = apart b.line a.line (omega (arith, is, below))

-- and stands above the next line
still_above : (n : ℕ) (old new : Iface) → AddressKept n old new → IsAbove n old → IsAbove (n + 1) new
still_above n old new (inl same) above =
    subst (λ o. IfSome o (λ own. own.line < n + 1)) (sym same) (further n old above)
still_above n old new (inr new_own) above = by new.address new_own where
  by : (own : Option IfAddr) → IfSome own (λ a. a.line ≡ n) → IfSome own (λ a. a.line < n + 1)
  by None is = tt
  by (Some a) is = omega (arith, is)

last_kept : (n : ℕ) (draft : Draft) (last : Iface) (changed : Iface × Seen) → Keeps n draft
    → slice_get draft.file.interfaces (length draft.file.interfaces - 1) ≡ Some last → StepKept n last changed
    → Keeps (n + 1) (last_set draft changed)
last_kept n draft last changed keeps found step =
    let interfaces = draft.file.interfaces in
    let at : ℕ = length interfaces - 1 in
    let passes : All (PassesFor have_two_lines last changed.0) interfaces =
    All-weaker (IsAbove n) (PassesFor have_two_lines last changed.0)
    (λ other above. new_line n last changed.0 other step.1 above) interfaces keeps.above in
    record {
      few_interfaces = as_many interfaces at changed.0 MOST_INTERFACES keeps.few_interfaces;
      few_neighbours = keeps.few_neighbours;
      costs = all_set has_cost_in_range interfaces at changed.0 keeps.costs step.0;
      lengths = keeps.lengths;
      once = keeps.once;
      lines = each_pair-set have_two_lines interfaces at last changed.0 found passes keeps.lines;
      entries = keeps.entries;
      above = All-set (IsAbove (n + 1)) interfaces at changed.0
          (still_above n last changed.0 step.1 (all_found (IsAbove n) interfaces at last keeps.above found))
          (next n draft keeps).above;
    }

in_interface_kept : (r : Row) (line : Line) (said : List Said) (draft : Draft) → SaysCost r said
    → Keeps line.number draft → IfOk (in_last_interface r line said draft) (Keeps (line.number + 1))
in_interface_kept r line said draft says keeps =
    let at : ℕ = length draft.file.interfaces - 1 in
    let P : Draft → Type 0 = Keeps (line.number + 1) in
    present (λ last. following (λ changed. Ok (last_set draft changed)) (interface_row r line said last draft.seen))
    (slice_get draft.file.interfaces at) (Err OutOfPlace) P
    (λ last found. mapped (last_set draft) (interface_row r line said last draft.seen) P
    (IfOk-weaker (interface_row r line said last draft.seen) (StepKept line.number last)
    (λ changed. P (last_set draft changed))
    (λ changed step. last_kept line.number draft last changed keeps found step)
    (interface_kept r line said last draft.seen says
    (all_at has_cost_in_range draft.file.interfaces at last keeps.costs found)))) tt

-- ---- the blocks of OSPF and BGP

in_ospf_kept : (n : ℕ) (r : Row) (line : Line) (said : List Said) (draft : Draft) → Keeps n draft
    → IfOk (in_ospf r line said draft) (Keeps n)
in_ospf_kept n r line said draft keeps =
    present (λ ospf. following (λ changed. Ok (ospf_set draft changed)) (ospf_row r line said ospf draft.seen))
    draft.file.ospf (Err OutOfPlace) (Keeps n)
    (λ ospf found. mapped (ospf_set draft) (ospf_row r line said ospf draft.seen) (Keeps n)
    (always (ospf_row r line said ospf draft.seen) _
    (λ changed. keeps))) tt

-- not too many neighbours, of which no two have one address
abbrev NeighboursKept : List Neighbour → Type 0
NeighboursKept neighbours =
    (nat_le (length neighbours) MOST_NEIGHBOURS ≡ true) × (each_pair have_two_addresses neighbours ≡ true)

-- what is nowhere in a list is none of it
nowhere : {A : Type 0} (test : A → Bool) (xs : List A) → is_some (position test xs) ≡ false
    → All (λ x. not (test x) ≡ true) xs
nowhere test xs none k d within = by (nat_lt (position_or_len test xs) (length xs)) none refl where
  by : (found : Bool) → is_some (cond found (Some (position_or_len test xs)) None) ≡ false
      → nat_lt (position_or_len test xs) (length xs) ≡ found → not (test (get_or xs k d)) ≡ true
  by true wrong is = absurd cc
  by false right is =
      let past = ltb-false (position_or_len test xs) (length xs) is in
      ap not (fails_before_first test xs k d (omega (arith, past, within)))

one_list : (said : List Said) (used : Use) (n : Neighbour) → (with_prefix_list said used n).addr ≡ n.addr
one_list said used n = cond_both (is_inward said) _ _ (λ (m : Neighbour). m.addr ≡ n.addr) (λ _. refl) (λ _. refl)

one_map : (said : List Said) (used : Use) (n : Neighbour) → (with_map said used n).addr ≡ n.addr
one_map said used n = cond_both (is_inward said) _ _ (λ (m : Neighbour). m.addr ≡ n.addr) (λ _. refl) (λ _. refl)

one_filter : (said : List Said) (used : Use) (n : Neighbour) → (with_filter said used n).addr ≡ n.addr
one_filter said used n = cond_both (is_inward said) _ _ (λ (m : Neighbour). m.addr ≡ n.addr) (λ _. refl) (λ _. refl)

one_flag : (said : List Said) (n : Neighbour) → (with_flag said n).addr ≡ n.addr
one_flag said n =
    let P : Neighbour → Type 0 = λ m. m.addr ≡ n.addr in
    cond_both (has_said NextHopSelf said) _ _ P (λ _. refl)
    (λ _. cond_both (has_said Client said) _ _ P (λ _. refl)
    (λ _. cond_both (has_said SendCommunity said) _ _ P (λ _. refl)
    (λ _. cond_both (has_said Weight said) _ _ P (λ _. refl)
    (λ _. cond_both (has_said Shutdown said) _ _ P (λ _. refl) (λ _. refl)))))

one_use : (said : List Said) (used : Use) (n : Neighbour) → (used_by said used n).addr ≡ n.addr
one_use said used n =
    let P : Neighbour → Type 0 = λ m. m.addr ≡ n.addr in
    cond_both (has_said PrefixList said) _ _ P (λ _. one_list said used n)
    (λ _. cond_both (has_said Map said) _ _ P (λ _. one_map said used n)
    (λ _. cond_both (has_said FilterList said) _ _ P (λ _. one_filter said used n)
    (λ _. cond_both (has_said UpdateSource said) _ _ P (λ _. refl) (λ _. refl))))

-- a line on a neighbour leaves its address
address_kept : (line : Line) (said : List Said) (n : Neighbour) → (changed_by line said n).addr ≡ n.addr
address_kept line said n = one_use said (use_of line said) (with_flag said n) ∙ one_flag said n

-- so it has still another address than the others
passes_still : (n changed other : Neighbour) → changed.addr ≡ n.addr → PassesFor have_two_addresses n changed other
passes_still n changed other same = (
  subst (λ (a : Addr). not (a.0 == other.addr.0) ≡ true) (sym same),
  subst (λ (a : Addr). not (other.addr.0 == a.0) ≡ true) (sym same),
)

neighbours_kept : (line : Line) (said : List Said) (neighbours : List Neighbour) → NeighboursKept neighbours
    → IfOk (with_neighbour line said neighbours) NeighboursKept
neighbours_kept line said neighbours kept =
    let new : Neighbour = new_neighbour line.number said in
    either (has_said Remote said) (with_new line.number said neighbours) (with_changed line said neighbours)
    NeighboursKept
    (λ _. either (is_some (place_of new.addr neighbours)) _ _ NeighboursKept (λ _. tt)
    (λ none. either (nat_le MOST_NEIGHBOURS (length neighbours)) _ _ NeighboursKept (λ _. tt)
    (λ room. (
      one_more neighbours new MOST_NEIGHBOURS room,
      each_pair-push have_two_addresses neighbours new kept.1
          (nowhere (λ one. one.addr.0 == new.addr.0) neighbours none),
    ))))
    (λ _. present _ (place_of (address_under Address said no_address) neighbours) (Err OutOfPlace) NeighboursKept
    (λ at found. present (λ neighbour. Ok (slice_set neighbours at (changed_by line said neighbour)))
    (slice_get neighbours at) (Err OutOfPlace) NeighboursKept
    (λ neighbour there. (
      as_many neighbours at (changed_by line said neighbour) MOST_NEIGHBOURS kept.0,
      each_pair-set have_two_addresses neighbours at neighbour (changed_by line said neighbour) there
          (λ k d within. passes_still neighbour (changed_by line said neighbour) (get_or neighbours k d)
          (address_kept line said neighbour))
          kept.1,
    )) tt) tt)

abbrev BgpKept : Bgp → Type 0
BgpKept bgp = NeighboursKept bgp.neighbours

bgp_kept : (r : Row) (line : Line) (said : List Said) (bgp : Bgp) → BgpKept bgp
    → IfOk (bgp_row r line said bgp) BgpKept
bgp_kept row.RouterId line said bgp kept = either (is_some bgp.router_id) _ _ BgpKept (λ _. tt) (λ _. kept)
bgp_kept row.Neighbor line said bgp kept =
    mapped (λ neighbours. record bgp { neighbours = neighbours }) (with_neighbour line said bgp.neighbours) BgpKept
    (neighbours_kept line said bgp.neighbours kept)
bgp_kept _ line said bgp kept = kept

-- the draft with another process, whose neighbours are kept
process_kept : (n : ℕ) (draft : Draft) (bgp : Bgp) → BgpKept bgp → Keeps n draft → Keeps n (bgp_set draft bgp)
process_kept n draft bgp kept keeps = record {
  few_interfaces = keeps.few_interfaces;
  few_neighbours = kept.0;
  costs = keeps.costs;
  lengths = keeps.lengths;
  once = kept.1;
  lines = keeps.lines;
  entries = keeps.entries;
  above = keeps.above;
}

in_bgp_kept : (n : ℕ) (r : Row) (line : Line) (said : List Said) (draft : Draft) → Keeps n draft
    → IfOk (in_bgp r line said draft) (Keeps n)
in_bgp_kept n r line said draft keeps =
    present (λ bgp. following (λ changed. Ok (bgp_set draft changed)) (bgp_row r line said bgp)) draft.file.bgp
    (Err OutOfPlace) (Keeps n)
    (λ bgp found. mapped (bgp_set draft) (bgp_row r line said bgp) (Keeps n)
    (IfOk-weaker (bgp_row r line said bgp) BgpKept (λ changed. Keeps n (bgp_set draft changed))
    (λ changed kept. process_kept n draft changed kept keeps)
    (bgp_kept r line said bgp (of_process bgp found)))) tt
  where
    of_process : (bgp : Bgp) → draft.file.bgp ≡ Some bgp → BgpKept bgp
    of_process bgp found = (
      subst (λ (o : Option Bgp). option_map_or (λ b. nat_le (length b.neighbours) MOST_NEIGHBOURS) o true ≡ true)
          found keeps.few_neighbours,
      subst (λ (o : Option Bgp). option_map_or (λ b. each_pair have_two_addresses b.neighbours) o true ≡ true) found
          keeps.once,
    )

block_kept : (b : Block) (r : Row) (line : Line) (said : List Said) (draft : Draft) → SaysCost r said
    → Keeps line.number draft → IfOk (block_row b r line said draft) (Keeps (line.number + 1))
block_kept block.Closed r line said draft says keeps = next line.number draft keeps
block_kept block.Interface r line said draft says keeps = in_interface_kept r line said draft says keeps
block_kept block.Ospf r line said draft says keeps =
    in_ospf_kept (line.number + 1) r line said draft (next line.number draft keeps)
block_kept block.Bgp r line said draft says keeps =
    in_bgp_kept (line.number + 1) r line said draft (next line.number draft keeps)
block_kept block.Ignored r line said draft says keeps = next line.number draft keeps

-- ---- top lines

new_interface_kept : (n m : ℕ) (draft : Draft) (name : List ℕ)
    → nat_le MOST_INTERFACES (length draft.file.interfaces) ≡ false → Keeps n draft
    → Keeps n (in_new_interface (new_interface m name) draft)
new_interface_kept n m draft name room keeps =
    let iface : Iface = new_interface m name in
    let interfaces = draft.file.interfaces in
    record {
      few_interfaces = one_more interfaces iface MOST_INTERFACES room;
      few_neighbours = keeps.few_neighbours;
      costs =
          list_all-append has_cost_in_range interfaces (iface ∷ [])
          ∙ and_from (list_all has_cost_in_range interfaces) (list_all has_cost_in_range (iface ∷ [])) keeps.costs refl;
      lengths = keeps.lengths;
      once = keeps.once;
      lines = each_pair-push have_two_lines interfaces iface keeps.lines
          (λ k d within. without (get_or interfaces k d).address);
      entries = keeps.entries;
      above = All-push (IsAbove n) interfaces iface keeps.above tt;
    }
  where
    without : (own : Option IfAddr) → option_map_or (λ a. true) own true ≡ true
    without None = refl
    without (Some own) = refl

interface_opened : (n : ℕ) (line : Line) (said : List Said) (draft : Draft) → Keeps n draft
    → IfOk (with_interface line said draft) (Keeps n)
interface_opened n line said draft keeps =
    either (list_any (λ iface. same_text iface.name (name_under Name said line.words)) draft.file.interfaces) _ _
    (Keeps n) (λ _. tt)
    (λ _. either (nat_le MOST_INTERFACES (length draft.file.interfaces)) _ _ (Keeps n) (λ _. tt)
    (λ room. new_interface_kept n line.number draft (name_under Name said line.words) room keeps))

top_kept : (n : ℕ) (r : Row) (line : Line) (rest : List Line) (said : List Said) (draft : Draft) → Keeps n draft
    → IfOk (top_row r line rest said draft) (Keeps n)
top_kept n row.Hostname line rest said draft keeps =
    either (length draft.file.hostname == 0) _ _ (Keeps n) (λ _. keeps) (λ _. tt)
top_kept n row.InterfaceBlock line rest said draft keeps = interface_opened n line said draft keeps
top_kept n row.OspfBlock line rest said draft keeps =
    either (is_some draft.file.ospf) _ _ (Keeps n) (λ _. tt) (λ _. keeps)
top_kept n row.BgpBlock line rest said draft keeps =
    either (is_some draft.file.bgp) _ _ (Keeps n) (λ _. tt)
    (λ _. process_kept n draft (new_bgp line.number (number_under Number said 0)) (refl, refl) keeps)
top_kept n row.Banner line rest said draft keeps =
    either (ends_on_line line.raw) _ _ (Keeps n) (λ _. keeps)
    (λ _. either (has_end (delimiter_of (banner_text line.raw)) rest) _ _ (Keeps n) (λ _. keeps) (λ _. tt))
top_kept n _ line rest said draft keeps = keeps

-- ---- a line

put_kept : (r : Row) (line : Line) (rest : List Line) (said : List Said) (draft : Draft) → SaysCost r said
    → Keeps line.number draft → IfOk (put_row r line rest said draft) (Keeps (line.number + 1))
put_kept r line rest said draft says keeps =
    either line.indented (block_row draft.block r line said draft) (top_row r line rest said (closed draft))
    (Keeps (line.number + 1))
    (λ _. block_kept draft.block r line said draft says keeps)
    (λ _. top_kept (line.number + 1) r line rest said (closed draft) (next line.number draft keeps))

row_kept : (line : Line) (rest : List Line) (draft : Draft) → Keeps line.number draft
    → IfOk (row_line line rest draft) (Keeps (line.number + 1))
row_kept line rest draft keeps =
    after (λ found. following (λ said. put_row found.row line rest said draft) (said_in found line.words))
    (found_in line draft) (Keeps (line.number + 1))
    (λ found _. after (λ said. put_row found.row line rest said draft) (said_in found line.words)
    (Keeps (line.number + 1))
    (λ said is. put_kept found.row line rest said draft (says_cost found line.words said is) keeps))

own_kept : (line : Line) (rest : List Line) (draft : Draft) → Keeps line.number draft
    → IfOk (own_line line rest draft) (Keeps (line.number + 1))
own_kept line rest draft keeps =
    let later = next line.number draft keeps in
    either (in_ignored line draft) _ _ (Keeps (line.number + 1)) (λ _. later)
    (λ _. either (is_preamble line.raw) (Ok (closed draft)) (row_line line rest draft) (Keeps (line.number + 1))
    (λ _. later) (λ _. row_kept line rest draft keeps))

-- the policies of a line that was taken, or not
taken_kept : (n : ℕ) (line : Line) (draft : Draft) (taken : Taken)
    → policy_reading line draft.policy_block draft.file.policies ≡ Ok taken → Keeps n draft
    → Keeps n (from_policies draft taken)
taken_kept n line draft taken is keeps = record {
  few_interfaces = keeps.few_interfaces;
  few_neighbours = keeps.few_neighbours;
  costs = keeps.costs;
  lengths =
      IfOk-at_ok (λ (t : Taken). have_lengths_in_order t.policies.prefix_lists ≡ true) is
      (lengths_kept line draft.policy_block draft.file.policies keeps.lengths);
  once = keeps.once;
  lines = keeps.lines;
  entries =
      IfOk-at_ok (λ (t : Taken). policy_entries t.policies ≤ MOST_POLICY_ENTRIES) is
      (few_entries line draft.policy_block draft.file.policies keeps.entries);
  above = keeps.above;
}

policy_kept : (line : Line) (rest : List Line) (draft : Draft) → Keeps line.number draft
    → IfOk (policy_first line rest draft) (Keeps (line.number + 1))
policy_kept line rest draft keeps =
    after _ (policy_reading line draft.policy_block draft.file.policies) (Keeps (line.number + 1))
    (λ taken is. let put : Keeps line.number (from_policies draft taken) = taken_kept line.number line draft taken is
    keeps in
    either taken.taken (Ok (record (from_policies draft taken) { block = block.Closed }))
    (own_line line rest (from_policies draft taken)) (Keeps (line.number + 1))
    (λ _. next line.number (from_policies draft taken) put)
    (λ _. own_kept line rest (from_policies draft taken) put))

line_kept : (line : Line) (rest : List Line) (draft : Draft) → Keeps line.number draft
    → IfOk (with_line line rest draft) (Keeps (line.number + 1))
line_kept line rest draft keeps =
    let later = next line.number draft keeps in
    let P : Draft → Type 0 = Keeps (line.number + 1) in
    either (nat_lt MOST_LINES line.number) _ _ P (λ _. tt)
    (λ _. present (λ delimiter. Ok (in_banner delimiter line draft)) draft.banner
    (if is_skipped line.words then Ok draft else policy_first line rest draft) P
    (λ delimiter _. cond_both (holds delimiter line.raw) (record draft { banner = None }) draft P
    (λ _. later) (λ _. later))
    (either (is_skipped line.words) (Ok draft) (policy_first line rest draft) P (λ _. later)
    (λ _. policy_kept line rest draft keeps)))

-- ---- all lines

at_line_kept : {T : Type 0} (n : ℕ) (r : Result T Cause) (P : T → Type 0) → IfOk r P → IfOk (at_line n r) P
at_line_kept n (Ok x) P kept = kept
at_line_kept n (Err cause) P kept = tt

-- lines are numbered upwards
lines_kept : (n : ℕ) (raws : List (List ℕ)) (draft : Draft) → Keeps n draft
    → IfOk (read_lines draft (numbered n raws)) IsWithinLimits
unfolding read_lines
lines_kept n [] draft keeps =
    either (length draft.file.hostname == 0) _ _ IsWithinLimits (λ _. tt)
    (λ _. within_limits n draft keeps)
lines_kept n (raw ∷ rest) draft keeps =
    by (at_line n (with_line (line_at n raw) (numbered (n + 1) rest) draft))
    (at_line_kept n (with_line (line_at n raw) (numbered (n + 1) rest) draft) (Keeps (n + 1))
    (line_kept (line_at n raw) (numbered (n + 1) rest) draft keeps))
    (λ changed kept. lines_kept (n + 1) rest changed kept)
  where
    by : (r : Result Draft Refused) → IfOk r (Keeps (n + 1))
        → ((changed : Draft) → Keeps (n + 1) changed
        → IfOk (read_lines changed (numbered (n + 1) rest)) IsWithinLimits)
        → IfOk (following (λ changed. read_lines changed (numbered (n + 1) rest)) r) IsWithinLimits
    by (Ok changed) kept later = later changed kept
    by (Err why) kept later = tt

reading_kept : (bytes : List ℕ) → IfOk (reading bytes) IsWithinLimits
reading_kept bytes = lines_kept 1 _ empty_draft (record {
  few_interfaces = refl;
  few_neighbours = refl;
  costs = refl;
  lengths = refl;
  once = refl;
  lines = refl;
  entries = omega arith;
  above = All-nil (IsAbove 1);
})

-- the file that a text reads as keeps the limits of a file
pub read_limits : (bytes : List ℕ) (file : File) → reading bytes ≡ Ok file → keeps_limits file ≡ true
read_limits bytes file is = (IfOk-at_ok IsWithinLimits is (reading_kept bytes)).0

-- and has not too many entries of lists and maps
pub read_entries : (bytes : List ℕ) (file : File) → reading bytes ≡ Ok file
    → policy_entries file.policies ≤ MOST_POLICY_ENTRIES
read_entries bytes file is = (IfOk-at_ok IsWithinLimits is (reading_kept bytes)).1
