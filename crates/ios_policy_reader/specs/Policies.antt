-- How a line reads into the lists and route maps of a file.
use Rattle.std.specs.Prelude.{ℕ, ◌&&◌, ◌||◌, Bool, true, false, List, slice_get, nat_lt, nat_le, Option, None, Result}
use Rattle.std.specs.Prelude.{Ok, Err, option_map, if◌then◌else◌}
use Rattle.std.specs.Option.{option_map_or}
use Rattle.mw_text.specs.Text.{same_text}
use Rattle.mw_text.specs.declared.words.Line.{Line}
use Rattle.ios_ast.specs.declared.policies.Policies.{Policies}
use Rattle.ios_policy_reader.specs.declared.cause.Cause.{Cause}
use Rattle.ios_policy_reader.specs.declared.cause.Cause.TheVariants.{BadWord, Repeated, Limit}
use Rattle.ios_policy_reader.specs.declared.clauses.MapClause.{MapClause}
use Rattle.ios_policy_reader.specs.declared.said.Said.{Said}
use Rattle.ios_policy_reader.specs.declared.said.Tag.TheVariants.{Action, Number, Sequence}
use Rattle.ios_policy_reader.specs.declared.heads.Context.{Context}
use Rattle.ios_policy_reader.specs.declared.heads.Context.TheVariants.{Top, InMap, InStandard, InExtended}
use Rattle.ios_policy_reader.specs.declared.heads.Row.{Row}
use Rattle.ios_policy_reader.specs.declared.heads.Row.TheVariants.{AccessList, StandardBlock, ExtendedBlock}
use Rattle.ios_policy_reader.specs.declared.heads.Row.TheVariants.{PrefixList, CommunityList, PathList, MapBlock}
use Rattle.ios_policy_reader.specs.declared.heads.Found.{Found}
use Rattle.ios_policy_reader.specs.declared.policies.PolicyBlock.{PolicyBlock}
use Rattle.ios_policy_reader.specs.declared.policies.PolicyBlock.TheVariants.{Outside, Access, Map}
use Rattle.ios_policy_reader.specs.Heads.{row_of, said_in}
use Rattle.ios_policy_reader.specs.Said.{number_under, has_said}
use Rattle.ios_policy_reader.specs.Values.{name_of}
use Rattle.ios_policy_reader.specs.Entries.{prefix_entry, path_entry, community_entry, map_entry, access_entry}
use Rattle.ios_policy_reader.specs.Lists.{place_of, has_room, with_prefix_entry, with_community_entry, with_path_entry}
use Rattle.ios_policy_reader.specs.Lists.{with_access_entry, with_map_entry, is_opened, with_opened, with_entry_at}
use Rattle.ios_policy_reader.specs.Lists.{prefix_entries_of, next_number, has_number, map_entries_of, has_map_number}
use Rattle.ios_policy_reader.specs.Clauses.{clause_of, repeats, open_entry, maps_with}

-- ---- what the lines of each row put into the policies

-- the policies with one entry more, where the limit allows it
abbrev pub within_limit : Policies → Policies → Result Policies Cause
within_limit policies more = if has_room policies then Ok more else Err Limit

-- 100 to 199 and 2000 to 2699 are extended
abbrev pub is_extended : ℕ → Bool
is_extended n = (nat_le 100 n && nat_le n 199) || (nat_le 2000 n && nat_le n 2699)

-- `access-list`: an entry, or a remark
unfoldable pub access_line : Line → List Said → List ℕ → Policies → Result Policies Cause
access_line line said name policies =
    if has_said Action said
    then within_limit policies (record policies {
      access =
          with_access_entry name (is_extended (number_under Number said 0)) (access_entry line.number said)
          policies.access;
    })
    else Ok policies

-- a line in the block of an access list: an entry, or a remark
unfoldable pub entry_line : Line → List Said → ℕ → Policies → Result Policies Cause
entry_line line said at policies =
    if has_said Action said
    then within_limit policies
    (record policies { access = with_entry_at at (access_entry line.number said) policies.access })
    else Ok policies

-- `ip access-list`, which opens a list once
unfoldable pub open_line : Bool → List ℕ → Policies → Result Policies Cause
open_line extended name policies =
    if is_opened name policies.access then Err Repeated
    else Ok (record policies { access = with_opened name extended policies.access })

-- the number of a prefix-list entry
abbrev pub sequence_of : List ℕ → List Said → Policies → ℕ
sequence_of name said policies =
    if has_said Sequence said then number_under Sequence said 0 else next_number
    (prefix_entries_of name policies.prefix_lists)

-- an entry of that number in the prefix list of that name
unfoldable pub numbered_line : Line → List Said → List ℕ → ℕ → Policies → Result Policies Cause
numbered_line line said name n policies =
    if nat_lt 4294967294 n then Err (BadWord 4)
    else if has_number n (prefix_entries_of name policies.prefix_lists) then Err Repeated
    else within_limit policies (record policies {
      prefix_lists = with_prefix_entry name (prefix_entry line.number n said) policies.prefix_lists;
    })

-- `ip prefix-list`: an entry, or a description
unfoldable pub prefix_line : Line → List Said → List ℕ → Policies → Result Policies Cause
prefix_line line said name policies =
    if has_said Action said then numbered_line line said name (sequence_of name said policies) policies else Ok policies

-- `ip community-list`
unfoldable pub community_line : Line → List Said → List ℕ → Policies → Result Policies Cause
community_line line said name policies =
    within_limit policies (record policies {
      communities = with_community_entry name (community_entry line.number said) policies.communities;
    })

-- `ip as-path access-list`
unfoldable pub path_line : Line → List Said → List ℕ → Policies → Result Policies Cause
path_line line said name policies =
    within_limit policies (record policies {
      as_paths = with_path_entry name (path_entry line.number said) policies.as_paths;
    })

-- `route-map`
unfoldable pub map_line : Line → List Said → List ℕ → Policies → Result Policies Cause
map_line line said name policies =
    if has_map_number (number_under Sequence said 0) (map_entries_of name policies.maps) then Err Repeated
    else within_limit policies
    (record policies { maps = with_map_entry name (map_entry line.number said) policies.maps })

-- a match or set line in the open entry of a map
unfoldable pub clause_line : MapClause → ℕ → Policies → Result Policies Cause
clause_line clause at policies =
    if option_map_or (λ entry. repeats clause entry) (open_entry at policies.maps) false then Err Repeated
    else Ok (record policies { maps = maps_with clause at policies.maps })

-- a line in the block of a map, which may be ignored
unfoldable pub map_block_line : Row → Line → List Said → ℕ → Policies → Result Policies Cause
map_block_line row line said at policies =
    option_map_or (λ clause. clause_line clause at policies) (clause_of row line.number line.words said) (Ok policies)

-- ---- the open block

-- whether a line was a policy's, and the open block and the policies after it
pub record Taken : Type 0 where
  pub taken : Bool
  pub block : PolicyBlock
  pub policies : Policies

-- a line that is no policy's
abbrev pub passed : PolicyBlock → Policies → Result Taken Cause
passed block policies = Ok (record { taken = false; block = block; policies = policies })

-- a policy's line, after which the block is open
abbrev pub taken_in : PolicyBlock → Result Policies Cause → Result Taken Cause
taken_in block (Ok policies) = Ok (record { taken = true; block = block; policies = policies })
taken_in block (Err cause) = Err cause

-- the access list, the map of that name
abbrev pub access_block : List ℕ → Policies → PolicyBlock
access_block name policies = Access (place_of (λ list. same_text list.name name) policies.access)

abbrev pub map_block : List ℕ → Policies → PolicyBlock
map_block name policies = Map (place_of (λ map. same_text map.name name) policies.maps)

-- the rows of lists and route maps at the top
abbrev pub is_top_row : Row → Bool
is_top_row AccessList = true
is_top_row StandardBlock = true
is_top_row ExtendedBlock = true
is_top_row PrefixList = true
is_top_row CommunityList = true
is_top_row PathList = true
is_top_row MapBlock = true
is_top_row _ = false

-- what a line at the top does
unfoldable pub top_line : Row → Line → List Said → Policies → Result Taken Cause
top_line AccessList line said policies = taken_in Outside (access_line line said (name_of line.words said) policies)
top_line StandardBlock line said policies =
    taken_in (access_block (name_of line.words said) policies) (open_line false (name_of line.words said) policies)
top_line ExtendedBlock line said policies =
    taken_in (access_block (name_of line.words said) policies) (open_line true (name_of line.words said) policies)
top_line PrefixList line said policies = taken_in Outside (prefix_line line said (name_of line.words said) policies)
top_line CommunityList line said policies =
    taken_in Outside (community_line line said (name_of line.words said) policies)
top_line PathList line said policies = taken_in Outside (path_line line said (name_of line.words said) policies)
top_line MapBlock line said policies =
    taken_in (map_block (name_of line.words said) policies) (map_line line said (name_of line.words said) policies)
top_line _ line said policies = passed Outside policies

-- ---- a line

-- where the lines of the open block stand
abbrev pub context_of : PolicyBlock → Policies → Option Context
context_of Outside policies = None
context_of (Access at) policies =
    option_map (λ list. if list.extended then InExtended else InStandard) (slice_get policies.access at)
context_of (Map at) policies = option_map (λ entry. InMap) (open_entry at policies.maps)

-- what a line of the row does where the block is open
abbrev pub put : PolicyBlock → Row → Line → List Said → Policies → Result Taken Cause
put Outside row line said policies = top_line row line said policies
put (Access at) row line said policies = taken_in (Access at) (entry_line line said at policies)
put (Map at) row line said policies = taken_in (Map at) (map_block_line row line said at policies)

-- every row of an open block is a policy's
abbrev pub is_policy_row : Context → Row → Bool
is_policy_row Top row = is_top_row row
is_policy_row context row = true

-- a line of a row by what its words say, or the word that is bad
abbrev pub said_reading : PolicyBlock → Row → Line → Policies → Result (List Said) Cause → Result Taken Cause
said_reading block row line policies (Ok said) = put block row line said policies
said_reading block row line policies (Err cause) = Err cause

-- a line by its row: no policy's where no row fits
abbrev pub row_reading : Context → PolicyBlock → Line → Policies → Result Found Cause → Result Taken Cause
row_reading context block line policies (Ok found) =
    if is_policy_row context found.row then said_reading block found.row line policies (said_in found line.words)
    else passed block policies
row_reading context block line policies (Err cause) = passed block policies

abbrev pub context_reading : Context → PolicyBlock → Line → Policies → Result Taken Cause
context_reading context block line policies = row_reading context block line policies (row_of context line.words)

-- A line with a blank before it stands in the open block, if one is open. Any other stands at the top, and closes the
-- block.
unfoldable pub policy_reading : Line → PolicyBlock → Policies → Result Taken Cause
policy_reading line block policies =
    if line.indented
    then option_map_or (λ context. context_reading context block line policies) (context_of block policies)
    (passed block policies)
    else context_reading Top Outside line policies
