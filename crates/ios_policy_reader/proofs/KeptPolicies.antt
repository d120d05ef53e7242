-- A fact that the lines of lists and route maps keep, one kind after another, is kept by every line of a file.
use Rattle.std.proofs.Common.{◌≡◌, ℕ, Bool, true, false, List, Option, Some, None, Result, Ok, Err, refl, if◌then◌else◌}
use Rattle.std.specs.Prelude.{IfOk}
use Rattle.std.specs.Option.{option_map_or}
use Rattle.mw_text.specs.declared.words.Line.{Line}
use Rattle.ios_ast.specs.declared.policies.Policies.{Policies}
use Rattle.ios_policy_reader.specs.declared.cause.Cause.{Cause}
use Rattle.ios_policy_reader.specs.declared.heads.Context.{Context}
use Rattle.ios_policy_reader.specs.declared.heads.Context.TheVariants.{Top}
use Rattle.ios_policy_reader.specs.declared.heads.Found.{Found}
use Rattle.ios_policy_reader.specs.declared.heads.Row.{Row}
use Rattle.ios_policy_reader.specs.declared.heads.Row.TheVariants as row
use Rattle.ios_policy_reader.specs.declared.policies.PolicyBlock.{PolicyBlock}
use Rattle.ios_policy_reader.specs.declared.policies.PolicyBlock.TheVariants.{Outside, Access, Map}
use Rattle.ios_policy_reader.specs.declared.said.Said.{Said}
use Rattle.ios_policy_reader.specs.Heads.{row_of, said_in}
use Rattle.ios_policy_reader.specs.Policies.{Taken, access_block, access_line, community_line, context_of}
use Rattle.ios_policy_reader.specs.Policies.{context_reading, entry_line, is_policy_row, map_block, map_block_line}
use Rattle.ios_policy_reader.specs.Policies.{map_line, open_line, passed, path_line, policy_reading, prefix_line, put}
use Rattle.ios_policy_reader.specs.Policies.{row_reading, said_reading, taken_in, top_line}
use Rattle.ios_policy_reader.specs.Values.{name_of}
use Rattle.ios_policy_reader.proofs.SaidLengths.{HasLengths, SaysLengths, says_lengths}

-- what holds of both ends of a test
pub either : {A E : Type 0} (test : Bool) (x y : Result A E) (P : A → Type 0) → IfOk x P → IfOk y P
    → IfOk (if test then x else y) P
either true x y P there here = there
either false x y P there here = here

-- each kind of line keeps the fact; one of a prefix list has its lengths in order
pub record KeepsEach (P : Policies → Type 0) : Type 0 where
  pub access : (line : Line) (said : List Said) (name : List ℕ) (policies : Policies) → P policies
      → IfOk (access_line line said name policies) P
  pub entry : (line : Line) (said : List Said) (at : ℕ) (policies : Policies) → P policies
      → IfOk (entry_line line said at policies) P
  pub opening : (extended : Bool) (name : List ℕ) (policies : Policies) → P policies
      → IfOk (open_line extended name policies) P
  pub prefix : (line : Line) (said : List Said) (name : List ℕ) (policies : Policies) → HasLengths said → P policies
      → IfOk (prefix_line line said name policies) P
  pub community : (line : Line) (said : List Said) (name : List ℕ) (policies : Policies) → P policies
      → IfOk (community_line line said name policies) P
  pub path : (line : Line) (said : List Said) (name : List ℕ) (policies : Policies) → P policies
      → IfOk (path_line line said name policies) P
  pub route_map : (line : Line) (said : List Said) (name : List ℕ) (policies : Policies) → P policies
      → IfOk (map_line line said name policies) P
  pub clause : (r : Row) (line : Line) (said : List Said) (at : ℕ) (policies : Policies) → P policies
      → IfOk (map_block_line r line said at policies) P

module _ (P : Policies → Type 0) (keeps : KeepsEach P) where
  abbrev TakenKept : Taken → Type 0
  TakenKept taken = P taken.policies

  taken_kept : (block : PolicyBlock) (r : Result Policies Cause) → IfOk r P → IfOk (taken_in block r) TakenKept
  taken_kept block (Ok policies) kept = kept
  taken_kept block (Err cause) kept = tt

  top_line_kept : (r : Row) (line : Line) (said : List Said) (policies : Policies) → SaysLengths r said → P policies
      → IfOk (top_line r line said policies) TakenKept
  unfolding top_line
  top_line_kept row.AccessList line said policies says kept =
      taken_kept Outside (access_line line said (name_of line.words said) policies)
      (keeps.access line said (name_of line.words said) policies kept)
  top_line_kept row.StandardBlock line said policies says kept =
      taken_kept (access_block (name_of line.words said) policies) (open_line false (name_of line.words said) policies)
      (keeps.opening false (name_of line.words said) policies kept)
  top_line_kept row.ExtendedBlock line said policies says kept =
      taken_kept (access_block (name_of line.words said) policies) (open_line true (name_of line.words said) policies)
      (keeps.opening true (name_of line.words said) policies kept)
  top_line_kept row.PrefixList line said policies says kept =
      taken_kept Outside (prefix_line line said (name_of line.words said) policies)
      (keeps.prefix line said (name_of line.words said) policies says kept)
  top_line_kept row.CommunityList line said policies says kept =
      taken_kept Outside (community_line line said (name_of line.words said) policies)
      (keeps.community line said (name_of line.words said) policies kept)
  top_line_kept row.PathList line said policies says kept =
      taken_kept Outside (path_line line said (name_of line.words said) policies)
      (keeps.path line said (name_of line.words said) policies kept)
  top_line_kept row.MapBlock line said policies says kept =
      taken_kept (map_block (name_of line.words said) policies) (map_line line said (name_of line.words said) policies)
      (keeps.route_map line said (name_of line.words said) policies kept)
  top_line_kept _ line said policies says kept = kept

  put_kept : (block : PolicyBlock) (r : Row) (line : Line) (said : List Said) (policies : Policies)
      → SaysLengths r said → P policies → IfOk (put block r line said policies) TakenKept
  put_kept Outside r line said policies says kept = top_line_kept r line said policies says kept
  put_kept (Access at) r line said policies says kept =
      taken_kept (Access at) (entry_line line said at policies) (keeps.entry line said at policies kept)
  put_kept (Map at) r line said policies says kept =
      taken_kept (Map at) (map_block_line r line said at policies) (keeps.clause r line said at policies kept)

  said_kept : (block : PolicyBlock) (found : Found) (line : Line) (policies : Policies)
      (said : Result (List Said) Cause) → said_in found line.words ≡ said → P policies
      → IfOk (said_reading block found.row line policies said) TakenKept
  said_kept block found line policies (Ok said) is kept =
      put_kept block found.row line said policies (says_lengths found line.words said is) kept
  said_kept block found line policies (Err cause) is kept = tt

  row_kept : (context : Context) (block : PolicyBlock) (line : Line) (policies : Policies)
      (found : Result Found Cause) → P policies → IfOk (row_reading context block line policies found) TakenKept
  row_kept context block line policies (Ok found) kept =
      either (is_policy_row context found.row)
      (said_reading block found.row line policies (said_in found line.words)) (passed block policies) TakenKept
      (said_kept block found line policies (said_in found line.words) refl kept) kept
  row_kept context block line policies (Err cause) kept = kept

  -- every line keeps it
  pub policies_kept : (line : Line) (block : PolicyBlock) (policies : Policies) → P policies
      → IfOk (policy_reading line block policies) (λ taken. P taken.policies)
  unfolding policy_reading
  policies_kept line block policies kept =
      either line.indented _ (context_reading Top Outside line policies) TakenKept (by (context_of block policies))
      (row_kept Top Outside line policies (row_of Top line.words) kept)
    where
      by : (context : Option Context)
          → IfOk (option_map_or (λ c. context_reading c block line policies) context (passed block policies)) TakenKept
      by None = kept
      by (Some context) = row_kept context block line policies (row_of context line.words) kept
