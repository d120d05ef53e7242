-- What lines leave that are read one after another.
use Rattle.std.specs.Prelude.{ℕ, ◌+◌, Bool, true, false, replicate, codes, List, [], ◌∷◌, Result, Ok, Err}
pub use Rattle.std.specs.Fmt.{digits}
use Rattle.mw_text.specs.Words.{line_at}
use Rattle.ios_ast.specs.declared.policies.Policies.{Policies}
use Rattle.ios_ast.specs.declared.policies.Wild.{Wild}
use Rattle.ios_ast.specs.declared.policies.AsPathEntry.{AsPathEntry}
use Rattle.ios_ast.specs.declared.policies.Pattern.TheVariants.{Any}
use Rattle.ios_policy_reader.specs.declared.cause.Cause.{Cause}
use Rattle.ios_policy_reader.specs.declared.cause.Cause.TheVariants.{Limit}
use Rattle.ios_policy_reader.specs.declared.policies.PolicyBlock.{PolicyBlock}
use Rattle.ios_policy_reader.specs.declared.policies.PolicyBlock.TheVariants.{Outside}
use Rattle.ios_policy_reader.specs.Policies.{Taken, policy_reading}

abbrev pub no_policies : Policies
no_policies = record { prefix_lists = []; communities = []; as_paths = []; access = []; maps = [] }

-- the line of that number, after the lines before it, of which none was refused
abbrev pub after_line : ℕ → List ℕ → Result Taken Cause → Result Taken Cause
after_line number text (Ok before) = policy_reading (line_at number text) before.block before.policies
after_line number text (Err cause) = Err cause

abbrev pub after_lines : ℕ → List (List ℕ) → Result Taken Cause → Result Taken Cause
after_lines number [] before = before
after_lines number (text ∷ rest) before = after_lines (number + 1) rest (after_line number text before)

abbrev pub left : Bool → PolicyBlock → Policies → Result Taken Cause
left taken block policies = Ok (record { taken = taken; block = block; policies = policies })

-- these lines, from the first on
abbrev pub reading_of : List (List ℕ) → Result Taken Cause
reading_of texts = after_lines 1 texts (left false Outside no_policies)

abbrev pub any_address : Wild
any_address = record { addr = record { 0 = 0 }; wild = 4294967295 }

abbrev pub some_path : AsPathEntry
some_path = record { line = 1; permit = true; pattern = Any }

-- so many entries of an AS-path list, and one of a route map
abbrev pub entries_and_a_map : ℕ → Policies
entries_and_a_map n = record no_policies {
  as_paths = record { name = codes "1"; entries = replicate n some_path } ∷ [];
  maps =
      record { name = codes "M"; entries = record { line = 2; seq = 10; permit = true; matches = []; sets = [] } ∷ [] }
      ∷ [];
}

-- the line is past the limit
abbrev pub is_past_limit : Result Taken Cause → Bool
is_past_limit (Err Limit) = true
is_past_limit _ = false
