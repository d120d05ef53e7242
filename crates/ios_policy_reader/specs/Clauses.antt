-- The match and set lines of route maps.
use Rattle.std.specs.Prelude.{ℕ, ◌-◌, ◌==◌, Bool, false, List, [], ◌∷◌, ◌++◌, length, slice_get, Option, Some, None}
use Rattle.std.specs.Prelude.{option_map, option_and_then, if◌then◌else◌}
use Rattle.std.specs.Option.{option_or}
use Rattle.std.specs.List.{list_any}
use Rattle.ios_ast.specs.declared.policies.Match.{Match}
use Rattle.ios_ast.specs.declared.policies.Match.TheVariants.{Access, Prefixes, Communities, Paths}
use Rattle.ios_ast.specs.declared.policies.SetAct.{SetAct}
use Rattle.ios_ast.specs.declared.policies.SetAct.TheVariants.{LocalPref, Metric, Weight, NoCommunity, Community}
use Rattle.ios_ast.specs.declared.policies.SetAct.TheVariants.{Origin, Prepend, Type1}
use Rattle.ios_ast.specs.declared.policies.MapEntry.{MapEntry}
use Rattle.ios_ast.specs.declared.policies.RouteMap.{RouteMap}
use Rattle.ios_policy_reader.specs.declared.clauses.MapClause.{MapClause}
use Rattle.ios_policy_reader.specs.declared.clauses.MapClause.TheVariants.{Matching, Setting}
use Rattle.ios_policy_reader.specs.declared.heads.Row.{Row}
use Rattle.ios_policy_reader.specs.declared.heads.Row.TheVariants.{MatchAddress, MatchPrefixList, MatchCommunity}
use Rattle.ios_policy_reader.specs.declared.heads.Row.TheVariants.{MatchPath, SetPreference, SetMetric, SetWeight}
use Rattle.ios_policy_reader.specs.declared.heads.Row.TheVariants.{SetCommunity, SetOrigin, SetPrepend, SetMetricType}
use Rattle.ios_policy_reader.specs.declared.said.Tag.TheVariants.{Number, Community as CommunityTag}
use Rattle.ios_policy_reader.specs.declared.said.Said.{Said}
use Rattle.ios_policy_reader.specs.Said.{number_under, has_said}
use Rattle.ios_policy_reader.specs.Values.{uses_of, numbers_under, ascending}
use Rattle.ios_policy_reader.specs.Lists.{changed_at}

-- ---- what a line says

-- a match line: its lists are alternatives
unfoldable pub match_of : Row → ℕ → List (List ℕ) → List Said → Option Match
match_of MatchAddress line words said = Some (Access (uses_of line words said))
match_of MatchPrefixList line words said = Some (Prefixes (uses_of line words said))
match_of MatchCommunity line words said = Some (Communities (uses_of line words said))
match_of MatchPath line words said = Some (Paths (uses_of line words said))
match_of _ line words said = None

-- communities, each once and ascending, with `additive` or without; or `none`
abbrev pub community_act : List Said → SetAct
community_act said =
    if has_said CommunityTag said
    then Community (ascending (numbers_under CommunityTag said)) (number_under Number said 0 == 1)
    else NoCommunity

-- a set line
unfoldable pub act_of : Row → List Said → Option SetAct
act_of SetPreference said = Some (LocalPref (number_under Number said 0))
act_of SetMetric said = Some (Metric (number_under Number said 0))
act_of SetWeight said = Some (Weight (number_under Number said 0))
act_of SetCommunity said = Some (community_act said)
act_of SetOrigin said = Some (Origin (number_under Number said 0 == 1))
act_of SetPrepend said = Some (Prepend (numbers_under Number said))
act_of SetMetricType said = Some (Type1 (number_under Number said 0 == 1))
act_of _ said = None

-- a line of either kind; none where the line is ignored
abbrev pub clause_of : Row → ℕ → List (List ℕ) → List Said → Option MapClause
clause_of row line words said =
    option_or (option_map (λ m. Matching m) (match_of row line words said))
    (option_map (λ act. Setting act) (act_of row said))

-- ---- what it does to the entry

-- the row of a set line among the rows of set lines
abbrev pub act_number : SetAct → ℕ
act_number (LocalPref n) = 0
act_number (Metric n) = 1
act_number (Weight n) = 2
act_number NoCommunity = 3
act_number (Community values additive) = 3
act_number (Origin igp) = 4
act_number (Prepend numbers) = 5
act_number (Type1 first) = 6

-- the entry has a set line of that row already
abbrev pub repeats : MapClause → MapEntry → Bool
repeats (Matching m) entry = false
repeats (Setting act) entry = list_any (λ old. act_number old == act_number act) entry.sets

-- the line at the end of the entry's lines of its kind
abbrev pub with_clause : MapClause → MapEntry → MapEntry
with_clause (Matching m) entry = record entry { matches = entry.matches ++ m ∷ [] }
with_clause (Setting act) entry = record entry { sets = entry.sets ++ act ∷ [] }

-- the last entry of the map at that place
abbrev pub last_of : List MapEntry → Option MapEntry
last_of entries = slice_get entries (length entries - 1)

abbrev pub open_entry : ℕ → List RouteMap → Option MapEntry
open_entry at maps = option_and_then (λ map. last_of map.entries) (slice_get maps at)

-- the maps with the line in that entry
abbrev pub maps_with : MapClause → ℕ → List RouteMap → List RouteMap
maps_with clause at maps =
    changed_at (λ map. record map { entries = changed_at (with_clause clause) (length map.entries - 1) map.entries })
    at maps
