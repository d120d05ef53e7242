-- Route maps over the shapes of routes: a path by its length, its ends and the tracked numbers that stand in it, and
-- communities by the tracked ones among them.
use Rattle.std.specs.Prelude.{ℕ, ◌+◌, ◌==◌, ◌&&◌, ◌||◌, nat_lt, Bool, true, false, if◌then◌else◌}
use Rattle.std.specs.Prelude.{List, [], ◌∷◌, Option, Some, None, length, map, fold}
use Rattle.std.specs.List.{find, list_any, list_all}
use Rattle.std.specs.Option.{option_and_then, option_map_or}
use Rattle.mw_text.specs.declared.address.Prefix.{Prefix}
use Rattle.ios_ast.specs.declared.file.Use.{Use}
use Rattle.ios_ast.specs.declared.policies.AsPathEntry.{AsPathEntry}
use Rattle.ios_ast.specs.declared.policies.CommunityEntry.{CommunityEntry}
use Rattle.ios_ast.specs.declared.policies.MapEntry.{MapEntry}
use Rattle.ios_ast.specs.declared.policies.Match.{Match}
use Rattle.ios_ast.specs.declared.policies.Match.TheVariants.{Access, Prefixes, Communities, Paths}
use Rattle.ios_ast.specs.declared.policies.Pattern.{Pattern}
use Rattle.ios_ast.specs.declared.policies.Pattern.TheVariants.{Empty, Any, Only, First, Last, Has}
use Rattle.ios_ast.specs.declared.policies.Policies.{Policies}
use Rattle.ios_ast.specs.declared.policies.SetAct.{SetAct}
use Rattle.ios_ast.specs.declared.policies.SetAct.TheVariants.{LocalPref, Metric, Weight, NoCommunity, Community}
use Rattle.ios_ast.specs.declared.policies.SetAct.TheVariants.{Origin, Prepend, Type1}
use Rattle.ios_ast.specs.Maps.{entries_named}
use Rattle.ios_ast.specs.Deciding.{first_permits, in_order, carries}
use Rattle.ios_ast.specs.Matching.{named_answer, access_named, prefixes_named, names_of, lines_hold}
use Rattle.ios_ast.specs.Paths.{first_of, last_of}
use Rattle.ios_ast.specs.Setting.{Attributes, origin_set}
use Rattle.route_record.specs.declared.tracked.Tracked.{Tracked}
use Rattle.route_record.specs.Shape.{saturated}

pub record PathShape : Type 0 where
  pub len : ℕ
  pub first : ℕ
  pub last : ℕ
  pub numbers : List Bool

-- the numbers by which routes are preferred
pub record Preferences : Type 0 where
  pub weight : ℕ
  pub local_pref : ℕ
  pub med : ℕ
  pub origin : ℕ

pub record RouteShape : Type 0 where
  pub preferences : Preferences
  pub path : PathShape
  pub communities : List Bool
  pub type1 : Bool

-- the shape of a path, and of what a route map sees of a route
abbrev pub path_shape : List ℕ → List ℕ → PathShape
path_shape tracked path = record {
  len = saturated (length path);
  first = first_of path;
  last = last_of path;
  numbers = map (carries path) tracked;
}

abbrev pub preferences_of : Attributes → Preferences
preferences_of r = record { weight = r.weight; local_pref = r.local_pref; med = r.med; origin = r.origin }

abbrev pub route_shape : Tracked → Attributes → RouteShape
route_shape tracked r = record {
  preferences = preferences_of r;
  path = path_shape tracked.numbers r.path;
  communities = map (carries r.communities) tracked.communities;
  type1 = r.type1;
}

-- what the marks of tracked values say of one value
abbrev pub marked : List ℕ → List Bool → ℕ → Bool
marked [] marks x = false
marked (t ∷ ts) [] x = false
marked (t ∷ ts) (b ∷ bs) x = if t == x then b else marked ts bs x

abbrev pub marks_taken : List ℕ → List Bool → CommunityEntry → Bool
marks_taken tracked marks e = list_all (marked tracked marks) e.values

abbrev pub marks_permitted : List ℕ → List Bool → List CommunityEntry → Bool
marks_permitted tracked marks entries = first_permits (marks_taken tracked marks) (λ e. e.permit) entries

-- a pattern on the shape of a path
abbrev pub shape_matches : List ℕ → PathShape → Pattern → Bool
shape_matches tracked s Empty = s.len == 0
shape_matches tracked s Any = true
shape_matches tracked s (Only n) = (s.len == 1) && (s.first == n)
shape_matches tracked s (First n) = nat_lt 0 s.len && (s.first == n)
shape_matches tracked s (Last n) = nat_lt 0 s.len && (s.last == n)
shape_matches tracked s (Has n) = marked tracked s.numbers n

abbrev pub shape_taken : List ℕ → PathShape → AsPathEntry → Bool
shape_taken tracked s e = shape_matches tracked s e.pattern

abbrev pub shape_permitted : List ℕ → PathShape → List AsPathEntry → Bool
shape_permitted tracked s entries = first_permits (shape_taken tracked s) (λ e. e.permit) entries

-- the answers of the community list and of the AS-path list of a name
abbrev pub marks_named : Policies → List ℕ → List Bool → Use → Bool
marks_named policies tracked marks named =
    named_answer (λ l. l.name) (λ l. marks_permitted tracked marks l.entries) policies.communities named.name

abbrev pub shape_named : Policies → List ℕ → PathShape → Use → Bool
shape_named policies tracked path named =
    named_answer (λ l. l.name) (λ l. shape_permitted tracked path l.entries) policies.as_paths named.name

-- whether the list of that name and of the line's kind permits the route
abbrev pub shape_list_permits : Policies → Tracked → Prefix → PathShape → List Bool → Match → Use → Bool
shape_list_permits policies tracked p path marks (Access names) named = access_named policies p named
shape_list_permits policies tracked p path marks (Prefixes names) named = prefixes_named policies p named
shape_list_permits policies tracked p path marks (Communities names) named =
    marks_named policies tracked.communities marks named
shape_list_permits policies tracked p path marks (Paths names) named = shape_named policies tracked.numbers path named

abbrev pub shape_line_holds : Policies → Tracked → Prefix → PathShape → List Bool → Match → Bool
shape_line_holds policies tracked p path marks line =
    list_any (shape_list_permits policies tracked p path marks line) (names_of line)

abbrev pub shape_route_taken : Policies → Tracked → Prefix → RouteShape → MapEntry → Bool
shape_route_taken policies tracked p s e =
    lines_hold (shape_line_holds policies tracked p s.path s.communities) e.matches

-- the marks of the tracked values where these values are put in, alone or beside those that were there
abbrev pub marks_with : List ℕ → List ℕ → Bool → List Bool → List Bool
marks_with [] values beside marks = []
marks_with (t ∷ ts) values beside [] = []
marks_with (t ∷ ts) values beside (b ∷ bs) = (carries values t || (beside && b)) ∷ marks_with ts values beside bs

-- the shape of a path with numbers in front
abbrev pub shape_prepended : List ℕ → List ℕ → PathShape → PathShape
shape_prepended tracked numbers s = record {
  len = saturated (s.len + length numbers);
  first = if length numbers == 0 then s.first else first_of numbers;
  last = if s.len == 0 then last_of numbers else s.last;
  numbers = marks_with tracked numbers true s.numbers;
}

-- what one set line changes, part by part
abbrev pub set_preferences : Preferences → SetAct → Preferences
set_preferences s (LocalPref n) = record s { local_pref = n }
set_preferences s (Metric n) = record s { med = n }
set_preferences s (Weight n) = record s { weight = n }
set_preferences s (Origin igp) = record s { origin = origin_set igp }
set_preferences s _ = s

abbrev pub set_path : List ℕ → Bool → PathShape → SetAct → PathShape
set_path tracked external s (Prepend numbers) = if external then shape_prepended tracked numbers s else s
set_path tracked external s _ = s

abbrev pub set_marks : List ℕ → List Bool → SetAct → List Bool
set_marks tracked marks NoCommunity = marks_with tracked [] false marks
set_marks tracked marks (Community values additive) = marks_with tracked values additive marks
set_marks tracked marks _ = marks

abbrev pub set_type1 : Bool → SetAct → Bool
set_type1 before (Type1 type1) = type1
set_type1 before _ = before

-- one set line
abbrev pub set_shape : Tracked → Bool → RouteShape → SetAct → RouteShape
set_shape tracked external s line = record {
  preferences = set_preferences s.preferences line;
  path = set_path tracked.numbers external s.path line;
  communities = set_marks tracked.communities s.communities line;
  type1 = set_type1 s.type1 line;
}

abbrev pub set_shapes : Tracked → Bool → RouteShape → List SetAct → RouteShape
set_shapes tracked external s lines = fold (set_shape tracked external) s lines

-- what an entry that decides makes of a route
abbrev pub shape_made : Tracked → Bool → RouteShape → MapEntry → Option RouteShape
shape_made tracked external s e = if e.permit then Some (set_shapes tracked external s e.sets) else None

-- what an entry makes of a route that it takes, and else what those behind it made
abbrev pub shape_after : Policies → Tracked → Prefix → Bool → RouteShape → MapEntry → Option RouteShape
    → Option RouteShape
shape_after policies tracked p external s e behind =
    if shape_route_taken policies tracked p s e then shape_made tracked external s e else behind

-- what entries in their order make of a route: the first that takes it decides, and the end drops it
abbrev pub shape_decided : Policies → Tracked → Prefix → Bool → RouteShape → List MapEntry → Option RouteShape
shape_decided policies tracked p external s entries =
    option_and_then (shape_made tracked external s) (find (shape_route_taken policies tracked p s) entries)

abbrev pub shape_mapped : Policies → List MapEntry → Tracked → Prefix → Bool → RouteShape → Option RouteShape
shape_mapped policies entries tracked p external s =
    shape_decided policies tracked p external s (in_order (λ e. e.seq) entries)

-- what the map that is applied, if one is, makes of a route
abbrev pub shape_through_map : Tracked → Policies → Option Use → Prefix → Bool → RouteShape → Option RouteShape
shape_through_map tracked policies used p external s =
    option_map_or (λ named. shape_mapped policies (entries_named policies named) tracked p external s) used (Some s)

-- whether the AS-path list that is applied, if one is, permits a path
abbrev pub shape_passes_paths : Tracked → Policies → Option Use → PathShape → Bool
shape_passes_paths tracked policies used path = option_map_or (shape_named policies tracked.numbers path) used true

-- the values that lists test are tracked
abbrev pub pattern_tracked : List ℕ → Pattern → Bool
pattern_tracked tracked Empty = true
pattern_tracked tracked Any = true
pattern_tracked tracked (Only n) = true
pattern_tracked tracked (First n) = true
pattern_tracked tracked (Last n) = true
pattern_tracked tracked (Has n) = carries tracked n

abbrev pub values_tracked : List ℕ → CommunityEntry → Bool
values_tracked tracked e = list_all (carries tracked) e.values

abbrev pub path_tracked : List ℕ → AsPathEntry → Bool
path_tracked tracked e = pattern_tracked tracked e.pattern

abbrev pub all_tracked : Tracked → Policies → Bool
all_tracked tracked policies =
    list_all (λ l. list_all (values_tracked tracked.communities) l.entries) policies.communities
    && list_all (λ l. list_all (path_tracked tracked.numbers) l.entries) policies.as_paths
