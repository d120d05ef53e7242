-- What the set lines of a route map change.
use Rattle.std.specs.Prelude.{ℕ, Bool, if◌then◌else◌, List, [], ◌++◌, fold}
use Rattle.ios_ast.specs.declared.policies.SetAct.{SetAct}
use Rattle.ios_ast.specs.declared.policies.SetAct.TheVariants.{LocalPref, Metric, Weight, NoCommunity, Community}
use Rattle.ios_ast.specs.declared.policies.SetAct.TheVariants.{Origin, Prepend, Type1}
use Rattle.ios_ast.specs.Communities.{with_communities}

-- what route maps see of a route and may set. The origin is 0 for IGP, 1 for EGP and 2 for incomplete (RFC 4271,
-- section 5.1.1), so the lower one is preferred
pub record Attributes : Type 0 where
  pub weight : ℕ
  pub local_pref : ℕ
  pub med : ℕ
  pub origin : ℕ
  pub path : List ℕ
  pub communities : List ℕ
  pub type1 : Bool

abbrev pub origin_set : Bool → ℕ
origin_set igp = if igp then 0 else 2

-- the communities that a line sets, alone or beside those that are there
abbrev pub communities_set : List ℕ → List ℕ → Bool → List ℕ
communities_set held values additive = with_communities (if additive then held else []) values

-- one set line. Numbers are put in front of the path on external sessions alone
abbrev pub set_one : Bool → Attributes → SetAct → Attributes
set_one external r (LocalPref n) = record r { local_pref = n }
set_one external r (Metric n) = record r { med = n }
set_one external r (Weight n) = record r { weight = n }
set_one external r NoCommunity = record r { communities = [] }
set_one external r (Community values additive) =
    record r { communities = communities_set r.communities values additive }
set_one external r (Origin igp) = record r { origin = origin_set igp }
set_one external r (Prepend numbers) = record r { path = if external then numbers ++ r.path else r.path }
set_one external r (Type1 type1) = record r { type1 = type1 }

-- all set lines in their order
abbrev pub set_all : Bool → Attributes → List SetAct → Attributes
set_all external r lines = fold (set_one external) r lines
