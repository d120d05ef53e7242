-- What community lists answer for the communities of a route (RFC 1997; Cisco IOS, `ip community-list`), and lists of
-- communities: they ascend, and none stands twice.
use Rattle.std.specs.Prelude.{ℕ, ◌==◌, nat_lt, Bool, if◌then◌else◌, List, [], ◌∷◌, fold}
use Rattle.std.specs.List.{list_all}
use Rattle.ios_ast.specs.declared.policies.CommunityEntry.{CommunityEntry}
use Rattle.ios_ast.specs.Deciding.{first_permits, carries}

-- the route carries all values of the entry
abbrev pub communities_taken : CommunityEntry → List ℕ → Bool
communities_taken e communities = list_all (carries communities) e.values

abbrev pub communities_permitted : List CommunityEntry → List ℕ → Bool
communities_permitted entries communities =
    first_permits (λ e. communities_taken e communities) (λ e. e.permit) entries

-- ascending communities with one more, which is put in its place unless it is there
abbrev pub with_community : List ℕ → ℕ → List ℕ
with_community [] c = c ∷ []
with_community (x ∷ xs) c =
    if nat_lt c x then c ∷ x ∷ xs else if c == x then x ∷ xs else x ∷ with_community xs c

-- ascending communities with all of these
abbrev pub with_communities : List ℕ → List ℕ → List ℕ
with_communities communities values = fold with_community communities values
