-- The decision process beside a route that may be held (RFC 4271, section 9.1.2.2): in the steps whose numbers a route
-- says itself, nothing that is left may be better than it, and what is as good goes on.
use Rattle.std.specs.Prelude.{ℕ, ◌+◌, ◌==◌, ◌&&◌, ◌||◌, Bool, true, false, not, max, fold, List, [], ◌∷◌}
use Rattle.term_store.specs.Terms.{Reading, at}
use Rattle.term_arith.specs.Bits.{bits, ids_end}
use Rattle.net_parts.specs.declared.steps.Step.{Step}
use Rattle.net_parts.specs.declared.steps.Step.TheVariants.{Weight, Preference, Origination, PathLength, Origin, Med}
use Rattle.net_parts.specs.declared.steps.Step.TheVariants.{Session, Cost, Identifier, Clusters, Address}
use Rattle.net_parts.specs.Decisions.{Key}
use Rattle.route_shapes.specs.Bgp.{BgpShape}
use Rattle.bgp_shapes.specs.Candidates.{shape_key}
use Rattle.bgp_shapes.specs.Flags.{any_flagged, compared, left}
use Rattle.bgp_shapes.specs.Numbers.{compared_number, is_greater_better, wins}
use Rattle.sym_bgp.specs.declared.parts.SymBeside.{SymBeside}

-- the steps whose numbers stand in the route, and those behind them up to the cost
abbrev pub ranked : List Step
ranked = Weight ∷ Preference ∷ Origination ∷ PathLength ∷ Origin ∷ []

abbrev pub behind_ranked : List Step
behind_ranked = Med ∷ Session ∷ Cost ∷ []

-- a key is better in a step than that of the held route, and as good
abbrev pub is_better : Step → Key → Key → Bool
is_better s held k = wins (is_greater_better s) (compared_number s k) (compared_number s held)

abbrev pub levels : Step → Key → Key → Bool
levels s held k = compared_number s k == compared_number s held

-- the flags of what is as good
abbrev pub level_of : Step → Key → List Bool → List Key → List Bool
level_of s held [] ks = []
level_of s held (f ∷ fs) [] = []
level_of s held (f ∷ fs) (k ∷ ks) = (f && levels s held k) ∷ level_of s held fs ks

-- whether nothing was better so far, and the flags of what is as good
pub record Beside : Type 0 where
  pub unbeaten : Bool
  pub flags : List Bool

abbrev pub next_beside : Key → List Key → Beside → Step → Beside
next_beside held keys l s = record {
  unbeaten = l.unbeaten && not (any_flagged (is_better s held) l.flags keys);
  flags = level_of s held l.flags keys;
}

-- after all of these steps
abbrev pub all_beside : Key → List Key → List Bool → Beside
all_beside held keys flags = fold (next_beside held keys) (record { unbeaten = true; flags = flags }) ranked

-- what these steps look at of a route, the other numbers being 0
abbrev pub key_beside : BgpShape → Key
key_beside s = shape_key (record { rec = s; external = false; cost = 0; peer_id = 0 })

-- the flags that the steps behind leave
unfoldable pub surviving_last : Bool → Bool → List Key → List Bool → List Bool
surviving_last always compare_id keys flags =
    compared always compare_id keys (fold (left always keys) flags behind_ranked)

-- ---- steps that go key against key

-- the step of the MED asks for one neighbouring AS
abbrev pub is_same_as : Step → Key → Key → Bool
is_same_as Weight a b = true
is_same_as Preference a b = true
is_same_as Origination a b = true
is_same_as PathLength a b = true
is_same_as Origin a b = true
is_same_as Med a b = a.first == b.first
is_same_as Session a b = true
is_same_as Cost a b = true
is_same_as Identifier a b = true
is_same_as Clusters a b = true
is_same_as Address a b = true

abbrev pub is_by_pairs : Bool → Bool → Step → Bool
is_by_pairs always fixed Weight = false
is_by_pairs always fixed Preference = false
is_by_pairs always fixed Origination = false
is_by_pairs always fixed PathLength = false
is_by_pairs always fixed Origin = false
is_by_pairs always fixed Med = not always
is_by_pairs always fixed Session = false
is_by_pairs always fixed Cost = false
is_by_pairs always fixed Identifier = fixed
is_by_pairs always fixed Clusters = false
is_by_pairs always fixed Address = true

-- ---- by a reading

abbrev pub beside_at : Reading → SymBeside → Beside
beside_at w b = record { unbeaten = at w b.unbeaten; flags = bits w b.flags.nodes.items }

abbrev pub beside_end : SymBeside → ℕ
beside_end b = max (b.unbeaten.0 + 1) (ids_end b.flags.nodes.items)
