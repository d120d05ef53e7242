-- Announcements of two networks that stand as terms, and what readings make of them.
use Rattle.std.specs.Prelude.{◌≡◌, ℕ, ◌+◌, ◌*◌, ◌==◌, Bool, true, false, List, Option, Some, None, length, map, option_map}
use Rattle.std.specs.Prelude.{slice_get, slice_range, take}
use Rattle.ios_ast.specs.declared.file.File.{File}
use Rattle.net_parts.specs.Decisions.{external_count}
use Rattle.net_parts.specs.Sessions.{ends_of}
use Rattle.bgp_shapes.specs.Candidates.{ShapeAnnouncement}
use Rattle.announced_places.specs.Environments.{announcement_of}
use Rattle.paired_nets.specs.declared.ends.EndPair.{EndPair}
use Rattle.term_store.specs.Terms.{Reading}
use Rattle.term_arith.specs.declared.Bits.{Bits}
use Rattle.term_arith.specs.Bits.{number}
use Rattle.sym_policy.specs.declared.records.SymBgp.{SymBgp}
use Rattle.sym_policy.specs.Held.{bgp_at, bgp_of}
use Rattle.sym_policy.specs.Records.{address_of}
use Rattle.bgp_equations.specs.declared.environment.SymEnv.{SymEnv}

-- the announcement of a route, wherever it is made, as if the route were there
abbrev pub announced_at : Reading → SymBgp → ShapeAnnouncement
announced_at w s = announcement_of 0 0 (bgp_at w s)

-- and where it is there
abbrev pub announced_by : Reading → SymBgp → Option ShapeAnnouncement
announced_by w s = option_map (announcement_of 0 0) (bgp_of w s)

-- both have as many nodes for tracked numbers, and for tracked communities
pub record HaveSameLists (a b : SymBgp) : Type 0 where
  pub numbers : length a.numbers.nodes.items ≡ length b.numbers.nodes.items
  pub communities : length a.communities.nodes.items ≡ length b.communities.nodes.items

-- so have those at each place of two lists
abbrev pub HaveLists : List SymBgp → List SymBgp → Type 0
HaveLists xs ys =
    (k : ℕ) (x y : SymBgp) → slice_get xs k ≡ Some x → slice_get ys k ≡ Some y → HaveSameLists x y

-- of two identifiers that may be there: both are or neither is, and where they are they are one number
abbrev pub same_id : Reading → Reading → Option Bits → Option Bits → Bool
same_id w u None None = true
same_id w u None (Some y) = false
same_id w u (Some x) None = false
same_id w u (Some x) (Some y) = number w x.nodes.items == number u y.nodes.items

-- of a list of rows, so many items each, that of a number
abbrev pub row : {X : Type 0} → ℕ → List X → ℕ → List X
row count xs k = slice_range xs (k * count) (k * count + count)

-- how many external ends stand before a place
abbrev pub number_at : List File → ℕ → ℕ
number_at files at = external_count (take at (ends_of files))

-- the external peers of a pair of ends have one identifier, and announce the same at each of so many prefix lengths
pub record IsOnePeer (left right : List File) (count : ℕ) (w u : Reading) (a b : SymEnv) (pair : EndPair) : Type 0 where
  pub id : slice_get (map (address_of w) a.ids) (number_at left pair.one)
      ≡ slice_get (map (address_of u) b.ids) (number_at right pair.other)
  pub announced : map (announced_by w) (row count a.announced (number_at left pair.one))
      ≡ map (announced_by u) (row count b.announced (number_at right pair.other))
