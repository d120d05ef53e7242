-- How many neighbour lines and sessions there are.
use Rattle.std.proofs.Common.{◌≡◌, ℕ, ◌+◌, ◌*◌, ◌≤◌, Bool, true, List, [], ◌∷◌, length, length-append}
use Rattle.std.proofs.Common.{Option, Some, None, ap, arith}
use Rattle.std.proofs.lemmas.Bool.{and_parts, leb-true}
use Rattle.std.proofs.lemmas.List.Sums.{count_by-le-length, length-filter}
use Rattle.std.specs.Prelude.{filter, nat_le, ◌==◌, not}
use Rattle.std.specs.List.{find, list_all}
use Rattle.std.specs.Option.{option_map_or}
use Rattle.ios_ast.specs.declared.bgp.Bgp.{Bgp}
use Rattle.ios_ast.specs.declared.bgp.Neighbour.{Neighbour}
use Rattle.ios_ast.specs.declared.file.File.{File}
use Rattle.ios_ast.specs.declared.file.TheConstants.{MOST_NEIGHBOURS}
use Rattle.ios_ast.proofs.KeptLimits.{limits_of}
use Rattle.net_interfaces.specs.declared.interfaces.Addressed.{Addressed}
use Rattle.net_parts.specs.declared.sessions.Peering.{Peering}
use Rattle.net_interfaces.specs.Interfaces.{addressed}
use Rattle.net_interfaces.specs.Limits.{has_few_neighbours, keeps_limits}
use Rattle.net_parts.specs.Sessions.{has_session, peering, peerings, peerings_from, peerings_of, peerings_routers}
use Rattle.net_parts.specs.Sessions.{sessions, speaks_from}

at_most_one : (f : Addressed → Peering) (o : Option Addressed)
    → length (option_map_or (λ source. f source ∷ []) o []) ≤ 1
at_most_one f None = omega arith
at_most_one f (Some source) = omega arith

few_from : (own : List Addressed) (router : ℕ) (file : File) (asn at : ℕ) (ns : List Neighbour) →
    length (peerings_from own router file asn at ns) ≤ length ns
few_from own router file asn at [] = omega arith
few_from own router file asn at (n ∷ rest) =
    let first = option_map_or (λ source. peering router asn at n source ∷ []) (find (speaks_from file n) own) [] in
    omega (
      arith,
      length-append first (peerings_from own router file asn (at + 1) rest),
      at_most_one (λ source. peering router asn at n source) (find (speaks_from file n) own),
      few_from own router file asn (at + 1) rest,
    )

few_of : (all : List Addressed) (router : ℕ) (file : File) → has_few_neighbours file ≡ true
    → length (peerings_of all router file) ≤ 64
few_of all router file = by_process file.bgp
  where
    by_process : (o : Option Bgp) → option_map_or (λ bgp. nat_le (length bgp.neighbours) MOST_NEIGHBOURS) o true
        ≡ true →
        length (option_map_or
        (λ bgp. peerings_from (filter (λ x. x.id.router == router) all) router file bgp.asn 0 bgp.neighbours) o []) ≤ 64
    by_process None few = omega arith
    by_process (Some bgp) few =
        omega (
          arith,
          leb-true _ _ few,
          few_from (filter (λ x. x.id.router == router) all) router file bgp.asn 0 bgp.neighbours,
        )

few_routers : (all : List Addressed) (router : ℕ) (files : List File) → list_all keeps_limits files ≡ true →
    length (peerings_routers all router files) ≤ 64 * length files
few_routers all router [] few = omega arith
few_routers all router (file ∷ rest) few =
    let both = and_parts (keeps_limits file) (list_all keeps_limits rest) few in
    omega (
      arith,
      length-append (peerings_of all router file) (peerings_routers all (router + 1) rest),
      few_of all router file (limits_of file both.0).neighbours,
      few_routers all (router + 1) rest both.1,
    )

-- a filtered list is no longer
pub filter-le : {A : Type 0} (p : A → Bool) (xs : List A) → length (filter p xs) ≤ length xs
filter-le p xs = omega (arith, length-filter p xs, count_by-le-length p xs)

-- so a position among the sessions fits
pub few_sessions : (files : List File) (standing : List Peering) → standing ≡ sessions files → length files ≤ 64 →
    list_all keeps_limits files ≡ true → length standing ≤ 4294967295
unfolding sessions peerings
few_sessions files standing same small few =
    let all = peerings_routers (addressed files) 0 files in
    let test = has_session (addressed files) (filter (λ a. not a.shutdown) all) in
    omega (
      arith,
      ap length same,
      filter-le test (filter (λ a. not a.shutdown) all),
      filter-le (λ a. not a.shutdown) all,
      few_routers (addressed files) 0 files few,
    )
