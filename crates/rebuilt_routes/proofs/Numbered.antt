-- The end over which a route was learnt, by the number that stands for the peer.
use Rattle.std.proofs.Common.{◌≡◌, ℕ, ◌+◌, ◌^◌, ◌==◌, true, false, List, Option, Some, None, nat_lt}
use Rattle.std.proofs.Common.{refl, sym, ap, ◌∙◌, arith}
use Rattle.std.specs.Prelude.{option_map, slice_get}
use Rattle.std.specs.Option.{option_map_or}
use Rattle.std.proofs.lemmas.Bool.{and_parts, eqb-true}
use Rattle.std.proofs.lemmas.Bool.Decides.{nat_tests}
use Rattle.mw_text.proofs.Found.{find_passes}
use Rattle.ios_ast.specs.declared.bgp.Neighbour.{Neighbour}
use Rattle.ios_ast.specs.declared.file.File.{File}
use Rattle.net_parts.specs.declared.sessions.SessionEnd.{SessionEnd}
use Rattle.net_parts.specs.Sessions.{ends_of, neighbour_of}
use Rattle.bgp_shapes.specs.Crossings.{end_numbered, is_from}
use Rattle.bgp_shapes.specs.Messages.{lacks_address}
use Rattle.rebuilt_routes.specs.Following.{numbered_end}
use Rattle.rebuilt_routes.proofs.Options.{numbered_there, unnumbered_find}

-- an end of the router, whose neighbour has that number
pub record IsNumbered (files : List File) (router n : ℕ) (end : SessionEnd) : Type 0 where
  pub own : end.router ≡ router
  pub neighbour : Neighbour
  pub named : neighbour_of files end ≡ Some neighbour
  pub number : 2 ^ 32 + neighbour.addr.0 ≡ n

pub from_end : (files : List File) (router n : ℕ) (end : SessionEnd) → is_from files router n end ≡ true →
    IsNumbered files router n end
from_end files router n end passes =
    by (neighbour_of files end) refl (and_parts (end.router == router) _ passes).1
  where
    by : (o : Option Neighbour) → neighbour_of files end ≡ o →
        option_map_or (λ neighbour. 2 ^ 32 + neighbour.addr.0 == n) o false ≡ true → IsNumbered files router n end
    by None named there = absurd cc
    by (Some neighbour) named there = record {
      own = eqb-true end.router router (and_parts (end.router == router) _ passes).0;
      neighbour = neighbour;
      named = named;
      number = eqb-true (2 ^ 32 + neighbour.addr.0) n there;
    }

-- the end that is found with its place is the one that is found without
pub end_alone : (files : List File) (router n : ℕ) →
    option_map (λ (e : ℕ × SessionEnd). e.1) (numbered_end files router n) ≡ end_numbered files router n
end_alone files router n = unnumbered_find (is_from files router n) 0 (ends_of files)

pub numbered_is : (files : List File) (router n : ℕ) (end : SessionEnd) → end_numbered files router n ≡ Some end →
    IsNumbered files router n end
numbered_is files router n end found =
    from_end files router n end (find_passes (is_from files router n) (ends_of files) end found)

-- the end that is found stands at its place
pub numbered_place : (files : List File) (router n at : ℕ) (end : SessionEnd) →
    numbered_end files router n ≡ Some (at, end) → slice_get (ends_of files) at ≡ Some end
numbered_place files router n at end found =
    let there = numbered_there (λ e. is_from files router n e.1) 0 (ends_of files) at end found in
    let place = there.1 in
    let same : there.0 ≡ at = omega (arith, place) in
    ap (slice_get (ends_of files)) (sym same) ∙ there.2

-- a number for which an end is found is that of an address
pub has_address : (files : List File) (router n : ℕ) (end : SessionEnd) → IsNumbered files router n end →
    lacks_address n ≡ false
has_address files router n end is = above is.neighbour.addr.0 n is.number
  where
    above : (a n : ℕ) → 2 ^ 32 + a ≡ n → nat_lt n (2 ^ 32) ≡ false
    above a n same = grind (arith, nat_tests)
