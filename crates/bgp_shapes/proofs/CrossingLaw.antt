-- How a route goes on, by the number of the peer from which it came.
use Rattle.std.proofs.Common.{◌≡◌, ℕ, ◌+◌, ◌^◌, ◌==◌, ◌&&◌, ◌||◌, Bool, true, false, not, List, [], ◌∷◌, Option, Some}
use Rattle.std.proofs.Common.{None}
use Rattle.std.proofs.Common.{refl, sym, ap, arith}
use Rattle.std.specs.List.{find}
use Rattle.std.specs.Option.{option_map_or}
use Rattle.std.proofs.lemmas.Bool.Decides.{nat_tests}
use Rattle.ios_ast.specs.declared.bgp.Bgp.{Bgp}
use Rattle.ios_ast.specs.declared.bgp.Neighbour.{Neighbour}
use Rattle.ios_ast.specs.declared.file.File.{File}
use Rattle.route_record.specs.declared.Learnt.{Learnt}
use Rattle.route_record.specs.declared.Learnt.TheVariants.{Local, Peer}
use Rattle.net_parts.specs.declared.sessions.SessionEnd.{SessionEnd}
use Rattle.net_parts.specs.Exports.{learnt_over, may_reflect}
use Rattle.net_parts.specs.Sessions.{ends_of, neighbour_of}
use Rattle.route_shapes.specs.Bgp.{learnt_number}
use Rattle.bgp_shapes.specs.Crossings.{crossing, end_numbered, is_from}

find_same : (p q : SessionEnd → Bool) → ((x : SessionEnd) → p x ≡ q x) → (xs : List SessionEnd) → find p xs ≡ find q xs
find_same p q same [] = refl
find_same p q same (x ∷ xs) =
    let here = same x in let rest = find_same p q same xs in cc

find_none : (p : SessionEnd → Bool) → ((x : SessionEnd) → p x ≡ false) → (xs : List SessionEnd) → find p xs ≡ None
find_none p none [] = refl
find_none p none (x ∷ xs) = let here = none x in let rest = find_none p none xs in cc

-- the numbers of two addresses are equal where these are
pub same_numbers : (a b : ℕ) → (2 ^ 32 + a == 2 ^ 32 + b) ≡ (a == b)
same_numbers a b = grind (arith, nat_tests)

-- the end over which a route was learnt is found by the number that stands for it
pub learnt_numbered : (files : List File) (router : ℕ) (from : Learnt)
    → learnt_over files router from ≡ end_numbered files router (learnt_number from)
learnt_numbered files router Local = sym (find_none (is_from files router 0) none (ends_of files))
  where
    no_number : (o : Option Neighbour)
        → option_map_or (λ neighbour. 2 ^ 32 + neighbour.addr.0 == 0) o false ≡ false
    no_number None = refl
    no_number (Some neighbour) = grind (arith, nat_tests)

    and_false : (a b : Bool) → b ≡ false → (a && b) ≡ false
    and_false true b h = h
    and_false false b h = refl

    none : (end : SessionEnd) → is_from files router 0 end ≡ false
    none end = and_false (end.router == router)
        (option_map_or (λ neighbour. 2 ^ 32 + neighbour.addr.0 == 0) (neighbour_of files end) false)
        (no_number (neighbour_of files end))
learnt_numbered files router (Peer a) = find_same _ _ same (ends_of files)
  where
    numbered : (o : Option Neighbour)
        → option_map_or (λ neighbour. neighbour.addr.0 == a.0) o false
        ≡ option_map_or (λ neighbour. 2 ^ 32 + neighbour.addr.0 == 2 ^ 32 + a.0) o false
    numbered None = refl
    numbered (Some neighbour) = sym (same_numbers neighbour.addr.0 a.0)

    same : (end : SessionEnd)
        → ((end.router == router)
        && option_map_or (λ neighbour. neighbour.addr.0 == a.0) (neighbour_of files end) false)
        ≡ is_from files router (2 ^ 32 + a.0) end
    same end = ap (λ b. (end.router == router) && b) (numbered (neighbour_of files end))

-- whether it may go
pub may_cross : (files : List File) (process : Bgp) (neighbour : Neighbour) (end : SessionEnd) (o : Option SessionEnd)
    → (crossing files process neighbour end o).may
    ≡ option_map_or (λ from. not (from.neighbour == end.neighbour)
    && (not (from.internal && end.internal) || may_reflect files process from end)) o true
may_cross files process neighbour end None = refl
may_cross files process neighbour end (Some from) = refl
