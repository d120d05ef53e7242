-- Ends over which a route was learnt, one after another.
use Rattle.std.proofs.Common.{◌≡◌, ℕ, ◌+◌, ◌-◌, ◌<◌, ◌≤◌, ◌==◌, Bool, true, false, if◌then◌else◌, List, ◌∷◌}
use Rattle.std.proofs.Common.{Option, Some, None, drop, get_or, length, refl, sym, ap, ◌∙◌, arith}
use Rattle.std.specs.List.{find}
use Rattle.std.proofs.lemmas.Bool.Decides.{nat_tests}
use Rattle.std.proofs.lemmas.List.{drop_all, drop_more}
use Rattle.ios_ast.specs.declared.bgp.Bgp.{Bgp}
use Rattle.ios_ast.specs.declared.bgp.Neighbour.{Neighbour}
use Rattle.ios_ast.specs.declared.file.File.{File}
use Rattle.net_parts.specs.declared.sessions.SessionEnd.{SessionEnd}
use Rattle.bgp_shapes.specs.Crossings.{Crossing, crossing, is_from}

pub equal_back : (a b : ℕ) → (a == b) ≡ (b == a)
equal_back a b = grind (arith, nat_tests)

-- a choice between two ways, part by part
pub chosen_way : (b : Bool) (x y : Crossing) (may own_hop reflected : Bool) (peer : ℕ) →
    may ≡ (if b then x.may else y.may) → own_hop ≡ (if b then x.own_hop else y.own_hop) →
    reflected ≡ (if b then x.reflected else y.reflected) → peer ≡ (if b then x.peer else y.peer) →
    ◌≡◌ {A = Crossing} (record { may = may; own_hop = own_hop; reflected = reflected; peer = peer })
    (if b then x else y)
chosen_way true x y may own_hop reflected peer p q r s =
    λ i. record { may = p i; own_hop = q i; reflected = r i; peer = s i }
chosen_way false x y may own_hop reflected peer p q r s =
    λ i. record { may = p i; own_hop = q i; reflected = r i; peer = s i }

-- one more end, over which a route may have been learnt
pub way_more : (files : List File) (process : Bgp) (neighbour : Neighbour) (end : SessionEnd) (n : ℕ)
    (ends : List SessionEnd) (i : ℕ) (over d : SessionEnd) (here rest made : Crossing) → 0 < i → i ≤ length ends →
    over ≡ get_or ends (i - 1) d → here ≡ crossing files process neighbour end (Some over) →
    rest ≡ crossing files process neighbour end (find (is_from files end.router n) (drop i ends)) →
    made ≡ (if is_from files end.router n over then here else rest) →
    made ≡ crossing files process neighbour end (find (is_from files end.router n) (drop (i - 1) ends))
way_more files process neighbour end n ends i over d here rest made above within at_place here_is rest_is made_is =
    let go = crossing files process neighbour end in
    let p = is_from files end.router n in
    let j = i - 1 in
    let next : j + 1 ≡ i = omega (arith, above) in
    made_is
    ∙ (λ k. if p over then here_is k else rest_is k)
    ∙ by_test (p over) over (find p (drop i ends))
    ∙ ap (λ o. go (find p (o ∷ drop i ends))) at_place
    ∙ ap (λ m. go (find p (get_or ends j d ∷ drop m ends))) (sym next)
    ∙ ap (λ xs. go (find p xs)) (sym (drop_more ends j d (omega (arith, within, above))))
  where
    by_test : (b : Bool) (x : SessionEnd) (o : Option SessionEnd) →
        (if b then crossing files process neighbour end (Some x) else crossing files process neighbour end o)
        ≡ crossing files process neighbour end (if b then Some x else o)
    by_test true x o = refl
    by_test false x o = refl

pub way_end : (files : List File) (process : Bgp) (neighbour : Neighbour) (end : SessionEnd) (n : ℕ)
    (ends : List SessionEnd) (i : ℕ) → length ends ≤ i →
    crossing files process neighbour end None
    ≡ crossing files process neighbour end (find (is_from files end.router n) (drop i ends))
way_end files process neighbour end n ends i past =
    ap (λ xs. crossing files process neighbour end (find (is_from files end.router n) xs)) (sym (drop_all i ends past))
