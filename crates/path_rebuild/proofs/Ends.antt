-- The end over which a route was learnt, by its place.
use Rattle.std.proofs.Common.{◌≡◌, ℕ, ◌+◌, ◌^◌, ◌<◌, ◌≤◌, true, false, List, Option, Some, None, length}
use Rattle.std.proofs.Common.{refl, ap, ◌∙◌, if◌then◌else◌, drop, get_or}
use Rattle.std.specs.Prelude.{◌==◌, ◌&&◌}
use Rattle.std.specs.List.{enumerate_from, find}
use Rattle.std.specs.Option.{option_map_or}
use Rattle.std.proofs.lemmas.List.{drop_all}
use Rattle.mw_text.specs.declared.address.Addr.{Addr}
use Rattle.mw_text.proofs.Lists.{drop-read}
use Rattle.ios_ast.specs.declared.bgp.Neighbour.{Neighbour}
use Rattle.ios_ast.specs.declared.file.File.{File}
use Rattle.net_parts.specs.declared.sessions.SessionEnd.{SessionEnd}
use Rattle.net_parts.specs.Exports.{is_towards}
use Rattle.net_parts.specs.Sessions.{ends_of, neighbour_of}
use Rattle.bgp_shapes.specs.Crossings.{is_from}
use Rattle.bgp_shapes.proofs.CrossingLaw.{same_numbers}

-- a number above 2^32 stands for the neighbour's address
same_test : (files : List File) (router : ℕ) (a : Addr) (end : SessionEnd) →
    is_from files router (2 ^ 32 + a.0) end ≡ is_towards files router a end
same_test files router a end = by (neighbour_of files end) where
  by : (o : Option Neighbour) →
      ((end.router == router) && option_map_or (λ neighbour. 2 ^ 32 + neighbour.addr.0 == 2 ^ 32 + a.0) o false)
      ≡ ((end.router == router) && option_map_or (λ neighbour. neighbour.addr.0 == a.0) o false)
  by None = refl
  by (Some neighbour) = ap (λ b. (end.router == router) && b) (same_numbers neighbour.addr.0 a.0)

-- the end from a place on
abbrev pub numbered_from : List File → ℕ → Addr → ℕ → Option (ℕ × SessionEnd)
numbered_from files router a at =
    find (λ (e : ℕ × SessionEnd). is_from files router (2 ^ 32 + a.0) e.1) (enumerate_from at (drop at (ends_of files)))

there : (files : List File) (router : ℕ) (a : Addr) (at : ℕ) (end : SessionEnd) → at < length (ends_of files) →
    end ≡ get_or (ends_of files) at end →
    numbered_from files router a at
    ≡ (if is_towards files router a end then Some (at, end) else numbered_from files router a (at + 1))
there files router a at end within is =
    ap (λ es. find (λ (e : ℕ × SessionEnd). is_from files router (2 ^ 32 + a.0) e.1) (enumerate_from at es))
    (drop-read (ends_of files) at end within is)
    ∙ ap (λ b. if b then Some (at, end) else numbered_from files router a (at + 1)) (same_test files router a end)

pub numbered_here : (files : List File) (router : ℕ) (a : Addr) (at : ℕ) (end : SessionEnd) →
    at < length (ends_of files) → end ≡ get_or (ends_of files) at end → is_towards files router a end ≡ true →
    numbered_from files router a at ≡ Some (at, end)
numbered_here files router a at end within is passes =
    there files router a at end within is
    ∙ ap (λ b. if b then Some (at, end) else numbered_from files router a (at + 1)) passes

pub numbered_next : (files : List File) (router : ℕ) (a : Addr) (at : ℕ) (end : SessionEnd) →
    at < length (ends_of files) → end ≡ get_or (ends_of files) at end → is_towards files router a end ≡ false →
    numbered_from files router a at ≡ numbered_from files router a (at + 1)
numbered_next files router a at end within is passes =
    there files router a at end within is
    ∙ ap (λ b. if b then Some (at, end) else numbered_from files router a (at + 1)) passes

pub numbered_none : (files : List File) (router : ℕ) (a : Addr) (at : ℕ) → length (ends_of files) ≤ at →
    numbered_from files router a at ≡ None
numbered_none files router a at all =
    ap (λ es. find (λ (e : ℕ × SessionEnd). is_from files router (2 ^ 32 + a.0) e.1) (enumerate_from at es))
    (drop_all at (ends_of files) all)
