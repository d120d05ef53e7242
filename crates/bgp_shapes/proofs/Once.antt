-- In files that keep their limits each process names the address of a neighbour once.
use Rattle.std.proofs.Common.{◌≡◌, ℕ, Bool, true, false, List, Option, Some, None, refl, sym, ap, ◌∙◌}
use Rattle.std.proofs.Common.{arith}
use Rattle.std.specs.Prelude.{nat_lt, option_and_then, slice_get}
use Rattle.std.specs.List.{list_all}
use Rattle.std.specs.Option.{option_map_or}
use Rattle.std.proofs.lemmas.Bool.{eq-eqb}
use Rattle.std.proofs.lemmas.Bool.Decides.{nat_tests}
use Rattle.mw_text.proofs.Lists.{all_at}
use Rattle.ios_ast.specs.declared.bgp.Bgp.{Bgp}
use Rattle.ios_ast.specs.declared.bgp.Neighbour.{Neighbour}
use Rattle.ios_ast.specs.declared.file.File.{File}
use Rattle.ios_ast.specs.Limits.{each_pair, have_two_addresses, keeps_limits}
use Rattle.ios_ast.proofs.KeptLimits.{limits_of}
use Rattle.ios_ast.proofs.Pairs.{pair_at}

-- the process of a router
abbrev pub process_of : List File → ℕ → Option Bgp
process_of files router = option_and_then (λ file. file.bgp) (slice_get files router)

-- two lines of a process with one address are one line
abbrev pub NamesOnce : List File → Type 0
NamesOnce files =
    (router : ℕ) (process : Bgp) → process_of files router ≡ Some process → (i j : ℕ) (x y : Neighbour) →
    slice_get process.neighbours i ≡ Some x → slice_get process.neighbours j ≡ Some y → x.addr.0 ≡ y.addr.0 → x ≡ y

one_line : (lines : List Neighbour) → each_pair have_two_addresses lines ≡ true → (i j : ℕ) (x y : Neighbour) →
    slice_get lines i ≡ Some x → slice_get lines j ≡ Some y → x.addr.0 ≡ y.addr.0 → x ≡ y
one_line lines two i j x y one other same = by_order (nat_lt i j) (nat_lt j i) refl refl
  where
    by_order : (b c : Bool) → nat_lt i j ≡ b → nat_lt j i ≡ c → x ≡ y
    by_order true c less more =
        let differ = pair_at have_two_addresses lines i j x y two (grind (arith, nat_tests)) one other in
        let equal = eq-eqb x.addr.0 y.addr.0 same in
        absurd cc
    by_order false true less more =
        let differ = pair_at have_two_addresses lines j i y x two (grind (arith, nat_tests)) other one in
        let equal = eq-eqb y.addr.0 x.addr.0 (sym same) in
        absurd cc
    by_order false false less more =
        let place : i ≡ j = grind (arith, nat_tests) in
        let line : Some x ≡ Some y = sym one ∙ ap (slice_get lines) place ∙ other in
        cc

pub names_once : (files : List File) → list_all keeps_limits files ≡ true → NamesOnce files
names_once files limits router process runs = of_file (slice_get files router) refl
  where
    of_file : (o : Option File) → slice_get files router ≡ o → (i j : ℕ) (x y : Neighbour) →
        slice_get process.neighbours i ≡ Some x → slice_get process.neighbours j ≡ Some y → x.addr.0 ≡ y.addr.0 →
        x ≡ y
    of_file (Some file) found =
        let here : file.bgp ≡ Some process = sym (ap (option_and_then (λ (f : File). f.bgp)) found) ∙ runs in
        one_line process.neighbours
        (sym (ap (λ (o : Option Bgp). option_map_or (λ b. each_pair have_two_addresses b.neighbours) o true) here)
        ∙ (limits_of file (all_at keeps_limits files router file limits found)).once)
    of_file None found =
        let none : None ≡ Some process = sym (ap (option_and_then (λ (f : File). f.bgp)) found) ∙ runs in
        absurd cc
