-- A network has at most as many routers as may be.
use Rattle.std.proofs.Common.{◌≡◌, ℕ, zero, suc, ◌+◌, ◌≤◌, Bool, true, false, List, [], ◌∷◌, length, take, Option}
use Rattle.std.proofs.Common.{Some, None, refl, ap, ◌∙◌, sym, arith}
use Rattle.std.proofs.lemmas.Bool.{leb-false, leb-true}
use Rattle.std.proofs.lemmas.List.{length-take-le}
use Rattle.std.specs.Prelude.{nat_le, slice_get}
use Rattle.std.specs.Option.{option_map_or, option_or}
use Rattle.mw_text.proofs.Lists.{item_there}
use Rattle.ios_ast.specs.declared.file.File.{File}
use Rattle.net_refusals.specs.declared.refusals.NetCause.{NetCause}
use Rattle.net_refusals.specs.declared.refusals.NetCause.TheVariants.{NetLimit}
use Rattle.net_refusals.specs.declared.refusals.NetRefused.{NetRefused}
use Rattle.net_interfaces.specs.declared.interfaces.TheConstants.{MOST_FILES}
use Rattle.net_refusals.specs.Refusals.{broken_line, earlier, first_broken, first_from, first_refusal, limit_line}
use Rattle.net_refusals.specs.Refusals.{line_if, refused_at, refused_by_addresses, refused_by_uses}
use Rattle.net_refusals.specs.Refusals.{second_area_number}

-- what comes after another answer is none where both are
pub or_none : {A : Type 0} (a b : Option A) → option_or a b ≡ None → b ≡ None
or_none None b none = none
or_none (Some x) b none = cc

earlier_none : (a b : Option ℕ) → earlier a b ≡ None → a ≡ None
earlier_none None b none = refl
earlier_none (Some x) None none = cc
earlier_none (Some x) (Some y) none = cc

-- where no line is named, nothing is broken
pub no_line : (broken : Bool) (line : ℕ) → line_if broken line ≡ None → broken ≡ false
no_line false line none = refl
no_line true line none = cc

-- an answer that comes before the others is none where the first answer is
first_none : (cause : NetCause) (at : ℕ) (line : Option ℕ) (later : Option NetRefused) →
    option_map_or (λ n. Some (refused_at cause at n)) line later ≡ None → (line ≡ None) × (later ≡ None)
first_none cause at None later none = (refl, none)
first_none cause at (Some n) later none = cc

-- where no file breaks a rule, the file of a number does not
pub none_at : (cause : NetCause) (all : List File) (at k : ℕ) (files : List File) (file : File) →
    first_from cause all at files ≡ None → slice_get files k ≡ Some file
    → broken_line cause all (take (at + k) all) file ≡ None
none_at cause all at k [] file none found = cc
none_at cause all at zero (x ∷ rest) file none found =
    let here = first_none cause at (broken_line cause all (take at all) x) (first_from cause all (at + 1) rest) none in
    let same : x ≡ file = cc in
    let place : at + 0 ≡ at = omega arith in
    ap (λ n. broken_line cause all (take n all) file) place
    ∙ ap (λ f. broken_line cause all (take at all) f) (sym same) ∙ here.0
none_at cause all at (suc k) (x ∷ rest) file none found =
    let here = first_none cause at (broken_line cause all (take at all) x) (first_from cause all (at + 1) rest) none in
    let place : at + suc k ≡ (at + 1) + k = omega arith in
    ap (λ n. broken_line cause all (take n all) file) place ∙ none_at cause all (at + 1) k rest file here.1 found

-- a list in which nothing stands at a place is no longer
not_longer : {A : Type 0} (n : ℕ) (xs : List A) →
    ((x : A) → slice_get xs n ≡ Some x → nat_le n (length (take n xs)) ≡ false) → length xs ≤ n
not_longer n xs none = by_length (nat_le (suc n) (length xs)) refl where
  by_length : (longer : Bool) → nat_le (suc n) (length xs) ≡ longer → length xs ≤ n
  by_length false is = omega (arith, leb-false _ _ is)
  by_length true is =
      let below : suc n ≤ length xs = leb-true _ _ is in
      let there = item_there xs n (omega (arith, below)) in
      let as_long : length (take n xs) ≡ n = length-take-le n xs (omega (arith, below)) in
      let not_less = leb-false _ _ (none there.0 there.1) in
      omega (arith, as_long, not_less)

-- files that break no rule are not too many
pub few_files : (files : List File) → first_refusal files ≡ None → length files ≤ MOST_FILES
unfolding first_refusal first_broken
few_files files unrefused =
    let before = option_or (refused_by_uses (refused_by_addresses files) files) (second_area_number files) in
    let none : first_from NetLimit files 0 files ≡ None = or_none before (first_broken NetLimit files) unrefused in
    not_longer MOST_FILES files (λ file found.
    let kept : limit_line (take MOST_FILES files) file
    ≡ None = none_at NetLimit files 0 MOST_FILES files file none found in
    no_line (nat_le MOST_FILES (length (take MOST_FILES files))) file.hostname_line
    (earlier_none _ _ (earlier_none _ _ kept)))
