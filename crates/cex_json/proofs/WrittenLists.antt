-- Lists that were written are read back.
use Rattle.std.proofs.Common.{◌≡◌, ℕ, ◌+◌, ◌-◌, ◌^◌, ◌<◌, ◌≤◌, ◌==◌, ◌&&◌, Bool, true, false, cond, List, [], ◌∷◌, ◌++◌}
use Rattle.std.proofs.Common.{length, map, Option, Some, None, Result, Ok, Err, refl, ap, sym, subst, ◌∙◌, arith}
use Rattle.std.proofs.Common.{append_assoc}
use Rattle.std.proofs.lemmas.List.{append-nil}
use Rattle.std.proofs.lemmas.Bool.{le-leb, lt-ltb}
use Rattle.std.specs.Prelude.{codes, nat_le, nat_lt}
use Rattle.mw_text.specs.declared.address.Addr.{Addr}
use Rattle.serde_json.specs.Data.{Data, object, Items, no_items, item}
use Rattle.serde_json.specs.View.{items_of}
use Rattle.cex_json.specs.declared.refused.CexRefused.{CexRefused}
use Rattle.cex_json.specs.Fields.{◌>>=◌, addr_step, asn_step, ascending_step, greatest, in_order, is_above}
use Rattle.cex_json.specs.Json.{number_of}
use Rattle.cex_json.specs.Parts.{addr_data}
use Rattle.cex_json.specs.Writable.{EachSplit}
use Rattle.cex_json.proofs.Dotted.{addr_back}

-- where each member takes its place behind those before it, the list is read back
pub in_order_back : {A : Type 0} (step : ℕ → List A → Data → Result (List A) CexRefused) (write : A → Data)
    (at : ℕ) (so_far xs : List A)
    → ((i : ℕ) (before rest : List A) (x : A) → so_far ++ xs ≡ before ++ x ∷ rest
    → step i before (write x) ≡ Ok (before ++ x ∷ []))
    → in_order step at so_far (items_of (map write xs)) ≡ Ok (so_far ++ xs)
in_order_back step write at so_far [] each = ap (λ ys. Ok ys) (sym (append-nil so_far))
in_order_back step write at so_far (x ∷ xs) each =
    let moved : (so_far ++ x ∷ []) ++ xs ≡ so_far ++ x ∷ xs = append_assoc so_far (x ∷ []) xs in
    ap (λ r. r >>= λ next. in_order step (at + 1) next (items_of (map write xs))) (each at so_far xs x refl)
    ∙ in_order_back step write (at + 1) (so_far ++ x ∷ []) xs
    (λ i before rest y is. each i before rest y (sym moved ∙ is))
    ∙ ap (λ ys. Ok ys) moved

-- addresses
pub addrs_back : (at name : List ℕ) (xs : List Addr) → EachSplit (λ _ a. a.0 < 2 ^ 32) xs →
    in_order (addr_step at name) 0 [] (items_of (map addr_data xs)) ≡ Ok xs
addrs_back at name xs small =
    in_order_back (addr_step at name) addr_data 0 [] xs
    (λ i before rest a is. rw (addr_back a (small before rest a is)) refl)

-- AS numbers
pub path_back : (at name : List ℕ) (xs : List ℕ) → EachSplit (λ _ n. (0 < n) × (n ≤ greatest)) xs →
    in_order (asn_step at name) 0 [] (items_of (map number_of xs)) ≡ Ok xs
path_back at name xs fits =
    in_order_back (asn_step at name) number_of 0 [] xs
    (λ i before rest n is.
    rw (le-leb n greatest (fits before rest n is).1) (rw (lt-ltb 0 n (fits before rest n is).0) refl))

-- numbers that ascend
pub ascending_back : (at name : List ℕ) (xs : List ℕ) →
    EachSplit (λ before n. (is_above before n ≡ true) × (n ≤ greatest)) xs →
    in_order (ascending_step at name) 0 [] (items_of (map number_of xs)) ≡ Ok xs
ascending_back at name xs fits =
    in_order_back (ascending_step at name) number_of 0 [] xs
    (λ i before rest n is.
    rw (le-leb n greatest (fits before rest n is).1) (rw (fits before rest n is).0 refl))
