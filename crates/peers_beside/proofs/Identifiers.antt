-- Identifiers at places of two lists.
use Rattle.std.proofs.Common.{◌≡◌, ℕ, Bool, true, List, map, Option, Some, None, refl, sym, ap, ◌∙◌}
use Rattle.std.proofs.Common.{slice_get}
use Rattle.std.specs.Prelude.{◌↔◌, option_map}
use Rattle.std.proofs.lemmas.Bool.{eq-eqb, eqb-true, false≢true}
use Rattle.std.proofs.lemmas.Option.{same_Some, slice_get-map}
use Rattle.mw_text.specs.declared.address.Addr.{Addr}
use Rattle.term_store.specs.Terms.{Reading}
use Rattle.term_arith.specs.declared.Bits.{Bits}
use Rattle.term_arith.specs.Bits.{number}
use Rattle.sym_policy.specs.Records.{address_of}
use Rattle.peers_beside.specs.Same.{same_id}

-- the identifiers at two places are the same exactly where what stands there is
pub ids_tell : (w u : Reading) (xs ys : List Bits) (i j : ℕ) (r : Bool) →
    r ≡ same_id w u (slice_get xs i) (slice_get ys j) →
    r ≡ true ↔ slice_get (map (address_of w) xs) i ≡ slice_get (map (address_of u) ys) j
ids_tell w u xs ys i j r is =
    let both = by (slice_get xs i) (slice_get ys j) in (
      λ holds. slice_get-map (address_of w) xs i ∙ both.0 (sym is ∙ holds) ∙ sym (slice_get-map (address_of u) ys j),
      λ same. is ∙ both.1 (sym (slice_get-map (address_of w) xs i) ∙ same ∙ slice_get-map (address_of u) ys j),
    )
  where
    by : (o p : Option Bits) → same_id w u o p ≡ true ↔ option_map (address_of w) o ≡ option_map (address_of u) p
    by None None = (λ holds. refl, λ same. refl)
    by None (Some y) = (λ holds. absurd (false≢true holds), λ same. absurd cc)
    by (Some x) None = (λ holds. absurd (false≢true holds), λ same. absurd cc)
    by (Some x) (Some y) = (
      λ holds. ap (λ (n : ℕ). Some (record { 0 = n })) (eqb-true (number w x.nodes.items) (number u y.nodes.items) holds),
      λ same. eq-eqb (number w x.nodes.items) (number u y.nodes.items)
          (ap (λ (a : Addr). a.0) (same_Some (address_of w x) (address_of u y) same)),
    )
