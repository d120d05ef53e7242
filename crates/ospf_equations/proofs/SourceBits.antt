-- The bit of value 2 in the number of a source.
use Rattle.std.proofs.Common.{◌≡◌, ℕ, ◌<◌, ◌≤◌, Bool, true, false, ◌&&◌, List, [], ◌∷◌, length, get_or}
use Rattle.std.proofs.Common.{Some, None, refl, ap, arith, if◌then◌else◌}
use Rattle.std.specs.Prelude.{option_map}
use Rattle.std.proofs.Math.ListN.{set}
use Rattle.term_store.specs.declared.NodeId.{NodeId}
use Rattle.term_store.specs.Terms.{Reading, at}
use Rattle.term_arith.specs.Bits.{ids_end, number, number_of}
use Rattle.sym_rib.specs.Slots.{source_of_number}
use Rattle.world_variables.specs.Slots.{entry_of_bit, has_dynamic, is_dynamic, source_with}

bit_is : (x y z : Bool) → number_of (x ∷ y ∷ z ∷ []) ≤ 4 → y ≡ is_dynamic (source_of_number (number_of (x ∷ y ∷ z ∷ [])))
bit_is true true true small = absurd (omega (arith, small))
bit_is false true true small = absurd (omega (arith, small))
bit_is true false true small = absurd (omega (arith, small))
bit_is false false true small = refl
bit_is true true false small = refl
bit_is false true false small = refl
bit_is true false false small = refl
bit_is false false false small = refl

entry_bit : (valid x y z : Bool) (distance : ℕ) → number_of (x ∷ y ∷ z ∷ []) ≤ 4 → (valid && y)
    ≡ has_dynamic (if valid
    then Some (record { source = source_of_number (number_of (x ∷ y ∷ z ∷ [])); distance = distance }) else None)
entry_bit true x y z distance small = bit_is x y z small
entry_bit false x y z distance small = refl

-- the bit of an entry that is there
pub bit_read : (w : Reading) (valid : Bool) (nodes : List NodeId) (d : NodeId) (distance : ℕ) → length nodes ≡ 3 →
    number w nodes ≤ 4 → (valid && at w (get_or nodes 1 d))
    ≡ has_dynamic (if valid then Some (record { source = source_of_number (number w nodes); distance = distance })
    else None)
bit_read w valid [] d distance long small = absurd (omega (arith, long))
bit_read w valid (a ∷ []) d distance long small = absurd (omega (arith, long))
bit_read w valid (a ∷ b ∷ []) d distance long small = absurd (omega (arith, long))
bit_read w valid (a ∷ b ∷ c ∷ []) d distance long small = entry_bit valid (at w a) (at w b) (at w c) distance small
bit_read w valid (a ∷ b ∷ c ∷ e ∷ nodes) d distance long small = absurd (omega (arith, long))

put_is : (x y z bit : Bool) → number_of (x ∷ y ∷ z ∷ []) ≤ 4 →
    source_of_number (number_of (x ∷ bit ∷ z ∷ [])) ≡ source_with bit (source_of_number (number_of (x ∷ y ∷ z ∷ [])))
put_is true true true bit small = absurd (omega (arith, small))
put_is false true true bit small = absurd (omega (arith, small))
put_is true false true bit small = absurd (omega (arith, small))
put_is false false true true small = refl
put_is false false true false small = refl
put_is true true false true small = refl
put_is true true false false small = refl
put_is false true false true small = refl
put_is false true false false small = refl
put_is true false false true small = refl
put_is true false false false small = refl
put_is false false false true small = refl
put_is false false false false small = refl

entry_put : (valid x y z bit : Bool) (distance : ℕ) → number_of (x ∷ y ∷ z ∷ []) ≤ 4 →
    (if valid then Some (record { source = source_of_number (number_of (x ∷ bit ∷ z ∷ [])); distance = distance })
    else None) ≡ option_map (entry_of_bit bit) (if valid
    then Some (record { source = source_of_number (number_of (x ∷ y ∷ z ∷ [])); distance = distance }) else None)
entry_put true x y z bit distance small = ap (λ s. Some (record { source = s; distance = distance })) (put_is x y z bit small)
entry_put false x y z bit distance small = refl

-- the entry with a node for the bit
pub bit_put : (w : Reading) (valid : Bool) (nodes : List NodeId) (d : NodeId) (distance : ℕ) → length nodes ≡ 3 →
    number w nodes ≤ 4 →
    (if valid then Some (record { source = source_of_number (number w (set nodes 1 d)); distance = distance }) else None)
    ≡ option_map (entry_of_bit (at w d)) (if valid
    then Some (record { source = source_of_number (number w nodes); distance = distance }) else None)
bit_put w valid [] d distance long small = absurd (omega (arith, long))
bit_put w valid (a ∷ []) d distance long small = absurd (omega (arith, long))
bit_put w valid (a ∷ b ∷ []) d distance long small = absurd (omega (arith, long))
bit_put w valid (a ∷ b ∷ c ∷ []) d distance long small = entry_put valid (at w a) (at w b) (at w c) (at w d) distance small
bit_put w valid (a ∷ b ∷ c ∷ e ∷ nodes) d distance long small = absurd (omega (arith, long))

-- its nodes stand where both did
pub bit_within : (nodes : List NodeId) (d : NodeId) (n : ℕ) → length nodes ≡ 3 → ids_end nodes ≤ n → d.0 < n →
    ids_end (set nodes 1 d) ≤ n
bit_within [] d n long within less = absurd (omega (arith, long))
bit_within (a ∷ []) d n long within less = absurd (omega (arith, long))
bit_within (a ∷ b ∷ []) d n long within less = absurd (omega (arith, long))
bit_within (a ∷ b ∷ c ∷ []) d n long within less = omega (arith, within, less)
bit_within (a ∷ b ∷ c ∷ e ∷ nodes) d n long within less = absurd (omega (arith, long))
