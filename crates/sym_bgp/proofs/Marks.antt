-- Marks as numbers: of one mark, and of a row of them.
use Rattle.std.proofs.Common.{◌≡◌, ◌+◌, ◌*◌, Bool, true, false, if◌then◌else◌, List, [], ◌∷◌, refl, ap, ◌∙◌}
use Rattle.term_store.specs.declared.NodeId.{NodeId}
use Rattle.term_store.specs.Terms.{Reading, at}
use Rattle.term_arith.specs.Bits.{bit, bits, number}
use Rattle.route_record.specs.Shape.{marked_number}
use Rattle.bgp_shapes.specs.Numbers.{mark_number}
use Rattle.sym_bgp.specs.declared.parts.SymMark.{SymMark}

-- the number of a mark
pub mark_read : (w : Reading) (m : SymMark) → number w m.bit.nodes.items ≡ mark_number (at w m.node)
mark_read w m = ap (number w) m.is ∙ by_mark (at w m.node)
  where
    by_mark : (b : Bool) → bit b + 2 * 0 ≡ mark_number b
    by_mark true = refl
    by_mark false = refl

-- the number of a row of marks
pub marked_bits : (w : Reading) (ids : List NodeId) → marked_number (bits w ids) ≡ number w ids
marked_bits w [] = refl
marked_bits w (id ∷ ids) = by_mark (at w id) ∙ ap (λ n. bit (at w id) + 2 * n) (marked_bits w ids)
  where
    by_mark : (b : Bool) →
        (if b then 1 else 0) + 2 * marked_number (bits w ids) ≡ bit b + 2 * marked_number (bits w ids)
    by_mark true = refl
    by_mark false = refl
