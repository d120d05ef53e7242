-- Copies of nodes: where they stand, and the values of one more of them.
use Rattle.std.proofs.Common.{◌≡◌, ℕ, ◌+◌, ◌≤◌, Bool, List, [], ◌∷◌, ◌++◌, take, slice_get, Some}
use Rattle.std.proofs.Common.{sym, ap, subst, ◌∙◌}
use Rattle.std.proofs.lemmas.Grind.{common_steps}
use Rattle.std.proofs.lemmas.List.{take_more, take_all}
use Rattle.std.proofs.lemmas.Option.{slice_get_within, get_or_from_slice_get}
use Rattle.term_store.specs.declared.NodeId.{NodeId}
use Rattle.term_store.specs.declared.Node.{Node}
use Rattle.term_store.specs.Reading.{Stands}
use Rattle.term_store.specs.Terms.{Store, Reading, at, gate, reading_by, values_of}
use Rattle.term_store.proofs.Values.{values_after-append}
use Rattle.term_arith.specs.Bits.{bits}
use Rattle.term_arith.proofs.NumberLemmas.{bits_push, ids_end_at, ids_end_push, node_at_place}

-- one more node has one more value
pub values_more : (nodes : List Node) (values : List Bool) (i : ℕ) (n : Node) → slice_get nodes i ≡ Some n
    → values_of (take (i + 1) nodes) values
    ≡ values_of (take i nodes) values ++ gate (reading_by values (values_of (take i nodes) values)) n ∷ []
values_more nodes values i n here =
    ap (λ ns. values_of ns values) (take_more nodes i n (slice_get_within nodes i n here)
    ∙ ap (λ m. take i nodes ++ m ∷ []) (get_or_from_slice_get nodes i n n here))
    ∙ values_after-append values (take i nodes) (n ∷ []) []

-- and so has its copy
pub copies_more : (w : Reading) (copies : List NodeId) (copy : NodeId) (from : Store) (i : ℕ) (n : Node)
    (values : List Bool)
    → Stands from i n
    → bits w copies ≡ values_of (take i from.nodes) values
    → at w copy ≡ gate (reading_by values (bits w copies)) n
    → bits w (copies ++ copy ∷ []) ≡ values_of (take (i + 1) from.nodes) values
unfolding Stands
copies_more w copies copy from i n values here so_far value =
    bits_push w copies copy
    ∙ ap (λ b. bits w copies ++ b ∷ []) value
    ∙ ap (λ bs. bs ++ gate (reading_by values bs) n ∷ []) so_far
    ∙ sym (values_more from.nodes values i n here)

pub ruleset copy_steps = (common_steps, ids_end_at, node_at_place)

pub ruleset row_steps = (common_steps, ids_end_push, take_all)
