-- Set lines over shapes, one after another.
use Rattle.std.proofs.Common.{◌≡◌, ℕ, ◌+◌, ◌<◌, ◌≤◌, Bool, List, drop, get_or, length, sym, ap, ◌∙◌}
use Rattle.std.proofs.lemmas.List.{drop_more, drop_all}
use Rattle.ios_ast.specs.declared.policies.SetAct.{SetAct}
use Rattle.route_record.specs.declared.tracked.Tracked.{Tracked}
use Rattle.route_shapes.specs.Shapes.{RouteShape, set_shape, set_shapes}

-- one line of those that are left
pub set_shapes_more : (tracked : Tracked) (external : Bool) (s : RouteShape) (lines : List SetAct) (i : ℕ)
    (line : SetAct)
    → i < length lines → line ≡ get_or lines i line
    → set_shapes tracked external (set_shape tracked external s line) (drop (i + 1) lines)
    ≡ set_shapes tracked external s (drop i lines)
set_shapes_more tracked external s lines i line h here =
    ap (λ x. set_shapes tracked external (set_shape tracked external s x) (drop (i + 1) lines)) here
    ∙ sym (ap (set_shapes tracked external s) (drop_more lines i line h))

-- none is left
pub set_shapes_end : (tracked : Tracked) (external : Bool) (s : RouteShape) (lines : List SetAct) (i : ℕ)
    → length lines ≤ i → s ≡ set_shapes tracked external s (drop i lines)
set_shapes_end tracked external s lines i h = sym (ap (set_shapes tracked external s) (drop_all i lines h))
