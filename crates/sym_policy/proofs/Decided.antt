-- What entries make of a shape, one entry after another.
use Rattle.std.proofs.Common.{◌≡◌, ℕ, ◌+◌, ◌-◌, ◌<◌, ◌≤◌, Bool, true, false, if◌then◌else◌, List, ◌∷◌, Some}
use Rattle.std.proofs.Common.{drop, get_or, length, refl, sym, ap, ◌∙◌, arith}
use Rattle.std.proofs.lemmas.List.{drop_more}
use Rattle.std.specs.Borrow.{Bor}
use Rattle.std.specs.List.{find}
use Rattle.std.specs.Option.{option_and_then}
use Rattle.mw_text.specs.declared.address.Prefix.{Prefix}
use Rattle.ios_ast.specs.declared.policies.MapEntry.{MapEntry}
use Rattle.ios_ast.specs.declared.policies.Policies.{Policies}
use Rattle.route_record.specs.declared.tracked.Tracked.{Tracked}
use Rattle.sym_policy.specs.Order.{entries_of}
use Rattle.route_shapes.specs.Shapes.{RouteShape, shape_after, shape_decided, shape_made, shape_route_taken}

-- the first of some entries, and those behind it
decided_first : (policies : Policies) (tracked : Tracked) (p : Prefix) (external : Bool) (s : RouteShape) (e : MapEntry)
    (es : List MapEntry)
    → shape_after policies tracked p external s e (shape_decided policies tracked p external s es)
    ≡ shape_decided policies tracked p external s (e ∷ es)
decided_first policies tracked p external s e es = by (shape_route_taken policies tracked p s e)
  where
    by : (b : Bool)
        → (if b then shape_made tracked external s e else shape_decided policies tracked p external s es)
        ≡ option_and_then (shape_made tracked external s)
        (if b then Some e else find (shape_route_taken policies tracked p s) es)
    by true = refl
    by false = refl

-- one entry more in front, by reference
pub decided_more : (policies : Policies) (tracked : Tracked) (p : Prefix) (external : Bool) (s : RouteShape)
    (refs : List (Bor MapEntry)) (i : ℕ) (r : Bor MapEntry) → 0 < i → i ≤ length refs → r ≡ get_or refs (i - 1) r
    → shape_after policies tracked p external s r.now
    (shape_decided policies tracked p external s (entries_of (drop i refs)))
    ≡ shape_decided policies tracked p external s (entries_of (drop (i - 1) refs))
decided_more policies tracked p external s refs i r above within here =
    let next : i - 1 + 1 ≡ i = omega arith in
    decided_first policies tracked p external s r.now (entries_of (drop i refs))
    ∙ ap (λ x. shape_decided policies tracked p external s (x.now ∷ entries_of (drop i refs))) here
    ∙ ap (λ j. shape_decided policies tracked p external s ((get_or refs (i - 1) r).now ∷ entries_of (drop j refs)))
    (sym next)
    ∙ sym (ap (λ l. shape_decided policies tracked p external s (entries_of l))
    (drop_more refs (i - 1) r (omega arith)))
