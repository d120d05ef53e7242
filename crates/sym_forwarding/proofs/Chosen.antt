-- Choices between forwardings, edge by edge.
use Rattle.std.proofs.Common.{◌≡◌, ℕ, ◌+◌, ◌<◌, max, Bool, true, false, ◌&&◌, ◌||◌, not, cond, List}
use Rattle.std.proofs.Common.{[], ◌∷◌, ◌++◌}
use Rattle.std.proofs.Common.{length, get_or, take, refl, sym, ap, subst, arith, eqb, ◌∙◌}
use Rattle.std.proofs.lemmas.Grind.{common_steps}
use Rattle.std.proofs.lemmas.List.{map-append, take_more}
use Rattle.std.proofs.lemmas.List.Folds.{list_any-append}
use Rattle.std.proofs.Math.Bool.{or-false}
use Rattle.term_store.specs.Terms.{Reading, at}
use Rattle.sym_forwarding.specs.declared.forwarding.SymEdge.{SymEdge}
use Rattle.sym_forwarding.specs.Choices.{AreJoined, IsChosen, sends}
use Rattle.sym_forwarding.specs.Forwardings.{sends_to}
use Rattle.sym_forwarding.specs.Layers.{Edge, Forwarding}
use Rattle.sym_forwarding.specs.Symbolic.{edge_of, edges_of, edges_end}
use Rattle.sym_forwarding.proofs.Tables.{edges_end_at}

-- an edge that never counts sends nowhere
pub never_joined : (first : List Edge) (e : Edge) → e.when ≡ false → AreJoined first true (e ∷ []) first
never_joined first e never router =
    sym (ap (λ b. sends first router || ((b && (sends_to router (record { when = true; to = e.to }))) || false)) never
    ∙ or-false (sends first router))

-- one more edge
pub edge_joined : (w : Reading) (out : List SymEdge) (e : SymEdge) →
    AreJoined (edges_of w out) true (edge_of w e ∷ []) (edges_of w (out ++ e ∷ []))
edge_joined w out e router =
    ap (λ es. sends es router) (map-append (edge_of w) out (e ∷ []))
    ∙ list_any-append (sends_to router) (edges_of w out) (edge_of w e ∷ [])

pub edges_end_push : (out : List SymEdge) (e : SymEdge) → edges_end (out ++ e ∷ []) ≡ max (edges_end out) (e.when.0 + 1)
edges_end_push [] e = omega arith
edges_end_push (x ∷ out) e = let rest = edges_end_push out e in omega arith

pub ruleset put_steps = (common_steps, never_joined, edge_joined, edges_end_push)

-- nothing is joined to the edges
pub none_joined : (first : List Edge) (c : Bool) → AreJoined first c [] first
none_joined first true router = sym (or-false (sends first router))
none_joined first false router = sym (or-false (sends first router))

-- one edge more under the condition
one_more : (a c x e t : Bool) → ((a || (c && x)) || (((c && e) && t) || false)) ≡ (a || (c && (x || ((e && t) ||
    false))))
one_more true c x e t = refl
one_more false true x e t = refl
one_more false false x e t = refl

joined_more : (first : List Edge) (c when : Bool) (e : Edge) (so_far between last : List Edge) → when ≡ (c && e.when) →
    AreJoined first c so_far between → AreJoined between true (record { when = when; to = e.to } ∷ []) last →
    AreJoined first c (so_far ++ e ∷ []) last
joined_more first c when e so_far between last is before step router =
    let to_it = eqb e.to router in
    step router
    ∙ ap (λ b. b || ((when && to_it) || false)) (before router)
    ∙ ap (λ b. (sends first router || (c && sends so_far router)) || ((b && to_it) || false)) is
    ∙ one_more (sends first router) c (sends so_far router) e.when to_it
    ∙ ap (λ b. sends first router || (c && b)) (sym (list_any-append (sends_to router) so_far (e ∷ [])))

pub joined_at : (w : Reading) (first : List Edge) (c when : Bool) (es : List SymEdge) (i : ℕ) (d : SymEdge)
    (between last : List Edge) → i < length es → when ≡ (c && at w (get_or es i d).when) →
    AreJoined first c (edges_of w (take i es)) between →
    AreJoined between true (record { when = when; to = (get_or es i d).to } ∷ []) last →
    AreJoined first c (edges_of w (take (i + 1) es)) last
joined_at w first c when es i d between last within is before step =
    let more : edges_of w (take (i + 1) es) ≡ edges_of w (take i es) ++ edge_of w (get_or es i d) ∷ [] =
    ap (edges_of w) (take_more es i d within) ∙ map-append (edge_of w) (take i es) (get_or es i d ∷ []) in
    let P : List Edge → Type 0 = λ xs. AreJoined first c xs last in
    subst P (sym more)
    (joined_more first c when (edge_of w (get_or es i d)) (edges_of w (take i es)) between last is before step)

pub ruleset guard_steps = (common_steps, edges_end_at, edges_end_push, none_joined)

-- the first edges under a condition, and the second ones under its opposite
pub chosen_joined : (c other : Bool) (a b f : Forwarding) (between : List Edge) → other ≡ not c →
    AreJoined [] c a.next between → AreJoined between other b.next f.next → f.ends ≡ cond c a.ends b.ends →
    IsChosen c a b f
chosen_joined c other a b f between is first second ends = record {
  goes = λ router.
      second router ∙ ap (λ x. x || (other && sends b.next router)) (first router)
      ∙ ap (λ x. (c && sends a.next router) || (x && sends b.next router)) is
      ∙ either c (sends a.next router) (sends b.next router);
  ends = ends;
} where
  either : (c x y : Bool) → ((c && x) || (not c && y)) ≡ cond c x y
  either true x y = or-false x
  either false x y = refl
