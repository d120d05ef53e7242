-- Forwarding of a packet over edges to marked routers.
use Rattle.std.proofs.Common.{◌≡◌, ℕ, ◌<◌, Bool, true, List, [], ◌∷◌, length, inl, inr, Some, refl}
use Rattle.std.proofs.Common.{ap}
use Rattle.std.proofs.Common.{◌∙◌, eqb, eq-eqb}
use Rattle.std.specs.Prelude.{Contains, slice_get}
use Rattle.std.specs.List.{list_any}
use Rattle.std.proofs.lemmas.Bool.{and_from, and_parts, eqb-true, or_cases, or_left, or_right}
use Rattle.mw_text.proofs.Lists.{item_there}
use Rattle.question_lang.specs.declared.walk.End.{End}
use Rattle.question_lang.specs.declared.walk.Hop.{Hop}
use Rattle.question_lang.specs.declared.walk.Hop.TheVariants.{To}
use Rattle.net_interfaces.specs.declared.interfaces.IfaceId.{IfaceId}
use Rattle.walk_def.specs.Marks.{is_inside, known}
use Rattle.sym_forwarding.specs.Layers.{Edge, Forwarding, leads, sends_on}
use Rattle.sym_forwarding.specs.Forwardings.{IsForwarding, sends_to}
use Rattle.sym_forwarding.proofs.Marks.{Below}

-- an edge leads to some router that is marked
pub sent_somewhere : (marks : List Bool) (next : List Edge) → list_any (leads marks) next ≡ true →
    (router : ℕ) × (list_any (sends_to router) next ≡ true) × (known marks router ≡ true)
sent_somewhere marks [] h = cc
sent_somewhere marks (e ∷ rest) h =
    elim (or_cases (leads marks e) (list_any (leads marks) rest) h) [
      | inl here ↦ let parts = and_parts e.when (known marks e.to) here in (
        e.to,
        or_left (sends_to e.to e) (list_any (sends_to e.to) rest)
            (and_from e.when (eqb e.to e.to) parts.0 (eq-eqb e.to e.to refl)),
        parts.1,
      )
      | inr later ↦ let found = sent_somewhere marks rest later in
          (found.0, or_right (sends_to found.0 e) (list_any (sends_to found.0) rest) found.1, found.2)
    ]

pub sent_leads : (marks : List Bool) (router : ℕ) (next : List Edge) → list_any (sends_to router) next ≡ true →
    known marks router ≡ true → list_any (leads marks) next ≡ true
sent_leads marks router [] h marked = cc
sent_leads marks router (e ∷ rest) h marked =
    elim (or_cases (sends_to router e) (list_any (sends_to router) rest) h) [
      | inl here ↦ let parts = and_parts e.when (eqb e.to router) here in
          let same : e.to ≡ router = eqb-true e.to router parts.1 in
          or_left (leads marks e) (list_any (leads marks) rest)
          (and_from e.when (known marks e.to) parts.0 (ap (known marks) same ∙ marked))
      | inr later ↦ or_right (leads marks e) (list_any (leads marks) rest) (sent_leads marks router rest later marked)
    ]

-- with more marks it leads to a marked router too
pub sends_below : (xs ys : List Bool) → Below xs ys → (f : Forwarding) → sends_on xs f ≡ true → sends_on ys f ≡ true
sends_below xs ys below f h =
    let found = sent_somewhere xs f.next h in sent_leads ys found.0 f.next found.1 (below found.0 found.2)

-- a table that has the forwarding of each router, with these hops, where walks that end so are looked for
pub record Stands (hops : ℕ → List Hop) (Sought : ℕ → End → Type 0) (table : List Forwarding) : Type 0 where
  pub each : (router : ℕ) (f : Forwarding) → slice_get table router ≡ Some f →
      IsForwarding (hops router) (Sought router) f
  pub own : (router : ℕ) (hop : Hop) → Contains (hops router) hop → router < length table
  pub inside : (router : ℕ) (hop : Hop) → Contains (hops router) hop → is_inside (length table) hop ≡ true

-- a router that leads to one that is marked stands in the table, and sends on
pub leading : {Sought : ℕ → End → Type 0} (hops : ℕ → List Hop) (table : List Forwarding) → Stands hops Sought table →
    (marks : List Bool) (router : ℕ) (i : IfaceId) → Contains (hops router) (To i) → known marks i.router ≡ true →
    (f : Forwarding) × (slice_get table router ≡ Some f) × (sends_on marks f ≡ true)
leading hops table stands marks router i has marked =
    let there = item_there table router (stands.own router (To i) has) in
    let sent = (stands.each router there.0 there.1).all_sent i has in
    (there.0, there.1, sent_leads marks i.router there.0.next sent marked)

-- one that sends on has a hop to a router that is marked
pub led : {Sought : ℕ → End → Type 0} (hops : ℕ → List Hop) (table : List Forwarding) → Stands hops Sought table →
    (marks : List Bool) (router : ℕ) (f : Forwarding) → slice_get table router ≡ Some f → sends_on marks f ≡ true →
    (i : IfaceId) × Contains (hops router) (To i) × (known marks i.router ≡ true)
led hops table stands marks router f found h =
    let to = sent_somewhere marks f.next h in
    let hop = (stands.each router f found).sent to.0 to.1 in
    (record { router = to.0; at = hop.0 }, hop.1, to.2)
