-- One of two forwardings, by a condition.
use Rattle.std.specs.Prelude.{◌≡◌, ℕ, ◌&&◌, ◌||◌, if◌then◌else◌, Bool, List}
use Rattle.std.specs.List.{list_any}
use Rattle.sym_forwarding.specs.Forwardings.{sends_to}
use Rattle.sym_forwarding.specs.Layers.{Edge, Forwarding}

-- some of the edges sends the packet to that router
abbrev pub sends : List Edge → ℕ → Bool
sends es router = list_any (sends_to router) es

-- the edges send where the first ones do, and where the second ones do under the condition
abbrev pub AreJoined : List Edge → Bool → List Edge → List Edge → Type 0
AreJoined first c second es = (router : ℕ) → sends es router ≡ (sends first router || (c && sends second router))

-- the forwarding sends and ends as the first one under the condition, and else as the second one
pub record IsChosen (c : Bool) (a b f : Forwarding) : Type 0 where
  pub goes : (router : ℕ) → sends f.next router ≡ (if c then sends a.next router else sends b.next router)
  pub ends : f.ends ≡ (if c then a.ends else b.ends)

-- the forwarding sends and ends as the first one does, and under the condition as the second one does too
pub record IsUnion (c : Bool) (a b f : Forwarding) : Type 0 where
  pub goes : AreJoined a.next c b.next f.next
  pub ends : f.ends ≡ (a.ends || (c && b.ends))
