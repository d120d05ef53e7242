-- Whether a walk breaks a question, by layers: from which routers a walk of one hop more ends so, or goes on.
use Rattle.std.specs.Prelude.{ℕ, zero, suc, ◌+◌, ◌&&◌, ◌||◌, not, Bool, true, false, List, [], length}
use Rattle.std.specs.Prelude.{map, set}
use Rattle.std.specs.List.{list_any}
use Rattle.question_lang.specs.declared.question.Kind.{Kind}
use Rattle.question_lang.specs.declared.question.Kind.TheVariants.{Reach, Isolate, Waypoint, NoLoop, NoBlackHole}
use Rattle.question_lang.specs.declared.question.Kind.TheVariants.{Within, Alike, NoStable}
use Rattle.walk_def.specs.Marks.{known}

-- a router to which another may send the packet, and whether it does
pub record Edge : Type 0 where
  pub when : Bool
  pub to : ℕ

-- what a router does with the packet: where it may send it, and whether a walk may end there as the question asks
pub record Forwarding : Type 0 where
  pub next : List Edge
  pub ends : Bool

-- a router that does nothing with the packet
abbrev pub silent : Forwarding
silent = record { next = []; ends = false }

-- it sends the packet to a router that is marked
abbrev pub leads : List Bool → Edge → Bool
leads marks e = e.when && known marks e.to

abbrev pub sends_on : List Bool → Forwarding → Bool
sends_on marks f = list_any (leads marks) f.next

-- it does, or a walk may end there
abbrev pub ends_or_sends : List Bool → Forwarding → Bool
ends_or_sends marks f = f.ends || sends_on marks f

-- for each router, whether a walk from there has that many hops
unfoldable pub going : List Forwarding → ℕ → List Bool
going table zero = map (λ f. true) table
going table (suc hops) = map (sends_on (going table hops)) table

-- and whether one with at most that many hops ends as the question asks
unfoldable pub arriving : List Forwarding → ℕ → List Bool
arriving table zero = map (λ f. f.ends) table
arriving table (suc hops) = map (ends_or_sends (arriving table hops)) table

-- a walk from the router ends so
abbrev pub arrives : List Forwarding → ℕ → Bool
arrives table router = known (arriving table (length table)) router

-- one comes back to a router: it has as many hops as there are routers
abbrev pub loops : List Forwarding → ℕ → Bool
loops table router = known (going table (length table)) router

-- what is known of the start of a walk: a walk may begin there, or the list of the interface denies the packet
pub record Beginning : Type 0 where
  pub begins : Bool
  pub denied : Bool

-- whether a walk breaks the question
abbrev pub is_broken : Kind → Beginning → List Forwarding → Bool
is_broken (Reach start target) at table =
    at.denied || (at.begins && (arrives table start.router || loops table start.router))
is_broken (Isolate start target) at table = at.begins && arrives table start.router
is_broken (Waypoint start target via) at table = at.begins && arrives (set table via silent) start.router
is_broken (NoLoop start) at table = at.begins && loops table start.router
is_broken (NoBlackHole start) at table = at.begins && arrives table start.router
is_broken (Within most start) at table = at.begins && known (going table (most + 1)) start.router
is_broken (Alike a b target) at table =
    (arrives table a && not (arrives table b)) || (arrives table b && not (arrives table a))
is_broken NoStable at table = true
