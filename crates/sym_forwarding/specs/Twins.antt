-- Forwardings that stand for lists of next hops.
use Rattle.std.specs.Prelude.{◌≡◌, ℕ, ◌==◌, ◌&&◌, not, Bool, true, false, List}
use Rattle.std.specs.List.{list_any}
use Rattle.question_lang.specs.declared.question.Kind.{Kind}
use Rattle.question_lang.specs.declared.question.Kind.TheVariants.{Reach, Isolate, Waypoint, NoLoop, NoBlackHole}
use Rattle.question_lang.specs.declared.question.Kind.TheVariants.{Within, Alike, NoStable}
use Rattle.question_lang.specs.declared.question.Target.{Target}
use Rattle.question_lang.specs.declared.question.Target.TheVariants.{Router, Subnet, Peer}
use Rattle.question_lang.specs.declared.walk.End.{End}
use Rattle.question_lang.specs.declared.walk.End.TheVariants.{Delivered, Left, NoRoute, Discarded, DeniedIn, DeniedOut}
use Rattle.question_lang.specs.declared.walk.End.TheVariants.{Loop, Open}
use Rattle.question_lang.specs.declared.walk.Hop.{Hop}
use Rattle.question_lang.specs.declared.walk.Hop.TheVariants.{To, Ends}
use Rattle.walk_def.specs.Marks.{is_delivered}
use Rattle.sym_forwarding.specs.Layers.{Forwarding}
use Rattle.sym_forwarding.specs.Forwardings.{sends_to}

-- the end is one out of the network to that number
abbrev pub leaves_to : ℕ → End → Bool
leaves_to a Delivered = false
leaves_to a (Left b) = b.0 == a
leaves_to a NoRoute = false
leaves_to a Discarded = false
leaves_to a (DeniedIn i) = false
leaves_to a DeniedOut = false
leaves_to a Loop = false
leaves_to a Open = false

-- the end is how walks to the target end
abbrev pub is_target_end : Target → End → Bool
is_target_end (Router router) end = is_delivered end
is_target_end (Subnet p) end = is_delivered end
is_target_end (Peer router a) end = leaves_to a.0 end

-- the packet is lost
abbrev pub is_lost : End → Bool
is_lost Delivered = false
is_lost (Left b) = false
is_lost NoRoute = true
is_lost Discarded = true
is_lost (DeniedIn i) = false
is_lost DeniedOut = false
is_lost Loop = false
is_lost Open = false

-- the question looks for this end, at a router that is, or is not, one where walks to its target end
abbrev pub is_sought : Kind → Bool → End → Bool
is_sought (Reach start target) here end = not (here && is_target_end target end)
is_sought (Isolate start target) here end = here && is_target_end target end
is_sought (Waypoint start target via) here end = here && is_target_end target end
is_sought (NoLoop start) here end = false
is_sought (NoBlackHole start) here end = is_lost end
is_sought (Within most start) here end = false
is_sought (Alike a b target) here end = here && is_target_end target end
is_sought NoStable here end = false

abbrev pub leads_to : ℕ → Hop → Bool
leads_to router (To i) = i.router == router
leads_to router (Ends end) = false

abbrev pub ends_as : (End → Bool) → Hop → Bool
ends_as sought (To i) = false
ends_as sought (Ends end) = sought end

-- the forwarding sends and ends as these hops do
pub record IsTwin (sought : End → Bool) (hops : List Hop) (f : Forwarding) : Type 0 where
  pub sends : (router : ℕ) → list_any (sends_to router) f.next ≡ list_any (leads_to router) hops
  pub ends : f.ends ≡ list_any (ends_as sought) hops
