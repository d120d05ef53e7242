-- Questions that are of how walks end, and where walks may end so.
use Rattle.std.specs.Prelude.{Bool, true, false}
use Rattle.question_lang.specs.declared.question.Kind.{Kind}
use Rattle.question_lang.specs.declared.question.Kind.TheVariants.{Reach, Isolate, Waypoint, NoLoop, NoBlackHole}
use Rattle.question_lang.specs.declared.question.Kind.TheVariants.{Within, Alike, NoStable}
use Rattle.sym_forwarding.specs.declared.forwarding.SymForwarding.{SymForwarding}
use Rattle.term_store.specs.Terms.{Reading, at}

-- a walk that ends somewhere breaks it, and none else does
abbrev pub wants_end : Kind → Bool
wants_end (Reach start target) = false
wants_end (Isolate start target) = true
wants_end (Waypoint start target via) = true
wants_end (NoLoop start) = false
wants_end (NoBlackHole start) = true
wants_end (Within most start) = false
wants_end (Alike a b target) = true
wants_end NoStable = false

-- a walk that comes there may end
abbrev pub may_end_read : Reading → SymForwarding → Bool
may_end_read w f = at w f.ends
