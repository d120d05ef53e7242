-- Ends that a router gives by itself.
use Rattle.std.proofs.Common.{◌≡◌, ℕ, true, List}
use Rattle.std.specs.Prelude.{Contains}
use Rattle.question_lang.specs.declared.question.Start.{Start}
use Rattle.question_lang.specs.declared.walk.End.{End}
use Rattle.question_lang.specs.declared.walk.End.TheVariants.{Delivered, Left, NoRoute, Discarded, DeniedIn, DeniedOut}
use Rattle.question_lang.specs.declared.walk.End.TheVariants.{Loop, Open}
use Rattle.question_lang.specs.declared.walk.Hop.{Hop}
use Rattle.question_lang.specs.declared.walk.Hop.TheVariants.{Ends}
use Rattle.question_lang.specs.Walks.{MayEnd}
use Rattle.walk_def.specs.Marks.{is_end}

-- such an end is one of its hops
pub must_end : (hops : ℕ → List Hop) (before : List Start) (now : Start) (end : End) → is_end end ≡ true →
    MayEnd hops before now end → Contains (hops now.router) (Ends end)
must_end hops before now Delivered proper may = may
must_end hops before now (Left a) proper may = may
must_end hops before now NoRoute proper may = may
must_end hops before now Discarded proper may = may
must_end hops before now (DeniedIn i) proper may = may
must_end hops before now DeniedOut proper may = may
must_end hops before now Loop proper may = cc
must_end hops before now Open proper may = cc

pub may_end : (hops : ℕ → List Hop) (before : List Start) (now : Start) (end : End) → is_end end ≡ true →
    Contains (hops now.router) (Ends end) → MayEnd hops before now end
may_end hops before now Delivered proper has = has
may_end hops before now (Left a) proper has = has
may_end hops before now NoRoute proper has = has
may_end hops before now Discarded proper has = has
may_end hops before now (DeniedIn i) proper has = has
may_end hops before now DeniedOut proper has = has
may_end hops before now Loop proper has = cc
may_end hops before now Open proper has = cc
