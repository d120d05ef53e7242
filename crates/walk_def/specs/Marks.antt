-- Marks on routers, hops that stay inside the network, and ends.
use Rattle.std.specs.Prelude.{ℕ, Bool, true, false, List, slice_get, unwrap_or, nat_lt}
use Rattle.question_lang.specs.declared.walk.End.{End}
use Rattle.question_lang.specs.declared.walk.End.TheVariants.{Delivered, Left, NoRoute, Discarded, DeniedIn, DeniedOut}
use Rattle.question_lang.specs.declared.walk.End.TheVariants.{Loop, Open}
use Rattle.question_lang.specs.declared.walk.Hop.{Hop}
use Rattle.question_lang.specs.declared.walk.Hop.TheVariants.{To, Ends}

-- an end that a router gives a packet by itself
abbrev pub is_end : End → Bool
is_end Delivered = true
is_end (Left a) = true
is_end NoRoute = true
is_end Discarded = true
is_end (DeniedIn i) = true
is_end DeniedOut = true
is_end Loop = false
is_end Open = false

-- the hop leads to a router below the bound, or ends so
abbrev pub is_inside : ℕ → Hop → Bool
is_inside bound (To i) = nat_lt i.router bound
is_inside bound (Ends end) = is_end end

abbrev pub is_delivered : End → Bool
is_delivered Delivered = true
is_delivered (Left a) = false
is_delivered NoRoute = false
is_delivered Discarded = false
is_delivered (DeniedIn i) = false
is_delivered DeniedOut = false
is_delivered Loop = false
is_delivered Open = false

-- the router is marked
abbrev pub known : List Bool → ℕ → Bool
known marks router = unwrap_or (slice_get marks router) false
