-- Shapes of announcements that stand by external end and then by prefix length are in the order of an environment.
use Rattle.std.proofs.Common.{◌≡◌, ℕ, ◌+◌, ◌≤◌, Bool, true, false, List, [], ◌∷◌, ◌++◌, Option, Some, None, take, drop}
use Rattle.std.proofs.Common.{inl, inr, refl, sym, arith, option_map, if◌then◌else◌}
use Rattle.std.specs.Prelude.{All, AllPairs}
use Rattle.std.specs.List.{enumerate_from, filter_map}
use Rattle.std.proofs.lemmas.List.Elements.{All-append, All-cons, All-nil, All-weaker}
use Rattle.std.proofs.lemmas.List.Kept.{AllPairs-cons}
use Rattle.net_interfaces.proofs.Pairs.{pairs_joined}
use Rattle.route_record.specs.declared.TheConstants.{LENGTHS}
use Rattle.route_record.specs.declared.tracked.Tracked.{Tracked}
use Rattle.net_parts.specs.declared.sessions.SessionEnd.{SessionEnd}
use Rattle.net_parts.specs.Sessions.{is_outside}
use Rattle.bgp_shapes.specs.Candidates.{ShapeAnnouncement}
use Rattle.announced_shapes.specs.Environments.{IsEarlierShape}
use Rattle.path_rebuild.specs.declared.ShapeRec.{ShapeRec}
use Rattle.path_rebuild.specs.Environments.{of_end, of_ends}
use Rattle.path_rebuild.specs.Shapes.{announcement_of}

-- the shapes of one end, from a length on
abbrev from_len : Tracked → ℕ → ℕ → List (Option ShapeRec) → List ShapeAnnouncement
from_len tracked end n shapes =
    filter_map (λ e. option_map (announcement_of tracked end e.0) e.1) (enumerate_from n shapes)

abbrev IsFrom : ℕ → ℕ → ShapeAnnouncement → Type 0
IsFrom end n a = (a.end ≡ end) × (n ≤ a.len)

further : (end n : ℕ) (a : ShapeAnnouncement) → IsFrom end (n + 1) a → IsFrom end n a
further end n a is = let above = is.1 in (is.0, omega (arith, above))

all_from : (tracked : Tracked) (end n : ℕ) (shapes : List (Option ShapeRec)) →
    All (IsFrom end n) (from_len tracked end n shapes)
all_from tracked end n [] = All-nil (IsFrom end n)
all_from tracked end n (None ∷ rest) =
    All-weaker (IsFrom end (n + 1)) (IsFrom end n) (further end n) (from_len tracked end (n + 1) rest)
    (all_from tracked end (n + 1) rest)
all_from tracked end n (Some s ∷ rest) =
    All-cons (IsFrom end n) (announcement_of tracked end n s) (from_len tracked end (n + 1) rest)
    (refl, omega arith)
    (All-weaker (IsFrom end (n + 1)) (IsFrom end n) (further end n) (from_len tracked end (n + 1) rest)
    (all_from tracked end (n + 1) rest))

one_end : (tracked : Tracked) (end n : ℕ) (shapes : List (Option ShapeRec)) →
    AllPairs IsEarlierShape (from_len tracked end n shapes)
one_end tracked end n [] = λ i j d below within. absurd (omega (arith, within))
one_end tracked end n (None ∷ rest) = one_end tracked end (n + 1) rest
one_end tracked end n (Some s ∷ rest) =
    AllPairs-cons IsEarlierShape (announcement_of tracked end n s) (from_len tracked end (n + 1) rest)
    (All-weaker (IsFrom end (n + 1)) (IsEarlierShape (announcement_of tracked end n s)) earlier
    (from_len tracked end (n + 1) rest) (all_from tracked end (n + 1) rest))
    (one_end tracked end (n + 1) rest)
  where
    earlier : (a : ShapeAnnouncement) → IsFrom end (n + 1) a → IsEarlierShape (announcement_of tracked end n s) a
    earlier a is = let above = is.1 in inr (sym is.0, omega (arith, above))

-- ---- all ends, from a place on

abbrev IsAfter : ℕ → ShapeAnnouncement → Type 0
IsAfter at a = at ≤ a.end

weaker : (at : ℕ) (xs : List ShapeAnnouncement) → All (IsAfter (at + 1)) xs → All (IsAfter at) xs
weaker at xs all = All-weaker (IsAfter (at + 1)) (IsAfter at) (λ a above. omega (arith, above)) xs all

all_after : (tracked : Tracked) (at : ℕ) (ends : List SessionEnd) (shapes : List (Option ShapeRec)) →
    All (IsAfter at) (of_ends tracked (enumerate_from at ends) shapes)
all_after tracked at [] shapes = All-nil (IsAfter at)
all_after tracked at (end ∷ rest) shapes =
    by (is_outside end.far) (all_after tracked (at + 1) rest shapes)
    (all_after tracked (at + 1) rest (drop LENGTHS shapes))
  where
    by : (b : Bool) → All (IsAfter (at + 1)) (of_ends tracked (enumerate_from (at + 1) rest) shapes) →
        All (IsAfter (at + 1)) (of_ends tracked (enumerate_from (at + 1) rest) (drop LENGTHS shapes)) →
        All (IsAfter at) (if b then of_end tracked at (take LENGTHS shapes)
        ++ of_ends tracked (enumerate_from (at + 1) rest) (drop LENGTHS shapes)
        else of_ends tracked (enumerate_from (at + 1) rest) shapes)
    by true one two =
        All-append (IsAfter at) (of_end tracked at (take LENGTHS shapes))
        (of_ends tracked (enumerate_from (at + 1) rest) (drop LENGTHS shapes))
        (All-weaker (IsFrom at 0) (IsAfter at) (λ a is. let here = is.0 in omega (arith, here))
        (of_end tracked at (take LENGTHS shapes)) (all_from tracked at 0 (take LENGTHS shapes)))
        (weaker at (of_ends tracked (enumerate_from (at + 1) rest) (drop LENGTHS shapes)) two)
    by false one two = weaker at (of_ends tracked (enumerate_from (at + 1) rest) shapes) one

pub in_order : (tracked : Tracked) (at : ℕ) (ends : List SessionEnd) (shapes : List (Option ShapeRec)) →
    AllPairs IsEarlierShape (of_ends tracked (enumerate_from at ends) shapes)
in_order tracked at [] shapes = λ i j d below within. absurd (omega (arith, within))
in_order tracked at (end ∷ rest) shapes =
    by (is_outside end.far) (in_order tracked (at + 1) rest shapes)
    (in_order tracked (at + 1) rest (drop LENGTHS shapes))
  where
    earlier : (a : ShapeAnnouncement) → IsFrom at 0 a →
        All (IsEarlierShape a) (of_ends tracked (enumerate_from (at + 1) rest) (drop LENGTHS shapes))
    earlier a is =
        let here = is.0 in
        All-weaker (IsAfter (at + 1)) (IsEarlierShape a) (λ b above. inl (omega (arith, here, above)))
        (of_ends tracked (enumerate_from (at + 1) rest) (drop LENGTHS shapes))
        (all_after tracked (at + 1) rest (drop LENGTHS shapes))

    by : (b : Bool) → AllPairs IsEarlierShape (of_ends tracked (enumerate_from (at + 1) rest) shapes) →
        AllPairs IsEarlierShape (of_ends tracked (enumerate_from (at + 1) rest) (drop LENGTHS shapes)) →
        AllPairs IsEarlierShape (if b then of_end tracked at (take LENGTHS shapes)
        ++ of_ends tracked (enumerate_from (at + 1) rest) (drop LENGTHS shapes)
        else of_ends tracked (enumerate_from (at + 1) rest) shapes)
    by true one two =
        pairs_joined IsEarlierShape (of_end tracked at (take LENGTHS shapes))
        (of_ends tracked (enumerate_from (at + 1) rest) (drop LENGTHS shapes))
        (one_end tracked at 0 (take LENGTHS shapes)) two
        (All-weaker (IsFrom at 0)
        (λ x. All (IsEarlierShape x) (of_ends tracked (enumerate_from (at + 1) rest) (drop LENGTHS shapes))) earlier
        (of_end tracked at (take LENGTHS shapes)) (all_from tracked at 0 (take LENGTHS shapes)))
    by false one two = one
