-- The numbers of rooms fit the fields of a route.
use Rattle.std.proofs.Common.{◌≡◌, ℕ, zero, suc, ◌+◌, ◌-◌, ◌^◌, ◌<◌, ◌≤◌, Bool, true, false, List, [], ◌∷◌, ◌++◌, length, map}
use Rattle.std.proofs.Common.{max, Option, Some, None, sym, ap, subst, arith, ◌∙◌, nat_lt, fold}
use Rattle.std.specs.Prelude.{All, IfSome, nat_le, ◌==◌, if◌then◌else◌}
use Rattle.std.proofs.lemmas.Bool.{false≢true, lt-ltb}
use Rattle.std.proofs.lemmas.List.Elements.{All-cons, All-head, All-nil, All-push, All-tail}
use Rattle.mw_text.proofs.Lists.{all_found}
use Rattle.mw_text.specs.declared.address.Prefix.{Prefix}
use Rattle.ios_ast.specs.Deciding.{carries}
use Rattle.ios_ast.specs.declared.file.File.{File}
use Rattle.route_record.specs.declared.OspfKind.{OspfKind}
use Rattle.route_record.specs.declared.OspfKind.TheVariants.{Internal, Ext1, Ext2}
use Rattle.route_record.specs.declared.OspfRec.{OspfRec}
use Rattle.route_record.specs.declared.TheConstants.{LENGTHS}
use Rattle.net_parts.specs.OspfRoutes.{kind_rank}
use Rattle.slot_places.specs.declared.fields.Field.{Field}
use Rattle.slot_places.specs.declared.fields.Field.TheVariants.{Bits, Among, Addresses}
use Rattle.slot_places.specs.declared.fields.TheConstants.{MOST_VALUES}
use Rattle.slot_places.specs.declared.rooms.Room.{Room}
use Rattle.slot_places.specs.Origins.{origins_at}
use Rattle.slot_places.specs.Rooms.{dearest_of, dearest_walk, room_among, room_around, room_at, room_for, room_of}
use Rattle.slot_places.specs.Rooms.{rooms_of, runs_ospf}
use Rattle.slot_places.specs.Values.{field_of, field_width, greatest, once, put_once, width_for, width_from}
use Rattle.slot_places.proofs.RoomSteps.{room_below, room_there}
use Rattle.slot_places.proofs.Widths.{few}
use Rattle.world_variables.specs.Unknowns.{HasWords, IsNarrow, TellsWithin}

-- ---- what is true of some numbers is true of each once

put_all : (P : ℕ → Type 0) (values : List ℕ) (n : ℕ) → All P values → P n → All P (put_once values n)
put_all P values n all here = by (carries values n) where
  by : (b : Bool) → All P (if b then values else values ++ n ∷ [])
  by true = all
  by false = All-push P values n all here

folded_all : (P : ℕ → Type 0) (numbers values : List ℕ) → All P numbers → All P values →
    All P (fold put_once values numbers)
folded_all P [] values all before = before
folded_all P (n ∷ numbers) values all before =
    folded_all P numbers (put_once values n) (All-tail P n numbers all)
    (put_all P values n before (All-head P n numbers all))

once_all : (P : ℕ → Type 0) (numbers : List ℕ) → All P numbers → All P (once numbers)
once_all P numbers all = folded_all P numbers [] all (All-nil P)

greatest_below : (values : List ℕ) (most bound : ℕ) → most < bound → All (λ n. n < bound) values →
    fold max most values < bound
greatest_below [] most bound less all = less
greatest_below (n ∷ values) most bound less all =
    let here : n < bound = All-head (λ m. m < bound) n values all in
    let first : max most n < bound = omega (arith, here, less) in
    greatest_below values (max most n) bound first (All-tail (λ m. m < bound) n values all)

-- ---- widths

-- a number of few bits has a width of no more
width_small : (n width k total : ℕ) → n < 2 ^ (width + k) → width_from n width total ≤ width + k
unfolding width_from
width_small n width k zero less = omega arith
width_small n width zero (suc total) less =
    by (nat_lt n (2 ^ width)) (lt-ltb n (2 ^ width) (subst (λ w. n < 2 ^ w) (omega arith) less))
  where
    by : (b : Bool) → b ≡ true → (if b then width else width_from n (suc width) total) ≤ width + 0
    by true is = omega arith
    by false is = absurd (false≢true is)
width_small n width (suc k) (suc total) less =
    by (nat_lt n (2 ^ width)) (width_small n (suc width) k total (subst (λ w. n < 2 ^ w) (omega arith) less))
  where
    by : (b : Bool) → width_from n (suc width) total ≤ suc width + k →
        (if b then width else width_from n (suc width) total) ≤ width + suc k
    by true rest = omega arith
    by false rest = omega (arith, rest)

width_few : (n : ℕ) → width_for n ≤ 32
width_few n = let below = few n 0 32 (omega arith) in omega (arith, below)

-- ---- fields

field_cases : (P : Field → Type 0) (values : List ℕ) → P (Among values) → P (Bits (width_for (greatest values))) →
    P (field_of values)
unfolding field_of
field_cases P values among bits = by (nat_le (length values) MOST_VALUES) where
  by : (b : Bool) → P (if b then Among values else Bits (width_for (greatest values)))
  by true = among
  by false = bits

small_ranks : (origins : List OspfRec) → All (λ n. n < 2 ^ 2) (map (λ r. kind_rank r.kind) origins)
small_ranks [] = All-nil (λ n. n < 2 ^ 2)
small_ranks (r ∷ origins) =
    All-cons (λ n. n < 2 ^ 2) (kind_rank r.kind) (map (λ o. kind_rank o.kind) origins) (by r.kind) (small_ranks origins)
  where
    by : (kind : OspfKind) → kind_rank kind < 2 ^ 2
    by Internal = omega arith
    by Ext1 = omega arith
    by Ext2 = omega arith

kind_narrow : (origins : List OspfRec) → TellsWithin 2 (field_of (once (map (λ r. kind_rank r.kind) origins)))
kind_narrow origins =
    let kinds = once (map (λ (r : OspfRec). kind_rank r.kind) origins) in
    let small = once_all (λ n. n < 2 ^ 2) (map (λ (r : OspfRec). kind_rank r.kind) origins) (small_ranks origins) in
    field_cases (TellsWithin 2) kinds small
    (width_small (greatest kinds) 0 2 32 (greatest_below kinds 0 (2 ^ 2) (omega arith) small))

metric_narrow : (metrics : List ℕ) → HasWords (field_of metrics) → TellsWithin 32 (field_of metrics)
metric_narrow metrics = field_cases (λ field. HasWords field → TellsWithin 32 field) metrics (λ words. words)
    (λ words. width_few (greatest metrics))

-- a field that tells few numbers has few variables
pub few_bits : (bits : ℕ) (field : Field) → bits ≤ 32 → TellsWithin bits field → field_width field ≤ 32
few_bits bits (Bits width) small narrow = omega (arith, narrow, small)
few_bits bits (Among values) small narrow = width_few (length values - 1)
few_bits bits (Addresses addresses) small narrow = width_few (length addresses)

-- ---- rooms

around_narrow : (origins : List OspfRec) (walk : ℕ) → HasWords (room_around origins walk).metric →
    IsNarrow (room_around origins walk)
around_narrow origins walk words = record {
  kind = kind_narrow origins;
  metric = metric_narrow (once (map (λ (r : OspfRec). r.metric) origins)) words;
  cost = width_few (dearest_of origins + walk);
}

of_narrow : (origins : List OspfRec) (walk : ℕ) → IfSome (room_of origins walk) (λ r. HasWords r.metric) →
    IfSome (room_of origins walk) IsNarrow
of_narrow origins walk = by (length origins == 0) where
  by : (b : Bool) → IfSome (if b then None else Some (room_around origins walk)) (λ r. HasWords r.metric) →
      IfSome (if b then None else Some (room_around origins walk)) IsNarrow
  by true words = tt
  by false words = around_narrow origins walk words

at_narrow : (files : List File) (destinations : Prefix) (len : ℕ) →
    IfSome (room_at files destinations len) (λ r. HasWords r.metric) → IfSome (room_at files destinations len) IsNarrow
unfolding room_at
at_narrow files destinations len words = of_narrow (origins_at files destinations len) (dearest_walk files) words

-- the room of each place is narrow where the metrics are those of 32 bits
pub for_narrow : (files : List File) (destinations : Prefix) (router len : ℕ) →
    All (λ o. IfSome o (λ r. HasWords r.metric)) (rooms_of files destinations) → len < LENGTHS →
    IfSome (room_for files destinations router len) IsNarrow
for_narrow files destinations router len words short = by (runs_ospf files router) where
  here : IfSome (room_at files destinations len) IsNarrow
  here = at_narrow files destinations len (all_found (λ (o : Option Room). IfSome o (λ r. HasWords r.metric))
      (rooms_of files destinations) len (room_at files destinations len) words
      (room_below files destinations LENGTHS len short))

  by : (b : Bool) → IfSome (if b then room_at files destinations len else None) IsNarrow
  by true = here
  by false = tt

pub narrow_there : (files : List File) (destinations : Prefix) (rooms : List (Option Room)) (router len : ℕ) →
    rooms ≡ rooms_of files destinations → All (λ o. IfSome o (λ r. HasWords r.metric)) rooms → len < LENGTHS →
    (room_among files rooms router len ≡ room_for files destinations router len)
    × IfSome (room_among files rooms router len) IsNarrow
narrow_there files destinations rooms router len is words short =
    let same : room_among files rooms router len ≡ room_for files destinations router len =
    ap (λ all. room_among files all router len) is ∙ room_there files destinations router len short in (
      same,
      subst (λ o. IfSome o IsNarrow) (sym same) (for_narrow files destinations router len
          (subst (λ all. All (λ (o : Option Room). IfSome o (λ r. HasWords r.metric)) all) is words) short),
    )
