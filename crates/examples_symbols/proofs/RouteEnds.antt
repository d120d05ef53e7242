-- The ends of routes that are put together from their parts.
use Rattle.std.proofs.Common.{ℕ, ◌+◌, ◌≤◌, ◌<◌, max, arith}
use Rattle.sym_policy.specs.declared.records.SymMapRec.{SymMapRec}
use Rattle.sym_policy.specs.Held.{bgp_end}
use Rattle.sym_policy.specs.MapRecs.{map_rec_end}

-- both of two are at most that, where the greater is
pub both_within : (a b n : ℕ) → a ≤ n → b ≤ n → max a b ≤ n
both_within a b n one two = omega (arith, one, two)

pub left_within : (a b n : ℕ) → max a b ≤ n → a ≤ n
left_within a b n h = omega (arith, h)

pub right_within : (a b n : ℕ) → max a b ≤ n → b ≤ n
right_within a b n h = omega (arith, h)

-- a record that route maps see ends where its route and its type of metric do
pub map_within : (rec : SymMapRec) (n : ℕ) → bgp_end rec.bgp ≤ n → rec.type1.0 + 1 ≤ n → map_rec_end rec ≤ n
map_within rec n h type1 =
    let a = left_within _ _ _ h in
    let b = right_within _ _ _ h in
    let front = left_within _ _ _ a in
    let path = left_within _ _ _ b in
    let rest = right_within _ _ _ b in
    let lists = left_within _ _ _ rest in
    let peers = left_within _ _ _ (right_within _ _ _ rest) in
    let clusters = right_within _ _ _ (right_within _ _ _ rest) in
    both_within _ _ _ (left_within _ _ _ front)
    (both_within _ _ _
    (both_within _ _ _ (both_within _ _ _ (right_within _ _ _ front) (right_within _ _ _ a))
    (both_within _ _ _ path (both_within _ _ _ (left_within _ _ _ lists) type1)))
    (both_within _ _ _ (both_within _ _ _ (right_within _ _ _ lists) (left_within _ _ _ peers))
    (both_within _ _ _ (right_within _ _ _ peers) clusters)))
