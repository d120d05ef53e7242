-- Bytes that a file begins with.
use Rattle.std.proofs.Common.{◌≡◌, ℕ, ◌+◌, ◌≤◌, List, ◌++◌, length, take, drop, arith}
use Rattle.std.proofs.lemmas.Grind.{common_steps}
use Rattle.std.proofs.Math.Seq.{take-add}

-- a file begins with the bytes so far and those that come behind them
pub front_more : (file old piece : List ℕ) (n : ℕ) → n ≤ length piece → take (length old) file ≡ old → take n piece
    ≡ take n (drop (length old) file) → take (length (old ++ take n piece)) file ≡ old ++ take n piece
front_more file old piece n within front next =
    let len : length (old ++ take n piece) ≡ length old + n = grind (arith, common_steps) in
    rw len (let split = take-add (length old) n file in cc)
