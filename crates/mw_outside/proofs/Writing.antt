-- From what a writer of std holds to what a sink has taken.
use Rattle.std.proofs.Common.{◌≡◌, ℕ, ◌+◌, List, [], length, take, drop, Option, Some, None, sym, ap, ◌∙◌, append-nil}
use Rattle.std.proofs.Common.{slice_range, arith}
use Rattle.std.proofs.lemmas.Grind.{common_steps}
use Rattle.std.proofs.Math.Seq.{take-add}
use Rattle.std.specs.Io.KnownBytes.{Keeps, Appends}
use Rattle.mw_outside.specs.Taken.{Takes, TakesPart, takes_more, part_by_count, part_of_none}

-- what a writer appended was taken
pub takes_appended : (before now : Option (List ℕ)) (bytes : List ℕ) → Appends before now bytes → Takes before now bytes
takes_appended None now bytes appends = tt
takes_appended (Some taken) None bytes appends = absurd appends
takes_appended (Some taken) (Some more) bytes appends = ap Some appends

-- where a writer kept what it holds, nothing was taken
pub takes_kept : (before now : Option (List ℕ)) → Keeps before now → Takes before now []
takes_kept None now keeps = tt
takes_kept (Some taken) None keeps = absurd keeps
takes_kept (Some taken) (Some same) keeps = ap Some (keeps ∙ sym (append-nil taken))

-- so many bytes of a piece were taken, and then so many of the rest
pub takes_next : (before middle now : Option (List ℕ)) (bytes : List ℕ) (n m : ℕ) → Takes before middle (take n bytes)
    → Takes middle now (take m (slice_range bytes n (length bytes))) → Takes before now (take (n + m) bytes)
takes_next before middle now bytes n m first second =
    let rest : slice_range bytes n (length bytes) ≡ drop n bytes = grind (arith, common_steps) in
    rw (take-add n m bytes)
    (takes_more before middle now (take n bytes) (take m (drop n bytes)) first (rw rest at second))

pub ruleset writing = (takes_appended, takes_kept, takes_next, part_by_count, part_of_none)
