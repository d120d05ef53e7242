-- What a sink has taken, where it tells.
use Rattle.std.specs.Prelude.{ℕ, ◌≡◌, ◌+◌, ◌-◌, ◌<◌, min, List, [], ◌++◌, length, take, drop, Option, Some, None, IfSome}
use Rattle.std.specs.Prelude.{refl}
use Rattle.std.proofs.Common.{sym, ◌∙◌, ap, get_or, append_assoc, arith, take-append-drop, length-append}
use Rattle.std.specs.List.{flat_map}
use Rattle.std.proofs.lemmas.Grind.{common_steps, flat_map-append}
use Rattle.std.proofs.Math.Seq.{take-append-add, take-length}
use Rattle.std.proofs.lemmas.List.{take-append-le, take_min, append-nil, length-take}

-- Of bytes that were told before, so many more are told now.
abbrev pub grown : Option (List ℕ) → Option (List ℕ) → ℕ
grown (Some before) (Some now) = length now - length before
grown _ _ = 0

-- Where the bytes taken were told, all of these were appended, and that is told.
abbrev pub Takes : Option (List ℕ) → Option (List ℕ) → List ℕ → Type 0
Takes before now bytes = IfSome before (λ taken. now ≡ Some (taken ++ bytes))

-- Where the bytes taken were told, a front of these was appended: as many of them as were taken.
pub record TakesPart (before now : Option (List ℕ)) (bytes : List ℕ) : Type 0 where
  pub front : Takes before now (take (grown before now) bytes)

-- So many of these bytes were appended.
pub part_by_count : (before now : Option (List ℕ)) (bytes : List ℕ) (count : ℕ) → Takes before now (take count bytes)
    → TakesPart before now bytes
part_by_count None now bytes count front = record { front = tt }
part_by_count (Some taken) now bytes count front =
    let len : length (taken ++ take count bytes) - length taken
    ≡ min count (length bytes) = omega (arith, length-append taken (take count bytes), length-take count bytes) in
    record { front = rw (front, len, take_min count bytes) refl }

-- One write after another appends both pieces.
pub takes_more : (before middle now : Option (List ℕ)) (xs ys : List ℕ) → Takes before middle xs → Takes middle now ys
    → Takes before now (xs ++ ys)
takes_more None middle now xs ys first second = tt
takes_more (Some taken) middle now xs ys first second = rw first at second ∙ ap Some (append_assoc taken xs ys)

-- All of it is a front of it.
pub part_of_all : (before now : Option (List ℕ)) (xs : List ℕ) → Takes before now xs → TakesPart before now xs
part_of_all before now xs takes = part_by_count before now xs (length xs) (rw take-length takes)

-- Nothing is a front of it.
pub part_of_none : (taken : Option (List ℕ)) (xs : List ℕ) → TakesPart taken taken xs
part_of_none None xs = record { front = tt }
part_of_none (Some taken) xs = part_by_count (Some taken) (Some taken) xs 0 (ap Some (sym (append-nil taken)))

-- A front of a piece is a front of that piece and more.
pub part_stops : (before now : Option (List ℕ)) (xs ys : List ℕ) → TakesPart before now xs
    → TakesPart before now (xs ++ ys)
part_stops before now xs ys part =
    let count = min (grown before now) (length xs) in
    let same : take count (xs ++ ys)
    ≡ take (grown before now) xs = rw (take-append-le count xs ys (omega arith), take_min (grown before now) xs) refl in
    part_by_count before now (xs ++ ys) count (rw same part.front)

-- A piece and a front of the next are a front of both.
pub part_more : (before middle now : Option (List ℕ)) (xs ys : List ℕ) → Takes before middle xs
    → TakesPart middle now ys → TakesPart before now (xs ++ ys)
part_more before middle now xs ys takes part =
    let count = grown middle now in
    part_by_count before now (xs ++ ys) (length xs + count)
    (rw take-append-add (takes_more before middle now xs (take count ys) takes part.front))

-- The first lines are a front of all lines.
pub part_of_lines : {X : Type 0} (f : X → List ℕ) (before now : Option (List ℕ)) (lines : List X) (i : ℕ)
    → TakesPart before now (flat_map f (take i lines)) → TakesPart before now (flat_map f lines)
part_of_lines f before now lines i part =
    let whole : flat_map f (take i lines) ++ flat_map f (drop i lines)
    ≡ flat_map f lines = sym (flat_map-append f (take i lines) (drop i lines))
    ∙ ap (flat_map f) (take-append-drop i lines) in
    rw (← whole) (part_stops before now (flat_map f (take i lines)) (flat_map f (drop i lines)) part)

-- The first lines and a front of the next are a front of all lines.
pub part_in_lines : {X : Type 0} (f : X → List ℕ) (before middle now : Option (List ℕ)) (lines : List X) (i : ℕ)
    (d : X) → i < length lines → Takes before middle (flat_map f (take i lines))
    → TakesPart middle now (f (get_or lines i d)) → TakesPart before now (flat_map f lines)
part_in_lines f before middle now lines i d within takes part =
    let more : flat_map f (take (i + 1) lines) ≡ flat_map f (take i lines)
    ++ f (get_or lines i d) = grind (arith, common_steps) in
    part_of_lines f before now lines (i + 1)
    (rw more (part_more before middle now (flat_map f (take i lines)) (f (get_or lines i d)) takes part))

-- What leads from writes to the whole: for `#[tactic(auto, using(mw_outside::specs::Taken::parts))]` on a caller.
pub ruleset parts = (takes_more, part_of_all, part_of_none, part_stops, part_more, part_of_lines, part_in_lines)

-- No bytes.
pub takes_none : (taken : Option (List ℕ)) → Takes taken taken []
takes_none None = tt
takes_none (Some bytes) = ap Some (sym (append-nil bytes))
