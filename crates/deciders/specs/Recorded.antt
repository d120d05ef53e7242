-- What a recorder has kept.
use Rattle.std.specs.Prelude.{ℕ, List, Option, Some, None, if◌then◌else◌, vec_capacity}
use Rattle.deciders.specs.declared.recorder.Recorder.{Recorder}

-- the bumps since `prepare`, while all of them fitted
abbrev pub bumps_told : Recorder → Option (List ℕ)
bumps_told recorder = if recorder.is_whole then Some recorder.bumps.items else None

-- how many bumps fit
abbrev pub room_of : Recorder → ℕ
room_of recorder = vec_capacity recorder.bumps
