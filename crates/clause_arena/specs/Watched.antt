-- The lists of watches.
use Rattle.std.specs.Prelude.{ℕ, ◌≡◌, ◌+◌, ◌-◌, ◌%◌, ◌==◌, ◌<◌, ◌≤◌, if◌then◌else◌, List, length, Option, Some, None}
use Rattle.clause_arena.specs.declared.names.Watch.{Watch}
use Rattle.clause_arena.specs.Links.{places, after, first}
use Rattle.mw_text.specs.Members.{In}
use Rattle.clause_arena.specs.Store.{Store}
use Rattle.clause_arena.specs.Held.{size_of, code_at}

-- the place of a watch's link
abbrev pub place : Watch → ℕ
place w = w.clause.0 + 2 + w.side

-- the place of a watch, 0 where there is none
abbrev pub place_or : Option Watch → ℕ
place_or None = 0
place_or (Some w) = place w

-- the code of the watch's literal
abbrev pub own : Store → Watch → ℕ
own a w = code_at a w.clause w.side

-- the watch stands in the list of the literal of this code
pub record Stands (a : Store) (n : ℕ) (w : Watch) : Type 0 where
  pub held : In w.clause.0 a.refs
  pub low : w.side < 2
  pub two : 2 ≤ size_of a w.clause
  pub code : own a w ≡ n
  pub listed : In (place w) (places a.words n)

-- the place that leads to what follows a watch, or to the list where there is none
abbrev pub link_of : Option Watch → ℕ → ℕ
link_of None n = n
link_of (Some w) n = place w

-- what follows a watch in the list of a code; the whole list for None
abbrev pub rest : Store → Option Watch → ℕ → List ℕ
rest a before n = after (link_of before n) n (places a.words n)

-- the first place of it, 0 where there is none
abbrev pub head : Store → Option Watch → ℕ → ℕ
head a before n = first (rest a before n)

-- how many follow
abbrev pub left : Store → Option Watch → ℕ → ℕ
left a before n = length (rest a before n)

-- the watch whose link stands at a place
abbrev pub watch_made : ℕ → Watch
watch_made p = record { clause = record { 0 = p - 2 - p % 2 }; side = p % 2 }

-- the same, none at 0
abbrev pub watch_at : ℕ → Option Watch
watch_at p = if p == 0 then None else Some (watch_made p)
