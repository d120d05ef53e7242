use Rattle.std.proofs.Common.{◌+◌, ◌≤◌, length}
use Rattle.trimmed_logs.proofs.Logged.{IsLogged}
use Rattle.trimmed_logs.proofs.answer.trim_log.Given as goal

-- the sections so far were trimmed
abbrev pub invariant-loop-turn : goal.invariant-loop-turn
invariant-loop-turn l =
    IsLogged l.bytes l.rest l.text.items l.lines × (l._turn + length l.rest ≤ length l.bytes)
    × (l.lines + length l.rest ≤ length l.bytes)
