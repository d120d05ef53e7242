-- What a router of the machine may hold by what it last received.
use Rattle.std.specs.Prelude.{ℕ, List, Option}
use Rattle.mw_text.specs.declared.address.Prefix.{Prefix}
use Rattle.ios_ast.specs.declared.file.File.{File}
use Rattle.net_parts.specs.declared.sessions.SessionEnd.{SessionEnd}
use Rattle.net_parts.specs.Decisions.{Candidate, learnt_candidate}
use Rattle.machine_laws.specs.declared.state.State.{State}
use Rattle.machine_laws.specs.Channels.{heard}

-- what was last received over the session of the end at a place, as a candidate
abbrev pub heard_candidate : List File → State → Prefix → ℕ × SessionEnd → Option Candidate
heard_candidate files s p over =
    learnt_candidate files s.failures s.environment.ids p over.0 over.1 (heard s.sessions over.0 p.len)
