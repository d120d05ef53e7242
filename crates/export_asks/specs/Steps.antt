-- One step of a trace.
use Rattle.std.specs.Prelude.{ℕ, Option}
use Rattle.export_asks.specs.declared.ask.AskPeer.{AskPeer}
use Rattle.export_asks.specs.declared.tracing.Next.{Next}
use Rattle.export_asks.specs.declared.tracing.Next.TheVariants.{Ends, Goes}

-- where it ends, or what the trace of the next router is
abbrev pub after : (ℕ → Option AskPeer) → Next → Option AskPeer
after next (Ends peer) = peer
after next (Goes router) = next router
