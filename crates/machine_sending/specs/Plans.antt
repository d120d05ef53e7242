-- Changes of all channels that are planned, and what they lead to.
use Rattle.std.specs.Prelude.{◌≡◌, ◌&&◌, ⊤, ℕ, All, Bool, List, length, MatchOption, Option, Some, None}
use Rattle.mw_text.specs.declared.address.Addr.{Addr}
use Rattle.ios_ast.specs.declared.file.File.{File}
use Rattle.route_record.specs.declared.BgpMsg.{BgpMsg}
use Rattle.route_record.specs.declared.Failures.{Failures}
use Rattle.route_record.specs.declared.OspfRec.{OspfRec}
use Rattle.net_parts.specs.Ospf.{adjacencies}
use Rattle.net_parts.specs.Sessions.{ends_of}
use Rattle.machine_laws.specs.declared.state.Channel.{Channel}
use Rattle.machine_laws.specs.declared.state.State.{State}
use Rattle.machine_laws.specs.Channels.{all_renewed, published}
use Rattle.machine_laws.specs.Sending.{adjacency_up_at, arriving_at, comes_from, offered_at, offers_from, session_up_at}
use Rattle.machine_channels.specs.declared.channels.Change.{Change}
use Rattle.machine_channels.specs.Changes.{IsSmall, IsSmallChange, all_changed}

-- the channels after changes, if any are planned
abbrev pub changed_if : {M : Type 0} → List (Channel M) → Option (List (Change M)) → List (Channel M)
changed_if channels None = channels
changed_if channels (Some changes) = all_changed channels changes

-- a change for each channel, all of which can be made without memory
pub record AreReady {M : Type 0} (channels : List (Channel M)) (changes : List (Change M)) : Type 0 where
  pub room : All IsSmall channels
  pub small : All IsSmallChange changes
  pub as_many : length changes ≡ length channels

abbrev pub IsReady : {M : Type 0} → List (Channel M) → Option (List (Change M)) → Type 0
IsReady channels plan = MatchOption plan ⊤ (AreReady channels)

-- such changes, which lead from the one channels to the others
pub record LeadsTo {M : Type 0} (channels after : List (Channel M)) (plan : Option (List (Change M))) : Type 0 where
  pub ready : IsReady channels plan
  pub makes : changed_if channels plan ≡ after

-- a channel for each session end and each adjacency
pub record HasChannels (files : List File) (s : State) : Type 0 where
  pub sessions : length s.sessions ≡ length (ends_of files)
  pub adjacencies : length s.adjacencies ≡ length (adjacencies files)

-- ---- what a slot that was written sends

abbrev pub sessions_told : List File → Addr → State → ℕ → ℕ → Bool → List (Channel BgpMsg)
sessions_told files d s router len changed =
    published (λ at. changed && comes_from files router at) (session_up_at files s.failures)
    (arriving_at files d s.environment s.tables) len s.sessions

abbrev pub adjacencies_told : List File → Addr → State → ℕ → ℕ → Bool → List (Channel OspfRec)
adjacencies_told files d s router len changed =
    published (λ at. changed && offers_from files router at) (adjacency_up_at files s.failures)
    (offered_at files d s.tables) len s.adjacencies

-- ---- what other failures make of the channels

abbrev pub sessions_renewed : List File → Addr → State → Failures → List (Channel BgpMsg)
sessions_renewed files d s failures =
    all_renewed (session_up_at files s.failures) (session_up_at files failures)
    (arriving_at files d s.environment s.tables) s.sessions

abbrev pub adjacencies_renewed : List File → Addr → State → Failures → List (Channel OspfRec)
adjacencies_renewed files d s failures =
    all_renewed (adjacency_up_at files s.failures) (adjacency_up_at files failures) (offered_at files d s.tables)
    s.adjacencies
