-- Where the lines of an events file lead to.
use Rattle.std.proofs.Common.{◌≡◌, ◌≢◌, ◌∙◌, ℕ, ◌^◌, ◌<◌, ◌-◌, All, IfOk, IfErr, List, Result, Ok, Err}
use Rattle.std.proofs.Common.{ap, drop, length, subst, sym, take}
use Rattle.std.proofs.lemmas.List.Elements.{All-drop, All-take}
use Rattle.mw_text.specs.declared.address.Addr.{Addr}
use Rattle.mw_text.specs.declared.words.Line.{Line}
use Rattle.mw_text.specs.Reading.{following, in_turn}
use Rattle.mw_text.specs.Words.{text_lines}
use Rattle.ios_ast.specs.declared.file.File.{File}
use Rattle.net_model.specs.Kept.{Network}
use Rattle.machine_laws.specs.declared.state.State.{State}
use Rattle.simulation.specs.declared.causes.SimulationCause.TheVariants.{Memory}
use Rattle.simulation.specs.declared.causes.SimulationRefused.{SimulationRefused}
use Rattle.simulation.specs.declared.simulating.Simulated.{Simulated}
use Rattle.simulation.specs.Lines.{events_part, opening_part}
use Rattle.simulation.specs.Simulating.{IsSimulated, IsTold, IsToldFrom, IsToldOf, last_at, last_of}
use Rattle.simulation.specs.Simulating.{next_state, simulation_of}

-- few words in each of the first lines, and of the others
abbrev AreFew : List Line → Type 0
AreFew lines = All (λ line. length line.words < 2 ^ 32 - 1) lines

pub few_first : (n : ℕ) (lines : List Line) → AreFew lines → AreFew (take n lines)
few_first n lines few = All-take (λ (line : Line). length line.words < 2 ^ 32 - 1) n lines few

pub few_last : (n : ℕ) (lines : List Line) → AreFew lines → AreFew (drop n lines)
few_last n lines few = All-drop (λ (line : Line). length line.words < 2 ^ 32 - 1) n lines few

-- a line over the same network and destination
pub step_there : (from to : Network) (d e : Addr) (s : State) (line : Line) (r : Result State SimulationRefused) →
    to ≡ from → e ≡ d → next_state to.files e s line ≡ r → next_state from.files d s line ≡ r
step_there from to d e s line r net there step =
    sym (ap (λ n. next_state n.files e s line) net ∙ ap (λ a. next_state from.files a s line) there) ∙ step

-- an answer of the state that the lines of events lead to, over the same network and destination
pub told_from : (from to : Network) (d e : Addr) (s t : State) (events : List Line) (answer : Simulated) →
    in_turn (next_state from.files d) s events ≡ Ok t → to ≡ from → e ≡ d → IsTold to.files (last_at e t) answer →
    IsToldFrom from.files events (last_at d s) answer
told_from from to d e s t events answer runs net there told = (
  last_at d t,
  ap (following (λ x. Ok (last_at d x))) runs,
  subst (λ a. IsTold from.files (last_at a t) answer) there
      (subst (λ n. IsTold n.files (last_at e t) answer) net told),
)

-- the same of the bytes of the file
pub simulated_if : (files : List File) (bytes : List ℕ) (lines : List Line)
    (result : Result Simulated SimulationRefused) → lines ≡ text_lines bytes →
    IfOk result (IsToldOf files (opening_part lines) (events_part lines)) → IfOk result (IsSimulated files bytes)
unfolding simulation_of
simulated_if files bytes lines (Ok answer) same told =
    subst (λ ls. IsToldOf files (opening_part ls) (events_part ls) answer) same told
simulated_if files bytes lines (Err why) same told = tt

pub refused_whole : (files : List File) (bytes : List ℕ) (lines : List Line)
    (result : Result Simulated SimulationRefused) → lines ≡ text_lines bytes →
    IfErr result (λ why. why.cause ≢ Memory → last_of files (opening_part lines) (events_part lines) ≡ Err why) →
    IfErr result (λ why. why.cause ≢ Memory → simulation_of files bytes ≡ Err why)
unfolding simulation_of
refused_whole files bytes lines (Ok answer) same refused = tt
refused_whole files bytes lines (Err why) same refused = λ other.
    subst (λ ls. last_of files (opening_part ls) (events_part ls) ≡ Err why) same (refused other)
