-- Which text reads as which asks.
use Rattle.std.specs.Prelude.{ℕ, Bool, true, List, [], ◌∷◌, ◌++◌, ◌&&◌, length, nat_le, not, Option, Some, None, Result, Ok, Err}
use Rattle.std.specs.Prelude.{option_and_then, option_map, if◌then◌else◌}
use Rattle.std.specs.List.{list_any}
use Rattle.std.specs.Option.{option_map_or}
use Rattle.mw_text.specs.declared.words.Line.{Line}
use Rattle.mw_text.specs.Reading.{following, in_turn}
use Rattle.mw_text.specs.Text.{same_text}
use Rattle.mw_text.specs.Words.{is_skipped, text_lines}
use Rattle.ios_ast.specs.declared.file.File.{File}
use Rattle.ios_policy_reader.specs.declared.cause.Cause.{Cause}
use Rattle.ios_policy_reader.specs.declared.cause.Cause.TheVariants.{UnknownCommand, Repeated, UnknownRouter}
use Rattle.ios_policy_reader.specs.declared.cause.Cause.TheVariants.{UnknownPeer, TooManyQuestions}
use Rattle.ios_policy_reader.specs.declared.cause.Refused.{Refused}
use Rattle.ios_policy_reader.specs.declared.said.Said.{Said}
use Rattle.ios_policy_reader.specs.declared.said.Tag.{Tag}
use Rattle.ios_policy_reader.specs.declared.said.Tag.TheVariants.{Name, Start, Router, Peer, Address, Failures}
use Rattle.ios_policy_reader.specs.Entries.{prefix_entry}
use Rattle.ios_policy_reader.specs.Said.{address_under, number_under}
use Rattle.question_lang.specs.Asking.{refused_at}
use Rattle.question_lang.specs.Naming.{are_routers_known, is_peer, router_under, word_under}
use Rattle.export_asks.specs.declared.ask.Ask.{Ask}
use Rattle.export_asks.specs.declared.ask.AskPeer.{AskPeer}
use Rattle.export_asks.specs.declared.forms.Form.{Form}
use Rattle.export_asks.specs.declared.forms.Form.TheVariants.{NoExport, NoLeak}
use Rattle.export_asks.specs.declared.reader.TheConstants.{MOST_ASKS}
use Rattle.export_asks.specs.Grammar.{form_of, words_said}

-- ---- peers

-- the router that was said under the one tag, with the address that was said under the other
abbrev pub peer_under : Tag → Tag → List File → List (List ℕ) → List Said → Option AskPeer
peer_under router address files words said =
    option_map (λ r. record { router = r; addr = address_under address said (record { 0 = 0 }) })
    (router_under router files words said)

-- `to` R A
abbrev pub to_under : List File → List (List ℕ) → List Said → Option AskPeer
to_under files words said = peer_under Router Peer files words said

-- `from` R A
abbrev pub from_under : List File → List (List ℕ) → List Said → Option AskPeer
from_under files words said = peer_under Start Address files words said

-- it is an external peer of its router, shut down or not
abbrev pub is_known : List File → Option AskPeer → Bool
is_known files peer = option_map_or (λ p. is_peer files p.router p.addr) peer true

-- both peers of an ask of the kind are
unfoldable pub are_peers_known : List File → Form → List (List ℕ) → List Said → Bool
are_peers_known files NoExport words said = is_known files (to_under files words said)
are_peers_known files NoLeak words said =
    is_known files (from_under files words said) && is_known files (to_under files words said)

-- ---- one ask

-- the peer from which the route was learnt: any, or the one that is named
unfoldable pub learnt_of : List File → Form → List (List ℕ) → List Said → Option (Option AskPeer)
learnt_of files NoExport words said = Some None
learnt_of files NoLeak words said = option_map (λ peer. Some peer) (from_under files words said)

-- the range of prefixes is that of an entry of a prefix list
abbrev pub ask_with : List (List ℕ) → List Said → AskPeer → Option AskPeer → Ask
ask_with words said to learnt = record {
  name = word_under Name words said;
  to = to;
  learnt = learnt;
  prefix = (prefix_entry 0 0 said).prefix;
  low = (prefix_entry 0 0 said).low;
  high = (prefix_entry 0 0 said).high;
  failures = number_under Failures said 0;
}

-- the ask that the words make
abbrev pub ask_of : List File → Form → List (List ℕ) → List Said → Option Ask
ask_of files form words said =
    option_and_then (λ to. option_map (ask_with words said to) (learnt_of files form words said))
    (to_under files words said)

-- an ask has that name
abbrev pub has_name : List Ask → List ℕ → Bool
has_name asks name = list_any (λ a. same_text a.name name) asks

-- Why an ask that reads well may not stand after these, by the first of the causes: its name stands before, it names a
-- router that is not there, a peer is no external one of its router, it is one too many. Or none of these.
abbrev pub cause_against : List File → List Ask → Form → List (List ℕ) → List Said → Option Cause
cause_against files so_far form words said =
    if has_name so_far (word_under Name words said) then Some Repeated
    else (if not (are_routers_known files words said) then Some UnknownRouter
    else (if not (are_peers_known files form words said) then Some UnknownPeer
    else (if nat_le MOST_ASKS (length so_far) then Some TooManyQuestions else None)))

-- The ask that the words make after these, or why it may not stand there. Routers and peers are known then.
unfoldable pub asked : List File → List Ask → Form → List (List ℕ) → List Said → Result Ask Cause
asked files so_far form words said =
    option_map_or (λ cause. Err cause)
    (cause_against files so_far form words said)
    (option_map_or (λ ask. Ok ask) (ask_of files form words said) (Err UnknownRouter))

-- the ask of a line of these words after the asks before, or why it has none: the kind is unknown, a word is bad, or the
-- ask may not stand there
unfoldable pub ask_in : List File → List Ask → List (List ℕ) → Result Ask Cause
ask_in files so_far words =
    option_map_or (λ form. following (asked files so_far form words) (words_said form words)) (form_of words)
    (Err UnknownCommand)

-- ---- all lines

-- the ask of a line after the asks before, or the refusal there
abbrev pub ask_at : List File → List Ask → Line → Result Ask Refused
ask_at files so_far line = refused_at line.number (ask_in files so_far line.words)

-- the asks with a line more, or its refusal; a line that says nothing asks nothing
unfoldable pub next_asked : List File → List Ask → Line → Result (List Ask) Refused
next_asked files so_far line =
    if is_skipped line.words then Ok so_far else following (λ ask. Ok (so_far ++ ask ∷ [])) (ask_at files so_far line)

-- the asks that a text reads as, over the files, or the refusal of its first line that has one
abbrev pub asking : List File → List ℕ → Result (List Ask) Refused
asking files bytes = in_turn (next_asked files) [] (text_lines bytes)
