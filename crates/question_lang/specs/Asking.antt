-- Which text reads as which questions.
use Rattle.std.specs.Prelude.{ℕ, Bool, List, [], ◌∷◌, ◌++◌, length, nat_le, not, Option, Some, None, Result, Ok, Err}
use Rattle.std.specs.Prelude.{option_and_then, option_map, if◌then◌else◌}
use Rattle.std.specs.List.{list_any}
use Rattle.std.specs.Option.{option_map_or}
use Rattle.mw_text.specs.declared.words.Line.{Line}
use Rattle.mw_text.specs.Reading.{following, in_turn}
use Rattle.mw_text.specs.Text.{same_text}
use Rattle.mw_text.specs.Words.{is_skipped, text_lines}
use Rattle.ios_ast.specs.declared.file.File.{File}
use Rattle.ios_policy_reader.specs.declared.cause.Cause.{Cause}
use Rattle.ios_policy_reader.specs.declared.cause.Cause.TheVariants.{UnknownCommand, Repeated, UnknownRouter}
use Rattle.ios_policy_reader.specs.declared.cause.Cause.TheVariants.{UnknownPeer, TooManyQuestions, Undefined}
use Rattle.ios_policy_reader.specs.declared.cause.Refused.{Refused}
use Rattle.ios_policy_reader.specs.declared.said.Said.{Said}
use Rattle.ios_policy_reader.specs.declared.said.Tag.TheVariants.{Name, Start as StartTag, Waypoint as WaypointTag}
use Rattle.ios_policy_reader.specs.declared.said.Tag.TheVariants.{OtherStart, Hops, Failures}
use Rattle.ios_policy_reader.specs.Said.{number_under}
use Rattle.question_lang.specs.declared.forms.Form.{Form}
use Rattle.question_lang.specs.declared.forms.Form.TheVariants.{Reach as ReachForm, Isolate as IsolateForm}
use Rattle.question_lang.specs.declared.forms.Form.TheVariants.{Waypoint as WaypointForm, NoLoop as NoLoopForm}
use Rattle.question_lang.specs.declared.forms.Form.TheVariants.{NoBlackHole as NoBlackHoleForm}
use Rattle.question_lang.specs.declared.forms.Form.TheVariants.{Within as WithinForm, Alike as AlikeForm}
use Rattle.question_lang.specs.declared.forms.Form.TheVariants.{NoStable as NoStableForm}
use Rattle.question_lang.specs.declared.question.Kind.{Kind}
use Rattle.question_lang.specs.declared.question.Kind.TheVariants.{Reach, Isolate, Waypoint, NoLoop, NoBlackHole}
use Rattle.question_lang.specs.declared.question.Kind.TheVariants.{Within, Alike, NoStable}
use Rattle.question_lang.specs.declared.question.Question.{Question}
use Rattle.question_lang.specs.declared.question.Start.{Start}
use Rattle.question_lang.specs.declared.question.Target.{Target}
use Rattle.question_lang.specs.declared.reader.TheConstants.{MOST_QUESTIONS}
use Rattle.question_lang.specs.Grammar.{form_of, words_said}
pub use Rattle.question_lang.specs.Naming.{router_named}
use Rattle.question_lang.specs.Naming.{are_routers_known, is_peer_known, router_under, set_of, start_of, target_of}
use Rattle.question_lang.specs.Naming.{word_under}

-- ---- one question

-- both ends, where they are there
abbrev pub ends_of : List File → List (List ℕ) → List Said → Option (Start × Target)
ends_of files words said =
    option_and_then (λ start. option_map (λ target. (start, target)) (target_of files words said))
    (start_of files words said)

abbrev pub reach_of : List File → List (List ℕ) → List Said → Option Kind
reach_of files words said = option_map (λ ends. Reach ends.0 ends.1) (ends_of files words said)

abbrev pub isolate_of : List File → List (List ℕ) → List Said → Option Kind
isolate_of files words said = option_map (λ ends. Isolate ends.0 ends.1) (ends_of files words said)

abbrev pub waypoint_of : List File → List (List ℕ) → List Said → Option Kind
waypoint_of files words said =
    option_and_then
    (λ ends. option_map (λ via. Waypoint ends.0 ends.1 via) (router_under WaypointTag files words said))
    (ends_of files words said)

abbrev pub no_loop_of : List File → List (List ℕ) → List Said → Option Kind
no_loop_of files words said = option_map (λ start. NoLoop start) (start_of files words said)

abbrev pub no_black_hole_of : List File → List (List ℕ) → List Said → Option Kind
no_black_hole_of files words said = option_map (λ start. NoBlackHole start) (start_of files words said)

abbrev pub within_of : List File → List (List ℕ) → List Said → Option Kind
within_of files words said =
    option_map (λ start. Within (number_under Hops said 0) start) (start_of files words said)

abbrev pub alike_of : List File → List (List ℕ) → List Said → Option Kind
alike_of files words said =
    option_and_then
    (λ one. option_and_then (λ other. option_map (λ target. Alike one other target) (target_of files words said))
    (router_under OtherStart files words said))
    (router_under StartTag files words said)

-- what a question of the kind asks, where all that it names is there
unfoldable pub kind_of : List File → Form → List (List ℕ) → List Said → Option Kind
kind_of files ReachForm words said = reach_of files words said
kind_of files IsolateForm words said = isolate_of files words said
kind_of files WaypointForm words said = waypoint_of files words said
kind_of files NoLoopForm words said = no_loop_of files words said
kind_of files NoBlackHoleForm words said = no_black_hole_of files words said
kind_of files WithinForm words said = within_of files words said
kind_of files AlikeForm words said = alike_of files words said
kind_of files NoStableForm words said = Some NoStable

-- the question that the words ask
abbrev pub question_of : List File → Form → List (List ℕ) → List Said → Option Question
question_of files form words said =
    option_map (λ kind. record {
      name = word_under Name words said;
      kind = kind;
      packets = set_of said;
      failures = number_under Failures said 0;
    })
    (kind_of files form words said)

-- a question has that name
abbrev pub has_name : List Question → List ℕ → Bool
has_name questions name = list_any (λ q. same_text q.name name) questions

-- Why a question that reads well may not stand after these, by the first of the causes: its name stands before, it
-- names a router that is not there, its target is no external peer of its router, it is one too many. Or none of these.
abbrev pub cause_against : List File → List Question → List (List ℕ) → List Said → Option Cause
cause_against files so_far words said =
    if has_name so_far (word_under Name words said) then Some Repeated
    else (if not (are_routers_known files words said) then Some UnknownRouter
    else (if not (is_peer_known files words said) then Some UnknownPeer
    else (if nat_le MOST_QUESTIONS (length so_far) then Some TooManyQuestions else None)))

-- The question that the words ask after these, or why it may not stand there. Routers and peer are known then, so that
-- what is not there can only be the interface.
unfoldable pub asked : List File → List Question → Form → List (List ℕ) → List Said → Result Question Cause
asked files so_far form words said =
    option_map_or (λ cause. Err cause)
    (cause_against files so_far words said)
    (option_map_or (λ question. Ok question) (question_of files form words said) (Err Undefined))

-- the question of a line of these words after the questions before, or why it has none: the kind is unknown, a word is
-- bad, or the question may not stand there
unfoldable pub question_in : List File → List Question → List (List ℕ) → Result Question Cause
question_in files so_far words =
    option_map_or (λ form. following (asked files so_far form words) (words_said form words)) (form_of words)
    (Err UnknownCommand)

-- ---- all lines

abbrev pub refused_at : {A : Type 0} → ℕ → Result A Cause → Result A Refused
refused_at line (Ok x) = Ok x
refused_at line (Err cause) = Err (record { line = line; cause = cause })

-- the question of a line after the questions before, or the refusal there
abbrev pub question_at : List File → List Question → Line → Result Question Refused
question_at files so_far line = refused_at line.number (question_in files so_far line.words)

-- the questions with a line more, or its refusal; a line that says nothing asks nothing
unfoldable pub next_asked : List File → List Question → Line → Result (List Question) Refused
next_asked files so_far line =
    if is_skipped line.words then Ok so_far
    else following (λ question. Ok (so_far ++ question ∷ [])) (question_at files so_far line)

-- the questions that a text reads as, over the files, or the refusal of its first line that has one
abbrev pub asking : List File → List ℕ → Result (List Question) Refused
asking files bytes = in_turn (next_asked files) [] (text_lines bytes)
