-- What a replay answers, and when the answer is right.
use Rattle.std.specs.Prelude.{◌≡◌, ◌≢◌, ℕ, List, [], ◌∷◌, ◌++◌, codes, is_none, Bool, Option, Some, None, slice_get}
use Rattle.std.specs.Fmt.{decimal}
use Rattle.mw_outside.specs.Taken.{Takes}
use Rattle.ios_ast.specs.declared.file.File.{File}
use Rattle.route_record.specs.declared.Slot.{Slot}
use Rattle.question_lang.specs.declared.question.Question.{Question}
use Rattle.cex_json.specs.declared.counterexample.Counterexample.{Counterexample}
use Rattle.cex_json.specs.Parts.{router_name}
use Rattle.cex_json.specs.Text.{part_list_text, part_text}
use Rattle.stable_replay.specs.declared.differs.Differs.{Differs as Difference}
use Rattle.stable_replay.specs.declared.differs.Part.{Part}
use Rattle.stable_replay.specs.declared.differs.Part.TheVariants.{Ospf, Bgp, Rib}
use Rattle.stable_replay.specs.declared.differs.ReplayNo.{ReplayNo}
use Rattle.stable_replay.specs.declared.differs.ReplayNo.TheVariants as no
use Rattle.stable_replay.specs.Replayed.{IsRefusedSo}
use Rattle.run_answers.specs.declared.status.Status.{Status}
use Rattle.run_answers.specs.declared.status.Status.TheVariants.{Good, Bad}
use Rattle.run_inputs.specs.Texts.{newline}
use Rattle.cex_json.specs.Counterexamples.{IsTrueCounterexample}

-- ---- the lines

abbrev pub part_name : Part → List ℕ
part_name Ospf = codes "ospf"
part_name Bgp = codes "bgp"
part_name Rib = codes "rib"

-- one part, or null
abbrev pub lone_text : List Slot → List ℕ
lone_text [] = codes "null"
lone_text (slot ∷ rest) = part_text slot

-- what is wanted: of OSPF and of the table one part or null, of BGP the list of the routes that are left
abbrev pub wanted_text : Part → List Slot → List ℕ
wanted_text Ospf slots = lone_text slots
wanted_text Rib slots = lone_text slots
wanted_text Bgp slots = part_list_text slots

-- ROUTER LEN PART held H wanted W
abbrev pub difference_text : List File → Difference → List ℕ
difference_text files differs =
    router_name files differs.router ++ codes " " ++ decimal differs.len ++ codes " " ++ part_name differs.part
    ++ codes " held " ++ part_text differs.held ++ codes " wanted " ++ wanted_text differs.part differs.wanted

abbrev pub no_text : List File → ReplayNo → List ℕ
no_text files (no.Differs differs) = codes "no differs " ++ difference_text files differs ++ newline
no_text files no.NotWalk = codes "no walk" ++ newline
no_text files no.NotBreak = codes "no break" ++ newline
no_text files no.Memory = []

-- yes, or why not
abbrev pub replay_text : List File → Option ReplayNo → List ℕ
replay_text files None = codes "yes" ++ newline
replay_text files (Some why) = no_text files why

abbrev pub replay_status : Option ReplayNo → Status
replay_status None = Good
replay_status (Some why) = Bad

-- ---- when they are right

-- yes comes only where the counterexample is true of its question, and no only where it is not, with the first reason
-- in the order of routers, lengths and parts, then the walk, then what it breaks
abbrev pub IsRightReplay : List File → Question → Counterexample → Option ReplayNo → Type 0
IsRightReplay files question cex None = IsTrueCounterexample files cex.question question cex
IsRightReplay files question cex (Some why) =
    IsRefusedSo files question cex why × (why ≢ no.Memory)
    × (IsTrueCounterexample files cex.question question cex → ⊥)

-- a right answer, of the question that the counterexample is about
abbrev pub AnswersReplay : List File → List Question → Counterexample → Option ReplayNo → Type 0
AnswersReplay files questions cex answer =
    (question : Question) × (slice_get questions cex.question ≡ Some question) × IsRightReplay files question cex answer

-- a right answer stands, and the status is its
pub record IsReplayedSo (files : List File) (questions : List Question) (cex : Counterexample) (status : Status)
    (before now : Option (List ℕ)) : Type 0 where
  pub answer : Option ReplayNo
  pub right : AnswersReplay files questions cex answer
  pub ends : status ≡ replay_status answer
  pub text : Takes before now (replay_text files answer)

-- the text of a right answer, and whether it is yes
abbrev pub IsReplayLine : List File → List Question → Counterexample → Bool → List ℕ → Type 0
IsReplayLine files questions cex is_yes text =
    (answer : Option ReplayNo) × AnswersReplay files questions cex answer × (is_yes ≡ is_none answer)
    × (text ≡ replay_text files answer)
