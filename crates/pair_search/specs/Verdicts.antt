-- Verdicts on asks about two networks, and when they are right.
use Rattle.std.specs.Prelude.{◌≡◌, ◌↔◌, ℕ, ◌<◌, ◌≤◌, true, false, List, [], ◌∷◌, ◌++◌, codes}
use Rattle.term_store.specs.declared.Node.{Node}
use Rattle.term_store.specs.declared.NodeId.{NodeId}
use Rattle.resolution_check.specs.declared.log.Entry.{Entry}
use Rattle.resolution_check.specs.Entries.{adds_empty, addition_count}
use Rattle.cdcl_search.specs.Outcomes.{IsSearchLog}
use Rattle.cnf_blaster.specs.Cnf.{clauses_of}
use Rattle.cnf_blaster.specs.Meaning.{CanBeTrue}
use Rattle.ios_ast.specs.declared.file.File.{File}
use Rattle.cex_json.specs.declared.counterexample.Counterexample.{Counterexample}
use Rattle.cex_json.specs.Counterexamples.{IsTrueCounterexample, world_of}
use Rattle.cex_json.specs.Parts.{addr_text}
use Rattle.cex_json.specs.Text.{cex_text}
use Rattle.compared_nets.specs.Compared.{AnswerSame, AreBeside, DoDiffer, FatesBeside, FatesIn}
use Rattle.packet_fates.specs.declared.apart.Apart.{Apart}
use Rattle.packet_fates.specs.declared.apart.Side.{Side}
use Rattle.packet_fates.specs.declared.apart.Side.TheVariants as side
use Rattle.packet_fates.specs.declared.fate.Fate.{Fate}
use Rattle.packet_fates.specs.declared.fate.Fate.TheVariants.{Delivered, Left, BlackHole, Loop}
use Rattle.packet_fates.specs.Sides.{IsFirstApart}
use Rattle.routings_beside.specs.Pairs.{question_of}
use Rattle.run_inputs.specs.Texts.{newline}
use Rattle.run_answers.specs.Lines.{unknown_text}
use Rattle.run_answers.specs.Verdicts.{section_text}
use Rattle.same_asks.specs.declared.same.Same.{Same}
use Rattle.pair_search.specs.declared.verdict.SameVerdict.{SameVerdict}
use Rattle.pair_search.specs.declared.verdict.SameVerdict.TheVariants as found

-- Both are stable routings of packets of the ask, one of each network, with one packet, one environment and one set of
-- failed links; and this is the first fate that the packet has in one of them alone.
pub record ShowDifferent (left right : List File) (ask : Same) (one other : Counterexample) (apart : Apart) : Type 0
  where
    pub one_true : IsTrueCounterexample left 0 (question_of ask) one
    pub other_true : IsTrueCounterexample right 0 (question_of ask) other
    pub beside : AreBeside left right ask (world_of one) (world_of other) one.env other.env
    pub first : IsFirstApart (FatesIn left (world_of one) ask) (FatesBeside right (world_of other) ask) apart.side
        apart.fate

-- The verdict is right: in all stable routings side by side the fates are the same; or in these two they are not. What an
-- unknown one is, its section shows.
abbrev pub IsRight : List File → List File → Same → SameVerdict → Type 0
IsRight left right ask found.Same = AnswerSame left right ask
IsRight left right ask (found.Different one other apart) = ShowDifferent left right ask one other apart
IsRight left right ask (found.Unknown after) = Unit {0}

-- it names two routings
abbrev pub IsDifferent : SameVerdict → Type 0
IsDifferent found.Same = ⊥
IsDifferent (found.Different one other apart) = Unit {0}
IsDifferent (found.Unknown after) = ⊥

-- the entries of a search for an answer: the log of a search for the clauses of terms of which the root can be true
-- exactly where the networks answer the ask differently, with at most so many additions. Such a log gives the clauses as
-- inputs and then only adds and deletes; it is good, every addition is earned, and deletions are spaced
pub record IsSearched (left right : List File) (ask : Same) (budget : ℕ) (entries : List Entry) : Type 0 where
  pub nodes : List Node
  pub root : NodeId
  pub encodes : CanBeTrue nodes (root ∷ []) ↔ DoDiffer left right ask
  pub log : IsSearchLog (clauses_of nodes (root ∷ [])) entries
  pub within : addition_count entries ≤ budget

-- which entries show the verdict, where so many additions were allowed: the empty clause is added, or none is empty and
-- there are fewer, or there are as many
abbrev pub ShowsVerdict : ℕ → List Entry → SameVerdict → Type 0
ShowsVerdict budget entries found.Same = adds_empty entries ≡ true
ShowsVerdict budget entries (found.Different one other apart) =
    (adds_empty entries ≡ false) × (addition_count entries < budget)
ShowsVerdict budget entries (found.Unknown after) =
    (after ≡ budget) × (adds_empty entries ≡ false) × (addition_count entries ≡ after)

-- the entries are those of a search, and show the verdict
pub record IsSection (left right : List File) (ask : Same) (budget : ℕ) (verdict : SameVerdict)
    (entries : List Entry) : Type 0 where
  pub search : IsSearched left right ask budget entries
  pub shows : ShowsVerdict budget entries verdict

-- a verdict, and the entries of the section of the log that shows it
pub record Answer : Type 0 where
  pub verdict : SameVerdict
  pub section : List Entry

-- the answer to the ask is right, and its section shows it
abbrev pub IsAnswer : List File → List File → ℕ → Same → Answer → Type 0
IsAnswer left right budget ask answer =
    IsRight left right ask answer.verdict × IsSection left right ask budget answer.verdict answer.section

-- ---- texts

-- same NAME
abbrev pub same_text : Same → List ℕ
same_text ask = codes "same " ++ ask.name ++ newline

abbrev pub side_text : Side → List ℕ
side_text side.Left = codes "left"
side_text side.Right = codes "right"

-- delivered R, left R A, blackhole or loop
abbrev pub fate_text : Fate → List ℕ
fate_text (Delivered name) = codes "delivered " ++ name
fate_text (Left name a) = codes "left " ++ name ++ codes " " ++ addr_text a
fate_text BlackHole = codes "blackhole"
fate_text Loop = codes "loop"

-- only left FATE, or only right FATE
abbrev pub apart_text : Apart → List ℕ
apart_text apart = codes "only " ++ side_text apart.side ++ codes " " ++ fate_text apart.fate ++ newline

-- the lines of a verdict: different NAME comes with the counterexample of each network on a line of its own, that of the
-- left one first, and the line of the fate that one side alone has
abbrev pub verdict_text : List File → List File → Same → SameVerdict → List ℕ
verdict_text left right ask found.Same = same_text ask
verdict_text left right ask (found.Different one other apart) =
    codes "different " ++ ask.name ++ newline ++ cex_text left (question_of ask ∷ []) one ++ newline
    ++ cex_text right (question_of ask ∷ []) other ++ newline ++ apart_text apart
verdict_text left right ask (found.Unknown after) = unknown_text (question_of ask) after

-- the section of an ask in the log: q NAME, its entries, e
abbrev pub same_section : Same → List Entry → List ℕ
same_section ask entries = section_text (question_of ask) entries
