-- Verdicts on asks, and when they are right.
use Rattle.std.specs.Prelude.{◌≡◌, ◌↔◌, ℕ, ◌<◌, ◌≤◌, true, false, List, [], ◌∷◌, ◌++◌, Some, codes}
use Rattle.std.specs.Fmt.{decimal}
use Rattle.term_store.specs.declared.Node.{Node}
use Rattle.term_store.specs.declared.NodeId.{NodeId}
use Rattle.resolution_check.specs.declared.log.Entry.{Entry}
use Rattle.resolution_check.specs.Entries.{adds_empty, addition_count}
use Rattle.cdcl_search.specs.Outcomes.{IsSearchLog}
use Rattle.cnf_blaster.specs.Cnf.{clauses_of}
use Rattle.cnf_blaster.specs.Meaning.{CanBeTrue}
use Rattle.ios_ast.specs.declared.file.File.{File}
use Rattle.cex_json.specs.Counterexamples.{IsTrueCounterexample}
use Rattle.cex_json.specs.Text.{cex_text}
use Rattle.run_inputs.specs.Texts.{newline}
use Rattle.run_answers.specs.Lines.{holds_text, unknown_text}
use Rattle.run_answers.specs.Verdicts.{section_text}
use Rattle.export_asks.specs.declared.ask.Ask.{Ask}
use Rattle.export_asks.specs.Exported.{IsLeast, is_exported}
use Rattle.ask_search.specs.declared.verdict.AskVerdict.{AskVerdict}
use Rattle.ask_search.specs.declared.verdict.AskVerdict.TheVariants.{Holds, Broken, Unknown}
use Rattle.ask_search.specs.Exporting.{IsExportable, IsUnexported, question_of}

-- The verdict is right: no stable routing exports a route of the ask; or this one does, and the length is the least at
-- which it does. What an unknown one is, its section shows.
abbrev pub IsRight : List File → Ask → AskVerdict → Type 0
IsRight files ask Holds = IsUnexported files ask
IsRight files ask (Broken len cex) =
    IsTrueCounterexample files 0 (question_of ask) cex
    × IsLeast (is_exported files ask cex.packet.dst cex.failures cex.tables) (Some len)
IsRight files ask (Unknown after) = Unit {0}

-- it names a routing
abbrev pub IsBroken : AskVerdict → Type 0
IsBroken Holds = ⊥
IsBroken (Broken len cex) = Unit {0}
IsBroken (Unknown after) = ⊥

-- the entries of a search for an answer: the log of a search for the clauses of terms of which the root can be true
-- exactly where the ask is broken, with at most so many additions. Such a log gives the clauses as inputs and then only
-- adds and deletes; it is good, every addition is earned, and deletions are spaced
pub record IsSearched (files : List File) (ask : Ask) (budget : ℕ) (entries : List Entry) : Type 0 where
  pub nodes : List Node
  pub root : NodeId
  pub encodes : CanBeTrue nodes (root ∷ []) ↔ IsExportable files ask
  pub log : IsSearchLog (clauses_of nodes (root ∷ [])) entries
  pub within : addition_count entries ≤ budget

-- which entries show the verdict, where so many additions were allowed: the empty clause is added, or none is empty and
-- there are fewer, or there are as many
abbrev pub ShowsVerdict : ℕ → List Entry → AskVerdict → Type 0
ShowsVerdict budget entries Holds = adds_empty entries ≡ true
ShowsVerdict budget entries (Broken len cex) = (adds_empty entries ≡ false) × (addition_count entries < budget)
ShowsVerdict budget entries (Unknown after) =
    (after ≡ budget) × (adds_empty entries ≡ false) × (addition_count entries ≡ after)

-- the entries are those of a search, and show the verdict
pub record IsSection (files : List File) (ask : Ask) (budget : ℕ) (verdict : AskVerdict) (entries : List Entry) : Type 0
  where
    pub search : IsSearched files ask budget entries
    pub shows : ShowsVerdict budget entries verdict

-- a verdict, and the entries of the section of the log that shows it
pub record Answer : Type 0 where
  pub verdict : AskVerdict
  pub section : List Entry

-- the answer to the ask is right, and its section shows it
abbrev pub IsAnswer : List File → ℕ → Ask → Answer → Type 0
IsAnswer files budget ask answer =
    IsRight files ask answer.verdict × IsSection files ask budget answer.verdict answer.section

-- ---- texts

-- the lines of a verdict: broken NAME LEN comes with the counterexample on a line of its own
abbrev pub verdict_text : List File → Ask → AskVerdict → List ℕ
verdict_text files ask Holds = holds_text (question_of ask)
verdict_text files ask (Broken len cex) =
    codes "broken " ++ ask.name ++ codes " " ++ decimal len ++ newline ++ cex_text files (question_of ask ∷ []) cex
    ++ newline
verdict_text files ask (Unknown after) = unknown_text (question_of ask) after

-- the section of an ask in the log: q NAME, its entries, e
abbrev pub ask_section : Ask → List Entry → List ℕ
ask_section ask entries = section_text (question_of ask) entries
