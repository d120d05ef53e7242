-- What the words of the command come to, and when it has answered.
use Rattle.std.specs.Prelude.{List}
use Rattle.asked_files.specs.Answering.{IsBegun, IsDone}
use Rattle.asked_files.specs.Running.{Work}
use Rattle.compare_files.specs.Due.{files_due}
use Rattle.compare_files.specs.Loading.{IsUnread}
use Rattle.compare_words.specs.Words.{Asking}
use Rattle.ios_ast.specs.declared.file.File.{File}
use Rattle.same_asks.specs.declared.same.Same.{Same}
use Rattle.net_compare.specs.Answering.{answering}

-- two networks and the asks over both, and the answers to these
abbrev pub comparing : Work Asking (List File × List File × List Same)
comparing = record {
  due = files_due;
  Unread = IsUnread;
  Done = λ asked due w how. IsDone (answering due.0 due.1 asked.budget) due.2 w how;
  Begun = λ asked due w. IsBegun (answering due.0 due.1 asked.budget) due.2 w;
}
