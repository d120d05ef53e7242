-- What the words of the command come to, and when it has answered.
use Rattle.std.specs.Prelude.{List}
use Rattle.asked_files.specs.Answering.{IsBegun, IsDone}
use Rattle.asked_files.specs.Running.{Work}
use Rattle.asked_files.specs.Words.{Asking}
use Rattle.export_asks.specs.declared.ask.Ask.{Ask}
use Rattle.ios_ast.specs.declared.file.File.{File}
use Rattle.advert_ask.specs.Answering.{answering}
use Rattle.advert_ask.specs.Due.{files_due}
use Rattle.advert_ask.specs.Loading.{IsUnread}

-- the network of the files and the asks over it, and the answers to these
abbrev pub advertising : Work Asking (List File × List Ask)
advertising = record {
  due = files_due;
  Unread = IsUnread;
  Done = λ asked due w how. IsDone (answering due.0 asked.budget) due.1 w how;
  Begun = λ asked due w. IsBegun (answering due.0 asked.budget) due.1 w;
}
