-- What files in memory hold, and which reads of them fail.
use Rattle.std.specs.Prelude.{ℕ, ◌⊎◌, List, Option, map, IsNone, Contains}
use Rattle.mw_outside.specs.Faults.{next_call}
use Rattle.mw_outside.specs.Contents.{Contents, get}
use Rattle.mw_outside.specs.declared.test_files.TestFile.{TestFile}
use Rattle.mw_outside.specs.declared.test_files.TestFiles.{TestFiles}

-- a file as a pair of its name and its bytes
abbrev pub named : TestFile → List ℕ × List ℕ
named file = (file.name, file.bytes)

-- the files
abbrev pub files_in : TestFiles → Contents
files_in files = map named files.files

-- how many reads there were
abbrev pub reads_of : TestFiles → ℕ
reads_of files = files.calls

-- how many bytes of a file reads have asked for at most
abbrev pub reach_of : TestFiles → ℕ
reach_of files = files.reach

-- the reads that fail, counted from 1
abbrev pub failing_reads : TestFiles → List ℕ
failing_reads files = files.fail

-- how many reads have failed
abbrev pub read_faults : TestFiles → ℕ
read_faults files = files.faults.value

-- the name of the last read that failed, if it is kept
abbrev pub last_name : TestFiles → Option (List ℕ)
last_name files = files.last_failed

-- a read of this name fails: its number is listed, or no such file is there
abbrev pub FailsAt : TestFiles → List ℕ → Type 0
FailsAt files name = Contains (failing_reads files) (next_call (reads_of files)) ⊎ IsNone (get (files_in files) name)
