use Rattle.std.proofs.Common.{◌≡◌, map, drop}
use Rattle.mw_outside.specs.Contents.{get}
use Rattle.mw_outside.specs.FilesInMemory.{named}
use Rattle.mw_outside.proofs.test_files.bytes_named.Given as goal

-- the files so far have other names
abbrev pub invariant-loop-file : goal.invariant-loop-file
invariant-loop-file l = get (map named (drop l.file-index l.files)) l.name ≡ get (map named l.files) l.name
