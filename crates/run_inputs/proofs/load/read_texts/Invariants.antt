use Rattle.std.proofs.Common.{◌≡◌, map}
use Rattle.std.specs.Prelude.{IfSome}
use Rattle.run_inputs.specs.Due.{text_of}
use Rattle.run_inputs.specs.Loading.{AreSmall}
use Rattle.mw_text.proofs.Reading.{EachTo}
use Rattle.run_inputs.proofs.load.read_texts.Given as goal

-- contents are kept and no read failed; the texts so far are those of the names so far, and have few enough bytes
abbrev pub invariant-loop-name : goal.invariant-loop-name
invariant-loop-name g l =
    (g.F.Files.contents l.files ≡ g.F.Files.contents l.initial.files) ×
    (g.F.Files.faults l.files ≡ g.F.Files.faults l.initial.files) ×
    (g.F.Files.last_failed l.files ≡ g.F.Files.last_failed l.initial.files) ×
    IfSome (g.F.Files.contents l.initial.files) (λ contents.
    EachTo (text_of contents) (map (λ s. s.now) l.names) l.name-index l.texts-inside.items.items) ×
    AreSmall l.texts-inside.items.items
