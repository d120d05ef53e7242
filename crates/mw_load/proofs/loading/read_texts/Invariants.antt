use Rattle.std.proofs.Common.{◌≡◌, map}
use Rattle.std.specs.Prelude.{IfSome, string_bytes}
use Rattle.mw_load.specs.Loading.{AreSmall, placed, text_of}
use Rattle.mw_text.proofs.Reading.{EachTo}
use Rattle.mw_load.proofs.loading.read_texts.Given as goal

-- contents are kept and no read failed; the texts so far are those of the names so far, and have few enough bytes
abbrev pub invariant-loop-i : goal.invariant-loop-i
invariant-loop-i g l =
    (g.F.Files.contents l.files ≡ g.F.Files.contents l.initial.files) ×
    (g.F.Files.faults l.files ≡ g.F.Files.faults l.initial.files) ×
    (g.F.Files.last_failed l.files ≡ g.F.Files.last_failed l.initial.files) ×
    IfSome (g.F.Files.contents l.initial.files) (λ contents.
    EachTo (text_of contents) (placed 0 (map string_bytes l.names)) l.i l.texts-inside.items.items) ×
    AreSmall l.texts-inside.items.items
