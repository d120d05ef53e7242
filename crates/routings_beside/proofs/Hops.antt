-- What packets meet by their next hops alone.
use Rattle.std.proofs.Common.{◌≡◌, ℕ, List, [], ◌∷◌, subst, sym}
use Rattle.std.specs.Prelude.{◌↔◌}
use Rattle.ios_ast.specs.declared.file.File.{File}
use Rattle.route_record.specs.declared.Tables.{Tables}
use Rattle.route_record.specs.declared.World.{World}
use Rattle.question_lang.specs.declared.question.Start.{Start}
use Rattle.question_lang.specs.declared.walk.End.{End}
use Rattle.question_lang.specs.declared.walk.Hop.{Hop}
use Rattle.question_lang.specs.Hops.{next_hops}
use Rattle.question_lang.specs.Walks.{GoesOn, IsWalkOver}
use Rattle.packet_fates.specs.declared.fate.Fate.{Fate}
use Rattle.packet_fates.specs.Fates.{HasFate}

module _ (files : List File) (world : World) (tables : Tables)
    (same : (router : ℕ) → next_hops files (record world { tables = tables }) router ≡ next_hops files world router) where
  -- the world with these tables
  abbrev with_tables : World
  with_tables = record world { tables = tables }

  hops : next_hops files with_tables ≡ next_hops files world
  hops = λ i router. same router i

  on : (stood : List Start) (end : End) → IsWalkOver files with_tables stood end → IsWalkOver files world stood end
  on [] end denied = denied
  on (start ∷ rest) end (begins, goes) =
      (begins, subst (λ (h : ℕ → List Hop). GoesOn h [] (start ∷ rest) end) hops goes)

  back : (stood : List Start) (end : End) → IsWalkOver files world stood end → IsWalkOver files with_tables stood end
  back [] end denied = denied
  back (start ∷ rest) end (begins, goes) =
      (begins, subst (λ (h : ℕ → List Hop). GoesOn h [] (start ∷ rest) end) (sym hops) goes)

  -- so are fates
  pub fates_by_hops : (start : ℕ) (fate : Fate) → HasFate files with_tables start fate ↔ HasFate files world start fate
  fates_by_hops start fate = (
    λ (walk, is, begins, ends). (walk, on walk.hops walk.end is, begins, ends),
    λ (walk, is, begins, ends). (walk, back walk.hops walk.end is, begins, ends),
  )
