-- An end at a place is of a router of the files.
use Rattle.std.proofs.Common.{◌≡◌, ℕ, ◌<◌, List, length, Some, subst}
use Rattle.std.specs.Prelude.{All, slice_get}
use Rattle.std.proofs.lemmas.Option.{get_or_from_slice_get, slice_get_within}
use Rattle.ios_ast.specs.declared.file.File.{File}
use Rattle.net_parts.specs.declared.sessions.SessionEnd.{SessionEnd}
use Rattle.net_parts.specs.Sessions.{IsPlaced, ends_of}

pub router_within : (files : List File) (at : ℕ) (end : SessionEnd) → All (IsPlaced files) (ends_of files) →
    slice_get (ends_of files) at ≡ Some end → end.router < length files
router_within files at end placed there =
    let here : IsPlaced files end = subst (IsPlaced files) (get_or_from_slice_get (ends_of files) at end end there)
    (placed at end (slice_get_within (ends_of files) at end there)) in here.router
