-- What external peers announce, where their announcements stand in a list by external end and then by prefix length.
use Rattle.std.specs.Prelude.{ℕ, List, [], ◌∷◌, ◌++◌, drop, take, Option, option_map, if◌then◌else◌}
use Rattle.std.specs.List.{enumerate_from, filter_map}
use Rattle.mw_text.specs.declared.address.Addr.{Addr}
use Rattle.ios_ast.specs.declared.file.File.{File}
use Rattle.route_record.specs.declared.TheConstants.{LENGTHS}
use Rattle.route_record.specs.declared.tracked.Tracked.{Tracked}
use Rattle.net_parts.specs.declared.sessions.SessionEnd.{SessionEnd}
use Rattle.net_parts.specs.Sessions.{ends_of, is_outside}
use Rattle.bgp_shapes.specs.Candidates.{ShapeAnnouncement, ShapeEnvironment}
use Rattle.path_rebuild.specs.declared.ShapeRec.{ShapeRec}
use Rattle.path_rebuild.specs.Shapes.{announcement_of}

-- what one peer announces, by prefix length
abbrev pub of_end : Tracked → ℕ → List (Option ShapeRec) → List ShapeAnnouncement
of_end tracked end shapes =
    filter_map (λ e. option_map (announcement_of tracked end e.0) e.1) (enumerate_from 0 shapes)

-- what the peers of some ends announce: each external one takes the next 33
abbrev pub of_ends : Tracked → List (ℕ × SessionEnd) → List (Option ShapeRec) → List ShapeAnnouncement
of_ends tracked [] shapes = []
of_ends tracked (e ∷ rest) shapes =
    if is_outside e.1.far
    then of_end tracked e.0 (take LENGTHS shapes) ++ of_ends tracked rest (drop LENGTHS shapes)
    else of_ends tracked rest shapes

-- what all announce, with their identifiers
abbrev pub environment_of : Tracked → List File → List Addr → List (Option ShapeRec) → ShapeEnvironment
environment_of tracked files ids shapes = record {
  ids = ids;
  announced = of_ends tracked (enumerate_from 0 (ends_of files)) shapes;
}
