-- Where a symbolic route or message stands for one, so does what is made of it.
use Rattle.std.proofs.Common.{◌≡◌, List, Option, Some, None, refl, ap, ◌∙◌}
use Rattle.std.specs.Option.{option_and_then, option_map}
use Rattle.mw_text.specs.declared.address.Prefix.{Prefix}
use Rattle.ios_ast.specs.declared.file.File.{File}
use Rattle.route_record.specs.declared.BgpMsg.{BgpMsg}
use Rattle.route_record.specs.declared.BgpRec.{BgpRec}
use Rattle.route_record.specs.declared.tracked.Tracked.{Tracked}
use Rattle.net_parts.specs.declared.sessions.SessionEnd.{SessionEnd}
use Rattle.net_parts.specs.Exports.{exported, imported}
use Rattle.net_parts.specs.Tracked.{TracksNet}
use Rattle.route_shapes.specs.Bgp.{BgpShape, bgp_shape}
use Rattle.bgp_shapes.specs.Exporting.{shape_exported}
use Rattle.bgp_shapes.specs.Importing.{shape_imported}
use Rattle.bgp_shapes.specs.Messages.{message_shape}
use Rattle.bgp_shapes.proofs.ExportLaw.{exported_shape}
use Rattle.bgp_shapes.proofs.ImportLaw.{imported_shape}
use Rattle.bgp_shapes.proofs.TrackedLaw.{tests_tracked}

pub import_stands : (tracked : Tracked) (files : List File) (end : Option SessionEnd) (p : Prefix) →
    TracksNet files tracked → (before made : Option BgpShape) (sent : Option BgpMsg) →
    before ≡ option_map (message_shape tracked) sent →
    made ≡ option_and_then (λ s. option_and_then (λ at. shape_imported tracked files at p s) end) before →
    made ≡ option_map (bgp_shape tracked)
    (option_and_then (λ m. option_and_then (λ at. imported files at p m) end) sent)
import_stands tracked files end p tracks before made sent is made_is =
    made_is
    ∙ ap (option_and_then (λ s. option_and_then (λ at. shape_imported tracked files at p s) end)) is
    ∙ by_parts sent end
  where
    by_parts : (o : Option BgpMsg) (e : Option SessionEnd) →
        option_and_then (λ s. option_and_then (λ at. shape_imported tracked files at p s) e)
        (option_map (message_shape tracked) o)
        ≡ option_map (bgp_shape tracked)
        (option_and_then (λ m. option_and_then (λ at. imported files at p m) e) o)
    by_parts None e = refl
    by_parts (Some m) None = refl
    by_parts (Some m) (Some at) = imported_shape tracked files at p m (tests_tracked files tracked tracks)

pub export_stands : (tracked : Tracked) (files : List File) (end : Option SessionEnd) (p : Prefix) →
    TracksNet files tracked → (before made : Option BgpShape) (route : Option BgpRec) →
    before ≡ option_map (bgp_shape tracked) route →
    made ≡ option_and_then (λ s. option_and_then (λ at. shape_exported tracked files at p s) end) before →
    made ≡ option_map (message_shape tracked)
    (option_and_then (λ rec. option_and_then (λ at. exported files at p rec) end) route)
export_stands tracked files end p tracks before made route is made_is =
    made_is
    ∙ ap (option_and_then (λ s. option_and_then (λ at. shape_exported tracked files at p s) end)) is
    ∙ by_parts route end
  where
    by_parts : (o : Option BgpRec) (e : Option SessionEnd) →
        option_and_then (λ s. option_and_then (λ at. shape_exported tracked files at p s) e)
        (option_map (bgp_shape tracked) o)
        ≡ option_map (message_shape tracked)
        (option_and_then (λ rec. option_and_then (λ at. exported files at p rec) e) o)
    by_parts None e = refl
    by_parts (Some rec) None = refl
    by_parts (Some rec) (Some at) = exported_shape tracked files at p rec (tests_tracked files tracked tracks)
