use Rattle.std.proofs.Common.{◌≡◌, ◌++◌, drop, map}
use Rattle.serde_json.specs.View.{view}
use Rattle.cex_json.specs.Worlds.{announcement_data}
use Rattle.cex_json.proofs.worlds.announcement_values.Given as goal

-- the values so far and those of the announcements that are left are all
abbrev pub invariant-loop-announcement : goal.invariant-loop-announcement
invariant-loop-announcement l =
    map view l.values.items ++ map (announcement_data l.net.files) (drop l.announcement-index l.announced)
    ≡ map (announcement_data l.net.files) l.announced
