-- A network has few session ends, so the place of one fits.
use Rattle.std.proofs.Common.{◌≡◌, ◌≤◌, true, List, length, refl, arith}
use Rattle.std.proofs.lemmas.List.{length-map}
use Rattle.std.specs.List.{list_all}
use Rattle.ios_ast.specs.declared.file.File.{File}
use Rattle.net_interfaces.specs.Interfaces.{addressed}
use Rattle.net_interfaces.specs.Limits.{keeps_limits}
use Rattle.net_parts.specs.Sessions.{end_of, ends_of, sessions}
use Rattle.net_parts.proofs.Peers.{few_sessions}

pub few_ends : (files : List File) → length files ≤ 64 → list_all keeps_limits files ≡ true
    → length (ends_of files) ≤ 4294967295
unfolding ends_of
few_ends files small few =
    omega (
      arith,
      length-map (sessions files) (end_of (addressed files) (sessions files)),
      few_sessions files (sessions files) refl small few,
    )
