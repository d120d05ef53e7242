-- Without a process there is no end of a session.
use Rattle.std.proofs.Common.{◌≡◌, ℕ, ◌+◌, Bool, false, not, List, [], ◌∷◌, ◌++◌, map, filter, Option, Some, None, refl}
use Rattle.std.proofs.Common.{ap, ◌∙◌}
use Rattle.std.specs.Prelude.{◌==◌, is_some}
use Rattle.std.specs.List.{list_any}
use Rattle.std.specs.Option.{option_map_or}
use Rattle.std.proofs.lemmas.Bool.{or_parts}
use Rattle.ios_ast.specs.declared.bgp.Bgp.{Bgp}
use Rattle.ios_ast.specs.declared.file.File.{File}
use Rattle.net_interfaces.specs.declared.interfaces.Addressed.{Addressed}
use Rattle.net_interfaces.specs.Interfaces.{addressed}
use Rattle.net_parts.specs.Sessions.{end_of, ends_of, has_session, peerings, peerings_from, peerings_of}
use Rattle.net_parts.specs.Sessions.{peerings_routers, runs_bgp as has_process, sessions, speaking}
use Rattle.igp_variables.specs.Rows.{runs_bgp}

none_of_one : (all : List Addressed) (router : ℕ) (file : File) → has_process file ≡ false →
    peerings_of all router file ≡ []
none_of_one all router file none = by file.bgp none where
  by : (bgp : Option Bgp) → is_some bgp ≡ false →
      option_map_or (λ process. peerings_from
      (filter (λ x. x.id.router == router) all) router file process.asn 0 process.neighbours) bgp [] ≡ []
  by None none = refl
  by (Some process) none = cc

none_of_all : (all : List Addressed) (router : ℕ) (files : List File) → list_any has_process files ≡ false →
    peerings_routers all router files ≡ []
none_of_all all router [] none = refl
none_of_all all router (file ∷ rest) none =
    let parts = or_parts (has_process file) (list_any has_process rest) none in
    let later = none_of_all all (router + 1) rest parts.1 in
    ap (λ xs. xs ++ peerings_routers all (router + 1) rest) (none_of_one all router file parts.0) ∙ later

no_peering : (files : List File) → runs_bgp files ≡ false → peerings files ≡ []
unfolding peerings
no_peering files none = none_of_all (addressed files) 0 files none

no_session : (files : List File) → runs_bgp files ≡ false → sessions files ≡ []
unfolding sessions
no_session files none =
    ap (λ xs. filter (has_session (addressed files) xs) xs) (ap (filter (λ a. not a.shutdown)) (no_peering files none))

pub no_inner : (files : List File) → runs_bgp files ≡ false → ends_of files ≡ []
unfolding ends_of
no_inner files none = ap (λ xs. map (end_of (addressed files) xs) xs) (no_session files none)
