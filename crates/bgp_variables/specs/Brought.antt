-- Prefix lengths at which BGP can have a route: external peers may announce one of any length (RFC 4271, section 3.1), and
-- lines of the own process give some (section 9.4; Cisco IOS, `network`, `redistribute`).
use Rattle.std.specs.Prelude.{◌==◌, ◌||◌, ℕ, Bool, false, List, length, nat_lt, slice_get, Option, None, option_and_then}
use Rattle.std.specs.Prelude.{if◌then◌else◌}
use Rattle.std.specs.List.{list_any}
use Rattle.std.specs.Option.{option_map_or}
use Rattle.ios_ast.specs.declared.bgp.Bgp.{Bgp}
use Rattle.ios_ast.specs.declared.file.File.{File}
use Rattle.net_parts.specs.Sessions.{ends_of, is_outside}

-- a `network` line of that length, or any `redistribute` line
abbrev pub may_originate : ℕ → Bgp → Bool
may_originate len process =
    nat_lt 0 (length process.redistribute) || list_any (λ line. line.prefix.len == len) process.networks

-- some router has an external peer, or may originate a route of that length
abbrev pub brings_bgp : List File → ℕ → Bool
brings_bgp files len =
    list_any (λ end. is_outside end.far) (ends_of files)
    || list_any (λ file. option_map_or (may_originate len) file.bgp false) files

-- the BGP process of a router, where its slot of that length can hold a route
abbrev pub speaker_at : List File → ℕ → ℕ → Option Bgp
speaker_at files router len =
    if brings_bgp files len then option_and_then (λ file. file.bgp) (slice_get files router) else None
