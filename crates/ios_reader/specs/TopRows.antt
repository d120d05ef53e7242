-- What a top line of a router does to the draft (Cisco IOS command references).
use Rattle.std.specs.Prelude.{ℕ, ◌==◌, false, List, [], ◌∷◌, ◌++◌, length, nat_le, is_some, Some, Result, Ok, Err}
use Rattle.std.specs.Prelude.{if◌then◌else◌}
use Rattle.std.specs.List.{list_any}
use Rattle.mw_text.specs.declared.words.Line.{Line}
use Rattle.mw_text.specs.Text.{same_text}
use Rattle.ios_ast.specs.declared.file.TheConstants.{MOST_INTERFACES}
use Rattle.ios_ast.specs.declared.file.Iface.{Iface}
use Rattle.ios_policy_reader.specs.declared.cause.Cause.{Cause}
use Rattle.ios_policy_reader.specs.declared.cause.Cause.TheVariants.{BadWord, Repeated, Limit}
use Rattle.ios_policy_reader.specs.declared.heads.Row.{Row}
use Rattle.ios_policy_reader.specs.declared.heads.Row.TheVariants.{Hostname, InterfaceBlock, StaticRoute, OspfBlock}
use Rattle.ios_policy_reader.specs.declared.heads.Row.TheVariants.{BgpBlock, Banner, IgnoredBlock}
use Rattle.ios_policy_reader.specs.declared.said.Tag.TheVariants.{Name, Number}
use Rattle.ios_policy_reader.specs.declared.said.Said.{Said}
use Rattle.ios_policy_reader.specs.Said.{number_under}
use Rattle.ios_reader.specs.declared.draft.Block.TheVariants.{Interface, Ospf, Bgp, Ignored}
use Rattle.ios_reader.specs.declared.draft.Draft.{Draft}
use Rattle.ios_reader.specs.Names.{name_under}
use Rattle.ios_reader.specs.Interfaces.{new_interface, route_of}
use Rattle.ios_reader.specs.Ospf.{new_ospf}
use Rattle.ios_reader.specs.Bgp.{new_bgp}
use Rattle.ios_reader.specs.Banners.{banner_text, delimiter_of, ends_on_line, has_end}

-- a hostname is written once
abbrev pub with_hostname : Line → List Said → Draft → Result Draft Cause
with_hostname line said draft =
    if length draft.file.hostname == 0
    then Ok (record draft {
      file = record draft.file { hostname = name_under Name said line.words; hostname_line = line.number };
    })
    else Err Repeated

-- the draft with the block of a new interface open
abbrev pub in_new_interface : Iface → Draft → Draft
in_new_interface iface draft = record draft {
  file = record draft.file { interfaces = draft.file.interfaces ++ iface ∷ [] };
  block = Interface;
  seen = record draft.seen { address = false; bandwidth = false };
}

-- each interface has another name, and there are not too many
abbrev pub with_interface : Line → List Said → Draft → Result Draft Cause
with_interface line said draft =
    if list_any (λ iface. same_text iface.name (name_under Name said line.words)) draft.file.interfaces then Err
    Repeated
    else if nat_le MOST_INTERFACES (length draft.file.interfaces) then Err Limit
    else Ok (in_new_interface (new_interface line.number (name_under Name said line.words)) draft)

abbrev pub with_route : Line → List Said → Draft → Draft
with_route line said draft =
    record draft { file = record draft.file { statics = draft.file.statics ++ route_of line said ∷ [] } }

-- there is one OSPF process
abbrev pub with_ospf : ℕ → List Said → Draft → Result Draft Cause
with_ospf line said draft =
    if is_some draft.file.ospf then Err Repeated
    else Ok (record draft {
      file = record draft.file { ospf = Some (new_ospf line (number_under Number said 0)) };
      block = Ospf;
    })

-- there is one BGP process
abbrev pub with_bgp : ℕ → List Said → Draft → Result Draft Cause
with_bgp line said draft =
    if is_some draft.file.bgp then Err Repeated
    else Ok (record draft {
      file = record draft.file { bgp = Some (new_bgp line (number_under Number said 0)) };
      block = Bgp;
    })

-- A banner ends on its line, or stays open to the next line with its delimiter. Its third word is bad where it never
-- ends.
abbrev pub with_banner : Line → List Line → Draft → Result Draft Cause
with_banner line rest draft =
    if ends_on_line line.raw then Ok draft
    else if has_end (delimiter_of (banner_text line.raw)) rest
    then Ok (record draft { banner = Some (delimiter_of (banner_text line.raw)) })
    else Err (BadWord 3)

-- a top line of a router, where no block is open; a row that is ignored changes nothing
abbrev pub top_row : Row → Line → List Line → List Said → Draft → Result Draft Cause
top_row Hostname line rest said draft = with_hostname line said draft
top_row InterfaceBlock line rest said draft = with_interface line said draft
top_row StaticRoute line rest said draft = Ok (with_route line said draft)
top_row OspfBlock line rest said draft = with_ospf line.number said draft
top_row BgpBlock line rest said draft = with_bgp line.number said draft
top_row Banner line rest said draft = with_banner line rest draft
top_row IgnoredBlock line rest said draft = Ok (record draft { block = Ignored })
top_row _ line rest said draft = Ok draft
