-- What a line of the open block does to the draft.
use Rattle.std.specs.Prelude.{◌-◌, List, length, slice_get, slice_set, Some, Result, Ok, Err}
use Rattle.std.specs.Option.{option_map_or}
use Rattle.mw_text.specs.declared.words.Line.{Line}
use Rattle.ios_policy_reader.specs.declared.cause.Cause.{Cause}
use Rattle.ios_policy_reader.specs.declared.cause.Cause.TheVariants.{OutOfPlace}
use Rattle.ios_policy_reader.specs.declared.heads.Row.{Row}
use Rattle.ios_policy_reader.specs.declared.said.Said.{Said}
use Rattle.ios_ast.specs.declared.file.Iface.{Iface}
use Rattle.ios_ast.specs.declared.ospf.Ospf.{Ospf}
use Rattle.ios_ast.specs.declared.bgp.Bgp.{Bgp}
use Rattle.ios_reader.specs.declared.draft.Block.{Block}
use Rattle.ios_reader.specs.declared.draft.Block.TheVariants.{Closed, Interface, Ospf as OspfBlock, Bgp as BgpBlock}
use Rattle.ios_reader.specs.declared.draft.Block.TheVariants.{Ignored}
use Rattle.ios_reader.specs.declared.draft.Seen.{Seen}
use Rattle.ios_reader.specs.declared.draft.Draft.{Draft}
use Rattle.mw_text.specs.Reading.{following}
use Rattle.ios_reader.specs.InterfaceRows.{interface_row}
use Rattle.ios_reader.specs.OspfRows.{ospf_row}
use Rattle.ios_reader.specs.BgpRows.{bgp_row}

-- the draft with another last interface
abbrev pub last_set : Draft → Iface × Seen → Draft
last_set draft changed = record draft {
  file = record draft.file {
    interfaces = slice_set draft.file.interfaces (length draft.file.interfaces - 1) changed.0;
  };
  seen = changed.1;
}

-- a line of the block of the last interface
abbrev pub in_last_interface : Row → Line → List Said → Draft → Result Draft Cause
in_last_interface row line said draft =
    option_map_or
    (λ last. following (λ changed. Ok (last_set draft changed)) (interface_row row line said last draft.seen))
    (slice_get draft.file.interfaces (length draft.file.interfaces - 1)) (Err OutOfPlace)

abbrev pub ospf_set : Draft → Ospf × Seen → Draft
ospf_set draft changed = record draft { file = record draft.file { ospf = Some changed.0 }; seen = changed.1 }

-- a line of the block of the OSPF process
abbrev pub in_ospf : Row → Line → List Said → Draft → Result Draft Cause
in_ospf row line said draft =
    option_map_or (λ ospf. following (λ changed. Ok (ospf_set draft changed)) (ospf_row row line said ospf draft.seen))
    draft.file.ospf (Err OutOfPlace)

abbrev pub bgp_set : Draft → Bgp → Draft
bgp_set draft bgp = record draft { file = record draft.file { bgp = Some bgp } }

-- a line of the block of the BGP process
abbrev pub in_bgp : Row → Line → List Said → Draft → Result Draft Cause
in_bgp row line said draft =
    option_map_or (λ bgp. following (λ changed. Ok (bgp_set draft changed)) (bgp_row row line said bgp))
    draft.file.bgp (Err OutOfPlace)

abbrev pub block_row : Block → Row → Line → List Said → Draft → Result Draft Cause
block_row Closed row line said draft = Ok draft
block_row Interface row line said draft = in_last_interface row line said draft
block_row OspfBlock row line said draft = in_ospf row line said draft
block_row BgpBlock row line said draft = in_bgp row line said draft
block_row Ignored row line said draft = Ok draft

-- a line of the open block
abbrev pub sub_row : Row → Line → List Said → Draft → Result Draft Cause
sub_row row line said draft = block_row draft.block row line said draft
