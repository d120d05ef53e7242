-- What a router sends of a route that its outgoing map leaves.
use Rattle.std.proofs.Common.{◌≡◌, ◌∙◌, ◌==◌, ◌&&◌, ◌||◌, Bool, true, false, not, length, if◌then◌else◌, List, refl}
use Rattle.std.proofs.Common.{sym, ap, Option, Some, None}
use Rattle.std.specs.List.{slice_get}
use Rattle.std.specs.Option.{option_and_then, option_map}
use Rattle.ios_ast.specs.Setting.{Attributes}
use Rattle.ios_ast.specs.declared.bgp.Bgp.{Bgp}
use Rattle.ios_ast.specs.declared.bgp.Neighbour.{Neighbour}
use Rattle.ios_ast.specs.declared.file.File.{File}
use Rattle.mw_text.specs.declared.address.Addr.{Addr}
use Rattle.mw_text.specs.declared.address.Prefix.{Prefix}
use Rattle.net_parts.specs.declared.sessions.SessionEnd.{SessionEnd}
use Rattle.net_parts.specs.Sessions.{neighbour_of}
use Rattle.route_record.specs.declared.BgpMsg.{BgpMsg}
use Rattle.route_record.specs.declared.BgpRec.{BgpRec}
use Rattle.net_parts.specs.Exports as exports
use Rattle.route_record.specs.Origins.{origin_of_code}
use Rattle.route_record.proofs.OriginCodes.{code_back}
use Rattle.ios_ast.specs.Maps.{through_map}
use Rattle.net_parts.specs.Mapping.{attributes_of, with_attributes}

-- a message of what a map leaves is one of the route that it makes
then_made : {A B C : Type 0} (g : A → B) (h : A → C) (k : B → C) (found : Option A) (made : B) →
    ((a : A) → h a ≡ k (g a)) → Some made ≡ option_map g found → option_map h found ≡ Some (k made)
then_made g h k None made same e = cc
then_made g h k (Some a) made same e = let there : g a ≡ made = cc in ap Some (same a ∙ ap k there)

-- an external message carries the metric where the path was empty before, or the map sets one
abbrev keeps_metric : File → Neighbour → Prefix → BgpRec → Bool
keeps_metric file neighbour p held =
    (length held.path == 0) || exports.sets_metric file.policies neighbour.map_out p (attributes_of held)

-- the message of a route that the outgoing map leaves
abbrev message_over : List File → File → Bgp → Neighbour → SessionEnd → Addr → Prefix → BgpRec → Attributes → BgpMsg
message_over files file process neighbour end own p held r =
    if end.internal then exports.internal_message files end.router neighbour own held r
    else exports.external_message process neighbour own (keeps_metric file neighbour p held) held r

-- a message speaks of the origin alone by its code
same_message : (files : List File) (file : File) (process : Bgp) (neighbour : Neighbour) (end : SessionEnd) (own : Addr)
    (p : Prefix) (held : BgpRec) (r : Attributes) →
    message_over files file process neighbour end own p held r
    ≡ message_over files file process neighbour end own p held (attributes_of (with_attributes held r))
same_message files file process neighbour end own p held r = rw (code_back (origin_of_code r.origin)) refl

-- the router at the end has this file, process and neighbour, the route may go, and the map makes this of it
pub record IsSentBy (files : List File) (file : File) (process : Bgp) (neighbour : Neighbour) (end : SessionEnd)
    (p : Prefix)
    (held made : BgpRec) : Type 0 where
  pub in_file : slice_get files end.router ≡ Some file
  pub runs : file.bgp ≡ Some process
  pub has : neighbour_of files end ≡ Some neighbour
  pub may : exports.may_go files process end held ≡ true
  pub pass : (exports.passes_prefixes file.policies neighbour.prefix_out p
      && exports.passes_paths file.policies neighbour.filter_out held.path) ≡ true
  pub left : Some made ≡ option_map (with_attributes held)
      (through_map file.policies neighbour.map_out p (not end.internal) (attributes_of held))

-- what is sent where the route may go, the lists permit it and the map leaves it
sent_law : (files : List File) (file : File) (process : Bgp) (neighbour : Neighbour) (end : SessionEnd) (p : Prefix)
    (held made : BgpRec) (msg : BgpMsg) → exports.may_go files process end held ≡ true →
    (exports.passes_prefixes file.policies neighbour.prefix_out p
    && exports.passes_paths file.policies neighbour.filter_out held.path) ≡ true →
    Some made ≡ option_map (with_attributes held)
    (through_map file.policies neighbour.map_out p (not end.internal) (attributes_of held)) →
    msg ≡ message_over files file process neighbour end (exports.own_address files end) p held (attributes_of made) →
    Some msg ≡ exports.sent files file process neighbour end p held
sent_law files file process neighbour end p held made msg may pass left is =
    let found = through_map file.policies neighbour.map_out p (not end.internal) (attributes_of held) in
    let message = message_over files file process neighbour end (exports.own_address files end) p held in
    ap Some is
    ∙ sym (then_made (with_attributes held) message (λ rec. message (attributes_of rec)) found made
    (same_message files file process neighbour end (exports.own_address files end) p held) left)
    ∙ sym (ap (λ b. if b && (exports.passes_prefixes file.policies neighbour.prefix_out p
    && exports.passes_paths file.policies neighbour.filter_out held.path) then option_map message found else None) may
    ∙ ap (λ b. if b then option_map message found else None) pass)

-- and so what the router at an end sends, by its file, its process and its neighbour
exported_law : (files : List File) (file : File) (process : Bgp) (neighbour : Neighbour) (end : SessionEnd) (p : Prefix)
    (held made : BgpRec) (msg : BgpMsg) → IsSentBy files file process neighbour end p held made →
    msg ≡ message_over files file process neighbour end (exports.own_address files end) p held (attributes_of made) →
    Some msg ≡ exports.exported files end p held
unfolding exports.exported
exported_law files file process neighbour end p held made msg by is =
    sent_law files file process neighbour end p held made msg by.may by.pass by.left is
    ∙ sym (ap (option_and_then (λ f. option_and_then (λ b. option_and_then (λ n.
    exports.sent files f b n end p held) (neighbour_of files end)) f.bgp)) by.in_file
    ∙ ap (option_and_then
    (λ b. option_and_then (λ n. exports.sent files file b n end p held) (neighbour_of files end))) by.runs
    ∙ ap (option_and_then (λ n. exports.sent files file process n end p held)) by.has)

-- over an internal session
pub internal_law : (files : List File) (file : File) (process : Bgp) (neighbour : Neighbour) (end : SessionEnd)
    (p : Prefix) (held made : BgpRec) (own : Addr) (msg : BgpMsg) →
    IsSentBy files file process neighbour end p held made → end.internal ≡ true → own ≡ exports.own_address files end →
    msg ≡ exports.internal_message files end.router neighbour own held (attributes_of made) →
    Some msg ≡ exports.exported files end p held
internal_law files file process neighbour end p held made own msg by internal address is =
    let r = attributes_of made in
    let own_is = exports.own_address files end in
    exported_law files file process neighbour end p held made msg by
    (is ∙ ap (λ a. exports.internal_message files end.router neighbour a held r) address
    ∙ sym (ap (λ b. if b then exports.internal_message files end.router neighbour own_is held r
    else exports.external_message process neighbour own_is (keeps_metric file neighbour p held) held r) internal))

-- over an external one
pub external_law : (files : List File) (file : File) (process : Bgp) (neighbour : Neighbour) (end : SessionEnd)
    (p : Prefix) (held made : BgpRec) (own : Addr) (keeps : Bool) (msg : BgpMsg) →
    IsSentBy files file process neighbour end p held made → end.internal ≡ false → own ≡ exports.own_address files end →
    keeps ≡ keeps_metric file neighbour p held →
    msg ≡ exports.external_message process neighbour own keeps held (attributes_of made) →
    Some msg ≡ exports.exported files end p held
external_law files file process neighbour end p held made own keeps msg by external address metric is =
    let r = attributes_of made in
    let own_is = exports.own_address files end in
    exported_law files file process neighbour end p held made msg by
    (is ∙ ap (λ a. exports.external_message process neighbour a keeps held r) address
    ∙ ap (λ k. exports.external_message process neighbour own_is k held r) metric
    ∙ sym (ap (λ b. if b then exports.internal_message files end.router neighbour own_is held r
    else exports.external_message process neighbour own_is (keeps_metric file neighbour p held) held r) external))
