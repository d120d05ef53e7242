-- What a router knows where it sends a route that it holds over a session.
use Rattle.std.specs.Prelude.{◌≡◌, List, option_and_then}
use Rattle.ios_ast.specs.declared.file.File.{File}
use Rattle.route_record.specs.declared.BgpRec.{BgpRec}
use Rattle.net_parts.specs.declared.sessions.SessionEnd.{SessionEnd}
use Rattle.net_parts.specs.Exports.{learnt_id, learnt_over, own_address, router_id}
use Rattle.proto_bgp.specs.declared.speaker.Speaker.{Speaker}

-- the speaker's address and identifiers are those at the end, and the route was learnt over that end
pub record Speaks (files : List File) (end : SessionEnd) (held : BgpRec) (speaker : Speaker) : Type 0 where
  pub address : speaker.address ≡ own_address files end
  pub id : speaker.id ≡ router_id files end.router
  pub from : speaker.from ≡ learnt_over files end.router held.from
  pub peer : speaker.peer ≡ option_and_then (learnt_id files) (learnt_over files end.router held.from)
