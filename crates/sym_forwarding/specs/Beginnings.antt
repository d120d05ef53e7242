-- What the interface of a start does with a packet.
use Rattle.std.specs.Prelude.{ℕ, ◌&&◌, not, true, false, List, Option, Some, None}
use Rattle.ios_ast.specs.declared.file.File.{File}
use Rattle.route_record.specs.declared.Failures.{Failures}
use Rattle.route_record.specs.declared.Packet.{Packet}
use Rattle.net_interfaces.specs.declared.interfaces.IfaceId.{IfaceId}
use Rattle.question_lang.specs.declared.question.Start.{Start}
use Rattle.question_lang.specs.Hops.{permits_in}
use Rattle.question_lang.specs.Walks.{is_open}
use Rattle.sym_forwarding.specs.Layers.{Beginning}

-- it is up, and its in list permits the packet or denies it
abbrev pub begins_in : List File → Failures → Packet → IfaceId → Beginning
begins_in files failures packet i = record {
  begins = is_open files failures i && permits_in files packet i;
  denied = is_open files failures i && not (permits_in files packet i);
}

-- at a router without an interface every packet may begin
abbrev pub begins_at : List File → Failures → Packet → Start → Beginning
begins_at files failures packet start = by_interface start.iface where
  by_interface : Option ℕ → Beginning
  by_interface None = record { begins = true; denied = false }
  by_interface (Some at) = begins_in files failures packet (record { router = start.router; at = at })
