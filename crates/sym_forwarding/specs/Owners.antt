-- The interface that has an address on a subnet, among some.
use Rattle.std.specs.Prelude.{ℕ, ◌==◌, ◌&&◌, Bool, List, filter}
use Rattle.std.specs.Option.{option_map_or}
use Rattle.mw_text.specs.declared.address.Addr.{Addr}
use Rattle.mw_text.specs.declared.address.Prefix.{Prefix}
use Rattle.mw_text.specs.Address.{same_prefix}
use Rattle.ios_ast.specs.declared.file.File.{File}
use Rattle.route_record.specs.declared.Failures.{Failures}
use Rattle.route_record.specs.declared.Packet.{Packet}
use Rattle.net_interfaces.specs.declared.interfaces.Addressed.{Addressed}
use Rattle.net_interfaces.specs.Interfaces.{addressed}
use Rattle.net_parts.specs.World.{is_up}
use Rattle.question_lang.specs.declared.walk.End.TheVariants.{Delivered}
use Rattle.question_lang.specs.declared.walk.Hop.{Hop}
use Rattle.question_lang.specs.declared.walk.Hop.TheVariants.{Ends}
use Rattle.question_lang.specs.Hops.{all_up, arrive, connected_hops, depart, owner_on, send_over}

-- it has the address, and that subnet
abbrev pub has_address : Prefix → Addr → Addressed → Bool
has_address subnet a x = (x.addr.0 == a.0) && same_prefix x.subnet subnet

-- in at the first of these interfaces that is up and has the address on that subnet, and else this hop
abbrev pub owner_hop : List File → Failures → Packet → Prefix → Addr → Hop → List Addressed → Hop
owner_hop files failures packet subnet a other xs =
    option_map_or (arrive files packet) (owner_on (filter (is_up files failures) xs) subnet a) other

-- over the first of these interfaces that is one of the router, up, and on a subnet that has the address
abbrev pub over_hops : List File → Failures → Packet → ℕ → Addr → List Addressed → List Hop
over_hops files failures packet router a xs =
    send_over files packet (all_up files failures)
    (filter (λ x. (x.id.router == router) && is_up files failures x) xs) a

-- out of the interface, to the router that has the destination on that subnet, or delivered there
abbrev pub delivered_hop : List File → Failures → Packet → Prefix → Addressed → Hop
delivered_hop files failures packet p x =
    depart files packet x.id (owner_hop files failures packet p packet.dst (Ends Delivered) (addressed files))

-- over the first of these interfaces that is one of the router, up, and on that subnet
abbrev pub connected_over : List File → Failures → Packet → ℕ → Prefix → List Addressed → List Hop
connected_over files failures packet router p xs =
    connected_hops files packet (all_up files failures)
    (filter (λ x. (x.id.router == router) && is_up files failures x) xs) p
