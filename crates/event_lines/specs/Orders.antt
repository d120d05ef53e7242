-- What a line of an events file orders of the machine of a network.
use Rattle.std.specs.Prelude.{ℕ, ◌==◌, ◌&&◌, Bool, List, min, position, Option, Some, None, option_and_then}
use Rattle.std.specs.Prelude.{option_map, Ok, Err, Result, if◌then◌else◌}
use Rattle.std.specs.Option.{option_map_or}
use Rattle.mw_text.specs.declared.address.Addr.{Addr}
use Rattle.mw_text.specs.Address.{same_prefix}
use Rattle.mw_text.specs.Reading.{following}
use Rattle.ios_ast.specs.declared.file.File.{File}
use Rattle.ios_policy_reader.specs.declared.cause.Cause.{Cause}
use Rattle.ios_policy_reader.specs.declared.cause.Cause.TheVariants.{UnknownCommand}
use Rattle.ios_policy_reader.specs.declared.said.Said.{Said}
use Rattle.ios_policy_reader.specs.declared.said.Tag.TheVariants.{Address, Community, Metric, Number, Origin, Peer}
use Rattle.ios_policy_reader.specs.declared.said.Tag.TheVariants.{Remote, Router}
use Rattle.ios_policy_reader.specs.Said.{address_under, has_said, number_under, prefix_said}
use Rattle.ios_policy_reader.specs.Values.{numbers_under}
use Rattle.route_record.specs.declared.Announcement.{Announcement}
pub use Rattle.route_record.specs.Origins.{origin_of_code}
use Rattle.net_interfaces.specs.declared.interfaces.IfaceId.{IfaceId}
use Rattle.net_interfaces.specs.Interfaces.{owner}
use Rattle.net_parts.specs.declared.adjacencies.Adjacency.{Adjacency}
use Rattle.net_parts.specs.Exports.{is_towards}
use Rattle.net_parts.specs.Ospf.{adjacencies}
use Rattle.net_parts.specs.Sessions.{ends_of}
use Rattle.net_parts.specs.World.{links_of}
use Rattle.question_lang.specs.Naming.{router_under}
use Rattle.machine_laws.specs.declared.state.Event.{Event}
use Rattle.machine_laws.specs.declared.state.Event.TheVariants.{DeliverBgp, DeliverOspf, Decide, Announce, Cut, Mend}
use Rattle.machine_laws.specs.Sending.{is_outside_at}
use Rattle.event_lines.specs.declared.heads.Form.{Form}
use Rattle.event_lines.specs.declared.heads.Form.TheVariants.{Destination as DestinationForm, Identify as IdentifyForm}
use Rattle.event_lines.specs.declared.heads.Form.TheVariants.{DeliverBgp as BgpForm, DeliverOspf as OspfForm}
use Rattle.event_lines.specs.declared.heads.Form.TheVariants.{Decide as DecideForm, Announce as AnnounceForm}
use Rattle.event_lines.specs.declared.heads.Form.TheVariants.{Cut as CutForm, Mend as MendForm, Run as RunForm}
use Rattle.event_lines.specs.declared.heads.Head.{Head}
use Rattle.event_lines.specs.declared.orders.Order.{Order}
use Rattle.event_lines.specs.declared.orders.Order.TheVariants.{Destination, Identify, Take, Run}
use Rattle.event_lines.specs.Grammar.{head_of, words_said}

-- ---- what is named

-- the router that a line names
abbrev pub router_said : List File → List (List ℕ) → List Said → Option ℕ
router_said files words said = router_under Router files words said

-- the session end of a router whose neighbour has that address, by its place
abbrev pub end_named : List File → ℕ → Addr → Option ℕ
end_named files router a = position (is_towards files router a) (ends_of files)

-- the end that a line names: of a router, and towards a neighbour
abbrev pub end_said : List File → List (List ℕ) → List Said → Option ℕ
end_said files words said =
    option_and_then (λ router. end_named files router (address_under Peer said (record { 0 = 0 })))
    (router_said files words said)

-- one that is towards an external peer
abbrev pub peer_said : List File → List (List ℕ) → List Said → Option ℕ
peer_said files words said =
    option_and_then (λ at. if is_outside_at files at then Some at else None) (end_said files words said)

-- over the adjacency the router receives from that interface
abbrev pub is_between : ℕ → IfaceId → Adjacency → Bool
is_between router i a = (a.from.router == router) && ((a.to.router == i.router) && (a.to.at == i.at))

-- the adjacency of a router to the interface that has the address, by its place
abbrev pub adjacency_named : List File → ℕ → Addr → Option ℕ
adjacency_named files router a =
    option_and_then (λ i. position (is_between router i) (adjacencies files)) (owner files a)

abbrev pub adjacency_said : List File → List (List ℕ) → List Said → Option ℕ
adjacency_said files words said =
    option_and_then (λ router. adjacency_named files router (address_under Peer said (record { 0 = 0 })))
    (router_said files words said)

-- the link that a line names
abbrev pub link_said : List File → List Said → Option ℕ
link_said files said = position (λ link. same_prefix link.prefix (prefix_said said)) (links_of files)

-- ---- what is announced

-- a prefix length
abbrev pub len_said : List Said → ℕ
len_said said = min (number_under Number said 0) 32

abbrev pub announcement_said : ℕ → List Said → Announcement
announcement_said end said = record {
  end = end;
  len = len_said said;
  path = numbers_under Remote said;
  med = number_under Metric said 0;
  origin = origin_of_code (number_under Origin said 0);
  communities = numbers_under Community said;
}

-- without a path it is withdrawn
abbrev pub announced_said : ℕ → List Said → Option Announcement
announced_said end said = if has_said Remote said then Some (announcement_said end said) else None

-- ---- orders

-- what a line of that form orders, by what its words say; an event of what is not there is none
abbrev pub order_of : List File → Form → List (List ℕ) → List Said → Order
order_of files DestinationForm words said = Destination (address_under Address said (record { 0 = 0 }))
order_of files IdentifyForm words said =
    Identify (peer_said files words said) (address_under Address said (record { 0 = 0 }))
order_of files BgpForm words said = Take (option_map DeliverBgp (end_said files words said))
order_of files OspfForm words said = Take (option_map DeliverOspf (adjacency_said files words said))
order_of files DecideForm words said =
    Take (option_map (λ router. Decide router (len_said said)) (router_said files words said))
order_of files AnnounceForm words said =
    Take (option_map (λ end. Announce end (len_said said) (announced_said end said)) (end_said files words said))
order_of files CutForm words said = Take (option_map Cut (link_said files said))
order_of files MendForm words said = Take (option_map Mend (link_said files said))
order_of files RunForm words said = Run (number_under Number said 0)

-- what a line of these words orders; or why it is none: it begins with no head, or a word is bad
unfoldable pub order_in : List File → List (List ℕ) → Result Order Cause
order_in files words =
    option_map_or (λ head. following (λ said. Ok (order_of files head.3 words said)) (words_said head words))
    (head_of words) (Err UnknownCommand)
