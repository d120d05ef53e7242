-- Records whose text can be read back.
use Rattle.std.specs.Prelude.{◌≡◌, ◌<◌, ◌≤◌, ◌^◌, ◌*◌, ◌/◌, ◌==◌, ℕ, Bool, true, false, List, ◌∷◌, ◌++◌, length, All}
use Rattle.std.specs.Prelude.{IfSome, Option, Some, None, option_map, slice_get}
use Rattle.std.specs.List.{list_any}
use Rattle.std.specs.Str.{IsUtf8}
use Rattle.std.specs.Str.Lossy.{utf8_lossy}
use Rattle.mw_text.specs.declared.address.Addr.{Addr}
use Rattle.mw_text.specs.declared.address.Prefix.{Prefix}
use Rattle.mw_text.specs.Address.{prefix_at}
use Rattle.ios_ast.specs.declared.bgp.Bgp.{Bgp}
use Rattle.ios_ast.specs.declared.bgp.Neighbour.{Neighbour}
use Rattle.ios_ast.specs.declared.file.File.{File}
use Rattle.ios_ast.specs.declared.file.IfAddr.{IfAddr}
use Rattle.route_record.specs.declared.BgpRec.{BgpRec}
use Rattle.route_record.specs.declared.Learnt.{Learnt}
use Rattle.route_record.specs.declared.Learnt.TheVariants.{Local, Peer}
use Rattle.route_record.specs.declared.Slot.{Slot}
use Rattle.route_record.specs.declared.TheConstants.{LENGTHS}
use Rattle.net_parts.specs.declared.sessions.SessionEnd.{SessionEnd}
use Rattle.net_parts.specs.Exports.{is_towards}
use Rattle.net_refusals.specs.Network.{IsNetwork}
use Rattle.net_parts.specs.Sessions.{ends_of, neighbour_of}
use Rattle.net_parts.specs.World.{IsEnvironment, IsFailureSet, links_of}
use Rattle.question_lang.specs.declared.question.Question.{Question}
use Rattle.question_lang.specs.declared.question.Start.{Start}
use Rattle.question_lang.specs.declared.walk.End.{End}
use Rattle.question_lang.specs.declared.walk.End.TheVariants.{Delivered, Left, NoRoute, Discarded, DeniedIn, DeniedOut}
use Rattle.question_lang.specs.declared.walk.End.TheVariants.{Loop, Open}
use Rattle.question_lang.specs.declared.walk.Walk.{Walk}
use Rattle.question_lang.specs.Asking.{router_named}
use Rattle.question_lang.specs.Packets.{IsInSet}
use Rattle.cex_json.specs.declared.counterexample.Counterexample.{Counterexample}
use Rattle.cex_json.specs.Fields.{greatest, is_above}
use Rattle.cex_json.specs.Parts.{router_name}
use Rattle.cex_json.specs.Standings.{asks_walk}

-- P of each member of a list and of those before it
abbrev pub EachSplit : {A : Type 0} → (List A → A → Type 0) → List A → Type 0
EachSplit {A = A} P xs = (before rest : List A) (x : A) → xs ≡ before ++ x ∷ rest → P before x

-- an address of 32 bits
abbrev pub IsAddress : Addr → Type 0
IsAddress a = a.0 < 2 ^ 32

-- from the router itself, or from a neighbour with whom it has a session
abbrev pub IsLearntThere : List File → ℕ → Learnt → Type 0
IsLearntThere files router Local = Unit {0}
IsLearntThere files router (Peer a) = IsAddress a × (list_any (is_towards files router a) (ends_of files) ≡ true)

-- a BGP record of a router whose numbers and addresses fit their types, whose communities ascend, and whose path has no
-- AS 0 (RFC 7607)
pub record IsWritable (files : List File) (router : ℕ) (held : BgpRec) : Type 0 where
  pub clusters : EachSplit (λ before a. IsAddress a) held.clusters
  pub communities : EachSplit (λ before n. (is_above before n ≡ true) × (n ≤ greatest)) held.communities
  pub from : IsLearntThere files router held.from
  pub local_pref : held.local_pref ≤ greatest
  pub med : held.med ≤ greatest
  pub next_hop : IsAddress held.next_hop
  pub originator : IfSome held.originator (λ a. IsAddress a)
  pub path : EachSplit (λ before n. (0 < n) × (n ≤ greatest)) held.path
  pub weight : held.weight ≤ greatest

-- each router is found by its name as it is written: names are UTF-8, and no two routers have one
abbrev pub AreNamed : List File → Type 0
AreNamed files = (router : ℕ) → router < length files
    → router_named files (utf8_lossy (router_name files router)) ≡ Some router

-- a slot of a router whose parts can be read back
pub record IsWritableSlot (files : List File) (router : ℕ) (slot : Slot) : Type 0 where
  pub bgp : IfSome slot.bgp (IsWritable files router)
  pub ospf : IfSome slot.ospf (λ held. (held.cost ≤ greatest) × (held.metric ≤ greatest))
  pub rib : IfSome slot.rib (λ entry. entry.distance ≤ 255)

-- ---- a network that a text can speak of

-- no two members have the same key
abbrev pub AreApart : {A B : Type 0} → (A → B) → List A → Type 0
AreApart {A = A} key xs =
    (i j : ℕ) (x y : A) → slice_get xs i ≡ Some x → slice_get xs j ≡ Some y → key x ≡ key y → i ≡ j

-- texts that are UTF-8, each once, so many at most that a number of 32 bits names each place
pub record AreTexts {A : Type 0} (text : A → List ℕ) (xs : List A) : Type 0 where
  pub utf8 : All (λ x. IsUtf8 (text x)) xs
  pub once : AreApart text xs
  pub few : length xs ≤ 2 ^ 32

-- a prefix (RFC 4632, section 3.1): the bits past its length are 0
pub record IsPrefix (p : Prefix) : Type 0 where
  pub addr : IsAddress p.addr
  pub len : p.len ≤ 32
  pub cleared : prefix_at p.addr p.len ≡ p

-- a neighbour whose address and AS number fit their types
abbrev pub IsNeighbour : Neighbour → Type 0
IsNeighbour neighbour = IsAddress neighbour.addr × (neighbour.asn ≤ greatest)

-- the router of an end and the address of its neighbour
abbrev pub end_key : List File → SessionEnd → ℕ × Option Addr
end_key files end = (end.router, option_map (λ neighbour. neighbour.addr) (neighbour_of files end))

-- host names without blanks (32) and names of interfaces are told apart, links are prefixes, and no router has two
-- sessions with one address
pub record IsWritableNet (files : List File) : Type 0 where
  pub routers : AreTexts (λ file. file.hostname) files
  pub words : All (λ file. list_any (λ b. b == 32) file.hostname ≡ false) files
  pub ifaces : All (λ file. AreTexts (λ iface. iface.name) file.interfaces) files
  pub links : All (λ link. IsPrefix link.prefix) (links_of files)
  pub few_links : length (links_of files) ≤ 2 ^ 32
  pub neighbours : All (λ end. IfSome (neighbour_of files end) IsNeighbour) (ends_of files)
  pub ends : AreApart (end_key files) (ends_of files)
  pub few_ends : length (ends_of files) ≤ 2 ^ 32

-- an address of an interface with its length
abbrev pub IsOwnAddress : IfAddr → Type 0
IsOwnAddress own = IsAddress own.addr × (own.len ≤ 32)

-- neighbour lines, each with an address of its own
abbrev pub AreNeighbours : Bgp → Type 0
AreNeighbours bgp = All IsNeighbour bgp.neighbours × AreApart (λ neighbour. neighbour.addr) bgp.neighbours

-- the host name of a file is UTF-8 and has no blank
abbrev pub IsHostName : File → Type 0
IsHostName file = IsUtf8 file.hostname × (list_any (λ b. b == 32) file.hostname ≡ false)

-- the names of its interfaces are UTF-8, each once
abbrev pub HasIfaceNames : File → Type 0
HasIfaceNames file =
    All (λ iface. IsUtf8 iface.name) file.interfaces × AreApart (λ iface. iface.name) file.interfaces

-- the addresses of its interfaces fit their types
abbrev pub HasAddresses : File → Type 0
HasAddresses file = All (λ iface. IfSome iface.address IsOwnAddress) file.interfaces

-- files that are such a network
pub record AreWritableFiles (files : List File) : Type 0 where
  pub network : IsNetwork files
  pub names : All IsHostName files
  pub ifaces : All HasIfaceNames files
  pub addresses : All HasAddresses files
  pub neighbours : All (λ file. IfSome file.bgp AreNeighbours) files

-- ---- a counterexample

-- the interface at that place of a router
abbrev pub IsIfaceThere : List File → ℕ → ℕ → Type 0
IsIfaceThere files router at = (file : File) × (slice_get files router ≡ Some file) × (at < length file.interfaces)

-- where a packet stands
abbrev pub IsHopThere : List File → Start → Type 0
IsHopThere files hop = (hop.router < length files) × IfSome hop.iface (IsIfaceThere files hop.router)

-- how a walk ends
abbrev pub IsEndThere : List File → End → Type 0
IsEndThere files Delivered = Unit {0}
IsEndThere files (Left a) = IsAddress a
IsEndThere files NoRoute = Unit {0}
IsEndThere files Discarded = Unit {0}
IsEndThere files (DeniedIn id) = IsIfaceThere files id.router id.at
IsEndThere files DeniedOut = Unit {0}
IsEndThere files Loop = Unit {0}
IsEndThere files Open = Unit {0}

pub record IsWritableWalk (files : List File) (walk : Walk) : Type 0 where
  pub hops : All (IsHopThere files) walk.hops
  pub end : IsEndThere files walk.end

-- a walk stands exactly where the question asks for one
abbrev pub IsAskedWalk : List File → Bool → Option Walk → Type 0
IsAskedWalk files false walk = walk ≡ None
IsAskedWalk files true walk = (shown : Walk) × (walk ≡ Some shown) × IsWritableWalk files shown

-- what a counterexample shows of a question: a packet of its set, failed links, at most as many as it allows, and a
-- walk where it asks for one
pub record IsShownFor (files : List File) (question : Question) (cex : Counterexample) : Type 0 where
  pub packet : IsInSet question.packets cex.packet
  pub failures : IsFailureSet files question.failures cex.failures
  pub walk : IsAskedWalk files (asks_walk question.kind) cex.walk

-- tables with a slot for each router and length
pub record AreWritableTables (files : List File) (held : List Slot) : Type 0 where
  pub size : length held ≡ LENGTHS * length files
  pub slots : (place : ℕ) (slot : Slot) → slice_get held place ≡ Some slot
      → IsWritableSlot files (place / LENGTHS) slot

-- a counterexample to one of the questions about a network
pub record IsWritableCex (files : List File) (questions : List Question) (cex : Counterexample) : Type 0 where
  pub net : IsWritableNet files
  pub names : AreTexts (λ question. question.name) questions
  pub question : (question : Question) × (slice_get questions cex.question ≡ Some question)
      × IsShownFor files question cex
  pub env : IsEnvironment files cex.env
  pub tables : AreWritableTables files cex.tables.slots
