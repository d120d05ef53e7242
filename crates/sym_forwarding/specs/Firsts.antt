-- What the first of some interfaces that passes a test leads to.
use Rattle.std.specs.Prelude.{◌≡◌, ℕ, ◌+◌, ◌==◌, ◌&&◌, max, Bool, List, [], ◌∷◌}
use Rattle.std.specs.List.{find, list_any}
use Rattle.std.specs.Option.{option_map_or}
use Rattle.mw_text.specs.declared.address.Addr.{Addr}
use Rattle.mw_text.specs.declared.address.Prefix.{Prefix}
use Rattle.mw_text.specs.Address.{covers}
use Rattle.ios_ast.specs.declared.file.File.{File}
use Rattle.route_record.specs.declared.Failures.{Failures}
use Rattle.route_record.specs.declared.Packet.{Packet}
use Rattle.net_interfaces.specs.declared.interfaces.Addressed.{Addressed}
use Rattle.net_parts.specs.World.{is_up}
use Rattle.question_lang.specs.declared.walk.End.{End}
use Rattle.question_lang.specs.declared.walk.Hop.{Hop}
use Rattle.question_lang.specs.Hops.{all_up, arrive, send_to}
use Rattle.term_store.specs.Terms.{Reading, at}
use Rattle.sym_forwarding.specs.declared.firsts.SymFirst.{SymFirst}
use Rattle.sym_forwarding.specs.Layers.{Forwarding}
use Rattle.sym_forwarding.specs.Owners.{has_address}
use Rattle.sym_forwarding.specs.Symbolic.{forwarding_of, forwarding_end}
use Rattle.sym_forwarding.specs.Twins.{IsTwin}

-- the hop of the first that passes the test, where one does
abbrev pub first_hop : (Addressed → Bool) → (Addressed → Hop) → List Addressed → List Hop
first_hop test hop xs = option_map_or (λ x. hop x ∷ []) (find test xs) []

-- the first value says whether one of them passes, and the forwarding sends and ends as the hop of the first does
pub record IsFirst (sought : End → Bool) (test : Addressed → Bool) (hop : Addressed → Hop) (xs : List Addressed)
    (found : Bool) (f : Forwarding) : Type 0 where
  pub any : found ≡ list_any test xs
  pub to : IsTwin sought (first_hop test hop xs) f

-- the same of what a reading makes of a symbolic one
abbrev pub IsFirstIn : Reading → (End → Bool) → (Addressed → Bool) → (Addressed → Hop) → List Addressed → SymFirst →
    Type 0
IsFirstIn w sought test hop xs s = IsFirst sought test hop xs (at w s.any) (forwarding_of w s.to)

-- the least size of a store that has all of its nodes
abbrev pub first_end : SymFirst → ℕ
first_end s = max (s.any.0 + 1) (forwarding_end s.to)

-- ---- the tests

-- the interface is up, on the subnet, and has the address
abbrev pub is_owner : List File → Failures → Prefix → Addr → Addressed → Bool
is_owner files failures subnet a x = is_up files failures x && has_address subnet a x

-- the interface is one of the router, up, and has the address on its subnet
abbrev pub reaches : List File → Failures → ℕ → Addr → Addressed → Bool
reaches files failures router a x = ((x.id.router == router) && is_up files failures x) && covers x.subnet a

-- ---- the hops

abbrev pub owner_arrives : List File → Packet → Addressed → Hop
owner_arrives files packet x = arrive files packet x.id

abbrev pub sent_to : List File → Failures → Packet → Addr → Addressed → Hop
sent_to files failures packet a x = send_to files packet (all_up files failures) x a
