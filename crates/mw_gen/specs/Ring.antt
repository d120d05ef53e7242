-- The texts of a generated network: a ring of routers that run OSPF, and a question about it.
use Rattle.std.specs.Prelude.{ℕ, suc, zero, ◌+◌, ◌-◌, ◌==◌, if◌then◌else◌, List, [], ◌∷◌, ◌++◌, codes}
use Rattle.std.specs.List.{flat_map}
use Rattle.std.specs.Fmt.{decimal}
use Rattle.mw_gen.specs.declared.TheConstants.{DENIED_PORTS}

-- the line feed
abbrev pub newline : List ℕ
newline = 10 ∷ []

-- pieces, one after another
abbrev pub joined : List (List ℕ) → List ℕ
joined pieces = flat_map (λ piece. piece) pieces

-- Gi
abbrev pub router_name : ℕ → List ℕ
router_name i = joined (codes "G" ∷ decimal i ∷ [])

-- link i joins router i and the next, and the last link joins the last router and the first: so the link before
-- router i of n is this
abbrev pub link_before : (n i : ℕ) → ℕ
link_before n i = if i == 1 then n else i - 1

abbrev pub head_text : ℕ → List ℕ
head_text i = joined (codes "hostname G" ∷ decimal i ∷ newline ∷ [])

-- the interface on a link at one side of it: 1 for the router of the link's number, 2 for the other
abbrev pub interface_text : (side link : ℕ) → List ℕ
interface_text side link =
    joined (codes "interface GigabitEthernet0/" ∷ decimal side ∷ newline
    ∷ codes " ip address 10.100." ∷ decimal link ∷ codes "." ∷ decimal side ∷ codes " 255.255.255.252" ∷ newline
    ∷ codes " ip access-group 101 in" ∷ newline ∷ [])

-- the loopback of router i, and its OSPF
abbrev pub loopback_text : ℕ → List ℕ
loopback_text i =
    joined (codes "interface Loopback0" ∷ newline
    ∷ codes " ip address 10.200." ∷ decimal i ∷ codes ".1 255.255.255.255" ∷ newline
    ∷ codes "router ospf 1" ∷ newline
    ∷ codes " network 10.0.0.0 0.255.255.255 area 0" ∷ newline ∷ [])

abbrev pub interfaces_text : (n i : ℕ) → List ℕ
interfaces_text n i = joined (interface_text 1 i ∷ interface_text 2 (link_before n i) ∷ loopback_text i ∷ [])

-- an entry of list 101
abbrev pub deny_line : ℕ → List ℕ
deny_line port = joined (codes "access-list 101 deny udp any any eq " ∷ decimal port ∷ newline ∷ [])

-- its first entries, which deny UDP to the ports from 1 up to that one
unfoldable pub deny_text : ℕ → List ℕ
deny_text zero = []
deny_text (suc p) = deny_text p ++ deny_line (p + 1)

-- the configuration of router i of n
abbrev pub router_text : (n i : ℕ) → List ℕ
router_text n i =
    joined (head_text i ∷ interfaces_text n i ∷ deny_text DENIED_PORTS ∷ codes "access-list 101 permit ip any any"
    ∷ newline ∷ [])

-- whether the first router reaches the last, whichever one link has failed
abbrev pub question_text : ℕ → List ℕ
question_text n =
    joined (codes "g1 reach from G1 to router G" ∷ decimal n ∷ codes " packets icmp 10.200.1.1/32 any 10.200."
    ∷ decimal n ∷ codes ".1/32 any failures 1" ∷ newline ∷ [])
