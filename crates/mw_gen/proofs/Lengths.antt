-- How long the texts are.
use Rattle.std.proofs.Common.{◌≡◌, ◌<◌, ◌≤◌, ◌^◌, ◌∙◌, refl, ap, arith, ℕ, zero, suc, ◌+◌, ◌*◌, ◌-◌, ◌==◌, Bool, true, false, cond, List}
use Rattle.std.proofs.Common.{[], ◌∷◌, ◌++◌, length, codes, subst, sym}
use Rattle.std.specs.Fmt.{decimal}
use Rattle.std.proofs.lemmas.Fmt.{length-decimal-le}
use Rattle.std.proofs.lemmas.List.{length-append}
use Rattle.std.proofs.lemmas.List.Concat.{length-flat_map}
use Rattle.mw_gen.specs.declared.TheConstants.{DENIED_PORTS}
use Rattle.mw_gen.specs.Ring.{deny_line, deny_text, head_text, interface_text, interfaces_text, joined, link_before}
use Rattle.mw_gen.specs.Ring.{loopback_text, newline, question_text, router_text}

digits_short : (n : ℕ) → n < 2 ^ 64 → length (decimal n) ≤ 20
digits_short n small = length-decimal-le 20 n (omega arith) (omega (arith, small)) small

line_short : (port : ℕ) → port < 2 ^ 64 → length (deny_line port) ≤ 60
line_short port small =
    let long = length-flat_map (λ piece. piece) (codes "access-list 101 deny udp any any eq " ∷ decimal port ∷ newline ∷ []) in
    let digits = digits_short port small in omega (arith, long, digits)

denied_short : (ports : ℕ) → ports < 2 ^ 64 → length (deny_text ports) ≤ 60 * ports
unfolding deny_text
denied_short zero small = omega arith
denied_short (suc p) small =
    let long = length-append (deny_text p) (deny_line (p + 1)) in
    let before = denied_short p (omega (arith, small)) in
    let line = line_short (p + 1) (omega (arith, small)) in omega (arith, long, before, line)

before_small : (n i : ℕ) → n < 2 ^ 64 → i < 2 ^ 64 → link_before n i < 2 ^ 64
before_small n i few small = by_first (i == 1) where
  by_first : (b : Bool) → cond b n (i - 1) < 2 ^ 64
  by_first true = few
  by_first false = omega (arith, small)

interface_short : (side link : ℕ) → side < 2 ^ 64 → link < 2 ^ 64 → length (interface_text side link) ≤ 200
interface_short side link small few =
    let long = length-flat_map (λ piece. piece) (codes "interface GigabitEthernet0/" ∷ decimal side ∷ newline
    ∷ codes " ip address 10.100." ∷ decimal link ∷ codes "." ∷ decimal side ∷ codes " 255.255.255.252" ∷ newline
    ∷ codes " ip access-group 101 in" ∷ newline ∷ []) in
    let sides = digits_short side small in
    let links = digits_short link few in omega (arith, long, sides, links)

loopback_short : (i : ℕ) → i < 2 ^ 64 → length (loopback_text i) ≤ 200
loopback_short i small =
    let long = length-flat_map (λ piece. piece) (codes "interface Loopback0" ∷ newline
    ∷ codes " ip address 10.200." ∷ decimal i ∷ codes ".1 255.255.255.255" ∷ newline
    ∷ codes "router ospf 1" ∷ newline
    ∷ codes " network 10.0.0.0 0.255.255.255 area 0" ∷ newline ∷ []) in
    let digits = digits_short i small in omega (arith, long, digits)

-- a configuration is short
pub router_short : (n i : ℕ) → n < 2 ^ 64 → i < 2 ^ 64 → length (router_text n i) ≤ 10000
router_short n i few small =
    let own = length-flat_map (λ piece. piece) (codes "hostname G" ∷ decimal i ∷ newline ∷ []) in
    let digits = digits_short i small in
    let three = length-flat_map (λ piece. piece)
    (interface_text 1 i ∷ interface_text 2 (link_before n i) ∷ loopback_text i ∷ []) in
    let first = interface_short 1 i (omega arith) small in
    let second = interface_short 2 (link_before n i) (omega arith) (before_small n i few small) in
    let loopback = loopback_short i small in
    let denied = denied_short DENIED_PORTS (omega arith) in
    let whole = length-flat_map (λ piece. piece) (head_text i ∷ interfaces_text n i ∷ deny_text DENIED_PORTS
    ∷ codes "access-list 101 permit ip any any" ∷ newline ∷ []) in
    omega (arith, own, digits, three, first, second, loopback, denied, whole)

-- and so is the questions file
pub question_short : (n : ℕ) → n < 2 ^ 64 → length (question_text n) ≤ 10000
question_short n small =
    let long = length-flat_map (λ piece. piece) (codes "g1 reach from G1 to router G" ∷ decimal n
    ∷ codes " packets icmp 10.200.1.1/32 any 10.200." ∷ decimal n ∷ codes ".1/32 any failures 1" ∷ newline ∷ []) in
    let digits = digits_short n small in omega (arith, long, digits)
