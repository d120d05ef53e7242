-- The first interface that has an address on a subnet, one interface at a time.
use Rattle.std.proofs.Common.{◌≡◌, ℕ, ◌+◌, ◌<◌, Bool, true, false, ◌&&◌, cond, List, [], ◌∷◌, length, get_or}
use Rattle.std.proofs.Common.{drop, Some}
use Rattle.std.proofs.Common.{refl, ap, ◌∙◌, eqb, ◌/◌, ◌*◌, ◌-◌, ◌≤◌, arith}
use Rattle.std.specs.Prelude.{filter, option_map}
use Rattle.std.specs.List.{find}
use Rattle.std.specs.Option.{option_map_or}
use Rattle.std.proofs.lemmas.Bool.{and_parts, eqb-true, false_from_ne_true}
use Rattle.std.proofs.lemmas.List.{drop_more}
use Rattle.mw_text.specs.declared.address.Addr.{Addr}
use Rattle.mw_text.specs.declared.address.Prefix.{Prefix}
use Rattle.mw_text.specs.Address.{block, covers, prefix_at, same_prefix}
use Rattle.ios_ast.specs.declared.file.File.{File}
use Rattle.route_record.specs.declared.Failures.{Failures}
use Rattle.route_record.specs.declared.Packet.{Packet}
use Rattle.net_interfaces.specs.declared.interfaces.Addressed.{Addressed}
use Rattle.net_parts.specs.World.{is_up}
use Rattle.question_lang.specs.declared.walk.Hop.{Hop}
use Rattle.question_lang.specs.Hops.{all_up, arrive, send_to}
use Rattle.sym_forwarding.specs.Owners.{connected_over, delivered_hop, has_address, over_hops, owner_hop}
use Rattle.sym_interfaces.proofs.Networks.{network_same}

-- the first of those that pass one test which passes another
first_passing : {A B C : Type 0} (up has : A → Bool) (g : A → B) (f : B → C) (other : C) (x : A) (xs : List A) →
    option_map_or f (option_map g (find has (filter up (x ∷ xs)))) other
    ≡ cond (up x && has x) (f (g x)) (option_map_or f (option_map g (find has (filter up xs))) other)
first_passing {A} {B} {C} up has g f other x xs = by_up (up x) where
  by_has : (b : Bool) →
      option_map_or f (option_map g (cond b (Some x) (find has (filter up xs)))) other
      ≡ cond b (f (g x)) (option_map_or f (option_map g (find has (filter up xs))) other)
  by_has true = refl
  by_has false = refl

  by_up : (u : Bool) →
      option_map_or f (option_map g (find has (cond u (x ∷ filter up xs) (filter up xs)))) other
      ≡ cond (u && has x) (f (g x)) (option_map_or f (option_map g (find has (filter up xs))) other)
  by_up true = by_has (has x)
  by_up false = refl

-- a recursion over a list, one item further back
pub back : {A B : Type 0} (F : List A → B) (G : A → B → B) → ((x : A) (xs : List A) → F (x ∷ xs) ≡ G x (F xs)) →
    (xs : List A) (i : ℕ) (d : A) → 0 < i → i ≤ length xs →
    F (drop (i - 1) xs) ≡ G (get_or xs (i - 1) d) (F (drop i xs))
back F G step xs i d above within =
    let next : i - 1 + 1 ≡ i = omega arith in
    ap F (drop_more xs (i - 1) d (omega arith))
    ∙ step (get_or xs (i - 1) d) (drop (i - 1 + 1) xs)
    ∙ ap (λ j. G (get_or xs (i - 1) d) (F (drop j xs))) next

-- what stands past the end of a list of interfaces
abbrev pub no_interface : Addressed
no_interface = record {
  id = record { router = 0; at = 0 };
  addr = record { 0 = 0 };
  subnet = record { addr = record { 0 = 0 }; len = 0 };
  loopback = false;
  shutdown = false;
}

pub owner_back : (files : List File) (failures : Failures) (packet : Packet) (subnet : Prefix) (a : Addr) (other : Hop)
    (xs : List Addressed) (i : ℕ) (d : Addressed) → 0 < i → i ≤ length xs →
    owner_hop files failures packet subnet a other (drop (i - 1) xs)
    ≡ cond (is_up files failures (get_or xs (i - 1) d) && has_address subnet a (get_or xs (i - 1) d))
    (arrive files packet (get_or xs (i - 1) d).id) (owner_hop files failures packet subnet a other (drop i xs))
owner_back files failures packet subnet a other xs i d above within =
    back (owner_hop files failures packet subnet a other)
    (λ y rest. cond (is_up files failures y && has_address subnet a y) (arrive files packet y.id) rest)
    (λ y ys. first_passing (is_up files failures) (has_address subnet a) (λ z. z.id) (arrive files packet) other y ys)
    xs i d above within

-- ---- over an interface of the router

first_kept : {A C : Type 0} (up has : A → Bool) (f : A → C) (other : C) (x : A) (xs : List A) →
    option_map_or f (find has (filter up (x ∷ xs))) other
    ≡ cond (up x && has x) (f x) (option_map_or f (find has (filter up xs)) other)
first_kept {A} {C} up has f other x xs = by_up (up x) where
  by_has : (b : Bool) →
      option_map_or f (cond b (Some x) (find has (filter up xs))) other
      ≡ cond b (f x) (option_map_or f (find has (filter up xs)) other)
  by_has true = refl
  by_has false = refl

  by_up : (u : Bool) →
      option_map_or f (find has (cond u (x ∷ filter up xs) (filter up xs))) other
      ≡ cond (u && has x) (f x) (option_map_or f (find has (filter up xs)) other)
  by_up true = by_has (has x)
  by_up false = refl

pub over_back : (files : List File) (failures : Failures) (packet : Packet) (router : ℕ) (a : Addr)
    (xs : List Addressed) (i : ℕ) (d : Addressed) → 0 < i → i ≤ length xs →
    over_hops files failures packet router a (drop (i - 1) xs)
    ≡ cond ((eqb (get_or xs (i - 1) d).id.router router && is_up files failures (get_or xs (i - 1) d))
    && covers (get_or xs (i - 1) d).subnet a)
    (send_to files packet (all_up files failures) (get_or xs (i - 1) d) a ∷ [])
    (over_hops files failures packet router a (drop i xs))
over_back files failures packet router a xs i d above within =
    back (over_hops files failures packet router a)
    (λ y rest. cond ((eqb y.id.router router && is_up files failures y) && covers y.subnet a)
    (send_to files packet (all_up files failures) y a ∷ []) rest)
    (λ y ys. first_kept (λ z. eqb z.id.router router && is_up files failures z) (λ z. covers z.subnet a)
    (λ out. send_to files packet (all_up files failures) out a ∷ []) [] y ys)
    xs i d above within

-- ---- a prefix of a destination

pub covers_network : (p : Prefix) (d : Addr) (len : ℕ) → same_prefix (prefix_at p.addr len) p ≡ true →
    same_prefix p (prefix_at d len) ≡ covers p d
covers_network p d len network =
    let parts = and_parts (eqb (p.addr.0 / block len * block len) p.addr.0) (eqb len p.len) network in
    let long : len ≡ p.len = eqb-true len p.len parts.1 in
    network_same p d len network ∙ ap (λ n. eqb (d.0 / block n) (p.addr.0 / block n)) long

-- prefixes of two lengths are not
pub other_length : (p : Prefix) (d : Addr) (len : ℕ) → (p.len ≡ len → ⊥) → same_prefix p (prefix_at d len) ≡ false
other_length p d len differs =
    false_from_ne_true (same_prefix p (prefix_at d len)) (λ same.
    differs (eqb-true p.len len (and_parts (eqb p.addr.0 (d.0 / block len * block len)) (eqb p.len len) same).1))

pub connected_back : (files : List File) (failures : Failures) (packet : Packet) (router : ℕ) (p : Prefix)
    (xs : List Addressed) (i : ℕ) (d : Addressed) → 0 < i → i ≤ length xs →
    connected_over files failures packet router p (drop (i - 1) xs)
    ≡ cond ((eqb (get_or xs (i - 1) d).id.router router && is_up files failures (get_or xs (i - 1) d))
    && same_prefix (get_or xs (i - 1) d).subnet p)
    (delivered_hop files failures packet p (get_or xs (i - 1) d) ∷ [])
    (connected_over files failures packet router p (drop i xs))
connected_back files failures packet router p xs i d above within =
    back (connected_over files failures packet router p)
    (λ y rest. cond ((eqb y.id.router router && is_up files failures y) && same_prefix y.subnet p)
    (delivered_hop files failures packet p y ∷ []) rest)
    (λ y ys. first_kept (λ z. eqb z.id.router router && is_up files failures z) (λ z. same_prefix z.subnet p)
    (λ out. delivered_hop files failures packet p out ∷ []) [] y ys)
    xs i d above within
