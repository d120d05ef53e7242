-- The sources of entries by their numbers.
use Rattle.std.proofs.Common.{◌≡◌, ℕ, Bool, true, false, if◌then◌else◌, refl, sym, arith}
use Rattle.std.specs.Prelude.{◌==◌}
use Rattle.std.specs.Option.{option_map_or}
use Rattle.std.proofs.lemmas.Bool.Decides.{nat_tests}
use Rattle.ios_ast.specs.declared.ospf.Source.{Source}
use Rattle.ios_ast.specs.declared.ospf.Source.TheVariants as source
use Rattle.route_record.specs.declared.RibSource.{RibSource}
use Rattle.route_record.specs.declared.RibSource.TheVariants.{Connected, Static, Ebgp, Ospf, Ibgp}
use Rattle.net_parts.specs.Origins.{is_from, is_ospf_entry}
use Rattle.sym_rib.specs.Into.{source_taken}
use Rattle.sym_rib.specs.Slots.{source_of_number}

pub apart : (n a b : ℕ) → (a == b) ≡ false → (n == a) ≡ true → (n == b) ≡ false
apart n a b other same = grind (arith, nat_tests)

abbrev pub chosen : Bool → Bool → Bool → Bool → RibSource
chosen a b c d = if a then Connected else (if b then Static else (if c then Ebgp else (if d then Ospf else Ibgp)))

connected : (a b c d : Bool) → is_from source.Connected (chosen a b c d) ≡ a
connected true b c d = refl
connected false true c d = refl
connected false false true d = refl
connected false false false true = refl
connected false false false false = refl

static : (a b c d : Bool) → (a ≡ true → b ≡ false) → is_from source.Static (chosen a b c d) ≡ b
static true b c d h = sym (h refl)
static false true c d h = refl
static false false true d h = refl
static false false false true h = refl
static false false false false h = refl

bgp : (asn : ℕ) (a b c d : Bool) → (a ≡ true → c ≡ false) → (b ≡ true → c ≡ false)
    → is_from (source.Bgp asn) (chosen a b c d) ≡ c
bgp asn true b c d h k = sym (h refl)
bgp asn false true c d h k = sym (k refl)
bgp asn false false true d h k = refl
bgp asn false false false true h k = refl
bgp asn false false false false h k = refl

none : (process : ℕ) (s : RibSource) → is_from (source.Ospf process) s ≡ false
none process Connected = refl
none process Static = refl
none process Ebgp = refl
none process Ospf = refl
none process Ibgp = refl

-- a line takes the entries of one number
pub source_law : (s : Source) (n : ℕ)
    → is_from s (source_of_number n) ≡ option_map_or (λ k. n == k) (source_taken s) false
source_law source.Connected n = connected (n == 0) (n == 1) (n == 2) (n == 3)
source_law source.Static n = static (n == 0) (n == 1) (n == 2) (n == 3) (apart n 0 1 refl)
source_law (source.Bgp asn) n =
    bgp asn (n == 0) (n == 1) (n == 2) (n == 3) (apart n 0 2 refl) (apart n 1 2 refl)
source_law (source.Ospf process) n = none process (source_of_number n)

ospf : (a b c d : Bool) → (a ≡ true → d ≡ false) → (b ≡ true → d ≡ false) → (c ≡ true → d ≡ false)
    → is_ospf_entry (chosen a b c d) ≡ d
ospf true b c d h k l = sym (h refl)
ospf false true c d h k l = sym (k refl)
ospf false false true d h k l = sym (l refl)
ospf false false false true h k l = refl
ospf false false false false h k l = refl

-- OSPF's own entries have number 3
pub ospf_law : (n : ℕ) → is_ospf_entry (source_of_number n) ≡ (n == 3)
ospf_law n = ospf (n == 0) (n == 1) (n == 2) (n == 3) (apart n 0 3 refl) (apart n 1 3 refl) (apart n 2 3 refl)
