-- Entries of routing tables: their sources by numbers, choices between two, and the closer of two.
use Rattle.std.proofs.Common.{◌≡◌, ℕ, Bool, true, false, not, ◌&&◌, ◌||◌, if◌then◌else◌, nat_lt, Option, Some, None}
use Rattle.std.proofs.Common.{◌≤◌, arith, refl, ap}
use Rattle.std.proofs.Common.{sym}
use Rattle.route_record.specs.declared.RibEntry.{RibEntry}
use Rattle.route_record.specs.declared.RibSource.{RibSource}
use Rattle.route_record.specs.declared.RibSource.TheVariants.{Connected, Static, Ebgp, Ospf, Ibgp}
use Rattle.sym_rib.specs.Slots.{source_of_number, number_of_source}
use Rattle.sym_rib.specs.Sources.{closer_of}

pub source_again : (source : RibSource) → source_of_number (number_of_source source) ≡ source
source_again Connected = refl
source_again Static = refl
source_again Ebgp = refl
source_again Ospf = refl
source_again Ibgp = refl

-- a choice part by part
pub chosen_entry : (c v a b : Bool) (s d sa da sb db : ℕ)
    → v ≡ (if c then a else b) → s ≡ (if c then sa else sb) → d ≡ (if c then da else db)
    → ◌≡◌ {A = Option RibEntry} (if v then Some (record { source = source_of_number s; distance = d }) else None)
    (if c then (if a then Some (record { source = source_of_number sa; distance = da }) else None)
    else (if b then Some (record { source = source_of_number sb; distance = db }) else None))
chosen_entry true v a b s d sa da sb db p q r =
    λ i. if p i then Some (record { source = source_of_number (q i); distance = r i }) else None
chosen_entry false v a b s d sa da sb db p q r =
    λ i. if p i then Some (record { source = source_of_number (q i); distance = r i }) else None

-- which of two is the closer one
pub closer_chosen : (next best : Bool) (n b : RibEntry)
    → (if next && (not best || nat_lt n.distance b.distance) then (if next then Some n else None)
    else (if best then Some b else None))
    ≡ closer_of (if best then Some b else None) (if next then Some n else None)
closer_chosen false best n b = refl
closer_chosen true false n b = refl
closer_chosen true true n b = by (nat_lt n.distance b.distance) refl
  where
    by : (c : Bool) → nat_lt n.distance b.distance ≡ c
        → (if c then Some n else Some b) ≡ (if nat_lt n.distance b.distance then Some n else Some b)
    by c e = ap (λ x. if x then Some n else Some b) (sym e)

-- the number of what is chosen is one of both
pub chosen_numbered : (c : Bool) (n a b : ℕ) → n ≡ (if c then a else b) → a ≤ 4 → b ≤ 4 → n ≤ 4
chosen_numbered true n a b is first second = omega (arith, is, first)
chosen_numbered false n a b is first second = omega (arith, is, second)
