-- The slots of all routers, by their places.
use Rattle.std.proofs.Common.{◌≡◌, ◌∙◌, ℕ, ◌+◌, ◌*◌, ◌/◌, ◌%◌, ◌<◌, List, length, Some, refl, ap, arith, sym, subst}
use Rattle.std.specs.Prelude.{All, slice_get}
use Rattle.std.proofs.lemmas.Option.{slice_get_within}
use Rattle.mw_text.specs.declared.address.Addr.{Addr}
use Rattle.mw_text.specs.declared.address.Prefix.{Prefix}
use Rattle.mw_text.specs.Address.{prefix_at}
use Rattle.ios_ast.specs.declared.file.File.{File}
use Rattle.route_record.specs.declared.Environment.{Environment}
use Rattle.route_record.specs.declared.Failures.{Failures}
use Rattle.route_record.specs.declared.Slot.{Slot}
use Rattle.route_record.specs.declared.Tables.{Tables}
use Rattle.route_record.specs.declared.TheConstants.{LENGTHS}
use Rattle.route_record.specs.Fits.{FitsSlot}
use Rattle.route_record.specs.Places.{slot_at}
use Rattle.net_parts.specs.Stable.{IsStableSlot, Stable}
use Rattle.stable_replay.specs.declared.differs.Differs.{Differs}
use Rattle.stable_replay.specs.declared.differs.Part.{Part}
use Rattle.stable_replay.specs.declared.differs.Part.TheVariants.{Ospf, Bgp, Rib}
use Rattle.stable_replay.specs.Differences.{IsDifferenceAt, IsFirstDifference, IsFirstUnlike, IsStableAt}

-- the slot of a router and a length is stable where that at its place is
pub stable_there : (files : List File) (d : Addr) (failures : Failures) (environment : Environment) (tables : Tables)
    (router len : ℕ) (file : File) (slot : Slot) → len < LENGTHS →
    IsStableAt files d failures environment tables (LENGTHS * router + len) →
    slice_get files router ≡ Some file → slot_at tables router len ≡ Some slot →
    IsStableSlot files failures environment tables router file (prefix_at d len) slot
stable_there files d failures environment tables router len file slot in_range stable in_file there =
    let k : ℕ = LENGTHS * router + len in
    let is_router : k / LENGTHS ≡ router = omega arith in
    let is_len : k % LENGTHS ≡ len = omega arith in
    let OfRouter : ℕ → Type 0 = λ r. IsStableSlot files failures environment tables r file (prefix_at d len) slot in
    let OfLen : ℕ → Type 0 =
    λ l. IsStableSlot files failures environment tables (k / LENGTHS) file (prefix_at d l) slot in
    subst OfRouter is_router (subst OfLen is_len
    (stable file slot (ap (λ r. slice_get files r) is_router ∙ in_file) there))

-- where all slots are stable the tables are
pub stable_everywhere : (files : List File) (d : Addr) (failures : Failures) (environment : Environment)
    (tables : Tables) →
    length tables.slots ≡ LENGTHS * length files → All FitsSlot tables.slots →
    ((k : ℕ) → k < LENGTHS * length files → IsStableAt files d failures environment tables k) →
    Stable files d failures environment tables
stable_everywhere files d failures environment tables size fits each = record {
  size = size;
  fits = fits;
  equations = λ router len file slot in_file in_range there.
      let within : router < length files = slice_get_within files router file in_file in
      stable_there files d failures environment tables router len file slot in_range
      (each (LENGTHS * router + len) (omega arith)) in_file there;
}

-- the first place that differs is the first difference
pub first_at : (files : List File) (d : Addr) (failures : Failures) (environment : Environment) (tables : Tables)
    (place : ℕ) (differs : Differs) →
    IsDifferenceAt files d failures environment tables place differs →
    ((k : ℕ) → k < place → IsStableAt files d failures environment tables k) →
    IsFirstDifference files d failures environment tables differs
first_at files d failures environment tables place differs here before =
    let file : File = here.unlike.0 in
    let slot : Slot = here.unlike.1 in
    let placed : LENGTHS * (place / LENGTHS) + place % LENGTHS ≡ place = omega arith in
    let at : slot_at tables (place / LENGTHS) (place % LENGTHS) ≡ Some slot =
    ap (λ k. slice_get tables.slots k) placed ∙ here.unlike.3 in
    let Unlike : ℕ → ℕ → Type 0 = λ router len.
    (f : File) × (s : Slot) × (slice_get files router ≡ Some f) × (slot_at tables router len ≡ Some s)
    × IsFirstUnlike files failures environment tables router f (prefix_at d len) s differs in
    let there : Unlike (place / LENGTHS) (place % LENGTHS) = (file, slot, here.unlike.2, at, here.unlike.4) in
    record {
      len = omega (arith, here.len);
      unlike = subst (λ r. Unlike r differs.len) (sym here.router)
          (subst (λ l. Unlike (place / LENGTHS) l) (sym here.len) there);
      before = λ router len file slot in_file in_range there earlier.
          stable_there files d failures environment tables router len file slot in_range
          (before (LENGTHS * router + len) (omega (arith, earlier, here.router, here.len))) in_file there;
    }

-- a slot with a difference is not stable
slot_refutes : (files : List File) (failures : Failures) (environment : Environment) (tables : Tables)
    (router : ℕ) (file : File) (p : Prefix) (slot : Slot) (differs : Differs) (part : Part) → differs.part ≡ part →
    IsFirstUnlike files failures environment tables router file p slot differs →
    IsStableSlot files failures environment tables router file p slot → ⊥
slot_refutes files failures environment tables router file p slot differs Ospf is unlike holds =
    (rw is at unlike).refuted holds.ospf
slot_refutes files failures environment tables router file p slot differs Bgp is unlike holds =
    (rw is at unlike).1.refuted holds.bgp
slot_refutes files failures environment tables router file p slot differs Rib is unlike holds =
    (rw is at unlike).2.refuted holds.rib

-- tables with a difference are not stable
pub first_refutes : (files : List File) (d : Addr) (failures : Failures) (environment : Environment) (tables : Tables)
    (differs : Differs) → IsFirstDifference files d failures environment tables differs →
    Stable files d failures environment tables → ⊥
first_refutes files d failures environment tables differs first stable =
    let file : File = first.unlike.0 in
    let slot : Slot = first.unlike.1 in
    slot_refutes files failures environment tables differs.router file
    (prefix_at d differs.len) slot differs differs.part refl
    first.unlike.4 (stable.equations differs.router differs.len file slot first.unlike.2 first.len first.unlike.3)
