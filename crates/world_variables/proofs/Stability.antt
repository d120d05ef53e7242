-- Records that are the same to the test, the bit of an entry's source, and things at places.
use Rattle.std.proofs.Common.{◌≡◌, ℕ, ◌^◌, ◌<◌, ◌≤◌, Bool, true, false, List, []}
use Rattle.std.proofs.Common.{◌∷◌, ◌++◌, Option, Some, None, refl, ap, arith, ◌∙◌}
use Rattle.std.specs.Prelude.{◌⊎◌, ◌==◌, ◌||◌, All, IfSome, option_map}
use Rattle.std.specs.Prelude.{if◌then◌else◌}
use Rattle.std.proofs.lemmas.Bool.{and_from, and_parts, eqb-true, eq-eqb, false≢true}
use Rattle.std.proofs.lemmas.List.Elements.{All-head, All-tail}
use Rattle.route_record.specs.declared.OspfKind.{OspfKind}
use Rattle.route_record.specs.declared.OspfKind.TheVariants.{Internal, Ext1, Ext2}
use Rattle.route_record.specs.declared.OspfRec.{OspfRec}
use Rattle.route_record.specs.declared.RibEntry.{RibEntry}
use Rattle.route_record.specs.declared.RibSource.{RibSource}
use Rattle.route_record.specs.declared.RibSource.TheVariants.{Connected, Static, Ebgp, Ospf, Ibgp}
use Rattle.route_record.specs.Fits.{FitsRib}
use Rattle.net_parts.specs.OspfRoutes.{kind_rank}
use Rattle.net_parts.specs.Sending.{same_record}
use Rattle.plan_places.specs.declared.places.Place.{Place}
use Rattle.plan_places.specs.Places.{is_at, item_at, place}
use Rattle.world_variables.specs.Slots.{entry_of_bit, has_dynamic, is_dynamic}
use Rattle.world_variables.specs.Slots.{same_ospf, source_with}

-- ---- the tests of equality

rank_is : (a b : OspfKind) → kind_rank a ≡ kind_rank b → a ≡ b
rank_is Internal Internal same = refl
rank_is Internal Ext1 same = absurd (omega (arith, same))
rank_is Internal Ext2 same = absurd (omega (arith, same))
rank_is Ext1 Internal same = absurd (omega (arith, same))
rank_is Ext1 Ext1 same = refl
rank_is Ext1 Ext2 same = absurd (omega (arith, same))
rank_is Ext2 Internal same = absurd (omega (arith, same))
rank_is Ext2 Ext1 same = absurd (omega (arith, same))
rank_is Ext2 Ext2 same = refl

same_record-is : (a b : OspfRec) → same_record a b ≡ true → a ≡ b
same_record-is a b same =
    let both = and_parts (kind_rank a.kind == kind_rank b.kind) _ same in
    let numbers = and_parts (a.metric == b.metric) (a.cost == b.cost) both.1 in
    let kind = rank_is a.kind b.kind (eqb-true _ _ both.0) in
    let metric = eqb-true a.metric b.metric numbers.0 in
    let cost = eqb-true a.cost b.cost numbers.1 in
    λ i. record { kind = kind i; metric = metric i; cost = cost i }

same_record-same : (a : OspfRec) → same_record a a ≡ true
same_record-same a =
    and_from _ _ (eq-eqb (kind_rank a.kind) (kind_rank a.kind) refl)
    (and_from _ _ (eq-eqb a.metric a.metric refl) (eq-eqb a.cost a.cost refl))

pub same_ospf-is : (a b : Option OspfRec) → same_ospf a b ≡ true → a ≡ b
same_ospf-is None None same = refl
same_ospf-is None (Some b) same = absurd (false≢true same)
same_ospf-is (Some a) None same = absurd (false≢true same)
same_ospf-is (Some a) (Some b) same = ap Some (same_record-is a b same)

pub same_ospf-same : (a : Option OspfRec) → same_ospf a a ≡ true
same_ospf-same None = refl
same_ospf-same (Some a) = same_record-same a

-- ---- the bit of an entry

-- a source with its own bit is itself
same_source : (source : RibSource) → source_with (is_dynamic source) source ≡ source
same_source Connected = refl
same_source Static = refl
same_source Ebgp = refl
same_source Ospf = refl
same_source Ibgp = refl

-- an entry with its own bit is itself
pub same_bit : (o : Option RibEntry) → option_map (entry_of_bit (has_dynamic o)) o ≡ o
same_bit None = refl
same_bit (Some e) = ap (λ (s : RibSource). Some (record e { source = s })) (same_source e.source)

-- ---- what fits

pub bit_fits : (bit : Bool) (o : Option RibEntry) → IfSome o FitsRib → IfSome (option_map (entry_of_bit bit) o) FitsRib
bit_fits bit None fits = tt
bit_fits bit (Some e) fits = fits

-- P is true of what is open at a place, where it is of all that is
pub item_all : {X : Type 0} (P : X → Type 0) (ps : List Place) (xs : List X) (router len : ℕ) → All P xs →
    IfSome (item_at ps xs router len) P
unfolding item_at
item_all P [] xs router len all = tt
item_all P (p ∷ ps) [] router len all = tt
item_all {X} P (p ∷ ps) (x ∷ xs) router len all =
    by (is_at router len p) (item_all P ps xs router len (All-tail P x xs all))
  where
    by : (b : Bool) → IfSome (item_at ps xs router len) P → IfSome (if b then Some x else item_at ps xs router len) P
    by true rest = All-head P x xs all
    by false rest = rest
