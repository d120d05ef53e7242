-- The plan with a slice at each prefix length fits the files.
use Rattle.std.proofs.Common.{◌≡◌, ℕ, suc, ◌<◌, ◌==◌, Bool, true, List, Some, length, refl, sym, ap, ◌∙◌, arith, inr}
use Rattle.std.specs.Prelude.{min, slice_get}
use Rattle.std.specs.Option.{option_map_or}
use Rattle.std.proofs.lemmas.Bool.{eqb-true, true≢false}
use Rattle.std.proofs.lemmas.Option.{slice_get_within}
use Rattle.ios_ast.specs.declared.file.File.{File}
use Rattle.mw_text.proofs.Lists.{below_at}
use Rattle.mw_text.specs.Members.{all_below}
use Rattle.plan_places.specs.Plans.{numbers_below, single_plan}
use Rattle.route_record.specs.declared.Environment.{Environment}
use Rattle.route_record.specs.declared.TheConstants.{LENGTHS}
use Rattle.route_record.specs.declared.World.{World}
use Rattle.slot_places.proofs.PlaceLaws.{single-has}
use Rattle.sliced_routings.specs.Plans.{EndsClass, IsFittingPlan, class_at, size_of}
use Rattle.sliced_routings.specs.Slicing.{IsSliced}

-- ---- each length is a class of its own

abbrev goes_on : ℕ → Bool
goes_on len = class_at single_plan (suc len) == suc (class_at single_plan len)

all_go_on : all_below goes_on 32 ≡ true
unfolding single_plan numbers_below
all_go_on = refl

ends : (len : ℕ) → suc len < LENGTHS → EndsClass single_plan len
ends len short = eqb-true _ _ (below_at goes_on 32 len all_go_on (omega (arith, short)))

all_one : all_below (λ class. size_of single_plan class == 1) LENGTHS ≡ true
unfolding single_plan numbers_below
all_one = refl

all_alone : all_below (λ class. option_map_or (λ many. many == 1) (slice_get single_plan.slices class) true) LENGTHS ≡ true
unfolding single_plan numbers_below
all_alone = refl

many_slices : length single_plan.slices ≡ LENGTHS
unfolding single_plan
many_slices = refl

many_lengths : length single_plan.class ≡ LENGTHS
unfolding single_plan numbers_below
many_lengths = refl

first_class : class_at single_plan 0 ≡ 0
unfolding single_plan numbers_below
first_class = refl

last_class : LENGTHS ≡ suc (class_at single_plan 32)
unfolding single_plan numbers_below
last_class = refl

slices_are : (files : List File) → 0 < length files → (class many : ℕ) → slice_get single_plan.slices class ≡ Some many →
    many ≡ min (size_of single_plan class) (length files)
slices_are files some class many there =
    let within = slice_get_within single_plan.slices class many there in
    let short : class < LENGTHS = omega (arith, within, many_slices) in
    let test = below_at (λ c. option_map_or (λ m. m == 1) (slice_get single_plan.slices c) true) LENGTHS class all_alone short
    in
    let one : many ≡ 1 = eqb-true many 1 (ap (λ o. option_map_or (λ m. m == 1) o true) (sym there) ∙ test) in
    let size : size_of single_plan class ≡ 1 =
    eqb-true _ _ (below_at (λ c. size_of single_plan c == 1) LENGTHS class all_one short) in
    omega (arith, one, size, some)

pub fits_single : (files : List File) → 0 < length files → IsFittingPlan files single_plan
fits_single files some = record {
  lengths = many_lengths;
  first = first_class;
  upwards = λ len short. inr (ends len short);
  cuts = λ len short is. ends len short;
  classes = many_slices ∙ last_class;
  slices = slices_are files some;
}

-- so every routing stands at its slices
pub all_sliced : (world : World) (environment : Environment) → IsSliced single_plan world environment
all_sliced world environment len short none = absurd (true≢false (sym (single-has len short) ∙ none))
