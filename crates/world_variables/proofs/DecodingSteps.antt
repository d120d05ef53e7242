-- Addresses and slots that are read from a row of values, one after another.
use Rattle.std.proofs.Common.{◌≡◌, ℕ, zero, suc, ◌+◌, ◌-◌, ◌*◌, ◌/◌, ◌^◌, ◌<◌, ◌≤◌, Bool, List, [], ◌∷◌}
use Rattle.std.proofs.Common.{◌++◌, length, Option, refl, sym, ap, subst, arith, ◌∙◌}
use Rattle.std.specs.Prelude.{All, if◌then◌else◌}
use Rattle.std.proofs.lemmas.Grind.{common_steps}
use Rattle.std.proofs.lemmas.List.{length-map}
use Rattle.std.proofs.lemmas.Nat.{pow-add, pow_pos}
use Rattle.std.proofs.Math.Nat.{div-lt_iff_lt-mul, mul-le-mul_right, mul_comm}
use Rattle.mw_text.specs.declared.address.Prefix.{Prefix}
use Rattle.mw_text.specs.Address.{block}
use Rattle.ios_ast.specs.declared.file.File.{File}
use Rattle.route_record.specs.declared.Plan.{Plan}
use Rattle.route_record.specs.declared.TheConstants.{LENGTHS}
use Rattle.plan_places.specs.declared.places.Place.{Place}
use Rattle.plan_places.specs.Places.{places_of}
use Rattle.plan_places.specs.Plans.{lens_of}
use Rattle.plan_places.proofs.PlaceSteps.{places-length}
use Rattle.slot_places.specs.declared.rooms.Room.{Room}
use Rattle.slot_places.proofs.Members.{all-from-in}
use Rattle.slot_places.proofs.PlaceLaws.{in-lens, in-places}
use Rattle.world_variables.specs.Unknowns.{rooms_at, unknown_width, unknowns_from}
use Rattle.world_variables.proofs.RoomSteps.{narrow_there}
use Rattle.world_variables.proofs.Steps.{places_at, unknowns_next, widths_next}

-- the least address of a prefix, and one of so many numbers above it
pub address_fits : (n a len : ℕ) → n < block len → a < 2 ^ 32 → n + a / block len * block len < 2 ^ 32
address_fits n a len small fits =
    let free : ℕ = 32 - len in
    let all : free + (32 - free) ≡ 32 = omega arith in
    let whole : 2 ^ 32 ≡ 2 ^ (32 - free) * 2 ^ free =
    sym (ap (λ k. 2 ^ k) all) ∙ pow-add 2 free (32 - free) ∙ mul_comm (2 ^ free) (2 ^ (32 - free)) in
    let high : a / 2 ^ free < 2 ^ (32 - free) =
    (div-lt_iff_lt-mul (pow_pos free)).1 (subst (λ k. a < k) whole fits) in
    let below : suc (a / 2 ^ free) * 2 ^ free ≤ 2 ^ (32 - free) * 2 ^ free =
    mul-le-mul_right (2 ^ free) (omega (arith, high)) in
    omega (arith, below, whole, small)

-- ---- slots

pub unknowns_none : (v : ℕ → Bool) (from : ℕ) → unknowns_from [] v from ≡ []
unfolding unknowns_from
unknowns_none v from = refl

pub length-unknowns : (rooms : List (Option Room)) (v : ℕ → Bool) (from : ℕ) →
    length (unknowns_from rooms v from) ≡ length rooms
unfolding unknowns_from
length-unknowns [] v from = refl
length-unknowns (room ∷ rooms) v from = ap suc (length-unknowns rooms v (from + unknown_width room))

-- ---- places

pub places_short : (plan : Plan) (n : ℕ) → All (λ p. p.len < LENGTHS) (places_of plan n)
places_short plan n = all-from-in (λ (p : Place). p.len < LENGTHS) (places_of plan n)
    (λ p there. (in-lens plan LENGTHS p.len (in-places (lens_of plan) n p there).1).0)

-- what is open at the places of a plan is as much as routers times lengths
pub many_unknowns : (files : List File) (destinations : Prefix) (plan : Plan) (v : ℕ → Bool) (from : ℕ) →
    length (unknowns_from (rooms_at files destinations (places_of plan (length files))) v from)
    ≡ length files * length (lens_of plan)
many_unknowns files destinations plan v from =
    length-unknowns (rooms_at files destinations (places_of plan (length files))) v from
    ∙ length-map (places_of plan (length files)) _ ∙ places-length (lens_of plan) (length files)

pub ruleset unknown_steps = (common_steps, places_at, unknowns_next, widths_next, unknowns_none, narrow_there)
