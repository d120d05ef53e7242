-- Worlds without slots.
use Rattle.std.proofs.Common.{◌≡◌, ℕ, zero, suc, ◌*◌, List, [], ◌++◌, length, refl, sym, ap, arith, ◌∙◌}
use Rattle.ios_ast.specs.declared.file.File.{File}
use Rattle.plan_places.specs.Plans.{lens_below, lens_of}
use Rattle.route_record.specs.declared.Plan.{Plan}
use Rattle.route_record.specs.declared.TheConstants.{LENGTHS}
use Rattle.sym_rib.specs.declared.slots.SymSlot.{SymSlot}

no_lens : (slices : List ℕ) (n : ℕ) → lens_below (record { class = []; slices = slices }) n ≡ []
unfolding lens_below
no_lens slices zero = refl
no_lens slices (suc n) = ap (λ l. l ++ []) (no_lens slices n)

-- where no length is of a class no slot is asked for
pub no_slots : (files : List File) (slots : List SymSlot) (plan : Plan) → slots ≡ [] → plan.class ≡ [] →
    length slots ≡ length files * length (lens_of plan)
no_slots files slots plan none unclassed =
    let of_class : List ℕ → ℕ = λ c. length files * length (lens_of (record { class = c; slices = plan.slices })) in
    let no_places : 0 ≡ length files * 0 = omega arith in
    ap length none ∙ no_places ∙ ap (λ l. length files * length l) (sym (no_lens plan.slices LENGTHS))
    ∙ ap of_class (sym unclassed)
