-- Off the slices of a plan that fits no line of the files gives anything.
use Rattle.std.proofs.Common.{◌≡◌, ℕ, ◌+◌, ◌<◌, ◌≤◌, false, List, [], length, inl, inr, sym, arith}
use Rattle.std.specs.Prelude.{◌⊎◌}
use Rattle.std.proofs.lemmas.Bool.{cases_lt}
use Rattle.mw_text.specs.declared.address.Addr.{Addr}
use Rattle.mw_text.specs.Address.{prefix_at}
use Rattle.ios_ast.specs.declared.file.File.{File}
use Rattle.route_record.specs.declared.Plan.{Plan}
use Rattle.route_record.specs.declared.TheConstants.{LENGTHS}
use Rattle.plan_places.specs.Plans.{has_slice}
use Rattle.alike_prefixes.specs.Alike.{IsBare}
use Rattle.sliced_routings.specs.Plans.{IsFittingPlan}
use Rattle.sliced_routings.proofs.Classes.{both_of}
use Rattle.sliced_routings.proofs.Fitting.{at_cuts, begins, has}
use Rattle.sliced_routings.proofs.Ranks.{place_before, start, start_between}

-- its class has more lengths than there are routers, and so more than one
pub bare_off : (files : List File) (plan : Plan) → IsFittingPlan files plan → 0 < length files → (d : Addr) (len : ℕ) →
    len < LENGTHS → has_slice plan len ≡ false → IsBare files (prefix_at d len)
bare_off files plan fits some d len short off = by (cases_lt len (start (begins plan) len + length files)) where
  first : start (begins plan) len ≤ len
  first = let low = place_before (begins plan) (λ k. false) len in omega (arith, low)

  by : (len < start (begins plan) len + length files) ⊎ (start (begins plan) len + length files ≤ len) →
      IsBare files (prefix_at d len)
  by (inl few) = let there = has files plan fits len short few in absurd cc
  by (inr past) =
      (both_of files (begins plan) (at_cuts files plan fits) d [] some (start (begins plan) len) len
      (omega (arith, past, some))
      (sym (start_between (begins plan) (λ k. false) len (start (begins plan) len) (omega arith) first))).0
