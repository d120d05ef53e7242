-- The longest prefix with an entry.
use Rattle.std.proofs.Common.{◌≡◌, ℕ, suc, ◌-◌, ◌+◌, ◌<◌, ◌≤◌, Some, None, refl, ap, arith, ◌∙◌}
use Rattle.std.specs.Option.{option_map_or}
use Rattle.route_record.specs.declared.RibEntry.{RibEntry}
use Rattle.route_record.specs.declared.Slot.{Slot}
use Rattle.route_record.specs.declared.Tables.{Tables}
use Rattle.question_lang.specs.Hops.{entry_at, longest_below}

longest_below-suc : (tables : Tables) (router len : ℕ) → longest_below tables router (suc len)
    ≡ option_map_or (λ found. Some (len, found.0, found.1)) (entry_at tables router len)
    (longest_below tables router len)
unfolding longest_below
longest_below-suc tables router len = refl

-- of the lengths up to 32 - shorter, the greatest comes first
longest_at : (tables : Tables) (router shorter : ℕ) → shorter < 33 → longest_below tables router (33 - shorter)
    ≡ option_map_or (λ found. Some (32 - shorter, found.0, found.1)) (entry_at tables router (32 - shorter))
    (longest_below tables router (33 - (shorter + 1)))
longest_at tables router shorter small =
    let next : 33 - shorter ≡ suc (32 - shorter) = omega arith in
    let rest : 32 - shorter ≡ 33 - (shorter + 1) = omega arith in
    ap (longest_below tables router) next ∙ longest_below-suc tables router (32 - shorter)
    ∙ ap (λ n. option_map_or (λ found. Some (32 - shorter, found.0, found.1)) (entry_at tables router (32 - shorter))
    (longest_below tables router n)) rest

pub longest_found : (tables : Tables) (router shorter : ℕ) (slot : Slot) (entry : RibEntry) → shorter < 33 →
    entry_at tables router (32 - shorter) ≡ Some (slot, entry) →
    longest_below tables router (33 - shorter) ≡ Some (32 - shorter, slot, entry)
longest_found tables router shorter slot entry small found =
    longest_at tables router shorter small
    ∙ ap (λ o. option_map_or (λ f. Some (32 - shorter, f.0, f.1)) o
    (longest_below tables router (33 - (shorter + 1)))) found

pub longest_shorter : (tables : Tables) (router shorter : ℕ) → shorter < 33 → entry_at tables router (32 - shorter)
    ≡ None →
    longest_below tables router (33 - shorter) ≡ longest_below tables router (33 - (shorter + 1))
longest_shorter tables router shorter small none =
    longest_at tables router shorter small
    ∙ ap (λ o. option_map_or (λ f. Some (32 - shorter, f.0, f.1)) o
    (longest_below tables router (33 - (shorter + 1)))) none

longest_below-zero : (tables : Tables) (router : ℕ) → longest_below tables router 0 ≡ None
unfolding longest_below
longest_below-zero tables router = refl

pub longest_end : (tables : Tables) (router shorter : ℕ) → 33 ≤ shorter → longest_below tables router (33 - shorter)
    ≡ None
longest_end tables router shorter done =
    let none : 33 - shorter ≡ 0 = omega arith in ap (longest_below tables router) none
    ∙ longest_below-zero tables router
