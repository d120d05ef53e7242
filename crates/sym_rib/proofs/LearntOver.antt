-- The end of a session over which a route was learnt.
use Rattle.std.proofs.Common.{◌≡◌, ℕ, ◌+◌, ◌<◌, ◌≤◌, Bool, true, false, not, ◌&&◌, if◌then◌else◌, List}
use Rattle.std.proofs.Common.{Option, Some, None, drop, get_or, length, refl, ap, ◌∙◌}
use Rattle.std.specs.Prelude.{option_map}
use Rattle.std.specs.List.{find}
use Rattle.std.specs.Option.{option_map_or}
use Rattle.std.proofs.lemmas.List.{drop_more, drop_all}
use Rattle.std.proofs.lemmas.Grind.{common_steps}
use Rattle.route_record.specs.declared.RibEntry.{RibEntry}
use Rattle.route_record.specs.declared.RibSource.TheVariants.{Ebgp, Ibgp}
use Rattle.net_parts.specs.declared.sessions.SessionEnd.{SessionEnd}
use Rattle.sym_rib.specs.Sources.{is_of_kind, entry_over}

-- what is found among the items from one on. The first half shows which item is met
pub found_at : {X : Type 0} (p g : X → Bool) (xs : List X) (i : ℕ) (d : X) → i < length xs
    → (get_or xs i d ≡ get_or xs i d)
    × (option_map_or g (find p (drop i xs)) false
    ≡ (if p (get_or xs i d) then g (get_or xs i d) else option_map_or g (find p (drop (i + 1) xs)) false))
found_at p g xs i d h = (
  refl,
  ap (λ l. option_map_or g (find p l) false) (drop_more xs i d h)
      ∙ by (p (get_or xs i d)) (get_or xs i d) (find p (drop (i + 1) xs)),
)
  where
    by : (b : Bool) (x : _) (o : Option _)
        → option_map_or g (if b then Some x else o) false ≡ (if b then g x else option_map_or g o false)
    by true x o = refl
    by false x o = refl

-- past the last item nothing is found
pub found_end : {X : Type 0} (p g : X → Bool) (xs : List X) (i : ℕ) → length xs ≤ i
    → option_map_or g (find p (drop i xs)) false ≡ false
found_end p g xs i h = ap (λ l. option_map_or g (find p l) false) (drop_all i xs h)

pub ruleset found_steps = (common_steps, found_at, found_end)

-- the entry of a route by the kind of the end over which it was learnt
pub learnt_chosen : (valid : Bool) (end : Option SessionEnd)
    → (if valid && option_map_or (is_of_kind true) end false
    then (if valid && option_map_or (is_of_kind true) end false
    then Some (record { source = Ibgp; distance = 200 }) else None)
    else (if valid && option_map_or (is_of_kind false) end false
    then Some (record { source = Ebgp; distance = 20 }) else None))
    ≡ (if valid then option_map entry_over end else None)
learnt_chosen false end = refl
learnt_chosen true None = refl
learnt_chosen true (Some end) = by end.internal
  where
    far : RibEntry
    far = record { source = Ibgp; distance = 200 }

    near : RibEntry
    near = record { source = Ebgp; distance = 20 }

    by : (b : Bool)
        → (if b then (if b then Some far else None) else (if not b then Some near else None))
        ≡ Some (if b then far else near)
    by true = refl
    by false = refl
