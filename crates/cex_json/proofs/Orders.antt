-- Members of ascending lists stand behind those before them.
use Rattle.std.proofs.Common.{◌≡◌, ℕ, ◌-◌, ◌<◌, ◌==◌, ◌&&◌, ◌||◌, Bool, true, false, List, [], ◌∷◌, ◌++◌}
use Rattle.std.proofs.Common.{length, nat_lt, Option, Some, None, inl, inr, refl, ap, sym, ◌∙◌}
use Rattle.std.proofs.lemmas.Bool.{and_from, and_parts, eq-eqb, lt-ltb}
use Rattle.std.proofs.lemmas.Option.{slice_get_within}
use Rattle.std.proofs.Math.Bool.{or-true}
use Rattle.std.specs.List.{list_all}
use Rattle.std.specs.Option.{option_map_or}
use Rattle.std.specs.Prelude.{AllPairs, slice_get}
use Rattle.mw_text.proofs.Lists.{all_at, item_before}
use Rattle.route_record.specs.declared.Announcement.{Announcement}
use Rattle.net_parts.specs.World.{IsEarlier, ascends}
use Rattle.cex_json.specs.Fields.{is_above}
use Rattle.cex_json.specs.Surroundings.{is_later}
use Rattle.cex_json.specs.Writable.{EachSplit}
use Rattle.cex_json.proofs.Places.{item_behind, pair_at}

-- ---- numbers

below_all : (before rest : List ℕ) (n : ℕ) → ascends (before ++ n ∷ rest) ≡ true →
    list_all (λ x. nat_lt x n) before ≡ true
below_all [] rest n up = refl
below_all (a ∷ before) rest n up =
    let parts = and_parts (list_all (nat_lt a) (before ++ n ∷ rest)) (ascends (before ++ n ∷ rest)) up in
    and_from (nat_lt a n) (list_all (λ x. nat_lt x n) before)
    (all_at (nat_lt a) (before ++ n ∷ rest) (length before) n parts.0 (item_behind before rest n))
    (below_all before rest n parts.1)

above_all : (before : List ℕ) (n : ℕ) → list_all (λ x. nat_lt x n) before ≡ true → is_above before n ≡ true
above_all before n below = by_last (slice_get before (length before - 1)) refl where
  by_last : (last : Option ℕ) → slice_get before (length before - 1) ≡ last →
      option_map_or (λ x. nat_lt x n) last true ≡ true
  by_last None is = refl
  by_last (Some last) is = all_at (λ x. nat_lt x n) before (length before - 1) last below is

-- each number is above the last before it
pub ascending_split : (xs : List ℕ) → ascends xs ≡ true → EachSplit (λ before n. is_above before n ≡ true) xs
ascending_split xs up before rest n is =
    above_all before n (below_all before rest n (ap ascends (sym is) ∙ up))

-- ---- announcements

earlier_test : (last one : Announcement) → IsEarlier last one →
    (nat_lt last.end one.end || ((last.end == one.end) && nat_lt last.len one.len)) ≡ true
earlier_test last one (inl before) = rw (lt-ltb last.end one.end before) refl
earlier_test last one (inr both) =
    rw (eq-eqb last.end one.end both.0) (rw (lt-ltb last.len one.len both.1) (or-true (nat_lt last.end one.end)))

-- each announcement is later than the last before it
pub later_split : (xs : List Announcement) → AllPairs IsEarlier xs →
    EachSplit (λ before one. is_later before one.end one.len ≡ true) xs
unfolding is_later
later_split xs pairs before rest one is = by_last (slice_get before (length before - 1)) refl where
  by_last : (last : Option Announcement) → slice_get before (length before - 1) ≡ last →
      option_map_or (λ (x : Announcement). nat_lt x.end one.end || ((x.end == one.end) && nat_lt x.len one.len))
      last true ≡ true
  by_last None same = refl
  by_last (Some last) same =
      let within : length before - 1 < length before = slice_get_within before (length before - 1) last same in
      let here = ap (λ ys. slice_get ys (length before)) is ∙ item_behind before rest one in
      let there = ap (λ ys. slice_get ys (length before - 1)) is
      ∙ item_before before (one ∷ rest) (length before - 1) last same in
      earlier_test last one
      (pair_at IsEarlier xs (length before - 1) (length before) last one pairs within there here)
