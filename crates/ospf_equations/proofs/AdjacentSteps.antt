-- What is offered over adjacencies, one after another.
use Rattle.std.proofs.Common.{◌≡◌, ℕ, ◌+◌, ◌||◌, List, [], ◌∷◌, ◌++◌, max, Option, Some, None, refl, ap, ◌∙◌}
use Rattle.std.proofs.Common.{Bool, false, true, zero, suc, ◌<◌, ◌≤◌, length, get_or, drop, sym, arith}
use Rattle.std.specs.Prelude.{if◌then◌else◌}
use Rattle.std.specs.List.{filter_map, cons_option, list_any}
use Rattle.std.specs.Option.{option_to_list}
use Rattle.std.proofs.lemmas.Grind.{common_steps}
use Rattle.std.proofs.lemmas.List.{drop_all, drop_more, append_assoc, append-nil}
use Rattle.std.proofs.Math.Bool.{or_assoc, or-false}
use Rattle.mw_text.specs.declared.address.Prefix.{Prefix}
use Rattle.route_record.specs.declared.OspfRec.{OspfRec}
use Rattle.route_record.specs.declared.Tables.{Tables}
use Rattle.net_parts.specs.OspfRoutes.{offer_over}
use Rattle.sym_rib.proofs.OneEach.{filter_map_push, items_at, list_end_push}
use Rattle.term_store.specs.Terms.{Reading, at}
use Rattle.ospf_equations.specs.Adjacent.{offer_read, offers_read, ups_end}
use Rattle.ospf_equations.specs.Levels.{has_within, is_within}
use Rattle.ospf_equations.specs.declared.adjacent.SymAdjacency.{SymAdjacency}
use Rattle.ospf_equations.proofs.LevelSteps.{far_step, near_step, within_more}

pub ups_end_push : (over : List SymAdjacency) (s : SymAdjacency) →
    ups_end (over ++ s ∷ []) ≡ max (ups_end over) (s.up.0 + 1)
ups_end_push over s = list_end_push (λ (x : SymAdjacency). x.up.0 + 1) over s

pub up_below : (over : List SymAdjacency) (i : ℕ) (d : SymAdjacency) → i < length over →
    (get_or over i d).up.0 < ups_end over
up_below [] i d within = absurd (omega arith)
up_below (s ∷ over) zero d within = omega arith
up_below (s ∷ over) (suc i) d within = let below = up_below over i d (omega arith) in omega (arith, below)

pub read_push : (w : Reading) (tables : Tables) (p : Prefix) (over : List SymAdjacency) (s : SymAdjacency) →
    offers_read w tables p (over ++ s ∷ [])
    ≡ offers_read w tables p over ++ option_to_list (if at w s.up then offer_over tables p s.adjacency else None)
unfolding offers_read
read_push w tables p over s = filter_map_push (offer_read w tables p) over s

pub read_next : (w : Reading) (tables : Tables) (p : Prefix) (s : SymAdjacency) (over : List SymAdjacency) →
    offers_read w tables p (s ∷ over)
    ≡ option_to_list (if at w s.up then offer_over tables p s.adjacency else None) ++ offers_read w tables p over
unfolding offers_read
read_next w tables p s over = one (offer_read w tables p s) (filter_map (offer_read w tables p) over) where
  one : (o : Option OspfRec) (rest : List OspfRec) → cons_option o rest ≡ option_to_list o ++ rest
  one None rest = refl
  one (Some r) rest = refl

pub read_none : (w : Reading) (tables : Tables) (p : Prefix) → offers_read w tables p [] ≡ []
unfolding offers_read
read_none w tables p = refl

-- for a loop that adds what is offered to some routes
pub ruleset read_steps = (common_steps, items_at, up_below, drop_all, read_next, read_none, append_assoc, append-nil)

pub within_next : (most : ℕ) (w : Reading) (tables : Tables) (p : Prefix) (s : SymAdjacency)
    (over : List SymAdjacency) →
    list_any (is_within most) (offers_read w tables p (s ∷ over))
    ≡ (has_within most (if at w s.up then offer_over tables p s.adjacency else None)
    || list_any (is_within most) (offers_read w tables p over))
within_next most w tables p s over =
    ap (list_any (is_within most)) (read_next w tables p s over)
    ∙ one (if at w s.up then offer_over tables p s.adjacency else None)
  where
    one : (o : Option OspfRec) → list_any (is_within most) (option_to_list o ++ offers_read w tables p over)
        ≡ (has_within most o || list_any (is_within most) (offers_read w tables p over))
    one None = refl
    one (Some r) = refl

pub within_none : (most : ℕ) (w : Reading) (tables : Tables) (p : Prefix) →
    list_any (is_within most) (offers_read w tables p []) ≡ false
within_none most w tables p = ap (list_any (is_within most)) (read_none w tables p)

-- for a loop over whether one offer is within a limit
pub ruleset within_steps = (common_steps, items_at, up_below, drop_all, within_next, within_none, or_assoc, or-false)

-- ---- over each adjacency a limit that is no less, or no more

-- one of all within the limit is one so far, this one within its limit, or one that is left
pub near_next : (w : Reading) (tables : Tables) (p : Prefix) (over : List SymAdjacency) (i : ℕ) (d : SymAdjacency)
    (most limit : ℕ) (any here : Bool) → i < length over → most ≤ limit →
    here ≡ has_within limit (offer_read w tables p (get_or over i d)) →
    (list_any (is_within most) (offers_read w tables p over) ≡ true →
    (any || list_any (is_within most) (offers_read w tables p (drop i over))) ≡ true) →
    list_any (is_within most) (offers_read w tables p over) ≡ true →
    ((any || here) || list_any (is_within most) (offers_read w tables p (drop (i + 1) over))) ≡ true
near_next w tables p over i d most limit any here within more same before is =
    let s = get_or over i d in
    let left = drop (i + 1) over in
    let o = offer_read w tables p s in
    near_step any here (has_within most o) (list_any (is_within most) (offers_read w tables p left))
    (list_any (is_within most) (offers_read w tables p over))
    (λ all. ap (λ b. any || b) (sym (within_next most w tables p s left))
    ∙ ap (λ xs. any || list_any (is_within most) (offers_read w tables p xs)) (sym (drop_more over i d within))
    ∙ before all)
    (λ one. same ∙ within_more most limit o more one) is

-- one so far, this one within its limit, or one that is left is one of all within the limit
pub far_next : (w : Reading) (tables : Tables) (p : Prefix) (over : List SymAdjacency) (i : ℕ) (d : SymAdjacency)
    (most limit : ℕ) (any here : Bool) → i < length over → limit ≤ most →
    here ≡ has_within limit (offer_read w tables p (get_or over i d)) →
    ((any || list_any (is_within most) (offers_read w tables p (drop i over))) ≡ true →
    list_any (is_within most) (offers_read w tables p over) ≡ true) →
    ((any || here) || list_any (is_within most) (offers_read w tables p (drop (i + 1) over))) ≡ true →
    list_any (is_within most) (offers_read w tables p over) ≡ true
far_next w tables p over i d most limit any here within less same before is =
    let s = get_or over i d in
    let left = drop (i + 1) over in
    let o = offer_read w tables p s in
    far_step any here (has_within most o) (list_any (is_within most) (offers_read w tables p left))
    (list_any (is_within most) (offers_read w tables p over))
    (λ some. before (ap (λ xs. any || list_any (is_within most) (offers_read w tables p xs)) (drop_more over i d within)
    ∙ ap (λ b. any || b) (within_next most w tables p s left) ∙ some))
    (λ it. within_more limit most o less (sym same ∙ it)) is
