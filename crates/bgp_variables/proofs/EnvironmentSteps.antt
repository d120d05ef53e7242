-- Steps of the loops over identifiers and over announcements.
use Rattle.std.proofs.Common.{◌≡◌, ℕ, suc, ◌+◌, ◌-◌, ◌*◌, ◌<◌, ◌≤◌, Bool, true, false, List, [], ◌∷◌, ◌++◌, length, refl}
use Rattle.std.proofs.Common.{ap, arith, sym, subst, ◌∙◌, map, append_assoc}
use Rattle.std.specs.Prelude.{filter, max, Option, replicate, if◌then◌else◌}
use Rattle.std.proofs.lemmas.Grind.{common_steps}
use Rattle.std.proofs.lemmas.List.{length-append, length-replicate, map-append}
use Rattle.ios_ast.specs.declared.file.File.{File}
use Rattle.route_record.specs.declared.tracked.Tracked.{Tracked}
use Rattle.net_parts.specs.declared.sessions.SessionEnd.{SessionEnd}
use Rattle.net_parts.specs.Sessions.{is_outside}
use Rattle.failed_links.specs.Rows.{number_from}
use Rattle.failed_links.proofs.Steps.{grows_grown}
use Rattle.sym_rib.specs.Into.{list_end}
use Rattle.sym_policy.specs.declared.records.SymBgp.{SymBgp}
use Rattle.sym_policy.specs.Held.{bgp_end, bgp_of}
use Rattle.term_store.specs.Terms.{Reading}
use Rattle.sym_rib.proofs.OneEach.{items_at, list_end_push}
use Rattle.bgp_variables.specs.declared.rooms.BgpRoom.{BgpRoom}
use Rattle.bgp_variables.specs.Environments.{addresses_from, end_room, end_rooms, rooms_over}
use Rattle.bgp_variables.specs.Shapes.{bgp_from, bgp_width, bgps_from, bgps_width}

-- ---- so many of one thing

pub copies_next : {X : Type 0} (x : X) (n i : ℕ) → i < n → replicate (n - i) x ≡ x ∷ replicate (n - (i + 1)) x
copies_next x n i below =
    let more : n - i ≡ suc (n - (i + 1)) = omega arith in ap (λ k. replicate k x) more

pub copies_none : {X : Type 0} (x : X) (n i : ℕ) → n ≤ i → replicate (n - i) x ≡ []
copies_none x n i past =
    let none : n - i ≡ 0 = omega arith in ap (λ k. replicate k x) none

pub addresses_next : (v : ℕ → Bool) (from n i : ℕ) → i < n →
    addresses_from (n - i) v from ≡ record { 0 = number_from v from 32 } ∷ addresses_from (n - (i + 1)) v (from + 32)
unfolding addresses_from
addresses_next v from n i below =
    let more : n - i ≡ suc (n - (i + 1)) = omega arith in ap (λ k. addresses_from k v from) more

pub addresses_none : (v : ℕ → Bool) (from n i : ℕ) → n ≤ i → addresses_from (n - i) v from ≡ []
unfolding addresses_from
addresses_none v from n i past =
    let none : n - i ≡ 0 = omega arith in ap (λ k. addresses_from k v from) none

pub ruleset id_steps = (common_steps, grows_grown, list_end_push, addresses_next, addresses_none)

-- ---- routes one after another

pub bgps_next : (room : Option BgpRoom) (rooms : List (Option BgpRoom)) (v : ℕ → Bool) (from : ℕ) →
    bgps_from (room ∷ rooms) v from ≡ bgp_from room v from ∷ bgps_from rooms v (from + bgp_width room)
unfolding bgps_from
bgps_next room rooms v from = refl

pub bgps_none : (v : ℕ → Bool) (from : ℕ) → bgps_from [] v from ≡ []
unfolding bgps_from
bgps_none v from = refl

pub bgps_width_next : (room : Option BgpRoom) (rooms : List (Option BgpRoom)) →
    bgps_width (room ∷ rooms) ≡ bgp_width room + bgps_width rooms
unfolding bgps_width
bgps_width_next room rooms = refl

pub bgps_width_none : bgps_width [] ≡ 0
unfolding bgps_width
bgps_width_none = refl

pub ruleset row_steps = (
  common_steps,
  grows_grown,
  list_end_push,
  copies_next,
  copies_none,
  bgps_next,
  bgps_none,
  bgps_width_next,
  bgps_width_none,
)

-- one more route at the end
pub row_within : (made new : List SymBgp) (next : SymBgp) (m n : ℕ) → new ≡ made ++ next ∷ [] →
    list_end bgp_end made ≤ m → m ≤ n → bgp_end next ≤ n → list_end bgp_end new ≤ n
row_within made new next m n is before grown within =
    subst (λ xs. list_end bgp_end xs ≤ n) (sym is) (subst (λ k. k ≤ n) (sym (list_end_push bgp_end made next))
    (at_most (list_end bgp_end made) (bgp_end next) before within))
  where
    at_most : (a b : ℕ) → a ≤ m → b ≤ n → max a b ≤ n
    at_most a b first last = omega (arith, first, last, grown)

pub row_read : (w : Reading) (made : List SymBgp) (next : SymBgp) (room : Option BgpRoom) (from to count i : ℕ) →
    i < count → bgp_of w next ≡ bgp_from room w.variable from → to ≡ from + bgp_width room →
    map (bgp_of w) (made ++ next ∷ []) ++ bgps_from (replicate (count - (i + 1)) room) w.variable to
    ≡ map (bgp_of w) made ++ bgps_from (replicate (count - i) room) w.variable from
row_read w made next room from to count i below is to_is =
    let rest = replicate (count - (i + 1)) room in
    let front = map (bgp_of w) made in
    ap (λ ys. ys ++ bgps_from rest w.variable to) (map-append (bgp_of w) made (next ∷ []))
    ∙ append_assoc front (bgp_of w next ∷ []) (bgps_from rest w.variable to)
    ∙ ap (λ ys. front ++ ys) (ap (λ x. x ∷ bgps_from rest w.variable to) is
    ∙ ap (λ k. bgp_from room w.variable from ∷ bgps_from rest w.variable k) to_is
    ∙ sym (bgps_next room rest w.variable from)
    ∙ ap (λ rs. bgps_from rs w.variable from) (sym (copies_next room count i below)))

-- ---- over the ends of sessions

bgps_append : (xs ys : List (Option BgpRoom)) (v : ℕ → Bool) (from : ℕ) →
    bgps_from (xs ++ ys) v from ≡ bgps_from xs v from ++ bgps_from ys v (from + bgps_width xs)
unfolding bgps_from bgps_width
bgps_append [] ys v from = ap (bgps_from ys v) (omega arith)
bgps_append (x ∷ xs) ys v from =
    ap (λ rest. bgp_from x v from ∷ rest) (bgps_append xs ys v (from + bgp_width x)
    ∙ ap (λ k. bgps_from xs v (from + bgp_width x) ++ bgps_from ys v k) (omega arith))

bgps_width_append : (xs ys : List (Option BgpRoom)) → bgps_width (xs ++ ys) ≡ bgps_width xs + bgps_width ys
unfolding bgps_width
bgps_width_append [] ys = omega arith
bgps_width_append (x ∷ xs) ys = let rest = bgps_width_append xs ys in omega (arith, rest)

pub over_next : (tracked : Tracked) (files : List File) (count : ℕ) (end : SessionEnd) (ends : List SessionEnd)
    (v : ℕ → Bool) (from : ℕ) →
    bgps_from (rooms_over tracked files count (end ∷ ends)) v from
    ≡ bgps_from (end_rooms tracked files count end) v from
    ++ bgps_from (rooms_over tracked files count ends) v (from + bgps_width (end_rooms tracked files count end))
unfolding rooms_over
over_next tracked files count end ends v from =
    bgps_append (end_rooms tracked files count end) (rooms_over tracked files count ends) v from

pub over_width_next : (tracked : Tracked) (files : List File) (count : ℕ) (end : SessionEnd) (ends : List SessionEnd) →
    bgps_width (rooms_over tracked files count (end ∷ ends))
    ≡ bgps_width (end_rooms tracked files count end) + bgps_width (rooms_over tracked files count ends)
unfolding rooms_over
over_width_next tracked files count end ends =
    bgps_width_append (end_rooms tracked files count end) (rooms_over tracked files count ends)

pub over_none : (tracked : Tracked) (files : List File) (count : ℕ) (v : ℕ → Bool) (from : ℕ) →
    bgps_from (rooms_over tracked files count []) v from ≡ []
unfolding rooms_over bgps_from
over_none tracked files count v from = refl

pub over_width_none : (tracked : Tracked) (files : List File) (count : ℕ) →
    bgps_width (rooms_over tracked files count []) ≡ 0
unfolding rooms_over bgps_width
over_width_none tracked files count = refl

-- nothing is announced over a session between routers of the files
pub inside_none : (tracked : Tracked) (files : List File) (count : ℕ) (end : SessionEnd) (v : ℕ → Bool) (from : ℕ) →
    is_outside end.far ≡ false → bgps_from (end_rooms tracked files count end) v from ≡ []
unfolding bgps_from
inside_none tracked files count end v from inside =
    ap (λ b. bgps_from (if b then replicate count (end_room tracked files end) else []) v from) inside

pub inside_width : (tracked : Tracked) (files : List File) (count : ℕ) (end : SessionEnd) →
    is_outside end.far ≡ false → bgps_width (end_rooms tracked files count end) ≡ 0
unfolding bgps_width
inside_width tracked files count end inside =
    ap (λ b. bgps_width (if b then replicate count (end_room tracked files end) else [])) inside

pub ruleset inside_steps = (common_steps, inside_none, inside_width)

-- there are as many places as external ends times lengths
many_of : (tracked : Tracked) (files : List File) (count : ℕ) (end : SessionEnd) →
    length (end_rooms tracked files count end) ≡ (if is_outside end.far then count else 0)
many_of tracked files count end = by (is_outside end.far) where
  by : (b : Bool) → length (if b then replicate count (end_room tracked files end) else []) ≡ (if b then count else 0)
  by true = length-replicate count (end_room tracked files end)
  by false = refl

pub many_over : (tracked : Tracked) (files : List File) (count : ℕ) (ends : List SessionEnd) →
    length (rooms_over tracked files count ends) ≡ length (filter (λ end. is_outside end.far) ends) * count
unfolding rooms_over
many_over tracked files count [] = omega arith
many_over tracked files count (end ∷ ends) =
    length-append (end_rooms tracked files count end) (rooms_over tracked files count ends)
    ∙ ap (λ k. k + length (rooms_over tracked files count ends)) (many_of tracked files count end)
    ∙ by (is_outside end.far) (many_over tracked files count ends)
  where
    by : (b : Bool) → length (rooms_over tracked files count ends)
        ≡ length (filter (λ e. is_outside e.far) ends) * count →
        (if b then count else 0) + length (rooms_over tracked files count ends)
        ≡ length (if b then end ∷ filter (λ e. is_outside e.far) ends else filter (λ e. is_outside e.far) ends) * count
    by true rest = grind (arith, rest)
    by false rest = omega (arith, rest)

pub over_many_next : (tracked : Tracked) (files : List File) (count : ℕ) (end : SessionEnd) (ends : List SessionEnd) →
    length (rooms_over tracked files count (end ∷ ends))
    ≡ length (end_rooms tracked files count end) + length (rooms_over tracked files count ends)
unfolding rooms_over
over_many_next tracked files count end ends =
    length-append (end_rooms tracked files count end) (rooms_over tracked files count ends)

pub ruleset over_steps = (
  common_steps,
  grows_grown,
  items_at,
  over_next,
  over_width_next,
  over_none,
  over_width_none,
  over_many_next,
  many_over,
)
