-- What passes of the announcements of new variables is what their peers may announce.
use Rattle.std.proofs.Common.{◌≡◌, ℕ, zero, suc, ◌+◌, ◌^◌, ◌<◌, ◌≤◌, ◌&&◌, Bool, true, false, List, [], ◌∷◌, ◌++◌, length, map, refl}
use Rattle.std.proofs.Common.{ap, ap₂, arith, drop, inl, inr, sym, ◌∙◌, nat_lt, filter}
use Rattle.std.specs.Prelude.{◌==◌, All, AllPairs, Option, Some, None, option_map, replicate, slice_get, take, if◌then◌else◌}
use Rattle.std.specs.List.{enumerate_from, list_all}
use Rattle.std.proofs.Math.Bool.{and-true}
use Rattle.std.proofs.lemmas.Bool.{and_from, eq-eqb, lt-ltb, or_left, or_right}
use Rattle.std.proofs.lemmas.List.{drop-map, length-map, length-replicate, take-map}
use Rattle.std.proofs.Math.Seq.{take-append_seam}
use Rattle.std.proofs.Math.Seq.{drop-append_seam}
use Rattle.std.proofs.lemmas.List.Elements.{All-append, All-cons, All-head, All-nil, All-tail, All-weaker}
use Rattle.std.proofs.lemmas.List.Folds.{list_all-append, list_all-map}
use Rattle.std.proofs.lemmas.List.Sums.{list_all-from_AllPass}
use Rattle.mw_text.specs.declared.address.Addr.{Addr}
use Rattle.ios_ast.specs.declared.bgp.Neighbour.{Neighbour}
use Rattle.ios_ast.specs.declared.file.File.{File}
use Rattle.ios_ast.specs.Limits.{each_pair}
use Rattle.net_interfaces.proofs.Pairs.{first, later}
use Rattle.route_record.specs.declared.Plan.{Plan}
use Rattle.route_record.specs.declared.TheConstants.{LENGTHS}
use Rattle.route_record.specs.declared.tracked.Tracked.{Tracked}
use Rattle.net_parts.specs.declared.sessions.SessionEnd.{SessionEnd}
use Rattle.net_parts.specs.Sessions.{ends_of, external_ends, is_outside, neighbour_of}
use Rattle.route_shapes.specs.Bgp.{BgpShape}
use Rattle.bgp_shapes.specs.Candidates.{ShapeAnnouncement}
use Rattle.plan_places.specs.declared.places.Place.{Place}
use Rattle.plan_places.specs.Places.{IsBefore, place}
use Rattle.plan_places.specs.Plans.{has_slice, lens_below, lens_of}
use Rattle.question_lang.specs.declared.question.Question.{Question}
use Rattle.term_store.specs.Terms.{Reading, Store, size}
use Rattle.sym_policy.specs.declared.records.SymBgp.{SymBgp}
use Rattle.sym_policy.specs.Held.{bgp_end, bgp_of}
use Rattle.sym_rib.specs.Into.{list_end}
use Rattle.bgp_equations.specs.Environments.{HasLists}
use Rattle.announced_places.proofs.PlacedThings.{lens_ascend}
use Rattle.routing_worlds.specs.Worlds.{announced_by, environment_start}
use Rattle.routing_encoder.specs.declared.opening.OpenRouting.{OpenRouting}
use Rattle.routing_encoder.specs.Opened.{ReadsAs, StandsIn}
use Rattle.failed_links.proofs.Reading.{number_from-below}
use Rattle.announced_shapes.specs.Announcements.{is_announcement_shape}
use Rattle.net_parts.specs.World.{is_word}
use Rattle.announced_places.specs.Announced.{Ascend, made_over, places_among}
use Rattle.announced_places.specs.Environments.{announcement_of, environment_of, is_outer, stands_at}
use Rattle.announced_places.proofs.ExternalPlaces.{environment_ordered}
use Rattle.bgp_variables.specs.declared.rooms.BgpRoom.{BgpRoom}
use Rattle.bgp_variables.specs.Environments.{addresses_from, announced_from, end_room, ids_from, rooms_over}
use Rattle.bgp_variables.specs.Rooms.{announcement_room}
use Rattle.bgp_variables.specs.Shapes.{bgp_from, bgp_width, bgps_from, bgps_width, shape_from}
use Rattle.bgp_variables.proofs.OpenedTest.{opened_test}
use Rattle.shape_worlds.specs.Worlds.{is_earlier, may_be_announced}
use Rattle.routing_encoder.specs.Announced.{may_come, rows_pass}

-- ---- lists

pub rows_map : {X Y : Type 0} (test : Option Neighbour → Y → Bool) (f : X → Y) (files : List File) (count : ℕ)
    (ends : List SessionEnd) (xs : List X) →
    rows_pass (λ line x. test line (f x)) files count ends xs ≡ rows_pass test files count ends (map f xs)
unfolding rows_pass
rows_map test f files count [] xs = refl
rows_map {X} {Y} test f files count (end ∷ ends) xs =
    by (is_outside end.far) (λ ys. rows_map test f files count ends ys)
  where
    by : (b : Bool) → ((ys : List X) → rows_pass (λ line x. test line (f x)) files count ends ys
        ≡ rows_pass test files count ends (map f ys)) →
        (if b
        then list_all (λ x. test (neighbour_of files end) (f x)) (take count xs)
        && rows_pass (λ line x. test line (f x)) files count ends (drop count xs)
        else rows_pass (λ line x. test line (f x)) files count ends xs)
        ≡ (if b
        then list_all (test (neighbour_of files end)) (take count (map f xs))
        && rows_pass test files count ends (drop count (map f xs))
        else rows_pass test files count ends (map f xs))
    by true later_rows =
        ap₂ (λ x y. x && y)
        (sym (list_all-map (test (neighbour_of files end)) f (take count xs))
        ∙ ap (list_all (test (neighbour_of files end))) (sym (take-map f count xs)))
        (later_rows (drop count xs)
        ∙ ap (rows_pass test files count ends) (sym (drop-map f count xs)))
    by false later_rows = later_rows xs

made_append : {U A : Type 0} (build : ℕ → ℕ → U → A) (ps qs : List Place) (xs ys : List (Option U)) →
    length xs ≡ length ps → made_over build (ps ++ qs) (xs ++ ys) ≡ made_over build ps xs ++ made_over build qs ys
unfolding made_over
made_append build [] qs [] ys long = refl
made_append build [] qs (x ∷ xs) ys long = absurd (omega (arith, long))
made_append build (p ∷ ps) qs [] ys long = absurd (omega (arith, long))
made_append build (p ∷ ps) qs (None ∷ xs) ys long = made_append build ps qs xs ys (omega (arith, long))
made_append build (p ∷ ps) qs (Some u ∷ xs) ys long =
    ap (λ rest. build p.router p.len u ∷ rest) (made_append build ps qs xs ys (omega (arith, long)))

read_append : (xs ys : List (Option BgpRoom)) (v : ℕ → Bool) (from : ℕ) →
    bgps_from (xs ++ ys) v from ≡ bgps_from xs v from ++ bgps_from ys v (from + bgps_width xs)
unfolding bgps_from bgps_width
read_append [] ys v from = ap (bgps_from ys v) (omega arith)
read_append (x ∷ xs) ys v from =
    ap (λ rest. bgp_from x v from ∷ rest) (read_append xs ys v (from + bgp_width x)
    ∙ ap (λ k. bgps_from xs v (from + bgp_width x) ++ bgps_from ys v k) (omega arith))

read_many : (rooms : List (Option BgpRoom)) (v : ℕ → Bool) (from : ℕ) → length (bgps_from rooms v from) ≡ length rooms
unfolding bgps_from
read_many [] v from = refl
read_many (room ∷ rooms) v from = ap suc (read_many rooms v (from + bgp_width room))

-- ---- the announcements of one end

row_is : (files : List File) (tracked : Tracked) (at : ℕ) (end : SessionEnd) (line : Option Neighbour) (lens : List ℕ)
    (v : ℕ → Bool) (from : ℕ) → slice_get (ends_of files) at ≡ Some end → is_outside end.far ≡ true →
    neighbour_of files end ≡ line → All (λ n. n < LENGTHS) lens → list_all is_word tracked.communities ≡ true →
    list_all (is_announcement_shape files tracked) (made_over announcement_of (map (place at) lens)
    (bgps_from (replicate (length lens) (option_map (announcement_room tracked) line)) v from))
    ≡ list_all (may_come tracked line)
    (bgps_from (replicate (length lens) (option_map (announcement_room tracked) line)) v from)
unfolding made_over bgps_from
row_is files tracked at end line [] v from there outer is short words = refl
row_is files tracked at end None (n ∷ lens) v from there outer is short words =
    row_is files tracked at end None lens v (from + 0) there outer is (All-tail (λ m. m < LENGTHS) n lens short) words
row_is files tracked at end (Some neighbour) (n ∷ lens) v from there outer is short words =
    by (v from)
    (row_is files tracked at end (Some neighbour) lens v (from + bgp_width room) there outer is
    (All-tail (λ m. m < LENGTHS) n lens short) words)
  where
    room : Option BgpRoom
    room = Some (announcement_room tracked neighbour)

    s : BgpShape
    s = shape_from (announcement_room tracked neighbour) v (from + 1)

    others : List (Option BgpShape)
    others = bgps_from (replicate (length lens) room) v (from + bgp_width room)

    by : (b : Bool) →
        list_all (is_announcement_shape files tracked) (made_over announcement_of (map (place at) lens) others)
        ≡ list_all (may_come tracked (Some neighbour)) others →
        list_all (is_announcement_shape files tracked) (made_over announcement_of (place at n ∷ map (place at) lens)
        ((if b then Some s else None) ∷ others))
        ≡ (may_come tracked (Some neighbour) (if b then Some s else None)
        && list_all (may_come tracked (Some neighbour)) others)
    by true rest =
        ap₂ (λ x y. x && y) (opened_test files tracked at end neighbour n v (from + 1) there outer is
        (All-head (λ m. m < LENGTHS) n lens short) words) rest
    by false rest = rest

-- ---- those of all ends

over_is : (files : List File) (tracked : Tracked) (lens : List ℕ) (ends : List SessionEnd) (k : ℕ) (v : ℕ → Bool)
    (from : ℕ) → ((i : ℕ) (end : SessionEnd) → slice_get ends i ≡ Some end → slice_get (ends_of files) (k + i) ≡ Some end) →
    All (λ n. n < LENGTHS) lens → list_all is_word tracked.communities ≡ true →
    list_all (is_announcement_shape files tracked) (made_over announcement_of
    (places_among (map (λ (e : ℕ × SessionEnd). e.0) (filter is_outer (enumerate_from k ends))) lens)
    (bgps_from (rooms_over tracked files (length lens) ends) v from))
    ≡ rows_pass (may_come tracked) files (length lens) ends (bgps_from (rooms_over tracked files (length lens) ends) v from)
unfolding made_over places_among rooms_over rows_pass bgps_from
over_is files tracked lens [] k v from each short words = refl
over_is files tracked lens (end ∷ ends) k v from each short words =
    by (is_outside end.far) refl (λ start. over_is files tracked lens ends (k + 1) v start next short words)
  where
    next : (i : ℕ) (e : SessionEnd) → slice_get ends i ≡ Some e → slice_get (ends_of files) (k + 1 + i) ≡ Some e
    next i e there =
        let sum : k + 1 + i ≡ k + suc i = omega arith in
        ap (slice_get (ends_of files)) sum ∙ each (suc i) e there

    here : slice_get (ends_of files) k ≡ Some end
    here = let sum : k ≡ k + 0 = omega arith in ap (slice_get (ends_of files)) sum ∙ each zero end refl

    outer_ends : List (ℕ × SessionEnd)
    outer_ends = filter is_outer (enumerate_from (k + 1) ends)

    rooms : List (Option BgpRoom)
    rooms = rooms_over tracked files (length lens) ends

    own : List (Option BgpRoom)
    own = replicate (length lens) (end_room tracked files end)

    row : List (Option BgpShape)
    row = bgps_from own v from

    rest : List (Option BgpShape)
    rest = bgps_from rooms v (from + bgps_width own)

    long : length row ≡ length lens
    long = read_many own v from ∙ length-replicate (length lens) (end_room tracked files end)

    both : bgps_from (own ++ rooms) v from ≡ row ++ rest
    both = read_append own rooms v from

    by : (b : Bool) → is_outside end.far ≡ b →
        ((start : ℕ) → list_all (is_announcement_shape files tracked) (made_over announcement_of
        (places_among (map (λ (e : ℕ × SessionEnd). e.0) outer_ends) lens) (bgps_from rooms v start))
        ≡ rows_pass (may_come tracked) files (length lens) ends (bgps_from rooms v start)) →
        list_all (is_announcement_shape files tracked) (made_over announcement_of
        (places_among (map (λ (e : ℕ × SessionEnd). e.0) (if b then (k, end) ∷ outer_ends else outer_ends)) lens)
        (bgps_from ((if b then own else []) ++ rooms) v from))
        ≡ (if b
        then list_all (may_come tracked (neighbour_of files end))
        (take (length lens) (bgps_from ((if b then own else []) ++ rooms) v from))
        && rows_pass (may_come tracked) files (length lens) ends
        (drop (length lens) (bgps_from ((if b then own else []) ++ rooms) v from))
        else rows_pass (may_come tracked) files (length lens) ends (bgps_from ((if b then own else []) ++ rooms) v from))
    by false inner behind = behind from
    by true outer behind =
        let qs = places_among (map (λ (e : ℕ × SessionEnd). e.0) outer_ends) lens in
        let test = is_announcement_shape files tracked in
        ap (λ xs. list_all test (made_over announcement_of (map (place k) lens ++ qs) xs)) both
        ∙ ap (list_all test) (made_append announcement_of (map (place k) lens) qs row rest
        (long ∙ sym (length-map lens (place k))))
        ∙ list_all-append test (made_over announcement_of (map (place k) lens) row) (made_over announcement_of qs rest)
        ∙ ap₂ (λ x y. x && y)
        (row_is files tracked k end (neighbour_of files end) lens v from here outer refl short words)
        (behind (from + bgps_width own))
        ∙ sym (ap₂ (λ xs ys. list_all (may_come tracked (neighbour_of files end)) xs
        && rows_pass (may_come tracked) files (length lens) ends ys)
        (ap (take (length lens)) both ∙ ap (λ n. take n (row ++ rest)) (sym long) ∙ take-append_seam row rest)
        (ap (drop (length lens)) both ∙ ap (λ n. drop n (row ++ rest)) (sym long) ∙ drop-append_seam row rest))

-- ---- the environment

ids_many : (n : ℕ) (v : ℕ → Bool) (from : ℕ) → length (addresses_from n v from) ≡ n
unfolding addresses_from
ids_many zero v from = refl
ids_many (suc n) v from = ap suc (ids_many n v (from + 32))

ids_small : (n : ℕ) (v : ℕ → Bool) (from : ℕ) →
    list_all (λ (id : Addr). nat_lt id.0 (2 ^ 32)) (addresses_from n v from) ≡ true
unfolding addresses_from
ids_small zero v from = refl
ids_small (suc n) v from =
    and_from _ _ (lt-ltb _ (2 ^ 32) (number_from-below v from 32)) (ids_small n v (from + 32))

before : (a b : ShapeAnnouncement) → IsBefore (stands_at a) (stands_at b) → is_earlier a b ≡ true
before a b (inl less) =
    or_left (nat_lt a.end b.end) ((a.end == b.end) && nat_lt a.len b.len) (lt-ltb a.end b.end less)
before a b (inr (same, less)) =
    or_right (nat_lt a.end b.end) ((a.end == b.end) && nat_lt a.len b.len)
    (and_from (a.end == b.end) (nat_lt a.len b.len) (eq-eqb a.end b.end same) (lt-ltb a.len b.len less))

pairs : (xs : List ShapeAnnouncement) → AllPairs (λ a b. IsBefore (stands_at a) (stands_at b)) xs →
    each_pair is_earlier xs ≡ true
pairs [] all = refl
pairs (x ∷ xs) all =
    and_from (list_all (is_earlier x) xs) (each_pair is_earlier xs)
    (list_all-from_AllPass (is_earlier x) xs
    (All-weaker (λ y. IsBefore (stands_at x) (stands_at y)) (λ y. is_earlier x y ≡ true) (λ y is. before x y is) xs
    (first (λ a b. IsBefore (stands_at a) (stands_at b)) x xs all)))
    (pairs xs (later (λ a b. IsBefore (stands_at a) (stands_at b)) x xs all))

-- the peers may announce what the variables say exactly where the rows pass
pub passing_is : (files : List File) (tracked : Tracked) (lens : List ℕ) (v : ℕ → Bool) (from : ℕ) → Ascend lens →
    All (λ n. n < LENGTHS) lens → list_all is_word tracked.communities ≡ true →
    may_be_announced files tracked
    (environment_of files lens (ids_from files v from) (announced_from tracked files lens v from))
    ≡ rows_pass (may_come tracked) files (length lens) (ends_of files) (announced_from tracked files lens v from)
passing_is files tracked lens v from up short words =
    three _ _ _ _
    (and_from _ _ (eq-eqb _ _ (ids_many (length (external_ends files)) v from))
    (ids_small (length (external_ends files)) v from))
    (over_is files tracked lens (ends_of files) 0 v _ (λ i end there. let sum : 0 + i ≡ i = omega arith in
    ap (slice_get (ends_of files)) sum ∙ there) short words)
    (pairs _ (environment_ordered files lens (ids_from files v from) (announced_from tracked files lens v from) up))
  where
    three : (a b c r : Bool) → a ≡ true → b ≡ r → c ≡ true → (a && (b && c)) ≡ r
    three a b c r x y z = ap (λ k. k && (b && c)) x ∙ ap (λ k. b && k) z ∙ and-true b ∙ y

-- ---- a routing

lens_low : (plan : Plan) (n : ℕ) → All (λ m. m < n) (lens_below plan n)
unfolding lens_below
lens_low plan zero = All-nil (λ m. m < 0)
lens_low plan (suc n) =
    All-append (λ m. m < suc n) (lens_below plan n) (if has_slice plan n then n ∷ [] else [])
    (All-weaker (λ m. m < n) (λ m. m < suc n) (λ m low. omega (arith, low)) (lens_below plan n) (lens_low plan n))
    (one (has_slice plan n))
  where
    one : (b : Bool) → All (λ m. m < suc n) (if b then n ∷ [] else [])
    one true = All-cons (λ m. m < suc n) n [] (omega arith) (All-nil (λ m. m < suc n))
    one false = All-nil (λ m. m < suc n)

-- what is read of the announcements passes exactly where the peers may announce what the variables say
pub coming_is : (w : Reading) (files : List File) (tracked : Tracked) (question : Question) (plan : Plan) (from : ℕ)
    (t : Store) (made : OpenRouting) → StandsIn files tracked question plan t made →
    ReadsAs files tracked question plan from w made → list_all is_word tracked.communities ≡ true →
    rows_pass (λ line s. may_come tracked line (bgp_of w s)) files (length made.frame.lens.items) (ends_of files)
    made.env.announced
    ≡ may_be_announced files tracked (announced_by files tracked question plan w.variable from)
coming_is w files tracked question plan from t made stands read words =
    ap (λ (ls : List ℕ). rows_pass (λ line s. may_come tracked line (bgp_of w s)) files (length ls) (ends_of files)
    made.env.announced) stands.frame.lens
    ∙ rows_map (may_come tracked) (bgp_of w) files (length (lens_of plan)) (ends_of files) made.env.announced
    ∙ ap (rows_pass (may_come tracked) files (length (lens_of plan)) (ends_of files)) read.announced
    ∙ sym (passing_is files tracked (lens_of plan) w.variable (environment_start files tracked question plan from)
    (lens_ascend plan) (lens_low plan LENGTHS) words)

-- so it does of as many as there are lengths
pub coming_of : (w : Reading) (files : List File) (tracked : Tracked) (question : Question) (plan : Plan) (from : ℕ)
    (t : Store) (made : OpenRouting) (count : ℕ) (xs : List SymBgp) → count ≡ length made.frame.lens.items →
    xs ≡ made.env.announced → StandsIn files tracked question plan t made →
    ReadsAs files tracked question plan from w made → list_all is_word tracked.communities ≡ true →
    rows_pass (λ line s. may_come tracked line (bgp_of w s)) files count (ends_of files) xs
    ≡ may_be_announced files tracked (announced_by files tracked question plan w.variable from)
coming_of w files tracked question plan from t made count xs many same stands read words =
    ap₂ (λ (n : ℕ) (ys : List SymBgp). rows_pass (λ line s. may_come tracked line (bgp_of w s)) files n (ends_of files) ys)
    many same
    ∙ coming_is w files tracked question plan from t made stands read words

-- the announcements of a routing stand in its store
pub announced_ready : (files : List File) (tracked : Tracked) (question : Question) (plan : Plan) (t : Store)
    (made : OpenRouting) → StandsIn files tracked question plan t made →
    (All (HasLists tracked) made.env.announced) × (list_end bgp_end made.env.announced ≤ size t)
announced_ready files tracked question plan t made stands =
    let environment = stands.environment in (stands.fits.lists, omega (arith, environment))
