-- Announcements at all prefix lengths are those at the lengths of a plan.
use Rattle.std.proofs.Common.{◌≡◌, ◌⊎◌, ℕ, zero, suc, ◌+◌, ◌≤◌, inl, inr, Bool, true, false, List, [], ◌∷◌, ◌++◌, Option}
use Rattle.std.proofs.Common.{Some, None, length, map, drop, take, refl, sym, ap, ap₂, subst, ◌∙◌, arith, append_assoc, append-nil}
use Rattle.std.specs.Prelude.{filter, option_map, slice_get, if◌then◌else◌}
use Rattle.std.specs.List.{enumerate_from, filter_map, range_with_len}
use Rattle.std.proofs.lemmas.List.{length-take, map-append}
use Rattle.mw_text.specs.Members.{In}
use Rattle.mw_text.specs.declared.address.Addr.{Addr}
use Rattle.ios_ast.specs.declared.file.File.{File}
use Rattle.route_record.specs.declared.Plan.{Plan}
use Rattle.route_record.specs.declared.TheConstants.{LENGTHS}
use Rattle.route_record.specs.declared.tracked.Tracked.{Tracked}
use Rattle.route_record.specs.Origins.{origin_code, origin_of_code}
use Rattle.route_record.proofs.OriginCodes.{code_back}
use Rattle.net_parts.specs.declared.sessions.SessionEnd.{SessionEnd}
use Rattle.net_parts.specs.Sessions.{ends_of, is_outside}
use Rattle.net_parts.proofs.LeastWalks.{in-cases, in-left, in-map, in-right}
use Rattle.route_record.specs.declared.Announcement.{Announcement}
use Rattle.route_record.specs.declared.Environment.{Environment}
use Rattle.route_shapes.specs.Bgp.{BgpShape}
use Rattle.bgp_shapes.specs.Candidates.{ShapeAnnouncement, announcement_shape}
use Rattle.plan_places.specs.declared.places.Place.{Place}
use Rattle.plan_places.specs.Places.{place, places_below}
use Rattle.plan_places.specs.Plans.{lens_of, single_plan}
use Rattle.slot_places.proofs.Members.{map-in}
use Rattle.slot_places.proofs.PlaceLaws.{in-lens, lens-in, single-has}
use Rattle.announced_places.specs.Announced.{made_over, places_among, thing_at}
use Rattle.announced_places.specs.Environments.{announcement_of, external_places, is_outer, stands_at}
use Rattle.announced_places.specs.Environments.{environment_of as announced_environment}
use Rattle.announced_places.proofs.ExternalPlaces.{environment_found, environment_ordered, external_ascend, external_many, row_at}
use Rattle.announced_places.proofs.PlacedThings.{lens_ascend, places_ordered}
use Rattle.bgp_variables.specs.Environments.{announced_from, peers_count}
use Rattle.bgp_values.specs.Told.{as_told}
use Rattle.path_rebuild.specs.declared.ShapeRec.{ShapeRec}
use Rattle.path_rebuild.specs.Environments.{environment_of, of_end, of_ends}
use Rattle.path_rebuild.specs.Shapes.{announcement_of as announcement_known, route_of}
use Rattle.routing_worlds.proofs.MadeAgain.{made_again}
use Rattle.bgp_decoding.specs.Decoded.{arrived_at, arrived_of}
use Rattle.bgp_decoding.specs.Placed.{full_places, thing_in}
use Rattle.bgp_decoding.proofs.Numbered.{all_lens}

-- ---- what is announced, over places

made_none : {U A : Type 0} (build : ℕ → ℕ → U → A) (ps : List Place) → made_over build ps [] ≡ []
unfolding made_over
made_none build [] = refl
made_none build (p ∷ ps) = refl

made_append : {U A : Type 0} (build : ℕ → ℕ → U → A) (ps qs : List Place) (xs : List (Option U)) →
    made_over build (ps ++ qs) xs
    ≡ made_over build ps (take (length ps) xs) ++ made_over build qs (drop (length ps) xs)
unfolding made_over
made_append build [] qs xs = refl
made_append build (p ∷ ps) qs [] = sym (made_none build qs)
made_append build (p ∷ ps) qs (None ∷ xs) = made_append build ps qs xs
made_append build (p ∷ ps) qs (Some u ∷ xs) = ap (λ ys. build p.router p.len u ∷ ys) (made_append build ps qs xs)

row_made : (tracked : Tracked) (end from n : ℕ) (xs : List (Option ShapeRec)) → length xs ≤ n →
    filter_map (λ e. option_map (announcement_known tracked end e.0) e.1) (enumerate_from from xs)
    ≡ made_over (announcement_known tracked) (map (place end) (range_with_len from n)) xs
unfolding made_over
row_made tracked end from n [] short = sym (made_none (announcement_known tracked) (map (place end) (range_with_len from n)))
row_made tracked end from zero (x ∷ xs) short = absurd (omega (arith, short))
row_made tracked end from (suc n) (None ∷ xs) short = row_made tracked end (from + 1) n xs (omega (arith, short))
row_made tracked end from (suc n) (Some s ∷ xs) short =
    ap (λ ys. announcement_known tracked end from s ∷ ys) (row_made tracked end (from + 1) n xs (omega (arith, short)))

ends_made : (tracked : Tracked) (n : ℕ) (ends : List SessionEnd) (xs : List (Option ShapeRec)) →
    of_ends tracked (enumerate_from n ends) xs
    ≡ made_over (announcement_known tracked)
    (places_among (map (λ e. e.0) (filter is_outer (enumerate_from n ends))) (range_with_len 0 LENGTHS)) xs
unfolding made_over places_among
ends_made tracked n [] xs = refl
ends_made tracked n (end ∷ ends) xs =
    by (is_outside end.far) (ends_made tracked (n + 1) ends (drop LENGTHS xs)) (ends_made tracked (n + 1) ends xs)
  where
    lens : List ℕ
    lens = range_with_len 0 LENGTHS

    behind : List ℕ
    behind = map (λ (e : ℕ × SessionEnd). e.0) (filter is_outer (enumerate_from (n + 1) ends))

    short : length (take LENGTHS xs) ≤ LENGTHS
    short = let long = length-take LENGTHS xs in omega (arith, long)

    by : (b : Bool) → of_ends tracked (enumerate_from (n + 1) ends) (drop LENGTHS xs)
        ≡ made_over (announcement_known tracked) (places_among behind lens) (drop LENGTHS xs) →
        of_ends tracked (enumerate_from (n + 1) ends) xs
        ≡ made_over (announcement_known tracked) (places_among behind lens) xs →
        (if b then of_end tracked n (take LENGTHS xs) ++ of_ends tracked (enumerate_from (n + 1) ends) (drop LENGTHS xs)
        else of_ends tracked (enumerate_from (n + 1) ends) xs)
        ≡ made_over (announcement_known tracked) (places_among (map (λ e. e.0)
        (if b then (n, end) ∷ filter is_outer (enumerate_from (n + 1) ends)
        else filter is_outer (enumerate_from (n + 1) ends))) lens) xs
    by true rest other =
        ap (λ ys. ys ++ of_ends tracked (enumerate_from (n + 1) ends) (drop LENGTHS xs))
        (row_made tracked n 0 LENGTHS (take LENGTHS xs) short)
        ∙ ap (λ ys. made_over (announcement_known tracked) (map (place n) lens) (take LENGTHS xs) ++ ys) rest
        ∙ sym (made_append (announcement_known tracked) (map (place n) lens) (places_among behind lens) xs)
    by false rest other = other

shapes_made : (tracked : Tracked) (ps : List Place) (xs : List (Option ShapeRec)) →
    made_over (announcement_known tracked) ps xs ≡ made_over announcement_of ps (map (option_map (route_of tracked)) xs)
unfolding made_over
shapes_made tracked [] xs = refl
shapes_made tracked (p ∷ ps) [] = refl
shapes_made tracked (p ∷ ps) (None ∷ xs) = shapes_made tracked ps xs
shapes_made tracked (p ∷ ps) (Some s ∷ xs) =
    ap (λ ys. announcement_known tracked p.router p.len s ∷ ys) (shapes_made tracked ps xs)

-- ---- rows by the number of an end, and by its place

among-append : (xs ys lens : List ℕ) → places_among (xs ++ ys) lens ≡ places_among xs lens ++ places_among ys lens
unfolding places_among
among-append [] ys lens = refl
among-append (x ∷ xs) ys lens =
    ap (λ ps. map (place x) lens ++ ps) (among-append xs ys lens)
    ∙ sym (append_assoc (map (place x) lens) (places_among xs lens) (places_among ys lens))

range-more : (a n : ℕ) → range_with_len a (suc n) ≡ range_with_len a n ++ (a + n) ∷ []
range-more a zero = let none : a ≡ a + 0 = omega arith in ap (λ k. k ∷ []) none
range-more a (suc n) =
    let next : a + 1 + n ≡ a + suc n = omega arith in
    ap (λ ks. a ∷ ks) (range-more (a + 1) n) ∙ ap (λ k. a ∷ range_with_len (a + 1) n ++ k ∷ []) next

below-among : (lens : List ℕ) (n : ℕ) → places_below lens n ≡ places_among (range_with_len 0 n) lens
unfolding places_below places_among
below-among lens zero = refl
below-among lens (suc n) =
    let first : n ≡ 0 + n = omega arith in
    ap (λ ps. ps ++ map (place n) lens) (below-among lens n)
    ∙ ap (λ k. places_among (range_with_len 0 n) lens ++ map (place k) lens) first
    ∙ ap (λ ps. places_among (range_with_len 0 n) lens ++ ps) (sym (append-nil (map (place (0 + n)) lens)))
    ∙ sym (ap (λ ks. places_among ks lens) (range-more 0 n) ∙ among-append (range_with_len 0 n) ((0 + n) ∷ []) lens)

row_alike : {B : Type 0} (g h : Place → B) (a b : ℕ) → ((len : ℕ) → g (place a len) ≡ h (place b len)) →
    (lens : List ℕ) → map g (map (place a) lens) ≡ map h (map (place b) lens)
row_alike g h a b same [] = refl
row_alike g h a b same (len ∷ lens) =
    let here = same len in let rest = row_alike g h a b same lens in λ i. here i ∷ rest i

rows_alike : {B : Type 0} (g h : Place → B) (lens ends : List ℕ) (a : ℕ) →
    ((k at len : ℕ) → slice_get ends k ≡ Some at → g (place (a + k) len) ≡ h (place at len)) →
    map g (places_among (range_with_len a (length ends)) lens) ≡ map h (places_among ends lens)
unfolding places_among
rows_alike g h lens [] a same = refl
rows_alike {B} g h lens (end ∷ ends) a same =
    let none : a ≡ a + 0 = omega arith in
    map-append g (map (place a) lens) (places_among (range_with_len (a + 1) (length ends)) lens)
    ∙ ap₂ (λ xs ys. xs ++ ys)
    (row_alike g h a end (λ len. ap (λ k. g (place k len)) none ∙ same 0 end len refl) lens)
    (rows_alike g h lens ends (a + 1) (λ k at len there. ap (λ j. g (place j len)) (next k) ∙ same (suc k) at len there))
    ∙ sym (map-append h (map (place end) lens) (places_among ends lens))
  where
    next : (k : ℕ) → a + 1 + k ≡ a + suc k
    next k = omega arith

-- ---- where what is announced stands

made_stands : (ps : List Place) (xs : List (Option BgpShape)) (x : ShapeAnnouncement) →
    In x (made_over announcement_of ps xs) → In (stands_at x) ps
unfolding made_over
made_stands [] xs x there = absurd there
made_stands (p ∷ ps) [] x there = absurd there
made_stands (p ∷ ps) (None ∷ xs) x there = inr (made_stands ps xs x there)
made_stands (p ∷ ps) (Some s ∷ xs) x (inl same) = inl (ap stands_at same)
made_stands (p ∷ ps) (Some s ∷ xs) x (inr later) = inr (made_stands ps xs x later)

among_wider : (ends lens more : List ℕ) → ((len : ℕ) → In len lens → In len more) → (p : Place) →
    In p (places_among ends lens) → In p (places_among ends more)
unfolding places_among
among_wider [] lens more wider p there = there
among_wider (end ∷ ends) lens more wider p there =
    by (in-cases p (map (place end) lens) (places_among ends lens) there) (among_wider ends lens more wider p)
  where
    row : (len : ℕ) × In len lens × (p ≡ place end len) → In p (map (place end) more)
    row (len, here, is) =
        subst (λ q. In q (map (place end) more)) (sym is) (map-in (place end) more len (wider len here))

    by : In p (map (place end) lens) ⊎ In p (places_among ends lens) →
        (In p (places_among ends lens) → In p (places_among ends more)) →
        In p (map (place end) more ++ places_among ends more)
    by (inl front) rest =
        in-left p (map (place end) more) (places_among ends more) (row (in-map (place end) lens p front))
    by (inr back) rest = in-right p (map (place end) more) (places_among ends more) (rest back)

-- ---- an origin is read as one that is

abbrev origin_read : ShapeAnnouncement → ShapeAnnouncement
origin_read a = record a { origin = origin_code (origin_of_code a.origin) }

read_made : (ps : List Place) (xs : List (Option BgpShape)) →
    made_over announcement_of ps (map (option_map as_told) xs) ≡ map origin_read (made_over announcement_of ps xs)
unfolding made_over
read_made [] xs = refl
read_made (p ∷ ps) [] = refl
read_made (p ∷ ps) (None ∷ xs) = read_made ps xs
read_made (p ∷ ps) (Some s ∷ xs) =
    ap (λ ys. origin_read (announcement_of p.router p.len s) ∷ ys) (read_made ps xs)

real_read : (tracked : Tracked) (xs : List Announcement) →
    map origin_read (map (announcement_shape tracked) xs) ≡ map (announcement_shape tracked) xs
real_read tracked [] = refl
real_read tracked (x ∷ xs) =
    let here = ap origin_code (code_back x.origin) in
    let rest = real_read tracked xs in
    λ i. record (announcement_shape tracked x) { origin = here i } ∷ rest i

-- ---- the environment

module _ (tracked : Tracked) (files : List File) (plan : Plan) (v : ℕ → Bool) (from : ℕ) (ids : List Addr)
    (announced : List (Option ShapeRec)) where
  abbrev lens : List ℕ
  lens = lens_of plan

  abbrev ends : List ℕ
  ends = external_places files

  abbrev said : List (Option BgpShape)
  said = announced_from tracked files lens v from

  abbrev things : List (Option BgpShape)
  things = arrived_of tracked files lens v from

  abbrev thing : Place → Option BgpShape
  thing p = thing_at ends lens things p.router p.len

  abbrev all : List Place
  all = places_among ends (lens_of single_plan)

  -- at each place of an end what its row has
  placed : map (arrived_at tracked files lens v from) (full_places (peers_count files)) ≡ map thing all
  placed =
      ap (map (arrived_at tracked files lens v from))
      (below-among (lens_of single_plan) (peers_count files)
      ∙ ap (λ n. places_among (range_with_len 0 n) (lens_of single_plan)) (sym (external_many files)))
      ∙ rows_alike (arrived_at tracked files lens v from) thing (lens_of single_plan) ends 0 row
    where
      row : (k at len : ℕ) → slice_get ends k ≡ Some at →
          arrived_at tracked files lens v from (place (0 + k) len) ≡ thing (place at len)
      row k at len there =
          let none : 0 + k ≡ k = omega arith in
          ap (λ j. arrived_at tracked files lens v from (place j len)) none
          ∙ ap (λ n. thing_in lens n things (place k len)) (sym (external_many files))
          ∙ sym (row_at ends lens things k at len (external_ascend files) there)

  stands : (x : ShapeAnnouncement) → In x (announced_environment files lens ids things).announced → In (stands_at x) all
  stands x there =
      among_wider ends lens (lens_of single_plan) (λ len here. let below = (in-lens plan LENGTHS len here).0 in
      lens-in single_plan LENGTHS len below (single-has len below)) (stands_at x)
      (made_stands (places_among ends lens) things x there)

  again : made_over announcement_of all (map thing all) ≡ (announced_environment files lens ids things).announced
  again =
      made_again announcement_of stands_at thing all (announced_environment files lens ids things).announced
      (places_ordered ends (lens_of single_plan) (external_ascend files) (lens_ascend single_plan))
      (environment_ordered files lens ids things (lens_ascend plan)) stands
      (λ p there. environment_found files lens ids things p.router p.len (lens_ascend plan))

  -- announcements whose shapes are real are made again of what is read of them
  pub announced_same : (environment : Environment) →
      (announced_environment files lens ids said).announced ≡ map (announcement_shape tracked) environment.announced →
      map (option_map (route_of tracked)) announced
      ≡ map (arrived_at tracked files lens v from) (full_places (peers_count files)) →
      announced_environment files lens ids said ≡ environment_of tracked files ids announced
  announced_same environment real is =
      let shapes = (announced_environment files lens ids said).announced in
      let made = ends_made tracked 0 (ends_of files) announced
      ∙ ap (λ ls. made_over (announcement_known tracked) (places_among ends ls) announced) (sym all_lens)
      ∙ shapes_made tracked all announced ∙ ap (made_over announcement_of all) (is ∙ placed) ∙ again
      ∙ read_made (places_among ends lens) said ∙ ap (map origin_read) real ∙ real_read tracked environment.announced
      ∙ sym real in
      λ i. record { ids = ids; announced = sym made i }
