-- Where something breaks a question, a sliced routing breaks it.
use Rattle.std.proofs.Common.{◌≡◌, ℕ, zero, suc, ◌<◌, ◌≤◌, Bool, true, List, [], ◌∷◌, length}
use Rattle.std.proofs.Common.{Option, Some, None, inl, inr, refl, sym, ap, subst, arith}
use Rattle.std.specs.Prelude.{◌⊎◌, All, ◌&&◌, ◌==◌, option_map, option_and_then}
use Rattle.std.specs.List.{find}
use Rattle.std.specs.Option.{option_map_or}
use Rattle.std.proofs.lemmas.Bool.{cases_lt}
use Rattle.std.proofs.lemmas.List.Elements.{All-head}
use Rattle.std.proofs.lemmas.Option.{slice_get_within}
use Rattle.ios_ast.specs.declared.file.File.{File}
use Rattle.route_record.specs.declared.Announcement.{Announcement}
use Rattle.route_record.specs.declared.Environment.{Environment}
use Rattle.route_record.specs.declared.Plan.{Plan}
use Rattle.route_record.specs.declared.RibEntry.{RibEntry}
use Rattle.route_record.specs.declared.Slot.{Slot}
use Rattle.route_record.specs.declared.Tables.{Tables}
use Rattle.route_record.specs.declared.TheConstants.{LENGTHS}
use Rattle.route_record.specs.declared.World.{World}
use Rattle.route_record.specs.Places.{slot_at}
use Rattle.plan_places.specs.Plans.{has_slice}
use Rattle.plan_places.proofs.Tabulated.{none_past}
use Rattle.net_parts.specs.Sessions.{ends_of, peerings, sessions}
use Rattle.net_parts.specs.World.{IsAnnouncement}
use Rattle.alike_prefixes.specs.Moving.{IsEmptyAt, IsMove, moved_environment, moved_tables}
use Rattle.alike_prefixes.proofs.Announced.{moved_fits}
use Rattle.alike_prefixes.proofs.Moved.{emptied_at, moved_stable}
use Rattle.question_lang.specs.declared.question.Question.{Question}
use Rattle.question_lang.specs.declared.walk.Walk.{Walk}
use Rattle.question_lang.specs.Breaking.{IsBreaking}
use Rattle.question_lang.specs.Hops.{entry_at, longest_below}
use Rattle.sliced_routings.specs.Plans.{IsFittingPlan}
use Rattle.sliced_routings.specs.Slicing.{HasSlicedBreak, IsSliced}
use Rattle.sliced_routings.proofs.Classes.{at_slice, kept, kept_used, the_move, used, used-has, used-length}
use Rattle.sliced_routings.proofs.Fitting.{at_cuts, begins, has}
use Rattle.sliced_routings.proofs.Ranks.{Goes, place, place_before, seek, seek_is, start, start_between, to, to_at}
use Rattle.sliced_routings.proofs.Walks.{KeepsLongest, breaks_same, longest_none}

longest_short : (tables : Tables) (router n l : ℕ) (slot : Slot) (entry : RibEntry) →
    longest_below tables router n ≡ Some (l, slot, entry) → l < n
unfolding longest_below
longest_short tables router zero l slot entry is = absurd cc
longest_short tables router (suc n) l slot entry is = by (entry_at tables router n) is
    (λ deeper. longest_short tables router n l slot entry deeper)
  where
    by : (o : Option (Slot × RibEntry)) →
        option_map_or (λ found. Some (n, found.0, found.1)) o (longest_below tables router n) ≡ Some (l, slot, entry) →
        (longest_below tables router n ≡ Some (l, slot, entry) → l < n) → l < suc n
    by None is' rest = let h = rest is' in omega (arith, h)
    by (Some f) is' rest = omega (arith, same) where
      same : n ≡ l
      same = ap (λ (o : Option (ℕ × Slot × RibEntry)). option_map_or (λ x. x.0) o 0) is'

-- ---- a network with routers

module _ (files : List File) (question : Question) (plan : Plan) (fits : IsFittingPlan files plan)
    (some : 0 < length files) (world : World) (environment : Environment) (walk : Option Walk)
    (breaking : IsBreaking files question world environment walk) where
  abbrev us : List ℕ
  us = used world.tables (length files)

  abbrev keeps : ℕ → Bool
  keeps = kept (begins plan) (length files) us

  abbrev goes_to : ℕ → Option ℕ
  goes_to = to (begins plan) keeps

  abbrev comes_from : ℕ → Option ℕ
  comes_from = seek (begins plan) keeps LENGTHS

  moves : IsMove files world.packet.dst goes_to comes_from
  moves = the_move files (begins plan) (at_cuts files plan fits) world.packet.dst us some

  keeps_longest : (router : ℕ) → KeepsLongest files world goes_to comes_from moves breaking.stable.size router
  keeps_longest router l slot entry is = by (cases_lt router (length files)) where
    by : (router < length files) ⊎ (length files ≤ router) → (m : ℕ) × (goes_to l ≡ Some m)
    by (inl below) = (
      place (begins plan) keeps l,
      to_at (begins plan) keeps l _ (record {
        below = longest_short world.tables router LENGTHS l slot entry is;
        is_kept = kept_used (begins plan) (length files) us l
            (used-has world.tables (length files) router l slot entry below is);
        there = refl;
      }),
    )
    by (inr past) =
        let none : longest_below world.tables router LENGTHS ≡ None = longest_none world.tables router LENGTHS
        (λ k low short. ap (option_and_then (λ (s : Slot). option_map (paired s) s.rib))
        (none_past world.tables (length files) router k breaking.stable.size past)) in
        absurd cc
      where
        paired : Slot → RibEntry → Slot × RibEntry
        paired s e = (s, e)

  abbrev moved : World
  moved = record world { tables = moved_tables files comes_from world.tables }

  abbrev around : Environment
  around = moved_environment goes_to environment

  is_slice : (m l : ℕ) → m < LENGTHS → Goes (begins plan) keeps LENGTHS m l → has_slice plan m ≡ true
  is_slice m l short goes =
      let r = at_slice (begins plan) (length files) us (used-length world.tables (length files)) l m
      (to_at (begins plan) keeps l m goes) in
      let low = place_before (begins plan) keeps l in
      let there = goes.there in
      let same : start (begins plan) m ≡ start (begins plan) l =
      start_between (begins plan) keeps l m (omega (arith, there)) (omega (arith, there, low)) in
      has files plan fits m short (omega (arith, r, there, same))

  sliced_there : IsSliced plan moved around
  sliced_there m short off = by (comes_from m) refl where
    by : (o : Option ℕ) → comes_from m ≡ o → IsEmptyAt around moved.tables m
    by None none = emptied_at files world.packet.dst goes_to comes_from moves world.tables breaking.stable.size
        environment m short none
    by (Some l) comes =
        let h = is_slice m l short (seek_is (begins plan) keeps LENGTHS m l comes) in
        absurd cc

  moved_breaks : HasSlicedBreak files question plan world environment walk
  moved_breaks = (
    moved,
    around,
    record {
      breaking = record {
        packet = breaking.packet;
        environment_fits = moved_fits files world.packet.dst goes_to comes_from moves environment
            breaking.environment_fits;
        failures = breaking.failures;
        stable = moved_stable files world.packet.dst goes_to comes_from moves world.tables breaking.stable.size
            environment
            world.failures breaking.stable;
        breaks = subst (λ (X : Type 0). X) (sym (breaks_same files world goes_to comes_from moves breaking.stable.size
            keeps_longest question.kind walk)) breaking.breaks;
      };
      sliced = sliced_there;
    },
    refl,
    refl,
    refl,
  )

-- ---- a network without routers

-- has no sessions, and so nobody announces anything
no_announcement : (a : Announcement) → IsAnnouncement [] a → ⊥
unfolding ends_of sessions peerings
no_announcement a fine =
    let h = slice_get_within (ends_of []) a.end (fine.from.0) (fine.from.1) in omega (arith, h)

none_announced : (end len : ℕ) (xs : List Announcement) → All (IsAnnouncement []) xs →
    find (λ a. (a.end == end) && (a.len == len)) xs ≡ None
none_announced end len [] all = refl
none_announced end len (a ∷ xs) all = absurd (no_announcement a (All-head (IsAnnouncement []) a xs all))

without_routers : (question : Question) (plan : Plan) (world : World) (environment : Environment)
    (walk : Option Walk) → IsBreaking [] question world environment walk →
    HasSlicedBreak [] question plan world environment walk
without_routers question plan world environment walk breaking = (
  world,
  environment,
  record {
    breaking = breaking;
    sliced = λ len short off. record {
      slots = λ router slot there. absurd (nothing_at router len slot there);
      announced = λ end. none_announced end len environment.announced breaking.environment_fits.announced;
    };
  },
  refl,
  refl,
  refl,
)
  where
    nothing_at : (router len : ℕ) (slot : Slot) → slot_at world.tables router len ≡ Some slot → ⊥
    nothing_at router len slot there =
        let none = none_past world.tables 0 router len breaking.stable.size (omega arith) in cc

pub has_sliced : (files : List File) (question : Question) (plan : Plan) → IsFittingPlan files plan → (world : World)
    (environment : Environment) (walk : Option Walk) → IsBreaking files question world environment walk →
    HasSlicedBreak files question plan world environment walk
has_sliced [] question plan fits world environment walk breaking =
    without_routers question plan world environment walk breaking
has_sliced (file ∷ files) question plan fits world environment walk breaking =
    moved_breaks (file ∷ files) question plan fits (omega arith) world environment walk breaking
