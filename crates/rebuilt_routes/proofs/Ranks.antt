-- Along the session over which a route was learnt its rank rises: an external session puts the own AS number in front of
-- the path, a reflector marks its cluster, and what goes over an internal session for the first time was learnt over
-- none.
use Rattle.std.proofs.Common.{◌≡◌, ℕ, ◌≤◌, ◌<◌, Bool, true, false, List, [], ◌∷◌}
use Rattle.std.proofs.Common.{Option, Some, None, refl, sym, ap, ◌∙◌, if◌then◌else◌, arith}
use Rattle.std.specs.Prelude.{option_and_then, slice_get}
use Rattle.std.specs.Option.{option_map_or}
use Rattle.std.proofs.lemmas.Bool.{and_parts}
use Rattle.std.proofs.lemmas.List.{length-map}
use Rattle.mw_text.proofs.Lists.{all_found}
use Rattle.mw_text.specs.declared.address.Addr.{Addr}
use Rattle.ios_ast.specs.declared.bgp.Bgp.{Bgp}
use Rattle.ios_ast.specs.declared.file.File.{File}
use Rattle.ios_ast.specs.Deciding.{carries}
use Rattle.route_record.specs.declared.tracked.Tracked.{Tracked}
use Rattle.net_parts.specs.declared.sessions.Far.TheVariants.{Inside}
use Rattle.net_parts.specs.declared.sessions.SessionEnd.{SessionEnd}
use Rattle.net_parts.specs.Exports.{is_reflector, may_reflect, router_id}
use Rattle.net_parts.specs.Sessions.{ends_of}
use Rattle.net_parts.specs.Tracked.{TracksNet, numbers_of}
use Rattle.route_shapes.specs.Bgp.{BgpShape}
use Rattle.route_shapes.specs.Shapes.{marked, marks_with}
use Rattle.bgp_shapes.specs.Crossings.{crossing, end_numbered}
use Rattle.bgp_shapes.specs.Held.{HasMarks}
use Rattle.bgp_shapes.specs.Tracking.{TracksTests}
use Rattle.bgp_shapes.proofs.EndLaw.{IsAlike, ends_alike}
use Rattle.bgp_shapes.proofs.Once.{process_of}
use Rattle.rebuilt_routes.proofs.Options.{not_or}
use Rattle.rebuilt_routes.proofs.Crossed.{IsShapeSent, IsShapeTaken}
use Rattle.mw_text.specs.Members.{count}
use Rattle.mw_text.proofs.Numbers.{count_few}
use Rattle.rebuilt_routes.specs.Ranks.{over_internal, rank}
use Rattle.rebuilt_routes.proofs.Marks.{count_more}

-- a route that a router may hold: its path is counted, and where it was learnt a reflector does not find its own cluster
-- in it
pub record IsKept (tracked : Tracked) (files : List File) (router : ℕ) (t : BgpShape) : Type 0 where
  pub marks : HasMarks tracked t
  pub counted : t.path.len ≤ 4294967295
  pub unlooped : (from : SessionEnd) (process : Bgp) → end_numbered files router t.from ≡ Some from →
      process_of files router ≡ Some process → is_reflector process ≡ true →
      marked (numbers_of tracked.clusters) t.clusters (router_id files router).0 ≡ false

pub small_bit : (b : Bool) → (if b then 1 else 0) ≤ 1
small_bit true = omega arith
small_bit false = omega arith

at_most_one : (files : List File) (router : ℕ) (s : BgpShape) → over_internal files router s ≤ 1
at_most_one files router s = by (end_numbered files router s.from)
  where
    by : (o : Option SessionEnd) → option_map_or (λ (end : SessionEnd). if end.internal then 1 else 0) o 0 ≤ 1
    by None = omega arith
    by (Some end) = small_bit end.internal

few_marks : (tracked : Tracked) (files : List File) (s : BgpShape) → TracksNet files tracked → HasMarks tracked s →
    count s.clusters ≤ 128
few_marks tracked files s tracks has =
    let few = count_few s.clusters in
    let long = has.clusters in
    let most = tracks.few_clusters in
    omega (arith, few, long, most)

module _ (tracked : Tracked) (files : List File) (net : TracksNet files tracked) (tests : TracksTests files tracked)
    (at far_at : ℕ) (end far : SessionEnd) (there : slice_get (ends_of files) at ≡ Some end)
    (reached : end.far ≡ Inside far_at) (far_there : slice_get (ends_of files) far_at ≡ Some far)
    (t m s : BgpShape) (kept : IsKept tracked files far.router t) (sent : IsShapeSent tracked files far t m)
    (taken : IsShapeTaken tracked files end m s) (marks : HasMarks tracked s)
    (found : end_numbered files end.router s.from ≡ Some end) where
  same_kind : end.internal ≡ far.internal
  same_kind = (all_found (IsAlike files) (ends_of files) at end (ends_alike files) there).far far_at far reached far_there

  short : m.path.len ≤ 255
  short = let longer = taken.longer (sent.few kept.counted) in let most = taken.short in omega (arith, longer, most)

  longer : m.path.len ≤ s.path.len
  longer = taken.longer (sent.few kept.counted)

  -- over an external session the path grows
  falls_outside : far.internal ≡ false → rank files far.router t < rank files end.router s
  falls_outside outside =
      let grows = sent.external outside kept.counted short in
      let more = longer in
      let bit = at_most_one files far.router t in
      let few = few_marks tracked files t net kept.marks in
      omega (arith, grows, more, bit, few)

  -- over an internal one it was learnt over none before, or a reflector marks its cluster
  abbrev Crosses : Option SessionEnd → Type 0
  Crosses o =
      m.clusters ≡ (if (crossing files sent.process sent.neighbour far o).reflected
      then marks_with (numbers_of tracked.clusters) ((router_id files far.router).0 ∷ []) true t.clusters
      else t.clusters)

  bit_inside : far.internal ≡ true → over_internal files end.router s ≡ 1
  bit_inside inside =
      ap (λ o. option_map_or (λ (e : SessionEnd). if e.internal then 1 else 0) o 0) found
      ∙ ap (λ b. if b then 1 else 0) (same_kind ∙ inside)

  -- a route of an internal session that goes over another is reflected
  reflects : (from : SessionEnd) → far.internal ≡ true → from.internal ≡ true →
      (crossing files sent.process sent.neighbour far (Some from)).may ≡ true → is_reflector sent.process ≡ true
  reflects from inside other may =
      (and_parts _ _ (not_or from.internal far.internal (may_reflect files sent.process from far) other inside
      (and_parts _ _ may).1)).0

  tracked_cluster : is_reflector sent.process ≡ true →
      carries (numbers_of tracked.clusters) (router_id files far.router).0 ≡ true
  tracked_cluster reflect = by (slice_get files far.router) refl
    where
      by : (o : Option File) → slice_get files far.router ≡ o →
          carries (numbers_of tracked.clusters) (router_id files far.router).0 ≡ true
      by None is =
          let none : None ≡ Some sent.process = sym (ap (option_and_then (λ (f : File). f.bgp)) is) ∙ sent.runs in
          absurd cc
      by (Some file) is =
          let here : file.bgp ≡ Some sent.process =
          sym (ap (option_and_then (λ (f : File). f.bgp)) is) ∙ sent.runs in
          (tests.routers far.router file sent.process is here).cluster reflect

  falls_inside : far.internal ≡ true → rank files far.router t < rank files end.router s
  falls_inside inside = by (end_numbered files far.router t.from) refl (sent.clusters inside) sent.may
    where
      grows : t.path.len ≤ s.path.len
      grows =
          let one = sent.internal inside kept.counted in
          let more = longer in
          omega (arith, one, more)

      same_count : count s.clusters ≡ count m.clusters
      same_count = ap count taken.clusters

      by_kind : (from : SessionEnd) (b : Bool) → from.internal ≡ b → end_numbered files far.router t.from ≡ Some from →
          Crosses (Some from) → (crossing files sent.process sent.neighbour far (Some from)).may ≡ true →
          rank files far.router t < rank files end.router s
      by_kind from true kind found_from crosses may =
          let reflect = reflects from inside kind may in
          let made : m.clusters
          ≡ marks_with (numbers_of tracked.clusters) ((router_id files far.router).0 ∷ []) true t.clusters =
          crosses ∙ ap (λ b. if b
          then marks_with (numbers_of tracked.clusters) ((router_id files far.router).0 ∷ []) true t.clusters
          else t.clusters) kind in
          let more = count_more (numbers_of tracked.clusters) (router_id files far.router).0 t.clusters
          (kept.marks.clusters ∙ sym (length-map tracked.clusters (λ (a : Addr). a.0))) (tracked_cluster reflect)
          (kept.unlooped from sent.process found_from sent.runs reflect) in
          let counts = same_count ∙ ap count made in
          let bit = at_most_one files far.router t in
          let one = bit_inside inside in
          let longer = grows in
          omega (arith, more, counts, bit, one, longer)
      by_kind from false kind found_from crosses may =
          let made : m.clusters ≡ t.clusters = crosses ∙ ap (λ b. if b
          then marks_with (numbers_of tracked.clusters) ((router_id files far.router).0 ∷ []) true t.clusters
          else t.clusters) kind in
          let counts = same_count ∙ ap count made in
          let none : over_internal files far.router t ≡ 0 =
          ap (λ o. option_map_or (λ (e : SessionEnd). if e.internal then 1 else 0) o 0) found_from
          ∙ ap (λ b. if b then 1 else 0) kind in
          let one = bit_inside inside in
          let longer = grows in
          omega (arith, counts, none, one, longer)

      by : (o : Option SessionEnd) → end_numbered files far.router t.from ≡ o → Crosses o →
          (crossing files sent.process sent.neighbour far o).may ≡ true →
          rank files far.router t < rank files end.router s
      by None found_from crosses may =
          let counts = same_count ∙ ap count crosses in
          let none : over_internal files far.router t ≡ 0 =
          ap (λ o. option_map_or (λ (e : SessionEnd). if e.internal then 1 else 0) o 0) found_from in
          let one = bit_inside inside in
          let longer = grows in
          omega (arith, counts, none, one, longer)
      by (Some from) found_from crosses may = by_kind from from.internal refl found_from crosses may

  pub falls : rank files far.router t < rank files end.router s
  falls = by far.internal refl
    where
      by : (b : Bool) → far.internal ≡ b → rank files far.router t < rank files end.router s
      by true kind = falls_inside kind
      by false kind = falls_outside kind
