-- What is known of the shape of a route that a router sends, and of one that a router makes of a message.
use Rattle.std.proofs.Common.{◌≡◌, ℕ, ◌+◌, ◌^◌, ◌≤◌, ◌==◌, ◌||◌, Bool, true, false, not, List, [], ◌∷◌}
use Rattle.std.proofs.Common.{Option, Some, None, length, refl, sym, ap, ◌∙◌, if◌then◌else◌, arith}
use Rattle.std.specs.Prelude.{IfSome, nat_le, option_and_then, option_map, slice_get}
use Rattle.std.proofs.lemmas.Bool.{and_parts, leb-true}
use Rattle.std.proofs.lemmas.List.{length-map}
use Rattle.mw_text.specs.declared.address.Addr.{Addr}
use Rattle.mw_text.specs.declared.address.Prefix.{Prefix}
use Rattle.ios_ast.specs.declared.bgp.Bgp.{Bgp}
use Rattle.ios_ast.specs.declared.bgp.Neighbour.{Neighbour}
use Rattle.ios_ast.specs.declared.file.File.{File}
use Rattle.route_record.specs.declared.tracked.Tracked.{Tracked}
use Rattle.route_record.specs.Shape.{saturated}
use Rattle.net_parts.specs.declared.sessions.SessionEnd.{SessionEnd}
use Rattle.net_parts.specs.Exports.{is_reflector, most_numbers, own_address, router_id}
use Rattle.net_parts.specs.Sessions.{neighbour_of}
use Rattle.net_parts.specs.Tracked.{numbers_of}
use Rattle.route_shapes.specs.Bgp.{BgpShape}
use Rattle.route_shapes.specs.Shapes.{RouteShape, marked, marks_with}
use Rattle.route_shapes.specs.Shapes.{shape_through_map}
use Rattle.bgp_shapes.specs.Crossings.{Crossing, crossing, end_numbered}
use Rattle.bgp_shapes.specs.Exporting.{external_shape, internal_shape, sent_marks, shape_exported}
use Rattle.bgp_shapes.specs.Exporting.{shape_message, shape_sent}
use Rattle.bgp_shapes.specs.Held.{HasMarks}
use Rattle.bgp_shapes.specs.Importing.{shape_if_short, shape_imported, shape_is_acceptable}
use Rattle.bgp_shapes.specs.Importing.{shape_received, shape_taken_in}
use Rattle.bgp_shapes.specs.Messages.{seen_by_maps, shape_sets_metric, with_seen}
use Rattle.bgp_shapes.proofs.Once.{process_of}
use Rattle.bgp_shapes.proofs.LengthLaw.{if_then}
use Rattle.rebuilt_routes.proofs.Marks.{long_with}
use Rattle.rebuilt_routes.proofs.Options.{if_found, if_true, not_both}
use Rattle.rebuilt_routes.proofs.ShapeMaps.{HasRows, IsAtLeast, IsCounted, through_counted, through_long, through_rows}

pub small : (n : ℕ) → saturated n ≤ 4294967295
unfolding saturated
small n = omega arith

-- a process that a router runs
pub runs_there : (files : List File) (router : ℕ) (file : File) (process : Bgp) → slice_get files router ≡ Some file →
    file.bgp ≡ Some process → process_of files router ≡ Some process
runs_there files router file process is runs = ap (option_and_then (λ (f : File). f.bgp)) is ∙ runs

-- ---- import

-- the route has the clusters of the message and no shorter path, with at most 255 numbers; it is from the neighbour, and
-- a reflector does not find its own cluster in it
pub record IsShapeTaken (tracked : Tracked) (files : List File) (end : SessionEnd) (m s : BgpShape) : Type 0 where
  pub process : Bgp
  pub runs : process_of files end.router ≡ Some process
  pub neighbour : Neighbour
  pub named : neighbour_of files end ≡ Some neighbour
  pub from : s.from ≡ 2 ^ 32 + neighbour.addr.0
  pub clusters : s.clusters ≡ m.clusters
  pub unlooped : is_reflector process ≡ true →
      marked (numbers_of tracked.clusters) s.clusters (router_id files end.router).0 ≡ false
  pub longer : m.path.len ≤ 4294967295 → m.path.len ≤ s.path.len
  pub short : s.path.len ≤ 255
  pub marks : HasMarks tracked m → HasMarks tracked s

module _ (tracked : Tracked) (files : List File) (end : SessionEnd) (p : Prefix) (m : BgpShape) (file : File)
    (process : Bgp) (is : slice_get files end.router ≡ Some file) (runs : file.bgp ≡ Some process)
    (neighbour : Neighbour) (named : neighbour_of files end ≡ Some neighbour) where
  abbrev before : BgpShape
  before = shape_received neighbour end m

  abbrev left : Option RouteShape
  left = shape_through_map tracked file.policies neighbour.map_in p (not end.internal) (seen_by_maps before)

  -- what is known of what the map leaves
  record IsLeft (r : RouteShape) : Type 0 where
    longer : m.path.len ≤ 4294967295 → m.path.len ≤ r.path.len
    rows : HasMarks tracked m → HasRows tracked r

  all_left : IfSome left IsLeft
  all_left =
      by left
      (λ few. through_long tracked (not end.internal) file.policies neighbour.map_in p (seen_by_maps before) m.path.len
      few (omega arith))
      (λ has. through_rows tracked (not end.internal) file.policies neighbour.map_in p (seen_by_maps before)
      (record { numbers = has.numbers; communities = has.communities }))
    where
      by : (o : Option RouteShape) → (m.path.len ≤ 4294967295 → IfSome o (IsAtLeast m.path.len)) →
          (HasMarks tracked m → IfSome o (HasRows tracked)) → IfSome o IsLeft
      by None long rows = tt
      by (Some r) long rows = record { longer = long; rows = rows }

  taken_short : (r : RouteShape) → shape_is_acceptable tracked files end.router process m ≡ true → IsLeft r →
      IfSome (shape_if_short (with_seen before r)) (IsShapeTaken tracked files end m)
  taken_short r accepted left =
      if_true (IsShapeTaken tracked files end m) (nat_le r.path.len most_numbers) (Some (with_seen before r))
      (λ few. record {
        process = process;
        runs = runs_there files end.router file process is runs;
        neighbour = neighbour;
        named = named;
        from = refl;
        clusters = refl;
        unlooped = not_both (is_reflector process) _ (and_parts _ _ (and_parts _ _ accepted).1).1;
        longer = left.longer;
        short = leb-true r.path.len most_numbers few;
        marks = λ has. record {
          numbers = (left.rows has).numbers;
          communities = (left.rows has).communities;
          clusters = has.clusters;
        };
      })

  taken_parts : IfSome (shape_taken_in tracked files file process neighbour end p m) (IsShapeTaken tracked files end m)
  taken_parts =
      if_true (IsShapeTaken tracked files end m) _ _ (λ passes.
      by left all_left (and_parts _ _ passes).0)
    where
      by : (o : Option RouteShape) → IfSome o IsLeft → shape_is_acceptable tracked files end.router process m ≡ true →
          IfSome (option_and_then (λ r. shape_if_short (with_seen before r)) o) (IsShapeTaken tracked files end m)
      by None is accepted = tt
      by (Some r) is accepted = taken_short r accepted is

pub shape_taken_parts : (tracked : Tracked) (files : List File) (end : SessionEnd) (p : Prefix) (m : BgpShape) →
    IfSome (shape_imported tracked files end p m) (IsShapeTaken tracked files end m)
unfolding shape_imported
shape_taken_parts tracked files end p m =
    let P = IsShapeTaken tracked files end m in
    if_found P _ (slice_get files end.router) (λ file is. if_found P _ file.bgp (λ process runs.
    if_found P _ (neighbour_of files end) (λ neighbour named.
    taken_parts tracked files end p m file process is runs neighbour named)))

-- ---- export

-- over an external session the path grows by the own AS number; over an internal one it grows no shorter, and the
-- clusters are those of the crossing
pub record IsShapeSent (tracked : Tracked) (files : List File) (end : SessionEnd) (t m : BgpShape) : Type 0 where
  pub process : Bgp
  pub runs : process_of files end.router ≡ Some process
  pub neighbour : Neighbour
  pub may : (crossing files process neighbour end (end_numbered files end.router t.from)).may ≡ true
  pub few : t.path.len ≤ 4294967295 → m.path.len ≤ 4294967295
  pub external : end.internal ≡ false → t.path.len ≤ 4294967295 → m.path.len ≤ 255 → t.path.len + 1 ≤ m.path.len
  pub internal : end.internal ≡ true → t.path.len ≤ 4294967295 → t.path.len ≤ m.path.len
  pub clusters : end.internal ≡ true →
      m.clusters ≡ (if (crossing files process neighbour end (end_numbered files end.router t.from)).reflected
      then marks_with (numbers_of tracked.clusters) ((router_id files end.router).0 ∷ []) true t.clusters
      else t.clusters)
  pub marks : HasMarks tracked t → HasMarks tracked m

module _ (tracked : Tracked) (files : List File) (end : SessionEnd) (p : Prefix) (t : BgpShape) (file : File)
    (process : Bgp) (is : slice_get files end.router ≡ Some file) (runs : file.bgp ≡ Some process)
    (neighbour : Neighbour) where
  abbrev x : Crossing
  x = crossing files process neighbour end (end_numbered files end.router t.from)

  abbrev mapped_out : Option RouteShape
  mapped_out = shape_through_map tracked file.policies neighbour.map_out p (not end.internal) (seen_by_maps t)

  record IsMapped (r : RouteShape) : Type 0 where
    longer : t.path.len ≤ 4294967295 → t.path.len ≤ r.path.len
    few : t.path.len ≤ 4294967295 → r.path.len ≤ 4294967295
    rows : HasMarks tracked t → HasRows tracked r

  all_mapped : IfSome mapped_out IsMapped
  all_mapped =
      by mapped_out
      (λ few. through_long tracked (not end.internal) file.policies neighbour.map_out p (seen_by_maps t) t.path.len few
      (omega arith))
      (λ few. through_counted tracked (not end.internal) file.policies neighbour.map_out p (seen_by_maps t) few)
      (λ has. through_rows tracked (not end.internal) file.policies neighbour.map_out p (seen_by_maps t)
      (record { numbers = has.numbers; communities = has.communities }))
    where
      by : (o : Option RouteShape) → (t.path.len ≤ 4294967295 → IfSome o (IsAtLeast t.path.len)) →
          (t.path.len ≤ 4294967295 → IfSome o IsCounted) →
          (HasMarks tracked t → IfSome o (HasRows tracked)) → IfSome o IsMapped
      by None long few rows = tt
      by (Some r) long few rows = record { longer = long; few = few; rows = rows }

  marks_sent : (marks : List Bool) → length marks ≡ length tracked.communities →
      length (sent_marks tracked neighbour marks) ≡ length tracked.communities
  marks_sent marks long = by neighbour.send_community
    where
      by : (b : Bool) → length (if b then marks else marks_with tracked.communities [] false marks)
          ≡ length tracked.communities
      by true = long
      by false = long_with tracked.communities [] false marks long

  external_sent : (own : Addr) (keeps : Bool) (r : RouteShape) → IsMapped r → end.internal ≡ false → x.may ≡ true →
      IsShapeSent tracked files end t (external_shape tracked process neighbour own keeps r)
  unfolding saturated
  external_sent own keeps r mapped outside may = record {
    process = process;
    runs = runs_there files end.router file process is runs;
    neighbour = neighbour;
    may = may;
    few = λ few. omega arith;
    external = λ kind few short. let long = mapped.longer few in omega (arith, long, short);
    internal = λ inside few. absurd (let no = sym outside ∙ inside in cc);
    clusters = λ inside. absurd (let no = sym outside ∙ inside in cc);
    marks = λ has. record {
      numbers = long_with tracked.numbers (process.asn ∷ []) true r.path.numbers (mapped.rows has).numbers;
      communities = marks_sent r.communities (mapped.rows has).communities;
      clusters = length-map tracked.clusters _;
    };
  }

  internal_sent : (own : Addr) (r : RouteShape) → IsMapped r → end.internal ≡ true →
      x.may ≡ true →
      IsShapeSent tracked files end t (internal_shape tracked neighbour own (router_id files end.router) t x r)
  internal_sent own r mapped inside may = record {
    process = process;
    runs = runs_there files end.router file process is runs;
    neighbour = neighbour;
    may = may;
    few = mapped.few;
    external = λ outside few short. absurd (let no = sym outside ∙ inside in cc);
    internal = λ kind few. mapped.longer few;
    clusters = λ kind. refl;
    marks = λ has. record {
      numbers = (mapped.rows has).numbers;
      communities = marks_sent r.communities (mapped.rows has).communities;
      clusters = by x.reflected has;
    };
  }
    where
      by : (b : Bool) → HasMarks tracked t →
          length (if b then marks_with (numbers_of tracked.clusters) ((router_id files end.router).0 ∷ []) true
          t.clusters else t.clusters) ≡ length tracked.clusters
      by true has =
          let long = length-map tracked.clusters (λ (a : Addr). a.0) in
          long_with (numbers_of tracked.clusters) ((router_id files end.router).0 ∷ []) true t.clusters
          (has.clusters ∙ sym long) ∙ long
      by false has = has.clusters

  message_sent : (r : RouteShape) → IsMapped r → x.may ≡ true →
      IsShapeSent tracked files end t (shape_message tracked files file process neighbour end p t x r)
  message_sent r mapped may = by end.internal refl
    where
      inner : BgpShape
      inner = internal_shape tracked neighbour (own_address files end) (router_id files end.router) t x r

      outer : BgpShape
      outer =
          external_shape tracked process neighbour (own_address files end)
          ((t.path.len == 0) || shape_sets_metric tracked file.policies neighbour.map_out p (seen_by_maps t)) r

      by : (b : Bool) → end.internal ≡ b → IsShapeSent tracked files end t (if b then inner else outer)
      by true kind = internal_sent (own_address files end) r mapped kind may
      by false kind = external_sent (own_address files end) _ r mapped kind may

  sent_parts : IfSome (shape_sent tracked files file process neighbour end p t) (IsShapeSent tracked files end t)
  sent_parts =
      if_true (IsShapeSent tracked files end t) _ _
      (λ passes. by mapped_out all_mapped (and_parts _ _ (and_parts _ _ (and_parts _ _ passes).0).1).1)
    where
      by : (o : Option RouteShape) → IfSome o IsMapped → x.may ≡ true →
          IfSome (option_map (shape_message tracked files file process neighbour end p t x) o)
          (IsShapeSent tracked files end t)
      by None mapped may = tt
      by (Some r) mapped may = message_sent r mapped may

pub shape_sent_parts : (tracked : Tracked) (files : List File) (end : SessionEnd) (p : Prefix) (t : BgpShape) →
    IfSome (shape_exported tracked files end p t) (IsShapeSent tracked files end t)
unfolding shape_exported
shape_sent_parts tracked files end p t =
    let P = IsShapeSent tracked files end t in
    if_found P _ (slice_get files end.router) (λ file is. if_found P _ file.bgp (λ process runs.
    if_then P _ (λ neighbour. sent_parts tracked files end p t file process is runs neighbour)
    (neighbour_of files end)))
