-- What a router makes of the shape of a message is the shape of what it makes of the message.
use Rattle.std.proofs.Common.{◌≡◌, ℕ, ◌+◌, ◌^◌, ◌==◌, ◌&&◌, Bool, true, false, not, nat_le, if◌then◌else◌, List}
use Rattle.std.proofs.Common.{Option, Some, None, length, refl, ap, ◌∙◌, arith}
use Rattle.std.specs.Prelude.{IfSome, slice_get}
use Rattle.std.specs.Option.{option_and_then, option_map, option_map_or}
use Rattle.std.proofs.lemmas.Bool.Decides.{nat_tests}
use Rattle.mw_text.specs.declared.address.Addr.{Addr}
use Rattle.mw_text.specs.declared.address.Prefix.{Prefix}
use Rattle.ios_ast.specs.declared.bgp.Bgp.{Bgp}
use Rattle.ios_ast.specs.declared.bgp.Neighbour.{Neighbour}
use Rattle.ios_ast.specs.declared.file.File.{File}
use Rattle.ios_ast.specs.Deciding.{carries}
use Rattle.ios_ast.specs.Setting.{Attributes}
use Rattle.net_parts.specs.declared.sessions.SessionEnd.{SessionEnd}
use Rattle.net_parts.specs.Exports as exports
use Rattle.ios_ast.specs.Maps.{through_map}
use Rattle.net_parts.specs.Mapping.{attributes_of, with_attributes}
use Rattle.net_parts.specs.Sessions.{neighbour_of}
use Rattle.route_record.specs.declared.BgpMsg.{BgpMsg}
use Rattle.route_record.specs.declared.BgpRec.{BgpRec}
use Rattle.route_record.specs.declared.tracked.Tracked.{Tracked}
use Rattle.route_shapes.specs.Bgp.{address_number, bgp_shape}
use Rattle.route_shapes.specs.Shapes.{all_tracked, route_shape}
use Rattle.route_record.proofs.OriginCodes.{code_small}
use Rattle.route_record.proofs.Saturated.{saturated-few}
use Rattle.route_shapes.proofs.ShapeLaw.{marked-map}
use Rattle.bgp_shapes.specs.Messages.{message_shape, with_seen}
use Rattle.bgp_shapes.specs.Tracking.{TracksRouter, TracksTests}
use Rattle.bgp_shapes.specs.Importing.{shape_if_short, shape_imported, shape_is_acceptable, shape_mapped_in}
use Rattle.bgp_shapes.specs.Importing.{shape_taken_in}
use Rattle.bgp_shapes.proofs.PolicyLaw.{HasCode, cluster_marked, paths_shape, seen_shape, through_code}
use Rattle.route_shapes.proofs.ShapeLaw.{through_map-route_shape}

originator_is : (o : Option Addr) (own : Addr)
    → (address_number o == 2 ^ 32 + own.0) ≡ option_map_or (λ id. id.0 == own.0) o false
originator_is None own = none own.0
  where
    none : (n : ℕ) → (0 == 2 ^ 32 + n) ≡ false
    none n = grind (arith, nat_tests)
originator_is (Some a) own = same a.0 own.0
  where
    same : (m n : ℕ) → (2 ^ 32 + m == 2 ^ 32 + n) ≡ (m == n)
    same m n = grind (arith, nat_tests)

-- a test that counts where another holds alone
where_true : (a b c : Bool) → (a ≡ true → b ≡ c) → (a && b) ≡ (a && c)
where_true true b c h = h refl
where_true false b c h = refl

acceptable_shape : (tracked : Tracked) (files : List File) (router : ℕ) (file : File) (process : Bgp) (m : BgpMsg)
    → TracksRouter files router file process tracked
    → shape_is_acceptable tracked files router process (message_shape tracked m)
    ≡ exports.is_acceptable files router process m
acceptable_shape tracked files router file process m tracks =
    let loop = marked-map (carries m.path) tracked.numbers process.asn tracks.number in
    let short = saturated-few (length m.path) in
    let own = originator_is m.originator (exports.router_id files router) in
    let cluster =
    where_true (exports.is_reflector process) _ _
    (λ h. cluster_marked tracked m.clusters (exports.router_id files router) (tracks.cluster h)) in
    λ i. (not (loop i) && short i) && (not (own i) && not (cluster i))

short_shape : (tracked : Tracked) (rec : BgpRec)
    → shape_if_short (bgp_shape tracked rec) ≡ option_map (bgp_shape tracked) (exports.if_short rec)
short_shape tracked rec =
    ap (λ b. if b then Some (bgp_shape tracked rec) else None) (saturated-few (length rec.path))
    ∙ by (nat_le (length rec.path) exports.most_numbers)
  where
    by : (b : Bool) → (if b then Some (bgp_shape tracked rec) else None)
        ≡ option_map (bgp_shape tracked) (if b then Some rec else None)
    by true = refl
    by false = refl

left_shape : (tracked : Tracked) (rec : BgpRec) (o : Option Attributes) → IfSome o HasCode
    → option_and_then (λ r. shape_if_short (with_seen (bgp_shape tracked rec) r)) (option_map (route_shape tracked) o)
    ≡ option_map (bgp_shape tracked) (option_and_then (λ r. exports.if_short (with_attributes rec r)) o)
left_shape tracked rec None h = refl
left_shape tracked rec (Some r) h =
    ap shape_if_short (seen_shape tracked rec r h) ∙ short_shape tracked (with_attributes rec r)

mapped_in_shape : (tracked : Tracked) (file : File) (neighbour : Neighbour) (end : SessionEnd) (p : Prefix)
    (rec : BgpRec) → all_tracked tracked file.policies ≡ true
    → shape_mapped_in tracked file neighbour end p (bgp_shape tracked rec)
    ≡ option_map (bgp_shape tracked) (option_and_then (λ r. exports.if_short (with_attributes rec r))
    (through_map file.policies neighbour.map_in p (not end.internal) (attributes_of rec)))
mapped_in_shape tracked file neighbour end p rec h =
    ap (option_and_then (λ r. shape_if_short (with_seen (bgp_shape tracked rec) r)))
    (through_map-route_shape tracked file.policies neighbour.map_in p (not end.internal) (attributes_of rec) h)
    ∙ left_shape tracked rec (through_map file.policies neighbour.map_in p (not end.internal) (attributes_of rec))
    (through_code file.policies neighbour.map_in p (not end.internal) (attributes_of rec) (code_small rec.origin))

pub where_some : {X Y : Type 0} (f : X → Y) (b c : Bool) (o : Option X) (s : Option Y) → b ≡ c → s ≡ option_map f o
    → (if b then s else None) ≡ option_map f (if c then o else None)
where_some f b true o s is same = ap (λ b. if b then s else None) is ∙ same
where_some f b false o s is same = ap (λ b. if b then s else None) is

taken_in_shape : (tracked : Tracked) (files : List File) (file : File) (process : Bgp) (neighbour : Neighbour)
    (end : SessionEnd) (p : Prefix) (m : BgpMsg) → TracksRouter files end.router file process tracked
    → shape_taken_in tracked files file process neighbour end p (message_shape tracked m)
    ≡ option_map (bgp_shape tracked) (exports.taken_in files file process neighbour end p m)
taken_in_shape tracked files file process neighbour end p m tracks =
    let accepts = acceptable_shape tracked files end.router file process m tracks in
    let paths = paths_shape tracked file.policies neighbour.filter_in m.path tracks.policies in
    where_some (bgp_shape tracked) _ _ _ _
    (λ i. accepts i && (exports.passes_prefixes file.policies neighbour.prefix_in p && paths i))
    (mapped_in_shape tracked file neighbour end p (exports.received neighbour end m) tracks.policies)

-- the law of two lookups and a call
pub found_twice : {A B C X Y : Type 0} (f : X → Y) (a : Option A) (b : A → Option B) (c : Option C)
    (g : A → B → C → Option X) (h : A → B → C → Option Y)
    → ((x : A) (y : B) → a ≡ Some x → b x ≡ Some y → (z : C) → h x y z ≡ option_map f (g x y z))
    → option_and_then (λ x. option_and_then (λ y. option_and_then (λ z. h x y z) c) (b x)) a
    ≡ option_map f (option_and_then (λ x. option_and_then (λ y. option_and_then (λ z. g x y z) c) (b x)) a)
found_twice f None b c g h same = refl
found_twice f (Some x) b c g h same = second (b x) (same x)
  where
    third : (c : Option _) (y : _) → ((z : _) → h x y z ≡ option_map f (g x y z))
        → option_and_then (λ z. h x y z) c ≡ option_map f (option_and_then (λ z. g x y z) c)
    third None y same = refl
    third (Some z) y same = same z

    second : (o : Option _) → ((y : _) → Some x ≡ Some x → o ≡ Some y → (z : _) → h x y z ≡ option_map f (g x y z))
        → option_and_then (λ y. option_and_then (λ z. h x y z) c) o
        ≡ option_map f (option_and_then (λ y. option_and_then (λ z. g x y z) c) o)
    second None same = refl
    second (Some y) same = third c y (same y refl refl)

pub imported_shape : (tracked : Tracked) (files : List File) (end : SessionEnd) (p : Prefix) (m : BgpMsg)
    → TracksTests files tracked
    → shape_imported tracked files end p (message_shape tracked m)
    ≡ option_map (bgp_shape tracked) (exports.imported files end p m)
unfolding shape_imported exports.imported
imported_shape tracked files end p m tracks =
    found_twice (bgp_shape tracked) (slice_get files end.router) (λ file. file.bgp) (neighbour_of files end)
    (λ file process neighbour. exports.taken_in files file process neighbour end p m)
    (λ file process neighbour. shape_taken_in tracked files file process neighbour end p (message_shape tracked m))
    (λ file process is runs neighbour.
    taken_in_shape tracked files file process neighbour end p m (tracks.routers end.router file process is runs))
