-- What is sent of a route, from its parts.
use Rattle.std.proofs.Common.{◌≡◌, ℕ, suc, ◌+◌, ◌*◌, ◌^◌, ◌≤◌, ◌==◌, ◌&&◌, ◌||◌, Bool, true, false, not}
use Rattle.std.proofs.Common.{if◌then◌else◌, List, [], ◌∷◌, ◌++◌}
use Rattle.std.proofs.Common.{Option, Some, None, length, map, refl, sym, ap, ◌∙◌, arith}
use Rattle.std.specs.Option.{option_and_then, option_map}
use Rattle.std.proofs.Math.Nat.{pow-succ'}
use Rattle.std.proofs.lemmas.List.{length-append}
use Rattle.mw_text.specs.declared.address.Addr.{Addr}
use Rattle.mw_text.specs.declared.address.Prefix.{Prefix}
use Rattle.ios_ast.specs.declared.bgp.Bgp.{Bgp}
use Rattle.ios_ast.specs.declared.bgp.Neighbour.{Neighbour}
use Rattle.ios_ast.specs.declared.file.File.{File}
use Rattle.net_parts.specs.declared.sessions.SessionEnd.{SessionEnd}
use Rattle.net_parts.specs.Exports.{own_address, passes_prefixes, router_id}
use Rattle.route_record.specs.declared.tracked.Tracked.{Tracked}
use Rattle.route_shapes.specs.Bgp.{BgpShape}
use Rattle.route_shapes.specs.Shapes.{RouteShape, shape_passes_paths, shape_prepended, shape_through_map}
use Rattle.bgp_shapes.specs.Crossings.{Crossing}
use Rattle.bgp_shapes.specs.Exporting.{external_shape, internal_shape, sent_marks, shape_may_go}
use Rattle.bgp_shapes.specs.Exporting.{shape_message, shape_sent_by}
use Rattle.bgp_shapes.specs.Messages.{seen_by_maps, shape_sets_metric, with_seen}
use Rattle.term_store.specs.declared.NodeId.{NodeId}
use Rattle.term_store.specs.Terms.{Reading, at}
use Rattle.term_arith.specs.Bits.{bit, number}
use Rattle.term_arith.proofs.NumberLemmas.{node_steps}
use Rattle.sym_policy.specs.declared.parts.SymRest.{SymRest}
use Rattle.sym_policy.specs.Routes.{IsBare}
use Rattle.sym_policy.proofs.SameNodes.{bgp_within, path_read, path_within}
use Rattle.sym_bgp.specs.Joined.{RestShape, rest_at, rest_sent, sent_of, shape_through, with_rest}
use Rattle.sym_bgp.proofs.JoinedRoutes.{route_steps}

pub ruleset path_steps = (path_within, path_read)

-- a message that is there where the route is
pub sent_there : (there : Bool) (f : BgpShape → BgpShape) (t made : BgpShape) → made ≡ f t →
    (if there then Some made else None) ≡ option_map f (if there then Some t else None)
sent_there true f t made is = ap Some is
sent_there false f t made is = refl

-- the message over an external session
pub external_made : (w : Reading) (tracked : Tracked) (process : Bgp) (neighbour : Neighbour) (own : Addr)
    (keeps : Bool) (t : BgpShape) (seen : RouteShape) (rest : SymRest) → IsBare w tracked own.0 rest →
    ◌≡◌ {A = RouteShape} seen (record {
      preferences = record {
        weight = 0;
        local_pref = 0;
        med = if keeps then t.preferences.med else 0;
        origin = t.preferences.origin;
      };
      path = shape_prepended tracked.numbers (process.asn ∷ []) t.path;
      communities = sent_marks tracked neighbour t.communities;
      type1 = false;
    }) →
    with_rest seen (rest_at w rest) ≡ external_shape tracked process neighbour own keeps (seen_by_maps t)
external_made w tracked process neighbour own keeps t seen rest bare is = λ i. with_rest (is i) (record {
  next_hop = bare.next_hop i;
  originator = bare.originator i;
  from = bare.from i;
  cluster_len = bare.cluster_len i;
  clusters = bare.clusters i;
})

pub ruleset external_steps = (route_steps, bgp_within, sent_there, external_made)

-- a number with one more bit that is set
number_high : (w : Reading) (ids : List NodeId) (k : ℕ) (id : NodeId) → length ids ≡ k → at w id ≡ true →
    number w (ids ++ id ∷ []) ≡ 2 ^ k + number w ids
number_high w [] k id long set =
    let none : k ≡ 0 = sym long in
    ap (λ b. bit b + 2 * 0) set ∙ ap (λ n. 2 ^ n + 0) (sym none)
number_high w (x ∷ xs) k id long set =
    let more : k ≡ suc (length xs) = sym long in
    let rest = number_high w xs (length xs) id refl set in
    let twice = pow-succ' 2 (length xs) in
    ap (λ n. bit (at w x) + 2 * n) rest
    ∙ omega (arith, twice)
    ∙ ap (λ n. 2 ^ n + (bit (at w x) + 2 * number w xs)) (sym more)

pub numbered_number : (w : Reading) (ids : List NodeId) (id : NodeId) → length ids ≡ 32 → at w id ≡ true →
    number w (ids ++ id ∷ []) ≡ 2 ^ 32 + number w ids
numbered_number w ids id long set = number_high w ids 32 id long set

pub ruleset numbered_steps = (node_steps, length-append, numbered_number)

-- the message over an internal session
pub internal_made : (tracked : Tracked) (neighbour : Neighbour) (own id : Addr) (x : Crossing) (t : BgpShape)
    (seen : RouteShape) (rest : RestShape) →
    ◌≡◌ {A = RouteShape} seen (record {
      preferences = record t.preferences { weight = 0 };
      path = t.path;
      communities = sent_marks tracked neighbour t.communities;
      type1 = false;
    }) → rest ≡ rest_sent tracked own.0 id.0 x t →
    with_rest seen rest ≡ internal_shape tracked neighbour own id t x (seen_by_maps t)
internal_made tracked neighbour own id x t seen rest seen_is rest_is = λ i. with_rest (seen_is i) (rest_is i)

pub ruleset internal_steps = (route_steps, bgp_within, sent_there, internal_made)

-- what is sent of a route, from its steps
pub sent_by : (tracked : Tracked) (files : List File) (file : File) (process : Bgp) (neighbour : Neighbour)
    (end : SessionEnd) (p : Prefix) (s : BgpShape) (x : Crossing) (valid goes keeps : Bool)
    (left made : Option BgpShape) →
    goes ≡ (shape_may_go tracked end s x && (passes_prefixes file.policies neighbour.prefix_out p
    && shape_passes_paths tracked file.policies neighbour.filter_out s.path)) →
    (end.internal ≡ false → keeps ≡ ((s.path.len == 0)
    || shape_sets_metric tracked file.policies neighbour.map_out p (seen_by_maps s))) →
    left ≡ option_and_then (shape_through tracked file.policies neighbour.map_out p (not end.internal))
    (if valid && goes then Some s else None) →
    made ≡ option_map (sent_of tracked files process neighbour end keeps x) left →
    made ≡ option_and_then (λ s. shape_sent_by tracked files file process neighbour end p s x)
    (if valid then Some s else None)
sent_by tracked files file process neighbour end p s x valid goes keeps left made goes_is keeps_is left_is made_is =
    made_is
    ∙ ap (option_map (sent_of tracked files process neighbour end keeps x)) left_is
    ∙ by_valid valid
  where
    through : BgpShape → Option BgpShape
    through t = shape_through tracked file.policies neighbour.map_out p (not end.internal) t

    message : RouteShape → BgpShape
    message r = shape_message tracked files file process neighbour end p s x r

    same : (internal : Bool) → end.internal ≡ internal → (r : RouteShape) →
        (if internal then internal_shape tracked neighbour (own_address files end) (router_id files end.router)
        (with_seen s r) x (seen_by_maps (with_seen s r))
        else external_shape tracked process neighbour (own_address files end) keeps (seen_by_maps (with_seen s r)))
        ≡ (if internal then internal_shape tracked neighbour (own_address files end) (router_id files end.router) s x r
        else external_shape tracked process neighbour (own_address files end)
        ((s.path.len == 0) || shape_sets_metric tracked file.policies neighbour.map_out p (seen_by_maps s)) r)
    same true is r = refl
    same false is r =
        ap (λ k. external_shape tracked process neighbour (own_address files end) k r) (keeps_is is)

    by_map : (o : Option RouteShape) →
        option_map (sent_of tracked files process neighbour end keeps x) (option_map (with_seen s) o)
        ≡ option_map message o
    by_map None = refl
    by_map (Some r) = ap Some (same end.internal refl r)

    by_goes : (b : Bool) →
        option_map (sent_of tracked files process neighbour end keeps x)
        (option_and_then through (if b then Some s else None))
        ≡ (if b then option_map message (shape_through_map tracked file.policies neighbour.map_out p (not end.internal)
        (seen_by_maps s)) else None)
    by_goes true = by_map (shape_through_map tracked file.policies neighbour.map_out p (not end.internal)
        (seen_by_maps s))
    by_goes false = refl

    by_valid : (v : Bool) →
        option_map (sent_of tracked files process neighbour end keeps x)
        (option_and_then through (if v && goes then Some s else None))
        ≡ option_and_then (λ s. shape_sent_by tracked files file process neighbour end p s x)
        (if v then Some s else None)
    by_valid true =
        by_goes goes
        ∙ ap (λ b. if b then option_map message (shape_through_map tracked file.policies neighbour.map_out p
        (not end.internal) (seen_by_maps s)) else None) goes_is
    by_valid false = refl

-- two calls that answer the same for a route
pub same_there : {X Y : Type 0} (f g : X → Option Y) (s : X) (there : Bool) → f s ≡ g s →
    option_and_then f (if there then Some s else None) ≡ option_and_then g (if there then Some s else None)
same_there f g s true is = is
same_there f g s false is = refl
