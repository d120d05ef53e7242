-- What a router takes of a message.
use Rattle.std.proofs.Common.{◌≡◌, ℕ, ◌+◌, ◌^◌, ◌&&◌, Bool, true, false, not, nat_lt, if◌then◌else◌}
use Rattle.std.proofs.Common.{List, Option, Some, None, refl, ap, ◌∙◌, arith}
use Rattle.std.specs.Prelude.{nat_le}
use Rattle.std.specs.Option.{option_and_then, option_map}
use Rattle.std.proofs.lemmas.Bool.Decides.{nat_tests}
use Rattle.mw_text.specs.declared.address.Prefix.{Prefix}
use Rattle.ios_ast.specs.declared.bgp.Bgp.{Bgp}
use Rattle.ios_ast.specs.declared.bgp.Neighbour.{Neighbour}
use Rattle.ios_ast.specs.declared.file.File.{File}
use Rattle.route_record.specs.declared.tracked.Tracked.{Tracked}
use Rattle.net_parts.specs.declared.sessions.SessionEnd.{SessionEnd}
use Rattle.net_parts.specs.Exports.{most_numbers, passes_prefixes}
use Rattle.route_shapes.specs.Bgp.{BgpShape}
use Rattle.route_shapes.specs.Shapes.{RouteShape, shape_passes_paths, shape_through_map}
use Rattle.bgp_shapes.specs.Importing.{shape_if_short, shape_is_acceptable, shape_mapped_in, shape_received}
use Rattle.bgp_shapes.specs.Importing.{shape_taken_in}
use Rattle.bgp_shapes.specs.Messages.{seen_by_maps, with_seen}
use Rattle.term_store.specs.Terms.{Reading}
use Rattle.term_arith.specs.Bits.{bits, number}
use Rattle.sym_policy.specs.declared.parts.SymRest.{SymRest}
use Rattle.sym_policy.specs.declared.records.SymBgp.{SymBgp}
use Rattle.sym_policy.specs.Held.{bgp_at}
use Rattle.sym_policy.specs.SameNodes.{IsRest}
use Rattle.sym_policy.proofs.SameNodes.{path_read, path_within, preferences_within, rest_within}
use Rattle.sym_bgp.specs.Joined.{RestShape, rest_at, rest_of_shape, shape_through, with_rest}
use Rattle.sym_bgp.proofs.JoinedRoutes.{preferences_read, route_steps, seen_read}

-- at most 255
pub few_numbers : (n : ℕ) → not (nat_lt 255 n) ≡ nat_le n 255
few_numbers n = grind (arith, nat_tests)

pub ruleset list_steps = (path_within, path_read)

-- the nodes of what maps see before the incoming map
pub ruleset seen_steps = (path_within, path_read, seen_read)

pub rest_copied : (w : Reading) (held : SymBgp) (s : SymRest) → IsRest held s →
    rest_at w s ≡ rest_of_shape (bgp_at w held)
rest_copied w held s h = λ i. record {
  next_hop = number w (h.next_hop i);
  originator = number w (h.originator i);
  from = number w (h.from i);
  cluster_len = number w (h.cluster_len i);
  clusters = bits w (h.clusters i);
}

pub ruleset rest_steps = (rest_within, rest_copied)

-- the route before the incoming map is that of its parts
pub received_read : (neighbour : Neighbour) (end : SessionEnd) (s : BgpShape) (seen : RouteShape) (rest : RestShape) →
    seen ≡ seen_by_maps (shape_received neighbour end s) →
    rest ≡ record (rest_of_shape s) { from = 2 ^ 32 + neighbour.addr.0 } →
    with_rest seen rest ≡ shape_received neighbour end s
received_read neighbour end s seen rest seen_is rest_is = λ i. with_rest (seen_is i) (rest_is i)

pub ruleset received_steps = (route_steps, received_read)

-- a route that is there where its path is not too long
pub short_there : (s : BgpShape) (valid short there : Bool) → there ≡ (valid && short) →
    short ≡ nat_le s.path.len most_numbers →
    (if there then Some s else None) ≡ option_and_then shape_if_short (if valid then Some s else None)
short_there s true short there is short_is = λ i. if (is ∙ short_is) i then Some s else None
short_there s false short there is short_is = ap (λ b. if b then Some s else None) is

-- what is made of a message, from its steps
pub taken_in : (tracked : Tracked) (files : List File) (file : File) (process : Bgp) (neighbour : Neighbour)
    (end : SessionEnd) (p : Prefix) (s : BgpShape) (valid takes there external : Bool)
    (before left made : Option BgpShape) →
    takes ≡ (shape_is_acceptable tracked files end.router process s
    && (passes_prefixes file.policies neighbour.prefix_in p
    && shape_passes_paths tracked file.policies neighbour.filter_in s.path)) →
    there ≡ (valid && takes) → before ≡ (if there then Some (shape_received neighbour end s) else None) →
    external ≡ not end.internal →
    left ≡ option_and_then (shape_through tracked file.policies neighbour.map_in p external) before →
    made ≡ option_and_then shape_if_short left →
    made ≡ option_and_then (shape_taken_in tracked files file process neighbour end p) (if valid then Some s else None)
taken_in tracked files file process neighbour end p s valid takes there external before left made takes_is there_is
    before_is external_is left_is made_is =
    made_is
    ∙ ap (option_and_then shape_if_short) left_is
    ∙ (λ i. option_and_then shape_if_short (option_and_then (through (external_is i)) (before_is i)))
    ∙ ap (λ b. option_and_then shape_if_short (option_and_then (through (not end.internal))
    (if b then Some received else None))) there_is
    ∙ by_valid valid
  where
    received : BgpShape
    received = shape_received neighbour end s

    through : Bool → BgpShape → Option BgpShape
    through b = shape_through tracked file.policies neighbour.map_in p b

    by_map : (o : Option RouteShape) → option_and_then shape_if_short (option_map (with_seen received) o)
        ≡ option_and_then (λ r. shape_if_short (with_seen received r)) o
    by_map None = refl
    by_map (Some r) = refl

    by_takes : (b : Bool) →
        option_and_then shape_if_short
        (option_and_then (through (not end.internal)) (if b then Some received else None))
        ≡ (if b then shape_mapped_in tracked file neighbour end p received else None)
    by_takes true = by_map (shape_through_map tracked file.policies neighbour.map_in p (not end.internal)
        (seen_by_maps received))
    by_takes false = refl

    by_valid : (v : Bool) →
        option_and_then shape_if_short
        (option_and_then (through (not end.internal)) (if v && takes then Some received else None))
        ≡ option_and_then (shape_taken_in tracked files file process neighbour end p) (if v then Some s else None)
    by_valid true =
        by_takes takes ∙ ap (λ b. if b then shape_mapped_in tracked file neighbour end p received else None) takes_is
    by_valid false = refl

-- nothing is made of any message
pub none_taken : {X Y : Type 0} (o : Option X) → ◌≡◌ {A = Option Y} None (option_and_then (λ s. None) o)
none_taken None = refl
none_taken (Some s) = refl
