-- What arrives over a session, from what stands in the symbolic environment and tables.
use Rattle.std.proofs.Common.{◌≡◌, ℕ, ◌==◌, ◌&&◌, true, false, List, length, map, take, Option, Some, None}
use Rattle.std.proofs.Common.{refl, sym, ap, subst, ◌∙◌, slice_get}
use Rattle.std.specs.Prelude.{IfSome, option_and_then, option_copied, option_map}
use Rattle.std.specs.Borrow.{Bor}
use Rattle.std.specs.List.{find}
use Rattle.mw_text.specs.declared.address.Addr.{Addr}
use Rattle.mw_text.specs.declared.address.Prefix.{Prefix}
use Rattle.ios_ast.specs.declared.bgp.Neighbour.{Neighbour}
use Rattle.ios_ast.specs.declared.file.File.{File}
use Rattle.route_record.specs.declared.tracked.Tracked.{Tracked}
use Rattle.net_parts.specs.declared.sessions.Far.{Far}
use Rattle.net_parts.specs.declared.sessions.Far.TheVariants.{Outside, Inside}
use Rattle.net_parts.specs.declared.sessions.SessionEnd.{SessionEnd}
use Rattle.net_parts.specs.Decisions.{external_count}
use Rattle.net_parts.specs.Sessions.{ends_of, external_ends, is_outside, neighbour_of}
use Rattle.plan_places.specs.Places.{item_at, places_below}
use Rattle.route_shapes.specs.Bgp.{BgpShape}
use Rattle.route_shapes.specs.Shapes.{RouteShape}
use Rattle.bgp_shapes.specs.Candidates.{ShapeSlot, shape_announced, shape_arriving}
use Rattle.announced_places.specs.Announced.{Ascend}
use Rattle.announced_places.specs.Environments.{announcement_of}
use Rattle.announced_places.proofs.ExternalPlaces.{environment_found, external_row}
use Rattle.term_store.specs.Terms.{Reading}
use Rattle.sym_policy.specs.declared.parts.SymRest.{SymRest}
use Rattle.sym_policy.specs.declared.records.SymBgp.{SymBgp}
use Rattle.sym_policy.specs.Held.{bgp_of}
use Rattle.sym_policy.specs.Records.{address_of}
use Rattle.sym_policy.specs.Routes.{IsBare}
use Rattle.sym_policy.proofs.SameNodes.{bgp_within}
use Rattle.sym_bgp.specs.Joined.{rest_at, with_rest}
use Rattle.sym_bgp.proofs.JoinedRoutes.{route_steps}
use Rattle.sym_bgp.proofs.Sent.{sent_there}
use Rattle.bgp_equations.specs.declared.environment.SymEnv.{SymEnv}
use Rattle.bgp_equations.specs.Environments.{environment_read, message_of}
use Rattle.bgp_equations.proofs.Environments.{item_map}

-- ---- an announcement as a message

pub announced_made : (w : Reading) (tracked : Tracked) (peer : Addr) (t : BgpShape) (seen : RouteShape)
    (rest : SymRest) → IsBare w tracked peer.0 rest →
    ◌≡◌ {A = RouteShape} seen (record {
      preferences = record {
        weight = 0;
        local_pref = 0;
        med = t.preferences.med;
        origin = t.preferences.origin;
      };
      path = t.path;
      communities = t.communities;
      type1 = false;
    }) →
    with_rest seen (rest_at w rest) ≡ message_of tracked peer t
announced_made w tracked peer t seen rest bare is = λ i. with_rest (is i) (record {
  next_hop = bare.next_hop i;
  originator = bare.originator i;
  from = bare.from i;
  cluster_len = bare.cluster_len i;
  clusters = bare.clusters i;
})

pub ruleset message_steps = (route_steps, bgp_within, sent_there, announced_made)

-- ---- from an external peer

-- what the environment has at the place of an external end
there_read : (w : Reading) (files : List File) (lens : List ℕ) (env : SymEnv) (at len : ℕ) (end : SessionEnd)
    (o : Option SymBgp) → Ascend lens → slice_get (ends_of files) at ≡ Some end → is_outside end.far ≡ true →
    o ≡ item_at (places_below lens (length (external_ends files))) env.announced
    (external_count (take at (ends_of files))) len →
    find (λ a. (a.end == at) && (a.len == len)) (environment_read w files lens env).announced
    ≡ option_map (announcement_of at len) (option_and_then (bgp_of w) o)
there_read w files lens env at len end o up there outer is =
    environment_found files lens (map (address_of w) env.ids) (map (bgp_of w) env.announced) at len up
    ∙ ap (option_map (announcement_of at len))
    (external_row files lens (map (bgp_of w) env.announced) at len end there outer
    ∙ ap (option_and_then (λ (t : Option BgpShape). t))
    (item_map (bgp_of w) (places_below lens (length (external_ends files))) env.announced
    (external_count (take at (ends_of files))) len
    ∙ ap (option_map (bgp_of w)) (sym is))
    ∙ joined o)
  where
    joined : (o : Option SymBgp) → option_and_then (λ (t : Option BgpShape). t) (option_map (bgp_of w) o)
        ≡ option_and_then (bgp_of w) o
    joined None = refl
    joined (Some s) = refl

pub outer_arriving : (w : Reading) (tracked : Tracked) (files : List File) (lens : List ℕ) (env : SymEnv)
    (slots : ℕ → Option ShapeSlot) (p : Prefix) (at : ℕ) (end : SessionEnd) (o : Option SymBgp) → Ascend lens →
    slice_get (ends_of files) at ≡ Some end → is_outside end.far ≡ true →
    o ≡ item_at (places_below lens (length (external_ends files))) env.announced
    (external_count (take at (ends_of files))) p.len →
    option_and_then (λ n. option_map (message_of tracked n.addr) (option_and_then (bgp_of w) o))
    (neighbour_of files end)
    ≡ shape_arriving tracked files (environment_read w files lens env) slots p at end
unfolding shape_arriving
outer_arriving w tracked files lens env slots p at end o up there outer is = by_far end.far refl outer where
  message : (x : Option BgpShape) (a : Addr) →
      option_map (message_of tracked a) x
      ≡ option_map (shape_announced tracked a) (option_map (announcement_of at p.len) x)
  message None a = refl
  message (Some s) a = refl

  by_line : (n : Option Neighbour) →
      option_and_then (λ n. option_map (message_of tracked n.addr) (option_and_then (bgp_of w) o)) n
      ≡ option_and_then (λ n. option_map (shape_announced tracked n.addr)
      (find (λ a. (a.end == at) && (a.len == p.len)) (environment_read w files lens env).announced)) n
  by_line None = refl
  by_line (Some n) =
      message (option_and_then (bgp_of w) o) n.addr
      ∙ ap (option_map (shape_announced tracked n.addr))
      (sym (there_read w files lens env at p.len end o up there outer is))

  by_far : (far : Far) → end.far ≡ far → is_outside far ≡ true →
      option_and_then (λ n. option_map (message_of tracked n.addr) (option_and_then (bgp_of w) o))
      (neighbour_of files end)
      ≡ shape_arriving tracked files (environment_read w files lens env) slots p at end
  by_far Outside far out =
      by_line (neighbour_of files end)
      ∙ ap (λ f. shape_arriving tracked files (environment_read w files lens env) slots p at (record end { far = f }))
      (sym far)
  by_far (Inside k) far out = absurd cc

-- what holds of a value holds of what refers to it
pub if_copied : {X : Type 0} (P : X → Type 0) (o : Option (Bor X)) (x : Option X) → option_copied o ≡ x → IfSome x P →
    IfSome o (λ s. P s.now)
if_copied P None x is holds = tt
if_copied P (Some s) x is holds = subst (λ y. IfSome y P) (sym is) holds
