-- Local routes have no lists, no originator and no peer.
use Rattle.std.proofs.Common.{◌≡◌, ℕ, Bool, true, false, List, [], ◌∷◌, Option, Some, None, refl, if◌then◌else◌}
use Rattle.std.specs.Prelude.{All, IfSome, option_map, unwrap_or}
use Rattle.std.specs.List.{cons_option, filter_map}
use Rattle.std.proofs.lemmas.List.Elements.{All-append, All-cons, All-nil}
use Rattle.mw_text.specs.declared.address.Prefix.{Prefix}
use Rattle.mw_text.specs.Address.{same_prefix}
use Rattle.ios_ast.specs.declared.bgp.Bgp.{Bgp}
use Rattle.ios_ast.specs.declared.file.File.{File}
use Rattle.ios_ast.specs.declared.file.Use.{Use}
use Rattle.ios_ast.specs.declared.policies.SetAct.{SetAct}
use Rattle.ios_ast.specs.declared.policies.SetAct.TheVariants.{LocalPref, Metric, Weight, NoCommunity, Community}
use Rattle.ios_ast.specs.declared.policies.SetAct.TheVariants.{Origin, Prepend, Type1}
use Rattle.ios_ast.specs.Maps.{through_map}
use Rattle.ios_ast.specs.Setting.{Attributes, set_one}
use Rattle.route_record.specs.declared.BgpRec.{BgpRec}
use Rattle.route_record.specs.declared.Learnt.TheVariants.{Local}
use Rattle.route_record.specs.declared.Origin.{Origin as OriginOf}
use Rattle.route_record.specs.declared.Origin.TheVariants.{Igp, Incomplete}
use Rattle.route_record.specs.declared.Slot.{Slot}
use Rattle.net_parts.specs.Mapping.{attributes_of, with_attributes}
use Rattle.net_parts.specs.Origins.{by_network, entry_metric, into_bgp, is_default, local_route, local_routes}
use Rattle.net_parts.specs.Origins.{local_through, taken_metric}
use Rattle.bgp_shapes.proofs.PolicyLaw.{through_keeps}
use Rattle.bgp_shapes.proofs.LengthLaw.{if_then}
use Rattle.rebuilt_routes.proofs.Options.{if_true}

pub record IsPlain (rec : BgpRec) : Type 0 where
  pub from : rec.from ≡ Local
  pub path : rec.path ≡ []
  pub originator : rec.originator ≡ None
  pub clusters : rec.clusters ≡ []

through_plain : (file : File) (used : Option Use) (p : Prefix) (origin : OriginOf) (med : ℕ) →
    IfSome (local_through file used p (local_route origin med)) IsPlain
through_plain file used p origin med =
    by_map (through_map file.policies used p false (attributes_of (local_route origin med)))
    (through_keeps (λ r. r.path ≡ []) false (λ r line is. by_line r line is) file.policies used p
    (attributes_of (local_route origin med)) refl)
  where
    by_line : (r : Attributes) (line : SetAct) → r.path ≡ [] → (set_one false r line).path ≡ []
    by_line r (LocalPref n) is = is
    by_line r (Metric n) is = is
    by_line r (Weight n) is = is
    by_line r NoCommunity is = is
    by_line r (Community values additive) is = is
    by_line r (Origin igp) is = is
    by_line r (Prepend numbers) is = is
    by_line r (Type1 type1) is = is

    by_map : (o : Option Attributes) → IfSome o (λ r. r.path ≡ []) →
        IfSome (option_map (with_attributes (local_route origin med)) o) IsPlain
    by_map None h = tt
    by_map (Some r) h = record { from = refl; path = h; originator = refl; clusters = refl }

-- all that a call gives of items
pub all_given : {X Y : Type 0} (P : Y → Type 0) (h : X → Option Y) → ((x : X) → IfSome (h x) P) → (xs : List X) →
    All P (filter_map h xs)
all_given P h gives [] = All-nil P
all_given {X = X} {Y = Y} P h gives (x ∷ xs) = by (h x) (gives x) (all_given P h gives xs)
  where
    by : (o : Option Y) → IfSome o P → All P (filter_map h xs) → All P (cons_option o (filter_map h xs))
    by None holds rest = rest
    by (Some y) holds rest = All-cons P y (filter_map h xs) holds rest

pub locals_plain : (files : List File) (router : ℕ) (file : File) (process : Bgp) (p : Prefix) (slot : Slot) →
    All IsPlain (local_routes files router file process p slot)
unfolding local_routes
locals_plain files router file process p slot =
    All-append IsPlain (filter_map (by_network file p slot) process.networks)
    (filter_map (into_bgp files router file p slot) process.redistribute)
    (all_given IsPlain (by_network file p slot) (λ line.
    if_then IsPlain _ (λ entry. if_then IsPlain _ (λ med.
    if_true IsPlain (same_prefix line.prefix p) _ (λ there. through_plain file line.map p Igp med))
    (entry_metric slot entry.source)) slot.rib) process.networks)
    (all_given IsPlain (into_bgp files router file p slot) (λ line.
    if_then IsPlain _ (λ entry. if_then IsPlain _ (λ metric.
    by_default (is_default p) _ (through_plain file line.map p Incomplete (unwrap_or line.metric metric)))
    (taken_metric files router p slot line entry.source)) slot.rib) process.redistribute)
  where
    by_default : (b : Bool) (o : Option BgpRec) → IfSome o IsPlain → IfSome (if b then None else o) IsPlain
    by_default true o holds = tt
    by_default false o holds = holds
