-- Where BGP can have no route of a length, no router of a stable routing holds one.
use Rattle.std.proofs.Common.{◌≡◌, ℕ, ◌<◌, ◌&&◌, ◌==◌, ◌++◌, Bool, true, false, List, [], ◌∷◌, length}
use Rattle.std.proofs.Common.{Option, Some, None, refl, sym, ap, subst, arith, ◌∙◌, if◌then◌else◌}
use Rattle.std.specs.Prelude.{nat_lt, option_and_then, slice_get}
use Rattle.std.specs.List.{cons_option, filter_map, list_all, list_any}
use Rattle.std.specs.Option.{option_map_or}
use Rattle.std.proofs.lemmas.Bool.{and_right, lt-ltb, or_parts}
use Rattle.std.proofs.lemmas.Map.Keys.{any_passes_from_place}
use Rattle.mw_text.specs.Address.{prefix_at, same_prefix}
use Rattle.mw_text.specs.Members.{In}
use Rattle.mw_text.specs.declared.address.Addr.{Addr}
use Rattle.mw_text.specs.declared.address.Prefix.{Prefix}
use Rattle.ios_ast.specs.declared.bgp.Bgp.{Bgp}
use Rattle.ios_ast.specs.declared.bgp.BgpNet.{BgpNet}
use Rattle.ios_ast.specs.declared.file.File.{File}
use Rattle.ios_ast.specs.declared.ospf.Redist.{Redist}
use Rattle.ios_ast.specs.Limits.{keeps_limits}
use Rattle.route_record.specs.declared.BgpRec.{BgpRec}
use Rattle.route_record.specs.declared.Environment.{Environment}
use Rattle.route_record.specs.declared.Failures.{Failures}
use Rattle.route_record.specs.declared.Origin.TheVariants.{Igp}
use Rattle.route_record.specs.declared.RibEntry.{RibEntry}
use Rattle.route_record.specs.declared.Slot.{Slot}
use Rattle.route_record.specs.declared.Tables.{Tables}
use Rattle.route_record.specs.declared.TheConstants.{LENGTHS}
use Rattle.route_record.specs.declared.tracked.Tracked.{Tracked}
use Rattle.net_parts.specs.declared.sessions.Far.TheVariants.{Outside}
use Rattle.net_parts.specs.declared.sessions.SessionEnd.{SessionEnd}
use Rattle.net_parts.specs.Origins.{by_network, entry_metric, into_bgp, local_route, local_routes, local_through}
use Rattle.net_parts.specs.Sessions.{ends_of, is_outside}
use Rattle.net_parts.specs.Stable.{Stable}
use Rattle.net_parts.specs.Tracked.{TracksNet}
use Rattle.rebuilt_routes.specs.Clusters.{IsKeptBySessions}
use Rattle.rebuilt_routes.proofs.Sources.{routes_in}
use Rattle.rebuilt_routes.proofs.StableShapes.{IsOwn, kept_held}
use Rattle.bgp_variables.specs.Brought.{brings_bgp, may_originate}

-- ---- lines that give nothing

no_lines : (lines : List Redist) → nat_lt 0 (length lines) ≡ false → lines ≡ []
no_lines [] none = refl
no_lines (line ∷ lines) none =
    absurd (let no : true ≡ false = sym (lt-ltb 0 (length (line ∷ lines)) (omega arith)) ∙ none in cc)

module _ (files : List File) (router : ℕ) (file : File) (p : Prefix) (slot : Slot) where
  -- a line of another length gives no route for the prefix
  other_line : (line : BgpNet) → (line.prefix.len == p.len) ≡ false → by_network file p slot line ≡ None
  other_line line other = by_entry slot.rib
    where
      by_metric : (o : Option ℕ) → option_and_then (λ med. if same_prefix line.prefix p
          then local_through file line.map p (local_route Igp med) else None) o ≡ None
      by_metric None = refl
      by_metric (Some med) =
          ap (λ b. if b then local_through file line.map p (local_route Igp med) else None)
          (and_right (line.prefix.addr.0 == p.addr.0) (line.prefix.len == p.len) other)

      by_entry : (o : Option RibEntry) → option_and_then (λ (entry : RibEntry). option_and_then (λ med.
          if same_prefix line.prefix p then local_through file line.map p (local_route Igp med) else None)
          (entry_metric slot entry.source)) o ≡ None
      by_entry None = refl
      by_entry (Some entry) = by_metric (entry_metric slot entry.source)

  other_lines : (lines : List BgpNet) → list_any (λ line. line.prefix.len == p.len) lines ≡ false →
      filter_map (by_network file p slot) lines ≡ []
  other_lines [] none = refl
  other_lines (line ∷ lines) none =
      let both = or_parts (line.prefix.len == p.len) (list_any (λ (x : BgpNet). x.prefix.len == p.len) lines) none in
      ap (λ o. cons_option o (filter_map (by_network file p slot) lines)) (other_line line both.0)
      ∙ other_lines lines both.1

  no_locals : (process : Bgp) → may_originate p.len process ≡ false → local_routes files router file process p slot ≡ []
  unfolding local_routes
  no_locals process none =
      let both = or_parts (nat_lt 0 (length process.redistribute))
      (list_any (λ (line : BgpNet). line.prefix.len == p.len) process.networks) none in
      ap (λ rs. rs ++ filter_map (into_bgp files router file p slot) process.redistribute)
      (other_lines process.networks both.1)
      ∙ ap (filter_map (into_bgp files router file p slot)) (no_lines process.redistribute both.0)

-- ---- nothing is held

module _ (files : List File) (destination : Addr) (failures : Failures) (environment : Environment) (tables : Tables)
    (stable : Stable files destination failures environment tables) (len : ℕ) (below : len < LENGTHS)
    (tracked : Tracked) (net : TracksNet files tracked) (limits : list_all keeps_limits files ≡ true)
    (none : brings_bgp files len ≡ false) where
  abbrev p : Prefix
  p = prefix_at destination len

  parts : (list_any (λ (end : SessionEnd). is_outside end.far) (ends_of files) ≡ false)
      × (list_any (λ (file : File). option_map_or (may_originate len) file.bgp false) files ≡ false)
  parts = or_parts _ _ none

  quiet : (router : ℕ) (file : File) (process : Bgp) → slice_get files router ≡ Some file →
      file.bgp ≡ Some process → may_originate len process ≡ false
  quiet router file process found runs = by (may_originate len process) refl
    where
      by : (b : Bool) → may_originate len process ≡ b → b ≡ false
      by true is =
          let some = any_passes_from_place (λ (f : File). option_map_or (may_originate len) f.bgp false) files router file
          found (ap (λ o. option_map_or (may_originate len) o false) runs ∙ is) in
          let other = parts.1 in
          absurd (let no : false ≡ true = sym other ∙ some in cc)
      by false is = refl

  no_own : (router : ℕ) (rec : BgpRec) →
      IsOwn files destination failures environment tables stable len below router rec → false ≡ true
  no_own router rec is =
      absurd (subst (In rec) (no_locals files router is.file p is.slot is.process
      (quiet router is.file is.process is.there is.runs)) is.is)

  no_peer : (at : ℕ) (end : SessionEnd) → slice_get (ends_of files) at ≡ Some end → end.far ≡ Outside → false ≡ true
  no_peer at end there outside =
      let other = parts.0 in
      sym other ∙ any_passes_from_place (λ (x : SessionEnd). is_outside x.far) (ends_of files) at end there
      (ap is_outside outside)

  never : IsKeptBySessions files environment p (λ router rec. false)
  never = record {
    announced = λ at end neighbour a rec there outside named says taken. no_peer at end there outside;
    sent = λ at far_at end far held message rec there inside behind sends taken is. is;
  }

  pub never_held : (router : ℕ) (rec : BgpRec) → routes_in tables p router ≡ Some rec → false ≡ true
  never_held =
      kept_held files destination failures environment tables stable len below tracked net limits
      (λ router rec. false) no_own never
