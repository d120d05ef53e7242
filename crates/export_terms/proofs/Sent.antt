-- What goes out over the session of an end.
use Rattle.std.proofs.Common.{◌≡◌, ℕ, Bool, true, false, if◌then◌else◌, List, [], ◌∷◌, Option, Some, None, is_some}
use Rattle.std.proofs.Common.{refl, sym, ap, ◌∙◌}
use Rattle.std.specs.Option.{option_map_or}
use Rattle.std.specs.Prelude.{IfSome, slice_get}
use Rattle.std.proofs.lemmas.Bool.{and_parts, true≢false}
use Rattle.std.proofs.lemmas.List.Quantifiers.{position-Some}
use Rattle.std.proofs.lemmas.Option.{get_or_from_slice_get}
use Rattle.mw_text.specs.declared.address.Prefix.{Prefix}
use Rattle.ios_ast.specs.declared.file.File.{File}
use Rattle.ios_ast.specs.declared.policies.PrefixEntry.{PrefixEntry}
use Rattle.ios_ast.specs.Prefixes.{prefix_permitted, prefix_taken}
use Rattle.route_record.specs.declared.Failures.{Failures}
use Rattle.net_parts.specs.declared.sessions.Far.{Far}
use Rattle.net_parts.specs.declared.sessions.Far.TheVariants.{Outside, Inside}
use Rattle.net_parts.specs.declared.sessions.SessionEnd.{SessionEnd}
use Rattle.net_parts.specs.Ospf.{is_up_at}
use Rattle.net_parts.specs.Resolution.{session_up}
use Rattle.net_parts.specs.Exports.{is_towards}
use Rattle.net_parts.specs.Sessions.{ends_of, is_outside}
use Rattle.route_shapes.specs.Bgp.{BgpShape}
use Rattle.export_asks.specs.declared.ask.AskPeer.{AskPeer}
use Rattle.export_asks.specs.Exported.{end_to, is_end_to}

up_by : (files : List File) (failures : Failures) (end : SessionEnd) (far : Far) → is_outside far ≡ true →
    session_up files failures (record end { far = far }) ≡ is_up_at files failures end.own
unfolding session_up
up_by files failures end Outside outside = refl
up_by files failures end (Inside at) outside = absurd (true≢false (sym outside))

-- the session with an external peer is up where the own interface is
pub up_outside : (files : List File) (failures : Failures) (end : SessionEnd) → is_outside end.far ≡ true →
    session_up files failures end ≡ is_up_at files failures end.own
up_outside files failures end outside = up_by files failures end end.far outside

-- whether a route is there that is there where a node is true
pub there_where : (b : Bool) (s : BgpShape) → is_some (if b then Some s else None) ≡ b
there_where true s = refl
there_where false s = refl

-- a list of one entry that permits takes what the entry takes
pub one_entry : (e : PrefixEntry) (p : Prefix) → e.permit ≡ true → prefix_permitted (e ∷ []) p ≡ prefix_taken e p
one_entry e p permits = by (prefix_taken e p)
  where
    by : (b : Bool) → option_map_or (λ (x : PrefixEntry). x.permit) (if b then Some e else None) false ≡ b
    by true = permits
    by false = refl

-- the end towards an ask's peer is one with an external peer
pub end_outside : (files : List File) (peer : AskPeer) (o : Option ℕ) → o ≡ end_to files peer →
    IfSome o (λ k. (end : SessionEnd) → slice_get (ends_of files) k ≡ Some end → is_outside end.far ≡ true)
end_outside files peer None is = tt
end_outside files peer (Some k) is = λ end there.
    let found = (position-Some (is_end_to files peer) (ends_of files) k end (sym is)).1 in
    let here = ap (is_end_to files peer) (sym (get_or_from_slice_get (ends_of files) k end end there)) ∙ found in
    (and_parts (is_outside end.far) (is_towards files peer.router peer.addr end) here).0
