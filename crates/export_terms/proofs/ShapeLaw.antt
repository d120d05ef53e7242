-- What goes out by shapes is what goes out.
use Rattle.std.proofs.Common.{◌≡◌, ℕ, zero, suc, ◌==◌, ◌&&◌, Bool, true, false, List, [], Option}
use Rattle.std.proofs.Common.{Some, None, is_some, length, refl, sym, ap, arith, ◌∙◌}
use Rattle.std.specs.Prelude.{option_and_then, option_map, slice_get}
use Rattle.std.specs.Option.{option_map_or}
use Rattle.std.proofs.lemmas.Bool.{and_parts, true≢false}
use Rattle.std.proofs.lemmas.Bool.Decides.{nat_tests}
use Rattle.mw_text.specs.declared.address.Addr.{Addr}
use Rattle.mw_text.specs.declared.address.Prefix.{Prefix}
use Rattle.mw_text.specs.Address.{prefix_at}
use Rattle.mw_text.proofs.Found.{find_passes}
use Rattle.ios_ast.specs.declared.bgp.Neighbour.{Neighbour}
use Rattle.ios_ast.specs.declared.file.File.{File}
use Rattle.route_record.specs.declared.BgpRec.{BgpRec}
use Rattle.route_record.specs.declared.Failures.{Failures}
use Rattle.route_record.specs.declared.Learnt.{Learnt}
use Rattle.route_record.specs.declared.Learnt.TheVariants.{Local, Peer}
use Rattle.route_record.specs.declared.Tables.{Tables}
use Rattle.route_record.specs.declared.tracked.Tracked.{Tracked}
use Rattle.net_parts.specs.declared.sessions.Far.{Far}
use Rattle.net_parts.specs.declared.sessions.Far.TheVariants.{Outside, Inside}
use Rattle.net_parts.specs.declared.sessions.SessionEnd.{SessionEnd}
use Rattle.net_parts.specs.Exports.{end_towards, exported, is_towards, learnt_over}
use Rattle.net_parts.specs.Resolution.{session_up}
use Rattle.net_parts.specs.Sessions.{ends_of, neighbour_of}
use Rattle.route_shapes.specs.Bgp.{BgpShape, bgp_shape}
use Rattle.bgp_shapes.specs.Exporting.{shape_exported}
use Rattle.bgp_shapes.specs.Messages.{message_shape}
use Rattle.bgp_shapes.specs.Tracking.{TracksTests}
use Rattle.bgp_shapes.proofs.CrossingLaw.{learnt_numbered}
use Rattle.bgp_shapes.proofs.ExportLaw.{exported_shape}
use Rattle.export_asks.specs.declared.ask.Ask.{Ask}
use Rattle.export_asks.specs.declared.ask.AskPeer.{AskPeer}
use Rattle.export_asks.specs.Exported.{beyond, end_to, goes_out, held_at, is_asked, is_exported, is_learnt, message_over}
use Rattle.export_asks.specs.Exported.{same_peer, source_of, traced}
use Rattle.export_asks.proofs.Traces.{traced-suc, traced-zero}
use Rattle.export_terms.specs.Shapes.{comes_from, leads_by, leads_to, shape_goes_out, shape_learnt, shape_out, shape_sent}
use Rattle.export_terms.specs.Shapes.{traced_by}
use Rattle.export_terms.proofs.Layers.{comes-suc, comes-zero}

-- the shapes of the routes that routers hold for one prefix length
abbrev pub shapes_held : Tracked → Tables → ℕ → ℕ → Option BgpShape
shapes_held tracked tables len router = option_map (bgp_shape tracked) (held_at tables router len)

-- ---- traces

-- two tests of numbers of which the others are known to be equal
same_numbers : (r s t a b n : ℕ) → (r == s) ≡ true → (n == a) ≡ true →
    ((r == t) && (n == b)) ≡ ((t == s) && (b == a))
same_numbers r s t a b n one other = grind (arith, nat_tests)

-- an end towards an address is one towards the peer where the two are one
outside_same : (files : List File) (router : ℕ) (a : Addr) (peer : AskPeer) (end : SessionEnd) →
    is_towards files router a end ≡ true →
    is_towards files peer.router peer.addr end ≡ same_peer peer (record { router = router; addr = a })
outside_same files router a peer end towards = by (neighbour_of files end) (and_parts _ _ towards).1
  where
    by : (o : Option Neighbour) → option_map_or (λ neighbour. neighbour.addr.0 == a.0) o false ≡ true →
        ((end.router == peer.router) && option_map_or (λ neighbour. neighbour.addr.0 == peer.addr.0) o false)
        ≡ same_peer peer (record { router = router; addr = a })
    by None none = absurd (true≢false (sym none))
    by (Some neighbour) here =
        same_numbers end.router router peer.router a.0 peer.addr.0 neighbour.addr.0 (and_parts _ _ towards).0 here

-- what is left of the trace says whether it ends at the peer
abbrev SaysSo : AskPeer → (ℕ → Bool) → (ℕ → Option AskPeer) → Type 0
SaysSo peer next rest = (r : ℕ) → next r ≡ option_map_or (same_peer peer) (rest r) false

beyond_same : (files : List File) (peer : AskPeer) (next : ℕ → Bool) (rest : ℕ → Option AskPeer) (router : ℕ) (a : Addr)
    (end : SessionEnd) (far : Far) → SaysSo peer next rest → is_towards files router a end ≡ true →
    leads_by files peer next end far ≡ option_map_or (same_peer peer) (beyond files rest router a far) false
beyond_same files peer next rest router a end Outside says towards = outside_same files router a peer end towards
beyond_same files peer next rest router a end (Inside at) says towards = by (slice_get (ends_of files) at)
  where
    by : (o : Option SessionEnd) → option_map_or (λ far. next far.router) o false
        ≡ option_map_or (same_peer peer) (option_and_then (λ far. rest far.router) o) false
    by None = refl
    by (Some far) = says far.router

over_same : (files : List File) (peer : AskPeer) (next : ℕ → Bool) (rest : ℕ → Option AskPeer) (router : ℕ) (a : Addr)
    (o : Option SessionEnd) → SaysSo peer next rest → end_towards files router a ≡ o →
    option_map_or (leads_to files peer next) o false
    ≡ option_map_or (same_peer peer) (option_and_then (λ end. beyond files rest router a end.far) o) false
over_same files peer next rest router a None says is = refl
over_same files peer next rest router a (Some end) says is =
    beyond_same files peer next rest router a end end.far says
    (find_passes (is_towards files router a) (ends_of files) end is)

from_same : (files : List File) (peer : AskPeer) (next : ℕ → Bool) (rest : ℕ → Option AskPeer) (router : ℕ)
    (from : Learnt) → SaysSo peer next rest →
    option_map_or (leads_to files peer next) (learnt_over files router from) false
    ≡ option_map_or (same_peer peer) (source_of files rest router from) false
from_same files peer next rest router Local says = refl
from_same files peer next rest router (Peer a) says =
    over_same files peer next rest router a (end_towards files router a) says refl

step_same : (tracked : Tracked) (files : List File) (peer : AskPeer) (next : ℕ → Bool) (rest : ℕ → Option AskPeer)
    (router : ℕ) (o : Option BgpRec) → SaysSo peer next rest →
    traced_by files peer next router (option_map (bgp_shape tracked) o)
    ≡ option_map_or (same_peer peer) (option_and_then (λ held. source_of files rest router held.from) o) false
step_same tracked files peer next rest router None says = refl
step_same tracked files peer next rest router (Some held) says =
    ap (λ e. option_map_or (leads_to files peer next) e false) (sym (learnt_numbered files router held.from))
    ∙ from_same files peer next rest router held.from says

comes_same : (tracked : Tracked) (files : List File) (tables : Tables) (len : ℕ) (peer : AskPeer) (steps : ℕ) →
    SaysSo peer (comes_from files (shapes_held tracked tables len) peer steps) (traced files tables len steps)
comes_same tracked files tables len peer zero r =
    comes-zero files (shapes_held tracked tables len) peer r
    ∙ ap (λ o. option_map_or (same_peer peer) o false) (sym (traced-zero files tables len r))
comes_same tracked files tables len peer (suc steps) r =
    comes-suc files (shapes_held tracked tables len) peer steps r
    ∙ step_same tracked files peer (comes_from files (shapes_held tracked tables len) peer steps)
    (traced files tables len steps) r (held_at tables r len) (comes_same tracked files tables len peer steps)
    ∙ ap (λ o. option_map_or (same_peer peer) o false) (sym (traced-suc files tables len steps r))

learnt_same : (tracked : Tracked) (files : List File) (tables : Tables) (len router : ℕ) (learnt : Option AskPeer) →
    is_learnt files tables len router learnt ≡ shape_learnt files (shapes_held tracked tables len) router learnt
learnt_same tracked files tables len router None = refl
learnt_same tracked files tables len router (Some peer) =
    sym (comes_same tracked files tables len peer (length files) router)

-- ---- what goes out

some_same : {A B : Type 0} (f : A → B) (o : Option A) → is_some o ≡ is_some (option_map f o)
some_same f None = refl
some_same f (Some x) = refl

sent_same : (tracked : Tracked) (files : List File) (tables : Tables) (p : Prefix) (end : SessionEnd) →
    TracksTests files tracked →
    is_some (message_over files tables end p) ≡ shape_sent tracked files (shapes_held tracked tables p.len) p end
sent_same tracked files tables p end tracks = by (held_at tables end.router p.len)
  where
    by : (o : Option BgpRec) → is_some (option_and_then (exported files end p) o)
        ≡ is_some (option_and_then (shape_exported tracked files end p) (option_map (bgp_shape tracked) o))
    by None = refl
    by (Some held) =
        some_same (message_shape tracked) (exported files end p held)
        ∙ ap is_some (sym (exported_shape tracked files end p held tracks))

out_same : (tracked : Tracked) (files : List File) (ask : Ask) (failures : Failures) (tables : Tables) (p : Prefix)
    (end : SessionEnd) → TracksTests files tracked → goes_out files ask failures tables p end
    ≡ shape_goes_out tracked files ask failures (shapes_held tracked tables p.len) p end
out_same tracked files ask failures tables p end tracks =
    λ i. session_up files failures end && (sent_same tracked files tables p end tracks i
    && learnt_same tracked files tables p.len end.router ask.learnt i)

-- a route goes out at a length exactly where one does by the shapes of the routes that are held there
pub exported_same : (tracked : Tracked) (files : List File) (ask : Ask) (d : Addr) (failures : Failures) (tables : Tables)
    (len : ℕ) → TracksTests files tracked → is_exported files ask d failures tables len
    ≡ shape_out tracked files ask failures (shapes_held tracked tables len) (prefix_at d len)
unfolding is_exported shape_out
exported_same tracked files ask d failures tables len tracks =
    λ i. is_asked ask (prefix_at d len)
    && option_map_or (λ end. out_same tracked files ask failures tables (prefix_at d len) end tracks i)
    (option_and_then (slice_get (ends_of files)) (end_to files ask.to)) false
