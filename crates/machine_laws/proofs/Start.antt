-- The start is sound.
use Rattle.std.proofs.Common.{◌≡◌, ◌∙◌, ℕ, zero, suc, ◌+◌, ◌*◌, ◌<◌, Bool, List, [], length, Option, Some, None}
use Rattle.std.proofs.Common.{refl, ap, sym, subst, arith, replicate}
use Rattle.std.specs.Prelude.{slice_get, option_and_then}
use Rattle.std.proofs.Math.ListN.{length-replicate}
use Rattle.std.proofs.lemmas.List.Elements.{All-nil}
use Rattle.mw_text.specs.declared.address.Addr.{Addr}
use Rattle.mw_text.specs.declared.address.Prefix.{Prefix}
use Rattle.mw_text.specs.Address.{prefix_at}
use Rattle.ios_ast.specs.declared.bgp.Neighbour.{Neighbour}
use Rattle.ios_ast.specs.declared.file.File.{File}
use Rattle.route_record.specs.declared.BgpMsg.{BgpMsg}
use Rattle.route_record.specs.declared.Slot.{Slot}
use Rattle.route_record.specs.declared.Tables.{Tables}
use Rattle.route_record.specs.declared.TheConstants.{LENGTHS}
use Rattle.net_interfaces.proofs.Pairs.{no_pairs}
use Rattle.net_parts.specs.declared.adjacencies.Adjacency.{Adjacency}
use Rattle.net_parts.specs.declared.sessions.Far.{Far}
use Rattle.net_parts.specs.declared.sessions.Far.TheVariants.{Outside, Inside}
use Rattle.net_parts.specs.declared.sessions.SessionEnd.{SessionEnd}
use Rattle.net_parts.specs.Decisions.{arriving}
use Rattle.net_parts.specs.Exports.{exported}
use Rattle.net_parts.specs.Ospf.{adjacencies}
use Rattle.net_parts.specs.OspfRoutes.{far_record}
use Rattle.net_parts.specs.Sessions.{ends_of, neighbour_of}
use Rattle.net_parts.specs.World.{IsAnnouncement, IsEarlier, IsEnvironment, links_of}
use Rattle.machine_laws.specs.declared.state.Channel.{Channel}
use Rattle.machine_laws.specs.Channels.{silent, IsRight, AreRight}
use Rattle.machine_laws.specs.Events.{AreIds, empty_slot, start}
use Rattle.machine_laws.specs.Sending.{adjacency_up_at, arriving_at, offered_at, session_up_at}
use Rattle.machine_laws.specs.Sound.{IsSound}
use Rattle.machine_laws.proofs.ChannelLaws.{right_start}

replicate_got : {A : Type 0} (n : ℕ) (x : A) (k : ℕ) (y : A) → slice_get (replicate n x) k ≡ Some y → y ≡ x
replicate_got zero x k y e = cc
replicate_got (suc n) x zero y e = cc
replicate_got (suc n) x (suc k) y e = replicate_got n x k y e

are_silent : {M : Type 0} (up : ℕ → Bool) (ex : ℕ → ℕ → Option M) (n : ℕ) → ((at len : ℕ) → ex at len ≡ None) →
    AreRight up ex n (replicate n silent)
are_silent {M = M} up ex n none = record {
  as_many = length-replicate n silent;
  each = λ at c e.
      let is : c ≡ silent = replicate_got n silent at c e in
      subst (λ (x : Channel M). IsRight (up at) (ex at) x) (sym is) (right_start (up at) (ex at) (none at));
}

none_held : {A : Type 0} (part : Slot → Option A) (n k : ℕ) → part empty_slot ≡ None →
    option_and_then part (slice_get (replicate n empty_slot) k) ≡ None
none_held part zero k none = refl
none_held part (suc n) zero none = none
none_held part (suc n) (suc k) none = none_held part n k none

no_tables : List File → Tables
no_tables files = record { slots = replicate (LENGTHS * length files) empty_slot }

far_silent : (files : List File) (p : Prefix) (far : Option SessionEnd) →
    option_and_then (λ f. option_and_then (exported files f p)
    (option_and_then (λ slot. slot.bgp) (slice_get (no_tables files).slots (LENGTHS * f.router + p.len)))) far ≡ None
unfolding no_tables
far_silent files p None = refl
far_silent files p (Some f) =
    rw (none_held (λ (x : Slot). x.bgp) (LENGTHS * length files) (LENGTHS * f.router + p.len) refl) refl

no_line : (o : Option Neighbour) → option_and_then {U = BgpMsg} (λ (n : Neighbour). None) o ≡ None
no_line None = refl
no_line (Some n) = refl

from_silent : (files : List File) (ids : List Addr) (p : Prefix) (at : ℕ) (end : SessionEnd) →
    arriving files (record { ids = ids; announced = [] }) (no_tables files) p at end ≡ None
unfolding arriving
from_silent files ids p at end = by end.far refl where
  by : (far : Far) → end.far ≡ far →
      arriving files (record { ids = ids; announced = [] }) (no_tables files) p at end ≡ None
  by Outside is =
      ap (λ f. arriving files (record { ids = ids; announced = [] }) (no_tables files) p at (record end { far = f })) is
      ∙ no_line (neighbour_of files end)
  by (Inside far_at) is =
      ap (λ f. arriving files (record { ids = ids; announced = [] }) (no_tables files) p at (record end { far = f })) is
      ∙ far_silent files p (slice_get (ends_of files) far_at)

end_silent : (files : List File) (ids : List Addr) (p : Prefix) (at : ℕ) (end : Option SessionEnd) →
    option_and_then (arriving files (record { ids = ids; announced = [] }) (no_tables files) p at) end ≡ None
end_silent files ids p at None = refl
end_silent files ids p at (Some e) = from_silent files ids p at e

adjacency_silent : (files : List File) (p : Prefix) (a : Option Adjacency) →
    option_and_then (far_record (no_tables files) p) a ≡ None
unfolding no_tables
adjacency_silent files p None = refl
adjacency_silent files p (Some a) =
    none_held (λ (x : Slot). x.ospf) (LENGTHS * length files) (LENGTHS * a.to.router + p.len) refl

environment_is : (files : List File) (ids : List Addr) → AreIds files ids →
    IsEnvironment files (record { ids = ids; announced = [] })
environment_is files ids are = record {
  ids = are.0;
  fit = are.1;
  announced = All-nil (IsAnnouncement files);
  once = no_pairs IsEarlier;
}

pub sound_start : (files : List File) (d : Addr) (ids : List Addr) → AreIds files ids → IsSound files d (start files ids)
unfolding start arriving_at offered_at no_tables
sound_start files d ids are = record {
  slots = length-replicate (LENGTHS * length files) empty_slot;
  sessions = are_silent (session_up_at files (start files ids).failures)
      (arriving_at files d (start files ids).environment (start files ids).tables) (length (ends_of files))
      (λ at len. end_silent files ids (prefix_at d len) at (slice_get (ends_of files) at));
  adjacencies = are_silent (adjacency_up_at files (start files ids).failures)
      (offered_at files d (start files ids).tables) (length (adjacencies files))
      (λ at len. adjacency_silent files (prefix_at d len) (slice_get (adjacencies files) at));
  failures = record { ascending = refl; of_links = All-nil (λ at. at < length (links_of files)); at_most = omega arith };
  environment = environment_is files ids are;
}
