-- Where the routes come from that are followed back from held shapes: each is a local route, or what its router made of
-- what arrived over the session of one of its ends.
use Rattle.std.proofs.Common.{◌≡◌, ℕ, ◌⊎◌, inl, inr, Bool, true, false, List}
use Rattle.std.proofs.Common.{Option, Some, refl, sym, ap, ◌∙◌, if◌then◌else◌}
use Rattle.std.specs.Prelude.{All, option_and_then}
use Rattle.std.specs.List.{enumerate_from, find}
use Rattle.std.proofs.lemmas.List.Elements.{All-contains}
use Rattle.mw_text.specs.Members.{In}
use Rattle.mw_text.specs.declared.address.Prefix.{Prefix}
use Rattle.mw_text.proofs.Found.{find_passes}
use Rattle.ios_ast.specs.declared.file.File.{File}
use Rattle.route_record.specs.declared.BgpRec.{BgpRec}
use Rattle.route_record.specs.declared.Environment.{Environment}
use Rattle.route_record.specs.declared.tracked.Tracked.{Tracked}
use Rattle.net_interfaces.proofs.Members.{in-find}
use Rattle.net_interfaces.proofs.Options.{chained}
use Rattle.net_parts.specs.declared.sessions.SessionEnd.{SessionEnd}
use Rattle.net_parts.specs.Exports.{imported}
use Rattle.net_parts.specs.Sessions.{ends_of}
use Rattle.net_parts.specs.Tracked.{TracksNet}
use Rattle.net_parts.proofs.LeastWalks.{in-contains}
use Rattle.route_shapes.specs.Bgp.{BgpShape, bgp_shape}
use Rattle.bgp_shapes.specs.Candidates.{ShapeSlot}
use Rattle.bgp_shapes.specs.Held.{same_shape}
use Rattle.bgp_shapes.specs.Messages.{lacks_address}
use Rattle.rebuilt_routes.specs.Following.{AllFollow, AreReal, arriving_of, followed, held_at, numbered_end, own_routes}
use Rattle.rebuilt_routes.specs.Following.{real_routes}
use Rattle.rebuilt_routes.proofs.Followed.{are_real}
use Rattle.rebuilt_routes.proofs.Numbered.{from_end, numbered_place}
use Rattle.rebuilt_routes.proofs.Plain.{IsPlain}
use Rattle.rebuilt_routes.proofs.ShapesFollow.{own_plain}
use Rattle.rebuilt_routes.proofs.Supported.{IsHeardRoute}

pub all_members : {X : Type 0} (P : X → Type 0) (xs : List X) → All P xs → (x : X) → In x xs → P x
all_members P xs all x there = All-contains P xs x all (in-contains x xs there)

module _ (tracked : Tracked) (files : List File) (environment : Environment) (slots : ℕ → Option ShapeSlot) (p : Prefix)
    (net : TracksNet files tracked) (follow : AllFollow tracked files environment slots p) where
  abbrev routes : ℕ → Option BgpRec
  routes = real_routes tracked files environment slots p

  real : AreReal tracked files environment slots p routes
  real = are_real tracked files environment slots p net follow

  followed_source : (router : ℕ) (s : BgpShape) (rec : BgpRec) (b : Bool) → lacks_address s.from ≡ b →
      followed tracked files environment slots p routes router s ≡ Some rec →
      In rec (own_routes files slots p router) ⊎ IsHeardRoute files environment p routes router rec
  followed_source router s rec true local is =
      let there = sym (ap (λ b. if b
      then find (λ r. same_shape (bgp_shape tracked r) s) (own_routes files slots p router)
      else option_and_then (λ (e : ℕ × SessionEnd). option_and_then (imported files e.1 p)
      (arriving_of files environment routes p e.0 e.1)) (numbered_end files router s.from)) local) ∙ is in
      inl (in-find (λ r. same_shape (bgp_shape tracked r) s) (own_routes files slots p router) rec there)
  followed_source router s rec false far is =
      let there = sym (ap (λ b. if b
      then find (λ r. same_shape (bgp_shape tracked r) s) (own_routes files slots p router)
      else option_and_then (λ (e : ℕ × SessionEnd). option_and_then (imported files e.1 p)
      (arriving_of files environment routes p e.0 e.1)) (numbered_end files router s.from)) far) ∙ is in
      let end = chained _ (numbered_end files router s.from) rec there in
      let message = chained (imported files end.0.1 p) (arriving_of files environment routes p end.0.0 end.0.1) rec
      end.2 in
      inr (record {
        at = end.0.0;
        end = end.0.1;
        is = record {
          there = numbered_place files router s.from end.0.0 end.0.1 end.1;
          own = (from_end files router s.from end.0.1
              (find_passes _ (enumerate_from 0 (ends_of files)) end.0 end.1)).own;
        };
        message = message.0;
        arrived = message.1;
        taken = message.2;
      })

  pub source : (router : ℕ) (rec : BgpRec) → routes router ≡ Some rec →
      In rec (own_routes files slots p router) ⊎ IsHeardRoute files environment p routes router rec
  source router rec holds =
      let s = chained (followed tracked files environment slots p routes router) (held_at slots router) rec
      (sym (real.again router) ∙ holds) in
      followed_source router s.0 rec (lacks_address s.0.from) refl s.2

  pub own_is_plain : (router : ℕ) (rec : BgpRec) → In rec (own_routes files slots p router) → IsPlain rec
  own_is_plain router rec there =
      all_members IsPlain (own_routes files slots p router) (own_plain files slots p router) rec there

  pub plain_source : (router : ℕ) (rec : BgpRec) → routes router ≡ Some rec →
      IsPlain rec ⊎ IsHeardRoute files environment p routes router rec
  plain_source router rec holds = by (source router rec holds)
    where
      by : In rec (own_routes files slots p router) ⊎ IsHeardRoute files environment p routes router rec →
          IsPlain rec ⊎ IsHeardRoute files environment p routes router rec
      by (inl there) = inl (own_is_plain router rec there)
      by (inr heard) = inr heard
