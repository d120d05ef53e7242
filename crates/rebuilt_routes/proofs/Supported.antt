-- What is true of local routes and of what is made of announcements, and is kept by sessions, is true of all routes that
-- are held: by the rank of their shapes.
use Rattle.std.proofs.Common.{◌≡◌, ℕ, zero, suc, ◌+◌, ◌^◌, ◌<◌, ◌==◌, ◌&&◌, ◌⊎◌, inl, inr, true, false, List}
use Rattle.std.proofs.Common.{length, Option, Some, refl, sym, ap, ◌∙◌, arith, subst}
use Rattle.std.specs.Prelude.{option_map, slice_get}
use Rattle.std.specs.List.{find, list_all}
use Rattle.std.proofs.lemmas.List.{length-map}
use Rattle.mw_text.specs.declared.address.Prefix.{Prefix}
use Rattle.mw_text.proofs.Found.{mapped}
use Rattle.ios_ast.specs.declared.bgp.Neighbour.{Neighbour}
use Rattle.ios_ast.specs.declared.file.File.{File}
use Rattle.ios_ast.specs.Limits.{keeps_limits}
use Rattle.route_record.specs.declared.Announcement.{Announcement}
use Rattle.route_record.specs.declared.BgpMsg.{BgpMsg}
use Rattle.route_record.specs.declared.BgpRec.{BgpRec}
use Rattle.route_record.specs.declared.Environment.{Environment}
use Rattle.route_record.specs.declared.tracked.Tracked.{Tracked}
use Rattle.net_interfaces.proofs.Options.{chained, if_is}
use Rattle.net_parts.specs.declared.sessions.Far.{Far}
use Rattle.net_parts.specs.declared.sessions.Far.TheVariants.{Outside, Inside}
use Rattle.net_parts.specs.declared.sessions.SessionEnd.{SessionEnd}
use Rattle.net_parts.specs.Exports.{announced_message, exported, imported, is_reflector, router_id}
use Rattle.net_parts.specs.Sessions.{ends_of, neighbour_of}
use Rattle.net_parts.specs.Tracked.{TracksNet, numbers_of}
use Rattle.route_shapes.specs.Bgp.{BgpShape, bgp_shape, learnt_number}
use Rattle.route_shapes.specs.Shapes.{marked}
use Rattle.bgp_shapes.specs.Crossings.{end_numbered}
use Rattle.bgp_shapes.specs.Exporting.{shape_exported}
use Rattle.bgp_shapes.specs.Held.{HasMarks}
use Rattle.bgp_shapes.specs.Importing.{shape_imported}
use Rattle.bgp_shapes.specs.Messages.{lacks_address, message_shape}
use Rattle.bgp_shapes.specs.Tracking.{TracksTests}
use Rattle.bgp_shapes.proofs.ExportLaw.{exported_shape}
use Rattle.bgp_shapes.proofs.ImportLaw.{imported_shape}
use Rattle.bgp_shapes.proofs.Once.{process_of}
use Rattle.bgp_shapes.proofs.TrackedLaw.{tests_tracked}
use Rattle.rebuilt_routes.specs.Following.{arriving_of}
use Rattle.rebuilt_routes.proofs.Crossed.{IsShapeSent, IsShapeTaken, shape_sent_parts, shape_taken_parts, small}
use Rattle.rebuilt_routes.proofs.EndsApart.{end_again}
use Rattle.rebuilt_routes.proofs.Numbered.{end_alone, has_address, numbered_is}
use Rattle.rebuilt_routes.proofs.Plain.{IsPlain}
use Rattle.rebuilt_routes.specs.Ranks.{rank}
use Rattle.rebuilt_routes.proofs.Ranks.{IsKept, falls}
use Rattle.rebuilt_routes.proofs.Sources.{IsEnd}

pub has_marks : (tracked : Tracked) (rec : BgpRec) → HasMarks tracked (bgp_shape tracked rec)
has_marks tracked rec = record {
  numbers = length-map tracked.numbers _;
  communities = length-map tracked.communities _;
  clusters = length-map tracked.clusters _;
}

module _ (files : List File) (environment : Environment) (p : Prefix) where
  -- what a router made of what arrived over the session of one of its ends, where routers hold these routes
  pub record IsHeardRoute (routes : ℕ → Option BgpRec) (router : ℕ) (rec : BgpRec) : Type 0 where
    pub at : ℕ
    pub end : SessionEnd
    pub is : IsEnd files router (at, end)
    pub message : BgpMsg
    pub arrived : arriving_of files environment routes p at end ≡ Some message
    pub taken : imported files end p message ≡ Some rec

  -- an announcement
  pub record IsAnnounced (at : ℕ) (end : SessionEnd) (message : BgpMsg) : Type 0 where
    pub outside : end.far ≡ Outside
    pub neighbour : Neighbour
    pub named : neighbour_of files end ≡ Some neighbour
    pub announcement : Announcement
    pub says : find (λ (a : Announcement). (a.end == at) && (a.len == p.len)) environment.announced
        ≡ Some announcement
    pub is : announced_message neighbour.addr announcement ≡ message

  -- or what a far router sends of the route that it holds
  pub record IsSentFrom (routes : ℕ → Option BgpRec) (end : SessionEnd) (message : BgpMsg) : Type 0 where
    pub far_at : ℕ
    pub far : SessionEnd
    pub reached : end.far ≡ Inside far_at
    pub there : slice_get (ends_of files) far_at ≡ Some far
    pub held : BgpRec
    pub holds : routes far.router ≡ Some held
    pub sends : exported files far p held ≡ Some message

  pub arrived_from : (routes : ℕ → Option BgpRec) (at : ℕ) (end : SessionEnd) (message : BgpMsg) →
      arriving_of files environment routes p at end ≡ Some message →
      IsAnnounced at end message ⊎ IsSentFrom routes end message
  unfolding arriving_of
  arrived_from routes at end message arrived = by end.far refl
    where
      by : (far : Far) → end.far ≡ far → IsAnnounced at end message ⊎ IsSentFrom routes end message
      by Outside is =
          let there = sym (ap (λ f. arriving_of files environment routes p at (record end { far = f })) is) ∙ arrived in
          let line = chained _ (neighbour_of files end) message there in
          let said = mapped _ _ message line.2 in
          inl (record {
            outside = is;
            neighbour = line.0;
            named = line.1;
            announcement = said.0;
            says = said.1;
            is = said.2;
          })
      by (Inside far_at) is =
          let there = sym (ap (λ f. arriving_of files environment routes p at (record end { far = f })) is) ∙ arrived in
          let far = chained _ (slice_get (ends_of files) far_at) message there in
          let held = chained (exported files far.0 p) (routes far.0.router) message far.2 in
          inr (record {
            far_at = far_at;
            far = far.0;
            reached = is;
            there = far.1;
            held = held.0;
            holds = held.1;
            sends = held.2;
          })

  module _ (tracked : Tracked) (net : TracksNet files tracked) where
    abbrev tests : TracksTests files tracked
    tests = tests_tracked files tracked net

    abbrev shape : BgpRec → BgpShape
    shape rec = bgp_shape tracked rec

    pub taken_parts : (end : SessionEnd) (message : BgpMsg) (rec : BgpRec) → imported files end p message ≡ Some rec →
        IsShapeTaken tracked files end (message_shape tracked message) (shape rec)
    taken_parts end message rec taken =
        if_is (IsShapeTaken tracked files end (message_shape tracked message))
        (shape_imported tracked files end p (message_shape tracked message)) (shape rec)
        (shape_taken_parts tracked files end p (message_shape tracked message))
        (imported_shape tracked files end p message tests ∙ ap (option_map (bgp_shape tracked)) taken)

    pub sent_parts : (far : SessionEnd) (held : BgpRec) (message : BgpMsg) → exported files far p held ≡ Some message →
        IsShapeSent tracked files far (shape held) (message_shape tracked message)
    sent_parts far held message sends =
        if_is (IsShapeSent tracked files far (shape held)) (shape_exported tracked files far p (shape held))
        (message_shape tracked message) (shape_sent_parts tracked files far p (shape held))
        (exported_shape tracked files far p held tests ∙ ap (option_map (message_shape tracked)) sends)

    -- the shape of a plain route, or of one that was heard, is such as a router may hold
    plain_kept : (router : ℕ) (rec : BgpRec) → IsPlain rec → IsKept tracked files router (shape rec)
    plain_kept router rec plain = record {
      marks = has_marks tracked rec;
      counted = small (length rec.path);
      unlooped = λ from process found runs reflect.
          absurd (let there = has_address files router (learnt_number rec.from) from
          (numbered_is files router (learnt_number rec.from) from found) in
          let none : lacks_address (learnt_number rec.from) ≡ true =
          ap (λ l. lacks_address (learnt_number l)) plain.from in
          let no = sym there ∙ none in cc);
    }

    heard_kept : (routes : ℕ → Option BgpRec) (router : ℕ) (rec : BgpRec) → IsHeardRoute routes router rec →
        IsKept tracked files router (shape rec)
    heard_kept routes router rec heard =
        let taken = taken_parts heard.end heard.message rec heard.taken in
        let own = heard.is.own in
        let few = taken.short in
        record {
          marks = has_marks tracked rec;
          counted = omega (arith, few);
          unlooped = λ from process found runs reflect.
              let one : Some taken.process ≡ Some process =
              sym taken.runs ∙ ap (process_of files) own ∙ runs in
              let same : taken.process ≡ process = cc in
              subst (λ r. marked (numbers_of tracked.clusters) (shape rec).clusters (router_id files r).0 ≡ false) own
              (taken.unlooped (ap is_reflector same ∙ reflect));
        }

    -- a rank that is less behind a heard route
    module _ (limits : list_all keeps_limits files ≡ true) (routes : ℕ → Option BgpRec) (Own : ℕ → BgpRec → Type 0)
        (is_plain : (router : ℕ) (rec : BgpRec) → Own router rec → IsPlain rec)
        (sourced : (router : ℕ) (rec : BgpRec) → routes router ≡ Some rec → Own router rec ⊎ IsHeardRoute routes router rec)
      where
        kept : (router : ℕ) (rec : BgpRec) → Own router rec ⊎ IsHeardRoute routes router rec →
            IsKept tracked files router (shape rec)
        kept router rec (inl own) = plain_kept router rec (is_plain router rec own)
        kept router rec (inr heard) = heard_kept routes router rec heard

        less : (router : ℕ) (rec : BgpRec) (heard : IsHeardRoute routes router rec) →
            (from : IsSentFrom routes heard.end heard.message) →
            rank files from.far.router (shape from.held) < rank files router (shape rec)
        less router rec heard from =
            let taken = taken_parts heard.end heard.message rec heard.taken in
            let found =
            end_again files limits heard.end.router heard.at heard.end taken.neighbour heard.is.there refl taken.named in
            subst (λ r. rank files from.far.router (shape from.held) < rank files r (shape rec)) heard.is.own
            (falls tracked files net tests heard.at from.far_at heard.end from.far heard.is.there from.reached
            from.there (shape from.held) (message_shape tracked heard.message) (shape rec)
            (kept from.far.router from.held (sourced from.far.router from.held from.holds))
            (sent_parts from.far from.held heard.message from.sends) taken (has_marks tracked rec)
            (ap (end_numbered files heard.end.router) taken.from
            ∙ sym (end_alone files heard.end.router (2 ^ 32 + taken.neighbour.addr.0))
            ∙ ap (option_map (λ (e : ℕ × SessionEnd). e.1)) found))

        -- what is true of local routes and of what is made of announcements, and is kept by sessions
        module _ (P : ℕ → BgpRec → Type 0)
            (local : (router : ℕ) (rec : BgpRec) → Own router rec → P router rec)
            (announced : (router : ℕ) (rec : BgpRec) (heard : IsHeardRoute routes router rec) →
            IsAnnounced heard.at heard.end heard.message → P router rec)
            (sent : (router : ℕ) (rec : BgpRec) (heard : IsHeardRoute routes router rec) →
            (from : IsSentFrom routes heard.end heard.message) → P from.far.router from.held → P router rec)
          where
            within : (fuel router : ℕ) (rec : BgpRec) → routes router ≡ Some rec →
                rank files router (shape rec) < fuel → P router rec
            within zero router rec holds below = absurd (omega (arith, below))
            within (suc fuel) router rec holds below =
                by (sourced router rec holds) (λ far held behind nearer. within fuel far held behind nearer)
              where
                by_message : (heard : IsHeardRoute routes router rec) →
                    IsAnnounced heard.at heard.end heard.message ⊎ IsSentFrom routes heard.end heard.message →
                    ((far : ℕ) (held : BgpRec) → routes far ≡ Some held → rank files far (shape held) < fuel →
                    P far held) → P router rec
                by_message heard (inl said) rest = announced router rec heard said
                by_message heard (inr from) rest =
                    let nearer = less router rec heard from in
                    sent router rec heard from (rest from.far.router from.held from.holds (omega (arith, nearer, below)))

                by : Own router rec ⊎ IsHeardRoute routes router rec →
                    ((far : ℕ) (held : BgpRec) → routes far ≡ Some held → rank files far (shape held) < fuel →
                    P far held) → P router rec
                by (inl own) rest = local router rec own
                by (inr heard) rest =
                    by_message heard (arrived_from routes heard.at heard.end heard.message heard.arrived) rest

            pub supported : (router : ℕ) (rec : BgpRec) → routes router ≡ Some rec → P router rec
            supported router rec holds = within (suc (rank files router (shape rec))) router rec holds (omega arith)
