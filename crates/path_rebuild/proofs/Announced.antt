-- Announcements that are made one after the other.
use Rattle.std.proofs.Common.{◌≡◌, ℕ, ◌+◌, ◌<◌, true, false, List, [], ◌∷◌, ◌++◌, Option, Some, None, length, map}
use Rattle.std.proofs.Common.{drop, take, get_or, if◌then◌else◌}
use Rattle.std.proofs.Common.{sym, ap, ◌∙◌, append_assoc, option_map}
use Rattle.std.specs.List.{enumerate_from, filter_map}
use Rattle.std.proofs.lemmas.List.{map-append}
use Rattle.mw_text.proofs.Lists.{drop-read}
use Rattle.route_record.specs.declared.Announcement.{Announcement}
use Rattle.route_record.specs.declared.tracked.Tracked.{Tracked}
use Rattle.route_record.specs.declared.TheConstants.{LENGTHS}
use Rattle.net_parts.specs.declared.sessions.SessionEnd.{SessionEnd}
use Rattle.net_parts.specs.Sessions.{is_outside}
use Rattle.announced_shapes.specs.Announcements.{rebuilt_announcement}
use Rattle.path_rebuild.specs.declared.ShapeRec.{ShapeRec}
use Rattle.path_rebuild.specs.Environments.{of_end, of_ends}
use Rattle.path_rebuild.specs.Shapes.{announcement_of}

-- what some shapes of an end give, the first of which is for that length
abbrev pub made_from : Tracked → ℕ → ℕ → List (Option ShapeRec) → List Announcement
made_from tracked end len shapes =
    map (rebuilt_announcement tracked)
    (filter_map (λ e. option_map (announcement_of tracked end e.0) e.1) (enumerate_from len shapes))

pub made_some : (tracked : Tracked) (end len : ℕ) (shapes : List (Option ShapeRec)) (o : Option ShapeRec)
    (s : ShapeRec) (made : List Announcement) → len < length shapes → o ≡ get_or shapes len o → o ≡ Some s →
    (made ++ rebuilt_announcement tracked (announcement_of tracked end len s) ∷ [])
    ++ made_from tracked end (len + 1) (drop (len + 1) shapes)
    ≡ made ++ made_from tracked end len (drop len shapes)
made_some tracked end len shapes o s made within is here =
    append_assoc made (rebuilt_announcement tracked (announcement_of tracked end len s) ∷ [])
    (made_from tracked end (len + 1) (drop (len + 1) shapes))
    ∙ sym (ap (λ xs. made ++ xs)
    (ap (made_from tracked end len) (drop-read shapes len o within is)
    ∙ ap (λ p. made_from tracked end len (p ∷ drop (len + 1) shapes)) here))

pub made_none : (tracked : Tracked) (end len : ℕ) (shapes : List (Option ShapeRec)) (o : Option ShapeRec)
    (made : List Announcement) → len < length shapes → o ≡ get_or shapes len o → o ≡ None →
    made ++ made_from tracked end (len + 1) (drop (len + 1) shapes)
    ≡ made ++ made_from tracked end len (drop len shapes)
made_none tracked end len shapes o made within is here =
    sym (ap (λ xs. made ++ xs)
    (ap (made_from tracked end len) (drop-read shapes len o within is)
    ∙ ap (λ p. made_from tracked end len (p ∷ drop (len + 1) shapes)) here))

-- what the ends from a place on give, of which the first external one takes the first shapes
abbrev pub made_of_ends : Tracked → List SessionEnd → ℕ → List (Option ShapeRec) → List Announcement
made_of_ends tracked ends at shapes =
    map (rebuilt_announcement tracked) (of_ends tracked (enumerate_from at (drop at ends)) shapes)

next_end : (tracked : Tracked) (ends : List SessionEnd) (at : ℕ) (end : SessionEnd)
    (shapes : List (Option ShapeRec)) → at < length ends → end ≡ get_or ends at end →
    made_of_ends tracked ends at shapes
    ≡ map (rebuilt_announcement tracked) (if is_outside end.far
    then of_end tracked at (take LENGTHS shapes)
    ++ of_ends tracked (enumerate_from (at + 1) (drop (at + 1) ends)) (drop LENGTHS shapes)
    else of_ends tracked (enumerate_from (at + 1) (drop (at + 1) ends)) shapes)
next_end tracked ends at end shapes within is =
    ap (λ es. map (rebuilt_announcement tracked) (of_ends tracked (enumerate_from at es) shapes))
    (drop-read ends at end within is)

pub made_outside : (tracked : Tracked) (ends : List SessionEnd) (at : ℕ) (end : SessionEnd)
    (shapes : List (Option ShapeRec)) (made : List Announcement) → at < length ends → end ≡ get_or ends at end →
    is_outside end.far ≡ true →
    (made ++ made_from tracked at 0 (take LENGTHS shapes)) ++ made_of_ends tracked ends (at + 1) (drop LENGTHS shapes)
    ≡ made ++ made_of_ends tracked ends at shapes
made_outside tracked ends at end shapes made within is outside =
    let first = of_end tracked at (take LENGTHS shapes) in
    let behind = of_ends tracked (enumerate_from (at + 1) (drop (at + 1) ends)) (drop LENGTHS shapes) in
    append_assoc made (map (rebuilt_announcement tracked) first) (map (rebuilt_announcement tracked) behind)
    ∙ ap (λ xs. made ++ xs) (sym (map-append (rebuilt_announcement tracked) first behind)
    ∙ sym (next_end tracked ends at end shapes within is
    ∙ ap (λ b. map (rebuilt_announcement tracked) (if b then first ++ behind
    else of_ends tracked (enumerate_from (at + 1) (drop (at + 1) ends)) shapes)) outside))

pub made_inside : (tracked : Tracked) (ends : List SessionEnd) (at : ℕ) (end : SessionEnd)
    (shapes : List (Option ShapeRec)) (made : List Announcement) → at < length ends → end ≡ get_or ends at end →
    is_outside end.far ≡ false →
    made ++ made_of_ends tracked ends (at + 1) shapes ≡ made ++ made_of_ends tracked ends at shapes
made_inside tracked ends at end shapes made within is inside =
    ap (λ xs. made ++ xs) (sym (next_end tracked ends at end shapes within is
    ∙ ap (λ b. map (rebuilt_announcement tracked) (if b then of_end tracked at (take LENGTHS shapes)
    ++ of_ends tracked (enumerate_from (at + 1) (drop (at + 1) ends)) (drop LENGTHS shapes)
    else of_ends tracked (enumerate_from (at + 1) (drop (at + 1) ends)) shapes)) inside))
