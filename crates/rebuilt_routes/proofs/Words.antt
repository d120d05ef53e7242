-- The values of all lists of held routes fit their fields: they come from announcements and from set lines, and are AS
-- numbers and clusters of routers.
use Rattle.std.proofs.Common.{◌≡◌, ℕ, ◌==◌, ◌||◌, not, Bool, true, false, List, []}
use Rattle.std.proofs.Common.{◌∷◌, length, Option, Some, None, nat_lt, refl, subst}
use Rattle.std.proofs.Common.{if◌then◌else◌}
use Rattle.std.specs.Prelude.{All, IfSome, nat_le, option_and_then, option_map, slice_get, unwrap_or}
use Rattle.std.specs.List.{filter_map, find}
use Rattle.std.specs.Option.{option_map_or}
use Rattle.std.proofs.lemmas.Bool.{eqb-true}
use Rattle.std.proofs.lemmas.List.Elements.{All-append, All-cons, All-head, All-nil, All-tail}
use Rattle.mw_text.specs.Text.{same_text}
use Rattle.mw_text.specs.declared.address.Prefix.{Prefix}
use Rattle.mw_text.specs.Address.{same_prefix}
use Rattle.ios_ast.specs.declared.bgp.Bgp.{Bgp}
use Rattle.ios_ast.specs.declared.bgp.Neighbour.{Neighbour}
use Rattle.ios_ast.specs.declared.file.File.{File}
use Rattle.ios_ast.specs.declared.file.Use.{Use}
use Rattle.ios_ast.specs.declared.policies.MapEntry.{MapEntry}
use Rattle.ios_ast.specs.declared.policies.Policies.{Policies}
use Rattle.ios_ast.specs.declared.policies.RouteMap.{RouteMap}
use Rattle.ios_ast.specs.declared.policies.SetAct.{SetAct}
use Rattle.ios_ast.specs.declared.policies.SetAct.TheVariants.{LocalPref, Metric, Weight, NoCommunity, Community}
use Rattle.ios_ast.specs.declared.policies.SetAct.TheVariants.{Origin, Prepend, Type1}
use Rattle.ios_ast.specs.Communities.{with_communities, with_community}
use Rattle.ios_ast.specs.Deciding.{carries, in_order}
use Rattle.ios_ast.specs.Maps.{deciding, entries_named, mapped, route_taken, through_map}
use Rattle.ios_ast.specs.Setting.{Attributes, set_all, set_one}
use Rattle.ios_ast.proofs.Order.{ordered_all}
use Rattle.route_record.specs.declared.BgpMsg.{BgpMsg}
use Rattle.route_record.specs.declared.BgpRec.{BgpRec}
use Rattle.route_record.specs.declared.Origin.{Origin as OriginOf}
use Rattle.route_record.specs.declared.Origin.TheVariants.{Igp, Incomplete}
use Rattle.route_record.specs.declared.Slot.{Slot}
use Rattle.route_record.specs.declared.tracked.Tracked.{Tracked}
use Rattle.route_record.specs.Fits.{IsWord}
use Rattle.net_parts.specs.declared.sessions.SessionEnd.{SessionEnd}
use Rattle.net_parts.specs.Exports as exports
use Rattle.net_parts.specs.Exports.{exported, imported}
use Rattle.net_parts.specs.Mapping.{attributes_of, with_attributes}
use Rattle.net_parts.specs.Origins.{by_network, entry_metric, into_bgp, is_default, local_route, local_routes}
use Rattle.net_parts.specs.Origins.{local_through, taken_metric}
use Rattle.net_parts.specs.Sessions.{neighbour_of}
use Rattle.bgp_shapes.specs.Tracking.{TracksTests}
use Rattle.bgp_shapes.proofs.LengthLaw.{if_then}
use Rattle.rebuilt_routes.proofs.Plain.{all_given}
use Rattle.rebuilt_routes.specs.Words.{HasWordSets, HasWordValues, SetsWords}
use Rattle.rebuilt_routes.proofs.Options.{if_found, if_true}

-- ---- lists

pub found_all : {X : Type 0} (P : X → Type 0) (p : X → Bool) (xs : List X) → All P xs → IfSome (find p xs) P
found_all P p [] all = tt
found_all {X = X} P p (x ∷ xs) all = by (p x) (found_all P p xs (All-tail P x xs all))
  where
    by : (b : Bool) → IfSome (find p xs) P → IfSome (if b then Some x else find p xs) P
    by true rest = All-head P x xs all
    by false rest = rest

-- ---- set lines

community_word : (xs : List ℕ) (c : ℕ) → All IsWord xs → IsWord c → All IsWord (with_community xs c)
community_word [] c all here = All-cons IsWord c [] here all
community_word (x ∷ xs) c all here =
    by (nat_lt c x) (c == x) (community_word xs c (All-tail IsWord x xs all) here)
  where
    by : (a b : Bool) → All IsWord (with_community xs c) →
        All IsWord (if a then c ∷ x ∷ xs else if b then x ∷ xs else x ∷ with_community xs c)
    by true b rest = All-cons IsWord c (x ∷ xs) here all
    by false true rest = all
    by false false rest = All-cons IsWord x (with_community xs c) (All-head IsWord x xs all) rest

communities_words : (xs values : List ℕ) → All IsWord xs → All IsWord values → All IsWord (with_communities xs values)
communities_words xs [] all more = all
communities_words xs (c ∷ values) all more =
    communities_words (with_community xs c) values (community_word xs c all (All-head IsWord c values more))
    (All-tail IsWord c values more)

pub record HasWords (r : Attributes) : Type 0 where
  pub path : All IsWord r.path
  pub communities : All IsWord r.communities

set_words : (external : Bool) (r : Attributes) (line : SetAct) → SetsWords line → HasWords r →
    HasWords (set_one external r line)
set_words external r (LocalPref n) words h = record { path = h.path; communities = h.communities }
set_words external r (Metric n) words h = record { path = h.path; communities = h.communities }
set_words external r (Weight n) words h = record { path = h.path; communities = h.communities }
set_words external r NoCommunity words h = record { path = h.path; communities = All-nil IsWord }
set_words external r (Community values additive) words h = record { path = h.path; communities = by additive }
  where
    by : (b : Bool) → All IsWord (with_communities (if b then r.communities else []) values)
    by true = communities_words r.communities values h.communities words
    by false = communities_words [] values (All-nil IsWord) words
set_words external r (Origin igp) words h = record { path = h.path; communities = h.communities }
set_words true r (Prepend numbers) words h = record {
  path = All-append IsWord numbers r.path words h.path;
  communities = h.communities;
}
set_words false r (Prepend numbers) words h = record { path = h.path; communities = h.communities }
set_words external r (Type1 type1) words h = record { path = h.path; communities = h.communities }

lines_words : (external : Bool) (r : Attributes) (lines : List SetAct) → All SetsWords lines → HasWords r →
    HasWords (set_all external r lines)
lines_words external r [] words h = h
lines_words external r (line ∷ lines) words h =
    lines_words external (set_one external r line) lines (All-tail SetsWords line lines words)
    (set_words external r line (All-head SetsWords line lines words) h)

abbrev HasWordEntries : List MapEntry → Type 0
HasWordEntries entries = All (λ (e : MapEntry). All SetsWords e.sets) entries

map_words : (policies : Policies) (entries : List MapEntry) (p : Prefix) (external : Bool) (r : Attributes) →
    HasWordEntries entries → HasWords r → IfSome (mapped policies entries p external r) HasWords
map_words policies entries p external r words h =
    by (deciding policies p r entries)
    (found_all (λ (e : MapEntry). All SetsWords e.sets) (route_taken policies p r) (in_order (λ e. e.seq) entries)
    (ordered_all (λ (e : MapEntry). All SetsWords e.sets) (λ e. e.seq) entries words))
  where
    left : (e : MapEntry) (permit : Bool) → All SetsWords e.sets →
        IfSome (if permit then Some (set_all external r e.sets) else None) HasWords
    left e true sets = lines_words external r e.sets sets h
    left e false sets = tt

    by : (o : Option MapEntry) → IfSome o (λ (e : MapEntry). All SetsWords e.sets) →
        IfSome (option_and_then (λ (e : MapEntry). if e.permit then Some (set_all external r e.sets) else None) o)
        HasWords
    by None sets = tt
    by (Some e) sets = left e e.permit sets

through_words : (file : File) (used : Option Use) (p : Prefix) (external : Bool) (r : Attributes) → HasWordSets file →
    HasWords r → IfSome (through_map file.policies used p external r) HasWords
through_words file None p external r words h = h
through_words file (Some named) p external r words h =
    map_words file.policies (entries_named file.policies named) p external r
    (by (find (λ map. same_text map.name named.name) file.policies.maps)
    (found_all (λ (m : RouteMap). HasWordEntries m.entries) (λ map. same_text map.name named.name) file.policies.maps
    words)) h
  where
    by : (o : Option RouteMap) → IfSome o (λ (m : RouteMap). HasWordEntries m.entries) →
        HasWordEntries (option_map_or (λ (m : RouteMap). m.entries) o [])
    by None all = All-nil (λ (e : MapEntry). All SetsWords e.sets)
    by (Some m) all = all

-- ---- routes and messages

pub record IsWordRoute (rec : BgpRec) : Type 0 where
  pub path : All IsWord rec.path
  pub communities : All IsWord rec.communities

pub record IsWordMessage (m : BgpMsg) : Type 0 where
  pub path : All IsWord m.path
  pub communities : All IsWord m.communities

taken_words : (files : List File) (file : File) (process : Bgp) (neighbour : Neighbour) (end : SessionEnd) (p : Prefix)
    (m : BgpMsg) → HasWordSets file → IsWordMessage m →
    IfSome (exports.taken_in files file process neighbour end p m) IsWordRoute
taken_words files file process neighbour end p m words h =
    if_true IsWordRoute _ _ (λ passes.
    by (through_map file.policies neighbour.map_in p (not end.internal)
    (attributes_of (exports.received neighbour end m)))
    (through_words file neighbour.map_in p (not end.internal) (attributes_of (exports.received neighbour end m)) words
    (record { path = h.path; communities = h.communities })))
  where
    short : (r : Attributes) → HasWords r →
        IfSome (exports.if_short (with_attributes (exports.received neighbour end m) r)) IsWordRoute
    short r left =
        if_true IsWordRoute (nat_le (length r.path) exports.most_numbers)
        (Some (with_attributes (exports.received neighbour end m) r))
        (λ few. record { path = left.path; communities = left.communities })

    by : (o : Option Attributes) → IfSome o HasWords →
        IfSome (option_and_then (λ r. exports.if_short (with_attributes (exports.received neighbour end m) r)) o)
        IsWordRoute
    by None left = tt
    by (Some r) left = short r left

module _ (tracked : Tracked) (files : List File) (values : HasWordValues tracked files) (tests : TracksTests files tracked)
  where
    pub imported_words : (end : SessionEnd) (p : Prefix) (m : BgpMsg) → IsWordMessage m →
        IfSome (imported files end p m) IsWordRoute
    unfolding imported
    imported_words end p m h =
        if_found IsWordRoute _ (slice_get files end.router) (λ file is. if_then IsWordRoute _ (λ process.
        if_then IsWordRoute _ (λ neighbour.
        taken_words files file process neighbour end p m (values.sets end.router file is) h) (neighbour_of files end))
        file.bgp)

    -- the number that is tracked is a word
    pub word_of : (xs : List ℕ) (n : ℕ) → All IsWord xs → carries xs n ≡ true → IsWord n
    word_of [] n all there = absurd cc
    word_of (x ∷ xs) n all there = by (x == n) refl there (word_of xs n (All-tail IsWord x xs all))
      where
        by : (b : Bool) → (x == n) ≡ b → (b || carries xs n) ≡ true → (carries xs n ≡ true → IsWord n) → IsWord n
        by true is there rest = subst IsWord (eqb-true x n is) (All-head IsWord x xs all)
        by false is there rest = rest there

    sent_words : (file : File) (process : Bgp) (neighbour : Neighbour) (end : SessionEnd) (p : Prefix) (held : BgpRec) →
        HasWordSets file → IsWord process.asn → IsWordRoute held →
        IfSome (exports.sent files file process neighbour end p held) IsWordMessage
    sent_words file process neighbour end p held words asn h =
        if_true IsWordMessage _ _ (λ passes.
        by (through_map file.policies neighbour.map_out p (not end.internal) (attributes_of held))
        (through_words file neighbour.map_out p (not end.internal) (attributes_of held) words
        (record { path = h.path; communities = h.communities })))
      where
        marks : (b : Bool) (cs : List ℕ) → All IsWord cs → All IsWord (if b then cs else [])
        marks true cs all = all
        marks false cs all = All-nil IsWord

        kind : (b : Bool) (r : Attributes) → HasWords r → IsWordMessage (if b
            then exports.internal_message files end.router neighbour (exports.own_address files end) held r
            else exports.external_message process neighbour (exports.own_address files end)
            ((length held.path == 0) || exports.sets_metric file.policies neighbour.map_out p (attributes_of held)) held r)
        kind true r left = record {
          path = left.path;
          communities = marks neighbour.send_community r.communities left.communities;
        }
        kind false r left = record {
          path = All-cons IsWord process.asn r.path asn left.path;
          communities = marks neighbour.send_community r.communities left.communities;
        }

        by : (o : Option Attributes) → IfSome o HasWords → IfSome (option_map (λ r. if end.internal
            then exports.internal_message files end.router neighbour (exports.own_address files end) held r
            else exports.external_message process neighbour (exports.own_address files end)
            ((length held.path == 0) || exports.sets_metric file.policies neighbour.map_out p (attributes_of held)) held r)
            o) IsWordMessage
        by None left = tt
        by (Some r) left = kind end.internal r left

    pub exported_words : (end : SessionEnd) (p : Prefix) (held : BgpRec) → IsWordRoute held →
        IfSome (exported files end p held) IsWordMessage
    unfolding exported
    exported_words end p held h =
        if_found IsWordMessage _ (slice_get files end.router) (λ file is. if_found IsWordMessage _ file.bgp
        (λ process runs. if_then IsWordMessage _ (λ neighbour.
        sent_words file process neighbour end p held (values.sets end.router file is)
        (word_of tracked.numbers process.asn values.numbers (tests.routers end.router file process is runs).number) h)
        (neighbour_of files end)))

-- ---- local routes

local_words : (file : File) (used : Option Use) (p : Prefix) (origin : OriginOf) (med : ℕ) → HasWordSets file →
    IfSome (local_through file used p (local_route origin med)) IsWordRoute
local_words file used p origin med words =
    by (through_map file.policies used p false (attributes_of (local_route origin med)))
    (through_words file used p false (attributes_of (local_route origin med)) words
    (record { path = All-nil IsWord; communities = All-nil IsWord }))
  where
    by : (o : Option Attributes) → IfSome o HasWords →
        IfSome (option_map (with_attributes (local_route origin med)) o) IsWordRoute
    by None left = tt
    by (Some r) left = record { path = left.path; communities = left.communities }

pub locals_words : (files : List File) (router : ℕ) (file : File) (process : Bgp) (p : Prefix) (slot : Slot) →
    HasWordSets file → All IsWordRoute (local_routes files router file process p slot)
unfolding local_routes
locals_words files router file process p slot words =
    All-append IsWordRoute (filter_map (by_network file p slot) process.networks)
    (filter_map (into_bgp files router file p slot) process.redistribute)
    (all_given IsWordRoute (by_network file p slot) (λ line.
    if_then IsWordRoute _ (λ entry. if_then IsWordRoute _ (λ med.
    if_true IsWordRoute (same_prefix line.prefix p) _ (λ there. local_words file line.map p Igp med words))
    (entry_metric slot entry.source)) slot.rib) process.networks)
    (all_given IsWordRoute (into_bgp files router file p slot) (λ line.
    if_then IsWordRoute _ (λ entry. if_then IsWordRoute _ (λ metric.
    by_default (is_default p) _ (local_words file line.map p Incomplete (unwrap_or line.metric metric) words))
    (taken_metric files router p slot line entry.source)) slot.rib) process.redistribute)
  where
    by_default : (b : Bool) (o : Option BgpRec) → IfSome o IsWordRoute → IfSome (if b then None else o) IsWordRoute
    by_default true o holds = tt
    by_default false o holds = holds
