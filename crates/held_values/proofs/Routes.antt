-- What routers make of routes and messages has known numbers.
use Rattle.std.proofs.Common.{◌≡◌, ◌-◌, suc, subst, sym, ap, arith, ℕ, ◌==◌, ◌&&◌, ◌||◌, ◌⊎◌, inl, inr, not, Bool, true, false, List, [], ◌∷◌, ◌++◌}
use Rattle.std.proofs.Common.{length, Option, Some, None, refl, if◌then◌else◌}
use Rattle.std.specs.Prelude.{All, IfSome, nat_le, option_and_then, option_map, slice_get, slice_index, unwrap_or}
use Rattle.std.specs.List.{cons_option, filter_map}
use Rattle.std.proofs.lemmas.Bool.{and_parts}
use Rattle.std.proofs.lemmas.List.Elements.{All-append, All-cons, All-head, All-nil, All-tail}
use Rattle.mw_text.specs.declared.address.Prefix.{Prefix}
use Rattle.mw_text.specs.Address.{same_prefix}
use Rattle.ios_ast.specs.declared.bgp.Bgp.{Bgp}
use Rattle.ios_ast.specs.declared.bgp.Neighbour.{Neighbour}
use Rattle.ios_ast.specs.declared.file.File.{File}
use Rattle.ios_ast.specs.declared.file.Use.{Use}
use Rattle.ios_ast.specs.declared.ospf.Redist.{Redist}
use Rattle.ios_ast.specs.declared.ospf.Source.{Source}
use Rattle.ios_ast.specs.declared.ospf.Source.TheVariants as source
use Rattle.ios_ast.specs.declared.policies.SetAct.{SetAct}
use Rattle.ios_ast.specs.declared.policies.SetAct.TheVariants as set
use Rattle.ios_ast.specs.Maps.{through_map}
use Rattle.ios_ast.specs.Paths.{first_of, last_of}
use Rattle.ios_ast.specs.Setting.{Attributes, set_one}
use Rattle.route_record.specs.declared.BgpMsg.{BgpMsg}
use Rattle.route_record.specs.declared.BgpRec.{BgpRec}
use Rattle.route_record.specs.declared.Origin.{Origin as OriginOf}
use Rattle.route_record.specs.declared.Origin.TheVariants.{Igp, Incomplete}
use Rattle.route_record.specs.declared.OspfRec.{OspfRec}
use Rattle.route_record.specs.declared.RibSource.{RibSource}
use Rattle.route_record.specs.declared.RibSource.TheVariants.{Connected, Static, Ebgp, Ibgp, Ospf as OspfEntry}
use Rattle.route_record.specs.declared.Slot.{Slot}
use Rattle.net_parts.specs.declared.sessions.SessionEnd.{SessionEnd}
use Rattle.net_parts.specs.Exports as exports
use Rattle.net_parts.specs.Exports.{exported, external_message, imported, internal_message, is_acceptable, own_address}
use Rattle.net_parts.specs.Exports.{received}
use Rattle.net_parts.specs.Mapping.{attributes_of, with_attributes}
use Rattle.net_parts.specs.Origins.{by_network, entry_metric, into_bgp, is_default, is_ospf_subnet, local_route}
use Rattle.net_parts.specs.Origins.{local_routes, local_through, ospf_metric, takes_kind, taken_metric}
use Rattle.net_parts.specs.Sessions.{neighbour_of}
use Rattle.bgp_shapes.proofs.LengthLaw.{if_then}
use Rattle.rebuilt_routes.proofs.Options.{if_found, if_true}
use Rattle.rebuilt_routes.proofs.Plain.{all_given}
use Rattle.held_values.specs.declared.numbers.HeldNumber.{HeldNumber}
use Rattle.held_values.specs.declared.numbers.HeldNumber.TheVariants.{Weight, LocalPref, Med, NextHop, FirstAs, LastAs}
use Rattle.held_values.specs.Values.{number_of}
use Rattle.held_values.proofs.Lines.{HasKnownLines, IsKnown, IsSetOf, known_lines, known_unsaid, through_kept}

-- ---- what maps see of a route

abbrev pub IsKnownIn : HeldNumber → List File → Attributes → Type 0
IsKnownIn Weight files r = IsKnown Weight files r.weight
IsKnownIn LocalPref files r = IsKnown LocalPref files r.local_pref
IsKnownIn Med files r = IsKnown Med files r.med
IsKnownIn NextHop files r = Unit {0}
IsKnownIn FirstAs files r = IsKnown FirstAs files (first_of r.path)
IsKnownIn LastAs files r = IsKnown LastAs files (last_of r.path)

abbrev pub IsKnownRoute : HeldNumber → List File → BgpRec → Type 0
IsKnownRoute which files rec = IsKnown which files (number_of which rec)

one_less : (xs : List ℕ) → suc (suc (length xs)) - 1 ≡ suc (suc (length xs) - 1)
one_less xs = omega arith

-- the last number of what stands in front of a path is that of the whole where the path is empty
known_behind : (files : List File) (numbers path : List ℕ) →
    IfSome (slice_get numbers (length numbers - 1)) (IsKnown LastAs files) → IsKnown LastAs files (last_of path) →
    IsKnown LastAs files (last_of (numbers ++ path))
known_behind files [] path said h = h
known_behind files (n ∷ []) [] said h = said
known_behind files (n ∷ []) (a ∷ path) said h =
    subst (IsKnown LastAs files) (sym (ap (slice_index (n ∷ a ∷ path)) (one_less path))) h
known_behind files (n ∷ m ∷ numbers) path said h =
    subst (IsKnown LastAs files) (sym (ap (slice_index (n ∷ m ∷ (numbers ++ path))) (one_less (numbers ++ path))))
    (known_behind files (m ∷ numbers) path (subst (λ o. IfSome o (IsKnown LastAs files))
    (ap (slice_get (n ∷ m ∷ numbers)) (one_less numbers)) said) h)

-- and one number in front of a path that has one
pub known_front : (files : List File) (n : ℕ) (path : List ℕ) → IsKnown LastAs files n →
    IsKnown LastAs files (last_of path) → IsKnown LastAs files (last_of (n ∷ path))
known_front files n path said h = known_behind files (n ∷ []) path said h

-- what is so of the MEDs that set lines say stays so
pub med_kept : (Q : ℕ → Type 0) (external : Bool) (r : Attributes) (line : SetAct) → IsSetOf Med Q line → Q r.med →
    Q (set_one external r line).med
med_kept Q external r (set.LocalPref n) said h = h
med_kept Q external r (set.Metric n) said h = said
med_kept Q external r (set.Weight n) said h = h
med_kept Q external r set.NoCommunity said h = h
med_kept Q external r (set.Community values additive) said h = h
med_kept Q external r (set.Origin igp) said h = h
med_kept Q external r (set.Prepend numbers) said h = h
med_kept Q external r (set.Type1 type1) said h = h

set_known : (which : HeldNumber) (files : List File) (external : Bool) (r : Attributes) (line : SetAct) →
    IsSetOf which (IsKnown which files) line → IsKnownIn which files r →
    IsKnownIn which files (set_one external r line)
set_known Weight files external r (set.LocalPref n) said h = h
set_known Weight files external r (set.Metric n) said h = h
set_known Weight files external r (set.Weight n) said h = said
set_known Weight files external r set.NoCommunity said h = h
set_known Weight files external r (set.Community values additive) said h = h
set_known Weight files external r (set.Origin igp) said h = h
set_known Weight files external r (set.Prepend numbers) said h = h
set_known Weight files external r (set.Type1 type1) said h = h
set_known LocalPref files external r (set.LocalPref n) said h = said
set_known LocalPref files external r (set.Metric n) said h = h
set_known LocalPref files external r (set.Weight n) said h = h
set_known LocalPref files external r set.NoCommunity said h = h
set_known LocalPref files external r (set.Community values additive) said h = h
set_known LocalPref files external r (set.Origin igp) said h = h
set_known LocalPref files external r (set.Prepend numbers) said h = h
set_known LocalPref files external r (set.Type1 type1) said h = h
set_known Med files external r line said h = med_kept (IsKnown Med files) external r line said h
set_known NextHop files external r line said h = tt
set_known FirstAs files external r (set.LocalPref n) said h = h
set_known FirstAs files external r (set.Metric n) said h = h
set_known FirstAs files external r (set.Weight n) said h = h
set_known FirstAs files external r set.NoCommunity said h = h
set_known FirstAs files external r (set.Community values additive) said h = h
set_known FirstAs files external r (set.Origin igp) said h = h
set_known FirstAs files external r (set.Prepend numbers) said h = put external numbers said
  where
    put : (b : Bool) (ns : List ℕ) → IfSome (slice_get ns 0) (IsKnown FirstAs files) →
        IsKnown FirstAs files (first_of (if b then ns ++ r.path else r.path))
    put false ns said = h
    put true [] said = h
    put true (n ∷ ns) said = said
set_known FirstAs files external r (set.Type1 type1) said h = h
set_known LastAs files external r (set.LocalPref n) said h = h
set_known LastAs files external r (set.Metric n) said h = h
set_known LastAs files external r (set.Weight n) said h = h
set_known LastAs files external r set.NoCommunity said h = h
set_known LastAs files external r (set.Community values additive) said h = h
set_known LastAs files external r (set.Origin igp) said h = h
set_known LastAs files external r (set.Prepend numbers) said h = put external
  where
    put : (b : Bool) → IsKnown LastAs files (last_of (if b then numbers ++ r.path else r.path))
    put false = h
    put true = known_behind files numbers r.path said h
set_known LastAs files external r (set.Type1 type1) said h = h

seen : (which : HeldNumber) (files : List File) (rec : BgpRec) → IsKnownRoute which files rec →
    IsKnownIn which files (attributes_of rec)
seen Weight files rec h = h
seen LocalPref files rec h = h
seen Med files rec h = h
seen NextHop files rec h = tt
seen FirstAs files rec h = h
seen LastAs files rec h = h

left_known : (which : HeldNumber) (files : List File) (rec : BgpRec) (r : Attributes) → IsKnownRoute which files rec →
    IsKnownIn which files r → IsKnownRoute which files (with_attributes rec r)
left_known Weight files rec r h left = left
left_known LocalPref files rec r h left = left
left_known Med files rec r h left = left
left_known NextHop files rec r h left = h
left_known FirstAs files rec r h left = left
left_known LastAs files rec r h left = left

-- ---- the metric of what stands in a slot

-- that of an OSPF route is known
abbrev pub HasKnownMetric : List File → Slot → Type 0
HasKnownMetric files slot = IfSome slot.ospf (λ r. IsKnown Med files (ospf_metric r))

entry_known : (files : List File) (slot : Slot) → HasKnownMetric files slot → (source : RibSource) →
    IfSome (entry_metric slot source) (IsKnown Med files)
entry_known files slot known Connected = known_unsaid Med files 0 refl
entry_known files slot known Static = known_unsaid Med files 0 refl
entry_known files slot known OspfEntry = by slot.ospf known
  where
    by : (o : Option OspfRec) → IfSome o (λ r. IsKnown Med files (ospf_metric r)) →
        IfSome (option_map ospf_metric o) (IsKnown Med files)
    by None held = tt
    by (Some r) held = held
entry_known files slot known Ebgp = tt
entry_known files slot known Ibgp = tt

taken_known : (files : List File) (router : ℕ) (p : Prefix) (slot : Slot) → HasKnownMetric files slot →
    (line : Redist) (entry : RibSource) → IfSome (taken_metric files router p slot line entry) (IsKnown Med files)
taken_known files router p slot known line entry = by line.source entry
  where
    zero_known : (b : Bool) → IfSome (if b then Some 0 else None) (IsKnown Med files)
    zero_known true = known_unsaid Med files 0 refl
    zero_known false = tt

    held_known : (o : Option OspfRec) → IfSome o (λ r. IsKnown Med files (ospf_metric r)) →
        IfSome (option_and_then (λ (r : OspfRec). if takes_kind line r.kind then Some (ospf_metric r) else None) o)
        (IsKnown Med files)
    held_known None held = tt
    held_known (Some r) held =
        if_true (IsKnown Med files) (takes_kind line r.kind) (Some (ospf_metric r)) (λ takes. held)

    by : (s : Source) (entry : RibSource) →
        IfSome (taken_metric files router p slot (record line { source = s }) entry) (IsKnown Med files)
    by source.Connected Connected = known_unsaid Med files 0 refl
    by source.Connected Static = tt
    by source.Connected OspfEntry = tt
    by source.Connected Ebgp = tt
    by source.Connected Ibgp = tt
    by source.Static Connected = tt
    by source.Static Static = known_unsaid Med files 0 refl
    by source.Static OspfEntry = tt
    by source.Static Ebgp = tt
    by source.Static Ibgp = tt
    by (source.Ospf process) Connected = zero_known (line.internal && is_ospf_subnet files router p)
    by (source.Ospf process) Static = tt
    by (source.Ospf process) OspfEntry = held_known slot.ospf known
    by (source.Ospf process) Ebgp = tt
    by (source.Ospf process) Ibgp = tt
    by (source.Bgp asn) Connected = tt
    by (source.Bgp asn) Static = tt
    by (source.Bgp asn) OspfEntry = tt
    by (source.Bgp asn) Ebgp = tt
    by (source.Bgp asn) Ibgp = tt

pub either_known : (P : ℕ → Type 0) (o : Option ℕ) (n : ℕ) → IfSome o P → P n → P (unwrap_or o n)
either_known P None n said known = known
either_known P (Some m) n said known = said

pub given_known : {X Y : Type 0} (P : Y → Type 0) (f : X → Option Y) (Q : X → Type 0) → ((x : X) → Q x → IfSome (f x) P) →
    (o : Option X) → IfSome o Q → IfSome (option_and_then f o) P
given_known P f Q each None known = tt
given_known P f Q each (Some x) known = each x known

pub all_given_known : {X Y : Type 0} (P : Y → Type 0) (Q : X → Type 0) (h : X → Option Y) →
    ((x : X) → Q x → IfSome (h x) P) → (xs : List X) → All Q xs → All P (filter_map h xs)
all_given_known P Q h gives [] all = All-nil P
all_given_known {X = X} {Y = Y} P Q h gives (x ∷ xs) all =
    by (h x) (gives x (All-head Q x xs all)) (all_given_known P Q h gives xs (All-tail Q x xs all))
  where
    by : (o : Option Y) → IfSome o P → All P (filter_map h xs) → All P (cons_option o (filter_map h xs))
    by None holds rest = rest
    by (Some y) holds rest = All-cons P y (filter_map h xs) holds rest

module _ (which : HeldNumber) (files : List File) where
  abbrev IsRoute : BgpRec → Type 0
  IsRoute rec = IsKnownRoute which files rec

  map_known : (file : File) (process : Bgp) → HasKnownLines which files file process → (used : Option Use) (p : Prefix)
      (external : Bool) (rec : BgpRec) → IsRoute rec →
      IfSome (through_map file.policies used p external (attributes_of rec)) (IsKnownIn which files)
  map_known file process lines used p external rec h =
      through_kept which (IsKnown which files) (IsKnownIn which files) external (set_known which files external) file
      lines.maps used p (attributes_of rec) (seen which files rec h)

  -- ---- local routes

  -- a local route with a known MED
  bare_known : (origin : OriginOf) (med : ℕ) → IsKnown Med files med → IsRoute (local_route origin med)
  bare_known origin med known = by which
    where
      by : (w : HeldNumber) → IsKnownRoute w files (local_route origin med)
      by Weight = known_unsaid Weight files 32768 refl
      by LocalPref = known_unsaid LocalPref files 100 refl
      by Med = known
      by NextHop = known_unsaid NextHop files 0 refl
      by FirstAs = known_unsaid FirstAs files 0 refl
      by LastAs = known_unsaid LastAs files 0 refl

  local_known : (file : File) (process : Bgp) → HasKnownLines which files file process → (used : Option Use)
      (p : Prefix) (origin : OriginOf) (med : ℕ) → IsKnown Med files med →
      IfSome (local_through file used p (local_route origin med)) IsRoute
  local_known file process lines used p origin med known =
      by (through_map file.policies used p false (attributes_of (local_route origin med)))
      (map_known file process lines used p false (local_route origin med) (bare_known origin med known))
    where
      by : (o : Option Attributes) → IfSome o (IsKnownIn which files) →
          IfSome (option_map (with_attributes (local_route origin med)) o) IsRoute
      by None left = tt
      by (Some r) left = left_known which files (local_route origin med) r (bare_known origin med known) left

  pub locals_known : (router : ℕ) (file : File) (process : Bgp) (p : Prefix) (slot : Slot) →
      slice_get files router ≡ Some file → file.bgp ≡ Some process → HasKnownMetric files slot →
      All IsRoute (local_routes files router file process p slot)
  unfolding local_routes
  locals_known router file process p slot there runs metric_known =
      All-append IsRoute (filter_map (by_network file p slot) process.networks)
      (filter_map (into_bgp files router file p slot) process.redistribute)
      (all_given IsRoute (by_network file p slot) (λ line.
      if_then IsRoute _ (λ entry. given_known IsRoute _ (IsKnown Med files) (λ med known.
      if_true IsRoute (same_prefix line.prefix p) _ (λ same. local_known file process lines line.map p Igp med known))
      (entry_metric slot entry.source) (entry_known files slot metric_known entry.source)) slot.rib) process.networks)
      (all_given_known IsRoute (λ (l : Redist). IfSome l.metric (IsKnown Med files)) (into_bgp files router file p slot)
      (λ line said. if_then IsRoute _ (λ entry. given_known IsRoute _ (IsKnown Med files) (λ metric known.
      by_default (is_default p) _
      (local_known file process lines line.map p Incomplete (unwrap_or line.metric metric)
      (either_known (IsKnown Med files) line.metric metric said known)))
      (taken_metric files router p slot line entry.source)
      (taken_known files router p slot metric_known line entry.source)) slot.rib) process.redistribute
      (known_lines Med files router file process there runs).redists)
    where
      lines : HasKnownLines which files file process
      lines = known_lines which files router file process there runs

      by_default : (b : Bool) (o : Option BgpRec) → IfSome o IsRoute → IfSome (if b then None else o) IsRoute
      by_default true o holds = tt
      by_default false o holds = holds

  -- ---- import

  -- the route as it is received is known, where the message is acceptable
  abbrev pub IsKnownReceived : SessionEnd → BgpMsg → Type 0
  IsKnownReceived end message =
      (file : File) (process : Bgp) (neighbour : Neighbour) → slice_get files end.router ≡ Some file →
      file.bgp ≡ Some process → neighbour_of files end ≡ Some neighbour →
      is_acceptable files end.router process message ≡ true → IsRoute (received neighbour end message)

  pub imported_known : (end : SessionEnd) (p : Prefix) (message : BgpMsg) → IsKnownReceived end message →
      IfSome (imported files end p message) IsRoute
  unfolding imported
  imported_known end p message known =
      if_found IsRoute _ (slice_get files end.router) (λ file there. if_found IsRoute _ file.bgp (λ process runs.
      if_found IsRoute _ (neighbour_of files end) (λ neighbour named.
      if_true IsRoute _ _ (λ passes. let h = known file process neighbour there runs named (and_parts _ _ passes).0 in
      by neighbour h (through_map file.policies neighbour.map_in p (not end.internal)
      (attributes_of (received neighbour end message)))
      (map_known file process (known_lines which files end.router file process there runs) neighbour.map_in p
      (not end.internal) (received neighbour end message) h)))))
    where
      by : (neighbour : Neighbour) → IsRoute (received neighbour end message) → (o : Option Attributes) →
          IfSome o (IsKnownIn which files) →
          IfSome (option_and_then (λ r. exports.if_short (with_attributes (received neighbour end message) r)) o)
          IsRoute
      by neighbour h None left = tt
      by neighbour h (Some r) left =
          if_true IsRoute (nat_le (length r.path) exports.most_numbers)
          (Some (with_attributes (received neighbour end message) r))
          (λ few. left_known which files (received neighbour end message) r h left)

  -- ---- export

  -- a message of what a map left, over an internal session or over an external one
  pub record IsMadeOf (end : SessionEnd) (held : BgpRec) (message : BgpMsg) : Type 0 where
    pub file : File
    pub process : Bgp
    pub there : slice_get files end.router ≡ Some file
    pub runs : file.bgp ≡ Some process
    pub neighbour : Neighbour
    pub r : Attributes
    pub left : IsKnownIn which files r
    pub made : ((end.internal ≡ true) × (message ≡ internal_message files end.router neighbour (own_address files end)
        held r))
        ⊎ ((end.internal ≡ false) × ((keeps : Bool)
        × (message ≡ external_message process neighbour (own_address files end) keeps held r)))

  pub exported_made : (end : SessionEnd) (p : Prefix) (held : BgpRec) → IsRoute held →
      IfSome (exported files end p held) (IsMadeOf end held)
  unfolding exported
  exported_made end p held h =
      let P = IsMadeOf end held in
      if_found P _ (slice_get files end.router) (λ file there. if_found P _ file.bgp (λ process runs.
      if_then P _ (λ neighbour. if_true P _ _ (λ passes. by file process there runs neighbour
      (through_map file.policies neighbour.map_out p (not end.internal) (attributes_of held))
      (map_known file process (known_lines which files end.router file process there runs) neighbour.map_out p
      (not end.internal) held h))) (neighbour_of files end)))
    where
      kind : (file : File) (process : Bgp) → slice_get files end.router ≡ Some file → file.bgp ≡ Some process →
          (neighbour : Neighbour) (keeps : Bool) (r : Attributes) → IsKnownIn which files r → (b : Bool) →
          end.internal ≡ b → IsMadeOf end held (if b
          then internal_message files end.router neighbour (own_address files end) held r
          else external_message process neighbour (own_address files end) keeps held r)
      kind file process there runs neighbour keeps r left true is = record {
        file = file;
        process = process;
        there = there;
        runs = runs;
        neighbour = neighbour;
        r = r;
        left = left;
        made = inl (is, refl);
      }
      kind file process there runs neighbour keeps r left false is = record {
        file = file;
        process = process;
        there = there;
        runs = runs;
        neighbour = neighbour;
        r = r;
        left = left;
        made = inr (is, (keeps, refl));
      }

      by : (file : File) (process : Bgp) → slice_get files end.router ≡ Some file → file.bgp ≡ Some process →
          (neighbour : Neighbour) → (o : Option Attributes) → IfSome o (IsKnownIn which files) →
          IfSome (option_map (λ r. if end.internal
          then internal_message files end.router neighbour (own_address files end) held r
          else external_message process neighbour (own_address files end)
          ((length held.path == 0) || exports.sets_metric file.policies neighbour.map_out p (attributes_of held))
          held r) o) (IsMadeOf end held)
      by file process there runs neighbour None left = tt
      by file process there runs neighbour (Some r) left =
          kind file process there runs neighbour
          ((length held.path == 0) || exports.sets_metric file.policies neighbour.map_out p (attributes_of held)) r left
          end.internal refl
