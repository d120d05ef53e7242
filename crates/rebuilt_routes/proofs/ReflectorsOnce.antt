-- A cluster list names no reflector twice: a reflector puts its cluster in front of a list in which import did not find
-- it.
use Rattle.std.proofs.Common.{◌≡◌, ℕ, ◌≤◌, ◌==◌, ◌&&◌, ◌||◌, ◌⊎◌, inl, inr, Bool, true, false}
use Rattle.std.proofs.Common.{not, eqb, List, [], ◌∷◌, length, Option, Some, None, refl, sym, ap, ◌∙◌, arith, subst}
use Rattle.std.proofs.Common.{if◌then◌else◌}
use Rattle.std.specs.Prelude.{IfSome, nat_le, option_map, slice_get, unwrap_or}
use Rattle.std.specs.List.{IsDistinct, list_all, list_any}
use Rattle.std.specs.Option.{option_map_or}
use Rattle.std.specs.Set.{is_member}
use Rattle.std.proofs.lemmas.Bool.{and_from, and_parts, eq-eqb, eqb-true, leb-true, not-true}
use Rattle.std.proofs.lemmas.List.{length-map}
use Rattle.std.proofs.lemmas.Cmp.{nat_eq_equiv}
use Rattle.std.proofs.lemmas.Map.Made.{length-le_from_is_member}
use Rattle.mw_text.specs.declared.address.Addr.{Addr}
use Rattle.mw_text.specs.declared.address.Prefix.{Prefix}
use Rattle.mw_text.proofs.Lists.{none_equal}
use Rattle.ios_ast.specs.declared.bgp.Bgp.{Bgp}
use Rattle.ios_ast.specs.declared.bgp.Neighbour.{Neighbour}
use Rattle.ios_ast.specs.declared.file.File.{File}
use Rattle.ios_ast.specs.Deciding.{carries}
use Rattle.ios_ast.specs.Limits.{keeps_limits}
use Rattle.ios_ast.specs.Maps.{through_map}
use Rattle.ios_ast.specs.Setting.{Attributes}
use Rattle.route_record.specs.declared.BgpMsg.{BgpMsg}
use Rattle.route_record.specs.declared.BgpRec.{BgpRec}
use Rattle.route_record.specs.declared.Environment.{Environment}
use Rattle.route_record.specs.declared.tracked.Tracked.{Tracked}
use Rattle.net_interfaces.proofs.Options.{if_is}
use Rattle.net_parts.specs.declared.sessions.SessionEnd.{SessionEnd}
use Rattle.net_parts.specs.Exports as exports
use Rattle.net_parts.specs.Exports.{exported, imported, is_reflector, learnt_id, learnt_over, may_reflect}
use Rattle.net_parts.specs.Exports.{router_id}
use Rattle.net_parts.specs.Mapping.{attributes_of, with_attributes}
use Rattle.net_parts.specs.Sessions.{neighbour_of}
use Rattle.net_parts.specs.Tracked.{TracksNet, numbers_of}
use Rattle.bgp_shapes.specs.Tracking.{TracksTests}
use Rattle.bgp_shapes.proofs.Once.{process_of}
use Rattle.bgp_shapes.proofs.TrackedLaw.{tests_tracked}
use Rattle.bgp_shapes.proofs.LengthLaw.{if_then}
use Rattle.rebuilt_routes.specs.Clusters.{NamesReflectorsOnce, stands_once}
use Rattle.rebuilt_routes.proofs.Crossed.{runs_there}
use Rattle.rebuilt_routes.proofs.Options.{if_found, if_true, not_both, not_or}
use Rattle.rebuilt_routes.proofs.Plain.{IsPlain}
use Rattle.rebuilt_routes.proofs.Supported.{IsAnnounced, IsHeardRoute, IsSentFrom, supported}

-- ---- what is imported

pub record IsRouteTaken (files : List File) (end : SessionEnd) (message : BgpMsg) (rec : BgpRec) : Type 0 where
  pub process : Bgp
  pub runs : process_of files end.router ≡ Some process
  pub clusters : rec.clusters ≡ message.clusters
  pub originator : rec.originator ≡ message.originator
  pub few : length rec.path ≤ 255
  pub unlooped : is_reflector process ≡ true →
      list_any (λ id. id.0 == (router_id files end.router).0) rec.clusters ≡ false

taken_length : (files : List File) (end : SessionEnd) (message : BgpMsg) (file : File) (process : Bgp) →
    slice_get files end.router ≡ Some file → file.bgp ≡ Some process → (neighbour : Neighbour) →
    exports.is_acceptable files end.router process message ≡ true → (r : Attributes) →
    IfSome (exports.if_short (with_attributes (exports.received neighbour end message) r))
    (IsRouteTaken files end message)
taken_length files end message file process is runs neighbour accepted r =
    if_true (IsRouteTaken files end message) (nat_le (length r.path) exports.most_numbers) _ (λ short. record {
      process = process;
      runs = runs_there files end.router file process is runs;
      clusters = refl;
      originator = refl;
      few = leb-true (length r.path) exports.most_numbers short;
      unlooped = not_both (is_reflector process) _ (and_parts _ _ (and_parts _ _ accepted).1).1;
    })

pub route_taken_parts : (files : List File) (end : SessionEnd) (p : Prefix) (message : BgpMsg) →
    IfSome (imported files end p message) (IsRouteTaken files end message)
unfolding imported
route_taken_parts files end p message =
    let P = IsRouteTaken files end message in
    if_found P _ (slice_get files end.router) (λ file is. if_found P _ file.bgp (λ process runs.
    if_then P _ (λ neighbour. by_neighbour file process is runs neighbour) (neighbour_of files end)))
  where
    by_neighbour : (file : File) (process : Bgp) → slice_get files end.router ≡ Some file →
        file.bgp ≡ Some process → (neighbour : Neighbour) →
        IfSome (exports.taken_in files file process neighbour end p message) (IsRouteTaken files end message)
    by_neighbour file process is runs neighbour =
        if_true (IsRouteTaken files end message) _ _ (λ passes.
        if_then (IsRouteTaken files end message) _
        (λ r. taken_length files end message file process is runs neighbour (and_parts _ _ passes).0 r)
        (through_map file.policies neighbour.map_in p (not end.internal)
        (attributes_of (exports.received neighbour end message))))

-- ---- what is sent

-- over an internal session
pub record IsRouteReflected (files : List File) (end : SessionEnd) (held : BgpRec) (message : BgpMsg) : Type 0 where
  pub process : Bgp
  pub file : File
  pub there : slice_get files end.router ≡ Some file
  pub runs : file.bgp ≡ Some process
  pub internal : end.internal ≡ true
  pub may : option_map_or (λ (from : SessionEnd). not (from.neighbour == end.neighbour)
      && (not (from.internal && end.internal) || may_reflect files process from end))
      (learnt_over files end.router held.from) true ≡ true
  pub clusters : message.clusters
      ≡ exports.reflected_clusters files end.router held (learnt_over files end.router held.from)
  pub originator : message.originator
      ≡ exports.reflected_originator files held (learnt_over files end.router held.from)

-- over an external one
pub record IsWithoutReflection (message : BgpMsg) : Type 0 where
  pub clusters : message.clusters ≡ []
  pub originator : message.originator ≡ None

abbrev pub IsRouteSent : List File → SessionEnd → BgpRec → BgpMsg → Type 0
IsRouteSent files end held message = IsWithoutReflection message ⊎ IsRouteReflected files end held message

pub route_sent_parts : (files : List File) (end : SessionEnd) (p : Prefix) (held : BgpRec) →
    IfSome (exported files end p held) (IsRouteSent files end held)
unfolding exported
route_sent_parts files end p held =
    let P = IsRouteSent files end held in
    if_found P _ (slice_get files end.router) (λ file is. if_found P _ file.bgp (λ process runs.
    if_then P _ (λ neighbour. if_true P _ _ (λ passes. by_map file process is runs neighbour
    (and_parts _ _ (and_parts _ _ (and_parts _ _ passes).0).1).1
    (through_map file.policies neighbour.map_out p (not end.internal) (attributes_of held))))
    (neighbour_of files end)))
  where
    from : Option SessionEnd
    from = learnt_over files end.router held.from

    by_kind : (file : File) (process : Bgp) → slice_get files end.router ≡ Some file → file.bgp ≡ Some process →
        option_map_or (λ (from : SessionEnd). not (from.neighbour == end.neighbour)
        && (not (from.internal && end.internal) || may_reflect files process from end))
        (learnt_over files end.router held.from) true ≡ true →
        (b : Bool) → end.internal ≡ b → (m n : BgpMsg) →
        m.clusters ≡ exports.reflected_clusters files end.router held (learnt_over files end.router held.from) →
        m.originator ≡ exports.reflected_originator files held (learnt_over files end.router held.from) →
        IsWithoutReflection n → IsRouteSent files end held (if b then m else n)
    by_kind file process is runs may true kind m n made first none = inr (record {
      process = process;
      file = file;
      there = is;
      runs = runs;
      internal = kind;
      may = may;
      clusters = made;
      originator = first;
    })
    by_kind file process is runs may false kind m n made first none = inl none

    by_map : (file : File) (process : Bgp) → slice_get files end.router ≡ Some file → file.bgp ≡ Some process →
        (neighbour : Neighbour) →
        option_map_or (λ (from : SessionEnd). not (from.neighbour == end.neighbour)
        && (not (from.internal && end.internal) || may_reflect files process from end))
        (learnt_over files end.router held.from) true ≡ true → (o : Option Attributes) →
        IfSome (option_map (λ r. if end.internal
        then exports.internal_message files end.router neighbour (exports.own_address files end) held r
        else exports.external_message process neighbour (exports.own_address files end)
        ((length held.path == 0) || exports.sets_metric file.policies neighbour.map_out p (attributes_of held))
        held r) o) (IsRouteSent files end held)
    by_map file process is runs neighbour may None = tt
    by_map file process is runs neighbour may (Some r) =
        by_kind file process is runs may end.internal refl _ _ refl refl (record { clusters = refl; originator = refl })

-- ---- lists without repeats

carries_number : (cs : List Addr) (n : ℕ) → carries (numbers_of cs) n ≡ list_any (λ (id : Addr). id.0 == n) cs
carries_number [] n = refl
carries_number (c ∷ cs) n = ap (λ b. (c.0 == n) || b) (carries_number cs n)

flipped : (a b : ℕ) → (a == b) ≡ eqb b a
flipped a b = by (a == b) (eqb b a) refl refl
  where
    by : (c d : Bool) → (a == b) ≡ c → eqb b a ≡ d → c ≡ d
    by true true e f = refl
    by true false e f = sym (eq-eqb b a (sym (eqb-true a b e))) ∙ f
    by false true e f = sym e ∙ eq-eqb a b (sym (eqb-true b a f))
    by false false e f = refl

member_is : (ys : List ℕ) (x : ℕ) → carries ys x ≡ is_member eqb ys x
member_is [] x = refl
member_is (y ∷ ys) x = (λ i. flipped y x i || carries ys x) ∙ ap (λ b. eqb x y || b) (member_is ys x)

distinct : (ys : List ℕ) → stands_once ys ≡ true → IsDistinct eqb ys
unfolding IsDistinct
distinct [] once = tt
distinct (y ∷ ys) once =
    let both = and_parts (not (carries ys y)) (stands_once ys) once in
    (none_equal y ys (sym (member_is ys y) ∙ not-true (carries ys y) both.0), distinct ys both.1)

members : (known ys : List ℕ) → list_all (carries known) ys ≡ true → (q : ℕ) → is_member eqb ys q ≡ true →
    is_member eqb known q ≡ true
members known [] all q there = absurd cc
members known (y ∷ ys) all q there = by (eqb q y) refl there (members known ys both.1 q)
  where
    both : (carries known y ≡ true) × (list_all (carries known) ys ≡ true)
    both = and_parts (carries known y) (list_all (carries known) ys) all

    by : (b : Bool) → eqb q y ≡ b → (b || is_member eqb ys q) ≡ true →
        (is_member eqb ys q ≡ true → is_member eqb known q ≡ true) → is_member eqb known q ≡ true
    by true is there rest = sym (member_is known q) ∙ ap (carries known) (eqb-true q y is) ∙ both.0
    by false is there rest = rest there

-- numbers of which none stands twice are no more than those among which they stand
pub no_more : (known xs : List ℕ) → stands_once xs ≡ true → list_all (carries known) xs ≡ true →
    length xs ≤ length known
no_more known xs once all = length-le_from_is_member nat_eq_equiv xs known (distinct xs once) (members known xs all)

-- ---- what a router holds

-- no reflector twice, each tracked; where the route was learnt a reflector does not find itself; and without a list
-- there is no originator
pub record IsUnlooped (tracked : Tracked) (files : List File) (router : ℕ) (rec : BgpRec) : Type 0 where
  pub once : stands_once (numbers_of rec.clusters) ≡ true
  pub all : list_all (carries (numbers_of tracked.clusters)) (numbers_of rec.clusters) ≡ true
  pub unlooped : (from : SessionEnd) (process : Bgp) → learnt_over files router rec.from ≡ Some from →
      process_of files router ≡ Some process → is_reflector process ≡ true →
      list_any (λ id. id.0 == (router_id files router).0) rec.clusters ≡ false
  pub first : rec.clusters ≡ [] → rec.originator ≡ None

module _ (files : List File) (environment : Environment) (p : Prefix) (tracked : Tracked) (net : TracksNet files tracked)
  where
    plain_unlooped : (router : ℕ) (rec : BgpRec) → IsPlain rec → IsUnlooped tracked files router rec
    plain_unlooped router rec plain = record {
      once = ap (λ cs. stands_once (numbers_of cs)) plain.clusters;
      all = ap (λ cs. list_all (carries (numbers_of tracked.clusters)) (numbers_of cs)) plain.clusters;
      unlooped = λ from process found runs reflect.
          ap (λ cs. list_any (λ (id : Addr). id.0 == (router_id files router).0) cs) plain.clusters;
      first = λ none. plain.originator;
    }

    -- the list of a message, and its originator
    record IsListed (cs : List Addr) (o : Option Addr) : Type 0 where
      once : stands_once (numbers_of cs) ≡ true
      all : list_all (carries (numbers_of tracked.clusters)) (numbers_of cs) ≡ true
      first : cs ≡ [] → o ≡ None

    taken_unlooped : (end : SessionEnd) (message : BgpMsg) (rec : BgpRec) →
        IsListed message.clusters message.originator → imported files end p message ≡ Some rec →
        IsUnlooped tracked files end.router rec
    taken_unlooped end message rec listed is =
        let taken = if_is (IsRouteTaken files end message) (imported files end p message) rec
        (route_taken_parts files end p message) is in
        record {
          once = ap (λ cs. stands_once (numbers_of cs)) taken.clusters ∙ listed.once;
          all = ap (λ cs. list_all (carries (numbers_of tracked.clusters)) (numbers_of cs)) taken.clusters ∙ listed.all;
          unlooped = λ from process found runs reflect.
              let one : Some taken.process ≡ Some process = sym taken.runs ∙ runs in
              let same : taken.process ≡ process = cc in
              taken.unlooped (ap is_reflector same ∙ reflect);
          first = λ none. taken.originator ∙ listed.first (sym taken.clusters ∙ none);
        }

    tests : TracksTests files tracked
    tests = tests_tracked files tracked net

    none_listed : (m : BgpMsg) → IsWithoutReflection m → IsListed m.clusters m.originator
    none_listed m none = record {
      once = ap (λ ds. stands_once (numbers_of ds)) none.clusters;
      all = ap (λ ds. list_all (carries (numbers_of tracked.clusters)) (numbers_of ds)) none.clusters;
      first = λ e. none.originator;
    }

    said_listed : (end : SessionEnd) (at : ℕ) (m : BgpMsg) → IsAnnounced files environment p at end m →
        IsListed m.clusters m.originator
    said_listed end at m said = none_listed m (record {
      clusters = sym (ap (λ (m : BgpMsg). m.clusters) said.is);
      originator = sym (ap (λ (m : BgpMsg). m.originator) said.is);
    })

    front : (own : Addr) (cs ds : List Addr) (o q : Option Addr) → ds ≡ own ∷ cs → IsListed cs o →
        list_any (λ id. id.0 == own.0) cs ≡ false → carries (numbers_of tracked.clusters) own.0 ≡ true → IsListed ds q
    front own cs ds o q made listed new there = record {
      once = ap (λ es. stands_once (numbers_of es)) made
          ∙ and_from (not (carries (numbers_of cs) own.0)) (stands_once (numbers_of cs))
          (ap not (carries_number cs own.0 ∙ new)) listed.once;
      all = ap (λ es. list_all (carries (numbers_of tracked.clusters)) (numbers_of es)) made
          ∙ and_from (carries (numbers_of tracked.clusters) own.0)
          (list_all (carries (numbers_of tracked.clusters)) (numbers_of cs)) there listed.all;
      first = λ e. absurd (not_empty (sym made ∙ e));
    }
      where
        not_empty : own ∷ cs ≡ [] → ⊥
        not_empty e = cc

    sent_listed : (end : SessionEnd) (held : BgpRec) (message : BgpMsg) → IsUnlooped tracked files end.router held →
        exported files end p held ≡ Some message → IsListed message.clusters message.originator
    sent_listed end held message unlooped is =
        by_sent (if_is (IsRouteSent files end held) (exported files end p held) message
        (route_sent_parts files end p held) is)
      where
        before : IsListed held.clusters held.originator
        before = record { once = unlooped.once; all = unlooped.all; first = unlooped.first }

        kept : (cs : List Addr) (o : Option Addr) → cs ≡ held.clusters → o ≡ held.originator → IsListed cs o
        kept cs o same first =
            subst (λ ds. IsListed ds o) (sym same) (subst (IsListed held.clusters) (sym first) before)

        by_kind : (sent : IsRouteReflected files end held message) (from : SessionEnd) →
            learnt_over files end.router held.from ≡ Some from → (b : Bool) → from.internal ≡ b →
            IsListed message.clusters message.originator
        by_kind sent from found true kind =
            let may = sym (ap (λ o. option_map_or (λ (from : SessionEnd). not (from.neighbour == end.neighbour)
            && (not (from.internal && end.internal) || may_reflect files sent.process from end)) o true) found)
            ∙ sent.may in
            let reflect = (and_parts _ _ (not_or from.internal end.internal (may_reflect files sent.process from end) kind
            sent.internal (and_parts _ _ may).1)).0 in
            front (router_id files end.router) held.clusters message.clusters held.originator message.originator
            (sent.clusters ∙ ap (exports.reflected_clusters files end.router held) found
            ∙ ap (λ b. if b then router_id files end.router ∷ held.clusters else held.clusters) kind) before
            (unlooped.unlooped from sent.process found (runs_there files end.router sent.file sent.process sent.there
            sent.runs) reflect)
            ((tests.routers end.router sent.file sent.process sent.there sent.runs).cluster reflect)
        by_kind sent from found false kind =
            kept message.clusters message.originator
            (sent.clusters ∙ ap (exports.reflected_clusters files end.router held) found
            ∙ ap (λ b. if b then router_id files end.router ∷ held.clusters else held.clusters) kind)
            (sent.originator ∙ ap (exports.reflected_originator files held) found
            ∙ ap (λ b. if b then Some (unwrap_or held.originator
            (unwrap_or (learnt_id files from) (record { 0 = 0 }))) else held.originator) kind)

        by_from : (sent : IsRouteReflected files end held message) (o : Option SessionEnd) →
            learnt_over files end.router held.from ≡ o → IsListed message.clusters message.originator
        by_from sent None found =
            kept message.clusters message.originator
            (sent.clusters ∙ ap (exports.reflected_clusters files end.router held) found)
            (sent.originator ∙ ap (exports.reflected_originator files held) found)
        by_from sent (Some from) found = by_kind sent from found from.internal refl

        by_sent : IsRouteSent files end held message → IsListed message.clusters message.originator
        by_sent (inl none) = none_listed message none
        by_sent (inr sent) = by_from sent (learnt_over files end.router held.from) refl

    -- so it is of all that routers hold
    pub all_unlooped : list_all keeps_limits files ≡ true → (routes : ℕ → Option BgpRec) →
        ((router : ℕ) (rec : BgpRec) → routes router ≡ Some rec →
        IsPlain rec ⊎ IsHeardRoute files environment p routes router rec) →
        (router : ℕ) (rec : BgpRec) → routes router ≡ Some rec → IsUnlooped tracked files router rec
    all_unlooped limits routes sourced =
        supported files environment p tracked net limits routes (λ router rec. IsPlain rec) (λ router rec plain. plain)
        sourced (λ router rec. IsUnlooped tracked files router rec)
        (λ router rec plain. plain_unlooped router rec plain)
        (λ router rec heard said. subst (λ r. IsUnlooped tracked files r rec) heard.is.own
        (taken_unlooped heard.end heard.message rec
        (said_listed heard.end heard.at heard.message said) heard.taken))
        (λ router rec heard from behind. subst (λ r. IsUnlooped tracked files r rec) heard.is.own
        (taken_unlooped heard.end heard.message rec
        (sent_listed from.far from.held heard.message behind from.sends) heard.taken))

    -- and of what a router makes of what arrives
    pub heard_unlooped : (routes : ℕ → Option BgpRec) →
        ((router : ℕ) (rec : BgpRec) → routes router ≡ Some rec → IsUnlooped tracked files router rec) →
        (router : ℕ) (rec : BgpRec) → (heard : IsHeardRoute files environment p routes router rec) →
        IsAnnounced files environment p heard.at heard.end heard.message
        ⊎ IsSentFrom files environment p routes heard.end heard.message → IsUnlooped tracked files router rec
    heard_unlooped routes each router rec heard (inl said) =
        subst (λ r. IsUnlooped tracked files r rec) heard.is.own
        (taken_unlooped heard.end heard.message rec
        (said_listed heard.end heard.at heard.message said) heard.taken)
    heard_unlooped routes each router rec heard (inr from) =
        subst (λ r. IsUnlooped tracked files r rec) heard.is.own
        (taken_unlooped heard.end heard.message rec
        (sent_listed from.far from.held heard.message (each from.far.router from.held from.holds) from.sends)
        heard.taken)

pub once_named : (tracked : Tracked) (files : List File) (router : ℕ) (rec : BgpRec) →
    IsUnlooped tracked files router rec → NamesReflectorsOnce tracked rec
once_named tracked files router rec is = record {
  once = is.once;
  tracked_all = is.all;
  few = let most = no_more (numbers_of tracked.clusters) (numbers_of rec.clusters) is.once is.all in
      let one = length-map rec.clusters (λ (a : Addr). a.0) in
      let other = length-map tracked.clusters (λ (a : Addr). a.0) in
      omega (arith, most, one, other);
}
