-- What is true of all values that lines of the files say is true of each line, and so of what a route map leaves.
use Rattle.std.proofs.Common.{◌≡◌, ℕ, ◌==◌, ◌||◌, Bool, true, false, List, [], ◌∷◌, ◌++◌, Option, Some, None, refl}
use Rattle.std.proofs.Common.{subst, if◌then◌else◌}
use Rattle.std.specs.Prelude.{◌^◌, All, IfSome, nat_lt, option_and_then, slice_get}
use Rattle.std.specs.List.{cons_option, filter_map, find, flat_map}
use Rattle.std.specs.Option.{option_map_or}
use Rattle.std.proofs.lemmas.Bool.{eq-eqb, or_left, or_right}
use Rattle.std.proofs.lemmas.List.Elements.{All-cons, All-head, All-nil, All-tail, All-weaker}
use Rattle.mw_text.proofs.Lists.{all_found}
use Rattle.mw_text.specs.Text.{same_text}
use Rattle.mw_text.specs.declared.address.Prefix.{Prefix}
use Rattle.ios_ast.specs.declared.bgp.Bgp.{Bgp}
use Rattle.ios_ast.specs.declared.bgp.Neighbour.{Neighbour}
use Rattle.ios_ast.specs.declared.file.File.{File}
use Rattle.ios_ast.specs.declared.file.Use.{Use}
use Rattle.ios_ast.specs.declared.policies.MapEntry.{MapEntry}
use Rattle.ios_ast.specs.declared.policies.Policies.{Policies}
use Rattle.ios_ast.specs.declared.policies.RouteMap.{RouteMap}
use Rattle.ios_ast.specs.declared.policies.SetAct.{SetAct}
use Rattle.ios_ast.specs.Deciding.{carries, in_order}
use Rattle.ios_ast.specs.Maps.{deciding, entries_named, mapped, route_taken, through_map}
use Rattle.ios_ast.specs.Setting.{Attributes, set_all, set_one}
use Rattle.ios_ast.proofs.Order.{ordered_all}
use Rattle.held_values.specs.declared.numbers.HeldNumber.{HeldNumber}
use Rattle.held_values.specs.declared.numbers.HeldNumber.TheVariants.{Weight, LocalPref, Med, NextHop, FirstAs, LastAs}
use Rattle.held_values.specs.Values.{peers_of, said_by_process, said_in_entry, said_in_file, said_in_map, said_of_neighbour}
use Rattle.held_values.specs.Values.{is_held_value, ospf_bits, said_of_redist, said_of_set, unsaid, values_of}
use Rattle.rebuilt_routes.proofs.Words.{found_all}

-- ---- lists

pub all_left : {X : Type 0} (P : X → Type 0) (xs ys : List X) → All P (xs ++ ys) → All P xs
all_left P [] ys all = All-nil P
all_left P (x ∷ xs) ys all =
    All-cons P x xs (All-head P x (xs ++ ys) all) (all_left P xs ys (All-tail P x (xs ++ ys) all))

pub all_right : {X : Type 0} (P : X → Type 0) (xs ys : List X) → All P (xs ++ ys) → All P ys
all_right P [] ys all = all
all_right P (x ∷ xs) ys all = all_right P xs ys (All-tail P x (xs ++ ys) all)

pub all_joined : {X Y : Type 0} (P : Y → Type 0) (f : X → List Y) (xs : List X) → All P (flat_map f xs) →
    All (λ x. All P (f x)) xs
all_joined P f [] all = All-nil (λ x. All P (f x))
all_joined P f (x ∷ xs) all =
    All-cons (λ y. All P (f y)) x xs (all_left P (f x) (flat_map f xs) all)
    (all_joined P f xs (all_right P (f x) (flat_map f xs) all))

pub all_given_back : {X Y : Type 0} (P : Y → Type 0) (h : X → Option Y) (xs : List X) → All P (filter_map h xs) →
    All (λ x. IfSome (h x) P) xs
all_given_back P h [] all = All-nil (λ x. IfSome (h x) P)
all_given_back {X = X} {Y = Y} P h (x ∷ xs) all =
    All-cons (λ y. IfSome (h y) P) x xs (here (h x) all) (all_given_back P h xs (rest (h x) all))
  where
    here : (o : Option Y) → All P (cons_option o (filter_map h xs)) → IfSome o P
    here None all = tt
    here (Some y) all = All-head P y (filter_map h xs) all

    rest : (o : Option Y) → All P (cons_option o (filter_map h xs)) → All P (filter_map h xs)
    rest None all = all
    rest (Some y) all = All-tail P y (filter_map h xs) all

-- each number of a list stands in it
all_stand : (xs : List ℕ) → All (λ n. carries xs n ≡ true) xs
all_stand [] = All-nil (λ n. carries [] n ≡ true)
all_stand (x ∷ xs) =
    All-cons (λ n. carries (x ∷ xs) n ≡ true) x xs (or_left (x == x) (carries xs x) (eq-eqb x x refl))
    (All-weaker (λ n. carries xs n ≡ true) (λ n. carries (x ∷ xs) n ≡ true)
    (λ n there. or_right (x == n) (carries xs n) there) xs (all_stand xs))

stands_left : (xs ys : List ℕ) (n : ℕ) → carries xs n ≡ true → carries (xs ++ ys) n ≡ true
stands_left [] ys n there = absurd cc
stands_left (x ∷ xs) ys n there = by (x == n) there (stands_left xs ys n)
  where
    by : (b : Bool) → (b || carries xs n) ≡ true → (carries xs n ≡ true → carries (xs ++ ys) n ≡ true) →
        (b || carries (xs ++ ys) n) ≡ true
    by true there rest = refl
    by false there rest = rest there

-- ---- the lines of files

abbrev pub IsKnown : HeldNumber → List File → ℕ → Type 0
IsKnown which files n = is_held_value which files n ≡ true

-- what no line or some line says is known
listed_known : (which : HeldNumber) (files : List File) (n : ℕ) → carries (values_of which files) n ≡ true →
    IsKnown which files n
listed_known Weight files n there = there
listed_known LocalPref files n there = there
listed_known Med files n there =
    or_left (carries (values_of Med files) n) (nat_lt n (2 ^ ospf_bits files)) there
listed_known NextHop files n there = there
listed_known FirstAs files n there = there
listed_known LastAs files n there = there

-- what a set line says of the number, if anything, is so
abbrev pub IsSetOf : HeldNumber → (ℕ → Type 0) → SetAct → Type 0
IsSetOf which Q line = IfSome (said_of_set which line) Q

abbrev AreSetsOf : HeldNumber → (ℕ → Type 0) → MapEntry → Type 0
AreSetsOf which Q e = All (IsSetOf which Q) e.sets

-- and so of all lines of a route map, of each
abbrev pub AreEntriesOf : HeldNumber → (ℕ → Type 0) → List MapEntry → Type 0
AreEntriesOf which Q entries = All (AreSetsOf which Q) entries

abbrev pub AreMapsOf : HeldNumber → (ℕ → Type 0) → List RouteMap → Type 0
AreMapsOf which Q maps = All (λ (m : RouteMap). AreEntriesOf which Q m.entries) maps

pub maps_of : (which : HeldNumber) (Q : ℕ → Type 0) (maps : List RouteMap) → All Q (flat_map (said_in_map which) maps) →
    AreMapsOf which Q maps
maps_of which Q maps all =
    All-weaker (λ (m : RouteMap). All Q (said_in_map which m)) (λ (m : RouteMap). AreEntriesOf which Q m.entries)
    (λ m said. All-weaker (λ (e : MapEntry). All Q (said_in_entry which e)) (AreSetsOf which Q)
    (λ e sets. all_given_back Q (said_of_set which) e.sets sets) m.entries
    (all_joined Q (said_in_entry which) m.entries said)) maps (all_joined Q (said_in_map which) maps all)

-- of a router that runs BGP all that its neighbour lines, its `redistribute` lines and its maps say
pub record HasKnownLines (which : HeldNumber) (files : List File) (file : File) (process : Bgp) : Type 0 where
  pub neighbours : All (λ n. IfSome (said_of_neighbour which process n) (IsKnown which files)) process.neighbours
  pub redists : All (λ l. IfSome (said_of_redist which l) (IsKnown which files)) process.redistribute
  pub maps : AreMapsOf which (IsKnown which files) file.policies.maps

-- what is true of all that lines say is true of what those of a router that runs BGP say
lines_hold : (which : HeldNumber) (files : List File) (P : ℕ → Type 0) → All P (flat_map (said_in_file which) files) →
    (router : ℕ) (file : File) (process : Bgp) → slice_get files router ≡ Some file → file.bgp ≡ Some process →
    All P (said_by_process which file process)
lines_hold which files P all router file process there runs =
    subst (λ (o : Option Bgp). All P (option_map_or (said_by_process which file) o [])) runs
    (all_found (λ (f : File). All P (said_in_file which f)) files router file
    (all_joined P (said_in_file which) files all) there)

pub known_lines : (which : HeldNumber) (files : List File) (router : ℕ) (file : File) (process : Bgp) →
    slice_get files router ≡ Some file → file.bgp ≡ Some process → HasKnownLines which files file process
unfolding values_of
known_lines which files router file process there runs = record {
  neighbours = all_given_back P (said_of_neighbour which process) process.neighbours
      (all_left P (filter_map (said_of_neighbour which process) process.neighbours) (redists ++ maps) here);
  redists = all_given_back P (said_of_redist which) process.redistribute (all_left P redists maps behind);
  maps = maps_of which P file.policies.maps (all_right P redists maps behind);
}
  where
    P : ℕ → Type 0
    P = IsKnown which files

    redists : List ℕ
    redists = filter_map (said_of_redist which) process.redistribute

    maps : List ℕ
    maps = flat_map (said_in_map which) file.policies.maps

    all : All P (unsaid which ++ flat_map (said_in_file which) files)
    all =
        All-weaker (λ n. carries (values_of which files) n ≡ true) P (listed_known which files)
        (unsaid which ++ flat_map (said_in_file which) files)
        (all_stand (unsaid which ++ flat_map (said_in_file which) files))

    here : All P (said_by_process which file process)
    here =
        lines_hold which files P (all_right P (unsaid which) (flat_map (said_in_file which) files) all) router file
        process there runs

    behind : All P (redists ++ maps)
    behind = all_right P (filter_map (said_of_neighbour which process) process.neighbours) (redists ++ maps) here

-- the addresses of neighbour lines are those of peers
pub peers_known : (files : List File) (router : ℕ) (file : File) (process : Bgp) → slice_get files router ≡ Some file →
    file.bgp ≡ Some process → All (λ (n : Neighbour). carries (peers_of files) n.addr.0 ≡ true) process.neighbours
peers_known files router file process there runs =
    all_given_back P (said_of_neighbour NextHop process) process.neighbours
    (all_left P (filter_map (said_of_neighbour NextHop process) process.neighbours)
    (filter_map (said_of_redist NextHop) process.redistribute
    ++ flat_map (said_in_map NextHop) file.policies.maps)
    (lines_hold NextHop files P (all_stand (peers_of files)) router file process there runs))
  where
    P : ℕ → Type 0
    P n = carries (peers_of files) n ≡ true

-- what no line need say
pub known_unsaid : (which : HeldNumber) (files : List File) (n : ℕ) → carries (unsaid which) n ≡ true →
    IsKnown which files n
unfolding values_of
known_unsaid which files n there =
    listed_known which files n (stands_left (unsaid which) (flat_map (said_in_file which) files) n there)

-- ---- route maps

-- what every set line that says such values keeps, a map keeps, also where none is applied
module _ (which : HeldNumber) (Q : ℕ → Type 0) (P : Attributes → Type 0) (external : Bool)
    (keeps : (r : Attributes) (line : SetAct) → IsSetOf which Q line → P r → P (set_one external r line)) where
  lines_keep : (r : Attributes) (lines : List SetAct) → All (IsSetOf which Q) lines → P r → P (set_all external r lines)
  lines_keep r [] said h = h
  lines_keep r (line ∷ lines) said h =
      lines_keep (set_one external r line) lines (All-tail (IsSetOf which Q) line lines said)
      (keeps r line (All-head (IsSetOf which Q) line lines said) h)

  map_keeps : (policies : Policies) (entries : List MapEntry) (p : Prefix) (r : Attributes) →
      AreEntriesOf which Q entries → P r → IfSome (mapped policies entries p external r) P
  map_keeps policies entries p r said h =
      by (deciding policies p r entries)
      (found_all (AreSetsOf which Q) (route_taken policies p r) (in_order (λ e. e.seq) entries)
      (ordered_all (AreSetsOf which Q) (λ e. e.seq) entries said))
    where
      left : (e : MapEntry) (permit : Bool) → AreSetsOf which Q e →
          IfSome (if permit then Some (set_all external r e.sets) else None) P
      left e true sets = lines_keep r e.sets sets h
      left e false sets = tt

      by : (o : Option MapEntry) → IfSome o (AreSetsOf which Q) →
          IfSome (option_and_then (λ (e : MapEntry). if e.permit then Some (set_all external r e.sets) else None) o) P
      by None sets = tt
      by (Some e) sets = left e e.permit sets

  pub through_kept : (file : File) → AreMapsOf which Q file.policies.maps → (used : Option Use) (p : Prefix)
      (r : Attributes) → P r → IfSome (through_map file.policies used p external r) P
  through_kept file maps None p r h = h
  through_kept file maps (Some named) p r h =
      map_keeps file.policies (entries_named file.policies named) p r
      (by (find (λ map. same_text map.name named.name) file.policies.maps)
      (found_all (λ (m : RouteMap). AreEntriesOf which Q m.entries) (λ map. same_text map.name named.name)
      file.policies.maps maps)) h
    where
      by : (o : Option RouteMap) → IfSome o (λ (m : RouteMap). AreEntriesOf which Q m.entries) →
          AreEntriesOf which Q (option_map_or (λ (m : RouteMap). m.entries) o [])
      by None all = All-nil (AreSetsOf which Q)
      by (Some m) all = all
