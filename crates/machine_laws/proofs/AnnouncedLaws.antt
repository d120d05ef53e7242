-- What peers may announce, and what arrives after an announcement.
use Rattle.std.proofs.Common.{◌≡◌, ◌∙◌, ◌⊎◌, ℕ, ◌<◌, ◌==◌, ◌&&◌, Bool, true, false, List, [], ◌∷◌, ◌++◌}
use Rattle.std.proofs.Common.{length, Option, Some, None, refl, ap, sym, arith, inl, inr}
use Rattle.std.specs.Prelude.{All, AllPairs, IfSome, IsTrue, find, filter, nat_lt, slice_get, option_and_then, option_map}
use Rattle.std.specs.List.{list_all}
use Rattle.std.specs.Option.{option_map_or, option_to_list, option_or}
use Rattle.std.proofs.lemmas.Bool.{and_from, and_parts, cases_order, eqb-true, eq-eqb, le-ltb}
use Rattle.std.proofs.lemmas.Bool.{le-leb, leb-true, lt-ltb, ltb-true, ne_eqb}
use Rattle.std.proofs.lemmas.Bool.Decides.{nat_tests}
use Rattle.std.proofs.lemmas.List.Elements.{All-append, All-cons, All-filter, All-nil, filter_passes}
use Rattle.std.proofs.lemmas.List.Folds.{find-append}
use Rattle.std.proofs.lemmas.List.Kept.{AllPairs-cons, AllPairs-filter}
use Rattle.mw_text.specs.declared.address.Addr.{Addr}
use Rattle.mw_text.specs.declared.address.Prefix.{Prefix}
use Rattle.mw_text.specs.Address.{prefix_at}
use Rattle.mw_text.proofs.Found.{all_pass, each_passes}
use Rattle.ios_ast.specs.declared.bgp.Neighbour.{Neighbour}
use Rattle.ios_ast.specs.declared.file.File.{File}
use Rattle.route_record.specs.declared.Announcement.{Announcement}
use Rattle.route_record.specs.declared.Environment.{Environment}
use Rattle.route_record.specs.declared.Tables.{Tables}
use Rattle.route_record.specs.declared.TheConstants.{LENGTHS}
use Rattle.net_interfaces.proofs.Pairs.{pairs_joined}
use Rattle.net_parts.specs.declared.sessions.Far.{Far}
use Rattle.net_parts.specs.declared.sessions.Far.TheVariants.{Outside, Inside}
use Rattle.net_parts.specs.declared.sessions.SessionEnd.{SessionEnd}
use Rattle.net_parts.specs.Decisions.{arriving}
use Rattle.net_parts.specs.Exports.{announced_message}
use Rattle.net_parts.specs.Sessions.{ends_of, is_outside, neighbour_of}
use Rattle.net_parts.proofs.AsNumbers.{as_number, number_passes}
use Rattle.net_parts.specs.World.{BeginsWithPeer, IsAnnouncement, IsAsNumber, IsEarlier, ascends, is_as_number, is_word}
use Rattle.machine_laws.specs.Announcing.{announced_with, are_communities, begins_with, is_about, is_after}
use Rattle.machine_laws.specs.Announcing.{is_announcement, is_before, is_path, is_peers}
use Rattle.machine_laws.specs.Sending.{arriving_at}

-- ---- the test of an announcement

begun : (asn : ℕ) (path : List ℕ) → begins_with asn path ≡ true → (rest : List ℕ) × (path ≡ asn ∷ rest)
begun asn [] is = cc
begun asn (x ∷ rest) is = (rest, ap (λ n. n ∷ rest) (eqb-true x asn is))

begun_by : (path : List ℕ) (o : Option Neighbour) →
    option_map_or (λ neighbour. begins_with neighbour.asn path) o true ≡ true →
    IfSome o (λ neighbour. (rest : List ℕ) × (path ≡ neighbour.asn ∷ rest))
begun_by path None is = tt
begun_by path (Some neighbour) is = begun neighbour.asn path is

of_peer : (files : List File) (a : Announcement) (o : Option SessionEnd) → slice_get (ends_of files) a.end ≡ o →
    option_map_or (is_peers files a.path) o false ≡ true →
    (end : SessionEnd) × (slice_get (ends_of files) a.end ≡ Some end) × IsTrue (is_outside end.far)
    × BeginsWithPeer files end a.path
of_peer files a None there is = cc
of_peer files a (Some end) there is =
    let both = and_parts (is_outside end.far)
    (option_map_or (λ neighbour. begins_with neighbour.asn a.path) (neighbour_of files end) true) is in
    (end, there, both.0, begun_by a.path (neighbour_of files end) both.1)

-- what passes the test may be announced
pub may_announce : (files : List File) (a : Announcement) → is_announcement files a ≡ true → IsAnnouncement files a
unfolding is_announcement
may_announce files a is =
    let first = and_parts (option_map_or (is_peers files a.path) (slice_get (ends_of files) a.end) false)
    (nat_lt a.len LENGTHS && (is_path a.path && (is_word a.med && are_communities a.communities))) is in
    let second = and_parts (nat_lt a.len LENGTHS)
    (is_path a.path && (is_word a.med && are_communities a.communities)) first.1 in
    let third = and_parts (is_path a.path) (is_word a.med && are_communities a.communities) second.1 in
    let fourth = and_parts (is_word a.med) (are_communities a.communities) third.1 in
    let path = and_parts _ (list_all is_as_number a.path) third.0 in
    let communities = and_parts (ascends a.communities) (list_all is_word a.communities) fourth.1 in
    record {
      from = of_peer files a (slice_get (ends_of files) a.end) refl first.0;
      len = ltb-true a.len LENGTHS second.0;
      path = (leb-true (length a.path) 255 path.0, all_pass is_as_number IsAsNumber as_number a.path path.1);
      med = ltb-true a.med 4294967296 fourth.0;
      communities = (
        communities.0,
        all_pass is_word (λ c. c < 4294967296) (λ c h. ltb-true c 4294967296 h) a.communities communities.1,
      );
    }

begins_so : (path : List ℕ) (o : Option Neighbour) →
    IfSome o (λ neighbour. (rest : List ℕ) × (path ≡ neighbour.asn ∷ rest)) →
    option_map_or (λ neighbour. begins_with neighbour.asn path) o true ≡ true
begins_so path None is = refl
begins_so path (Some neighbour) is = rw (is.1) (eq-eqb neighbour.asn neighbour.asn refl)

-- what may be announced passes the test
pub announcement_passes : (files : List File) (a : Announcement) → IsAnnouncement files a → is_announcement files a ≡ true
unfolding is_announcement
announcement_passes files a is =
    and_from _ _ (ap (λ o. option_map_or (is_peers files a.path) o false) is.from.1
    ∙ and_from _ _ is.from.2 (begins_so a.path (neighbour_of files is.from.0) is.from.3))
    (and_from _ _ (lt-ltb a.len LENGTHS is.len)
    (and_from _ _ (and_from _ _ (le-leb (length a.path) 255 is.path.0)
    (each_passes is_as_number IsAsNumber number_passes a.path is.path.1))
    (and_from _ _ (lt-ltb a.med 4294967296 is.med)
    (and_from _ _ is.communities.0
    (each_passes is_word (λ c. c < 4294967296) (λ c h. lt-ltb c 4294967296 h) a.communities is.communities.1)))))

-- ---- the announcements stay in order

before_is : (end len : ℕ) (a : Announcement) → is_before end len a ≡ true →
    (a.end < end) ⊎ ((a.end ≡ end) × (a.len < len))
before_is end len a is = grind (arith, nat_tests)

after_is : (end len : ℕ) (a : Announcement) → is_after end len a ≡ true →
    (end < a.end) ⊎ ((end ≡ a.end) × (len < a.len))
after_is end len a is = grind (arith, nat_tests)

earlier_through : (end len : ℕ) (a b : Announcement) → (a.end < end) ⊎ ((a.end ≡ end) × (a.len < len)) →
    (end < b.end) ⊎ ((end ≡ b.end) × (len < b.len)) → IsEarlier a b
earlier_through end len a b (inl h) (inl k) = inl (omega arith)
earlier_through end len a b (inl h) (inr k) = inl (omega (arith, k.0))
earlier_through end len a b (inr h) (inl k) = inl (omega (arith, h.0))
earlier_through end len a b (inr h) (inr k) = inr (h.0 ∙ k.0, omega (arith, h.1, k.1))

IsBefore : ℕ → ℕ → Announcement → Type 0
IsBefore end len a = (a.end < end) ⊎ ((a.end ≡ end) × (a.len < len))

IsAfter : ℕ → ℕ → Announcement → Type 0
IsAfter end len a = (end < a.end) ⊎ ((end ≡ a.end) × (len < a.len))

weaker : {X : Type 0} (P Q : X → Type 0) → ((x : X) → P x → Q x) → (xs : List X) → All P xs → All Q xs
weaker P Q so xs all k x h = so _ (all k x h)

-- all that is announced may be
pub all_may : (files : List File) (list : List Announcement) (end len : ℕ) (what : Option Announcement) →
    is_about files end len what ≡ true → All (IsAnnouncement files) list →
    All (IsAnnouncement files) (announced_with list end len what)
all_may files list end len what about all =
    All-append (IsAnnouncement files) (filter (is_before end len) list)
    (option_to_list what ++ filter (is_after end len) list)
    (All-filter (is_before end len) (IsAnnouncement files) list all)
    (All-append (IsAnnouncement files) (option_to_list what) (filter (is_after end len) list) (by what about)
    (All-filter (is_after end len) (IsAnnouncement files) list all))
  where
    by : (o : Option Announcement) → is_about files end len o ≡ true → All (IsAnnouncement files) (option_to_list o)
    by None about = All-nil (IsAnnouncement files)
    by (Some a) about =
        let both = and_parts ((a.end == end) && (a.len == len)) (is_announcement files a) about in
        All-cons (IsAnnouncement files) a [] (may_announce files a both.1) (All-nil (IsAnnouncement files))

-- they are in the order of ends and lengths
pub in_order : (files : List File) (list : List Announcement) (end len : ℕ) (what : Option Announcement) →
    is_about files end len what ≡ true → AllPairs IsEarlier list →
    AllPairs IsEarlier (announced_with list end len what)
unfolding IsBefore IsAfter
in_order files list end len what about up =
    pairs_joined IsEarlier (filter (is_before end len) list) (option_to_list what ++ filter (is_after end len) list)
    (AllPairs-filter IsEarlier (is_before end len) list up) (tail what about)
    (weaker (IsBefore end len) (λ a. All (IsEarlier a) (option_to_list what ++ filter (is_after end len) list))
    (λ a before. before_all a before what about) (filter (is_before end len) list) befores)
  where
    afters : All (IsAfter end len) (filter (is_after end len) list)
    afters = weaker (λ a. is_after end len a ≡ true) (IsAfter end len) (λ a is. after_is end len a is)
        (filter (is_after end len) list) (filter_passes (is_after end len) list)

    befores : All (IsBefore end len) (filter (is_before end len) list)
    befores = weaker (λ a. is_before end len a ≡ true) (IsBefore end len) (λ a is. before_is end len a is)
        (filter (is_before end len) list) (filter_passes (is_before end len) list)

    tail : (o : Option Announcement) → is_about files end len o ≡ true →
        AllPairs IsEarlier (option_to_list o ++ filter (is_after end len) list)
    tail None about = AllPairs-filter IsEarlier (is_after end len) list up
    tail (Some a) about =
        let key = and_parts (a.end == end) (a.len == len)
        ((and_parts ((a.end == end) && (a.len == len)) (is_announcement files a) about).0) in
        let same = eqb-true a.end end key.0 in
        let alike = eqb-true a.len len key.1 in
        AllPairs-cons IsEarlier a (filter (is_after end len) list)
        (weaker (IsAfter end len) (IsEarlier a) (λ b later. from_here a b same alike later) (filter (is_after end len) list)
        afters) (AllPairs-filter IsEarlier (is_after end len) list up)
      where
        from_here : (a b : Announcement) → a.end ≡ end → a.len ≡ len → IsAfter end len b → IsEarlier a b
        from_here a b same alike (inl k) = inl (omega (arith, same))
        from_here a b same alike (inr k) = inr (same ∙ k.0, omega (arith, alike, k.1))

    before_all : (a : Announcement) → IsBefore end len a → (o : Option Announcement) → is_about files end len o ≡ true →
        All (IsEarlier a) (option_to_list o ++ filter (is_after end len) list)
    before_all a before None about =
        weaker (IsAfter end len) (IsEarlier a) (λ b later. earlier_through end len a b before later)
        (filter (is_after end len) list) afters
    before_all a before (Some b) about =
        let key = and_parts (b.end == end) (b.len == len)
        ((and_parts ((b.end == end) && (b.len == len)) (is_announcement files b) about).0) in
        let same = eqb-true b.end end key.0 in
        let alike = eqb-true b.len len key.1 in
        All-cons (IsEarlier a) b (filter (is_after end len) list) (to_here a b same alike before)
        (weaker (IsAfter end len) (IsEarlier a) (λ c later. earlier_through end len a c before later)
        (filter (is_after end len) list) afters)
      where
        to_here : (a b : Announcement) → b.end ≡ end → b.len ≡ len → IsBefore end len a → IsEarlier a b
        to_here a b same alike (inl k) = inl (omega (arith, same))
        to_here a b same alike (inr k) = inr (k.0 ∙ sym same, omega (arith, alike, k.1))

-- ---- of other ends and lengths the same is announced

find_all : {X : Type 0} (p q : X → Bool) (xs : List X) → ((x : X) → p x ≡ true → q x ≡ true) →
    find p (filter q xs) ≡ find p xs
find_all p q [] all = refl
find_all p q (x ∷ xs) all = by (find_all p q xs all) (p x) (q x) refl refl (all x) where
  by : find p (filter q xs) ≡ find p xs → (b c : Bool) → p x ≡ b → q x ≡ c → (p x ≡ true → q x ≡ true) →
      find p (filter q (x ∷ xs)) ≡ find p (x ∷ xs)
  by more true true e f h = rw f (rw e refl)
  by more true false e f h = let g : q x ≡ true = h e in cc
  by more false true e f h = rw f (rw e more)
  by more false false e f h = rw f (rw e more)

find_none : {X : Type 0} (p q : X → Bool) (xs : List X) → ((x : X) → p x ≡ true → q x ≡ false) →
    find p (filter q xs) ≡ None
find_none p q [] none = refl
find_none p q (x ∷ xs) none = by (find_none p q xs none) (p x) (q x) refl refl (none x) where
  by : find p (filter q xs) ≡ None → (b c : Bool) → p x ≡ b → q x ≡ c → (p x ≡ true → q x ≡ false) →
      find p (filter q (x ∷ xs)) ≡ None
  by more true true e f h = let g : q x ≡ false = h e in cc
  by more true false e f h = rw f more
  by more false true e f h = rw f (rw e more)
  by more false false e f h = rw f more

or_none : {X : Type 0} (o : Option X) → option_or o None ≡ o
or_none None = refl
or_none (Some x) = refl

abbrev is_of : ℕ → ℕ → Announcement → Bool
is_of at l a = (a.end == at) && (a.len == l)

of_parts : (at l : ℕ) (a : Announcement) → is_of at l a ≡ true → (a.end ≡ at) × (a.len ≡ l)
of_parts at l a t =
    let both = and_parts (a.end == at) (a.len == l) t in (eqb-true a.end at both.0, eqb-true a.len l both.1)

find_what : (files : List File) (end len at l : ℕ) (what : Option Announcement) → is_about files end len what ≡ true →
    (end ≡ at → len ≡ l → ⊥) → find (is_of at l) (option_to_list what) ≡ None
find_what files end len at l None about ne = refl
find_what files end len at l (Some a) about ne =
    let key = of_parts end len a ((and_parts (is_of end len a) (is_announcement files a) about).0) in
    by (is_of at l a) refl key.0 key.1
  where
    by : (b : Bool) → is_of at l a ≡ b → a.end ≡ end → a.len ≡ len → find (is_of at l) (a ∷ []) ≡ None
    by true is same alike =
        let key = of_parts at l a is in absurd (ne (sym same ∙ key.0) (sym alike ∙ key.1))
    by false is same alike = rw is refl

-- of another key the place is before, or after, that of the event
sorted_in : (end len at l : ℕ) → (end ≡ at → len ≡ l → ⊥) →
    ((a : Announcement) → is_of at l a ≡ true → (is_before end len a ≡ true) × (is_after end len a ≡ false))
    ⊎ ((a : Announcement) → is_of at l a ≡ true → (is_before end len a ≡ false) × (is_after end len a ≡ true))
sorted_in end len at l ne = by_order (cases_order at end) (cases_order l len) where
  by_order : (at ≡ end) ⊎ ((at < end) ⊎ (end < at)) → (l ≡ len) ⊎ ((l < len) ⊎ (len < l)) →
      ((a : Announcement) → is_of at l a ≡ true → (is_before end len a ≡ true) × (is_after end len a ≡ false))
      ⊎ ((a : Announcement) → is_of at l a ≡ true → (is_before end len a ≡ false) × (is_after end len a ≡ true))
  by_order (inl x) (inl y) = absurd (ne (sym x) (sym y))
  by_order (inl x) (inr (inl y)) = inl (λ a t.
      let k = of_parts at l a t in
      let is : a.end ≡ end = k.0 ∙ x in
      let less : a.len < len = omega (arith, k.1) in
      rw (eq-eqb a.end end is, lt-ltb a.len len less, le-ltb len a.len (omega arith), le-ltb a.end end (omega arith), le-ltb end a.end (omega arith)) (refl, refl))
  by_order (inl x) (inr (inr y)) = inr (λ a t.
      let k = of_parts at l a t in
      let is : a.end ≡ end = k.0 ∙ x in
      let more : len < a.len = omega (arith, k.1) in
      rw (eq-eqb a.end end is, lt-ltb len a.len more, le-ltb a.len len (omega arith), le-ltb a.end end (omega arith), le-ltb end a.end (omega arith)) (refl, refl))
  by_order (inr (inl x)) y = inl (λ a t.
      let k = of_parts at l a t in
      let less : a.end < end = omega (arith, k.0) in
      rw (lt-ltb a.end end less, le-ltb end a.end (omega arith), ne_eqb a.end end (λ z. omega arith)) (refl, refl))
  by_order (inr (inr x)) y = inr (λ a t.
      let k = of_parts at l a t in
      let more : end < a.end = omega (arith, k.0) in
      rw (lt-ltb end a.end more, le-ltb a.end end (omega arith), ne_eqb a.end end (λ z. omega arith)) (refl, refl))

find_parts : (files : List File) (list : List Announcement) (end len at l : ℕ) (what : Option Announcement) →
    is_about files end len what ≡ true → (end ≡ at → len ≡ l → ⊥) →
    find (is_of at l) (announced_with list end len what)
    ≡ option_or (find (is_of at l) (filter (is_before end len) list))
    (find (is_of at l) (filter (is_after end len) list))
find_parts files list end len at l what about ne =
    find-append (is_of at l) (filter (is_before end len) list) (option_to_list what ++ filter (is_after end len) list)
    ∙ rw (
      find-append (is_of at l) (option_to_list what) (filter (is_after end len) list),
      find_what files end len at l what about ne,
    ) refl

find_other : (files : List File) (list : List Announcement) (end len at l : ℕ) (what : Option Announcement) →
    is_about files end len what ≡ true → (end ≡ at → len ≡ l → ⊥) →
    find (is_of at l) (announced_with list end len what) ≡ find (is_of at l) list
find_other files list end len at l what about ne =
    find_parts files list end len at l what about ne ∙ go (sorted_in end len at l ne)
  where
    go : ((a : Announcement) → is_of at l a ≡ true → (is_before end len a ≡ true) × (is_after end len a ≡ false))
        ⊎ ((a : Announcement) → is_of at l a ≡ true → (is_before end len a ≡ false) × (is_after end len a ≡ true)) →
        option_or (find (is_of at l) (filter (is_before end len) list))
        (find (is_of at l) (filter (is_after end len) list)) ≡ find (is_of at l) list
    go (inl earlier) =
        rw (find_none (is_of at l) (is_after end len) list (λ a t. (earlier a t).1))
        (or_none (find (is_of at l) (filter (is_before end len) list))
        ∙ find_all (is_of at l) (is_before end len) list (λ a t. (earlier a t).0))
    go (inr later) =
        rw (find_none (is_of at l) (is_before end len) list (λ a t. (later a t).0))
        (find_all (is_of at l) (is_after end len) list (λ a t. (later a t).1))

-- ---- what arrives

announced_far : (files : List File) (one two : Environment) (tables : Tables) (p : Prefix) (at : ℕ) (end : SessionEnd) →
    find (is_of at p.len) one.announced ≡ find (is_of at p.len) two.announced →
    arriving files one tables p at end ≡ arriving files two tables p at end
unfolding arriving
announced_far files one two tables p at end same = by end.far refl where
  by : (far : Far) → end.far ≡ far → arriving files one tables p at end ≡ arriving files two tables p at end
  by Outside is =
      ap (λ f. arriving files one tables p at (record end { far = f })) is
      ∙ (ap (λ o. option_and_then (λ (n : Neighbour). option_map (announced_message n.addr) o) (neighbour_of files end)) same
      ∙ sym (ap (λ f. arriving files two tables p at (record end { far = f })) is))
  by (Inside far_at) is =
      ap (λ f. arriving files one tables p at (record end { far = f })) is
      ∙ sym (ap (λ f. arriving files two tables p at (record end { far = f })) is)

announced_end : (files : List File) (one two : Environment) (tables : Tables) (p : Prefix) (at : ℕ)
    (end : Option SessionEnd) → find (is_of at p.len) one.announced ≡ find (is_of at p.len) two.announced →
    option_and_then (arriving files one tables p at) end ≡ option_and_then (arriving files two tables p at) end
announced_end files one two tables p at None same = refl
announced_end files one two tables p at (Some e) same = announced_far files one two tables p at e same

-- what arrives over other ends, and for other lengths, stays
pub announced_kept : (files : List File) (d : Addr) (environment : Environment) (tables : Tables) (end len at l : ℕ)
    (what : Option Announcement) → is_about files end len what ≡ true → (end ≡ at → len ≡ l → ⊥) →
    arriving_at files d
    (record environment { announced = announced_with environment.announced end len what }) tables at l
    ≡ arriving_at files d environment tables at l
unfolding arriving_at
announced_kept files d environment tables end len at l what about ne =
    announced_end files (record environment { announced = announced_with environment.announced end len what })
    environment tables (prefix_at d l) at (slice_get (ends_of files) at)
    (find_other files environment.announced end len at l what about ne)
