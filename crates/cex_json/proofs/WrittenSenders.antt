-- Announcements and external peers that were written are read back.
use Rattle.std.proofs.Common.{◌≡◌, ℕ, ◌+◌, ◌^◌, ◌<◌, ◌≤◌, ◌==◌, true, false, List, [], ◌∷◌}
use Rattle.std.proofs.Common.{◌++◌, length, map, nat_le, Option, Some, None, option_map, Ok, refl, ap, sym}
use Rattle.std.proofs.Common.{subst, ◌∙◌, arith, append_assoc, get_or}
use Rattle.std.proofs.lemmas.Bool.{and_from, and_parts, eq-eqb, eqb-true, false≢true, le-leb}
use Rattle.std.proofs.lemmas.List.{append-nil, length-append}
use Rattle.std.proofs.lemmas.List.Elements.{All-filter, All-head, All-tail}
use Rattle.std.specs.List.{position}
use Rattle.std.specs.Option.{option_map_or}
use Rattle.std.specs.Prelude.{All, AllPairs, IfSome, IsSome, codes, slice_get}
use Rattle.mw_text.proofs.Lists.{all_found}
use Rattle.mw_text.specs.declared.address.Addr.{Addr}
use Rattle.ios_ast.specs.declared.bgp.Neighbour.{Neighbour}
use Rattle.ios_ast.specs.declared.file.File.{File}
use Rattle.route_record.specs.declared.Announcement.{Announcement}
use Rattle.net_parts.specs.declared.sessions.SessionEnd.{SessionEnd}
use Rattle.net_parts.specs.Exports.{is_towards}
use Rattle.net_parts.specs.Sessions.{IsPlaced, ends_of, external_ends, is_outside, neighbour_of}
use Rattle.net_parts.specs.World.{IsAnnouncement, IsAsNumber, IsEarlier}
use Rattle.net_parts.proofs.EndPlaces.{ends_placed}
use Rattle.serde_json.specs.Data.{Data, string}
use Rattle.serde_json.specs.Find.{get}
use Rattle.serde_json.specs.View.{items_of}
use Rattle.cex_json.specs.Entries.{entry_path, router_in}
use Rattle.cex_json.specs.Fields.{◌>>=◌, addr_in, greatest, in_order, is_above}
use Rattle.cex_json.specs.Json.{array_of, number_of, text_of}
use Rattle.cex_json.specs.Parts.{addr_data, origin_text, router_name}
use Rattle.cex_json.specs.Surroundings.{announcement_at, announcement_step, announcements_in, asn_fits, asn_of_end}
use Rattle.cex_json.specs.Surroundings.{begins_with, end_in, end_named, ids_in, is_later, is_outer_end, names_end}
use Rattle.cex_json.specs.Surroundings.{peer_at, peer_step, sent_path}
use Rattle.cex_json.specs.Worlds.{announcement_data, announcements_data, end_address, end_router, peer_asn, peer_data}
use Rattle.cex_json.specs.Worlds.{peer_text, peers_data, peers_from}
use Rattle.cex_json.specs.Writable.{EachSplit, IsNeighbour, IsWritableNet, end_key}
use Rattle.cex_json.proofs.Dotted.{addr_back}
use Rattle.cex_json.proofs.Named.{are_named, place_fits, place_there}
use Rattle.cex_json.proofs.Orders.{ascending_split, later_split}
use Rattle.cex_json.proofs.Places.{all_split, item_behind, only_place}
use Rattle.cex_json.proofs.Written.{origin_back}
use Rattle.cex_json.proofs.WrittenLists.{in_order_back}
use Rattle.cex_json.proofs.WrittenRoutes.{read_ascending, read_path}

-- ---- ends of sessions

-- an end of a router of the files, with its neighbour line
pub record IsFarEnd (files : List File) (end : SessionEnd) (neighbour : Neighbour) : Type 0 where
  pub line : neighbour_of files end ≡ Some neighbour
  pub fits : IsNeighbour neighbour
  pub router : end.router < length files

abbrev IsKnown : List File → SessionEnd → Type 0
IsKnown files end = (neighbour : Neighbour) × IsFarEnd files end neighbour

-- what is there
pub some_item : {A : Type 0} (o : Option A) → IsSome o → (x : A) × (o ≡ Some x)
some_item None none = absurd (false≢true none)
some_item (Some x) is = (x, refl)

known_end : (files : List File) (end : SessionEnd) → IsPlaced files end → IfSome (neighbour_of files end) IsNeighbour →
    IsKnown files end
known_end files end placed fits =
    let line = some_item (neighbour_of files end) placed.line in
    let P : Option Neighbour → Type 0 = λ o. IfSome o IsNeighbour in
    (line.0, record { line = line.1; fits = subst P line.1 fits; router = placed.router })

-- each end has one
known_ends : (files : List File) → IsWritableNet files → All (IsKnown files) (ends_of files)
known_ends files net = λ k d within.
    known_end files (get_or (ends_of files) k d) (ends_placed files k d within) (net.neighbours k d within)

-- the router of an end
router_back : (files : List File) (end : SessionEnd) (d : Data) → IsWritableNet files → end.router < length files →
    get (codes "router") d ≡ Some (text_of (router_name files end.router)) → router_in files d ≡ Some end.router
unfolding router_in
router_back files end d net within there = rw there (are_named files net.routers end.router within)

-- an end has the address of its neighbour
end_itself : (files : List File) (end : SessionEnd) (neighbour : Neighbour) → IsFarEnd files end neighbour →
    is_towards files end.router neighbour.addr end ≡ true
end_itself files end neighbour far =
    rw far.line (and_from (end.router == end.router) (neighbour.addr.0 == neighbour.addr.0)
    (eq-eqb end.router end.router refl) (eq-eqb neighbour.addr.0 neighbour.addr.0 refl))

same_address : (files : List File) (end : SessionEnd) (a : Addr) →
    option_map_or (λ (n : Neighbour). n.addr.0 == a.0) (neighbour_of files end) false ≡ true →
    (end_key files end).1 ≡ Some a
same_address files end a same = by_line (neighbour_of files end) same where
  by_line : (o : Option Neighbour) → option_map_or (λ (n : Neighbour). n.addr.0 == a.0) o false ≡ true →
      option_map (λ (n : Neighbour). n.addr) o ≡ Some a
  by_line None is = absurd (false≢true is)
  by_line (Some n) is = ap (λ k. Some (record { 0 = k })) (eqb-true n.addr.0 a.0 is)

-- and no other end of its router has it
one_end : (files : List File) (k at : ℕ) (other end : SessionEnd) (neighbour : Neighbour) → IsWritableNet files →
    IsFarEnd files end neighbour → slice_get (ends_of files) at ≡ Some end → slice_get (ends_of files) k ≡ Some other →
    is_outer_end files end.router neighbour.addr other ≡ true → k ≡ at
one_end files k at other end neighbour net far there found passes =
    let of = (and_parts (is_outside other.far) (is_towards files end.router neighbour.addr other) passes).1 in
    let parts = and_parts (other.router == end.router)
    (option_map_or (λ (n : Neighbour). n.addr.0 == neighbour.addr.0) (neighbour_of files other) false) of in
    let router = eqb-true other.router end.router parts.0 in
    let address = same_address files other neighbour.addr parts.1
    ∙ sym (ap (option_map (λ (n : Neighbour). n.addr)) far.line) in
    net.ends k at other end found there (λ i. (router i, address i))

-- the place of an external end is found by its router and its address
end_found : (files : List File) (at : ℕ) (end : SessionEnd) (neighbour : Neighbour) → IsWritableNet files →
    IsFarEnd files end neighbour → slice_get (ends_of files) at ≡ Some end → is_outside end.far ≡ true →
    end_named files (Some end.router) (Some neighbour.addr) ≡ Some at
end_found files at end neighbour net far there outside =
    place_there (position (is_outer_end files end.router neighbour.addr) (ends_of files)) at
    (only_place (is_outer_end files end.router neighbour.addr) (ends_of files) at end there
    (and_from (is_outside end.far) (is_towards files end.router neighbour.addr end) outside
    (end_itself files end neighbour far))
    (λ k other found passes. one_end files k at other end neighbour net far there found passes))
    (place_fits (ends_of files) at end there net.few_ends)

-- ---- an announcement

-- what its fields are
got : (files : List File) (one : Announcement) →
    (get (codes "address") (announcement_data files one) ≡ Some (string (end_address files one.end)))
    × (get (codes "communities") (announcement_data files one) ≡ Some (array_of (map number_of one.communities)))
    × (get (codes "len") (announcement_data files one) ≡ Some (number_of one.len))
    × (get (codes "med") (announcement_data files one) ≡ Some (number_of one.med))
    × (get (codes "origin") (announcement_data files one) ≡ Some (string (origin_text one.origin)))
    × (get (codes "path") (announcement_data files one) ≡ Some (array_of (map number_of one.path)))
    × (get (codes "router") (announcement_data files one) ≡ Some (text_of (end_router files one.end)))
unfolding announcement_data
got files one = (refl, refl, refl, refl, refl, refl, refl)

-- its end
end_back : (files : List File) (one : Announcement) (end : SessionEnd) (neighbour : Neighbour) → IsWritableNet files →
    IsFarEnd files end neighbour → slice_get (ends_of files) one.end ≡ Some end → is_outside end.far ≡ true →
    end_in files (announcement_data files one) ≡ Some one.end
unfolding end_in
end_back files one end neighbour net far there outside =
    ap (λ r. end_named files r (addr_in (get (codes "address") (announcement_data files one)))) router
    ∙ ap (end_named files (Some end.router)) address ∙ end_found files one.end end neighbour net far there outside
  where
    router : router_in files (announcement_data files one) ≡ Some end.router
    router =
        router_back files end (announcement_data files one) net far.router
        ((got files one).6
        ∙ ap (λ o. Some (text_of (option_map_or (λ (e : SessionEnd). router_name files e.router) o []))) there)

    address : addr_in (get (codes "address") (announcement_data files one)) ≡ Some neighbour.addr
    address = rw (got files one).0 (rw there (rw far.line (addr_back neighbour.addr far.fits.0)))

-- its path begins with the peer's AS number
begins_back : (files : List File) (at : ℕ) (end : SessionEnd) (neighbour : Neighbour) (path rest : List ℕ) →
    IsFarEnd files end neighbour → slice_get (ends_of files) at ≡ Some end → path ≡ neighbour.asn ∷ rest →
    length path ≤ 255 → begins_with (asn_of_end files at) path ≡ true
unfolding asn_of_end
begins_back files at end neighbour path rest far there is short =
    rw there (rw far.line (and_from (nat_le (length path) 255)
    (option_map_or (λ first. first == neighbour.asn) (slice_get path 0) false) (le-leb (length path) 255 short)
    (rw is (eq-eqb neighbour.asn neighbour.asn refl))))

numbers : (xs : List ℕ) → All (λ c. c < 2 ^ 32) xs → EachSplit (λ _ n. n ≤ greatest) xs
numbers xs small before rest n is =
    let fits = all_split (λ c. c < 2 ^ 32) xs small before rest n is in omega arith

sent_back : (files : List File) (at : List ℕ) (one : Announcement) (end : SessionEnd) (neighbour : Neighbour)
    (rest : List ℕ) → IsFarEnd files end neighbour → slice_get (ends_of files) one.end ≡ Some end →
    one.path ≡ neighbour.asn ∷ rest → (length one.path ≤ 255) × All IsAsNumber one.path →
    sent_path (asn_of_end files one.end) at (announcement_data files one) ≡ Ok one.path
unfolding sent_path
sent_back files at one end neighbour rest far there is fits =
    rw (read_path at (codes "path") (announcement_data files one) one.path (got files one).5 asns)
    (rw (begins_back files one.end end neighbour one.path rest far there is fits.0) refl)
  where
    asns : EachSplit (λ _ n. (0 < n) × (n ≤ greatest)) one.path
    asns before more n split =
        let number = all_split IsAsNumber one.path fits.1 before more n split in
        let top = number.1 in
        let small : n ≤ greatest = omega arith in (number.0, small)

-- an announcement behind those so far
announcement_back : (files : List File) (so_far : List Announcement) (at : List ℕ) (one : Announcement) →
    IsWritableNet files → IsAnnouncement files one → is_later so_far one.end one.len ≡ true →
    announcement_at files so_far at (announcement_data files one) ≡ Ok one
unfolding announcement_at
announcement_back files so_far at one net fits later =
    let there = got files one in
    rw (end_back files one fits.from.0 neighbour net far fits.from.1 fits.from.2)
    (rw (read_ascending at (codes "communities") (announcement_data files one) one.communities there.1 communities)
    (rw there.2 (rw (le-leb one.len 32 short) (rw later
    (rw there.3 (rw (le-leb one.med greatest small)
    (rw there.4 (rw (origin_back one.origin)
    (rw (sent_back files at one fits.from.0 neighbour begins.0 far fits.from.1 begins.1 fits.path) refl)))))))))
  where
    known : IsKnown files fits.from.0
    known = all_found (IsKnown files) (ends_of files) one.end fits.from.0 (known_ends files net) fits.from.1

    neighbour : Neighbour
    neighbour = known.0

    far : IsFarEnd files fits.from.0 neighbour
    far = known.1

    begins : (rest : List ℕ) × (one.path ≡ neighbour.asn ∷ rest)
    begins =
        let P : Option Neighbour → Type 0 = λ o. IfSome o (λ n. (rest : List ℕ) × (one.path ≡ n.asn ∷ rest)) in
        subst P far.line fits.from.3

    communities : EachSplit (λ before n. (is_above before n ≡ true) × (n ≤ greatest)) one.communities
    communities before rest n split = (
      ascending_split one.communities fits.communities.0 before rest n split,
      numbers one.communities fits.communities.1 before rest n split,
    )

    short : one.len ≤ 32
    short = let len = fits.len in omega arith

    small : one.med ≤ greatest
    small = let med = fits.med in omega arith

-- announcements in their order
pub announcements_back : (files : List File) (xs : List Announcement) (d : Data) → IsWritableNet files →
    All (IsAnnouncement files) xs → AllPairs IsEarlier xs →
    get (codes "announcements") d ≡ Some (announcements_data files xs) → announcements_in files d ≡ Ok xs
unfolding announcements_in announcement_step
announcements_back files xs d net fits once there =
    rw there (in_order_back (announcement_step files) (announcement_data files) 0 [] xs each)
  where
    each : (i : ℕ) (before rest : List Announcement) (one : Announcement) → xs ≡ before ++ one ∷ rest →
        announcement_step files i before (announcement_data files one) ≡ Ok (before ++ one ∷ [])
    each i before rest one is =
        ap (λ r. r >>= λ read. Ok (before ++ read ∷ []))
        (announcement_back files before (entry_path (codes "announcements/") i) one net
        (all_split (IsAnnouncement files) xs fits before rest one is) (later_split xs once before rest one is))

-- ---- external peers

-- what its fields are
peer_got : (files : List File) (end : SessionEnd) (id : Addr) →
    (get (codes "address") (peer_data files end id) ≡ Some (string (peer_text files end)))
    × (get (codes "asn") (peer_data files end id) ≡ Some (number_of (peer_asn files end)))
    × (get (codes "id") (peer_data files end id) ≡ Some (addr_data id))
    × (get (codes "router") (peer_data files end id) ≡ Some (text_of (router_name files end.router)))
unfolding peer_data
peer_got files end id = (refl, refl, refl, refl)

-- it names its end
names_back : (files : List File) (end : SessionEnd) (neighbour : Neighbour) (id : Addr) → IsWritableNet files →
    IsFarEnd files end neighbour → names_end files (peer_data files end id) end ≡ true
unfolding names_end
names_back files end neighbour id net far =
    rw router (rw (peer_got files end id).0 (rw far.line (rw (addr_back neighbour.addr far.fits.0)
    (end_itself files end neighbour far))))
  where
    router : router_in files (peer_data files end id) ≡ Some end.router
    router = router_back files end (peer_data files end id) net far.router (peer_got files end id).3

-- and has the AS number of its neighbour
asn_back : (files : List File) (end : SessionEnd) (neighbour : Neighbour) (id : Addr) → IsFarEnd files end neighbour →
    asn_fits files 2 end (peer_data files end id) ≡ true
unfolding asn_fits
asn_back files end neighbour id far =
    rw (peer_got files end id).1 (rw far.line (rw (le-leb neighbour.asn greatest far.fits.1)
    (eq-eqb neighbour.asn neighbour.asn refl)))

peer_back : (files : List File) (end : SessionEnd) (neighbour : Neighbour) (id : Addr) (at : List ℕ) →
    IsWritableNet files → IsFarEnd files end neighbour → id.0 < 2 ^ 32 →
    peer_at files 2 (Some end) at (peer_data files end id) ≡ Ok id
unfolding peer_at
peer_back files end neighbour id at net far small =
    rw (names_back files end neighbour id net far) (rw (asn_back files end neighbour id far)
    (rw (peer_got files end id).2 (rw (addr_back id small) refl)))

-- the peers from that place on
peers_rest : (files : List File) (all : List SessionEnd) (whole : List Addr) (front ends : List SessionEnd)
    (so_far ids : List Addr) (at : ℕ) → IsWritableNet files → All (IsKnown files) ends → All (λ id. id.0 < 2 ^ 32) ids →
    all ≡ front ++ ends → whole ≡ so_far ++ ids → length front ≡ at → length so_far ≡ at → length ids ≡ length ends →
    in_order (peer_step files 2 all) at so_far (items_of (peers_from files whole at ends)) ≡ Ok whole
peers_rest files all whole front [] so_far [] at net known fit are is ends_at ids_at same =
    ap (λ xs. Ok xs) (sym (is ∙ append-nil so_far))
peers_rest files all whole front [] so_far (id ∷ ids) at net known fit are is ends_at ids_at same = absurd (omega arith)
peers_rest files all whole front (end ∷ ends) so_far [] at net known fit are is ends_at ids_at same =
    absurd (omega arith)
peers_rest files all whole front (end ∷ ends) so_far (id ∷ ids) at net known fit are is ends_at ids_at same =
    rw id_there (ap (λ r. r >>= λ next. in_order (peer_step files 2 all) (at + 1) next (items_of others)) step
    ∙ peers_rest files all whole (front ++ end ∷ []) ends (so_far ++ id ∷ []) ids (at + 1) net
    (All-tail (IsKnown files) end ends known) (All-tail IsId id ids fit)
    (are ∙ sym (append_assoc front (end ∷ []) ends)) (is ∙ sym (append_assoc so_far (id ∷ []) ids))
    (length-append front (end ∷ []) ∙ ap (λ n. n + 1) ends_at)
    (length-append so_far (id ∷ []) ∙ ap (λ n. n + 1) ids_at) (omega arith))
  where
    IsId : Addr → Type 0
    IsId a = a.0 < 2 ^ 32

    others : List Data
    others = peers_from files whole (at + 1) ends

    id_there : slice_get whole at ≡ Some id
    id_there =
        ap (slice_get whole) (sym ids_at) ∙ ap (λ xs. slice_get xs (length so_far)) is ∙ item_behind so_far ids id

    end_there : slice_get all at ≡ Some end
    end_there =
        ap (slice_get all) (sym ends_at) ∙ ap (λ xs. slice_get xs (length front)) are ∙ item_behind front ends end

    step : peer_step files 2 all at so_far (peer_data files end id) ≡ Ok (so_far ++ id ∷ [])
    step =
        let one = All-head (IsKnown files) end ends known in
        ap (λ o. peer_at files 2 o (entry_path (codes "peers/") at) (peer_data files end id)
        >>= λ x. Ok (so_far ++ x ∷ [])) end_there
        ∙ ap (λ r. r >>= λ x. Ok (so_far ++ x ∷ []))
        (peer_back files end one.0 id (entry_path (codes "peers/") at) net one.1 (All-head IsId id ids fit))

-- the identifiers of all external peers
pub ids_back : (files : List File) (ids : List Addr) (d : Data) → IsWritableNet files →
    length ids ≡ length (external_ends files) → All (λ id. id.0 < 2 ^ 32) ids →
    get (codes "peers") d ≡ Some (peers_data files ids) → ids_in files 2 d ≡ Ok ids
unfolding ids_in
ids_back files ids d net size fit there =
    rw there (rw (peers_rest files (external_ends files) ids [] (external_ends files) [] ids 0 net known fit refl refl
    refl refl size) (rw (eq-eqb (length ids) (length (external_ends files)) size) refl))
  where
    known : All (IsKnown files) (external_ends files)
    known = All-filter (λ end. is_outside end.far) (IsKnown files) (ends_of files) (known_ends files net)
